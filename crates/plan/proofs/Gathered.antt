-- A column as a set of indices in the order, gathered from a row and laid out in turn.
use Rattle.std.proofs.Common.{◌≡◌, ℕ, ◌+◌, ◌-◌, ◌<◌, ◌≤◌, Bool, false, ◌&&◌, ◌||◌, eqb, ltb, List, [], ◌∷◌, length, get_or, ap, ◌∙◌, inl, inr, arith}
use Rattle.std.proofs.lemmas.Bool.{cases_eq, cases_lt}
use Rattle.std.proofs.lemmas.Bool.Decides.{nat_tests}
use Rattle.plan.specs.Laid.{at_positions, Later}
use Rattle.plan.specs.Layout.{Undoes}
use Rattle.plan.specs.Tables.{Grid}
use Rattle.plan.proofs.Lays.{at_is, rest, rest_yes, rest_skips, none_left}
use Rattle.plan.proofs.Members.{Next}

-- the indices below n at which the order has a node below m that the row has
abbrev pub gathered : ℕ → (ℕ → Bool) → List ℕ → ℕ → ℕ → Bool
gathered n row order m i = ltb i n && (ltb (get_or order i 0 - 1) m && row (get_or order i 0 - 1))

module _ (n : ℕ) (row : ℕ → Bool) (order positions : List ℕ) (small : n ≤ 512) (ranked : Undoes n order positions) (placed : Undoes n positions order) (at : ℕ) where
  -- of no nodes
  pub gathered_none : (i : ℕ) → gathered n row order 0 i ≡ false
  gathered_none i = grind (arith, nat_tests)

  -- of the next node that the row has, too
  module _ (w : ℕ) (next : Next n row at w) (old new : ℕ → Bool) (so_far : (i : ℕ) → old i ≡ gathered n row order at i)
      (adds : (i : ℕ) → new i ≡ (old i || (eqb (get_or positions w 0 - 1) i && ltb i 512))) where
    outside : (i : ℕ) → n ≤ i → new i ≡ gathered n row order (w + 1) i
    outside i h = grind (arith, nat_tests, adds i, so_far i, placed w next.high)

    here : (i : ℕ) → i < n → get_or order i 0 - 1 ≡ w → new i ≡ gathered n row order (w + 1) i
    here i h e = grind (arith, nat_tests, adds i, small, e, ap (λ x. get_or positions x 0) e, (ranked i h).2, next.here)

    -- nodes between the last and this one the row does not have
    same_below : (x : ℕ) → (x ≡ w → ⊥) → (ltb x at && row x) ≡ (ltb x (w + 1) && row x)
    same_below x ne = grind (arith, nat_tests, next.low, next.between x, ne)

    there : (i : ℕ) → i < n → (get_or order i 0 - 1 ≡ w → ⊥) → new i ≡ gathered n row order (w + 1) i
    there i h ne =
        grind (arith, nat_tests, adds i, so_far i, (placed w next.high).2, ne, same_below (get_or order i 0 - 1) ne)

    pub gathered_more : (i : ℕ) → new i ≡ gathered n row order (w + 1) i
    gathered_more i =
        elim (cases_lt i n) [
          | inl h ↦ elim (cases_eq (get_or order i 0 - 1) w) [ inl e ↦ here i h e | inr ne ↦ there i h ne ]
          | inr h ↦ outside i h
        ]

  -- of all nodes
  pub gathered_all : ((x : ℕ) → at ≤ x → x < n → row x ≡ false) → (i : ℕ) → gathered n row order at i ≡ (ltb i n && row (get_or order i 0 - 1))
  gathered_all off i = grind (arith, nat_tests, ranked i, off (get_or order i 0 - 1))

-- the column at index k, laid out from the index `at` on
module _ (n : ℕ) (order : List ℕ) (rows : Grid) (k : ℕ) where
  abbrev test : ℕ → Bool
  test = at_positions order rows (k + 1)

  -- the indices of the column
  abbrev pub indices : ℕ → Bool
  indices i = ltb i n && rows (get_or order k 0 - 1) (get_or order i 0 - 1)

  pub indices_past : (i : ℕ) → n ≤ i → indices i ≡ false
  indices_past i h = grind (arith, nat_tests)

  tests : (i : ℕ) → i < n → test (i + 1) ≡ indices i
  tests i h = grind (arith, nat_tests, at_is order rows k i)

  -- a column has no position up to its own
  pub row_init : length order ≡ n → Later order rows → k < n → rest test n 0 ≡ rest test n (k + 1)
  row_init len later h =
      let e : 0 + (k + 1) ≡ k + 1 = omega arith in
      rest_skips test n (k + 1) 0 (omega arith) (λ x l u. at_is order rows k x ∙ later k x (omega (arith, len)) (omega arith)) ∙ ap (rest test n) e

  pub row_more : (at i : ℕ) → Next n indices at i → rest test n at ≡ (i + 1) ∷ rest test n (i + 1)
  row_more at i w =
      let d : at + (i - at) ≡ i = omega (arith, w.low) in
      rest_skips test n (i - at) at (omega (arith, d, w.high)) (λ x l u. tests x (omega (arith, u, d, w.high)) ∙ w.between x l (omega (arith, u, d)))
      ∙ ap (rest test n) d ∙ rest_yes test n i w.high (tests i w.high ∙ w.here)

  pub row_none : (at : ℕ) → at ≤ n → ((x : ℕ) → at ≤ x → indices x ≡ false) → rest test n at ≡ []
  row_none at l off =
      let d : at + (n - at) ≡ n = omega (arith, l) in
      rest_skips test n (n - at) at (omega (arith, d)) (λ x h u. tests x (omega (arith, u, d)) ∙ off x h)
      ∙ ap (rest test n) d ∙ none_left test n n (omega arith)
