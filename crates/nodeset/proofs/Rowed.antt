-- Rows of sets, read and changed.
use Rattle.std.proofs.Common.{◌≡◌, ℕ, ◌/◌, ◌%◌, ◌<◌, ◌≤◌, Bool, true, false, cond, not, ◌&&◌, ◌||◌, eqb, ltb, ◌≢◌, List, length, get_or, set, replicate, sym, ap, ◌∙◌, ap₂, inl, inr, arith, length-set}
use lib.ListN.{get_or-replicate, length-replicate}
use Rattle.std.proofs.lemmas.List.{get_or-set_same, get_or-set_other, get_or_past, get_or_read_under}
use Rattle.std.proofs.lemmas.Bool.{cases_eq, cases_lt, eq-eqb, ne_eqb, lt-ltb, and_right}
use Rattle.nodeset.specs.declared.sets.NodeSet.{NodeSet}
use Rattle.nodeset.specs.Rows.{no_nodes, in_rows, linked_also, joined_to}
use Rattle.nodeset.specs.Sets.{bit_at, has}
use Rattle.std.proofs.Math.Bool.{or-false, or_assoc}
use Rattle.std.proofs.lemmas.Nat.Bits.{bit_at-zero}

-- past the rows there is nothing
none_has : (b : ℕ) → has no_nodes b ≡ false
none_has b =
    and_right (ltb b 512) (bit_at (get_or (replicate 8 0) (b / 64) 0) (b % 64))
    (ap (λ w. bit_at w (b % 64)) (elim (cases_lt (b / 64) 8) [
      | inl l ↦ get_or-replicate 8 (b / 64) 0 0 l
      | inr l ↦ get_or_past (replicate 8 0) (b / 64) 0 (omega (arith, l, length-replicate {A = ℕ} 8 0))
    ]) ∙ ap (λ d. eqb d 1) (bit_at-zero (b % 64)))

past_rows : (sets : List NodeSet) (a b : ℕ) → length sets ≤ a → in_rows sets a b ≡ false
past_rows sets a b h = ap (λ s. has s b) (get_or_past sets a no_nodes h) ∙ none_has b

-- a row that is read
pub row_read : (sets : List NodeSet) (a : ℕ) (row : NodeSet) → length sets ≡ 512 → a < 512 → row ≡ get_or sets a row → row ≡ get_or sets a no_nodes
row_read sets a row long low is = get_or_read_under sets a 512 row no_nodes is low (sym long)

-- rows that have nothing
pub empty_rows : (sets : List NodeSet) (m : ℕ) (x : NodeSet) → sets ≡ replicate m x → ((b : ℕ) → has x b ≡ false) → (a b : ℕ) → in_rows sets a b ≡ false
empty_rows sets m x e off a b =
    ap (λ l. in_rows l a b) e
    ∙ elim (cases_lt a m) [
      | inl l ↦ ap (λ s. has s b) (get_or-replicate m a x no_nodes l) ∙ off b
      | inr l ↦ past_rows (replicate m x) a b (omega (arith, l, length-replicate m x))
    ]

-- a row is changed
module _ (sets : List NodeSet) (a : ℕ) (h : a < length sets) (row : NodeSet) where
  own : (i j : ℕ) → i ≡ a → in_rows (set sets a row) i j ≡ has row j
  own i j e = ap (λ s. has s j) (ap (λ x. get_or (set sets a row) x no_nodes) e ∙ get_or-set_same sets a row no_nodes h)

  other : (i j : ℕ) → i ≢ a → in_rows (set sets a row) i j ≡ in_rows sets i j
  other i j ne = ap (λ s. has s j) (get_or-set_other sets a i row no_nodes ne)

  -- by one more node
  pub row_more : (b : ℕ) → b < 512 → ((j : ℕ) → has row j ≡ (in_rows sets a j || (eqb b j && ltb j 512))) → (i j : ℕ) → in_rows (set sets a row) i j ≡ (in_rows sets i j || (eqb a i && eqb b j))
  row_more b low is i j =
      elim (cases_eq i a) [
        | inl e ↦
            own i j e ∙ is j
            ∙ ap₂ (λ x t. x || t) (ap (λ x. in_rows sets x j) (sym e)) (low_only ∙ sym (ap (λ t. t && eqb b j) (eq-eqb a i (sym e))))
        | inr ne ↦ other i j ne ∙ sym (ap (λ t. in_rows sets i j || (t && eqb b j)) (ne_eqb a i (λ e. ne (sym e))) ∙ or-false (in_rows sets i j))
      ] where
        low_only : (eqb b j && ltb j 512) ≡ eqb b j
        low_only =
            elim (cases_eq b j) [
              | inl e ↦ ap₂ (λ x y. x && y) (eq-eqb b j e) (lt-ltb j 512 (omega (arith, e, low))) ∙ sym (eq-eqb b j e)
              | inr ne ↦ ap (λ x. x && ltb j 512) (ne_eqb b j ne) ∙ sym (ne_eqb b j ne)
            ]

  -- by those of another
  pub row_joined : (v : ℕ) → v < 512 → a < 512 → ((j : ℕ) → has row j ≡ (((in_rows sets v j || in_rows sets a j) && not (eqb a j)) && not (eqb v j))) → (i j : ℕ) → in_rows (set sets a row) i j ≡ joined_to (in_rows sets) v a i j
  row_joined v low lower is i j =
      let both : (ltb v 512 && ltb a 512) ≡ true = ap₂ (λ x y. x && y) (lt-ltb v 512 low) (lt-ltb a 512 lower) in
      elim (cases_eq i a) [
        | inl e ↦ own i j e ∙ is j ∙ sym (ap₂ (λ x y. chosen (x && y) i j) both (eq-eqb a i (sym e)))
        | inr ne ↦ other i j ne ∙ sym (ap₂ (λ x y. chosen (x && y) i j) both (ne_eqb a i (λ e. ne (sym e))))
      ] where
        chosen : Bool → ℕ → ℕ → Bool
        chosen t i j = cond t (((in_rows sets v j || in_rows sets a j) && not (eqb a j)) && not (eqb v j)) (in_rows sets i j)

-- two nodes are linked, both ways
pub rows_linked : (sets : List NodeSet) (a b : ℕ) (x y : NodeSet) → length sets ≡ 512 → a < 512 → b < 512
    → ((j : ℕ) → has x j ≡ (in_rows sets a j || (eqb b j && ltb j 512)))
    → ((j : ℕ) → has y j ≡ (in_rows (set sets a x) b j || (eqb a j && ltb j 512)))
    → (i j : ℕ) → in_rows (set (set sets a x) b y) i j ≡ linked_also (in_rows sets) a b i j
rows_linked sets a b x y long la lb hx hy i j =
    let first = row_more sets a (omega (arith, long)) x b lb hx i j in
    let second = row_more (set sets a x) b (omega (arith, long, length-set sets a x)) y a la hy i j in
    second ∙ ap (λ t. t || (eqb b i && eqb a j)) first ∙ or_assoc (in_rows sets i j) (eqb a i && eqb b j) (eqb b i && eqb a j)
    ∙ sym (ap₂ (λ s t. in_rows sets i j || ((s && t) && ((eqb a i && eqb b j) || (eqb b i && eqb a j)))) (lt-ltb a 512 la) (lt-ltb b 512 lb))
