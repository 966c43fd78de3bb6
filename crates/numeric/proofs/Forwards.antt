-- Forward past one column, and past all.
use Rattle.std.proofs.Common.{◌≡◌, ℕ, suc, ◌+◌, ◌<◌, ◌≤◌, cond, ltb, List, get_or, sym, refl, ap, ◌∙◌, ap₂, inl, inr, arith}
use Rattle.std.proofs.lemmas.Bool.{cases_eq, cases_lt, cond-true, cond-false, lt-ltb, le-ltb}
use Rattle.arith.specs.Operations.{Operations}
use Rattle.plan.specs.Lookups.{size_in, start_in}
use Rattle.plan.specs.Planned.{Arrays}
use Rattle.square.specs.Plans.{matrix_of}
use Rattle.square.specs.Solution.{Vector, forward}
use Rattle.square.specs.Squares.{Matrix}
use Rattle.numeric.specs.Passes.{forward_step}
use Rattle.plan.specs.Positions.{Position}
use Rattle.plan.proofs.Spans.{row_at, head, rising, row_past, row_position}
use Rattle.numeric.proofs.Layouts.{find, at_place, no_place, diagonal}

-- the rows of column k at places below `limit` are updated
pub record Forwarded {X : Type 0} (o : Operations X) (a : Arrays) (w : List X) (k limit : ℕ) (before after : Vector X) : Type 0 where
  pub met : (q : ℕ) → (start_in a k < q) × (q < limit)
      → after (row_at a q) ≡ o.updated (before (row_at a q)) (get_or w q o.nothing) (get_or w (start_in a k) o.nothing) (before k)
  pub missed : (i : ℕ) → Position a i → ((q : ℕ) → (start_in a k < q) × (q < limit) → row_at a q ≡ i → ⊥) → after i ≡ before i

module _ {X : Type 0} (o : Operations X) (a : Arrays) (w : List X) (k : ℕ) (column : Position a k) (before : Vector X) where
  pub forward_none : Forwarded o a w k (start_in a k + 1) before before
  forward_none = record { met = λ q m. absurd (omega (arith, m.0, m.1)); missed = λ i p x. refl }

  -- one row more: its number alone changes
  pub forward_more : (p : ℕ) (now next : Vector X) (v : X) → start_in a k < p → p < start_in a (k + 1) → Forwarded o a w k p before now
      → v ≡ o.updated (now (row_at a p)) (get_or w p o.nothing) (get_or w (start_in a k) o.nothing) (before k)
      → next (row_at a p) ≡ v → ((i : ℕ) → Position a i → (i ≡ row_at a p → ⊥) → next i ≡ now i)
      → Forwarded o a w k (p + 1) before next
  forward_more p now next v low high inv is here others = record {
    met = λ q m. elim (cases_eq q p) [
      | inl e ↦
          (let row_e = ap (row_at a) e in
          let old = inv.missed (row_at a p) (row_position a k column p low high) (λ q m same. apart q m.0 m.1 same) in
          cc)
      | inr ne ↦
          (let early : q < p = omega (arith, m.1) in
          others (row_at a q) (row_position a k column q m.0 (omega arith)) (λ same. apart q m.0 early same) ∙ inv.met q (m.0, early))
    ];
    missed = λ i t none. others i t (λ same. none p (low, omega arith) (sym same)) ∙ inv.missed i t (λ q m same. none q (m.0, omega (arith, m.1)) same);
  }
    where
      apart : (q : ℕ) → start_in a k < q → q < p → row_at a q ≡ row_at a p → ⊥
      apart q l h same = omega (arith, rising a k column q p (omega arith) h high, same)

  pub forward_all : ((x d v : X) → o.updated x o.nothing d v ≡ x) → (after : Vector X) → Forwarded o a w k (start_in a (k + 1)) before after
      → (i : ℕ) → 0 < i → i ≤ size_in a → after i ≡ forward_step o (matrix_of o.nothing a w) k before i
  forward_all law after inv i some most = elim (cases_lt k i) [
    | inl l ↦ later l ∙ sym (cond-true (ltb k i) _ _ (lt-ltb k i l))
    | inr l ↦
        inv.missed i here (λ q m same. omega (arith, row_past a k column q m.0 m.1, same))
        ∙ sym (cond-false (ltb k i) _ _ (le-ltb k i l))
  ]
    where
      here : Position a i
      here = record { keeps = column.keeps; low = some; high = most }

      later : k < i → after i ≡ o.updated (before i) (matrix_of o.nothing a w i k) (matrix_of o.nothing a w k k) (before k)
      later l = elim (find a column.keeps i k) [
        | inl f ↦
            (let q = f.0 in
            let row = f.1.row in
            let below : start_in a k < q = elim (cases_eq q (start_in a k)) [
              | inl e ↦ absurd (omega (arith, ap (row_at a) e, head a k column, row))
              | inr ne ↦ omega (arith, f.1.low)
            ] in
            let got = inv.met q (below, f.1.high) in
            let at_q = at_place o.nothing a w i k q f.1 in
            let at_d = at_place o.nothing a w k k (start_in a k) (diagonal a k column) in
            cc)
        | inr no' ↦
            inv.missed i here (λ q m same. no' q (record { column = column; low = omega (arith, m.0); high = m.1; row = same }))
            ∙ sym (ap (λ u. o.updated (before i) u (matrix_of o.nothing a w k k) (before k)) (no_place o.nothing a w i k column.keeps no') ∙ law _ _ _)
      ]

-- the pass past k positions, and a step past the next
pub forward_on : {X : Type 0} (o : Operations X) (m : Matrix X) (b y z : Vector X) (n k i : ℕ) → k < n → 0 < i → i ≤ n
    → ((i : ℕ) → 0 < i → i ≤ n → y i ≡ forward o m b k i) → z i ≡ forward_step o m (suc k) y i → z i ≡ forward o m b (suc k) i
forward_on o m b y z n k i more low high run is =
    is ∙ ap₂ (λ u v. cond (ltb (suc k) i) (o.updated u (m i (suc k)) (m (suc k) (suc k)) v) u) (run i low high) (run (suc k) (omega arith) (omega arith))
