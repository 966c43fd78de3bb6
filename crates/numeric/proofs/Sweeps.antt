-- One column eliminated: the columns of its rows are updated one by one, and the matrix of the table takes one step.
use Rattle.std.proofs.Common.{◌≡◌, ℕ, ◌+◌, ◌<◌, ◌≤◌, false, ◌&&◌, ltb, leb, List, get_or, sym, refl, ap, ◌∙◌, inl, inr, arith}
use Rattle.std.proofs.lemmas.Bool.{cases_eq, cases_lt, cases_Bool, and_parts, and_from, lt-ltb, le-leb, ltb-true, leb-true, cond-true, cond-false, both_ways}
use Rattle.arith.specs.Operations.{Operations}
use Rattle.plan.specs.Lookups.{start_in}
use Rattle.plan.specs.Planned.{Arrays}
use Rattle.square.specs.Elimination.{reduced}
use Rattle.square.specs.Plans.{matrix_of}
use Rattle.square.specs.Squares.{Matrix}
use Rattle.plan.specs.Positions.{Position}
use Rattle.numeric.specs.Updates.{Updated}
use Rattle.plan.proofs.Spans.{row_at, head, rising, row_past, row_position}
use Rattle.numeric.proofs.Layouts.{Place, same_column, find, at_place, no_place, diagonal, target_past, closing}

-- p is the place of a row in column k, below `limit`, b that of a row no earlier, and q that of the row of b in the column of the row of p
pub record Crosses (a : Arrays) (k limit p b q : ℕ) : Type 0 where
  pub below : start_in a k < p
  pub early : p < limit
  pub after : p ≤ b
  pub inside : b < start_in a (k + 1)
  pub low : start_in a (row_at a p) ≤ q
  pub high : q < start_in a (row_at a p + 1)
  pub row : row_at a b ≡ row_at a q

-- the columns of the rows of column k that stand below `limit` are updated
pub record Swept {X : Type 0} (o : Operations X) (a : Arrays) (k limit : ℕ) (before after : List X) : Type 0 where
  pub met : (p b q : ℕ) → Crosses a k limit p b q
      → get_or after q o.nothing ≡ o.updated (get_or before q o.nothing) (get_or before b o.nothing) (get_or before (start_in a k) o.nothing) (get_or before p o.nothing)
  pub missed : (q : ℕ) → ((p b : ℕ) → Crosses a k limit p b q → ⊥) → get_or after q o.nothing ≡ get_or before q o.nothing

module _ {X : Type 0} (o : Operations X) (a : Arrays) (k : ℕ) (column : Position a k) where
  pub sweep_none : (before : List X) → Swept o a k (start_in a k + 1) before before
  sweep_none before = record {
    met = λ p b q x. absurd (omega (arith, x.below, x.early));
    missed = λ q x. refl;
  }

  -- one target more
  pub sweep_more : (p : ℕ) (before now next : List X) → start_in a k < p → p < start_in a (k + 1) → Swept o a k p before now
      → Updated o a.rows (start_in a k) p (start_in a (k + 1)) (start_in a (row_at a p)) (start_in a (row_at a p + 1)) now next
      → Swept o a k (p + 1) before next
  sweep_more p before now next low high inv u = record {
    met = λ s b q x. elim (cases_eq s p) [
      | inl e ↦
          (let row_e = ap (row_at a) e in
          let low_e = ap (start_in a) row_e in
          let high_e = ap (λ z. start_in a (z + 1)) row_e in
          let q_low : start_in a (row_at a p) ≤ q = omega (arith, x.low) in
          let q_high : q < start_in a (row_at a p + 1) = omega (arith, x.high) in
          let got = u.met b q (omega (arith, x.after), x.inside, q_low, q_high, x.row) in
          let old = inv.missed q (λ s' b' y. other s' b' q y q_low q_high) in
          let old_b = kept b (omega (arith, x.after)) x.inside in
          let old_d = kept (start_in a k) (omega arith) (omega arith) in
          let old_s = kept p (omega arith) high in
          cc)
      | inr ne ↦
          (let y : Crosses a k p s b q = record { below = x.below; early = omega (arith, x.early); after = x.after; inside = x.inside; low = x.low; high = x.high; row = x.row } in
          u.missed q (λ b' m. other s b q y m.2 m.3) ∙ inv.met s b q y)
    ];
    missed = λ q none.
        u.missed q (λ b m. none p b (record { below = low; early = omega arith; after = m.0; inside = m.1; low = m.2; high = m.3; row = m.4 }))
        ∙ inv.missed q (λ s b x. none s b (record { below = x.below; early = omega (arith, x.early); after = x.after; inside = x.inside; low = x.low; high = x.high; row = x.row }));
  }
    where
      -- an earlier target is another column
      other : (s b q : ℕ) → Crosses a k p s b q → start_in a (row_at a p) ≤ q → q < start_in a (row_at a p + 1) → ⊥
      other s b q x l h =
          let early = x.early in
          let here = row_position a k column s x.below (omega arith) in
          let there = row_position a k column p low high in
          let same = same_column a (row_at a s) (row_at a p) q here there x.low x.high l h in
          omega (arith, rising a k column s p (omega (arith, x.below)) early high)

      -- column k itself stays
      kept : (z : ℕ) → start_in a k ≤ z → z < start_in a (k + 1) → get_or now z o.nothing ≡ get_or before z o.nothing
      kept z l h = inv.missed z (λ s b x. let early = x.early in omega (arith, target_past a k column s x.below (omega arith), x.low))

  module _ (row-law : (x d v : X) → o.updated x o.nothing d v ≡ x) (column-law : (x u d : X) → o.updated x u d o.nothing ≡ x)
      (before after : List X) (swept : Swept o a k (start_in a (k + 1)) before after) (i j : ℕ) where
    abbrev M : Matrix X
    M = matrix_of o.nothing a before

    -- where nothing crosses, nothing changes
    stays : ((p b q : ℕ) → Place a i j q → Crosses a k (start_in a (k + 1)) p b q → ⊥) → matrix_of o.nothing a after i j ≡ M i j
    stays none = elim (find a column.keeps i j) [
      | inl f ↦ at_place o.nothing a after i j f.0 f.1 ∙ swept.missed f.0 (λ p b x. none p b f.0 f.1 x) ∙ sym (at_place o.nothing a before i j f.0 f.1)
      | inr no' ↦ no_place o.nothing a after i j column.keeps no' ∙ sym (no_place o.nothing a before i j column.keeps no')
    ]

    -- what crosses at the place of (i, j) are the places of (j, k) and (i, k)
    crossing_row : (p b q : ℕ) → Place a i j q → Crosses a k (start_in a (k + 1)) p b q → row_at a p ≡ j
    crossing_row p b q t x = same_column a (row_at a p) j q (row_position a k column p x.below x.early) t.column x.low x.high t.low t.high

    -- no later row of a column is less
    rows_rise : (p b : ℕ) → start_in a k ≤ p → p ≤ b → b < start_in a (k + 1) → row_at a p ≤ row_at a b
    rows_rise p b l h r = elim (cases_eq p b) [
      | inl e ↦ omega (arith, ap (row_at a) e)
      | inr ne ↦ omega (arith, rising a k column p b l (omega arith) r)
    ]

    aside : (ltb k j && leb j i) ≡ false → matrix_of o.nothing a after i j ≡ M i j
    aside no' = stays (λ p b q t x.
        let below = x.below in
        let after = x.after in
        let row_p = crossing_row p b q t x in
        let row_b = x.row ∙ t.row in
        let l = row_past a k column p below x.early in
        let r = rows_rise p b (omega arith) after x.inside in
        both_ways (ltb k j && leb j i) no' (and_from (ltb k j) (leb j i) (lt-ltb k j (omega arith)) (le-leb j i (omega arith))))

    both : (p b : ℕ) → k < j → j ≤ i → Place a j k p → Place a i k b → matrix_of o.nothing a after i j ≡ o.updated (M i j) (M i k) (M k k) (M j k)
    both p b l h s r =
        let below : start_in a k < p = elim (cases_eq p (start_in a k)) [
          | inl e ↦ absurd (omega (arith, ap (row_at a) e, head a k column, s.row))
          | inr ne ↦ omega (arith, s.low)
        ] in
        let order : p ≤ b = elim (cases_lt b p) [
          | inl e ↦ absurd (omega (arith, rising a k column b p r.low e s.high, s.row, r.row))
          | inr e ↦ e
        ] in
        elim (find a column.keeps i j) [
          | inl f ↦
              (let q = f.0 in
              let row_p = s.row in
              let row_b = r.row in
              let row_q = f.1.row in
              let x : Crosses a k (start_in a (k + 1)) p b q = record {
                below = below;
                early = s.high;
                after = order;
                inside = r.high;
                low = omega (arith, f.1.low, ap (start_in a) row_p);
                high = omega (arith, f.1.high, ap (λ z. start_in a (z + 1)) row_p);
                row = cc;
              } in
              let got = swept.met p b q x in
              let after_q = at_place o.nothing a after i j q f.1 in
              let before_q = at_place o.nothing a before i j q f.1 in
              let before_b = at_place o.nothing a before i k b r in
              let before_d = at_place o.nothing a before k k (start_in a k) (diagonal a k column) in
              let before_p = at_place o.nothing a before j k p s in
              cc)
          | inr no' ↦ absurd (elim (cases_eq p b) [
            | inl e ↦
                (let same : i ≡ j = sym r.row ∙ ap (row_at a) (sym e) ∙ s.row in
                let here : Position a j = rw s.row at (row_position a k column p below s.high) in
                let d = diagonal a j here in
                no' (start_in a j) (record { column = here; low = d.low; high = d.high; row = d.row ∙ sym same }))
            | inr ne ↦
                (let c = closing a k column p b below (omega arith) r.high in
                no' c.0 (rw (r.row, s.row) at c.1))
          ])
        ]

    later : k < j → j ≤ i → matrix_of o.nothing a after i j ≡ o.updated (M i j) (M i k) (M k k) (M j k)
    later l h = elim (find a column.keeps j k) [
      | inr no' ↦
          stays (λ p b q t x. no' p (record { column = column; low = omega (arith, x.below); high = x.early; row = crossing_row p b q t x }))
          ∙ sym (ap (o.updated (M i j) (M i k) (M k k)) (no_place o.nothing a before j k column.keeps no') ∙ column-law (M i j) (M i k) (M k k))
      | inl f ↦ elim (find a column.keeps i k) [
        | inr no' ↦
            stays (λ p b q t x. no' b (record { column = column; low = omega (arith, x.below, x.after); high = x.inside; row = x.row ∙ t.row }))
            ∙ sym (ap (λ u. o.updated (M i j) u (M k k) (M j k)) (no_place o.nothing a before i k column.keeps no') ∙ row-law (M i j) (M k k) (M j k))
        | inl g ↦ both f.0 g.0 l h f.1 g.1
      ]
    ]

    -- the matrix takes one step
    pub swept_step : matrix_of o.nothing a after i j ≡ reduced o k M i j
    swept_step = elim (cases_Bool (ltb k j && leb j i)) [
      | inl yes' ↦
          (let parts = and_parts (ltb k j) (leb j i) yes' in
          later (ltb-true k j parts.0) (leb-true j i parts.1) ∙ sym (cond-true (ltb k j && leb j i) _ _ yes'))
      | inr no' ↦ aside no' ∙ sym (cond-false (ltb k j && leb j i) _ _ no')
    ]
