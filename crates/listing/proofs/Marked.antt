-- The fill pairs of a column, from its rows and the marks beside them.
use Rattle.std.proofs.Common.{◌≡◌, ℕ, suc, ◌+◌, ◌-◌, ◌<◌, ◌≤◌, Bool, true, false, cond, not, List, [], ◌∷◌, ◌++◌, map, length, get_or, filter, sym, refl, ap, ◌∙◌, ap₂, arith}
use Rattle.std.specs.List.{range_with_len, flat_map, zip}
use Rattle.std.proofs.lemmas.List.Edits.{length-between, get_or-between}
use Rattle.plan.specs.declared.columns.Column.{Column}
use Rattle.plan.specs.declared.plans.Plan.{Plan}
use Rattle.plan.specs.Lookups.{label_in, start_in, rows_in, links_in}
use Rattle.plan.specs.Planned.{Arrays}
use Rattle.plan.specs.Positions.{Position}
use Rattle.plan.specs.Views.{arrays_of}
use Rattle.plan.specs.Walks.{columns_at}
use Rattle.plan.proofs.Kept.{position}
use Rattle.plan.proofs.Spans.{column_ends, rows_long, row_there}
use Rattle.listing.specs.Fills.{unlinked, labels_at, column_fill}

-- the pair of two labels, the second that of a column, unless its mark says that they are linked
abbrev pub pair_unless : ℕ → (Plan × ℕ) × Bool → List (ℕ × ℕ)
pair_unless own r = cond r.1 [] ((own, label_in (arrays_of r.0.0) r.0.1) ∷ [])

one_more : {X : Type 0} (f : ℕ → X) (s : ℕ) (y : X) (ks : List ℕ) (rest : List X) (b : Bool) → f s ≡ y → map f ks ≡ rest → cond b [] (y ∷ []) ++ rest ≡ map f (cond (not b) (s ∷ ks) ks)
one_more f s y ks rest true e r = sym r
one_more f s y ks rest false e r = sym (ap₂ (λ z zs. z ∷ zs) e r)

module _ (p : Plan) (k : ℕ) where
  abbrev a : Arrays
  a = arrays_of p

  -- rows and marks as they stand from place s on
  beside : (rows : List ℕ) (links : List Bool) (s : ℕ) → length rows ≡ length links
      → ((i : ℕ) → i < length rows → get_or rows i 0 ≡ get_or a.rows (s + i) 0)
      → ((i : ℕ) → i < length links → get_or links i false ≡ get_or a.links (s + i) false)
      → flat_map (pair_unless (label_in a k)) (zip (columns_at p rows) links) ≡ map (labels_at a k) (filter (unlinked a) (range_with_len s (length rows)))
  beside [] links s e r m = refl
  beside (x ∷ rows) [] s e r m = absurd (omega (arith, e))
  beside (x ∷ rows) (b ∷ links) s e r m =
      let z : s + 0 ≡ s = omega arith in
      let ks = filter (unlinked a) (range_with_len (s + 1) (length rows)) in
      let row : x ≡ get_or a.rows s 0 = r 0 (omega arith) ∙ ap (λ q. get_or a.rows q 0) z in
      let mark : b ≡ get_or a.links s false = m 0 (omega arith) ∙ ap (λ q. get_or a.links q false) z in
      let rest = beside rows links (s + 1) (omega arith)
      (λ i l. let q : s + suc i ≡ s + 1 + i = omega arith in r (suc i) (omega arith) ∙ ap (λ j. get_or a.rows j 0) q)
      (λ i l. let q : s + suc i ≡ s + 1 + i = omega arith in m (suc i) (omega arith) ∙ ap (λ j. get_or a.links j false) q) in
      one_more (labels_at a k) s (label_in a k, label_in a x) ks _ b (ap (λ i. (label_in a k, label_in a i)) (sym row)) (sym rest)
      ∙ ap (λ t. map (labels_at a k) (cond (not t) (s ∷ ks) ks)) mark

-- the pairs of a column's rows, with their marks, are its fill pairs
pub marked_fill : (c : Column) → let a = arrays_of c.plan.now in
    flat_map (pair_unless (label_in a c.position)) (zip (columns_at c.plan.now (rows_in a c.position)) (links_in a c.position)) ≡ column_fill a c.position
marked_fill c =
    let a = arrays_of c.plan.now in
    let k = c.position in
    let at : Position a k = position c in
    let first = start_in a k + 1 in
    let past = start_in a (k + 1) in
    let ends : past ≤ length a.links = omega (arith, column_ends a k at, at.keeps.links_long) in
    let long : length (links_in a k) ≡ past - first = length-between a.links first past ends in
    beside c.plan.now k (rows_in a k) (links_in a k) first (omega (arith, long, rows_long a k at))
    (row_there a k at)
    (λ i h. get_or-between a.links first past i false (omega (arith, long)))
    ∙ ap (λ m. map (labels_at a k) (filter (unlinked a) (range_with_len first m))) (rows_long a k at)
