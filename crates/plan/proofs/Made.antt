-- What was inverted and laid out from what the calls saw.
use Rattle.std.proofs.Common.{◌≡◌, ℕ, ◌+◌, ◌<◌, ◌≤◌, Bool, List, length, get_or, sym, ap, ◌∙◌, subst, ap₂, arith}
use Rattle.graph.specs.Columns.{column}
use Rattle.graph.specs.Graphs.{start}
use Rattle.graph.specs.Picking.{Price}
use Rattle.plan.specs.declared.records.NodeRecord.{NodeRecord}
use Rattle.plan.specs.Laid.{laid_rows, laid_starts, laid_marks, sheet_link, labels_linked, Later, listed}
use Rattle.plan.specs.Layout.{Undoes}
use Rattle.plan.specs.Planned.{Arrays, arrays_for, place_count}
use Rattle.plan.specs.Stages.{Stands}
use Rattle.plan.specs.Tables.{Grid}
use Rattle.plan.proofs.Finished.{Fields, keeps, placed_back, arrays_are, order_length, order_labels, order_apart, later, rows_same, starts_same, marks_same, places_same, starts_long, marks_long}

-- a plan's arrays, with their lengths
pub record Made (price : Price) (n : ℕ) (linked : ℕ → ℕ → Bool) (a : Arrays) : Type 0 where
  pub kept : (len : ℕ) → len ≡ n → Fields len a
  pub is : a ≡ arrays_for price n linked
  pub positions_long : length a.positions ≡ n
  pub starts_long : length a.starts ≡ n + 1
  pub links_long : length a.links ≡ length a.rows
  pub rows_long : length a.rows ≡ place_count price n linked

module _ (price : Price) (n : ℕ) (linked : ℕ → ℕ → Bool) (nodes : List NodeRecord) (held : Grid) (left order : List ℕ) (spent : ℕ)
    (stands : Stands price n linked n nodes held left order spent) where
  -- what the inverted order undoes
  undone : (seen' inverted : List ℕ) → seen' ≡ order → Undoes (length seen') seen' inverted → Undoes n order inverted
  undone seen' inverted same' undoes =
      subst (λ os. Undoes n os inverted) same' (subst (λ m. Undoes m seen' inverted) (ap (λ (xs : List ℕ). length xs) same' ∙ order_length price n linked nodes held left order spent stands) undoes)

  -- what the calls on the order ask
  module _ (seen : List ℕ) (same : seen ≡ order) where
    pub seen_length : length seen ≡ n
    seen_length = ap (λ (xs : List ℕ). length xs) same ∙ order_length price n linked nodes held left order spent stands

    pub seen_labels : (k : ℕ) → k < length seen → (0 < get_or seen k 0) × (get_or seen k 0 ≤ n)
    seen_labels k h =
        let f = order_labels price n linked nodes held left order spent stands k (omega (arith, seen_length)) in
        let q = ap (λ (xs : List ℕ). get_or xs k 0) same in
        (omega (arith, f.0, q), omega (arith, f.1, q))

    pub seen_apart : (k j : ℕ) → k < j → j < length seen → get_or seen k 0 ≡ get_or seen j 0 → ⊥
    seen_apart k j l h q = order_apart price n linked nodes held left order spent stands k j l (omega (arith, seen_length)) (sym (ap (λ (xs : List ℕ). get_or xs k 0) same) ∙ q ∙ ap (λ (xs : List ℕ). get_or xs j 0) same)

    pub seen_later : Later seen held
    seen_later = subst (λ os. Later os held) (sym same) (later price n linked nodes held left order spent stands)

    -- the inverted order, as the calls see the two
    pub seen_undoes : (seen' inverted positions : List ℕ) → seen' ≡ order → positions ≡ inverted → Undoes (length seen') seen' inverted → Undoes (length seen) seen positions × Undoes (length seen) positions seen
    seen_undoes seen' inverted positions same' is undoes =
        let back = undone seen' inverted same' undoes in
        let Both : ℕ → List ℕ → List ℕ → Type 0 = λ m os ps. Undoes m os ps × Undoes m ps os in
        subst (λ m. Both m seen positions) (sym seen_length) (subst (λ os. Both n os positions) (sym same) (subst (Both n order) (sym is) (back, placed_back price n linked nodes held left order spent stands inverted back)))

    module _ (seen-held : Grid) (same-held : seen-held ≡ held) where
      -- the columns as the calls see them
      abbrev seen_col : ℕ → List ℕ
      seen_col = listed (length seen) seen seen-held

      col_is : seen_col ≡ listed n order held
      col_is = ap (λ m. listed m seen seen-held) seen_length ∙ ap₂ (λ xs rows. listed n xs rows) same same-held

      pub seen_places : length (laid_rows seen_col (length seen)) ≡ place_count price n linked
      seen_places = ap₂ (λ col m. length (laid_rows col m)) col_is seen_length ∙ places_same price n linked nodes held left order spent stands

      pub made : (seen' inverted positions starts rows : List ℕ) (links : List Bool)
          → seen' ≡ order → positions ≡ inverted → length positions ≡ n → Undoes (length seen') seen' inverted
          → starts ≡ laid_starts seen_col (length seen) → rows ≡ laid_rows seen_col (length seen) → links ≡ laid_marks seen_col (labels_linked seen linked) (length seen)
          → Made price n linked (record { order = order; positions = positions; starts = starts; rows = rows; links = links })
      made seen' inverted positions starts rows links same' is-inverted long undoes es er em =
          let col = column price (start n linked) n in
          let back : Undoes n order positions = subst (λ ps. Undoes n order ps) (sym is-inverted) (undone seen' inverted same' undoes) in
          let starts_is : starts ≡ laid_starts col n = es ∙ ap₂ (λ c m. laid_starts c m) col_is seen_length ∙ starts_same price n linked nodes held left order spent stands in
          let rows_is : rows ≡ laid_rows col n = er ∙ ap₂ (λ c m. laid_rows c m) col_is seen_length ∙ rows_same price n linked nodes held left order spent stands in
          let links_is : links ≡ laid_marks col (sheet_link price (start n linked)) n =
          em ∙ ap₂ (λ c m. laid_marks c (labels_linked seen linked) m) col_is seen_length ∙ ap (λ os. laid_marks (listed n order held) (labels_linked os linked) n) same ∙ marks_same price n linked nodes held left order spent stands in
          record {
            kept = λ len e. keeps price n linked nodes held left order spent stands len positions starts rows links e back starts_is rows_is links_is;
            is = arrays_are price n linked nodes held left order spent stands positions starts rows links long back starts_is rows_is links_is;
            positions_long = long;
            starts_long = ap (λ (xs : List ℕ). length xs) starts_is ∙ starts_long col n;
            links_long = ap (λ (xs : List Bool). length xs) links_is ∙ marks_long col (sheet_link price (start n linked)) n ∙ sym (ap (λ (xs : List ℕ). length xs) rows_is);
            rows_long = ap (λ (xs : List ℕ). length xs) er ∙ seen_places;
          }
