-- What the tables give after the last elimination: a plan's arrays, and those of the definition.
use Rattle.std.proofs.Common.{◌≡◌, ℕ, zero, suc, ◌+◌, ◌-◌, ◌<◌, ◌≤◌, Bool, false, List, [], ◌∷◌, ◌++◌, map, length, get_or, filter, sym, refl, ap, ◌∙◌, subst, ap₂, inl, inr, arith}
use Rattle.std.specs.List.{range_with_len, flat_map}
use Rattle.std.proofs.lemmas.List.FromFn.{get_or-map-range_with_len, length-map-range_with_len}
use Rattle.std.proofs.lemmas.List.{ext_get_or}
use Rattle.std.proofs.lemmas.Bool.{cases_lt}
use Rattle.std.proofs.lemmas.Bool.Decides.{nat_tests}
use Rattle.graph.specs.Columns.{in_column, column, member}
use Rattle.graph.specs.Graphs.{Graph, start, neighbours}
use Rattle.graph.specs.Picking.{Price, remaining, picked, order, place_from}
use Rattle.graph.proofs.Orders.{label, apart, position, holds_neighbours, occurs, left_at, gone_after, member_none}
use Rattle.plan.specs.declared.records.NodeRecord.{NodeRecord}
use Rattle.plan.specs.Laid.{laid_rows, laid_starts, laid_marks, sheet_link, at_positions, labels_linked, Later, listed}
use Rattle.plan.specs.Layout.{Undoes, Starts, Diagonals, Rises, Within, Closed}
use Rattle.plan.specs.Planned.{Arrays, arrays_for, place_count}
use Rattle.plan.specs.Stages.{Stands}
use Rattle.plan.specs.Tables.{Grid}
use Rattle.plan.proofs.Assembled.{starts_stand, diagonals_stand, rises_stand, within_stands, closed_stands, laid_places}
use Rattle.plan.proofs.Lays.{marks_length}
use Rattle.plan.proofs.Spent.{kept_range}
use Rattle.plan.proofs.Steps.{member_neighbours}

joined_same : {X : Type 0} (f g : ℕ → List X) (m a : ℕ) → ((k : ℕ) → a ≤ k → k < a + m → f k ≡ g k) → flat_map f (range_with_len a m) ≡ flat_map g (range_with_len a m)
joined_same f g zero a h = refl
joined_same f g (suc m) a h =
    ap₂ (λ x y. x ++ y) (h a (omega arith) (omega arith)) (joined_same f g m (a + 1) (λ k l u. h k (omega arith) (omega arith)))

map_same : {X : Type 0} (f g : ℕ → X) (m a : ℕ) → ((k : ℕ) → a ≤ k → k < a + m → f k ≡ g k) → map f (range_with_len a m) ≡ map g (range_with_len a m)
map_same f g zero a h = refl
map_same f g (suc m) a h =
    ap₂ (λ x y. x ∷ y) (h a (omega arith) (omega arith)) (map_same f g m (a + 1) (λ k l u. h k (omega arith) (omega arith)))

map_kept : {X : Type 0} (f g : ℕ → X) (test : ℕ → Bool) (m a : ℕ) → ((k : ℕ) → a ≤ k → k < a + m → f k ≡ g k)
    → map f (filter test (range_with_len a m)) ≡ map g (filter test (range_with_len a m))
map_kept f g test zero a h = refl
map_kept f g test (suc m) a h =
    grind (arith, nat_tests, h a, map_kept f g test m (a + 1) (λ k l u. h k (omega arith) (omega arith)))

-- the place of an entry of a list that has no entry twice
pub place_at : (xs : List ℕ) (m k : ℕ) → ((i j : ℕ) → i < j → j < length xs → get_or xs i 0 ≡ get_or xs j 0 → ⊥) → k < length xs → place_from m xs (get_or xs k 0) ≡ m + k
place_at [] m k once h = absurd (omega (arith, h))
place_at (x ∷ xs) m zero once h = grind (arith, nat_tests)
place_at (x ∷ xs) m (suc k) once h =
    grind (arith, nat_tests, once 0 (suc k) (omega arith) h, place_at xs (m + 1) k (λ i j l u e. once (suc i) (suc j) (omega arith) (omega arith) e) (omega arith))

-- what a plan's ghost fields ask
pub record Fields (n : ℕ) (a : Arrays) : Type 0 where
  pub ranked : Undoes n a.order a.positions
  pub placed : Undoes n a.positions a.order
  pub starting : Starts n a.starts a.rows
  pub headed : Diagonals n a.starts a.rows
  pub rising : Rises n a.starts a.rows
  pub within : Within n a.rows
  pub closed : Closed n a.starts a.rows a.links

module _ (price : Price) (n : ℕ) (linked : ℕ → ℕ → Bool) (nodes : List NodeRecord) (held : Grid) (left gone : List ℕ) (spent : ℕ)
    (stands : Stands price n linked n nodes held left gone spent) where
  abbrev g : Graph
  g = start n linked

  abbrev col : ℕ → List ℕ
  col = column price g n

  pub order_length : length gone ≡ n
  order_length = ap (λ ls. length ls) stands.chosen ∙ length-map-range_with_len (λ j. picked price g j) 0 n

  pub order_at : (k : ℕ) → k < n → get_or gone k 0 ≡ picked price g k
  order_at k h = ap (λ ls. get_or ls k 0) stands.chosen ∙ get_or-map-range_with_len (λ j. picked price g j) 0 n k k 0 h (omega arith)

  pub order_labels : (k : ℕ) → k < n → (0 < get_or gone k 0) × (get_or gone k 0 ≤ n)
  order_labels k h =
      let l = label price n linked k h in
      let e = order_at k h in
      (omega (arith, l.0, e), omega (arith, l.1, e))

  pub order_apart : (k j : ℕ) → k < j → j < n → get_or gone k 0 ≡ get_or gone j 0 → ⊥
  order_apart k j l h e = apart price n linked k j l h (sym (order_at k (omega arith)) ∙ e ∙ order_at j h)

  -- the rows at two positions
  row_at : (k i : ℕ) → 0 < k → k < i → i ≤ n → at_positions gone held k i ≡ in_column price g (k - 1) (i - 1)
  row_at k i l m h =
      let a = order_labels (k - 1) (omega arith) in
      let b = order_labels (i - 1) (omega arith) in
      let qa : get_or gone (k - 1) 0 - 1 + 1 ≡ picked price g (k - 1) = omega (arith, order_at (k - 1) (omega arith)) in
      let qb : get_or gone (i - 1) 0 - 1 + 1 ≡ picked price g (i - 1) = omega (arith, order_at (i - 1) (omega arith)) in
      grind (
        arith,
        stands.went (k - 1) (get_or gone (k - 1) 0 - 1) (get_or gone (i - 1) 0 - 1) (omega arith) qa (omega arith),
        holds_neighbours price n linked (k - 1) (i - 1) (omega arith) (omega arith),
        qa,
        qb,
      )

  -- the row of a node that went has none that went before it, nor the node itself
  pub later : Later gone held
  later k i h l =
      let hk : k < n = omega (arith, h, order_length) in
      let hi : i < n = omega arith in
      let a = order_labels k hk in
      let b = order_labels i hi in
      let before = remaining price g k in
      let qa : get_or gone k 0 - 1 + 1 ≡ picked price g k = omega (arith, order_at k hk) in
      let qb : get_or gone i 0 - 1 + 1 ≡ picked price g i = omega (arith, order_at i hi) in
      let is : held (get_or gone k 0 - 1) (get_or gone i 0 - 1) ≡ member (picked price g i) (neighbours before (picked price g k)) =
      grind (arith, stands.went k (get_or gone k 0 - 1) (get_or gone i 0 - 1) hk qa (omega arith), qa, qb) in
      elim (cases_lt i k) [
        | inl early ↦
            (let z : suc i + (k - suc i) ≡ k = omega arith in
            let o : occurs (picked price g i) (left_at price n linked k) ≡ 0 = ap (λ x. occurs (picked price g i) (left_at price n linked x)) (sym z) ∙ gone_after price n linked i (k - suc i) in
            grind (arith, is, member_neighbours before (picked price g k) (picked price g i), member_none (picked price g i) before.left o))
        | inr late ↦
            (let same : i ≡ k = omega arith in
            grind (arith, nat_tests, is, ap (picked price g) same, member_neighbours before (picked price g k) (picked price g i)))
      ]

  listed_is : (k : ℕ) → 0 < k → k ≤ n → listed n gone held k ≡ col k
  listed_is k l h =
      kept_range (at_positions gone held k) (λ i. in_column price g (k - 1) (i - 1)) (k + 1) (n - k) (λ i a b. row_at k i l (omega arith) (omega arith))

  rows_upto : (m : ℕ) → m ≤ n → laid_rows (listed n gone held) m ≡ laid_rows col m
  rows_upto m h = joined_same (λ k. k ∷ listed n gone held k) (λ k. k ∷ col k) m 1 (λ k l u. ap (λ (ls : List ℕ). k ∷ ls) (listed_is k (omega arith) (omega arith)))

  pub rows_same : laid_rows (listed n gone held) n ≡ laid_rows col n
  rows_same = rows_upto n (omega arith)

  pub starts_same : laid_starts (listed n gone held) n ≡ laid_starts col n
  starts_same = map_same (λ m. length (laid_rows (listed n gone held) m)) (λ m. length (laid_rows col m)) (n + 1) 0 (λ m l u. ap (λ (ls : List ℕ). length ls) (rows_upto m (omega arith)))

  pub marks_same : laid_marks (listed n gone held) (labels_linked gone linked) n ≡ laid_marks col (sheet_link price g) n
  marks_same = joined_same (λ k. false ∷ map (labels_linked gone linked k) (listed n gone held k)) (λ k. false ∷ map (sheet_link price g k) (col k)) n 1
      (λ k l u. ap (λ (ls : List Bool). false ∷ ls)
      (ap (map (labels_linked gone linked k)) (listed_is k (omega arith) (omega arith))
      ∙ map_kept (labels_linked gone linked k) (sheet_link price g k) (λ i. in_column price g (k - 1) (i - 1)) (n - k) (k + 1)
      (λ i a b. ap₂ linked (order_at (k - 1) (omega arith)) (order_at (i - 1) (omega arith)))))

  pub places_same : length (laid_rows (listed n gone held) n) ≡ place_count price n linked
  places_same = ap (λ (ls : List ℕ). length ls) rows_same ∙ laid_places col n 1

  -- the positions that undo the order are the places of the labels in it
  pub positions_are : (positions : List ℕ) → length positions ≡ n → Undoes n gone positions → positions ≡ map (place_from 1 (order price g n)) (range_with_len 1 n)
  positions_are positions len u =
      ext_get_or 0 positions (map (place_from 1 (order price g n)) (range_with_len 1 n)) (len ∙ sym (length-map-range_with_len (place_from 1 (order price g n)) 1 n)) (λ v h.
      let w = position price n linked (v + 1) (omega arith) (omega arith) in
      let m = w.0 in
      let a : get_or gone m 0 ≡ v + 1 = order_at m w.1 ∙ w.2 in
      let b : get_or positions v 0 ≡ m + 1 = grind (arith, a, (u m w.1).2) in
      grind (
        arith,
        a,
        b,
        stands.chosen,
        place_at gone 1 m (λ i j l k e. order_apart i j l (omega (arith, order_length)) e) (omega (arith, w.1, order_length)),
        get_or-map-range_with_len (place_from 1 (order price g n)) 1 n v (1 + v) 0 (omega arith) (omega arith),
      ))

  pub placed_back : (positions : List ℕ) → Undoes n gone positions → Undoes n positions gone
  placed_back positions u v h =
      let w = position price n linked (v + 1) (omega arith) (omega arith) in
      let m = w.0 in
      let a : get_or gone m 0 ≡ v + 1 = order_at m w.1 ∙ w.2 in
      let b : get_or positions v 0 ≡ m + 1 = grind (arith, a, (u m w.1).2) in
      (omega arith, omega (arith, w.1), grind (arith, a, b))

  laid : (positions : List ℕ) → Undoes n gone positions → Fields n (record { order = gone; positions = positions; starts = laid_starts col n; rows = laid_rows col n; links = laid_marks col (sheet_link price g) n })
  laid positions u = record {
    ranked = u;
    placed = placed_back positions u;
    starting = starts_stand col n;
    headed = diagonals_stand col n;
    rising = rises_stand n (λ k i. in_column price g (k - 1) (i - 1));
    within = within_stands n (λ k i. in_column price g (k - 1) (i - 1));
    closed = closed_stands price n g;
  }

  -- what was laid out keeps the rules
  pub keeps : (len : ℕ) (positions starts rows : List ℕ) (links : List Bool) → len ≡ n → Undoes n gone positions → starts ≡ laid_starts col n → rows ≡ laid_rows col n → links ≡ laid_marks col (sheet_link price g) n
      → Fields len (record { order = gone; positions = positions; starts = starts; rows = rows; links = links })
  keeps len positions starts rows links e u es er em =
      let is : ◌≡◌ {A = Arrays} (record { order = gone; positions = positions; starts = laid_starts col n; rows = laid_rows col n; links = laid_marks col (sheet_link price g) n })
      (record { order = gone; positions = positions; starts = starts; rows = rows; links = links }) = cc in
      subst (λ x. Fields x (record { order = gone; positions = positions; starts = starts; rows = rows; links = links })) (sym e) (subst (Fields n) is (laid positions u))

  -- and is what the definitions give
  pub arrays_are : (positions starts rows : List ℕ) (links : List Bool) → length positions ≡ n → Undoes n gone positions → starts ≡ laid_starts col n → rows ≡ laid_rows col n → links ≡ laid_marks col (sheet_link price g) n
      → ◌≡◌ {A = Arrays} (record { order = gone; positions = positions; starts = starts; rows = rows; links = links }) (arrays_for price n linked)
  arrays_are positions starts rows links len u es er em =
      let eo = stands.chosen in
      let ep = positions_are positions len u in
      cc

pub starts_long : (col : ℕ → List ℕ) (n : ℕ) → length (laid_starts col n) ≡ n + 1
starts_long col n = length-map-range_with_len (λ m. length (laid_rows col m)) 0 (n + 1)

pub marks_long : (col : ℕ → List ℕ) (mark : ℕ → ℕ → Bool) (n : ℕ) → length (laid_marks col mark n) ≡ length (laid_rows col n)
marks_long col mark n = marks_length col mark n 1
