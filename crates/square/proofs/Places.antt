-- The places of a plan close over the links of its sheet.
use Rattle.std.proofs.Common.{◌≡◌, ℕ, zero, suc, ◌+◌, ◌-◌, ◌<◌, ◌≤◌, Bool, false, ◌&&◌, ◌||◌, ltb, leb, List, [], ◌∷◌, length, get_or, take, drop, is_some, None, sym, refl, ap, ◌∙◌, ap₂, arith, length-drop, drop-cons}
use Rattle.std.proofs.lemmas.List.{get_or-drop}
use Rattle.std.proofs.lemmas.Bool.{cond-true}
use Rattle.std.proofs.lemmas.Bool.Decides.{nat_tests}
use Rattle.graph.specs.Columns.{any_below}
use Rattle.plan.specs.Layout.{among_rows, marked, holds, on_sheet}
use Rattle.plan.specs.Lookups.{size_in, label_in, position_in, start_in, index_from, place_in, place_of}
use Rattle.plan.specs.Planned.{Arrays, Keeps}
use Rattle.plan.proofs.Spans.{starts_rise}
use Rattle.square.specs.Plans.{link_at, site_of, store_of}
use Rattle.square.specs.Stores.{Closes}

-- a row has a place among the first m exactly when it is one of them
index_among : (xs : List ℕ) (m p i : ℕ) → is_some (index_from p (take m xs) i) ≡ among_rows xs m i
index_among [] zero p i = refl
index_among [] (suc m) p i = refl
index_among (x ∷ xs) zero p i = refl
index_among (x ∷ xs) (suc m) p i = grind (arith, nat_tests, index_among xs m (p + 1) i)

-- the first m rows ascend
abbrev Ascend : List ℕ → ℕ → Type 0
Ascend xs m = (q : ℕ) → suc q < m → get_or xs q 0 < get_or xs (suc q) 0

ascend_rest : (x : ℕ) (xs : List ℕ) (m : ℕ) → Ascend (x ∷ xs) (suc m) → Ascend xs m
ascend_rest x xs m up q h = up (suc q) (omega arith)

-- what is not above the first is not among the rest, and has no mark there
among_none : (x : ℕ) (xs : List ℕ) (m i : ℕ) → Ascend (x ∷ xs) (suc m) → i ≤ x → among_rows xs m i ≡ false
among_none x [] m i up l = refl
among_none x (y ∷ ys) zero i up l = refl
among_none x (y ∷ ys) (suc m) i up l =
    let more = up 0 (omega arith) in
    grind (arith, nat_tests, more, among_none y ys m i (ascend_rest x (y ∷ ys) (suc m) up))

marked_none : (xs : List ℕ) (ms : List Bool) (m i : ℕ) → among_rows xs m i ≡ false → marked xs ms m i ≡ false
marked_none [] ms m i e = refl
marked_none (x ∷ xs) [] m i e = refl
marked_none (x ∷ xs) (b ∷ ms) zero i e = refl
marked_none (x ∷ xs) (b ∷ ms) (suc m) i e = grind (arith, nat_tests, marked_none xs ms m i)

-- the mark at the place of a row is the mark beside it
index_marked : (a : Arrays) (xs : List ℕ) (ms : List Bool) (m p i : ℕ) → Ascend xs m → m ≤ length ms
    → ((q : ℕ) → get_or ms q false ≡ get_or a.links (p + q) false) → link_at a (index_from p (take m xs) i) ≡ marked xs ms m i
index_marked a [] ms zero p i up l at = refl
index_marked a [] ms (suc m) p i up l at = refl
index_marked a (x ∷ xs) [] zero p i up l at = refl
index_marked a (x ∷ xs) [] (suc m) p i up l at = absurd (omega (arith, l))
index_marked a (x ∷ xs) (b ∷ ms) zero p i up l at = refl
index_marked a (x ∷ xs) (b ∷ ms) (suc m) p i up l at =
    let next : (q : ℕ) → get_or ms q false ≡ get_or a.links (p + 1 + q) false =
    λ q. (let e : p + suc q ≡ p + 1 + q = omega arith in at (suc q) ∙ ap (λ z. get_or a.links z false) e) in
    let none = marked_none xs ms m i in
    grind (arith, nat_tests, at 0, none, among_none x xs m i up, index_marked a xs ms m (p + 1) i (ascend_rest x xs m up) (omega (arith, l)) next)

-- some number from 1 up to m passes exactly when some number below m does one later
any_shift : (P Q : ℕ → Bool) (m : ℕ) → P 0 ≡ false → ((k : ℕ) → k < m → P (suc k) ≡ Q k) → any_below P (suc m) ≡ any_below Q m
any_shift P Q zero none same = none
any_shift P Q (suc m) none same = ap₂ (λ x y. x || y) (any_shift P Q m none (λ k l. same k (omega arith))) (same m (omega arith))

module _ (a : Arrays) (keeps : Keeps a) where
  abbrev n : ℕ
  n = size_in a

  abbrev S : List ℕ
  S = a.starts

  -- the number of places of column j
  abbrev count : ℕ → ℕ
  count j = get_or S (j - 1 + 1) 0 - start_in a j

  abbrev part : ℕ → List ℕ
  part j = drop (start_in a j) a.rows

  module _ (j : ℕ) (low : 1 ≤ j) (high : j ≤ n) where
    some : start_in a j < get_or S (j - 1 + 1) 0
    some = keeps.starting.2 (j - 1) (omega arith)

    inside : get_or S (j - 1 + 1) 0 ≤ length a.rows
    inside = grind (arith, starts_rise n S keeps.starting.2 j (n - j) (omega arith), keeps.starting.1)

    part_is : part j ≡ j ∷ drop (start_in a j + 1) a.rows
    part_is =
        let next : j - 1 + 1 ≡ j = omega arith in
        let one : suc (start_in a j) ≡ start_in a j + 1 = omega arith in
        drop-cons a.rows (start_in a j) 0 (omega (arith, some, inside))
        ∙ ap₂ (λ x y. x ∷ drop y a.rows) (keeps.headed (j - 1) (omega arith) ∙ next) one

    place_is : (i : ℕ) → place_in a i j ≡ index_from (start_in a j) (take (count j) (part j)) i
    place_is i =
        let m = start_in a (j + 1) - (start_in a j + 1) in
        let long : suc m ≡ count j = grind (arith, some) in
        sym (ap₂ (λ c xs. index_from (start_in a j) (take c xs) i) (sym long) part_is)

    ascends : Ascend (part j) (count j)
    ascends q h =
        let s = start_in a j in
        grind (arith, get_or-drop s a.rows q 0, get_or-drop s a.rows (suc q) 0, keeps.rising (j - 1) (s + q))

    store_is : (i : ℕ) → store_of a i j ≡ is_some (place_in a i j)
    store_is i = ap is_some (cond-true (ltb 0 j && leb j n) (place_in a i j) None (grind (arith, nat_tests)))

    -- column j has a place for i exactly when it holds i
    store_held : (i : ℕ) → store_of a i j ≡ holds S a.rows (j - 1) i
    store_held i = store_is i ∙ ap is_some (place_is i) ∙ index_among (part j) (count j) (start_in a j) i

    -- and the place is a link exactly when it is marked
    pub place_linked : (i : ℕ) → link_at a (place_in a i j) ≡ on_sheet S a.rows a.links (j - 1) i
    place_linked i =
        ap (link_at a) (place_is i)
        ∙ index_marked a (part j) (drop (start_in a j) a.links) (count j) (start_in a j) i ascends
        (simp length-drop (omega (arith, keeps.links_long, inside)))
        (λ q. get_or-drop (start_in a j) a.links q false)

  label_position : (i : ℕ) → 1 ≤ i → i ≤ n → (1 ≤ label_in a i) × (label_in a i ≤ n) × (position_in a (label_in a i) ≡ i)
  label_position i low high = omega (arith, keeps.ranked (i - 1) (omega arith))

  pub position_label : (v : ℕ) → 1 ≤ v → v ≤ n → (1 ≤ position_in a v) × (position_in a v ≤ n) × (label_in a (position_in a v) ≡ v)
  position_label v low high = omega (arith, keeps.placed (v - 1) (omega arith))

  pub two_way : (v w : ℕ) → link_at a (place_of a v w) ≡ link_at a (place_of a w v)
  two_way v w = grind arith

  -- positions are linked where their labels are
  pub link_is : (i j : ℕ) → 1 ≤ j → j < i → i ≤ n → link_at a (place_of a (label_in a i) (label_in a j)) ≡ link_at a (place_in a i j)
  link_is i j low l high = grind (arith, label_position i, label_position j)

  column_is : (i j : ℕ) → 1 ≤ j → j < i → i ≤ n
      → store_of a i j ≡ (link_at a (place_of a (label_in a i) (label_in a j)) || any_below (λ k. store_of a i k && store_of a j k) j)
  column_is i j low l high =
      let both : ℕ → Bool = λ k. store_of a i k && store_of a j k in
      let before : ℕ → Bool = λ k. holds S a.rows k (j - 1 + 1) && holds S a.rows k i in
      let earlier = any_shift both before (j - 1) refl (λ k h. grind (arith, store_held (suc k) (omega arith) (omega arith) i, store_held (suc k) (omega arith) (omega arith) j)) in
      let up : suc (j - 1) ≡ j = omega arith in
      store_held j low (omega arith) i ∙ keeps.closed (j - 1) i (omega arith, omega arith)
      ∙ ap₂ (λ x y. x || y) (sym (link_is i j low l high ∙ place_linked j low (omega arith) i)) (sym earlier ∙ ap (any_below both) up)

  pub closes : Closes (site_of a) (store_of a)
  closes = record {
    diagonal = λ i low high. store_is i low high i ∙ grind (arith, nat_tests);
    column = column_is;
    start = λ i. refl;
    two_way = two_way;
    labels = label_position;
    positions = position_label;
  }
