-- The columns of the definition, laid out, are a plan's arrays.
use Rattle.std.proofs.Common.{◌≡◌, ℕ, zero, suc, ◌+◌, ◌-◌, ◌<◌, ◌≤◌, Bool, true, false, cond, ◌&&◌, ◌||◌, eqb, List, [], ◌∷◌, ◌++◌, map, length, get_or, drop, filter, sym, refl, ap, ◌∙◌, ap₂, inl, inr, arith}
use Rattle.std.specs.List.{range_with_len, flat_map, AllByRecursion as All}
use Rattle.std.proofs.lemmas.List.FromFn.{get_or-map-range_with_len}
use Rattle.std.proofs.ByRecursion.{All-append, All-get_or}
use Rattle.std.proofs.lemmas.List.{append_assoc, length-append, drop_at, get_or-drop, get_or_append_left}
use Rattle.std.proofs.lemmas.Bool.{cases_lt, and_right}
use Rattle.std.proofs.lemmas.Bool.Decides.{nat_tests}
use Rattle.graph.specs.Columns.{in_column, column, places, member, any_below}
use Rattle.graph.specs.Graphs.{Graph}
use Rattle.graph.specs.Picking.{Price, picked}
use Rattle.graph.proofs.Equations.{linked_after}
use Rattle.graph.proofs.Orders.{member_kept, counting_within, counting_outside, member_from, member_none}
use Rattle.plan.specs.Layout.{Starts, Diagonals, Rises, Within, among_rows, holds, marked, on_sheet, Closed}
use Rattle.plan.specs.Laid.{laid_rows, laid_starts, laid_marks, sheet_link}
use Rattle.plan.proofs.Lays.{rows_more, rows_fit, marks_length}

joined_split : {X : Type 0} (f : ℕ → List X) (m a d : ℕ) → flat_map f (range_with_len a (m + d)) ≡ flat_map f (range_with_len a m) ++ flat_map f (range_with_len (a + m) d)
joined_split f zero a d = grind arith
joined_split f (suc m) a d =
    let e : suc m + d ≡ suc (m + d) = omega arith in
    grind (
      arith,
      ap (λ x. flat_map f (range_with_len a x)) e,
      joined_split f m (a + 1) d,
      append_assoc (f a) (flat_map f (range_with_len (a + 1) m)) (flat_map f (range_with_len (a + suc m) d)),
    )

-- what stands before column k + 1, the column, and what stands after it
pub joined_at : {X : Type 0} (f : ℕ → List X) (n k : ℕ) → k < n
    → flat_map f (range_with_len 1 n) ≡ flat_map f (range_with_len 1 k) ++ (f (k + 1) ++ flat_map f (range_with_len (k + 1 + 1) (n - (k + 1))))
joined_at f n k h =
    grind (arith, joined_split f k 1 (suc (n - (k + 1))))

start_is : (col : ℕ → List ℕ) (n k : ℕ) → k ≤ n → get_or (laid_starts col n) k 0 ≡ length (laid_rows col k)
start_is col n k h = get_or-map-range_with_len (λ m. length (laid_rows col m)) 0 (n + 1) k k 0 (omega arith) (omega arith)

pub starts_stand : (col : ℕ → List ℕ) (n : ℕ) → Starts n (laid_starts col n) (laid_rows col n)
starts_stand col n = (
  start_is col n 0 (omega arith),
  start_is col n n (omega arith),
  λ k h. omega (arith, start_is col n k (omega arith), start_is col n (k + 1) (omega arith), rows_fit col (k + 1) k (omega arith)),
)

-- the part of the rows that is column k + 1
pub part_is : (col : ℕ → List ℕ) (n k : ℕ) → k < n
    → drop (get_or (laid_starts col n) k 0) (laid_rows col n) ≡ ((k + 1) ∷ col (k + 1)) ++ flat_map (λ j. j ∷ col j) (range_with_len (k + 1 + 1) (n - (k + 1)))
part_is col n k h =
    ap (drop (get_or (laid_starts col n) k 0)) (joined_at (λ j. j ∷ col j) n k h)
    ∙ drop_at (laid_rows col k) _ (get_or (laid_starts col n) k 0) (sym (start_is col n k (omega arith)))

pub part_length : (col : ℕ → List ℕ) (n k : ℕ) → k < n
    → get_or (laid_starts col n) (k + 1) 0 - get_or (laid_starts col n) k 0 ≡ length ((k + 1) ∷ col (k + 1))
part_length col n k h =
    omega (
      arith,
      start_is col n k (omega arith),
      start_is col n (k + 1) (omega arith),
      ap (λ ls. length ls) (rows_more col k),
      length-append (laid_rows col k) ((k + 1) ∷ col (k + 1)),
    )

pub diagonals_stand : (col : ℕ → List ℕ) (n : ℕ) → Diagonals n (laid_starts col n) (laid_rows col n)
diagonals_stand col n k h =
    grind (arith, get_or-drop (get_or (laid_starts col n) k 0) (laid_rows col n) 0 0, ap (λ ls. get_or ls 0 0) (part_is col n k h))

-- a column ascends from its diagonal on
kept_rises : (test : ℕ → Bool) (m s x : ℕ) → x < s → (q : ℕ) → suc q < length (x ∷ filter test (range_with_len s m))
    → get_or (x ∷ filter test (range_with_len s m)) q 0 < get_or (x ∷ filter test (range_with_len s m)) (suc q) 0
kept_rises test zero s x l q h = absurd (omega (arith, h))
kept_rises test (suc m) s x l zero h = grind (arith, nat_tests, kept_rises test m (s + 1) x (omega arith) zero)
kept_rises test (suc m) s x l (suc q) h = grind (arith, nat_tests, kept_rises test m (s + 1) x (omega arith) (suc q), kept_rises test m (s + 1) s (omega arith) q)

abbrev chosen : ℕ → (ℕ → ℕ → Bool) → ℕ → List ℕ
chosen n test k = filter (test k) (range_with_len (k + 1) (n - k))

pub rises_stand : (n : ℕ) (test : ℕ → ℕ → Bool) → Rises n (laid_starts (chosen n test) n) (laid_rows (chosen n test) n)
rises_stand n test k p h b =
    let col = chosen n test in
    let s = get_or (laid_starts col n) k 0 in
    let e : p ≡ s + (p - s) = omega (arith, b.0) in
    let e' : p + 1 ≡ s + suc (p - s) = omega (arith, b.0) in
    let len : suc (p - s) < length ((k + 1) ∷ col (k + 1)) = omega (arith, part_length col n k h, b.0, b.1) in
    let at : (i : ℕ) → i < length ((k + 1) ∷ col (k + 1)) → get_or (laid_rows col n) (s + i) 0 ≡ get_or ((k + 1) ∷ col (k + 1)) i 0 =
    λ i l. sym (get_or-drop s (laid_rows col n) i 0) ∙ ap (λ ls. get_or ls i 0) (part_is col n k h)
    ∙ get_or_append_left ((k + 1) ∷ col (k + 1)) (flat_map (λ j. j ∷ col j) (range_with_len (k + 1 + 1) (n - (k + 1)))) 0 i l in
    omega (
      arith,
      ap (λ x. get_or (laid_rows col n) x 0) e,
      ap (λ x. get_or (laid_rows col n) x 0) e',
      at (p - s) (omega arith),
      at (suc (p - s)) len,
      kept_rises (test (k + 1)) (n - (k + 1)) (k + 1 + 1) (k + 1) (omega arith) (p - s) len,
    )

-- every row is at most n
all_cond : (n s : ℕ) (ls : List ℕ) (t : Bool) → s ≤ n → All (λ x. x ≤ n) ls → All (λ x. x ≤ n) (cond t (s ∷ ls) ls)
all_cond n s ls true h a = (h, a)
all_cond n s ls false h a = a

all_kept : (test : ℕ → Bool) (n m s : ℕ) → s + m ≤ n + 1 → All (λ x. x ≤ n) (filter test (range_with_len s m))
all_kept test n zero s h = tt
all_kept test n (suc m) s h = all_cond n s (filter test (range_with_len (s + 1) m)) (test s) (omega arith) (all_kept test n m (s + 1) (omega arith))

all_joined : (n : ℕ) (test : ℕ → ℕ → Bool) (m a : ℕ) → a + m ≤ n + 1 → All (λ x. x ≤ n) (flat_map (λ k. k ∷ chosen n test k) (range_with_len a m))
all_joined n test zero a h = tt
all_joined n test (suc m) a h =
    All-append (λ x. x ≤ n) (a ∷ chosen n test a) (flat_map (λ k. k ∷ chosen n test k) (range_with_len (a + 1) m))
    (omega arith, all_kept (test a) n (n - a) (a + 1) (omega arith)) (all_joined n test m (a + 1) (omega arith))

pub within_stands : (n : ℕ) (test : ℕ → ℕ → Bool) → Within n (laid_rows (chosen n test) n)
within_stands n test p h = All-get_or (λ x. x ≤ n) (laid_rows (chosen n test) n) p 0 h (all_joined n test n 1 (omega arith))

-- what a column holds
among_append : (xs ys : List ℕ) (i : ℕ) → among_rows (xs ++ ys) (length xs) i ≡ member i xs
among_append [] [] i = refl
among_append [] (y ∷ ys) i = refl
among_append (x ∷ xs) ys i = ap (λ t. eqb x i || t) (among_append xs ys i)

marked_append : (f : ℕ → Bool) (xs ys : List ℕ) (cs : List Bool) (i : ℕ) → marked (xs ++ ys) (map f xs ++ cs) (length xs) i ≡ (member i xs && f i)
marked_append f [] [] cs i = refl
marked_append f [] (y ∷ ys) [] i = refl
marked_append f [] (y ∷ ys) (c ∷ cs) i = refl
marked_append f (x ∷ xs) ys cs i = grind (arith, nat_tests, marked_append f xs ys cs i)

pub holds_is : (col : ℕ → List ℕ) (n j i : ℕ) → j < n → j + 1 < i → holds (laid_starts col n) (laid_rows col n) j i ≡ member i (col (j + 1))
holds_is col n j i h l =
    ap₂ (λ ls m. among_rows ls m i) (part_is col n j h) (part_length col n j h)
    ∙ among_append ((j + 1) ∷ col (j + 1)) (flat_map (λ j. j ∷ col j) (range_with_len (j + 1 + 1) (n - (j + 1)))) i
    ∙ grind (arith, nat_tests)

marks_part : (col : ℕ → List ℕ) (mark : ℕ → ℕ → Bool) (n k : ℕ) → k < n
    → drop (get_or (laid_starts col n) k 0) (laid_marks col mark n) ≡ (false ∷ map (mark (k + 1)) (col (k + 1))) ++ flat_map (λ j. false ∷ map (mark j) (col j)) (range_with_len (k + 1 + 1) (n - (k + 1)))
marks_part col mark n k h =
    ap (drop (get_or (laid_starts col n) k 0)) (joined_at (λ j. false ∷ map (mark j) (col j)) n k h)
    ∙ drop_at (laid_marks col mark k) _ (get_or (laid_starts col n) k 0) (marks_length col mark k 1 ∙ sym (start_is col n k (omega arith)))

pub on_sheet_is : (col : ℕ → List ℕ) (mark : ℕ → ℕ → Bool) (n j i : ℕ) → j < n
    → on_sheet (laid_starts col n) (laid_rows col n) (laid_marks col mark n) j i ≡ (member i (col (j + 1)) && mark (j + 1) i)
on_sheet_is col mark n j i h =
    ap₂ (λ ls m. marked ls (drop (get_or (laid_starts col n) j 0) (laid_marks col mark n)) m i) (part_is col n j h) (part_length col n j h)
    ∙ ap (λ bs. marked (((j + 1) ∷ col (j + 1)) ++ flat_map (λ j. j ∷ col j) (range_with_len (j + 1 + 1) (n - (j + 1)))) bs (length ((j + 1) ∷ col (j + 1))) i) (marks_part col mark n j h)
    ∙ grind (
      arith,
      marked_append (mark (j + 1)) (col (j + 1)) (flat_map (λ j. j ∷ col j) (range_with_len (j + 1 + 1) (n - (j + 1)))) (flat_map (λ j. false ∷ map (mark j) (col j)) (range_with_len (j + 1 + 1) (n - (j + 1)))) i,
    )

chosen_in : (n : ℕ) (test : ℕ → ℕ → Bool) (k i : ℕ) → k < i → i ≤ n → member i (chosen n test k) ≡ test k i
chosen_in n test k i l h =
    let among = range_with_len (k + 1) (n - k) in
    grind (arith, member_kept (test k) i among, member_from i among (counting_within i (k + 1) (n - k) (omega arith) (omega arith)))

chosen_out : (n : ℕ) (test : ℕ → ℕ → Bool) (k i : ℕ) → n < i → k ≤ n → member i (chosen n test k) ≡ false
chosen_out n test k i l h =
    let among = range_with_len (k + 1) (n - k) in
    grind (arith, member_kept (test k) i among, member_none i among (counting_outside i (k + 1) (n - k) (omega arith)))

any_same : (P Q : ℕ → Bool) (j : ℕ) → ((k : ℕ) → k < j → P k ≡ Q k) → any_below P j ≡ any_below Q j
any_same P Q zero h = refl
any_same P Q (suc j) h = grind (arith, any_same P Q j (λ k l. h k (omega arith)), h j)

any_none : (P : ℕ → Bool) (j : ℕ) → ((k : ℕ) → k < j → P k ≡ false) → any_below P j ≡ false
any_none P zero h = refl
any_none P (suc j) h = grind (arith, any_none P j (λ k l. h k (omega arith)), h j)

absorbs : (x l a : Bool) → x ≡ (l || a) → x ≡ ((x && l) || a)
absorbs x l a e = grind (arith, e)

pub closed_stands : (price : Price) (n : ℕ) (g : Graph)
    → Closed n (laid_starts (column price g n) n) (laid_rows (column price g n) n) (laid_marks (column price g n) (sheet_link price g) n)
closed_stands price n g j i h =
    let col = column price g n in
    let S = laid_starts col n in
    let R = laid_rows col n in
    let M = laid_marks col (sheet_link price g) n in
    let test : ℕ → ℕ → Bool = λ k i. in_column price g (k - 1) (i - 1) in
    let j_is : j + 1 - 1 ≡ j = omega arith in
    let here = holds_is col n j i h.0 h.1 in
    let on = on_sheet_is col (sheet_link price g) n j i h.0 in
    elim (cases_lt n i) [
      | inl out ↦
          (let none : (k : ℕ) → k ≤ j → (holds S R k i ≡ false) × (member i (col (k + 1)) ≡ false) =
          λ k l. let o = chosen_out n test (k + 1) i out (omega (arith, h.0)) in (holds_is col n k i (omega (arith, h.0)) (omega (arith, h.1)) ∙ o, o) in
          grind (arith, none j, on, any_none (λ k. holds S R k (j + 1) && holds S R k i) j (λ k l. and_right (holds S R k (j + 1)) (holds S R k i) (none k (omega arith)).0)))
      | inr within' ↦
          (let held : (k x : ℕ) → k ≤ j → k + 1 < x → x ≤ i → holds S R k x ≡ in_column price g k (x - 1) =
          λ k x l u v.
          let k_is : k + 1 - 1 ≡ k = omega arith in
          holds_is col n k x (omega (arith, h.0)) u ∙ chosen_in n test (k + 1) x u (omega arith) ∙ ap (λ y. in_column price g y (x - 1)) k_is in
          let below : any_below (λ k. holds S R k (j + 1) && holds S R k i) j ≡ any_below (λ k. in_column price g k j && in_column price g k (i - 1)) j =
          any_same _ _ j (λ k l. ap₂ (λ x y. x && y) (held k (j + 1) (omega arith) (omega arith) (omega (arith, h.1)) ∙ ap (in_column price g k) j_is) (held k i (omega arith) (omega (arith, h.1)) (omega arith))) in
          grind (
            arith,
            here,
            held j i (omega arith) h.1 (omega arith),
            on,
            below,
            ap (λ x. g.linked (picked price g x) (picked price g (i - 1))) j_is,
            linked_after price g j (picked price g j) (picked price g (i - 1)),
          ))
    ]

-- the number of places
pub laid_places : (col : ℕ → List ℕ) (m a : ℕ) → length (flat_map (λ k. k ∷ col k) (range_with_len a m)) ≡ places (map col (range_with_len a m))
laid_places col zero a = refl
laid_places col (suc m) a =
    omega (arith, length-append (a ∷ col a) (flat_map (λ k. k ∷ col k) (range_with_len (a + 1) m)), laid_places col m (a + 1))
