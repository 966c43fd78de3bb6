-- Columns laid out, row by row and column by column.
use Rattle.std.proofs.Common.{◌≡◌, ℕ, zero, suc, ◌+◌, ◌-◌, ◌<◌, ◌≤◌, Bool, true, false, cond, List, [], ◌∷◌, ◌++◌, map, length, get_or, filter, sym, refl, ap, ◌∙◌, arith}
use Rattle.std.specs.List.{range_with_len, flat_map}
use Rattle.std.proofs.lemmas.List.FromFn.{map-range_with_len_more}
use Rattle.std.proofs.lemmas.List.{append_assoc, append-nil, length-append, length-map}
use Rattle.plan.specs.Laid.{laid_rows, laid_starts, laid_marks, at_positions, labels_linked}
use Rattle.plan.specs.Tables.{Grid}

pub at_is : (order : List ℕ) (rows : Grid) (k i : ℕ) → at_positions order rows (k + 1) (i + 1) ≡ rows (get_or order k 0 - 1) (get_or order i 0 - 1)
at_is order rows k i = grind arith

pub labels_at : (order : List ℕ) (linked : ℕ → ℕ → Bool) (k i : ℕ) → labels_linked order linked (k + 1) (i + 1) ≡ linked (get_or order k 0) (get_or order i 0)
labels_at order linked k i = grind arith

-- what is left of a column, one position on
abbrev pub rest : (ℕ → Bool) → ℕ → ℕ → List ℕ
rest test n i = filter test (range_with_len (i + 1) (n - i))

rest_next : (test : ℕ → Bool) (n i : ℕ) → i < n → rest test n i ≡ cond (test (i + 1)) ((i + 1) ∷ filter test (range_with_len (i + 1 + 1) (n - (i + 1)))) (filter test (range_with_len (i + 1 + 1) (n - (i + 1))))
rest_next test n i h =
    let e : n - i ≡ suc (n - (i + 1)) = omega arith in ap (λ m. filter test (range_with_len (i + 1) m)) e

pub rest_yes : (test : ℕ → Bool) (n i : ℕ) → i < n → test (i + 1) ≡ true → rest test n i ≡ (i + 1) ∷ rest test n (i + 1)
rest_yes test n i h yes' =
    grind (arith, yes', rest_next test n i h)

pub rest_no : (test : ℕ → Bool) (n i : ℕ) → i < n → test (i + 1) ≡ false → rest test n i ≡ rest test n (i + 1)
rest_no test n i h no' =
    grind (arith, no', rest_next test n i h)

-- positions that the column does not have are passed over
pub rest_skips : (test : ℕ → Bool) (n d i : ℕ) → i + d ≤ n → ((x : ℕ) → i ≤ x → x < i + d → test (x + 1) ≡ false) → rest test n i ≡ rest test n (i + d)
rest_skips test n zero i h off = let e : i ≡ i + 0 = omega arith in ap (rest test n) e
rest_skips test n (suc d) i h off =
    let e : i + 1 + d ≡ i + suc d = omega arith in
    rest_no test n i (omega arith) (off i (omega arith) (omega arith)) ∙ rest_skips test n d (i + 1) (omega arith) (λ x l u. off x (omega arith) (omega arith)) ∙ ap (rest test n) e

-- one element moves from what is left to what is there
pub moves : {X : Type 0} (xs xs' : List X) (x x' : X) (ys zs all : List X) → xs' ≡ xs ++ x' ∷ [] → x' ≡ x → xs ++ zs ≡ all → zs ≡ x ∷ ys → xs' ++ ys ≡ all
moves xs xs' x x' ys zs all d q e f = grind (arith, d, q, e, f, append_assoc xs (x ∷ []) ys)

pub room_left : {X : Type 0} (xs : List X) (x : X) (ys zs us vs : List X) → xs ++ zs ≡ us ++ vs → zs ≡ x ∷ ys → length xs + 1 ≤ length us + length vs
room_left xs x ys zs us vs e f =
    grind (arith, e, f, length-append xs zs, length-append us vs)

pub none_left : (test : ℕ → Bool) (n i : ℕ) → n ≤ i → rest test n i ≡ []
none_left test n i h = let e : n - i ≡ 0 = omega arith in ap (λ m. filter test (range_with_len (i + 1) m)) e

-- one column more
pub joined_more : {X : Type 0} (f : ℕ → List X) (m a j : ℕ) → a + m ≡ j → flat_map f (range_with_len a (m + 1)) ≡ flat_map f (range_with_len a m) ++ f j
joined_more f zero a j h = grind (arith, append-nil (f a))
joined_more f (suc m) a j h =
    let e : suc m + 1 ≡ suc (m + 1) = omega arith in
    ap (λ x. flat_map f (range_with_len a x)) e
    ∙ ap (λ ls. f a ++ ls) (joined_more f m (a + 1) j (omega arith))
    ∙ sym (append_assoc (f a) (flat_map f (range_with_len (a + 1) m)) (f j))

pub joined_grows : {X : Type 0} (f : ℕ → List X) (a m d : ℕ) → length (flat_map f (range_with_len a m)) ≤ length (flat_map f (range_with_len a (m + d)))
joined_grows f a m zero = grind arith
joined_grows f a m (suc d) =
    grind (arith, joined_grows f a m d, joined_more f (m + d) a (a + (m + d)) refl, length-append (flat_map f (range_with_len a (m + d))) (f (a + (m + d))))

pub rows_more : (col : ℕ → List ℕ) (k : ℕ) → laid_rows col (k + 1) ≡ laid_rows col k ++ (k + 1) ∷ col (k + 1)
rows_more col k = joined_more (λ j. j ∷ col j) k 1 (k + 1) (omega arith)

pub marks_more : (col : ℕ → List ℕ) (mark : ℕ → ℕ → Bool) (k : ℕ) → laid_marks col mark (k + 1) ≡ laid_marks col mark k ++ false ∷ map (mark (k + 1)) (col (k + 1))
marks_more col mark k = joined_more (λ j. false ∷ map (mark j) (col j)) k 1 (k + 1) (omega arith)

pub starts_more : (col : ℕ → List ℕ) (k : ℕ) → laid_starts col (k + 1) ≡ laid_starts col k ++ length (laid_rows col (k + 1)) ∷ []
starts_more col k = map-range_with_len_more (λ m. length (laid_rows col m)) 0 (k + 1) (k + 1) (omega arith)

-- as many marks as rows
pub marks_length : (col : ℕ → List ℕ) (mark : ℕ → ℕ → Bool) (m a : ℕ)
    → length (flat_map (λ j. false ∷ map (mark j) (col j)) (range_with_len a m)) ≡ length (flat_map (λ j. j ∷ col j) (range_with_len a m))
marks_length col mark zero a = refl
marks_length col mark (suc m) a =
    omega (
      arith,
      length-append (false ∷ map (mark a) (col a)) (flat_map (λ j. false ∷ map (mark j) (col j)) (range_with_len (a + 1) m)),
      length-append (a ∷ col a) (flat_map (λ j. j ∷ col j) (range_with_len (a + 1) m)),
      length-map (col a) (mark a),
      marks_length col mark m (a + 1),
    )

-- the next column has room
pub rows_fit : (col : ℕ → List ℕ) (n k : ℕ) → k < n → length (laid_rows col k) + (1 + length (col (k + 1))) ≤ length (laid_rows col n)
rows_fit col n k h =
    grind (arith, rows_more col k, length-append (laid_rows col k) ((k + 1) ∷ col (k + 1)), joined_grows (λ j. j ∷ col j) 1 (k + 1) (n - (k + 1)))
