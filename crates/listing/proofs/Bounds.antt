-- How long the fill list and the listing of a plan can be.
use Rattle.std.proofs.Common.{ℕ, zero, suc, ◌+◌, ◌-◌, ◌*◌, ◌<◌, ◌≤◌, ◌^◌, ◌/◌, ◌%◌, ◌==◌, if◌then◌else◌, codes, ◌++◌, true, false, List, [], ◌∷◌, length, map, filter, drop, decimal, arith, length-append}
use Rattle.std.specs.Fmt.{digit_glyph, digits, digits_onto}
use Rattle.std.specs.List.{range_with_len, flat_map}
use Rattle.std.proofs.lemmas.List.{length-map, length-take, length-drop}
use Rattle.std.proofs.lemmas.List.Sums.{length-filter, count_by-le-length}
use Rattle.std.proofs.lemmas.List.FromFn.{length-range_with_len}
use Rattle.plan.specs.declared.plans.Plan.{Plan}
use Rattle.plan.specs.Lookups.{size_in, label_in, parent_in, rows_in, start_in}
use Rattle.plan.specs.Planned.{Arrays, Keeps}
use Rattle.plan.specs.Views.{arrays_of}
use Rattle.plan.proofs.Kept.{keeps}
use Rattle.plan.proofs.Spans.{column_ends}
use Rattle.listing.specs.Fills.{unlinked, labels_at, places_in, column_fill, fill_pairs}
use Rattle.listing.specs.Texts.{spaced, head_text, line_in, listing_text}

-- pieces of at most b items each
pieces_few : {X : Type 0} (f : ℕ → List X) (b m s : ℕ) → ((k : ℕ) → s ≤ k → k < s + m → length (f k) ≤ b) → length (flat_map f (range_with_len s m)) ≤ m * b
pieces_few f b zero s e = omega arith
pieces_few f b (suc m) s e =
    let rest : length (flat_map f (range_with_len (s + 1) m)) ≤ m * b = pieces_few f b m (s + 1) (λ k l u. e k (omega arith) (omega arith)) in
    omega (arith, length-append (f s) (flat_map f (range_with_len (s + 1) m)), e s (omega arith) (omega arith), rest)

digits_few : (k n : ℕ) (acc : List ℕ) → length (digits_onto k 10 false n acc) ≤ k + length acc
digits_few zero n acc = omega arith
digits_few (suc k) n acc =
    let g = digit_glyph false (n % 10) in
    elim (n / 10 == 0) as (λ t. length (if t then g ∷ acc else digits_onto k 10 false (n / 10) (g ∷ acc)) ≤ suc k + length acc) [
      | true ↦ omega arith
      | false ↦ omega (arith, digits_few k (n / 10) (g ∷ acc))
    ]

decimal_few : (n : ℕ) → length (decimal n) ≤ 64
unfolding digits
decimal_few n = omega (arith, digits_few 64 n [])

texts_few : (f : ℕ → ℕ) (rows : List ℕ) → length (flat_map spaced (map f rows)) ≤ length rows * 65
texts_few f [] = omega arith
texts_few f (i ∷ is) =
    omega (arith, length-append (spaced (f i)) (flat_map spaced (map f is)), decimal_few (f i), texts_few f is)

-- a line has at most the labels of all rows
line_few : (a : Arrays) (k : ℕ) → Keeps a → length (line_in a k) ≤ 2 ^ 20
line_few a k keeps =
    let rows = rows_in a k in
    let labels = flat_map spaced (map (label_in a) rows) in
    let first = start_in a k + 1 in
    let short : length rows ≤ 8192 = omega (arith, length-take (start_in a (k + 1) - first) (drop first a.rows), length-drop first a.rows, keeps.few) in
    let tail : length (labels ++ codes "\n") ≤ 65 * 8192 + 1 = omega (arith, length-append labels (codes "\n"), texts_few (label_in a) rows, short) in
    let above : length (spaced (parent_in a k) ++ (codes " :" ++ (labels ++ codes "\n"))) ≤ 65 * 8192 + 68 =
    omega (arith, length-append (spaced (parent_in a k)) (codes " :" ++ (labels ++ codes "\n")), decimal_few (parent_in a k), tail) in
    omega (
      arith,
      length-append (decimal k) (spaced (label_in a k) ++ (spaced (parent_in a k) ++ (codes " :" ++ (labels ++ codes "\n")))),
      length-append (spaced (label_in a k)) (spaced (parent_in a k) ++ (codes " :" ++ (labels ++ codes "\n"))),
      decimal_few k,
      decimal_few (label_in a k),
      above,
    )

-- all of it can be counted
pub fill_few : (a : Arrays) → Keeps a → length (fill_pairs a) < 2 ^ 64
fill_few a keeps =
    let each : length (fill_pairs a) ≤ size_in a * 8192 =
    pieces_few (column_fill a) 8192 (size_in a) 1 (λ k l h.
    omega (
      arith,
      length-map (filter (unlinked a) (places_in a k)) (labels_at a k),
      length-filter (unlinked a) (places_in a k),
      count_by-le-length (unlinked a) (places_in a k),
      length-range_with_len (start_in a k + 1) (start_in a (k + 1) - (start_in a k + 1)),
      column_ends a k (record { keeps = keeps; low = l; high = omega arith }),
      keeps.few,
    )) in
    omega (arith, each, keeps.small)

pub listing_few : (a : Arrays) → Keeps a → length (listing_text a) < 2 ^ 64
listing_few a keeps =
    let n = size_in a in
    let lines = flat_map (line_in a) (range_with_len 1 n) in
    let each : length lines ≤ n * 2 ^ 20 = pieces_few (line_in a) (2 ^ 20) n 1 (λ k l h. line_few a k keeps) in
    let tail : length (spaced (length a.rows) ++ codes "\n") ≤ 66 =
    omega (arith, length-append (spaced (length a.rows)) (codes "\n"), decimal_few (length a.rows)) in
    omega (
      arith,
      length-append (head_text n (length a.rows)) lines,
      length-append (spaced n) (spaced (length a.rows) ++ codes "\n"),
      decimal_few n,
      tail,
      each,
      keeps.small,
    )

-- every plan keeps the rules, so its listing can be counted
pub plan_few : (p : Plan) → length (listing_text (arrays_of p)) < 2 ^ 64
plan_few p = listing_few (arrays_of p) (keeps p)
