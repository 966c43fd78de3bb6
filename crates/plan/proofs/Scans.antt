-- The two passes over the labels that are left find the label that the definition picks.
use Rattle.std.proofs.Common.{◌≡◌, ℕ, zero, suc, ◌<◌, ◌≤◌, min, Bool, cond, eqb, ltb, ◌⊎◌, List, [], ◌∷◌, length, get_or, map, Some, None, Option, sym, refl, ap, ◌∙◌, subst, inl, inr, arith}
use Rattle.std.specs.List.{IsFirstBest, position, position_or_len, fold, best_of}
use Rattle.std.specs.Option.{MatchOption}
use Rattle.std.proofs.lemmas.Bool.{cases_lt, true≢false, eqb-true, eqb-false, eq-eqb, lt-ltb, le-ltb}
use Rattle.std.proofs.lemmas.Bool.Decides.{nat_tests}
use Rattle.std.proofs.lemmas.List.{get_or_default}
use Rattle.std.proofs.lemmas.List.Sums.{fails_before_first, passes_at_first}
use Rattle.std.proofs.lemmas.List.MinMax.{IsStrictWeakOrder-by_number, IsFirstBest-unique, IsFirstBest-from_best_of}
use Rattle.graph.specs.Picking.{least, first_of}
use Rattle.graph.proofs.Orders.{occurs}

-- ---- the first label of least price

-- the least of m and the prices of labels
abbrev lowest : (ℕ → ℕ) → ℕ → List ℕ → ℕ
lowest p m xs = fold min m (map p xs)

lowest_below : (p : ℕ → ℕ) (m : ℕ) (xs : List ℕ) → lowest p m xs ≤ m
lowest_below p m [] = omega arith
lowest_below p m (x ∷ xs) = omega (arith, lowest_below p (min m (p x)) xs)

lowest_each : (p : ℕ → ℕ) (m : ℕ) (xs : List ℕ) (k d : ℕ) → k < length xs → lowest p m xs ≤ p (get_or xs k d)
lowest_each p m [] k d h = absurd (omega (arith, h))
lowest_each p m (x ∷ xs) zero d h = omega (arith, lowest_below p (min m (p x)) xs)
lowest_each p m (x ∷ xs) (suc k) d h = lowest_each p (min m (p x)) xs k d (omega arith)

-- it is m, or the price of one of them
lowest_met : (p : ℕ → ℕ) (m : ℕ) (xs : List ℕ) → (lowest p m xs ≡ m) ⊎ ((k : ℕ) × (k < length xs) × (p (get_or xs k 0) ≡ lowest p m xs))
lowest_met p m [] = inl refl
lowest_met p m (x ∷ xs) =
    elim (lowest_met p (min m (p x)) xs) [
      | inl e ↦ elim (cases_lt (p x) m) [ inl l ↦ inr (0, omega arith, omega (arith, e, l)) | inr l ↦ inl (omega (arith, e, l)) ]
      | inr f ↦ inr (suc f.0, omega (arith, f.1), f.2)
    ]

-- the first label whose price is the least of all
first_at : (p : ℕ → ℕ) (ls : List ℕ) (m k : ℕ) (o : Option ℕ) → k < length ls → p (get_or ls k 0) ≡ m → ((j d : ℕ) → j < length ls → m ≤ p (get_or ls j d))
    → o ≡ position (λ v. eqb (p v) m) ls → MatchOption o (length ls ≡ 0) (λ i. IsFirstBest (λ v w. ltb (p v) (p w)) ls (length ls) i)
first_at p ls m k o h met each f =
    let test : ℕ → Bool = λ v. eqb (p v) m in
    let i = position_or_len test ls in
    let within : i < length ls = elim (cases_lt i (length ls)) [
      | inl l ↦ l
      | inr l ↦ absurd (true≢false (sym (eq-eqb (p (get_or ls k 0)) m met) ∙ fails_before_first test ls k 0 (omega arith)))
    ] in
    let here : (d : ℕ) → p (get_or ls i d) ≡ m = λ d. eqb-true (p (get_or ls i d)) m (passes_at_first test ls d within) in
    let found : o ≡ Some i = f ∙ ap (λ t. cond t (Some i) None) (lt-ltb i (length ls) within) in
    subst (λ r. MatchOption r (length ls ≡ 0) (λ i. IsFirstBest (λ v w. ltb (p v) (p w)) ls (length ls) i)) (sym found) (
      within,
      λ j d l. le-ltb (p (get_or ls j d)) (p (get_or ls i d)) (omega (arith, each j d l, here d)),
      λ j d l. lt-ltb (p (get_or ls i d)) (p (get_or ls j d)) (omega (arith, each j d (omega arith), here d, eqb-false (p (get_or ls j d)) m (fails_before_first test ls j d l))),
    )

pub first_least : (p : ℕ → ℕ) (ls : List ℕ) (x m : ℕ) (o : Option ℕ) → 0 < length ls → x ≡ p (get_or ls 0 0) → m ≡ fold min x (map p ls) → o ≡ position (λ v. eqb (p v) m) ls
    → MatchOption o (length ls ≡ 0) (λ i. IsFirstBest (λ v w. ltb (p v) (p w)) ls (length ls) i)
first_least p ls x m o h first is f =
    let each : (j d : ℕ) → j < length ls → m ≤ p (get_or ls j d) = λ j d l. omega (arith, is, lowest_each p x ls j d l) in
    elim (lowest_met p x ls) [
      | inl q ↦ first_at p ls m 0 o h (omega (arith, is, q, first)) each f
      | inr q ↦ first_at p ls m q.0 o q.1 (q.2 ∙ sym is) each f
    ]

-- and it is the one that the definition picks
best_is : (p : ℕ → ℕ) (b : ℕ) (xs : List ℕ) → best_of (λ v w. ltb (p v) (p w)) b xs ≡ least p b xs
best_is p b [] = refl
best_is p b (x ∷ xs) = best_is p (cond (ltb (p x) (p b)) x b) xs

pub first_is : (p : ℕ → ℕ) (ls : List ℕ) (i : ℕ) → IsFirstBest (λ v w. ltb (p v) (p w)) ls (length ls) i → get_or ls i 0 ≡ first_of p ls
first_is p [] i f = absurd (omega (arith, f.0))
first_is p (x ∷ xs) i f =
    let b = IsFirstBest-from_best_of (IsStrictWeakOrder-by_number p) x xs in
    get_or_default (x ∷ xs) i 0 x f.0 ∙ ap (λ j. get_or (x ∷ xs) j x) (IsFirstBest-unique (IsStrictWeakOrder-by_number p) (x ∷ xs) (length (x ∷ xs)) i b.0 0 f b.1) ∙ b.2 ∙ best_is p x xs

-- ---- prices that agree on the labels pick the same

least_same : (p q : ℕ → ℕ) (b : ℕ) (xs : List ℕ) → ((v : ℕ) → 0 < occurs v (b ∷ xs) → p v ≡ q v) → least p b xs ≡ least q b xs
least_same p q b [] same = refl
least_same p q b (y ∷ ys) same =
    let of-y = least_same p q y ys (λ v o. same v (omega (arith, o))) in
    let of-b = least_same p q b ys (λ v o. same v (omega (arith, o))) in
    grind (arith, nat_tests, same b, same y, of-y, of-b)

pub first_same : (p q : ℕ → ℕ) (ls : List ℕ) → ((v : ℕ) → 0 < occurs v ls → p v ≡ q v) → first_of p ls ≡ first_of q ls
first_same p q [] same = refl
first_same p q (x ∷ xs) same = least_same p q x xs same
