-- Counts of the numbers below a bound that a test has.
use Rattle.std.proofs.Common.{◌≡◌, ℕ, zero, suc, ◌+◌, ◌-◌, ◌<◌, ◌≤◌, Bool, false, cond, not, ◌&&◌, eqb, List, [], ◌∷◌, length, filter, sym, refl, ap, ◌∙◌, ap₂, arith}
use Rattle.graph.specs.Columns.{member}
use Rattle.graph.specs.Graphs.{Graph, neighbours, degree}
use Rattle.graph.proofs.Orders.{member_kept}
use Rattle.nodeset.specs.Sets.{count_below}
use Rattle.plan.specs.declared.records.NodeRecord.{NodeRecord}
use Rattle.plan.specs.Tables.{gone_in, labels}
use Rattle.plan.proofs.Labels.{member_labels}

pub count_same : (test other : ℕ → Bool) (m : ℕ) → ((b : ℕ) → b < m → test b ≡ other b) → count_below test m ≡ count_below other m
count_same test other zero h = refl
count_same test other (suc m) h = ap₂ (λ x y. x + cond y 1 0) (count_same test other m (λ b l. h b (omega arith))) (h m (omega arith))

-- what passes no test from n on is counted below n
count_within : (test : ℕ → Bool) (n m : ℕ) → ((b : ℕ) → n ≤ b → test b ≡ false) → count_below test (n + m) ≡ count_below test n
count_within test n zero off = grind arith
count_within test n (suc m) off =
    let e : n + suc m ≡ suc (n + m) = omega arith in grind (arith, ap (count_below test) e, count_within test n m off, off (n + m))

pub count_inside : (test : ℕ → Bool) (n : ℕ) → n ≤ 512 → ((b : ℕ) → n ≤ b → test b ≡ false) → count_below test 512 ≡ count_below test n
count_inside test n small off = let e : 512 ≡ n + (512 - n) = omega arith in ap (count_below test) e ∙ count_within test n (512 - n) off

-- the first number apart
count_front : (test : ℕ → Bool) (m : ℕ) → count_below test (suc m) ≡ cond (test 0) 1 0 + count_below (λ i. test (suc i)) m
count_front test zero = omega arith
count_front test (suc m) = let e = count_front test m in omega arith

-- the labels that are not gone and pass a test, counted by their records
pub count_labels : (test : ℕ → Bool) (s : ℕ) (rs : List NodeRecord) → length (filter test (labels s rs)) ≡ count_below (λ i. not (gone_in rs i) && test (s + i)) (length rs)
count_labels test s [] = refl
count_labels test s (r ∷ rs) =
    let here : ℕ → Bool = λ i. not (gone_in (r ∷ rs) i) && test (s + i) in
    let f : count_below (λ i. not (gone_in rs i) && test (s + 1 + i)) (length rs) ≡ count_below (λ i. here (suc i)) (length rs) =
    count_same _ _ (length rs) (λ i l. let q : s + 1 + i ≡ s + suc i = omega arith in ap (λ x. not (gone_in rs i) && test x) q) in
    grind (arith, count_labels test (s + 1) rs, f, count_front here (length rs))

-- a row that has the neighbours of a label, counted
pub row_count : (n : ℕ) (g : Graph) (a : ℕ) (nodes : List NodeRecord) (row : ℕ → Bool) → length nodes ≡ n → labels 1 nodes ≡ g.left
    → ((b : ℕ) → b < n → row b ≡ member (b + 1) (neighbours g (a + 1))) → count_below row n ≡ degree g (a + 1)
row_count n g a nodes row len left is =
    let test : ℕ → Bool = λ w. not (eqb w (a + 1)) && g.linked (a + 1) w in
    count_same row (λ i. not (gone_in nodes i) && test (1 + i)) n
    (λ b h. grind (arith, is b h, left, member_kept test (b + 1) g.left, member_labels 1 nodes b (omega arith)))
    ∙ ap (count_below (λ i. not (gone_in nodes i) && test (1 + i))) (sym len)
    ∙ sym (count_labels test 1 nodes) ∙ ap (λ ls. length (filter test ls)) left
