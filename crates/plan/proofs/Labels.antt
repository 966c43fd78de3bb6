-- The labels that are not gone, by the node records.
use Rattle.std.proofs.Common.{◌≡◌, ℕ, zero, suc, ◌+◌, ◌<◌, true, false, cond, not, List, [], ◌∷◌, length, set, refl, ap₂, arith}
use Rattle.std.proofs.lemmas.Bool.Decides.{nat_tests}
use Rattle.graph.specs.Columns.{member}
use Rattle.graph.proofs.Orders.{without}
use Rattle.plan.specs.declared.records.NodeRecord.{NodeRecord}
use Rattle.plan.specs.Tables.{gone_in, labels}

-- records that are gone alike
pub labels_same : (s : ℕ) (rs qs : List NodeRecord) → length rs ≡ length qs → ((i : ℕ) → i < length rs → gone_in rs i ≡ gone_in qs i) → labels s rs ≡ labels s qs
labels_same s [] [] e h = refl
labels_same s [] (q ∷ qs) e h = absurd (omega (arith, e))
labels_same s (r ∷ rs) [] e h = absurd (omega (arith, e))
labels_same s (r ∷ rs) (q ∷ qs) e h =
    ap₂ (λ t ls. cond t ls (s ∷ ls)) (h 0 (omega arith)) (labels_same (s + 1) rs qs (omega arith) (λ i l. h (suc i) (omega arith)))

-- no label before the first
without_past : (v s : ℕ) (rs : List NodeRecord) → v < s → without v (labels s rs) ≡ labels s rs
without_past v s [] h = refl
without_past v s (r ∷ rs) h = grind (arith, nat_tests, without_past v (s + 1) rs (omega arith))

-- a record that is gone takes its label out
pub labels_gone : (s : ℕ) (rs : List NodeRecord) (i : ℕ) (r : NodeRecord) → i < length rs → r.gone ≡ true → labels s (set rs i r) ≡ without (s + i) (labels s rs)
labels_gone s [] i r h e = absurd (omega (arith, h))
labels_gone s (x ∷ rs) zero r h e = grind (arith, nat_tests, e, without_past s (s + 1) rs (omega arith))
labels_gone s (x ∷ rs) (suc i) r h e = grind (arith, nat_tests, labels_gone (s + 1) rs i r (omega arith) e)

member_past : (v s : ℕ) (rs : List NodeRecord) → v < s → member v (labels s rs) ≡ false
member_past v s [] h = refl
member_past v s (r ∷ rs) h = grind (arith, nat_tests, member_past v (s + 1) rs (omega arith))

-- who is left is not gone
pub member_labels : (s : ℕ) (rs : List NodeRecord) (i : ℕ) → i < length rs → member (s + i) (labels s rs) ≡ not (gone_in rs i)
member_labels s [] i h = absurd (omega (arith, h))
member_labels s (r ∷ rs) zero h = grind (arith, nat_tests, member_past s (s + 1) rs (omega arith))
member_labels s (r ∷ rs) (suc i) h = grind (arith, nat_tests, member_labels (s + 1) rs i (omega arith))
