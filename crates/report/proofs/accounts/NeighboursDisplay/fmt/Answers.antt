use Rattle.std.proofs.Common.{arith}
use Rattle.report.specs.Accounts.{spaced_label}
use Rattle.report.proofs.Labels.{kept_more_yes, kept_more_no}
use Rattle.report.proofs.Turns.{so_far_more, so_far_is}
use Rattle.report.proofs.accounts.NeighboursDisplay.fmt.Goals as goal
use Rattle.report.proofs.accounts.NeighboursDisplay.fmt.Goals.{then-linked+in_ok-write, else-linked}

pub loop-other-preserved : goal.loop-other-preserved
loop-other-preserved g c =
    let k = c.loop-other.other-counter in
    elim c.if-linked.branch [
      | then-linked+in_ok-write w ↦ rw w.f-is (so_far_more _ {h = w.write.new.self} (kept_more_yes spaced_label _ k _ c.linked.result (omega arith) (omega arith) c.linked.ensures w.if-linked.true) c.loop-other.invariant w.in_ok-write.ensures.writes)
      | else-linked w ↦ rw w.f-is (so_far_is _ (kept_more_no spaced_label _ k _ c.linked.result (omega arith) (omega arith) c.linked.ensures w.if-linked.false) c.loop-other.invariant)
    ]

pub returns-after-linked-clause-writes : goal.returns-after-linked-clause-writes
returns-after-linked-clause-writes g c = λ p ok.
    let k = c.loop-other.other-counter in
    elim c.if-linked.branch [
      | then-linked+in_ok-write w ↦ rw w.f-is (so_far_more _ {h = w.write.new.self} (kept_more_yes spaced_label _ k _ c.linked.result (omega arith) (omega arith) c.linked.ensures w.if-linked.true) c.loop-other.invariant w.in_ok-write.ensures.writes p)
      | else-linked w ↦ rw w.f-is (so_far_is _ (kept_more_no spaced_label _ k _ c.linked.result (omega arith) (omega arith) c.linked.ensures w.if-linked.false) c.loop-other.invariant p)
    ]
