use Rattle.std.proofs.Common.{Some, None, inl, inr, arith}
use Rattle.std.proofs.lemmas.Bool.{cases_lt}
use Rattle.nodeset.specs.Sets.{has, FindsLeast}
use Rattle.nodeset.proofs.Firsts.{least_first, found_here, found_later}
use Rattle.nodeset.proofs.Members.{has_past}
use Rattle.nodeset.proofs.sets.NodeSet.first_from.Goals as goal

pub returns-in-Some : goal.returns-in-Some
returns-in-Some c =
    let s = c.args.self.now in
    let (_, on, before) = c.loop-word.invariant in
    let found = c.in-Some.ensures in
    let least = found_here s.words c.args.i c.loop-word.word c.loop-word.low c.loop-word-test.true before on c.in-Some.bit found.within found.least in
    record { value = least_first s c.args.i (Some _) least; least = least }

pub loop-word-preserved : goal.loop-word-preserved
loop-word-preserved c =
    let (_, on, before) = c.loop-word.invariant in
    (omega arith, omega (arith, on), λ j h l. found_later c.args.self.now.words c.args.i c.loop-word.word c.loop-word.low c.loop-word-test.true before c.in_default.ensures.least j h (omega (arith, l)))

pub returns : goal.returns
returns c =
    let s = c.args.self.now in
    let (_, _, before) = c.loop-word.invariant in
    let none : FindsLeast (has s) c.args.i None = λ j h. elim (cases_lt j 512) [ inl l ↦ before j h (omega (arith, l, c.loop-word-test.false)) | inr l ↦ has_past s j l ] in
    record { value = least_first s c.args.i None none; least = none }
