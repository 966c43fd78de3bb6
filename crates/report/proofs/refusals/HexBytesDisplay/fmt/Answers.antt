use Rattle.std.proofs.Common.{◌≡◌, false, Some, ◌++◌, refl, ap, rules}
use Rattle.std.specs.Fmt.{styled_digits_output}
use Rattle.std.specs.Iterator.Adapters.{rev_source}
use Rattle.std.specs.Slice.Iter.{iter_rest}
use Rattle.std.proofs.lemmas.Fmt.{hex_byte as two_digits}
use Rattle.report.specs.Refusals.{hex_byte}
use Rattle.report.proofs.Spelling.{spelled_more}
use Rattle.report.proofs.Turns.{so_far_more}
use Rattle.report.proofs.refusals.HexBytesDisplay.fmt.Goals as goal

pub loop-byte-preserved : goal.loop-byte-preserved
loop-byte-preserved g c =
    let i = c.loop-byte.invariant in
    let b = c.in-Some.field-0.now in
    let rest = iter_rest (rev_source c.loop-byte.byte-iterator) in
    let after = iter_rest (rev_source c.next.new.self) in
    let spelled : styled_digits_output c.in_radix.result c.laid_out.result ≡ Some (hex_byte b) =
    rw c.laid_out.ensures (rw c.in_radix.ensures (ap Some (two_digits false b (search rules)))) in
    let wrote = rw spelled at c.in_ok-write.ensures.writes in
    (i.0 ++ hex_byte b, so_far_more _ {h = c.write.new.self} {b = hex_byte b} refl i.1 wrote, spelled_more i.0 rest after _ b c.in-Some.ensures.steps i.2)
