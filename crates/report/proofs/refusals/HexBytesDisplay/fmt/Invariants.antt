use Rattle.std.proofs.Common.{◌≡◌, ℕ, List, ◌++◌}
use Rattle.std.specs.Iterator.Adapters.{rev_source}
use Rattle.std.specs.Slice.Iter.{iter_rest}
use Rattle.report.specs.Refusals.{hex_bytes}
use Rattle.report.proofs.Turns.{SoFar}
use Rattle.report.proofs.refusals.HexBytesDisplay.fmt.Given as goal

abbrev pub invariant-loop-byte : goal.invariant-loop-byte
invariant-loop-byte g l =
    (bs : List ℕ) × SoFar g.W.Write.write_str_gives l.initial.f bs l.f × (bs ++ hex_bytes (iter_rest (rev_source l.byte-iterator)) ≡ hex_bytes l.self.0.now)
