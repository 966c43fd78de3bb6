use Rattle.std.proofs.Common.{◌≡◌, length}
use Rattle.sheet.specs.Reading.{run, read_sheet, Sound}
use Rattle.sheet.specs.Views.{state_of}
use Rattle.sheet.proofs.reading.read.Given as goal

abbrev pub invariant-loop-reader : goal.invariant-loop-reader
invariant-loop-reader l = record { run : read_sheet l.bytes ≡ run (state_of l.reader) l.reader.at l.rest; sound : Sound (state_of l.reader) l.reader.at }

abbrev pub decreases-loop-reader : goal.decreases-loop-reader
decreases-loop-reader l = length l.rest
