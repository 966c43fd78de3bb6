-- What the code's values say, as the definitions of the reading have it.
use Rattle.std.specs.Prelude.{Result}
use Rattle.std.specs.Result.{result_map_both}
use Rattle.sheet.specs.declared.reading.Fault.{Fault}
use Rattle.sheet.specs.declared.reading.Reader.{Reader}
use Rattle.sheet.specs.declared.sheets.Sheet.{Sheet}
use Rattle.sheet.specs.Drafts.{drafted}
use Rattle.sheet.specs.Patterns.{Pattern}
use Rattle.sheet.specs.Reading.{State}

-- what came of a call, with `view` of what is in an Ok
abbrev pub told : {X Y : Type 0} → Result X Fault → (X → Y) → Result Y Fault
told r view = result_map_both view (λ e. e) r

abbrev pub pattern_of : Sheet → Pattern
pattern_of s = drafted s.draft

abbrev pub state_of : Reader → State
state_of r = record { phase = r.phase; sheet = drafted r.draft }
