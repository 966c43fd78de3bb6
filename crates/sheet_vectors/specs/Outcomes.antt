-- What the reading of a sheet comes to, in numbers.
use Rattle.std.specs.Prelude.{length, Ok, Err, Result}
use Rattle.sheet.specs.declared.reading.Fault.{Fault}
use Rattle.sheet.specs.Faults.{number_of, layer_of, place_of}
use Rattle.sheet.specs.Patterns.{Pattern}
use Rattle.sheet_vectors.specs.declared.outcomes.Counts.{Counts}
use Rattle.sheet_vectors.specs.declared.outcomes.Told.{Told}

-- how many nodes, links and order words a sheet has
abbrev pub counts_of : Pattern → Counts
counts_of s = record { nodes = s.n; links = length s.links; order = length s.order }

-- a fault's number, layer and place
abbrev pub told_of : Fault → Told
told_of e = record { number = number_of e; layer = layer_of e; place = place_of e }

-- the numbers of what came of a reading
abbrev pub outcome_of : Result Pattern Fault → Result Counts Told
outcome_of (Ok s) = Ok (counts_of s)
outcome_of (Err e) = Err (told_of e)
