-- What becomes of the bytes of a sheet.
use Rattle.std.specs.Prelude.{ℕ, List, Ok, Err, Result}
use Rattle.std.specs.Result.{result_map_both}
use Rattle.graph.specs.Picking.{by_degree}
use Rattle.sheet.specs.declared.reading.Fault.{Fault}
use Rattle.sheet.specs.Patterns.{Pattern}
use Rattle.sheet.specs.Reading.{read_sheet}
use Rattle.plan.specs.Planned.{Arrays, planned}
use Rattle.listing.specs.declared.faults.SiteFault.{SiteFault}
use Rattle.listing.specs.declared.faults.SiteFault.TheVariants.{InSheet, InPlan}

-- the plan of what was read, by least degree
abbrev pub plan_read : Result Pattern Fault → Result Arrays SiteFault
plan_read (Ok s) = result_map_both (λ a. a) InPlan (planned by_degree s)
plan_read (Err e) = Err (InSheet e)

-- the plan of the bytes of a sheet, or why there is none
abbrev pub site_plan : List ℕ → Result Arrays SiteFault
site_plan bytes = plan_read (read_sheet bytes)
