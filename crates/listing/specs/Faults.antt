-- The line that says why a site sheet gets no listing.
use Rattle.std.specs.Prelude.{ℕ, List, ◌++◌, codes, decimal}
use Rattle.sheet.specs.Faults.{fault_text}
use Rattle.plan.specs.Refusals.{number_of}
use Rattle.listing.specs.declared.faults.SiteFault.{SiteFault}
use Rattle.listing.specs.declared.faults.SiteFault.TheVariants.{InSheet, InPlan}

-- a fault of the sheet has its own line; a refusal of the plan has the layer "plan" and no place
abbrev pub fault_line : SiteFault → List ℕ
fault_line (InSheet e) = fault_text e
fault_line (InPlan e) = codes "fault " ++ (decimal (number_of e) ++ codes " plan")
