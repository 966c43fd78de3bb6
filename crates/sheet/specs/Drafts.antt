-- What a draft says.
use Rattle.std.specs.Prelude.{vec_items}
use Rattle.sheet.specs.declared.drafts.Draft.{Draft}
use Rattle.sheet.specs.Patterns.{Pattern}

abbrev pub drafted : Draft → Pattern
drafted d = record { n = d.n; links = vec_items d.links; order = vec_items d.order }
