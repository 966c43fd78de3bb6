use Rattle.std.proofs.Common.{sym}
use Rattle.sheet.specs.Drafts.{drafted}
use Rattle.sheet.proofs.Steps.{fits}
use Rattle.sheet.proofs.drafts.Draft.enter.Goals as goal

pub put-requires : goal.put-requires
put-requires c = fits (drafted c.args.self.now) c.args.item c.args.at c.requires (sym c.in_ok-admit.ensures) (sym c.in_ok-check.ensures)
