use Rattle.square.proofs.Sites.{knows}
use Rattle.square.proofs.sites_know_sheets.Goals as goal

pub returns : goal.returns
returns c = knows
