use Rattle.std.proofs.Common.{◌≡◌, true, vec_items, sym}
use Rattle.sheet.specs.Patterns.{given_in}
use Rattle.sheet.proofs.drafts.Draft.check.Goals as goal

pub returns-then-contains : goal.returns-then-contains
returns-then-contains c =
    let given : given_in (vec_items c.args.self.now.order) c.in-Turn.a ≡ true = cc in
    rw (c.in-Turn.is, sym c.in_ok-check_label-in-Turn.ensures, given)
