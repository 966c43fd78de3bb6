use Rattle.std.proofs.Common.{length}
use Rattle.plan.specs.Lookups.{size_in}
use Rattle.plan.specs.Views.{arrays_of}
use Rattle.listing.specs.Texts.{spaced}
use Rattle.listing.proofs.Writes.{puts_append, puts_as}
use Rattle.listing.proofs.listings.put_head.Goals as goal

pub returns : goal.returns
returns c =
    let a = arrays_of c.args.plan.now in
    puts_append c.extend.ensures
    (puts_append (puts_as {ys = spaced (size_in a)} (cc) c.spaced.ensures)
    (puts_append (puts_as {ys = spaced (length a.rows)} (cc) c.spaced-2.ensures) c.push.ensures))
