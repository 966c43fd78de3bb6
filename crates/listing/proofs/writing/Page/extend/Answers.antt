use Rattle.std.proofs.Common.{◌∷◌, [], ap, sym, arith}
use Rattle.std.proofs.lemmas.List.{take_more}
use Rattle.listing.proofs.Writes.{puts_append, puts_as}
use Rattle.listing.proofs.writing.Page.extend.Goals as goal

pub loop-item-preserved : goal.loop-item-preserved
loop-item-preserved g c =
    puts_as (sym (take_more c.args.items.now c.loop-item.item-index c.item-item.result (omega arith)))
    (puts_append c.loop-item.invariant (puts_as (ap (λ x. x ∷ []) c.item-item.is) c.push.ensures))
