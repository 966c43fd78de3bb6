use Rattle.std.proofs.Common.{rules}
use Rattle.plan.specs.Views.{arrays_of}
use Rattle.plan.proofs.Kept.{keeps}
use Rattle.listing.specs.Fills.{fill_pairs}
use Rattle.listing.proofs.Bounds.{fill_few}
use Rattle.listing.proofs.Filled.{lists_fill}
use Rattle.listing.proofs.fills.fill_list.Goals as goal

pub returns : goal.returns
returns c =
    let a = arrays_of c.args.plan.now in
    let few = fill_few a (keeps c.args.plan.now) in
    record {
      answer = c.write_all.ensures.answer (fill_pairs a) (few, λ p q e. search rules);
      table = c.write_all.ensures.table (fill_pairs a) (few, λ p q e. search rules);
      theorem = lists_fill;
    }
