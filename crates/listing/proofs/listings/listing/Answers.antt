use Rattle.std.proofs.Common.{rules}
use Rattle.plan.specs.Views.{arrays_of}
use Rattle.listing.specs.Texts.{listing_text}
use Rattle.listing.proofs.Bounds.{plan_few}
use Rattle.listing.proofs.Listed.{lists_plan}
use Rattle.listing.proofs.listings.listing.Goals as goal

pub returns : goal.returns
returns c =
    let a = arrays_of c.args.plan.now in
    let few = plan_few c.args.plan.now in
    record {
      answer = c.write_all.ensures.answer (listing_text a) (few, λ p q e. search rules);
      table = c.write_all.ensures.table (listing_text a) (few, λ p q e. search rules);
      theorem = lists_plan;
    }
