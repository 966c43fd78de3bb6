use Rattle.std.proofs.Common.{◌≡◌, set, vec_items, vec_len, refl, ap, ◌∙◌, ap₂, arith}
use Rattle.std.proofs.lemmas.List.{get_or_read_under}
use Rattle.nodeset.specs.Rows.{linked_in as adjacent}
use Rattle.nodeset.specs.Sets.{count_below}
use Rattle.plan.specs.declared.records.NodeRecord.{NodeRecord}
use Rattle.plan.specs.Tables.{blank, gone_in}
use Rattle.plan.proofs.Counts.{count_inside}
use Rattle.plan.proofs.Joins.{joined_is, alone_joined, inside_joined}
use Rattle.plan.proofs.planner.Planner.join.Goals as goal

pub returns : goal.returns
returns c =
    let me = c.args.self.now in
    let v = c.args.v in
    let a = c.args.a in
    let rows = adjacent me.rows in
    let after = adjacent c.join.new.self in
    let joins = joined_is rows after v a (omega (arith, c.requires.0, me.small)) (omega (arith, c.requires.1, me.small)) c.join.ensures in
    let degree : c.degree.result ≡ count_below (after a) me.n =
    c.degree.ensures ∙ count_inside (after a) me.n me.small (inside_joined me.n v a rows after me.inside joins a) in
    let gone : c.index_mut.result.now.gone ≡ gone_in (vec_items me.nodes) a =
    ap (λ (r : NodeRecord). r.gone) (get_or_read_under (vec_items me.nodes) a (vec_len me.nodes) c.index_mut.result.now blank c.index_mut.ensures.value (omega (arith, c.requires.1, me.noted)) me.nodes.ok.0) in
    record {
      rows = λ r b h k. joins r b;
      nodes = ap₂ (λ d g. set (vec_items me.nodes) a (record { degree = d; gone = g })) degree gone;
      rest = record { size = refl; left = refl; order = refl; places = refl };
    }

pub invariant_of-self : goal.invariant_of-self
invariant_of-self c =
    let me = c.args.self.now in
    let v = c.args.v in
    let a = c.args.a in
    let rows = adjacent me.rows in
    let after = adjacent c.join.new.self in
    let joins = joined_is rows after v a (omega (arith, c.requires.0, me.small)) (omega (arith, c.requires.1, me.small)) c.join.ensures in
    record {
      small = me.small;
      noted = me.noted;
      labelled = me.labelled;
      room = me.room;
      alone = alone_joined me.n v a rows after me.alone (λ r b h k. joins r b);
      inside = inside_joined me.n v a rows after me.inside joins;
    }
