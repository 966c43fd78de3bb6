use Rattle.std.proofs.Common.{◌*◌, ◌%◌, ap, ◌∙◌}
use Rattle.arith.specs.QuotientsLemmas.{is_quotient, by_inverse}
use Rattle.arith.proofs.residues.Residue.divided_by.Goals as goal

pub returns : goal.returns
returns c =
    let v = c.args.self in
    let d = c.args.d in
    is_quotient v d _ c.requires
    (ap (λ n. n * d.value % 65521) c.times.ensures ∙ by_inverse v.value d.value c.inverse.result v.below c.inverse.ensures)
