use Rattle.std.proofs.Common.{◌*◌, ◌%◌, ◌<◌, ap, ◌∙◌, mod-lt, arith}
use Rattle.arith.specs.Inverses.{leaves, next}
use Rattle.arith.proofs.residues.modular.inverse.Goals as goal

pub loop-m-preserved : goal.loop-m-preserved
loop-m-preserved c =
    let before = c.loop-m.invariant in
    let m = c.loop-m.m in
    let above = c.loop-m-test.true in
    let less : 65521 % m < m = mod-lt 65521 before.positive in
    record {
      positive = leaves m above before.small;
      small = omega arith;
      product = ap (λ n. n * c.args.d % 65521) c.times-s.ensures ∙ next c.loop-m.s c.args.d m above before.small before.product;
    }
