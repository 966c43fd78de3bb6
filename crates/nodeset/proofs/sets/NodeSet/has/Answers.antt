use Rattle.std.proofs.Common.{◌/◌, ◌%◌, not, ◌&&◌, eqb, get_or, bit_and, sym, ap, ◌∙◌}
use Rattle.std.proofs.lemmas.Bool.{lt-ltb}
use Rattle.nodeset.proofs.Bits.{bit_masked}
use Rattle.nodeset.proofs.Members.{has_in}
use Rattle.nodeset.proofs.sets.NodeSet.has.Goals as goal

pub returns-then-i-lt512 : goal.returns-then-i-lt512
returns-then-i-lt512 c =
    let words = c.args.self.now.words in
    let i = c.args.i in
    ap (λ b. not (eqb (bit_and (get_or words (i / 64) 0) b) 0)) c.bit_of.ensures ∙ bit_masked (get_or words (i / 64) 0) (i % 64)
    ∙ sym (ap (λ t. t && has_in words i) (lt-ltb i 512 c.if-i-lt512.true))
