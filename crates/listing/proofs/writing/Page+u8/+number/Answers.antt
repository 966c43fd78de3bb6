use Rattle.std.proofs.Common.{◌≡◌, ◌+◌, ◌%◌, ◌/◌, decimal, [], ◌∷◌, sym, ap, ◌∙◌, arith}
use Rattle.std.proofs.lemmas.Fmt.{decimal_digit, decimal_step}
use Rattle.listing.specs.Tables.{Puts}
use Rattle.listing.proofs.Writes.{puts_append, puts_as}
use Rattle.listing.proofs.writing.Page+u8.+number.Goals as goal
use Rattle.listing.proofs.writing.Page+u8.+number.Goals.{then-number-ge10, else-number-ge10}

pub returns : goal.returns
returns t c =
    let n = c.args.number in
    elim c.if-number-ge10.branch [
      | then-number-ge10 w ↦
          (let front : Puts (decimal (n / 10)) c.args.self.now c.if-number-ge10.self = rw w.self-is w.number.ensures in
          puts_as (sym (decimal_step n (omega arith) (omega arith))) (puts_append front c.push.ensures))
      | else-number-ge10 w ↦
          (let small : n % 10 ≡ n = omega arith in
          let one : (48 + n % 10) ∷ [] ≡ decimal n = ap (λ d. (48 + d) ∷ []) small ∙ sym (decimal_digit n (omega arith)) in
          puts_as one (rw w.self-is at c.push.ensures))
    ]
