use Rattle.std.proofs.Common.{◌≡◌, IfSome, Option, Some, None, take, List, ℕ}
use Rattle.std.specs.Option.{option_map}
use Rattle.intake.proofs.first_bytes.Goals as goal

-- a fact about what a function gives is one about what it is given
of_given : (P : List ℕ → Type 0) (f : List ℕ → List ℕ) (known : Option (List ℕ)) → IfSome (option_map f known) P → IfSome known (λ xs. P (f xs))
of_given P f None h = h
of_given P f (Some xs) h = h

pub returns : goal.returns
returns g c =
    let h = rw (c.take.ensures.inner, c.take.ensures.limit, c.new-bytes.ensures.items) at c.in_ok-read_to_end.ensures.bytes in
    of_given (λ xs. c.read_to_end.new.buf.items ≡ xs) (take 18444) (g.R.Read.remaining c.args.reader) h
