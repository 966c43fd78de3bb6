-- Tests of every number below a bound.
use Rattle.std.proofs.Common.{◌≡◌, ℕ, zero, suc, ◌<◌, Bool, true, false, arith}
use Rattle.std.proofs.lemmas.Bool.{false≢true}
use Rattle.std.proofs.lemmas.Bool.Decides.{nat_tests}
use Rattle.graph.specs.Columns.{any_below}

pub any_here : (test : ℕ → Bool) (n k : ℕ) → k < n → test k ≡ true → any_below test n ≡ true
any_here test zero k h e = absurd (omega arith)
any_here test (suc n) k h e = grind (arith, nat_tests, any_here test n k)

pub any_found : (test : ℕ → Bool) (n : ℕ) → any_below test n ≡ true → (k : ℕ) × (k < n) × (test k ≡ true)
any_found test zero e = absurd (false≢true e)
any_found test (suc n) e = grind (arith, nat_tests, any_found test n)

pub none_below : (test : ℕ → Bool) (n k : ℕ) → k < n → any_below test n ≡ false → test k ≡ false
none_below test n k h e = grind (arith, any_here test n k)
