-- Remainders by the prime.
use Rattle.std.specs.Prelude.{◌≡◌, ℕ, ◌*◌, ◌%◌}
use Rattle.std.proofs.Common.{mul_assoc}
use Rattle.std.proofs.lemmas.Nat.{mul-mod_first, mul-mod_second}

abbrev pub rem : ℕ → ℕ
rem n = n % 65521

-- of a product of three, either two may be taken first
pub regrouped : (x y z : ℕ) → rem (rem (x * y) * z) ≡ rem (x * rem (y * z))
regrouped x y z = simp (mul-mod_first, mul-mod_second, mul_assoc)
