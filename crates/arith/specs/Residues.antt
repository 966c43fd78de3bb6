-- Residues: whole numbers modulo the prime 65,521.
use Rattle.std.specs.Prelude.{ℕ, zero, suc, ◌+◌, ◌-◌, ◌*◌, ◌%◌, ◌<◌, Bool, true, false, cond, ◌==◌, nat_eq}
use Rattle.std.proofs.Common.{mod-lt, lit<}
use Rattle.arith.specs.declared.residues.Residue.{Residue}

pub remainder_below : (n : ℕ) → n % 65521 < 65521
remainder_below n = mod-lt n (lit< tt)

-- the residue of a number
abbrev pub residue : ℕ → Residue
residue n = record { value = n % 65521; below = remainder_below n }

abbrev pub sum : Residue → Residue → Residue
sum a b = residue (a.value + b.value)

abbrev pub difference : Residue → Residue → Residue
difference a b = residue (a.value + (65521 - b.value))

abbrev pub product : Residue → Residue → Residue
product a b = residue (a.value * b.value)

-- the first of `more` numbers from q on that passes a test, and 0 if none does
unfoldable pub first_from : (ℕ → Bool) → ℕ → ℕ → ℕ
first_from test q zero = 0
first_from test q (suc more) = elim (test q) [ true ↦ q | false ↦ first_from test (q + 1) more ]

-- the first q below 65,521 with q × d ≡ v modulo 65,521, and 0 if there is none
unfoldable pub first_quotient : ℕ → ℕ → ℕ
unfolding first_from
first_quotient v d = first_from (λ q. nat_eq (q * d % 65521) v) 0 65521

-- v ÷ d: where d is not 0, the one residue q with q × d ≡ v
abbrev pub quotient : Residue → Residue → Residue
quotient v d = residue (first_quotient v.value d.value)

abbrev pub is_zero : Residue → Bool
is_zero d = d.value == 0

-- a − (v ÷ d) × u, and a where d is 0
abbrev pub updated_residue : Residue → Residue → Residue → Residue → Residue
updated_residue a u d v = cond (is_zero d) a (difference a (product (quotient v d) u))

-- 1 where d is 0, and else 0
abbrev pub judged_residue : Residue → ℕ
judged_residue d = cond (is_zero d) 1 0

-- b − u × y
abbrev pub taken_residue : Residue → Residue → Residue → Residue
taken_residue b u y = difference b (product u y)

-- b ÷ d, and b where d is 0
abbrev pub divided_residue : Residue → Residue → Residue
divided_residue b d = cond (is_zero d) b (quotient b d)
