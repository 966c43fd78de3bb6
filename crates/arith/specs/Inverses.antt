-- Every number from 1 to 65,520 has an inverse modulo 65,521.
use Rattle.std.specs.Prelude.{◌≡◌, ℕ, zero, suc, ◌+◌, ◌-◌, ◌*◌, ◌/◌, ◌%◌, ◌<◌, ◌≤◌, nat_lt}
use Rattle.std.proofs.Common.{ap, ◌∙◌, ⊎_elim, mul_comm, add-mul, mod-lt, div-le_self, one-mul, arith, ltb-true, ltb-false}
use Rattle.std.proofs.Math.Nat.{div-add-mod, pos_of_ne-zero}
use Rattle.std.proofs.lemmas.Bool.{cases_Bool}
use Rattle.arith.specs.Primality.{prime}
use Rattle.arith.specs.Remainders.{rem, regrouped}

pub leaves : (m : ℕ) → 1 < m → m < 65521 → 0 < 65521 % m
leaves m above under = pos_of_ne-zero (prime.1 m above under)

-- −(p ÷ m) × m is what m leaves of p, modulo p
turned : (m : ℕ) → 1 < m → m < 65521 → rem ((65521 - 65521 / m) * m) ≡ 65521 % m
turned m above under =
    let q = 65521 / m in
    let whole = div-add-mod 65521 m in
    let less : 65521 % m < m = mod-lt 65521 (omega arith) in
    let few : q ≤ 65521 = div-le_self 65521 m in
    let apart = add-mul (65521 - q) q m in
    let around = ap (λ n. n * m) (let e : (65521 - q) + q ≡ 65521 = omega arith in e) in
    let turn = mul_comm q m in
    omega arith

-- where s × d is m, the next s gives what m leaves
pub next : (s d m : ℕ) → 1 < m → m < 65521 → rem (s * d) ≡ m → rem (rem ((65521 - 65521 / m) * s) * d) ≡ 65521 % m
next s d m above under e =
    let c = 65521 - 65521 / m in regrouped c s d ∙ ap (λ n. rem (c * n)) e ∙ turned m above under

-- a number that gives 1 when it is multiplied by m
pub inverted : (bound m : ℕ) → m ≤ bound → 0 < m → m < 65521 → (s : ℕ) × (rem (s * m) ≡ 1)
inverted zero m within pos under = absurd (omega arith)
inverted (suc bound) m within pos under =
    ⊎_elim
    (λ t.
    let above = ltb-true 1 m t in
    let less : 65521 % m < m = mod-lt 65521 pos in
    let c = 65521 - 65521 / m in
    let rest = inverted bound (65521 % m) (omega arith) (leaves m above under) (omega arith) in
    (rem (rest.0 * c), regrouped rest.0 c m ∙ ap (λ n. rem (rest.0 * n)) (turned m above under) ∙ rest.1))
    (λ t. let low = ltb-false 1 m t in (1, let one = one-mul m in omega arith))
    (cases_Bool (nat_lt 1 m))
