-- 65,521 is prime: no number from 2 to 255 divides it, and of two numbers whose product it is, one is below 256.
use Rattle.std.specs.Prelude.{◌≡◌, ℕ, ◌*◌, ◌/◌, ◌%◌, ◌<◌, ◌≤◌, Bool, true, ◌||◌, ◌≢◌, nat_lt, refl}
use Rattle.std.proofs.Common.{sym, ap, ◌∙◌, ⊎_elim, mul_comm, mul-one, mul-le-mul_left, mul-le-mul_right, arith, lit<, ltb-true, ltb-false}
use Rattle.std.proofs.Math.Nat.{mul-mod_right, div-add-mod}
use Rattle.std.proofs.lemmas.Bool.{agree_below_at, cases_Bool, or_cases}
use Rattle.arith.specs.Quotients.{Prime}

-- whether d is below 2 or leaves a remainder
abbrev passes : ℕ → Bool
passes d = nat_lt d 2 || nat_lt 0 (65521 % d)

small : (m : ℕ) → 1 < m → m < 256 → 0 < 65521 % m
small m above under =
    ⊎_elim
    (λ t. let low = ltb-true m 2 t in absurd (omega arith))
    (λ t. ltb-true 0 (65521 % m) t)
    (or_cases (nat_lt m 2) (nat_lt 0 (65521 % m)) (agree_below_at passes (λ _. true) 256 m refl under))

-- a number from 256 on that divides has a partner below 256 that does, too
large : (m : ℕ) → 256 ≤ m → m < 65521 → 65521 % m ≢ 0
large m above under e =
    let k = 65521 / m in
    let whole : m * k ≡ 65521 = omega (arith, div-add-mod 65521 m) in
    let few : 256 * k ≤ m * k = mul-le-mul_right k above in
    let divides : 65521 % k ≡ 0 = ap (λ n. n % k) (sym whole ∙ mul_comm m k) ∙ mul-mod_right k m in
    ⊎_elim
    (λ t. let pos = small k (ltb-true 1 k t) (omega arith) in omega arith)
    (λ t. let most : m * k ≤ m * 1 = mul-le-mul_left m (ltb-false 1 k t) in let one = mul-one m in omega arith)
    (cases_Bool (nat_lt 1 k))

pub prime : Prime 65521
prime = (
  lit< tt,
  λ m above under e. ⊎_elim
      (λ t. let pos = small m above (ltb-true m 256 t) in omega arith)
      (λ t. large m (ltb-false m 256 t) under e)
      (cases_Bool (nat_lt m 256)),
)
