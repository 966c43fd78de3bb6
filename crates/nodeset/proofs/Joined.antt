-- Two sets joined, word by word.
use Rattle.std.proofs.Common.{◌≡◌, ℕ, zero, suc, ◌/◌, ◌%◌, ◌<◌, ◌&&◌, ◌||◌, ltb, List, get_or, sym, ap, ◌∙◌, inl, inr, arith}
use lib.Bits.{bit_or}
use Rattle.std.proofs.Math.Bool.{and-or_distrib_left}
use Rattle.std.proofs.lemmas.Bool.{cases_lt, le-ltb}
use Rattle.nodeset.specs.Sets.{bit_at}
use Rattle.nodeset.proofs.Bits.{bit_at-or}
use Rattle.nodeset.proofs.Members.{has_in}

pub below_eight : (P : ℕ → Type 0) → P 0 → P 1 → P 2 → P 3 → P 4 → P 5 → P 6 → P 7 → (k : ℕ) → k < 8 → P k
below_eight P a b c d e f g h zero l = a
below_eight P a b c d e f g h (suc zero) l = b
below_eight P a b c d e f g h (suc (suc zero)) l = c
below_eight P a b c d e f g h (suc (suc (suc zero))) l = d
below_eight P a b c d e f g h (suc (suc (suc (suc zero)))) l = e
below_eight P a b c d e f g h (suc (suc (suc (suc (suc zero))))) l = f
below_eight P a b c d e f g h (suc (suc (suc (suc (suc (suc zero)))))) l = g
below_eight P a b c d e f g h (suc (suc (suc (suc (suc (suc (suc zero))))))) l = h
below_eight P a b c d e f g h (suc (suc (suc (suc (suc (suc (suc (suc k)))))))) l = absurd (omega (arith, l))

pub joined : (us vs ws : List ℕ) → ((k : ℕ) → k < 8 → get_or ws k 0 ≡ bit_or (get_or us k 0) (get_or vs k 0)) → (j : ℕ) → (ltb j 512 && has_in ws j) ≡ ((ltb j 512 && has_in us j) || (ltb j 512 && has_in vs j))
joined us vs ws each j = elim (cases_lt j 512) [
  | inl l ↦
      ap (λ t. ltb j 512 && t) (ap (λ w. bit_at w (j % 64)) (each (j / 64) (omega (arith, l))) ∙ bit_at-or (get_or us (j / 64) 0) (get_or vs (j / 64) 0) (j % 64))
      ∙ and-or_distrib_left (ltb j 512) (has_in us j) (has_in vs j)
  | inr l ↦ let e = le-ltb j 512 l in ap (λ t. t && has_in ws j) e ∙ sym (ap (λ t. (t && has_in us j) || (t && has_in vs j)) e)
]
