-- The bits of a number as true and false, which std's lemmas have as 1 and 0, and how many are set.
use Rattle.std.proofs.Common.{◌≡◌, ℕ, zero, suc, ◌+◌, ◌-◌, ◌*◌, ◌/◌, ◌%◌, ◌^◌, ◌<◌, min, max, Bool, cond, not, ◌&&◌, ◌||◌, eqb, sym, refl, ap, ◌∙◌, subst, ap₂, inl, inr, add-zero, add_assoc, add-suc, arith, pow_pos, shr-shr, shr_lt, w64}
use lib.Bits.{bit_and, bit_or}
use lib.Count.{ones, ones_step, ones-ones}
use Rattle.std.proofs.lemmas.Bool.{cases_eq, eq-eqb, ne_eqb}
use Rattle.std.proofs.lemmas.Nat.{mod_below, pow_below}
use Rattle.std.proofs.lemmas.Nat.Bits.{and_pow, bit_at-lt, bit_at_and, bit_at_lowest, bit_at_not, bit_at_or, bit_at-pow_same, bit_at-pow_other}
use Rattle.nodeset.specs.Sets.{bit_at, count_below}

-- a digit is 0 or 1
digit : (P : ℕ → Type 0) (d : ℕ) → d < 2 → P 0 → P 1 → P d
digit P zero h z o = z
digit P (suc zero) h z o = o
digit P (suc (suc d)) h z o = absurd (omega (arith, h))

digits : (P : ℕ → ℕ → Type 0) (d e : ℕ) → d < 2 → e < 2 → P 0 0 → P 0 1 → P 1 0 → P 1 1 → P d e
digits P d e h l a b c f = digit (λ x. P x e) d h (digit (λ y. P 0 y) e l a b) (digit (λ y. P 1 y) e l c f)

pub bit_at-or : (a b k : ℕ) → bit_at (bit_or a b) k ≡ (bit_at a k || bit_at b k)
bit_at-or a b k = ap (λ x. eqb x 1) (bit_at_or a b k) ∙ digits (λ d e. eqb (max d e) 1 ≡ (eqb d 1 || eqb e 1)) _ _ (bit_at-lt a k) (bit_at-lt b k) refl refl refl refl

-- a power of two has its own bit alone
pub bit_pow : (j k : ℕ) → bit_at (2 ^ j) k ≡ eqb j k
bit_pow j k = elim (cases_eq j k) [
  | inl e ↦ ap (λ i. bit_at (2 ^ j) i) (sym e) ∙ ap (λ x. eqb x 1) (bit_at-pow_same j) ∙ sym (eq-eqb j k e)
  | inr ne ↦ ap (λ x. eqb x 1) (bit_at-pow_other j k (λ e. ne (sym e))) ∙ sym (ne_eqb j k ne)
]

-- a word without one of its bits
pub bit_clear : (a j k : ℕ) → j < 64 → k < 64 → bit_at (bit_and a (18446744073709551615 - 2 ^ j)) k ≡ (bit_at a k && not (eqb j k))
bit_clear a j k h l =
    ap (λ x. eqb x 1) (bit_at_and a (18446744073709551615 - 2 ^ j) k ∙ ap (min (a / 2 ^ k % 2)) (bit_at_not w64 (2 ^ j) k (pow_below j 64 h) l))
    ∙ digits (λ d e. eqb (min d (1 - e)) 1 ≡ (eqb d 1 && not (eqb e 1))) _ _ (bit_at-lt a k) (bit_at-lt (2 ^ j) k) refl refl refl refl
    ∙ ap (λ t. bit_at a k && not t) (bit_pow j k)

-- what is left of a word and the mask of a bit tells whether the bit is set
pub bit_masked : (a k : ℕ) → not (eqb (bit_and a (2 ^ k)) 0) ≡ bit_at a k
bit_masked a k =
    ap (λ x. not (eqb x 0)) (and_pow a k)
    ∙ digit (λ d. not (eqb (d * 2 ^ k) 0) ≡ eqb d 1) _ (bit_at-lt a k) (ap not (eq-eqb (0 * 2 ^ k) 0 (omega arith))) (ap not (ne_eqb (1 * 2 ^ k) 0 (λ e. omega (arith, e, pow_pos k))))

-- a bit of a number without its low bits
pub bit_shr : (a s k : ℕ) → bit_at (a / 2 ^ s) k ≡ bit_at a (s + k)
bit_shr a s k = ap (λ x. eqb (x % 2) 1) (shr-shr a s k)

pub count_same : (f g : ℕ → Bool) (m : ℕ) → ((k : ℕ) → k < m → f k ≡ g k) → count_below f m ≡ count_below g m
count_same f g zero e = refl
count_same f g (suc m) e = ap₂ (λ x t. x + cond t 1 0) (count_same f g m (λ k h. e k (omega arith))) (e m (omega arith))

-- a count over two stretches
pub count_more : (f : ℕ → Bool) (m k : ℕ) → count_below f (m + k) ≡ count_below f m + count_below (λ i. f (m + i)) k
count_more f m zero = ap (count_below f) (add-zero m) ∙ sym (add-zero (count_below f m))
count_more f m (suc k) =
    ap (count_below f) (add-suc m k) ∙ ap (λ x. x + cond (f (m + k)) 1 0) (count_more f m k)
    ∙ add_assoc (count_below f m) (count_below (λ i. f (m + i)) k) (cond (f (m + k)) 1 0)

-- the lowest bit, as a count
low_count : (a : ℕ) → a % 2 ≡ count_below (bit_at a) 1
low_count a =
    digit (λ d. d ≡ 0 + cond (eqb d 1) 1 0) (a % 2) (mod_below a 2 (omega arith)) refl refl
    ∙ ap (λ d. 0 + cond (eqb d 1) 1 0) (sym (bit_at_lowest a))

-- as many bits as are counted
pub bits_counted : (m a : ℕ) → a < 2 ^ m → ones a ≡ count_below (bit_at a) m
bits_counted zero a h = let z : a ≡ 0 = omega (arith, h) in ap ones z ∙ ones-ones 0
bits_counted (suc m) a h =
    let e : suc m ≡ m + 1 = omega arith in
    let s : suc m ≡ 1 + m = omega arith in
    ones_step a
    ∙ ap₂ (λ x y. x + y) (low_count a)
    (bits_counted m (a / 2) (shr_lt m 1 (subst (λ x. a < 2 ^ x) e h)) ∙ count_same (bit_at (a / 2)) (λ k. bit_at a (1 + k)) m (λ k l. bit_shr a 1 k))
    ∙ sym (ap (count_below (bit_at a)) s ∙ count_more (bit_at a) 1 m)
