-- The first member of a set from a number on.
use Rattle.std.proofs.Common.{◌≡◌, ℕ, zero, suc, ◌+◌, ◌-◌, ◌*◌, ◌/◌, ◌^◌, ◌<◌, ◌≤◌, Bool, true, false, cond, ◌&&◌, eqb, ltb, List, get_or, Some, None, Option, sym, ap, ◌∙◌, ap₂, inl, inr, lt_of_le_of_lt, arith, w64}
use lib.Count.{count_trailing_zeros}
use Rattle.std.proofs.Math.Nat.{div-le_self}
use Rattle.std.proofs.lemmas.Bool.{cases_lt, false≢true}
use Rattle.std.proofs.lemmas.Nat.Bits.{bit_at-zero, bit_at-trailing_zeros, bit_at_above}
use Rattle.nodeset.specs.declared.sets.NodeSet.{NodeSet}
use Rattle.nodeset.specs.Sets.{bit_at, has, first_of, IsLeastFrom, FindsLeast}
use Rattle.nodeset.proofs.Bits.{bit_shr}
use Rattle.nodeset.proofs.Members.{has_in, member_below, word_bit}

module _ (test : ℕ → Bool) where
  -- numbers that fail the test are passed over
  pub first_skip : (t m i : ℕ) → t ≤ m → ((j : ℕ) → j < t → test (i + j) ≡ false) → first_of test i m ≡ first_of test (i + t) (m - t)
  first_skip zero m i h off = let e : i ≡ i + 0 = omega arith in let z : m ≡ m - 0 = omega arith in ap₂ (first_of test) e z
  first_skip (suc t) zero i h off = absurd (omega (arith, h))
  first_skip (suc t) (suc m) i h off =
      let z : i + 0 ≡ i = omega arith in
      let e : i + 1 + t ≡ i + suc t = omega arith in
      let d : m - t ≡ suc m - suc t = omega arith in
      ap (λ b. cond b (Some i) (first_of test (i + 1) m)) (ap test (sym z) ∙ off 0 (omega arith))
      ∙ first_skip t m (i + 1) (omega (arith, h)) (λ j l. let s : i + 1 + j ≡ i + suc j = omega arith in ap test s ∙ off (suc j) (omega (arith, l)))
      ∙ ap₂ (first_of test) e d

  first_here : (m i : ℕ) → 0 < m → test i ≡ true → first_of test i m ≡ Some i
  first_here zero i h e = absurd (omega (arith, h))
  first_here (suc m) i h e = ap (λ b. cond b (Some i) (first_of test (i + 1) m)) e

  pub first_none : (i m : ℕ) → ((j : ℕ) → i ≤ j → test j ≡ false) → first_of test i m ≡ None
  first_none i m off = let z : m - m ≡ 0 = omega arith in first_skip m m i (omega arith) (λ j l. off (i + j) (omega arith)) ∙ ap (first_of test (i + m)) z

-- the least member is the first
pub least_first : (s : NodeSet) (i : ℕ) (o : Option ℕ) → FindsLeast (has s) i o → o ≡ first_of (has s) i (512 - i)
least_first s i None none = sym (first_none (has s) i (512 - i) none)
least_first s i (Some x) f =
    let e : i + (x - i) ≡ x = omega (arith, f.from) in
    let below = member_below s x f.passes in
    sym (first_skip (has s) (x - i) (512 - i) i (omega (arith, below)) (λ j l. f.least (i + j) (omega arith) (omega (arith, l)))
    ∙ ap (λ y. first_of (has s) y (512 - i - (x - i))) e ∙ first_here (has s) (512 - i - (x - i)) x (omega (arith, below, f.from)) f.passes)

-- the lowest bit of a word from `low` on, by what is left of the word there
module _ (word low : ℕ) where
  abbrev rest : ℕ
  rest = word / 2 ^ low

  left_bit : (j : ℕ) → low ≤ j → bit_at word j ≡ bit_at rest (j - low)
  left_bit j h = let e : low + (j - low) ≡ j = omega (arith, h) in ap (bit_at word) (sym e) ∙ sym (bit_shr word low (j - low))

  pub lowest_none : rest ≡ 0 → FindsLeast (bit_at word) low None
  lowest_none none j h = left_bit j h ∙ ap (λ x. bit_at x (j - low)) none ∙ ap (λ d. eqb d 1) (bit_at-zero (j - low))

  pub lowest_some : word < 2 ^ 64 → 0 < rest → IsLeastFrom (bit_at word) low (low + count_trailing_zeros 64 rest)
  lowest_some fits some =
      let t = count_trailing_zeros 64 rest in
      let (_, set, zeros) = bit_at-trailing_zeros w64 rest some (lt_of_le_of_lt (div-le_self word (2 ^ low)) fits) in
      record {
        from = omega arith;
        passes = sym (bit_shr word low t) ∙ ap (λ d. eqb d 1) set;
        least = λ j h l. left_bit j h ∙ ap (λ d. eqb d 1) (zeros (j - low) (omega (arith, h, l)));
      }

-- a bit that is set lies below every bound
pub bit_below : (a k m : ℕ) → bit_at a k ≡ true → a < 2 ^ m → k < m
bit_below a k m e h = elim (cases_lt k m) [
  | inl l ↦ l
  | inr l ↦ absurd (false≢true (sym (ap (λ d. eqb d 1) (bit_at_above a m k h l)) ∙ e))
]

-- from i on, where there is no member before place `low` of word k
module _ (words : List ℕ) (i k low : ℕ) (inside : k < 8) (before : (j : ℕ) → i ≤ j → j < k * 64 + low → (ltb j 512 && has_in words j) ≡ false) where
  abbrev member : ℕ → Bool
  member j = ltb j 512 && has_in words j

  abbrev bit : ℕ → Bool
  bit = bit_at (get_or words k 0)

  -- nor below place m of the word, if no bit below m is set
  none_below : (m : ℕ) → m ≤ 64 → ((j : ℕ) → low ≤ j → j < m → bit j ≡ false) → (j : ℕ) → i ≤ j → j < k * 64 + m → member j ≡ false
  none_below m short none j h l = elim (cases_lt j (k * 64 + low)) [
    | inl b ↦ before j h b
    | inr b ↦ let e : k * 64 + (j - k * 64) ≡ j = omega (arith, b) in
        ap member (sym e) ∙ word_bit words k (j - k * 64) inside (omega (arith, l, short)) ∙ none (j - k * 64) (omega (arith, b)) (omega (arith, l, b))
  ]

  pub found_here : i ≤ k * 64 + low → (x : ℕ) → x < 64 → IsLeastFrom bit low x → IsLeastFrom member i (k * 64 + x)
  found_here on x short f = record {
    from = omega (arith, on, f.from);
    passes = word_bit words k x inside short ∙ f.passes;
    least = none_below x (omega (arith, short)) f.least;
  }

  pub found_later : FindsLeast bit low None → (j : ℕ) → i ≤ j → j < (k + 1) * 64 → member j ≡ false
  found_later none j h l = none_below 64 (omega arith) (λ j h _. none j h) j h (omega (arith, l))
