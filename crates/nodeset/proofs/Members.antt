-- Members of a set, in its words.
use Rattle.std.proofs.Common.{◌≡◌, ℕ, ◌+◌, ◌*◌, ◌-◌, ◌/◌, ◌%◌, ◌^◌, ◌<◌, ◌≤◌, Bool, true, false, not, ◌&&◌, ◌||◌, eqb, ltb, List, length, get_or, set, sym, ap, ◌∙◌, ap₂, inl, inr, arith}
use lib.Bits.{bit_and, bit_or}
use Rattle.std.proofs.Math.Bool.{or-false, and-true, and_assoc, and_comm, and-or_distrib_left}
use Rattle.std.proofs.lemmas.Bool.{cases_eq, cases_lt, eq-eqb, ne_eqb, lt-ltb, le-ltb, false≢true}
use Rattle.std.proofs.lemmas.List.{get_or-set_same, get_or-set_other}
use Rattle.std.proofs.lemmas.Nat.{mod_below}
use Rattle.nodeset.specs.declared.sets.NodeSet.{NodeSet}
use Rattle.nodeset.specs.Sets.{bit_at, has}
use Rattle.nodeset.proofs.Bits.{bit_at-or, bit_clear, bit_pow}

-- whether words have i
abbrev pub has_in : List ℕ → ℕ → Bool
has_in words i = bit_at (get_or words (i / 64) 0) (i % 64)

-- a set has nothing from 512 on
pub has_past : (s : NodeSet) (j : ℕ) → 512 ≤ j → has s j ≡ false
has_past s j h = ap (λ t. t && has_in s.words j) (le-ltb j 512 h)

-- so each member lies below 512
pub member_below : (s : NodeSet) (x : ℕ) → has s x ≡ true → x < 512
member_below s x e = elim (cases_lt x 512) [ inl l ↦ l | inr l ↦ absurd (false≢true (sym (has_past s x l) ∙ e)) ]

-- the bits of word k are the members from 64 k on
pub word_bit : (words : List ℕ) (k i : ℕ) → k < 8 → i < 64 → (ltb (k * 64 + i) 512 && has_in words (k * 64 + i)) ≡ bit_at (get_or words k 0) i
word_bit words k i h l =
    let q : (k * 64 + i) / 64 ≡ k = omega arith in
    let r : (k * 64 + i) % 64 ≡ i = omega arith in
    ap (λ t. t && has_in words (k * 64 + i)) (lt-ltb (k * 64 + i) 512 (omega arith)) ∙ ap₂ (λ x y. bit_at (get_or words x 0) y) q r

module _ (words : List ℕ) (i : ℕ) (h : i / 64 < length words) where
  abbrev word : ℕ
  word = get_or words (i / 64) 0

  -- i has its own bit
  own_bit : (j : ℕ) → j / 64 ≡ i / 64 → eqb (i % 64) (j % 64) ≡ eqb i j
  own_bit j e = elim (cases_eq i j) [
    | inl s ↦ eq-eqb (i % 64) (j % 64) (ap (λ x. x % 64) s) ∙ sym (eq-eqb i j s)
    | inr ne ↦ ne_eqb (i % 64) (j % 64) (λ m. ne (omega (arith, m, e))) ∙ sym (ne_eqb i j ne)
  ]

  -- its word gets w for what it had: each bit by what it was, and whether it is that of i
  changed : (f : Bool → Bool → Bool) (w : ℕ) → ((k : ℕ) → k < 64 → bit_at w k ≡ f (bit_at word k) (eqb (i % 64) k)) → ((x : Bool) → f x false ≡ x)
      → (j : ℕ) → has_in (set words (i / 64) w) j ≡ f (has_in words j) (eqb i j)
  changed f w bits none j = elim (cases_eq (j / 64) (i / 64)) [
    | inl e ↦
        ap (λ x. bit_at x (j % 64)) (ap (λ q. get_or (set words (i / 64) w) q 0) e ∙ get_or-set_same words (i / 64) w 0 h)
        ∙ bits (j % 64) (mod_below j 64 (omega arith))
        ∙ ap₂ f (ap (λ q. bit_at (get_or words q 0) (j % 64)) (sym e)) (own_bit j e)
    | inr ne ↦
        ap (λ x. bit_at x (j % 64)) (get_or-set_other words (i / 64) (j / 64) w 0 ne)
        ∙ sym (ap (f (has_in words j)) (ne_eqb i j (λ e. ne (ap (λ x. x / 64) (sym e)))) ∙ none (has_in words j))
  ]

  pub inserted : (bit : ℕ) → bit ≡ 2 ^ (i % 64) → (j : ℕ)
      → (ltb j 512 && has_in (set words (i / 64) (bit_or word bit)) j) ≡ ((ltb j 512 && has_in words j) || (eqb i j && ltb j 512))
  inserted bit is j =
      ap (λ t. ltb j 512 && t) (changed (λ x y. x || y) (bit_or word bit) (λ k l. ap (λ b. bit_at (bit_or word b) k) is ∙ bit_at-or word (2 ^ (i % 64)) k ∙ ap (λ t. bit_at word k || t) (bit_pow (i % 64) k)) or-false j)
      ∙ and-or_distrib_left (ltb j 512) (has_in words j) (eqb i j) ∙ ap (λ t. (ltb j 512 && has_in words j) || t) (and_comm (ltb j 512) (eqb i j))

  pub removed : (bit : ℕ) → bit ≡ 2 ^ (i % 64) → (j : ℕ)
      → (ltb j 512 && has_in (set words (i / 64) (bit_and word (18446744073709551615 - bit))) j) ≡ ((ltb j 512 && has_in words j) && not (eqb i j))
  removed bit is j =
      ap (λ t. ltb j 512 && t) (changed (λ x y. x && not y) (bit_and word (18446744073709551615 - bit)) (λ k l. ap (λ b. bit_at (bit_and word (18446744073709551615 - b)) k) is ∙ bit_clear word (i % 64) k (mod_below i 64 (omega arith)) l) and-true j)
      ∙ sym (and_assoc (ltb j 512) (has_in words j) (not (eqb i j)))
