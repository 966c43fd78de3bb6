-- Sets of numbers below 512.
use Rattle.std.specs.Prelude.{◌≡◌, ℕ, zero, suc, ◌+◌, ◌/◌, ◌%◌, ◌^◌, ◌<◌, ◌≤◌, Bool, true, false, cond, ◌&&◌, Some, None, Option, ◌==◌, nat_lt, slice_index}
use Rattle.nodeset.specs.declared.sets.NodeSet.{NodeSet}

-- bit k of a number
abbrev pub bit_at : ℕ → ℕ → Bool
bit_at word k = word / 2 ^ k % 2 == 1

-- whether a set has i: bit i % 64 of word i / 64, for an i below 512
abbrev pub has : NodeSet → ℕ → Bool
has s i = nat_lt i 512 && bit_at (slice_index s.words (i / 64)) (i % 64)

-- how many numbers below m pass a test
abbrev pub count_below : (ℕ → Bool) → ℕ → ℕ
count_below test zero = 0
count_below test (suc m) = count_below test m + cond (test m) 1 0

-- the first of m numbers from i on that passes a test
abbrev pub first_of : (ℕ → Bool) → ℕ → ℕ → Option ℕ
first_of test i zero = None
first_of test i (suc m) = cond (test i) (Some i) (first_of test (i + 1) m)

-- x is the least number from i on that passes a test
pub record IsLeastFrom (test : ℕ → Bool) (i x : ℕ) : Type 0 where
  pub from : i ≤ x
  pub passes : test x ≡ true
  pub least : (j : ℕ) → i ≤ j → j < x → test j ≡ false

-- what is found from i on: the least number that passes a test, or that none does
abbrev pub FindsLeast : (ℕ → Bool) → ℕ → Option ℕ → Type 0
FindsLeast test i None = (j : ℕ) → i ≤ j → test j ≡ false
FindsLeast test i (Some x) = IsLeastFrom test i x
