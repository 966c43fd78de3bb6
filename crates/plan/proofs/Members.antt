-- The members of a row, from one to the next.
use Rattle.std.proofs.Common.{◌≡◌, ℕ, ◌<◌, ◌≤◌, Bool, true, false, Some, None, sym, ◌∙◌, inl, inr}
use Rattle.std.proofs.lemmas.Bool.{cases_lt, true≢false}
use Rattle.nodeset.specs.Sets.{FindsLeast}

-- a is the next number from `at` on that passes the test, which none from n on does
pub record Next (n : ℕ) (test : ℕ → Bool) (at a : ℕ) : Type 0 where
  pub low : at ≤ a
  pub high : a < n
  pub here : test a ≡ true
  pub between : (x : ℕ) → at ≤ x → x < a → test x ≡ false

module _ (row test : ℕ → Bool) (is : (b : ℕ) → row b ≡ test b) (at : ℕ) where
  pub walk_some : (n a : ℕ) → ((b : ℕ) → n ≤ b → test b ≡ false) → FindsLeast row at (Some a) → Next n test at a
  walk_some n a off found = record {
    low = found.from;
    high = elim (cases_lt a n) [ inl h ↦ h | inr h ↦ absurd (true≢false (sym found.passes ∙ is a ∙ off a h)) ];
    here = sym (is a) ∙ found.passes;
    between = λ x l h. sym (is x) ∙ found.least x l h;
  }

  pub walk_none : FindsLeast row at None → (x : ℕ) → at ≤ x → test x ≡ false
  walk_none found x l = sym (is x) ∙ found x l
