-- What it is that is found first: it passes the test, and none before it does.
use Rattle.std.proofs.Common.{◌≡◌, ℕ, zero, suc, ◌+◌, ◌-◌, ◌<◌, ◌≤◌, Bool, true, false, cond, Some, None, Option, refl, sym, ap, ◌∙◌, subst, inl, inr, arith}
use Rattle.std.proofs.lemmas.Bool.{cases_eq, cases_lt}
use Rattle.nodeset.specs.Sets.{first_of, FindsLeast}

-- of the m numbers from i on
abbrev Finds : (ℕ → Bool) → ℕ → ℕ → Option ℕ → Type 0
Finds test i m None = (j : ℕ) → i ≤ j → j < i + m → test j ≡ false
Finds test i m (Some x) = (i ≤ x) × (x < i + m) × (test x ≡ true) × ((j : ℕ) → i ≤ j → j < x → test j ≡ false)

module _ (test : ℕ → Bool) where
  -- i fails the test
  later : (i m : ℕ) → test i ≡ false → (o : Option ℕ) → Finds test (i + 1) m o → Finds test i (suc m) o
  later i m e None f = λ j l u. elim (cases_eq j i) [ inl q ↦ ap test q ∙ e | inr q ↦ f j (omega arith) (omega arith) ]
  later i m e (Some x) f = (
    omega (arith, f.0),
    omega (arith, f.1),
    f.2,
    λ j l u. elim (cases_eq j i) [ inl q ↦ ap test q ∙ e | inr q ↦ f.3 j (omega arith) u ],
  )

  finds : (m i : ℕ) → Finds test i m (first_of test i m)
  finds zero i = λ j l u. absurd (omega (arith, l, u))
  finds (suc m) i = at (test i) refl (finds m (i + 1)) where
    at : (b : Bool) → test i ≡ b → Finds test (i + 1) m (first_of test (i + 1) m) → Finds test i (suc m) (cond b (Some i) (first_of test (i + 1) m))
    at true e f = (omega arith, omega arith, e, λ j l u. absurd (omega (arith, l, u)))
    at false e f = later i m e (first_of test (i + 1) m) f

  found : (m i : ℕ) (o : Option ℕ) → o ≡ first_of test i m → Finds test i m o
  found m i o e = subst (Finds test i m) (sym e) (finds m i)

  -- what is found is one of the m numbers
  pub first_below : (m i x : ℕ) → first_of test i m ≡ Some x → x < i + m
  first_below m i x e = (found m i (Some x) (sym e)).1

  -- where nothing from 512 on passes, the numbers below it are all that matter
  pub found_least : (i : ℕ) (o : Option ℕ) → ((j : ℕ) → 512 ≤ j → test j ≡ false) → o ≡ first_of test i (512 - i) → FindsLeast test i o
  found_least i None past e =
      let f = found (512 - i) i None e in
      λ j l. elim (cases_lt j 512) [ inl b ↦ f j l (omega arith) | inr b ↦ past j b ]
  found_least i (Some x) past e = let f = found (512 - i) i (Some x) e in record { from = f.0; passes = f.2; least = f.3 }
