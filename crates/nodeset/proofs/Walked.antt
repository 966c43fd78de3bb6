-- The members of a set counted, from one to the next: for the invariants of loops.
use Rattle.std.proofs.Common.{◌≡◌, ℕ, zero, suc, ◌+◌, ◌<◌, ◌≤◌, Bool, false, cond, ap, ap₂, ◌∙◌, sym, inl, inr, arith}
use Rattle.std.proofs.lemmas.Bool.{cases_eq}
use Rattle.nodeset.specs.Sets.{count_below, IsLeastFrom}

-- as many pass a test below j as below i, where none from i on does
pub count_skip : (test : ℕ → Bool) (i j : ℕ) → i ≤ j → ((k : ℕ) → i ≤ k → k < j → test k ≡ false) → count_below test j ≡ count_below test i
count_skip test i zero h off = let e : zero ≡ i = omega (arith, h) in ap (count_below test) e
count_skip test i (suc j) h off = elim (cases_eq i (suc j)) [
  | inl e ↦ ap (count_below test) (sym e)
  | inr ne ↦
      let z : count_below test j + 0 ≡ count_below test j = omega arith in
      ap (λ b. count_below test j + cond b 1 0) (off j (omega (arith, h, ne)) (omega arith)) ∙ z ∙ count_skip test i j (omega (arith, h, ne)) (λ k l u. off k l (omega (arith, u)))
]

-- one more up to the next one
pub count_next : (test : ℕ → Bool) (i x : ℕ) → IsLeastFrom test i x → count_below test (x + 1) ≡ count_below test i + 1
count_next test i x next = let e : x + 1 ≡ suc x = omega arith in ap (count_below test) e ∙ ap₂ (λ n b. n + cond b 1 0) (count_skip test i x next.from next.least) next.passes
