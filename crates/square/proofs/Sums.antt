-- Sums in a field.
use Rattle.std.proofs.Common.{◌≡◌, ℕ, zero, suc, ◌+◌, ◌<◌, ◌≤◌, Bool, cond, eqb, sym, refl, ap, ◌∙◌, ap₂, ⊎_elim, arith}
use Rattle.std.proofs.lemmas.Bool.{cases_eq}
use Rattle.std.proofs.lemmas.Bool.Decides.{nat_tests}
use Rattle.arith.specs.Fields.{Ring, Field}
use Rattle.arith.specs.Operations.{Solvers}
use Rattle.square.specs.Balance.{total}
use Rattle.square.specs.Solution.{Vector}
use Rattle.square.specs.Squares.{Site}
use Rattle.square.specs.Stores.{Closes}

module _ {X : Type 0} (s : Solvers X) (r : Ring X) (laws : Field s r) where
  infixl 20 ◌⊕◌
  abbrev ◌⊕◌ : X → X → X
  a ⊕ b = r.plus a b

  abbrev none : X
  none = s.base.nothing

  pub left_swap : (a b c : X) → a ⊕ (b ⊕ c) ≡ b ⊕ (a ⊕ c)
  left_swap a b c = sym (laws.plus_associates a b c) ∙ ap (λ x. x ⊕ c) (laws.plus_commutes a b) ∙ laws.plus_associates b a c

  cross : (a b c d : X) → (a ⊕ b) ⊕ (c ⊕ d) ≡ (a ⊕ c) ⊕ (b ⊕ d)
  cross a b c d = laws.plus_associates a b (c ⊕ d) ∙ ap (λ x. a ⊕ x) (left_swap b c d) ∙ sym (laws.plus_associates a c (b ⊕ d))

  nothing_plus : (a : X) → none ⊕ a ≡ a
  nothing_plus a = laws.plus_commutes none a ∙ laws.plus_nothing a

  pub total_same : (F G : Vector X) (a c : ℕ) → ((j : ℕ) → a ≤ j → j < a + c → F j ≡ G j) → total s r F a c ≡ total s r G a c
  total_same F G a zero h = refl
  total_same F G a (suc c) h =
      ap₂ r.plus (h a (omega arith) (omega arith)) (total_same F G (suc a) c (λ j l q. h j (omega arith) (omega arith)))

  pub total_plus : (F G : Vector X) (a c : ℕ) → total s r (λ j. F j ⊕ G j) a c ≡ total s r F a c ⊕ total s r G a c
  total_plus F G a zero = sym (laws.plus_nothing none)
  total_plus F G a (suc c) =
      ap (λ x. (F a ⊕ G a) ⊕ x) (total_plus F G (suc a) c) ∙ cross (F a) (G a) (total s r F (suc a) c) (total s r G (suc a) c)

  pub total_times : (u : X) (G : Vector X) (a c : ℕ) → total s r (λ j. r.times u (G j)) a c ≡ r.times u (total s r G a c)
  total_times u G a zero = sym (laws.times_nothing u)
  total_times u G a (suc c) =
      ap (λ x. r.times u (G a) ⊕ x) (total_times u G (suc a) c) ∙ sym (laws.times_plus u (G a) (total s r G (suc a) c))

  total_nothing : (a c : ℕ) → total s r (λ _. none) a c ≡ none
  total_nothing a zero = refl
  total_nothing a (suc c) = nothing_plus (total s r (λ _. none) (suc a) c) ∙ total_nothing (suc a) c

  -- rows first or columns first
  total_swap : (F : ℕ → Vector X) (a c b d : ℕ) → total s r (λ i. total s r (F i) b d) a c ≡ total s r (λ j. total s r (λ i. F i j) a c) b d
  total_swap F a zero b d = sym (total_nothing b d)
  total_swap F a (suc c) b d =
      ap (λ x. total s r (F a) b d ⊕ x) (total_swap F (suc a) c b d) ∙ sym (total_plus (F a) (λ j. total s r (λ i. F i j) (suc a) c) b d)

  -- the sum of numbers that are nothing but one
  abbrev only : ℕ → X → Vector X
  only k x j = cond (eqb j k) x none

  only_none : (k : ℕ) (x : X) (a c : ℕ) → ((j : ℕ) → a ≤ j → j < a + c → j ≡ k → ⊥) → total s r (only k x) a c ≡ none
  only_none k x a c h = total_same (only k x) (λ _. none) a c (λ j l q. grind (arith, nat_tests, h j l q)) ∙ total_nothing a c

  only_one : (k : ℕ) (x : X) (a c : ℕ) → a ≤ k → k < a + c → total s r (only k x) a c ≡ x
  only_one k x a zero l h = absurd (omega arith)
  only_one k x a (suc c) l h =
      ⊎_elim (λ (e : a ≡ k). ap₂ r.plus (grind (arith, nat_tests, e)) (only_none k x (suc a) c (λ j u v w. omega arith)) ∙ laws.plus_nothing x)
      (λ (e : a ≡ k → ⊥). ap₂ r.plus (grind (arith, nat_tests, e)) (only_one k x (suc a) c (omega (arith, e)) (omega arith)) ∙ nothing_plus x)
      (cases_eq a k)

  -- a sum over all labels, in the order of their positions
  pub total_by_position : (f : Site) (store : ℕ → ℕ → Bool) → Closes f store → (G : Vector X)
      → total s r G 1 f.size ≡ total s r (λ j. G (f.label j)) 1 f.size
  total_by_position f store close G =
      let n = f.size in
      total_same G (λ b. total s r (only (f.position b) (G b)) 1 n) 1 n
      (λ b l h. let range = close.positions b l (omega arith) in sym (only_one (f.position b) (G b) 1 n range.0 (omega (arith, range.1))))
      ∙ total_swap (λ b. only (f.position b) (G b)) 1 n 1 n
      ∙ total_same (λ j. total s r (λ b. only (f.position b) (G b) j) 1 n) (λ j. G (f.label j)) 1 n
      (λ j l h. let range = close.labels j l (omega arith) in
      total_same (λ b. only (f.position b) (G b) j) (only (f.label j) (G (f.label j))) 1 n (λ b u v. same j l (omega arith) b u (omega arith))
      ∙ only_one (f.label j) (G (f.label j)) 1 n range.0 (omega (arith, range.1)))
    where
      same : (j : ℕ) → 1 ≤ j → j ≤ f.size → (b : ℕ) → 1 ≤ b → b ≤ f.size → cond (eqb j (f.position b)) (G b) none ≡ cond (eqb b (f.label j)) (G (f.label j)) none
      same j l h b u v = grind (arith, nat_tests, close.labels j l h, close.positions b u v)
