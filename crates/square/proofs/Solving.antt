-- From the last position to the first, each number more solves a system one step less reduced.
use Rattle.std.proofs.Common.{◌≡◌, ℕ, zero, suc, ◌+◌, ◌-◌, ◌≤◌, eqb, ltb, Some, None, Option, sym, refl, ap, ◌∙◌, ap₂, ⊎_elim, arith}
use Rattle.std.proofs.lemmas.Bool.{lt-ltb, eq-eqb, cond-true, cases_eq}
use Rattle.std.proofs.lemmas.Bool.Decides.{nat_tests}
use Rattle.arith.specs.Fields.{Ring, Field}
use Rattle.arith.specs.Operations.{Operations, Solvers}
use Rattle.square.specs.Balance.{total}
use Rattle.square.specs.Elimination.{reduced, stepped, eliminated}
use Rattle.square.specs.Solution.{Vector, forward, taken_from, backward, solution}
use Rattle.square.specs.Squares.{Matrix}
use Rattle.square.proofs.Schur.{symmetric, taken_plus, schur}
use Rattle.square.proofs.Sums.{total_same}

-- what it tells of a step that it did not stick
record Stepped {X : Type 0} (o : Operations X) (k : ℕ) (m : Matrix X) (stuck : Option (ℕ × ℕ)) : Type 0 where
  fine : stuck ≡ None
  pivot : o.judged (m k k) ≡ 0
  numbers_are : (stepped o k m stuck).numbers ≡ reduced o k m

step_tells : {X : Type 0} (o : Operations X) (k : ℕ) (m : Matrix X) (stuck : Option (ℕ × ℕ)) → (stepped o k m stuck).stuck ≡ None → Stepped o k m stuck
step_tells o k m (Some at) e = grind arith
step_tells o k m None e = record { fine = refl; pivot = grind (arith, nat_tests); numbers_are = grind (arith, nat_tests) }

-- a step leaves the columns up to its own
step_stays : {X : Type 0} (o : Operations X) (k : ℕ) (m : Matrix X) (stuck : Option (ℕ × ℕ)) (i j : ℕ) → j ≤ k → (stepped o k m stuck).numbers i j ≡ m i j
step_stays o k m (Some at) i j l = refl
step_stays o k m None i j l = grind (arith, nat_tests)

module _ {X : Type 0} (o : Operations X) (a : Matrix X) where
  -- the next column is settled after k steps
  column_stays : (k n i : ℕ) → k ≤ n → (eliminated o a n).numbers i (suc k) ≡ (eliminated o a k).numbers i (suc k)
  column_stays k zero i h = grind arith
  column_stays k (suc n) i h =
      let w = eliminated o a n in
      ⊎_elim (λ (q : k ≡ suc n). ap (λ x. (eliminated o a x).numbers i (suc k)) (sym q))
      (λ (q : k ≡ suc n → ⊥). step_stays o (suc n) w.numbers w.stuck i (suc k) (omega (arith, q)) ∙ column_stays k n i (omega (arith, q)))
      (cases_eq k (suc n))

  -- where no step stuck, none of the first k did
  fine_before : (k n : ℕ) → k ≤ n → (eliminated o a n).stuck ≡ None → (eliminated o a k).stuck ≡ None
  fine_before k zero h e = grind arith
  fine_before k (suc n) h e =
      let w = eliminated o a n in
      ⊎_elim (λ (q : k ≡ suc n). ap (λ x. (eliminated o a x).stuck) q ∙ e)
      (λ (q : k ≡ suc n → ⊥). fine_before k n (omega (arith, q)) (step_tells o (suc n) w.numbers w.stuck e).fine)
      (cases_eq k (suc n))

  -- and so is the next right side
  forward_stays : (w : Matrix X) (b : Vector X) (k n : ℕ) → k ≤ n → forward o w b n (suc k) ≡ forward o w b k (suc k)
  forward_stays w b k zero h = grind arith
  forward_stays w b k (suc n) h = grind (arith, nat_tests, forward_stays w b k n)

-- back substitution has not yet come to the positions before the last c
backward_untouched : {X : Type 0} (s : Solvers X) (w : Matrix X) (n : ℕ) (z : Vector X) (c j : ℕ) → j + c ≤ n → backward s w n z c j ≡ z j
backward_untouched s w n z zero j h = refl
backward_untouched s w n z (suc c) j h = grind (arith, nat_tests, backward_untouched s w n z c j)

module _ {X : Type 0} (s : Solvers X) (r : Ring X) (laws : Field s r) (n : ℕ) (a : Matrix X) (b : Vector X)
    (fine : (eliminated s.base a n).stuck ≡ None) where
  abbrev w : Matrix X
  w = (eliminated s.base a n).numbers

  abbrev z : ℕ → Vector X
  z k = forward s.base w b k

  abbrev y : ℕ → Vector X
  y c = backward s w n (z n) c

  abbrev m : ℕ → Matrix X
  m k = (eliminated s.base a k).numbers

  -- the last c numbers solve the system after k steps, where k + c is n
  solves_from : (c k : ℕ) → k + c ≡ n → (i : ℕ) → suc k ≤ i → i ≤ n → total s r (λ j. r.times (symmetric (m k) i j) (y c j)) (suc k) c ≡ z k i
  solves_from zero k e i l h = absurd (omega arith)
  solves_from (suc c) k e i l h =
      let o = s.base in
      let p = suc k in
      let at : n - c ≡ p = omega arith in
      let step = step_tells o p (m k) (eliminated o a k).stuck (fine_before o a p n (omega arith) fine) in
      let column : (i : ℕ) → w i p ≡ m k i p = λ i. column_stays o a k n i (omega arith) in
      let start : y c p ≡ z k p = backward_untouched s w n (z n) c p (omega arith) ∙ forward_stays o a w b k n (omega arith) in
      let t = taken_from s w p (y c) (y c p) (suc p) c in
      let later : (j : ℕ) → suc p ≤ j → y (suc c) j ≡ y c j = λ j lj. grind (arith, nat_tests) in
      let last : y (suc c) p ≡ r.times t (r.inverse (m k p p)) =
      cond-true (eqb p (n - c)) _ _ (eq-eqb p (n - c) (sym at))
      ∙ ap (λ x. s.divided (taken_from s w x (y c) (y c x) (suc x) c) (w x x)) at
      ∙ ap (s.divided t) (column p) ∙ laws.divides t (m k p p) step.pivot in
      let sum : r.plus t (total s r (λ j. r.times (m k j p) (y (suc c) j)) (suc p) c) ≡ z k p =
      ap (r.plus t) (total_same s r laws (λ j. r.times (m k j p) (y (suc c) j)) (λ j. r.times (w j p) (y c j)) (suc p) c
      (λ j lj q. ap₂ r.times (sym (column j)) (later j lj)))
      ∙ taken_plus s r laws w p (y c) (y c p) (suc p) c ∙ start in
      schur s r laws (m k) p step.pivot c (z k) (y (suc c)) t last sum
      (λ x lx hx.
      total_same s r laws (λ j. r.times (symmetric (reduced o p (m k)) x j) (y (suc c) j)) (λ j. r.times (symmetric (m p) x j) (y c j)) (suc p) c
      (λ j lj q. ap₂ r.times (ap (λ (u : Matrix X). symmetric u x j) (sym step.numbers_are)) (later j lj))
      ∙ solves_from c p (omega arith) x lx (omega arith)
      ∙ cond-true (ltb p x) _ _ (lt-ltb p x lx)
      ∙ ap₂ (λ u d. o.updated (z k x) u d (z k p)) (column x) (column p))
      i l (omega arith)

  -- the levels by position solve the system by position
  pub solution_solves : (i : ℕ) → 1 ≤ i → i ≤ n → total s r (λ j. r.times (symmetric a i j) (solution s w n b j)) 1 n ≡ b i
  solution_solves i l h = solves_from n 0 (omega arith) i l h
