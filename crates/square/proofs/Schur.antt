-- One step of the elimination: what solves the reduced system, with one number more by back substitution, solves the system before.
use Rattle.std.proofs.Common.{◌≡◌, ℕ, zero, suc, ◌+◌, ◌<◌, ◌≤◌, min, max, sym, ap, ◌∙◌, ap₂, ⊎_elim, arith}
use Rattle.std.proofs.lemmas.Bool.{cases_eq}
use Rattle.std.proofs.lemmas.Bool.Decides.{nat_tests}
use Rattle.arith.specs.Fields.{Ring, Field}
use Rattle.arith.specs.Operations.{Solvers}
use Rattle.square.specs.Balance.{total}
use Rattle.square.specs.Elimination.{reduced}
use Rattle.square.specs.Solution.{Vector, taken_from}
use Rattle.square.specs.Squares.{Matrix}
use Rattle.square.proofs.Sums.{left_swap, total_same, total_plus, total_times}

-- the whole matrix that its lower triangle gives
abbrev pub symmetric : {X : Type 0} → Matrix X → Matrix X
symmetric m i j = m (max i j) (min i j)

module _ {X : Type 0} (s : Solvers X) (r : Ring X) (laws : Field s r) where
  infixl 20 ◌⊕◌
  abbrev ◌⊕◌ : X → X → X
  a ⊕ b = r.plus a b

  infixl 30 ◌⊗◌
  abbrev ◌⊗◌ : X → X → X
  a ⊗ b = r.times a b

  plus_times : (a b c : X) → (a ⊕ b) ⊗ c ≡ (a ⊗ c) ⊕ (b ⊗ c)
  plus_times a b c = laws.times_commutes (a ⊕ b) c ∙ laws.times_plus c a b ∙ ap₂ r.plus (laws.times_commutes c a) (laws.times_commutes c b)

  -- what is taken is the sum
  pub taken_plus : (w : Matrix X) (k : ℕ) (y : Vector X) (b : X) (i c : ℕ)
      → taken_from s w k y b i c ⊕ total s r (λ j. w j k ⊗ y j) i c ≡ b
  taken_plus w k y b i zero = laws.plus_nothing b
  taken_plus w k y b i (suc c) =
      let t = s.taken b (w i k) (y i) in
      let rest = total s r (λ j. w j k ⊗ y j) (suc i) c in
      left_swap s r laws (taken_from s w k y t (suc i) c) (w i k ⊗ y i) rest
      ∙ ap (λ x. (w i k ⊗ y i) ⊕ x) (taken_plus w k y t (suc i) c)
      ∙ laws.plus_commutes (w i k ⊗ y i) t
      ∙ ap (λ x. x ⊕ (w i k ⊗ y i)) (laws.takes b (w i k) (y i))
      ∙ laws.minus_plus b (w i k ⊗ y i)

  module _ (m : Matrix X) (k : ℕ) (pivot : s.base.judged (m k k) ≡ 0) where
    abbrev v : X
    v = r.inverse (m k k)

    -- a number beyond k, from the reduced one
    entry : (i j : ℕ) → k < i → k < j → symmetric m i j ≡ symmetric (reduced s.base k m) i j ⊕ (m i k ⊗ (v ⊗ m j k))
    entry i j li lj =
        let hi = max i j in
        let lo = min i j in
        let part = (m lo k ⊗ v) ⊗ m hi k in
        let step : reduced s.base k m hi lo ≡ r.minus (m hi lo) part = grind (arith, nat_tests, laws.updates (m hi lo) (m hi k) (m k k) (m lo k) pivot) in
        let turned = laws.times_associates (m i k) v (m j k) in
        let straight = laws.times_commutes (m j k ⊗ v) (m i k) ∙ ap (λ x. m i k ⊗ x) (laws.times_commutes (m j k) v) in
        sym (laws.minus_plus (m hi lo) part) ∙ ap₂ r.plus (sym step) (grind (arith, turned, straight))

    module _ (c : ℕ) (z y : Vector X) (t : X)
        (last : y k ≡ t ⊗ v) (sum : t ⊕ total s r (λ j. m j k ⊗ y j) (suc k) c ≡ z k) where
      rest : X
      rest = total s r (λ j. m j k ⊗ y j) (suc k) c

      pivot_row : total s r (λ j. symmetric m k j ⊗ y j) k (suc c) ≡ z k
      pivot_row =
          let here : symmetric m k k ≡ m k k = grind arith in
          ap₂ r.plus
          (ap₂ r.times here (last ∙ laws.times_commutes t v) ∙ sym (laws.times_associates (m k k) v t)
          ∙ ap (λ x. x ⊗ t) (laws.inverts (m k k) pivot) ∙ laws.times_commutes r.one t ∙ laws.times_one t)
          (total_same s r laws (λ j. symmetric m k j ⊗ y j) (λ j. m j k ⊗ y j) (suc k) c (λ j l q. grind arith))
          ∙ sum

      later_row : (i : ℕ) → k < i
          → total s r (λ j. symmetric (reduced s.base k m) i j ⊗ y j) (suc k) c ≡ s.base.updated (z i) (m i k) (m k k) (z k)
          → total s r (λ j. symmetric m i j ⊗ y j) k (suc c) ≡ z i
      unfolding rest
      later_row i l reduced-row =
          let u = m i k in
          let R : Vector X = λ j. symmetric (reduced s.base k m) i j in
          let here : symmetric m i k ≡ u = grind arith in
          let b = (z k ⊗ v) ⊗ u in
          let split : total s r (λ j. symmetric m i j ⊗ y j) (suc k) c ≡ total s r (λ j. R j ⊗ y j) (suc k) c ⊕ (u ⊗ (v ⊗ rest)) =
          total_same s r laws (λ j. symmetric m i j ⊗ y j) (λ j. (R j ⊗ y j) ⊕ (u ⊗ (v ⊗ (m j k ⊗ y j)))) (suc k) c
          (λ j lj q. ap (λ x. x ⊗ y j) (entry i j l lj) ∙ plus_times (R j) (u ⊗ (v ⊗ m j k)) (y j)
          ∙ ap (λ x. (R j ⊗ y j) ⊕ x) (laws.times_associates u (v ⊗ m j k) (y j) ∙ ap (λ x. u ⊗ x) (laws.times_associates v (m j k) (y j))))
          ∙ total_plus s r laws (λ j. R j ⊗ y j) (λ j. u ⊗ (v ⊗ (m j k ⊗ y j))) (suc k) c
          ∙ ap (λ x. total s r (λ j. R j ⊗ y j) (suc k) c ⊕ x)
          (total_times s r laws u (λ j. v ⊗ (m j k ⊗ y j)) (suc k) c ∙ ap (λ x. u ⊗ x) (total_times s r laws v (λ j. m j k ⊗ y j) (suc k) c)) in
          let row : total s r (λ j. R j ⊗ y j) (suc k) c ≡ r.minus (z i) b = reduced-row ∙ laws.updates (z i) u (m k k) (z k) pivot in
          let both : (u ⊗ y k) ⊕ (u ⊗ (v ⊗ rest)) ≡ b =
          ap (λ x. (u ⊗ x) ⊕ (u ⊗ (v ⊗ rest))) (last ∙ laws.times_commutes t v)
          ∙ sym (laws.times_plus u (v ⊗ t) (v ⊗ rest))
          ∙ ap (λ x. u ⊗ x) (sym (laws.times_plus v t rest) ∙ ap (λ x. v ⊗ x) sum ∙ laws.times_commutes v (z k))
          ∙ laws.times_commutes u (z k ⊗ v) in
          ap (λ x. (x ⊗ y k) ⊕ total s r (λ j. symmetric m i j ⊗ y j) (suc k) c) here
          ∙ ap (λ x. (u ⊗ y k) ⊕ x) (split ∙ ap (λ x. x ⊕ (u ⊗ (v ⊗ rest))) row)
          ∙ left_swap s r laws (u ⊗ y k) (r.minus (z i) b) (u ⊗ (v ⊗ rest))
          ∙ ap (λ x. r.minus (z i) b ⊕ x) both
          ∙ laws.minus_plus (z i) b

      -- the Schur complement step
      pub schur : ((i : ℕ) → k < i → i < k + suc c
          → total s r (λ j. symmetric (reduced s.base k m) i j ⊗ y j) (suc k) c ≡ s.base.updated (z i) (m i k) (m k k) (z k))
          → (i : ℕ) → k ≤ i → i < k + suc c → total s r (λ j. symmetric m i j ⊗ y j) k (suc c) ≡ z i
      schur rows i l h =
          ⊎_elim (λ (e : k ≡ i). ap (λ a. total s r (λ j. symmetric m a j ⊗ y j) k (suc c)) (sym e) ∙ pivot_row ∙ ap z e)
          (λ (e : k ≡ i → ⊥). let after : k < i = omega (arith, e) in later_row i after (rows i after h))
          (cases_eq k i)
