-- The steps of the full square in turn, and where they stick.
use Rattle.std.proofs.Common.{◌≡◌, ℕ, zero, suc, ◌+◌, ◌-◌, ◌<◌, eqb, Some, None, sym, ap, ◌∙◌, arith}
use mathlib.Core.Path.{fun_ext}
use Rattle.std.proofs.lemmas.Bool.{cond-true, cond-false, eq-eqb, ne_eqb}
use Rattle.arith.specs.Operations.{Operations}
use Rattle.square.specs.Elimination.{reduced, stepped, eliminated}
use Rattle.square.specs.Squares.{Matrix}

module _ {X : Type 0} (o : Operations X) (m : Matrix X) where
  -- after a step that sticks nothing moves
  stays : (w : Matrix X) (at : ℕ × ℕ) (k d n : ℕ) → k + d ≡ n → eliminated o m k ≡ record { numbers = w; stuck = Some at } → eliminated o m n ≡ record { numbers = w; stuck = Some at }
  stays w at k zero n e run = let same : n ≡ k = omega arith in ap (eliminated o m) same ∙ run
  stays w at k (suc d) n e run =
      let same : n ≡ suc (k + d) = omega arith in
      ap (eliminated o m) same ∙ ap (λ u. stepped o (suc (k + d)) u.numbers u.stuck) (stays w at k d (k + d) (omega arith) run)

  module _ (k : ℕ) (w : Matrix X) (run : eliminated o m k ≡ record { numbers = w; stuck = None }) where
    step : eliminated o m (suc k) ≡ stepped o (suc k) w None
    step = ap (λ u. stepped o (suc k) u.numbers u.stuck) run

    pub run_stuck : (n : ℕ) → k < n → (o.judged (w (suc k) (suc k)) ≡ 0 → ⊥)
        → eliminated o m n ≡ record { numbers = w; stuck = Some (suc k, o.judged (w (suc k) (suc k))) }
    run_stuck n h bad =
        stays w (suc k, o.judged (w (suc k) (suc k))) (suc k) (n - suc k) n (omega arith)
        (step ∙ cond-false (eqb (o.judged (w (suc k) (suc k))) 0) _ _ (ne_eqb _ 0 bad))

    -- a step whose diagonal is a pivot
    pub run_more : (v : Matrix X) → o.judged (w (suc k) (suc k)) ≡ 0 → ((i j : ℕ) → v i j ≡ reduced o (suc k) w i j)
        → eliminated o m (suc k) ≡ record { numbers = v; stuck = None }
    run_more v good is =
        step ∙ cond-true (eqb (o.judged (w (suc k) (suc k))) 0) _ _ (eq-eqb _ 0 good)
        ∙ ap (λ (z : Matrix _). record { numbers = z; stuck = None }) (sym (fun_ext (λ i. fun_ext (λ j. is i j))))
