-- Solving in the full square, for right sides by position.
use Rattle.std.specs.Prelude.{ℕ, zero, suc, ◌-◌, cond, ◌==◌, nat_lt}
use Rattle.arith.specs.Operations.{Operations, Solvers}
use Rattle.square.specs.Squares.{Matrix}

-- a number at each position
abbrev pub Vector : Type 0 → Type 0
Vector X = ℕ → X

-- position k goes forward: each later number is updated by that of k
abbrev pub forward_step : {X : Type 0} → Operations X → Matrix X → ℕ → Vector X → Vector X
forward_step o w k y i = cond (nat_lt k i) (o.updated (y i) (w i k) (w k k) (y k)) (y i)

-- the right sides after the first k positions went
abbrev pub forward : {X : Type 0} → Operations X → Matrix X → Vector X → ℕ → Vector X
forward o w b zero = b
forward o w b (suc k) = forward_step o w (suc k) (forward o w b k)

-- b, from which the m positions from i on are taken in turn, by their numbers in column k
abbrev pub taken_from : {X : Type 0} → Solvers X → Matrix X → ℕ → Vector X → X → ℕ → ℕ → X
taken_from s w k y b i zero = b
taken_from s w k y b i (suc m) = taken_from s w k y (s.taken b (w i k) (y i)) (suc i) m

-- position k comes back: what the m later ones leave of its number, over its pivot
abbrev pub backward_step : {X : Type 0} → Solvers X → Matrix X → ℕ → ℕ → Vector X → Vector X
backward_step s w m k y i = cond (i == k) (s.divided (taken_from s w k y (y k) (suc k) m) (w k k)) (y i)

-- the levels after the last m of n positions came back
abbrev pub backward : {X : Type 0} → Solvers X → Matrix X → ℕ → Vector X → ℕ → Vector X
backward s w n z zero = z
backward s w n z (suc m) = backward_step s w m (n - m) (backward s w n z m)

-- the levels of n positions for right sides b
abbrev pub solution : {X : Type 0} → Solvers X → Matrix X → ℕ → Vector X → Vector X
solution s w n b = backward s w n (forward s.base w b n) n
