-- Elimination in the full square.
use Rattle.std.specs.Prelude.{ℕ, zero, suc, cond, ◌&&◌, Some, None, Option, ◌==◌, nat_le, nat_lt}
use Rattle.arith.specs.Operations.{Operations}
use Rattle.square.specs.Squares.{Matrix}

-- position k goes: every number beyond it is updated by the two that it has in column k
abbrev pub reduced : {X : Type 0} → Operations X → ℕ → Matrix X → Matrix X
reduced o k m i j = cond (nat_lt k j && nat_le j i) (o.updated (m i j) (m i k) (m k k) (m j k)) (m i j)

-- the numbers after the steps so far, and the position and the cause at which they stuck, if they did
pub record Work (X : Type 0) : Type 0 where
  pub numbers : Matrix X
  pub stuck : Option (ℕ × ℕ)

-- the step of position k, unless an earlier one stuck
abbrev pub stepped : {X : Type 0} → Operations X → ℕ → Matrix X → Option (ℕ × ℕ) → Work X
stepped o k m None =
    cond (o.judged (m k k) == 0) (record { numbers = reduced o k m; stuck = None })
    (record { numbers = m; stuck = Some (k, o.judged (m k k)) })
stepped o k m (Some at) = record { numbers = m; stuck = Some at }

-- the steps of the first k positions
abbrev pub eliminated : {X : Type 0} → Operations X → Matrix X → ℕ → Work X
eliminated o m zero = record { numbers = m; stuck = None }
eliminated o m (suc k) = let w = eliminated o m k in stepped o (suc k) w.numbers w.stuck
