-- One position's part in the two passes of a solve.
use Rattle.std.specs.Prelude.{◌≡◌, ℕ, ◌-◌, ◌<◌, ◌≤◌, List}
use Rattle.arith.specs.Operations.{Solvers}
use Rattle.plan.specs.Lookups.{size_in}
use Rattle.plan.specs.Planned.{Arrays}
use Rattle.square.specs.Calls.{by_position}
use Rattle.square.specs.Plans.{site_of}
use Rattle.square.specs.Solution as back
use Rattle.square.specs.Solution.{Vector}
pub use Rattle.square.specs.Solution.{forward_step}
use Rattle.square.specs.Squares.{Matrix}

-- position k, of n, comes back by those after it
abbrev pub backward_step : {X : Type 0} → Solvers X → Matrix X → ℕ → ℕ → Vector X → Vector X
backward_step s w n k = back.backward_step s w (n - k) k

-- at every position of a plan, a table by label goes from `before` to `after` by a step
abbrev pub Moves : {X : Type 0} → X → Arrays → (Vector X → Vector X) → List X → List X → Type 0
Moves nothing a step before after =
    (i : ℕ) → 0 < i → i ≤ size_in a → by_position nothing (site_of a) after i ≡ step (by_position nothing (site_of a) before) i
