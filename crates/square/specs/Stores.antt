-- Which places of the square a store must have.
use Rattle.std.specs.Prelude.{◌≡◌, ℕ, ◌<◌, ◌≤◌, Bool, true, false, ◌&&◌, ◌||◌, List}
use Rattle.arith.specs.Operations.{Operations, Solvers}
use Rattle.graph.specs.Columns.{any_below}
use Rattle.graph.specs.Theorems.{TwoWay}
use Rattle.plan.specs.Planned.{Arrays}
use Rattle.square.specs.Calls.{State, called, solving_called, lived}
use Rattle.square.specs.Plans.{site_of, store_of}
use Rattle.square.specs.Squares.{Site, Lengths, Square, bare}

-- A store closes over the links of a site: it has the diagonal, and (i, j) below it exactly when the labels of i and j are linked on
-- the sheet or an earlier column has both positions. Links go both ways, and the order and the positions undo each other.
pub record Closes (f : Site) (store : ℕ → ℕ → Bool) : Type 0 where
  pub diagonal : (i : ℕ) → 1 ≤ i → i ≤ f.size → store i i ≡ true
  pub column : (i j : ℕ) → 1 ≤ j → j < i → i ≤ f.size
      → store i j ≡ (f.linked (f.label i) (f.label j) || any_below (λ k. store i k && store j k) j)
  -- positions count from 1
  pub start : (i : ℕ) → store i 0 ≡ false
  pub two_way : TwoWay f.linked
  pub labels : (i : ℕ) → 1 ≤ i → i ≤ f.size → (1 ≤ f.label i) × (f.label i ≤ f.size) × (f.position (f.label i) ≡ i)
  pub positions : (a : ℕ) → 1 ≤ a → a ≤ f.size → (1 ≤ f.position a) × (f.position a ≤ f.size) × (f.label (f.position a) ≡ a)

-- The law of an arithmetic: an update with nothing changes nothing.
pub record Idle {X : Type 0} (o : Operations X) : Type 0 where
  pub row : (a d v : X) → o.updated a o.nothing d v ≡ a
  pub column : (a u d : X) → o.updated a u d o.nothing ≡ a

-- A store serves a kind of calls when the worked numbers outside it are nothing after every life: every list of such calls, with
-- tables of any lengths.
abbrev pub ServesCalls : {X C A : Type 0} → Operations X → Site → (Lengths → Square X → C → State X A) → (ℕ → ℕ → Bool) → Type 0
ServesCalls o f step store = (l : Lengths) (calls : List _) (i j : ℕ) → 1 ≤ j → j ≤ i → i ≤ f.size
    → store i j ≡ false → (lived (step l) (bare o) calls).0.worked i j ≡ o.nothing

abbrev pub Serves : {X : Type 0} → Operations X → Site → (ℕ → ℕ → Bool) → Type 0
Serves o f store = ServesCalls o f (called o f) store

-- and with solve among the calls
abbrev pub ServesSolving : {X : Type 0} → Solvers X → Site → (ℕ → ℕ → Bool) → Type 0
ServesSolving s f store = ServesCalls s.base f (solving_called s f) store

-- The places of a plan serve, and every store that serves has each of them.
pub record LeastStore {X : Type 0} (o : Operations X) (a : Arrays) : Type 0 where
  pub serves : Serves o (site_of a) (store_of a)
  pub least : (store : ℕ → ℕ → Bool) → Serves o (site_of a) store → (i j : ℕ) → 1 ≤ j → j ≤ i → i ≤ (site_of a).size → store_of a i j ≡ true → store i j ≡ true
