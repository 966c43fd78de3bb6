-- The levels that solving answers balance the entered numbers.
use Rattle.std.specs.Prelude.{◌≡◌, ℕ, zero, suc, ◌≤◌, Bool, true, false, cond, ◌&&◌, List, [], ◌∷◌, Ok, is_ok}
use Rattle.arith.specs.Fields.{Ring}
use Rattle.arith.specs.Operations.{Solvers}
use Rattle.square.specs.declared.calls.Call.TheVariants as call
use Rattle.square.specs.Calls.{SolvingCall, SolvingAnswer, between, of_label, solving_called, lived}
use Rattle.square.specs.Solution.{Vector}
use Rattle.square.specs.Squares.{Matrix, Site, Lengths, Square, bare}

-- the sum of m numbers from the one at i on
abbrev pub total : {X : Type 0} → Solvers X → Ring X → Vector X → ℕ → ℕ → X
total s r x i zero = s.base.nothing
total s r x i (suc m) = r.plus (x i) (total s r x (suc i) m)

-- whether a call asks for an elimination
abbrev pub is_eliminate : {X : Type 0} → SolvingCall X → Bool
is_eliminate (SolvingCall.plain call.Eliminate) = true
is_eliminate c = false

-- the numbers that stood entered when the last elimination was done, in the life of the calls from q on; m where none was done
abbrev pub eliminated_last : {X : Type 0} → Solvers X → Site → Lengths → Square X → Matrix X → List (SolvingCall X) → Matrix X
eliminated_last s f l q m [] = m
eliminated_last s f l q m (c ∷ cs) =
    let t = solving_called s f l q c in
    eliminated_last s f l t.0 (cond (is_eliminate c && is_ok t.1) q.entered m) cs

-- After every life, with tables of any lengths, the levels of a solve that is not refused satisfy the system that stood entered when
-- the last elimination was done: at each label a, the sum over all labels b of the number of a and b times the level of b is the
-- right side of a.
abbrev pub Balances : {X : Type 0} → Solvers X → Ring X → Site → Type 0
Balances {X} s r f = (l : Lengths) (calls : List (SolvingCall X)) (right : List X) (m : ℕ) (levels : List X)
    → (solving_called s f l (lived (solving_called s f l) (bare s.base) calls).0 (SolvingCall.solve right m)).1 ≡ Ok (SolvingAnswer.solved levels)
    → (a : ℕ) → 1 ≤ a → a ≤ f.size
    → total s r (λ b. r.times (between f (eliminated_last s f l (bare s.base) (bare s.base).entered calls) a b) (of_label s.base.nothing levels b)) 1 f.size
    ≡ of_label s.base.nothing right a
