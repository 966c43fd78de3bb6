-- Outside a store that closes, no life leaves anything.
use Rattle.std.proofs.Common.{◌≡◌, ℕ, zero, suc, ◌<◌, ◌≤◌, Bool, false, ◌&&◌, eqb, length, Some, None, Option, refl, arith}
use Rattle.std.proofs.lemmas.Bool.{cond_both}
use Rattle.std.proofs.lemmas.Bool.Decides.{nat_tests}
use Rattle.arith.specs.Operations.{Operations, Solvers}
use Rattle.graph.proofs.Below.{none_below}
use Rattle.plan.specs.Planned.{Arrays, Keeps}
use Rattle.square.specs.declared.calls.Call.{Call}
use Rattle.square.specs.declared.calls.Call.TheVariants.{Clear, Set, Eliminate, Read, Tally}
use Rattle.square.specs.Calls.{State, SolvingCall, clear_refusal, set_refusal, eliminate_refusal, read_refusal, solve_refusal, row_of, column_of, written, called, solving_called}
use Rattle.square.specs.Elimination.{Work, reduced, stepped, eliminated}
use Rattle.square.specs.Plans.{site_of, store_of}
use Rattle.square.specs.Squares.{Matrix, Site, Lengths, Square, bare}
use Rattle.square.specs.Stores.{Closes, Idle, ServesCalls, Serves, ServesSolving}
use Rattle.square.proofs.Lives.{lived_keeps, unless_keeps, Settable, settable}
use Rattle.square.proofs.Places.{closes}

module _ {X : Type 0} (o : Operations X) (f : Site) (store : ℕ → ℕ → Bool) where
  -- nothing stands outside the store
  abbrev Within : Matrix X → Type 0
  Within m = (i j : ℕ) → 1 ≤ j → j ≤ i → i ≤ f.size → store i j ≡ false → m i j ≡ o.nothing

  abbrev Both : Square X → Type 0
  Both q = Within q.entered × Within q.worked

  -- calls of a kind that keep it so are served
  kept_serve : {C A : Type 0} (step : Lengths → Square X → C → State X A) → ((l : Lengths) (q : Square X) (c : C) → Both q → Both (step l q c).0)
      → ServesCalls o f step store
  kept_serve step keeps l calls i j low ji h e =
      (lived_keeps (step l) Both (keeps l) (bare o) calls (λ i j _ _ _ _. refl, λ i j _ _ _ _. refl)).1 i j low ji h e

  module _ (idle : Idle o) (close : Closes f store) where
    -- what is outside lies below the diagonal
    below : (i j : ℕ) → 1 ≤ j → j ≤ i → i ≤ f.size → store i j ≡ false → j < i
    below i j low l h e = grind (arith, nat_tests, close.diagonal j)

    -- of a place outside, one of the two numbers that update it is outside
    reduced_within : (k : ℕ) (m : Matrix X) → 1 ≤ k → Within m → Within (reduced o k m)
    reduced_within k m first w i j low l h e =
        let both : ℕ → Bool = λ n. store i n && store j n in
        let ji = below i j low l h e in
        grind (arith, nat_tests, w i j, w i k, w j k, idle.row (m i j) (m k k) (m j k), idle.column (m i j) (m i k) (m k k), close.column i j low ji h, none_below both j k)

    stepped_within : (k : ℕ) (m : Matrix X) (stuck : Option (ℕ × ℕ)) → 1 ≤ k → Within m → Within (stepped o k m stuck).numbers
    stepped_within k m None first w =
        cond_both (eqb (o.judged (m k k)) 0) _ _ (λ (x : Work X). Within x.numbers) (λ _. reduced_within k m first w) (λ _. w)
    stepped_within k m (Some at) first w = w

    eliminated_within : (m : Matrix X) (k : ℕ) → Within m → Within (eliminated o m k).numbers
    eliminated_within m zero w = w
    eliminated_within m (suc k) w =
        let u = eliminated o m k in stepped_within (suc k) u.numbers u.stuck (omega arith) (eliminated_within m k w)

    -- numbers are set on the diagonal and at links
    written_within : (m : Matrix X) (a b : ℕ) (x : X) → Settable f a b → Within m → Within (written m (row_of f a b) (column_of f a b) x)
    written_within m a b x fits w i j low l h e =
        let ji = below i j low l h e in
        grind (arith, nat_tests, fits, w i j, close.positions a, close.positions b, close.two_way a b, close.column i j low ji h)

    called_within : (l : Lengths) (q : Square X) (c : Call X) → Both q → Both (called o f l q c).0
    called_within l q Clear w = unless_keeps Both (clear_refusal f l) q _ w (λ _. (λ i j _ _ _ _. refl, λ i j _ _ _ _. refl))
    called_within l q (Set a b x) w =
        unless_keeps Both (set_refusal f l q.standing a b) q _ w
        (λ none. (written_within q.entered a b x (settable f l q.standing a b none) w.0, w.1))
    called_within l q Eliminate w =
        unless_keeps Both (eliminate_refusal f l q.standing) q _ w (λ _. (w.0, eliminated_within q.entered f.size w.0))
    called_within l q (Read a b) w = unless_keeps Both (read_refusal f l q.standing a b) q _ w (λ _. w)
    called_within l q Tally w = w

module _ {X : Type 0} (s : Solvers X) (f : Site) (store : ℕ → ℕ → Bool) (idle : Idle s.base) (close : Closes f store) where
  solving_within : (l : Lengths) (q : Square X) (c : SolvingCall X) → Both s.base f store q → Both s.base f store (solving_called s f l q c).0
  solving_within l q (SolvingCall.plain c) w = called_within s.base f store idle close l q c w
  solving_within l q (SolvingCall.solve right m) w =
      unless_keeps (Both s.base f store) (solve_refusal f l q.standing (length right) m) q _ w (λ _. w)

-- the places of a plan serve
pub serves : {X : Type 0} (o : Operations X) → Idle o → (a : Arrays) → Keeps a → Serves o (site_of a) (store_of a)
serves o idle a keeps =
    let f = site_of a in
    let store = store_of a in
    kept_serve o f store (called o f) (called_within o f store idle (closes a keeps))

pub serves_solving : {X : Type 0} (s : Solvers X) → Idle s.base → (a : Arrays) → Keeps a → ServesSolving s (site_of a) (store_of a)
serves_solving s idle a keeps =
    let f = site_of a in
    let store = store_of a in
    kept_serve s.base f store (solving_called s f) (solving_within s f store idle (closes a keeps))
