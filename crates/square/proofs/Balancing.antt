-- The levels of an accepted solve balance what stood entered at the last elimination that was done.
use Rattle.std.proofs.Common.{◌≡◌, ℕ, ◌-◌, ◌≤◌, Bool, cond, ◌&&◌, List, [], ◌∷◌, length, get_or, Some, None, Ok, Option, Result, sym, refl, ap, ◌∙◌, ap₂, arith}
use Rattle.std.proofs.lemmas.List.FromFn.{get_or-map-range_with_len}
use Rattle.std.proofs.lemmas.Bool.Decides.{nat_tests}
use Rattle.std.specs.Result.{is_ok}
use Rattle.arith.specs.Fields.{Ring, Field}
use Rattle.arith.specs.Operations.{Solvers}
use Rattle.plan.specs.Planned.{Arrays, Keeps}
use Rattle.square.specs.declared.calls.Call.TheVariants.{Clear, Set, Eliminate, Read, Tally}
use Rattle.square.specs.declared.refusals.Refusal.{Refusal}
use Rattle.square.specs.declared.standings.Standing.{Standing}
use Rattle.square.specs.declared.standings.Standing.TheVariants.{Bare, Cleared, Stuck, Worked}
use Rattle.square.specs.Balance.{Balances, is_eliminate, eliminated_last}
use Rattle.square.specs.Calls.{SolvingCall, SolvingAnswer, solve_refusal, between, unless, solving_called, lived, levels, of_label, by_position}
use Rattle.square.specs.Elimination.{eliminated}
use Rattle.square.specs.Plans.{site_of, store_of}
use Rattle.square.specs.Solution.{Vector, solution}
use Rattle.square.specs.Squares.{Matrix, Site, Lengths, Square, bare}
use Rattle.square.specs.Stores.{Closes}
use Rattle.square.proofs.Places.{closes}
use Rattle.square.proofs.Schur.{symmetric}
use Rattle.square.proofs.Solving.{solution_solves}
use Rattle.square.proofs.Sums.{total_same, total_by_position}

module _ {X : Type 0} (s : Solvers X) (f : Site) (l : Lengths) where
  -- where the square stands worked, its worked numbers are those of m, whose elimination came to its end
  abbrev Settled : Matrix X → Square X → Type 0
  Settled m q = q.standing ≡ Worked → ((eliminated s.base m f.size).stuck ≡ None) × (q.worked ≡ (eliminated s.base m f.size).numbers)

  -- what m is after a call
  abbrev next : Matrix X → Square X → SolvingCall X → Matrix X
  next m q c = cond (is_eliminate c && is_ok (solving_called s f l q c).1) q.entered m

  call_settles : (m : Matrix X) (q : Square X) (c : SolvingCall X) → Settled m q → Settled (next m q c) (solving_called s f l q c).0
  call_settles m q (SolvingCall.plain Clear) h stands = grind (arith, nat_tests, h, stands)
  call_settles m q (SolvingCall.plain (Set a b x)) h stands = grind (arith, nat_tests, h, stands)
  call_settles m q (SolvingCall.plain Eliminate) h stands = grind (arith, nat_tests, h, stands)
  call_settles m q (SolvingCall.plain (Read a b)) h stands = grind (arith, nat_tests, h, stands)
  call_settles m q (SolvingCall.plain Tally) h stands = h stands
  call_settles m q (SolvingCall.solve right r) h stands = grind (arith, nat_tests, h, stands)

  life_settles : (m : Matrix X) (q : Square X) (calls : List (SolvingCall X)) → Settled m q
      → Settled (eliminated_last s f l q m calls) (lived (solving_called s f l) q calls).0
  life_settles m q [] h = h
  life_settles m q (c ∷ cs) h = life_settles (next m q c) (solving_called s f l q c).0 cs (call_settles m q c h)

-- what it tells of a call that it was answered
answered_tells : {Q A : Type 0} (r : Option Refusal) (q : Q) (t : Q × Result A Refusal) (a : A) → (unless r q t).1 ≡ Ok a → (r ≡ None) × (t.1 ≡ Ok a)
answered_tells None q t a e = (refl, e)
answered_tells (Some r) q t a e = grind arith

solve_tells : (f : Site) (l : Lengths) (t : Standing) (m r : ℕ) → solve_refusal f l t m r ≡ None → t ≡ Worked
solve_tells f l Bare m r e = grind (arith, nat_tests)
solve_tells f l Cleared m r e = grind (arith, nat_tests)
solve_tells f l Stuck m r e = grind (arith, nat_tests)
solve_tells f l Worked m r e = refl

module _ {X : Type 0} (s : Solvers X) (r : Ring X) (laws : Field s r) (f : Site) (store : ℕ → ℕ → Bool) (close : Closes f store) where
  close_balances : Balances s r f
  close_balances l calls right m ys answered a low high =
      let n = f.size in
      let o = s.base in
      let q = (lived (solving_called s f l) (bare o) calls).0 in
      let E = eliminated_last s f l (bare o) (bare o).entered calls in
      let w = eliminated o E n in
      let b = by_position o.nothing f right in
      let y : Vector X = solution s w.numbers n b in
      let told = answered_tells (solve_refusal f l q.standing (length right) m) q _ (SolvingAnswer.solved ys) answered in
      let stands = solve_tells f l q.standing (length right) m told.0 in
      let settled = life_settles s f l (bare o).entered (bare o) calls (λ never. grind arith) stands in
      let ys_are : ys ≡ levels s f w.numbers right =
      (let e = told.1 in let same : levels s f q.worked right ≡ ys = cc in sym same) ∙ ap (λ (x : Matrix X). levels s f x right) settled.1 in
      let level : (j : ℕ) → 1 ≤ j → j ≤ n → of_label o.nothing ys (f.label j) ≡ y j =
      λ j lj hj. let range = close.labels j lj hj in
      ap (λ xs. get_or xs (f.label j - 1) o.nothing) ys_are
      ∙ get_or-map-range_with_len (λ v. y (f.position v)) 1 n (f.label j - 1) (f.label j) o.nothing (omega (arith, range.0, range.1)) (omega (arith, range.0))
      ∙ ap y range.2 in
      let here = close.positions a low high in
      total_by_position s r laws f store close (λ v. r.times (between f E a v) (of_label o.nothing ys v))
      ∙ total_same s r laws (λ j. r.times (between f E a (f.label j)) (of_label o.nothing ys (f.label j))) (λ j. r.times (symmetric E (f.position a) j) (y j)) 1 n
      (λ j lj hj. ap₂ r.times (ap (λ p. symmetric E (f.position a) p) (close.labels j lj (omega arith)).2) (level j lj (omega arith)))
      ∙ solution_solves s r laws n E b settled.0 (f.position a) here.0 here.1
      ∙ ap (of_label o.nothing right) here.2

-- the levels of every plan balance, where the numbers form a field
pub balances : {X : Type 0} (s : Solvers X) (r : Ring X) → Field s r → (a : Arrays) → Keeps a → Balances s r (site_of a)
balances s r laws a keeps = close_balances s r laws (site_of a) (store_of a) (closes a keeps)
