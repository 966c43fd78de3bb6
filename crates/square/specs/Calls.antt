-- What the full square answers to each call, and to any list of calls.
use Rattle.std.specs.Prelude.{ℕ, ◌+◌, ◌-◌, ◌^◌, min, max, Bool, true, false, cond, not, ◌&&◌, ◌||◌, List, [], ◌∷◌, map, length, Some, None, Ok, Err, Option, Result, ◌==◌, nat_le, nat_lt, slice_index_or}
use Rattle.std.specs.List.{range_with_len}
use Rattle.std.specs.Result.{result_map_both}
use Rattle.arith.specs.Operations.{Operations, Solvers}
use Rattle.square.specs.declared.calls.Answer.{Answer}
use Rattle.square.specs.declared.calls.Answer.TheVariants as answer
use Rattle.square.specs.declared.calls.Call.{Call}
use Rattle.square.specs.declared.calls.Call.TheVariants as call
use Rattle.square.specs.declared.refusals.Refusal.{Refusal}
use Rattle.square.specs.declared.refusals.Refusal.TheVariants.{NotCleared, WrongLength, OutOfRange, NotLinked, NoPivot, NotWorked}
use Rattle.square.specs.declared.standings.Standing.{Standing}
use Rattle.square.specs.declared.standings.Standing.TheVariants.{Bare, Cleared, Stuck, Worked}
use Rattle.square.specs.Elimination.{eliminated}
use Rattle.square.specs.Refusals.{first_refusal}
use Rattle.square.specs.Solution.{Vector, solution}
use Rattle.square.specs.Squares.{Matrix, Site, Lengths, Square}

abbrev pub is_bare : Standing → Bool
is_bare Bare = true
is_bare s = false

abbrev pub is_worked : Standing → Bool
is_worked Worked = true
is_worked s = false

-- whether a label isn't 1 to n
abbrev pub is_outside : Site → ℕ → Bool
is_outside f a = not (nat_lt 0 a && nat_le a f.size)

-- whether two labels are different and not linked on the sheet
abbrev pub are_apart : Site → ℕ → ℕ → Bool
are_apart f a b = not (a == b || f.linked a b)

-- ---- what refuses each call, in its order

abbrev pub clear_refusal : Site → Lengths → Option Refusal
clear_refusal f l = first_refusal ((not (l.entered == f.places && l.worked == f.places), WrongLength) ∷ [])

abbrev pub set_refusal : Site → Lengths → Standing → ℕ → ℕ → Option Refusal
set_refusal f l s a b =
    first_refusal ((is_bare s, NotCleared) ∷ (not (l.entered == f.places), WrongLength)
    ∷ (is_outside f a || is_outside f b, OutOfRange) ∷ (are_apart f a b, NotLinked) ∷ [])

-- what refuses an elimination before it begins
abbrev pub eliminate_refusal : Site → Lengths → Standing → Option Refusal
eliminate_refusal f l s =
    first_refusal ((is_bare s, NotCleared) ∷ (not (l.entered == f.places && l.worked == f.places), WrongLength) ∷ [])

abbrev pub read_refusal : Site → Lengths → Standing → ℕ → ℕ → Option Refusal
read_refusal f l s a b =
    first_refusal ((is_bare s, NotCleared) ∷ (not (l.worked == f.places), WrongLength)
    ∷ (is_outside f a || is_outside f b, OutOfRange) ∷ [])

-- for m right sides, and a result table of length r
abbrev pub solve_refusal : Site → Lengths → Standing → ℕ → ℕ → Option Refusal
solve_refusal f l s m r =
    first_refusal ((is_bare s, NotCleared)
    ∷ (not (l.worked == f.places && (m == f.size && r == f.size)), WrongLength)
    ∷ (not (is_worked s), NotWorked) ∷ [])

-- ---- what each call does

-- the row and the column of two labels: the larger of their positions, and the smaller
abbrev pub row_of : Site → ℕ → ℕ → ℕ
row_of f a b = max (f.position a) (f.position b)

abbrev pub column_of : Site → ℕ → ℕ → ℕ
column_of f a b = min (f.position a) (f.position b)

-- the number that a matrix has for two labels
abbrev pub between : {X : Type 0} → Site → Matrix X → ℕ → ℕ → X
between f m a b = m (row_of f a b) (column_of f a b)

-- the matrix with x at (i, j)
abbrev pub written : {X : Type 0} → Matrix X → ℕ → ℕ → X → Matrix X
written m i j x r c = cond (i == r && j == c) x (m r c)

-- the standing after an elimination, and the answer to it, d where it came to its end; a position at which it stuck goes by its label
abbrev pub standing_after : Option (ℕ × ℕ) → Standing
standing_after None = Worked
standing_after (Some at) = Stuck

abbrev pub answer_after : {A : Type 0} → Site → A → Option (ℕ × ℕ) → Result A Refusal
answer_after f d None = Ok d
answer_after f d (Some at) = Err (NoPivot (f.label at.0) at.1)

-- the square and what it answered, or why it refused
abbrev pub State : Type 0 → Type 0 → Type 0
State X A = Square X × Result A Refusal

-- a refusal leaves everything as it was
abbrev pub unless : {Q A : Type 0} → Option Refusal → Q → Q × Result A Refusal → Q × Result A Refusal
unless None q t = t
unless (Some r) q t = (q, Err r)

abbrev pub called : {X : Type 0} → Operations X → Site → Lengths → Square X → Call X → State X (Answer X)
called o f l q call.Clear =
    unless (clear_refusal f l) q
    (record { entered = λ i j. o.nothing; worked = λ i j. o.nothing; standing = Cleared; tally = q.tally }, Ok answer.Done)
called o f l q (call.Set a b x) =
    unless (set_refusal f l q.standing a b) q
    (record { entered = written q.entered (row_of f a b) (column_of f a b) x; worked = q.worked; standing = q.standing; tally = q.tally }, Ok answer.Done)
called o f l q call.Eliminate =
    let w = eliminated o q.entered f.size in
    unless (eliminate_refusal f l q.standing) q
    (record { entered = q.entered; worked = w.numbers; standing = standing_after w.stuck; tally = q.tally }, answer_after f answer.Done w.stuck)
called o f l q (call.Read a b) = unless (read_refusal f l q.standing a b) q (q, Ok (answer.Number (between f q.worked a b)))
called o f l q call.Tally = (q, Ok (answer.Tally q.tally))

-- ---- calls of an arithmetic that solves

-- a call of any arithmetic, or right sides by label with the length of the result table
pub data SolvingCall (X : Type 0) : Type 0 where
  plain : Call X → SolvingCall X
  solve : List X → ℕ → SolvingCall X

pub data SolvingAnswer (X : Type 0) : Type 0 where
  plain : Answer X → SolvingAnswer X
  solved : List X → SolvingAnswer X

-- the number of a label in a list by label
abbrev pub of_label : {X : Type 0} → X → List X → ℕ → X
of_label nothing xs a = slice_index_or xs (a - 1) nothing

-- numbers by label, read by position
abbrev pub by_position : {X : Type 0} → X → Site → List X → Vector X
by_position nothing f xs i = of_label nothing xs (f.label i)

-- numbers by position, listed by label
abbrev pub by_label : {X : Type 0} → Site → Vector X → List X
by_label f y = map (λ a. y (f.position a)) (range_with_len 1 f.size)

abbrev pub levels : {X : Type 0} → Solvers X → Site → Matrix X → List X → List X
levels s f w right = by_label f (solution s w f.size (by_position s.base.nothing f right))

-- the tally of one solve more; it stays at 2 ^ 32 - 1
abbrev pub one_more : ℕ → ℕ
one_more n = min (n + 1) (2 ^ 32 - 1)

abbrev pub solving_called : {X : Type 0} → Solvers X → Site → Lengths → Square X → SolvingCall X → State X (SolvingAnswer X)
solving_called s f l q (SolvingCall.plain c) = let t = called s.base f l q c in (t.0, result_map_both SolvingAnswer.plain (λ r. r) t.1)
solving_called s f l q (SolvingCall.solve right r) =
    unless (solve_refusal f l q.standing (length right) r) q (
      record { entered = q.entered; worked = q.worked; standing = q.standing; tally = one_more q.tally },
      Ok (SolvingAnswer.solved (levels s f q.worked right)),
    )

-- ---- lives: lists of calls, with the answers to them in turn

abbrev pub lived : {Q C A : Type 0} → (Q → C → Q × A) → Q → List C → Q × List A
lived step q [] = (q, [])
lived step q (c ∷ cs) = let t = step q c in let u = lived step t.0 cs in (u.0, t.1 ∷ u.1)
