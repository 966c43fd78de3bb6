-- What the calls of an arithmetic's functions answer.
use Rattle.arith.specs.Operations.{Operations, Solvers}
use Rattle.arithcheck.specs.declared.answers.Answer.{Answer}
use Rattle.arithcheck.specs.declared.answers.Answer.TheVariants as answer
use Rattle.arithcheck.specs.declared.calls.EliminationCall.{EliminationCall}
use Rattle.arithcheck.specs.declared.calls.EliminationCall.TheVariants.{Nothing, Update, Verdict}
use Rattle.arithcheck.specs.declared.calls.SolvingCall.{SolvingCall}
use Rattle.arithcheck.specs.declared.calls.SolvingCall.TheVariants.{Base, Take, Over}

-- the answer to a call of elimination, where `told` says how a number is answered
abbrev pub eliminated : {X : Type 0} → Operations X → (X → Answer) → EliminationCall X → Answer
eliminated o told Nothing = told o.nothing
eliminated o told (Update a u d v) = told (o.updated a u d v)
eliminated o told (Verdict d) = answer.Verdict (o.judged d)

-- the answer to a call of solving
abbrev pub solved : {X : Type 0} → Solvers X → (X → Answer) → SolvingCall X → Answer
solved s told (Base call) = eliminated s.base told call
solved s told (Take b u y) = told (s.taken b u y)
solved s told (Over b d) = told (s.divided b d)
