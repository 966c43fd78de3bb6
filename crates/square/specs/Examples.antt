-- Two linked nodes in the order of their labels, worked in residues and in floats.
use Rattle.std.specs.Prelude.{◌≡◌, ◌&&◌, ◌||◌, List, [], ◌∷◌, map, Ok, Err, Result, ◌==◌, from_bits}
use Rattle.std.specs.Float.{binary64}
use Rattle.std.specs.Float.Ieee.{neg}
use Rattle.arith.specs.declared.residues.Residue.{Residue}
use Rattle.arith.specs.Examples.{whole}
use Rattle.arith.specs.Operations.{Solvers, floats, residues}
use Rattle.arith.specs.Residues.{residue}
use Rattle.square.specs.declared.calls.Answer.TheVariants as answer
use Rattle.square.specs.declared.calls.Call.TheVariants as call
use Rattle.square.specs.declared.refusals.Refusal.{Refusal}
use Rattle.square.specs.declared.refusals.Refusal.TheVariants.{NoPivot}
use Rattle.square.specs.Calls.{SolvingCall, SolvingAnswer, solving_called, lived}
use Rattle.square.specs.Squares.{Site, Lengths, Square, bare}

abbrev pub pair : Site
pair = record {
  size = 2;
  linked = λ a b. (a == 1 && b == 2) || (a == 2 && b == 1);
  label = λ k. k;
  position = λ a. a;
  places = 3;
}

abbrev pub three_places : Lengths
three_places = record { entered = 3; worked = 3 }

-- the system with diagonals d and e and link number x, entered and eliminated
abbrev pub pair_calls : {X : Type 0} → X → X → X → List (SolvingCall X)
pair_calls d e x =
    SolvingCall.plain call.Clear ∷ SolvingCall.plain (call.Set 1 1 d) ∷ SolvingCall.plain (call.Set 2 2 e)
    ∷ SolvingCall.plain (call.Set 2 1 x) ∷ SolvingCall.plain call.Eliminate ∷ []

abbrev pub pair_life : {X : Type 0} → Solvers X → X → X → X → Square X × List (Result (SolvingAnswer X) Refusal)
pair_life s d e x = lived (solving_called s pair three_places) (bare s.base) (pair_calls d e x)

abbrev pub done : {X : Type 0} → Result (SolvingAnswer X) Refusal
done = Ok (SolvingAnswer.plain answer.Done)

abbrev pub levels_of : {X : Type 0} → Result (SolvingAnswer X) Refusal → List X
levels_of (Ok (SolvingAnswer.solved ys)) = ys
levels_of a = []

-- the levels that the eliminated system answers for two right sides
abbrev pub pair_levels : {X : Type 0} → Solvers X → X → X → X → X → X → List X
pair_levels s d e x b c = levels_of (solving_called s pair three_places (pair_life s d e x).0 (SolvingCall.solve (b ∷ c ∷ []) 2)).1

pub record WorkedPairs : Type 0 where
  -- 2 and 3 with link 1: 3 − (1 ÷ 2) × 1, which is 32,763 in residues and 2.5 in floats; 2 × 1 + 1 × 1 = 3 and 1 × 1 + 3 × 1 = 4
  pub residue_pivot : ((pair_life residues (residue 2) (residue 3) (residue 1)).0.worked 2 2).value ≡ 32763
  pub residue_levels : map (λ (y : Residue). y.value) (pair_levels residues (residue 2) (residue 3) (residue 1) (residue 3) (residue 4)) ≡ 1 ∷ 1 ∷ []
  pub float_pivot : (pair_life floats (whole 2) (whole 3) (whole 1)).0.worked 2 2 ≡ from_bits binary64 0x4004_0000_0000_0000
  pub float_levels : pair_levels floats (whole 2) (whole 3) (whole 1) (whole 3) (whole 4) ≡ whole 1 ∷ whole 1 ∷ []
  -- 1 and 1 with link 2 stick at label 2, in floats: 1 − (2 ÷ 1) × 2 is below zero
  pub float_stuck : (pair_life floats (whole 1) (whole 1) (whole 2)).1 ≡ done ∷ done ∷ done ∷ done ∷ Err (NoPivot 2 2) ∷ []
  pub float_below : (pair_life floats (whole 1) (whole 1) (whole 2)).0.worked 2 2 ≡ neg (whole 3)
  -- 1 and 4 with link 2 stick there, in residues: 4 − (2 ÷ 1) × 2 is 0
  pub residue_stuck : (pair_life residues (residue 1) (residue 4) (residue 2)).1 ≡ done ∷ done ∷ done ∷ done ∷ Err (NoPivot 2 1) ∷ []
