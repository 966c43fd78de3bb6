-- One word of a run: what the run gives is what it gives after the next word.
use Rattle.std.proofs.Common.{◌≡◌, ℕ, ◌+◌, List, [], ◌∷◌, Some, None, Ok, Err, Option, Result, sym, refl, ap, ◌∙◌, Bor}
use Rattle.std.specs.Result.{result_map_both}
use Rattle.sheet.specs.declared.words.Word.{Word}
use Rattle.sheet.specs.declared.words.WordFault.{WordFault}
use Rattle.sheet.specs.declared.records.RecordFault.{RecordFault}
use Rattle.sheet.specs.declared.records.RecordFault.TheVariants.{InWord}
use Rattle.sheet.specs.declared.reading.Fault.{Fault}
use Rattle.sheet.specs.declared.reading.Fault.TheVariants.{InRecord}
use Rattle.sheet.specs.Words.{word, decoded, with_rest, seen}
use Rattle.sheet.specs.Records.{and_then, next_record}
use Rattle.sheet.specs.Patterns.{Pattern}
use Rattle.sheet.specs.Reading.{State, accepted, finished, in_word, run}

-- what a run gives from what the next record is
abbrev pub follow : State → ℕ → Result (Option (Word × List ℕ)) RecordFault → Result Pattern Fault
follow s p (Err e) = Err (InRecord e)
follow s p (Ok None) = finished s p
follow s p (Ok (Some x)) = and_then (accepted s x.0 p) (λ t. run t (p + 1) x.1)

at_word : (s : State) (p : ℕ) (rest : List ℕ) (d : Result Word WordFault) → and_then (in_word d) (λ w. and_then (accepted s w p) (λ t. run t (p + 1) rest)) ≡ follow s p (result_map_both (λ x. x) InWord (with_rest rest d))
at_word s p rest (Ok w) = refl
at_word s p rest (Err e) = refl

run_follows : (s : State) (p : ℕ) (l : List ℕ) → run s p l ≡ follow s p (next_record l p)
unfolding run
run_follows s p [] = refl
run_follows s p (a ∷ []) = refl
run_follows s p (a ∷ b ∷ []) = refl
run_follows s p (a ∷ b ∷ c ∷ []) = refl
run_follows s p (a ∷ b ∷ c ∷ d ∷ rest) = at_word s p rest (decoded (word a b c d) p)

-- what next_record ensures, at the case of its Ok that a pattern found
pub seen_as : {o q : Option (Word × Bor (List ℕ))} {m : Result (Option (Word × List ℕ)) RecordFault} → o ≡ q → seen (Ok o) ≡ m → seen (Ok q) ≡ m
seen_as e h = ap (λ o. seen (Ok o)) (sym e) ∙ h

pub run_next : (s : State) (p : ℕ) (l : List ℕ) (r : Result (Option (Word × List ℕ)) RecordFault) → r ≡ next_record l p → run s p l ≡ follow s p r
run_next s p l r h = run_follows s p l ∙ ap (follow s p) (sym h)

-- the word w at place p is taken, or refused
pub run_on : (s : State) (p : ℕ) (l : List ℕ) (w : Word) (t : List ℕ) (r : Result State Fault) → Ok (Some (w, t)) ≡ next_record l p → r ≡ accepted s w p → run s p l ≡ and_then r (λ u. run u (p + 1) t)
run_on s p l w t r h e = run_next s p l _ h ∙ ap (λ r. and_then r (λ u. run u (p + 1) t)) (sym e)
