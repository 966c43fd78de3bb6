-- A reading is over by the word at place 4610.
use Rattle.std.proofs.Common.{◌≡◌, ℕ, suc, ◌+◌, ◌-◌, ◌*◌, ◌≤◌, List, [], ◌∷◌, take, Ok, Err, Result, sym, refl, ap, ◌∙◌, arith}
use Rattle.std.proofs.lemmas.List.{take_all}
use Rattle.sheet.specs.declared.reading.Phase.{Phase}
use Rattle.sheet.specs.declared.reading.Phase.TheVariants.{Start, Body, Ended}
use Rattle.sheet.specs.declared.reading.Fault.{Fault}
use Rattle.sheet.specs.declared.words.Word.{Word}
use Rattle.sheet.specs.declared.words.WordFault.{WordFault}
use Rattle.sheet.specs.Layouts.{ReadsFront}
use Rattle.sheet.specs.Reading.{State, blank, accepted, in_word, run, SoundIn, Sound}
use Rattle.sheet.specs.Records.{and_then}
use Rattle.sheet.specs.Patterns.{Pattern}
use Rattle.sheet.specs.Words.{word, decoded}
use Rattle.sheet.proofs.Pigeons.{order_fits}
use Rattle.sheet.proofs.Steps.{led}

bounded_in : (ph : Phase) (s : Pattern) (p : ℕ) → SoundIn ph s p → p ≤ 4610
bounded_in Start s p h = omega (arith, h.1)
bounded_in Body s p h = omega (arith, h.1, h.0.few, h.0.size.1, order_fits s.n s.order h.0.ordered h.0.ordered_once)
bounded_in Ended s p h = let r = h.0.rules in omega (arith, h.1, r.few, r.size.1, order_fits s.n s.order r.ordered r.ordered_once)

pub bounded : (s : State) (p : ℕ) → Sound s p → p ≤ 4610
bounded s p h = bounded_in s.phase s.sheet p h

pub then_same : {X Y E : Type 0} (r : Result X E) (f g : X → Result Y E) → ((x : X) → r ≡ Ok x → f x ≡ g x) → and_then r f ≡ and_then r g
then_same (Ok x) f g h = h x refl
then_same (Err e) f g h = refl

-- a word, and then what its state gives
word_same : (s : State) (p : ℕ) (d : Result Word WordFault) (f g : State → Result Pattern Fault) → ((w : Word) (t : State) → accepted s w p ≡ Ok t → f t ≡ g t) → and_then (in_word d) (λ w. and_then (accepted s w p) f) ≡ and_then (in_word d) (λ w. and_then (accepted s w p) g)
word_same s p (Ok w) f g h = then_same (accepted s w p) f g (h w)
word_same s p (Err e) f g h = refl

take_four : (k m a b c d : ℕ) (l : List ℕ) → k ≡ suc (suc (suc (suc m))) → take k (a ∷ b ∷ c ∷ d ∷ l) ≡ a ∷ b ∷ c ∷ d ∷ take m l
take_four k m a b c d l e = rw e

front : (s : State) (p : ℕ) (l : List ℕ) → Sound s p → run s p l ≡ run s p (take (18444 - 4 * p) l)
unfolding run
front s p [] h = ap (run s p) (sym (take_all (18444 - 4 * p) [] (omega arith)))
front s p (a ∷ []) h = let k = bounded s p h in ap (run s p) (sym (take_all (18444 - 4 * p) (a ∷ []) (omega arith)))
front s p (a ∷ b ∷ []) h = let k = bounded s p h in ap (run s p) (sym (take_all (18444 - 4 * p) (a ∷ b ∷ []) (omega arith)))
front s p (a ∷ b ∷ c ∷ []) h = let k = bounded s p h in ap (run s p) (sym (take_all (18444 - 4 * p) (a ∷ b ∷ c ∷ []) (omega arith)))
front s p (a ∷ b ∷ c ∷ d ∷ l) h =
    let k = bounded s p h in
    word_same s p (decoded (word a b c d) p) (λ t. run t (p + 1) l) (λ t. run t (p + 1) (take (18444 - 4 * (p + 1)) l)) (λ w t e. front t (p + 1) l (led s w p t h e).0) ∙ ap (run s p) (sym (take_four (18444 - 4 * p) (18444 - 4 * (p + 1)) a b c d l (omega arith)))

pub reads_front : ReadsFront
reads_front bytes = front blank 0 bytes (refl, refl)
