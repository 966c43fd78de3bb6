-- The sheet layer: the words of a sheet in turn.
use Rattle.std.specs.Prelude.{◌≡◌, ℕ, ◌+◌, cond, not, ◌&&◌, List, [], ◌∷◌, ◌++◌, length, Ok, Err, Result, ◌==◌, nat_le, nat_lt}
use Rattle.std.specs.Result.{result_map_both}
use Rattle.sheet.specs.declared.reading.Fault.{Fault}
use Rattle.sheet.specs.declared.reading.Fault.TheVariants.{InRecord, NoHead, HeadCount, SecondHead, LateLink, AfterEnd, TooManyLinks, EndCount, NoEnd, OrderShort}
use Rattle.sheet.specs.declared.reading.Phase.{Phase}
use Rattle.sheet.specs.declared.reading.Phase.TheVariants.{Start, Body, Ended}
use Rattle.sheet.specs.declared.records.Record.{Record}
use Rattle.sheet.specs.declared.records.Record.TheVariants.{Pair, Turn}
use Rattle.sheet.specs.declared.records.RecordFault.{RecordFault}
use Rattle.sheet.specs.declared.records.RecordFault.TheVariants.{InWord}
use Rattle.sheet.specs.declared.words.Word.{Word}
use Rattle.sheet.specs.declared.words.Word.TheVariants.{Head, Link, Order, End}
use Rattle.sheet.specs.declared.words.WordFault.{WordFault}
use Rattle.sheet.specs.declared.words.WordFault.TheVariants.{Cut}
use Rattle.sheet.specs.Patterns.{Pattern, is_label, Rules, Lawful}
use Rattle.sheet.specs.Records.{and_then, checked}
use Rattle.sheet.specs.Words.{word, decoded}

abbrev pub in_record : {X : Type 0} → Result X RecordFault → Result X Fault
in_record r = result_map_both (λ x. x) InRecord r

abbrev pub in_word : {X : Type 0} → Result X WordFault → Result X Fault
in_word r = result_map_both (λ x. x) (λ e. InRecord (InWord e)) r

-- the sheet's own test of a record at place p: links come before order words, 4,096 at most
abbrev pub admitted : Pattern → Record → ℕ → Result (Unit {0}) Fault
admitted s (Pair a b) p = cond (not (length s.order == 0)) (Err (LateLink p)) (cond (nat_le 4096 (length s.links)) (Err (TooManyLinks p)) (Ok tt))
admitted s (Turn a) p = Ok tt

-- the sheet with one record more
abbrev pub put : Pattern → Record → Pattern
put s (Pair a b) = record { n = s.n; links = s.links ++ (a, b) ∷ []; order = s.order }
put s (Turn a) = record { n = s.n; links = s.links; order = s.order ++ a ∷ [] }

abbrev pub entered : Pattern → Record → ℕ → Result Pattern Fault
entered s e p = and_then (admitted s e p) (λ _. and_then (in_record (checked s e p)) (λ _. Ok (put s e)))

-- the state of a reading
pub record State : Type 0 where
  pub phase : Phase
  pub sheet : Pattern

abbrev pub empty : Pattern
empty = record { n = 0; links = []; order = [] }

abbrev pub blank : State
blank = record { phase = Start; sheet = empty }

abbrev pub within : Pattern → State
within s = record { phase = Body; sheet = s }

-- the head at place p, which counts n nodes
abbrev pub begun : State → ℕ → ℕ → Result State Fault
begun s n p = cond (is_label 512 n) (Ok (within (record { n = n; links = s.sheet.links; order = s.sheet.order }))) (Err (HeadCount p))

-- the end word at place p, with its count
abbrev pub closed : State → ℕ → ℕ → Result State Fault
closed s count p =
    cond (not (count == p)) (Err (EndCount p))
    (cond (not (length s.sheet.order == 0) && nat_lt (length s.sheet.order) s.sheet.n) (Err (OrderShort p))
    (Ok (record { phase = Ended; sheet = s.sheet })))

abbrev pub first : State → Word → ℕ → Result State Fault
first s (Head n) p = begun s n p
first s (Link a b) p = Err (NoHead p)
first s (Order a) p = Err (NoHead p)
first s (End count) p = Err (NoHead p)

abbrev pub in_body : State → Word → ℕ → Result State Fault
in_body s (Head n) p = Err (SecondHead p)
in_body s (Link a b) p = result_map_both within (λ e. e) (entered s.sheet (Pair a b) p)
in_body s (Order a) p = result_map_both within (λ e. e) (entered s.sheet (Turn a) p)
in_body s (End count) p = closed s count p

abbrev pub in_phase : Phase → State → Word → ℕ → Result State Fault
in_phase Start s w p = first s w p
in_phase Body s w p = in_body s w p
in_phase Ended s w p = Err (AfterEnd p)

-- the word w at place p
abbrev pub accepted : State → Word → ℕ → Result State Fault
accepted s w p = in_phase s.phase s w p

abbrev pub at_end : Phase → Pattern → ℕ → Result Pattern Fault
at_end Start s p = Err (NoHead p)
at_end Body s p = Err (NoEnd p)
at_end Ended s p = Ok s

-- no byte is left, after p words
abbrev pub finished : State → ℕ → Result Pattern Fault
finished s p = at_end s.phase s.sheet p

-- the words of the bytes in turn, from place p on
unfoldable pub run : State → ℕ → List ℕ → Result Pattern Fault
run s p [] = finished s p
run s p (a ∷ []) = Err (InRecord (InWord (Cut p)))
run s p (a ∷ b ∷ []) = Err (InRecord (InWord (Cut p)))
run s p (a ∷ b ∷ c ∷ []) = Err (InRecord (InWord (Cut p)))
run s p (a ∷ b ∷ c ∷ d ∷ rest) =
    and_then (in_word (decoded (word a b c d) p)) (λ w. and_then (accepted s w p) (λ t. run t (p + 1) rest))

-- what the bytes say, or their first fault
abbrev pub read_sheet : List ℕ → Result Pattern Fault
read_sheet bytes = run blank 0 bytes

-- what holds before the word at place p
abbrev pub SoundIn : Phase → Pattern → ℕ → Type 0
SoundIn Start s p = (s ≡ empty) × (p ≡ 0)
SoundIn Body s p = Rules s × (p ≡ 1 + length s.links + length s.order)
SoundIn Ended s p = Lawful s × (p ≡ 2 + length s.links + length s.order)

abbrev pub Sound : State → ℕ → Type 0
Sound s p = SoundIn s.phase s.sheet p
