-- The record layer: words, and the labels that they give.
use Rattle.std.specs.Prelude.{ℕ, ◌<◌, cond, List, length, Ok, Err, Option, Result, ◌==◌}
use Rattle.std.specs.Result.{result_map_both}
use Rattle.sheet.specs.declared.words.Word.{Word}
use Rattle.sheet.specs.declared.records.Record.{Record}
use Rattle.sheet.specs.declared.records.Record.TheVariants.{Pair, Turn}
use Rattle.sheet.specs.declared.records.RecordFault.{RecordFault}
use Rattle.sheet.specs.declared.records.RecordFault.TheVariants.{InWord, NoSuchLabel, SelfLink, LinkedTwice, OrderedTwice}
use Rattle.sheet.specs.Patterns.{Pattern, IsLabel, is_label, linked_in, given_in}
use Rattle.sheet.specs.Words.{next_word}

-- the next word, whose faults are record faults here
abbrev pub next_record : List ℕ → ℕ → Result (Option (Word × List ℕ)) RecordFault
next_record bytes p = result_map_both (λ x. x) InWord (next_word bytes p)

-- one after the other, up to the first fault
abbrev pub and_then : {X Y E : Type 0} → Result X E → (X → Result Y E) → Result Y E
and_then (Ok x) f = f x
and_then (Err e) f = Err e

-- a label of n nodes, at place p
abbrev pub labelled : ℕ → ℕ → ℕ → Result (Unit {0}) RecordFault
labelled n a p = cond (is_label n a) (Ok tt) (Err (NoSuchLabel p))

-- whether the labels of a record at place p may follow what the sheet says so far
abbrev pub checked : Pattern → Record → ℕ → Result (Unit {0}) RecordFault
checked s (Pair a b) p =
    and_then (labelled s.n a p) (λ _.
    and_then (labelled s.n b p) (λ _.
    cond (a == b) (Err (SelfLink p)) (cond (linked_in s.links a b) (Err (LinkedTwice p)) (Ok tt))))
checked s (Turn a) p = and_then (labelled s.n a p) (λ _. cond (given_in s.order a) (Err (OrderedTwice p)) (Ok tt))

-- there is room for the record, and the table of links has a place for it
abbrev pub Fits : Pattern → Record → Type 0
Fits s (Pair a b) = (length s.links < 4096) × (IsLabel 512 a × IsLabel 512 b)
Fits s (Turn a) = length s.order < 512
