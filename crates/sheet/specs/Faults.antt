-- The faults of a sheet: each has a number, a layer and a place, and a line that says so.
use Rattle.std.specs.Prelude.{ℕ, List, ◌++◌, codes, decimal}
use Rattle.sheet.specs.declared.faults.Layer.{Layer}
use Rattle.sheet.specs.declared.faults.Layer.TheVariants.{Words, Records, Sheets}
use Rattle.sheet.specs.declared.reading.Fault.{Fault}
use Rattle.sheet.specs.declared.reading.Fault.TheVariants.{InRecord, NoHead, HeadCount, SecondHead, LateLink, AfterEnd, TooManyLinks, EndCount, NoEnd, OrderShort}
use Rattle.sheet.specs.declared.records.RecordFault.{RecordFault}
use Rattle.sheet.specs.declared.records.RecordFault.TheVariants.{InWord, NoSuchLabel, SelfLink, LinkedTwice, OrderedTwice}
use Rattle.sheet.specs.declared.words.WordFault.{WordFault}
use Rattle.sheet.specs.declared.words.WordFault.TheVariants.{Cut, UnknownKind, SpareBits}

abbrev pub word_number : WordFault → ℕ
word_number (Cut p) = 1
word_number (UnknownKind p) = 2
word_number (SpareBits p) = 3

abbrev pub word_place : WordFault → ℕ
word_place (Cut p) = p
word_place (UnknownKind p) = p
word_place (SpareBits p) = p

abbrev pub record_number : RecordFault → ℕ
record_number (InWord e) = word_number e
record_number (NoSuchLabel p) = 9
record_number (SelfLink p) = 10
record_number (LinkedTwice p) = 11
record_number (OrderedTwice p) = 12

abbrev pub record_place : RecordFault → ℕ
record_place (InWord e) = word_place e
record_place (NoSuchLabel p) = p
record_place (SelfLink p) = p
record_place (LinkedTwice p) = p
record_place (OrderedTwice p) = p

abbrev pub record_layer : RecordFault → Layer
record_layer (InWord e) = Words
record_layer (NoSuchLabel p) = Records
record_layer (SelfLink p) = Records
record_layer (LinkedTwice p) = Records
record_layer (OrderedTwice p) = Records

abbrev pub number_of : Fault → ℕ
number_of (InRecord e) = record_number e
number_of (NoHead p) = 4
number_of (HeadCount p) = 4
number_of (SecondHead p) = 5
number_of (LateLink p) = 5
number_of (AfterEnd p) = 5
number_of (TooManyLinks p) = 6
number_of (EndCount p) = 7
number_of (NoEnd p) = 7
number_of (OrderShort p) = 8

abbrev pub place_of : Fault → ℕ
place_of (InRecord e) = record_place e
place_of (NoHead p) = p
place_of (HeadCount p) = p
place_of (SecondHead p) = p
place_of (LateLink p) = p
place_of (AfterEnd p) = p
place_of (TooManyLinks p) = p
place_of (EndCount p) = p
place_of (NoEnd p) = p
place_of (OrderShort p) = p

abbrev pub layer_of : Fault → Layer
layer_of (InRecord e) = record_layer e
layer_of (NoHead p) = Sheets
layer_of (HeadCount p) = Sheets
layer_of (SecondHead p) = Sheets
layer_of (LateLink p) = Sheets
layer_of (AfterEnd p) = Sheets
layer_of (TooManyLinks p) = Sheets
layer_of (EndCount p) = Sheets
layer_of (NoEnd p) = Sheets
layer_of (OrderShort p) = Sheets

abbrev pub layer_text : Layer → List ℕ
layer_text Words = codes "word"
layer_text Records = codes "record"
layer_text Sheets = codes "sheet"

-- "fault", the number, the layer and the place
abbrev pub fault_text : Fault → List ℕ
fault_text e = codes "fault " ++ (decimal (number_of e) ++ (codes " " ++ (layer_text (layer_of e) ++ (codes " " ++ decimal (place_of e)))))
