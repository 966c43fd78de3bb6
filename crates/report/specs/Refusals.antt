-- What is wrong with some bytes, in words.
use Rattle.std.specs.Prelude.{ℕ, ◌*◌, ◌/◌, ◌%◌, false, List, [], ◌∷◌, ◌++◌, reverse, take, drop, codes, decimal}
use Rattle.std.specs.List.{flat_map}
use Rattle.std.specs.Fmt.{digit_glyph}
use Rattle.sheet.specs.declared.reading.Fault.{Fault}
use Rattle.sheet.specs.declared.reading.Fault.TheVariants.{InRecord, NoHead, HeadCount, SecondHead, LateLink, AfterEnd, TooManyLinks, EndCount, NoEnd, OrderShort}
use Rattle.sheet.specs.declared.records.RecordFault.{RecordFault}
use Rattle.sheet.specs.declared.records.RecordFault.TheVariants.{InWord, NoSuchLabel, SelfLink, LinkedTwice, OrderedTwice}
use Rattle.sheet.specs.declared.words.WordFault.{WordFault}
use Rattle.sheet.specs.declared.words.WordFault.TheVariants.{Cut, UnknownKind, SpareBits}
use Rattle.sheet.specs.Faults.{fault_text, place_of}

-- the rules of the word layer
abbrev pub word_rule : WordFault → List ℕ
word_rule (Cut p) = codes "a word has 4 bytes"
word_rule (UnknownKind p) = codes "its kind is not 1, 2, 3 or 15"
word_rule (SpareBits p) = codes "a spare bit is set"

-- and of the record layer
abbrev pub record_rule : RecordFault → List ℕ
record_rule (InWord e) = word_rule e
record_rule (NoSuchLabel p) = codes "a label is not one of the nodes"
record_rule (SelfLink p) = codes "a link joins two different nodes"
record_rule (LinkedTwice p) = codes "its nodes are linked already"
record_rule (OrderedTwice p) = codes "its node has a place in the order already"

-- the rule that a fault breaks
abbrev pub rule_text : Fault → List ℕ
rule_text (InRecord e) = record_rule e
rule_text (NoHead p) = codes "a sheet begins with a head"
rule_text (HeadCount p) = codes "a head counts 1 to 512 nodes"
rule_text (SecondHead p) = codes "a sheet has one head"
rule_text (LateLink p) = codes "links stand before order words"
rule_text (AfterEnd p) = codes "nothing follows the end"
rule_text (TooManyLinks p) = codes "a sheet has at most 4096 links"
rule_text (EndCount p) = codes "the end counts the words before it"
rule_text (NoEnd p) = codes "a sheet ends with an end word"
rule_text (OrderShort p) = codes "order words name every node or none"

-- a byte as two digits
abbrev pub hex_byte : ℕ → List ℕ
hex_byte b = digit_glyph false (b / 16) ∷ digit_glyph false (b % 16) ∷ []

-- bytes as digits, the last byte first
abbrev pub hex_bytes : List ℕ → List ℕ
hex_bytes bs = flat_map hex_byte (reverse bs)

-- the bytes of a word, or that there are none
abbrev pub word_text : List ℕ → List ℕ
word_text [] = codes "missing"
word_text (b ∷ bs) = codes "0x" ++ hex_bytes (b ∷ bs)

-- the bytes that stand at place p: four, or fewer where the bytes run out
abbrev pub bytes_at : List ℕ → ℕ → List ℕ
bytes_at bytes p = take 4 (drop (4 * p) bytes)

-- the fault, and then the word at its place and the rule that it breaks
abbrev pub refusal_text : Fault → List ℕ → List ℕ
refusal_text e bytes =
    fault_text e ++ (codes "\nword " ++ (decimal (place_of e) ++ (codes " is " ++ (word_text (bytes_at bytes (place_of e))
    ++ (codes ": " ++ (rule_text e ++ codes "\n"))))))
