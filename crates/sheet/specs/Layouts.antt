-- What the bytes of a sheet are, with no reading: the words that say it, four bytes to each.
use Rattle.std.specs.Prelude.{◌≡◌, ℕ, ◌+◌, ◌*◌, ◌/◌, ◌%◌, ◌^◌, ◌<◌, List, [], ◌∷◌, ◌++◌, map, length, take, Ok, Result, slice_index}
use Rattle.sheet.specs.declared.reading.Fault.{Fault}
use Rattle.sheet.specs.declared.words.Word.{Word}
use Rattle.sheet.specs.declared.words.Word.TheVariants.{Head, Link, Order, End}
use Rattle.sheet.specs.Patterns.{Pattern, Lawful}
use Rattle.sheet.specs.Reading.{read_sheet}

-- a word as a number: its kind in bits 31 to 28
abbrev pub number : Word → ℕ
number (Head n) = 1 * 2 ^ 28 + n
number (Link a b) = 2 * 2 ^ 28 + a * 2 ^ 10 + b
number (Order a) = 3 * 2 ^ 28 + a
number (End count) = 15 * 2 ^ 28 + count

-- a number of 32 bits as four bytes, low byte first
abbrev pub four_bytes : ℕ → List ℕ
four_bytes v = v % 256 ∷ v / 256 % 256 ∷ v / 65536 % 256 ∷ v / 16777216 ∷ []

abbrev pub encoded : List Word → List ℕ
encoded [] = []
encoded (w ∷ ws) = four_bytes (number w) ++ encoded ws

abbrev pub link_words : List (ℕ × ℕ) → List Word
link_words links = map (λ x. Link x.0 x.1) links

abbrev pub order_words : List ℕ → List Word
order_words order = map (λ a. Order a) order

-- the words that say s: one head, links, order words, one end
abbrev pub sheet_words : Pattern → List Word
sheet_words s = Head s.n ∷ (link_words s.links ++ (order_words s.order ++ End (1 + length s.links + length s.order) ∷ []))

-- the bytes are the encoding of s, which keeps the rules
pub record Layout (bytes : List ℕ) (s : Pattern) : Type 0 where
  pub laid : bytes ≡ encoded (sheet_words s)
  pub lawful : Lawful s

-- a reading r of the bytes accepts them as s exactly where they are laid out as s
abbrev pub Reads : Result Pattern Fault → List ℕ → Type 0
Reads r bytes = (s : Pattern) → (r ≡ Ok s → Layout bytes s) × (Layout bytes s → r ≡ Ok s)

-- so does the definition, for every list of bytes
abbrev pub ReadsLayouts : Type 0
ReadsLayouts = (bytes : List ℕ) → ((i : ℕ) → i < length bytes → slice_index bytes i < 256) → Reads (read_sheet bytes) bytes

-- bytes are laid out as one sheet at most
abbrev pub OneSheet : Type 0
OneSheet = (bytes : List ℕ) (s t : Pattern) → Layout bytes s → Layout bytes t → s ≡ t

-- a reading looks at no byte past the 4,611 words that the longest sheet and one word more have
abbrev pub ReadsFront : Type 0
ReadsFront = (bytes : List ℕ) → read_sheet bytes ≡ read_sheet (take 18444 bytes)
