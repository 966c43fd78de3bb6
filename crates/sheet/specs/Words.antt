-- The word layer: what a word of 32 bits says, and the word at the front of some bytes.
use Rattle.std.specs.Prelude.{ℕ, ◌+◌, ◌*◌, ◌/◌, ◌%◌, ◌^◌, cond, List, [], ◌∷◌, Some, None, Ok, Err, Option, Result, ◌==◌}
use Rattle.std.specs.Borrow.{Bor}
use Rattle.sheet.specs.declared.words.Word.{Word}
use Rattle.sheet.specs.declared.words.Word.TheVariants.{Head, Link, Order, End}
use Rattle.sheet.specs.declared.words.WordFault.{WordFault}
use Rattle.sheet.specs.declared.words.WordFault.TheVariants.{Cut, UnknownKind, SpareBits}

-- four bytes as a number, low byte first
abbrev pub word : ℕ → ℕ → ℕ → ℕ → ℕ
word a b c d = a + b * 256 + c * 65536 + d * 16777216

-- the word w at place p, if its spare bits are 0
abbrev pub unspared : ℕ → ℕ → Word → Result Word WordFault
unspared spare p w = cond (spare == 0) (Ok w) (Err (SpareBits p))

-- what the number v says, at place p
abbrev pub decoded : ℕ → ℕ → Result Word WordFault
decoded v p =
    cond (v / 2 ^ 28 == 1) (unspared (v / 2 ^ 10 % 2 ^ 18) p (Head (v % 2 ^ 10)))
    (cond (v / 2 ^ 28 == 2) (unspared (v / 2 ^ 20 % 2 ^ 8) p (Link (v / 2 ^ 10 % 2 ^ 10) (v % 2 ^ 10)))
    (cond (v / 2 ^ 28 == 3) (unspared (v / 2 ^ 10 % 2 ^ 18) p (Order (v % 2 ^ 10)))
    (cond (v / 2 ^ 28 == 15) (Ok (End (v % 2 ^ 28)))
    (Err (UnknownKind p)))))

abbrev pub with_rest : List ℕ → Result Word WordFault → Result (Option (Word × List ℕ)) WordFault
with_rest rest (Ok w) = Ok (Some (w, rest))
with_rest rest (Err e) = Err e

-- the word at the front of the bytes, with the bytes after it; None where there are no bytes
abbrev pub next_word : List ℕ → ℕ → Result (Option (Word × List ℕ)) WordFault
next_word [] p = Ok None
next_word (a ∷ []) p = Err (Cut p)
next_word (a ∷ b ∷ []) p = Err (Cut p)
next_word (a ∷ b ∷ c ∷ []) p = Err (Cut p)
next_word (a ∷ b ∷ c ∷ d ∷ rest) p = with_rest rest (decoded (word a b c d) p)

-- a result with the bytes that its reference points to in place of the reference
abbrev pub seen : {E : Type 0} → Result (Option (Word × Bor (List ℕ))) E → Result (Option (Word × List ℕ)) E
seen (Ok None) = Ok None
seen (Ok (Some x)) = Ok (Some (x.0, x.1.now))
seen (Err e) = Err e
