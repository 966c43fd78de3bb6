-- Words as numbers and numbers as bytes, both ways.
use Rattle.std.proofs.Common.{◌≡◌, ℕ, ◌+◌, ◌*◌, ◌/◌, ◌%◌, ◌^◌, ◌<◌, cond, eqb, List, [], ◌∷◌, ◌++◌, Ok, Result, sym, refl, ap, ◌∙◌, arith}
use Rattle.std.proofs.lemmas.List.{append_assoc}
use Rattle.std.proofs.lemmas.Bool.{cond_both, eqb-true}
use Rattle.sheet.specs.declared.words.Word.{Word}
use Rattle.sheet.specs.declared.words.Word.TheVariants.{Head, Link, Order, End}
use Rattle.sheet.specs.declared.words.WordFault.{WordFault}
use Rattle.sheet.specs.Layouts.{number, four_bytes, encoded}
use Rattle.sheet.specs.Words.{word, decoded}
use Rattle.sheet.proofs.Outcomes.{same, passes}

-- the words that have a number
abbrev pub Ranged : Word → Type 0
Ranged (Head n) = n < 2 ^ 10
Ranged (Link a b) = (a < 2 ^ 10) × (b < 2 ^ 10)
Ranged (Order a) = a < 2 ^ 10
Ranged (End count) = count < 2 ^ 28

pub number_fits : (w : Word) → Ranged w → number w < 2 ^ 32
number_fits (Head n) h = omega arith
number_fits (Link a b) h = omega (arith, h.0, h.1)
number_fits (Order a) h = omega arith
number_fits (End count) h = omega arith

pub word_bytes : (v : ℕ) → v < 2 ^ 32 → word (v % 256) (v / 256 % 256) (v / 65536 % 256) (v / 16777216) ≡ v
word_bytes v h = omega arith

low_byte : (x b k : ℕ) → b < 256 → x ≡ b + k * 256 → x % 256 ≡ b
low_byte x b k h e = omega arith

pub bytes_word : (a b c d : ℕ) → a < 256 → b < 256 → c < 256 → d < 256 → four_bytes (word a b c d) ≡ a ∷ b ∷ c ∷ d ∷ []
bytes_word a b c d ha hb hc hd =
    let w = word a b c d in
    let e0 : w % 256 ≡ a = omega arith in
    let e1 : w / 256 % 256 ≡ b = low_byte (w / 256) b (c + d * 256) hb (omega arith) in
    let e2 : w / 65536 % 256 ≡ c = low_byte (w / 65536) c d hc (omega arith) in
    let e3 : w / 16777216 ≡ d = omega arith in
    cc

pub word_fits : (a b c d : ℕ) → a < 256 → b < 256 → c < 256 → d < 256 → word a b c d < 2 ^ 32
word_fits a b c d ha hb hc hd = omega arith

low_bits : (x a k : ℕ) → a < 2 ^ 10 → x ≡ a + k * 2 ^ 10 → x % 2 ^ 10 ≡ a
low_bits x a k h e = omega arith

pub decode_number : (w : Word) (p : ℕ) → Ranged w → decoded (number w) p ≡ Ok w
decode_number (Head n) p h =
    let v = 1 * 2 ^ 28 + n in
    let kind : v / 2 ^ 28 ≡ 1 = omega arith in
    let spare : v / 2 ^ 10 % 2 ^ 18 ≡ 0 = omega arith in
    let field : v % 2 ^ 10 ≡ n = omega arith in
    simp (kind, spare, field)
decode_number (Link a b) p h =
    let v = 2 * 2 ^ 28 + a * 2 ^ 10 + b in
    let kind : v / 2 ^ 28 ≡ 2 = omega (arith, h.0, h.1) in
    let spare : v / 2 ^ 20 % 2 ^ 8 ≡ 0 = omega (arith, h.0, h.1) in
    let low : v % 2 ^ 10 ≡ b = omega (arith, h.1) in
    let high : v / 2 ^ 10 % 2 ^ 10 ≡ a = low_bits (v / 2 ^ 10) a (2 * 2 ^ 8) h.0 (omega (arith, h.1)) in
    simp (kind, spare, low, high)
decode_number (Order a) p h =
    let v = 3 * 2 ^ 28 + a in
    let kind : v / 2 ^ 28 ≡ 3 = omega arith in
    let spare : v / 2 ^ 10 % 2 ^ 18 ≡ 0 = omega arith in
    let field : v % 2 ^ 10 ≡ a = omega arith in
    simp (kind, spare, field)
decode_number (End count) p h =
    let v = 15 * 2 ^ 28 + count in
    let kind : v / 2 ^ 28 ≡ 15 = omega arith in
    let field : v % 2 ^ 28 ≡ count = omega arith in
    simp (kind, field)

-- what is decoded has the number that it came from
pub number_decode : (v p : ℕ) (w : Word) → v < 2 ^ 32 → decoded v p ≡ Ok w → number w ≡ v
number_decode v p w fits =
    kind 1 (λ e h. let k = passes (eqb (v / 2 ^ 10 % 2 ^ 18) 0) _ _ w h in ap number (sym (same _ _ k.1)) ∙ at_head e (eqb-true _ 0 k.0))
    (kind 2 (λ e h. let k = passes (eqb (v / 2 ^ 20 % 2 ^ 8) 0) _ _ w h in ap number (sym (same _ _ k.1)) ∙ at_link e (eqb-true _ 0 k.0))
    (kind 3 (λ e h. let k = passes (eqb (v / 2 ^ 10 % 2 ^ 18) 0) _ _ w h in ap number (sym (same _ _ k.1)) ∙ at_order e (eqb-true _ 0 k.0))
    (kind 15 (λ e h. ap number (sym (same _ _ h)) ∙ at_end_lem e)
    (λ h. absurd (cc))))) where
      Gives : Result Word WordFault → Type 0
      Gives r = r ≡ Ok w → number w ≡ v

      kind : (k : ℕ) {x y : Result Word WordFault} → (v / 2 ^ 28 ≡ k → Gives x) → Gives y → Gives (cond (eqb (v / 2 ^ 28) k) x y)
      kind k {x} {y} f g = cond_both (eqb (v / 2 ^ 28) k) x y Gives (λ e. f (eqb-true _ k e)) (λ _. g)

      at_head : v / 2 ^ 28 ≡ 1 → v / 2 ^ 10 % 2 ^ 18 ≡ 0 → 1 * 2 ^ 28 + v % 2 ^ 10 ≡ v
      at_head e f = omega arith

      at_link : v / 2 ^ 28 ≡ 2 → v / 2 ^ 20 % 2 ^ 8 ≡ 0 → 2 * 2 ^ 28 + v / 2 ^ 10 % 2 ^ 10 * 2 ^ 10 + v % 2 ^ 10 ≡ v
      at_link e f = omega arith

      at_order : v / 2 ^ 28 ≡ 3 → v / 2 ^ 10 % 2 ^ 18 ≡ 0 → 3 * 2 ^ 28 + v % 2 ^ 10 ≡ v
      at_order e f = omega arith

      at_end_lem : v / 2 ^ 28 ≡ 15 → 15 * 2 ^ 28 + v % 2 ^ 28 ≡ v
      at_end_lem e = omega arith

pub encoded_append : (xs ys : List Word) → encoded (xs ++ ys) ≡ encoded xs ++ encoded ys
encoded_append [] ys = refl
encoded_append (x ∷ xs) ys = ap (λ l. four_bytes (number x) ++ l) (encoded_append xs ys) ∙ sym (append_assoc (four_bytes (number x)) (encoded xs) (encoded ys))
