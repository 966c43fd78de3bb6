-- The members of a set, counted word by word.
use Rattle.std.proofs.Common.{◌≡◌, ℕ, suc, ◌+◌, ◌*◌, ◌/◌, ◌%◌, ◌&&◌, ltb, List, [], ◌∷◌, length, get_or, sum_by, refl, sym, ap, ◌∙◌, ap₂, arith}
use Rattle.std.proofs.lemmas.Bool.{lt-ltb}
use Rattle.std.proofs.lemmas.List.Sums.{sum_by-cons}
use Rattle.nodeset.specs.Sets.{bit_at, count_below}
use Rattle.nodeset.proofs.Bits.{count_same, count_more}
use Rattle.nodeset.proofs.Members.{has_in}

words_counted : (words : List ℕ) → sum_by (λ word. count_below (bit_at word) 64) words ≡ count_below (has_in words) (length words * 64)
words_counted [] = refl
words_counted (word ∷ words) =
    let m : 64 + length words * 64 ≡ length (word ∷ words) * 64 = omega arith in
    sum_by-cons (λ word. count_below (bit_at word) 64) word words ∙ ap₂ (λ x y. x + y)
    (count_same (bit_at word) (has_in (word ∷ words)) 64 (λ i l.
    let q : i / 64 ≡ 0 = omega (arith, l) in
    let r : i % 64 ≡ i = omega (arith, l) in
    sym (ap₂ (λ x y. bit_at (get_or (word ∷ words) x 0) y) q r)))
    (words_counted words ∙ count_same (has_in words) (λ i. has_in (word ∷ words) (64 + i)) (length words * 64) (λ i l.
    let q : (64 + i) / 64 ≡ suc (i / 64) = omega arith in
    let r : (64 + i) % 64 ≡ i % 64 = omega arith in
    sym (ap₂ (λ x y. bit_at (get_or (word ∷ words) x 0) y) q r)))
    ∙ sym (count_more (has_in (word ∷ words)) 64 (length words * 64)) ∙ ap (count_below (has_in (word ∷ words))) m

pub members_counted : (words : List ℕ) → length words ≡ 8 → sum_by (λ word. count_below (bit_at word) 64) words ≡ count_below (λ i. ltb i 512 && has_in words i) 512
members_counted words eight =
    let m : length words * 64 ≡ 512 = omega (arith, eight) in
    words_counted words ∙ ap (count_below (has_in words)) m
    ∙ count_same (has_in words) (λ i. ltb i 512 && has_in words i) 512 (λ i l. sym (ap (λ t. t && has_in words i) (lt-ltb i 512 l)))
