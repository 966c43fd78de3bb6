-- What nothing leaves of a residue.
use Rattle.std.specs.Prelude.{◌≡◌, ◌<◌, false, refl}
use Rattle.std.proofs.Common.{ap, ◌∙◌, sym, mul-zero, zero-mul, arith}
use Rattle.std.proofs.lemmas.Bool.{cond_both}
use Rattle.std.proofs.lemmas.Bool.Decides.{nat_tests}
use Rattle.arith.specs.declared.residues.Residue.{Residue}
use Rattle.arith.specs.Residues.{residue, is_zero, difference, product, quotient, updated_residue, taken_residue}
use Rattle.arith.specs.QuotientsLemmas.{is_quotient}
use Rattle.arith.specs.Remainders.{rem}
use Rattle.arith.specs.Same.{same}

pub positive : (d : Residue) → is_zero d ≡ false → 0 < d.value
positive d t = grind (arith, nat_tests)

less_nothing : (a n : Residue) → n.value ≡ 0 → difference a n ≡ a
less_nothing a n e = same _ a (omega (arith, a.below))

pub row : (a d v : Residue) → updated_residue a (residue 0) d v ≡ a
row a d v =
    cond_both (is_zero d) a _ (λ x. x ≡ a) (λ _. refl)
    (λ _. less_nothing a (product (quotient v d) (residue 0)) (ap rem (mul-zero (quotient v d).value)))

pub column : (a u d : Residue) → updated_residue a u d (residue 0) ≡ a
column a u d =
    cond_both (is_zero d) a _ (λ x. x ≡ a) (λ _. refl)
    (λ t.
    let none = is_quotient (residue 0) d (residue 0) (positive d t) (ap rem (zero-mul d.value)) in
    ap (λ q. difference a (product q u)) (sym none) ∙ less_nothing a (product (residue 0) u) (ap rem (zero-mul u.value)))

pub calm : (b y : Residue) → taken_residue b (residue 0) y ≡ b
calm b y = less_nothing b (product (residue 0) y) (ap rem (zero-mul y.value))
