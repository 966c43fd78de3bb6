-- The quotient of two residues is the one that gives back the dividend.
use Rattle.std.specs.Prelude.{◌≡◌, ℕ, zero, suc, ◌+◌, ◌*◌, ◌<◌, ◌≤◌, Bool, true, false, nat_eq}
use Rattle.std.proofs.Common.{sym, ap, ◌∙◌, ⊎_elim, mul_comm, mul-one, mod-eq_of_lt, arith, eqb-true, eq-eqb}
use Rattle.std.proofs.lemmas.Bool.{cases_Bool}
use Rattle.arith.specs.declared.residues.Residue.{Residue}
use Rattle.arith.specs.Quotients.{OneQuotient}
use Rattle.arith.specs.Residues.{residue, first_from, first_quotient, quotient}
use Rattle.arith.specs.Inverses.{inverted}
use Rattle.arith.specs.Remainders.{rem, regrouped}
use Rattle.arith.specs.Same.{same}

-- where n alone passes, n is found
finds : (test : ℕ → Bool) (n q more : ℕ) → q ≤ n → n < q + more → test n ≡ true
    → ((k : ℕ) → k < q + more → test k ≡ true → k ≡ n) → first_from test q more ≡ n
unfolding first_from
finds test n q zero low high hit only = absurd (omega arith)
finds test n q (suc more) low high hit only =
    let pick : Bool → ℕ = λ b. elim b [ true ↦ q | false ↦ first_from test (q + 1) more ] in
    ⊎_elim
    (λ t. ap pick t ∙ only q (omega arith) t)
    (λ t.
    let apart : q ≡ n → ⊥ = λ e. let z : true ≡ false = sym hit ∙ ap test (sym e) ∙ t in cc in
    ap pick t ∙ finds test n (q + 1) more (omega (arith, apart)) (omega arith) hit (λ k h. only k (omega arith)))
    (cases_Bool (test q))

-- a number that gives 1 when it is multiplied by d gives v ÷ d when it is multiplied by v
pub by_inverse : (v d s : ℕ) → v < 65521 → rem (s * d) ≡ 1 → rem (rem (v * s) * d) ≡ v
by_inverse v d s small e = regrouped v s d ∙ ap (λ n. rem (v * n)) e ∙ ap rem (mul-one v) ∙ mod-eq_of_lt small

-- a factor of d can be taken away
cancel : (x y d : ℕ) → x < 65521 → y < 65521 → 0 < d → d < 65521 → rem (x * d) ≡ rem (y * d) → x ≡ y
cancel x y d xs ys pos under e =
    let inverse = inverted d d (omega arith) pos under in
    let s = inverse.0 in
    let one : rem (d * s) ≡ 1 = ap rem (mul_comm d s) ∙ inverse.1 in
    sym (by_inverse x s d xs one) ∙ ap (λ n. rem (n * s)) e ∙ by_inverse y s d ys one

found : (q v d : ℕ) → q < 65521 → 0 < d → d < 65521 → rem (q * d) ≡ v → first_quotient v d ≡ q
unfolding first_quotient
found q v d small pos under e =
    finds (λ k. nat_eq (rem (k * d)) v) q 0 65521 (omega arith) (omega arith) (eq-eqb _ v e)
    (λ k h t. cancel k q d (omega arith) small pos under (eqb-true _ v t ∙ sym e))

-- a residue that gives v when it is multiplied by d is v ÷ d
pub is_quotient : (v d q : Residue) → 0 < d.value → rem (q.value * d.value) ≡ v.value → q ≡ quotient v d
is_quotient v d q pos e =
    same q (quotient v d) (sym (ap rem (found q.value v.value d.value q.below pos d.below e) ∙ mod-eq_of_lt q.below))

-- v ÷ d gives v when it is multiplied by d
pub gives_back : (v d : Residue) → 0 < d.value → rem ((quotient v d).value * d.value) ≡ v.value
gives_back v d pos =
    let inverse = inverted d.value d.value (omega arith) pos d.below in
    let gives = by_inverse v.value d.value inverse.0 v.below inverse.1 in
    ap (λ (q : Residue). rem (q.value * d.value)) (sym (is_quotient v d (residue (v.value * inverse.0)) pos gives)) ∙ gives

pub one_quotient : OneQuotient
one_quotient v d q pos =
    (is_quotient v d q pos, λ e. ap (λ (r : Residue). rem (r.value * d.value)) e ∙ gives_back v d pos)
