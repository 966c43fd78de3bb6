-- The residues form a field.
use Rattle.std.proofs.Common.{◌≡◌, ℕ, false, sym, refl, ap, ◌∙◌, ⊎_elim, add_assoc, mod-eq_of_lt, mul_assoc, mul_comm, add_comm, mul-zero, mul-one, mul-add, arith}
use Rattle.std.proofs.Math.Nat.{mod-add-mod, add-mod-mod}
use Rattle.std.proofs.lemmas.Bool.{cases_Bool, cond-false, eqb-true}
use Rattle.std.proofs.lemmas.Bool.Decides.{nat_tests}
use Rattle.std.proofs.lemmas.Nat.{mul-mod_first, mul-mod_second}
use Rattle.arith.specs.declared.residues.Residue.{Residue}
use Rattle.arith.specs.Fields.{Field, residue_ring}
use Rattle.arith.specs.Operations.{residues}
use Rattle.arith.specs.Residues.{residue, is_zero, difference, product, quotient, judged_residue}
use Rattle.arith.specs.Nothing.{positive}
use Rattle.arith.specs.QuotientsLemmas.{is_quotient, gives_back, by_inverse}
use Rattle.arith.specs.Remainders.{rem}
use Rattle.arith.specs.Same.{same}

-- what serves as pivot is not 0
serving : (d : Residue) → judged_residue d ≡ 0 → is_zero d ≡ false
serving d e = grind (arith, nat_tests)

-- v ÷ d is v × (1 ÷ d)
by_one : (v d : Residue) → judged_residue d ≡ 0 → quotient v d ≡ product v (quotient (residue 1) d)
by_one v d e =
    let pos = positive d (serving d e) in
    let inverse = quotient (residue 1) d in
    sym (is_quotient v d (product v inverse) pos (by_inverse v.value d.value inverse.value v.below (gives_back (residue 1) d pos)))

pub residue_field : Field residues residue_ring
residue_field = record {
  plus_commutes = λ a b. same _ _ (ap rem (add_comm a.value b.value));
  plus_associates = λ a b c. same _ _ (simp (mod-add-mod, add-mod-mod, add_assoc));
  plus_nothing = λ a. same _ a (omega (arith, a.below));
  minus_plus = λ a b. same _ a (omega (arith, a.below, b.below));
  times_commutes = λ a b. same _ _ (ap rem (mul_comm a.value b.value));
  times_associates = λ a b c. same _ _ (simp (mul-mod_first, mul-mod_second, mul_assoc));
  times_one = λ a. same _ a (ap rem (mul-one a.value) ∙ mod-eq_of_lt a.below);
  times_nothing = λ a. same _ _ (ap rem (mul-zero a.value));
  times_plus = λ a b c. same _ _ (simp (mul-mod_second, mul-add, mod-add-mod, add-mod-mod));
  one_apart = λ e. let z : ◌≡◌ {A = ℕ} 1 0 = ap (λ (r : Residue). r.value) e in omega arith;
  pivots = λ d apart. ⊎_elim
      (λ t. absurd (apart (same d (residue 0) (eqb-true d.value 0 t))))
      (λ t. cond-false (is_zero d) 1 0 t)
      (cases_Bool (is_zero d));
  inverts = λ d e. same _ _ (ap rem (mul_comm d.value (quotient (residue 1) d).value) ∙ gives_back (residue 1) d (positive d (serving d e)));
  updates = λ a u d v e.
      cond-false (is_zero d) a _ (serving d e) ∙ ap (λ q. difference a (product q u)) (by_one v d e);
  takes = λ b u y. refl;
  divides = λ b d e. cond-false (is_zero d) b _ (serving d e) ∙ by_one b d e;
}
