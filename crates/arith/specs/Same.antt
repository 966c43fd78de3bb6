-- Two residues with one value are one.
use Rattle.std.specs.Prelude.{◌≡◌, ℕ, ◌<◌}
use Rattle.std.proofs.Common.{ap, subst}
use Rattle.std.proofs.Math.Bridge.{le_prop}
use Rattle.arith.specs.declared.residues.Residue.{Residue}

abbrev of_value : (n : ℕ) → n < 65521 → Residue
of_value n h = record { value = n; below = h }

pub same : (x y : Residue) → x.value ≡ y.value → x ≡ y
same x y e =
    subst (λ (n : ℕ). (h : n < 65521) → x ≡ of_value n h) e (λ h. ap (of_value x.value) (le_prop x.below h)) y.below
