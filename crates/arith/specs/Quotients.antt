-- What the quotient of two residues is.
use Rattle.std.specs.Prelude.{◌≡◌, ℕ, ◌*◌, ◌%◌, ◌<◌, ◌↔◌, ◌≢◌}
use Rattle.arith.specs.declared.residues.Residue.{Residue}
use Rattle.arith.specs.Residues.{quotient}

-- p is above 1, and no number between 1 and p divides it
abbrev pub Prime : ℕ → Type 0
Prime p = (1 < p) × ((m : ℕ) → 1 < m → m < p → p % m ≢ 0)

-- Where d is not 0, v ÷ d is a residue q with q × d ≡ v modulo 65,521, and no other residue is.
abbrev pub OneQuotient : Type 0
OneQuotient = (v d q : Residue) → 0 < d.value → (q.value * d.value % 65521 ≡ v.value) ↔ (q ≡ quotient v d)
