-- Single steps and verdicts, worked by the definitions.
use Rattle.std.specs.Prelude.{◌≡◌, ℕ, true, false, pos, from_bits, Float}
use Rattle.std.specs.Float.{nan, inf, binary64}
use Rattle.std.specs.Float.Ieee.{of_int, neg}
use Rattle.arith.specs.Floats.{plus_zero, updated_float, judged_float, taken_float, divided_float}
use Rattle.arith.specs.Marks.{off, updated_mark, judged_mark}
use Rattle.arith.specs.Residues.{residue, updated_residue, judged_residue, taken_residue, divided_residue}

-- a whole number as a float
abbrev pub whole : ℕ → Float
whole n = of_int binary64 (pos n)

abbrev pub minus_zero : Float
minus_zero = neg plus_zero

pub record WorkedSteps : Type 0 where
  -- 3 − (1 ÷ 2) × 1 = 2.5, and 1 − (2 ÷ 1) × 2 = −3
  pub float_half : updated_float (whole 3) (whole 1) (whole 2) (whole 1) ≡ from_bits binary64 0x4004_0000_0000_0000
  pub float_below : updated_float (whole 1) (whole 2) (whole 1) (whole 2) ≡ neg (whole 3)
  -- an infinite quotient does not spoil a place whose row or column has a zero
  pub float_row : updated_float (whole 7) minus_zero plus_zero (whole 1) ≡ whole 7
  pub float_column : updated_float (whole 7) (inf false) plus_zero minus_zero ≡ whole 7
  pub float_taken : taken_float (whole 7) minus_zero (inf false) ≡ whole 7
  -- a third is rounded once
  pub float_third : divided_float (whole 1) (whole 3) ≡ from_bits binary64 0x3FD5_5555_5555_5555
  pub float_zeros : (judged_float plus_zero ≡ 1) × (judged_float minus_zero ≡ 1)
  pub float_signs : (judged_float (neg (whole 3)) ≡ 2) × (judged_float (whole 3) ≡ 0)
  pub float_ends : (judged_float nan ≡ 3) × (judged_float (inf false) ≡ 3) × (judged_float (inf true) ≡ 3)
  -- 3 − 1 ÷ 2 = 32,763, and 4 − (2 ÷ 1) × 2 = 0
  pub residue_half : (updated_residue (residue 3) (residue 1) (residue 2) (residue 1)).value ≡ 32763
  pub residue_none : (updated_residue (residue 4) (residue 2) (residue 1) (residue 2)).value ≡ 0
  pub residue_below : (taken_residue (residue 0) (residue 1) (residue 1)).value ≡ 65520
  pub residue_level : (divided_residue (residue 32763) (residue 32763)).value ≡ 1
  pub residue_verdicts : (judged_residue (residue 65521) ≡ 1) × (judged_residue (residue 32763) ≡ 0)
  -- a mark spreads where row and column both are on
  pub mark_spread : updated_mark off (record { on = true }) off (record { on = true }) ≡ record { on = true }
  pub mark_row : updated_mark off (record { on = true }) off off ≡ off
  pub mark_verdicts : (judged_mark off ≡ 1) × (judged_mark (record { on = true }) ≡ 0)
