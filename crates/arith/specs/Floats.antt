-- Floats of 64 bits: the values and operations of IEEE 754, each operation rounded once. There is one NaN.
use Rattle.std.specs.Prelude.{ℕ, Bool, cond, ◌||◌, from_bits, Float}
use Rattle.std.specs.Float.Ieee.{sub, mul, div, eq, lt}
use Rattle.std.specs.Float.{float_is_finite, binary64}

abbrev pub plus_zero : Float
plus_zero = from_bits binary64 0

-- whether a float is a zero, of either sign
abbrev pub is_zero : Float → Bool
is_zero x = eq x plus_zero

-- a − (v ÷ d) × u, and a where u or v is a zero
abbrev pub updated_float : Float → Float → Float → Float → Float
updated_float a u d v = cond (is_zero u || is_zero v) a (sub binary64 a (mul binary64 (div binary64 v d) u))

-- 3 where d is infinite or not a number, 1 for a zero, 2 below zero, and else 0
abbrev pub judged_float : Float → ℕ
judged_float d = cond (float_is_finite d) (cond (is_zero d) 1 (cond (lt d plus_zero) 2 0)) 3

-- b − u × y, and b where u is a zero
abbrev pub taken_float : Float → Float → Float → Float
taken_float b u y = cond (is_zero u) b (sub binary64 b (mul binary64 u y))

-- b ÷ d
abbrev pub divided_float : Float → Float → Float
divided_float b d = div binary64 b d
