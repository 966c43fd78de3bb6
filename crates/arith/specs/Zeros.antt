-- What a zero leaves of a float.
use Rattle.std.specs.Prelude.{◌≡◌, ◌||◌, true, refl, Float}
use Rattle.std.specs.Float.Ieee.{eq, of_bits}
use Rattle.std.proofs.Math.Bool.{or-true}
use Rattle.std.proofs.lemmas.Bool.{cond-true}
use Rattle.arith.specs.Floats.{plus_zero, is_zero, updated_float, taken_float}

pub row : (a d v : Float) → updated_float a plus_zero d v ≡ a
unfolding eq of_bits
row a d v = refl

pub column : (a u d : Float) → updated_float a u d plus_zero ≡ a
unfolding eq of_bits
column a u d = cond-true (is_zero u || true) a _ (or-true (is_zero u))

pub calm : (b y : Float) → taken_float b plus_zero y ≡ b
unfolding eq of_bits
calm b y = refl
