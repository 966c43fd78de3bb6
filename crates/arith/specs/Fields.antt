-- The laws of a field, for a kind of number that can be solved with.
use Rattle.std.specs.Prelude.{◌≡◌, ◌≢◌}
use Rattle.arith.specs.declared.residues.Residue.{Residue}
use Rattle.arith.specs.Operations.{Solvers}
use Rattle.arith.specs.Residues.{residue, sum, difference, product, quotient}

pub record Ring (X : Type 0) : Type 0 where
  pub one : X
  pub plus : X → X → X
  pub minus : X → X → X
  pub times : X → X → X
  pub inverse : X → X

-- The numbers of s form a field by the operations of r: its zero is nothing, all its numbers but nothing serve as pivots,
-- what serves as pivot has an inverse, and s works by the formulas of the field.
pub record Field {X : Type 0} (s : Solvers X) (r : Ring X) : Type 0 where
  pub plus_commutes : (a b : X) → r.plus a b ≡ r.plus b a
  pub plus_associates : (a b c : X) → r.plus (r.plus a b) c ≡ r.plus a (r.plus b c)
  pub plus_nothing : (a : X) → r.plus a s.base.nothing ≡ a
  pub minus_plus : (a b : X) → r.plus (r.minus a b) b ≡ a
  pub times_commutes : (a b : X) → r.times a b ≡ r.times b a
  pub times_associates : (a b c : X) → r.times (r.times a b) c ≡ r.times a (r.times b c)
  pub times_one : (a : X) → r.times a r.one ≡ a
  pub times_nothing : (a : X) → r.times a s.base.nothing ≡ s.base.nothing
  pub times_plus : (a b c : X) → r.times a (r.plus b c) ≡ r.plus (r.times a b) (r.times a c)
  pub one_apart : r.one ≡ s.base.nothing → ⊥
  pub pivots : (d : X) → (d ≢ s.base.nothing) → s.base.judged d ≡ 0
  pub inverts : (d : X) → s.base.judged d ≡ 0 → r.times d (r.inverse d) ≡ r.one
  pub updates : (a u d v : X) → s.base.judged d ≡ 0 → s.base.updated a u d v ≡ r.minus a (r.times (r.times v (r.inverse d)) u)
  pub takes : (b u y : X) → s.taken b u y ≡ r.minus b (r.times u y)
  pub divides : (b d : X) → s.base.judged d ≡ 0 → s.divided b d ≡ r.times b (r.inverse d)

abbrev pub residue_ring : Ring Residue
residue_ring = record { one = residue 1; plus = sum; minus = difference; times = product; inverse = quotient (residue 1) }
