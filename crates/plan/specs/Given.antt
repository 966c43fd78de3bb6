-- The price of a given order, by a table of places.
use Rattle.std.specs.Prelude.{◌≡◌, ℕ, ◌-◌, ◌^◌, ◌<◌, cond, ◌&&◌, List, length, Ok, Err, Result, nat_le, nat_lt, slice_index}
use Rattle.graph.specs.Picking.{Price, by_order}
use Rattle.plan.specs.declared.given.GivenOrder.{GivenOrder}
use Rattle.plan.specs.declared.refusals.Refusal.{Refusal}
use Rattle.plan.specs.declared.refusals.Refusal.TheVariants.{NoOrder}

-- the place of label v in a table of 512, 2 ^ 32 - 1 outside it
abbrev pub place_in : List ℕ → ℕ → ℕ
place_in places v = cond (nat_lt 0 v && nat_le v 512) (slice_index places (v - 1)) (2 ^ 32 - 1)

-- the prices of a table of places
abbrev pub prices_of : GivenOrder → Price
prices_of g v d = place_in g.places v

-- the rule of the order labels prices as the definition does; a refusal exactly where there are none
abbrev pub GivenBy : List ℕ → Result GivenOrder Refusal → Type 0
GivenBy order (Ok g) = (0 < length order) × (prices_of g ≡ by_order order)
GivenBy order (Err e) = (length order ≡ 0) × (e ≡ NoOrder)
