-- What it is to update one column by another, place by place.
use Rattle.std.specs.Prelude.{◌≡◌, ℕ, ◌<◌, ◌≤◌, List, slice_index, slice_index_or}
use Rattle.arith.specs.Operations.{Operations}

-- the place p of the source and the place q of the target have one row
abbrev pub Meets : List ℕ → ℕ → ℕ → ℕ → ℕ → ℕ → ℕ → Type 0
Meets rows source past target stop p q =
    (source ≤ p) × (p < past) × (target ≤ q) × (q < stop) × (slice_index rows p ≡ slice_index rows q)

-- `after` is `before` with each number of the target that meets one of the source updated by it
pub record Updated {X : Type 0} (o : Operations X) (rows : List ℕ) (pivot source past target stop : ℕ) (before after : List X) : Type 0 where
  pub met : (p q : ℕ) → Meets rows source past target stop p q
      → slice_index_or after q o.nothing ≡ o.updated (slice_index_or before q o.nothing) (slice_index_or before p o.nothing) (slice_index_or before pivot o.nothing) (slice_index_or before source o.nothing)
  pub missed : (q : ℕ) → ((p : ℕ) → Meets rows source past target stop p q → ⊥) → slice_index_or after q o.nothing ≡ slice_index_or before q o.nothing

abbrev pub Ascends : List ℕ → ℕ → ℕ → Type 0
Ascends rows first past = (p q : ℕ) → (first ≤ p) × (p < q) × (q < past) → slice_index rows p < slice_index rows q

-- each row of the places source..past is among those of target..stop
abbrev pub Contained : List ℕ → ℕ → ℕ → ℕ → ℕ → Type 0
Contained rows source past target stop =
    (p : ℕ) → (source ≤ p) × (p < past) → (q : ℕ) × ((target ≤ q) × (q < stop) × (slice_index rows p ≡ slice_index rows q))
