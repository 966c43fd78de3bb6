-- The pick among the labels that are left, by their records.
use Rattle.std.specs.Prelude.{ℕ, ◌-◌, ◌<◌, ◌≤◌, Bool, List, nat_lt}
use Rattle.std.specs.List.{All}
use Rattle.plan.specs.declared.records.NodeRecord.{NodeRecord}
use Rattle.plan.specs.Tables.{degree_in}

-- each of the labels is one of 1 to n
abbrev pub Labels : ℕ → List ℕ → Type 0
Labels n = All (λ v. (0 < v) × (v ≤ n))

-- the price of a label at the degree that its record has
abbrev pub price_in : (ℕ → ℕ → ℕ) → List NodeRecord → ℕ → ℕ
price_in price nodes v = price v (degree_in nodes (v - 1))

-- whether the price of label v is below that of label w
abbrev pub cheaper : (ℕ → ℕ → ℕ) → List NodeRecord → ℕ → ℕ → Bool
cheaper price nodes v w = nat_lt (price_in price nodes v) (price_in price nodes w)
