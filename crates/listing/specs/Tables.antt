-- Items put on a page, a lent table.
use Rattle.std.specs.Prelude.{◌≡◌, ℕ, ◌+◌, ◌<◌, ◌^◌, cond, List, ◌++◌, length, drop, Ok, Err, Result, nat_le}
use Rattle.std.specs.Borrow.{MutBor}
use Rattle.std.proofs.lemmas.List.Edits.{sets}
use Rattle.listing.specs.declared.writing.Page.{Page}
use Rattle.listing.specs.declared.refusals.TooShort.{TooShort}

-- xs is put on a page: where all of it can be counted, it is written from the place that the page had reached, and what falls
-- past the table's end is counted and not written
pub record Puts {X : Type 0} (xs : List X) (before after : Page X) : Type 0 where
  pub same : after.table.ghost_name ≡ before.table.ghost_name
  pub held : before.len + length xs < 2 ^ 64 → after.table.now ≡ sets before.table.now before.len xs
  pub ends : before.len + length xs < 2 ^ 64 → after.len ≡ before.len + length xs

-- a call puts xs on every page, and all of it can be counted
abbrev pub CallPuts : {X : Type 0} → (MutBor (Page X) → Unit {0} → MutBor (Page X) → Type 0) → List X → Type 0
CallPuts {X} call xs = (length xs < 2 ^ 64) × ((p q : MutBor (Page X)) → call p tt q → Puts xs p.now q.now)

-- what a call answers that writes xs to the front of a table: how many they are, unless they are more than the table holds
abbrev pub answer_for : {X : Type 0} → List X → List X → Result ℕ TooShort
answer_for xs table = cond (nat_le (length xs) (length table)) (Ok (length xs)) (Err (record {}))

-- what the table holds after that call: xs and then what stood behind them, or all that it held
abbrev pub table_for : {X : Type 0} → List X → List X → List X
table_for xs table = cond (nat_le (length xs) (length table)) (xs ++ drop (length xs) table) table
