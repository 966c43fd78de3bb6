-- What a plan is, by the definitions.
use Rattle.std.specs.Prelude.{◌≡◌, ℕ, ◌+◌, ◌<◌, ◌≤◌, Bool, cond, List, map, length, Ok, Err, Result, nat_le}
use Rattle.std.specs.List.{range_with_len}
use Rattle.graph.specs.Columns.{column, columns, places}
use Rattle.graph.specs.Graphs.{start}
use Rattle.graph.specs.Picking.{Price, order, place_from}
use Rattle.sheet.specs.Patterns.{Pattern, linked_in}
use Rattle.plan.specs.declared.refusals.Refusal.{Refusal}
use Rattle.plan.specs.declared.refusals.Refusal.TheVariants.{TooManyPlaces}
use Rattle.plan.specs.Laid.{laid_rows, laid_starts, laid_marks, sheet_link}
use Rattle.plan.specs.Layout.{Undoes, Starts, Diagonals, Rises, Within, Closed}

-- the number of places: P
abbrev pub place_count : Price → ℕ → (ℕ → ℕ → Bool) → ℕ
place_count price n linked = places (columns price (start n linked) n)

-- the arrays of a plan: the labels in their order, the position of each label, where each column starts, the rows of the columns,
-- each with its diagonal first, and beside each place whether it is a link of the sheet
pub record Arrays : Type 0 where
  pub order : List ℕ
  pub positions : List ℕ
  pub starts : List ℕ
  pub rows : List ℕ
  pub links : List Bool

abbrev pub arrays_for : Price → ℕ → (ℕ → ℕ → Bool) → Arrays
arrays_for price n linked = let g = start n linked in record {
  order = order price g n;
  positions = map (place_from 1 (order price g n)) (range_with_len 1 n);
  starts = laid_starts (column price g n) n;
  rows = laid_rows (column price g n) n;
  links = laid_marks (column price g n) (sheet_link price g) n;
}

-- the plan of what a sheet says, unless it would have more than 8,192 places
abbrev pub planned : Price → Pattern → Result Arrays Refusal
planned price s = let linked = linked_in s.links in cond (nat_le (place_count price s.n linked) 8192) (Ok (arrays_for price s.n linked)) (Err TooManyPlaces)

-- what every plan keeps: order and positions undo each other, columns begin with their diagonals and ascend, starts agree with
-- lengths, and the columns close
pub record Keeps (a : Arrays) : Type 0 where
  pub some : 0 < length a.order
  pub small : length a.order ≤ 512
  pub few : length a.rows ≤ 8192
  pub positions_long : length a.positions ≡ length a.order
  pub starts_long : length a.starts ≡ length a.order + 1
  pub links_long : length a.links ≡ length a.rows
  pub ranked : Undoes (length a.order) a.order a.positions
  pub placed : Undoes (length a.order) a.positions a.order
  pub starting : Starts (length a.order) a.starts a.rows
  pub headed : Diagonals (length a.order) a.starts a.rows
  pub rising : Rises (length a.order) a.starts a.rows
  pub within : Within (length a.order) a.rows
  pub closed : Closed (length a.order) a.starts a.rows a.links
