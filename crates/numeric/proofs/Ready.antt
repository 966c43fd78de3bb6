-- What the walk asks of the rows of a column and of its target, for the part of a plan's rows from the pivot on.
use Rattle.std.proofs.Common.{◌≡◌, ℕ, ◌+◌, ◌-◌, ◌<◌, ◌≤◌, List, ◌∷◌, length, get_or, take, drop, ap, ◌∙◌, ap₂, inl, inr, arith}
use Rattle.std.proofs.lemmas.List.{take_rest, get_or-drop}
use Rattle.std.proofs.lemmas.Bool.{cases_eq}
use Rattle.arith.specs.Operations.{Operations}
use Rattle.plan.specs.declared.columns.Column.{Column}
use Rattle.plan.specs.declared.plans.Plan.{Plan}
use Rattle.plan.specs.Lookups.{start_in, rows_in}
use Rattle.plan.specs.Planned.{Arrays}
use Rattle.plan.specs.Positions.{Position}
use Rattle.plan.specs.Views.{arrays_of}
use Rattle.plan.specs.Walks.{column_is, columns_at}
use Rattle.plan.proofs.Kept.{position}
use Rattle.plan.proofs.Walks.{later_more}
use Rattle.numeric.specs.Updates.{Updated, Ascends, Contained}
use Rattle.plan.proofs.Spans.{row_at, column_some, head, rising, row_position, rows_long, row_there}
use Rattle.numeric.proofs.Layouts.{Place, target_past, closing}

-- column k is start..past, and the column of the row at its place `source` is target..stop
pub record Aimed (a : Arrays) (k source start past target stop : ℕ) (rows : List ℕ) : Type 0 where
  pub column : Position a k
  pub rows_is : rows ≡ a.rows
  pub start_is : start ≡ start_in a k
  pub past_is : past ≡ start_in a (k + 1)
  pub target_is : target ≡ start_in a (row_at a source)
  pub stop_is : stop ≡ start_in a (row_at a source + 1)
  pub low : start < source
  pub high : source < past

-- with the column of that row, the first of those that are left
pub aim : (column later : Column) (source start past target stop : ℕ) (rows : List ℕ) (left : List (Plan × ℕ))
    → rows ≡ (arrays_of column.plan.now).rows
    → start ≡ start_in (arrays_of column.plan.now) column.position → past ≡ start_in (arrays_of column.plan.now) (column.position + 1)
    → target ≡ start_in (arrays_of later.plan.now) later.position → stop ≡ start_in (arrays_of later.plan.now) (later.position + 1)
    → start_in (arrays_of column.plan.now) column.position < source → source < start_in (arrays_of column.plan.now) (column.position + 1)
    → columns_at column.plan.now (drop (source - (start_in (arrays_of column.plan.now) column.position + 1)) (rows_in (arrays_of column.plan.now) column.position)) ≡ column_is later ∷ left
    → Aimed (arrays_of column.plan.now) column.position source start past target stop rows
aim column later source start past target stop rows left rows_is start_is past_is target_is stop_is low high first =
    let a = arrays_of column.plan.now in
    let k = column.position in
    let here = position column in
    let i = source - (start_in a k + 1) in
    let h : i < length (rows_in a k) = omega (arith, rows_long a k here) in
    let f = later_more column.plan.now later left (rows_in a k) i h first in
    let there : start_in a k + 1 + i ≡ source = omega arith in
    let row : later.position ≡ row_at a source = f.1 ∙ row_there a k here i h ∙ ap (row_at a) there in
    record {
      column = here;
      rows_is = rows_is;
      start_is = start_is;
      past_is = past_is;
      target_is = target_is ∙ ap₂ (λ p j. start_in (arrays_of p) j) f.0 row;
      stop_is = stop_is ∙ ap₂ (λ p j. start_in (arrays_of p) (j + 1)) f.0 row;
      low = omega (arith, start_is);
      high = omega (arith, past_is);
    }

module _ (a : Arrays) (k source start past target stop : ℕ) (rows : List ℕ) (aimed : Aimed a k source start past target stop rows) where
  part_row : (x : ℕ) → get_or (take (length rows - start) (drop start rows)) x 0 ≡ row_at a (start + x)
  part_row x = ap (λ l. get_or l x 0) (take_rest rows start) ∙ get_or-drop start rows x 0 ∙ ap (λ l. get_or l (start + x) 0) aimed.rows_is

  pub column_past : past ≤ target
  column_past = omega (arith, target_past a k aimed.column source (omega arith) (omega arith))

  row_in : Position a (row_at a source)
  row_in = row_position a k aimed.column source (omega arith) (omega arith)

  pub sources_rise : Ascends (take (length rows - start) (drop start rows)) (source - start) (past - start)
  sources_rise p q m =
      let f = rising a k aimed.column (start + p) (start + q) (omega arith) (omega (arith, m.1)) (omega (arith, m.2)) in
      omega (arith, part_row p, part_row q)

  pub targets_rise : Ascends (take (length rows - start) (drop start rows)) (target - start) (stop - start)
  targets_rise p q m =
      let f = rising a (row_at a source) row_in (start + p) (start + q) (omega (arith, m.0)) (omega (arith, m.1)) (omega (arith, m.2)) in
      omega (arith, part_row p, part_row q)

  -- the target has each later row of the source
  held : (b : ℕ) → source ≤ b → b < past → (q : ℕ) × Place a (row_at a b) (row_at a source) q
  held b l h = elim (cases_eq source b) [
    | inl e ↦ (
      start_in a (row_at a source),
      record { column = row_in; low = omega arith; high = column_some a (row_at a source) row_in; row = head a (row_at a source) row_in ∙ ap (row_at a) e },
    )
    | inr ne ↦ closing a k aimed.column source b (omega arith) (omega arith) (omega arith)
  ]

  pub contained : Contained (take (length rows - start) (drop start rows)) (source - start) (past - start) (target - start) (stop - start)
  contained p m =
      let f = held (start + p) (omega (arith, m.0)) (omega (arith, m.1)) in
      let after = column_past in
      let q_low : start ≤ f.0 = omega (arith, f.1.low) in
      let q_is : start + (f.0 - start) ≡ f.0 = omega arith in
      let row_p = part_row p in
      let row_q = part_row (f.0 - start) in
      let row = f.1.row in
      (f.0 - start, (omega (arith, f.1.low), omega (arith, f.1.high), (cc)))

  -- an update of the target, by the plan's own names of the places
  pub updated_there : {X : Type 0} (o : Operations X) (before after : List X) → Updated o rows start source past target stop before after
      → Updated o a.rows (start_in a k) source (start_in a (k + 1)) (start_in a (row_at a source)) (start_in a (row_at a source + 1)) before after
  updated_there o before after u = rw (aimed.rows_is, aimed.start_is, aimed.past_is, aimed.target_is, aimed.stop_is) at u
