use Rattle.std.proofs.Common.{◌≡◌, ◌+◌, [], ◌∷◌, ◌++◌, false, List, Bool, map, length, vec_items, vec_len, sym, ap, ◌∙◌, ap₂, arith}
use Rattle.std.proofs.lemmas.List.FromFn.{length-map-range_with_len}
use Rattle.std.proofs.lemmas.List.{length-append}
use Rattle.plan.specs.Laid.{laid_rows}
use Rattle.plan.specs.Views.{rows_of, link_of}
use Rattle.plan.proofs.Lays.{rows_more, marks_more, starts_more, rows_fit}
use Rattle.plan.proofs.layout.Layout.lay_out.Goals as goal

pub push_column-requires-clause-room : goal.push_column-requires-clause-room
push_column-requires-clause-room c =
    omega (
      arith,
      rows_fit (rows_of c.args.from.now) (length c.args.from.now.order.now) c.loop-k.k c.loop-k-test.true,
      ap (λ ls. length ls) c.loop-k.invariant.rows,
      c.loop-k.self.rows.ok.0,
      c.requires.few,
    )

pub overflow_cast-len : goal.overflow_cast-len
overflow_cast-len c =
    let col = rows_of c.args.from.now in
    let next = (c.loop-k.k + 1) ∷ col (c.loop-k.k + 1) in
    omega (
      arith,
      c.len.ensures,
      c.push_column.new.self.rows.ok.0,
      ap (λ ls. length ls) c.push_column.ensures.rows,
      length-append (vec_items c.loop-k.self.rows) next,
      ap (λ ls. length ls) c.loop-k.invariant.rows,
      rows_fit col (length c.args.from.now.order.now) c.loop-k.k c.loop-k-test.true,
      c.requires.few,
    )

pub push_reserved-requires-in-loop-k : goal.push_reserved-requires-in-loop-k
push_reserved-requires-in-loop-k c =
    let l : length (vec_items c.loop-k.self.starts) ≡ c.loop-k.k + 1 =
    ap (λ ls. length ls) c.loop-k.invariant.starts ∙ length-map-range_with_len (λ m. length (laid_rows (rows_of c.args.from.now) m)) 0 (c.loop-k.k + 1) in
    omega (arith, l, c.loop-k.self.starts.ok.0, ap vec_len c.push_column.ensures.starts, c.args.from.now.small, c.push_column.new.self.room.0)

pub loop-k-preserved : goal.loop-k-preserved
loop-k-preserved c =
    let col = rows_of c.args.from.now in
    let mark = link_of c.args.from.now in
    let k = c.loop-k.k in
    let rows = c.push_column.ensures.rows ∙ ap (λ xs. xs ++ (k + 1) ∷ col (k + 1)) c.loop-k.invariant.rows ∙ sym (rows_more col k) in
    let len = c.len.ensures ∙ c.push_column.new.self.rows.ok.0 ∙ ap (λ ls. length ls) rows in
    record {
      starts = c.push_reserved-in-loop-k.ensures.items ∙ ap₂ (λ xs x. xs ++ x ∷ []) (ap vec_items c.push_column.ensures.starts ∙ c.loop-k.invariant.starts) len ∙ sym (starts_more col k);
      rows = rows;
      links = c.push_column.ensures.links ∙ ap (λ (xs : List Bool). xs ++ false ∷ map (mark (k + 1)) (col (k + 1))) c.loop-k.invariant.links ∙ sym (marks_more col mark k);
    }
