use Rattle.std.proofs.Common.{arith, rules}
use Rattle.listing.proofs.Writes.{all_counted, table_written, fits, table_filled, overflows}
use Rattle.listing.proofs.writing.write_all.Goals as goal

pub returns-then-count-table : goal.returns-then-count-table
returns-then-count-table g c = record {
  answer = λ xs puts.
      let n = all_counted c.new-count.ensures.len (puts.1 _ _ c.put.ensures) puts.0 in
      (overflows xs c.args.table.now (omega arith)).0;
  table = λ xs puts.
      let n = all_counted c.new-count.ensures.len (puts.1 _ _ c.put.ensures) puts.0 in
      (overflows xs c.args.table.now (omega arith)).1;
}

pub returns : goal.returns
returns g c = record {
  answer = λ xs puts.
      let n = all_counted c.new-count.ensures.len (puts.1 _ _ c.put.ensures) puts.0 in
      fits xs c.args.table.now (all_counted c.new-page.ensures.len (puts.1 _ _ c.put-2.ensures) puts.0) (omega arith);
  table = λ xs puts.
      let n = all_counted c.new-count.ensures.len (puts.1 _ _ c.put.ensures) puts.0 in
      let all = puts.1 _ _ c.put-2.ensures in
      table_filled xs c.args.table.now (table_written c.new-page.ensures.held c.new-page.ensures.len all puts.0 (search rules)) (omega arith);
}
