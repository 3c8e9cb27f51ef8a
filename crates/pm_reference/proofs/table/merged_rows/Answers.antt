use Rattle.std.proofs.Common.{arith, ◌-◌, ◌<◌, length, get_or, ◌∙◌}
use Rattle.std.proofs.lemmas.List.{get_or_default}
use Rattle.pm_model_history.specs.Merge.{HistoryRow}
use Rattle.pm_model_history.specs.Merged.{merged_entry}
use Rattle.pm_reference.proofs.TableLemmas.{entries-empty, entries_more}
use Rattle.pm_reference.proofs.table.merged_rows.Goals as goal

-- no row was taken
pub loop-index-init : goal.loop-index-init
loop-index-init c = record {
  within = omega arith;
  table = entries-empty (merged_entry c.args.schema.now c.args.rows.now) c.args.rows.now c.new-table.result.entries c.new-table.ensures.empty;
}

-- one row more was taken
pub loop-index-preserved : goal.loop-index-preserved
loop-index-preserved c =
    let rows = c.args.rows.now in
    let i = c.loop-index.index in
    let within : i - 1 < length rows = omega arith in
    let row : HistoryRow = get_or rows (i - 1) c.index-rows-index.result in
    record {
      within = omega arith;
      table = entries_more c.args.schema.now rows i row c.as_slice.result.now c.loop-index.table.entries c.put.new.table.entries c.loop-index-test.true within (get_or_default rows (i - 1) c.index-rows-index.result row within) (c.as_slice.ensures.value ∙ c.in_ok-primary.ensures) c.in_ok-put.ensures c.loop-index.invariant.table;
    }
