use Rattle.std.proofs.Common.{◌<◌, length, ◌∙◌, arith}
use Rattle.std.proofs.lemmas.List.{take_more}
use Rattle.pm_rows.proofs.ReadLemmas.{values_at-ok, Fits-push}
use Rattle.pm_rows.proofs.read.read_values.Goals as goal

pub loop-index-preserved : goal.loop-index-preserved
loop-index-preserved c =
    let columns = c.args.columns.now in
    let items = c.args.items.now in
    let index = c.loop-index.index in
    let column = c.index-columns-index.result in
    let here : index < length columns = c.loop-index-test.true in
    let there : index < length items = omega arith in
    record {
      exact =
          rw c.in_ok-push.ensures.items
          (values_at-ok index columns items column _ c.loop-index.values.items _ here there c.index-columns-index.is c.index-items-index.is c.in_ok-read_item.ensures.exact
          ∙ c.loop-index.invariant.exact);
      fits =
          rw (c.in_ok-push.ensures.items, take_more columns index column here, ← c.index-columns-index.is)
          (Fits-push _ _ _ _ c.loop-index.invariant.fits c.in_ok-read_item.ensures.fits);
    }
