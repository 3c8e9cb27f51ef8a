use Rattle.std.proofs.Common.{ap, sym, ◌∙◌, ◌++◌}
use Rattle.pm_engine.specs.OfSchema.{kind_by}
use Rattle.pm_partial.proofs.PartialLemmas.{combines}
use Rattle.pm_partial.proofs.partial_update.PartialUpdateMergeEngine.combine.Goals as goal

-- the row that is made of both speaks for what both speak for
pub returns : goal.returns
returns c =
    let engine = c.args.self.now in
    record {
      kind = λ before after _ _ _ _. sym (ap (λ k. kind_by k (before ++ after)) engine.in_part);
      combines = λ key before after one two.
          combines engine.schema engine.in_part engine.can key c.as_slice.result.now (c.args.older.kind, c.args.older.row) (c.args.newer.kind, c.args.newer.row) before after c.in_ok-combined_row.field-0
          (c.as_slice.ensures.value ∙ engine.are) c.in_ok-combined_row.ensures one two;
    }
