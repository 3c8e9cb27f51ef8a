use Rattle.std.proofs.Common.{ap, sym, ◌∙◌, [], ◌∷◌}
use Rattle.pm_engine.specs.OfSchema.{kind_by}
use Rattle.pm_aggregate.proofs.AggregationLemmas.{lifts, takes-all}
use Rattle.pm_aggregate.proofs.aggregation.AggregationMergeEngine.lift.Goals as goal

-- each function takes the row
pub lifted_row-requires : goal.lifted_row-requires
lifted_row-requires c =
    let engine = c.args.self.now in
    takes-all engine.schema engine.aggregates engine.can c.as_slice.result.now c.args.kind (c.as_slice.ensures.value ∙ engine.are) c.requires.taken

-- the row that is made of it speaks for it
pub returns : goal.returns
returns c =
    let engine = c.args.self.now in
    record {
      kind = sym (ap (λ k. kind_by k ((c.args.kind, c.args.row) ∷ [])) engine.aggregates);
      lifts = λ fits.
          lifts engine.schema engine.aggregates engine.can c.as_slice.result.now c.args.kind c.args.row c.in_ok-lifted_row.field-0 (c.as_slice.ensures.value ∙ engine.are) c.requires.taken fits c.in_ok-lifted_row.ensures;
    }
