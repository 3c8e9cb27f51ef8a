use Rattle.std.proofs.Common.{refl, ap, sym, ◌∙◌, [], ◌∷◌}
use Rattle.pm_engine.specs.OfSchema.{kind_by}
use Rattle.pm_partial.proofs.PartialLemmas.{lifts}
use Rattle.pm_partial.proofs.partial_update.PartialUpdateMergeEngine.lift.Goals as goal

-- the row that is made of it speaks for it
pub returns : goal.returns
returns c =
    let engine = c.args.self.now in
    record {
      kind = sym (ap (λ k. kind_by k ((c.args.kind, c.args.row) ∷ [])) engine.in_part);
      lifts = λ fits.
          lifts engine.schema engine.in_part engine.can _ c.as_slice.result.now c.args.kind c.args.row c.in_ok-lifted_row.field-0 (c.as_slice.ensures.value ∙ engine.are) c.requires.taken fits refl c.in_ok-lifted_row.ensures;
    }
