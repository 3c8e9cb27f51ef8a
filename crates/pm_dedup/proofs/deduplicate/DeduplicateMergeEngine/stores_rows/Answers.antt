use Rattle.std.proofs.Common.{[], ◌∷◌, ap, refl, subst, sym}
use Rattle.pm_engine.specs.Covers.{row_of}
use Rattle.pm_engine.specs.Meaning.{SpeaksFor}
use Rattle.pm_engine.specs.OfSchema.{kind_by, meaning_of}
use Rattle.pm_dedup.proofs.LastLemmas.{lifts}
use Rattle.pm_dedup.proofs.deduplicate.DeduplicateMergeEngine.stores_rows.Goals as goal

-- a taken row speaks for itself, and has its own kind
pub returns : goal.returns
returns c _ row taken =
    let s = c.args.self.now.schema in
    record {
      same_key = refl;
      number = refl;
      kind = sym (ap (λ k. kind_by k (row_of row ∷ [])) c.args.self.now.deduplicates);
      speaks = λ keyed. subst (λ key. SpeaksFor (meaning_of s) key (row_of row) (row_of row ∷ [])) keyed.own (lifts s row.kind row.row c.args.self.now.deduplicates taken keyed.fits);
    }
