use Rattle.std.proofs.Common.{not, ap, sym, ◌∙◌}
use Rattle.pm_engine.specs.OfSchema.{meaning_of}
use Rattle.pm_engine.proofs.Facts.{shows_for}
use Rattle.pm_dedup.proofs.LastLemmas.{shows_alone}
use Rattle.pm_dedup.proofs.deduplicate.DeduplicateMergeEngine.shows.Goals as goal

-- a row that doesn't retract shows
pub returns-clause-alone : goal.returns-clause-alone
returns-clause-alone c = ap not c.retracts.ensures ∙ shows_alone c.args.self.now.schema (c.args.stored.now.kind, c.args.stored.now.row) c.args.self.now.deduplicates

-- and the rows that it speaks for show where it does
pub returns-clause-shows : goal.returns-clause-shows
returns-clause-shows c key rows speaks =
    ap not c.retracts.ensures ∙ shows_alone c.args.self.now.schema (c.args.stored.now.kind, c.args.stored.now.row) c.args.self.now.deduplicates
    ∙ sym (shows_for (meaning_of c.args.self.now.schema) key _ rows speaks)
