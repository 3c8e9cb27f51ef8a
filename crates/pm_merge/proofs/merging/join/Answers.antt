use Rattle.pm_merge.proofs.MergingLemmas.{newer_kept, older_kept}
use Rattle.pm_merge.proofs.merging.join.Goals as goal

-- the older side's
pub returns-in-Older-clause-combines : goal.returns-in-Older-clause-combines
returns-in-Older-clause-combines g c =
    older_kept (g.E.MergeEngine.meaning c.args.engine.now) (g.P.RowPlace.held c.args.older.now.value) (g.P.RowPlace.held c.args.newer.now.value) (g.P.RowPlace.held c.keep.new.slot.value) c.requires.same
    (rw c.in-Older.is at c.needed.ensures) c.keep.ensures.keeps

-- the newer side's
pub returns-in-Newer-clause-combines : goal.returns-in-Newer-clause-combines
returns-in-Newer-clause-combines g c =
    newer_kept (g.E.MergeEngine.meaning c.args.engine.now) (g.P.RowPlace.held c.args.older.now.value) (g.P.RowPlace.held c.args.newer.now.value) (g.P.RowPlace.held c.keep-in-Newer.new.slot.value) c.requires.same
    (rw c.in-Newer.is at c.needed.ensures) c.keep-in-Newer.ensures.keeps

-- both
pub returns-in_ok-combine-in-Both-clause-combines : goal.returns-in_ok-combine-in-Both-clause-combines
returns-in_ok-combine-in-Both-clause-combines g c =
    rw (c.as_mut.ensures.value, c.as_mut-in-Both.ensures.value) at c.in_ok-combine-in-Both.ensures.combines

-- the places go with them
pub returns-in-Newer-clause-fits : goal.returns-in-Newer-clause-fits
returns-in-Newer-clause-fits g c = λ table place older newer. let kept = c.keep-in-Newer.ensures.fits table place newer in (kept.0, kept.2, kept.1)
