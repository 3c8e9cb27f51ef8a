use Rattle.pm_merge.proofs.FitLemmas.{fit_halved}
use Rattle.pm_merge.proofs.MergingLemmas.{gave_none, rests_halved}
use Rattle.std.proofs.Common.{map, ◌∙◌, ap}
use Rattle.pm_merge.proofs.merging.Merging.+of.Goals as goal

-- both halves, of which no row was asked for yet
pub returns-clause-left : goal.returns-clause-left
returns-clause-left g t c = λ m. (
  map g.S.RowSource.rest c.split_off.new.self.items,
  map g.S.RowSource.rest c.in_ok-newer.newer.items,
  rests_halved g.S.RowSource.rest _ c.args.older_first.items c.split_off.new.self.items c.in_ok-newer.newer.items c.in_ok-newer.ensures.items c.in_ok-newer.ensures.tail,
  gave_none m _ _ _ (ap g.P.RowPlace.held c.in_ok-new-3.ensures.ok ∙ c.empty.ensures.none) (rw c.in_ok-new.ensures.ok (c.in_ok-older.ensures.left m)),
  gave_none m _ _ _ (ap g.P.RowPlace.held c.in_ok-new-4.ensures.ok ∙ c.empty-2.ensures.none) (rw c.in_ok-new-2.ensures.ok (c.in_ok-newer-2.ensures.left m)),
)

pub returns-clause-fits : goal.returns-clause-fits
returns-clause-fits g t c = λ table all.
    let (first, second) = fit_halved (λ s. g.S.RowSource.fits s table) _ c.args.older_first.items c.split_off.new.self.items c.in_ok-newer.newer.items c.in_ok-newer.ensures.items c.in_ok-newer.ensures.tail all in (
      (rw c.in_ok-new-3.ensures.ok (c.empty.ensures.fits table), rw c.in_ok-new.ensures.ok (c.in_ok-older.ensures.fits table first)),
      (rw c.in_ok-new-4.ensures.ok (c.empty-2.ensures.fits table), rw c.in_ok-new-2.ensures.ok (c.in_ok-newer-2.ensures.fits table second)),
    )
