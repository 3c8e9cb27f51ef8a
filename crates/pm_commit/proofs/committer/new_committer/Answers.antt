use Rattle.std.proofs.Common.{refl, subst, sym}
use Rattle.std.proofs.Math.Facts.{to_z-of_z}
use Rattle.pm_append.proofs.FitLemmas.{batch-fits}
use Rattle.pm_commit.specs.Own.{IsAppend, IsOwn, OwnView, new_author}
use Rattle.pm_commit.proofs.BatchLemmas.{new-is-own}
use Rattle.pm_commit.proofs.committer.new_committer.Goals as goal

pub new-requires-2 : goal.new-requires-2
new-requires-2 c =
    let s = c.args.schema in
    let (rows, is) = c.requires.read in
    let fit = batch-fits c.batch_law.ensures.covers s rows c.args.batch is in
    subst (λ (own : OwnView). IsOwn s own × IsAppend own.intent) (sym c.new.ensures)
    (rw (to_z-of_z c.ranges.identifier, to_z-of_z c.ranges.now_millis) (
      new-is-own s c.args.batch (new_author c.args.user c.args.identifier c.args.now_millis) c.args.check c.args.names
          c.requires.declared (c.batch_law.ensures.folders s rows c.args.batch c.requires.declared fit is) c.requires.few refl c.requires.count,
      tt,
    ))
