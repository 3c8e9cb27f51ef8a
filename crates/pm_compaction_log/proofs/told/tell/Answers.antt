use Rattle.pm_model_following.specs.Following.{told}
use Rattle.pm_compaction_log.specs.Told.{changes_of}
use Rattle.pm_compaction_log.proofs.UponLemmas.{on-ok}
use Rattle.pm_compaction_log.proofs.told.tell.Goals as goal

pub returns : goal.returns
returns g c =
    let rows = told c.args.equal_out c.shown-old.result c.shown-new.result in
    on-ok c.tell_shown.result c.tell_shown.ensures
    (λ is. (changes_of c.args.key.now rows, is, (c.in_ok-now.now, c.in_ok-now.ensures, λ i. changes_of c.args.key.now (told c.args.equal_out (c.shown-old.ensures i) (c.shown-new.ensures i)))))
