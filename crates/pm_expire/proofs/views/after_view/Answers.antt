use Rattle.pm_read_whole.proofs.Facts as whole_facts
use Rattle.pm_expire.specs.declared.phase.Phase.{Phase}
use Rattle.pm_expire.proofs.PhaseLemmas.{if_ok, view_stays}
use Rattle.pm_expire.proofs.views.after_view.Goals as goal

pub with_view-requires-clause-of : goal.with_view-requires-clause-of
with_view-requires-clause-of c =
    view_stays c.args.views.announced.found.schema c.args.views.id c.args.reader c.args.answer c.take.new.self c.in-Ok.ensures.goes c.requires.read.of

pub with_view-requires-clause-left : goal.with_view-requires-clause-left
with_view-requires-clause-left c =
    (whole_facts.goes c.args.reader c.args.answer c.take.new.self c.requires.read.whole c.in-Ok.ensures.goes).1

pub returns-in-Ok-clause-goes : goal.returns-in-Ok-clause-goes
returns-in-Ok-clause-goes c =
    if_ok c.with_view.result _ _ (λ (later : Phase) after. (c.take.new.self, c.in-Ok.ensures.goes, after)) c.with_view.ensures.goes
