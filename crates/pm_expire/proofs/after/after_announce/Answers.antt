use Rattle.pm_expire.specs.declared.phase.Phase.{Phase}
use Rattle.pm_expire.proofs.PhaseLemmas.{announcer_left, if_ok}
use Rattle.pm_expire.proofs.after.after_announce.Goals as goal

pub with_announcer-requires : goal.with_announcer-requires
with_announcer-requires c = record { left = announcer_left c.args.announcer c.args.answer c.take.new.self c.in-Ok.ensures.goes }

pub returns-in-Ok-clause-goes : goal.returns-in-Ok-clause-goes
returns-in-Ok-clause-goes c =
    if_ok c.with_announcer.result _ _ (λ (later : Phase) after. (c.take.new.self, c.in-Ok.ensures.goes, after)) c.with_announcer.ensures.goes
