use Rattle.pm_read_expiry.specs.declared.phase.Phase.{Phase}
use Rattle.pm_read_expiry.proofs.ListLemmas.{if_ok, read_stays, some_read}
use Rattle.pm_read_expiry.proofs.after.after_times.Goals as goal

pub with_times-requires-clause-lister : goal.with_times-requires-clause-lister
with_times-requires-clause-lister c =
    read_stays c.args.listed.asking c.args.listed.lister c.take.new.self c.args.answer c.requires.lister.of c.in-Ok.ensures.goes

pub with_times-requires-clause-some : goal.with_times-requires-clause-some
with_times-requires-clause-some c =
    some_read c.args.listed.asking c.args.listed.lister c.take.new.self c.args.answer c.requires.lister.of c.in-Ok.ensures.goes

pub returns-in-Ok-clause-goes : goal.returns-in-Ok-clause-goes
returns-in-Ok-clause-goes c =
    if_ok c.with_times.result _ _ (λ (later : Phase) after. (c.take.new.self, c.in-Ok.ensures.goes, after)) c.with_times.ensures.goes
