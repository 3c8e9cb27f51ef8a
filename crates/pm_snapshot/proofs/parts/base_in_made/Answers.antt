use Rattle.std.proofs.Common.{sym}
use Rattle.pm_snapshot.proofs.PartLemmas.{made_uncut, made_without_actor, made_found, made_other}
use Rattle.pm_snapshot.proofs.parts.base_in_made.Goals as goal

pub returns-in_err-actor-clause-other : goal.returns-in_err-actor-clause-other
returns-in_err-actor-clause-other c = rw c.from_residual.ensures
    (made_uncut c.args.text.now c.in_err-actor.ensures.other)

pub returns-in_err-number_in-clause-other : goal.returns-in_err-number_in-clause-other
returns-in_err-number_in-clause-other c =
    rw c.from_residual-in_err-number_in.ensures
    (made_without_actor c.args.text.now c.in_ok-actor.actor.now c.in_ok-actor.counted.now
    c.in_ok-actor.ensures.found (sym c.in_err-number_in.ensures))

pub returns-clause-found : goal.returns-clause-found
returns-clause-found c =
    made_found c.base_in_counted.result c.args.text.now c.in_ok-actor.actor.now c.in_ok-actor.counted.now
    c.in_ok-number_in.field-0 c.in_ok-actor.ensures.found
    (sym c.in_ok-number_in.ensures) c.base_in_counted.ensures.found

pub returns-clause-other : goal.returns-clause-other
returns-clause-other c =
    made_other c.base_in_counted.result c.args.text.now c.in_ok-actor.actor.now c.in_ok-actor.counted.now
    c.in_ok-actor.ensures.found c.base_in_counted.ensures.other
