use Rattle.std.proofs.Common.{Ok, Err}
use Rattle.pm_values.specs.declared.refusal.Refusal.TheVariants as refusals
use Rattle.pm_move_consumer.specs.DropperMeaning.{drop_by}
use Rattle.pm_move_consumer.proofs.DropperLemmas.{no-call, was-dropped, was-refused}
use Rattle.pm_move_consumer.proofs.dropper.drop_consumer.Goals as goal

pub returns-in-Err-clause-alone : goal.returns-in-Err-clause-alone
returns-in-Err-clause-alone g c =
    let store = g.F.FileStore.seen c.args.store.now in
    c.drops_law.ensures.alone c.args.name.now (Err refusals.Memory) store store c.requires (no-call c.args.name.now store)

pub returns-in-Ok-step_dropper-clause-trace : goal.returns-in-Ok-step_dropper-clause-trace
returns-in-Ok-step_dropper-clause-trace g c =
    let seen = g.F.FileStore.seen in
    was-dropped c.args.name.now c.into_told.result c.in-Ok.dropper c.step_dropper.new.dropper (seen c.args.store.now) (seen c.step_dropper.new.store)
    c.in-Ok.ensures c.into_told.ensures c.in-Ok-step_dropper.ensures.acts c.step_dropper.ensures.later

pub returns-in-Ok-step_dropper-clause-alone : goal.returns-in-Ok-step_dropper-clause-alone
returns-in-Ok-step_dropper-clause-alone g c =
    let seen = g.F.FileStore.seen in
    c.drops_law.ensures.alone c.args.name.now (Ok c.into_told.result) (seen c.args.store.now) (seen c.step_dropper.new.store) c.requires
    (was-dropped c.args.name.now c.into_told.result c.in-Ok.dropper c.step_dropper.new.dropper (seen c.args.store.now) (seen c.step_dropper.new.store)
    c.in-Ok.ensures c.into_told.ensures c.in-Ok-step_dropper.ensures.acts c.step_dropper.ensures.later)

pub returns-in-Ok-step_dropper-clause-beside : goal.returns-in-Ok-step_dropper-clause-beside
returns-in-Ok-step_dropper-clause-beside g c = λ me.
    let seen = g.F.FileStore.seen in
    c.drops_law.ensures.beside (drop_by me c.args.name.now) (Ok c.into_told.result) (seen c.args.store.now) (seen c.step_dropper.new.store) c.requires
    (was-dropped c.args.name.now c.into_told.result c.in-Ok.dropper c.step_dropper.new.dropper (seen c.args.store.now) (seen c.step_dropper.new.store)
    c.in-Ok.ensures c.into_told.ensures c.in-Ok-step_dropper.ensures.acts c.step_dropper.ensures.later)

pub returns-in-Err-step_dropper-clause-trace : goal.returns-in-Err-step_dropper-clause-trace
returns-in-Err-step_dropper-clause-trace g c =
    let seen = g.F.FileStore.seen in
    was-refused c.args.name.now c.in-Err-step_dropper.refusal c.in-Ok.dropper c.step_dropper.new.dropper (seen c.args.store.now)
    (seen c.step_dropper.new.store) c.in-Ok.ensures c.in-Err-step_dropper.ensures.acts c.step_dropper.ensures.later

pub returns-in-Err-step_dropper-clause-alone : goal.returns-in-Err-step_dropper-clause-alone
returns-in-Err-step_dropper-clause-alone g c =
    let seen = g.F.FileStore.seen in
    c.drops_law.ensures.alone c.args.name.now (Err c.in-Err-step_dropper.refusal) (seen c.args.store.now) (seen c.step_dropper.new.store) c.requires
    (was-refused c.args.name.now c.in-Err-step_dropper.refusal c.in-Ok.dropper c.step_dropper.new.dropper (seen c.args.store.now)
    (seen c.step_dropper.new.store) c.in-Ok.ensures c.in-Err-step_dropper.ensures.acts c.step_dropper.ensures.later)

pub returns-in-Err-step_dropper-clause-beside : goal.returns-in-Err-step_dropper-clause-beside
returns-in-Err-step_dropper-clause-beside g c = λ me.
    let seen = g.F.FileStore.seen in
    c.drops_law.ensures.beside (drop_by me c.args.name.now) (Err c.in-Err-step_dropper.refusal) (seen c.args.store.now) (seen c.step_dropper.new.store)
    c.requires
    (was-refused c.args.name.now c.in-Err-step_dropper.refusal c.in-Ok.dropper c.step_dropper.new.dropper (seen c.args.store.now)
    (seen c.step_dropper.new.store) c.in-Ok.ensures c.in-Err-step_dropper.ensures.acts c.step_dropper.ensures.later)
