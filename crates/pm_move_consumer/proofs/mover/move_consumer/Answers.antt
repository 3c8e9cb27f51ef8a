use Rattle.std.proofs.Common.{Ok, Err}
use Rattle.pm_values.specs.declared.refusal.Refusal.TheVariants as refusals
use Rattle.pm_move_consumer.specs.Mover.{moving_of}
use Rattle.pm_move_consumer.specs.MoverMeaning.{move_by}
use Rattle.pm_move_consumer.proofs.MoverLemmas.{no-call, was-moved, was-refused}
use Rattle.pm_move_consumer.proofs.mover.move_consumer.Goals as goal

pub returns-in-Err-clause-alone : goal.returns-in-Err-clause-alone
returns-in-Err-clause-alone g c =
    let store = g.F.FileStore.seen c.args.store.now in
    let m = moving_of c.args.name.now c.args.expected c.args.next in
    c.moves_law.ensures.alone m (Err refusals.Memory) store store c.requires (no-call m store)

pub returns-in-Ok-step_mover-clause-trace : goal.returns-in-Ok-step_mover-clause-trace
returns-in-Ok-step_mover-clause-trace g c =
    let seen = g.F.FileStore.seen in
    was-moved (moving_of c.args.name.now c.args.expected c.args.next) c.into_moved.result c.in-Ok.mover c.step_mover.new.mover (seen c.args.store.now)
    (seen c.step_mover.new.store) c.in-Ok.ensures c.into_moved.ensures c.in-Ok-step_mover.ensures.acts c.step_mover.ensures.later

pub returns-in-Ok-step_mover-clause-alone : goal.returns-in-Ok-step_mover-clause-alone
returns-in-Ok-step_mover-clause-alone g c =
    let seen = g.F.FileStore.seen in
    let m = moving_of c.args.name.now c.args.expected c.args.next in
    c.moves_law.ensures.alone m (Ok c.into_moved.result) (seen c.args.store.now) (seen c.step_mover.new.store) c.requires
    (was-moved m c.into_moved.result c.in-Ok.mover c.step_mover.new.mover (seen c.args.store.now) (seen c.step_mover.new.store) c.in-Ok.ensures
    c.into_moved.ensures c.in-Ok-step_mover.ensures.acts c.step_mover.ensures.later)

pub returns-in-Ok-step_mover-clause-beside : goal.returns-in-Ok-step_mover-clause-beside
returns-in-Ok-step_mover-clause-beside g c = λ me text.
    let seen = g.F.FileStore.seen in
    let m = moving_of c.args.name.now c.args.expected c.args.next in
    c.moves_law.ensures.beside (move_by me m text) (Ok c.into_moved.result) (seen c.args.store.now) (seen c.step_mover.new.store) c.requires
    (was-moved m c.into_moved.result c.in-Ok.mover c.step_mover.new.mover (seen c.args.store.now) (seen c.step_mover.new.store) c.in-Ok.ensures
    c.into_moved.ensures c.in-Ok-step_mover.ensures.acts c.step_mover.ensures.later)

pub returns-in-Err-step_mover-clause-trace : goal.returns-in-Err-step_mover-clause-trace
returns-in-Err-step_mover-clause-trace g c =
    let seen = g.F.FileStore.seen in
    was-refused (moving_of c.args.name.now c.args.expected c.args.next) c.in-Err-step_mover.refusal c.in-Ok.mover c.step_mover.new.mover
    (seen c.args.store.now) (seen c.step_mover.new.store) c.in-Ok.ensures c.in-Err-step_mover.ensures.acts c.step_mover.ensures.later

pub returns-in-Err-step_mover-clause-alone : goal.returns-in-Err-step_mover-clause-alone
returns-in-Err-step_mover-clause-alone g c =
    let seen = g.F.FileStore.seen in
    let m = moving_of c.args.name.now c.args.expected c.args.next in
    c.moves_law.ensures.alone m (Err c.in-Err-step_mover.refusal) (seen c.args.store.now) (seen c.step_mover.new.store) c.requires
    (was-refused m c.in-Err-step_mover.refusal c.in-Ok.mover c.step_mover.new.mover (seen c.args.store.now) (seen c.step_mover.new.store)
    c.in-Ok.ensures c.in-Err-step_mover.ensures.acts c.step_mover.ensures.later)

pub returns-in-Err-step_mover-clause-beside : goal.returns-in-Err-step_mover-clause-beside
returns-in-Err-step_mover-clause-beside g c = λ me text.
    let seen = g.F.FileStore.seen in
    let m = moving_of c.args.name.now c.args.expected c.args.next in
    c.moves_law.ensures.beside (move_by me m text) (Err c.in-Err-step_mover.refusal) (seen c.args.store.now) (seen c.step_mover.new.store) c.requires
    (was-refused m c.in-Err-step_mover.refusal c.in-Ok.mover c.step_mover.new.mover (seen c.args.store.now) (seen c.step_mover.new.store)
    c.in-Ok.ensures c.in-Err-step_mover.ensures.acts c.step_mover.ensures.later)
