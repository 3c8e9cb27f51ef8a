use Rattle.std.proofs.Common.{arith}
use Rattle.pm_register.specs.Registrar.{registering}
use Rattle.pm_command_consume.proofs.OpenLemmas.{nothing_brings, registering_brings}
use Rattle.pm_command_consume.proofs.PieceLemmas.{joined_calls, joined_place, joins_none}
use Rattle.pm_command_consume.proofs.opening.register_at.Goals as goal

pub returns-in-Err-clause-trace : goal.returns-in-Err-clause-trace
returns-in-Err-clause-trace g c = joins_none (registering c.args.name.now c.args.found c.args.start) (g.F.FileStore.seen c.args.store.now)

pub returns-in-Err-clause-beside : goal.returns-in-Err-clause-beside
returns-in-Err-clause-beside g c = λ me.
    nothing_brings me (registering c.args.name.now c.args.found c.args.start) (g.F.FileStore.seen c.args.store.now)

pub returns-in_err-register-clause-beside : goal.returns-in_err-register-clause-beside
returns-in_err-register-clause-beside g c = λ me.
    registering_brings c.past_law.ensures me (registering c.args.name.now c.args.found c.args.start) _ (g.F.FileStore.seen c.args.store.now)
    (g.F.FileStore.seen c.register.new.store) (c.register.ensures.beside me)

pub returns-clause-trace : goal.returns-clause-trace
returns-clause-trace g c =
    joined_calls (registering c.args.name.now c.args.found c.args.start) c.in-Ok.bytes (g.F.FileStore.seen c.args.store.now) (g.F.FileStore.seen c.register.new.store)
    c.in-Ok.ensures c.in_ok-register.ensures.trace

pub returns-clause-beside : goal.returns-clause-beside
returns-clause-beside g c = λ me.
    registering_brings c.past_law.ensures me (registering c.args.name.now c.args.found c.args.start) _ (g.F.FileStore.seen c.args.store.now)
    (g.F.FileStore.seen c.register.new.store) (c.register.ensures.beside me)

pub returns-clause-place : goal.returns-clause-place
returns-clause-place g c =
    joined_place (record { next = c.consumer_law.ensures.next; again = c.consumer_law.ensures.again }) c.args.start c.in-Ok.bytes c.in-Ok.ensures c.requires.next
    (omega arith)
