use Rattle.pm_expire.proofs.BesideLemmas.{brought-all, brought-memory, came-first, came-none, first-left, followed-all, followed-memory}
use Rattle.pm_expire.proofs.all_calls.expire_table.Goals as goal

pub make_calls-requires : goal.make_calls-requires
make_calls-requires g c = first-left c.args.asking c.in-Ok.expirer c.in-Ok.ensures

pub returns-in-Ok-clause-trace : goal.returns-in-Ok-clause-trace
returns-in-Ok-clause-trace g c = λ first has.
    let seen = g.F.FileStore.seen in
    c.make_calls.ensures.trace c.args.asking first (came-first c.args.asking c.in-Ok.expirer first (seen c.args.store.now) c.in-Ok.ensures has)

pub returns-in-Ok-clause-beside : goal.returns-in-Ok-clause-beside
returns-in-Ok-clause-beside g c = λ me.
    let seen = g.F.FileStore.seen in
    brought-all c.args.asking c.in-Ok.expirer c.make_calls.result (seen c.args.store.now) (seen c.make_calls.new.store) c.in-Ok.ensures
    c.requires.plain c.make_calls.ensures.beside me

pub returns-in-Ok-clause-alone : goal.returns-in-Ok-clause-alone
returns-in-Ok-clause-alone g c =
    let seen = g.F.FileStore.seen in
    followed-all c.args.asking c.in-Ok.expirer (seen c.args.store.now) (seen c.make_calls.new.store) c.in-Ok.ensures c.requires.plain c.make_calls.ensures.alone

pub returns-in-Err-clause-trace : goal.returns-in-Err-clause-trace
returns-in-Err-clause-trace g c = λ first has.
    came-none c.args.asking first (g.F.FileStore.seen c.args.store.now) has

pub returns-in-Err-clause-beside : goal.returns-in-Err-clause-beside
returns-in-Err-clause-beside g c = λ me. brought-memory c.args.asking (g.F.FileStore.seen c.args.store.now) me

pub returns-in-Err-clause-alone : goal.returns-in-Err-clause-alone
returns-in-Err-clause-alone g c = followed-memory c.args.asking.schema (g.F.FileStore.seen c.args.store.now)
