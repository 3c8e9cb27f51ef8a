use Rattle.std.proofs.Common.{inl, [], Err, refl}
use Rattle.pm_values.specs.declared.refusal.Refusal.TheVariants as refusals
use Rattle.pm_machine.proofs.Facts.{Traces-none}
use Rattle.pm_register.specs.Registrar.{registering}
use Rattle.pm_register.proofs.registrar.register.Goals as goal

pub returns-in-Err-clause-history : goal.returns-in-Err-clause-history
returns-in-Err-clause-history g c =
    let seen = g.F.FileStore.seen in
    c.all_calls_law.ensures (registering c.args.name.now c.args.found c.args.next) (Err refusals.Memory) (seen c.args.store.now)
    (seen c.args.store.now) c.requires ([], inl refl, Traces-none (seen c.args.store.now))

pub returns-clause-history : goal.returns-clause-history
returns-clause-history g c =
    let seen = g.F.FileStore.seen in
    let r = registering c.args.name.now c.args.found c.args.next in
    c.all_calls_law.ensures r c.make_calls.result (seen c.args.store.now) (seen c.make_calls.new.store) c.requires
    (c.make_calls.ensures.trace r c.in-Ok.ensures)
