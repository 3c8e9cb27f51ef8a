use Rattle.std.proofs.Common.{refl}
use Rattle.pm_consumer_files.specs.Floors.{Exceeds}
use Rattle.pm_register.proofs.machine.after_floors.Goals as goal

pub returns-clause-goes : goal.returns-clause-goes
returns-clause-goes c =
    let found : Exceeds c.args.names.items c.args.registration.next c.floor_above.result =
    rw c.as_slice.ensures.value at c.floor_above.ensures in
    (rw c.in-None.is at found, refl)
