use Rattle.pm_compactor.proofs.PartLemmas.{HeldGoes, goes-ahead, has-call, still-compactor}
use Rattle.pm_compactor.proofs.laws.compactor_law.Goals as goal

pub returns-clause-still : goal.returns-clause-still
returns-clause-still c =
    let held : HeldGoes = record { goes = c.held_law.ensures.goes; has_call = c.held_law.ensures.has_call } in
    still-compactor c.read_entry_law.ensures.manifest held

pub returns-clause-goes : goal.returns-clause-goes
returns-clause-goes c = λ m answer later is goes.
    let held : HeldGoes = record { goes = c.held_law.ensures.goes; has_call = c.held_law.ensures.has_call } in
    let on = goes-ahead c.read_entry_law.ensures.manifest held m answer later is goes in
    (on.0, on.1, tt)

pub returns-clause-has_call : goal.returns-clause-has_call
returns-clause-has_call c =
    let held : HeldGoes = record { goes = c.held_law.ensures.goes; has_call = c.held_law.ensures.has_call } in
    has-call held
