use Rattle.pm_read_table.proofs.machine.PhasePhase.next.Goals as goal

pub returns-in-Again-Found-clause-refuses : goal.returns-in-Again-Found-clause-refuses
returns-in-Again-Found-clause-refuses c =
    rw (c.in-Again-Found.is-0, c.in-Again-Found.is-1) (c.after_again.ensures c.in-Again-Found.asked)
