use Rattle.pm_lookup.proofs.OldLemmas.{old_merged, old_refused, old_stored}
use Rattle.pm_lookup.proofs.laws.old_value_law.Goals as goal
use Rattle.std.specs.Prelude.{reverse}

pub returns-clause-stored : goal.returns-clause-stored
returns-clause-stored c = λ m s runs rows key old with stored is.
    old_stored c.one_opening_law.ensures c.one_block_law.ensures.one s key m runs rows with c.stored_law.ensures.one old stored is

pub returns-clause-merged : goal.returns-clause-merged
returns-clause-merged c = λ m s runs rows run key old with stored merge is.
    old_merged m key (reverse rows) run (c.merged_law.ensures.stored m (reverse rows) run stored merge) merge old
    (old_stored c.one_opening_law.ensures c.one_block_law.ensures.one s key m runs rows with c.stored_law.ensures.one old stored is)

pub returns-clause-memory : goal.returns-clause-memory
returns-clause-memory c = λ m s runs rows key e with is. old_refused c.one_opening_law.ensures c.one_block_law.ensures.one s key m runs rows with e is
