use Rattle.pm_merge.proofs.MergingLemmas.{both_chosen, newer_chosen, none_chosen, older_chosen}
use Rattle.pm_merge.proofs.merging.choose.Goals as goal

-- the older side's
pub returns-in-Some-Less-clause-chooses : goal.returns-in-Some-Less-clause-chooses
returns-in-Some-Less-clause-chooses g c =
    rw (c.swap.ensures.x_after, c.swap.ensures.y_after, c.requires)
    (older_chosen (g.E.MergeEngine.meaning c.args.engine.now) (g.P.RowPlace.held c.args.older.now.value) (g.P.RowPlace.held c.args.newer.now.value)
    (rw (c.in-Some-Less.field-0-is, c.deref.ensures, c.deref-2.ensures) at c.in-Some-Less.ensures))

-- the newer side's
pub returns-in-Some-Greater-clause-chooses : goal.returns-in-Some-Greater-clause-chooses
returns-in-Some-Greater-clause-chooses g c =
    rw (c.swap-in-Some-Greater.ensures.x_after, c.swap-in-Some-Greater.ensures.y_after, c.requires)
    (newer_chosen (g.E.MergeEngine.meaning c.args.engine.now) (g.P.RowPlace.held c.args.older.now.value) (g.P.RowPlace.held c.args.newer.now.value)
    (rw (c.in-Some-Greater.field-0-is, c.deref.ensures, c.deref-2.ensures) at c.in-Some-Greater.ensures))

-- both, of one key
pub returns-in_ok-join-in-Some-Equal-clause-chooses : goal.returns-in_ok-join-in-Some-Equal-clause-chooses
returns-in_ok-join-in-Some-Equal-clause-chooses g c =
    rw (c.in_ok-join-in-Some-Equal.ensures.takes.0, c.in_ok-join-in-Some-Equal.ensures.takes.1)
    (both_chosen (g.E.MergeEngine.meaning c.args.engine.now) (g.P.RowPlace.held c.args.older.now.value) (g.P.RowPlace.held c.args.newer.now.value) (g.P.RowPlace.held c.join.new.slot.value)
    (rw (c.in-Some-Equal.field-0-is, c.deref.ensures, c.deref-2.ensures) at c.in-Some-Equal.ensures) c.in_ok-join-in-Some-Equal.ensures.combines)

-- none
pub returns-in-None-clause-chooses : goal.returns-in-None-clause-chooses
returns-in-None-clause-chooses g c =
    rw c.requires
    (none_chosen (g.E.MergeEngine.meaning c.args.engine.now) (g.P.RowPlace.held c.args.older.now.value) (g.P.RowPlace.held c.args.newer.now.value)
    (rw (c.deref.ensures, c.deref-2.ensures) at c.in-None.ensures))

-- the places go where the rows go
pub returns-in-Some-Less-clause-fits : goal.returns-in-Some-Less-clause-fits
returns-in-Some-Less-clause-fits g c = λ table place older newer. rw (c.swap.ensures.x_after, c.swap.ensures.y_after) (older, place, newer)

pub returns-in-Some-Greater-clause-fits : goal.returns-in-Some-Greater-clause-fits
returns-in-Some-Greater-clause-fits g c = λ table place older newer. rw (c.swap-in-Some-Greater.ensures.x_after, c.swap-in-Some-Greater.ensures.y_after) (newer, older, place)
