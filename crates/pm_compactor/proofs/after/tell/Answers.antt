use Rattle.std.proofs.Common.{◌∙◌}
use Rattle.pm_compactor.proofs.PartLemmasAfter.{told-begins, told-fails}
use Rattle.pm_compactor.proofs.PartLemmasRewritten.{told-commits, told-left}
use Rattle.pm_compactor.proofs.after.tell.Goals as goal

pub begin-requires-clause-can_commit : goal.begin-requires-clause-can_commit
begin-requires-clause-can_commit c = told-commits c.args.planned c.in-Ok.planned c.in-Ok.ensures.told c.requires.can_commit c.in-Ok.ensures.room

pub begin-requires-clause-done : goal.begin-requires-clause-done
begin-requires-clause-done c = told-left c.args.planned c.in-Ok.planned c.in-Ok.ensures.told ∙ c.requires.done

pub begin-requires-clause-told : goal.begin-requires-clause-told
begin-requires-clause-told c = c.in-Ok.ensures.told.none

pub returns-in-Ok-clause-goes : goal.returns-in-Ok-clause-goes
returns-in-Ok-clause-goes c = told-begins c.args.planned c.in-Ok.planned c.begin.result c.in-Ok.ensures.told c.in-Ok.ensures.room c.begin.ensures.begins

pub returns-in-Ok-clause-refuses : goal.returns-in-Ok-clause-refuses
returns-in-Ok-clause-refuses c = told-fails c.args.planned c.in-Ok.planned c.begin.result c.in-Ok.ensures.told c.begin.ensures.refuses
