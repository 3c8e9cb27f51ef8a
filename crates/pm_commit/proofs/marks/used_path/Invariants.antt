use Rattle.std.proofs.Common.{take}
use Rattle.pm_commit.specs.Marks.{HaveNone, mark_of}
use Rattle.pm_commit.proofs.marks.used_path.Given as goal

abbrev pub invariant-loop-name : goal.invariant-loop-name
invariant-loop-name l = HaveNone (mark_of l.fn.maker) (take l.name-index l.names)
