use Rattle.std.proofs.Common.{◌+◌, ◌-◌, vec_len}
use Rattle.pm_io.proofs.Reading.{IsReading}
use Rattle.pm_io.proofs.lines.read_into.Given as goal

abbrev pub invariant-loop-alloc : goal.invariant-loop-alloc
invariant-loop-alloc g l =
    let seen = g.S.Source.seen in
    IsReading l.max l.fn.begun.items l.fn.ahead (seen l.fn.source) l.begun.items l.ahead (seen l.source)

abbrev pub decreases-loop-alloc : goal.decreases-loop-alloc
decreases-loop-alloc g l = l.max + 1 - vec_len l.begun
