use Rattle.pm_io.specs.Lines.{to_come}
use Rattle.pm_io.specs.Source.{SourceLater}
use Rattle.pm_input.proofs.InputLemmas.{IsReadSoFar}
use Rattle.pm_input.proofs.lines.read_lines.Given as goal

abbrev pub invariant-loop-number : goal.invariant-loop-number
invariant-loop-number g l =
    let seen = g.S.Source.seen in
    record {
      so_far : IsReadSoFar l.limits l.room (seen l.fn.source).left l.lines l.number (to_come l.held (seen l.source));
      later : SourceLater (seen l.fn.source) (seen l.source);
    }
