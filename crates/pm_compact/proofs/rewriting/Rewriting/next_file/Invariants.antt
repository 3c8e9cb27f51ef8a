use Rattle.std.proofs.Common.{◌≡◌, ◌+◌, ◌≤◌, List, [], None, length}
use Rattle.pm_values.specs.declared.record.Stamped.{Stamped}
use Rattle.pm_values.specs.declared.refusal.Refusal.TheVariants.{Memory}
use Rattle.pm_run.specs.declared.run.RunFile.{RunFile}
use Rattle.pm_compact.specs.Rewriting.{Asked, CanGive, HasGiven, most_left}
use Rattle.pm_compact.proofs.rewriting.Rewriting.next_file.Given as goal

-- after the files that were given some rows are in hand, and as many fewer are left
abbrev pub invariant-loop-cause : goal.invariant-loop-cause
invariant-loop-cause g l = record {
  so_far : (asked : Asked) (given : List RunFile) → HasGiven (g.E.MergeEngine.meaning l.engine) g.S.RowSource.rest g.S.RowSource.fits asked given [] l.fn.names l.fn.self
      → (rows : List Stamped) × HasGiven (g.E.MergeEngine.meaning l.engine) g.S.RowSource.rest g.S.RowSource.fits asked given rows l.names l.self
      × (length rows + most_left g.S.RowSource.rest l.self ≤ most_left g.S.RowSource.rest l.fn.self);
  none : l.place.value.slot ≡ None;
  ready : CanGive l.self;
  names : l.names ≡ l.fn.names;
  memory : l.cause ≡ Memory;
}

abbrev pub decreases-loop-cause : goal.decreases-loop-cause
decreases-loop-cause g l = most_left g.S.RowSource.rest l.self
