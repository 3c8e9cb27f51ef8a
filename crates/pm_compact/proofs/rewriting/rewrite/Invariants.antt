use Rattle.std.proofs.Common.{◌≡◌, ◌≤◌, [], map}
use Rattle.pm_compact.specs.Rewriting.{CanGive, HasGiven, asked_of, most_left}
use Rattle.pm_compact.proofs.rewriting.rewrite.Given as goal

-- the files so far were given
abbrev pub invariant-loop-files : goal.invariant-loop-files
invariant-loop-files g l = record {
  given : HasGiven (g.E.MergeEngine.meaning l.engine) g.S.RowSource.rest g.S.RowSource.fits (asked_of l.schema l.level l.drop l.fn.names (map g.S.RowSource.rest l.fn.older_first.items)) l.files.items [] l.names l.rewriting;
  ready : CanGive l.rewriting;
  named : l.names ≡ record l.fn.names { count = l.names.count };
  rising : l.fn.names.count ≤ l.names.count;
}

abbrev pub decreases-loop-files : goal.decreases-loop-files
decreases-loop-files g l = most_left g.S.RowSource.rest l.rewriting
