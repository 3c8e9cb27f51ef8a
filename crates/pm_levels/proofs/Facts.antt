-- What other crates' proofs use of the runs of files.
use Rattle.std.proofs.Common.{List}
use Rattle.std.specs.List.{AllByRecursion}
use Rattle.pm_values.specs.declared.file_meta.FileMeta.{FileMeta}
use Rattle.pm_levels.specs.Overlap.{AreDisjoint, RangesRise}
use Rattle.pm_levels.specs.Runs.{AreRuns, RunView, files_of}
use Rattle.pm_levels.proofs.OverlapLemmas.{ranges}
use Rattle.pm_levels.proofs.PairLemmas.{two-moved}
use Rattle.std.proofs.lemmas.List.Sorted.{IsPermutation-sym}

-- where no two files share a key range, the ranges of each run rise
pub ranges-rise : (files : List FileMeta) (runs : List RunView) → AreRuns files runs → AreDisjoint files → AllByRecursion RangesRise runs
ranges-rise files runs are none =
    ranges runs (λ a b two. none a b (two-moved a b (files_of runs) files (IsPermutation-sym files (files_of runs) are.whole) two)) are.order are.each
