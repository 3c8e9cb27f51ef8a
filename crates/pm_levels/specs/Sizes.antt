-- The sizes of runs in bytes.
use Rattle.std.specs.Prelude.{min}
use Rattle.std.specs.List.{sum_by}
use Rattle.pm_values.specs.declared.file_meta.FileMeta.{FileMeta}
use Rattle.pm_levels.specs.declared.runs.RunSize.{RunSize}
use Rattle.pm_levels.specs.Runs.{RunView}

-- the sizes of a run's files together, or the greatest number of 64 bits where they exceed it
abbrev pub size_of : RunView → RunSize
size_of run = record {
  level = run.level;
  bytes = min (sum_by (λ (file : FileMeta). file.size) run.files) 18446744073709551615;
}
