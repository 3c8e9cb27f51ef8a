use Rattle.std.proofs.Common.{◌≡◌, map, take}
use Rattle.std.specs.List.{AllByRecursion}
use Rattle.pm_scan_rows.specs.Stored.{AreGivenFor, run_left}
use Rattle.pm_scan_rows.proofs.written_rows.written_sources.Given as goal

-- the runs so far
abbrev pub invariant-loop-run : goal.invariant-loop-run
invariant-loop-run l = record {
  left : map (λ r. run_left r.rows) l.sources.items ≡ take l.run-index l.runs;
  form : AllByRecursion (AreGivenFor l.form) l.sources.items;
}
