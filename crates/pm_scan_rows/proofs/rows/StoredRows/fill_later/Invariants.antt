use Rattle.std.proofs.Common.{◌≡◌, [], length, None}
use Rattle.pm_scan_rows.specs.Stored.{all_of, left_in}
use Rattle.pm_scan_rows.proofs.rows.StoredRows.fill_later.Given as goal

-- the files so far had no row more
abbrev pub invariant-loop-file : goal.invariant-loop-file
invariant-loop-file l = record {
  none : l.slot ≡ None;
  over : left_in l.self.own ≡ [];
  files : all_of l.self.files.now ≡ all_of l.fn.self.files.now;
}

abbrev pub decreases-loop-file : goal.decreases-loop-file
decreases-loop-file l = length l.self.files.now
