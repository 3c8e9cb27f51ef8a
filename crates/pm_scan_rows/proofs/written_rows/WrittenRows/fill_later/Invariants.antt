use Rattle.std.proofs.Common.{◌≡◌, [], length, None}
use Rattle.pm_run.specs.Form.{Form}
use Rattle.pm_scan_rows.specs.Stored.{AreGivenFor, all_of, left_in}
use Rattle.pm_scan_rows.proofs.written_rows.WrittenRows.fill_later.Given as goal

-- the files so far had no row more
abbrev pub invariant-loop-file : goal.invariant-loop-file
invariant-loop-file l = record {
  none : l.place.slot ≡ None;
  over : left_in l.self.rows.own ≡ [];
  files : all_of l.self.rows.files.now ≡ all_of l.fn.self.rows.files.now;
  form : (f : Form) → AreGivenFor f l.fn.self → AreGivenFor f l.self;
}

abbrev pub decreases-loop-file : goal.decreases-loop-file
decreases-loop-file l = length l.self.rows.files.now
