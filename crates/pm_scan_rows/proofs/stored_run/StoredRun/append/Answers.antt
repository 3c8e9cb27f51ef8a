use Rattle.std.proofs.Common.{rules}
use Rattle.pm_scan_rows.proofs.StoredLemmas.{last-push}
use Rattle.pm_scan_rows.proofs.stored_run.StoredRun.append.Goals as goal

pub invariant_of-self-2 : goal.invariant_of-self-2
invariant_of-self-2 c =
    last-push c.self.inside.files.items c.push.new.self.items c.in_ok-file.file c.self.inside.last c.in_ok-file.last (search rules) c.self.invariant c.in_ok-file.ensures.last
