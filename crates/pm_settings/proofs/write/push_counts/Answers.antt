use Rattle.pm_settings.proofs.WriteLemmas.{Adds-then}
use Rattle.pm_settings.proofs.write.push_counts.Goals as goal

pub returns : goal.returns
returns c =
    let commits = c.in_ok-push_number_if.ensures in
    let trigger = rw c.from-trigger.ensures at c.in_ok-push_number_unless.ensures in
    let levels = rw (c.from-trigger.ensures, c.from.ensures) at c.in_ok-push_number_unless-2.ensures in
    let amplification = rw c.from-2.ensures at c.in_ok-push_number_unless-3.ensures in
    let ratio = rw c.from-3.ensures at c.in_ok-push_number_unless-4.ensures in
    let merge = rw c.from-4.ensures at c.in_ok-push_number_unless-5.ensures in
    Adds-then commits (Adds-then trigger (Adds-then levels (Adds-then amplification (Adds-then ratio merge))))
