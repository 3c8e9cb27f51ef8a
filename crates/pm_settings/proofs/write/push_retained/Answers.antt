use Rattle.pm_settings.proofs.WriteLemmas.{Adds-then}
use Rattle.pm_settings.proofs.write.push_retained.Goals as goal

pub returns : goal.returns
returns c =
    let time = rw (c.as_str.ensures.value, c.in_ok-text.ensures.ok) at c.in_ok-push_unless.ensures in
    Adds-then time (Adds-then c.in_ok-push_number_unless.ensures c.in_ok-push_number_unless-2.ensures)
