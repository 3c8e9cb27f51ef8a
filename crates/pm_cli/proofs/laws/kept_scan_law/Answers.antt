use Rattle.pm_cli.proofs.Kept.{two_scans}
use Rattle.pm_cli.proofs.laws.kept_scan_law.Goals as goal

pub returns : goal.returns
returns c = λ before expire after how min max millis id s es store last is_before printed some is_expire is_after turns here.
    two_scans c.keeps_law.ensures c.kept_law.ensures.there min max millis how expire is_expire s es id some before after store last is_before printed is_after turns here
