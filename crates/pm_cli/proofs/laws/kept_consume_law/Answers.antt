use Rattle.pm_cli.proofs.Kept.{placed}
use Rattle.pm_cli.proofs.laws.kept_consume_law.Goals as goal

pub returns : goal.returns
returns c = λ expire after how min max millis name next from full s es store last is_expire is_after turns here.
    placed c.keeps_law.ensures min max millis how expire after is_expire name next from full is_after s es store last turns here
