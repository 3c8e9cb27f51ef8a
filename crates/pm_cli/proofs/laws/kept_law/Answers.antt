use Rattle.pm_cli.proofs.Kept.{kept_same, kept_there}
use Rattle.pm_cli.proofs.laws.kept_law.Goals as goal

pub returns-clause-same : goal.returns-clause-same
returns-clause-same c = λ min max millis e s es first later f id is within keeps stands.
    kept_same c.one_end_law.ensures min max millis s es e first later f id is within stands keeps

pub returns-clause-there : goal.returns-clause-there
returns-clause-there c = λ min max millis e s es first later f id is within keeps stands.
    kept_there c.one_end_law.ensures min max millis s es e first later f id is within stands keeps
