use Rattle.std.proofs.Common.{refl}
use Rattle.pm_rows.proofs.PlainLemmas.{adds_none}
use Rattle.pm_rows.proofs.print.push_any.Goals as goal

pub returns-in_err-line-clause-adds : goal.returns-in_err-line-clause-adds
returns-in_err-line-clause-adds c = adds_none refl
