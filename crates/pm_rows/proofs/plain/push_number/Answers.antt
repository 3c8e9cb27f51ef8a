use Rattle.pm_rows.proofs.PlainLemmas.{adds_further}
use Rattle.pm_rows.proofs.plain.push_number.Goals as goal

pub returns-clause-adds : goal.returns-clause-adds
returns-clause-adds c = adds_further c.add_byte.ensures.adds c.add.ensures.adds

pub returns-in_err-add-clause-adds : goal.returns-in_err-add-clause-adds
returns-in_err-add-clause-adds c = adds_further c.add_byte.ensures.adds c.add.ensures.adds
