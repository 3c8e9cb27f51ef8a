use Rattle.pm_rows.proofs.PlainLemmas.{adds_further}
use Rattle.pm_rows.proofs.plain.push_text.Goals as goal

pub returns-clause-adds : goal.returns-clause-adds
returns-clause-adds c = adds_further c.add.ensures.adds (adds_further c.add-2.ensures.adds c.add_byte.ensures.adds)

pub returns-in_err-add_byte-clause-adds : goal.returns-in_err-add_byte-clause-adds
returns-in_err-add_byte-clause-adds c = adds_further c.add.ensures.adds (adds_further c.add-2.ensures.adds c.add_byte.ensures.adds)

pub returns-in_err-add-2-clause-adds : goal.returns-in_err-add-2-clause-adds
returns-in_err-add-2-clause-adds c = adds_further c.add.ensures.adds c.add-2.ensures.adds
