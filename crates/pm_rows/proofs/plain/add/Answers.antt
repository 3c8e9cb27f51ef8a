use Rattle.pm_rows.proofs.PlainLemmas.{adds_none}
use Rattle.pm_rows.proofs.plain.add.Goals as goal

pub returns-clause-adds : goal.returns-clause-adds
returns-clause-adds c = record { more = c.args.bytes.now; joined = c.in_ok-extend_from_slice.ensures.items }

pub returns-in_err-extend_from_slice-clause-adds : goal.returns-in_err-extend_from_slice-clause-adds
returns-in_err-extend_from_slice-clause-adds c = adds_none c.in_err-extend_from_slice.ensures.items
