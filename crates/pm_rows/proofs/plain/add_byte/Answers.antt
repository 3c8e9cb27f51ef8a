use Rattle.std.proofs.Common.{[], ◌∷◌}
use Rattle.pm_rows.proofs.PlainLemmas.{adds_none}
use Rattle.pm_rows.proofs.plain.add_byte.Goals as goal

pub returns-clause-adds : goal.returns-clause-adds
returns-clause-adds c = record { more = c.args.byte ∷ []; joined = c.in_ok-push.ensures.items }

pub returns-in_err-push-clause-adds : goal.returns-in_err-push-clause-adds
returns-in_err-push-clause-adds c = adds_none c.in_err-push.ensures.items
