use Rattle.std.specs.Coded.{codes}
use Rattle.pm_run_bytes.proofs.LyingLemmas.{known_at, known_is}
use Rattle.pm_run_bytes.proofs.lying.FileRows.new.Goals as goal

pub invariant_of-result : goal.invariant_of-result
invariant_of-result c = record { known = known_at c.args.direct.now c.args.bytes.now c.args.form.now c.args.changes c.args.next c.requires }

pub returns : goal.returns
returns c = λ rows lie. known_is c.args.direct.now c.args.bytes.now c.args.form.now c.args.changes c.args.next (hlevel codes) c.result-3-1.given.0 rows lie
