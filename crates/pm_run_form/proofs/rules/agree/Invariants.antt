use Rattle.std.proofs.Common.{◌≡◌, drop}
use Rattle.pm_run.specs.Row.{agree}
use Rattle.pm_run_form.proofs.rules.agree.Given as goal

-- those so far agree
abbrev pub invariant-loop-index : goal.invariant-loop-index
invariant-loop-index l = agree (drop l.index l.places) l.row (drop l.index l.values) ≡ agree l.places l.row l.values
