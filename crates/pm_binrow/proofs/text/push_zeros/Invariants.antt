use Rattle.std.proofs.Common.{◌≡◌, ◌++◌}
use Rattle.pm_binrow.specs.Row.{zeros}
use Rattle.pm_binrow.proofs.text.push_zeros.Given as goal

abbrev pub invariant-loop : goal.invariant-loop
invariant-loop l = l.out.items ≡ l.fn.out.items ++ zeros l.counter
