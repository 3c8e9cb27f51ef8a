use Rattle.std.proofs.Common.{◌≡◌, ◌++◌, ◌-◌, ◌≤◌}
use Rattle.pm_packed.specs.Values.{values_in}
use Rattle.pm_packed.proofs.taking.take_values.Given as goal

-- those that are left come after those so far
abbrev pub invariant-loop : goal.invariant-loop
invariant-loop l = record {
  within : l.counter ≤ l.count;
  values : l.into.items ++ (values_in (l.count - l.counter) l.rest).0 ≡ l.fn.into.items ++ (values_in l.count l.bytes).0;
  rest : (values_in (l.count - l.counter) l.rest).1 ≡ (values_in l.count l.bytes).1;
}
