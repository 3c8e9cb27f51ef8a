use Rattle.std.proofs.Common.{◌≡◌, length}
use Rattle.pm_run_bytes.specs.Direct.{AreRows}
use Rattle.pm_run_bytes.proofs.direct.read_rows.Given as goal

-- the rows so far
abbrev pub invariant-loop : goal.invariant-loop
invariant-loop l = record {
  many : length l.rows.items ≡ l.counter;
  rows : AreRows l.form l.changes l.before l.rows.items l.bytes l.rest;
}
