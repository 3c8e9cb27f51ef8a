use Rattle.std.proofs.Common.{◌≡◌, List, length}
use Rattle.pm_values.specs.declared.record.Stamped.{Stamped}
use Rattle.pm_run_bytes.specs.Direct.{AreRows}
use Rattle.pm_run.specs.Order.{last_key}
use Rattle.pm_run_bytes.specs.Seen.{seen_key}
use Rattle.pm_run_bytes.proofs.judge.judge_rows.Given as goal

-- the bytes so far are as many rows, and the last key is that of the last of them, or the one before
abbrev pub invariant-loop : goal.invariant-loop
invariant-loop l = (rows : List Stamped) × AreRows l.form l.changes l.before rows l.bytes l.rest × (length rows ≡ l.counter)
    × (seen_key l.some l.last.items ≡ last_key l.before rows)
