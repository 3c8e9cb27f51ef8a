use Rattle.pm_lookup.specs.Lookup.{IsFor}
use Rattle.pm_cases_runs.proofs.look_up.say_all.Given as goal

-- no file was opened with another schema
abbrev pub invariant-loop-key : goal.invariant-loop-key
invariant-loop-key l = IsFor l.table.schema.now l.lookup
