use Rattle.std.proofs.Common.{◌≡◌, drop}
use Rattle.std.specs.List.{list_all}
use Rattle.pm_schema.specs.Rules.{continues_name}
use Rattle.pm_schema_file.proofs.rules.all_continue.Given as goal

abbrev pub invariant-loop-b : goal.invariant-loop-b
invariant-loop-b l = list_all continues_name (drop l.b-index l.bytes) ≡ list_all continues_name l.bytes
