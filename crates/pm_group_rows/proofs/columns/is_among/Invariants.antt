use Rattle.std.proofs.Common.{◌≡◌, drop}
use Rattle.pm_schema.specs.Rules.{is_among}
use Rattle.pm_group_rows.proofs.columns.is_among.Given as goal

-- none so far is the name
abbrev pub invariant-loop-other : goal.invariant-loop-other
invariant-loop-other l = is_among (drop l.other-index l.names) l.name ≡ is_among l.names l.name
