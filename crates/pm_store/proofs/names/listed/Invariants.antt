use Rattle.std.proofs.Common.{◌≡◌, ◌++◌}
use Rattle.pm_store.proofs.names.listed.Given as goal

-- the names so far, and those that are left
abbrev pub invariant-loop-name : goal.invariant-loop-name
invariant-loop-name l = l.list.items ++ l.name-iterator ≡ l.fn.names.keys
