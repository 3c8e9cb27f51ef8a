use Rattle.std.proofs.Common.{◌≡◌, drop, None}
use Rattle.std.specs.List.{last_or}
use Rattle.std.specs.Option.{option_copied}
use Rattle.pm_reference.proofs.values.last_of.Given as goal

-- the last so far, or one of those that are left
abbrev pub invariant-loop-item : goal.invariant-loop-item
invariant-loop-item g l = last_or (option_copied l.last) (drop l.item-index l.items) ≡ last_or None l.items
