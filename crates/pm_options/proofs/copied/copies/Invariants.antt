use Rattle.std.proofs.Common.{◌≡◌, take}
use Rattle.pm_options.proofs.copied.copies.Given as goal

abbrev pub invariant-loop-item : goal.invariant-loop-item
invariant-loop-item g l = l.out.items ≡ take l.item-index l.items
