use Rattle.std.proofs.Common.{subst, sym}
use Rattle.std.specs.Cmp.Lexicographic.{slice_cmp}
use Rattle.std.specs.List.Sorted.{IsStrictlySortedBy}
use Rattle.std.specs.Ordering.{nat_cmp}
use Rattle.pm_expire_paths.proofs.DroppingLemmas.{none-sorted}
use Rattle.pm_expire_paths.proofs.dropping.Dropping.new.Goals as goal

pub invariant_of-result : goal.invariant_of-result
invariant_of-result c = subst (IsStrictlySortedBy (slice_cmp nat_cmp)) (sym c.new.ensures.items) none-sorted
