use Rattle.std.proofs.Common.{rules, subst, sym}
use Rattle.std.proofs.lemmas.List.Filters.{dedup_is}
use Rattle.std.proofs.lemmas.List.Kept.{IsStrictlySortedBy-dedup}
use Rattle.std.specs.Cmp.Lexicographic.{slice_cmp, nat_list_cmp_total}
use Rattle.std.specs.Cmp.Rules.{comparing}
use Rattle.std.specs.List.Sorted.{IsStrictlySortedBy}
use Rattle.std.specs.Ordering.{nat_cmp}
use Rattle.pm_expire_paths.proofs.DroppingLemmas.{same_paths}
use Rattle.pm_expire_paths.proofs.dropping.put_in_order.Goals as goal

pub returns-clause-order : goal.returns-clause-order
returns-clause-order c =
    subst (IsStrictlySortedBy (slice_cmp nat_cmp)) (sym (dedup_is _ _ _ c.dedup.ensures.filtered))
    (IsStrictlySortedBy-dedup nat_list_cmp_total (search (comparing, rules)) c.sort.new.self.items
    c.in_ok-sort.ensures.sorted)

pub returns-clause-same : goal.returns-clause-same
returns-clause-same c =
    same_paths c.args.paths.now.items c.sort.new.self.items c.dedup.new.self.items c.sort.ensures.permutation
    (dedup_is _ _ _ c.dedup.ensures.filtered)
