-- The order of groups, and its laws.
use Rattle.std.specs.Ordering.{nat_cmp, eq_by_cmp, ordering_then}
use Rattle.std.specs.declared.cmp.Ordering.{Ordering}
use Rattle.std.specs.Cmp.{IsTotalOrder, IsEquivalence, eq_by_cmp_equiv, nat_cmp_total, on_total, then_total}
use Rattle.pm_values.specs.Order.{key_cmp, key_total}
use Rattle.pm_values.specs.declared.group.Group.{Group}

-- by the values of the partition in the order of keys, then by the bucket
abbrev pub group_cmp : Group → Group → Ordering
group_cmp a b = ordering_then (key_cmp a.partition b.partition) (nat_cmp a.bucket b.bucket)

pub group_total : IsTotalOrder group_cmp
group_total =
    then_total (on_total (λ (g : Group). g.partition) key_total) (on_total (λ (g : Group). g.bucket) nat_cmp_total)

pub group_equiv : IsEquivalence (eq_by_cmp group_cmp)
group_equiv = eq_by_cmp_equiv group_total
