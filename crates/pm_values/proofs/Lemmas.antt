-- The orders of values, keys and groups: what ties is equal, and only that.
use Rattle.std.proofs.Common.{◌≡◌, ◌↔◌, true, false, refl, ap, subst}
use Rattle.std.specs.Ordering.{nat_cmp, ordering_then}
use Rattle.std.specs.declared.cmp.Ordering.{Ordering}
use Rattle.std.specs.declared.cmp.Ordering.TheVariants.{Less, Equal, Greater}
use Rattle.std.specs.Cmp.{IsTotalOrder, tied_itself}
use Rattle.std.specs.FinMap.{IsAntisymmetric, nat_cmp-IsAntisymmetric, int_cmp-IsAntisymmetric, slice_cmp-IsAntisymmetric}
use Rattle.pm_values.specs.Order.{Values, value_cmp, key_cmp, key_total}
use Rattle.pm_values.specs.GroupOrder.{group_cmp, group_total}
use Rattle.pm_values.specs.declared.group.Group.{Group}
use Rattle.pm_values.specs.declared.value.Value.TheVariants.{Null, Bool as Truth, Int, Text, Bytes, Day, Millis}

-- only equal values tie
pub value_cmp-IsAntisymmetric : IsAntisymmetric value_cmp
value_cmp-IsAntisymmetric Null Null e = refl
value_cmp-IsAntisymmetric (Truth false) (Truth false) e = refl
value_cmp-IsAntisymmetric (Truth true) (Truth true) e = refl
value_cmp-IsAntisymmetric (Int a) (Int b) e = ap Int (int_cmp-IsAntisymmetric a b e)
value_cmp-IsAntisymmetric (Text a) (Text b) e = ap Text (slice_cmp-IsAntisymmetric nat_cmp-IsAntisymmetric a b e)
value_cmp-IsAntisymmetric (Bytes a) (Bytes b) e = ap Bytes (slice_cmp-IsAntisymmetric nat_cmp-IsAntisymmetric a b e)
value_cmp-IsAntisymmetric (Day a) (Day b) e = ap Day (int_cmp-IsAntisymmetric a b e)
value_cmp-IsAntisymmetric (Millis a) (Millis b) e = ap Millis (int_cmp-IsAntisymmetric a b e)
value_cmp-IsAntisymmetric a b e = cc

-- only equal keys tie
pub key_cmp-IsAntisymmetric : IsAntisymmetric key_cmp
key_cmp-IsAntisymmetric = slice_cmp-IsAntisymmetric value_cmp-IsAntisymmetric

both_equal : (o p : Ordering) → ordering_then o p ≡ Equal → (o ≡ Equal) × (p ≡ Equal)
both_equal Equal p e = (refl, e)
both_equal Less p e = (e, cc)
both_equal Greater p e = (e, cc)

-- only equal groups tie
pub group_cmp-IsAntisymmetric : IsAntisymmetric group_cmp
group_cmp-IsAntisymmetric a b e =
    let both = both_equal (key_cmp a.partition b.partition) (nat_cmp a.bucket b.bucket) e in
    λ i. record {
      partition = key_cmp-IsAntisymmetric a.partition b.partition both.0 i;
      bucket = nat_cmp-IsAntisymmetric a.bucket b.bucket both.1 i;
    }

-- what is equal ties
equal_ties : {K : Type 0} (cmp : K → K → Ordering) → IsTotalOrder cmp → (a b : K) → a ≡ b → cmp a b ≡ Equal
equal_ties cmp total a b e = subst (λ x. cmp a x ≡ Equal) e (tied_itself total a)

pub key_cmp-ties : (a b : Values) → (key_cmp a b ≡ Equal) ↔ (a ≡ b)
key_cmp-ties a b = (key_cmp-IsAntisymmetric a b, equal_ties key_cmp key_total a b)

pub group_cmp-ties : (a b : Group) → (group_cmp a b ≡ Equal) ↔ (a ≡ b)
group_cmp-ties a b = (group_cmp-IsAntisymmetric a b, equal_ties group_cmp group_total a b)
