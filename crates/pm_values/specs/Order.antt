-- The order of values and keys, and its laws.
use Rattle.std.specs.Prelude.{◌≡◌, ℕ, ℤ, pos, List, [], true, false}
use Rattle.std.specs.Ordering.{nat_cmp, int_cmp, bool_cmp, eq_by_cmp, ordering_then, on, then_cmp}
use Rattle.std.specs.declared.cmp.Ordering.{Ordering}
use Rattle.std.specs.declared.cmp.Ordering.TheVariants.{Less, Equal, Greater}
use Rattle.std.specs.Cmp.{IsTotalOrder, IsEquivalence, eq_by_cmp_equiv}
use Rattle.std.specs.Cmp.{nat_cmp_total, int_cmp_total, on_total, then_total}
use Rattle.std.specs.Cmp.Lexicographic.{slice_cmp, nat_list_cmp_total, lists_total}
use Rattle.std.proofs.Common.{refl, subst}
use Rattle.pm_values.specs.declared.value.Value.{Value}
use Rattle.pm_values.specs.declared.value.Value.TheVariants.{Null, Bool as Truth, Int, Text, Bytes, Day, Millis}

-- the values of a row or of a key, in the order of their columns
abbrev pub Values : Type 0
Values = List Value

-- the index of a value's variant among the variants
abbrev pub rank : Value → ℕ
rank Null = 0
rank (Truth b) = 1
rank (Int n) = 2
rank (Text t) = 3
rank (Bytes b) = 4
rank (Day d) = 5
rank (Millis m) = 6

-- False is before true, numbers are by size, texts and bytes by unsigned bytes; different variants are in
-- their order, so null is least.
abbrev pub value_cmp : Value → Value → Ordering
value_cmp (Truth a) (Truth b) = bool_cmp a b
value_cmp (Int a) (Int b) = int_cmp a b
value_cmp (Text a) (Text b) = slice_cmp nat_cmp a b
value_cmp (Bytes a) (Bytes b) = slice_cmp nat_cmp a b
value_cmp (Day a) (Day b) = int_cmp a b
value_cmp (Millis a) (Millis b) = int_cmp a b
value_cmp a b = nat_cmp (rank a) (rank b)

-- value by value, and a prefix first
abbrev pub key_cmp : Values → Values → Ordering
key_cmp = slice_cmp value_cmp

-- the number of a value, where it is one
abbrev whole : Value → ℤ
whole (Truth true) = pos 1
whole (Int n) = n
whole (Day d) = d
whole (Millis m) = m
whole other = pos 0

-- the bytes of a value, where it has some
abbrev octets : Value → List ℕ
octets (Text t) = t
octets (Bytes b) = b
octets other = []

then_equal : (o : Ordering) → ordering_then o Equal ≡ o
then_equal Less = refl
then_equal Equal = refl
then_equal Greater = refl

-- the order is that of the variant, then the number, then the bytes
same : (a b : Value) → then_cmp (on rank nat_cmp) (then_cmp (on whole int_cmp) (on octets (slice_cmp nat_cmp))) a b
    ≡ value_cmp a b
same (Truth false) (Truth false) = refl
same (Truth false) (Truth true) = refl
same (Truth true) (Truth false) = refl
same (Truth true) (Truth true) = refl
same (Int a) (Int b) = then_equal (int_cmp a b)
same (Text a) (Text b) = refl
same (Bytes a) (Bytes b) = refl
same (Day a) (Day b) = then_equal (int_cmp a b)
same (Millis a) (Millis b) = then_equal (int_cmp a b)
same Null Null = refl
same a b = refl

pub value_total : IsTotalOrder value_cmp
value_total =
    subst IsTotalOrder (λ i a b. same a b i)
    (then_total (on_total rank nat_cmp_total)
    (then_total (on_total whole int_cmp_total) (on_total octets nat_list_cmp_total)))

pub key_total : IsTotalOrder key_cmp
key_total = lists_total value_total

pub key_equiv : IsEquivalence (eq_by_cmp key_cmp)
key_equiv = eq_by_cmp_equiv key_total
