-- Ids are equal where they are one value.
use Rattle.std.proofs.Common.{◌≡◌, ◌↔◌, true, subst}
use Rattle.std.specs.Cmp.{Equal-is, first_so, second_so, unsigned_Decides}
use Rattle.std.specs.Cmp.Lexicographic.{pointwise, bytes_decides}
use Rattle.std.specs.Ordering.{eq_by_cmp}
use Rattle.std.specs.Prelude.{nat_eq}
use Rattle.pm_values.specs.GroupOrder.{group_cmp}
use Rattle.pm_values.proofs.Lemmas.{group_cmp-IsAntisymmetric}
use Rattle.pm_manifest.specs.declared.file_id.FileId.{FileId}
use Rattle.pm_manifest.specs.FileId.{name_eq, id_eq, id_equiv}

-- ids that the test finds equal are one value
pub same_id : (a b : FileId) → id_eq a b ≡ true → a ≡ b
same_id a b e =
    let names = first_so (name_eq a b) (eq_by_cmp group_cmp a.group b.group) e in
    let groups = second_so (name_eq a b) (eq_by_cmp group_cmp a.group b.group) e in
    let name = (bytes_decides a.name b.name).0 (first_so (pointwise nat_eq a.name b.name) (nat_eq a.level b.level) names) in
    let level = (unsigned_Decides a.level b.level).0 (second_so (pointwise nat_eq a.name b.name) (nat_eq a.level b.level) names) in
    let group = group_cmp-IsAntisymmetric a.group b.group ((Equal-is (group_cmp a.group b.group)).0 groups) in
    λ i. record { group = group i; name = name i; level = level i }

-- and the test finds one value equal
pub equal_id : (a b : FileId) → a ≡ b → id_eq a b ≡ true
equal_id a b e = subst (λ x. id_eq a x ≡ true) e (id_equiv.refl a)

pub id_decides : (a b : FileId) → (id_eq a b ≡ true) ↔ (a ≡ b)
id_decides a b = (same_id a b, equal_id a b)
