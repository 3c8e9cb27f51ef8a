-- When ids of files are equal, and of what a hash is taken.
use Rattle.std.specs.Prelude.{◌≡◌, ℕ, Bool, true, ◌&&◌, List, ◌++◌, nat_eq}
use Rattle.std.specs.Cmp.{IsEquivalence, and_equiv, on_equiv, nat_eq_equiv, unsigned_Decides}
use Rattle.std.specs.Cmp.Lexicographic.{pointwise, bytes_decides, nat_list_eq_equiv}
use Rattle.std.specs.Hash as fed
use Rattle.std.specs.Hash.{first_alike, and-Alike, on_Alike, same_Alike}
use Rattle.std.specs.Ordering.{eq_by_cmp, on}
use Rattle.pm_values.specs.GroupOrder.{group_cmp, group_equiv}
use Rattle.pm_manifest.specs.declared.file_id.FileId.{FileId}

-- the name and the level are equal
abbrev pub name_eq : FileId → FileId → Bool
name_eq a b = pointwise nat_eq a.name b.name && nat_eq a.level b.level

-- the name, the level and the group are equal
abbrev pub id_eq : FileId → FileId → Bool
id_eq a b = name_eq a b && eq_by_cmp group_cmp a.group b.group

pub id_equiv : IsEquivalence id_eq
id_equiv =
    and_equiv
    (and_equiv (on_equiv (λ (i : FileId). i.name) nat_list_eq_equiv) (on_equiv (λ (i : FileId). i.level) nat_eq_equiv))
    (on_equiv (λ (i : FileId). i.group) group_equiv)

-- what a hash is taken of: the name, and then the level
abbrev pub hash_input : FileId → List (List ℕ)
hash_input i = fed.str i.name ++ fed.u32 i.level

-- equal ids have equal hashes
pub hashed_alike : (a b : FileId) → id_eq a b ≡ true → hash_input a ≡ hash_input b
hashed_alike =
    (first_alike (on (λ (i : FileId). i.group) (eq_by_cmp group_cmp))
    (and-Alike (on_Alike (λ (i : FileId). i.name) (same_Alike fed.str bytes_decides))
    (on_Alike (λ (i : FileId). i.level) (same_Alike fed.u32 unsigned_Decides)))).fed
