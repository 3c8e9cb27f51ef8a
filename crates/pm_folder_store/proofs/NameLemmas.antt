-- Names as texts, names that are put to others one after another, and names that are put in order.
use Rattle.std.proofs.Common.{◌≡◌, ◌↔◌, ◌++◌, ◌∷◌, [], ◌∙◌, ℕ, List, Bool, Contains, true, false, map, ap, refl, subst, sym, append_assoc, append-nil}
use Rattle.std.specs.Prelude.{if◌then◌else◌, IsUtf8}
use Rattle.std.specs.Str.{is_utf8}
use Rattle.std.proofs.lemmas.Str.{IsUtf8-from_is_utf8, is_utf8-from_IsUtf8}
use Rattle.std.specs.Borrow.{Bor}
use Rattle.std.specs.Cmp.Lexicographic.{bytes_decides, nat_list_eq_equiv, pointwise}
use Rattle.std.specs.List.{dedup, flat_map}
use Rattle.std.specs.List.Sorted.{IsPermutation}
use Rattle.std.proofs.Math.Dec.{eqb}
use Rattle.std.proofs.lemmas.List.Kept.{Contains-dedup, Contains-from_dedup}
use Rattle.std.proofs.lemmas.List.Sorted.{Contains-permutation, IsPermutation-sym}
use Rattle.pm_folder_store.specs.Names.{name_of, readable}

-- a name in UTF-8 is its own text
pub readable_of : (name text : List ℕ) → text ≡ name → IsUtf8 name → text ≡ readable name
readable_of name text same valid = same ∙ ap (λ is. if is then name else 239 ∷ 191 ∷ 189 ∷ []) (sym (is_utf8-from_IsUtf8 name valid))

not_true : (is : Bool) → (is ≡ true → ⊥) → is ≡ false
not_true true none = absurd (none refl)
not_true false none = refl

-- U+FFFD stands for any other
pub unreadable_of : (name : List ℕ) → (IsUtf8 name → ⊥) → (239 ∷ 191 ∷ 189 ∷ []) ≡ readable name
unreadable_of name none =
    let no : is_utf8 name ≡ false = not_true (is_utf8 name) (λ is. none (IsUtf8-from_is_utf8 name is)) in
    ap (λ is. if is then name else 239 ∷ 191 ∷ 189 ∷ []) (sym no)

last_more : (parts : List (Bor (List ℕ))) (part : Bor (List ℕ))
    → flat_map name_of (map (λ x. x.now) (parts ++ part ∷ [])) ≡ flat_map name_of (map (λ x. x.now) parts) ++ name_of part.now
last_more [] part = append-nil (name_of part.now)
last_more (other ∷ parts) part =
    ap (λ names. name_of other.now ++ names) (last_more parts part)
    ∙ sym (append_assoc (name_of other.now) (flat_map name_of (map (λ x. x.now) parts)) (name_of part.now))

-- one more part is put to those before it
pub one_more : (parts : List (Bor (List ℕ))) (part : Bor (List ℕ)) (before now later : List (List ℕ))
    → now ≡ before ++ flat_map name_of (map (λ x. x.now) parts) → later ≡ now ++ name_of part.now
    → later ≡ before ++ flat_map name_of (map (λ x. x.now) (parts ++ part ∷ []))
one_more parts part before now later is put =
    put ∙ ap (λ names. names ++ name_of part.now) is
    ∙ append_assoc before (flat_map name_of (map (λ x. x.now) parts)) (name_of part.now)
    ∙ ap (λ names. before ++ names) (sym (last_more parts part))

-- names that are put in order, each once, are the same names
pub same_names : (names sorted once : List (List ℕ)) → IsPermutation names sorted → once ≡ dedup (pointwise eqb) sorted → (name : List ℕ)
    → Contains once name ↔ Contains names name
same_names names sorted once moved is name = (
  λ has. Contains-permutation sorted names name (IsPermutation-sym names sorted moved)
      (Contains-from_dedup (pointwise eqb) sorted name (subst (λ (xs : List (List ℕ)). Contains xs name) is has)),
  λ has. subst (λ (xs : List (List ℕ)). Contains xs name) (sym is)
      (Contains-dedup nat_list_eq_equiv (λ x y same. (bytes_decides x y).0 same) sorted name (Contains-permutation names sorted name moved has)),
)
