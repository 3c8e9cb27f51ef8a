-- The name that a path leads to.
use Rattle.std.proofs.Common.{◌≡◌, ◌≢◌, ℕ, Bool, true, false, List, [], ◌∷◌, ◌++◌, ◌==◌, nat_eq, length, drop, if◌then◌else◌, Option, None, Some, IsSome, cond, arith, eqb-true, ◌||◌, refl, sym, ap, subst, ◌∙◌}
use Rattle.std.specs.BTreeMap.{is_at}
use Rattle.std.specs.BTreeMap.Range.{IsLeBy, range_contains}
use Rattle.std.specs.Cmp.Lexicographic.{slice_cmp, nat_list_cmp_total}
use Rattle.std.specs.Cmp.{nat_cmp_total, eq_by_cmp_equiv}
use Rattle.std.specs.FinMap as finmap
use Rattle.std.specs.List.{list_any, filter}
use Rattle.std.specs.List.Sorted.{IsStrictlySortedBy}
use Rattle.std.specs.Map.{lookup}
use Rattle.std.specs.Ordering.{nat_cmp, is_le, is_gt, is_eq, ordering_then}
use Rattle.std.specs.declared.ops.Bound.TheVariants.{Included, Excluded}
use Rattle.std.proofs.lemmas.Cmp.{tied_itself}
use Rattle.std.proofs.lemmas.Map.Lookups.{exact_bytes}
use Rattle.std.proofs.lemmas.List.Folds.{list_any-append}
use Rattle.std.proofs.lemmas.Map.Views.{any-filter_same, list_any-from_Contains, Contains-from_any, tells_apart}
use Rattle.pm_store.specs.Names.{is_name, leads_to}
use Rattle.pm_store.proofs.FileMapLaws.{Entries, get-entries}
use Rattle.std.proofs.Math.Seq.{drop-append_seam}
use Rattle.std.proofs.lemmas.Slice.Eq.{starts_is}
use Rattle.std.specs.Cmp.{unsigned_Decides}
use Rattle.std.specs.List.{starts_with, before_first}
use Rattle.std.specs.Str.Pattern.{StripsPrefix, FindsTextPrefix}
use Rattle.pm_store.specs.Files.{slash, prefix_of, some_name, name_after, IsListing}

-- after a prefix that a path has
pub name_after-prefix : (prefix rest : List ℕ) → name_after prefix (prefix ++ rest) ≡ some_name (before_first (λ b. b == slash) rest)
name_after-prefix prefix rest =
    let begins : starts_with nat_eq (prefix ++ rest) prefix ≡ true =
    (starts_is unsigned_Decides (prefix ++ rest) prefix (starts_with nat_eq (prefix ++ rest) prefix) refl).1 rest refl in
    ap (λ b. if b then some_name (before_first (λ b. b == slash) (drop (length prefix) (prefix ++ rest))) else None) begins
    ∙ ap (λ bytes. some_name (before_first (λ b. b == slash) bytes)) (drop-append_seam prefix rest)

-- and after one that it hasn't
pub name_after-other : (prefix path : List ℕ) → ((rest : List ℕ) → path ≢ prefix ++ rest) → name_after prefix path ≡ None
name_after-other prefix path none =
    let cases : (b : Bool) → starts_with nat_eq path prefix ≡ b
    → (if b then some_name (before_first (λ b. b == slash) (drop (length prefix) path)) else None) ≡ None =
    λ b. elim b as (λ b. starts_with nat_eq path prefix ≡ b → (if b then some_name (before_first (λ b. b == slash) (drop (length prefix) path)) else None) ≡ None) [
      | true ↦ λ e. absurd (none _ ((starts_is unsigned_Decides path prefix (starts_with nat_eq path prefix) refl).0 e))
      | false ↦ λ e. refl
    ] in
    cases (starts_with nat_eq path prefix) refl

-- a name that isn't empty
pub some_name-some : (name : List ℕ) → false ≡ (length name == 0) → some_name name ≡ Some name
some_name-some [] e = cc
some_name-some (b ∷ name) e = refl

pub some_name-none : (name : List ℕ) → true ≡ (length name == 0) → some_name name ≡ None
some_name-none [] e = refl
some_name-none (b ∷ name) e = absurd (omega (arith, eqb-true (length (b ∷ name)) 0 (sym e)))

-- a text is its prefix and what is left of it
pub prefix_stripped : (prefix path rest : List ℕ) → StripsPrefix (FindsTextPrefix prefix) path rest → prefix ++ rest ≡ path
prefix_stripped prefix path rest (n, found, is, size) = ap (λ bytes. prefix ++ bytes) is ∙ sym found.1

-- ---- the paths below a folder lie between two bounds

cmp_after : (front xs ys : List ℕ) → slice_cmp nat_cmp (front ++ xs) (front ++ ys) ≡ slice_cmp nat_cmp xs ys
cmp_after [] xs ys = refl
cmp_after (b ∷ front) xs ys =
    ap (λ o. ordering_then o (slice_cmp nat_cmp (front ++ xs) (front ++ ys))) (tied_itself nat_cmp_total b) ∙ cmp_after front xs ys

first_is_le : (rest : List ℕ) → is_le (slice_cmp nat_cmp (slash ∷ []) (slash ∷ rest)) ≡ true
first_is_le [] = refl
first_is_le (b ∷ rest) = refl

append_one : (front rest : List ℕ) (b : ℕ) → (front ++ b ∷ []) ++ rest ≡ front ++ b ∷ rest
append_one [] rest b = refl
append_one (c ∷ front) rest b = ap (λ bytes. c ∷ bytes) (append_one front rest b)

pub is_forward : (folder : List ℕ) → IsLeBy (slice_cmp nat_cmp) (folder ++ slash ∷ []) (folder ++ 48 ∷ [])
is_forward folder = ap is_gt (cmp_after folder (slash ∷ []) (48 ∷ []))

pub in_bounds : (folder rest : List ℕ) → range_contains (slice_cmp nat_cmp) (Included (folder ++ slash ∷ [])) (Excluded (folder ++ 48 ∷ [])) ((folder ++ slash ∷ []) ++ rest) ≡ true
in_bounds folder rest =
    subst (λ path. range_contains (slice_cmp nat_cmp) (Included (folder ++ slash ∷ [])) (Excluded (folder ++ 48 ∷ [])) path ≡ true)
    (sym (append_one folder rest slash))
    (let from : is_le (slice_cmp nat_cmp (folder ++ slash ∷ []) (folder ++ slash ∷ rest)) ≡ true = ap is_le (cmp_after folder (slash ∷ []) (slash ∷ rest)) ∙ first_is_le rest in
    let past : is_le (slice_cmp nat_cmp (folder ++ 48 ∷ []) (folder ++ slash ∷ rest)) ≡ false = ap is_le (cmp_after folder (48 ∷ []) (slash ∷ rest)) in
    rw (from, past) refl)

pub bounded : (folder first end : List ℕ) → false ≡ (length folder == 0) → first ≡ folder ++ slash ∷ [] → end ≡ folder ++ 48 ∷ []
    → (rest : List ℕ) → range_contains (slice_cmp nat_cmp) (Included first) (Excluded end) (prefix_of folder ++ rest) ≡ true
bounded [] first end some is_first is_end rest = cc
bounded (b ∷ folder) first end some is_first is_end rest = rw (is_first, is_end) (in_bounds (b ∷ folder) rest)

-- ---- the names that were gathered are the listing

-- a path leads to a name exactly where the test says so
leads_from : (prefix q path : List ℕ) → leads_to prefix q path ≡ true → name_after prefix path ≡ Some q
leads_from prefix q path is = same_name (name_after prefix path) is
  where
    same_name : (name : Option (List ℕ)) → is_name q name ≡ true → name ≡ Some q
    same_name None h = cc
    same_name (Some found) h = ap Some (sym (tells_apart exact_bytes q found h))

itself : (q : List ℕ) → is_at (slice_cmp nat_cmp q) q ≡ true
itself q = ap is_eq (tied_itself nat_list_cmp_total q)

leads_back : (prefix q path : List ℕ) → name_after prefix path ≡ Some q → leads_to prefix q path ≡ true
leads_back prefix q path is = ap (is_name q) is ∙ itself q

here_or_later : (b : Bool) (x : List ℕ) (o : Option (List ℕ)) → IsSome o → IsSome (cond b (Some x) o)
here_or_later true x o some = refl
here_or_later false x o some = some

or_true : (b : Bool) → (b || true) ≡ true
or_true true = refl
or_true false = refl

found_path : (prefix q : List ℕ) (entries : Entries) → list_any (λ e. leads_to prefix q e.0) entries ≡ true
    → (path : List ℕ) × IsSome (lookup (is_at (slice_cmp nat_cmp path)) entries) × (name_after prefix path ≡ Some q)
found_path prefix q [] any = cc
found_path prefix q (e ∷ entries) any =
    elim (leads_to prefix q e.0) as (λ b. leads_to prefix q e.0 ≡ b → (b || list_any (λ e. leads_to prefix q e.0) entries) ≡ true
    → (path : List ℕ) × IsSome (lookup (is_at (slice_cmp nat_cmp path)) (e ∷ entries)) × (name_after prefix path ≡ Some q)) [
      | true ↦ λ is h. (e.0, subst (λ b. IsSome (cond b (Some e.1) (lookup (is_at (slice_cmp nat_cmp e.0)) entries))) (sym (itself e.0)) refl, leads_from prefix q e.0 is)
      | false ↦ λ is h.
          let more = found_path prefix q entries h in
          (more.0, here_or_later (is_at (slice_cmp nat_cmp more.0) e.0) e.1 _ more.1, more.2)
    ] refl any

path_found : (prefix q path : List ℕ) (entries : Entries) → IsSome (lookup (is_at (slice_cmp nat_cmp path)) entries)
    → name_after prefix path ≡ Some q → list_any (λ e. leads_to prefix q e.0) entries ≡ true
path_found prefix q path [] some is = let no : false ≡ true = some in cc
path_found prefix q path (e ∷ entries) some is =
    elim (is_at (slice_cmp nat_cmp path) e.0) as (λ b. is_at (slice_cmp nat_cmp path) e.0 ≡ b → IsSome (cond b (Some e.1) (lookup (is_at (slice_cmp nat_cmp path)) entries))
    → (leads_to prefix q e.0 || list_any (λ e. leads_to prefix q e.0) entries) ≡ true) [
      | true ↦ λ same h.
          let leads : leads_to prefix q e.0 ≡ true = leads_back prefix q e.0 (ap (name_after prefix) (sym (tells_apart exact_bytes path e.0 same)) ∙ is) in
          ap (λ b. b || list_any (λ e. leads_to prefix q e.0) entries) leads
      | false ↦ λ other h. ap (λ b. leads_to prefix q e.0 || b) (path_found prefix q path entries h is) ∙ or_true (leads_to prefix q e.0)
    ] refl some

-- the part of the files below a folder leads to the same names as all of them
same_part : (prefix q : List ℕ) (inside : List ℕ → Bool) (entries : Entries) → ((rest : List ℕ) → inside (prefix ++ rest) ≡ true)
    → list_any (λ e. leads_to prefix q e.0) (filter (λ e. inside e.0) entries) ≡ list_any (λ e. leads_to prefix q e.0) entries
same_part prefix q inside entries all =
    any-filter_same (λ e. leads_to prefix q e.0) (λ e. inside e.0) true (λ e leads. within e.0 (leads_from prefix q e.0 leads)) entries
  where
    within : (path : List ℕ) → name_after prefix path ≡ Some q → inside path ≡ true
    within path leads =
        elim (inside path) as (λ b. inside path ≡ b → b ≡ true) [
          | true ↦ λ e. refl
          | false ↦ λ e.
              let none : name_after prefix path ≡ None = name_after-other prefix path (λ rest is. let no : true ≡ false = sym (all rest) ∙ ap inside (sym is) ∙ e in cc) in
              cc
        ] refl

pub listing : (folder prefix : List ℕ) (inside : List ℕ → Bool) (entries part : Entries) (names : List (List ℕ)) → prefix ≡ prefix_of folder
    → part ≡ filter (λ e. inside e.0) entries → ((rest : List ℕ) → inside (prefix_of folder ++ rest) ≡ true)
    → IsStrictlySortedBy (slice_cmp nat_cmp) names
    → ((q : List ℕ) → list_any (is_at (slice_cmp nat_cmp q)) names ≡ list_any (λ e. leads_to prefix q e.0) part)
    → IsListing folder names (finmap.from_entries entries)
listing folder prefix inside entries part names is_prefix is_part all rising gathered = record {
  rising = rising;
  exact = λ name. (
    λ has.
        let any = sym (gathered_all name) ∙ list_any-from_Contains (eq_by_cmp_equiv nat_list_cmp_total) name names has in
        let path = found_path (prefix_of folder) name entries any in
        (path.0, subst IsSome (get-entries entries path.0) path.1, path.2),
    λ (path, some, leads).
        Contains-from_any (tells_apart exact_bytes) name names
        (gathered_all name ∙ path_found (prefix_of folder) name path entries (subst IsSome (sym (get-entries entries path)) some) leads),
  );
}
  where
    gathered_all : (q : List ℕ) → list_any (is_at (slice_cmp nat_cmp q)) names ≡ list_any (λ e. leads_to (prefix_of folder) q e.0) entries
    gathered_all q =
        gathered q ∙ ap (λ prefix. list_any (λ e. leads_to prefix q e.0) part) is_prefix
        ∙ ap (list_any (λ e. leads_to (prefix_of folder) q e.0)) is_part
        ∙ same_part (prefix_of folder) q inside entries all

-- one name more
pub name_gathered : (prefix path name q : List ℕ) (xs : Entries) (bytes : List ℕ) (before after : Bool) → name_after prefix path ≡ Some name
    → after ≡ cond (is_at (slice_cmp nat_cmp name) q) true before → before ≡ list_any (λ e. leads_to prefix q e.0) xs
    → after ≡ list_any (λ e. leads_to prefix q e.0) (xs ++ (path, bytes) ∷ [])
name_gathered prefix path name q xs bytes before after leads is so_far =
    is
    ∙ ap (λ b. cond b true before) ((eq_by_cmp_equiv nat_list_cmp_total).symm name q)
    ∙ ap (cond (is_at (slice_cmp nat_cmp q) name) true) so_far
    ∙ cond_or (is_at (slice_cmp nat_cmp q) name) (list_any (λ e. leads_to prefix q e.0) xs)
    ∙ ap (λ b. list_any (λ e. leads_to prefix q e.0) xs || (b || false)) (sym (ap (is_name q) leads))
    ∙ sym (list_any-append (λ e. leads_to prefix q e.0) xs ((path, bytes) ∷ []))
  where
    cond_or : (b c : Bool) → cond b true c ≡ (c || (b || false))
    cond_or true true = refl
    cond_or true false = refl
    cond_or false true = refl
    cond_or false false = refl

-- a path that leads to no name
pub name_passed : (prefix path q : List ℕ) (xs : Entries) (bytes : List ℕ) (before : Bool) → name_after prefix path ≡ None
    → before ≡ list_any (λ e. leads_to prefix q e.0) xs → before ≡ list_any (λ e. leads_to prefix q e.0) (xs ++ (path, bytes) ∷ [])
name_passed prefix path q xs bytes before none so_far =
    so_far
    ∙ or_false (list_any (λ e. leads_to prefix q e.0) xs)
    ∙ ap (λ b. list_any (λ e. leads_to prefix q e.0) xs || (b || false)) (sym (ap (is_name q) none))
    ∙ sym (list_any-append (λ e. leads_to prefix q e.0) xs ((path, bytes) ∷ []))
  where
    or_false : (b : Bool) → b ≡ (b || (false || false))
    or_false true = refl
    or_false false = refl
