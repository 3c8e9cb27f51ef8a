-- The names of the consumers whose files a listing has, and those whose files are there.
use Rattle.std.proofs.Common.{◌≡◌, ◌⊎◌, inl, inr, ◌↔◌, ℕ, ◌+◌, suc, List, [], ◌∷◌, ◌++◌, take, drop, length, Contains, codes, ◌==◌, nat_eq, Bool, true, false, not, cond, if◌then◌else◌, Option, None, Some, IfSome, IsSome, refl, sym, ap, ◌∙◌, subst, arith}
use Rattle.std.specs.Cmp.{unsigned_Decides}
use Rattle.std.specs.Cmp.Lexicographic.{slice_cmp}
use Rattle.std.specs.FinMap as finite
use Rattle.std.specs.List.{AllByRecursion, before_first, cons_option, filter_map, position_or_len, starts_with}
use Rattle.std.specs.List.Sorted.{IsStrictlySortedBy}
use Rattle.std.specs.Ordering.{nat_cmp}
use Rattle.std.specs.declared.cmp.Ordering.TheVariants.{Less}
use Rattle.std.proofs.lemmas.List.{append_cancel_left}
use Rattle.std.proofs.lemmas.Slice.Eq.{starts_is}
use Rattle.pm_store.specs.Files.{Files, IsListing, name_in as name_below, slash, some_name}
use Rattle.pm_model_history.specs.History.{History, no_table, table}
use Rattle.pm_model_folder.specs.Folder.{Folder, HaveFiles}
use Rattle.pm_model_folder.specs.Paths.{consumer_file, consumer_folder, consumer_path}
use Rattle.pm_paths.proofs.ListLemmas.{here, more, nowhere, cases}
use Rattle.pm_consumers.specs.Names.{AreNames, file_prefix, name_in}

-- ---- one file

-- a file whose name begins so is that of the consumer with the rest as its name
begins : (file : List ℕ) → starts_with nat_eq file file_prefix ≡ true → file ≡ file_prefix ++ drop (length file_prefix) file
begins file starts = (starts_is unsigned_Decides file file_prefix (starts_with nat_eq file file_prefix) refl).0 starts

begun : (name : List ℕ) → starts_with nat_eq (consumer_file name) file_prefix ≡ true
begun name = (starts_is unsigned_Decides (consumer_file name) file_prefix (starts_with nat_eq (consumer_file name) file_prefix) refl).1 name refl

none_some : {A : Type 0} {P : Type 0} (x : A) → None ≡ Some x → P
none_some x e = cc

one_name : (a b : List ℕ) → Some a ≡ Some b → a ≡ b
one_name a b e = cc

name_of : (file name : List ℕ) → name_in file ≡ Some name → file ≡ consumer_file name
name_of file name is = at (starts_with nat_eq file file_prefix) refl is
  where
    at : (t : Bool) → starts_with nat_eq file file_prefix ≡ t → (if t then Some (drop (length file_prefix) file) else None) ≡ Some name
        → file ≡ consumer_file name
    at true starts is = begins file starts ∙ ap (λ (rest : List ℕ). file_prefix ++ rest) (one_name (drop (length file_prefix) file) name is)
    at false starts is = none_some name is

name_back : (name : List ℕ) → name_in (consumer_file name) ≡ Some name
name_back name = ap (λ (t : Bool). if t then Some (drop (length file_prefix) (consumer_file name)) else None) (begun name)

-- the answer of who strips the prefix off
pub stripped : (file rest : List ℕ) → file ≡ file_prefix ++ rest → name_in file ≡ Some rest
stripped file rest is = ap name_in is ∙ name_back rest

pub not_stripped : (file : List ℕ) → ((rest : List ℕ) → file ≡ file_prefix ++ rest → ⊥) → name_in file ≡ None
not_stripped file none = at (starts_with nat_eq file file_prefix) refl
  where
    at : (t : Bool) → starts_with nat_eq file file_prefix ≡ t → (if t then Some (drop (length file_prefix) file) else None) ≡ None
    at true starts = absurd (none (drop (length file_prefix) file) (begins file starts))
    at false starts = refl

-- ---- all files

found_at : (o : Option (List ℕ)) (names : List (List ℕ)) (name : List ℕ) → Contains (cons_option o names) name → (o ≡ Some name) ⊎ Contains names name
found_at None names name c = inr c
found_at (Some x) names name c = elim (cases x names name c) as (λ _. (Some x ≡ Some name) ⊎ Contains names name) [
  | inl same ↦ inl (ap Some same)
  | inr later ↦ inr later
]

found : (files : List (List ℕ)) (name : List ℕ) → Contains (filter_map name_in files) name → Contains files (consumer_file name)
found [] name c = absurd (nowhere name c)
found (file ∷ files) name c = elim (found_at (name_in file) (filter_map name_in files) name c) as (λ _. Contains (file ∷ files) (consumer_file name)) [
  | inl e ↦ subst (λ (q : List ℕ). Contains (file ∷ files) q) (name_of file name e) (here file files)
  | inr later ↦ more file files (consumer_file name) (found files name later)
]

at_first : (o : Option (List ℕ)) (names : List (List ℕ)) (name : List ℕ) → o ≡ Some name → Contains (cons_option o names) name
at_first o names name e = subst (λ (o : Option (List ℕ)). Contains (cons_option o names) name) (sym e) (here name names)

at_later : (o : Option (List ℕ)) (names : List (List ℕ)) (name : List ℕ) → Contains names name → Contains (cons_option o names) name
at_later None names name c = c
at_later (Some x) names name c = more x names name c

all_found : (files : List (List ℕ)) (name : List ℕ) → Contains files (consumer_file name) → Contains (filter_map name_in files) name
all_found [] name c = absurd (nowhere (consumer_file name) c)
all_found (file ∷ files) name c = elim (cases file files (consumer_file name) c) as (λ _. Contains (filter_map name_in (file ∷ files)) name) [
  | inl same ↦ at_first (name_in file) (filter_map name_in files) name (ap name_in same ∙ name_back name)
  | inr later ↦ at_later (name_in file) (filter_map name_in files) name (all_found files name later)
]

-- ---- they rise as the files do

abbrev IsBelow : List ℕ → List ℕ → Type 0
IsBelow one other = slice_cmp nat_cmp one other ≡ Less

-- texts that begin alike are ordered as what follows
same_start : (name other : List ℕ) → slice_cmp nat_cmp (consumer_file name) (consumer_file other) ≡ slice_cmp nat_cmp name other
same_start name other = refl

below : (file other name next : List ℕ) → name_in file ≡ Some name → name_in other ≡ Some next → IsBelow file other → IsBelow name next
below file other name next is was less =
    sym (same_start name next)
    ∙ sym (ap (λ (file : List ℕ). slice_cmp nat_cmp file (consumer_file next)) (name_of file name is))
    ∙ sym (ap (λ (other : List ℕ). slice_cmp nat_cmp file other) (name_of other next was))
    ∙ less

-- the name of one more file, where it has one, among those above
below_more : (file name other : List ℕ) (names : List (List ℕ)) (o : Option (List ℕ)) → name_in file ≡ Some name → IsBelow file other
    → name_in other ≡ o → AllByRecursion (IsBelow name) names → AllByRecursion (IsBelow name) (cons_option o names)
below_more file name other names None is less none all = all
below_more file name other names (Some next) is less some all = (below file other name next is some less, all)

below_all : (file name : List ℕ) (files : List (List ℕ)) → name_in file ≡ Some name → AllByRecursion (IsBelow file) files
    → AllByRecursion (IsBelow name) (filter_map name_in files)
below_all file name [] is all = tt
below_all file name (other ∷ files) is (one, all) =
    below_more file name other (filter_map name_in files) (name_in other) is one refl (below_all file name files is all)

sorted_first : (o : Option (List ℕ)) (names : List (List ℕ)) → IfSome o (λ name. AllByRecursion (IsBelow name) names)
    → IsStrictlySortedBy (slice_cmp nat_cmp) names → IsStrictlySortedBy (slice_cmp nat_cmp) (cons_option o names)
unfolding IsStrictlySortedBy
sorted_first None names above sorted = sorted
sorted_first (Some name) names above sorted = (above, sorted)

sorted_parts : (file : List ℕ) (files : List (List ℕ)) → IsStrictlySortedBy (slice_cmp nat_cmp) (file ∷ files)
    → AllByRecursion (IsBelow file) files × IsStrictlySortedBy (slice_cmp nat_cmp) files
unfolding IsStrictlySortedBy
sorted_parts file files sorted = sorted

sorted_none : IsStrictlySortedBy (slice_cmp nat_cmp) []
unfolding IsStrictlySortedBy
sorted_none = tt

rising : (files : List (List ℕ)) → IsStrictlySortedBy (slice_cmp nat_cmp) files → IsStrictlySortedBy (slice_cmp nat_cmp) (filter_map name_in files)
rising [] sorted = sorted_none
rising (file ∷ files) sorted =
    let parts = sorted_parts file files sorted in
    sorted_first (name_in file) (filter_map name_in files) (above (name_in file) refl parts.0) (rising files parts.1)
  where
    above : (o : Option (List ℕ)) → name_in file ≡ o → AllByRecursion (IsBelow file) files
        → IfSome o (λ name. AllByRecursion (IsBelow name) (filter_map name_in files))
    above None none all = tt
    above (Some name) some all = below_all file name files some all

pub names_are : (files names : List (List ℕ)) → IsStrictlySortedBy (slice_cmp nat_cmp) files → names ≡ filter_map name_in files → AreNames files names
names_are files names sorted is =
    subst (AreNames files) (sym is) (record { rising = rising files sorted; exact = λ name. (found files name, all_found files name) })

-- ---- the files of a folder

abbrev before_slash : List ℕ → List ℕ
before_slash bytes = before_first (λ b. b == slash) bytes

before_cons : (b : ℕ) (bytes : List ℕ) → (b == slash) ≡ false → before_slash (b ∷ bytes) ≡ b ∷ before_slash bytes
before_cons b bytes other =
    let n : ℕ = position_or_len (λ b. b == slash) bytes in
    let more : 1 + n ≡ suc n = omega arith in
    ap (λ t. take (cond (not t) (1 + n) 0) (b ∷ bytes)) other ∙ ap (λ k. take k (b ∷ bytes)) more

before_append : (some bytes : List ℕ) → AllByRecursion (λ b. (b == slash) ≡ false) some → before_slash (some ++ bytes) ≡ some ++ before_slash bytes
before_append [] bytes all = refl
before_append (b ∷ some) bytes all = before_cons b (some ++ bytes) all.0 ∙ ap (λ (rest : List ℕ). b ∷ rest) (before_append some bytes all.1)

-- a consumer's file leads to the name of one, up to a slash
leads : (name : List ℕ) → name_below consumer_folder (consumer_path name) ≡ Some (consumer_file (before_slash name))
leads name = ap some_name (before_append file_prefix name (refl, (refl, (refl, (refl, (refl, (refl, (refl, (refl, (refl, tt))))))))))

have_files : (f : Files) (h : History) → Folder f h → HaveFiles f
have_files f no_table folder = folder.names
have_files f (table s entries) folder = folder.names

-- and that is its own, since nothing else of a folder that stands leads to it
own_name : (f : Files) (h : History) (name : List ℕ) → Folder f h → IsSome (finite.get f (consumer_path name))
    → name_below consumer_folder (consumer_path name) ≡ Some (consumer_file name)
own_name f h name folder there =
    let is = (have_files f h folder).consumers (before_slash name) (consumer_path name) there (leads name) in
    let same : name ≡ before_slash name = append_cancel_left (codes "consumer/consumer-") name (before_slash name) is in
    leads name ∙ ap (λ (name : List ℕ). Some (consumer_file name)) (sym same)

pub listed_there : (f : Files) (h : History) (files names : List (List ℕ)) (name : List ℕ) → Folder f h → IsListing consumer_folder files f
    → AreNames files names → Contains names name ↔ IsSome (finite.get f (consumer_path name))
listed_there f h files names name folder listing are = (
  λ c. (let (path, there, led) = (listing.exact (consumer_file name)).0 ((are.exact name).0 c) in
      let is = (have_files f h folder).consumers name path there led in
      subst (λ (path : List ℕ). IsSome (finite.get f path)) is there),
  λ there. (are.exact name).1 ((listing.exact (consumer_file name)).1 (consumer_path name, there, own_name f h name folder there)),
)
