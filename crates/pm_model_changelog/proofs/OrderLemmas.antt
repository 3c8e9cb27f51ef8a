-- What a change tells, group by group.
use Rattle.std.proofs.Common.{◌≡◌, ℕ, List, [], ◌∷◌, ◌++◌, map, filter, Bool, true, false, cond, ◌||◌, Option, Some, None, refl, sym, ap, ◌∙◌}
use Rattle.std.specs.FinMap.{FinMap, contains_key-keys, entries, entries-from_sorted, entries_sorted, from_entries, from_sorted, get, get-entries, get-from_entries, keys, same_map}
use Rattle.std.specs.FinMap.Entries.{find, find-where_key, is_sorted-where_key, where_key}
use Rattle.std.specs.List.{AllByRecursion, flat_map, list_any}
use Rattle.std.specs.Option.{is_some, option_map_or}
use Rattle.std.specs.Cmp.{tied_itself}
use Rattle.std.specs.Ordering.{eq_by_cmp, is_eq}
use Rattle.std.proofs.lemmas.List.Elements.{filter-append}
use Rattle.pm_values.specs.GroupOrder.{group_cmp}
use Rattle.pm_values.specs.Order.{Values, key_cmp, key_total}
use Rattle.pm_values.specs.declared.group.Group.{Group}
use Rattle.pm_values.proofs.Lemmas.{key_cmp-IsAntisymmetric}
use Rattle.pm_engine.proofs.Rising.{tied}
use Rattle.pm_schema.specs.Rules.{partition_holds}
use Rattle.pm_schema.specs.declared.schema.TableSchema.{TableSchema}
use Rattle.pm_model_history.specs.Merge.{HistoryRow, key_of, rows_of}
use Rattle.pm_model_history.specs.Merged.{primary_of}
use Rattle.pm_model_following.specs.Following.{by_key, keys_in}
use Rattle.pm_model_following.specs.Groups.{group_of, rows_in}
use Rattle.pm_model_changelog.proofs.GroupLemmas.{key_rows_in, same_group}

-- the row lies in the group
abbrev pub is_in : TableSchema → Group → HistoryRow → Bool
is_in s g r = eq_by_cmp group_cmp (group_of s r.1) g

-- rows with their keys
abbrev pub keyed : TableSchema → List HistoryRow → List (Values × HistoryRow)
keyed s rows = map (λ (r : HistoryRow). (key_of (primary_of s) r.1, r)) rows

abbrev pub first_of : TableSchema → List HistoryRow → Values → Option HistoryRow
first_of s rows key = find key_cmp key (keyed s rows)

-- whether a row that was found lies in the group
abbrev found_in : TableSchema → Group → Option HistoryRow → Bool
found_in s g o = option_map_or (is_in s g) o false

-- ---- the first row of a key in a group

none-in : (s : TableSchema) (g : Group) (x : HistoryRow) (key : Values) (rows : List HistoryRow) → partition_holds s ≡ true → is_in s g x ≡ false → key_of (primary_of s) x.1 ≡ key
    → first_of s (rows_in s g rows) key ≡ None
none-in s g x key [] holds out is = refl
none-in s g x key (r ∷ rows) holds out is =
    let rest = none-in s g x key rows holds out is in
    elim (is_in s g r) as (λ b. is_in s g r ≡ b → first_of s (cond b (r ∷ rows_in s g rows) (rows_in s g rows)) key ≡ None) [
      | true ↦ λ own.
          elim (eq_by_cmp key_cmp key (key_of (primary_of s) r.1)) as (λ t. eq_by_cmp key_cmp key (key_of (primary_of s) r.1) ≡ t → cond t (Some r) (first_of s (rows_in s g rows) key) ≡ None) [
            | true ↦ λ t.
                let same : group_of s r.1 ≡ group_of s x.1 = same_group s r.1 x.1 holds (sym (tied key (key_of (primary_of s) r.1) t) ∙ sym is) in
                let bad : true ≡ false = sym own ∙ ap (λ h. eq_by_cmp group_cmp h g) same ∙ out in cc
            | false ↦ λ t. rest
          ] refl
      | false ↦ λ own. rest
    ] refl

first-in : (s : TableSchema) (g : Group) (key : Values) (rows : List HistoryRow) → partition_holds s ≡ true
    → first_of s (rows_in s g rows) key ≡ cond (found_in s g (first_of s rows key)) (first_of s rows key) None
first-in s g key [] holds = refl
first-in s g key (r ∷ rows) holds =
    let rest = first-in s g key rows holds in
    elim (is_in s g r) as (λ b. is_in s g r ≡ b → first_of s (cond b (r ∷ rows_in s g rows) (rows_in s g rows)) key
    ≡ cond (found_in s g (first_of s (r ∷ rows) key)) (first_of s (r ∷ rows) key) None) [
      | true ↦ λ own.
          elim (eq_by_cmp key_cmp key (key_of (primary_of s) r.1)) as (λ t. cond t (Some r) (first_of s (rows_in s g rows) key)
          ≡ cond (found_in s g (cond t (Some r) (first_of s rows key))) (cond t (Some r) (first_of s rows key)) None) [
            | true ↦ sym (ap (λ b. cond b (Some r) None) own)
            | false ↦ rest
          ]
      | false ↦ λ own.
          elim (eq_by_cmp key_cmp key (key_of (primary_of s) r.1)) as (λ t. eq_by_cmp key_cmp key (key_of (primary_of s) r.1) ≡ t → first_of s (rows_in s g rows) key
          ≡ cond (found_in s g (cond t (Some r) (first_of s rows key))) (cond t (Some r) (first_of s rows key)) None) [
            | true ↦ λ t. none-in s g r key rows holds own (sym (tied key (key_of (primary_of s) r.1) t)) ∙ sym (ap (λ b. cond b (Some r) None) own)
            | false ↦ λ t. rest
          ] refl
    ] refl

-- ---- the keys of a group's rows

map-filter : {A B : Type 0} (f : A → B) (p : B → Bool) (xs : List A) → map f (filter (λ x. p (f x)) xs) ≡ filter p (map f xs)
map-filter f p [] = refl
map-filter f p (x ∷ xs) =
    elim (p (f x)) as (λ b. map f (cond b (x ∷ filter (λ x. p (f x)) xs) (filter (λ x. p (f x)) xs)) ≡ cond b (f x ∷ filter p (map f xs)) (filter p (map f xs))) [
      | true ↦ ap (λ ys. f x ∷ ys) (map-filter f p xs)
      | false ↦ map-filter f p xs
    ]

abbrev pub table_of : TableSchema → List HistoryRow → FinMap key_cmp HistoryRow
table_of s rows = from_entries (keyed s rows)

-- a key's rows lie in the group
abbrev key_in : TableSchema → Group → List HistoryRow → Values → Bool
key_in s g rows key = found_in s g (get (table_of s rows) key)

-- a map's entries whose keys pass a test
abbrev kept_of : FinMap key_cmp HistoryRow → (Values → Bool) → FinMap key_cmp HistoryRow
kept_of m p = from_sorted (where_key key_cmp p (entries m))

kept-entries : (m : FinMap key_cmp HistoryRow) (p : Values → Bool) → entries (kept_of m p) ≡ where_key key_cmp p (entries m)
kept-entries m p = entries-from_sorted key_cmp (where_key key_cmp p (entries m)) (is_sorted-where_key key_cmp p (entries m) (entries_sorted m))

kept-get : (m : FinMap key_cmp HistoryRow) (p : Values → Bool) (q : Values) → get (kept_of m p) q ≡ cond (p q) (get m q) None
kept-get m p q =
    get-entries (kept_of m p) q ∙ ap (find key_cmp q) (kept-entries m p)
    ∙ find-where_key key_cmp p q (λ x t. ap p (sym (key_cmp-IsAntisymmetric q x t))) (entries m)
    ∙ ap (λ o. cond (p q) o None) (sym (get-entries m q))

table-in : (s : TableSchema) (g : Group) (rows : List HistoryRow) → partition_holds s ≡ true
    → table_of s (rows_in s g rows) ≡ kept_of (table_of s rows) (key_in s g rows)
table-in s g rows holds =
    let found : (q : Values) → get (table_of s rows) q ≡ first_of s rows q = λ q. get-from_entries key_total (keyed s rows) q in
    same_map key_total key_cmp-IsAntisymmetric _ _
    (λ q. get-from_entries key_total (keyed s (rows_in s g rows)) q ∙ first-in s g q rows holds
    ∙ ap (λ o. cond (found_in s g o) o None) (sym (found q))
    ∙ sym (kept-get (table_of s rows) (key_in s g rows) q))

pub keys-in : (s : TableSchema) (g : Group) (rows : List HistoryRow) → partition_holds s ≡ true → keys_in s (rows_in s g rows) ≡ filter (key_in s g rows) (keys_in s rows)
keys-in s g rows holds =
    ap keys (table-in s g rows holds)
    ∙ ap (map (λ (e : Values × HistoryRow). e.0)) (kept-entries (table_of s rows) (key_in s g rows))
    ∙ map-filter (λ (e : Values × HistoryRow). e.0) (key_in s g rows) (entries (table_of s rows))

-- ---- what is told of them

-- a key has a row, and that has it
abbrev pub HasRow : TableSchema → List HistoryRow → Values → Type 0
HasRow s rows key = (r : HistoryRow) × (get (table_of s rows) key ≡ Some r) × (key_of (primary_of s) r.1 ≡ key)

find-row : (s : TableSchema) (rows : List HistoryRow) (key : Values) → is_some (first_of s rows key) ≡ true → (r : HistoryRow) × (first_of s rows key ≡ Some r) × (key_of (primary_of s) r.1 ≡ key)
find-row s [] key some = cc
find-row s (r ∷ rows) key some =
    elim (eq_by_cmp key_cmp key (key_of (primary_of s) r.1)) as (λ t. eq_by_cmp key_cmp key (key_of (primary_of s) r.1) ≡ t → is_some (cond t (Some r) (first_of s rows key)) ≡ true
    → (x : HistoryRow) × (cond t (Some r) (first_of s rows key) ≡ Some x) × (key_of (primary_of s) x.1 ≡ key)) [
      | true ↦ λ t some. (r, refl, sym (tied key (key_of (primary_of s) r.1) t))
      | false ↦ λ t some. find-row s rows key some
    ] refl some

pub has-row : (s : TableSchema) (rows : List HistoryRow) (key : Values) → list_any (eq_by_cmp key_cmp key) (keys_in s rows) ≡ true → HasRow s rows key
has-row s rows key any =
    let is : get (table_of s rows) key ≡ first_of s rows key = get-from_entries key_total (keyed s rows) key in
    let found = find-row s rows key (ap is_some (sym is) ∙ contains_key-keys (table_of s rows) key ∙ any) in
    (found.0, is ∙ found.1, found.2)

or_later : (a b : Bool) → b ≡ true → (a || b) ≡ true
or_later true b e = refl
or_later false b e = e

pub each-later : (P Q : Values → Type 0) → ((x : Values) → P x → Q x) → (xs : List Values) → AllByRecursion P xs → AllByRecursion Q xs
each-later P Q f [] all = tt
each-later P Q f (x ∷ xs) all = (f x all.0, each-later P Q f xs all.1)

pub all-any : (all : List Values) → AllByRecursion (λ (key : Values). list_any (eq_by_cmp key_cmp key) all ≡ true) all
all-any [] = tt
all-any (x ∷ xs) = (
  ap (λ t. t || list_any (eq_by_cmp key_cmp x) xs) (ap is_eq (tied_itself key_total x)),
  each-later (λ (key : Values). list_any (eq_by_cmp key_cmp key) xs ≡ true) (λ (key : Values). list_any (eq_by_cmp key_cmp key) (x ∷ xs) ≡ true)
      (λ key e. or_later (eq_by_cmp key_cmp key x) (list_any (eq_by_cmp key_cmp key) xs) e) xs (all-any xs),
)

-- rows of one key are all in the group of one of them, or none is
pub of-key : (s : TableSchema) (g : Group) (r : HistoryRow) (key : Values) (told : List HistoryRow) → partition_holds s ≡ true → key_of (primary_of s) r.1 ≡ key
    → AllByRecursion (λ (x : HistoryRow). key_of (primary_of s) x.1 ≡ key) told → rows_in s g told ≡ cond (is_in s g r) told []
of-key s g r key [] holds is all = elim (is_in s g r) as (λ b. ◌≡◌ {A = List HistoryRow} [] (cond b [] [])) [ true ↦ refl | false ↦ refl ]
of-key s g r key (x ∷ told) holds is all =
    let rest = of-key s g r key told holds is all.1 in
    let same : is_in s g x ≡ is_in s g r = ap (λ h. eq_by_cmp group_cmp h g) (same_group s x.1 r.1 holds (all.0 ∙ sym is)) in
    ap (λ b. cond b (x ∷ rows_in s g told) (rows_in s g told)) same
    ∙ ap (λ ys. cond (is_in s g r) (x ∷ ys) ys) rest
    ∙ elim (is_in s g r) as (λ b. cond b (x ∷ cond b told []) (cond b told []) ≡ cond b (x ∷ told) []) [ true ↦ refl | false ↦ refl ]

rows-told : (s : TableSchema) (g : Group) (tell : Values → List HistoryRow) (p : Values → Bool) (all : List Values)
    → AllByRecursion (λ (key : Values). rows_in s g (tell key) ≡ cond (p key) (tell key) []) all → rows_in s g (flat_map tell all) ≡ flat_map tell (filter p all)
rows-told s g tell p [] each = refl
rows-told s g tell p (key ∷ all) each =
    filter-append (is_in s g) (tell key) (flat_map tell all)
    ∙ ap (λ ys. ys ++ rows_in s g (flat_map tell all)) each.0
    ∙ ap (λ ys. cond (p key) (tell key) [] ++ ys) (rows-told s g tell p all each.1)
    ∙ elim (p key) as (λ b. cond b (tell key) [] ++ flat_map tell (filter p all) ≡ flat_map tell (cond b (key ∷ filter p all) (filter p all))) [ true ↦ refl | false ↦ refl ]

pub told-groups : (s : TableSchema) (g : Group) (tell : Values → List HistoryRow) (rows : List HistoryRow) → partition_holds s ≡ true
    → ((key : Values) → AllByRecursion (λ (r : HistoryRow). key_of (primary_of s) r.1 ≡ key) (tell key))
    → rows_in s g (flat_map tell (keys_in s rows)) ≡ flat_map tell (keys_in s (rows_in s g rows))
told-groups s g tell rows holds all_keyed =
    rows-told s g tell (key_in s g rows) (keys_in s rows)
    (each-later (λ (key : Values). list_any (eq_by_cmp key_cmp key) (keys_in s rows) ≡ true) (λ (key : Values). rows_in s g (tell key) ≡ cond (key_in s g rows key) (tell key) [])
    (λ key any.
    let row = has-row s rows key any in
    of-key s g row.0 key (tell key) holds row.2 (all_keyed key) ∙ ap (λ b. cond b (tell key) []) (sym (ap (found_in s g) row.1))) (keys_in s rows) (all-any (keys_in s rows)))
    ∙ ap (flat_map tell) (sym (keys-in s g rows holds))

-- ---- rows as given

pub keys-of : (primary : List ℕ) (key : Values) (rows : List HistoryRow) → AllByRecursion (λ (r : HistoryRow). key_of primary r.1 ≡ key) (rows_of primary key rows)
keys-of primary key [] = tt
keys-of primary key (r ∷ rows) =
    elim (eq_by_cmp key_cmp key (key_of primary r.1)) as (λ t. eq_by_cmp key_cmp key (key_of primary r.1) ≡ t
    → AllByRecursion (λ (r : HistoryRow). key_of primary r.1 ≡ key) (cond t (r ∷ rows_of primary key rows) (rows_of primary key rows))) [
      | true ↦ λ e. (sym (tied key (key_of primary r.1) e), keys-of primary key rows)
      | false ↦ λ e. keys-of primary key rows
    ] refl

pub flat-same : (f h : Values → List HistoryRow) (all : List Values) → AllByRecursion (λ (key : Values). f key ≡ h key) all → flat_map f all ≡ flat_map h all
flat-same f h [] each = refl
flat-same f h (key ∷ all) each = ap (λ ys. ys ++ flat_map f all) each.0 ∙ ap (λ ys. h key ++ ys) (flat-same f h all each.1)

same_Some : (x y : HistoryRow) → Some x ≡ Some y → x ≡ y
same_Some x y e = ap (λ o. option_map_or (λ z. z) o x) e

pub in-group : (s : TableSchema) (g : Group) (rows : List HistoryRow) (key : Values) (x : HistoryRow) → first_of s (rows_in s g rows) key ≡ Some x → is_in s g x ≡ true
in-group s g [] key x e = cc
in-group s g (r ∷ rows) key x e =
    elim (is_in s g r) as (λ b. is_in s g r ≡ b → first_of s (cond b (r ∷ rows_in s g rows) (rows_in s g rows)) key ≡ Some x → is_in s g x ≡ true) [
      | true ↦ λ own e.
          elim (eq_by_cmp key_cmp key (key_of (primary_of s) r.1)) as (λ t. cond t (Some r) (first_of s (rows_in s g rows) key) ≡ Some x → is_in s g x ≡ true) [
            | true ↦ λ e. ap (is_in s g) (sym (same_Some r x e)) ∙ own
            | false ↦ λ e. in-group s g rows key x e
          ] e
      | false ↦ λ own e. in-group s g rows key x e
    ] refl e

pub given-groups : (s : TableSchema) (g : Group) (rows : List HistoryRow) → partition_holds s ≡ true → rows_in s g (by_key s rows) ≡ by_key s (rows_in s g rows)
given-groups s g rows holds =
    let own = rows_in s g rows in
    told-groups s g (λ key. rows_of (primary_of s) key rows) rows holds (λ key. keys-of (primary_of s) key rows)
    ∙ flat-same (λ key. rows_of (primary_of s) key rows) (λ key. rows_of (primary_of s) key own) (keys_in s own)
    (each-later (λ (key : Values). list_any (eq_by_cmp key_cmp key) (keys_in s own) ≡ true) (λ (key : Values). rows_of (primary_of s) key rows ≡ rows_of (primary_of s) key own)
    (λ key any.
    let row = has-row s own key any in
    let there : first_of s own key ≡ Some row.0 = sym (get-from_entries key_total (keyed s own) key) ∙ row.1 in
    let inside : is_in s g row.0 ≡ true = in-group s g rows key row.0 there in
    sym (key_rows_in s key g rows ∙ of-key s g row.0 key (rows_of (primary_of s) key rows) holds row.2 (keys-of (primary_of s) key rows) ∙ ap (λ b. cond b (rows_of (primary_of s) key rows) []) inside))
    (keys_in s own) (all-any (keys_in s own)))
