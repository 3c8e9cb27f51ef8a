-- Entries: looked up, put in order, kept by their keys, and the same where all look-ups are.
use Rattle.std.proofs.Common.{◌≡◌, ℕ, Bool, true, false, cond, not, ◌&&◌, List, [], ◌∷◌, ◌++◌, map, Option, Some, None, option_map, T, Ordering, Less, Equal, Greater, refl, sym, ap, subst, ◌∙◌}
use Rattle.std.proofs.lemmas.Cmp.{nat_list_cmp_total, tied_itself}
use Rattle.std.proofs.lemmas.List.Elements.{recursion_from_All, All-from_recursion}
use Rattle.std.proofs.lemmas.List.Kept.{IsStrictlySortedBy-filter}
use Rattle.std.proofs.lemmas.Map.Entries.{lookup-filter-keys}
use Rattle.std.proofs.lemmas.Map.Lookups.{exact_bytes}
use Rattle.std.proofs.lemmas.Map.Made.{lookup-map_values}
use Rattle.std.proofs.lemmas.Map.Text.{is_eq-slice_cmp}
use Rattle.std.proofs.lemmas.Map.Views.{All-keys-insert_entry}
use Rattle.std.proofs.lemmas.Slice.Eq.{bytes_eq-Decides}
use Rattle.std.proofs.lemmas.Bool.Decides.{same_from_decides}
use Rattle.std.specs.BTreeMap.{insert_entry}
use Rattle.std.specs.Cmp.Lexicographic.{slice_cmp}
use Rattle.std.specs.FinMap as finite
use Rattle.std.specs.FinMap.Entries.{below_all}
use Rattle.std.specs.List.{AllByRecursion, filter}
use Rattle.std.specs.List.Sorted.{IsStrictlySortedBy}
use Rattle.std.specs.Map.{lookup}
use Rattle.std.specs.Option.{option_or}
use Rattle.std.specs.Ordering.{nat_cmp, match_ordering, ordering_reverse, is_lt}
use Rattle.std.specs.Str.{bytes_eq}
use Rattle.pm_options.specs.Entries.{Entries, entry_at}
use Rattle.pm_options.specs.Fields.{by_name}
use Rattle.pm_options.specs.Stands.{Rises}

-- ---- what each entry has

-- what follows for each from what each has
pub all_then : {X : Type 0} (P Q : X → Type 0) → ((x : X) → P x → Q x) → (xs : List X) → AllByRecursion P xs
    → AllByRecursion Q xs
all_then P Q then [] all = tt
all_then P Q then (x ∷ xs) all = (then x all.0, all_then P Q then xs all.1)

-- what f makes of each
pub all_map : {X Y : Type 0} (f : X → Y) (P : Y → Type 0) → ((x : X) → P (f x)) → (xs : List X)
    → AllByRecursion P (map f xs)
all_map f P each [] = tt
all_map f P each (x ∷ xs) = (each x, all_map f P each xs)

-- whether an entry comes before the first, in its place or later
all_insert_at : {A : Type 0} (P : List ℕ × A → Type 0) (o : Ordering) (k l : List ℕ) (v w : A) (es more : Entries A)
    → slice_cmp nat_cmp k l ≡ o → P (k, v) → AllByRecursion P ((l, w) ∷ es) → AllByRecursion P more
    → AllByRecursion P (match_ordering o ((k, v) ∷ (l, w) ∷ es) ((l, v) ∷ es) ((l, w) ∷ more))
all_insert_at P Less k l v w es more is p all later = (p, all)
all_insert_at P Equal k l v w es more is p all later = (subst (λ t. P (t, v)) (exact_bytes k l is) p, all.1)
all_insert_at P Greater k l v w es more is p all later = (all.0, later)

-- one more entry has it too
all_insert : {A : Type 0} (P : List ℕ × A → Type 0) (k : List ℕ) (v : A) (es : Entries A) → P (k, v)
    → AllByRecursion P es → AllByRecursion P (insert_entry (slice_cmp nat_cmp) es k v)
all_insert P k v [] p all = (p, tt)
all_insert P k v (e ∷ es) p all =
    all_insert_at P (slice_cmp nat_cmp k e.0) k e.0 v e.1 es (insert_entry (slice_cmp nat_cmp) es k v) refl p all
    (all_insert P k v es p all.1)

-- what each entry has, each has that is put in order
pub all_by_name : {A : Type 0} (P : List ℕ × A → Type 0) (es : Entries A) → AllByRecursion P es
    → AllByRecursion P (by_name es)
all_by_name P [] all = tt
all_by_name P (e ∷ es) all = all_insert P e.0 e.1 (by_name es) all.0 (all_by_name P es all.1)

-- whether the first is kept
all_filter_at : {X : Type 0} (p : X → Bool) (P : X → Type 0) (b : Bool) (x : X) (more : List X) → p x ≡ b → P x
    → AllByRecursion (λ y. (p y ≡ true) × P y) more → AllByRecursion (λ y. (p y ≡ true) × P y) (cond b (x ∷ more) more)
all_filter_at p P true x more is has later = ((is, has), later)
all_filter_at p P false x more is has later = later

-- what is kept passes the test
pub all_filter : {X : Type 0} (p : X → Bool) (P : X → Type 0) (xs : List X) → AllByRecursion P xs
    → AllByRecursion (λ y. (p y ≡ true) × P y) (filter p xs)
all_filter p P [] all = tt
all_filter p P (x ∷ xs) all = all_filter_at p P (p x) x (filter p xs) refl all.0 (all_filter p P xs all.1)

-- ---- look-ups

-- an equal key takes the value
tied_at : {A : Type 0} (b : Bool) (v w : A) (o : Option A) → cond b (Some v) o ≡ cond b (Some v) (cond b (Some w) o)
tied_at true v w o = refl
tied_at false v w o = refl

-- two keys that differ may be tried in either order
apart_at : {A : Type 0} (a b : Bool) (v w : A) (o : Option A) → (a ≡ true → b ≡ true → ⊥)
    → cond b (Some w) (cond a (Some v) o) ≡ cond a (Some v) (cond b (Some w) o)
apart_at true true v w o apart = absurd (apart refl refl)
apart_at true false v w o apart = refl
apart_at false true v w o apart = refl
apart_at false false v w o apart = refl

-- a key above another is not the same key
not_both : (k l key : List ℕ) → slice_cmp nat_cmp k l ≡ Greater → bytes_eq k key ≡ true → bytes_eq l key ≡ true → ⊥
not_both k l key is p q =
    let same : l ≡ k = (bytes_eq-Decides l key).0 q ∙ sym ((bytes_eq-Decides k key).0 p) in
    let tied : slice_cmp nat_cmp k l ≡ Equal = ap (slice_cmp nat_cmp k) same ∙ tied_itself nat_list_cmp_total k in
    cc

-- whether the entry comes before the first, in its place or later
entry_at-insert_at : {A : Type 0} (o : Ordering) (k key l : List ℕ) (v w : A) (es more : Entries A)
    → slice_cmp nat_cmp k l ≡ o → entry_at key more ≡ cond (bytes_eq k key) (Some v) (entry_at key es)
    → entry_at key (match_ordering o ((k, v) ∷ (l, w) ∷ es) ((l, v) ∷ es) ((l, w) ∷ more))
    ≡ cond (bytes_eq k key) (Some v) (cond (bytes_eq l key) (Some w) (entry_at key es))
entry_at-insert_at Less k key l v w es more is later = refl
entry_at-insert_at Equal k key l v w es more is later =
    tied_at (bytes_eq l key) v w (entry_at key es)
    ∙ ap (λ t. cond (bytes_eq t key) (Some v) (cond (bytes_eq l key) (Some w) (entry_at key es)))
    (sym (exact_bytes k l is))
entry_at-insert_at Greater k key l v w es more is later =
    ap (λ r. cond (bytes_eq l key) (Some w) r) later
    ∙ apart_at (bytes_eq k key) (bytes_eq l key) v w (entry_at key es) (not_both k l key is)

-- an entry that is put in is found at its key
pub entry_at-insert : {A : Type 0} (key k : List ℕ) (v : A) (es : Entries A)
    → entry_at key (insert_entry (slice_cmp nat_cmp) es k v) ≡ cond (bytes_eq k key) (Some v) (entry_at key es)
entry_at-insert key k v [] = refl
entry_at-insert key k v (e ∷ es) =
    entry_at-insert_at (slice_cmp nat_cmp k e.0) k key e.0 v e.1 es (insert_entry (slice_cmp nat_cmp) es k v) refl
    (entry_at-insert key k v es)

-- the order changes no look-up
pub entry_at-by_name : {A : Type 0} (key : List ℕ) (es : Entries A) → entry_at key (by_name es) ≡ entry_at key es
entry_at-by_name key [] = refl
entry_at-by_name key (e ∷ es) =
    entry_at-insert key e.0 e.1 (by_name es) ∙ ap (λ r. cond (bytes_eq e.0 key) (Some e.1) r) (entry_at-by_name key es)

-- whether the first is found
or_at : {A : Type 0} (b : Bool) (v : A) (o p q : Option A) → q ≡ option_or o p
    → cond b (Some v) q ≡ option_or (cond b (Some v) o) p
or_at true v o p q is = refl
or_at false v o p q is = is

-- what stands first is found
pub entry_at-append : {A : Type 0} (key : List ℕ) (xs ys : Entries A)
    → entry_at key (xs ++ ys) ≡ option_or (entry_at key xs) (entry_at key ys)
entry_at-append key [] ys = refl
entry_at-append key (e ∷ es) ys =
    or_at (bytes_eq e.0 key) e.1 (entry_at key es) (entry_at key ys) _ (entry_at-append key es ys)

-- an entry that is passed over
absent_at : {A : Type 0} (b : Bool) (v : A) (o : Option A) → (b ≡ true → ⊥) → o ≡ None → cond b (Some v) o ≡ None
absent_at true v o not_here is = absurd (not_here refl)
absent_at false v o not_here is = is

-- no truth is its contrary
differ : (b : Bool) → b ≡ not b → ⊥
differ true is = cc
differ false is = cc

-- a key on which a test answers otherwise than on each entry's isn't found
pub entry_at-apart : {A : Type 0} (test : List ℕ → Bool) (b : Bool) (key : List ℕ) (es : Entries A) → test key ≡ b
    → AllByRecursion (λ e. test e.0 ≡ not b) es → entry_at key es ≡ None
entry_at-apart test b key [] is all = refl
entry_at-apart test b key (e ∷ es) is all =
    absent_at (bytes_eq e.0 key) e.1 (entry_at key es)
    (λ same. differ b (sym is ∙ ap test (sym ((bytes_eq-Decides e.0 key).0 same)) ∙ all.0))
    (entry_at-apart test b key es is all.1)

-- a look-up in std's words
entry_at-lookup : {A : Type 0} (key : List ℕ) (es : Entries A) → entry_at key es ≡ lookup (λ k. bytes_eq k key) es
entry_at-lookup key [] = refl
entry_at-lookup key (e ∷ es) = ap (λ r. cond (bytes_eq e.0 key) (Some e.1) r) (entry_at-lookup key es)

-- entries that a test of their keys keeps
pub entry_at-filter : {A : Type 0} (p : List ℕ → Bool) (key : List ℕ) (es : Entries A)
    → entry_at key (filter (λ e. p e.0) es) ≡ cond (p key) (entry_at key es) None
entry_at-filter p key es =
    entry_at-lookup key (filter (λ e. p e.0) es)
    ∙ lookup-filter-keys (λ k. bytes_eq k key) p (p key) (λ k same. ap p ((bytes_eq-Decides k key).0 same)) es
    ∙ ap (λ r. cond (p key) r None) (sym (entry_at-lookup key es))

-- entries whose values f makes
pub entry_at-map : {A B : Type 0} (f : A → B) (key : List ℕ) (es : Entries A)
    → entry_at key (map (λ e. (e.0, f e.1)) es) ≡ option_map f (entry_at key es)
entry_at-map f key es =
    entry_at-lookup key (map (λ e. (e.0, f e.1)) es) ∙ lookup-map_values f (λ k. bytes_eq k key) es
    ∙ ap (option_map f) (sym (entry_at-lookup key es))

-- ---- rising keys

-- whether the entry comes before the first, in its place or later
rises_at : {A : Type 0} (o : Ordering) (k l : List ℕ) (v w : A) (es more : Entries A) → slice_cmp nat_cmp k l ≡ o
    → Rises ((l, w) ∷ es) → Rises more
    → (slice_cmp nat_cmp l k ≡ Less → AllByRecursion (λ y. slice_cmp nat_cmp l y ≡ Less) (map (λ e. e.0) more))
    → Rises (match_ordering o ((k, v) ∷ (l, w) ∷ es) ((l, v) ∷ es) ((l, w) ∷ more))
unfolding IsStrictlySortedBy
rises_at Less k l v w es more is rises later below =
    let then = λ (y : List ℕ) (less : slice_cmp nat_cmp l y ≡ Less). nat_list_cmp_total.trans k l y is less in
    let P = λ (m y : List ℕ). slice_cmp nat_cmp m y ≡ Less in
    ((is, all_then (P l) (P k) then (map (λ e. e.0) es) rises.0), rises)
rises_at Equal k l v w es more is rises later below = rises
rises_at Greater k l v w es more is rises later below =
    (below (nat_list_cmp_total.antisymm l k ∙ ap ordering_reverse is), later)

-- one more key above a key
keys_below : {A : Type 0} (l k : List ℕ) (v : A) (es : Entries A)
    → AllByRecursion (λ y. slice_cmp nat_cmp l y ≡ Less) (map (λ e. e.0) es) → slice_cmp nat_cmp l k ≡ Less
    → AllByRecursion (λ y. slice_cmp nat_cmp l y ≡ Less) (map (λ e. e.0) (insert_entry (slice_cmp nat_cmp) es k v))
keys_below l k v es all less =
    recursion_from_All (λ y. slice_cmp nat_cmp l y ≡ Less) (map (λ e. e.0) (insert_entry (slice_cmp nat_cmp) es k v))
    (All-keys-insert_entry (slice_cmp nat_cmp) k v (λ y. slice_cmp nat_cmp l y ≡ Less) es
    (All-from_recursion (λ y. slice_cmp nat_cmp l y ≡ Less) (map (λ e. e.0) es) all) less)

-- rising entries with one more rise
pub insert_rises : {A : Type 0} (k : List ℕ) (v : A) (es : Entries A) → Rises es
    → Rises (insert_entry (slice_cmp nat_cmp) es k v)
unfolding IsStrictlySortedBy
insert_rises k v [] rises = (tt, tt)
insert_rises k v (e ∷ es) rises =
    rises_at (slice_cmp nat_cmp k e.0) k e.0 v e.1 es (insert_entry (slice_cmp nat_cmp) es k v) refl rises
    (insert_rises k v es rises.1) (keys_below e.0 k v es rises.0)

-- entries that are put in order rise
pub by_name-Rises : {A : Type 0} (es : Entries A) → Rises (by_name es)
unfolding IsStrictlySortedBy
by_name-Rises [] = tt
by_name-Rises (e ∷ es) = insert_rises e.0 e.1 (by_name es) (by_name-Rises es)

-- whether the first is kept
keys_at : {A : Type 0} (b : Bool) (e : List ℕ × A) (more : Entries A) (keys : List (List ℕ))
    → map (λ d. d.0) more ≡ keys → map (λ d. d.0) (cond b (e ∷ more) more) ≡ cond b (e.0 ∷ keys) keys
keys_at true e more keys is = ap (λ ks. e.0 ∷ ks) is
keys_at false e more keys is = is

-- the keys of the entries that are kept
keys-filter : {A : Type 0} (p : List ℕ → Bool) (es : Entries A)
    → map (λ e. e.0) (filter (λ e. p e.0) es) ≡ filter p (map (λ e. e.0) es)
keys-filter p [] = refl
keys-filter p (e ∷ es) =
    keys_at (p e.0) e (filter (λ d. p d.0) es) (filter p (map (λ d. d.0) es)) (keys-filter p es)

-- those that a test of the keys keeps rise as well
pub filter-Rises : {A : Type 0} (p : List ℕ → Bool) (es : Entries A) → Rises es → Rises (filter (λ e. p e.0) es)
filter-Rises p es rises =
    subst (IsStrictlySortedBy (slice_cmp nat_cmp)) (sym (keys-filter p es))
    (IsStrictlySortedBy-filter (slice_cmp nat_cmp) p (map (λ e. e.0) es) rises)

-- ---- the same entries

-- a key below each key, in std's words for finite maps
below : {A : Type 0} (key : List ℕ) (es : Entries A)
    → AllByRecursion (λ y. slice_cmp nat_cmp key y ≡ Less) (map (λ e. e.0) es)
    → below_all (slice_cmp nat_cmp) key es ≡ true
below key [] all = refl
below key (e ∷ es) all = ap (λ o. is_lt o && below_all (slice_cmp nat_cmp) key es) all.0 ∙ below key es all.1

-- and rising entries
in_order : {A : Type 0} (es : Entries A) → Rises es → finite.is_sorted (slice_cmp nat_cmp) es ≡ true
unfolding IsStrictlySortedBy
in_order [] rises = refl
in_order (e ∷ es) rises =
    ap (λ b. b && finite.is_sorted (slice_cmp nat_cmp) es) (below e.0 es rises.0) ∙ in_order es rises.1

-- texts are compared either way round
bytes_eq-swap : (xs ys : List ℕ) → bytes_eq xs ys ≡ bytes_eq ys xs
bytes_eq-swap xs ys =
    same_from_decides {P = xs ≡ ys} (bytes_eq xs ys) (bytes_eq ys xs) (bytes_eq-Decides xs ys)
    (λ is. sym ((bytes_eq-Decides ys xs).0 is), λ same. (bytes_eq-Decides ys xs).1 (sym same))

-- a look-up in std's words for finite maps
find-entry_at : {A : Type 0} (key : List ℕ) (es : Entries A) → finite.find (slice_cmp nat_cmp) key es ≡ entry_at key es
find-entry_at key [] = refl
find-entry_at key (e ∷ es) =
    ap (λ b. cond b (Some e.1) (finite.find (slice_cmp nat_cmp) key es))
    (is_eq-slice_cmp key e.0 ∙ bytes_eq-swap key e.0)
    ∙ ap (λ r. cond (bytes_eq e.0 key) (Some e.1) r) (find-entry_at key es)

-- rising entries in which each key finds the same are the same
pub same_entries : {A : Type 0} (xs ys : Entries A) → Rises xs → Rises ys
    → ((key : List ℕ) → entry_at key xs ≡ entry_at key ys) → xs ≡ ys
same_entries xs ys rises up same =
    let first = subst T (sym (in_order xs rises)) tt in
    let then = subst T (sym (in_order ys up)) tt in
    let exact = finite.slice_cmp-IsAntisymmetric finite.nat_cmp-IsAntisymmetric in
    let gets = λ (key : List ℕ).
    finite.get-from_sorted (slice_cmp nat_cmp) xs key first ∙ find-entry_at key xs ∙ same key
    ∙ sym (find-entry_at key ys) ∙ sym (finite.get-from_sorted (slice_cmp nat_cmp) ys key then) in
    sym (finite.entries-from_sorted (slice_cmp nat_cmp) xs first)
    ∙ ap finite.entries (finite.same_map nat_list_cmp_total exact _ _ gets)
    ∙ finite.entries-from_sorted (slice_cmp nat_cmp) ys then
