-- The rows that runs cover, key by key.
use Rattle.std.proofs.Common.{◌≡◌, ◌≢◌, Bool, true, false, not, List, [], ◌∷◌, map, filter, reverse, inl, inr, Contains, refl, sym, subst}
use Rattle.std.specs.Cmp.{Equal-is}
use Rattle.std.specs.List.{AllZip, flat_map}
use Rattle.std.specs.Ordering.{eq_by_cmp}
use Rattle.std.proofs.lemmas.List.Elements.{Contains-append_right}
use Rattle.std.proofs.lemmas.List.Sorted.{Contains-permutation, IsPermutation-reverse, IsPermutation-sym}
use Rattle.pm_values.specs.GroupOrder.{group_cmp}
use Rattle.pm_values.specs.Order.{Values, key_cmp}
use Rattle.pm_values.specs.declared.group.Group.{Group}
use Rattle.pm_values.specs.declared.record.Stamped.{Stamped}
use Rattle.pm_values.proofs.Lemmas.{group_cmp-ties, key_cmp-ties}
use Rattle.pm_model_history.specs.Merge.{HistoryRow, key_of, rows_of}
use Rattle.pm_schema.specs.declared.schema.TableSchema.{TableSchema}
use Rattle.pm_model_following.specs.Groups.{group_of, rows_in}
use Rattle.pm_engine.specs.Covers.{Covers, Holds, Run, of_key, row_of}
use Rattle.pm_engine.specs.Meaning.{IsTaken, Meaning}
use Rattle.pm_runs.specs.Stand.{StoredRun, oldest_first}
use Rattle.pm_runs.specs.Succession.{KnownRun, from_oldest, without_files}
use Rattle.pm_compact.specs.Rewritten.{kept_rows}
use Rattle.pm_paths.proofs.ListLemmas.{cases, here, more, nowhere}
use Rattle.pm_made.proofs.ListLemmas.{filter-in, in-filter, in-map, map-in}
use Rattle.pm_compaction.proofs.ListLemmas.{flat-in}

-- ---- the rows of a key

key-tie : (a b : Values) → eq_by_cmp key_cmp a b ≡ true → a ≡ b
key-tie a b is = (key_cmp-ties a b).0 ((Equal-is (key_cmp a b)).0 is)

key-own : (a : Values) → eq_by_cmp key_cmp a a ≡ true
key-own a = (Equal-is (key_cmp a a)).1 ((key_cmp-ties a a).1 refl)

pub some-of-key : (key : Values) (run : Run) → of_key key run ≢ [] → (x : Stamped) × Contains run x × (x.key ≡ key)
some-of-key key run some = at (of_key key run) refl some
  where
    at : (own : Run) → of_key key run ≡ own → own ≢ [] → (x : Stamped) × Contains run x × (x.key ≡ key)
    at [] is some = absurd (some refl)
    at (x ∷ own) is some =
        let found = filter-in (λ (s : Stamped). eq_by_cmp key_cmp key s.key) run x (subst (λ (o : Run). Contains o x) (sym is) (here x own)) in
        (x, found.0, sym (key-tie key x.key found.1))

pub has-key : (key : Values) (run : Run) (x : Stamped) → Contains run x → x.key ≡ key → of_key key run ≢ []
has-key key run x h is none = nowhere x (subst (λ (o : Run). Contains o x) none
    (in-filter (λ (s : Stamped). eq_by_cmp key_cmp key s.key) run x h (subst (λ (k : Values). eq_by_cmp key_cmp k x.key ≡ true) is (key-own x.key))))

-- the rows that are kept of a run are rows of it
pub kept-in : (m : Meaning) (drop : Bool) (run : Run) (x : Stamped) → Contains (kept_rows m drop run) x → Contains run x
kept-in m true run x h = (filter-in (λ (s : Stamped). not (m.drops (row_of s))) run x h).0
kept-in m false run x h = h

-- ---- the rows that are covered

module _ {A B : Type 0} (R : A → B → Type 0) where
  zip-in : (xs : List A) (ys : List B) (x : A) → AllZip R xs ys → Contains xs x → (y : B) × Contains ys y × R x y
  zip-in [] ys x all h = absurd (nowhere x h)
  zip-in (z ∷ xs) [] x all h = absurd all
  zip-in (z ∷ xs) (y ∷ ys) x all h = elim (cases z xs x h) as (λ _. (w : B) × Contains (y ∷ ys) w × R x w) [
    | inl is ↦ (y, here y ys, subst (λ (v : A). R v y) is all.0)
    | inr later ↦ (let rest = zip-in xs ys x all.1 later in (rest.0, more y ys rest.0 rest.1, rest.2))
  ]

holds-row : (m : Meaning) (key : Values) (own : Run) (part : List HistoryRow) → Holds m key own part → own ≢ [] → (r : HistoryRow) × Contains part r × IsTaken m key r
holds-row m key [] part holds some = absurd (some refl)
holds-row m key (x ∷ []) [] speaks some = absurd (speaks.some refl)
holds-row m key (x ∷ []) (r ∷ part) speaks some = (r, here r part, speaks.all_taken.0)
holds-row m key (x ∷ y ∷ own) part none some = absurd none

-- a key that one of the runs has is that of a row which they cover
pub covered-row : (m : Meaning) (runs : List Run) (rows : List HistoryRow) (run : Run) (key : Values) → Covers m runs rows → Contains runs run → of_key key run ≢ []
    → (r : HistoryRow) × Contains rows r × IsTaken m key r
covered-row m runs rows run key covers h some =
    let (missing, may, c) = covers key in
    let (part, there, holds) = zip-in (λ (run : Run) (part : List HistoryRow). Holds m key (of_key key run) part) runs c.parts run c.holds h in
    let (r, own, taken) = holds-row m key (of_key key run) part holds some in
    let all : Contains (rows_of m.primary key rows) r = subst (λ (rs : List HistoryRow). Contains rs r) (sym c.split)
    (Contains-append_right missing (flat_map (λ (p : List HistoryRow). p) c.parts) r (flat-in (λ (p : List HistoryRow). p) c.parts part r there own)) in
    (r, (filter-in (λ (r : HistoryRow). eq_by_cmp key_cmp key (key_of m.primary r.1)) rows r all).0, taken)

pub of-group : (s : TableSchema) (g : Group) (rows : List HistoryRow) (r : HistoryRow) → Contains (rows_in s g rows) r → group_of s r.1 ≡ g
of-group s g rows r h =
    let found = filter-in (λ (r : HistoryRow). eq_by_cmp group_cmp (group_of s r.1) g) rows r h in
    (group_cmp-ties (group_of s r.1) g).0 ((Equal-is (group_cmp (group_of s r.1) g)).0 found.1)

-- ---- the rows of runs that are known

pub run-there : (runs : List KnownRun) (r : KnownRun) → Contains runs r → Contains (oldest_first (λ level. true) (map without_files runs)) r.rows
run-there runs r h =
    let such = filter (λ (r : StoredRun). true) (map without_files runs) in
    let rows = map (λ (r : StoredRun). r.rows) such in
    Contains-permutation rows (reverse rows) r.rows (IsPermutation-reverse rows) (map-in (λ (r : StoredRun). r.rows) such (without_files r)
    (in-filter (λ (r : StoredRun). true) (map without_files runs) (without_files r) (map-in without_files runs r h) refl))

pub from-taken : (taken : List KnownRun) (run : Run) → Contains (from_oldest taken) run → (r : KnownRun) × Contains taken r × (r.rows ≡ run)
from-taken taken run h =
    let rows = map (λ (r : KnownRun). r.rows) taken in
    in-map (λ (r : KnownRun). r.rows) taken run
    (Contains-permutation (from_oldest taken) rows run (IsPermutation-sym rows (reverse rows) (IsPermutation-reverse rows)) h)
