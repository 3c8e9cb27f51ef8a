-- The rows of a group that a batch holds: the keys of what they become, and how many there are.
use Rattle.std.proofs.Common.{◌≡◌, ◌≢◌, ℕ, ◌+◌, ◌≤◌, Bool, true, false, cond, List, [], ◌∷◌, length, None, Some, Contains}
use Rattle.std.proofs.Common.{refl, sym, ◌∙◌, subst, append-nil, arith}
use Rattle.std.specs.List.{AllByRecursion, AllZip, flat_map}
use Rattle.std.specs.List.Sorted.{IsStrictlySortedBy}
use Rattle.std.specs.Map.{keys_of as groups_of}
use Rattle.std.specs.Ordering.{eq_by_cmp}
use Rattle.std.specs.declared.cmp.Ordering.TheVariants.{Less}
use Rattle.pm_values.specs.Fits.{Fits}
use Rattle.pm_values.specs.GroupOrder.{group_cmp}
use Rattle.pm_values.specs.Order.{Values, key_cmp}
use Rattle.pm_values.specs.declared.group.Group.{Group}
use Rattle.pm_values.specs.declared.record.Change.{Change}
use Rattle.pm_values.specs.declared.record.Stamped.{Stamped}
use Rattle.pm_schema.specs.declared.schema.TableSchema.{TableSchema}
use Rattle.pm_model_history.specs.Merge.{AllFit, HistoryRow, key_of, rows_of}
use Rattle.pm_model_history.specs.Merged.{primary_of}
use Rattle.pm_engine.specs.Covers.{CoversAll, Holds, Run, of_key, row_of}
use Rattle.pm_engine.specs.Meaning.{Meaning}
use Rattle.pm_engine.specs.OfSchema.{meaning_of}
use Rattle.pm_engine.proofs.Rising.{tied, ties_itself}
use Rattle.pm_model_following.specs.Following.{by_key}
use Rattle.pm_model_following.specs.Groups.{group_of, rows_in}
use Rattle.pm_changelog.specs.GroupLog.{IsGroupLog, stamped_from}
use Rattle.pm_run.specs.Order.{keys_of}
use Rattle.pm_run.specs.Writing.{HasOwnKey}
use Rattle.pm_write.specs.Batch.{AreRowsOf, GroupRows, Groups, HoldsRows, IsBatchOf, held_of, numbered}
use Rattle.pm_made.proofs.KeyLemmas.{HasRowOf}
use Rattle.pm_made.proofs.ListLemmas.{each-of, filter-in, in-filter, in-head, in-tail, map-in, none-in}
use Rattle.pm_made.proofs.NumberLemmas.{group-is}
use Rattle.pm_append.proofs.FileLemmas.{group-ties, less-apart, none-rows}

-- ---- what is held

-- what is held of a group are its rows, and there are some
pub rows-held : (s : TableSchema) (rows : List HistoryRow) (x : GroupRows) → HoldsRows s rows (Some x)
    → (rows ≢ []) × AreRowsOf s rows x
rows-held s [] x held = let no : Some x ≡ None = held in cc
rows-held s (row ∷ rows) x held = (λ none. let no : row ∷ rows ≡ [] = none in cc, held)

pub own-held : (s : TableSchema) (rows : List HistoryRow) (batch : Groups) (e : Group × GroupRows) → IsBatchOf s rows batch
    → held_of e.0 batch ≡ Some e.1 → HoldsRows s (rows_in s e.0 rows) (Some e.1)
own-held s rows batch e is held = subst (HoldsRows s (rows_in s e.0 rows)) held (is.held e.0)

-- each row's group is held
group-held : (s : TableSchema) (rows : List HistoryRow) (batch : Groups) → IsBatchOf s rows batch → (r : HistoryRow)
    → Contains rows r → held_of (group_of s r.1) batch ≢ None
group-held s rows batch is r h none =
    none-in r (subst (λ (own : List HistoryRow). Contains own r) (none-rows s rows batch (group_of s r.1) is none)
    (in-filter (λ (x : HistoryRow). eq_by_cmp group_cmp (group_of s x.1) (group_of s r.1)) rows r h
    (group-ties (group_of s r.1) (group_of s r.1) refl)))

-- ---- keys

-- what speaks for a part speaks for some rows
some-part : (m : Meaning) (key : Values) (own : Run) (part : List HistoryRow) → own ≢ [] → Holds m key own part → part ≢ []
some-part m key [] part some holds = absurd (some refl)
some-part m key (x ∷ []) part some speaks = speaks.some
some-part m key (x ∷ y ∷ own) part some holds = absurd holds

-- rows that a run covers have each of its keys
pub some-covered : (m : Meaning) (key : Values) (run : Run) (rows : List HistoryRow) → CoversAll m (run ∷ []) rows
    → of_key key run ≢ [] → rows_of m.primary key rows ≢ []
some-covered m key run rows covers held = at (covers key).parts (covers key).split (covers key).holds
  where
    at : (parts : List (List HistoryRow)) → rows_of m.primary key rows ≡ flat_map (λ (part : List HistoryRow). part) parts
        → AllZip (λ (run : Run) (part : List HistoryRow). Holds m key (of_key key run) part) (run ∷ []) parts
        → rows_of m.primary key rows ≢ []
    at [] split none = absurd none
    at (part ∷ []) split (one, none) =
        λ empty. some-part m key (of_key key run) part held one (sym (append-nil part) ∙ sym split ∙ empty)
    at (part ∷ other ∷ parts) split (one, more) = absurd more

-- a row of the key, where there are some
key-row : (primary : List ℕ) (key : Values) (rows : List HistoryRow) → rows_of primary key rows ≢ []
    → (r : HistoryRow) × Contains rows r × (key_of primary r.1 ≡ key)
key-row primary key [] some = absurd (some refl)
key-row primary key (r ∷ rows) some =
    at (λ more. key-row primary key rows more) (eq_by_cmp key_cmp key (key_of primary r.1)) refl some
  where
    at : (rows_of primary key rows ≢ [] → (q : HistoryRow) × Contains rows q × (key_of primary q.1 ≡ key)) → (t : Bool)
        → eq_by_cmp key_cmp key (key_of primary r.1) ≡ t
        → cond t (r ∷ rows_of primary key rows) (rows_of primary key rows) ≢ []
        → (q : HistoryRow) × Contains (r ∷ rows) q × (key_of primary q.1 ≡ key)
    at later true is some = (r, in-head r rows, sym (tied key (key_of primary r.1) is))
    at later false is some = let found = later some in (found.0, in-tail r rows found.0 found.1, found.2)

all-keys : (P : Values → Type 0) (rows : List Stamped) → ((x : Stamped) → Contains rows x → P x.key)
    → AllByRecursion P (keys_of rows)
all-keys P [] each = tt
all-keys P (x ∷ rows) each = (each x (in-head x rows), all-keys P rows (λ y h. each y (in-tail x rows y h)))

numbered-keys : (P : Values → Type 0) (n : ℕ) (run : Run) → ((x : Stamped) → Contains run x → P x.key)
    → AllByRecursion P (keys_of (numbered n run))
numbered-keys P n [] each = tt
numbered-keys P n (x ∷ run) each =
    (each x (in-head x run), numbered-keys P n run (λ y h. each y (in-tail x run y h)))

module _ (s : TableSchema) (g : Group) (rows : List HistoryRow) (fit : AllFit s.columns rows) where
  -- a key of the group's rows is that of a row of the group
  own-key : (key : Values) → rows_of (primary_of s) key (rows_in s g rows) ≢ [] → HasRowOf s g key
  own-key key some =
      let found = key-row (primary_of s) key (rows_in s g rows) some in
      let r : HistoryRow = found.0 in
      let among = filter-in (λ (x : HistoryRow). eq_by_cmp group_cmp (group_of s x.1) g) rows r found.1 in record {
        row = r.1;
        fits = each-of (λ (x : HistoryRow). Fits s.columns x.1) rows r fit among.0;
        group = group-is (group_of s r.1) g among.1;
        own = found.2;
      }

  key-in : (run : Run) (x : Stamped) → Contains run x → of_key x.key run ≢ []
  key-in run x h none =
      none-in x (subst (λ (own : Run). Contains own x) none
      (in-filter (λ (y : Stamped). eq_by_cmp key_cmp x.key y.key) run x h (ties_itself x.key)))

  -- such are the keys of a run that covers the group's rows
  pub run-keys : (n : ℕ) (run : Run) → CoversAll (meaning_of s) (run ∷ []) (rows_in s g rows)
      → AllByRecursion (HasRowOf s g) (keys_of (numbered n run))
  run-keys n run covers =
      numbered-keys (HasRowOf s g) n run
      (λ x h. own-key x.key (some-covered (meaning_of s) x.key run (rows_in s g rows) covers (key-in run x h)))

  -- and those of a log that tells the group's rows by key
  pub log-keys : ((key : Values) → rows_of (primary_of s) key (by_key s (rows_in s g rows)) ≡ rows_of (primary_of s) key (rows_in s g rows))
      → (log : List Change) → IsGroupLog s (by_key s (rows_in s g rows)) log
      → AllByRecursion (HasRowOf s g) (keys_of (stamped_from 0 log))
  log-keys same log is = all-keys (HasRowOf s g) (stamped_from 0 log) each
    where
      each : (x : Stamped) → Contains (stamped_from 0 log) x → HasRowOf s g x.key
      each x h =
          let told : Contains (by_key s (rows_in s g rows)) (row_of x) =
          subst (λ (all : List HistoryRow). Contains all (row_of x)) is.told (map-in row_of (stamped_from 0 log) x h) in
          let own : x.key ≡ key_of (primary_of s) x.row = (each-of (HasOwnKey s) (stamped_from 0 log) x is.own h).own in
          let ties : eq_by_cmp key_cmp x.key (key_of (primary_of s) x.row) ≡ true =
          subst (λ (k : Values). eq_by_cmp key_cmp x.key k ≡ true) own (ties_itself x.key) in
          let of_own : Contains (rows_of (primary_of s) x.key (by_key s (rows_in s g rows))) (row_of x) =
          in-filter (λ (y : HistoryRow). eq_by_cmp key_cmp x.key (key_of (primary_of s) y.1)) (by_key s (rows_in s g rows))
          (row_of x) told ties in
          own-key x.key (λ none. none-in (row_of x)
          (subst (λ (all : List HistoryRow). Contains all (row_of x)) (same x.key ∙ none) of_own))

-- ---- how many rows groups have

-- the rows of these groups
abbrev pub rows_of_groups : TableSchema → List HistoryRow → Groups → ℕ
rows_of_groups s rows [] = 0
rows_of_groups s rows (e ∷ es) = length (rows_in s e.0 rows) + rows_of_groups s rows es

-- how many of these groups a row is of
abbrev hits : TableSchema → HistoryRow → Groups → ℕ
hits s r [] = 0
hits s r (e ∷ es) = cond (eq_by_cmp group_cmp (group_of s r.1) e.0) 1 0 + hits s r es

one-more : (s : TableSchema) (r : HistoryRow) (rows : List HistoryRow) (es : Groups)
    → rows_of_groups s (r ∷ rows) es ≡ hits s r es + rows_of_groups s rows es
one-more s r rows [] = refl
one-more s r rows (e ∷ es) = at (eq_by_cmp group_cmp (group_of s r.1) e.0) (one-more s r rows es)
  where
    at : (t : Bool) → rows_of_groups s (r ∷ rows) es ≡ hits s r es + rows_of_groups s rows es
        → length (cond t (r ∷ rows_in s e.0 rows) (rows_in s e.0 rows)) + rows_of_groups s (r ∷ rows) es
        ≡ (cond t 1 0 + hits s r es) + (length (rows_in s e.0 rows) + rows_of_groups s rows es)
    at true rest = omega (arith, rest)
    at false rest = omega (arith, rest)

-- a row of a group below these is of none of them
none-hit : (s : TableSchema) (r : HistoryRow) (g : Group) (es : Groups) → group_of s r.1 ≡ g
    → AllByRecursion (λ (k : Group). group_cmp g k ≡ Less) (groups_of es) → hits s r es ≡ 0
none-hit s r g [] of_g above = refl
none-hit s r g (e ∷ es) of_g above =
    at (eq_by_cmp group_cmp (group_of s r.1) e.0) refl (none-hit s r g es of_g above.1)
  where
    at : (t : Bool) → eq_by_cmp group_cmp (group_of s r.1) e.0 ≡ t → hits s r es ≡ 0 → cond t 1 0 + hits s r es ≡ 0
    at true is rest = absurd (less-apart g e.0 above.0 (sym of_g ∙ group-is (group_of s r.1) e.0 is))
    at false is rest = omega (arith, rest)

-- and of groups that rise it is of one at most
one-hit : (s : TableSchema) (r : HistoryRow) (es : Groups) → IsStrictlySortedBy group_cmp (groups_of es) → hits s r es ≤ 1
unfolding IsStrictlySortedBy
one-hit s r [] ordered = omega arith
one-hit s r (e ∷ es) ordered = at (eq_by_cmp group_cmp (group_of s r.1) e.0) refl (one-hit s r es ordered.1)
  where
    at : (t : Bool) → eq_by_cmp group_cmp (group_of s r.1) e.0 ≡ t → hits s r es ≤ 1 → cond t 1 0 + hits s r es ≤ 1
    at true is rest =
        let none = none-hit s r e.0 es (group-is (group_of s r.1) e.0 is) ordered.0 in omega (arith, none)
    at false is rest = omega (arith, rest)

-- of one, where its group is held
some-hit : (s : TableSchema) (r : HistoryRow) (es : Groups) → held_of (group_of s r.1) es ≢ None → 1 ≤ hits s r es
some-hit s r [] some = absurd (some refl)
some-hit s r (e ∷ es) some =
    at (eq_by_cmp group_cmp (group_of s r.1) e.0) (λ later. some-hit s r es later) some
  where
    at : (t : Bool) → (held_of (group_of s r.1) es ≢ None → 1 ≤ hits s r es)
        → cond t (Some e.1) (held_of (group_of s r.1) es) ≢ None → 1 ≤ cond t 1 0 + hits s r es
    at true rest some = omega arith
    at false rest some = let more = rest some in omega (arith, more)

no-rows-of : (s : TableSchema) (es : Groups) → rows_of_groups s [] es ≡ 0
no-rows-of s [] = refl
no-rows-of s (e ∷ es) = let rest = no-rows-of s es in omega (arith, rest)

-- groups that rise have at most all rows
pub groups-few : (s : TableSchema) (es : Groups) (rows : List HistoryRow) → IsStrictlySortedBy group_cmp (groups_of es)
    → rows_of_groups s rows es ≤ length rows
groups-few s es [] ordered = let none = no-rows-of s es in omega (arith, none)
groups-few s es (r ∷ rows) ordered =
    let more = one-more s r rows es in
    let one = one-hit s r es ordered in
    let rest = groups-few s es rows ordered in
    omega (arith, more, one, rest)

each-once : (s : TableSchema) (es : Groups) (rows : List HistoryRow) → IsStrictlySortedBy group_cmp (groups_of es)
    → ((r : HistoryRow) → Contains rows r → held_of (group_of s r.1) es ≢ None) → rows_of_groups s rows es ≡ length rows
each-once s es [] ordered held = no-rows-of s es
each-once s es (r ∷ rows) ordered held =
    let more = one-more s r rows es in
    let one = one-hit s r es ordered in
    let some = some-hit s r es (held r (in-head r rows)) in
    let rest = each-once s es rows ordered (λ q h. held q (in-tail r rows q h)) in
    omega (arith, more, one, some, rest)

-- those of a batch have all of them
pub batch-rows : (s : TableSchema) (rows : List HistoryRow) (batch : Groups) → IsBatchOf s rows batch
    → rows_of_groups s rows batch ≡ length rows
batch-rows s rows batch is = each-once s batch rows is.ordered (group-held s rows batch is)
