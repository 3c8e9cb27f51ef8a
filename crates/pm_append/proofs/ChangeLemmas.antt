-- The changelog files of a batch: each holds its group's rows by key, and so the group's part of the snapshot's change.
use Rattle.std.proofs.Common.{◌≡◌, ◌≢◌, ℕ, ◌+◌, ℤ, suc, Bool, true, false, true≢false, cond, List, [], ◌∷◌, ◌++◌, length, map, filter, Option, None, Some}
use Rattle.std.proofs.Common.{Contains, refl, sym, ap, subst, ◌∙◌, arith}
use Rattle.std.specs.BTreeMap.{is_at}
use Rattle.std.specs.FinMap as finite
use Rattle.std.specs.List.{AllByRecursion, AllZip, flat_map}
use Rattle.std.specs.List.Sorted.{IsStrictlySortedBy}
use Rattle.std.specs.Map.{keys_of}
use Rattle.std.specs.Ordering.{eq_by_cmp}
use Rattle.std.proofs.lemmas.List.{length-map}
use Rattle.std.proofs.lemmas.List.Sums.{sum_by-cons}
use Rattle.pm_store.specs.Files.{Files}
use Rattle.pm_values.specs.GroupOrder.{group_cmp}
use Rattle.pm_values.specs.Names.{Naming}
use Rattle.pm_values.specs.Order.{Values}
use Rattle.pm_values.specs.declared.group.Group.{Group}
use Rattle.pm_values.specs.declared.record.Change.{Change}
use Rattle.pm_values.specs.declared.record.Stamped.{Stamped}
use Rattle.pm_options.specs.declared.kinds.Producer.{Producer}
use Rattle.pm_options.specs.declared.kinds.Producer.TheVariants as producers
use Rattle.pm_schema.specs.Again.{IsDeclared}
use Rattle.pm_schema.specs.Rules.{partition_holds}
use Rattle.pm_schema.specs.declared.schema.TableSchema.{TableSchema}
use Rattle.pm_model_history.specs.History.{Entry, append, entry_rows}
use Rattle.pm_model_history.specs.Merge.{AllFit, HistoryRow, rows_of}
use Rattle.pm_model_history.specs.Merged.{primary_of}
use Rattle.pm_model_following.specs.Following.{base_of, by_key, change}
use Rattle.pm_model_following.specs.Groups.{rows_in}
use Rattle.pm_engine.specs.Covers.{row_of}
use Rattle.pm_model_changelog.specs.Log.{Compares, PassesNothing}
use Rattle.pm_changelog.specs.Written.{HoldsLog}
use Rattle.pm_manifest.specs.declared.entry.Entry as files
use Rattle.pm_model_contents.specs.Runs.{data_path}
use Rattle.pm_model_folder.specs.Entries.{rows_in_files}
use Rattle.pm_model_folder.specs.Stored.{HasFile, HoldChanges, HoldsChange, entries_in}
use Rattle.pm_write.specs.Batch.{GroupRows, Groups, IsBatchOf, group_log, held_of}
use Rattle.pm_write.specs.Files.{IsLogWritten}
use Rattle.pm_write.specs.declared.files.NewFile.{NewFile}
use Rattle.pm_made.specs.Delta.{added_entry}
use Rattle.pm_made.proofs.ListLemmas.{filter-in, in-head, in-tail}
use Rattle.pm_made.proofs.NumberLemmas.{group-is}
use Rattle.pm_append.proofs.ByKeyLemmas.{as-many}
use Rattle.pm_append.proofs.FileLemmas.{AreLogFiles, AreOfGroups, group-ties, later-groups, less-apart, logs-of-groups, none-rows}
use Rattle.pm_append.proofs.HeldLemmas.{batch-rows, rows_of_groups}

-- what the laws of lower crates say of rows by key, and of the change of a table that passes its input on
pub record ChangeFacts : Type 0 where
  pub same : (s : TableSchema) (key : Values) (rows : List HistoryRow) → rows_of (primary_of s) key (by_key s rows) ≡ rows_of (primary_of s) key rows
  pub input : (s : TableSchema) (g : Group) (entries : List Entry) (e : Entry) → partition_holds s ≡ true → s.options.producer ≡ producers.Input
      → rows_in s g (change s (entries ++ e ∷ []) (suc (length entries))) ≡ by_key s (rows_in s g (entry_rows e))
  pub quiet : (s : TableSchema) (g : Group) (entries : List Entry) (e : Entry) (wholly : Bool) → partition_holds s ≡ true
      → AllFit s.columns (flat_map entry_rows (entries ++ e ∷ [])) → Compares s.options.producer wholly → PassesNothing g entries e wholly
      → rows_in s g (change s (entries ++ e ∷ []) (suc (length entries))) ≡ []

-- ---- how many rows by key

by-key-many : ChangeFacts → (s : TableSchema) (rows : List HistoryRow) → length (by_key s rows) ≡ length rows
by-key-many facts s rows = as-many (primary_of s) (by_key s rows) rows (λ key. facts.same s key rows)

pub no-rows : (rows : List HistoryRow) → length rows ≡ 0 → rows ≡ []
no-rows [] none = refl
no-rows (r ∷ rows) none = absurd (omega (arith, none))

none-by-key : ChangeFacts → (s : TableSchema) (rows : List HistoryRow) → rows ≡ [] → by_key s rows ≡ []
none-by-key facts s rows none = no-rows (by_key s rows) (by-key-many facts s rows ∙ ap (λ (rs : List HistoryRow). length rs) none)

-- ---- the files of one group

-- a file is of the group
abbrev is_in : Group → NewFile → Bool
is_in g x = eq_by_cmp group_cmp x.group g

abbrev files_in : Group → List NewFile → List NewFile
files_in g xs = filter (is_in g) xs

entries-of : (s : TableSchema) (g : Group) (xs : List NewFile) → entries_in g (map (added_entry s) xs) ≡ map (added_entry s) (files_in g xs)
entries-of s g [] = refl
entries-of s g (x ∷ xs) = at (is_in g x) (entries-of s g xs)
  where
    at : (t : Bool) → entries_in g (map (added_entry s) xs) ≡ map (added_entry s) (files_in g xs)
        → cond t (added_entry s x ∷ entries_in g (map (added_entry s) xs)) (entries_in g (map (added_entry s) xs))
        ≡ map (added_entry s) (cond t (x ∷ files_in g xs) (files_in g xs))
    at true rest = ap (λ (es : List files.Entry). added_entry s x ∷ es) rest
    at false rest = rest

not-in : (g : Group) (x : NewFile) → x.group ≢ g → is_in g x ≡ false
not-in g x other = at (is_in g x) refl
  where
    at : (t : Bool) → is_in g x ≡ t → t ≡ false
    at true is = absurd (other (group-is x.group g is))
    at false is = refl

-- a file before others, where it is of the group
abbrev with_file : Group → NewFile → List NewFile → Bool → List NewFile
with_file g x xs t = cond t (x ∷ files_in g xs) (files_in g xs)

none-of : (g : Group) (xs : List NewFile) → ((x : NewFile) → Contains xs x → x.group ≢ g) → files_in g xs ≡ []
none-of g [] other = refl
none-of g (x ∷ xs) other =
    ap (with_file g x xs) (not-in g x (other x (in-head x xs))) ∙ none-of g xs (λ y h. other y (in-tail x xs y h))

-- what a group's files are: the one of its log, where the batch has the group, else none
abbrev IsOnlyFile : TableSchema → List HistoryRow → Group → Option GroupRows → List NewFile → Type 0
IsOnlyFile s rows g None xs = xs ≡ []
IsOnlyFile s rows g (Some r) xs = (x : NewFile) × (xs ≡ x ∷ []) × IsLogWritten s rows g x

abbrev AreWrittenLogs : TableSchema → List HistoryRow → Groups → List NewFile → Type 0
AreWrittenLogs s rows batch xs = AllZip (λ (e : Group × GroupRows) (x : NewFile). IsLogWritten s rows e.0 x) batch xs

only-file : (s : TableSchema) (rows : List HistoryRow) (g : Group) (batch : Groups) (xs : List NewFile) → AreOfGroups batch xs
    → AreWrittenLogs s rows batch xs → IsStrictlySortedBy group_cmp (keys_of batch) → IsOnlyFile s rows g (held_of g batch) (files_in g xs)
unfolding IsStrictlySortedBy
only-file s rows g [] [] own each ordered = refl
only-file s rows g [] (x ∷ xs) own each ordered = absurd own
only-file s rows g (e ∷ es) [] own each ordered = absurd own
only-file s rows g (e ∷ es) (x ∷ xs) own each ordered =
    at (only-file s rows g es xs own.1 each.1 ordered.1) (is_at (group_cmp g) e.0) refl
  where
    later : (y : NewFile) → Contains xs y → y.group ≢ e.0
    later y h same = less-apart e.0 y.group (later-groups e.0 es xs y own.1 ordered.0 h) (sym same)

    at : IsOnlyFile s rows g (held_of g es) (files_in g xs) → (t : Bool) → is_at (group_cmp g) e.0 ≡ t
        → IsOnlyFile s rows g (cond t (Some e.1) (held_of g es)) (with_file g x xs (is_in g x))
    at rest true is =
        let same : g ≡ e.0 = group-is g e.0 is in
        let none : files_in g xs ≡ [] = none-of g xs (λ y h of_g. later y h (of_g ∙ same)) in (
          x,
          ap (with_file g x xs) (group-ties x.group g (own.0 ∙ sym same)) ∙ ap (λ (more : List NewFile). x ∷ more) none,
          subst (λ (k : Group). IsLogWritten s rows k x) (sym same) each.0,
        )
    at rest false is =
        let other : is_in g x ≡ false = not-in g x (λ of_g. true≢false (sym (group-ties g e.0 (sym of_g ∙ own.0)) ∙ is)) in
        subst (IsOnlyFile s rows g (held_of g es)) (sym (ap (with_file g x xs) other)) rest

-- ---- the change of a group

-- the file of a log is there, and of its rows its entry tells
log-there : (f : Files) (s : TableSchema) (g : Group) (rows : List HistoryRow) (x : NewFile) → finite.get f (data_path s g x.meta.name) ≡ Some x.bytes
    → (holds : HoldsLog s rows (record { meta = x.meta; bytes = x.bytes })) → HasFile f s true g x.meta holds.stored
log-there f s g rows x there holds = record {
  bytes = x.bytes;
  there = there;
  schema = holds.tells.schema;
  read = holds.read;
  tells = record {
    count = holds.tells.count;
    least = holds.tells.least;
    greatest = holds.tells.greatest;
    lowest = holds.tells.lowest;
    highest = holds.tells.highest;
  };
}

-- the new changelog files are of the groups of a batch, and each is there
pub record AreLogs (f : Files) (s : TableSchema) (rows : List HistoryRow) (batch : Groups) (xs : List NewFile) : Type 0 where
  pub names : Naming
  pub is_batch : IsBatchOf s rows batch
  pub new : AreLogFiles s names batch xs
  pub written : AllZip (λ (e : Group × GroupRows) (x : NewFile). IsLogWritten s rows e.0 x) batch xs
  pub place : (x : NewFile) → Contains xs x → finite.get f (data_path s x.group x.meta.name) ≡ Some x.bytes

module _ (facts : ChangeFacts) (f : Files) (s : TableSchema) (rows : List HistoryRow) (batch : Groups) (xs : List NewFile) (all : AreLogs f s rows batch xs) where
  -- each changelog file is there
  each-there : (es : Groups) (ys : List NewFile) → AreWrittenLogs s rows es ys
      → ((x : NewFile) → Contains ys x → finite.get f (data_path s x.group x.meta.name) ≡ Some x.bytes)
      → AllByRecursion (λ (e : files.Entry). (stored : List Stamped) × HasFile f s true e.group e.file stored) (map (added_entry s) ys)
  each-there [] [] each place = tt
  each-there [] (y ∷ ys) each place = absurd each
  each-there (e ∷ es) [] each place = tt
  each-there (e ∷ es) (y ∷ ys) each place = (
    (each.0.holds.stored, log-there f s y.group (by_key s (rows_in s e.0 rows)) y (place y (in-head y ys)) each.0.holds),
    each-there es ys each.1 (λ z h. place z (in-tail y ys z h)),
  )

  -- a group's files hold its rows by key
  group-holds : (g : Group) → HoldChanges f s g (entries_in g (map (added_entry s) xs)) (by_key s (rows_in s g rows))
  group-holds g = at (held_of g batch) refl (only-file s rows g batch xs (logs-of-groups s all.names batch xs all.new) all.written all.is_batch.ordered)
    where
      place-of : (x : NewFile) → files_in g xs ≡ x ∷ [] → x.group ≡ g → finite.get f (data_path s g x.meta.name) ≡ Some x.bytes
      place-of x is of_g =
          subst (λ (h : Group). finite.get f (data_path s h x.meta.name) ≡ Some x.bytes) of_g
          (all.place x (filter-in (is_in g) xs x (subst (λ (ys : List NewFile). Contains ys x) (sym is) (in-head x []))).0)

      at : (o : Option GroupRows) → held_of g batch ≡ o → IsOnlyFile s rows g o (files_in g xs) → HoldChanges f s g (entries_in g (map (added_entry s) xs)) (by_key s (rows_in s g rows))
      at None found none =
          subst (λ (es : List files.Entry). HoldChanges f s g es (by_key s (rows_in s g rows))) (sym (entries-of s g xs ∙ ap (map (added_entry s)) none))
          (none-by-key facts s (rows_in s g rows) (none-rows s rows batch g all.is_batch found))
      at (Some r) found (x, is, written) =
          subst (λ (es : List files.Entry). HoldChanges f s g es (by_key s (rows_in s g rows))) (sym (entries-of s g xs ∙ ap (map (added_entry s)) is))
          (written.holds.stored, log-there f s g (by_key s (rows_in s g rows)) x (place-of x is written.own) written.holds, written.holds.same)

  -- so they hold the change of the snapshot that appends these rows
  pub holds-input : (entries : List Entry) (user : List ℕ) (identifier : ℤ) → IsDeclared s → s.options.producer ≡ producers.Input
      → HoldsChange f s (entries ++ append user identifier rows ∷ []) (suc (length entries)) (map (added_entry s) xs)
  holds-input entries user identifier declared input = record {
    each = each-there batch xs all.written all.place;
    change = λ some g. subst (HoldChanges f s g (entries_in g (map (added_entry s) xs)))
        (sym (facts.input s g entries (append user identifier rows) declared.rules.1.1.1.0 input)) (group-holds g);
  }

-- with the producers that compare an append tells nothing
no-base : (g : Group) (entries : List Entry) (e : Entry) (wholly : Bool) → base_of wholly g e ≡ None → PassesNothing g entries e wholly
no-base g entries e wholly none = λ base some. absurd (let no : None ≡ Some base = sym none ∙ some in cc)

module _ (facts : ChangeFacts) (f : Files) (s : TableSchema) (entries : List Entry) (user : List ℕ) (identifier : ℤ) (rows : List HistoryRow) (declared : IsDeclared s)
    (fit : AllFit s.columns (flat_map entry_rows (entries ++ append user identifier rows ∷ []))) (other : s.options.producer ≢ producers.Input) where
  abbrev e : Entry
  e = append user identifier rows

  holds : partition_holds s ≡ true
  holds = declared.rules.1.1.1.0

  none-told : s.options.producer ≢ producers.None → (g : Group) → rows_in s g (change s (entries ++ e ∷ []) (suc (length entries))) ≡ []
  none-told some g = at s.options.producer refl
    where
      at : (q : Producer) → s.options.producer ≡ q → rows_in s g (change s (entries ++ e ∷ []) (suc (length entries))) ≡ []
      at producers.None is = absurd (some is)
      at producers.Input is = absurd (other is)
      at producers.Lookup is =
          facts.quiet s g entries e false holds fit (subst (λ (q : Producer). Compares q false) (sym is) refl) (no-base g entries e false refl)
      at producers.FullCompaction is =
          facts.quiet s g entries e true holds fit (subst (λ (q : Producer). Compares q true) (sym is) refl) (no-base g entries e true refl)

  pub holds-none : HoldsChange f s (entries ++ e ∷ []) (suc (length entries)) []
  holds-none = record { each = tt; change = none-told }

-- ---- how many rows they tell

module _ (facts : ChangeFacts) (s : TableSchema) (rows : List HistoryRow) (batch : Groups) (is : IsBatchOf s rows batch) where
  file-many : (g : Group) (x : NewFile) → IsLogWritten s rows g x → x.meta.rows ≡ length (rows_in s g rows)
  file-many g x written =
      written.holds.tells.count ∙ sym (length-map written.holds.stored row_of) ∙ ap (λ (own : List HistoryRow). length own) written.holds.same
      ∙ by-key-many facts s (rows_in s g rows)

  by-groups : (held : Groups) (xs : List NewFile) → AreWrittenLogs s rows held xs → rows_in_files (map (added_entry s) xs) ≡ rows_of_groups s rows held
  by-groups [] [] each = refl
  by-groups [] (x ∷ xs) each = absurd each
  by-groups (d ∷ es) [] each = absurd each
  by-groups (d ∷ es) (x ∷ xs) each =
      let many = file-many d.0 x each.0 in
      let rest = by-groups es xs each.1 in
      let sum : rows_in_files (map (added_entry s) (x ∷ xs)) ≡ x.meta.rows + rows_in_files (map (added_entry s) xs) =
      sum_by-cons (λ (z : files.Entry). z.file.rows) (added_entry s x) (map (added_entry s) xs) in
      omega (arith, sum, many, rest)

  -- each row is told once
  pub told-once : (xs : List NewFile) → AreWrittenLogs s rows batch xs → rows_in_files (map (added_entry s) xs) ≡ length rows
  told-once xs each = by-groups batch xs each ∙ batch-rows s rows batch is

-- ---- what is written of the logs

pub written-logs : (s : TableSchema) (rows : List HistoryRow) (es : Groups) (xs : List NewFile)
    → AllZip (λ (p : Group × List Change) (x : NewFile). IsLogWritten s rows p.0 x) (map group_log es) xs
    → AllZip (λ (e : Group × GroupRows) (x : NewFile). IsLogWritten s rows e.0 x) es xs
written-logs s rows [] [] each = tt
written-logs s rows [] (x ∷ xs) each = absurd each
written-logs s rows (e ∷ es) [] each = absurd each
written-logs s rows (e ∷ es) (x ∷ xs) each = (each.0, written-logs s rows es xs each.1)

-- a batch without groups has none
pub none-logged : (s : TableSchema) (names : Naming) (batch : Groups) (xs : List NewFile) → AreLogFiles s names batch xs → batch ≡ [] → xs ≡ []
none-logged s names [] [] new none = refl
none-logged s names [] (x ∷ xs) new none = absurd new
none-logged s names (e ∷ es) xs new none = let no : e ∷ es ≡ [] = none in cc
