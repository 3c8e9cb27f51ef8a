-- The entries that add the new files of a batch are entries that a manifest can have.
use Rattle.std.proofs.Common.{◌≡◌, ℕ, ◌<◌, List, [], ◌∷◌, map}
use Rattle.std.proofs.Common.{Option, Some, None}
use Rattle.std.proofs.Common.{refl, sym, subst}
use Rattle.std.specs.BTreeMap.{BTreeMap}
use Rattle.std.specs.List.{AllByRecursion, last_or}
use Rattle.pm_values.specs.Names.{Naming, counted, name_of}
use Rattle.pm_values.specs.Order.{Values}
use Rattle.pm_values.specs.declared.group.Group.{Group}
use Rattle.pm_values.specs.declared.record.Stamped.{Stamped}
use Rattle.pm_schema.specs.Again.{IsDeclared}
use Rattle.pm_schema.specs.declared.schema.TableSchema.{TableSchema}
use Rattle.pm_model_history.specs.Merge.{AllFit, HistoryRow, rows_of}
use Rattle.pm_model_history.specs.Merged.{primary_of}
use Rattle.pm_model_following.specs.Following.{by_key}
use Rattle.pm_model_following.specs.Groups.{rows_in}
use Rattle.pm_changelog.specs.GroupLog.{IsGroupLog, stamped_from}
use Rattle.pm_manifest.specs.Entries.{IsEntry, IsWithin}
use Rattle.pm_manifest.specs.Shape.{shape_of}
use Rattle.pm_run.specs.Order.{keys_of}
use Rattle.pm_run.specs.Writing.{IsMetaOf, changes_prefix, data_prefix, first_key, suffix}
use Rattle.pm_options.specs.declared.kinds.Producer.{Producer}
use Rattle.pm_options.specs.declared.kinds.Producer.TheVariants as producers
use Rattle.pm_write.specs.Batch.{GroupRows, Groups, HoldsRows, IsBatchOf, KeepsLog, held_of, numbered}
use Rattle.pm_write.specs.Files.{IsNewChanges, IsNewFile, next_of}
use Rattle.pm_write.specs.declared.files.NewFile.{NewFile}
use Rattle.pm_made.specs.Delta.{added_entry}
use Rattle.pm_made.proofs.KeyLemmas.{HasRowOf, file-can-be, partition-can-be}
use Rattle.pm_append.proofs.FileLemmas.{AreDataFiles, AreLogFiles}
use Rattle.pm_append.proofs.HeldLemmas.{log-keys, own-held, rows-held, run-keys}

-- ---- the keys of a file

some-is : (a b : Values) → Some a ≡ Some b → a ≡ b
some-is a b e = cc

none-some : (a : Values) → None ≡ Some a → ⊥
none-some a e = cc

first-holds : (P : Values → Type 0) (rows : List Stamped) (key : Values) → AllByRecursion P (keys_of rows)
    → first_key rows ≡ Some key → P key
first-holds P [] key all first = absurd (none-some key first)
first-holds P (x ∷ rows) key all first = subst P (some-is x.key key first) all.0

last-holds : (P : Values → Type 0) (before : Option Values) (keys : List Values) (key : Values)
    → ((k : Values) → before ≡ Some k → P k) → AllByRecursion P keys → last_or before keys ≡ Some key → P key
last-holds P before [] key first all last = first key last
last-holds P before (k ∷ keys) key first all last =
    last-holds P (Some k) keys key (λ other same. subst P (some-is k other same) all.0) all.1 last

-- ---- the entries

-- of each key there are the same rows by key
abbrev pub SameByKey : Type 0
SameByKey = (s : TableSchema) (key : Values) (rows : List HistoryRow)
    → rows_of (primary_of s) key (by_key s rows) ≡ rows_of (primary_of s) key rows

-- the log that is kept of a group's rows tells them by key, where the table passes its input on
pub log-kept : (s : TableSchema) (rows : List HistoryRow) (x : GroupRows) → s.options.producer ≡ producers.Input → HoldsRows s rows (Some x)
    → IsGroupLog s (by_key s rows) x.log
log-kept s rows x input held = subst (λ (p : Producer). KeepsLog p s rows x.log) input (rows-held s rows x held).1.log

module _ (s : TableSchema) (declared : IsDeclared s) where
  entry-can-be : (prefix : List ℕ) (names : Naming) (rows : List Stamped) (file : NewFile)
      → file.group.bucket < s.options.bucket → AllByRecursion (HasRowOf s file.group) (keys_of rows)
      → IsMetaOf s 0 (name_of prefix suffix names) rows file.bytes file.meta → IsWithin (shape_of s) (added_entry s file)
      → IsEntry (shape_of s) (added_entry s file)
  entry-can-be prefix names rows file low own meta within =
      let least = first-holds (HasRowOf s file.group) rows file.meta.min_key own meta.least in
      let greatest = last-holds (HasRowOf s file.group) None (keys_of rows) file.meta.max_key (λ key is. absurd (none-some key is)) own meta.greatest in record {
        partition = partition-can-be s file.group file.meta.min_key declared least within.partition;
        total = refl;
        bucket = low;
        file = file-can-be s file.group prefix names file.meta declared meta.named least greatest within.file;
      }

  module _ (rows : List HistoryRow) (fit : AllFit s.columns rows) (names : Naming) (g : Group) (x : GroupRows) (file : NewFile)
      (held : HoldsRows s (rows_in s g rows) (Some x)) (low : g.bucket < s.options.bucket) where
    -- its group is the file's
    abbrev HaveRows : List Stamped → Group → Type 0
    HaveRows all h = AllByRecursion (HasRowOf s h) (keys_of all)

    low-of : file.group ≡ g → file.group.bucket < s.options.bucket
    low-of own = subst (λ (h : Group). h.bucket < s.options.bucket) (sym own) low

    data-can-be : (n : ℕ) → IsNewFile s names g (numbered n x.run) file → IsWithin (shape_of s) (added_entry s file)
        → IsEntry (shape_of s) (added_entry s file)
    data-can-be n new within =
        let covers = (rows-held s (rows_in s g rows) x held).1.covers in
        entry-can-be data_prefix names (numbered n x.run) file (low-of new.own)
        (subst (HaveRows (numbered n x.run)) (sym new.own) (run-keys s g rows fit n x.run covers)) new.file.made.meta within

    log-can-be : SameByKey → s.options.producer ≡ producers.Input → IsNewChanges s names g x.log file
        → IsWithin (shape_of s) (added_entry s file) → IsEntry (shape_of s) (added_entry s file)
    log-can-be same input new within =
        let kept = log-kept s (rows_in s g rows) x input held in
        entry-can-be changes_prefix names (stamped_from 0 x.log) file (low-of new.own)
        (subst (HaveRows (stamped_from 0 x.log)) (sym new.own)
        (log-keys s g rows fit (λ key. same s key (rows_in s g rows)) x.log kept)) new.file.made.meta within

-- the groups that a batch holds
abbrev AreHeld : Groups → Groups → Type 0
AreHeld batch es = AllByRecursion (λ (e : Group × GroupRows). held_of e.0 batch ≡ Some e.1) es

-- each is one of the table's buckets
abbrev pub AreBuckets : TableSchema → Groups → Type 0
AreBuckets s es = AllByRecursion (λ (e : Group × GroupRows). e.0.bucket < s.options.bucket) es

-- the entries that add the data files of a batch, where their numbers and keys are such that they are written
pub entries-can-be : (s : TableSchema) (rows : List HistoryRow) (batch : Groups) (next : BTreeMap Group ℕ)
    (names : Naming) (new_files : List NewFile) → IsDeclared s → AllFit s.columns rows → AreBuckets s batch
    → IsBatchOf s rows batch → AreDataFiles s next names batch new_files
    → AllByRecursion (λ (e : Group × GroupRows). held_of e.0 batch ≡ Some e.1) batch
    → AllByRecursion (IsWithin (shape_of s)) (map (added_entry s) new_files)
    → AllByRecursion (IsEntry (shape_of s)) (map (added_entry s) new_files)
entries-can-be s rows batch next names new_files declared fit low is new held within =
    by_groups batch names new_files held low new within
  where
    by_groups : (es : Groups) (names : Naming) (xs : List NewFile) → AreHeld batch es → AreBuckets s es
        → AreDataFiles s next names es xs → AllByRecursion (IsWithin (shape_of s)) (map (added_entry s) xs)
        → AllByRecursion (IsEntry (shape_of s)) (map (added_entry s) xs)
    by_groups [] names [] held low new within = tt
    by_groups [] names (x ∷ xs) held low new within = absurd new
    by_groups (e ∷ es) names [] held low new within = absurd new
    by_groups (e ∷ es) names (x ∷ xs) held low new within = (
      data-can-be s declared rows fit names e.0 e.1 x (own-held s rows batch e is held.0) low.0 (next_of next e.0) new.0 within.0,
      by_groups es (counted names) xs held.1 low.1 new.1 within.1,
    )

-- and those that add its changelog files
pub changes-can-be : SameByKey → (s : TableSchema) (rows : List HistoryRow) (batch : Groups) (names : Naming) (new_files : List NewFile) → IsDeclared s
    → AllFit s.columns rows → AreBuckets s batch → s.options.producer ≡ producers.Input → IsBatchOf s rows batch → AreLogFiles s names batch new_files
    → AllByRecursion (λ (e : Group × GroupRows). held_of e.0 batch ≡ Some e.1) batch
    → AllByRecursion (IsWithin (shape_of s)) (map (added_entry s) new_files)
    → AllByRecursion (IsEntry (shape_of s)) (map (added_entry s) new_files)
changes-can-be same s rows batch names new_files declared fit low input is new held within =
    by_groups batch names new_files held low new within
  where
    by_groups : (es : Groups) (names : Naming) (xs : List NewFile) → AreHeld batch es → AreBuckets s es
        → AreLogFiles s names es xs → AllByRecursion (IsWithin (shape_of s)) (map (added_entry s) xs)
        → AllByRecursion (IsEntry (shape_of s)) (map (added_entry s) xs)
    by_groups [] names [] held low new within = tt
    by_groups [] names (x ∷ xs) held low new within = absurd new
    by_groups (e ∷ es) names [] held low new within = absurd new
    by_groups (e ∷ es) names (x ∷ xs) held low new within = (
      log-can-be s declared rows fit names e.0 e.1 x (own-held s rows batch e is held.0) low.0 same input new.0 within.0,
      by_groups es (counted names) xs held.1 low.1 new.1 within.1,
    )
