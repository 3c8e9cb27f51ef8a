-- A try of `pm_made` to append a batch, which is ready and published, appends its rows.
use Rattle.std.proofs.Common.{◌≡◌, ◌≢◌, ◌↔◌, ◌⊎◌, inl, inr, ℕ, pos, int_lt, suc, ◌+◌, ◌<◌, ◌≤◌, ◌^◌, Bool, true, false, List, [], ◌∷◌, ◌++◌, length, map, Option, None, Some, IsSome, Contains, refl, sym, ap, subst, ◌∙◌, append-nil, arith}
use Rattle.std.specs.BTreeMap.{BTreeMap}
use Rattle.std.specs.FinMap as finite
use Rattle.std.specs.List.{AllByRecursion, AllZip, flat_map}
use Rattle.std.proofs.lemmas.Grind.{flat_map-append}
use Rattle.pm_base.proofs.Laws.{AllByRecursion-append}
use Rattle.pm_store.specs.Files.{Files, Puts}
use Rattle.pm_values.specs.Fits.{Fits}
use Rattle.pm_values.specs.Names.{Naming}
use Rattle.pm_values.specs.declared.group.Group.{Group}
use Rattle.pm_values.specs.declared.record.Change.{Change}
use Rattle.pm_model_history.specs.History.{Entry, entry_rows}
use Rattle.pm_model_history.specs.Merge.{AllFit, HistoryRow}
use Rattle.pm_options.specs.declared.kinds.Producer.{Producer}
use Rattle.pm_options.specs.declared.kinds.Producer.TheVariants as producers
use Rattle.pm_schema.specs.declared.schema.TableSchema.{TableSchema}
use Rattle.pm_snapshot.specs.declared.snapshot.Snapshot.{Snapshot}
use Rattle.pm_manifest.specs.Entries.{IsEntry, IsWithin}
use Rattle.pm_manifest.specs.Live.{Live, id_of, live_after, live_at}
use Rattle.pm_manifest.specs.Shape.{shape_of}
use Rattle.pm_manifest.specs.declared.entry.Entry as files
use Rattle.pm_manifest.specs.declared.entry.ManifestMeta.{ManifestMeta}
use Rattle.pm_manifest.specs.declared.file_id.FileId.{FileId}
use Rattle.pm_model_contents.specs.Lists.{HaveEntries, IsManifest, none_live}
use Rattle.pm_model_contents.specs.Runs.{IsLive, data_path}
use Rattle.pm_model_folder.specs.Changes.{Actor, NamesOwn}
use Rattle.pm_model_folder.specs.Commits.{HasCommit, IsCommit, Names, live_in}
use Rattle.pm_model_folder.specs.Entries.{AreLive, fence_at, rows_added, rows_in_files}
use Rattle.pm_model_folder.specs.Folder.{IsRowOf}
use Rattle.pm_model_folder.specs.Paths.{snapshot_path}
use Rattle.pm_model_folder.specs.Stored.{HasGroup, HoldsChange}
use Rattle.pm_model_folder.proofs.HoldLemmas.{Holds}
use Rattle.pm_put.specs.Meaning.{IsPut}
use Rattle.pm_put.specs.declared.putting.CommitFile.{CommitFile}
use Rattle.pm_write.specs.Batch.{GroupRows, Groups, IsBatchOf, group_log, held_of, logs_in, numbered}
use Rattle.pm_write.specs.Files.{AreFilesOfLogs, AreLogsWritten, AreNewFiles, AreWritten, IsLogWritten, after_names, exceeds}
use Rattle.pm_write.specs.declared.files.NewFile.{NewFile}
use Rattle.pm_made.specs.Commit as tried
use Rattle.pm_made.specs.Delta.{Delta, added_entry, entries_of, left_of}
use Rattle.pm_made.specs.Files.{AreNumbered, HasBase, HasDelta, HasManifest, appends, changes_of, data_file, kept, merged, merges, no_manifest, one_manifest}
use Rattle.pm_made.specs.Intent.{changelog_files}
use Rattle.pm_made.specs.Snapshot.{new_snapshot}
use Rattle.pm_made.specs.declared.intent.Intent.TheVariants as intents
use Rattle.pm_made.specs.declared.newest.Author.{Author}
use Rattle.pm_made.specs.declared.newest.Newest.{Newest}
use Rattle.pm_made.specs.declared.snapshot.ListNames.{ListNames}
use Rattle.pm_made.proofs.AllowedLemmas.{allowed-of}
use Rattle.pm_made.proofs.CommitLaws.{CommitLaw}
use Rattle.pm_made.proofs.CountLemmas.{left-none}
use Rattle.pm_made.proofs.ListLemmas.{all-weaker, each-of, in-either, in-left, in-map, in-right, map-in, pairs-to}
use Rattle.pm_made.proofs.ListedLemmas.{changes-within, entries-within, unlisted}
use Rattle.pm_made.proofs.LiveLemmas.{AreAdds, AreNew}
use Rattle.pm_made.proofs.LogLemmas.{changelog-least}
use Rattle.pm_made.proofs.MadeLemmas.{IsMade, IsMaker, later-maker, made-data}
use Rattle.pm_made.proofs.NewFileLemmas.{named-file}
use Rattle.pm_made.proofs.NumberLemmas.{changes-are, data-are, files-many, same-exceeds, tell-at-zero}
use Rattle.pm_made.proofs.OldLemmas.{Old, SnapshotFacts, old-of, puts-holds}
use Rattle.pm_append.specs.Commit.{AreBase, AreBaseIf, AreMerged, Grows, HasAppended, IsReady, Try, attempt_of, entry_of, told_count}
use Rattle.pm_append.specs.Snapshot.{append_snapshot}
use Rattle.pm_append.proofs.ChangeLemmas.{AreLogs, ChangeFacts, holds-input, holds-none, no-rows, none-logged, told-once, written-logs}
use Rattle.pm_append.proofs.CountLemmas.{adds-rows}
use Rattle.pm_append.proofs.EntryLemmas.{AreBuckets, changes-can-be, entries-can-be}
use Rattle.pm_append.proofs.FitLemmas.{batch-fits}
use Rattle.pm_append.proofs.FileLemmas.{AreLogFiles, apart-files, are-adds, data-of-groups, next-above}
use Rattle.pm_append.proofs.GrownLemmas.{GroupFacts, NewRuns, go-on, stands}
use Rattle.pm_append.proofs.RowCountLemmas.{adds-at-zero, files-few}

-- ---- what the laws of lower crates say

abbrev pub MadeLaw : Type 0
MadeLaw = (me : Actor) (f after : Files) (s : TableSchema) (entries : List Entry) (e : Entry) (t : tried.Attempt) → (ready : tried.IsReady me f s entries e t)
    → finite.get f (snapshot_path (suc (length entries))) ≡ None → Puts f (snapshot_path (suc (length entries))) (Some t.made.text) after
    → tried.IsAsMade after s (suc (length entries)) t ready.made × NamesOwn me f after s (length entries)
    × (int_lt (fence_at entries (length entries)) (pos t.author.base) ≡ true)

pub record Facts : Type 0 where
  pub snapshots : SnapshotFacts
  pub groups : GroupFacts
  pub live : (before : Option files.Entry) (id : FileId) (es : List files.Entry) (e : files.Entry) → live_at before id es ≡ Some e
      → (before ≡ Some e) ⊎ ((e.add ≡ true) × (id_of e ≡ id))
  pub held : (s : TableSchema) (rows : List HistoryRow) (batch : Groups) → IsBatchOf s rows batch
      → AllByRecursion (λ (e : Group × GroupRows). held_of e.0 batch ≡ Some e.1) batch
  pub written : (s : TableSchema) (rows : List HistoryRow) (batch : Groups) (next : BTreeMap Group ℕ) (names : Naming) (new_files : List NewFile)
      → IsBatchOf s rows batch → exceeds next batch ≡ false → (new : AreNewFiles s next names batch new_files) → AreWritten s next batch new.data_files
  pub logs_written : (s : TableSchema) (rows : List HistoryRow) (batch : Groups) (next : BTreeMap Group ℕ) (names : Naming) (new_files : List NewFile)
      → IsBatchOf s rows batch → (new : AreNewFiles s next names batch new_files) → AreLogsWritten s rows batch new.changes
  pub logs : (s : TableSchema) (rows : List HistoryRow) (batch : Groups) → s.options.producer ≡ producers.Input → IsBatchOf s rows batch
      → logs_in batch ≡ map group_log batch
  pub quiet : (s : TableSchema) (rows : List HistoryRow) (batch : Groups) → s.options.producer ≢ producers.Input → IsBatchOf s rows batch
      → logs_in batch ≡ []
  pub empty : (s : TableSchema) (rows : List HistoryRow) (batch : Groups) → IsBatchOf s rows batch → (batch ≡ []) ↔ (rows ≡ [])
  pub buckets : (s : TableSchema) (rows : List HistoryRow) (batch : Groups) → 1 ≤ s.options.bucket → IsBatchOf s rows batch → AreBuckets s batch
  pub change : ChangeFacts

-- ---- what was made of a batch

-- the delta of these data files and changelog files
abbrev by_files : TableSchema → List NewFile → List NewFile → Delta
by_files s xs told = record { removed = []; added = map (added_entry s) xs; changes = map (added_entry s) told }

record FromBatch (s : TableSchema) (newest : Newest) (names : Naming) (batch : Groups) (d : Delta) (row_files : List CommitFile) : Type 0 where
  pub new_files : List NewFile
  pub numbered : AreNumbered s newest.live.items names batch new_files
  pub delta : d ≡ by_files s numbered.are_new.data_files numbered.are_new.changes
  pub put : row_files ≡ map (data_file s) new_files

from-batch : (s : TableSchema) (newest : Newest) (names : Naming) (batch : Groups) (d : Delta) (row_files : List CommitFile) (left : Naming)
    → HasDelta s newest names (intents.Append batch) d row_files left → FromBatch s newest names batch d row_files
from-batch s newest names _ _ _ _ (appends batch xs numbered) =
    let new = numbered.are_new in
    record {
      new_files = xs;
      numbered = numbered;
      delta = ap (λ (ys : List NewFile). by_files s ys (changes_of xs)) (data-are s numbered.next names batch xs new)
          ∙ ap (by_files s new.data_files) (changes-are s numbered.next names batch xs new);
      put = refl;
    }

some-no : {X : Type 0} (x : X) → None ≡ Some x → ⊥
some-no x is = cc

-- its snapshot is the one that appends rows with these files
same-snapshot : (s : TableSchema) (newest : Newest) (author : Author) (batch : Groups) (xs told : List NewFile) (lists : ListNames)
    → ((e : files.Entry) → Contains (map (added_entry s) xs) e → e.add ≡ true)
    → new_snapshot s newest author (intents.Append batch) (by_files s xs told) lists
    ≡ append_snapshot s newest author (map (added_entry s) xs) (map (added_entry s) told) lists
same-snapshot s newest author batch xs told lists add =
    let all : left_of [] newest.live.items ≡ newest.live.items = left-none newest.live.items in
    let rows : rows_added (map (added_entry s) xs) ≡ pos (rows_in_files (map (added_entry s) xs)) = adds-rows (map (added_entry s) xs) add in
    let y : Snapshot = append_snapshot s newest author (map (added_entry s) xs) (map (added_entry s) told) lists in
    λ i. record y {
      total = pos (rows_in_files (all i ++ map (added_entry s) xs));
      delta = rows i;
    }

-- the entries of one manifest
one-of : (f : Files) (s : TableSchema) (m : ManifestMeta) (es : List files.Entry) → HaveEntries f s (m ∷ []) es → IsManifest f s m.name es
one-of f s m es (own, later, split, is, none) =
    subst (IsManifest f s m.name) (sym (split ∙ ap (λ (more : List files.Entry). own ++ more) none ∙ append-nil own)) is

no-files-of : (s : TableSchema) (names : Naming) (xs : List NewFile) → AreFilesOfLogs s names [] xs → xs ≡ []
no-files-of s names [] are = refl
no-files-of s names (x ∷ xs) are = absurd are

-- a producer is that of inputs, or another
input-or : (q : Producer) → (q ≡ producers.Input) ⊎ (q ≢ producers.Input)
input-or producers.None = inr (λ is. (let no : producers.None ≡ producers.Input = is in cc))
input-or producers.Input = inl refl
input-or producers.Lookup = inr (λ is. (let no : producers.Lookup ≡ producers.Input = is in cc))
input-or producers.FullCompaction = inr (λ is. (let no : producers.FullCompaction ≡ producers.Input = is in cc))

none-count : (q : Producer) (n : ℕ) → q ≢ producers.Input → told_count q n ≡ 0
none-count producers.None n other = refl
none-count producers.Input n other = absurd (other refl)
none-count producers.Lookup n other = refl
none-count producers.FullCompaction n other = refl

-- ---- the published try

module _ (facts : Facts) (made_law : MadeLaw) (commit_law : CommitLaw) (me : Actor) (f after : Files) (s : TableSchema) (entries : List Entry) (t : Try)
    (ready : IsReady me f s entries t) (absent : finite.get f (snapshot_path (suc (length entries))) ≡ None)
    (puts : Puts f (snapshot_path (suc (length entries))) (Some t.made.text) after) where
  abbrev k : ℕ
  k = length entries

  abbrev live_items : List files.Entry
  live_items = t.newest.live.items

  abbrev own : FromBatch s t.newest t.names t.batch ready.made.delta ready.made.row_files
  own = from-batch s t.newest t.names t.batch ready.made.delta ready.made.row_files ready.made.left ready.made.has_delta

  abbrev new_files : AreNewFiles s own.numbered.next t.names t.batch own.new_files
  new_files = own.numbered.are_new

  -- its data files, and its changelog files
  abbrev xs : List NewFile
  xs = new_files.data_files

  abbrev zs : List NewFile
  zs = new_files.changes

  abbrev added : List files.Entry
  added = map (added_entry s) xs

  abbrev changes : List files.Entry
  changes = map (added_entry s) zs

  abbrev old : Old facts.snapshots f s entries ready.folder t.newest ready.newest.id t.newest.snapshot
  old = old-of facts.snapshots f s entries ready.folder t.newest ready.newest.id t.newest.snapshot ready.newest.found

  abbrev live0 : Live
  live0 = live_after none_live old.entries0

  holds : Holds f after
  holds = puts-holds f after (snapshot_path (suc (length entries))) (Some t.made.text) absent puts

  -- ---- it is ready

  abbrev held : AllByRecursion (λ (e : Group × GroupRows). held_of e.0 t.batch ≡ Some e.1) t.batch
  held = facts.held s t.rows t.batch ready.batch

  rows-fit : AllFit s.columns t.rows
  rows-fit = batch-fits facts.groups.covers s t.rows t.batch ready.batch

  buckets : AreBuckets s t.batch
  buckets = facts.buckets s t.rows t.batch ready.declared.options.bucket.0 ready.batch

  adds : AreAdds added
  adds = are-adds s xs (apart-files t.batch xs (data-of-groups s own.numbered.next t.names t.batch xs new_files.runs) ready.batch.ordered)

  can-come : AllByRecursion (IsEntry (shape_of s)) added
  can-come = entries-can-be s t.rows t.batch own.numbered.next t.names xs ready.declared rows-fit buckets ready.batch new_files.runs held
      (subst (λ (d : Delta). AllByRecursion (IsWithin (shape_of s)) (entries_of d)) own.delta
      (entries-within s t.newest ready.made.left (entries_of ready.made.delta) ready.made.delta.changes ready.made.lists ready.made.list_files ready.made.are_manifests))

  within-told : AllByRecursion (IsWithin (shape_of s)) changes
  within-told = subst (λ (d : Delta). AllByRecursion (IsWithin (shape_of s)) d.changes) own.delta
      (changes-within s t.newest ready.made.left (entries_of ready.made.delta) ready.made.delta.changes ready.made.lists ready.made.list_files ready.made.are_manifests)

  -- its changelog files are of its groups, where the table passes its input on, else there are none
  logged : s.options.producer ≡ producers.Input → AreLogFiles s (after_names (length xs) t.names) t.batch zs
  logged input = subst (λ (logs : List (Group × List Change)). AreFilesOfLogs s (after_names (length xs) t.names) logs zs)
      (facts.logs s t.rows t.batch input ready.batch) new_files.logs

  none-told : s.options.producer ≢ producers.Input → zs ≡ []
  none-told other = no-files-of s (after_names (length xs) t.names) zs
      (subst (λ (logs : List (Group × List Change)). AreFilesOfLogs s (after_names (length xs) t.names) logs zs)
      (facts.quiet s t.rows t.batch other ready.batch) new_files.logs)

  by-producer : (s.options.producer ≡ producers.Input) ⊎ (s.options.producer ≢ producers.Input)
  by-producer = input-or s.options.producer

  can-tell : AllByRecursion (IsEntry (shape_of s)) changes
  can-tell = elim by-producer as (λ _. AllByRecursion (IsEntry (shape_of s)) changes) [
    | inr other ↦ subst (λ (ys : List NewFile). AllByRecursion (IsEntry (shape_of s)) (map (added_entry s) ys)) (sym (none-told other)) tt
    | inl input ↦ changes-can-be facts.change.same s t.rows t.batch (after_names (length xs) t.names) zs ready.declared rows-fit buckets
        input ready.batch (logged input) held within-told
  ]

  may-change : tried.MayChange s ready.made.delta
  may-change = subst (tried.MayChange s) (sym own.delta) (record {
    can_go = tt;
    can_come = can-come;
    can_tell = can-tell;
    told = tell-at-zero s (after_names (length xs) t.names) (logs_in t.batch) zs new_files.logs;
    removed = pairs-to (λ (a b : files.Entry). id_of a ≡ id_of b → ⊥) [] tt;
    added = pairs-to (λ (a b : files.Entry). id_of a ≡ id_of b → ⊥) added adds.apart;
  })

  is-ready : tried.IsReady me f s entries (entry_of t) (attempt_of t)
  is-ready = record {
    folder = ready.folder;
    newest = ready.newest;
    means = refl;
    may_raise = tt;
    made = ready.made;
    may_change = may-change;
    allowed = ready.allowed;
    base = ready.base;
    full = tt;
    maker = ready.maker;
    own = tt;
    there = ready.there;
    unnamed = ready.unnamed;
  }

  told : tried.IsAsMade after s (suc k) (attempt_of t) ready.made × NamesOwn me f after s k × (int_lt (fence_at entries k) (pos t.author.base) ≡ true)
  unfolding is-ready
  told = made_law me f after s entries (entry_of t) (attempt_of t) is-ready absent puts

  abbrev seen : tried.IsAsMade after s (suc k) (attempt_of t) ready.made
  seen = told.0

  -- ---- who made the files

  many : length own.new_files ≡ length t.batch + length (logs_in t.batch)
  many = files-many s own.numbered.next t.names t.batch own.new_files new_files

  room : t.names.count + (length t.batch + 4 + changelog_files (length (logs_in t.batch))) < 2 ^ 64
  room = ready.maker.room

  in-new : (x : NewFile) → Contains (xs ++ zs) x → Contains own.new_files x
  in-new x h = subst (λ (ys : List NewFile). Contains ys x) (sym new_files.both) h

  maker : IsMaker me t.author.base t.names
  maker = record { may = ready.maker.may; session = ready.maker.session; actor = ready.maker.actor; based = ready.maker.based }

  data-made : (x : NewFile) → Contains xs x → IsMade me t.author.base (data_path s x.group x.meta.name)
  data-made x h =
      let is = named-file s own.numbered.next t.names t.batch own.new_files x new_files (in-new x (in-left xs zs x h)) in
      let w = is.within in
      let logs = changelog-least (length (logs_in t.batch)) in
      made-data me t.author.base is.kind (after_names is.index t.names) s x.group x.meta.name
      (later-maker me t.author.base is.index t.names maker (omega (arith, room, many, w, logs))) is.name

  -- ---- files in place

  file-place : (x : NewFile) → Contains own.new_files x → finite.get after (data_path s x.group x.meta.name) ≡ Some x.bytes
  file-place x h =
      let put : Contains t.made.files.items (data_file s x) =
      subst (λ (made : List CommitFile). Contains made (data_file s x)) (sym ready.made.files)
      (in-left ready.made.row_files ready.made.list_files (data_file s x)
      (subst (λ (made : List CommitFile). Contains made (data_file s x)) (sym own.put) (map-in (data_file s) own.new_files x h))) in
      let there : finite.get f (data_path s x.group x.meta.name) ≡ Some x.bytes = each-of (IsPut f) t.made.files.items (data_file s x) ready.there put in
      holds (data_path s x.group x.meta.name) (subst (λ (o : Option (List ℕ)). IsSome o) (sym there) refl) ∙ there

  -- ---- what is live

  live-now : AreLive (live_in seen.contents) (live_items ++ added)
  live-now = subst (λ (es : List files.Entry). AreLive (live_in seen.contents) (es ++ added)) (left-none live_items)
      (subst (λ (d : Delta). AreLive (live_in seen.contents) (left_of d.removed live_items ++ d.added)) own.delta seen.live)

  now-live : (x : files.Entry) → IsLive (live_in seen.contents) x ↔ (IsLive live0 x ⊎ Contains added x)
  now-live x = (
    λ is. elim (in-either live_items added x ((live-now.exact x).1 is)) as (λ _. IsLive live0 x ⊎ Contains added x) [
      | inl was ↦ inl ((old.live.exact x).0 was)
      | inr new ↦ inr new
    ],
    λ either. (live-now.exact x).0 (elim either as (λ _. Contains (live_items ++ added) x) [
      | inl was ↦ in-left live_items added x ((old.live.exact x).1 was)
      | inr new ↦ in-right live_items added x new
    ]),
  )

  -- the new files are new
  new : AreNew live0 added
  new x h = at (live0 (id_of x)) refl
    where
      at : (before : Option files.Entry) → live0 (id_of x) ≡ before → live0 (id_of x) ≡ None
      at None is = is
      at (Some z) is =
          let own_id : id_of z ≡ id_of x = elim (facts.live None (id_of x) old.entries0 z is) as (λ _. id_of z ≡ id_of x) [
            | inl none ↦ absurd (some-no z none)
            | inr both ↦ both.1
          ] in
          let named = old.data_named z (ap live0 own_id ∙ is) in
          let one = in-map (added_entry s) xs x h in
          let same : data_path s z.group z.file.name ≡ data_path s one.0.group one.0.meta.name =
          ap (λ (i : FileId). data_path s i.group i.name) own_id ∙ ap (λ (w : files.Entry). data_path s w.group w.file.name) (sym one.2) in
          absurd (ready.unnamed k (data_path s one.0.group one.0.meta.name) named.0 (omega arith)
          (subst (λ (path : List ℕ). Names f s k path) same named.1) (data-made one.0 one.1).by)

  -- ---- groups

  written : AreWritten s own.numbered.next t.batch xs
  written = facts.written s t.rows t.batch own.numbered.next t.names own.new_files ready.batch
      (same-exceeds live_items own.numbered.next t.batch own.numbered.counts ∙ (allowed-of t.newest t.author (intents.Append t.batch) ready.allowed).numbers)
      new_files

  new_runs : NewRuns me t.author.base after s t.rows t.batch xs live0 (live_in seen.contents)
  new_runs = record {
    next = own.numbered.next;
    names = t.names;
    is_batch = ready.batch;
    are_new = new_files.runs;
    written = written;
    above = λ g x live of_g. subst (λ (n : ℕ). x.file.max_seq + 1 ≤ n) (sym (own.numbered.counts g)) (next-above live_items g x ((old.live.exact x).1 live) of_g);
    new = new;
    now_live = now-live;
    place = λ x h. file-place x (in-new x (in-left xs zs x h));
    made_by = data-made;
  }

  has-group : (g : Group) → HasGroup after s (entries ++ entry_of t ∷ []) (suc k) (live_in seen.contents) g
  has-group g = stands facts.groups me t.author.base after s t.rows t.batch xs live0 (live_in seen.contents) new_runs f entries t.author.user t.author.identifier
      holds ready.declared ready.folder ready.unnamed old.runs_at old.groups g

  same-changes : seen.contents.changes ≡ changes
  same-changes = seen.changes ∙ ap (λ (d : Delta). d.changes) own.delta

  -- the changelog files of the groups, where the table passes its input on
  logs : s.options.producer ≡ producers.Input → AreLogs after s t.rows t.batch zs
  logs input = record {
    names = after_names (length xs) t.names;
    is_batch = ready.batch;
    new = logged input;
    written = written-logs s t.rows t.batch zs
        (subst (λ (logs : List (Group × List Change)). AllZip (λ (p : Group × List Change) (x : NewFile). IsLogWritten s t.rows p.0 x) logs zs)
        (facts.logs s t.rows t.batch input ready.batch)
        (facts.logs_written s t.rows t.batch own.numbered.next t.names own.new_files ready.batch new_files));
    place = λ x h. file-place x (in-new x (in-right xs zs x h));
  }

  fits : AllFit s.columns (flat_map entry_rows (entries ++ entry_of t ∷ []))
  fits = subst (AllFit s.columns) (sym (flat_map-append entry_rows entries (entry_of t ∷ []) ∙ ap (λ (rs : List HistoryRow). flat_map entry_rows entries ++ rs) (append-nil t.rows)))
      (AllByRecursion-append (λ (r : HistoryRow). Fits s.columns r.1) (flat_map entry_rows entries) t.rows
      (all-weaker (IsRowOf s) (λ (r : HistoryRow). Fits s.columns r.1) (λ r is_row. is_row.fits) (flat_map entry_rows entries) ready.folder.history.rows)
      rows-fit)

  holds-change : HoldsChange after s (entries ++ entry_of t ∷ []) (suc k) seen.contents.changes
  holds-change = subst (HoldsChange after s (entries ++ entry_of t ∷ []) (suc k)) (sym same-changes)
      (elim by-producer as (λ _. HoldsChange after s (entries ++ entry_of t ∷ []) (suc k) changes) [
        | inr other ↦ subst (λ (ys : List NewFile). HoldsChange after s (entries ++ entry_of t ∷ []) (suc k) (map (added_entry s) ys)) (sym (none-told other))
            (holds-none facts.change after s entries t.author.user t.author.identifier t.rows ready.declared fits other)
        | inl input ↦ holds-input facts.change after s t.rows t.batch zs (logs input) entries t.author.user t.author.identifier ready.declared input
      ])

  commits : IsCommit f after s entries (entry_of t)
  unfolding is-ready
  commits = commit_law me f after s entries (entry_of t) (attempt_of t) is-ready absent puts seen has-group holds-change

  group-grows : (g : Group) → Grows me f after s k g t.rows
  group-grows = go-on facts.groups me t.author.base f after s t.rows t.batch xs live0 seen.contents new_runs k (tried.snapshot_of s (attempt_of t) ready.made)
      seen.commit old.runs_at

  -- ---- what the folder has

  are-merged : (metas : List ManifestMeta) (made_files : List CommitFile) (left : Naming) → HasManifest s ready.made.left live_items metas made_files left
      → HaveEntries after s metas live_items → AreMerged after s t.newest metas
  are-merged _ _ _ (no_manifest none) have = none
  are-merged _ _ _ (one_manifest m file some is) have = (some, one-of after s m live_items have)

  are-base : (metas : List ManifestMeta) (made_files : List CommitFile) (left : Naming) → HasBase s t.newest ready.made.left metas made_files left
      → (merges s t.newest.manifests.items ≡ true → HaveEntries after s metas live_items) → AreBase after s t.newest metas
  are-base _ _ _ (kept few) have = subst (λ (b : Bool). AreBaseIf b after s t.newest t.newest.manifests.items) (sym few) refl
  are-base _ _ _ (merged metas made_files left enough has) have =
      subst (λ (b : Bool). AreBaseIf b after s t.newest metas) (sym enough) (are-merged metas made_files left has (have enough))

  no-list : zs ≡ [] → ready.made.lists.changes ≡ None
  no-list none = unlisted s t.newest ready.made.left (entries_of ready.made.delta) ready.made.delta.changes ready.made.lists ready.made.list_files
      ready.made.are_manifests (ap (λ (d : Delta). d.changes) own.delta ∙ ap (map (added_entry s)) none)

  -- ---- what is told

  abbrev told_rows : ℕ
  told_rows = told_count s.options.producer (length t.rows)

  tells : rows_in_files changes ≡ told_rows
  tells = elim by-producer as (λ _. rows_in_files changes ≡ told_rows) [
    | inr other ↦ ap (λ (ys : List NewFile). rows_in_files (map (added_entry s) ys)) (none-told other)
        ∙ sym (none-count s.options.producer (length t.rows) other)
    | inl input ↦ told-once facts.change s t.rows t.batch ready.batch zs (logs input).written
        ∙ sym (ap (λ (p : Producer). told_count p (length t.rows)) input)
  ]

  quiet : told_rows ≡ 0 → ready.made.lists.changes ≡ None
  quiet nothing = no-list (elim by-producer as (λ _. zs ≡ []) [
    | inr other ↦ none-told other
    | inl input ↦ none-logged s (after_names (length xs) t.names) t.batch zs (logged input)
        ((facts.empty s t.rows t.batch ready.batch).1
        (no-rows t.rows (sym (ap (λ (p : Producer). told_count p (length t.rows)) input) ∙ nothing)))
  ])

  has-appended : HasAppended after s t.newest t.author (length t.rows)
  has-appended = record {
    added = added;
    lists = ready.made.lists;
    contents = seen.contents;
    commit = subst (λ (id : ℕ). HasCommit after s id (append_snapshot s t.newest t.author added seen.contents.changes ready.made.lists) seen.contents)
        (let id = ready.newest.id in let same : suc k ≡ t.newest.id + 1 = omega (arith, id) in same)
        (subst (λ (x : Snapshot). HasCommit after s (suc k) x seen.contents)
        (same-snapshot s t.newest t.author t.batch xs zs ready.made.lists adds.add
        ∙ ap (λ (es : List files.Entry). append_snapshot s t.newest t.author added es ready.made.lists) (sym same-changes))
        (subst (λ (d : Delta). HasCommit after s (suc k) (new_snapshot s t.newest t.author (intents.Append t.batch) d ready.made.lists) seen.contents)
        own.delta seen.commit));
    base = subst (AreBase after s t.newest) (sym seen.base)
        (are-base ready.made.are_manifests.base ready.made.are_manifests.base_files ready.made.are_manifests.left ready.made.are_manifests.has_base
        (λ enough. subst (λ (metas : List ManifestMeta). HaveEntries after s metas live_items) seen.base (seen.merged enough)));
    delta = subst (λ (d : Delta). HaveEntries after s seen.contents.delta (entries_of d)) own.delta seen.entries;
    adds = adds-at-zero s own.numbered.next t.names t.batch xs new_files.runs;
    few = files-few s t.rows t.batch ready.batch own.numbered.next t.names xs held new_files.runs;
    tells = ap (λ (es : List files.Entry). rows_in_files es) same-changes ∙ tells;
    quiet = quiet;
  }

  pub published : IsCommit f after s entries (entry_of t) × NamesOwn me f after s (length entries)
      × tried.IsAsMade after s (suc (length entries)) (attempt_of t) ready.made × HasAppended after s t.newest t.author (length t.rows)
      × ((g : Group) → Grows me f after s (length entries) g t.rows)
  published = (commits, told.1, seen, has-appended, group-grows)
