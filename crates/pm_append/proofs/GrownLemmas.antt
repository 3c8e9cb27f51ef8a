-- What becomes of each group where the new files of a batch are live beside those that were.
use Rattle.std.proofs.Common.{◌≡◌, ◌≢◌, ◌↔◌, ◌⊎◌, inl, inr, ℕ, ℤ, suc, ◌+◌, ◌≤◌, List, [], ◌∷◌, ◌++◌, length, map, false, Option, None, Some, Contains, refl, sym, ap, subst, ◌∙◌, arith}
use Rattle.std.specs.BTreeMap.{BTreeMap}
use Rattle.std.specs.FinMap as finite
use Rattle.std.specs.List.{AllByRecursion}
use Rattle.pm_store.specs.Files.{Files}
use Rattle.pm_values.specs.Names.{Naming}
use Rattle.pm_values.specs.declared.file_meta.FileMeta.{FileMeta}
use Rattle.pm_values.specs.declared.group.Group.{Group}
use Rattle.pm_values.specs.declared.record.Stamped.{Stamped}
use Rattle.pm_model_history.specs.History.{Entry, History, append, compaction, fence, table}
use Rattle.pm_model_history.specs.Merge.{HistoryRow}
use Rattle.pm_engine.specs.Covers.{CoversAll}
use Rattle.pm_engine.specs.OfSchema.{meaning_of}
use Rattle.pm_model_following.specs.Following.{HaveBases}
use Rattle.pm_model_following.specs.Groups.{rows_in}
use Rattle.pm_schema.specs.Again.{IsDeclared}
use Rattle.pm_schema.specs.declared.schema.TableSchema.{TableSchema}
use Rattle.pm_snapshot.specs.declared.snapshot.Snapshot.{Snapshot}
use Rattle.pm_levels.specs.Runs.{RunView, lone}
use Rattle.pm_manifest.specs.Live.{Live}
use Rattle.pm_manifest.specs.declared.entry.Entry as files
use Rattle.pm_model_contents.specs.Named.{Contents}
use Rattle.pm_model_contents.specs.Runs.{AreRunsOf, IsLive, data_path}
use Rattle.pm_run.specs.Rows.{HasRows}
use Rattle.pm_run.specs.Writing.{AreRising}
use Rattle.pm_write.specs.Batch.{GroupRows, Groups, IsBatchOf, held_of, numbered}
use Rattle.pm_write.specs.Files.{AreWritten, IsWritten, next_of}
use Rattle.pm_write.specs.declared.files.NewFile.{NewFile}
use Rattle.pm_model_folder.specs.Changes.{Actor, IsNamedBy}
use Rattle.pm_model_folder.specs.Commits.{HasCommit, Names, live_in}
use Rattle.pm_model_folder.specs.Folder.{Folder, HasTable}
use Rattle.pm_model_folder.specs.Ledger.{IsKnown, KnowsPast, KnowsTable, Past, Stands, count_of}
use Rattle.pm_model_folder.specs.Runs.{AreInFiles, AreRunsAt, view_of}
use Rattle.pm_model_folder.specs.Stored.{AreNumberedApart, HasGroup, HasRun}
use Rattle.pm_model_folder.proofs.HoldLemmas.{Holds}
use Rattle.pm_model_folder.proofs.LedgerFacts.{count-is}
use Rattle.pm_model_folder.proofs.RunFacts.{hold-held}
use Rattle.pm_runs.specs.Stand.{top_of}
use Rattle.pm_runs.specs.Succession.{KnownRun, grown, unchanged, without_files}
use Rattle.pm_append.specs.Commit.{Grows, grows, stays}
use Rattle.pm_made.specs.Delta.{added_entry}
use Rattle.pm_append.proofs.FileLemmas.{AreDataFiles, OwnFile, data-of-groups, none-rows, own-file, some-count}
use Rattle.pm_append.proofs.GroupLemmas.{IsNewest, NewestFacts, more-numbered, more-runs, new-run}
use Rattle.pm_made.proofs.ListLemmas.{in-map, in-or, map-in, none-in}
use Rattle.pm_made.proofs.LiveLemmas.{AreNew}
use Rattle.pm_made.proofs.MadeLemmas.{IsMade}
use Rattle.pm_made.proofs.StandLemmas as stand
use Rattle.pm_made.proofs.StandLemmas.{GroupAfter, OneRuns, SuccessionGoesOn, group-stands, numbered-too, same-runs}

-- what the laws of lower crates say of runs and of batches
pub record GroupFacts : Type 0 where
  pub newest : NewestFacts
  pub found : (f : Files) (h : History) → Folder f h
      → (p : Past) × (p.history ≡ h) × Stands f p × ((id : ℕ) → p.stood id ≡ f) × (p.since ≡ count_of h)
  pub one_runs : OneRuns
  pub goes_on : SuccessionGoesOn
  pub rising : (s : TableSchema) (bytes : List ℕ) (rows : List Stamped) → HasRows s false bytes rows → AreRising rows
  pub covers : (s : TableSchema) (rows : List HistoryRow) (batch : Groups) (g : Group) (x : GroupRows) (n : ℕ) → IsBatchOf s rows batch
      → held_of g batch ≡ Some x → CoversAll (meaning_of s) (numbered n x.run ∷ []) (rows_in s g rows)

-- The new files of a batch stand in their places, and are the actor's. Their numbers are above those of the files that
-- were live, and live now are these and they.
pub record NewRuns (me : Actor) (base : ℕ) (after : Files) (s : TableSchema) (rows : List HistoryRow) (batch : Groups) (new_files : List NewFile) (live0 now : Live) : Type 0
  where
    pub next : BTreeMap Group ℕ
    pub names : Naming
    pub is_batch : IsBatchOf s rows batch
    pub are_new : AreDataFiles s next names batch new_files
    pub written : AreWritten s next batch new_files
    pub above : (g : Group) (e : files.Entry) → IsLive live0 e → e.group ≡ g → e.file.max_seq + 1 ≤ next_of next g
    pub new : AreNew live0 (map (added_entry s) new_files)
    pub now_live : (x : files.Entry) → IsLive now x ↔ (IsLive live0 x ⊎ Contains (map (added_entry s) new_files) x)
    pub place : (x : NewFile) → Contains new_files x → finite.get after (data_path s x.group x.meta.name) ≡ Some x.bytes
    pub made_by : (x : NewFile) → Contains new_files x → IsMade me base (data_path s x.group x.meta.name)

-- an append has no base
bases-more : (user : List ℕ) (identifier : ℤ) (rows : List HistoryRow) (k : ℕ) (entries : List Entry) → HaveBases k entries
    → HaveBases k (entries ++ append user identifier rows ∷ [])
bases-more user identifier rows k [] have = tt
bases-more user identifier rows k (append u i r ∷ entries) have = bases-more user identifier rows (k + 1) entries have
bases-more user identifier rows k (fence number ∷ entries) have = bases-more user identifier rows (k + 1) entries have
bases-more user identifier rows k (compaction base groups ∷ entries) have = (have.0, bases-more user identifier rows (k + 1) entries have.1)

some-file : (m : FileMeta) → m ∷ [] ≢ []
some-file m is = cc

module _ (facts : GroupFacts) (me : Actor) (base : ℕ) (after : Files) (s : TableSchema) (rows : List HistoryRow) (batch : Groups) (new_files : List NewFile)
    (live0 now : Live) (all : NewRuns me base after s rows batch new_files live0 now) where
  -- a group's new file, where the batch has rows of it
  pub record Added (g : Group) : Type 0 where
    pub entry : files.Entry
    pub newest_file : IsNewest live0 g entry
    pub grown_by : (x : files.Entry) → x.group ≡ g → IsLive now x ↔ (IsLive live0 x ⊎ (x ≡ entry))
    pub stored : List Stamped
    pub run : HasRun after s g (lone entry.file) (record { level = 0; rows = stored })
    pub covers : CoversAll (meaning_of s) (stored ∷ []) (rows_in s g rows)
    pub some : rows_in s g rows ≢ []
    pub made_by : IsMade me base (data_path s g entry.file.name)

  -- or it has none
  pub record Unchanged (g : Group) : Type 0 where
    pub same : (x : files.Entry) → x.group ≡ g → IsLive now x ↔ IsLive live0 x
    pub none : rows_in s g rows ≡ []

  unchanged-by : (g : Group) → held_of g batch ≡ None → ((x : NewFile) → Contains new_files x → x.group ≢ g) → Unchanged g
  unchanged-by g none other = record {
    same = λ x of_g. (
      λ is. elim ((all.now_live x).0 is) as (λ _. IsLive live0 x) [
        | inl was ↦ was
        | inr h ↦ (let found = in-map (added_entry s) new_files x h in
            absurd (other found.0 found.1 (ap (λ (z : files.Entry). z.group) found.2 ∙ of_g)))
      ],
      λ was. (all.now_live x).1 (inl was),
    );
    none = none-rows s rows batch g all.is_batch none;
  }

  module _ (g : Group) (r : GroupRows) (found : held_of g batch ≡ Some r) (x : NewFile) (there : Contains new_files x) (of_g : x.group ≡ g)
      (is : IsWritten s (next_of all.next g) r x) (one : (z : NewFile) → Contains new_files z → z.group ≡ g → z ≡ x) where
    abbrev start : ℕ
    start = next_of all.next g

    abbrev a : files.Entry
    a = added_entry s x

    is-newest : IsNewest live0 g a
    is-newest = record {
      own = of_g;
      low = is.tells.levelled;
      above = λ z live z_of_g.
          let below = all.above g z live z_of_g in
          let least = is.least in
          let greatest_is = is.greatest in
          let many_rows = (some-count s rows batch g r all.is_batch found).0 in
          (omega (arith, below, least), omega (arith, below, greatest_is, many_rows));
      new = all.new a (map-in (added_entry s) new_files x there);
    }

    added-by : Added g
    added-by = record {
      entry = a;
      newest_file = is-newest;
      grown_by = λ z z_of_g. (
        λ live. elim ((all.now_live z).0 live) as (λ _. IsLive live0 z ⊎ (z ≡ a)) [
          | inl was ↦ inl was
          | inr h ↦ (let own = in-map (added_entry s) new_files z h in
              inr (sym own.2 ∙ ap (added_entry s) (one own.0 own.1 (ap (λ (w : files.Entry). w.group) own.2 ∙ z_of_g))))
        ],
        λ either. (all.now_live z).1 (elim either as (λ _. IsLive live0 z ⊎ Contains (map (added_entry s) new_files) z) [
          | inl was ↦ inl was
          | inr same ↦ inr (subst (Contains (map (added_entry s) new_files)) (sym same) (map-in (added_entry s) new_files x there))
        ]),
      );
      stored = numbered start r.run;
      run = new-run after s g a x.meta.name x.bytes (numbered start r.run)
          (subst (λ (h : Group). finite.get after (data_path s h x.meta.name) ≡ Some x.bytes) of_g (all.place x there))
          is.read (facts.rising s x.bytes (numbered start r.run) is.read) is.tells;
      covers = facts.covers s rows batch g r start all.is_batch found;
      some = (some-count s rows batch g r all.is_batch found).1;
      made_by = subst (λ (h : Group). IsMade me base (data_path s h x.meta.name)) of_g (all.made_by x there);
    }

  abbrev IsOwn : Group → GroupRows → NewFile → Type 0
  IsOwn k r x = IsWritten s (next_of all.next k) r x

  group-change : (g : Group) → Added g ⊎ Unchanged g
  group-change g = at (held_of g batch) refl
      (own-file IsOwn g batch new_files (data-of-groups s all.next all.names batch new_files all.are_new) all.written all.is_batch.ordered)
    where
      at : (o : Option GroupRows) → held_of g batch ≡ o → OwnFile IsOwn g o new_files → Added g ⊎ Unchanged g
      at None none other = inr (unchanged-by g none other)
      at (Some r) found (x, there, of_g, is, one) = inl (added-by g r found x there of_g is one)

  one-file : (g : Group) (x : Added g) (file : FileMeta) → Contains (x.entry.file ∷ []) file → IsNamedBy me (data_path s g file.name)
  one-file g x file there = elim (in-or x.entry.file [] file there) as (λ _. IsNamedBy me (data_path s g file.name)) [
    | inl is ↦ subst (λ (m : FileMeta). IsNamedBy me (data_path s g m.name)) is x.made_by.by
    | inr none ↦ absurd (none-in file none)
  ]

  -- the run of a new file, at the snapshot of a number
  abbrev run_at : (n : ℕ) (g : Group) → Added g → KnownRun
  run_at n g x = record { level = x.entry.file.level; files = x.entry.file ∷ []; newest = n; rows = x.stored }

  -- ---- its runs follow those before, and so stand for these rows too

  module _ (f : Files) (entries : List Entry) (user : List ℕ) (identifier : ℤ) (holds : Holds f after) (declared : IsDeclared s) (folder : HasTable f s entries)
      (unnamed : (id : ℕ) (path : List ℕ) → 1 ≤ id → id ≤ length entries → Names f s id path → IsNamedBy me path → ⊥)
      (runs_at : (g : Group) (runs : List RunView) → AreRunsAt f s (length entries) g runs → AreRunsOf live0 g runs)
      (groups : (g : Group) → HasGroup f s entries (length entries) live0 g) where
    abbrev e : Entry
    e = append user identifier rows

    abbrev n : ℕ
    n = length entries

    past : (p : Past) × (p.history ≡ table s entries) × Stands f p × ((id : ℕ) → p.stood id ≡ f) × (p.since ≡ n)
    past = facts.found f (table s entries) folder

    abbrev p : Past
    p = past.0

    known : KnowsTable f s entries p
    known = subst (λ (h : History). KnowsPast f h p) past.1 past.2.past

    -- the runs there, as they are known
    old : (g : Group) → AreInFiles f s n g (p.runs n g)
    old g = subst (λ (h : Files). AreInFiles h s n g (p.runs n g)) (past.3 n) (known.runs.stood n g known.runs.since (omega arith))

    own : (g : Group) → AreRunsOf live0 g (map view_of (p.runs n g))
    own g = runs_at g (map view_of (p.runs n g)) (old g).are

    own-numbered : (g : Group) → AreNumberedApart (own g).files
    own-numbered g = let was = groups g in numbered-too facts.one_runs live0 g was.runs (map view_of (p.runs n g)) was.own (own g) was.numbered

    held : (g : Group) → AllByRecursion (λ (run : KnownRun). HasRun after s g (view_of run) (without_files run)) (p.runs n g)
    held g = hold-held f after holds s g (p.runs n g) (old g).hold

    named-none : (id : ℕ) (path : List ℕ) → IsKnown p id → Names (p.stood id) s id path → IsNamedBy me path → ⊥
    named-none id path is names =
        let many = count-is p s entries past.1 in
        let to = is.to in
        unnamed id path is.after_origin (omega (arith, many, to)) (subst (λ (h : Files). Names h s id path) (past.3 id) names)

    group-after : (g : Group) → GroupAfter after s entries e p now g
    group-after g = elim (group-change g) as (λ _. GroupAfter after s entries e p now g) [
      | inl x ↦ record {
        runs = run_at (suc n) g x ∷ p.runs n g;
        own = more-runs facts.newest live0 now g x.entry x.newest_file x.grown_by (map view_of (p.runs n g)) (own g);
        numbered = more-numbered facts.newest live0 now g x.entry x.newest_file x.grown_by (map view_of (p.runs n g)) (own g) (own-numbered g);
        hold = (record { level = refl; files = x.run.files; rising = x.run.rising }, held g);
        follow = grown (run_at (suc n) g x) refl x.newest_file.low refl
            (stand.new-run f p s entries known past.1 me named-none g (run_at (suc n) g x) (some-file x.entry.file) (one-file g x)) x.some x.covers;
      }
      | inr x ↦ record {
        runs = p.runs n g;
        own = same-runs live0 now g (map view_of (p.runs n g)) x.same (own g);
        numbered = own-numbered g;
        hold = held g;
        follow = unchanged refl refl x.none;
      }
    ]

    pub stands : (g : Group) → HasGroup after s (entries ++ append user identifier rows ∷ []) (suc (length entries)) now g
    stands g = group-stands facts.goes_on after s entries e p now g (known.runs.succession g) known.runs.since high
        (bases-more user identifier rows 1 entries folder.history.bases) (group-after g)
      where
        high : 1 ≤ top_of s
        high = let levels = declared.options.levels in let least = levels.0 in omega (arith, least)

-- and its runs go on
module _ (facts : GroupFacts) (me : Actor) (base : ℕ) (f after : Files) (s : TableSchema) (rows : List HistoryRow) (batch : Groups) (new_files : List NewFile)
    (live0 : Live) (c : Contents) (all : NewRuns me base after s rows batch new_files live0 (live_in c)) (k : ℕ) (y : Snapshot)
    (commit : HasCommit after s (suc k) y c) (runs_at : (g : Group) (runs : List RunView) → AreRunsAt f s k g runs → AreRunsOf live0 g runs) where
  abbrev Grown : Group → Type 0
  Grown g = Added facts me base after s rows batch new_files live0 (live_in c) all g

  grows-by : (g : Group) → Grown g → Grows me f after s k g rows
  grows-by g x = grows (run_at facts me base after s rows batch new_files live0 (live_in c) all (suc k) g x) x.newest_file.low refl
      (some-file x.entry.file) (one-file facts me base after s rows batch new_files live0 (live_in c) all g x)
      (record { level = refl; files = x.run.files; rising = x.run.rising }) x.some x.covers
      (λ runs are. (y, c, commit, more-runs facts.newest live0 (live_in c) g x.entry x.newest_file x.grown_by runs (runs_at g runs are)))

  pub go-on : (g : Group) → Grows me f after s k g rows
  go-on g = elim (group-change facts me base after s rows batch new_files live0 (live_in c) all g) as (λ _. Grows me f after s k g rows) [
    | inl x ↦ grows-by g x
    | inr x ↦ stays x.none (λ runs are. (y, c, commit, same-runs live0 (live_in c) g runs x.same (runs_at g runs are)))
  ]
