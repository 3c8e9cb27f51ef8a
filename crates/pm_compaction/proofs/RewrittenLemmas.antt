-- The runs of a group that was rewritten, once the compaction is published.
use Rattle.std.proofs.Common.{◌≡◌, ◌≢◌, ℕ, zero, suc, ◌<◌, ◌≤◌, nat_le, Bool, true, false, true≢false, not, All, List, [], ◌∷◌, ◌++◌, map, length, None, Contains, refl, sym, ap, subst, ◌∙◌, arith}
use Rattle.std.specs.List.{AllByRecursion}
use Rattle.std.proofs.lemmas.Bool.Decides.{nat_tests}
use Rattle.std.proofs.lemmas.List.Elements.{Contains-append_left}
use Rattle.pm_store.specs.Files.{Files}
use Rattle.pm_values.specs.Names.{Naming}
use Rattle.pm_values.specs.Order.{Values}
use Rattle.pm_values.specs.declared.file_meta.FileMeta.{FileMeta}
use Rattle.pm_values.specs.declared.group.Group.{Group}
use Rattle.pm_model_history.specs.History.{Entry, IsTableOf, rows_up_to, table}
use Rattle.pm_schema.specs.declared.schema.TableSchema.{TableSchema}
use Rattle.pm_model_following.specs.Groups.{rows_in}
use Rattle.pm_engine.specs.Covers.{IsRising, Run, of_key}
use Rattle.pm_engine.specs.Meaning.{DropsNoEffect}
use Rattle.pm_engine.specs.OfSchema.{meaning_of}
use Rattle.pm_merge.specs.Merge.{AreStored, all_rows}
use Rattle.pm_merge.specs.Merging.{runs_in}
use Rattle.pm_merge.specs.Source.{Rest}
use Rattle.pm_run.specs.Order.{keys_of}
use Rattle.pm_run.specs.Row.{most_sequence}
use Rattle.pm_values.specs.declared.record.Stamped.{Stamped}
use Rattle.pm_run.specs.Writing.{IsRun, bytes_of}
use Rattle.pm_run.specs.declared.run.RunFile.{RunFile}
use Rattle.pm_snapshot.specs.declared.snapshot.Snapshot.{Snapshot}
use Rattle.pm_levels.specs.Runs.{IsRun as IsLevelRun, RunView, files_of}
use Rattle.pm_manifest.specs.FileId.{id_eq}
use Rattle.pm_manifest.specs.Live.{Live, id_of}
use Rattle.pm_manifest.specs.declared.entry.Entry as files
use Rattle.pm_manifest.specs.declared.file_id.FileId.{FileId}
use Rattle.pm_model_contents.specs.Named.{Contents}
use Rattle.pm_model_contents.specs.Runs.{data_path}
use Rattle.pm_model_folder.specs.Changes.{Actor, IsNamedBy}
use Rattle.pm_model_folder.specs.Commits.{HasCommit, Names, live_in}
use Rattle.pm_model_folder.specs.Entries.{AreLive}
use Rattle.pm_model_folder.specs.Ledger.{HasNamedNone, IsKnown, KnowsTable, Past, Stands, count_of}
use Rattle.pm_model_folder.specs.Runs.{AreInFiles, HaveLiveFiles, view_of}
use Rattle.pm_model_folder.proofs.RunFacts.{file-named, in-none, origin-none}
use Rattle.pm_runs.specs.Stand.{oldest_first, top_of}
use Rattle.pm_runs.specs.Succession.{AreKnownAt, IsNew, IsTaken, KnownRun, MayTakePlace, StillStands, Taking, from_oldest, without_files}
use Rattle.pm_compact.specs.Made.{made_run, metas_of}
use Rattle.pm_compact.specs.Rewritten.{AreRewritten, HaveOwnRows, most_in_file}
use Rattle.pm_choice.specs.Choice.{live_entry}
use Rattle.pm_made.specs.Refusals.{first_not_live}
use Rattle.pm_made.specs.Delta.{is_of_any}
use Rattle.pm_paths.proofs.ListLemmas.{here, more}
use Rattle.pm_made.proofs.EntryLemmas.{ReadEntries}
use Rattle.pm_made.proofs.KeyLemmas.{HasRowOf}
use Rattle.pm_made.proofs.ListLemmas.{Pairs, any-in, each-of, in-map, map-in, none-found}
use Rattle.pm_compaction.specs.Plan.{IsRewrittenAt, RewrittenGroup}
use Rattle.pm_compaction.proofs.BaseLemmas.{RunsThere, TakenStored, all-rising, numbered, runs-there}
use Rattle.pm_compaction.proofs.EntryLemmas.{LeftJoined}
use Rattle.pm_compaction.proofs.ListLemmas.{flat-in, in-flat}
use Rattle.pm_compaction.proofs.LiveLemmas.{OneId}
use Rattle.pm_compaction.proofs.MadeLemmas.{ComesBefore, OneName, in-turn, named-by, named-file}
use Rattle.pm_compaction.proofs.RowLemmas.{covered-row, from-taken, has-key, kept-in, of-group, run-there, some-of-key}

-- ---- the newest entry of which a run may have rows

some-run : (run : KnownRun) (runs : List KnownRun) → run ∷ runs ≡ [] → ⊥
some-run run runs is = cc

-- the greatest of some runs
abbrev pub IsGreatest : List KnownRun → ℕ → Type 0
IsGreatest runs n = ((other : KnownRun) × Contains runs other × (n ≡ other.newest)) × AllByRecursion (λ (other : KnownRun). other.newest ≤ n) runs

greatest-more : (run : KnownRun) (runs : List KnownRun) → (n : ℕ) × IsGreatest (run ∷ runs) n
greatest-more run [] = (run.newest, ((run, here run [], refl), (omega arith, tt)))
greatest-more run (other ∷ runs) =
    let (n, ((one, there, is), all)) = greatest-more other runs in
    at n one there is all (nat_le run.newest n) refl
  where
    raise : (n m : ℕ) (rs : List KnownRun) → n ≤ m → AllByRecursion (λ (r : KnownRun). r.newest ≤ n) rs → AllByRecursion (λ (r : KnownRun). r.newest ≤ m) rs
    raise n m [] less all = tt
    raise n m (r ∷ rs) less all = (let low = all.0 in omega (arith, low, less), raise n m rs less all.1)

    at : (n : ℕ) (one : KnownRun) → Contains (other ∷ runs) one → n ≡ one.newest → AllByRecursion (λ (r : KnownRun). r.newest ≤ n) (other ∷ runs) → (t : Bool)
        → nat_le run.newest n ≡ t → (m : ℕ) × IsGreatest (run ∷ other ∷ runs) m
    at n one there is all true low = (n, ((one, more run (other ∷ runs) one there, is), (grind (arith, nat_tests), all)))
    at n one there is all false high = (run.newest, ((run, here run (other ∷ runs), refl), (omega arith, raise n run.newest (other ∷ runs) (grind (arith, nat_tests)) all)))

pub greatest-newest : (runs : List KnownRun) → runs ≢ [] → (n : ℕ) × IsGreatest runs n
greatest-newest [] some = absurd (some refl)
greatest-newest (run ∷ runs) some = greatest-more run runs

-- ---- what is known of a group at its base, and still there

-- what the laws of lower crates say
abbrev pub StillHolds : Type 0
StillHolds = (f : Files) (p : Past) (s : TableSchema) (entries : List Entry) (g : Group) (t : Taking) (x : Snapshot) (c : Contents) → Stands f p
    → p.history ≡ table s entries → IsTaken s p.since (λ n. p.runs n g) (length entries) t → HasCommit (p.stood (length entries)) s (length entries) x c
    → HaveLiveFiles (live_in c) g t.taken → StillStands s g entries (λ n. p.runs n g) t

abbrev pub MadeStands : Type 0
MadeStands = (s : TableSchema) (drop : Bool) (level newest : ℕ) (names : Naming) (rests : List Rest) (files : List RunFile) (taken older : List KnownRun)
    → DropsNoEffect (meaning_of s) → from_oldest taken ≡ runs_in rests → (drop ≡ true → (level ≡ top_of s) × (older ≡ []))
    → (are : AreRewritten s (meaning_of s) drop level names rests files) → MayTakePlace s level taken older (made_run level newest are.run files)

first-file : (ms : List FileMeta) → 0 < length ms → (m : FileMeta) × Contains ms m
first-file [] some = absurd (omega (arith, some))
first-file (m ∷ ms) some = (m, here m ms)

not-false : (b : Bool) → not b ≡ false → b ≡ true
not-false true is = refl
not-false false is = absurd (true≢false is)

module _ (left : LeftJoined) (read : ReadEntries) (stored : TakenStored) (me : Actor) (f : Files) (p : Past) (s : TableSchema) (entries : List Entry)
    (base : ℕ) (known : KnowsTable f s entries p) (least : 1 ≤ base) (since : p.since ≤ base) (to : base ≤ length entries)
    (x : RewrittenGroup) (is : IsRewrittenAt me s base p x) where
  abbrev g : Group
  g = x.group

  abbrev t : Taking
  t = x.taking

  -- the runs at the base, as they stood
  was : p.runs base g ≡ t.taken ++ t.rest
  was = ap (λ (n : ℕ). p.runs n g) (sym is.based) ∙ is.took.was

  at-base : AreInFiles (p.stood base) s base g (p.runs base g)
  at-base = known.runs.stood base g since to

  taken-there : (r : KnownRun) → Contains t.taken r → Contains (p.runs base g) r
  taken-there r h = subst (λ (rs : List KnownRun). Contains rs r) (sym was) (Contains-append_left t.taken t.rest r h)

  rests-stored : AreStored (meaning_of s) (runs_in is.rests)
  rests-stored = subst (AreStored (meaning_of s)) (sym is.read)
      (stored s g entries base t.taken t.rest (subst (AreKnownAt s g entries base) was ((known.runs.succession g).known base since to))
      (subst (λ (rs : List KnownRun). All IsRising (from_oldest rs)) was (all-rising left read (p.stood base) s base g (p.runs base g) least at-base)))

  -- the files that were made are read as their run, and each as its own rows
  pub read-again : IsRun s (bytes_of x.files) is.made.run × HaveOwnRows s x.files is.made.run
  read-again = is.made.again refl rests-stored
      (subst (AllByRecursion (λ (y : Stamped). y.seq ≤ most_sequence)) (ap all_rows (sym is.read))
      (numbered left read (p.stood base) s base g (p.runs base g) least at-base t.taken taken-there))

  pub made-in-turn : OneName → Pairs ComesBefore (metas_of x.files)
  made-in-turn one = in-turn one s most_in_file t.out me base x.names is.made.run x.files is.names read-again.0.rising is.made.files

  -- each of the runs has a file
  pub taken-file : (r : KnownRun) → Contains t.taken r → (m : FileMeta) × Contains r.files m
  taken-file r h =
      let there : RunsThere (p.stood base) s base g (map view_of (p.runs base g)) =
      runs-there (p.stood base) s base g (map view_of (p.runs base g)) least at-base.are in
      first-file r.files (each-of IsLevelRun (map view_of (p.runs base g)) (view_of r) there.own.made.each
      (map-in view_of (p.runs base g) r (taken-there r h))).some

  -- up to the newest snapshot
  pub took-there : IsTaken s p.since (λ n. p.runs n x.group) (length entries) x.taking
  took-there = record {
    from = is.took.from;
    after_origin = is.took.after_origin;
    to = (let based = is.based in omega (arith, based, to));
    was = is.took.was;
    some = is.took.some;
    positive = is.took.positive;
    within = is.took.within;
    low = is.took.low;
    high = is.took.high;
  }

  -- each of them has a live file, where those that go are live
  pub live-files : OneId → (live : Live) (es removed : List files.Entry) → AreLive live es → first_not_live es removed ≡ None
      → ((m : FileMeta) → Contains (files_of (map view_of x.taking.taken)) m → Contains removed (live_entry s x.group m)) → HaveLiveFiles live x.group x.taking.taken
  live-files one live es removed are none goes r h =
      let (m, has) = taken-file r h in
      let gone : Contains removed (live_entry s g m) = goes m (flat-in (λ (run : RunView). run.files) (map view_of t.taken) (view_of r) m (map-in view_of t.taken r h) has) in
      let (e, there, same) = any-in (λ (other : files.Entry). id_eq (id_of other) (id_of (live_entry s g m))) es
      (not-false (is_of_any es (live_entry s g m)) (none-found (λ (e : files.Entry). not (is_of_any es e)) removed none (live_entry s g m) gone)) in
      let id : id_of e ≡ id_of (live_entry s g m) = (one (id_of e) (id_of (live_entry s g m))).0 same in
      (m, e, has, (are.exact e).0 there, ap (λ (i : FileId). i.group) id, ap (λ (i : FileId). i.name) id, ap (λ (i : FileId). i.level) id)

  -- ---- each key of the run that was made is that of a row of the group

  -- a key that a run has which was taken is that of a row of the group
  taken-row : (r : KnownRun) (y : Stamped) (key : Values) → Contains t.taken r → Contains r.rows y → y.key ≡ key → HasRowOf s g key
  taken-row r y key taken h own =
      let runs = p.runs base g in
      let rows = rows_in s g (rows_up_to entries base) in
      let known_at = (known.runs.succession g).known base since to in
      let (q, covered, is_taken) = covered-row (meaning_of s) (oldest_first (λ level. true) (map without_files runs)) rows r.rows key known_at.stand.all
      (run-there runs r (taken-there r taken)) (has-key key r.rows y h own) in
      record { row = q.1; fits = is_taken.fits; group = of-group s g (rows_up_to entries base) q covered; own = is_taken.of_key }

  -- a key that the runs have which were merged
  read-row : (y : Stamped) (key : Values) → Contains (all_rows (runs_in is.rests)) y → y.key ≡ key → HasRowOf s g key
  read-row y key h own =
      let (run, in_runs, in_run) = in-flat (λ (run : Run). run) (runs_in is.rests) y h in
      let (r, taken, rows_are) = from-taken t.taken run (subst (λ (rs : List Run). Contains rs run) is.read in_runs) in
      taken-row r y key taken (subst (λ (rows : Run). Contains rows y) (sym rows_are) in_run) own

  pub made-key : (key : Values) → Contains (keys_of is.made.run) key → HasRowOf s g key
  made-key key h =
      let (y, in_run, same) = in-map (λ (y : Stamped). y.key) is.made.run key h in
      let (merged, merge, kept) = is.made.is in
      let old : Contains merged y = kept-in (meaning_of s) x.whole merged y (subst (λ (rows : Run). Contains rows y) kept in_run) in
      let some : of_key key (all_rows (runs_in is.rests)) ≢ [] = λ none. has-key key merged y old same ((merge.keys key).1 none) in
      let (z, among, own) = some-of-key key (all_rows (runs_in is.rests)) some in
      read-row z key among own

  -- ---- the run that was made is new

  pub made-new : HasNamedNone me p → IsTableOf s p.history → count_of p.history ≡ length entries → (r : KnownRun) → r.files ≢ []
      → ((m : FileMeta) → Contains r.files m → Contains (metas_of x.files) m) → IsNew p.since (λ n. p.runs n x.group) (length entries) r
  made-new none is_table many r some made = record { some = some; names = at }
    where
      by : (m : FileMeta) → Contains (metas_of x.files) m → IsNamedBy me (data_path s g m.name)
      by m h =
          let (own, there, same) = in-map (λ (f : RunFile). f.meta) x.files m h in
          let (j, within, name) = named-file s most_in_file t.out x.names is.made.run x.files own is.made.files there in
          named-by me base (length x.files) x.names is.names s g m.name j within (ap (λ (m : FileMeta). m.name) (sym same) ∙ name)

      at : (id : ℕ) (other : KnownRun) (a b : FileMeta) → p.since ≤ id → id ≤ length entries → Contains (p.runs id g) other → Contains r.files a → Contains other.files b
          → a.name ≢ b.name
      at zero other a b low high there in_a in_b name =
          in-none other (subst (λ (rs : List KnownRun). Contains rs other) (origin-none (p.runs 0 g) (known.runs.stood 0 g low high).are) there)
      at (suc id) other a b low high there in_a in_b name =
          let named : Names (p.stood (suc id)) s (suc id) (data_path s g b.name) =
          file-named (p.stood (suc id)) s (suc id) g (p.runs (suc id) g) other b (known.runs.stood (suc id) g low high) there in_b in
          let is_known : IsKnown p (suc id) = record {
            after_origin = omega arith;
            from = known.runs.from (suc id) (omega arith) low;
            to = omega (arith, high, many);
          } in
          none s (suc id) (data_path s g b.name) is_table is_known named
          (subst (λ (name : List ℕ). IsNamedBy me (data_path s g name)) name (by a (made a in_a)))
