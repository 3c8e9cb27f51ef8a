-- What a reader takes of the files of a run, of a group, and of groups.
use Rattle.std.proofs.Common.{◌≡◌, ◌≢◌, ℕ, ◌<◌, List, [], ◌∷◌, ◌++◌, length, map, reverse, Bool, true, false, ◌&&◌, Option, Some, None, Ok, Err, Less, refl, sym, ap, subst, ◌∙◌, append_assoc, append-nil, arith}
use Rattle.std.specs.FinMap as paths
use Rattle.std.specs.List.{AllByRecursion, AllZip}
use Rattle.std.specs.List.Sorted.{IsStrictlySortedBy}
use Rattle.std.specs.Ordering.{is_lt}
use Rattle.std.proofs.lemmas.Bool.{and_parts}
use Rattle.std.proofs.lemmas.List.{map-append}
use Rattle.pm_store.specs.Files.{Files}
use Rattle.pm_values.specs.Order.{Values, key_cmp}
use Rattle.pm_values.specs.declared.file_meta.FileMeta.{FileMeta}
use Rattle.pm_values.specs.declared.group.Group.{Group}
use Rattle.pm_values.specs.declared.record.Stamped.{Stamped}
use Rattle.pm_values.specs.declared.refusal.Refusal.{Refusal}
use Rattle.pm_values.specs.declared.refusal.Refusal.TheVariants.{Memory}
use Rattle.pm_schema.specs.declared.schema.TableSchema.{TableSchema}
use Rattle.pm_engine.specs.Covers.{Run}
use Rattle.pm_levels.specs.Runs.{IsRun, RunView, files_of}
use Rattle.pm_scan_rows.specs.Group.{GroupRead, runs_read}
use Rattle.pm_model_contents.specs.Runs.{data_path}
use Rattle.pm_run.specs.Order.{are_in_order, keys_of, last_key, may_follow}
use Rattle.pm_run.specs.Reader.{OpensRun, RunView as ReaderView, StillGives, before_first}
use Rattle.pm_run.specs.Rows.{Follow, HasRows, Opened, opened_with}
use Rattle.pm_run.specs.Writing.{AreRising}
use Rattle.pm_model_folder.specs.Stored.{HasFile, HasRun, HaveFileRows}
use Rattle.pm_runs.specs.Stand.{StoredRun}
use Rattle.pm_group_files.specs.Collected.{Closes, ClosesKept, Collected, HasMore, HaveTaken, RefusesFile, Takes, TakesWhere, collected_of, group_closed, misread, run_closed, unopened}
use Rattle.pm_group_files.specs.Collected.{with_groups, with_kept, with_rows}
use Rattle.pm_group_files.specs.Jobs.{Grouped, Wanted, all_wanted, file_jobs, file_jobs_as, job_of, jobs_with, run_jobs, run_jobs_as, wanted_jobs, whole_groups}
use Rattle.pm_group_files.specs.Meaning.{HasRuns, HaveBytes, IsReadAs}
use Rattle.pm_group_files.specs.declared.job.Ends.{Ends}
use Rattle.pm_group_files.specs.declared.job.Ends.TheVariants as ends
use Rattle.pm_group_files.specs.declared.job.Job.{Job}

AllZip-append : {A B : Type 0} (R : A → B → Type 0) (xs us : List A) (ys vs : List B) → AllZip R xs ys → AllZip R us vs → AllZip R (xs ++ us) (ys ++ vs)
AllZip-append R [] us [] vs first then = then
AllZip-append R [] us (y ∷ ys) vs first then = absurd first
AllZip-append R (x ∷ xs) us [] vs first then = absurd first
AllZip-append R (x ∷ xs) us (y ∷ ys) vs first then = (first.0, AllZip-append R xs us ys vs first.1 then)

-- ---- the laws of the crates below

-- of the rows of files
pub record RowLaws : Type 0 where
  pub one_rows : (o : Opened) (offset : ℕ) (before : Option Values) (rows others : List Stamped) (end other : Option Refusal) → Follow o offset before rows end → Follow o offset before others other
      → (rows ≡ others) × (end ≡ other)
  pub in_order : (o : Opened) (offset : ℕ) (before : Option Values) (rows : List Stamped) (end : Option Refusal) → Follow o offset before rows end → are_in_order o.changes before rows ≡ true
  pub after_other : (o : Opened) (offset : ℕ) (before other : Option Values) (rows : List Stamped) → Follow o offset before rows None → are_in_order o.changes other rows ≡ true
      → Follow o offset other rows None
  pub gives : (s : TableSchema) (changes : Bool) (path bytes : List ℕ) (v : ReaderView) (rows : List Stamped) → HasRows s changes bytes rows → OpensRun s changes s.id path bytes (Ok v) → StillGives v rows None
  pub opens : (s : TableSchema) (changes : Bool) (path bytes : List ℕ) (rows : List Stamped) (e : Refusal) → HasRows s changes bytes rows → OpensRun s changes s.id path bytes (Err e) → e ≡ Memory

-- ---- one file after another

-- what files make of what was collected is what the later ones make of what the first make
pub taken-split : (f : Files) (first later : List Job) (old new : Collected) → HaveTaken f (first ++ later) old new
    → (middle : Collected) × HaveTaken f first old middle × HaveTaken f later middle new
taken-split f [] later old new t = (old, refl, t)
taken-split f (job ∷ first) later old new t =
    let rest = taken-split f first later t.1 new t.4 in
    (rest.0, (t.0, t.1, t.2, t.3, rest.1), rest.2)

pub taken-join : (f : Files) (first later : List Job) (old middle new : Collected) → HaveTaken f first old middle → HaveTaken f later middle new → HaveTaken f (first ++ later) old new
taken-join f [] later old middle new a b = subst (λ c. HaveTaken f later c new) a b
taken-join f (job ∷ first) later old middle new a b = (a.0, a.1, a.2, a.3, taken-join f first later a.1 middle new a.4 b)

-- one file more
pub taken-more : (f : Files) (done : List Job) (job : Job) (bytes : List ℕ) (old middle new : Collected) → HaveTaken f done old middle → paths.get f job.path ≡ Some bytes → Takes job bytes middle new
    → HaveTaken f (done ++ job ∷ []) old new
taken-more f done job bytes old middle new taken there takes = taken-join f done (job ∷ []) old middle new taken (bytes, new, there, takes, refl)

-- what is collected is of one schema
closed-schema : (end : Ends) (old new : Collected) → Closes end old new → new.schema ≡ old.schema
closed-schema ends.File old new closes = ap (λ (c : Collected). c.schema) closes
closed-schema ends.Run old new closes = ap (λ (c : Collected). c.schema) closes
closed-schema ends.Group old new closes = ap (λ (c : Collected). c.schema) closes

kept-schema : (end : Ends) (old new : Collected) → ClosesKept end old new → new.schema ≡ old.schema
kept-schema ends.File old new closes = ap (λ (c : Collected). c.schema) closes
kept-schema ends.Run old new closes = ap (λ (c : Collected). c.schema) closes
kept-schema ends.Group old new closes = ap (λ (c : Collected). c.schema) closes

pub takes-schema : (job : Job) (bytes : List ℕ) (old new : Collected) → Takes job bytes old new → new.schema ≡ old.schema
takes-schema job bytes old new takes = by job.kept takes
  where
    by : (kept : Bool) → TakesWhere kept job bytes old new → new.schema ≡ old.schema
    by false (more, has, closes) = closed-schema job.ends (with_rows (old.rows ++ more) old) new closes
    by true closes = kept-schema job.ends (with_kept bytes old) new closes

pub taken-schema : (f : Files) (jobs : List Job) (old new : Collected) → HaveTaken f jobs old new → new.schema ≡ old.schema
taken-schema f [] old new taken = ap (λ (c : Collected). c.schema) taken
taken-schema f (job ∷ jobs) old new taken = taken-schema f jobs taken.1 new taken.4 ∙ takes-schema job taken.0 old taken.1 taken.3

-- ---- after groups that were handed out

group-after : (given : List GroupRead) (c : Collected) → with_groups given (group_closed c) ≡ group_closed (with_groups given c)
group-after given c =
    ap (λ (groups : List GroupRead). record (group_closed c) { groups = groups })
    (sym (append_assoc given c.groups (record { runs = reverse c.runs; kept = c.kept } ∷ [])))

closed-after : (given : List GroupRead) (end : Ends) (old new : Collected) → Closes end old new → Closes end (with_groups given old) (with_groups given new)
closed-after given ends.File old new closes = ap (with_groups given) closes
closed-after given ends.Run old new closes = ap (with_groups given) closes
closed-after given ends.Group old new closes = ap (with_groups given) closes ∙ group-after given (run_closed old)

kept-after : (given : List GroupRead) (end : Ends) (old new : Collected) → ClosesKept end old new → ClosesKept end (with_groups given old) (with_groups given new)
kept-after given ends.File old new closes = ap (with_groups given) closes
kept-after given ends.Run old new closes = ap (with_groups given) closes
kept-after given ends.Group old new closes = ap (with_groups given) closes ∙ group-after given old

-- a file makes the same of what was collected after them
pub takes-after : (given : List GroupRead) (job : Job) (bytes : List ℕ) (old new : Collected) → Takes job bytes old new
    → Takes job bytes (with_groups given old) (with_groups given new)
takes-after given job bytes old new takes = by job.kept takes
  where
    by : (kept : Bool) → TakesWhere kept job bytes old new → TakesWhere kept job bytes (with_groups given old) (with_groups given new)
    by false (more, has, closes) = (more, has, closed-after given job.ends (with_rows (old.rows ++ more) old) new closes)
    by true closes = kept-after given job.ends (with_kept bytes old) new closes

-- ---- rows after others

both : (a b : Bool) → a ≡ true → b ≡ true → (a && b) ≡ true
both a b p q = rw (p, q) refl

above-in_order : (last : Values) (rows : List Stamped) → AllByRecursion (λ (y : Values). key_cmp last y ≡ Less) (keys_of rows) → IsStrictlySortedBy key_cmp (keys_of rows) → are_in_order false (Some last) rows ≡ true
unfolding IsStrictlySortedBy
above-in_order last [] above rising = refl
above-in_order last (x ∷ rows) above rising = both (may_follow false (Some last) x.key) (are_in_order false (Some x.key) rows) (ap is_lt above.0) (above-in_order x.key rows rising.0 rising.1)

-- rows whose keys rise are in the order of a data file
pub rising-in_order : (rows : List Stamped) → AreRising rows → are_in_order false None rows ≡ true
unfolding IsStrictlySortedBy
rising-in_order [] rising = refl
rising-in_order (x ∷ rows) rising = above-in_order x.key rows rising.0 rising.1

-- rows in order after a key are in order after none
in_order-first : (changes : Bool) (before : Option Values) (rows : List Stamped) → are_in_order changes before rows ≡ true → are_in_order changes None rows ≡ true
in_order-first changes before [] e = refl
in_order-first changes before (x ∷ rows) e = (and_parts (may_follow changes before x.key) (are_in_order changes (Some x.key) rows) e).1

-- of rows in order the later ones are in order after the first
pub in_order-after : (changes : Bool) (before : Option Values) (xs ys : List Stamped) → are_in_order changes before (xs ++ ys) ≡ true → are_in_order changes (last_key before xs) ys ≡ true
in_order-after changes before [] ys e = e
in_order-after changes before (x ∷ xs) ys e = in_order-after changes (Some x.key) xs ys (and_parts (may_follow changes before x.key) (are_in_order changes (Some x.key) (xs ++ ys)) e).1

-- ---- one file

module _ (laws : RowLaws) (f : Files) (s : TableSchema) (g : Group) where
  -- the file has its rows after those before it, with which they rise
  pub file-more : (m : FileMeta) (own : List Stamped) (end : Ends) (bytes : List ℕ) (before : Run) → HasFile f s false g m own → paths.get f (data_path s g m.name) ≡ Some bytes → AreRising (before ++ own)
      → HasMore s (job_of s g end m) bytes before own
  file-more m own end bytes before has there rising =
      let found : Some has.bytes ≡ Some bytes = sym has.there ∙ there in
      let same : has.bytes ≡ bytes = cc in
      let rows : HasRows s false bytes own = subst (λ b. HasRows s false b own) same has.read in
      let path : List ℕ = data_path s g m.name in
      let o : Opened = opened_with s false path rows.0 in
      let order : are_in_order false (last_key None before) own ≡ true = in_order-after false None before own (rising-in_order (before ++ own) rising) in
      (before_first o, (has.schema, rows.0, rows.1, rows.2, refl), laws.after_other o o.file.first None (last_key None before) own (rows.3 path) order)

  -- whoever has opened it is given its rows
  own-follow : (m : FileMeta) (own : List Stamped) (bytes : List ℕ) (v : ReaderView) → HasFile f s false g m own → paths.get f (data_path s g m.name) ≡ Some bytes
      → OpensRun s false m.schema_id (data_path s g m.name) bytes (Ok v) → Follow v.opened v.opened.file.first None own None
  own-follow m own bytes v has there opens =
      let found : Some has.bytes ≡ Some bytes = sym has.there ∙ there in
      let same : has.bytes ≡ bytes = cc in
      let rows : HasRows s false bytes own = subst (λ b. HasRows s false b own) same has.read in
      let path : List ℕ = data_path s g m.name in
      let opened : OpensRun s false s.id path bytes (Ok v) = subst (λ id. OpensRun s false id path bytes (Ok v)) has.schema opens in
      let o : Opened = opened_with s false path opened.1 in
      let still : StillGives (before_first o) own None = subst (λ w. StillGives w own None) opened.4 (laws.gives s false path bytes v own rows opened) in
      let whole : Follow o o.file.first None own None = subst (λ xs. Follow o o.file.first None xs None) (sym still.1) still.2 in
      subst (λ (w : ReaderView). Follow w.opened w.opened.file.first None own None) (sym opened.4) whole

  -- whatever is read of it are its rows
  pub more-own : (m : FileMeta) (own : List Stamped) (end : Ends) (bytes : List ℕ) (before : Run) (more : List Stamped) → HasFile f s false g m own → paths.get f (data_path s g m.name) ≡ Some bytes
      → HasMore s (job_of s g end m) bytes before more → more ≡ own
  more-own m own end bytes before more has there read =
      let v : ReaderView = read.0 in
      let o : Opened = v.opened in
      let order : are_in_order o.changes None more ≡ true = in_order-first o.changes (last_key None before) more (laws.in_order o o.file.first (last_key None before) more None read.2) in
      (laws.one_rows o o.file.first None more own None None (laws.after_other o o.file.first (last_key None before) None more read.2 order) (own-follow m own bytes v has there read.1)).0

  -- it is refused only where memory runs out, after rows with which its own rise
  pub file-refused : (m : FileMeta) (own : List Stamped) (end : Ends) (bytes : List ℕ) (before : Run) (refusal : Refusal) → HasFile f s false g m own → paths.get f (data_path s g m.name) ≡ Some bytes
      → AreRising (before ++ own) → RefusesFile s (job_of s g end m) bytes before refusal → refusal ≡ Memory
  file-refused m own end bytes before refusal has there rising (unopened refused) =
      let found : Some has.bytes ≡ Some bytes = sym has.there ∙ there in
      let same : has.bytes ≡ bytes = cc in
      let rows : HasRows s false bytes own = subst (λ b. HasRows s false b own) same has.read in
      let path : List ℕ = data_path s g m.name in
      laws.opens s false path bytes own refusal rows (subst (λ id. OpensRun s false id path bytes (Err refusal)) has.schema refused)
  file-refused m own end bytes before refusal has there rising (misread v more opens follows) =
      let o : Opened = v.opened in
      let changes : false ≡ o.changes = sym (ap (λ (w : ReaderView). w.opened.changes) opens.4) in
      let order : are_in_order o.changes (last_key None before) own ≡ true =
      subst (λ c. are_in_order c (last_key None before) own ≡ true) changes (in_order-after false None before own (rising-in_order (before ++ own) rising)) in
      let same = laws.one_rows o o.file.first (last_key None before) own more None (Some refusal) (laws.after_other o o.file.first None (last_key None before) own (own-follow m own bytes v has there opens) order) follows in
      let no : None ≡ Some refusal = same.1 in
      cc

  -- so its rows are put to those before it
  pub file-taken : (m : FileMeta) (own : List Stamped) (end : Ends) (bytes : List ℕ) (c : Collected) (new : Collected) → c.schema ≡ s → HasFile f s false g m own
      → paths.get f (data_path s g m.name) ≡ Some bytes → Takes (job_of s g end m) bytes c new → Closes end (with_rows (c.rows ++ own) c) new
  file-taken m own end bytes c new same has there (more, is, closes) =
      let read : HasMore s (job_of s g end m) bytes c.rows more = subst (λ (t : TableSchema). HasMore t (job_of s g end m) bytes c.rows more) same is in
      subst (λ (rows : List Stamped). Closes end (with_rows (c.rows ++ rows) c) new) (more-own m own end bytes c.rows more has there read) closes

  -- ---- a run

  files-taken : (m : FileMeta) (ms : List FileMeta) (rows : List Stamped) (end : Ends) (c new : Collected) → c.schema ≡ s → HaveFileRows f s g (m ∷ ms) rows
      → HaveTaken f (file_jobs s g end (m ∷ ms)) c new → Closes end (with_rows (c.rows ++ rows) c) new
  files-taken m [] rows end c new same have taken =
      let whole : have.0 ≡ rows = sym (have.2 ∙ ap (λ l. have.0 ++ l) have.4 ∙ append-nil have.0) in
      let closes = file-taken m have.0 end taken.0 c taken.1 same have.3 taken.2 taken.3 in
      subst (λ r. Closes end (with_rows (c.rows ++ r) c) new) whole (subst (λ d. Closes end (with_rows (c.rows ++ have.0) c) d) (sym taken.4) closes)
  files-taken m (n ∷ ms) rows end c new same have taken =
      let here : taken.1 ≡ with_rows (c.rows ++ have.0) c = file-taken m have.0 ends.File taken.0 c taken.1 same have.3 taken.2 taken.3 in
      let rest : HaveTaken f (file_jobs s g end (n ∷ ms)) (with_rows (c.rows ++ have.0) c) new = subst (λ d. HaveTaken f (file_jobs s g end (n ∷ ms)) d new) here taken.4 in
      let later = files-taken n ms have.1 end (with_rows (c.rows ++ have.0) c) new same have.4 rest in
      subst (λ r. Closes end (with_rows r c) new) (append_assoc c.rows have.0 have.1 ∙ ap (λ r. c.rows ++ r) (sym have.2)) later

  pub run-taken : (files : List FileMeta) (rows : List Stamped) (end : Ends) (c new : Collected) → c.schema ≡ s → 0 < length files → HaveFileRows f s g files rows
      → HaveTaken f (file_jobs s g end files) c new → Closes end (with_rows (c.rows ++ rows) c) new
  run-taken [] rows end c new same some have taken = let no : 0 < 0 = some in let never : ⊥ = omega arith in absurd never
  run-taken (m ∷ ms) rows end c new same some have taken = files-taken m ms rows end c new same have taken

  -- ---- runs that are read

  abbrev rows_of : List StoredRun → List Run
  rows_of stored = map (λ (r : StoredRun). r.rows) stored

  -- with these runs more, and no run in hand
  abbrev with_runs : List Run → Collected → Collected
  with_runs runs c = record c { runs = c.runs ++ runs; rows = [] }

  -- with the last of them this ends: the run, or with it the group
  abbrev AfterRuns : Ends → List Run → Collected → Collected → Type 0
  AfterRuns ends.File runs c new = ⊥
  AfterRuns ends.Run runs c new = new ≡ with_runs runs c
  AfterRuns ends.Group runs c new = new ≡ group_closed (with_runs runs c)

  after-more : (end : Ends) (run : Run) (runs : List Run) (c new : Collected) → AfterRuns end runs (with_runs (run ∷ []) c) new → AfterRuns end (run ∷ runs) c new
  after-more ends.File run runs c new after = after
  after-more ends.Run run runs c new after =
      after ∙ ap (λ (all : List Run). record c { runs = all; rows = [] }) (append_assoc c.runs (run ∷ []) runs)
  after-more ends.Group run runs c new after =
      after ∙ ap (λ (all : List Run). group_closed (record c { runs = all; rows = [] })) (append_assoc c.runs (run ∷ []) runs)

  -- the last run closes what ends with it
  last-run : (end : Ends) (run : Run) (c new : Collected) → (end ≡ ends.File → ⊥) → c.rows ≡ [] → Closes end (with_rows (c.rows ++ run) c) new → AfterRuns end (run ∷ []) c new
  last-run ends.File run c new more none closes = absurd (more refl)
  last-run ends.Run run c new more none closes = closes ∙ ap (λ (rows : Run). record c { runs = c.runs ++ (rows ++ run) ∷ []; rows = [] }) none
  last-run ends.Group run c new more none closes =
      closes ∙ ap (λ (rows : Run). group_closed (record c { runs = c.runs ++ (rows ++ run) ∷ []; rows = [] })) none

  pub runs-taken : (run : RunView) (older : List RunView) (stored : List StoredRun) (end : Ends) (c new : Collected) → (end ≡ ends.File → ⊥) → c.schema ≡ s → c.rows ≡ []
      → AllByRecursion IsRun (run ∷ older) → AllZip (HasRun f s g) (run ∷ older) stored → HaveTaken f (run_jobs_as false s g end (run ∷ older)) c new
      → AfterRuns end (rows_of stored) c new
  runs-taken run [] [] end c new more same none each read taken = absurd read
  runs-taken run [] (x ∷ []) end c new more same none each read taken =
      last-run end x.rows c new more none (run-taken run.files x.rows end c new same each.0.some read.0.files taken)
  runs-taken run [] (x ∷ y ∷ xs) end c new more same none each read taken = absurd read.1
  runs-taken run (next ∷ older) [] end c new more same none each read taken = absurd read
  runs-taken run (next ∷ older) (x ∷ xs) end c new more same none each read taken =
      let parts = taken-split f (file_jobs s g ends.Run run.files) (run_jobs_as false s g end (next ∷ older)) c new taken in
      let here : parts.0 ≡ with_runs (x.rows ∷ []) c =
      last-run ends.Run x.rows c parts.0 (λ e. let clash : ends.Run ≡ ends.File = e in cc) none (run-taken run.files x.rows ends.Run c parts.0 same each.0.some read.0.files parts.1) in
      let rest = subst (λ d. HaveTaken f (run_jobs_as false s g end (next ∷ older)) d new) here parts.2 in
      after-more end x.rows (rows_of xs) c new
      (runs-taken next older xs end (with_runs (x.rows ∷ []) c) new more same refl each.1 read.1 rest)

  -- ---- files that are kept

  kept-files : (m : FileMeta) (ms : List FileMeta) (end : Ends) (c new : Collected) → HaveTaken f (file_jobs_as true s g end (m ∷ ms)) c new
      → (bytes : List (List ℕ)) × HaveBytes f s g (m ∷ ms) bytes × ClosesKept end (record c { kept = c.kept ++ bytes }) new
  kept-files m [] end c new (bytes, middle, there, takes, rest) =
      (bytes ∷ [], (there, tt), subst (λ d. ClosesKept end (with_kept bytes c) d) (sym rest) takes)
  kept-files m (n ∷ ms) end c new (bytes, middle, there, takes, rest) =
      let next = subst (λ d. HaveTaken f (file_jobs_as true s g end (n ∷ ms)) d new) takes rest in
      let (later, have, closes) = kept-files n ms end (with_kept bytes c) new next in (
        bytes ∷ later,
        (there, have),
        subst (λ (kept : List (List ℕ)). ClosesKept end (record c { kept = kept }) new) (append_assoc c.kept (bytes ∷ []) later) closes,
      )

  -- of runs that have files
  kept-run : (files : List FileMeta) (end : Ends) (c new : Collected) → 0 < length files → HaveTaken f (file_jobs_as true s g end files) c new
      → (bytes : List (List ℕ)) × HaveBytes f s g files bytes × ClosesKept end (record c { kept = c.kept ++ bytes }) new
  kept-run [] end c new some taken = let no : 0 < 0 = some in let never : ⊥ = omega arith in absurd never
  kept-run (m ∷ ms) end c new some taken = kept-files m ms end c new taken

  pub kept-taken : (run : RunView) (older : List RunView) (end : Ends) (c new : Collected) → AllByRecursion IsRun (run ∷ older)
      → HaveTaken f (run_jobs_as true s g end (run ∷ older)) c new
      → (bytes : List (List ℕ)) × HaveBytes f s g (files_of (run ∷ older)) bytes × ClosesKept end (record c { kept = c.kept ++ bytes }) new
  kept-taken run [] end c new each taken =
      let (bytes, have, closes) = kept-run run.files end c new each.0.some taken in
      (bytes, subst (λ (ms : List FileMeta). HaveBytes f s g ms bytes) (sym (append-nil run.files)) have, closes)
  kept-taken run (next ∷ older) end c new each taken =
      let parts = taken-split f (file_jobs_as true s g ends.Run run.files) (run_jobs_as true s g end (next ∷ older)) c new taken in
      let (first, have, closes) = kept-run run.files ends.Run c parts.0 each.0.some parts.1 in
      let rest = subst (λ d. HaveTaken f (run_jobs_as true s g end (next ∷ older)) d new) closes parts.2 in
      let (last, later, ended) = kept-taken next older end (record c { kept = c.kept ++ first }) new each.1 rest in (
        first ++ last,
        AllZip-append (λ (m : FileMeta) (bytes : List ℕ). paths.get f (data_path s g m.name) ≡ Some bytes) run.files (files_of (next ∷ older)) first last have later,
        subst (λ (kept : List (List ℕ)). ClosesKept end (record c { kept = kept }) new) (append_assoc c.kept first last) ended,
      )

-- ---- groups

-- a group is whole, of which this was read
abbrev pub IsWholeAs : Files → TableSchema → Wanted → Collected → Collected → Type 0
IsWholeAs f s w old new = (x : GroupRead) × IsReadAs f s w x × (new ≡ record old { groups = old.groups ++ x ∷ [] })

-- nothing of a group is in hand
pub record IsBetween (s : TableSchema) (c : Collected) : Type 0 where
  pub schema : c.schema ≡ s
  pub runs : c.runs ≡ []
  pub kept : c.kept ≡ []
  pub rows : c.rows ≡ []

module _ (laws : RowLaws) (f : Files) (s : TableSchema) where
  -- nothing is in hand between groups, so a group that ends has what was collected since
  closed-between : (t : TableSchema) (groups : List GroupRead) (done : List Run) (own all : List (List ℕ)) (rows : Run) (runs : List Run) (kept : List (List ℕ))
      → done ≡ [] → own ≡ [] → rows ≡ [] → all ≡ kept
      → collected_of t (groups ++ record { runs = reverse (done ++ runs); kept = all } ∷ []) [] [] [] ≡ collected_of t (groups ++ record { runs = reverse runs; kept = kept } ∷ []) done own rows
  closed-between t groups done own all rows runs kept p q r e = rw (p, q, r, e) refl

  by_parts : (g : Group) (runs kept : List RunView) (stored : List StoredRun) → runs ≢ [] → AllByRecursion IsRun runs → AllByRecursion IsRun kept → AllZip (HasRun f s g) runs stored
      → (c new : Collected) → IsBetween s c → HaveTaken f (jobs_with s g runs kept) c new
      → (bytes : List (List ℕ)) × HaveBytes f s g (files_of kept) bytes × (new ≡ record c { groups = c.groups ++ record { runs = reverse (map (λ (r : StoredRun). r.rows) stored); kept = bytes } ∷ [] })
  by_parts g [] kept stored some each older read c new between taken = absurd (some refl)
  by_parts g (run ∷ runs) [] stored some each older read c new between taken =
      let rows : List Run = map (λ (r : StoredRun). r.rows) stored in
      let after : new ≡ group_closed (record c { runs = c.runs ++ rows; rows = [] }) =
      runs-taken laws f s g run runs stored ends.Group c new (λ e. let clash : ends.Group ≡ ends.File = e in cc) between.schema between.rows each read taken in
      ([], tt, after ∙ closed-between c.schema c.groups c.runs c.kept c.kept c.rows rows [] between.runs between.kept between.rows between.kept)
  by_parts g (run ∷ runs) (first ∷ kept) stored some each older read c new between taken =
      let rows : List Run = map (λ (r : StoredRun). r.rows) stored in
      let read_now : Collected = record c { runs = c.runs ++ rows; rows = [] } in
      let parts = taken-split f (run_jobs_as false s g ends.Run (run ∷ runs)) (run_jobs_as true s g ends.Group (first ∷ kept)) c new taken in
      let after : parts.0 ≡ read_now =
      runs-taken laws f s g run runs stored ends.Run c parts.0 (λ e. let clash : ends.Run ≡ ends.File = e in cc) between.schema between.rows each read parts.1 in
      let rest = subst (λ (d : Collected). HaveTaken f (run_jobs_as true s g ends.Group (first ∷ kept)) d new) after parts.2 in
      let (bytes, have, closes) = kept-taken laws f s g first kept ends.Group read_now new older rest in (
        bytes,
        have,
        closes ∙ closed-between c.schema c.groups c.runs c.kept (c.kept ++ bytes) c.rows rows bytes between.runs between.kept between.rows (ap (λ (own : List (List ℕ)). own ++ bytes) between.kept),
      )

  -- a group is whole: its runs were read, and its older files are there
  pub one-group : (w : Wanted) → HasRuns f s (w.group, w.runs) → AllByRecursion IsRun w.kept → (c new : Collected) → IsBetween s c → HaveTaken f (wanted_jobs s w) c new
      → IsWholeAs f s w c new
  one-group w has kept c new between taken =
      let (bytes, have, whole) = by_parts w.group w.runs w.kept has.stored has.some has.each kept has.read c new between taken in (
        record { runs = reverse (map (λ (r : StoredRun). r.rows) has.stored); kept = bytes },
        record { stored = has.stored; read = has.read; are = refl; kept = have },
        whole,
      )

  -- what all groups are, one after another
  pub groups-taken : (groups : List Wanted) → AllByRecursion (λ (w : Wanted). HasRuns f s (w.group, w.runs) × AllByRecursion IsRun w.kept) groups → (c final : Collected) → IsBetween s c
      → HaveTaken f (all_wanted s groups) c final → (xs : List GroupRead) × AllZip (IsReadAs f s) groups xs × (final ≡ record c { groups = c.groups ++ xs })
  groups-taken [] have c final between taken = ([], tt, taken ∙ ap (λ (groups : List GroupRead). record c { groups = groups }) (sym (append-nil c.groups)))
  groups-taken (w ∷ groups) have c final between taken =
      let parts = taken-split f (wanted_jobs s w) (all_wanted s groups) c final taken in
      let (x, is, whole) = one-group w have.0.0 have.0.1 c parts.0 between parts.1 in
      let rest = subst (λ (d : Collected). HaveTaken f (all_wanted s groups) d final) whole parts.2 in
      let (xs, are, all) = groups-taken groups have.1 (record c { groups = c.groups ++ x ∷ [] }) final
      (record { schema = between.schema; runs = between.runs; kept = between.kept; rows = between.rows }) rest in
      (x ∷ xs, (is, are), all ∙ ap (λ (gs : List GroupRead). record c { groups = gs }) (append_assoc c.groups (x ∷ []) xs))

-- ---- groups of which all is read

-- their runs, the oldest first
unfoldable pub all_stored : (f : Files) (s : TableSchema) (groups : List Grouped) → AllByRecursion (HasRuns f s) groups → List (List Run)
all_stored f s [] have = []
all_stored f s (e ∷ groups) have = reverse (map (λ (r : StoredRun). r.rows) have.0.stored) ∷ all_stored f s groups have.1

module _ (laws : RowLaws) (f : Files) (s : TableSchema) where
  runs-more : (groups : List GroupRead) (x : GroupRead) (later : List (List Run)) → runs_read (groups ++ x ∷ []) ++ later ≡ runs_read groups ++ (x.runs ∷ later)
  runs-more groups x later =
      ap (λ (first : List (List Run)). first ++ later) (map-append (λ (x : GroupRead). x.runs) groups (x ∷ []))
      ∙ append_assoc (runs_read groups) (x.runs ∷ []) later

  -- they are read, each group's after the other's
  pub whole-runs : (groups : List Grouped) (have : AllByRecursion (HasRuns f s) groups) (c final : Collected) → IsBetween s c
      → HaveTaken f (all_wanted s (whole_groups groups)) c final → runs_read final.groups ≡ runs_read c.groups ++ all_stored f s groups have
  unfolding all_stored
  whole-runs [] have c final between taken = ap (λ (c : Collected). runs_read c.groups) taken ∙ sym (append-nil (runs_read c.groups))
  whole-runs (e ∷ groups) have c final between taken =
      let parts = taken-split f (run_jobs s e.0 e.1) (all_wanted s (whole_groups groups)) c final taken in
      let (bytes, there, whole) = by_parts laws f s e.0 e.1 [] have.0.stored have.0.some have.0.each tt have.0.read c parts.0 between parts.1 in
      let x : GroupRead = record { runs = reverse (map (λ (r : StoredRun). r.rows) have.0.stored); kept = bytes } in
      let rest = subst (λ (d : Collected). HaveTaken f (all_wanted s (whole_groups groups)) d final) whole parts.2 in
      whole-runs groups have.1 (record c { groups = c.groups ++ x ∷ [] }) final
      (record { schema = between.schema; runs = between.runs; kept = between.kept; rows = between.rows }) rest
      ∙ runs-more c.groups x (all_stored f s groups have.1)
