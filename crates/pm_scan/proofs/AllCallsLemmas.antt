-- All calls of a scanner, and what they say where nobody else acts.
use Rattle.std.proofs.Common.{◌≡◌, ◌≢◌, ◌⊎◌, inl, inr, ℕ, ◌<◌, ◌≤◌, List, [], ◌∷◌, ◌++◌, length, take, Option, None, Some, IfSome, IsSome, Result, Ok, Err, IfErr, Vec, refl, sym, ap, subst, ◌∙◌, arith, append_assoc, append-nil}
use Rattle.std.specs.FinMap as map
use Rattle.std.specs.List.{AllByRecursion}
use Rattle.std.specs.Global.{Global}
use Rattle.pm_base.specs.Faults.{Rose}
use Rattle.pm_values.specs.declared.group.Group.{Group}
use Rattle.pm_values.specs.declared.refusal.Refusal.{Refusal}
use Rattle.pm_values.specs.declared.refusal.Refusal.TheVariants as refusals
use Rattle.pm_store.specs.Files.{Files, IsListing}
use Rattle.pm_store.specs.Store.{StoreView, IsLater, at_first_own}
use Rattle.pm_machine.specs.Trace.{Event, Acts, HasTrace, Traces, faulted}
use Rattle.pm_machine.proofs.AloneLaws.{Traces-first}
use Rattle.pm_machine.proofs.Facts.{HasTrace-acts, Traces-faulted, Traces-join, Traces-none}
use Rattle.pm_machine.proofs.PhaseFacts.{Spares}
use Rattle.pm_model_history.specs.History.{Entry, History, IsTableOf, no_table, table}
use Rattle.pm_model_history.specs.Merged.{scan_text}
use Rattle.pm_schema.specs.Again.{IsDeclared}
use Rattle.pm_schema.specs.declared.schema.TableSchema.{TableSchema}
use Rattle.pm_engine.specs.OfSchema.{meaning_of}
use Rattle.pm_scan_rows.specs.Group.{runs_read}
use Rattle.pm_scan_rows.specs.Shown.{PrintsGroups}
use Rattle.pm_model_contents.specs.Groups.{GroupRuns}
use Rattle.pm_model_folder.specs.Folder.{Folder, HasTable}
use Rattle.pm_model_folder.specs.Ledger.{count_of}
use Rattle.pm_model_folder.specs.Meaning.{HasSnapshotAt}
use Rattle.pm_model_folder.specs.Paths.{origin_path, snapshot_folder}
use Rattle.pm_model_folder.specs.Stored.{HasGroup}
use Rattle.pm_model_folder.proofs.Facts.{newest-there}
use Rattle.pm_paths.proofs.ListedLemmas.{latest_is}
use Rattle.pm_read_schema.proofs.AllCallsLemmas as schema
use Rattle.pm_read_schema.proofs.StillLemmas.{AreStill, AreTold, ended_still, failed_still, stayed}
use Rattle.pm_read_table.specs.Asked.{Asked, ListsFirst, asked_of}
use Rattle.pm_read_table.specs.Reader.{IsAbove, IsAsked}
use Rattle.pm_read_table.specs.Trace as reader
use Rattle.pm_read_table.specs.Trace.{HasView, of_origin, of_snapshot}
use Rattle.pm_read_table.specs.declared.phase.Phase.TheVariants as readers
use Rattle.pm_read_table.specs.declared.view.View.{View}
use Rattle.pm_read_table.proofs.Facts as reader_facts
use Rattle.pm_read_table.proofs.StillLemmas.{still_join, view_did_still, view_shows_still, view_still}
use Rattle.pm_read_table.proofs.ViewCallsLemmas.{ViewLaws, entries_of, told_parts}
use Rattle.pm_scan.specs.AllCalls.{DidScan, Ends, Has, IsCaused, IsThere, PassesOf, PrintsRows, PrintsScan, ScansOf, ScansTables, id_of, path_of}
use Rattle.pm_scan.specs.Asked.{AskedRows, asked_at, asked_for, passed_at, wanted_of}
use Rattle.pm_scan.specs.Rows.{groups_of, rows_at}
use Rattle.pm_scan.specs.declared.rows.Rows.{Rows}
use Rattle.pm_scan.specs.declared.rows.Rows.TheVariants as shown
use Rattle.pm_group_files.specs.Collected.{Collected, HaveTaken, nothing_of, with_groups}
use Rattle.pm_group_files.specs.Jobs.{all_jobs}
use Rattle.pm_group_files.specs.Meaning.{HasRuns}
use Rattle.pm_group_files.specs.Trace as files_trace
use Rattle.pm_group_files.specs.declared.job.Job.{Job}
use Rattle.pm_group_files.proofs.StillLemmas as files_still
use Rattle.pm_group_files.proofs.StillLemmas.{whole-wanted}
use Rattle.pm_group_files.proofs.TakenLemmas.{taken-schema}
use Rattle.pm_scan.specs.Meaning.{all_of}
use Rattle.pm_scan.specs.Scanner.{next_call, calls_left, IsReady, jobs_of}
use Rattle.pm_scan.specs.Trace.{AfterView, HasScan, DidSoFar, MayTakeMemory, ShowsOfFiles, Shows, Did}
use Rattle.pm_scan.specs.declared.phase.Phase.{Phase}
use Rattle.pm_scan.specs.declared.phase.Phase.TheVariants as phases
use Rattle.pm_group_files.proofs.ViewLemmas.{OneContents, each-own}
use Rattle.pm_scan.proofs.ScanLemmas.{Laws}
use Rattle.pm_scan.proofs.ViewCallsLemmas.{FailsLast, absent_gone, asked_up_to, committed, live_of_part, part_at, path_is, reads_at, view_damaged_at, view_gone_at, view_misreads_at}
use Rattle.pm_scan.proofs.ViewLemmas.{groups-none, no-groups, rows-have, scanned-origin, scanned-view}

-- ---- they change nothing, and the first lists the schemas

-- the view was read, and what came after that changes nothing either
after_still : (a : Asked) (v : View) (P : List Event → Type 0) (own : List Event) → ((reads : List Event) → P reads → AreStill reads) → AfterView a v P own → AreStill own
after_still a v P own still after = subst AreStill (sym after.is) (still_join after.first after.reads (view_still a v after.first after.viewed) (still after.reads after.so))

call_still : (m : Phase) (f : Files) → IfSome (next_call m) (Spares f)
call_still (phases.View k r) f = reader_facts.spares r f
call_still (phases.Files k id r) f = files_still.call_still r f
call_still (phases.Ready k id text) f = tt
call_still phases.Over f = tt

scan_still : (a : AskedRows) (id : ℕ) (text : List ℕ) (own : List Event) → HasScan a id text own → AreStill own
scan_still a id text own scan =
    after_still a.table scan.view (files_trace.HasPart (all_of a.rows scan.view) scan.collected []) own
    (λ reads part. files_still.part_still (all_of a.rows scan.view) scan.collected [] reads part) scan.all_read

so_far_still : (a : AskedRows) (m : Phase) (own : List Event) → IsSome (next_call m) → DidSoFar a m own → AreStill own
so_far_still a (phases.View k r) own called (rows, did) = view_did_still a.table r own called did
so_far_still a (phases.Files k id r) own called (v, rows, same, did) =
    after_still a.table v (files_trace.DidSoFar (all_of a.rows v) r) own (λ reads did. files_still.so_far_still (all_of a.rows v) r reads did) did
so_far_still a (phases.Ready k id text) own called (rows, scan) = scan_still a id text.items own scan
so_far_still a phases.Over own called did = absurd did

files_shows_still : (a : AskedRows) (refusal : Refusal) (own : List Event) → ShowsOfFiles a refusal own → AreStill own
files_shows_still a refusals.Memory own ends = ended_still next_call (DidSoFar a) MayTakeMemory call_still (so_far_still a) own ends
files_shows_still a (refusals.StoreFault path) own failed = failed_still next_call (DidSoFar a) MayTakeMemory call_still (so_far_still a) path own failed
files_shows_still a other own (v, after) =
    after_still a.table v (files_trace.Shows (all_of a.rows v) other) own (λ reads shows. files_still.shows_still (all_of a.rows v) other reads shows) after

shows_still : (a : AskedRows) (refusal : Refusal) (own : List Event) → Shows a refusal own → AreStill own
shows_still a refusal own (inl shows) = view_shows_still a.table refusal own shows
shows_still a refusal own (inr shows) = files_shows_still a refusal own shows

ends_still : (a : AskedRows) (result : Result (List ℕ) Refusal) (own : List Event) → Ends a result own → AreStill own
ends_still a (Ok text) own (id, scan) = scan_still a id text own scan
ends_still a (Err refusal) own shows = shows_still a refusal own shows

did_still : (s : TableSchema) (at : Option ℕ) (result : Result (List ℕ) Refusal) (own : List Event) → DidScan s at result own → AreStill own
did_still s at result own (earlier, later, has, is, does) =
    subst AreStill (sym is) (still_join earlier later (schema.ready_calls s earlier has) (ends_still (asked_at s at) result later does))

-- ---- where the last one failed

-- a fault of the store was counted
rose_after : (earlier later own : List Event) (first after : StoreView) → own ≡ earlier ++ later → Traces own first after → FailsLast later
    → Rose first.faults after.faults
rose_after earlier later own first after is trace (before, call, last) =
    let whole : own ≡ (earlier ++ before) ++ faulted call ∷ [] =
    is ∙ ap (λ (own : List Event). earlier ++ own) last ∙ sym (append_assoc earlier before (faulted call ∷ [])) in
    Traces-faulted (earlier ++ before) call first after (subst (λ (own : List Event). Traces own first after) whole trace)

-- ---- what they say of the files

pub record AllLaws : Type 0 where
  pub scans : Laws
  pub views : ViewLaws
  pub contents : OneContents

some_gone : (found : Option (List ℕ)) (bytes : List ℕ) → found ≡ Some bytes → None ≡ found → ⊥
some_gone found bytes is none = cc

some_there : (f : Files) (path bytes : List ℕ) → map.get f path ≡ Some bytes → IsSome (map.get f path)
some_there f path bytes is = subst IsSome (sym is) refl

-- a scan lists the snapshots first
pub begins : (at : Option ℕ) → ListsFirst (wanted_of at)
begins None = tt
begins (Some id) = tt

asked_id : (at : Option ℕ) (latest id : ℕ) → IsAsked (wanted_of at) latest id → id ≡ id_of at latest
asked_id None latest id is = is
asked_id (Some asked) latest id (is, within) = is

above_is : (at : Option ℕ) (latest id : ℕ) → IsAbove (wanted_of at) latest id → (at ≡ Some id) × (latest < id)
above_is None latest id above = absurd above
above_is (Some asked) latest id (is, above) = (ap Some (sym is), omega (arith, is, above))

module _ (laws : AllLaws) (f : Files) (s : TableSchema) (entries : List Entry) (folder : HasTable f s entries) (declared : IsDeclared s) (k : Rows) (at : Option ℕ) where
  abbrev a : Asked
  a = asked_of s (wanted_of at)

  abbrev b : AskedRows
  b = asked_for k s at

  -- ---- the groups of a view are there

  halves : (v : View) (P : List Event → Type 0) (own : List Event) → (after : AfterView a v P own) → AreTold f own → AreTold f after.first × AreTold f after.reads
  halves v P own after told = told_parts f after.first after.reads (subst (AreTold f) after.is told)

  all_groups : (v : View) (own : List Event) → HasView a v own → AreTold f own → (v.schema ≡ s) × AllByRecursion (HasRuns f v.schema) (groups_of k v.schema v.groups.entries)
  all_groups v own (of_origin bytes view reads) told =
      (view.schema, subst (AllByRecursion (HasRuns f v.schema)) (sym (ap (groups_of k v.schema) (no-groups v.groups.entries view.groups) ∙ groups-none k v.schema)) tt)
  all_groups v own (of_snapshot x metas es live read left view) told =
      let w = wanted_of at in
      let p = part_at laws.views f s entries folder w (begins at) x metas [] es own read told in
      let is = committed laws.views f s entries folder w (begins at) x p.at in
      let same = live_of_part laws.views f s entries folder w (begins at) x metas es live p left in
      let has : (g : Group) → HasGroup f s (take x.id entries) x.id live g = λ g. subst (λ l. HasGroup f s (take x.id entries) x.id l g) same (is.groups g) in
      let each = each-own live v.groups.entries view.order (λ g runs found. subst (GroupRuns live g) found (view.groups g)) in (
        view.schema,
        subst (λ (t : TableSchema). AllByRecursion (HasRuns f t) (groups_of k t v.groups.entries)) (sym view.schema) (rows-have laws.scans k f s (take x.id entries) x.id live has v.groups.entries each),
      )

  -- so no refusal comes of its files
  unsupported_not : (what text : List ℕ) → refusals.Unsupported what text ≢ refusals.Memory
  unsupported_not what text e = cc

  expired_at : (v : View) (id : ℕ) (own : List Event) → AfterView a v (files_trace.Shows (all_of k v) (refusals.Expired id)) own → AreTold f own → ⊥
  expired_at v id own after told =
      let parts = halves v (files_trace.Shows (all_of k v) (refusals.Expired id)) own after told in
      files_still.again_at laws.scans.rows f (all_of k v) (whole-wanted f v.schema (groups_of k v.schema v.groups.entries) (all_groups v after.first after.viewed parts.0).1) id after.so.0 None after.reads after.so.1 parts.1

  unsupported_at : (v : View) (what text : List ℕ) (own : List Event) → AfterView a v (files_trace.Shows (all_of k v) (refusals.Unsupported what text)) own → AreTold f own → ⊥
  unsupported_at v what text own after told =
      let parts = halves v (files_trace.Shows (all_of k v) (refusals.Unsupported what text)) own after told in
      files_still.misreads_at laws.scans.rows f (all_of k v) (whole-wanted f v.schema (groups_of k v.schema v.groups.entries) (all_groups v after.first after.viewed parts.0).1) (refusals.Unsupported what text) after.reads (unsupported_not what text)
      after.so parts.1

  damaged_at : (v : View) (path : List ℕ) (place : ℕ) (own : List Event) → AfterView a v (files_trace.Shows (all_of k v) (refusals.Damaged path place)) own → AreTold f own → ⊥
  damaged_at v path place own after told =
      let parts = halves v (files_trace.Shows (all_of k v) (refusals.Damaged path place)) own after told in
      files_still.damaged_at laws.scans.rows f (all_of k v) (whole-wanted f v.schema (groups_of k v.schema v.groups.entries) (all_groups v after.first after.viewed parts.0).1) path place after.reads after.so parts.1

  -- ---- the text

  view_text : (v : View) (c : Collected) (text : List ℕ) (first : List Event) → HaveTaken f (jobs_of k v) (nothing_of v.schema) c
      → PrintsGroups (meaning_of v.schema) (runs_read c.groups) text → HasView a v first → AreTold f first
      → IsAsked (wanted_of at) (length entries) v.id × IsSome (map.get f (path_of s v.id)) × (text ≡ scan_text s (rows_at k s entries v.id))
  view_text v c text first taken prints (of_origin bytes view reads) told =
      let w = wanted_of at in
      let origin = reads_at laws.views f s entries folder w (begins at) 0 (origin_path s) (Some bytes) first reads told in (
        subst (IsAsked w (length entries)) (sym view.id) origin.0,
        subst (λ (id : ℕ). IsSome (map.get f (path_of s id))) (sym view.id) (some_there f (origin_path s) bytes (sym origin.1)),
        scanned-origin laws.scans k f s entries v.groups.entries c text declared view.groups
            (subst (λ (t : TableSchema). HaveTaken f (all_jobs t (groups_of k t v.groups.entries)) (nothing_of t) c) view.schema taken)
            (subst (λ (t : TableSchema). PrintsGroups (meaning_of t) (runs_read c.groups) text) view.schema prints)
            ∙ ap (λ (id : ℕ). scan_text s (rows_at k s entries id)) (sym view.id),
      )
  view_text v c text first taken prints (of_snapshot x metas es live read left view) told =
      let w = wanted_of at in
      let p = part_at laws.views f s entries folder w (begins at) x metas [] es first read told in
      let is = committed laws.views f s entries folder w (begins at) x p.at in (
        subst (IsAsked w (length entries)) (sym view.id) p.at.sought,
        subst (λ (id : ℕ). IsSome (map.get f (path_of s id))) (sym view.id)
            (some_there f (path_of s x.id) p.at.there.0
            (ap (map.get f) (path_is laws.views f s entries folder w (begins at) x.id p.at.least) ∙ p.at.there.1)),
        scanned-view laws.scans laws.contents k f s entries x.id x p.base p.delta es live v.groups.entries c text declared folder.history.bases
            (asked_up_to w (length entries) x.id p.at.sought) is p.at.there
            (entries_of f s (IsAsked w (length entries)) x metas es p) left view.order view.groups
            (subst (λ (t : TableSchema). HaveTaken f (all_jobs t (groups_of k t v.groups.entries)) (nothing_of t) c) view.schema taken)
            (subst (λ (t : TableSchema). PrintsGroups (meaning_of t) (runs_read c.groups) text) view.schema prints)
            ∙ ap (λ (id : ℕ). scan_text s (rows_at k s entries id)) (sym view.id),
      )

  pub text_at : (id : ℕ) (text : List ℕ) (own : List Event) → HasScan b id text own → AreTold f own
      → IsThere f s (table s entries) (id_of at (length entries)) × PrintsRows k (table s entries) at text
  text_at id text own scan told =
      let v = scan.view in
      let after = scan.all_read in
      let whole = with_groups [] scan.collected in
      let parts = halves v (files_trace.HasPart (all_of k v) scan.collected []) own after told in
      let read = files_still.taken_at f (all_of k v) scan.collected [] after.reads after.so parts.1 in
      let taken : HaveTaken f (jobs_of k v) (nothing_of v.schema) whole =
      subst (λ (jobs : List Job). HaveTaken f jobs (nothing_of v.schema) whole) (sym (after.so.parts ∙ append-nil after.so.done)) read in
      let prints : PrintsGroups (meaning_of v.schema) (runs_read whole.groups) text =
      subst (λ (t : TableSchema). PrintsGroups (meaning_of t) (runs_read whole.groups) text) (taken-schema f after.so.done (nothing_of v.schema) whole read) scan.prints in
      let got = view_text v whole text after.first taken prints after.viewed parts.0 in
      let same : v.id ≡ id_of at (length entries) = asked_id at (length entries) v.id got.0 in (
        (
          subst (λ (id : ℕ). id ≤ length entries) same (asked_up_to (wanted_of at) (length entries) v.id got.0),
          subst (λ (id : ℕ). IsSome (map.get f (path_of s id))) same got.1,
        ),
        got.2 ∙ ap (λ (id : ℕ). scan_text s (rows_at k s entries id)) same,
      )

  -- ---- the refusals

  asked_gone : (at : Option ℕ) (id : ℕ) → IsAsked (wanted_of at) (length entries) id → (HasSnapshotAt f s id → ⊥) → at ≡ Some id
  asked_gone None id is gone = absurd (gone (subst (HasSnapshotAt f s) (sym is) (newest-there f s entries folder)))
  asked_gone (Some asked) id (is, within) gone = ap Some (sym is)

  view_caused : (first after : StoreView) (refusal : Refusal) (own : List Event) → reader.Shows a refusal own → AreTold f own → (FailsLast own → Rose first.faults after.faults)
      → IsCaused f s (table s entries) at first after refusal
  view_caused first after refusals.Memory own shows told rose = tt
  view_caused first after (refusals.StoreFault path) own shows told rose = rose (shows.earlier, shows.call, shows.is)
  view_caused first after (refusals.NoSnapshot id latest) own (names, newest, above, is) told rose =
      let listing : IsListing snapshot_folder names.items f = (subst (AreTold f) is told).0 in
      let asked = above_is at latest id above in
      (asked.0, latest_is f s entries folder latest names.items newest listing, asked.1)
  view_caused first after (refusals.Expired id) own shows told rose =
      let gone = view_gone_at laws.views f s entries folder (wanted_of at) (begins at) id own shows told in
      let none = absent_gone laws.views f s entries folder (wanted_of at) (begins at) id gone.1 in
      (asked_gone at id gone.0 none, asked_up_to (wanted_of at) (length entries) id gone.0, gone.1)
  view_caused first after (refusals.Damaged path place) own shows told rose =
      absurd (view_damaged_at laws.views f s entries folder (wanted_of at) (begins at) path place own shows told)
  view_caused first after (refusals.Unsupported what text) own shows told rose =
      absurd (view_misreads_at laws.views f s entries folder (wanted_of at) (begins at) (refusals.Unsupported what text) own (unsupported_not what text) shows told)
  view_caused first after other own shows told rose = absurd shows

  files_caused : (first after : StoreView) (refusal : Refusal) (own : List Event) → ShowsOfFiles b refusal own → AreTold f own → (FailsLast own → Rose first.faults after.faults)
      → IsCaused f s (table s entries) at first after refusal
  files_caused first after refusals.Memory own shows told rose = tt
  files_caused first after (refusals.StoreFault path) own shows told rose = rose (shows.earlier, shows.call, shows.is)
  files_caused first after (refusals.Expired id) own (v, shows) told rose = absurd (expired_at v id own shows told)
  files_caused first after (refusals.Damaged path place) own (v, shows) told rose = absurd (damaged_at v path place own shows told)
  files_caused first after (refusals.Unsupported what text) own (v, shows) told rose = absurd (unsupported_at v what text own shows told)
  files_caused first after other own (v, shows) told rose = absurd shows.so

  pub caused : (first after : StoreView) (refusal : Refusal) (own : List Event) → Shows b refusal own → AreTold f own → (FailsLast own → Rose first.faults after.faults)
      → IsCaused f s (table s entries) at first after refusal
  caused first after refusal own (inl shows) told rose = view_caused first after refusal own shows told rose
  caused first after refusal own (inr shows) told rose = files_caused first after refusal own shows told rose

-- ---- all calls

-- the table of a history
record Tabled (f : Files) (s : TableSchema) (h : History) : Type 0 where
  entries : List Entry
  is : h ≡ table s entries
  folder : HasTable f s entries

tabled : (f : Files) (s : TableSchema) (h : History) → Folder f h → IsTableOf s h → Tabled f s h
tabled f s no_table folder is = absurd is
tabled f s (table t entries) folder is = record {
  entries = entries;
  is = ap (λ (t : TableSchema). table t entries) is;
  folder = subst (λ (t : TableSchema). HasTable f t entries) is folder;
}

pub scanned_history : AllLaws → (s : TableSchema) (at : Option ℕ) (result : Result (List ℕ) Refusal) (before after : StoreView) → IsDeclared s
    → HasTrace (DidScan s at result) before after → ScansTables s at before after result
scanned_history laws s at (Ok text) before after declared (own, (earlier, later, has, is, (id, scan)), trace) = λ alone f h had folder.
    let first = at_first_own before after in
    let still = did_still s at (Ok text) own (earlier, later, has, is, (id, scan)) in
    let stay = stayed f own first after still (Traces-first own before after trace) alone had in
    let told = told_parts f earlier later (subst (AreTold f) is stay.1) in
    let table_is = schema.ready_at f h folder s earlier has told.0 in
    let t = tabled f s h folder table_is in
    let got = text_at laws f s t.entries t.folder declared shown.All at id text later scan told.1 in
    record {
      files = stay.0;
      schema = table_is;
      there = subst (λ (h : History). IsThere f s h (id_of at (count_of h))) (sym t.is) got.0;
      text = subst (λ (h : History). PrintsScan h at text) (sym t.is) got.1;
      cause = tt;
    }
scanned_history laws s at (Err refusal) before after declared (own, (earlier, later, has, is, shows), trace) = λ alone f h had folder.
    let first = at_first_own before after in
    let rest = Traces-first own before after trace in
    let still = did_still s at (Err refusal) own (earlier, later, has, is, shows) in
    let stay = stayed f own first after still rest alone had in
    let told = told_parts f earlier later (subst (AreTold f) is stay.1) in
    let table_is = schema.ready_at f h folder s earlier has told.0 in
    let t = tabled f s h folder table_is in
    record {
      files = stay.0;
      schema = table_is;
      there = tt;
      text = tt;
      cause = subst (λ (h : History). IsCaused f s h at first after refusal) (sym t.is)
          (caused laws f s t.entries t.folder declared shown.All at first after refusal later shows told.1 (rose_after earlier later own first after is rest));
    }

-- the calls after the schema by themselves, of a history of its table
pub own_history : AllLaws → (s : TableSchema) (at : Option ℕ) (result : Result (List ℕ) Refusal) (before after : StoreView) → IsDeclared s
    → HasTrace (Ends (asked_at s at) result) before after → ScansOf s at before after result
own_history laws s at (Ok text) before after declared (own, (id, scan), trace) = λ alone f h had folder table_is.
    let first = at_first_own before after in
    let stay = stayed f own first after (scan_still (asked_at s at) id text own scan) (Traces-first own before after trace) alone had in
    let t = tabled f s h folder table_is in
    let got = text_at laws f s t.entries t.folder declared shown.All at id text own scan stay.1 in
    record {
      files = stay.0;
      schema = table_is;
      there = subst (λ (h : History). IsThere f s h (id_of at (count_of h))) (sym t.is) got.0;
      text = subst (λ (h : History). PrintsScan h at text) (sym t.is) got.1;
      cause = tt;
    }
own_history laws s at (Err refusal) before after declared (own, shows, trace) = λ alone f h had folder table_is.
    let first = at_first_own before after in
    let rest = Traces-first own before after trace in
    let stay = stayed f own first after (shows_still (asked_at s at) refusal own shows) rest alone had in
    let t = tabled f s h folder table_is in
    record {
      files = stay.0;
      schema = table_is;
      there = tt;
      text = tt;
      cause = subst (λ (h : History). IsCaused f s h at first after refusal) (sym t.is)
          (caused laws f s t.entries t.folder declared shown.All at first after refusal own shows stay.1 (rose_after [] own own first after refl rest));
    }

-- the same of the rows that are passed on
pub passed_history : AllLaws → (s : TableSchema) (id : ℕ) (result : Result (List ℕ) Refusal) (before after : StoreView) → IsDeclared s
    → HasTrace (Ends (passed_at s id) result) before after → PassesOf s id before after result
passed_history laws s id (Ok text) before after declared (own, (at, scan), trace) = λ alone f h had folder table_is.
    let first = at_first_own before after in
    let stay = stayed f own first after (scan_still (passed_at s id) at text own scan) (Traces-first own before after trace) alone had in
    let t = tabled f s h folder table_is in
    let got = text_at laws f s t.entries t.folder declared shown.Passed (Some id) at text own scan stay.1 in
    record {
      files = stay.0;
      schema = table_is;
      there = subst (λ (h : History). IsThere f s h id) (sym t.is) got.0;
      text = subst (λ (h : History). PrintsRows shown.Passed h (Some id) text) (sym t.is) got.1;
      cause = tt;
    }
passed_history laws s id (Err refusal) before after declared (own, shows, trace) = λ alone f h had folder table_is.
    let first = at_first_own before after in
    let rest = Traces-first own before after trace in
    let stay = stayed f own first after (shows_still (passed_at s id) refusal own shows) rest alone had in
    let t = tabled f s h folder table_is in
    record {
      files = stay.0;
      schema = table_is;
      there = tt;
      text = tt;
      cause = subst (λ (h : History). IsCaused f s h (Some id) first after refusal) (sym t.is)
          (caused laws f s t.entries t.folder declared shown.Passed (Some id) first after refusal own shows stay.1 (rose_after [] own own first after refl rest));
    }

-- ---- steps in a row

pub begun : (a : AskedRows) (store : StoreView) → ListsFirst a.table.wanted → HasTrace (Did a (phases.View a.rows (readers.List a.table))) store store
begun a store first = ([], (refl, (refl, refl, first)), Traces-none store)

-- whatever was asked, a step's call is the next event, or none was made, and a refusal is shown
abbrev pub Acted : Phase → Phase → StoreView → StoreView → Result (Unit {0}) Refusal → Type 0
Acted old new before after result = (a : AskedRows)
    → Acts (Did a old) (λ own. Did a new own × IfErr result (λ refusal. Shows a refusal own)) before after

pub went_further : (a : AskedRows) (old new : Phase) (first before after : StoreView) (step : Unit {0}) → HasTrace (Did a old) first before
    → Acted old new before after (Ok step) → IsLater before after → HasTrace (Did a new) first after
went_further a old new first before after step trace acted later =
    let t = HasTrace-acts {did = Did a old} {before = before} trace (acted a) later in
    (t.0, t.1.0, t.2)

pub was_refused : (a : AskedRows) (old new : Phase) (first before after : StoreView) (refusal : Refusal) → HasTrace (Did a old) first before
    → Acted old new before after (Err refusal) → IsLater before after → HasTrace (Ends a (Err refusal)) first after
was_refused a old new first before after refusal trace acted later =
    let t = HasTrace-acts {did = Did a old} {before = before} trace (acted a) later in
    (t.0, t.1.1, t.2)

pub was_done : (a : AskedRows) (m : Phase) (k : Rows) (id : ℕ) (text : Vec ℕ Global) (first after : StoreView) → m ≡ phases.Ready k id text → HasTrace (Did a m) first after
    → HasTrace (Ends a (Ok text.items)) first after
was_done a m k id text first after is (own, did, trace) = (own, (id, (subst (λ (m : Phase). Did a m own) is did).1), trace)

-- a step that went on leaves a call, or the text is ready
pub call_left : (m : Phase) → IsReady m ⊎ (0 < calls_left m) → ¬ IsReady m → 0 < calls_left m
call_left m (inl ready) not = absurd (not ready)
call_left m (inr left) not = left

-- a scanner that was just made has calls left
pub first_left : (a : AskedRows) (m : Phase) → m ≡ phases.View a.rows (readers.List a.table) → 0 < calls_left m
first_left a m is = subst (λ (m : Phase). 0 < calls_left m) (sym is) (omega arith)

-- the calls go on from those that read the schema
pub went_on : (s : TableSchema) (at : Option ℕ) (result : Result (List ℕ) Refusal) (first middle after : StoreView) → HasTrace (Has s) first middle
    → HasTrace (Ends (asked_at s at) result) middle after → HasTrace (DidScan s at result) first after
went_on s at result first middle after (earlier, has, trace) (later, does, rest) =
    (earlier ++ later, (earlier, later, has, refl, does), Traces-join earlier later first middle after trace rest)
