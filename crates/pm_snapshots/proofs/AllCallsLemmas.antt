-- All calls of a lister, and what they say where nobody else acts.
use Rattle.std.proofs.Common.{◌≡◌, ◌⊎◌, inl, inr, ℕ, ◌<◌, ◌≤◌, List, [], ◌∷◌, ◌++◌, map, Option, None, Some, IfSome, IsSome, Result, Ok, Err, refl, sym, ap, ◌∙◌, subst, append-nil, append_assoc}
use Rattle.std.specs.FinMap as finite
use Rattle.std.specs.List.{AllByRecursion, AllZip}
use Rattle.pm_values.specs.declared.refusal.Refusal.{Refusal}
use Rattle.pm_values.specs.declared.refusal.Refusal.TheVariants as refusals
use Rattle.pm_store.specs.Files.{Files, IsListing}
use Rattle.pm_store.specs.Store.{StoreView, IsLater, at_first_own}
use Rattle.pm_machine.specs.Trace.{Event, Acts, HasTrace, Traces}
use Rattle.pm_machine.proofs.AloneLaws.{Traces-first}
use Rattle.pm_machine.proofs.Facts.{HasTrace-acts}
use Rattle.pm_machine.proofs.PhaseFacts.{failed_rose}
use Rattle.pm_model_history.specs.History.{History, IsTableOf}
use Rattle.pm_schema.specs.declared.schema.TableSchema.{TableSchema}
use Rattle.pm_snapshot.specs.Names.{greatest, snapshot_name}
use Rattle.pm_snapshot.specs.Snapshot.{snapshot_in}
use Rattle.pm_snapshot.specs.declared.fault.SnapFault.TheVariants as faults
use Rattle.pm_model_folder.specs.Folder.{Folder}
use Rattle.pm_model_folder.specs.Meaning.{LeadsTo}
use Rattle.pm_model_folder.specs.Paths.{snapshot_folder, snapshot_path}
use Rattle.pm_model_folder.proofs.Facts.{listed-snapshot, read-snapshot}
use Rattle.pm_paths.specs.Ids.{AreIds}
use Rattle.pm_paths.proofs.ListedLemmas.{ids_there}
use Rattle.pm_read_schema.specs.AllCalls.{IsCaused}
use Rattle.pm_read_schema.specs.declared.phase.Phase.TheVariants as readers
use Rattle.pm_read_schema.specs.Trace.{Names, listed_snapshots}
use Rattle.pm_read_schema.proofs.AllCallsLemmas as reader
use Rattle.pm_read_schema.proofs.AllCallsLemmas.{list_still, read_still}
use Rattle.pm_read_schema.proofs.Facts as reader_facts
use Rattle.pm_read_schema.proofs.StillLemmas.{AreStill, IsTold, AreTold, IsStill, calls_more, ended_still, failed_still, told_last, stayed}
use Rattle.pm_snapshots.specs.AllCalls.{AreIdsOf, AreLinesOf, GoesOnFrom, DidList, ListsTables}
use Rattle.pm_snapshots.specs.Lister.{IsDone, IsLister, KeepsSchema, calls_left, lines_of, next_call, schema_at}
use Rattle.pm_snapshots.specs.Meaning.{IsLineAt}
use Rattle.pm_snapshots.specs.Reading.{ReadingView, next_id}
use Rattle.pm_snapshots.specs.Trace.{Has, read_snapshot, Lists, IsLineOf, HasRead, Meets, HasListed, DidSoFar, MayTakeMemory, ShowsOwn, Shows, Did}
use Rattle.pm_snapshots.specs.declared.line.SnapshotLine.{SnapshotLine}
use Rattle.pm_snapshots.specs.declared.phase.Phase.{Phase}
use Rattle.pm_snapshots.specs.declared.phase.Phase.TheVariants as phases
use Rattle.pm_snapshots.proofs.Facts.{printed, spares}
use Rattle.pm_snapshots.proofs.ReadingLemmas.{next_listed}

-- ---- its calls change nothing

pub still_append : (own more : List Event) → AreStill own → AreStill more → AreStill (own ++ more)
still_append [] more first then = then
still_append (event ∷ own) more (one, first) then = (one, still_append own more first then)

reads_still : (lines : List SnapshotLine) (reads : List Event) → AllZip IsLineOf lines reads → AreStill reads
reads_still [] [] all = tt
reads_still [] (event ∷ reads) all = absurd all
reads_still (l ∷ lines) [] all = absurd all
reads_still (l ∷ lines) (event ∷ reads) ((bytes, s, is_s, is_l, is), all) =
    (subst (λ (event : Event). IsStill event.call) (sym is) (read_still (snapshot_path l.id)), reads_still lines reads all)

lists_calls : (s : TableSchema) (names : Names) (own : List Event) → Lists s names own → AreStill own
lists_calls s names own (earlier, has, is) =
    subst AreStill (sym is) (calls_more earlier (listed_snapshots names) (reader.ready_calls s earlier has) (list_still snapshot_folder))

pub read_calls : (r : ReadingView) (own : List Event) → HasRead r own → AreStill own
read_calls r own (names, earlier, reads, are, reading, lists, all, is) =
    subst AreStill (sym is) (still_append earlier reads (lists_calls r.schema names earlier lists) (reads_still r.lines reads all))

pub listed_calls : (s : TableSchema) (lines : List SnapshotLine) (own : List Event) → HasListed s lines own → AreStill own
listed_calls s lines own (names, earlier, reads, are, lists, all, is) =
    subst AreStill (sym is) (still_append earlier reads (lists_calls s names earlier lists) (reads_still lines reads all))

meets_calls : (r : ReadingView) (id : ℕ) (found : Option (List ℕ)) (own : List Event) → Meets r id found own → AreStill own
meets_calls r id found own (earlier, has, next, is) =
    subst AreStill (sym is) (calls_more earlier (read_snapshot id found) (read_calls r earlier has) (read_still (snapshot_path id)))

so_far_calls : (m : Phase) (own : List Event) → IsSome (next_call m) → DidSoFar m own → AreStill own
so_far_calls (phases.Schema r) own called did = reader.shows_calls refusals.Memory own ((reader_facts.recounts.stopped r readers.Over own called refl did).1)
so_far_calls (phases.List s) own called did = reader.ready_calls s own did
so_far_calls (phases.Read r) own called did = read_calls r own did
so_far_calls phases.Over own called did = absurd did

own_calls : (refusal : Refusal) (own : List Event) → ShowsOwn refusal own → AreStill own
own_calls refusals.Memory own (inl ends) = ended_still next_call DidSoFar MayTakeMemory spares so_far_calls own ends
own_calls refusals.Memory own (inr (s, lines, listed)) = listed_calls s lines own listed
own_calls (refusals.StoreFault path) own failed = failed_still next_call DidSoFar MayTakeMemory spares so_far_calls path own failed
own_calls (refusals.Expired id) own (r, meets) = meets_calls r id None own meets
own_calls (refusals.Damaged path place) own (r, id, bytes, at, zero, bad, meets) = meets_calls r id (Some bytes) own meets
own_calls other own shows = absurd shows

pub shows_calls : (refusal : Refusal) (own : List Event) → Shows refusal own → AreStill own
shows_calls refusal own (inl shows) = reader.shows_calls refusal own shows
shows_calls refusal own (inr shows) = own_calls refusal own shows

-- ---- what they say of the files that each answer is of

pub told_append : (f : Files) (own more : List Event) → AreTold f (own ++ more) → AreTold f own × AreTold f more
told_append f [] more told = (tt, told)
told_append f (event ∷ own) more (one, told) =
    let rest = told_append f own more told in
    ((one, rest.0), rest.1)

lists_at : (f : Files) (s : TableSchema) (names : Names) (own : List Event) → Lists s names own → AreTold f own → IsListing snapshot_folder names.items f
lists_at f s names own (earlier, has, is) told = (told_last f earlier (listed_snapshots names) (subst (AreTold f) is told)).1

lines_at : (f : Files) (lines : List SnapshotLine) (reads : List Event) → AllZip IsLineOf lines reads → AreTold f reads → AllByRecursion (IsLineAt f) lines
lines_at f [] [] all told = tt
lines_at f [] (event ∷ reads) all told = absurd all
lines_at f (l ∷ lines) [] all told = absurd all
lines_at f (l ∷ lines) (event ∷ reads) ((bytes, s, is_s, is_l, is), all) (one, told) =
    let found : Some bytes ≡ finite.get f (snapshot_path l.id) = subst (IsTold f) is one in
    ((s, (bytes, sym found, is_s), is_l), lines_at f lines reads all told)

-- the next of the ids was listed
next_at : (f : Files) (r : ReadingView) (id : ℕ) (own : List Event) → HasRead r own → next_id r ≡ Some id → AreTold f own
    → (1 ≤ id) × (id ≤ greatest) × LeadsTo f snapshot_folder (snapshot_name id)
next_at f r id own (names, earlier, reads, are, reading, lists, all, is) next told =
    let listing = lists_at f r.schema names earlier lists (told_append f earlier reads (subst (AreTold f) is told)).0 in
    let bears = (are.exact id).0 (next_listed r id next) in
    (bears.0, bears.1, (listing.exact (snapshot_name id)).0 bears.2)

meets_at : (f : Files) (r : ReadingView) (id : ℕ) (found : Option (List ℕ)) (own : List Event) → Meets r id found own → AreTold f own
    → ((1 ≤ id) × (id ≤ greatest) × LeadsTo f snapshot_folder (snapshot_name id)) × (found ≡ finite.get f (snapshot_path id))
meets_at f r id found own (earlier, has, next, is) told =
    let parts = told_last f earlier (read_snapshot id found) (subst (AreTold f) is told) in
    (next_at f r id earlier has next parts.0, parts.1)

module _ (f : Files) (h : History) (folder : Folder f h) where
  ids_at : (names : List (List ℕ)) (ids : List ℕ) → AreIds names ids → IsListing snapshot_folder names f → AreIdsOf f ids
  ids_at names ids are listing = record {
    rising = are.rising;
    exact = λ id. ids_there f h names ids id folder are listing;
  }

  pub listed_at : (s : TableSchema) (lines : List SnapshotLine) (own : List Event) → HasListed s lines own → AreTold f own
      → IsTableOf s h × AreLinesOf f lines
  listed_at s lines own (names, earlier, reads, are, (before, has, listed), all, is) told =
      let parts = told_append f earlier reads (subst (AreTold f) is told) in
      let first = told_last f before (listed_snapshots names) (subst (AreTold f) listed parts.0) in
      let lines_are : AreLinesOf f lines = record {
        ids = ids_at names.items (map (λ (l : SnapshotLine). l.id) lines) are first.1;
        each = lines_at f lines reads all parts.1;
      } in
      (reader.ready_at f h folder s before has first.0, lines_are)

  pub absent_at : (r : ReadingView) (id : ℕ) (own : List Event) → Meets r id None own → AreTold f own → ⊥
  absent_at r id own meets told =
      let at = meets_at f r id None own meets told in
      let there = listed-snapshot f h id folder at.0.1 at.0.2 in
      let clash = subst (λ (found : Option (List ℕ)). IsSome found) (sym at.1) there in
      cc

  pub damaged_at : (r : ReadingView) (id : ℕ) (bytes : List ℕ) (own : List Event) → snapshot_in id bytes ≡ Err faults.Bad → Meets r id (Some bytes) own
      → AreTold f own → ⊥
  damaged_at r id bytes own bad meets told =
      let at = meets_at f r id (Some bytes) own meets told in
      let reads = read-snapshot f h id folder at.0.0 at.0.1 at.0.2 in
      let same : Some bytes ≡ Some reads.1.0 = at.1 ∙ reads.1.1 in
      let bytes_are : bytes ≡ reads.1.0 = cc in
      let clash : Err faults.Bad ≡ Ok reads.0 = sym bad ∙ ap (snapshot_in id) bytes_are ∙ reads.1.2 in
      cc

  own_at : (first after : StoreView) (refusal : Refusal) (own : List Event) → ShowsOwn refusal own → AreTold f own → Traces own first after
      → IsCaused h first after refusal
  own_at first after refusals.Memory own shows told trace = tt
  own_at first after (refusals.StoreFault path) own shows told trace = failed_rose next_call DidSoFar path own first after shows trace
  own_at first after (refusals.Expired id) own (r, meets) told trace = absent_at r id own meets told
  own_at first after (refusals.Damaged path place) own (r, id, bytes, at, zero, bad, meets) told trace = damaged_at r id bytes own bad meets told
  own_at first after other own shows told trace = absurd shows

  shows_at : (first after : StoreView) (refusal : Refusal) (own : List Event) → Shows refusal own → AreTold f own → Traces own first after
      → IsCaused h first after refusal
  shows_at first after refusal own (inl shows) told trace = reader.shows_at f h folder first after refusal own shows told trace
  shows_at first after refusal own (inr shows) told trace = own_at first after refusal own shows told trace

-- ---- all calls

pub listed_history : (s : TableSchema) (result : Result Phase Refusal) (before after : StoreView) → HasTrace (DidList s result) before after
    → ListsTables s before after result
listed_history s (Ok m) before after (own, did, trace) = λ alone f h has folder.
    let first = at_first_own before after in
    let stay = stayed f own first after (listed_calls s (lines_of m) own did) (Traces-first own before after trace) alone has in
    let lists = listed_at f h folder s (lines_of m) own did stay.1 in
    record { files = stay.0; schema = lists.0; lines = lists.1; cause = tt }
listed_history s (Err refusal) before after (own, (from, shows), trace) = λ alone f h has folder.
    let first = at_first_own before after in
    let rest = Traces-first own before after trace in
    let stay = stayed f own first after (shows_calls refusal own shows) rest alone has in
    record { files = stay.0; schema = tt; lines = tt; cause = shows_at f h folder first after refusal own shows stay.1 rest }

-- ---- steps in a row

same_some : (s t : TableSchema) → Some s ≡ Some t → s ≡ t
same_some s t e = cc

pub went_further : (old new : Phase) (first before after : StoreView) → HasTrace (Did old) first before
    → Acts (Did old) (λ own. Did new own × Unit {0}) before after → IsLater before after → HasTrace (Did new) first after
went_further old new first before after trace acted later =
    let t = HasTrace-acts {did = Did old} {before = before} trace acted later in
    (t.0, t.1.0, t.2)

-- a lister's calls go on from those that read its schema
from_schema : (m : Phase) (s : TableSchema) (own : List Event) → schema_at m ≡ Some s → Did m own → GoesOnFrom s own
from_schema (phases.Schema r) s own had did = cc
from_schema (phases.List t) s own had did = (own, [], subst (λ (s : TableSchema). Has s own) (same_some t s had) did, sym (append-nil own))
from_schema (phases.Read r) s own had (names, earlier, reads, are, reading, (before, has, listed), all, is) = (
  before,
  listed_snapshots names ∷ reads,
  subst (λ (s : TableSchema). Has s before) (same_some r.schema s had) has,
  is ∙ ap (λ (own : List Event). own ++ reads) listed ∙ append_assoc before (listed_snapshots names ∷ []) reads,
)
from_schema phases.Over s own had did = cc

from_more : (s : TableSchema) (own : List Event) (event : Event) → GoesOnFrom s own → GoesOnFrom s (own ++ event ∷ [])
from_more s own event (earlier, later, has, is) =
    (earlier, later ++ event ∷ [], has, ap (λ (own : List Event). own ++ event ∷ []) is ∙ append_assoc earlier later (event ∷ []))

acts_from : (m : Phase) (s : TableSchema) (does : List Event → Type 0) (before after : StoreView) → schema_at m ≡ Some s → Acts (Did m) does before after
    → Acts (Did m) (λ own. does own × GoesOnFrom s own) before after
acts_from m s does before after had (inl (event, ended, next)) =
    inl (event, ended, λ own did. (next own did, from_more s own event (from_schema m s own had did)))
acts_from m s does before after had (inr (meanwhile, next)) = inr (meanwhile, λ own did. (next own did, from_schema m s own had did))

pub was_refused : (old new : Phase) (s : TableSchema) (first before after : StoreView) (refusal : Refusal) → schema_at old ≡ Some s
    → HasTrace (Did old) first before → Acts (Did old) (λ own. Did new own × Shows refusal own) before after → IsLater before after
    → HasTrace (DidList s (Err refusal)) first after
was_refused old new s first before after refusal had trace acted later =
    let t = HasTrace-acts {did = Did old} {before = before} trace (acts_from old s _ before after had acted) later in
    (t.0, (t.1.1, t.1.0.1), t.2)

pub was_done : (m : Phase) (s : TableSchema) (first after : StoreView) → IsLister m → IsDone m → schema_at m ≡ Some s → HasTrace (Did m) first after
    → HasTrace (DidList s (Ok m)) first after
was_done m s first after is done had (own, did, trace) = (own, printed m s own is done had did, trace)

-- a step that went on leaves a call, or all snapshots were read
pub call_left : (m : Phase) → IsDone m ⊎ (0 < calls_left m) → ¬ IsDone m → 0 < calls_left m
call_left m (inl done) not = absurd (not done)
call_left m (inr left) not = left

-- and the schema that was read
pub still_had : (old new : Phase) (s : TableSchema) → schema_at old ≡ Some s → KeepsSchema old new → schema_at new ≡ Some s
still_had old new s had keeps = subst (λ (read : Option TableSchema). IfSome read (λ s. schema_at new ≡ Some s)) had keeps
