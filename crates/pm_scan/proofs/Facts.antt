-- A scanner keeps the laws of machines.
use Rattle.std.proofs.Common.{◌≡◌, ◌⊎◌, inl, inr, ℕ, ◌<◌, ◌+◌, List, [], ◌∷◌, ◌++◌, Some, IsSome, IfSome, refl, sym, ap, ◌∙◌, subst, arith, append_assoc}
use Rattle.std.proofs.lemmas.List.{append-nil}
use Rattle.std.proofs.lemmas.Option.{IfSome_then}
use Rattle.pm_values.specs.declared.refusal.Refusal.{Refusal}
use Rattle.pm_values.specs.declared.refusal.Refusal.TheVariants as refusals
use Rattle.pm_store.specs.declared.answer.Answer.{Answer}
use Rattle.pm_store.specs.declared.call.Call.{Call}
use Rattle.pm_store.specs.Answers.{Answers, MayAnswer}
use Rattle.pm_store.specs.Files.{Files}
use Rattle.pm_store.specs.Images.{MayLeave}
use Rattle.pm_machine.specs.Moves.{IsKept, Sound}
use Rattle.pm_machine.specs.Running.{Refuses, Stops}
use Rattle.pm_machine.specs.Trace.{Event, Recounts, answered}
use Rattle.pm_machine.proofs.PhaseFacts.{Spares, ended, image_spared, recounts_of, sound_of_spared}
use Rattle.pm_engine.specs.OfSchema.{meaning_of}
use Rattle.pm_scan_rows.specs.Group.{runs_read}
use Rattle.pm_scan_rows.specs.Shown.{PrintsGroups}
use Rattle.pm_model_folder.specs.Changes.{Actor}
use Rattle.pm_model_folder.specs.Ledger.{Advances, Past, Stands}
use Rattle.pm_model_folder.proofs.Facts.{goes_on}
use Rattle.pm_read_table.specs.Asked.{Asked}
use Rattle.pm_read_table.specs.Meaning as reader_meaning
use Rattle.pm_read_table.specs.Reader as reader
use Rattle.pm_read_table.specs.Reader.{most}
use Rattle.pm_read_table.specs.Trace as reader_trace
use Rattle.pm_read_table.specs.Trace.{HasView}
use Rattle.pm_read_table.specs.declared.phase.Phase as view_phase
use Rattle.pm_read_table.specs.declared.phase.Phase.TheVariants as readers
use Rattle.pm_read_table.specs.declared.view.View.{View}
use Rattle.pm_read_table.proofs.Facts as reader_facts
use Rattle.pm_read_table.proofs.Facts.{Joined, OneList}
use Rattle.pm_read_table.proofs.WithinLemmas.{with_reader}
use Rattle.pm_group_files.specs.Collected.{Collected, HaveTaken, nothing_of, with_groups}
use Rattle.pm_group_files.specs.Meaning as files_meaning
use Rattle.pm_group_files.specs.Meaning.{HasTaken, IsChosen, IsTableView}
use Rattle.pm_group_files.specs.Reader as files
use Rattle.pm_group_files.specs.Reader.{read_next}
use Rattle.pm_group_files.specs.Trace as files_trace
use Rattle.pm_group_files.specs.declared.job.Job.{Job}
use Rattle.pm_group_files.specs.declared.phase.Phase as files_phase
use Rattle.pm_group_files.specs.declared.phase.Phase.TheVariants as group_readers
use Rattle.pm_group_files.proofs.Facts as files_facts
use Rattle.pm_group_files.proofs.Facts.{next_ahead, next_known, part_none}
use Rattle.pm_group_files.proofs.FaultLemmas.{IsOfFiles, damaged, expired, shown_as, unsupported}
use Rattle.pm_group_files.proofs.ReadLemmas.{first-taken}
use Rattle.pm_scan.specs.Meaning.{all_of, IsScanOf, Knows}
use Rattle.pm_scan.specs.Scanner.{next_call, calls_left, AfterFiles, AfterReader, Goes, IsReady, IsScanner, Shown, Starts, jobs_of}
use Rattle.pm_scan.specs.Trace.{AfterView, DidSoFar, MayTakeMemory, ShowsOfFiles, Shows, Did}
use Rattle.pm_scan.specs.declared.phase.Phase.{Phase}
use Rattle.pm_scan.specs.declared.phase.Phase.TheVariants as phases
use Rattle.pm_scan.specs.declared.rows.Rows.{Rows}
use Rattle.pm_scan.specs.Asked.{AskedRows}
use Rattle.pm_scan.proofs.FilesLemmas.{may_print, with_files}
use Rattle.pm_scan.proofs.KeptLemmas.{Kept, scan-kept, table-view-kept}

-- what the law of a view's files says
pub record FileLaws : Type 0 where
  pub chosen : (k : Rows) (f : Files) (p : Past) (v : View) (job : Job) (jobs : List Job) → Stands f p → IsTableView p v → jobs_of k v ≡ job ∷ jobs → IsChosen p (all_of k v)
  pub all : (k : Rows) (f : Files) (p : Past) (v : View) → Stands f p → IsTableView p v → (c : Collected) (text : List ℕ)
      → HaveTaken (p.stood v.id) (jobs_of k v) (nothing_of v.schema) c → PrintsGroups (meaning_of c.schema) (runs_read c.groups) text → IsScanOf k p v.id text

-- ---- its calls change nothing

pub spares : (m : Phase) (f : Files) → IfSome (next_call m) (Spares f)
spares (phases.View k r) f = reader_facts.spares r f
spares (phases.Files k id r) f = files_facts.spares r f
spares (phases.Ready k id text) f = tt
spares phases.Over f = tt

-- ---- what it knows

-- all files were read, and this is what they print
text_known : FileLaws → (k : Rows) (f : Files) (p : Past) (v : View) (c : Collected) (text : List ℕ) → Stands f p → IsTableView p v → HasTaken p (all_of k v) c []
    → PrintsGroups (meaning_of c.schema) (runs_read c.groups) text → IsScanOf k p v.id text
text_known laws k f p v c text stands is taken prints =
    let jobs : jobs_of k v ≡ taken.done = taken.parts ∙ append-nil taken.done in
    laws.all k f p v stands is (with_groups [] c) text
    (subst (λ (jobs : List Job). HaveTaken (p.stood v.id) jobs (nothing_of v.schema) (with_groups [] c)) (sym jobs) taken.taken) prints

-- with a reader of the view's files
files_known : FileLaws → (k : Rows) (f : Files) (p : Past) (v : View) (id : ℕ) (m : files_phase.Phase) (new : Phase) → Stands f p → IsTableView p v → id ≡ v.id
    → AfterFiles k id m new → files_meaning.Knows (all_of k v) m f p → Knows new f p
files_known laws k f p v id m new stands is same after known =
    with_files (λ (m : files_phase.Phase). files_meaning.Knows (all_of k v) m f p) (Knows new f p) k id m new after known
    (λ none held. subst (λ (m : Phase). Knows m f p) (sym held) (v, same, is, known))
    (λ c text taken prints printed. subst (λ (m : Phase). Knows m f p) (sym printed)
    (subst (λ (id : ℕ). IsScanOf k p id text.items) (sym same) (text_known laws k f p v c text.items stands is taken prints)))

-- the reader of a view's files where these are they: none at all, so that nothing is asked of the snapshot, or some
first_known : FileLaws → (k : Rows) (f : Files) (p : Past) (v : View) (jobs : List Job) (new : Phase) → Stands f p → IsTableView p v
    → jobs_of k v ≡ jobs → AfterFiles k v.id (read_next v.id (nothing_of v.schema) jobs) new → Knows new f p
first_known laws k f p v [] new stands is parts (text, prints, printed) =
    let none : HaveTaken (p.stood v.id) (jobs_of k v) (nothing_of v.schema) (nothing_of v.schema) =
    subst (λ (jobs : List Job). HaveTaken (p.stood v.id) jobs (nothing_of v.schema) (nothing_of v.schema)) (sym parts) refl in
    subst (λ (m : Phase). Knows m f p) (sym printed) (laws.all k f p v stands is (nothing_of v.schema) text.items none prints)
first_known laws k f p v (job ∷ jobs) new stands is parts after =
    let chosen = laws.chosen k f p v job jobs stands is parts in
    let taken : HasTaken p (all_of k v) (nothing_of v.schema) (job ∷ jobs) =
    subst (HasTaken p (all_of k v) (nothing_of v.schema)) parts (first-taken p (all_of k v) chosen refl) in
    files_known laws k f p v v.id (read_next v.id (nothing_of v.schema) (job ∷ jobs)) new stands is refl after
    (next_known (all_of k v) v.id (nothing_of v.schema) (job ∷ jobs) f p refl taken)

after_known : FileLaws → (k : Rows) (to : view_phase.Phase) (new : Phase) (f : Files) (p : Past) → Stands f p → AfterReader k to new → reader_meaning.Knows to f p → Knows new f p
after_known laws k to new f p stands after known =
    with_reader (λ m. phases.View k m) (Starts k) (λ m. reader_meaning.Knows m f p) (Knows new f p) to new after known
    (λ is. subst (λ (m : Phase). Knows m f p) (sym is) known)
    (λ v viewed starts. first_known laws k f p v (jobs_of k v) new stands
    (record { is_view = viewed.1; order = starts.0; table = viewed.0 }) refl starts.2)

-- what an answer leads to is known of the same files
knows_next : Joined → OneList → FileLaws → (m : Phase) (answer : Answer) (new : Phase) (f : Files) (p : Past) → Goes m answer new → Stands f p → Knows m f p
    → IfSome (next_call m) (λ call. Answers call answer f → Knows new f p)
knows_next law one laws (phases.View k r) answer new f p (to, on, after) stands known =
    IfSome_then (reader.next_call r) (reader_facts.knows_next law one r answer to f p on stands known)
    (λ call next told. after_known laws k to new f p stands after (next told))
knows_next law one laws (phases.Files k id r) answer new f p (to, on, after) stands (v, same, is, known) =
    IfSome_then (files.next_call r) (files_facts.knows_next (all_of k v) r answer to f p on stands known)
    (λ call next told. files_known laws k f p v id to new stands is same after (next told))
knows_next law one laws m answer new f p goes stands known = absurd goes

pub sound : Joined → OneList → FileLaws → Sound next_call Goes (Refuses Shown phases.Over) (Stops phases.Over) Stands (λ m. IsKept) Knows
sound law one laws = sound_of_spared next_call Goes Shown phases.Over Stands Knows spares (knows_next law one laws) (λ f p. tt)

-- ---- its calls

-- all files were read
whole_view : (a : AskedRows) (v : View) (c : Collected) (own : List Event) → AfterView a.table v (files_trace.DidSoFar (all_of a.rows v) (group_readers.Ready c)) own
    → AfterView a.table v (files_trace.HasPart (all_of a.rows v) c []) own
whole_view a v c own after = record { first = after.first; viewed = after.viewed; reads = after.reads; so = after.so; is = after.is }

-- with a reader of the view's files after these calls
did_files : (a : AskedRows) (v : View) (k : Rows) (id : ℕ) (m : files_phase.Phase) (new : Phase) (own : List Event) → k ≡ a.rows → id ≡ v.id → AfterFiles k id m new
    → AfterView a.table v (files_trace.DidSoFar (all_of a.rows v) m) own → Did a new own
did_files a v k id m new own rows same after did =
    with_files (λ (m : files_phase.Phase). AfterView a.table v (files_trace.DidSoFar (all_of a.rows v) m) own) (Did a new own) k id m new after did
    (λ none held. subst (λ (m : Phase). Did a m own) (sym held) (v, rows, same, did))
    (λ c text all prints printed. subst (λ (m : Phase). Did a m own) (sym printed)
    (rows, record { view = v; collected = c; is_id = same; all_read = whole_view a v c own all; prints = prints }))

-- none was read yet
none_read : (a : AskedRows) (v : View) (own : List Event) → HasView a.table v own
    → AfterView a.table v (files_trace.DidSoFar (all_of a.rows v) (read_next v.id (nothing_of v.schema) (jobs_of a.rows v))) own
none_read a v own viewed = record {
  first = own;
  viewed = viewed;
  reads = [];
  so = first_did (jobs_of a.rows v) (part_none (all_of a.rows v) refl);
  is = sym (append-nil own);
}
  where
    first_did : (jobs : List Job) → files_trace.HasPart (all_of a.rows v) (nothing_of v.schema) jobs [] → files_trace.DidSoFar (all_of a.rows v) (read_next v.id (nothing_of v.schema) jobs) []
    first_did [] part = part
    first_did (job ∷ jobs) part = (refl, part)

did_after : (a : AskedRows) (k : Rows) (to : view_phase.Phase) (new : Phase) (own : List Event) → k ≡ a.rows → AfterReader k to new → reader_trace.Did a.table to own → Did a new own
did_after a k to new own rows after did =
    with_reader (λ m. phases.View k m) (Starts k) (λ m. reader_trace.Did a.table m own) (Did a new own) to new after did
    (λ is. subst (λ (m : Phase). Did a m own) (sym is) (rows, did))
    (λ v viewed starts. did_files a v k v.id (read_next v.id (nothing_of v.schema) (jobs_of k v)) new own rows refl starts.2
    (subst (λ (k : Rows). AfterView a.table v (files_trace.DidSoFar (all_of a.rows v) (read_next v.id (nothing_of v.schema) (jobs_of k v))) own) (sym rows)
    (none_read a v own viewed.0)))

-- one call more after the view was read
one_more : (a : Asked) (v : View) (P Q : List Event → Type 0) (event : Event) (own : List Event) → (after : AfterView a v P own)
    → (P after.reads → Q (after.reads ++ event ∷ [])) → AfterView a v Q (own ++ event ∷ [])
one_more a v P Q event own after more = record {
  first = after.first;
  viewed = after.viewed;
  reads = after.reads ++ event ∷ [];
  so = more after.so;
  is = ap (λ (own : List Event). own ++ event ∷ []) after.is ∙ append_assoc after.first after.reads (event ∷ []);
}

-- a reader of files that made calls so far, and isn't over
as_did : (m : files_phase.Phase) (k : Rows) (v : View) (own : List Event) → files_trace.DidSoFar (all_of k v) m own → files_trace.Did (all_of k v) m own
as_did (group_readers.Files r) k v own did = did
as_did (group_readers.Again id path) k v own did = did
as_did (group_readers.Ready c) k v own did = did
as_did group_readers.Over k v own did = absurd did

-- it went on, so it isn't over
as_so_far : (m : files_phase.Phase) (answer : Answer) (new : files_phase.Phase) (k : Rows) (v : View) (own : List Event) → files.Goes m answer new → files_trace.Did (all_of k v) new own
    → files_trace.DidSoFar (all_of k v) new own
as_so_far m answer (group_readers.Files r) k v own goes did = did
as_so_far m answer (group_readers.Again id path) k v own goes did = did
as_so_far m answer (group_readers.Ready c) k v own goes did = did
as_so_far m answer group_readers.Over k v own goes did = absurd (files_facts.goes_on_not_over m answer goes)

went_on : Joined → (a : AskedRows) (m : Phase) (answer : Answer) (new : Phase) (own : List Event) → Goes m answer new → Did a m own
    → IfSome (next_call m) (λ call. MayAnswer call answer → Did a new (own ++ answered call answer ∷ []))
went_on law a (phases.View k r) answer new own (to, on, after) (rows, did) =
    IfSome_then (reader.next_call r) ((reader_facts.recounts law a.table).went r to answer own on did)
    (λ call did may. did_after a k to new (own ++ answered call answer ∷ []) rows after (did may))
went_on law a (phases.Files k id r) answer new own (to, on, after) (v, rows, same, did) =
    IfSome_then (files.next_call r) ((files_facts.recounts (all_of a.rows v)).went r to answer did.reads on (as_did r a.rows v did.reads did.so))
    (λ call next may. did_files a v k id to new (own ++ answered call answer ∷ []) rows same after
    (one_more a.table v (files_trace.DidSoFar (all_of a.rows v) r) (files_trace.DidSoFar (all_of a.rows v) to) (answered call answer) own did
    (λ so. as_so_far r answer to a.rows v (did.reads ++ answered call answer ∷ []) on (next may))))
went_on law a m answer new own goes did = absurd goes

shows_as : (a : AskedRows) (refusal defined : Refusal) (own : List Event) → refusal ≡ defined → ShowsOfFiles a defined own → Shows a refusal own
shows_as a refusal defined own is shows = inr (subst (λ (e : Refusal). ShowsOfFiles a e own) (sym is) shows)

-- a refusal of the files is shown
of_files : (a : AskedRows) (v : View) (refusal : Refusal) (own : List Event) → IsOfFiles refusal → AfterView a.table v (files_trace.Shows (all_of a.rows v) refusal) own → Shows a refusal own
of_files a v refusal own (expired id) shows = inr (v, shows)
of_files a v refusal own (damaged path place) shows = inr (v, shows)
of_files a v refusal own (unsupported what text) shows = inr (v, shows)

refused_on : Joined → (a : AskedRows) (m : Phase) (answer : Answer) (refusal : Refusal) (own : List Event) → Shown m answer refusal → Did a m own
    → IfSome (next_call m) (λ call. MayAnswer call answer → Shows a refusal (own ++ answered call answer ∷ []))
refused_on law a (phases.View k r) answer refusal own (inl (is, v, engine, on)) did =
    IfSome_then (reader.next_call r)
    (ended next_call (DidSoFar a) MayTakeMemory (phases.View k r) (reader.next_call r) answer own refl did (v, on))
    (λ call ends may. shows_as a refusal refusals.Memory (own ++ answered call answer ∷ []) is (ends may))
refused_on law a (phases.View k r) answer refusal own (inr shown) did =
    IfSome_then (reader.next_call r) ((reader_facts.recounts law a.table).refused r readers.Over answer refusal own (shown, refl) did.1)
    (λ call shows may. inl (shows may).1)
refused_on law a (phases.Files k id r) answer refusal own (inl (is, c, on)) did =
    IfSome_then (files.next_call r)
    (ended next_call (DidSoFar a) MayTakeMemory (phases.Files k id r) (files.next_call r) answer own refl did (may_print r answer c on))
    (λ call ends may. shows_as a refusal refusals.Memory (own ++ answered call answer ∷ []) is (ends may))
refused_on law a (phases.Files k id r) answer refusal own (inr shown) (v, rows, same, did) = elim (shown_as r answer refusal shown) [
  | inl memory ↦ IfSome_then (files.next_call r)
      (ended next_call (DidSoFar a) MayTakeMemory (phases.Files k id r) (files.next_call r) answer own refl (v, rows, same, did) memory.1)
      (λ call ends may. shows_as a refusal refusals.Memory (own ++ answered call answer ∷ []) memory.0 (ends may))
  | inr fault ↦ IfSome_then (files.next_call r)
      ((files_facts.recounts (all_of a.rows v)).refused r group_readers.Over answer refusal did.reads (shown, refl) (as_did r a.rows v did.reads did.so))
      (λ call shows may. of_files a v refusal (own ++ answered call answer ∷ []) fault
      (one_more a.table v (files_trace.DidSoFar (all_of a.rows v) r) (files_trace.Shows (all_of a.rows v) refusal) (answered call answer) own did (λ so. (shows may).1)))
]
refused_on law a m answer refusal own shown did = absurd shown

so_far : (a : AskedRows) (m : Phase) (own : List Event) → IsSome (next_call m) → Did a m own → DidSoFar a m own
so_far a (phases.View k r) own called did = did
so_far a (phases.Files k id r) own called did = did
so_far a (phases.Ready k id text) own called did = did
so_far a phases.Over own called did = absurd (let clash = called in cc)

pub recounts : Joined → (a : AskedRows) → Recounts next_call Goes (Refuses Shown phases.Over) (Stops phases.Over) (Did a) (Shows a)
recounts law a = recounts_of next_call Goes Shown phases.Over (DidSoFar a) (Did a) MayTakeMemory (Shows a) (so_far a)
    (λ refusal own shows. (refusal, shows)) (λ path own failed. inr failed) (λ own ends. inr ends) (went_on law a) (refused_on law a)

-- ---- how far it has come

-- fewer calls than that are left, and some if the text isn't ready
abbrev IsAhead : ℕ → Phase → Type 0
IsAhead n m = (calls_left m < n) × (IsReady m ⊎ (0 < calls_left m))

-- with a reader of files that has fewer calls left
files_ahead : (k : Rows) (n id : ℕ) (m : files_phase.Phase) (new : Phase) → 0 < n → AfterFiles k id m new
    → (files.calls_left m < n) × (files.IsReady m ⊎ (0 < files.calls_left m)) → IsAhead n new
files_ahead k n id m new some after ahead =
    with_files (λ m. Unit {0}) (IsAhead n new) k id m new after tt
    (λ none held. subst (IsAhead n) (sym held) (ahead.0, inr (some_left none ahead.1)))
    (λ c text so prints printed. subst (IsAhead n) (sym printed) (some, inl tt))
  where
    some_left : (files.IsReady m → ⊥) → files.IsReady m ⊎ (0 < files.calls_left m) → 0 < files.calls_left m
    some_left none (inl ready) = absurd (none ready)
    some_left none (inr more) = more

view_ahead : (k : Rows) (r to : view_phase.Phase) (new : Phase) → reader.calls_left to < reader.calls_left r → new ≡ phases.View k to → IsAhead (reader.calls_left r + (most + 2)) new
view_ahead k r to new fewer is =
    let less : reader.calls_left to + (most + 2) < reader.calls_left r + (most + 2) = omega (arith, fewer) in
    let some : 0 < reader.calls_left to + (most + 2) = omega arith in
    subst (IsAhead (reader.calls_left r + (most + 2))) (sym is) (less, inr some)

starts_ahead : (k : Rows) (n : ℕ) (v : View) (new : Phase) → Starts k v new → IsAhead (n + (most + 2)) new
starts_ahead k n v new (order, within, on) =
    files_ahead k (n + (most + 2)) v.id (read_next v.id (nothing_of v.schema) (jobs_of k v)) new (omega arith) on
    (next_ahead v.id (nothing_of v.schema) (jobs_of k v) (n + (most + 2)) (omega (arith, within)))

goes_ahead : (m : Phase) (answer : Answer) (new : Phase) → Goes m answer new → IsAhead (calls_left m) new
goes_ahead (phases.View k r) answer new (to, on, then) =
    with_reader (λ m. phases.View k m) (Starts k) (λ m. Unit {0}) (IsAhead (reader.calls_left r + (most + 2)) new) to new then tt
    (view_ahead k r to new (reader_facts.goes_ahead r answer to on).0) (λ v none starts. starts_ahead k (reader.calls_left r) v new starts)
goes_ahead (phases.Files k id r) answer new (to, on, after) =
    let ahead = files_facts.goes_ahead r answer to on in
    let less : files.calls_left to < files.calls_left r = ahead.0 in
    files_ahead k (files.calls_left r) id to new (omega (arith, less)) after ahead
goes_ahead m answer new goes = absurd goes

-- an answer that it goes on with leaves fewer calls
pub goes : (m : Phase) (answer : Answer) (new : Phase) → IsScanner m → Goes m answer new
    → (calls_left new < calls_left m) × (IsReady new ⊎ (0 < calls_left new))
goes m answer new is on = goes_ahead m answer new on

-- a scanner with calls left has a next one
pub has_call : (m : Phase) → IsScanner m → 0 < calls_left m → IsSome (next_call m)
has_call (phases.View k r) (has, engine) left = reader_facts.has_call r has
has_call (phases.Files k id r) is left = files_facts.has_call r left
has_call (phases.Ready k id text) is left = absurd (let none : 0 < 0 = left in omega (arith, none))
has_call phases.Over is left = absurd (let none : 0 < 0 = left in omega (arith, none))

-- ---- laws

pub knows_still : Kept → (m : Phase) (other : Actor) (f after : Files) (p q : Past) → Stands f p → Advances other f p after q → Knows m f p → Knows m after q
knows_still kept (phases.View k r) other f after p q stands advances known = reader_facts.knows_still r other f after p q stands advances known
knows_still kept (phases.Files k id r) other f after p q stands advances (v, same, is, known) = (
  v,
  same,
  table-view-kept goes_on other f after p q advances v is,
  files_facts.knows_still (all_of k v) r other f after p q stands advances known,
)
knows_still kept (phases.Ready k id text) other f after p q stands advances known = scan-kept goes_on other f after p q advances kept k id text.items stands known
knows_still kept phases.Over other f after p q stands advances known = tt

pub images : (m : Phase) (call : Call) (f image : Files) (p : Past) → next_call m ≡ Some call → MayLeave call f image → IsKept f p image p
images m call f image p = image_spared next_call m call f image p (spares m f)
