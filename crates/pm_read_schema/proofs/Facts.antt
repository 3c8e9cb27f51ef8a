-- A reader of a schema keeps the laws of machines.
use Rattle.std.proofs.Common.{◌≡◌, ◌⊎◌, inl, inr, ℕ, ◌<◌, ◌≤◌, List, [], ◌∷◌, ◌++◌, Option, None, Some, IsSome, IfSome, Ok, Err, refl, sym, ap, ◌∙◌, subst, arith}
use Rattle.std.specs.FinMap as map
use Rattle.pm_values.specs.declared.refusal.Refusal.{Refusal}
use Rattle.pm_values.specs.declared.refusal.Refusal.TheVariants as refusals
use Rattle.pm_store.specs.declared.answer.Answer.{Answer}
use Rattle.pm_store.specs.declared.answer.Answer.TheVariants as answers
use Rattle.pm_store.specs.declared.call.Call.{Call}
use Rattle.pm_store.specs.declared.call.Call.TheVariants as calls
use Rattle.pm_store.specs.declared.call.Effect.{Effect}
use Rattle.pm_store.specs.declared.call.Effect.TheVariants as effects
use Rattle.pm_store.specs.Answers.{Answers, MayAnswer}
use Rattle.pm_store.specs.Files.{Files, IsListing, after_effect}
use Rattle.pm_store.specs.Images.{MayLeave}
use Rattle.pm_machine.specs.Moves.{IsKept, Sound, Truthful}
use Rattle.pm_machine.specs.Running.{Refuses, Stops}
use Rattle.pm_machine.specs.Trace.{Event, Recounts, after_answer, answered}
use Rattle.pm_machine.proofs.PhaseFacts.{Spares, image_spared, recounts_of, sound_of_spared, truthful_of_spared}
use Rattle.pm_model_history.specs.History.{History, IsTableOf, no_table, table, GoesOn}
use Rattle.pm_schema.specs.Reading.{schema_of}
use Rattle.pm_schema.specs.declared.schema.TableSchema.{TableSchema}
use Rattle.pm_model_folder.specs.Changes.{Actor, nothing}
use Rattle.pm_model_folder.specs.Folder.{Folder}
use Rattle.pm_model_folder.specs.Ledger.{Advances, Past, Stands}
use Rattle.pm_model_folder.specs.Meaning.{LeadsTo, SchemaAt}
use Rattle.pm_model_folder.specs.Paths.{consumer_path, schema_folder, schema_name, schema_path, snapshot_folder}
use Rattle.pm_model_folder.proofs.Facts.{goes_on, no-schema, only-schema, listed-none, snapshot-led, some-none, still_there, unnamed-origin}
use Rattle.pm_model_folder.proofs.LedgerFacts.{beside}
use Rattle.pm_schema.proofs.Facts.{file_faults}
use Rattle.pm_snapshot.specs.Names.{greatest, snapshot_name}
use Rattle.pm_read_schema.specs.Beside.{IsTold}
use Rattle.pm_read_schema.specs.Names.{HasSnapshot}
use Rattle.pm_read_schema.specs.Meaning.{IsSchemaId, Knows, KnowsOf, MayRefuse}
use Rattle.pm_read_schema.specs.Reader.{schemas_call, schema_call, snapshots_call, next_call, calls_left, with_origin, Goes, HasDeclared, IsReady, Shown}
use Rattle.pm_read_schema.specs.Trace.{listed_schemas, read_schema, listed_snapshots, Has, Misreads, DidSoFar, MayTakeMemory, Shows, Did}
use Rattle.pm_read_schema.specs.declared.phase.Phase.{Phase}
use Rattle.pm_read_schema.specs.declared.phase.Phase.TheVariants as phases

-- ---- its calls change nothing

pub list_effect : (folder : List ℕ) (effect : Effect) (f : Files) → after_effect (calls.List folder) effect f ≡ f
list_effect folder effects.None f = refl
list_effect folder (effects.Part found) f = refl
list_effect folder effects.Whole f = refl

pub read_effect : (path : List ℕ) (effect : Effect) (f : Files) → after_effect (calls.Read path) effect f ≡ f
read_effect path effects.None f = refl
read_effect path (effects.Part found) f = refl
read_effect path effects.Whole f = refl

-- each effect of its next call leaves the files as they are
pub spares : (m : Phase) (f : Files) → IfSome (next_call m) (Spares f)
spares phases.Schemas f = λ effect. list_effect schema_folder effect f
spares (phases.Schema id) f = λ effect. read_effect (schema_path id) effect f
spares (phases.Snapshots s) f = λ effect. list_effect snapshot_folder effect f
spares (phases.Ready s) f = tt
spares phases.Over f = tt

-- ---- what it knows

-- the schema that a file leads to is the table's
pub led_schema : (f : Files) (h : History) (id : ℕ) → Folder f h → id ≤ greatest → LeadsTo f schema_folder (schema_name id) → IsSchemaId id h
led_schema f no_table id folder within led = absurd (no-schema f id folder within led)
led_schema f (table s entries) id folder within led = ((only-schema f s entries id folder within led).0, (s, refl))

-- that is there, and there is a table of it
schema_there : (f : Files) (h : History) (id : ℕ) → Folder f h → IsSchemaId id h → (s : TableSchema) × SchemaAt f id s × IsTableOf s h
schema_there f no_table id folder (first, (s, is)) = absurd is
schema_there f (table t entries) id folder (first, (s, is)) = (t, subst (λ id. SchemaAt f id t) (sym first) folder.schema.first, refl)

-- its bytes are those that a read answers
schema_reads : (f : Files) (h : History) (id : ℕ) (bytes : List ℕ) → Folder f h → IsSchemaId id h → Some bytes ≡ map.get f (schema_path id)
    → (s : TableSchema) × (schema_of (schema_path id) bytes ≡ Ok s) × IsTableOf s h
schema_reads f h id bytes folder known there =
    let at = schema_there f h id folder known in
    let same : Some bytes ≡ Some at.1.0 = there ∙ at.1.1 in
    let bytes_are : bytes ≡ at.1.0 = cc in
    (at.0, ap (schema_of (schema_path id)) bytes_are ∙ at.1.2, at.2)

pub own_schema : (f : Files) (h : History) (id : ℕ) (bytes : List ℕ) (s : TableSchema) → Folder f h → IsSchemaId id h
    → Some bytes ≡ map.get f (schema_path id) → schema_of (schema_path id) bytes ≡ Ok s → IsTableOf s h
own_schema f h id bytes s folder known there reads =
    let at = schema_reads f h id bytes folder known there in
    let read : Ok at.0 ≡ Ok s = sym at.1 ∙ reads in
    let same : at.0 ≡ s = cc in
    subst (λ (s : TableSchema). IsTableOf s h) same at.2

knows_schema : (o : Option (List ℕ)) (s : TableSchema) (h : History) → s.origin ≡ o → IsTableOf s h → KnowsOf (with_origin o s) h
knows_schema None s h none is = (is, none)
knows_schema (Some origin) s h some is = is

-- what an answer leads to is known of the same history
next_of : (m : Phase) (answer : Answer) (new : Phase) (f : Files) (h : History) → Goes m answer new → Folder f h → KnowsOf m h
    → IfSome (next_call m) (λ call. Answers call answer f → KnowsOf new h)
next_of phases.Schemas (answers.Listed names) new f h (id, newest, is) folder known = λ told.
    subst (λ (m : Phase). KnowsOf m h) (sym is) (led_schema f h id folder newest.within ((told.exact (schema_name id)).0 newest.listed))
next_of (phases.Schema id) (answers.Found (Some bytes)) new f h (s, reads, is) folder known = λ told.
    subst (λ (m : Phase). KnowsOf m h) (sym is) (knows_schema s.origin s h refl (own_schema f h id bytes s folder known told reads))
next_of (phases.Snapshots s) (answers.Listed names) new f h (some, is) folder known = λ told.
    subst (λ (m : Phase). KnowsOf m h) (sym is) known.0
next_of m answer new f h goes folder known = absurd goes

pub knows_next : (m : Phase) (answer : Answer) (new : Phase) (f : Files) (p : Past) → Goes m answer new → Stands f p → Knows m f p
    → IfSome (next_call m) (λ call. Answers call answer f → Knows new f p)
knows_next m answer new f p goes stands known = next_of m answer new f p.history goes stands.folder known

pub sound : Sound next_call Goes (Refuses Shown phases.Over) (Stops phases.Over) Stands (λ m. IsKept) Knows
sound = sound_of_spared next_call Goes Shown phases.Over Stands Knows spares knows_next (λ f p. tt)

-- ---- its calls

did_schema : (o : Option (List ℕ)) (s : TableSchema) (own : List Event) → s.origin ≡ o → Has s own → Did (with_origin o s) own
did_schema None s own is has = (has, is)
did_schema (Some origin) s own is has = inl (has, subst (λ (o : Option (List ℕ)). IsSome o) (sym is) refl)

went_on : (m : Phase) (answer : Answer) (new : Phase) (own : List Event) → Goes m answer new → Did m own
    → IfSome (next_call m) (λ call. MayAnswer call answer → Did new (own ++ answered call answer ∷ []))
went_on phases.Schemas (answers.Listed names) new own (id, newest, is) did = λ may.
    subst (λ (m : Phase). Did m (own ++ listed_schemas names ∷ [])) (sym is)
    (names, newest, ap (λ (own : List Event). own ++ listed_schemas names ∷ []) did)
went_on (phases.Schema id) (answers.Found (Some bytes)) new own (s, reads, is) did = λ may.
    subst (λ (m : Phase). Did m (own ++ read_schema id (Some bytes) ∷ [])) (sym is)
    (did_schema s.origin s (own ++ read_schema id (Some bytes) ∷ []) refl (id, bytes, reads, (own, did, refl)))
went_on (phases.Snapshots s) (answers.Listed names) new own (some, is) did = λ may.
    subst (λ (m : Phase). Did m (own ++ listed_snapshots names ∷ [])) (sym is) (inr (names, some, (own, did.0, did.1, refl)))
went_on m answer new own goes did = absurd goes

-- a fault of the bytes that were read is shown
misread : (refusal : Refusal) (own : List Event) → Misreads refusal own → Shows refusal own
misread (refusals.Damaged path place) own is = inr is
misread (refusals.Unsupported what text) own is = inr is
misread (refusals.Limit which number) own is = is
misread (refusals.SchemaRule rule) own is = is
misread other own (id, bytes, reads, did) = absurd (rw reads at (file_faults (schema_path id) bytes))

refused_on : (m : Phase) (answer : Answer) (refusal : Refusal) (own : List Event) → Shown m answer refusal → Did m own
    → IfSome (next_call m) (λ call. MayAnswer call answer → Shows refusal (own ++ answered call answer ∷ []))
refused_on phases.Schemas (answers.Listed names) refusal own (is, none) did = λ may.
    subst (λ (refusal : Refusal). Shows refusal (own ++ listed_schemas names ∷ [])) (sym is)
    (names, none, ap (λ (own : List Event). own ++ listed_schemas names ∷ []) did)
refused_on (phases.Schema id) (answers.Found None) refusal own (inl is) did = λ may.
    subst (λ (refusal : Refusal). Shows refusal (own ++ read_schema id None ∷ [])) (sym is)
    (after_answer (phases.Schema id) (schema_call id) (answers.Found None) own did refl may tt refl)
refused_on (phases.Schema id) (answers.Found None) refusal own (inr is) did = λ may.
    subst (λ (refusal : Refusal). Shows refusal (own ++ read_schema id None ∷ [])) (sym is) (inl (id, refl, refl, (own, did, refl)))
refused_on (phases.Schema id) (answers.Found (Some bytes)) refusal own (inl is) did = λ may.
    subst (λ (refusal : Refusal). Shows refusal (own ++ read_schema id (Some bytes) ∷ [])) (sym is)
    (after_answer (phases.Schema id) (schema_call id) (answers.Found (Some bytes)) own did refl may tt refl)
refused_on (phases.Schema id) (answers.Found (Some bytes)) refusal own (inr is) did = λ may.
    misread refusal (own ++ read_schema id (Some bytes) ∷ []) (id, bytes, is, (own, did, refl))
refused_on (phases.Snapshots s) (answers.Listed names) refusal own (inl is, none) did = λ may.
    subst (λ (refusal : Refusal). Shows refusal (own ++ listed_snapshots names ∷ [])) (sym is)
    (after_answer (phases.Snapshots s) snapshots_call (answers.Listed names) own did refl may none refl)
refused_on (phases.Snapshots s) (answers.Listed names) refusal own (inr is, none) did = λ may.
    subst (λ (refusal : Refusal). Shows refusal (own ++ listed_snapshots names ∷ [])) (sym is)
    (inl (refl, refl, (s, names, none, (own, did.0, did.1, refl))))
refused_on m answer refusal own shown did = absurd shown

so_far : (m : Phase) (own : List Event) → IsSome (next_call m) → Did m own → DidSoFar m own
so_far phases.Schemas own called did = did
so_far (phases.Schema id) own called did = did
so_far (phases.Snapshots s) own called did = did
so_far (phases.Ready s) own called did = did
so_far phases.Over own called did = absurd (let clash = called in cc)

pub recounts : Recounts next_call Goes (Refuses Shown phases.Over) (Stops phases.Over) Did Shows
recounts = recounts_of next_call Goes Shown phases.Over DidSoFar Did MayTakeMemory Shows so_far (λ refusal own shows. (refusal, shows))
    (λ path own failed. failed) (λ own ends. ends) went_on refused_on

-- ---- how far it has come

-- fewer calls than that are left, and some if the schema isn't ready
abbrev pub IsAhead : ℕ → Phase → Type 0
IsAhead n m = (calls_left m < n) × (IsReady m ⊎ (0 < calls_left m))

ahead_with : (o : Option (List ℕ)) (s : TableSchema) → IsAhead 2 (with_origin o s)
ahead_with None s = (omega arith, inr (omega arith))
ahead_with (Some origin) s = (omega arith, inl tt)

-- an answer that it goes on with leaves fewer calls
pub goes_ahead : (m : Phase) (answer : Answer) (new : Phase) → Goes m answer new → IsAhead (calls_left m) new
goes_ahead phases.Schemas (answers.Listed names) new (id, newest, is) = subst (IsAhead 3) (sym is) (omega arith, inr (omega arith))
goes_ahead (phases.Schema id) (answers.Found (Some bytes)) new (s, reads, is) = subst (IsAhead 2) (sym is) (ahead_with s.origin s)
goes_ahead (phases.Snapshots s) (answers.Listed names) new (some, is) = subst (IsAhead 1) (sym is) (omega arith, inl tt)
goes_ahead m answer new on = absurd on

-- a reader with calls left has a next one
pub has_call : (m : Phase) → 0 < calls_left m → IsSome (next_call m)
has_call phases.Schemas left = refl
has_call (phases.Schema id) left = refl
has_call (phases.Snapshots s) left = refl
has_call (phases.Ready s) left = absurd (omega (arith, left))
has_call phases.Over left = absurd (omega (arith, left))

-- ---- what answers show where the files stand for a history

-- where a table's schema names no origin, a listing has a snapshot
lists_some : (f : Files) (h : History) (s : TableSchema) (names : List (List ℕ)) → Folder f h → KnowsOf (phases.Snapshots s) h
    → IsListing snapshot_folder names f → HasSnapshot names
lists_some f no_table s names folder (is, none) listing = absurd is
lists_some f (table t entries) s names folder (is, none) listing =
    let at = unnamed-origin f t entries folder (ap (λ (s : TableSchema). s.origin) is ∙ none) in
    (at.0, at.1, at.2, (listing.exact (snapshot_name at.0)).1 (snapshot-led f at.0 at.2 at.3))

pub cause_at : (m : Phase) (answer : Answer) (refusal : Refusal) (f : Files) (h : History) → Folder f h → KnowsOf m h → Shown m answer refusal
    → IfSome (next_call m) (λ call. Answers call answer f → MayRefuse h refusal)
cause_at phases.Schemas (answers.Listed names) refusal f h folder known (is, none) = λ told.
    subst (MayRefuse h) (sym is) ((listed-none f h names.items folder told).0 none)
cause_at (phases.Schema id) (answers.Found None) refusal f h folder known (inl is) = λ told. subst (MayRefuse h) (sym is) tt
cause_at (phases.Schema id) (answers.Found None) refusal f h folder known (inr is) = λ told.
    absurd (let at = schema_there f h id folder known in let clash : None ≡ Some at.1.0 = told ∙ at.1.1 in cc)
cause_at (phases.Schema id) (answers.Found (Some bytes)) refusal f h folder known (inl is) = λ told. subst (MayRefuse h) (sym is) tt
cause_at (phases.Schema id) (answers.Found (Some bytes)) refusal f h folder known (inr is) = λ told.
    absurd (let at = schema_reads f h id bytes folder known told in let clash : Ok at.0 ≡ Err refusal = sym at.1 ∙ is in cc)
cause_at (phases.Snapshots s) (answers.Listed names) refusal f h folder known (is, none) = λ told. absurd (none (lists_some f h s names.items folder known told))
cause_at m answer refusal f h folder known shown = absurd shown

-- ---- laws

pub cause : (m : Phase) (call : Call) (answer : Answer) (refusal : Refusal) (f : Files) (p : Past) → Stands f p → Knows m f p
    → next_call m ≡ Some call → Answers call answer f → Shown m answer refusal → MayRefuse p.history refusal
cause m call answer refusal f p stands known is told shown = (rw is at (cause_at m answer refusal f p.history stands.folder known shown)) told

-- and that is told
pub may_tell : (refusal : Refusal) (f : Files) (p : Past) → MayRefuse p.history refusal → IsTold refusal f p
may_tell refusals.Memory f p may = tt
may_tell refusals.NoTable f p may = may
may_tell other f p may = absurd may

pub truthful : Truthful next_call HasDeclared (Refuses Shown phases.Over) Stands (λ m. IsKept) Knows IsTold
truthful = truthful_of_spared next_call HasDeclared Shown phases.Over Stands Knows IsTold spares
    (λ m call answer refusal f p held stands known is told shown. may_tell refusal f p (cause m call answer refusal f p stands known is told shown))
    (λ f p. tt) (λ path f p. tt)

pub no_next : (answer : Answer) (new : Phase) (f : Files) → Folder f no_table → Answers schemas_call answer f → ¬ Goes phases.Schemas answer new
no_next (answers.Listed names) new f folder told (id, newest, is) =
    (listed-none f no_table names.items folder told).1 refl id newest.within newest.listed
no_next answer new f folder told goes = absurd goes

pub still_table : (s : TableSchema) (h later : History) → GoesOn h later → IsTableOf s h → IsTableOf s later
still_table s no_table later goes is = absurd is
still_table s (table t entries) no_table goes is = absurd goes
still_table s (table t entries) (table u more) goes is = goes.0 ∙ is

-- what is known of a history is so of each that it goes on as
still_of : (m : Phase) (h later : History) → GoesOn h later → KnowsOf m h → KnowsOf m later
still_of phases.Schemas h later goes known = tt
still_of (phases.Schema id) h later goes (first, (s, is)) = (first, (s, still_table s h later goes is))
still_of (phases.Snapshots s) h later goes (known, none) = (still_table s h later goes known, none)
still_of (phases.Ready s) h later goes known = still_table s h later goes known
still_of phases.Over h later goes known = tt

pub knows_still : (m : Phase) (other : Actor) (f after : Files) (p q : Past) → Stands f p → Advances other f p after q → Knows m f p → Knows m after q
knows_still m other f after p q stands advances known =
    still_of m p.history q.history (goes_on other f after p.history q.history advances.change) known

-- where nothing changes, what is known stays
same_advances : (me : Actor) (f after : Files) (p : Past) → ((path : List ℕ) → map.get after path ≡ map.get f path) → Advances me f p after p
same_advances me f after p same =
    beside me f after p p.history (nothing same) refl (λ s path is none here. absurd (some-none (map.get after path) here (same path ∙ none)))
    (λ path there. still_there f after path (same path) there) (λ name. same (consumer_path name))

pub kept_nothing : (me : Actor) (f after : Files) (p later : Past) → IsKept f p after later → Advances me f p after later
kept_nothing me f after p later kept = subst (λ (later : Past). Advances me f p after later) (sym kept.past) (same_advances me f after p kept.files)

pub images : (m : Phase) (call : Call) (f image : Files) (p : Past) → next_call m ≡ Some call → MayLeave call f image → IsKept f p image p
images m call f image p = image_spared next_call m call f image p (spares m f)
