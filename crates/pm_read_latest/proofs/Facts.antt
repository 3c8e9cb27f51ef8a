-- A reader of the latest snapshot's id keeps the laws of machines.
use Rattle.std.proofs.Common.{◌≡◌, ◌⊎◌, inl, ℕ, zero, suc, ◌<◌, ◌≤◌, List, [], ◌∷◌, ◌++◌, length, Some, IsSome, IfSome, refl, sym, ap, subst, ◌∙◌, arith, length-append}
use Rattle.pm_values.specs.declared.refusal.Refusal.{Refusal}
use Rattle.pm_store.specs.declared.answer.Answer.{Answer}
use Rattle.pm_store.specs.declared.answer.Answer.TheVariants as answers
use Rattle.pm_store.specs.declared.call.Call.{Call}
use Rattle.pm_store.specs.Answers.{Answers, MayAnswer}
use Rattle.pm_store.specs.Files.{Files, IsListing}
use Rattle.pm_store.specs.Images.{MayLeave}
use Rattle.pm_machine.specs.Moves.{IsKept, Sound, Truthful}
use Rattle.pm_machine.specs.Running.{Refuses, Stops}
use Rattle.pm_machine.specs.Trace.{Event, Recounts, answered}
use Rattle.pm_machine.proofs.PhaseFacts.{Spares, image_spared, recounts_of, sound_of_spared, truthful_of_spared}
use Rattle.pm_model_history.specs.History.{History, GoesOn, no_table, table}
use Rattle.pm_snapshot.specs.Names.{snapshot_name}
use Rattle.pm_model_folder.specs.Changes.{Actor}
use Rattle.pm_model_folder.specs.Folder.{Folder}
use Rattle.pm_model_folder.specs.Ledger.{Advances, Past, Stands, count_of}
use Rattle.pm_model_folder.specs.Paths.{snapshot_folder}
use Rattle.pm_model_folder.proofs.Facts.{goes_on, listed-snapshot, some-none}
use Rattle.pm_paths.specs.Ids.{IsLatest}
use Rattle.pm_paths.proofs.ListedLemmas.{latest_is}
use Rattle.pm_read_schema.specs.Beside.{IsTold}
use Rattle.pm_read_schema.specs.Reader.{snapshots_call}
use Rattle.pm_read_schema.specs.Trace.{listed_snapshots}
use Rattle.pm_read_schema.proofs.Facts.{list_effect}
use Rattle.pm_read_latest.specs.Meaning.{Knows}
use Rattle.pm_read_latest.specs.Reader.{next_call, calls_left, Goes, IsReady, Shown}
use Rattle.pm_read_latest.specs.Trace.{DidSoFar, MayTakeMemory, Shows, Did}
use Rattle.pm_read_latest.specs.declared.phase.Phase.{Phase}
use Rattle.pm_read_latest.specs.declared.phase.Phase.TheVariants as phases

-- ---- its call changes nothing

pub spares : (m : Phase) (f : Files) → IfSome (next_call m) (Spares f)
spares phases.List f = λ effect. list_effect snapshot_folder effect f
spares (phases.Ready latest) f = tt
spares phases.Over f = tt

-- ---- what it knows

-- the latest that is listed is that of the history
pub latest_of : (f : Files) (h : History) (latest : ℕ) (names : List (List ℕ)) → Folder f h → IsLatest names latest → IsListing snapshot_folder names f
    → latest ≡ count_of h
latest_of f no_table zero names folder is listing = refl
latest_of f no_table (suc n) names folder is listing =
    let led = (listing.exact (snapshot_name (suc n))).0 (is.listed (omega arith)) in
    absurd (some-none _ (listed-snapshot f no_table (suc n) folder is.within led) (folder.snapshots (suc n) is.within))
latest_of f (table s entries) latest names folder is listing = latest_is f s entries folder latest names is listing

-- the id that is known
abbrev id_in : Phase → ℕ
id_in (phases.Ready latest) = latest
id_in m = 0

pub listed : (answer : Answer) (latest : ℕ) (f : Files) (p : Past) → Stands f p → Answers snapshots_call answer f → Goes phases.List answer (phases.Ready latest)
    → latest ≡ count_of p.history
listed (answers.Listed names) latest f p stands told (id, is, at) =
    let same : latest ≡ id = ap id_in at in
    same ∙ latest_of f p.history id names.items stands.folder is told
listed answer latest f p stands told goes = absurd goes

-- what an answer leads to is known of the same files
knows_next : (m : Phase) (answer : Answer) (new : Phase) (f : Files) (p : Past) → Goes m answer new → Stands f p → Knows m f p
    → IfSome (next_call m) (λ call. Answers call answer f → Knows new f p)
knows_next phases.List (answers.Listed names) new f p (latest, is, at) stands known = λ told.
    let same = latest_of f p.history latest names.items stands.folder is told in
    subst (λ (m : Phase). Knows m f p) (sym at) (is.within, omega (arith, same))
knows_next m answer new f p goes stands known = absurd goes

pub sound : Sound next_call Goes (Refuses Shown phases.Over) (Stops phases.Over) Stands (λ m. IsKept) Knows
sound = sound_of_spared next_call Goes Shown phases.Over Stands Knows spares knows_next (λ f p. tt)

-- no answer is refused
pub truthful : Truthful next_call (λ m. Unit {0}) (Refuses Shown phases.Over) Stands (λ m. IsKept) Knows IsTold
truthful = truthful_of_spared next_call (λ m. Unit {0}) Shown phases.Over Stands Knows IsTold spares
    (λ m call answer refusal f p held stands known is told shown. absurd shown) (λ f p. tt) (λ path f p. tt)

-- ---- its calls

went_on : (m : Phase) (answer : Answer) (new : Phase) (own : List Event) → Goes m answer new → Did m own
    → IfSome (next_call m) (λ call. MayAnswer call answer → Did new (own ++ answered call answer ∷ []))
went_on phases.List (answers.Listed names) new own (latest, is, at) none = λ may.
    subst (λ (m : Phase). Did m (own ++ listed_snapshots names ∷ [])) (sym at)
    (names, is, ap (λ (own : List Event). own ++ listed_snapshots names ∷ []) none)
went_on m answer new own goes did = absurd goes

refused_on : (m : Phase) (answer : Answer) (refusal : Refusal) (own : List Event) → Shown m answer refusal → Did m own
    → IfSome (next_call m) (λ call. MayAnswer call answer → Shows refusal (own ++ answered call answer ∷ []))
refused_on m answer refusal own shown did = absurd shown

so_far : (m : Phase) (own : List Event) → IsSome (next_call m) → Did m own → DidSoFar m own
so_far phases.List own called did = did
so_far (phases.Ready latest) own called did = did
so_far phases.Over own called did = absurd (let clash = called in cc)

pub recounts : Recounts next_call Goes (Refuses Shown phases.Over) (Stops phases.Over) Did Shows
recounts = recounts_of next_call Goes Shown phases.Over DidSoFar Did MayTakeMemory Shows so_far (λ refusal own shows. (refusal, shows))
    (λ path own failed. failed) (λ own ends. ends) went_on refused_on

-- ---- how far it has come

pub goes_ahead : (m : Phase) (answer : Answer) (new : Phase) → Goes m answer new → (calls_left new < calls_left m) × (IsReady new ⊎ (0 < calls_left new))
goes_ahead phases.List (answers.Listed names) new (latest, is, at) =
    subst (λ (new : Phase). (calls_left new < 1) × (IsReady new ⊎ (0 < calls_left new))) (sym at) (omega arith, inl tt)
goes_ahead m answer new goes = absurd goes

-- a reader with a call left has a next one
pub has_call : (m : Phase) → 0 < calls_left m → IsSome (next_call m)
has_call phases.List left = refl
has_call (phases.Ready latest) left = absurd (let none : 0 < 0 = left in omega (arith, none))
has_call phases.Over left = absurd (let none : 0 < 0 = left in omega (arith, none))

-- ---- laws

count_grows : (h later : History) → GoesOn h later → count_of h ≤ count_of later
count_grows no_table later goes = omega arith
count_grows (table s entries) no_table goes = absurd goes
count_grows (table s entries) (table t later) (same, more, is) =
    let size = ap length is in let both = length-append entries more in omega (arith, size, both)

pub knows_still : (m : Phase) (other : Actor) (f after : Files) (p q : Past) → Stands f p → Advances other f p after q → Knows m f p → Knows m after q
knows_still phases.List other f after p q stands advances known = tt
knows_still (phases.Ready latest) other f after p q stands advances (within, known) =
    let grown = count_grows p.history q.history (goes_on other f after p.history q.history advances.change) in
    (within, omega (arith, known, grown))
knows_still phases.Over other f after p q stands advances known = tt

pub images : (m : Phase) (call : Call) (f image : Files) (p : Past) → next_call m ≡ Some call → MayLeave call f image → IsKept f p image p
images m call f image p = image_spared next_call m call f image p (spares m f)
