-- A reader of a consumer's file keeps the laws of machines, and what it shows of a table.
use Rattle.std.proofs.Common.{◌≡◌, ◌⊎◌, inl, inr, ℕ, ◌+◌, ◌<◌, ◌≤◌, List, [], ◌∷◌, ◌++◌, length, map as each_of, Option, None, Some, IsSome, IfSome, IsSomeAnd, false, Ok, Err, refl, sym, ap, subst, ◌∙◌, arith}
use Rattle.std.specs.FinMap as map
use Rattle.std.specs.List.{range_with_len}
use Rattle.pm_values.specs.declared.refusal.Refusal.{Refusal}
use Rattle.pm_values.specs.declared.refusal.Refusal.TheVariants as refusals
use Rattle.pm_store.specs.declared.answer.Answer.{Answer}
use Rattle.pm_store.specs.declared.answer.Answer.TheVariants as answers
use Rattle.pm_store.specs.declared.call.Call.{Call}
use Rattle.pm_store.specs.declared.call.Call.TheVariants as calls
use Rattle.pm_store.specs.Answers.{Answers, MayAnswer}
use Rattle.pm_store.specs.Files.{Files}
use Rattle.pm_store.specs.Images.{MayLeave}
use Rattle.pm_machine.specs.Moves.{IsKept, Sound, Truthful}
use Rattle.pm_machine.specs.Running.{Refuses, Stops}
use Rattle.pm_machine.specs.Trace.{Event, Recounts, after_answer, answered}
use Rattle.pm_machine.proofs.PhaseFacts.{Spares, image_spared, recounts_of, sound_of_spared, truthful_of_spared}
use Rattle.pm_model_consumers.specs.Claims.{Claim, Counts, free, settled}
use Rattle.pm_model_history.specs.History.{Entry, History, IsTableOf, no_table, table}
use Rattle.pm_model_following.specs.Following.{frame}
use Rattle.pm_schema.specs.declared.schema.TableSchema.{TableSchema}
use Rattle.pm_snapshot.specs.Consumer.{consumer_in}
use Rattle.pm_snapshot.specs.declared.consumer.Consumer.{Consumer}
use Rattle.pm_snapshot.specs.declared.fault.SnapFault.TheVariants as faults
use Rattle.pm_model_folder.specs.Folder.{Folder}
use Rattle.pm_model_folder.specs.Ledger.{KnowsPast, Past, Stands}
use Rattle.pm_model_folder.specs.Meaning.{ConsumerAt, IsLeast}
use Rattle.pm_model_folder.specs.Paths.{consumer_path}
use Rattle.pm_model_folder.proofs.LedgerFacts.{at-table}
use Rattle.pm_read_schema.specs.Beside.{AnyPast, IsTold}
use Rattle.pm_read_schema.proofs.Facts.{read_effect}
use Rattle.pm_read_consumer.specs.Meaning.{IsFoundIn, IsServed}
use Rattle.pm_read_consumer.specs.Reader.{Says, IsDamaged, consumer_call, next_call, calls_left, IsReady, ReadsConsumer, found_as, Goes, Shown}
use Rattle.pm_read_consumer.specs.Trace.{DidSoFar, MayTakeMemory, Shows, Did}
use Rattle.pm_read_consumer.specs.declared.phase.FoundConsumer.{FoundConsumer}
use Rattle.pm_read_consumer.specs.declared.phase.Phase.{Phase}
use Rattle.pm_read_consumer.specs.declared.phase.Phase.TheVariants as phases

-- ---- its call changes nothing

pub spares : (m : Phase) (f : Files) → IfSome (next_call m) (Spares f)
spares (phases.Read path) f = λ effect. read_effect path effect f
spares (phases.Ready r) f = tt
spares phases.Over f = tt

-- nothing that it knows lasts
knows_next : (m : Phase) (answer : Answer) (new : Phase) (f : Files) (p : Past) → Goes m answer new → Stands f p → AnyPast f p
    → IfSome (next_call m) (λ call. Answers call answer f → AnyPast f p)
knows_next (phases.Read path) answer new f p goes stands known = λ told. tt
knows_next (phases.Ready r) answer new f p goes stands known = tt
knows_next phases.Over answer new f p goes stands known = tt

pub sound : Sound next_call Goes (Refuses Shown phases.Over) (Stops phases.Over) Stands (λ m. IsKept) (λ m. AnyPast)
sound = sound_of_spared next_call Goes Shown phases.Over Stands (λ m. AnyPast) spares knows_next (λ f p. tt)

-- ---- its calls

-- the first call is the read of the consumer's file
one_read : (name path : List ℕ) (found : Option (List ℕ)) (own : List Event) → path ≡ consumer_path name → own ≡ []
    → own ++ answered (calls.Read path) (answers.Found found) ∷ [] ≡ answered (consumer_call name) (answers.Found found) ∷ []
one_read name path found own at none =
    ap (λ (own : List Event). own ++ answered (calls.Read path) (answers.Found found) ∷ []) none
    ∙ ap (λ (path : List ℕ). answered (calls.Read path) (answers.Found found) ∷ []) at

went_on : (name : List ℕ) (m : Phase) (answer : Answer) (new : Phase) (own : List Event) → Goes m answer new → Did name m own
    → IfSome (next_call m) (λ call. MayAnswer call answer → Did name new (own ++ answered call answer ∷ []))
went_on name (phases.Read path) (answers.Found found) new own (said, says, is) (at, none) = λ may.
    subst (λ (m : Phase). Did name m (own ++ answered (calls.Read path) (answers.Found found) ∷ [])) (sym is)
    (says, one_read name path found own at none)
went_on name m answer new own goes did = absurd goes

refused_on : (name : List ℕ) (m : Phase) (answer : Answer) (refusal : Refusal) (own : List Event) → Shown m answer refusal → Did name m own
    → IfSome (next_call m) (λ call. MayAnswer call answer → Shows name refusal (own ++ answered call answer ∷ []))
refused_on name (phases.Read path) (answers.Found (Some bytes)) refusal own (inl is) did = λ may.
    subst (λ (refusal : Refusal). Shows name refusal (own ++ answered (calls.Read path) (answers.Found (Some bytes)) ∷ [])) (sym is)
    (after_answer (phases.Read path) (calls.Read path) (answers.Found (Some bytes)) own did refl may tt refl)
refused_on name (phases.Read path) (answers.Found (Some bytes)) refusal own (inr is) (at, none) = λ may.
    subst (λ (refusal : Refusal). Shows name refusal (own ++ answered (calls.Read path) (answers.Found (Some bytes)) ∷ [])) (sym is.0)
    (bytes, at, refl, is.1, one_read name path (Some bytes) own at none)
refused_on name m answer refusal own shown did = absurd shown

so_far : (name : List ℕ) (m : Phase) (own : List Event) → IsSome (next_call m) → Did name m own → DidSoFar name m own
so_far name (phases.Read path) own called did = did
so_far name (phases.Ready r) own called did = did
so_far name phases.Over own called did = absurd (let clash = called in cc)

pub recounts : (name : List ℕ) → Recounts next_call Goes (Refuses Shown phases.Over) (Stops phases.Over) (Did name) (Shows name)
recounts name = recounts_of next_call Goes Shown phases.Over (DidSoFar name) (Did name) MayTakeMemory (Shows name) (so_far name)
    (λ refusal own shows. (refusal, shows)) (λ path own failed. failed) (λ own ends. ends) (went_on name) (refused_on name)

-- ---- how far it has come

pub goes_ahead : (m : Phase) (answer : Answer) (new : Phase) → Goes m answer new → (calls_left new < calls_left m) × (IsReady new ⊎ (0 < calls_left new))
goes_ahead (phases.Read path) (answers.Found found) new (said, says, is) =
    subst (λ (new : Phase). (calls_left new < 1) × (IsReady new ⊎ (0 < calls_left new))) (sym is) (omega arith, inl tt)
goes_ahead m answer new goes = absurd goes

-- a reader with a call left has a next one
pub has_call : (m : Phase) → 0 < calls_left m → IsSome (next_call m)
has_call (phases.Read path) left = refl
has_call (phases.Ready r) left = absurd (let none : 0 < 0 = left in omega (arith, none))
has_call phases.Over left = absurd (let none : 0 < 0 = left in omega (arith, none))

pub images : (m : Phase) (call : Call) (f image : Files) (p : Past) → next_call m ≡ Some call → MayLeave call f image → IsKept f p image p
images m call f image p = image_spared next_call m call f image p (spares m f)

-- ---- what it shows of a table

-- what the file says that reads as this
pub said_is : (found : Option (List ℕ)) (said : Option Consumer) (bytes : List ℕ) (c : Consumer) → Says found said → found ≡ Some bytes
    → consumer_in bytes ≡ Ok c → said ≡ Some c
said_is None None bytes c says is reads = cc
said_is None (Some d) bytes c says is reads = absurd says
said_is (Some other) None bytes c says is reads = absurd says
said_is (Some other) (Some d) bytes c says is reads =
    let same : other ≡ bytes = cc in
    let both : Ok d ≡ Ok c = sym says ∙ ap consumer_in same ∙ reads in
    let one : d ≡ c = cc in
    ap Some one

-- no file of a consumer is damaged
pub not_damaged : (f : Files) (h : History) (name bytes : List ℕ) → Folder f h → Some bytes ≡ map.get f (consumer_path name) → IsDamaged bytes → ⊥
not_damaged f no_table name bytes folder there bad = let clash : Some bytes ≡ None = there ∙ folder.consumers name in cc
not_damaged f (table s entries) name bytes folder there bad =
    let (c, (other, at, reads)) = folder.consumers name (subst (λ (o : Option (List ℕ)). IsSome o) there refl) in
    let both : Some bytes ≡ Some other = there ∙ at in
    let same : bytes ≡ other = cc in
    let clash : Err faults.Bad ≡ Ok c = sym bad ∙ ap consumer_in same ∙ reads in
    cc

-- what the law on consumers says of those that count, and of settled ones
abbrev pub Counted : Type 0
Counted = (f : Files) (p : Past) (s : TableSchema) (entries : List Entry) (name : List ℕ) → Stands f p → p.history ≡ table s entries
    → Counts (p.claims name) → (least : ℕ) × IsLeast f s least × ((c : Consumer) × ConsumerAt f name c × (least ≤ c.next))

abbrev pub Framed : Type 0
Framed = (f : Files) (p : Past) (s : TableSchema) (entries : List Entry) (name : List ℕ) (from : ℕ) (moved : List (List ℕ)) → Stands f p
    → p.history ≡ table s entries → p.claims name ≡ settled from moved
    → (c : Consumer) × ConsumerAt f name c × (c.fresh ≡ false) × (c.next ≡ from + length moved)
    × (moved ≡ each_of (λ (id : ℕ). frame s entries id) (range_with_len from (length moved)))

-- a name that is settled is that of a table's consumer
abbrev HasEntries : Past → Type 0
HasEntries p = (s : TableSchema) × (entries : List Entry) × (p.history ≡ table s entries)

free_not : (from : ℕ) (moved : List (List ℕ)) (claim : Claim) → claim ≡ free → claim ≡ settled from moved → ⊥
free_not from moved claim is was = let clash : free ≡ settled from moved = sym is ∙ was in cc

has_table : (f : Files) (p : Past) (h : History) (name : List ℕ) (from : ℕ) (moved : List (List ℕ)) → p.history ≡ h → KnowsPast f h p
    → p.claims name ≡ settled from moved → HasEntries p
has_table f p no_table name from moved is past claim = absurd (free_not from moved (p.claims name) (past.claims name) claim)
has_table f p (table s entries) name from moved is past claim = (s, entries, is)

module _ (counted : Counted) (framed : Framed) (name : List ℕ) (r : FoundConsumer) (f : Files) (p : Past) (stands : Stands f p)
    (here : r.found ≡ map.get f (consumer_path name)) (says : Says r.found r.consumer) where
  served : (s : TableSchema) → IsTableOf s p.history → Counts (p.claims name) → IsSomeAnd r.consumer (IsServed f s)
  served s is counts =
      let own = at-table f p s stands is in
      let (least, low, (c, (bytes, at, reads), within)) = counted f p s own.0 name stands own.1 counts in
      subst (λ (said : Option Consumer). IsSomeAnd said (IsServed f s)) (sym (said_is r.found r.consumer bytes c says (here ∙ at) reads)) (least, low, within)

  moved_on : (from : ℕ) (moved : List (List ℕ)) → p.claims name ≡ settled from moved
      → IsSomeAnd r.consumer (λ c. (c.fresh ≡ false) × (c.next ≡ from + length moved))
  moved_on from moved claim =
      let (s, entries, is) = has_table f p p.history name from moved refl stands.past claim in
      let (c, (bytes, at, reads), known, next, frames) = framed f p s entries name from moved stands is claim in
      subst (λ (said : Option Consumer). IsSomeAnd said (λ c. (c.fresh ≡ false) × (c.next ≡ from + length moved)))
      (sym (said_is r.found r.consumer bytes c says (here ∙ at) reads)) (known, next)

  pub is_found : IsFoundIn name r f p
  is_found = record { found = here; says = says; counts = served; settled = moved_on }

-- what is found once it is known
abbrev found_of : Phase → FoundConsumer
found_of (phases.Ready r) = r
found_of m = found_as None None

pub found_in : Counted → Framed → (name : List ℕ) (answer : Answer) (r : FoundConsumer) (f : Files) (p : Past) → Stands f p
    → Answers (consumer_call name) answer f → Goes (phases.Read (consumer_path name)) answer (phases.Ready r) → IsFoundIn name r f p
found_in counted framed name (answers.Found found) r f p stands told (said, says, is) =
    let same : r ≡ found_as found said = ap found_of is in
    subst (λ (r : FoundConsumer). IsFoundIn name r f p) (sym same) (is_found counted framed name (found_as found said) f p stands told says)
found_in counted framed name answer r f p stands told goes = absurd goes

pub reads_always : (name : List ℕ) (answer : Answer) (refusal : Refusal) (f : Files) (p : Past) → Stands f p → Answers (consumer_call name) answer f
    → Shown (phases.Read (consumer_path name)) answer refusal → refusal ≡ refusals.Memory
reads_always name (answers.Found (Some bytes)) refusal f p stands told (inl is) = is
reads_always name (answers.Found (Some bytes)) refusal f p stands told (inr is) =
    absurd (not_damaged f p.history name bytes stands.folder told is.1)
reads_always name answer refusal f p stands told shown = absurd shown

-- what a refusal tells
cause_at : (m : Phase) (answer : Answer) (refusal : Refusal) (f : Files) (p : Past) → ReadsConsumer m → Stands f p → Shown m answer refusal
    → IfSome (next_call m) (λ call. Answers call answer f → IsTold refusal f p)
cause_at (phases.Read path) answer refusal f p (name, at) stands shown = λ told.
    let memory = reads_always name answer refusal f p stands (subst (λ (path : List ℕ). Answers (calls.Read path) answer f) at told)
    (subst (λ (path : List ℕ). Shown (phases.Read path) answer refusal) at shown) in
    subst (λ (refusal : Refusal). IsTold refusal f p) (sym memory) tt
cause_at m answer refusal f p reads stands shown = absurd shown

pub truthful : Truthful next_call ReadsConsumer (Refuses Shown phases.Over) Stands (λ m. IsKept) (λ m. AnyPast) IsTold
truthful = truthful_of_spared next_call ReadsConsumer Shown phases.Over Stands (λ m. AnyPast) IsTold spares
    (λ m call answer refusal f p reads stands known is told shown. (rw is at (cause_at m answer refusal f p reads stands shown)) told)
    (λ f p. tt) (λ path f p. tt)
