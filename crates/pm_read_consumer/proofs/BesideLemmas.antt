-- What the reading of a consumer's file makes known, whatever others do.
use Rattle.std.proofs.Common.{◌≡◌, inl, inr, ℕ, List, [], ◌∷◌, Option, Some, Err, Ok, refl, sym, ap, subst}
use Rattle.std.specs.FinMap as map
use Rattle.pm_values.specs.declared.refusal.Refusal.{Refusal}
use Rattle.pm_values.specs.declared.refusal.Refusal.TheVariants as refusals
use Rattle.pm_store.specs.declared.answer.Answer.{Answer}
use Rattle.pm_store.specs.declared.answer.Answer.TheVariants as answers
use Rattle.pm_store.specs.declared.call.Call.{Call}
use Rattle.pm_store.specs.declared.call.Effect.TheVariants as effects
use Rattle.pm_store.specs.Answers.{Answers}
use Rattle.pm_store.specs.Files.{Files, files_after}
use Rattle.pm_store.specs.Store.{StoreView, whole}
use Rattle.pm_store.proofs.StepLaws.{Steps-weaker}
use Rattle.pm_machine.specs.Moves.{IsKept, Keeps, Moves}
use Rattle.pm_machine.specs.Step.{Answered}
use Rattle.pm_machine.specs.Trace.{Acts, Ended, Event}
use Rattle.pm_model_folder.specs.Ledger.{Past, Stands}
use Rattle.pm_model_folder.specs.Paths.{consumer_path}
use Rattle.pm_read_schema.specs.Beside.{AnyPast, IsTold, Learns}
use Rattle.pm_read_schema.proofs.AllCallsLemmas.{read_still}
use Rattle.pm_read_schema.proofs.BesideFacts.{PastStays, learns-moves, learns-none}
use Rattle.pm_read_schema.proofs.LeadLemmas.{head_same}
use Rattle.pm_read_schema.proofs.StillLemmas.{IsStill}
use Rattle.pm_read_consumer.specs.AllCalls.{FindsBeside, NoneStood}
use Rattle.pm_read_consumer.specs.Meaning.{IsFoundIn}
use Rattle.pm_read_consumer.specs.Reader.{IsDamaged, consumer_call}
use Rattle.pm_read_consumer.specs.Trace.{Did, HasFound, read_consumer}
use Rattle.pm_read_consumer.specs.declared.phase.FoundConsumer.{FoundConsumer}
use Rattle.pm_read_consumer.specs.declared.phase.Phase.{Phase}
use Rattle.pm_read_consumer.specs.declared.phase.Phase.TheVariants as phases
use Rattle.pm_read_consumer.proofs.Facts.{Counted, Framed, is_found, not_damaged}

-- ---- one answered call of a reader

module _ (past : PastStays) (knows : Files → Past → Type 0) (call : Call) (answer : Answer) (before after : StoreView) (still : IsStill call)
    (shows : (f : Files) (p : Past) → Stands f p → Answers call answer f → knows f p) where
  kept : (f g : Files) (p : Past) → g ≡ f → IsKept f p g p
  kept f g p same = record { files = λ path. ap (λ (g : Files). map.get g path) same; past = refl }

  keeps : (f : Files) → Answers call answer f → Keeps Stands IsKept AnyPast knows (whole call) f
  keeps f told = λ p stands known.
      let same = still f effects.Whole in (
        λ effect. (p, kept f _ p (still f effect)),
        (p, kept f _ p same, subst (λ (g : Files). knows g p) (sym same) (shows f p stands told)),
      )

  -- what the answer shows of the moment at which the call is made is known at the end
  pub answered-learned : Answered call answer before after → Learns AnyPast knows before after
  answered-learned (steps, may) =
      learns-moves past AnyPast AnyPast knows before before after (λ other f after p q stands advances known. tt) (learns-none AnyPast before)
      (inl (
        whole call,
        refl,
        Steps-weaker (whole call) (λ ops. Answers call answer (files_after ops))
            (λ ops. Keeps Stands IsKept AnyPast knows (whole call) (files_after ops)) before after (λ ops told. keeps (files_after ops) told) steps,
      ))

-- ---- the read of a consumer's file

-- the event of a step is this answer
pub answered-event : (name : List ℕ) (found : Option (List ℕ)) (event : Event) (before after : StoreView) → event ≡ read_consumer name found
    → Ended event.call event.answer before after → Answered (consumer_call name) (answers.Found found) before after
answered-event name found event before after is = subst (λ (event : Event). Ended event.call event.answer before after) is

-- a file that was damaged when it was read shows that no folder stood
pub damaged-learned : PastStays → (name bytes : List ℕ) (before after : StoreView) → IsDamaged bytes
    → Answered (consumer_call name) (answers.Found (Some bytes)) before after → NoneStood before after
damaged-learned past name bytes before after bad =
    answered-learned past (λ f p. ⊥) (consumer_call name) (answers.Found (Some bytes)) before after (read_still (consumer_path name))
    (λ f p stands told. not_damaged f p.history name bytes stands.folder told bad)

no_event : {X : Type 0} (event : Event) → [] ≡ event ∷ [] → X
no_event event is = cc

pub found-beside : PastStays → Counted → Framed → (name : List ℕ) (r : FoundConsumer) (old new : Phase) (before after : StoreView)
    → old ≡ phases.Read (consumer_path name) → new ≡ phases.Ready r → Acts (Did name old) (λ own. Did name new own × Unit {0}) before after
    → FindsBeside name before after (Ok r)
found-beside past counted framed name r old new before after first last (inl (event, ended, next)) =
    let did : Did name old [] = subst (λ (m : Phase). Did name m []) (sym first) (refl, refl) in
    let has : HasFound name r (event ∷ []) = subst (λ (m : Phase). Did name m (event ∷ [])) last (next [] did).0 in
    let is = head_same event (read_consumer name r.found) [] [] has.1 in
    answered-learned past (IsFoundIn name r) (consumer_call name) (answers.Found r.found) before after (read_still (consumer_path name))
    (λ f p stands told. is_found counted framed name r f p stands told has.0) (answered-event name r.found event before after is ended)
found-beside past counted framed name r old new before after first last (inr (meanwhile, next)) =
    let did : Did name old [] = subst (λ (m : Phase). Did name m []) (sym first) (refl, refl) in
    let has : HasFound name r [] = subst (λ (m : Phase). Did name m []) last (next [] did).0 in
    no_event (read_consumer name r.found) has.1

pub refused-beside : PastStays → (name : List ℕ) (refusal : Refusal) (before after : StoreView)
    → Moves Stands IsKept AnyPast (IsTold refusal) before after → FindsBeside name before after (Err refusal)
refused-beside past name refusal before after =
    learns-moves past AnyPast AnyPast (IsTold refusal) before before after (λ other f after p q stands advances known. tt) (learns-none AnyPast before)

-- no call was made
pub none-beside : (name : List ℕ) (store : StoreView) → FindsBeside name store store (Err refusals.Memory)
none-beside name store = learns-none AnyPast store
