-- A lister of consumers keeps the laws of machines.
use Rattle.std.proofs.Common.{◌≡◌, ◌⊎◌, inl, inr, ℕ, ◌<◌, ◌+◌, ◌-◌, List, [], ◌∷◌, ◌++◌, length, Option, None, Some, option_map, IsSome, IfSome, refl, sym, ap, ◌∙◌, subst, arith}
use Rattle.std.proofs.lemmas.Option.{IfSome_then, slice_get_within}
use Rattle.pm_base.proofs.Laws.{AllByRecursion-push}
use Rattle.pm_values.specs.declared.refusal.Refusal.{Refusal}
use Rattle.pm_store.specs.declared.answer.Answer.{Answer}
use Rattle.pm_store.specs.declared.answer.Answer.TheVariants as answers
use Rattle.pm_store.specs.declared.call.Call.{Call}
use Rattle.pm_store.specs.Answers.{Answers, MayAnswer}
use Rattle.pm_store.specs.Files.{Files}
use Rattle.pm_store.specs.Images.{MayLeave}
use Rattle.pm_machine.specs.Moves.{IsKept, Sound}
use Rattle.pm_machine.specs.Running.{Refuses, Stops}
use Rattle.pm_machine.specs.Trace.{Event, Recounts, after_answer, answered}
use Rattle.pm_machine.proofs.PhaseFacts.{Spares, ended, image_spared, recounts_of, sound_of_spared}
use Rattle.pm_snapshot.specs.declared.consumer.Consumer.{Consumer}
use Rattle.pm_model_folder.specs.Ledger.{Past, Stands}
use Rattle.pm_model_folder.specs.Paths.{consumer_folder, consumer_path}
use Rattle.pm_read_schema.specs.Beside.{AnyPast}
use Rattle.pm_read_schema.specs.Trace.{Names}
use Rattle.pm_read_schema.proofs.Facts.{list_effect, read_effect}
use Rattle.pm_read_consumer.specs.Reader.{Says, consumer_call}
use Rattle.pm_read_consumer.specs.Trace.{read_consumer}
use Rattle.pm_consumers.specs.Lister.{consumers_call, next_call, most, calls_left, IsDone, consumers_in, Goes, Shown}
use Rattle.pm_consumers.specs.Names.{AreNames}
use Rattle.pm_consumers.specs.Reading.{ReadingView, reading_of, next_name, add_read}
use Rattle.pm_consumers.specs.Trace.{listed_consumers, FileRead, HasRead, Meets, HasListed, DidSoFar, MayTakeMemory, Shows, Did}
use Rattle.pm_consumers.specs.declared.phase.Phase.{Phase}
use Rattle.pm_consumers.specs.declared.phase.Phase.TheVariants as phases
use Rattle.pm_consumers.proofs.ReadingLemmas.{none_left, one_consumer, one_event, one_name, within_none}

-- ---- its calls change nothing

read_spares : (next : Option (List ℕ)) (f : Files) → IfSome (option_map consumer_call next) (Spares f)
read_spares None f = tt
read_spares (Some name) f = λ effect. read_effect (consumer_path name) effect f

pub spares : (m : Phase) (f : Files) → IfSome (next_call m) (Spares f)
spares phases.List f = λ effect. list_effect consumer_folder effect f
spares (phases.Read r) f = read_spares (next_name r) f
spares phases.Over f = tt

-- nothing that it knows lasts
any_next : (next : Option Call) (answer : Answer) (f : Files) (p : Past) → IfSome next (λ call. Answers call answer f → AnyPast f p)
any_next None answer f p = tt
any_next (Some call) answer f p = λ told. tt

knows_next : (m : Phase) (answer : Answer) (new : Phase) (f : Files) (p : Past) → Goes m answer new → Stands f p → AnyPast f p
    → IfSome (next_call m) (λ call. Answers call answer f → AnyPast f p)
knows_next m answer new f p goes stands known = any_next (next_call m) answer f p

pub sound : Sound next_call Goes (Refuses Shown phases.Over) (Stops phases.Over) Stands (λ m. IsKept) (λ m. AnyPast)
sound = sound_of_spared next_call Goes Shown phases.Over Stands (λ m. AnyPast) spares knows_next (λ f p. tt)

-- ---- what an absent file leads to

some_name : (next : Option (List ℕ)) → IsSome next → (name : List ℕ) × (next ≡ Some name)
some_name None some = absurd (let clash = some in cc)
some_name (Some name) some = (name, refl)

pub passed : (r : ReadingView) (later : Phase) → IsSome (next_name r) → ((name : List ℕ) → later ≡ phases.Read (add_read r name None))
    → Goes (phases.Read r) (answers.Found None) later
passed r later some is = let (name, next) = some_name (next_name r) some in (name, None, next, tt, is name)

-- ---- its calls

-- a file more was read
read_more : (r : ReadingView) (name : List ℕ) (found : Option (List ℕ)) (said : Option Consumer) (own : List Event) → next_name r ≡ Some name
    → Says found said → HasRead r own → HasRead (add_read r name said) (own ++ read_consumer name found ∷ [])
read_more r name found said own next says (files, reads, are, names, all, lines, is) =
    let one : FileRead = record { name = name; found = found; said = said } in (
      files,
      reads ++ one ∷ [],
      are,
      one_name r reads one next names,
      AllByRecursion-push (λ (r : FileRead). Says r.found r.said) reads one all says,
      one_consumer reads one r.consumers lines,
      ap (λ (own : List Event). own ++ read_consumer name found ∷ []) is
          ∙ sym (ap (λ (rest : List Event). listed_consumers files ∷ rest) (one_event reads one)),
    )

went_read : (r : ReadingView) (next : Option (List ℕ)) (name : List ℕ) (found : Option (List ℕ)) (said : Option Consumer) (own : List Event)
    → next_name r ≡ next → next ≡ Some name → Says found said → HasRead r own
    → IfSome (option_map consumer_call next) (λ call. HasRead (add_read r name said) (own ++ answered call (answers.Found found) ∷ []))
went_read r None name found said own at is says did = tt
went_read r (Some other) name found said own at is says did =
    let same : name ≡ other = cc in
    subst (λ (other : List ℕ). HasRead (add_read r name said) (own ++ read_consumer other found ∷ [])) same
    (read_more r name found said own (at ∙ is) says did)

-- the first call lists the consumers
listed_first : (files : Names) (names : List (List ℕ)) (own : List Event) → AreNames files.items names → own ≡ []
    → HasRead (reading_of names 0 []) (own ++ listed_consumers files ∷ [])
listed_first files names own are none =
    (files, [], are, refl, tt, refl, ap (λ (own : List Event). own ++ listed_consumers files ∷ []) none)

went_on : (m : Phase) (answer : Answer) (new : Phase) (own : List Event) → Goes m answer new → Did m own
    → IfSome (next_call m) (λ call. MayAnswer call answer → Did new (own ++ answered call answer ∷ []))
went_on phases.List (answers.Listed files) new own (names, are, within, is) none = λ may.
    subst (λ (m : Phase). Did m (own ++ listed_consumers files ∷ [])) (sym is) (listed_first files names own are none)
went_on (phases.Read r) (answers.Found found) new own (name, said, next, says, is) did =
    IfSome_then (next_call (phases.Read r)) (went_read r (next_name r) name found said own refl next says did)
    (λ call done may. subst (λ (m : Phase). Did m (own ++ answered call (answers.Found found) ∷ [])) (sym is) done)
went_on m answer new own goes did = absurd goes

-- what was found at the path of the next consumer
met : (r : ReadingView) (next : Option (List ℕ)) (name : List ℕ) (found : Option (List ℕ)) (own : List Event) → next_name r ≡ next → next ≡ Some name
    → HasRead r own → IfSome (option_map consumer_call next) (λ call. Meets r name found (own ++ answered call (answers.Found found) ∷ []))
met r None name found own at is did = tt
met r (Some other) name found own at is did =
    let same : name ≡ other = cc in
    (own, did, at ∙ is, sym (ap (λ (name : List ℕ). own ++ read_consumer name found ∷ []) same))

refused_on : (m : Phase) (answer : Answer) (refusal : Refusal) (own : List Event) → Shown m answer refusal → Did m own
    → IfSome (next_call m) (λ call. MayAnswer call answer → Shows refusal (own ++ answered call answer ∷ []))
refused_on phases.List (answers.Listed files) refusal own is did = λ may.
    subst (λ (refusal : Refusal). Shows refusal (own ++ listed_consumers files ∷ [])) (sym is)
    (after_answer phases.List consumers_call (answers.Listed files) own did refl may tt refl)
refused_on (phases.Read r) (answers.Found (Some bytes)) refusal own (inl is) did =
    IfSome_then (next_call (phases.Read r))
    (ended next_call DidSoFar MayTakeMemory (phases.Read r) (next_call (phases.Read r)) (answers.Found (Some bytes)) own refl did tt)
    (λ call ends may. subst (λ (refusal : Refusal). Shows refusal (own ++ answered call (answers.Found (Some bytes)) ∷ [])) (sym is) (ends may))
refused_on (phases.Read r) (answers.Found (Some bytes)) refusal own (inr (name, next, is, bad)) did =
    IfSome_then (next_call (phases.Read r)) (met r (next_name r) name (Some bytes) own refl next did)
    (λ call meets may. subst (λ (refusal : Refusal). Shows refusal (own ++ answered call (answers.Found (Some bytes)) ∷ [])) (sym is)
    (r, name, bytes, refl, refl, bad, meets))
refused_on m answer refusal own shown did = absurd shown

so_far : (m : Phase) (own : List Event) → IsSome (next_call m) → Did m own → DidSoFar m own
so_far phases.List own called did = did
so_far (phases.Read r) own called did = did
so_far phases.Over own called did = absurd (let clash = called in cc)

pub recounts : Recounts next_call Goes (Refuses Shown phases.Over) (Stops phases.Over) Did Shows
recounts = recounts_of next_call Goes Shown phases.Over DidSoFar Did MayTakeMemory Shows so_far (λ refusal own shows. (refusal, shows))
    (λ path own failed. failed) (λ own ends. ends) went_on refused_on

-- ---- how far it has come

-- fewer calls than that are left, and some if not all files were read
abbrev pub IsAhead : ℕ → Phase → Type 0
IsAhead n m = (calls_left m < n) × (IsDone m ⊎ (0 < calls_left m))

read_ahead : (r : ReadingView) (next : Option (List ℕ)) (n : ℕ) → next_name r ≡ next → length r.names - r.read < n → IsAhead n (phases.Read r)
read_ahead r None n is fewer = (fewer, inl is)
read_ahead r (Some name) n is fewer = (fewer, inr (let within = slice_get_within r.names r.read name is in omega (arith, within)))

-- an answer that it goes on with leaves fewer calls
pub goes_ahead : (m : Phase) (answer : Answer) (new : Phase) → Goes m answer new → IsAhead (calls_left m) new
goes_ahead phases.List (answers.Listed files) new (names, are, within, is) =
    let own : ReadingView = reading_of names 0 [] in
    subst (IsAhead (most + 1)) (sym is) (read_ahead own (next_name own) (most + 1) refl (omega (arith, within)))
goes_ahead (phases.Read r) (answers.Found found) new (name, said, next, says, is) =
    let within = slice_get_within r.names r.read name next in
    let own : ReadingView = add_read r name said in
    subst (IsAhead (length r.names - r.read)) (sym is)
    (read_ahead own (next_name own) (length r.names - r.read) refl (omega (arith, within)))
goes_ahead m answer new on = absurd on

read_called : (r : ReadingView) (next : Option (List ℕ)) → next_name r ≡ next → r.read < length r.names → IsSome (option_map consumer_call next)
read_called r None is left = absurd (let within = within_none r is in omega (arith, within, left))
read_called r (Some name) is left = refl

-- a lister with calls left has a next one
pub has_call : (m : Phase) → 0 < calls_left m → IsSome (next_call m)
has_call phases.List left = refl
has_call (phases.Read r) left = read_called r (next_name r) refl (omega (arith, left))
has_call phases.Over left = absurd (let none : 0 < 0 = left in omega (arith, none))

pub images : (m : Phase) (call : Call) (f image : Files) (p : Past) → next_call m ≡ Some call → MayLeave call f image → IsKept f p image p
images m call f image p = image_spared next_call m call f image p (spares m f)

-- ---- its end

-- once all files were read, they are those of all names that were listed
pub listed_all : (m : Phase) (own : List Event) → IsDone m → Did m own → HasListed (consumers_in m) own
listed_all (phases.Read r) own done (files, reads, are, names, all, lines, is) =
    (files, reads, subst (AreNames files.items) (sym (names ∙ none_left r done)) are, all, lines, is)
listed_all m own done did = absurd done
