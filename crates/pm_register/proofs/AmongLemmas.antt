-- What all calls of a registrar bring to a past, whatever other actors do.
use Rattle.std.proofs.Common.{◌≡◌, ◌⊎◌, inl, inr, ℕ, List, [], ◌∷◌, ◌++◌, Bool, true, false, Option, None, Some, Result, Ok, Err, refl, sym, ap, ◌∙◌, subst}
use Rattle.std.specs.FinMap as map
use Rattle.pm_values.specs.declared.refusal.Refusal.{Refusal}
use Rattle.pm_values.specs.declared.refusal.Refusal.TheVariants as refusals
use Rattle.pm_store.specs.declared.answer.Answer.{Answer}
use Rattle.pm_store.specs.declared.answer.Answer.TheVariants as answers
use Rattle.pm_store.specs.declared.answer.Swapped.TheVariants as swaps
use Rattle.pm_store.specs.declared.call.Call.{Call}
use Rattle.pm_store.specs.declared.call.Effect.{Effect}
use Rattle.pm_store.specs.declared.call.Effect.TheVariants as effects
use Rattle.pm_store.specs.Answers.{Answers, MayHave}
use Rattle.pm_store.specs.Files.{Files, Puts, after_effect, carried, files_after}
use Rattle.pm_store.specs.Store.{Meanwhile, Steps, StoreView, own_op, whole}
use Rattle.pm_store.proofs.ChangeLaws.{Answers-Changed, Puts-insert}
use Rattle.pm_machine.specs.Trace.{Ended, Event, HasTrace, Traces}
use Rattle.pm_model_consumers.specs.Claims.{free, known_at}
use Rattle.pm_model_history.specs.History.{GoesOn}
use Rattle.pm_model_folder.specs.Changes.{Actor}
use Rattle.pm_model_folder.specs.Consumers.{said_at}
use Rattle.pm_model_folder.specs.Ledger.{Past, Stands}
use Rattle.pm_model_folder.specs.Paths.{consumer_path}
use Rattle.pm_model_folder.proofs.Facts.{goes_on}
use Rattle.pm_read_schema.specs.Trace.{Names}
use Rattle.pm_consumer_files.specs.Floors.{Exceeds}
use Rattle.pm_beside.specs.Bringing.{Brings, OthersApart, OthersSpare}
use Rattle.pm_beside.proofs.BringLemmas.{brings-none, brings-steps, brings-then, brings-weaker}
use Rattle.pm_register.specs.AllCalls.{DidRegister, HasJoined, LeavesBeside, LeavesSpared, RegistersAmong}
use Rattle.pm_register.specs.Meaning.{HasPut, IsWithin, Registers, WaitsIn}
use Rattle.pm_register.specs.Registrar.{IsRegistering, Registering, floors_call, known_text, new_call, new_text, registration_of, settle_call}
use Rattle.pm_register.specs.Trace.{HasFloors, Shows, listed_floors, met_first, met_later, put_known, put_new}
use Rattle.pm_register.proofs.ChangeLemmas.{Laws, NoneAbove, lists-floors, none-above, put-listed, puts-new, rests, settles-name, settles-other, swap-effects, within-same}
use Rattle.pm_register.proofs.Facts.{FollowersKeep, StepsMove, put-still, within-on}

-- ---- the calls up to the last

-- these calls came in this order, up to right after the last
abbrev Run : List Event → StoreView → StoreView → Type 0
Run [] before last = last ≡ before
Run (event ∷ own) before last = (middle : StoreView) × Ended event.call event.answer before middle × Run own middle last

run-of : (own : List Event) (before after : StoreView) → Traces own before after → (last : StoreView) × Meanwhile last after × Run own before last
run-of [] before after (still, later) = (before, still, refl)
run-of (event ∷ own) before after (middle, ended, later, rest) =
    let (last, still, run) = run-of own middle after rest in (last, still, (middle, ended, run))

-- ---- whatever of its name is known between its calls, and stays beside these others

-- what an answer leaves
abbrev LeavesAs : Registering → (Bool → Files → Past → Type 0) → (Past → Type 0) → Result (Unit {0}) Refusal → Files → Past → Type 0
LeavesAs r Put Joined (Ok x) f p = (said_at f r.name ≡ Some (known_at r.next)) × Joined p
LeavesAs r Put Joined (Err (refusals.BelowFloor next floor)) f p = Put false f p
LeavesAs r Put Joined (Err other) f p = Unit {0}

module _ (laws : Laws) (me : Actor) (r : Registering) (is : IsRegistering r) (Others : Files → Past → Files → Past → Type 0)
    (Put : Bool → Files → Past → Type 0) (Joined : Past → Type 0)
    (stay : (f after : Files) (p q : Past) → Stands f p → Others f p after q → Stands after q)
    (goes-on : (f after : Files) (p q : Past) → Others f p after q → GoesOn p.history q.history)
    (put-stays : (listed : Bool) (f after : Files) (p q : Past) → Stands f p → IsWithin r p → Put listed f p → Others f p after q → Put listed after q)
    (waiting : (f : Files) (p : Past) → WaitsIn me r false f p → Put false f p)
    (listing : (f : Files) (p : Past) → NoneAbove f r.next → Put false f p → (later : Past) × Registers me r f p f later × Put true f later)
    (settling : (f after : Files) (p : Past) → Stands f p → IsWithin r p → Put true f p → map.get f (consumer_path r.name) ≡ Some (new_text r.next)
    → Puts f (consumer_path r.name) (Some (known_text r.next)) after
    → (later : Past) × Registers me r f p after later × (said_at after r.name ≡ Some (known_at r.next)) × Joined later) where
  abbrev Leaves : Result (Unit {0}) Refusal → Files → Past → Type 0
  Leaves = LeavesAs r Put Joined

  -- what is known before and between its calls, and at the end
  abbrev Within : Files → Past → Type 0
  Within f p = IsWithin r p

  abbrev Has : Bool → Files → Past → Type 0
  Has listed f p = IsWithin r p × Put listed f p

  abbrev Ends : Result (Unit {0}) Refusal → Files → Past → Type 0
  Ends result f p = IsWithin r p × Leaves result f p

  abbrev Bring : (Files → Past → Type 0) → (Files → Past → Type 0) → StoreView → StoreView → Type 0
  Bring knew knows before after = Brings Stands (Registers me r) Others knew knows before after

  within-stays : (f after : Files) (p q : Past) → Stands f p → IsWithin r p → Others f p after q → Stands after q × IsWithin r q
  within-stays f after p q stands within others = (stay f after p q stands others, within-on r p q (goes-on f after p q others) within)

  has-stays : (listed : Bool) (f after : Files) (p q : Past) → Stands f p → Has listed f p → Others f p after q → Stands after q × Has listed after q
  has-stays listed f after p q stands (within, put) others = (
    stay f after p q stands others,
    (within-on r p q (goes-on f after p q others) within, put-stays listed f after p q stands within put others),
  )

  -- a change of its own, with what is known then
  made : (f after : Files) (p later : Past) (X : Past → Type 0) → Stands f p → IsWithin r p → Registers me r f p after later → X later
      → (later : Past) × Registers me r f p after later × (Stands after later × (IsWithin r later × X later))
  made f after p later X stands within change x = (later, change, (laws.stays me f after p later stands change.advances, (within-same r p later change.history within, x)))

  end-at : (knew knows : Files → Past → Type 0) (before middle last : StoreView) → last ≡ middle → Bring knew knows before middle → Bring knew knows before last
  end-at knew knows before middle last same brought = subst (λ (at : StoreView). Bring knew knows before at) (sym same) brought

  -- where nothing more is known
  bare : (knows : Files → Past → Type 0) (before after : StoreView) → ((f : Files) (p : Past) → knows f p → IsWithin r p) → Bring Within knows before after
      → Bring Within (λ f p. IsWithin r p × Unit {0}) before after
  bare knows before after within brought =
      brings-weaker Stands (Registers me r) (Registers me r) Others Others Within Within knows (λ f p. IsWithin r p × Unit {0}) before after
      (λ f changed p q change. change) (λ f changed p q change. change) (λ f p known. known) (λ f p stands known. (within f p known, tt)) brought

  none : (before : StoreView) → Bring Within (λ f p. IsWithin r p × Unit {0}) before before
  none before = bare Within before before (λ f p known. known) (brings-none Stands (Registers me r) Others Within before)

  -- ---- its first call

  abbrev first_call : Call
  first_call = new_call (registration_of r) r.found

  first-put : (before after : StoreView) → Steps (whole first_call) (λ ops. Answers first_call (answers.Swapped swaps.Swapped) (files_after ops)) before after
      → Bring Within (Has false) before after
  first-put before after steps =
      brings-steps Stands (Registers me r) Others Within within-stays (Has false) (whole first_call)
      (λ ops. Answers first_call (answers.Swapped swaps.Swapped) (files_after ops)) before after refl
      (λ ops p told stands within.
      let f : Files = files_after ops in
      let after : Files = carried first_call f in
      let (later, change, wait) = puts-new laws me r f after p is stands within told (Answers-Changed first_call (answers.Swapped swaps.Swapped) f told) in
      made f after p later (λ q. Put false after q) stands within change (waiting after later wait)) steps

  first-met : (other : Option (List ℕ)) (before after : StoreView)
      → Steps (whole first_call) (λ ops. Answers first_call (answers.Swapped (swaps.Differs other)) (files_after ops)) before after
      → Bring Within (λ f p. IsWithin r p × Unit {0}) before after
  first-met other before after steps =
      brings-steps Stands (Registers me r) Others Within within-stays (λ f p. IsWithin r p × Unit {0}) (whole first_call)
      (λ ops. Answers first_call (answers.Swapped (swaps.Differs other)) (files_after ops)) before after refl
      (λ ops p told stands within.
      let f : Files = files_after ops in
      let after : Files = carried first_call f in
      made f after p p (λ q. Unit {0}) stands within (rests me r f after p (Answers-Changed first_call (answers.Swapped (swaps.Differs other)) f told)) tt) steps

  first-failed : (effect : Effect) (before after : StoreView) → Steps (own_op first_call effect) (λ ops. MayHave first_call effect (files_after ops)) before after
      → Bring Within (λ f p. IsWithin r p × Unit {0}) before after
  first-failed effect before after steps =
      brings-steps Stands (Registers me r) Others Within within-stays (λ f p. IsWithin r p × Unit {0}) (own_op first_call effect)
      (λ ops. MayHave first_call effect (files_after ops)) before after refl
      (λ ops p may stands within.
      let f : Files = files_after ops in
      let path : List ℕ = consumer_path r.name in
      let (later, change) = swap-effects path (new_text r.next) r.found f (λ (g : Files). (later : Past) × Registers me r f p g later)
      (p, rests me r f f p (λ q. refl))
      (λ found.
      let put = puts-new laws me r f (map.insert f path (new_text r.next)) p is stands within found (Puts-insert f path (new_text r.next)) in (put.0, put.1)) effect in
      made f (after_effect first_call effect f) p later (λ q. Unit {0}) stands within change tt) steps

  -- ---- its second call

  list-listed : (names : Names) → Exceeds names.items r.next None → (before after : StoreView)
      → Steps (whole floors_call) (λ ops. Answers floors_call (answers.Listed names) (files_after ops)) before after → Bring (Has false) (Has true) before after
  list-listed names exceeds before after steps =
      brings-steps Stands (Registers me r) Others (Has false) (has-stays false) (Has true) (whole floors_call)
      (λ ops. Answers floors_call (answers.Listed names) (files_after ops)) before after refl
      (λ ops p told stands known.
      let f : Files = files_after ops in
      let (later, change, put) = listing f p (none-above f names.items r.next told exceeds) known.1 in
      made f f p later (λ q. Put true f q) stands known.0 change put) steps

  list-exceeded : (names : Names) (next floor : ℕ) (before after : StoreView)
      → Steps (whole floors_call) (λ ops. Answers floors_call (answers.Listed names) (files_after ops)) before after
      → Bring (Has false) (Ends (Err (refusals.BelowFloor next floor))) before after
  list-exceeded names next floor before after steps =
      brings-steps Stands (Registers me r) Others (Has false) (has-stays false) (Ends (Err (refusals.BelowFloor next floor))) (whole floors_call)
      (λ ops. Answers floors_call (answers.Listed names) (files_after ops)) before after refl
      (λ ops p told stands known.
      let f : Files = files_after ops in
      made f f p p (λ q. Put false f q) stands known.0 (rests me r f f p (λ q. refl)) known.1) steps

  -- however much of a listing was carried out
  list-left : (effect : Effect) (f : Files) (P : Files → Type 0) → P f → P (after_effect floors_call effect f)
  list-left effects.None f P here = here
  list-left (effects.Part found) f P here = here
  list-left effects.Whole f P here = here

  list-failed : (effect : Effect) (before after : StoreView) → Steps (own_op floors_call effect) (λ ops. MayHave floors_call effect (files_after ops)) before after
      → Bring (Has false) (λ f p. IsWithin r p × Unit {0}) before after
  list-failed effect before after steps =
      brings-steps Stands (Registers me r) Others (Has false) (has-stays false) (λ f p. IsWithin r p × Unit {0}) (own_op floors_call effect)
      (λ ops. MayHave floors_call effect (files_after ops)) before after refl
      (λ ops p may stands known.
      let f : Files = files_after ops in
      list-left effect f (λ (g : Files). (later : Past) × Registers me r f p g later × (Stands g later × (IsWithin r later × Unit {0})))
      (made f f p p (λ q. Unit {0}) stands known.0 (rests me r f f p (λ q. refl)) tt)) steps

  -- ---- its third call

  abbrev last_call : Call
  last_call = settle_call (registration_of r)

  last-put : (before after : StoreView) → Steps (whole last_call) (λ ops. Answers last_call (answers.Swapped swaps.Swapped) (files_after ops)) before after
      → Bring (Has true) (Ends (Ok tt)) before after
  last-put before after steps =
      brings-steps Stands (Registers me r) Others (Has true) (has-stays true) (Ends (Ok tt)) (whole last_call)
      (λ ops. Answers last_call (answers.Swapped swaps.Swapped) (files_after ops)) before after refl
      (λ ops p told stands known.
      let f : Files = files_after ops in
      let after : Files = carried last_call f in
      let (later, change, says, joined) =
      settling f after p stands known.0 known.1 told (Answers-Changed last_call (answers.Swapped swaps.Swapped) f told) in
      made f after p later (λ q. Leaves (Ok tt) after q) stands known.0 change (says, joined)) steps

  last-met : (other : Option (List ℕ)) (before after : StoreView)
      → Steps (whole last_call) (λ ops. Answers last_call (answers.Swapped (swaps.Differs other)) (files_after ops)) before after
      → Bring (Has true) (λ f p. IsWithin r p × Unit {0}) before after
  last-met other before after steps =
      brings-steps Stands (Registers me r) Others (Has true) (has-stays true) (λ f p. IsWithin r p × Unit {0}) (whole last_call)
      (λ ops. Answers last_call (answers.Swapped (swaps.Differs other)) (files_after ops)) before after refl
      (λ ops p told stands known.
      let f : Files = files_after ops in
      let after : Files = carried last_call f in
      made f after p p (λ q. Unit {0}) stands known.0 (rests me r f after p (Answers-Changed last_call (answers.Swapped (swaps.Differs other)) f told)) tt) steps

  last-failed : (effect : Effect) (before after : StoreView) → Steps (own_op last_call effect) (λ ops. MayHave last_call effect (files_after ops)) before after
      → Bring (Has true) (λ f p. IsWithin r p × Unit {0}) before after
  last-failed effect before after steps =
      brings-steps Stands (Registers me r) Others (Has true) (has-stays true) (λ f p. IsWithin r p × Unit {0}) (own_op last_call effect)
      (λ ops. MayHave last_call effect (files_after ops)) before after refl
      (λ ops p may stands known.
      let f : Files = files_after ops in
      let path : List ℕ = consumer_path r.name in
      let (later, change) = swap-effects path (known_text r.next) (Some (new_text r.next)) f (λ (g : Files). (later : Past) × Registers me r f p g later)
      (p, rests me r f f p (λ q. refl))
      (λ found.
      let put = settling f (map.insert f path (known_text r.next)) p stands known.0 known.1 found (Puts-insert f path (known_text r.next)) in
      (put.0, put.1)) effect in
      made f (after_effect last_call effect f) p later (λ q. Unit {0}) stands known.0 change tt) steps

  -- ---- all of them

  -- the first two, and whatever came then
  then-last : (names : Names) (knows : Files → Past → Type 0) (before last : StoreView) (call : Call) (answer : Option Answer) → Exceeds names.items r.next None
      → ((middle after : StoreView) → Ended call answer middle after → Bring (Has true) knows middle after)
      → Run (put_new r ∷ listed_floors names ∷ record { call = call; answer = answer } ∷ []) before last → Bring Within knows before last
  then-last names knows before last call answer exceeds step (one, (first, may), (two, (second, might), (three, third, same))) =
      end-at Within knows before three last same
      (brings-then Stands (Registers me r) Others Within (Has true) knows before two three
      (brings-then Stands (Registers me r) Others Within (Has false) (Has true) before one two (first-put before one first)
      (list-listed names exceeds one two second)) (step two three third))

  run-at : (own events : List Event) (before last : StoreView) → own ≡ events → Run own before last → Run events before last
  run-at own events before last same run = subst (λ (own : List Event). Run own before last) same run

  third-at : (floor : Option ℕ) (earlier own : List Event) (event : Event) → (floors : HasFloors r floor earlier) → own ≡ earlier ++ event ∷ []
      → own ≡ put_new r ∷ listed_floors floors.0 ∷ event ∷ []
  third-at floor earlier own event (names, exceeds, at) same = same ∙ ap (λ (earlier : List Event). earlier ++ event ∷ []) at

  refused : (refusal : Refusal) (own : List Event) (before last : StoreView) → Shows r refusal own → Run own before last → Bring Within (Ends (Err refusal)) before last
  refused refusals.Memory own before last (inl at) run =
      end-at Within (Ends (Err refusals.Memory)) before before last (run-at own [] before last at run) (none before)
  refused refusals.Memory own before last (inr (inl at)) run =
      let (one, (first, may), same) = run-at own (put_new r ∷ []) before last at run in
      end-at Within (Ends (Err refusals.Memory)) before one last same (bare (Has false) before one (λ f p known. known.0) (first-put before one first))
  refused refusals.Memory own before last (inr (inr (names, exceeds, at))) run =
      let (one, (first, may), (two, (second, might), same)) = run-at own (put_new r ∷ listed_floors names ∷ []) before last at run in
      end-at Within (Ends (Err refusals.Memory)) before two last same
      (bare (Has true) before two (λ f p known. known.0)
      (brings-then Stands (Registers me r) Others Within (Has false) (Has true) before one two (first-put before one first)
      (list-listed names exceeds one two second)))
  refused (refusals.ConsumerMoved other) own before last (inl at) run =
      let (one, (first, may), same) = run-at own (met_first r other ∷ []) before last at run in
      end-at Within (Ends (Err (refusals.ConsumerMoved other))) before one last same (first-met other before one first)
  refused (refusals.ConsumerMoved other) own before last (inr (earlier, floors, at)) run =
      then-last floors.0 (Ends (Err (refusals.ConsumerMoved other))) before last last_call (Some (answers.Swapped (swaps.Differs other))) floors.1
      (λ middle after ended. last-met other middle after ended.0)
      (run-at own (put_new r ∷ listed_floors floors.0 ∷ met_later r other ∷ []) before last (third-at None earlier own (met_later r other) floors at) run)
  refused (refusals.BelowFloor next floor) own before last (same-next, (names, exceeds, at)) run =
      let (one, (first, may), (two, (second, might), same)) = run-at own (put_new r ∷ listed_floors names ∷ []) before last at run in
      end-at Within (Ends (Err (refusals.BelowFloor next floor))) before two last same
      (brings-then Stands (Registers me r) Others Within (Has false) (Ends (Err (refusals.BelowFloor next floor))) before one two (first-put before one first)
      (list-exceeded names next floor one two second))
  refused (refusals.StoreFault path) own before last (inl (named, at)) run =
      let (one, ((effect, first), rose), same) = run-at own (record { call = first_call; answer = None } ∷ []) before last at run in
      end-at Within (Ends (Err (refusals.StoreFault path))) before one last same (first-failed effect before one first)
  refused (refusals.StoreFault path) own before last (inr (inl (named, at))) run =
      let (one, (first, may), (two, ((effect, second), rose), same)) =
      run-at own (put_new r ∷ record { call = floors_call; answer = None } ∷ []) before last at run in
      end-at Within (Ends (Err (refusals.StoreFault path))) before two last same
      (brings-then Stands (Registers me r) Others Within (Has false) (Ends (Err (refusals.StoreFault path))) before one two (first-put before one first)
      (list-failed effect one two second))
  refused (refusals.StoreFault path) own before last (inr (inr (named, earlier, floors, at))) run =
      then-last floors.0 (Ends (Err (refusals.StoreFault path))) before last last_call None floors.1
      (λ middle after ended. last-failed ended.0.0 middle after ended.0.1)
      (run-at own (put_new r ∷ listed_floors floors.0 ∷ record { call = last_call; answer = None } ∷ []) before last
      (third-at None earlier own (record { call = last_call; answer = None }) floors at) run)
  refused refusal own before last shows run = absurd shows

  all-brought : (result : Result (Unit {0}) Refusal) (own : List Event) (before last : StoreView) → DidRegister r result own → Run own before last
      → Bring Within (Ends result) before last
  all-brought (Ok x) own before last (earlier, floors, at) run =
      then-last floors.0 (Ends (Ok tt)) before last last_call (Some (answers.Swapped swaps.Swapped)) floors.1
      (λ middle after ended. last-put middle after ended.0)
      (run-at own (put_new r ∷ listed_floors floors.0 ∷ put_known r ∷ []) before last (third-at None earlier own (put_known r) floors at) run)
  all-brought (Err refusal) own before last shows run = refused refusal own before last shows run

-- ---- whatever others do

settle-either : Laws → (me : Actor) (r : Registering) → IsRegistering r → (f after : Files) (p : Past) → Stands f p → IsWithin r p → HasPut me r true f p
    → map.get f (consumer_path r.name) ≡ Some (new_text r.next) → Puts f (consumer_path r.name) (Some (known_text r.next)) after
    → (later : Past) × Registers me r f p after later × (said_at after r.name ≡ Some (known_at r.next)) × (HasJoined r later ⊎ (later.claims r.name ≡ free))
settle-either laws me r is f after p stands within (inl wait) found puts =
    let (later, change, says, joined) = settles-name laws me r f after p is stands within wait puts in (later, change, says, inl joined)
settle-either laws me r is f after p stands within (inr lost) found puts =
    let (later, change, says, none) = settles-other laws me r f after p is stands within lost found puts in (later, change, says, inr none)

as-beside : (me : Actor) (r : Registering) (result : Result (Unit {0}) Refusal) (f : Files) (p : Past)
    → LeavesAs r (HasPut me r) (λ p. HasJoined r p ⊎ (p.claims r.name ≡ free)) result f p → LeavesBeside me r result f p
as-beside me r (Ok x) f p left = left
as-beside me r (Err (refusals.BelowFloor next floor)) f p left = left
as-beside me r (Err other) f p left = tt

as-spared : (me : Actor) (r : Registering) (result : Result (Unit {0}) Refusal) (f : Files) (p : Past)
    → LeavesAs r (WaitsIn me r) (HasJoined r) result f p → LeavesSpared me r result f p
as-spared me r (Ok x) f p left = left
as-spared me r (Err (refusals.BelowFloor next floor)) f p left = left
as-spared me r (Err other) f p left = tt

-- who waits and isn't touched waits still
waits-still : StepsMove → FollowersKeep → (me : Actor) (r : Registering) (listed : Bool) (f after : Files) (p q : Past) → Stands f p → IsWithin r p
    → WaitsIn me r listed f p → OthersSpare me r.name f p after q → WaitsIn me r listed after q
waits-still moved keep me r listed f after p q stands within wait ((other, apart, advances), spares) =
    elim (put-still moved keep me other r listed f after p q stands advances apart within (inl wait)) as (λ _. WaitsIn me r listed after q) [
      | inl still ↦ still
      | inr lost ↦ absurd (lost listed (spares listed wait.claim ∙ wait.claim))
    ]

module _ (laws : Laws) (moved : StepsMove) (keep : FollowersKeep) (me : Actor) (r : Registering) (is : IsRegistering r)
    (result : Result (Unit {0}) Refusal) (own : List Event) (before last : StoreView) (did : DidRegister r result own) (run : Run own before last) where
  brought-beside : Brings Stands (Registers me r) (OthersApart me) (λ f p. IsWithin r p) (λ f p. IsWithin r p × LeavesBeside me r result f p) before last
  brought-beside =
      let Joined : Past → Type 0 = λ p. HasJoined r p ⊎ (p.claims r.name ≡ free) in
      brings-weaker Stands (Registers me r) (Registers me r) (OthersApart me) (OthersApart me) (λ f p. IsWithin r p) (λ f p. IsWithin r p)
      (λ f p. IsWithin r p × LeavesAs r (HasPut me r) Joined result f p) (λ f p. IsWithin r p × LeavesBeside me r result f p) before last
      (λ f after p q change. change) (λ f after p q change. change) (λ f p known. known)
      (λ f p stands ends. (ends.0, as-beside me r result f p ends.1))
      (all-brought laws me r is (OthersApart me) (HasPut me r) Joined
      (λ f after p q stands others. laws.stays others.0 f after p q stands others.2)
      (λ f after p q others. goes_on others.0 f after p.history q.history others.2.change)
      (λ listed f after p q stands within put others. put-still moved keep me others.0 r listed f after p q stands others.2 others.1 within put)
      (λ f p wait. inl wait) (λ f p none put. put-listed me r f p none put) (settle-either laws me r is) result own before last did run)

  brought-spared : Brings Stands (Registers me r) (OthersSpare me r.name) (λ f p. IsWithin r p) (λ f p. IsWithin r p × LeavesSpared me r result f p) before last
  brought-spared =
      brings-weaker Stands (Registers me r) (Registers me r) (OthersSpare me r.name) (OthersSpare me r.name) (λ f p. IsWithin r p) (λ f p. IsWithin r p)
      (λ f p. IsWithin r p × LeavesAs r (WaitsIn me r) (HasJoined r) result f p) (λ f p. IsWithin r p × LeavesSpared me r result f p) before last
      (λ f after p q change. change) (λ f after p q change. change) (λ f p known. known)
      (λ f p stands ends. (ends.0, as-spared me r result f p ends.1))
      (all-brought laws me r is (OthersSpare me r.name) (WaitsIn me r) (HasJoined r)
      (λ f after p q stands others. laws.stays others.0.0 f after p q stands others.0.2)
      (λ f after p q others. goes_on others.0.0 f after p.history q.history others.0.2.change)
      (λ listed f after p q stands within wait others. waits-still moved keep me r listed f after p q stands within wait others)
      (λ f p wait. wait) (λ f p none wait. lists-floors me r f p none wait)
      (λ f after p stands within wait found puts. settles-name laws me r f after p is stands within wait puts) result own before last did run)

pub among : Laws → StepsMove → FollowersKeep → (me : Actor) (r : Registering) (result : Result (Unit {0}) Refusal) (before after : StoreView) → IsRegistering r
    → HasTrace (DidRegister r result) before after → RegistersAmong me r before after result
among laws moved keep me r result before after is (own, did, trace) =
    let (last, rest, run) = run-of own before after trace in
    record {
      last = last;
      rest = rest;
      brings = brought-beside laws moved keep me r is result own before last did run;
      spared = brought-spared laws moved keep me r is result own before last did run;
    }
