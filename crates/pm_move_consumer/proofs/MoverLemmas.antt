-- The call of a mover: which calls were made, and what they do where nobody else acts, and whatever others do.
use Rattle.std.proofs.Common.{◌≡◌, ◌≢◌, ◌⊎◌, inl, inr, ℕ, List, [], ◌∷◌, ◌++◌, Contains, true, Option, Some, Result, Ok, Err, IfErr, refl, sym, ap, ◌∙◌, subst}
use Rattle.std.specs.FinMap as map
use Rattle.pm_base.specs.Faults.{Rose}
use Rattle.pm_values.specs.declared.refusal.Refusal.{Refusal}
use Rattle.pm_values.specs.declared.refusal.Refusal.TheVariants as refusals
use Rattle.pm_store.specs.declared.answer.Answer.TheVariants as answers
use Rattle.pm_store.specs.declared.answer.Swapped.TheVariants as swaps
use Rattle.pm_store.specs.declared.call.Op.{Op}
use Rattle.pm_store.specs.Answers.{Answers, MayHave}
use Rattle.pm_store.specs.Files.{Files, after_op, carried, files_after}
use Rattle.pm_store.specs.Images.{MayLeave}
use Rattle.pm_store.specs.Store.{StoreView, IsAlone, IsLater, Meanwhile, Steps, at_first_own, own_op, whole}
use Rattle.pm_store.proofs.ChangeLaws.{Answers-Changed}
use Rattle.pm_machine.specs.Moves.{IsKept}
use Rattle.pm_machine.specs.Trace.{Event, HasTrace, Traces, faulted}
use Rattle.pm_machine.proofs.Facts.{image_changed, HasTrace-acts, Traces-none}
use Rattle.pm_machine.proofs.AloneLaws.{Follows, Traces-first}
use Rattle.pm_model_consumers.specs.Claims.{Claim, moved_past, settled}
use Rattle.pm_model_history.specs.History.{Entry, History, table}
use Rattle.pm_model_following.specs.Following.{frame}
use Rattle.pm_schema.specs.declared.schema.TableSchema.{TableSchema}
use Rattle.pm_model_folder.specs.Folder.{Folder, HaveSettled}
use Rattle.pm_model_folder.specs.Ledger.{Past, Stands}
use Rattle.pm_model_folder.proofs.Facts.{goes_on}
use Rattle.pm_beside.specs.Bringing.{Brings}
use Rattle.pm_beside.proofs.BringLemmas.{brings-meanwhile, brings-steps, brings-then}
use Rattle.pm_read_schema.specs.AllCalls.{HasFiles}
use Rattle.pm_read_schema.specs.Beside.{OthersAdvance}
use Rattle.pm_move_consumer.specs.declared.move_phase.MovePhase.{MovePhase}
use Rattle.pm_move_consumer.specs.declared.move_phase.MovePhase.TheVariants as phases
use Rattle.pm_move_consumer.specs.Mover.{IsMoving, Moving, its_path, new_mover}
use Rattle.pm_move_consumer.specs.MoverMeaning.{IsMovedPast, IsPrinted, MayMovePast, Move, move_by}
use Rattle.pm_move_consumer.specs.MoverTrace.{Did, MoverActed, Shows, met, moved, swap_call}
use Rattle.pm_move_consumer.specs.MoverAllCalls.{DidMove, IsCaused, IsMovedOrMemory, ItLeaves, ItMoves, ItRests, MayMove, MovesName, MovesNames, MovesOn, OthersRest, StandsWith}
use Rattle.pm_move_consumer.proofs.StepFacts.{PastKept, SettledFound, SettledKnown, nobody, with-claim}
use Rattle.pm_move_consumer.proofs.MoverFacts.{ChangesStay, Laws, advances-of, moved_on, printed-still, swap-changes, swap-done}
use Rattle.pm_move_consumer.proofs.OneCallLemmas.{has_failed, images_of, leaves_of, not_made, was_answered}

-- ---- which calls were made

did-none : (m : Moving) (phase : MovePhase) → phase ≡ new_mover m → Did m phase []
did-none m phase is = subst (λ (phase : MovePhase). Did m phase []) (sym is) ((refl, refl, refl), refl)

step-made : (m : Moving) (phase new : MovePhase) (before after : StoreView) (result : Result (Unit {0}) Refusal) → phase ≡ new_mover m
    → MoverActed phase new before after result → IsLater before after
    → HasTrace (λ own. Did m new own × IfErr result (λ refusal. Shows m refusal own)) before after
step-made m phase new before after result first acted later =
    HasTrace-acts {did = Did m phase} {before = before} ([], did-none m phase first, Traces-none before) (acted m) later

pub was-moved : (m : Moving) (bytes : List ℕ) (phase new : MovePhase) (before after : StoreView) → phase ≡ new_mover m → new ≡ phases.Moved bytes
    → MoverActed phase new before after (Ok tt) → IsLater before after → HasTrace (DidMove m (Ok bytes)) before after
was-moved m bytes phase new before after first last acted later =
    let step = step-made m phase new before after (Ok tt) first acted later in
    (step.0, subst (λ (new : MovePhase). Did m new step.0) last step.1.0, step.2)

pub was-refused : (m : Moving) (refusal : Refusal) (phase new : MovePhase) (before after : StoreView) → phase ≡ new_mover m
    → MoverActed phase new before after (Err refusal) → IsLater before after → HasTrace (DidMove m (Err refusal)) before after
was-refused m refusal phase new before after first acted later =
    let step = step-made m phase new before after (Err refusal) first acted later in
    (step.0, step.1.1, step.2)

pub no-call : (m : Moving) (store : StoreView) → HasTrace (DidMove m (Err refusals.Memory)) store store
no-call m store = ([], refl, Traces-none store)

-- ---- where nobody else acts

-- these names are settled in what is known
abbrev AreSettled : List (List ℕ) → Past → Type 0
AreSettled names p = (name : List ℕ) → Contains names name → (from : ℕ) × (moved : List (List ℕ)) × (p.claims name ≡ settled from moved)

-- a settled one is so once it was moved, and so is every other
abbrev IsSettledIn : Claim → Type 0
IsSettledIn claim = (from : ℕ) × (moved : List (List ℕ)) × (claim ≡ settled from moved)

moved-settled : (text : List ℕ) (claim : Claim) → IsSettledIn claim → IsSettledIn (moved_past text claim)
moved-settled text claim (from, moved, is) = (from, moved ++ text ∷ [], ap (moved_past text) is)

still-settled : (m : Move) (f after : Files) (p later : Past) (names : List (List ℕ)) → MayMovePast m f p after later → AreSettled names p → AreSettled names later
still-settled m f after p later names (inl kept) are = subst (AreSettled names) (sym kept.past) are
still-settled m f after p later names (inr past) are = λ name there.
    subst (λ (q : Past). IsSettledIn (q.claims name)) (sym past.past)
    (with-claim IsSettledIn m.moving.name (moved_past m.text (p.claims m.moving.name)) p.claims name
    (λ same. moved-settled m.text (p.claims m.moving.name) (subst (λ (name : List ℕ). IsSettledIn (p.claims name)) same (are name there)))
    (λ other. are name there))

same-history : (m : Move) (f after : Files) (p later : Past) → MayMovePast m f p after later → later.history ≡ p.history
same-history m f after p later (inl kept) = ap (λ (q : Past). q.history) kept.past
same-history m f after p later (inr past) = ap (λ (q : Past). q.history) past.past

-- what a change makes of the paths
others-rest : (m : Move) (f after : Files) (p later : Past) → MayMovePast m f p after later → OthersRest (its_path m.moving) f after
others-rest m f after p later (inl kept) = λ other apart. kept.files other
others-rest m f after p later (inr past) = past.puts.others

rests-or-moves : (m : Move) (f after : Files) (p later : Past) → MayMovePast m f p after later → ItRests m.moving f after ⊎ ItMoves m.moving f after
rests-or-moves m f after p later (inl kept) = inl (kept.files (its_path m.moving))
rests-or-moves m f after p later (inr past) = inr (past.found, past.puts.here)

module _ (laws : Laws) (kept : PastKept) (found : SettledFound) (known : SettledKnown) (moving : Moving) (is : IsMoving moving) (s : TableSchema)
    (entries : List Entry) (names : List (List ℕ)) (f : Files) (may : MayMove moving s entries names f) where
  abbrev m : Move
  m = move_by nobody moving (frame s entries moving.next)

  had : (p : Past) × (p.history ≡ table s entries) × Stands f p × ((name : List ℕ) → Contains names name → (from : ℕ) × (p.claims name ≡ settled from []))
  had = found f (table s entries) names may.stands.folder may.stands.settled

  are : AreSettled names had.0
  are name there = let one = had.3 name there in (one.0, [], one.1)

  printed : IsPrinted m had.0.history
  printed = subst (λ (h : History). IsPrinted m h) (sym had.1)
      (record { table = (s, refl, may.plain); within = may.within; frame = refl })

  stands-with : (after : Files) (later : Past) → MayMovePast m f had.0 after later → StandsWith s entries names after
  stands-with after later changed =
      let stands : Stands after later = kept nobody f after had.0 later had.2 (advances-of m f after had.0 later changed) in
      let same : later.history ≡ table s entries = same-history m f after had.0 later changed ∙ had.1 in record {
        folder = subst (Folder after) same stands.folder;
        settled = subst (λ (h : History). HaveSettled after h names) same
            (known after later names stands (still-settled m f after had.0 later names changed are));
      }

  abbrev Image : Files → Type 0
  Image g = OthersRest (its_path moving) f g × (ItRests moving f g ⊎ ItMoves moving f g) × StandsWith s entries names g

  image-of : (g : Files) (later : Past) → MayMovePast m f had.0 g later → Image g
  image-of g later changed = (
    others-rest m f g had.0 later changed,
    rests-or-moves m f g had.0 later changed,
    stands-with g later changed,
  )

  images : (image : Files) → MayLeave (swap_call moving) f image → Image image
  images image left =
      let led = image_changed (MayMovePast m) (swap_call moving) f had.0 (swap-changes laws m f had.0 is printed) image left in
      image-of image led.0 led.1

  here : Image f
  here = ((λ other apart. refl), inl refl, may.stands)

  -- the answers
  abbrev Moved : Files → Type 0
  Moved g = OthersRest (its_path moving) f g × ItMoves moving f g × StandsWith s entries names g

  abbrev Met : Option (List ℕ) → Files → Type 0
  Met other g = (OthersRest (its_path moving) f g × ItRests moving f g × StandsWith s entries names g)
      × ((map.get f (its_path moving) ≡ other) × (other ≢ Some moving.expected))

  when-moved : Answers (swap_call moving) (answers.Swapped swaps.Swapped) f → Moved (carried (swap_call moving) f)
  when-moved told =
      let past = swap-done laws m f had.0 is printed told in
      let after : Files = carried (swap_call moving) f in
      (past.puts.others, (past.found, past.puts.here), stands-with after (moved_on m had.0) (inr past))

  when-met : (other : Option (List ℕ)) → Answers (swap_call moving) (answers.Swapped (swaps.Differs other)) f → Met other (carried (swap_call moving) f)
  when-met other told =
      let after : Files = carried (swap_call moving) f in
      let same = Answers-Changed (swap_call moving) (answers.Swapped (swaps.Differs other)) f told in
      let changed : MayMovePast m f had.0 after had.0 = inl (record { files = same; past = refl }) in
      (((λ path apart. same path), same (its_path moving), stands-with after had.0 changed), told)

  module _ (first after : StoreView) (alone : IsAlone first after) (has : HasFiles f first) where
    ended : (P : Files → Type 0) (result : Result (List ℕ) Refusal) → Follows Image first.ops after P
        → ((g : Files) → P g → OthersRest (its_path moving) f g × ItLeaves moving result f g × StandsWith s entries names g)
        → IsCaused moving f first after result
        → (map.get f (its_path moving) ≡ Some moving.expected → (Rose first.faults after.faults → ⊥) → IsMovedOrMemory result)
        → MovesName moving s entries names f first after result
    ended P result so then caused complete = record {
      leaves = leaves_of Image P (λ g. OthersRest (its_path moving) f g × ItLeaves moving result f g × StandsWith s entries names g) first.ops after so then;
      images = images_of Image P first.ops after so;
      cause = caused;
      complete = complete;
    }

    served : (bytes : List ℕ) → Traces (moved moving ∷ []) first after → MovesName moving s entries names f first after (Ok bytes)
    served bytes trace =
        let so = was_answered (swap_call moving) f Image images here first after alone has (answers.Swapped swaps.Swapped) Moved when-moved trace in
        ended Moved (Ok bytes) so (λ g moved. moved) so.here.1.0 (λ there none. tt)

    ended-first : (e : Refusal) → Traces [] first after
        → ((g : Files) → g ≡ f → OthersRest (its_path moving) f g × ItLeaves moving (Err e) f g × StandsWith s entries names g)
        → IsCaused moving f first after (Err e)
        → (map.get f (its_path moving) ≡ Some moving.expected → (Rose first.faults after.faults → ⊥) → IsMovedOrMemory (Err e))
        → MovesName moving s entries names f first after (Err e)
    ended-first e trace then caused complete =
        ended (λ g. g ≡ f) (Err e) (not_made (swap_call moving) f Image images here first after alone has trace) then caused complete

    out-of-memory : Traces [] first after → MovesName moving s entries names f first after (Err refusals.Memory)
    out-of-memory trace = ended-first refusals.Memory trace
        (λ g same. subst (λ (g : Files). OthersRest (its_path moving) f g × ItRests moving f g × StandsWith s entries names g) (sym same)
        ((λ other apart. refl), refl, may.stands)) tt (λ there none. tt)

    was-met : (other : Option (List ℕ)) → Traces (met moving other ∷ []) first after
        → MovesName moving s entries names f first after (Err (refusals.ConsumerMoved other))
    was-met other trace =
        let so = was_answered (swap_call moving) f Image images here first after alone has (answers.Swapped (swaps.Differs other)) (Met other) (when-met other) trace in
        ended (Met other) (Err (refusals.ConsumerMoved other)) so (λ g met. met.0) so.here.1
        (λ there none. absurd (so.here.1.1 (sym so.here.1.0 ∙ there)))

    store-failed : Traces (faulted (swap_call moving) ∷ []) first after → MovesName moving s entries names f first after (Err (refusals.StoreFault (its_path moving)))
    store-failed trace =
        let failed = has_failed (swap_call moving) f Image images here first after alone has trace in
        ended Image (Err (refusals.StoreFault (its_path moving))) failed.0 (λ g image. image) (refl, failed.1) (λ there none. absurd (none failed.1))

    refused : (e : Refusal) (own : List Event) → Shows moving e own → Traces own first after → MovesName moving s entries names f first after (Err e)
    refused refusals.Memory own shows trace = out-of-memory (subst (λ (own : List Event). Traces own first after) shows trace)
    refused (refusals.ConsumerMoved other) own shows trace = was-met other (subst (λ (own : List Event). Traces own first after) shows trace)
    refused (refusals.StoreFault path) own (at, shows) trace =
        subst (λ (path : List ℕ). MovesName moving s entries names f first after (Err (refusals.StoreFault path))) (sym at)
        (store-failed (subst (λ (own : List Event). Traces own first after) shows trace))
    refused e own shows trace = absurd shows

pub moved-alone : Laws → PastKept → SettledFound → SettledKnown → (m : Moving) (result : Result (List ℕ) Refusal) (before after : StoreView) → IsMoving m
    → HasTrace (DidMove m result) before after → MovesNames m before after result
moved-alone laws kept found known m (Ok bytes) before after is (own, (new, did), trace) = λ alone s entries names f has may.
    served laws kept found known m is s entries names f may (at_first_own before after) after alone has bytes
    (Traces-first (moved m ∷ []) before after (subst (λ (own : List Event). Traces own before after) did trace))
moved-alone laws kept found known m (Err e) before after is (own, shows, trace) = λ alone s entries names f has may.
    refused laws kept found known m is s entries names f may (at_first_own before after) after alone has e own shows (Traces-first own before after trace)

-- ---- whatever others do

-- what others' changes leave
others-keep : PastKept → ChangesStay → (m : Move) (f after : Files) (p later : Past) → Stands f p → IsPrinted m p.history → OthersAdvance f p after later
    → Stands after later × IsPrinted m later.history
others-keep kept law m f after p later stands printed (other, advances) = (
  kept other f after p later stands advances,
  printed-still law m f p.history later.history stands.folder (goes_on other f after p.history later.history advances.change) printed,
)

module _ (laws : Laws) (kept : PastKept) (law : ChangesStay) (m : Move) (is : IsMoving m.moving) (Own : Files → Past → Files → Past → Type 0) where
  abbrev Knew : Files → Past → Type 0
  Knew f p = IsPrinted m p.history

  -- nothing came but of others
  rests : (before after : StoreView) → Meanwhile before after → Brings Stands Own OthersAdvance Knew Knew before after
  rests before after meanwhile = brings-meanwhile Stands Own OthersAdvance Knew (others-keep kept law m) before after meanwhile

  -- its operation, of which each change is one that a mover may make, and then others'
  comes : (op : Op) (P : List Op → Type 0) (before middle after : StoreView) → op.is_own ≡ true
      → ((ops : List Op) (p : Past) → P ops → Stands (files_after ops) p → IsPrinted m p.history
      → (later : Past) × MayMovePast m (files_after ops) p (after_op op (files_after ops)) later × Own (files_after ops) p (after_op op (files_after ops)) later)
      → Steps op P before middle → Meanwhile middle after → Brings Stands Own OthersAdvance Knew Knew before after
  comes op P before middle after own does steps meanwhile = brings-then Stands Own OthersAdvance Knew Knew Knew before middle after
      (brings-steps Stands Own OthersAdvance Knew (others-keep kept law m) Knew op P before middle own
      (λ ops p here stands printed.
      let (later, may, change) = does ops p here stands printed in
      let f : Files = files_after ops in
      let now : Stands (after_op op f) later = kept m.me f (after_op op f) p later stands (advances-of m f (after_op op f) p later may) in
      let same : later.history ≡ p.history = same-history m f (after_op op f) p later may in
      (later, change, (now, subst (λ (h : History). IsPrinted m h) (sym same) printed))) steps)
      (rests middle after meanwhile)

met-so : Laws → PastKept → ChangesStay → (m : Move) → IsMoving m.moving → (other : Option (List ℕ)) (before after : StoreView)
    → Traces (met m.moving other ∷ []) before after → MovesOn m (Err (refusals.ConsumerMoved other)) before after
met-so laws kept law m is other before after (middle, (steps, may), early, (meanwhile, last)) =
    comes laws kept law m is (λ f p. IsKept f p) (whole (swap_call m.moving))
    (λ ops. Answers (swap_call m.moving) (answers.Swapped (swaps.Differs other)) (files_after ops)) before middle after refl
    (λ ops p told stands printed.
    let same : IsKept (files_after ops) p (carried (swap_call m.moving) (files_after ops)) p =
    record { files = Answers-Changed (swap_call m.moving) (answers.Swapped (swaps.Differs other)) (files_after ops) told; past = refl } in
    (p, inl same, same)) steps meanwhile

failed-so : Laws → PastKept → ChangesStay → (m : Move) → IsMoving m.moving → (path : List ℕ) (before after : StoreView)
    → Traces (faulted (swap_call m.moving) ∷ []) before after → MovesOn m (Err (refusals.StoreFault path)) before after
failed-so laws kept law m is path before after (middle, ((effect, steps), rose), early, (meanwhile, last)) =
    comes laws kept law m is (MayMovePast m) (own_op (swap_call m.moving) effect) (λ ops. MayHave (swap_call m.moving) effect (files_after ops)) before middle after refl
    (λ ops p may stands printed.
    let led = swap-changes laws m (files_after ops) p is printed effect in (led.0, led.1, led.1)) steps meanwhile

pub moved-beside : Laws → PastKept → ChangesStay → (m : Move) (result : Result (List ℕ) Refusal) (before after : StoreView) → IsMoving m.moving
    → HasTrace (DidMove m.moving result) before after → MovesOn m result before after
moved-beside laws kept law m (Ok bytes) before after is (own, (new, did), trace) =
    let (middle, (steps, may), early, (meanwhile, last)) = subst (λ (own : List Event). Traces own before after) did trace in
    comes laws kept law m is (IsMovedPast m) (whole (swap_call m.moving))
    (λ ops. Answers (swap_call m.moving) (answers.Swapped swaps.Swapped) (files_after ops)) before middle after refl
    (λ ops p told stands printed.
    let past = swap-done laws m (files_after ops) p is printed told in (moved_on m p, inr past, past)) steps meanwhile
moved-beside laws kept law m (Err refusals.Memory) before after is (own, shows, trace) =
    let (meanwhile, later) = subst (λ (own : List Event). Traces own before after) shows trace in
    rests laws kept law m is (λ f p. IsKept f p) before after meanwhile
moved-beside laws kept law m (Err (refusals.ConsumerMoved other)) before after is (own, shows, trace) =
    met-so laws kept law m is other before after (subst (λ (own : List Event). Traces own before after) shows trace)
moved-beside laws kept law m (Err (refusals.StoreFault path)) before after is (own, (at, shows), trace) =
    failed-so laws kept law m is path before after (subst (λ (own : List Event). Traces own before after) shows trace)
moved-beside laws kept law m (Err e) before after is (own, shows, trace) = absurd shows
