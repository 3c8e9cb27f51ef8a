-- The call of a dropper: which calls were made, and what they do where nobody else acts, and whatever others do.
use Rattle.std.proofs.Common.{◌≡◌, ◌⊎◌, inl, inr, ℕ, List, [], ◌∷◌, Contains, Bool, true, false, None, IsSome, Result, Ok, Err, IfErr, refl, sym, ap, ◌∙◌, subst}
use Rattle.std.specs.FinMap as map
use Rattle.pm_base.specs.Faults.{Rose}
use Rattle.pm_values.specs.declared.refusal.Refusal.{Refusal}
use Rattle.pm_values.specs.declared.refusal.Refusal.TheVariants as refusals
use Rattle.pm_store.specs.declared.answer.Answer.TheVariants as answers
use Rattle.pm_store.specs.declared.call.Op.{Op}
use Rattle.pm_store.specs.Answers.{Answers, MayHave}
use Rattle.pm_store.specs.Files.{Files, after_op, carried, files_after}
use Rattle.pm_store.specs.Images.{MayLeave}
use Rattle.pm_store.specs.Store.{StoreView, IsAlone, IsLater, Meanwhile, Steps, at_first_own, own_op, whole}
use Rattle.pm_machine.specs.Moves.{IsKept}
use Rattle.pm_machine.specs.Trace.{Event, HasTrace, Traces, faulted}
use Rattle.pm_machine.proofs.Facts.{image_changed, HasTrace-acts, Traces-none}
use Rattle.pm_machine.proofs.AloneLaws.{Follows, Traces-first}
use Rattle.pm_model_consumers.specs.Claims.{free, settled}
use Rattle.pm_model_history.specs.History.{Entry, History, table}
use Rattle.pm_schema.specs.declared.schema.TableSchema.{TableSchema}
use Rattle.pm_model_folder.specs.Changes.{HavePlainNames, IsPlain}
use Rattle.pm_model_folder.specs.Folder.{Folder, HaveSettled}
use Rattle.pm_model_folder.specs.Ledger.{Past, Stands}
use Rattle.pm_model_folder.specs.Paths.{consumer_path}
use Rattle.pm_model_folder.proofs.Facts.{goes_on, some-none}
use Rattle.pm_beside.specs.Bringing.{Brings}
use Rattle.pm_beside.proofs.BringLemmas.{brings-meanwhile, brings-steps, brings-then}
use Rattle.pm_read_schema.specs.AllCalls.{HasFiles}
use Rattle.pm_read_schema.specs.Beside.{OthersAdvance}
use Rattle.pm_move_consumer.specs.declared.drop_phase.DropPhase.{DropPhase}
use Rattle.pm_move_consumer.specs.declared.drop_phase.DropPhase.TheVariants as phases
use Rattle.pm_move_consumer.specs.Dropper.{told}
use Rattle.pm_move_consumer.specs.DropperMeaning.{Drop, IsGone, MayDrop, drop_by}
use Rattle.pm_move_consumer.specs.DropperTrace.{Did, DropperActed, Shows, dropped, remove_call}
use Rattle.pm_move_consumer.specs.DropperAllCalls.{AreOthersOf, DidDrop, DropsName, DropsNames, DropsOn, IsCaused, IsToldOrMemory, ItGoes, ItLeaves, ItRests, StandsWithout, WasAbsent}
use Rattle.pm_move_consumer.specs.MoverAllCalls.{OthersRest, StandsWith}
use Rattle.pm_move_consumer.specs.MoverMeaning.{HasPlainTable}
use Rattle.pm_move_consumer.proofs.StepFacts.{ConsumerSteps, PastKept, SettledFound, SettledKnown, nobody, plain-table, with-claim}
use Rattle.pm_move_consumer.proofs.DropperFacts.{advances-of, gone_from, kept-absent, remove-changes, remove-done, was-absent}
use Rattle.pm_move_consumer.proofs.OneCallLemmas.{has_failed, images_of, leaves_of, not_made, was_answered}

-- ---- which calls were made

did-none : (name : List ℕ) (phase : DropPhase) → phase ≡ phases.Remove (consumer_path name) → Did name phase []
did-none name phase is = subst (λ (phase : DropPhase). Did name phase []) (sym is) (refl, refl)

step-made : (name : List ℕ) (phase new : DropPhase) (before after : StoreView) (result : Result (Unit {0}) Refusal) → phase ≡ phases.Remove (consumer_path name)
    → DropperActed phase new before after result → IsLater before after
    → HasTrace (λ own. Did name new own × IfErr result (λ refusal. Shows name refusal own)) before after
step-made name phase new before after result first acted later =
    HasTrace-acts {did = Did name phase} {before = before} ([], did-none name phase first, Traces-none before) (acted name) later

pub was-dropped : (name : List ℕ) (was : Bool) (phase new : DropPhase) (before after : StoreView) → phase ≡ phases.Remove (consumer_path name)
    → new ≡ phases.Dropped was → DropperActed phase new before after (Ok tt) → IsLater before after → HasTrace (DidDrop name (Ok was)) before after
was-dropped name was phase new before after first last acted later =
    let step = step-made name phase new before after (Ok tt) first acted later in
    (step.0, subst (λ (new : DropPhase). Did name new step.0) last step.1.0, step.2)

pub was-refused : (name : List ℕ) (refusal : Refusal) (phase new : DropPhase) (before after : StoreView) → phase ≡ phases.Remove (consumer_path name)
    → DropperActed phase new before after (Err refusal) → IsLater before after → HasTrace (DidDrop name (Err refusal)) before after
was-refused name refusal phase new before after first acted later =
    let step = step-made name phase new before after (Err refusal) first acted later in
    (step.0, step.1.1, step.2)

pub no-call : (name : List ℕ) (store : StoreView) → HasTrace (DidDrop name (Err refusals.Memory)) store store
no-call name store = ([], refl, Traces-none store)

-- ---- where nobody else acts

abbrev AreSettled : List (List ℕ) → Past → Type 0
AreSettled names p = (name : List ℕ) → Contains names name → (from : ℕ) × (moved : List (List ℕ)) × (p.claims name ≡ settled from moved)

same-history : (d : Drop) (f after : Files) (p later : Past) → MayDrop d f p after later → later.history ≡ p.history
same-history d f after p later (inl kept) = ap (λ (q : Past). q.history) kept.past
same-history d f after p later (inr gone) = ap (λ (q : Past). q.history) gone.past

-- the other names that were settled are
others-settled : (d : Drop) (f after : Files) (p later : Past) (names others : List (List ℕ)) → AreOthersOf d.name names others → MayDrop d f p after later
    → AreSettled names p → AreSettled others later
others-settled d f after p later names others of (inl kept) are = λ name there.
    subst (λ (q : Past). (from : ℕ) × (moved : List (List ℕ)) × (q.claims name ≡ settled from moved)) (sym kept.past) (are name (of name there).0)
others-settled d f after p later names others of (inr gone) are = λ name there.
    subst (λ (q : Past). (from : ℕ) × (moved : List (List ℕ)) × (q.claims name ≡ settled from moved)) (sym gone.past)
    (with-claim (λ claim. (from : ℕ) × (moved : List (List ℕ)) × (claim ≡ settled from moved)) d.name free p.claims name
    (λ same. absurd ((of name there).1 same)) (λ other. are name (of name there).0))

-- what a change makes of the paths
others-rest : (d : Drop) (f after : Files) (p later : Past) → MayDrop d f p after later → OthersRest (consumer_path d.name) f after
others-rest d f after p later (inl kept) = λ other apart. kept.files other
others-rest d f after p later (inr gone) = gone.puts.others

rests-or-goes : (d : Drop) (f after : Files) (p later : Past) → MayDrop d f p after later → ItRests d.name f after ⊎ ItGoes d.name f after
rests-or-goes d f after p later (inl kept) = inl (kept.files (consumer_path d.name))
rests-or-goes d f after p later (inr gone) = inr (gone.there, gone.puts.here)

module _ (steps : ConsumerSteps) (kept : PastKept) (found : SettledFound) (known : SettledKnown) (name : List ℕ) (plain : IsPlain name) (s : TableSchema)
    (entries : List Entry) (names : List (List ℕ)) (f : Files) (stood : StandsWith s entries names f) (columns : HavePlainNames s) where
  abbrev d : Drop
  d = drop_by nobody name

  had : (p : Past) × (p.history ≡ table s entries) × Stands f p × ((name : List ℕ) → Contains names name → (from : ℕ) × (p.claims name ≡ settled from []))
  had = found f (table s entries) names stood.folder stood.settled

  are : AreSettled names had.0
  are name there = let one = had.3 name there in (one.0, [], one.1)

  has : HasPlainTable had.0.history
  has = subst HasPlainTable (sym had.1) (s, refl, columns)

  stand-by : (after : Files) (later : Past) → MayDrop d f had.0 after later → (others : List (List ℕ)) → AreSettled others later
      → StandsWith s entries others after
  stand-by after later changed others claimed =
      let stands : Stands after later = kept nobody f after had.0 later had.2 (advances-of d f after had.0 later changed) in
      let same : later.history ≡ table s entries = same-history d f after had.0 later changed ∙ had.1 in record {
        folder = subst (Folder after) same stands.folder;
        settled = subst (λ (h : History). HaveSettled after h others) same (known after later others stands claimed);
      }

  -- where its file is as it was, all are
  all-stand : (after : Files) (later : Past) → MayDrop d f had.0 after later → ItRests name f after → StandsWith s entries names after
  all-stand after later (inl same) rests = stand-by after later (inl same) names (subst (AreSettled names) (sym same.past) are)
  all-stand after later (inr gone) rests = absurd (some-none (map.get f (consumer_path name)) gone.there (sym rests ∙ gone.puts.here))

  stands-without : (after : Files) (later : Past) → MayDrop d f had.0 after later → StandsWithout name s entries names f after
  stands-without after later changed = record {
    others = λ others of. stand-by after later changed others (others-settled d f after had.0 later names others of changed are);
    rests = all-stand after later changed;
  }

  abbrev Image : Files → Type 0
  Image g = OthersRest (consumer_path name) f g × (ItRests name f g ⊎ ItGoes name f g) × StandsWithout name s entries names f g

  image-of : (g : Files) (later : Past) → MayDrop d f had.0 g later → Image g
  image-of g later changed = (
    others-rest d f g had.0 later changed,
    rests-or-goes d f g had.0 later changed,
    stands-without g later changed,
  )

  images : (image : Files) → MayLeave (remove_call name) f image → Image image
  images image left =
      let led = image_changed (MayDrop d) (remove_call name) f had.0 (remove-changes steps d f had.0 plain has) image left in
      image-of image led.0 led.1

  here : Image f
  here = image-of f had.0 (inl (record { files = λ path. refl; past = refl }))

  -- the answers
  abbrev Told : Bool → Files → Type 0
  Told true g = (OthersRest (consumer_path name) f g × ItGoes name f g × StandsWithout name s entries names f g) × IsSome (map.get f (consumer_path name))
  Told false g = (OthersRest (consumer_path name) f g × ItRests name f g × StandsWithout name s entries names f g) × (map.get f (consumer_path name) ≡ None)

  when-told : (was : Bool) → Answers (remove_call name) (answers.Removed (told was)) f → Told was (carried (remove_call name) f)
  when-told true is =
      let gone = remove-done steps d f had.0 plain has is in
      let after : Files = carried (remove_call name) f in
      ((gone.puts.others, (gone.there, gone.puts.here), stands-without after (gone_from d had.0) (inr gone)), gone.there)
  when-told false is =
      let absent = was-absent (map.get f (consumer_path name)) is in
      let same = kept-absent d f had.0 absent in
      let after : Files = carried (remove_call name) f in
      (((λ path apart. same.files path), same.files (consumer_path name), stands-without after had.0 (inl same)), absent)

  module _ (first after : StoreView) (alone : IsAlone first after) (at : HasFiles f first) where
    ended : (P : Files → Type 0) (result : Result Bool Refusal) → Follows Image first.ops after P
        → ((g : Files) → P g → OthersRest (consumer_path name) f g × ItLeaves name result f g × StandsWithout name s entries names f g)
        → IsCaused name f first after result → ((Rose first.faults after.faults → ⊥) → IsToldOrMemory result)
        → DropsName name s entries names f first after result
    ended P result so then caused complete = record {
      leaves = leaves_of Image P (λ g. OthersRest (consumer_path name) f g × ItLeaves name result f g × StandsWithout name s entries names f g) first.ops after so then;
      images = images_of Image P first.ops after so;
      cause = caused;
      complete = complete;
    }

    served : (was : Bool) → Traces (dropped name was ∷ []) first after → DropsName name s entries names f first after (Ok was)
    served true trace =
        let so = was_answered (remove_call name) f Image images here first after alone at (answers.Removed (told true)) (Told true) (when-told true) trace in
        ended (Told true) (Ok true) so (λ g gone. gone.0) so.here.1 (λ none. tt)
    served false trace =
        let so = was_answered (remove_call name) f Image images here first after alone at (answers.Removed (told false)) (Told false) (when-told false) trace in
        ended (Told false) (Ok false) so (λ g absent. absent.0) so.here.1 (λ none. tt)

    out-of-memory : Traces [] first after → DropsName name s entries names f first after (Err refusals.Memory)
    out-of-memory trace = ended (λ g. g ≡ f) (Err refusals.Memory) (not_made (remove_call name) f Image images here first after alone at trace)
        (λ g same. subst (λ (g : Files). OthersRest (consumer_path name) f g × ItRests name f g × StandsWithout name s entries names f g) (sym same)
        (here.0, refl, here.2)) tt (λ none. tt)

    store-failed : Traces (faulted (remove_call name) ∷ []) first after → DropsName name s entries names f first after (Err (refusals.StoreFault (consumer_path name)))
    store-failed trace =
        let failed = has_failed (remove_call name) f Image images here first after alone at trace in
        ended Image (Err (refusals.StoreFault (consumer_path name))) failed.0 (λ g image. image) (refl, failed.1) (λ none. absurd (none failed.1))

    refused : (e : Refusal) (own : List Event) → Shows name e own → Traces own first after → DropsName name s entries names f first after (Err e)
    refused refusals.Memory own shows trace = out-of-memory (subst (λ (own : List Event). Traces own first after) shows trace)
    refused (refusals.StoreFault path) own (is, shows) trace =
        subst (λ (path : List ℕ). DropsName name s entries names f first after (Err (refusals.StoreFault path))) (sym is)
        (store-failed (subst (λ (own : List Event). Traces own first after) shows trace))
    refused e own shows trace = absurd shows

pub dropped-alone : ConsumerSteps → PastKept → SettledFound → SettledKnown → (name : List ℕ) (result : Result Bool Refusal) (before after : StoreView) → IsPlain name
    → HasTrace (DidDrop name result) before after → DropsNames name before after result
dropped-alone steps kept found known name (Ok was) before after plain (own, did, trace) = λ alone s entries names f at stood columns.
    served steps kept found known name plain s entries names f stood columns (at_first_own before after) after alone at was
    (Traces-first (dropped name was ∷ []) before after (subst (λ (own : List Event). Traces own before after) did trace))
dropped-alone steps kept found known name (Err e) before after plain (own, shows, trace) = λ alone s entries names f at stood columns.
    refused steps kept found known name plain s entries names f stood columns (at_first_own before after) after alone at e own shows
    (Traces-first own before after trace)

-- ---- whatever others do

others-keep : PastKept → (f after : Files) (p later : Past) → Stands f p → HasPlainTable p.history → OthersAdvance f p after later
    → Stands after later × HasPlainTable later.history
others-keep kept f after p later stands has (other, advances) =
    (kept other f after p later stands advances, plain-table p.history later.history (goes_on other f after p.history later.history advances.change) has)

module _ (kept : PastKept) (d : Drop) (Own : Files → Past → Files → Past → Type 0) where
  abbrev Knew : Files → Past → Type 0
  Knew f p = HasPlainTable p.history

  -- nothing came but of others
  rests : (before after : StoreView) → Meanwhile before after → Brings Stands Own OthersAdvance Knew Knew before after
  rests before after meanwhile = brings-meanwhile Stands Own OthersAdvance Knew (others-keep kept) before after meanwhile

  -- its operation, of which each change is one that a dropper may make, and then others'
  comes : (op : Op) (P : List Op → Type 0) (before middle after : StoreView) → op.is_own ≡ true
      → ((ops : List Op) (p : Past) → P ops → Stands (files_after ops) p → HasPlainTable p.history
      → (later : Past) × MayDrop d (files_after ops) p (after_op op (files_after ops)) later × Own (files_after ops) p (after_op op (files_after ops)) later)
      → Steps op P before middle → Meanwhile middle after → Brings Stands Own OthersAdvance Knew Knew before after
  comes op P before middle after own does steps meanwhile = brings-then Stands Own OthersAdvance Knew Knew Knew before middle after
      (brings-steps Stands Own OthersAdvance Knew (others-keep kept) Knew op P before middle own
      (λ ops p here stands has.
      let (later, may, change) = does ops p here stands has in
      let f : Files = files_after ops in
      let now : Stands (after_op op f) later = kept d.me f (after_op op f) p later stands (advances-of d f (after_op op f) p later may) in
      let same : later.history ≡ p.history = same-history d f (after_op op f) p later may in
      (later, change, (now, subst HasPlainTable (sym same) has))) steps)
      (rests middle after meanwhile)

told-so : ConsumerSteps → PastKept → (d : Drop) → IsPlain d.name → (was : Bool) (before after : StoreView) → Traces (dropped d.name was ∷ []) before after
    → DropsOn d (Ok was) before after
told-so steps kept d plain true before after (middle, (step, may), early, (meanwhile, last)) =
    comes kept d (IsGone d) (whole (remove_call d.name)) (λ ops. Answers (remove_call d.name) (answers.Removed (told true)) (files_after ops)) before middle after refl
    (λ ops p is stands has.
    let gone = remove-done steps d (files_after ops) p plain has is in (gone_from d p, inr gone, gone)) step meanwhile
told-so steps kept d plain false before after (middle, (step, may), early, (meanwhile, last)) =
    comes kept d (WasAbsent d) (whole (remove_call d.name)) (λ ops. Answers (remove_call d.name) (answers.Removed (told false)) (files_after ops)) before middle after refl
    (λ ops p is stands has.
    let absent = was-absent (map.get (files_after ops) (consumer_path d.name)) is in
    let same : IsKept (files_after ops) p (carried (remove_call d.name) (files_after ops)) p = kept-absent d (files_after ops) p absent in
    (p, inl same, (absent, same))) step meanwhile

failed-so : ConsumerSteps → PastKept → (d : Drop) → IsPlain d.name → (path : List ℕ) (before after : StoreView) → Traces (faulted (remove_call d.name) ∷ []) before after
    → DropsOn d (Err (refusals.StoreFault path)) before after
failed-so steps kept d plain path before after (middle, ((effect, step), rose), early, (meanwhile, last)) =
    comes kept d (MayDrop d) (own_op (remove_call d.name) effect) (λ ops. MayHave (remove_call d.name) effect (files_after ops)) before middle after refl
    (λ ops p may stands has.
    let led = remove-changes steps d (files_after ops) p plain has effect in (led.0, led.1, led.1)) step meanwhile

pub dropped-beside : ConsumerSteps → PastKept → (d : Drop) (result : Result Bool Refusal) (before after : StoreView) → IsPlain d.name
    → HasTrace (DidDrop d.name result) before after → DropsOn d result before after
dropped-beside steps kept d (Ok was) before after plain (own, did, trace) =
    told-so steps kept d plain was before after (subst (λ (own : List Event). Traces own before after) did trace)
dropped-beside steps kept d (Err refusals.Memory) before after plain (own, shows, trace) =
    let (meanwhile, later) = subst (λ (own : List Event). Traces own before after) shows trace in
    rests kept d (λ f p. IsKept f p) before after meanwhile
dropped-beside steps kept d (Err (refusals.StoreFault path)) before after plain (own, (at, shows), trace) =
    failed-so steps kept d plain path before after (subst (λ (own : List Event). Traces own before after) shows trace)
dropped-beside steps kept d (Err e) before after plain (own, shows, trace) = absurd shows
