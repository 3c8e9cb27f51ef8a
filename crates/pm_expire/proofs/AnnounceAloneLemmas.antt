-- The create of the floor where nobody else acts: the floor is there afterwards, and each image has it in part or whole, or not yet.
use Rattle.std.proofs.Common.{◌≡◌, ◌↔◌, inl, inr, ℕ, ◌<◌, ◌≤◌, List, [], ◌∷◌, ◌++◌, Contains, if◌then◌else◌, is_none, Option, None, Some, IsSome, IsSomeAnd, refl, sym, ap, ◌∙◌, subst, arith}
use Rattle.std.specs.FinMap as map
use Rattle.pm_store.specs.declared.answer.Answer.TheVariants as answers
use Rattle.pm_store.specs.declared.answer.Made.{Made}
use Rattle.pm_store.specs.declared.call.Call.{Call}
use Rattle.pm_store.specs.declared.call.Effect.TheVariants as effects
use Rattle.pm_store.specs.declared.call.Op.{Op}
use Rattle.pm_store.specs.Answers.{Answers, MayHave}
use Rattle.pm_store.specs.Files.{Files, IsListing, Puts, after_effect, carried, files_after}
use Rattle.pm_store.specs.Images.{Extends, MayLeave}
use Rattle.pm_store.specs.Store.{StoreView, IsAlone, own_op, whole}
use Rattle.pm_store.proofs.ChangeLaws.{Puts-insert}
use Rattle.pm_store.proofs.FileLaws.{MayLeave-after_effect}
use Rattle.pm_store.proofs.ImageLaws.{Extends-weaker}
use Rattle.pm_store.proofs.StepLaws.{alone_parts}
use Rattle.pm_machine.specs.Trace.{Event, Traces, faulted}
use Rattle.pm_machine.proofs.AloneLaws.{Follows, Follows-first, Follows-meanwhile, Follows-steps, Traces-later}
use Rattle.pm_machine.proofs.Facts.{Traces-none}
use Rattle.pm_create.specs.Making.{LeavesFiles}
use Rattle.pm_model_history.specs.History.{Entry, History, IsTableOf, no_table, table}
use Rattle.pm_schema.specs.declared.schema.TableSchema.{TableSchema}
use Rattle.pm_snapshot.specs.Names.{floor_name, greatest}
use Rattle.pm_model_folder.specs.Changes.{Actor, Change, HavePlainNames, beside, floor, nothing}
use Rattle.pm_model_folder.specs.Folder.{Folder, HaveFiles}
use Rattle.pm_model_folder.specs.Ledger.{count_of}
use Rattle.pm_model_folder.specs.Paths.{floor_folder, floor_path}
use Rattle.pm_consumer_files.proofs.FloorPaths.{floor-listed}
use Rattle.pm_consumer_files.specs.Floors.{IsListedFloor}
use Rattle.pm_expire_paths.specs.Floors.{AreFloorsBelow}
use Rattle.pm_read_schema.specs.AllCalls.{HasFiles, Stay}
use Rattle.pm_read_schema.proofs.StillLemmas.{AreStill, AreTold, stayed}
use Rattle.pm_announce.specs.Announcer.{announce_call}
use Rattle.pm_announce.specs.Trace.{announces}
use Rattle.pm_read_expiry.specs.declared.asking.Asking.{Asking}
use Rattle.pm_read_expiry.specs.declared.asking.Found.{Found}
use Rattle.pm_expire.specs.AllCalls.{HasToGo, IsImageOf, announced, announcing, as_before}

-- ---- calls one after another, where nobody else acts

-- these are all own calls between two moments
pub record IsRun (own : List Event) (before after : StoreView) : Type 0 where
  pub trace : Traces own before after
  pub alone : IsAlone before after

pub record Parts (own more : List Event) (before after : StoreView) : Type 0 where
  pub middle : StoreView
  pub first : IsRun own before middle
  pub rest : IsRun more middle after

pub parted : (own more : List Event) (before after : StoreView) → IsRun (own ++ more) before after → Parts own more before after
parted [] more before after run = record { middle = before; first = record { trace = Traces-none before; alone = refl }; rest = run }
parted (event ∷ own) more before after run =
    let t : Traces (event ∷ (own ++ more)) before after = run.trace in
    let sides = alone_parts before t.0 after t.2 (Traces-later (own ++ more) t.0 after t.3) run.alone in
    let p = parted own more t.0 after (record { trace = t.3; alone = sides.1 }) in
    record {
      middle = p.middle;
      first = record { trace = (t.0, t.1, t.2, p.first.trace); alone = p.first.alone ∙ sides.0 };
      rest = p.rest;
    }

pub run_of : (own other : List Event) (before after : StoreView) → own ≡ other → IsRun own before after → IsRun other before after
run_of own other before after same run = subst (λ (own : List Event). IsRun own before after) same run

pub still_run : (f : Files) (own : List Event) (before after : StoreView) → AreStill own → IsRun own before after → HasFiles f before → Stay f before after × AreTold f own
still_run f own before after still run has = stayed f own before after still run.trace run.alone has

-- ---- what calls leave

-- these files are there at the end, and each image since the first call is so
pub record Leads (I : Files → Type 0) (f : Files) (before after : StoreView) : Type 0 where
  pub has : HasFiles f after
  pub images : Extends I before.ops after.ops

pub stays : (I : Files → Type 0) (f : Files) (before after : StoreView) → I f → Stay f before after → Leads I f before after
stays I f before after image stay = record {
  has = stay.here;
  images = Extends-weaker (λ g. g ≡ f) I before.ops after.ops (λ g is. subst I (sym is) image) stay.images;
}

-- files that are so are there at the end, and so is each image
pub record Ends (I P : Files → Type 0) (before after : StoreView) : Type 0 where
  pub leaves : LeavesFiles P after
  pub images : Extends I before.ops after.ops

known_ends : (I P : Files → Type 0) (known : Option (List Op)) (before after : StoreView) → before.ops ≡ known → Follows I known after P → Ends I P before after
known_ends I P known before after is so = record {
  leaves = subst (λ (now : Option (List Op)). IsSomeAnd now (λ ops. P (files_after ops))) (sym so.is) so.here;
  images = subst (λ (now : Option (List Op)). Extends I before.ops now) (sym so.is) (subst (λ (known : Option (List Op)). Extends I known (Some so.ops)) (sym is) so.images);
}

is_there : (f : Files) (I : Files → Type 0) (known : Option (List Op)) → I f → IsSomeAnd known (λ ops. files_after ops ≡ f)
    → IsSomeAnd known (λ ops. I (files_after ops) × (files_after ops ≡ f))
is_there f I None image has = has
is_there f I (Some ops) image has = (subst I (sym has) image, has)

begins : (f : Files) (I : Files → Type 0) (before : StoreView) → I f → HasFiles f before → Follows I before.ops before (λ g. g ≡ f)
begins f I before image has = Follows-first I (λ g. g ≡ f) before before.ops refl (is_there f I before.ops image has)

-- ---- the create of the floor

module _ (a : Asking) (f : Files) (first : ℕ) (x : Found) (go : HasToGo a f first x.end) where
  abbrev call : Call
  call = announce_call x

  abbrev Image : Files → Type 0
  Image g = IsImageOf a f g

  image_at : (image : Files) → MayLeave call f image → Image image
  image_at image (inl same) = as_before (λ path. ap (λ (g : Files). map.get g path) same)
  image_at image (inr (absent, (found, is))) =
      announcing first x.end found go absent (subst (Puts f (floor_path x.end) (Some found)) (sym is) (Puts-insert f (floor_path x.end) found))

  before_image : Image f
  before_image = as_before (λ path. refl)

  pub floor_image : Image (announced f x.end)
  floor_image = image_at (announced f x.end) (MayLeave-after_effect call effects.Whole f)

  image_of : (g image : Files) → g ≡ f → MayLeave call g image → Image image
  image_of g image same left = image_at image (subst (λ (g : Files). MayLeave call g image) same left)

  -- it was created, or was there
  pub floor_made : (answer : Made) (own : List Event) (before after : StoreView) → IsRun (announces x answer ∷ own) before after → HasFiles f before
      → (middle : StoreView) × Leads Image (announced f x.end) before middle × IsRun own middle after
  floor_made answer own before after run has = by run.trace
    where
      by : Traces (announces x answer ∷ own) before after → (middle : StoreView) × Leads Image (announced f x.end) before middle × IsRun own middle after
      by (middle, (steps, may), early, trace) =
          let sides = alone_parts before middle after early (Traces-later own middle after trace) run.alone in
          let so = Follows-steps Image (λ g. g ≡ f) (λ g. g ≡ announced f x.end) before.ops (whole call)
          (λ ops. Answers call (answers.Made answer) (files_after ops)) before middle (begins f Image before before_image has) steps sides.0
          (λ ops here told. (ap (λ (g : Files). carried call g) here, λ image left. image_of (files_after ops) image here left)) in
          let ends = known_ends Image (λ g. g ≡ announced f x.end) before.ops before middle refl so in
          (middle, record { has = ends.leaves; images = ends.images }, record { trace = trace; alone = sides.1 })

  -- or the store failed in it
  pub floor_failed : (before after : StoreView) → IsRun (faulted call ∷ []) before after → HasFiles f before → Ends Image Image before after
  floor_failed before after run has = by run.trace
    where
      by : Traces (faulted call ∷ []) before after → Ends Image Image before after
      by (middle, ((effect, steps), rose), early, (still, last)) =
          let sides = alone_parts before middle after early last run.alone in
          let so = Follows-steps Image (λ g. g ≡ f) Image before.ops (own_op call effect)
          (λ ops. MayHave call effect (files_after ops)) before middle (begins f Image before before_image has) steps sides.0
          (λ ops here may. (
            image_of (files_after ops) (after_effect call effect (files_after ops)) here (MayLeave-after_effect call effect (files_after ops)),
            λ image left. image_of (files_after ops) image here left,
          )) in
          known_ends Image Image before.ops before after refl (Follows-meanwhile Image Image before.ops middle after so still sides.1)

-- ---- the folder with it

abbrev pub KindsKept : Type 0
KindsKept = (me : Actor) (f after : Files) (h later : History) → Folder f h → Change me f h after later → Folder after later

floor_change : (me : Actor) (f : Files) (s : TableSchema) (entries : List Entry) (end : ℕ) (at : Option (List ℕ)) → HavePlainNames s → end ≤ count_of (table s entries)
    → map.get f (floor_path end) ≡ at
    → Change me f (table s entries) (if is_none at then map.insert f (floor_path end) [] else f) (table s entries)
floor_change me f s entries end None plain within absent =
    beside s entries plain (floor end [] within absent (Puts-insert f (floor_path end) []))
floor_change me f s entries end (Some found) plain within is = nothing (λ path. refl)

pub floor_folder_kept : KindsKept → (s : TableSchema) (f : Files) (h : History) (end : ℕ) → HavePlainNames s → IsTableOf s h → end ≤ count_of h → Folder f h
    → Folder (announced f end) h
floor_folder_kept kept s f no_table end plain of within folder = absurd of
floor_folder_kept kept s f (table t entries) end plain of within folder =
    let me : Actor = record { session = []; number = 0 } in
    kept me f (announced f end) (table t entries) (table t entries) folder
    (floor_change me f t entries end (map.get f (floor_path end)) (subst HavePlainNames (sym of) plain) within refl)

-- ---- the floors that were listed

pub floors_below : (f : Files) (names : List (List ℕ)) (end : ℕ) (floors : List ℕ) → HaveFiles f → end ≤ greatest → IsListing floor_folder names f
    → AreFloorsBelow names end floors → (n : ℕ) → Contains floors n ↔ ((n < end) × IsSome (map.get f (floor_path n)))
floors_below f names end floors files within listing are n = (to, from)
  where
    there : n ≤ greatest → Contains names (floor_name n) → IsSome (map.get f (floor_path n))
    there low among =
        let (path, some, leads) = (listing.exact (floor_name n)).0 among in
        subst (λ (path : List ℕ). IsSome (map.get f path)) (files.floors n path low some leads) some

    to : Contains floors n → (n < end) × IsSome (map.get f (floor_path n))
    to among =
        let is : IsListedFloor names n × (n < end) = (are.exact n).0 among in
        (is.1, there is.0.0 is.0.1)

    from : (n < end) × IsSome (map.get f (floor_path n)) → Contains floors n
    from (below, some) =
        let low : n ≤ greatest = omega (arith, below, within) in
        (are.exact n).1 ((low, floor-listed f names n listing low some), below)
