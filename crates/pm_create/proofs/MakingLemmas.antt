-- What all calls of a creator are, and what they do where nobody else acts.
use Rattle.std.proofs.Common.{◌≡◌, ◌≢◌, ◌⊎◌, inl, inr, ℕ, List, [], ◌∷◌, if◌then◌else◌, is_none, Option, None, Some, IsSome, IsSomeAnd, Result, Ok, Err, IfOk, IfErr, refl, sym, ◌∙◌, subst, arith}
use Rattle.std.specs.FinMap as map
use Rattle.pm_base.specs.Faults.{Rose}
use Rattle.pm_values.specs.declared.refusal.Refusal.{Refusal}
use Rattle.pm_values.specs.declared.refusal.Refusal.TheVariants as refusals
use Rattle.pm_store.specs.declared.answer.Answer.TheVariants as answers
use Rattle.pm_store.specs.declared.answer.Made.TheVariants as made
use Rattle.pm_store.specs.declared.answer.Swapped.TheVariants as swaps
use Rattle.pm_store.specs.declared.call.Call.{Call}
use Rattle.pm_store.specs.declared.call.Op.{Op}
use Rattle.pm_store.specs.declared.call.Effect.{Effect}
use Rattle.pm_store.specs.declared.call.Effect.TheVariants as effects
use Rattle.pm_store.specs.Answers.{made_at, Answers, MayHave}
use Rattle.pm_store.specs.Files.{Files, Puts, after_op, carried, files_after, after_effect}
use Rattle.pm_store.specs.Images.{Extends, MayLeave}
use Rattle.pm_store.specs.Store.{StoreView, IsAlone, IsLater, Steps, at_first_own, own_op, whole}
use Rattle.pm_store.proofs.ChangeLaws.{Answers-Changed, Puts-insert}
use Rattle.pm_store.proofs.FileLaws.{MayLeave-after_effect}
use Rattle.pm_store.proofs.StepLaws.{IsLater-trans, alone_parts}
use Rattle.pm_machine.specs.Moves.{Changes}
use Rattle.pm_machine.specs.Trace.{Event, HasTrace, Traces}
use Rattle.pm_machine.proofs.Facts.{image_changed, HasTrace-acts, Traces-none}
use Rattle.pm_model_history.specs.History.{History, no_table, table}
use Rattle.pm_model_folder.specs.Changes.{nothing}
use Rattle.pm_model_folder.specs.Folder.{Folder}
use Rattle.pm_model_folder.specs.Meaning.{HasSnapshotAt}
use Rattle.pm_model_folder.specs.Paths.{schema_path}
use Rattle.pm_model_folder.proofs.Facts.{some-none}
use Rattle.pm_schema.specs.declared.schema.TableSchema.{TableSchema}
use Rattle.pm_create.specs.Creator.{NewTable, IsNewTable, IsOf, own_origin, schema_call, calls_left, Reaches}
use Rattle.pm_create.specs.Meaning.{Begins}
use Rattle.pm_create.specs.Trace.{made_origin, met_origin, made_table, met_table, failed_origin, failed_table, Did, Shows, CreatorActed}
use Rattle.pm_create.specs.declared.creator.CreateStep.{CreateStep}
use Rattle.pm_create.specs.declared.creator.CreateStep.TheVariants as steps
use Rattle.pm_create.specs.declared.phase.Phase.{Phase}
use Rattle.pm_create.specs.declared.phase.Phase.TheVariants as phases
use Rattle.pm_create.specs.Making.{DidMake, IsFreeOrigin, first_call, LeavesFiles, StandsForEither, LeavesHistory, IsThere, IsAbsent, IsCaused, IsMadeOrMemory, MakesTable, MakesTables, MayStart}
use Rattle.pm_create.proofs.Facts.{Kept, MakesOf, makes-own, makes-table, origin_changes, table_changes, untold, made_absent, origin_stands}
use Rattle.pm_machine.proofs.AloneLaws.{Traces-first, Follows, Follows-first, Follows-meanwhile, Follows-steps, Extends-end}

-- ---- single calls

-- what a creator may change leaves the history, or its own table where that was none
either_by : (t : NewTable) (f image : Files) (h later : History) → Folder image later → Begins t.schema h later → StandsForEither t.schema h image
either_by t f image h later folder (inl same) = inl (subst (Folder image) same folder)
either_by t f image h later folder (inr (none, is)) = inr (none, subst (Folder image) is folder)

either_images : Kept → (t : NewTable) (call : Call) (f : Files) (h : History) → Folder f h → Changes (MakesOf t) call f h
    → (image : Files) → MayLeave call f image → StandsForEither t.schema h image
either_images kept t call f h folder changes image left =
    let led = image_changed (MakesOf t) call f h changes image left in
    either_by t f image h led.0 (kept t.me f image h led.0 folder led.1.kind) led.1.begins

-- its origin was made
origin_made : Kept → (t : NewTable) (f : Files) (h : History) → IsNewTable t → Folder f h → IsFreeOrigin (own_origin t.me) f h → Answers (first_call t) (answers.Made made.Created) f
    → Folder (carried (first_call t) f) h × HasSnapshotAt (carried (first_call t) f) t.schema 0
origin_made kept t f h is folder free told =
    let path : List ℕ = own_origin t.me in
    let after : Files = carried (first_call t) f in
    let puts : Puts f path (Some []) after = Answers-Changed (first_call t) (answers.Made made.Created) f told in
    let makes : MakesOf t f h after h = makes-own t path [] f after h refl free (made_absent (map.get f path) told) puts in
    (kept t.me f after h h folder makes.kind, origin_stands t path after is refl puts.here)

-- a call that was answered so changed nothing
origin_met : Kept → (t : NewTable) (f : Files) (h : History) → Folder f h → Answers (first_call t) (answers.Made made.Exists) f
    → Folder (carried (first_call t) f) h
origin_met kept t f h folder told =
    kept t.me f (carried (first_call t) f) h h folder (nothing (Answers-Changed (first_call t) (answers.Made made.Exists) f told))

-- and whatever of it was carried out left the history
origin_part : Kept → (t : NewTable) (content : List ℕ) (f : Files) (h : History) (at : Option (List ℕ)) → map.get f (own_origin t.me) ≡ at → Folder f h
    → IsFreeOrigin (own_origin t.me) f h → Folder (if is_none at then map.insert f (own_origin t.me) content else f) h
origin_part kept t content f h None absent folder free =
    let path : List ℕ = own_origin t.me in
    let after : Files = map.insert f path content in
    let makes : MakesOf t f h after h = makes-own t path content f after h refl free absent (Puts-insert f path content) in
    kept t.me f after h h folder makes.kind
origin_part kept t content f h (Some found) is folder free = folder

origin_failed_in : Kept → (t : NewTable) (effect : Effect) (f : Files) (h : History) → Folder f h → IsFreeOrigin (own_origin t.me) f h
    → Folder (after_effect (first_call t) effect f) h
origin_failed_in kept t effects.None f h folder free = folder
origin_failed_in kept t (effects.Part None) f h folder free = folder
origin_failed_in kept t (effects.Part (Some found)) f h folder free = origin_part kept t found f h (map.get f (own_origin t.me)) refl folder free
origin_failed_in kept t effects.Whole f h folder free = origin_part kept t [] f h (map.get f (own_origin t.me)) refl folder free

present_met : (at : Option (List ℕ)) → made.Exists ≡ made_at at → IsSome at
present_met None told = absurd (let no : made.Exists ≡ made.Created = told in cc)
present_met (Some found) told = refl

-- its table was made
table_made : Kept → (t : NewTable) (f : Files) (h : History) → IsNewTable t → Folder f h → HasSnapshotAt f t.schema 0
    → Answers (schema_call t.bytes) (answers.Swapped swaps.Swapped) f
    → (h ≡ no_table) × Folder (carried (schema_call t.bytes) f) (table t.schema [])
table_made kept t f h is folder there told =
    let call : Call = schema_call t.bytes in
    let none : h ≡ no_table = untold f h folder told in
    let puts : Puts f (schema_path 0) (Some t.bytes) (carried call f) = Answers-Changed call (answers.Swapped swaps.Swapped) f told in
    let makes : MakesOf t f no_table (carried call f) (table t.schema []) = makes-table t f (carried call f) is there puts in
    (none, kept t.me f (carried call f) no_table (table t.schema []) (subst (Folder f) none folder) makes.kind)

-- there is a table already
table_met : Kept → (t : NewTable) (found : Option (List ℕ)) (f : Files) (h : History) → Folder f h
    → Answers (schema_call t.bytes) (answers.Swapped (swaps.Differs found)) f → (h ≢ no_table) × Folder (carried (schema_call t.bytes) f) h
table_met kept t found f h folder told =
    let call : Call = schema_call t.bytes in
    let is_there : map.get f (schema_path 0) ≢ None = λ absent. told.1 (sym told.0 ∙ absent) in (
      λ none. is_there (absent_schema f (subst (Folder f) none folder)),
      kept t.me f (carried call f) h h folder (nothing (Answers-Changed call (answers.Swapped (swaps.Differs found)) f told)),
    )
  where
    absent_schema : (f : Files) → Folder f no_table → map.get f (schema_path 0) ≡ None
    absent_schema f folder = folder.schemas 0 (omega arith)

-- ---- calls in a row, where nobody else acts

-- a path isn't there and absent at once
there_absent : (path : List ℕ) (store : StoreView) (known : Option (List Op)) → store.ops ≡ known → IsThere path store → IsAbsent path store → ⊥
there_absent path store None is there absent = rw is at there
there_absent path store (Some ops) is there absent =
    let here : IsSome (map.get (files_after ops) path) = rw is at there in
    some-none (map.get (files_after ops) path) here (rw is at absent)

-- what has causes is done where there are none
done_by : (t : NewTable) (h : History) (first after : StoreView) (result : Result (Unit {0}) Refusal) → IsCaused t h first after result
    → h ≡ no_table → IsAbsent (own_origin t.me) first → (Rose first.faults after.faults → ⊥) → IsMadeOrMemory result
done_by t h first after (Ok x) caused none absent no_fault = tt
done_by t h first after (Err refusals.Memory) caused none absent no_fault = tt
done_by t h first after (Err (refusals.SessionUsed path)) (is, there) none absent no_fault =
    there_absent (own_origin t.me) first first.ops refl (subst (λ path. IsThere path first) is there) absent
done_by t h first after (Err refusals.TableExists) caused none absent no_fault = caused none
done_by t h first after (Err (refusals.StoreFault path)) caused none absent no_fault = no_fault caused
done_by t h first after (Err refusal) caused none absent no_fault = absurd caused

module _ (kept : Kept) (t : NewTable) (creator : IsNewTable t) (h : History) (first after : StoreView) (alone : IsAlone first after)
    (stands : LeavesFiles (MayStart t.me h) first) where
  abbrev s : TableSchema
  s = t.schema

  -- the history, and where a file is at the origin's path it was there at first
  abbrev AtFirst : Files → Type 0
  AtFirst f = MayStart t.me h f × (IsSome (map.get f (own_origin t.me)) → IsThere (own_origin t.me) first)

  abbrev HasOrigin : Files → Type 0
  HasOrigin f = Folder f h × HasSnapshotAt f t.schema 0

  at_first : (known : Option (List Op)) → first.ops ≡ known → IsSomeAnd known (λ ops. MayStart t.me h (files_after ops))
      → IsSomeAnd known (λ ops. StandsForEither s h (files_after ops) × AtFirst (files_after ops))
  at_first None is here = here
  at_first (Some ops) is here = (
    inl here.0,
    (
      here,
      λ there.
          subst (λ (known : Option (List Op)). IsSomeAnd known (λ ops. IsSome (map.get (files_after ops) (own_origin t.me)))) (sym is) there,
    ),
  )

  started : Follows (StandsForEither s h) first.ops first AtFirst
  started = Follows-first (StandsForEither s h) AtFirst first first.ops refl (at_first first.ops refl stands)

  origin_images : (f : Files) → MayStart t.me h f → (image : Files) → MayLeave (first_call t) f image → StandsForEither s h image
  origin_images f start = either_images kept t (first_call t) f h start.0 (origin_changes t (own_origin t.me) f h refl start.1)

  table_images : (f : Files) → HasOrigin f → (image : Files) → MayLeave (schema_call t.bytes) f image → StandsForEither s h image
  table_images f both = either_images kept t (schema_call t.bytes) f h both.0 (table_changes t f h both.0 creator both.1)

  -- the end of the calls
  ended_as : (result : Result (Unit {0}) Refusal) (P : Files → Type 0) → (so : Follows (StandsForEither s h) first.ops after P)
      → ((f : Files) → P f → LeavesHistory s h result f) → IfOk result (λ x. Extends (λ f. Folder f (table s [])) after.ops after.ops)
      → IsCaused t h first after result → MakesTable t h first after result
  ended_as result P so leaves settles caused = record {
    leaves = subst (λ (known : Option (List Op)). IsSomeAnd known (λ ops. LeavesHistory s h result (files_after ops))) (sym so.is)
        (leaves (files_after so.ops) so.here);
    images = subst (λ (known : Option (List Op)). Extends (StandsForEither s h) first.ops known) (sym so.is) so.images;
    settles = settles;
    cause = caused;
    complete = done_by t h first after result caused;
  }

  after_origin : (middle : StoreView) → Steps (whole (first_call t)) (λ ops. Answers (first_call t) (answers.Made made.Created) (files_after ops)) first middle
      → IsAlone first middle → Follows (StandsForEither s h) first.ops middle HasOrigin
  after_origin middle steps alone = Follows-steps (StandsForEither s h) AtFirst HasOrigin first.ops (whole (first_call t)) _ first middle started steps alone
      (λ ops here told. (origin_made kept t (files_after ops) h creator here.0.0 here.0.1 told, origin_images (files_after ops) here.0))

  served : Traces (made_origin t ∷ made_table t ∷ []) first after → MakesTable t h first after (Ok tt)
  served (middle, (steps, may), early, (next, (swap, may_swap), late, (still, last))) =
      let rest = IsLater-trans middle next after late last in
      let one = alone_parts first middle after early rest alone in
      let two = alone_parts middle next after late last one.1 in
      let Made : Files → Type 0 = λ f. (h ≡ no_table) × Folder f (table s []) in
      let origin = after_origin middle steps one.0 in
      let swapped = Follows-steps (StandsForEither s h) HasOrigin Made first.ops (whole (schema_call t.bytes)) _ middle next origin swap two.0
      (λ ops here told. (table_made kept t (files_after ops) h creator here.0 here.1 told, table_images (files_after ops) here)) in
      let so = Follows-meanwhile (StandsForEither s h) Made first.ops next after swapped still two.1 in
      ended_as (Ok tt) Made so (λ f here. here) (Extends-end (λ f. Folder f (table s [])) after.ops so.ops so.is so.here.1) tt

  failed_left : (f : Files) → StandsForEither s h f → Folder f h ⊎ ((schema_path 0 ≡ schema_path 0) × (h ≡ no_table) × Folder f (table s []))
  failed_left f (inl folder) = inl folder
  failed_left f (inr (none, folder)) = inr (refl, none, folder)

  -- memory ran out before the first call, and before the second
  before_all : Traces [] first after → MakesTable t h first after (Err refusals.Memory)
  before_all (still, last) =
      let so = Follows-meanwhile (StandsForEither s h) AtFirst first.ops first after started still alone in
      ended_as (Err refusals.Memory) AtFirst so (λ f here. here.0.0) tt tt

  before_swap : Traces (made_origin t ∷ []) first after → MakesTable t h first after (Err refusals.Memory)
  before_swap (middle, (steps, may), early, (still, last)) =
      let one = alone_parts first middle after early last alone in
      let origin = after_origin middle steps one.0 in
      let so = Follows-meanwhile (StandsForEither s h) HasOrigin first.ops middle after origin still one.1 in
      ended_as (Err refusals.Memory) HasOrigin so (λ f here. here.0) tt tt

  -- the name of the origin had been used
  session_used : Traces (met_origin t ∷ []) first after → MakesTable t h first after (Err (refusals.SessionUsed (own_origin t.me)))
  session_used (middle, (steps, may), early, (still, last)) =
      let one = alone_parts first middle after early last alone in
      let Met : Files → Type 0 = λ f. Folder f h × IsThere (own_origin t.me) first in
      let met = Follows-steps (StandsForEither s h) AtFirst Met first.ops (whole (first_call t)) (λ ops. Answers (first_call t) (answers.Made made.Exists) (files_after ops)) first middle started steps one.0
      (λ ops here told. (
        (origin_met kept t (files_after ops) h here.0.0 told, here.1 (present_met (map.get (files_after ops) (own_origin t.me)) told)),
        origin_images (files_after ops) here.0,
      )) in
      let so = Follows-meanwhile (StandsForEither s h) Met first.ops middle after met still one.1 in
      ended_as (Err (refusals.SessionUsed (own_origin t.me))) Met so (λ f here. here.0) tt (refl, so.here.1)

  -- the store failed at the origin
  origin_failed : Traces (failed_origin t ∷ []) first after → MakesTable t h first after (Err (refusals.StoreFault (own_origin t.me)))
  origin_failed (middle, ((effect, steps), rose), early, (still, last)) =
      let one = alone_parts first middle after early last alone in
      let op : Op = own_op (first_call t) effect in
      let Kept : Files → Type 0 = λ f. Folder f h in
      let failed = Follows-steps (StandsForEither s h) AtFirst Kept first.ops op (λ ops. MayHave (first_call t) effect (files_after ops)) first middle started steps one.0
      (λ ops here may. (origin_failed_in kept t effect (files_after ops) h here.0.0 here.0.1, origin_images (files_after ops) here.0)) in
      let so = Follows-meanwhile (StandsForEither s h) Kept first.ops middle after failed still one.1 in
      ended_as (Err (refusals.StoreFault (own_origin t.me))) Kept so (λ f here. inl here) tt (omega (arith, rose, last.faults))

  -- there is a table already
  table_exists : (found : Option (List ℕ)) → Traces (made_origin t ∷ met_table t found ∷ []) first after → MakesTable t h first after (Err refusals.TableExists)
  table_exists found (middle, (steps, may), early, (next, (swap, may_swap), late, (still, last))) =
      let rest = IsLater-trans middle next after late last in
      let one = alone_parts first middle after early rest alone in
      let two = alone_parts middle next after late last one.1 in
      let Met : Files → Type 0 = λ f. (h ≢ no_table) × Folder f h in
      let origin = after_origin middle steps one.0 in
      let met = Follows-steps (StandsForEither s h) HasOrigin Met first.ops (whole (schema_call t.bytes)) _ middle next origin swap two.0
      (λ ops here told. (table_met kept t found (files_after ops) h here.0 told, table_images (files_after ops) here)) in
      let so = Follows-meanwhile (StandsForEither s h) Met first.ops next after met still two.1 in
      ended_as (Err refusals.TableExists) Met so (λ f here. here.1) tt so.here.0

  -- the store failed at the schema
  table_failed : Traces (made_origin t ∷ failed_table t ∷ []) first after → MakesTable t h first after (Err (refusals.StoreFault (schema_path 0)))
  table_failed (middle, (steps, may), early, (next, ((effect, swap), rose), late, (still, last))) =
      let rest = IsLater-trans middle next after late last in
      let one = alone_parts first middle after early rest alone in
      let two = alone_parts middle next after late last one.1 in
      let op : Op = own_op (schema_call t.bytes) effect in
      let origin = after_origin middle steps one.0 in
      let failed = Follows-steps (StandsForEither s h) HasOrigin (StandsForEither s h) first.ops op (λ ops. MayHave (schema_call t.bytes) effect (files_after ops)) middle next origin swap two.0
      (λ ops here may. (
        table_images (files_after ops) here (after_op op (files_after ops)) (MayLeave-after_effect (schema_call t.bytes) effect (files_after ops)),
        table_images (files_after ops) here,
      )) in
      let so = Follows-meanwhile (StandsForEither s h) (StandsForEither s h) first.ops next after failed still two.1 in
      ended_as (Err (refusals.StoreFault (schema_path 0))) (StandsForEither s h) so (λ f here. failed_left f here) tt
      (omega (arith, rose, early.faults, last.faults))

  at_events : (own events : List Event) (refusal : Refusal) → own ≡ events → (Traces events first after → MakesTable t h first after (Err refusal))
      → Traces own first after → MakesTable t h first after (Err refusal)
  at_events own events refusal is makes trace = makes (subst (λ (own : List Event). Traces own first after) is trace)

  at_path : (path is_path : List ℕ) → path ≡ is_path → MakesTable t h first after (Err (refusals.StoreFault is_path))
      → MakesTable t h first after (Err (refusals.StoreFault path))
  at_path path is_path is makes = subst (λ (path : List ℕ). MakesTable t h first after (Err (refusals.StoreFault path))) (sym is) makes

  refused : (refusal : Refusal) (own : List Event) → Shows t refusal own → Traces own first after → MakesTable t h first after (Err refusal)
  refused refusals.Memory own (inl is) trace = at_events own [] refusals.Memory is before_all trace
  refused refusals.Memory own (inr is) trace = at_events own (made_origin t ∷ []) refusals.Memory is before_swap trace
  refused (refusals.SessionUsed path) own (at, is) trace =
      subst (λ (path : List ℕ). MakesTable t h first after (Err (refusals.SessionUsed path))) (sym at)
      (at_events own (met_origin t ∷ []) (refusals.SessionUsed (own_origin t.me)) is session_used trace)
  refused refusals.TableExists own (found, is) trace =
      at_events own (made_origin t ∷ met_table t found ∷ []) refusals.TableExists is (table_exists found) trace
  refused (refusals.StoreFault path) own (inl (at, is)) trace = at_path path (own_origin t.me) at
      (at_events own (failed_origin t ∷ []) (refusals.StoreFault (own_origin t.me)) is origin_failed trace)
  refused (refusals.StoreFault path) own (inr (at, is)) trace = at_path path (schema_path 0) at
      (at_events own (made_origin t ∷ failed_table t ∷ []) (refusals.StoreFault (schema_path 0)) is table_failed trace)
  refused refusal own shows trace = absurd shows

-- ---- all calls

pub made_history : Kept → (t : NewTable) → IsNewTable t → (result : Result (Unit {0}) Refusal) (before after : StoreView)
    → HasTrace (DidMake t result) before after → MakesTables t before after result
made_history kept t is (Ok x) before after (own, did, trace) = λ alone h stands.
    let events = made_origin t ∷ made_table t ∷ [] in
    served kept t is h (at_first_own before after) after alone stands
    (Traces-first events before after (subst (λ (own : List Event). Traces own before after) did trace))
made_history kept t is (Err refusal) before after (own, shows, trace) = λ alone h stands.
    refused kept t is h (at_first_own before after) after alone stands refusal own shows (Traces-first own before after trace)

-- ---- which calls were made

did_none : (t : NewTable) (m : Phase) → IsOf t m → calls_left m ≡ 2 → Did t m []
did_none t (phases.Origin path bytes) its left = (its, refl)
did_none t (phases.Schema bytes) its left = absurd (let clash : 1 ≡ 2 = left in omega (arith, clash))
did_none t phases.Created its left = absurd (let clash : 0 ≡ 2 = left in omega (arith, clash))
did_none t phases.Over its left = absurd (let clash : 0 ≡ 2 = left in omega (arith, clash))

-- the first step of a creator that has made no call yet
first_step : (t : NewTable) (m new : Phase) (before after : StoreView) (result : Result CreateStep Refusal) → IsOf t m → calls_left m ≡ 2
    → CreatorActed m new before after result → IsLater before after
    → HasTrace (λ own. Did t new own × IfErr result (λ refusal. Shows t refusal own)) before after
first_step t m new before after result its left acted later =
    HasTrace-acts {did = Did t m} {before = before} ([], did_none t m its left, Traces-none before) (acted t) later

pub refused_first : (t : NewTable) (m new : Phase) (before after : StoreView) (refusal : Refusal) → IsOf t m → calls_left m ≡ 2
    → CreatorActed m new before after (Err refusal) → IsLater before after → HasTrace (DidMake t (Err refusal)) before after
refused_first t m new before after refusal its left acted later =
    let step = first_step t m new before after (Err refusal) its left acted later in
    (step.0, step.1.1, step.2)

-- and the second one
second_step : (t : NewTable) (m middle new : Phase) (first before after : StoreView) (one : CreateStep) (result : Result CreateStep Refusal) → IsOf t m
    → calls_left m ≡ 2 → CreatorActed m middle first before (Ok one) → IsLater first before → CreatorActed middle new before after result
    → IsLater before after → HasTrace (λ own. Did t new own × IfErr result (λ refusal. Shows t refusal own)) first after
second_step t m middle new first before after one result its left acted early acts later =
    let step = first_step t m middle first before (Ok one) its left acted early in
    HasTrace-acts {did = Did t middle} (step.0, step.1.0, step.2) (acts t) later

pub refused_then : (t : NewTable) (m middle new : Phase) (first before after : StoreView) (one : CreateStep) (refusal : Refusal) → IsOf t m
    → calls_left m ≡ 2 → CreatorActed m middle first before (Ok one) → IsLater first before → CreatorActed middle new before after (Err refusal)
    → IsLater before after → HasTrace (DidMake t (Err refusal)) first after
refused_then t m middle new first before after one refusal its left acted early acts later =
    let step = second_step t m middle new first before after one (Err refusal) its left acted early acts later in
    (step.0, step.1.1, step.2)

did_all : (t : NewTable) (step : CreateStep) (m : Phase) (own : List Event) → Reaches step m → calls_left m ≡ 0 → Did t m own
    → own ≡ made_origin t ∷ made_table t ∷ []
did_all t step (phases.Origin path bytes) own reaches left did = absurd (let clash : 2 ≡ 0 = left in omega (arith, clash))
did_all t step (phases.Schema bytes) own reaches left did = absurd (let clash : 1 ≡ 0 = left in omega (arith, clash))
did_all t step phases.Created own reaches left did = did
did_all t steps.More phases.Over own (bytes, is) left did = absurd (let clash = is in cc)
did_all t steps.Created phases.Over own is left did = absurd (let clash = is in cc)

pub made_calls : (t : NewTable) (m middle new : Phase) (first before after : StoreView) (one two : CreateStep) → IsOf t m
    → calls_left m ≡ 2 → CreatorActed m middle first before (Ok one) → IsLater first before → CreatorActed middle new before after (Ok two)
    → Reaches two new → calls_left new ≡ 0 → IsLater before after → HasTrace (DidMake t (Ok tt)) first after
made_calls t m middle new first before after one two its left acted early acts reaches over later =
    let step = second_step t m middle new first before after one (Ok two) its left acted early acts later in
    (step.0, did_all t two new step.0 reaches over step.1.0, step.2)
