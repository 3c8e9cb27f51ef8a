-- A `create` that finds a table: its calls make a file of its own at most, and no snapshot names another's file then.
use Rattle.std.proofs.Common.{◌≡◌, ◌≢◌, ◌≤◌, ◌⊎◌, inl, inr, ℕ, suc, List, [], ◌∷◌, length, take, get_or, if◌then◌else◌, Bool, true, false, true≢false, Option, None, Some, IsSome, IsSomeAnd, Result, Ok, Err, refl, sym, subst, ap, ◌∙◌, arith}
use Rattle.std.specs.FinMap as map
use Rattle.std.specs.List.{AllByRecursion}
use Rattle.std.specs.Str.{bytes_eq}
use Rattle.std.proofs.lemmas.Slice.Eq.{bytes_eq-Decides}
use Rattle.pm_values.specs.declared.refusal.Refusal.{Refusal}
use Rattle.pm_values.specs.declared.refusal.Refusal.TheVariants as refusals
use Rattle.pm_store.specs.declared.answer.Answer.{Answer}
use Rattle.pm_store.specs.declared.call.Call.{Call}
use Rattle.pm_store.specs.declared.call.Op.{Op}
use Rattle.pm_store.specs.Answers.{Answers, MayHave}
use Rattle.pm_store.specs.Files.{Files, Puts, after_op, files_after, is_same}
use Rattle.pm_store.specs.Images.{Extends, MayLeave}
use Rattle.pm_store.specs.Store.{StoreView, IsAlone, at_first_own, own_op, whole}
use Rattle.pm_store.proofs.ChangeLaws.{Puts-insert}
use Rattle.pm_store.proofs.FileLaws.{MayLeave-after_effect}
use Rattle.pm_store.proofs.StepLaws.{IsLater-refl, Meanwhile-refl, alone_parts}
use Rattle.pm_machine.specs.Trace.{Ended, Event, Traces}
use Rattle.pm_machine.proofs.AloneLaws.{Follows, Follows-first, Follows-meanwhile, Follows-steps, Traces-first, Traces-later}
use Rattle.pm_model_history.specs.History.{Entry, History, IsTableOf, no_table, table}
use Rattle.pm_schema.specs.declared.schema.TableSchema.{TableSchema}
use Rattle.pm_snapshot.specs.Names.{snapshot_name}
use Rattle.pm_model_folder.specs.Changes.{Actor, Change, IsNoOrigin, its_origin, origin_name, own_file}
use Rattle.pm_model_folder.specs.Commits.{Names}
use Rattle.pm_model_folder.specs.Folder.{Folder, HasTable, KeepsConsumers}
use Rattle.pm_model_folder.specs.Paths.{consumer_path, schema_path, snapshot_file, snapshot_path}
use Rattle.pm_model_folder.proofs.BesideLemmas.{snapshot-same}
use Rattle.pm_model_folder.proofs.HoldLemmas.{ContentsStay, Holds, OneContents, names-were}
use Rattle.pm_model_folder.proofs.PathLemmas.{consumer-schema, consumer-snapshot, snapshot-schema}
use Rattle.pm_model_folder.proofs.SettledLemmas.{kept-consumers}
use Rattle.pm_create.specs.Creator.{NewTable, origin_call, own_origin, schema_call}
use Rattle.pm_create.specs.Making.{DidMake, IsFreeOrigin, LeavesFiles}
use Rattle.pm_create.specs.Trace.{failed_origin, failed_table, made_origin, made_table, met_origin, met_table, Shows}
use Rattle.pm_commit.specs.AllCalls.{NamesNone}
use Rattle.pm_command.specs.Outside.{Outside, actor}
use Rattle.pm_command_create.specs.Create.{ActsCreate, its_table}
use Rattle.pm_command.specs.declared.start.Start.{Start}
use Rattle.pm_cli.proofs.Snapshots.{from_there}

-- what the law of kinds of change says
abbrev pub FolderKept : Type 0
FolderKept = (me : Actor) (f after : Files) (h later : History) → Folder f h → Change me f h after later → Folder after later

-- a call of a creator
abbrev IsMaking : Actor → Call → Type 0
IsMaking me call = (call ≡ origin_call (own_origin me)) ⊎ ((bytes : List ℕ) × (call ≡ schema_call bytes))

abbrev AreMaking : Actor → List Event → Type 0
AreMaking me own = AllByRecursion (λ (event : Event). IsMaking me event.call) own

some_none : (o : Option (List ℕ)) (bytes : List ℕ) → o ≡ Some bytes → o ≡ None → ⊥
some_none o bytes is none = cc

is_some_none : (o : Option (List ℕ)) → IsSome o → o ≡ None → ⊥
is_some_none o is none = cc

-- the path of a snapshot is no origin's
apart : (me : Actor) (id : ℕ) → snapshot_path id ≢ own_origin me
apart me id same =
    let first : 115 ≡ 79 = ap (λ (l : List ℕ). get_or l 9 0) same in
    omega (arith, first)

module _ (kept : FolderKept) (stay : ContentsStay) (one : OneContents) (me other : Actor) (s : TableSchema) (es : List Entry) where
  abbrev h : History
  h = table s es

  -- no snapshot names a file of the other, and the creator's origin isn't one that went with an old snapshot
  abbrev pub IsKept : Files → Type 0
  IsKept f = Folder f h × NamesNone other h f × IsFreeOrigin (own_origin me) f h

  module _ (f after : Files) (found : List ℕ) (stands : HasTable f s es) (absent : map.get f (own_origin me) ≡ None)
      (puts : Puts f (own_origin me) (Some found) after) where
    holds : Holds f after
    holds path there = puts.others path (λ same. is_some_none (map.get f path) there (ap (map.get f) same ∙ absent))

    was_there : (id : ℕ) (bytes : List ℕ) → map.get after (snapshot_path id) ≡ Some bytes → IsSome (map.get f (snapshot_path id))
    was_there id bytes is =
        let same = puts.others (snapshot_path id) (apart me id) in
        subst (λ (o : Option (List ℕ)). IsSome o) (sym (sym same ∙ is)) refl

    named_before : (id : ℕ) (path : List ℕ) → 1 ≤ id → id ≤ length es → Names after s id path → Names f s id path
    named_before id path low high (x, c, (at, has), is) =
        let most = stands.snapshots.within in
        let from = from_there f s es stands id low (omega (arith, high, most)) (was_there id at.0 at.1) in
        names-were one stay f after holds s (take id es) id path (stands.commits.committed id from) (x, c, (at, has), is)

    pub names_kept : NamesNone other h f → NamesNone other h after
    names_kept none t id path is low high names by =
        none s id path refl low high (named_before id path low high (subst (λ (t : TableSchema). Names after t id path) (sym is) names)) by

  origin_left : (f image : Files) → IsKept f → MayLeave (origin_call (own_origin me)) f image → IsKept image
  origin_left f image (folder, none, free) (inl same) = subst (λ (g : Files). IsKept g) (sym same) (folder, none, free)
  origin_left f image (folder, none, free) (inr (absent, (found, is))) =
      let path : List ℕ = own_origin me in
      let after : Files = map.insert f path found in
      let puts : Puts f path (Some found) after = Puts-insert f path found in
      let change : Change me f h after h = own_file path found (its_origin refl) (free absent) absent puts in
      subst (λ (g : Files). IsKept g) (sym is) (
        kept me f after h h folder change,
        names_kept f after found folder absent puts none,
        λ gone. absurd (some_none (map.get after path) found puts.here gone),
      )

  schema_left : (bytes : List ℕ) (f image : Files) → IsKept f → MayLeave (schema_call bytes) f image → IsKept image
  schema_left bytes f image is (inl same) = subst (λ (g : Files). IsKept g) (sym same) is
  schema_left bytes f image is (inr same) =
      let first = is.0.schema.first in
      let still : (if is_same (map.get f (schema_path 0)) None then map.insert f (schema_path 0) bytes else f) ≡ f =
      ap (λ (o : Option (List ℕ)). if is_same o None then map.insert f (schema_path 0) bytes else f) first.1 in
      subst (λ (g : Files). IsKept g) (sym (same ∙ still)) is

  pub left : (call : Call) → IsMaking me call → (f image : Files) → IsKept f → MayLeave call f image → IsKept image
  left call (inl is) f image was may = origin_left f image was (subst (λ (call : Call). MayLeave call f image) is may)
  left call (inr (bytes, is)) f image was may = schema_left bytes f image was (subst (λ (call : Call). MayLeave call f image) is may)

-- ---- what each of its calls keeps

module _ (me : Actor) (IsKept : Files → Type 0) (left : (call : Call) → IsMaking me call → (f image : Files) → IsKept f → MayLeave call f image → IsKept image)
  where
    one_event : (known : Option (List Op)) (call : Call) (answer : Option Answer) (before middle : StoreView) → IsMaking me call
        → Ended call answer before middle → IsAlone before middle → Follows IsKept known before IsKept → Follows IsKept known middle IsKept
    one_event known call (Some answer) before middle is (steps, may) alone so =
        Follows-steps IsKept IsKept IsKept known (whole call) (λ ops. Answers call answer (files_after ops)) before middle so steps alone
        (λ ops here told. (
          left call is (files_after ops) (after_op (whole call) (files_after ops)) here (MayLeave-after_effect call (whole call).effect (files_after ops)),
          λ image may. left call is (files_after ops) image here may,
        ))
    one_event known call None before middle is ((effect, steps), rose) alone so =
        Follows-steps IsKept IsKept IsKept known (own_op call effect) (λ ops. MayHave call effect (files_after ops)) before middle so steps alone
        (λ ops here told. (
          left call is (files_after ops) (after_op (own_op call effect) (files_after ops)) here (MayLeave-after_effect call effect (files_after ops)),
          λ image may. left call is (files_after ops) image here may,
        ))

    all_events : (known : Option (List Op)) (own : List Event) (before after : StoreView) → AreMaking me own → Traces own before after
        → IsAlone before after → Follows IsKept known before IsKept → Follows IsKept known after IsKept
    all_events known [] before after are (meanwhile, later) alone so = Follows-meanwhile IsKept IsKept known before after so meanwhile alone
    all_events known (event ∷ own) before after are (middle, ended, early, rest) alone so =
        let parts = alone_parts before middle after early (Traces-later own middle after rest) alone in
        all_events known own middle after are.1 rest parts.1 (one_event known event.call event.answer before middle are.0 ended parts.0 so)

    twice : (known : Option (List Op)) → IsSomeAnd known (λ ops. IsKept (files_after ops))
        → IsSomeAnd known (λ ops. IsKept (files_after ops) × IsKept (files_after ops))
    twice None has = has
    twice (Some ops) has = (has, has)

    pub all_left : (own : List Event) (first after : StoreView) → AreMaking me own → Traces own first after → IsAlone first after
        → LeavesFiles IsKept first → LeavesFiles IsKept after × Extends IsKept first.ops after.ops
    all_left own first after are traces alone has =
        let so = all_events first.ops own first after are traces alone (Follows-first IsKept IsKept first first.ops refl (twice first.ops has)) in (
          subst (λ (known : Option (List Op)). IsSomeAnd known (λ ops. IsKept (files_after ops))) (sym so.is) so.here,
          subst (λ (known : Option (List Op)). Extends IsKept first.ops known) (sym so.is) so.images,
        )

pub all_kept : (kept : FolderKept) (stay : ContentsStay) (one : OneContents) (me other : Actor) (s : TableSchema) (es : List Entry) (own : List Event)
    (first after : StoreView) → AreMaking me own → Traces own first after → IsAlone first after → LeavesFiles (IsKept kept stay one me other s es) first
    → LeavesFiles (IsKept kept stay one me other s es) after × Extends (IsKept kept stay one me other s es) first.ops after.ops
all_kept kept stay one me other s es = all_left me (IsKept kept stay one me other s es) (left kept stay one me other s es)

-- ---- consumers

-- what was there is, and nothing else but the origin and the schema
pub record StandsBeside (me : Actor) (f g : Files) : Type 0 where
  pub held : Holds f g
  pub fresh : (path : List ℕ) → map.get f path ≡ None → path ≢ own_origin me → path ≢ schema_path 0 → map.get g path ≡ None

module _ (me : Actor) (f : Files) where
  one_more : (path found : List ℕ) (g after : Files) → (path ≡ own_origin me) ⊎ (path ≡ schema_path 0) → map.get g path ≡ None → Puts g path (Some found) after
      → StandsBeside me f g → StandsBeside me f after
  one_more path found g after own absent puts beside = record {
    held = λ other there.
        puts.others other (λ same. is_some_none (map.get f other) there (sym (beside.held other there) ∙ ap (map.get g) same ∙ absent)) ∙ beside.held other there;
    fresh = λ other none origin schema.
        puts.others other (λ same. elim own as (λ _. ⊥) [
          | inl is ↦ origin (same ∙ is)
          | inr is ↦ schema (same ∙ is)
        ]) ∙ beside.fresh other none origin schema;
  }

  schema_beside : (bytes : List ℕ) (g image : Files) → StandsBeside me f g
      → image ≡ (if is_same (map.get g (schema_path 0)) None then map.insert g (schema_path 0) bytes else g) → StandsBeside me f image
  schema_beside bytes g image beside is = at (map.get g (schema_path 0)) refl
    where
      at : (o : Option (List ℕ)) → map.get g (schema_path 0) ≡ o → StandsBeside me f image
      at None absent =
          let made : (if is_same (map.get g (schema_path 0)) None then map.insert g (schema_path 0) bytes else g) ≡ map.insert g (schema_path 0) bytes =
          ap (λ (o : Option (List ℕ)). if is_same o None then map.insert g (schema_path 0) bytes else g) absent in
          subst (λ (g : Files). StandsBeside me f g) (sym (is ∙ made))
          (one_more (schema_path 0) bytes g (map.insert g (schema_path 0) bytes) (inr refl) absent (Puts-insert g (schema_path 0) bytes) beside)
      at (Some found) there =
          let still : (if is_same (map.get g (schema_path 0)) None then map.insert g (schema_path 0) bytes else g) ≡ g =
          ap (λ (o : Option (List ℕ)). if is_same o None then map.insert g (schema_path 0) bytes else g) there in
          subst (λ (g : Files). StandsBeside me f g) (sym (is ∙ still)) beside

  pub left_beside : (call : Call) → IsMaking me call → (g image : Files) → StandsBeside me f g → MayLeave call g image → StandsBeside me f image
  left_beside call (inl is) g image beside may = by (subst (λ (call : Call). MayLeave call g image) is may)
    where
      by : MayLeave (origin_call (own_origin me)) g image → StandsBeside me f image
      by (inl same) = subst (λ (g : Files). StandsBeside me f g) (sym same) beside
      by (inr (absent, (found, is))) =
          subst (λ (g : Files). StandsBeside me f g) (sym is)
          (one_more (own_origin me) found g (map.insert g (own_origin me) found) (inl refl) absent (Puts-insert g (own_origin me) found) beside)
  left_beside call (inr (bytes, is)) g image beside may = by (subst (λ (call : Call). MayLeave call g image) is may)
    where
      by : MayLeave (schema_call bytes) g image → StandsBeside me f image
      by (inl same) = subst (λ (g : Files). StandsBeside me f g) (sym same) beside
      by (inr is) = schema_beside bytes g image beside is

  -- so consumers are kept, where the origin isn't one that went with an old snapshot
  module _ (g : Files) (beside : StandsBeside me f g) where
    stays : (path : List ℕ) → path ≢ own_origin me → path ≢ schema_path 0 → map.get g path ≡ map.get f path
    stays path origin schema = at (map.get f path) refl
      where
        at : (o : Option (List ℕ)) → map.get f path ≡ o → map.get g path ≡ map.get f path
        at None none = beside.fresh path none origin schema ∙ sym none
        at (Some bytes) there = beside.held path (subst (λ (o : Option (List ℕ)). IsSome o) (sym there) refl)

    origin_is : (h : History) (s : TableSchema) (name path : List ℕ) → IsTableOf s h → s.origin ≡ Some name → IsNoOrigin h path → snapshot_file name ≢ path
    origin_is no_table s name path is named none = absurd is
    origin_is (table t es) s name path is named none = none name (ap (λ (t : TableSchema). t.origin) is ∙ named)

    origin_stays : (h : History) (s : TableSchema) (name : List ℕ) → IsFreeOrigin (own_origin me) f h → IsTableOf s h → s.origin ≡ Some name
        → map.get g (snapshot_file name) ≡ map.get f (snapshot_file name)
    origin_stays h s name free is named = at (map.get f (snapshot_file name)) refl
      where
        at : (o : Option (List ℕ)) → map.get f (snapshot_file name) ≡ o → map.get g (snapshot_file name) ≡ map.get f (snapshot_file name)
        at (Some bytes) there = beside.held (snapshot_file name) (subst (λ (o : Option (List ℕ)). IsSome o) (sym there) refl)
        at None none =
            beside.fresh (snapshot_file name) none
            (λ same. origin_is h s name (own_origin me) is named (free (ap (map.get f) (sym same) ∙ none)) same) (snapshot-schema name 0) ∙ sym none

    -- and each file is as it was, or one of these appeared
    pub beside_changes : (path : List ℕ) → (map.get g path ≡ map.get f path)
        ⊎ ((map.get f path ≡ None) × ((path ≡ own_origin me) ⊎ (path ≡ schema_path 0)))
    beside_changes path = at (map.get f path) refl (bytes_eq path (own_origin me)) refl (bytes_eq path (schema_path 0)) refl
      where
        at : (o : Option (List ℕ)) → map.get f path ≡ o → (origin : Bool) → bytes_eq path (own_origin me) ≡ origin → (schema : Bool)
            → bytes_eq path (schema_path 0) ≡ schema
            → (map.get g path ≡ map.get f path) ⊎ ((map.get f path ≡ None) × ((path ≡ own_origin me) ⊎ (path ≡ schema_path 0)))
        at (Some bytes) there origin is schema so = inl (beside.held path (subst (λ (o : Option (List ℕ)). IsSome o) (sym there) refl))
        at None none true is schema so = inr (none, inl ((bytes_eq-Decides path (own_origin me)).0 is))
        at None none false is true so = inr (none, inr ((bytes_eq-Decides path (schema_path 0)).0 so))
        at None none false is false so =
            inl (stays path (λ same. true≢false (sym ((bytes_eq-Decides path (own_origin me)).1 same) ∙ is))
            (λ same. true≢false (sym ((bytes_eq-Decides path (schema_path 0)).1 same) ∙ so)))

    pub beside_keeps : (h : History) → IsFreeOrigin (own_origin me) f h → KeepsConsumers h f g
    beside_keeps h free =
        kept-consumers f g (λ name. stays (consumer_path name) (consumer-snapshot name (origin_name me)) (consumer-schema name 0)) h
        (λ s is id. snapshot-same f g s id (λ zero_is name named. origin_stays h s name free is named)
        (λ k at. stays (snapshot_path (suc k)) (apart me (suc k)) (snapshot-schema (snapshot_name (suc k)) 0)))

-- ---- the calls of `create`

of_calls : (t : NewTable) (own events : List Event) → own ≡ events → AreMaking t.me events → AreMaking t.me own
of_calls t own events is are = subst (λ (own : List Event). AreMaking t.me own) (sym is) are

shown_calls : (t : NewTable) (refusal : Refusal) (own : List Event) → Shows t refusal own → AreMaking t.me own
shown_calls t refusals.Memory own (inl is) = of_calls t own [] is tt
shown_calls t refusals.Memory own (inr is) = of_calls t own (made_origin t ∷ []) is (inl refl, tt)
shown_calls t (refusals.SessionUsed path) own (at, is) = of_calls t own (met_origin t ∷ []) is (inl refl, tt)
shown_calls t refusals.TableExists own (found, is) =
    of_calls t own (made_origin t ∷ met_table t found ∷ []) is (inl refl, (inr (t.bytes, refl), tt))
shown_calls t (refusals.StoreFault path) own (inl (at, is)) = of_calls t own (failed_origin t ∷ []) is (inl refl, tt)
shown_calls t (refusals.StoreFault path) own (inr (at, is)) =
    of_calls t own (made_origin t ∷ failed_table t ∷ []) is (inl refl, (inr (t.bytes, refl), tt))
shown_calls t refusal own shows = absurd shows

did_calls : (t : NewTable) (result : Result (Unit {0}) Refusal) (own : List Event) → DidMake t result own → AreMaking t.me own
did_calls t (Ok x) own did = of_calls t own (made_origin t ∷ made_table t ∷ []) did (inl refl, (inr (t.bytes, refl), tt))
did_calls t (Err refusal) own shows = shown_calls t refusal own shows

-- they are a creator's, each at its place
pub create_calls : (start : Start) (before after : Outside) (answer : Option Refusal) → ActsCreate start before after answer
    → (own : List Event) × AreMaking (actor start) own × Traces own (at_first_own before.store after.store) after.store
create_calls start before after answer (inl (e, is, refuses, rest)) =
    let none : Traces [] before.store before.store = (Meanwhile-refl before.store, IsLater-refl before.store) in (
      [],
      tt,
      Traces-first [] before.store after.store (subst (λ (store : StoreView). Traces [] before.store store) (sym rest.store) none),
    )
create_calls start before after answer (inr (s, is, (made, (own, did, traces), prints))) =
    (own, did_calls (its_table start s) made own did, Traces-first own before.store after.store traces)
