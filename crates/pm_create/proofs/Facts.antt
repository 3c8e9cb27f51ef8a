-- A creator keeps the laws of machines.
use Rattle.std.proofs.Common.{◌≡◌, ◌≢◌, inl, inr, ℕ, ◌<◌, List, [], ◌∷◌, ◌++◌, codes, if◌then◌else◌, Option, None, Some, is_none, IsSome, IsSomeAnd, IfSome, Result, Ok, Err, OnOk, OnErr, refl, sym, ap, ◌∙◌, subst, arith}
use Rattle.std.specs.FinMap as map
use Rattle.std.proofs.lemmas.List.{append_cancel_left}
use Rattle.std.proofs.lemmas.Option.{IfSome_then}
use Rattle.pm_values.specs.declared.refusal.Refusal.{Refusal}
use Rattle.pm_values.specs.declared.refusal.Refusal.TheVariants as refusals
use Rattle.pm_store.specs.declared.answer.Answer.{Answer}
use Rattle.pm_store.specs.declared.answer.Answer.TheVariants as answers
use Rattle.pm_store.specs.declared.answer.Made.TheVariants as made
use Rattle.pm_store.specs.declared.answer.Swapped.TheVariants as swaps
use Rattle.pm_store.specs.declared.call.Call.{Call}
use Rattle.pm_store.specs.declared.call.Effect.{Effect}
use Rattle.pm_store.specs.declared.call.Effect.TheVariants as effects
use Rattle.pm_store.specs.declared.call.Op.{Op}
use Rattle.pm_store.specs.Answers.{Answers, MayAnswer, made_at}
use Rattle.pm_store.specs.Files.{Files, Puts, after_effect, carried, files_after, is_same}
use Rattle.pm_store.specs.Images.{MayLeave}
use Rattle.pm_store.specs.Store.{StoreView}
use Rattle.pm_store.proofs.ChangeLaws.{Answers-Changed, Puts-insert}
use Rattle.pm_store.proofs.StepLaws.{Steps-weaker}
use Rattle.pm_machine.specs.Moves.{Changes, Keeps, Lasts, Leads, Moves, Sound}
use Rattle.pm_machine.specs.Running.{Refuses, Stops}
use Rattle.pm_machine.specs.Step.{path_of}
use Rattle.pm_machine.specs.Trace.{Event, IsFailed, MayEnd, Recounts, after_answer, answered, before_call, faulted}
use Rattle.pm_machine.proofs.Facts.{image_changed}
use Rattle.pm_machine.proofs.PhaseFacts.{recounts_of}
use Rattle.pm_model_history.specs.History.{History, IsTableOf, no_table, table, GoesOn}
use Rattle.pm_model_folder.specs.Changes.{Actor, Change, IsNoOrigin, beside as changes_beside, committed, its_origin, nothing, origin_name, own_file, schema}
use Rattle.pm_model_folder.specs.Commits.{Needs}
use Rattle.pm_model_folder.specs.Folder.{Folder}
use Rattle.pm_model_folder.specs.Ledger.{Advances, IsUnnamed, Past, Stands, count_of}
use Rattle.pm_model_folder.specs.Meaning.{HasSnapshotAt}
use Rattle.pm_model_folder.specs.Paths.{consumer_path, schema_path, snapshot_file}
use Rattle.pm_model_folder.proofs.Facts.{goes_on, some-none, still_there}
use Rattle.pm_model_folder.proofs.KindFacts.{origin-stays}
use Rattle.pm_model_folder.proofs.LedgerFacts.{NoneGoes, beside, none-puts}
use Rattle.pm_model_folder.proofs.PathLemmas.{consumer-schema, consumer-snapshot}
use Rattle.pm_schema.specs.declared.schema.TableSchema.{TableSchema}
use Rattle.pm_create.specs.declared.phase.Phase.{Phase}
use Rattle.pm_create.specs.declared.phase.Phase.TheVariants as phases
use Rattle.pm_create.specs.Creator.{NewTable, IsNewTable, IsOf, own_origin, origin_call, schema_call, next_call, calls_left, Goes, GoesOnce, Reaches, Shown, reached_at}
use Rattle.pm_create.specs.Making.{IsFreeOrigin}
use Rattle.pm_create.specs.Meaning.{Begins, Makes, KnowsAt, Knows, StandsBeside, MakesBeside, KnowsBeside}
use Rattle.pm_create.specs.Trace.{made_origin, DidSoFar, MayTakeMemory, Did, Shows}
use Rattle.pm_create.proofs.OriginLemmas.{AreDeclared, origin_unnamed}

-- ---- what its calls may leave

-- of the create of an origin, where none is there a file with some content, and else the files as they were
create_at : (path content : List ℕ) (f : Files) (P : Files → Type 0) → P f → (map.get f path ≡ None → P (map.insert f path content)) → (at : Option (List ℕ))
    → map.get f path ≡ at → P (if is_none at then map.insert f path content else f)
create_at path content f P same made None absent = made absent
create_at path content f P same made (Some found) is = same

created : (path : List ℕ) (f : Files) (P : Files → Type 0) → P f → ((content : List ℕ) → map.get f path ≡ None → P (map.insert f path content))
    → (effect : Effect) → P (after_effect (origin_call path) effect f)
created path f P same made effects.None = same
created path f P same made (effects.Part None) = same
created path f P same made (effects.Part (Some found)) = create_at path found f P same (made found) (map.get f path) refl
created path f P same made effects.Whole = create_at path [] f P same (made []) (map.get f path) refl

-- and of the swap of a schema, where there is none, the schema
swap_at : (bytes : List ℕ) (f : Files) (P : Files → Type 0) → P f → (map.get f (schema_path 0) ≡ None → P (map.insert f (schema_path 0) bytes))
    → (at : Option (List ℕ)) → map.get f (schema_path 0) ≡ at → P (if is_same at None then map.insert f (schema_path 0) bytes else f)
swap_at bytes f P same made None absent = made absent
swap_at bytes f P same made (Some found) is = same

swapped : (bytes : List ℕ) (f : Files) (P : Files → Type 0) → P f → (map.get f (schema_path 0) ≡ None → P (map.insert f (schema_path 0) bytes))
    → (effect : Effect) → P (after_effect (schema_call bytes) effect f)
swapped bytes f P same made effects.None = same
swapped bytes f P same made (effects.Part found) = same
swapped bytes f P same made effects.Whole = swap_at bytes f P same made (map.get f (schema_path 0)) refl

-- ---- what a creator may change of a history

pub record MakesOf (t : NewTable) (f : Files) (h : History) (after : Files) (later : History) : Type 0 where
  pub kind : Change t.me f h after later
  pub begins : Begins t.schema h later

makes-same : (t : NewTable) (f : Files) (h : History) → MakesOf t f h f h
makes-same t f h = record { kind = nothing (λ q. refl); begins = inl refl }

pub makes-own : (t : NewTable) (path content : List ℕ) (f after : Files) (h : History) → path ≡ own_origin t.me → IsFreeOrigin path f h
    → map.get f path ≡ None → Puts f path (Some content) after → MakesOf t f h after h
makes-own t path content f after h own free absent puts = record { kind = own_file path content (its_origin own) (free absent) absent puts; begins = inl refl }

pub makes-table : (t : NewTable) (f after : Files) → IsNewTable t → HasSnapshotAt f t.schema 0
    → Puts f (schema_path 0) (Some t.bytes) after → MakesOf t f no_table after (table t.schema [])
makes-table t f after is there puts = record {
  kind = schema t.schema t.bytes there is.origin puts (t.bytes, puts.here, is.reads);
  begins = inr (refl, refl);
}

pub origin_changes : (t : NewTable) (path : List ℕ) (f : Files) (h : History) → path ≡ own_origin t.me → IsFreeOrigin path f h
    → Changes (MakesOf t) (origin_call path) f h
origin_changes t path f h own free =
    created path f (λ g. (later : History) × MakesOf t f h g later) (h, makes-same t f h)
    (λ content absent. (h, makes-own t path content f (map.insert f path content) h own free absent (Puts-insert f path content)))

-- where no schema is there, there is no table
pub untold : (f : Files) (h : History) → Folder f h → map.get f (schema_path 0) ≡ None → h ≡ no_table
untold f no_table folder absent = refl
untold f (table s entries) folder absent =
    absurd (let first = folder.schema.first in let no : Some first.0 ≡ None = sym first.1 ∙ absent in cc)

pub table_changes : (t : NewTable) (f : Files) (h : History) → Folder f h → IsNewTable t → HasSnapshotAt f t.schema 0
    → Changes (MakesOf t) (schema_call t.bytes) f h
table_changes t f h folder is there =
    swapped t.bytes f (λ g. (later : History) × MakesOf t f h g later) (h, makes-same t f h)
    (λ absent. subst (λ (h : History). (later : History) × MakesOf t f h (map.insert f (schema_path 0) t.bytes) later) (sym (untold f h folder absent))
    (table t.schema [], makes-table t f (map.insert f (schema_path 0) t.bytes) is there (Puts-insert f (schema_path 0) t.bytes)))

-- ---- and of what is known

-- the past with another history
abbrev at_history : History → Past → Past
at_history later p = record p { history = later }

-- a file appears only at a path that no known snapshot needs
abbrev IsFresh : Files → Past → Files → Type 0
IsFresh f p after = (s : TableSchema) (path : List ℕ) → IsTableOf s p.history → map.get f path ≡ None → IsSome (map.get after path) → IsUnnamed p s path

count-begins : (s : TableSchema) (h later : History) → Begins s h later → count_of later ≡ count_of h
count-begins s h later (inl same) = ap count_of same
count-begins s h later (inr (none, is)) = ap count_of is ∙ sym (ap count_of none)

-- a change of a creator keeps what is known, where what appears is fresh
makes_past : (t : NewTable) (f after : Files) (p : Past) (later : History) → MakesOf t f p.history after later → IsFresh f p after → NoneGoes f after
    → ((name : List ℕ) → map.get after (consumer_path name) ≡ map.get f (consumer_path name)) → Makes t f p after (at_history later p)
makes_past t f after p later makes fresh none consumers = record {
  advances = beside t.me f after p later makes.kind (count-begins t.schema p.history later makes.begins) fresh none consumers;
  begins = makes.begins;
}

same-fresh : (f : Files) (p : Past) → IsFresh f p f
same-fresh f p s path is none here = absurd (some-none (map.get f path) here none)

past_same : (t : NewTable) (f : Files) (p : Past) → Makes t f p f (at_history p.history p)
past_same t f p = makes_past t f f p p.history (makes-same t f p.history) (same-fresh f p) (λ path there. there) (λ name. refl)

-- its origin is one
own-fresh : AreDeclared → (t : NewTable) (path : List ℕ) (content : Option (List ℕ)) (f after : Files) (p : Past) → Stands f p → path ≡ own_origin t.me
    → Puts f path content after → IsFresh f p after
own-fresh law t path content f after p stands own puts s q is none here = λ id known needs.
    let unnamed : IsUnnamed p s path = subst (λ (path : List ℕ). IsUnnamed p s path) (sym own) (origin_unnamed law t.me f p s stands is) in
    let apart : q ≢ path = λ e. unnamed id known (subst (λ (q : List ℕ). Needs (p.stood id) s id q) e needs) in
    some-none (map.get after q) here (puts.others q apart ∙ none)

past_own : AreDeclared → (t : NewTable) (path content : List ℕ) (f after : Files) (p : Past) → Stands f p → path ≡ own_origin t.me
    → IsNoOrigin p.history path → map.get f path ≡ None → Puts f path (Some content) after → Makes t f p after (at_history p.history p)
past_own law t path content f after p stands own other absent puts =
    makes_past t f after p p.history (makes-own t path content f after p.history own (λ none. other) absent puts)
    (own-fresh law t path (Some content) f after p stands own puts) (none-puts f after path content puts)
    (λ name. puts.others (consumer_path name) (λ same. consumer-snapshot name (origin_name t.me) (same ∙ own)))

-- so is the schema of a new table
past_table : (t : NewTable) (f after : Files) (p : Past) → IsNewTable t → HasSnapshotAt f t.schema 0 → p.history ≡ no_table
    → Puts f (schema_path 0) (Some t.bytes) after → Makes t f p after (at_history (table t.schema []) p)
past_table t f after p is there none puts =
    makes_past t f after p (table t.schema [])
    (subst (λ (h : History). MakesOf t f h after (table t.schema [])) (sym none) (makes-table t f after is there puts))
    (λ s path one absent here. absurd (subst (λ (h : History). IsTableOf s h) none one))
    (none-puts f after (schema_path 0) t.bytes puts)
    (λ name. puts.others (consumer_path name) (consumer-schema name 0))

changes_at : AreDeclared → (t : NewTable) (m : Phase) (f : Files) (p : Past) → Stands f p → IsNewTable t → IsOf t m → KnowsAt t m f p
    → IfSome (next_call m) (λ call. Changes (Makes t) call f p)
changes_at law t (phases.Origin path bytes) f p stands is own known =
    created path f (λ g. (later : Past) × Makes t f p g later) (at_history p.history p, past_same t f p)
    (λ content absent. (
      at_history p.history p,
      past_own law t path content f (map.insert f path content) p stands own.0 known absent (Puts-insert f path content),
    ))
changes_at law t (phases.Schema bytes) f p stands is own known =
    subst (λ (bytes : List ℕ). Changes (Makes t) (schema_call bytes) f p) (sym own)
    (swapped t.bytes f (λ g. (later : Past) × Makes t f p g later) (at_history p.history p, past_same t f p)
    (λ absent. (
      at_history (table t.schema []) p,
      past_table t f (map.insert f (schema_path 0) t.bytes) p is known.0 (untold f p.history stands.folder absent) (Puts-insert f (schema_path 0) t.bytes),
    )))
changes_at law t phases.Created f p stands is own known = tt
changes_at law t phases.Over f p stands is own known = tt

-- ---- what it knows afterwards

over_knows : (t : NewTable) (new : Phase) (f : Files) (p : Past) → new ≡ phases.Over → IsNewTable t → Knows t new f p
over_knows t new f p over is = subst (λ (m : Phase). Knows t m f p) (sym over) ((is, tt), tt)

pub made_absent : (at : Option (List ℕ)) → made.Created ≡ made_at at → at ≡ None
made_absent None e = refl
made_absent (Some found) e = cc

-- the origin that its schema names is there where its own is, and the other way
own_stands : (t : NewTable) (f : Files) → IsNewTable t → IsSome (map.get f (own_origin t.me)) → HasSnapshotAt f t.schema 0
own_stands t f is there =
    subst (λ (origin : Option (List ℕ)). IsSomeAnd origin (λ origin. IsSome (map.get f (snapshot_file origin)))) (sym is.origin) there

own_there : (t : NewTable) (f : Files) → IsNewTable t → HasSnapshotAt f t.schema 0 → IsSome (map.get f (own_origin t.me))
own_there t f is stands =
    subst (λ (origin : Option (List ℕ)). IsSomeAnd origin (λ origin. IsSome (map.get f (snapshot_file origin)))) is.origin stands

-- its origin is there once it is written
pub origin_stands : (t : NewTable) (path : List ℕ) (after : Files) → IsNewTable t → path ≡ own_origin t.me → map.get after path ≡ Some []
    → HasSnapshotAt after t.schema 0
origin_stands t path after is own here =
    own_stands t after is (subst (λ (found : Option (List ℕ)). IsSome found) (sym (ap (map.get after) (sym own) ∙ here)) refl)

went_at : AreDeclared → (t : NewTable) (m : Phase) (answer : Answer) (new : Phase) (f : Files) (p : Past) → Goes m answer new → Stands f p → IsNewTable t
    → IsOf t m → KnowsAt t m f p
    → IfSome (next_call m) (λ call. Answers call answer f → Leads (Makes t) (Knows t new) f p (carried call f))
went_at law t (phases.Origin path bytes) (answers.Made made.Created) new f p goes stands is own known = λ told.
    let call : Call = origin_call path in
    let puts : Puts f path (Some []) (carried call f) = Answers-Changed call (answers.Made made.Created) f told in
    subst (λ (m : Phase). Leads (Makes t) (Knows t m) f p (carried call f)) (sym goes) (
      at_history p.history p,
      past_own law t path [] f (carried call f) p stands own.0 known (made_absent (map.get f path) told) puts,
      ((is, own.1), (origin_stands t path (carried call f) is own.0 puts.here, subst (IsNoOrigin p.history) own.0 known)),
    )
went_at law t (phases.Schema bytes) (answers.Swapped swaps.Swapped) new f p goes stands is own known = λ told.
    let call : Call = schema_call bytes in
    let puts : Puts f (schema_path 0) (Some bytes) (carried call f) = Answers-Changed call (answers.Swapped swaps.Swapped) f told in
    let its : Puts f (schema_path 0) (Some t.bytes) (carried call f) =
    subst (λ (bytes : List ℕ). Puts f (schema_path 0) (Some bytes) (carried call f)) own puts in
    subst (λ (m : Phase). Leads (Makes t) (Knows t m) f p (carried call f)) (sym goes) (
      at_history (table t.schema []) p,
      past_table t f (carried call f) p is known.0 (untold f p.history stands.folder told) its,
      ((is, tt), refl),
    )
went_at law t m answer new f p goes stands is own known = absurd goes

failed_at : AreDeclared → (t : NewTable) (m new : Phase) (effect : Effect) (f : Files) (p : Past) → new ≡ phases.Over → Stands f p
    → IsNewTable t → IsOf t m → KnowsAt t m f p
    → IfSome (next_call m) (λ call. Leads (Makes t) (Knows t new) f p (after_effect call effect f))
failed_at law t m new effect f p over stands is own known = IfSome_then (next_call m) (changes_at law t m f p stands is own known)
    (λ call changes. ((changes effect).0, (changes effect).1, over_knows t new (after_effect call effect f) (changes effect).0 over is))

-- ---- the table beside the past

with_table : (t : NewTable) (m new : Phase) (f after : Files) (p : Past) → Leads (Makes t) (Knows t new) f p after
    → Leads (MakesBeside m) (KnowsBeside new) f (t, p) after
with_table t m new f after p leads = ((t, leads.0), (refl, leads.1), leads.2)

pub sound : AreDeclared → Sound next_call Goes (Refuses Shown phases.Over) (Stops phases.Over) StandsBeside MakesBeside KnowsBeside
sound law = record {
  changes = λ m f b stands known. IfSome_then (next_call m) (changes_at law b.0 m f b.1 stands known.0.0 known.0.1 known.1)
      (λ call changes effect. ((b.0, (changes effect).0), (refl, (changes effect).1)));
  went = λ m new answer f b goes stands known. IfSome_then (next_call m)
      (went_at law b.0 m answer new f b.1 goes stands known.0.0 known.0.1 known.1)
      (λ call leads told. with_table b.0 m new f (carried call f) b.1 (leads told));
  refused = λ m new answer refusal f b refuses stands known. IfSome_then (next_call m)
      (failed_at law b.0 m new effects.Whole f b.1 refuses.1 stands known.0.0 known.0.1 known.1)
      (λ call leads told. with_table b.0 m new f (carried call f) b.1 leads);
  failed = λ m new effect f b stops stands known. IfSome_then (next_call m)
      (failed_at law b.0 m new effect f b.1 stops stands known.0.0 known.0.1 known.1)
      (λ call leads may. with_table b.0 m new f (after_effect call effect f) b.1 leads);
  stopped = λ m new f b called stops stands known. over_knows b.0 new f b.1 stops known.0.0;
}

keeps_of : (t : NewTable) (old new : Phase) (op : Op) (f : Files) → Keeps StandsBeside (MakesBeside old) (KnowsBeside old) (KnowsBeside new) op f
    → Keeps Stands (Makes t) (Knows t old) (Knows t new) op f
keeps_of t old new op f keeps p stands known =
    let both = keeps (t, p) stands known in
    let after : Files = after_effect op.call op.effect f in
    let leads = both.1 in (
      λ effect. ((both.0 effect).0.1, (both.0 effect).1.1),
      (leads.0.1, leads.1.1, subst (λ (u : NewTable). Knows u new after leads.0.1) leads.1.0 leads.2),
    )

-- what a step does whichever table stands beside the past, it does to the past
pub moves_of : (t : NewTable) (old new : Phase) (before after : StoreView)
    → Moves StandsBeside (MakesBeside old) (KnowsBeside old) (KnowsBeside new) before after
    → Moves Stands (Makes t) (Knows t old) (Knows t new) before after
moves_of t old new before after (inl (op, own, steps)) = inl (
  op,
  own,
  Steps-weaker op
      (λ ops. Keeps StandsBeside (MakesBeside old) (KnowsBeside old) (KnowsBeside new) op (files_after ops))
      (λ ops. Keeps Stands (Makes t) (Knows t old) (Knows t new) op (files_after ops)) before after
      (λ ops keeps. keeps_of t old new op (files_after ops) keeps) steps,
)
moves_of t old new before after (inr (meanwhile, same)) = inr (meanwhile, λ f p stands known. same f (t, p) stands known)

-- ---- its calls

so_far : (t : NewTable) (m : Phase) (own : List Event) → IsSome (next_call m) → Did t m own → DidSoFar t m own
so_far t (phases.Origin path bytes) own called did = did
so_far t (phases.Schema bytes) own called did = did
so_far t phases.Created own called did = did
so_far t phases.Over own called did = absurd (let clash = called in cc)

-- the store failed in a call
failed_in : (t : NewTable) (m : Phase) (call : Call) (own : List Event) → DidSoFar t m own → next_call m ≡ Some call
    → Shows t (refusals.StoreFault (path_of call)) (own ++ faulted call ∷ [])
failed_in t (phases.Origin path bytes) call own (its, did) next =
    let same : origin_call path ≡ call = cc in
    subst (λ (call : Call). Shows t (refusals.StoreFault (path_of call)) (own ++ faulted call ∷ [])) same
    (inl (its.0, ap (λ (own : List Event). own ++ faulted (origin_call path) ∷ []) did ∙ ap (λ (path : List ℕ). faulted (origin_call path) ∷ []) its.0))
failed_in t (phases.Schema bytes) call own (its, did) next =
    let same : schema_call bytes ≡ call = cc in
    subst (λ (call : Call). Shows t (refusals.StoreFault (path_of call)) (own ++ faulted call ∷ [])) same
    (inr (
      refl,
      ap (λ (own : List Event). own ++ faulted (schema_call bytes) ∷ []) did
          ∙ ap (λ (bytes : List ℕ). made_origin t ∷ faulted (schema_call bytes) ∷ []) its,
    ))
failed_in t phases.Created call own did next = absurd (let clash = next in cc)
failed_in t phases.Over call own did next = absurd did

fails : (t : NewTable) (path : List ℕ) (own : List Event) → IsFailed next_call (DidSoFar t) path own → Shows t (refusals.StoreFault path) own
fails t path own failed =
    let shown = failed_in t failed.phase failed.call failed.earlier failed.did_so failed.next in
    let here = subst (λ (own : List Event). Shows t (refusals.StoreFault (path_of failed.call)) own) (sym failed.is) shown in
    subst (λ (path : List ℕ). Shows t (refusals.StoreFault path) own) (sym failed.is_path) here

-- memory ran out before a call
ended_in : (t : NewTable) (m : Phase) (own : List Event) → IsSome (next_call m) → DidSoFar t m own → Shows t refusals.Memory own
ended_in t (phases.Origin path bytes) own called did = inl did.1
ended_in t (phases.Schema bytes) own called did = inr did.1
ended_in t phases.Created own called did = absurd (let clash = called in cc)
ended_in t phases.Over own called did = absurd did

memory : (t : NewTable) (own : List Event) → MayEnd next_call (DidSoFar t) MayTakeMemory own → Shows t refusals.Memory own
memory t own (before_call m called did) = ended_in t m own called did
memory t own (after_answer m call answer earlier did next may takes is) = absurd takes

went_on : (t : NewTable) (m : Phase) (answer : Answer) (new : Phase) (own : List Event) → Goes m answer new → Did t m own
    → IfSome (next_call m) (λ call. MayAnswer call answer → Did t new (own ++ answered call answer ∷ []))
went_on t (phases.Origin path bytes) (answers.Made made.Created) new own goes (its, did) = λ may.
    let event : Event = answered (origin_call path) (answers.Made made.Created) in
    subst (λ (m : Phase). Did t m (own ++ event ∷ [])) (sym goes) (
      its.1,
      ap (λ (own : List Event). own ++ event ∷ []) did
          ∙ ap (λ (path : List ℕ). answered (origin_call path) (answers.Made made.Created) ∷ []) its.0,
    )
went_on t (phases.Schema bytes) (answers.Swapped swaps.Swapped) new own goes (its, did) = λ may.
    let event : Event = answered (schema_call bytes) (answers.Swapped swaps.Swapped) in
    subst (λ (m : Phase). Did t m (own ++ event ∷ [])) (sym goes)
    (ap (λ (own : List Event). own ++ event ∷ []) did
    ∙ ap (λ (bytes : List ℕ). made_origin t ∷ answered (schema_call bytes) (answers.Swapped swaps.Swapped) ∷ []) its)
went_on t m answer new own goes did = absurd goes

refused_on : (t : NewTable) (m : Phase) (answer : Answer) (refusal : Refusal) (own : List Event) → Shown m answer refusal → Did t m own
    → IfSome (next_call m) (λ call. MayAnswer call answer → Shows t refusal (own ++ answered call answer ∷ []))
refused_on t (phases.Origin path bytes) (answers.Made made.Exists) refusal own is (its, did) = λ may.
    let event : Event = answered (origin_call path) (answers.Made made.Exists) in
    subst (λ (refusal : Refusal). Shows t refusal (own ++ event ∷ [])) (sym is) (
      its.0,
      ap (λ (own : List Event). own ++ event ∷ []) did
          ∙ ap (λ (path : List ℕ). answered (origin_call path) (answers.Made made.Exists) ∷ []) its.0,
    )
refused_on t (phases.Schema bytes) (answers.Swapped (swaps.Differs found)) refusal own is (its, did) = λ may.
    let event : Event = answered (schema_call bytes) (answers.Swapped (swaps.Differs found)) in
    subst (λ (refusal : Refusal). Shows t refusal (own ++ event ∷ [])) (sym is) (
      found,
      ap (λ (own : List Event). own ++ event ∷ []) did
          ∙ ap (λ (bytes : List ℕ). made_origin t ∷ answered (schema_call bytes) (answers.Swapped (swaps.Differs found)) ∷ []) its,
    )
refused_on t m answer refusal own shown did = absurd shown

pub recounts : (t : NewTable) → Recounts next_call Goes (Refuses Shown phases.Over) (Stops phases.Over) (Did t) (Shows t)
recounts t = recounts_of next_call Goes Shown phases.Over (DidSoFar t) (Did t) MayTakeMemory (Shows t) (so_far t) (λ refusal own shows. (refusal, shows))
    (fails t) (memory t) (went_on t) (refused_on t)

-- ---- how far it has come

-- a step that goes on leaves one call fewer, and what it reached
pub goes : (m : Phase) (answer : Answer) (new : Phase) → Goes m answer new
    → (calls_left new < calls_left m) × Reaches (reached_at new) new × GoesOnce m new
goes (phases.Origin path bytes) (answers.Made made.Created) new on =
    subst (λ (new : Phase). (calls_left new < 2) × Reaches (reached_at new) new × GoesOnce (phases.Origin path bytes) new) (sym on)
    (omega arith, (bytes, refl), record { fewer = omega arith; holds = λ t is. is.1 })
goes (phases.Schema bytes) (answers.Swapped swaps.Swapped) new on =
    subst (λ (new : Phase). (calls_left new < 1) × Reaches (reached_at new) new × GoesOnce (phases.Schema bytes) new) (sym on)
    (omega arith, refl, record { fewer = omega arith; holds = λ t is. tt })
goes m answer new on = absurd on

-- with calls left there is a next one
pub has_call : (m : Phase) → 0 < calls_left m → IsSome (next_call m)
has_call (phases.Origin path bytes) left = refl
has_call (phases.Schema bytes) left = refl
has_call phases.Created left = absurd (omega (arith, left))
has_call phases.Over left = absurd (omega (arith, left))

-- after a step what the phase holds is still the table's
pub still_of : {X : Type 0} (t : NewTable) (old new : Phase) (result : Result X Refusal) → OnOk result (GoesOnce old new)
    → OnErr result (new ≡ phases.Over) → IsOf t old → IsOf t new
still_of t old new (Ok x) once over its = once.holds t its
still_of t old new (Err refusal) once over its = subst (IsOf t) (sym over) tt

-- ---- laws

-- the refusal that a call shows which ended so
abbrev pub by_answer : Call → Option Answer → Refusal
by_answer call None = refusals.StoreFault (path_of call)
by_answer call (Some (answers.Made made.Exists)) = refusals.SessionUsed (path_of call)
by_answer call (Some (answers.Swapped (swaps.Differs found))) = refusals.TableExists
by_answer call (Some answer) = refusals.Memory

-- and that calls show, by the last of at most two
abbrev pub by_calls : List Event → Refusal
by_calls [] = refusals.Memory
by_calls (one ∷ []) = by_answer one.call one.answer
by_calls (one ∷ (two ∷ own)) = by_answer two.call two.answer

pub shown_by : (t : NewTable) (refusal : Refusal) (own : List Event) → Shows t refusal own → refusal ≡ by_calls own
shown_by t refusals.Memory own (inl is) = sym (ap by_calls is)
shown_by t refusals.Memory own (inr is) = sym (ap by_calls is)
shown_by t (refusals.SessionUsed path) own (at, is) = ap refusals.SessionUsed at ∙ sym (ap by_calls is)
shown_by t refusals.TableExists own (found, is) = sym (ap by_calls is)
shown_by t (refusals.StoreFault path) own (inl (at, is)) = ap refusals.StoreFault at ∙ sym (ap by_calls is)
shown_by t (refusals.StoreFault path) own (inr (at, is)) = ap refusals.StoreFault at ∙ sym (ap by_calls is)
shown_by t refusal own shows = absurd shows

pub one_refusal : (t u : NewTable) (own : List Event) (one other : Refusal) → Shows t one own → Shows u other own → one ≡ other
one_refusal t u own one other shows_one shows_other = shown_by t one own shows_one ∙ sym (shown_by u other own shows_other)

begins_more : (s : TableSchema) (first h later : History) → Begins s first h → Begins s h later → Begins s first later
begins_more s first h later begun (inl same) = subst (Begins s first) (sym same) begun
begins_more s first h later (inl same) (inr (none, begins)) = inr (sym same ∙ none, begins)
begins_more s first h later (inr (none, begun)) (inr (again, begins)) = inr (none, begins)

-- what the law of kinds of change says
abbrev pub Kept : Type 0
Kept = (me : Actor) (f after : Files) (h later : History) → Folder f h → Change me f h after later → Folder after later

-- and the law of what is known
abbrev pub PastKept : Type 0
PastKept = (me : Actor) (f after : Files) (p q : Past) → Stands f p → Advances me f p after q → Stands after q

pub lasts : PastKept → (t : NewTable) (first : History) → Lasts Stands (Makes t) (λ f p. Begins t.schema first p.history)
lasts kept t first f after p later stands begun change =
    (kept t.me f after p later stands change.advances, begins_more t.schema first p.history later.history begun change.begins)

still_table : (s : TableSchema) (h later : History) → GoesOn h later → IsTableOf s h → IsTableOf s later
still_table s no_table later goes is = absurd is
still_table s (table t entries) no_table goes is = absurd goes
still_table s (table t entries) (table u more) goes is = goes.0 ∙ is

-- ---- what others leave of an actor's origin

same-name : (name other : List ℕ) → Some name ≡ Some other → name ≡ other
same-name name other e = cc

-- no other actor makes a table with it
other_still : (me other : Actor) (f after : Files) (h later : History) → Change other f h after later → origin_name other ≢ origin_name me
    → IsNoOrigin h (own_origin me) → IsNoOrigin later (own_origin me)
other_still me other f after h later (nothing same) apart free = free
other_still me other f after h later (own_file path content own other_origin absent puts) apart free = free
other_still me other f after h later (schema s bytes there named puts reads) apart free = λ name is at.
    let its : origin_name other ≡ name = same-name (origin_name other) name (sym named ∙ is) in
    apart (its ∙ append_cancel_left (codes "snapshot/") name (origin_name me) at)
other_still me other f after h later (committed s entries e bytes newest bound none puts fit commit own) apart free = free
other_still me other f after h later (changes_beside s entries plain change) apart free = free

known_at : (t : NewTable) (m : Phase) (other : Actor) (f after : Files) (p q : Past) → Folder f p.history → Change other f p.history after q.history
    → origin_name other ≢ origin_name t.me → IsNewTable t → IsOf t m → KnowsAt t m f p → KnowsAt t m after q
known_at t (phases.Origin path bytes) other f after p q folder change apart is own known =
    subst (IsNoOrigin q.history) (sym own.0)
    (other_still t.me other f after p.history q.history change apart (subst (IsNoOrigin p.history) own.0 known))
known_at t (phases.Schema bytes) other f after p q folder change apart is own known =
    let there = own_there t f is known.0 in (
      own_stands t after is (still_there f after (own_origin t.me) (origin-stays t.me other f after p.history q.history folder change known.1 there) there),
      other_still t.me other f after p.history q.history change apart known.1,
    )
known_at t phases.Created other f after p q folder change apart is own known =
    still_table t.schema p.history q.history (goes_on other f after p.history q.history change) known
known_at t phases.Over other f after p q folder change apart is own known = tt

pub knows_still : (t : NewTable) (m : Phase) (other : Actor) (f after : Files) (p q : Past) → Stands f p → Advances other f p after q
    → origin_name other ≢ origin_name t.me → Knows t m f p → Knows t m after q
knows_still t m other f after p q stands advances apart known =
    (known.0, known_at t m other f after p q stands.folder advances.change apart known.0.0 known.0.1 known.1)

pub images : AreDeclared → PastKept → (t : NewTable) (m : Phase) (call : Call) (f image : Files) (p : Past) → next_call m ≡ Some call → Stands f p
    → Knows t m f p → MayLeave call f image → (later : Past) × Makes t f p image later × Stands image later
images law kept t m call f image p is stands known left =
    let changes : Changes (Makes t) call f p = rw is at (changes_at law t m f p stands known.0.0 known.0.1 known.1) in
    let led = image_changed (Makes t) call f p changes image left in
    (led.0, led.1, kept t.me f image p led.0 stands led.1.advances)
