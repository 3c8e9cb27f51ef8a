-- The promise of `create`.
use Rattle.std.proofs.Common.{◌≡◌, ◌⊎◌, ◌↔◌, inl, inr, ℕ, ℤ, List, [], codes, Option, None, Some, Result, Ok, Err, refl, sym, subst, ap, ◌∙◌, arith}
use Rattle.std.proofs.lemmas.List.{append_cancel_left}
use Rattle.std.specs.Result.{result_err}
use Rattle.pm_base.specs.Outcome.{◌>>=◌}
use Rattle.pm_base.proofs.Laws.{step_ok}
use Rattle.pm_options.specs.Faults.{judged}
use Rattle.pm_values.specs.declared.refusal.Refusal.{Refusal}
use Rattle.pm_values.specs.declared.refusal.Refusal.TheVariants as refusals
use Rattle.pm_io.specs.Sink.{TookPrefix}
use Rattle.pm_store.specs.Files.{Files}
use Rattle.pm_store.specs.Images.{Extends}
use Rattle.pm_store.specs.Store.{StoreView, IsAlone, at_first_own}
use Rattle.pm_store.proofs.ImageLaws.{Extends-weaker}
use Rattle.pm_machine.specs.Trace.{HasTrace}
use Rattle.pm_input.specs.Lines.{row_lines}
use Rattle.pm_model_history.specs.History.{Entry, History, no_table, table}
use Rattle.pm_schema.specs.Meaning.{DraftOf}
use Rattle.pm_schema.specs.Reading.{draft_of}
use Rattle.pm_schema.specs.declared.schema.TableSchema.{TableSchema}
use Rattle.pm_model_folder.specs.Changes.{Actor, IsNoOrigin, origin_name}
use Rattle.pm_model_folder.specs.Folder.{Folder, HaveSettled, KeepsConsumers}
use Rattle.pm_model_folder.proofs.HoldLemmas.{ContentsStay, OneContents}
use Rattle.pm_create.specs.Creator.{NewTable, own_origin}
use Rattle.pm_create.specs.Making as making
use Rattle.pm_create.specs.Making.{DidMake, LeavesFiles}
use Rattle.pm_create.specs.Trace.{Shows}
use Rattle.pm_commit.specs.AllCalls.{NamesNone}
use Rattle.pm_draft.specs.Draft.{NumberedLine, draft_in, draft_line, form_fault, later_fault, later_line}
use Rattle.pm_draft.specs.Input.{MayRefuseDraft}
use Rattle.pm_words.specs.declared.command.Command.TheVariants as commands
use Rattle.pm_command.specs.Outside.{Outside, Prints, actor}
use Rattle.pm_command.specs.declared.start.Start.{Start}
use Rattle.pm_command_create.specs.Create as create
use Rattle.pm_command_create.specs.Create.{ActsCreate, CreatesTable, IsDraftOf, IsImage, LeavesTable, StandsForEither, created_text, its_table}
use Rattle.pm_cli.specs.InTurn.{IsExecuted}
use Rattle.pm_cli.specs.Promise.{MayBecome, Changes, Does, Execution, HasMade, Keeps, KeepsIt, MayMake, StandsForOthers, creates, found_by}
use Rattle.pm_cli.specs.Start.{HaveOtherNames, IsNew, changed_path, snapshot_made}
use Rattle.pm_cli.proofs.Common.{NotSink, StandsForSomeFreely, WasNew, any_files, any_here, extends_both, extends_each, extends_end, images_turned, leaves_both, leaves_each, leaves_some, leaves_weaker, makes_nothing, sink_same, still_settled, with_command}
use Rattle.pm_cli.proofs.Origin.{FolderKept, IsKept, StandsBeside, all_kept, all_left, beside_changes, beside_keeps, create_calls, left_beside}
use Rattle.pm_cli.proofs.Resting.{unprinted}

-- ---- what is printed

some_same : (e other : Refusal) → Some e ≡ Some other → other ≡ e
some_same e other is = cc

not_shown : (t : NewTable) (e : Refusal) (snapshot : Option ℕ) (before after : StoreView) → e ≡ refusals.SinkFault snapshot
    → HasTrace (DidMake t (Err e)) before after → ⊥
not_shown t e snapshot before after is (own, shows, traces) = subst (λ (e : Refusal). Shows t e own) is shows

made_prefix : (t : NewTable) (made : Result (Unit {0}) Refusal) (before after : Outside) (snapshot : Option ℕ)
    → HasTrace (DidMake t made) before.store after.store
    → Prints created_text None (result_err made) before.out after.out (Some (refusals.SinkFault snapshot))
    → TookPrefix before.out.taken after.out.taken created_text
made_prefix t (Ok x) before after snapshot trace (is, failed, took) = took
made_prefix t (Err e) before after snapshot trace (is, out) =
    absurd (not_shown t e snapshot before.store after.store (some_same (refusals.SinkFault snapshot) e is) trace)

took_prefix : (start : Start) (before after : Outside) (snapshot : Option ℕ) → ActsCreate start before after (Some (refusals.SinkFault snapshot))
    → TookPrefix before.out.taken after.out.taken created_text
took_prefix start before after snapshot (inl (e, is, may, untouched)) =
    absurd (subst (MayRefuseDraft (create.making start) before.input after.input) (some_same (refusals.SinkFault snapshot) e is) may)
took_prefix start before after snapshot (inr (s, draft, (made, trace, prints))) = made_prefix (its_table start s) made before after snapshot trace prints

made_none : (t : NewTable) (made : Result (Unit {0}) Refusal) (before after : Outside) (snapshot : Option ℕ)
    → HasTrace (DidMake t made) before.store after.store
    → Prints created_text None (result_err made) before.out after.out (Some (refusals.SinkFault snapshot)) → snapshot ≡ None
made_none t (Ok x) before after snapshot trace (is, failed, took) = sink_same snapshot None is
made_none t (Err e) before after snapshot trace (is, out) =
    absurd (not_shown t e snapshot before.store after.store (some_same (refusals.SinkFault snapshot) e is) trace)

unnamed : (start : Start) (before after : Outside) (snapshot : Option ℕ) → ActsCreate start before after (Some (refusals.SinkFault snapshot)) → snapshot ≡ None
unnamed start before after snapshot (inl (e, is, may, untouched)) =
    absurd (subst (MayRefuseDraft (create.making start) before.input after.input) (some_same (refusals.SinkFault snapshot) e is) may)
unnamed start before after snapshot (inr (s, draft, (made, trace, prints))) = made_none (its_table start s) made before after snapshot trace prints

nothing_printed : (start : Start) (before after : Outside) (e : Refusal) → NotSink e → ActsCreate start before after (Some e) → after.out ≡ before.out
nothing_printed start before after e not (inl (other, is, may, untouched)) = untouched.out
nothing_printed start before after e not (inr (s, draft, (made, trace, prints))) = unprinted created_text (result_err made) before.out after.out e not prints

-- ---- what stands at the end

module _ (e : Execution) (h : History) where
  abbrev it : Execution
  it = with_command commands.Create e

  does : (s : TableSchema) → h ≡ no_table → IsDraftOf e.start e.input s → Does e.start e.input (found_by e) commands.Create h (table s []) created_text
  does s none draft = subst (λ (h : History). Does e.start e.input (found_by e) commands.Create h (table s []) created_text) (sym none) (creates s draft)

  abbrev IsEnd : Option Refusal → Files → Type 0
  IsEnd answer f = (later : History) × (HasMade it h answer later × MayMake it h later) × Folder f later

  may_stand : (f : Files) → StandsForEither e.start e.input h f → (later : History) × MayMake it h later × Folder f later
  may_stand f (inl folder) = (h, inl refl, folder)
  may_stand f (inr (none, (s, draft, folder))) = (table s [], inr (created_text, does s none draft), folder)

  after_fault : (path : List ℕ) (f : Files) → LeavesTable e.start e.input (Some (refusals.StoreFault path)) h f
      → (later : History) × (MayMake it h later × ((later ≡ h) ⊎ (path ≡ changed_path commands.Create h))) × Folder f later
  after_fault path f (inl folder) = (h, (inl refl, inl refl), folder)
  after_fault path f (inr (at, none, (s, draft, folder))) = (table s [], (inr (created_text, does s none draft), inr at), folder)

  -- a table that is made has no snapshot
  none_yet : (s : TableSchema) (snapshot : Option ℕ) → h ≡ no_table → snapshot ≡ None → snapshot ≡ snapshot_made h (table s [])
  none_yet s snapshot none is = is ∙ ap (λ (h : History). snapshot_made h (table s [])) (sym none)

  ended : (answer : Option Refusal) → ActsCreate e.start e.before e.after answer → (first : StoreView)
      → CreatesTable e.start h e.input first e.before e.after answer → LeavesFiles (IsEnd answer) e.after.store
  ended None acts first was = leaves_weaker (LeavesTable e.start e.input None h) (IsEnd None) e.after.store
      (λ f (none, (s, draft, folder)).
      let done = does s none draft in
      (table s [], ((created_text, done, (was.done refl).1), inr (created_text, done)), folder)) was.leaves
  ended (Some (refusals.SinkFault snapshot)) acts first was =
      leaves_weaker (LeavesTable e.start e.input (Some (refusals.SinkFault snapshot)) h) (IsEnd (Some (refusals.SinkFault snapshot))) e.after.store
      (λ f (none, (s, draft, folder)).
      let done = does s none draft in
      let named = none_yet s snapshot none (unnamed e.start e.before e.after snapshot acts) in
      (table s [], ((created_text, done, took_prefix e.start e.before e.after snapshot acts, named), inr (created_text, done)), folder))
      was.leaves
  ended (Some (refusals.StoreFault path)) acts first was =
      leaves_weaker (LeavesTable e.start e.input (Some (refusals.StoreFault path)) h) (IsEnd (Some (refusals.StoreFault path))) e.after.store
      (λ f is.
      let stands = after_fault path f is in
      (stands.0, ((stands.1.0, stands.1.1, nothing_printed e.start e.before e.after (refusals.StoreFault path) tt acts), stands.1.0), stands.2))
      was.leaves
  ended (Some refusal) acts first was =
      leaves_weaker (λ f. Folder f h) (IsEnd (Some refusal)) e.after.store
      (λ f folder. (h, (makes_nothing it h refusal tt (nothing_printed e.start e.before e.after refusal tt acts), inl refl), folder)) was.leaves

-- ---- what the draft's table is to others

-- what the law of drafts says
abbrev pub DraftLaw : Type 0
DraftLaw = (line origin : List ℕ) (now : ℤ) (s : TableSchema) → (draft_of line origin now ≡ Ok s) ↔ DraftOf line origin now s

drafted : (lines : List NumberedLine) (origin : List ℕ) (now : ℤ) (s : TableSchema) → draft_in lines origin now ≡ Ok s
    → draft_of (draft_line lines) origin now ≡ Ok s
unfolding draft_in
drafted lines origin now s is =
    let reading = draft_of (draft_line lines) origin now in
    let later = later_line lines in
    let form = step_ok (judged (form_fault reading)) (λ form. judged (later_fault later) >>= λ alone. reading) s is in
    (step_ok (judged (later_fault later)) (λ alone. reading) s form.2).2

-- the origin that it names bears the name of its creator
names_origin : DraftLaw → (start : Start) (bytes : List ℕ) (s : TableSchema) → IsDraftOf start bytes s → s.origin ≡ Some (origin_name (actor start))
names_origin law start bytes s draft =
    let origin : List ℕ = origin_name (actor start) in
    let lines = row_lines bytes in
    let declares = (law (draft_line lines) origin start.now_millis s).0 (drafted lines origin start.now_millis s draft.read) in
    ap (λ (t : TableSchema). t.origin) declares.6.schema

one_name : (o : Option (List ℕ)) (a b : List ℕ) → o ≡ Some a → o ≡ Some b → a ≡ b
one_name o a b is other = cc

no_origin : DraftLaw → (start : Start) (bytes : List ℕ) (s : TableSchema) (other : Actor) → IsDraftOf start bytes s → HaveOtherNames (actor start) other
    → IsNoOrigin (table s []) (own_origin other)
no_origin law start bytes s other draft names name is same =
    let own : origin_name (actor start) ≡ name = one_name s.origin (origin_name (actor start)) name (names_origin law start bytes s draft) is in
    names (sym (own ∙ append_cancel_left (codes "snapshot/") name (origin_name other) same))

none_named : (other : Actor) (s : TableSchema) (f : Files) → NamesNone other (table s []) f
none_named other s f t id path is low high names by = omega (arith, low, high)

-- who was new to no table is new to what the command makes of it
new_made : DraftLaw → (e : Execution) (other : Actor) (later : History) (f : Files) → HaveOtherNames (actor e.start) other
    → MayMake (with_command commands.Create e) no_table later → Folder f later → IsNew other later f
new_made law e other later f names (inl same) folder =
    subst (λ (later : History). IsNew other later f) (sym same)
    (record { folder = subst (λ (later : History). Folder f later) same folder; origin = tt; names = λ t id path is low high named by. is })
new_made law e other later f names (inr (text, does)) folder = by later text does folder
  where
    by : (later : History) (text : List ℕ) → Does e.start e.input (found_by e) commands.Create no_table later text → Folder f later → IsNew other later f
    by later text (creates s draft) folder =
        record { folder = folder; origin = no_origin law e.start e.input s other draft names; names = none_named other s f }

-- it makes nothing of a table
nothing_made : (e : Execution) (s : TableSchema) (es : List Entry) (later : History) → MayMake (with_command commands.Create e) (table s es) later → later ≡ table s es
nothing_made e s es later (inl same) = same
nothing_made e s es later (inr (text, does)) = elim does [ ]

-- ---- all of it

module _ (kept : FolderKept) (stay : ContentsStay) (one : OneContents) (law : DraftLaw) (e : Execution) (acts : ActsCreate e.start e.before e.after e.refusal) where
  abbrev first : StoreView
  first = at_first_own e.before.store e.after.store

  abbrev after : StoreView
  after = e.after.store

  abbrev it_is : Execution
  it_is = with_command commands.Create e

  -- consumers are kept, and no file but its own appeared
  abbrev Spares : History → Files → Type 0
  Spares h f = LeavesFiles (λ was. KeepsConsumers h was f × ((path : List ℕ) → MayBecome it_is h was f path)) first

  spare_settled : (h : History) (f : Files) (later : History) → MayMake it_is h later → Spares h f → (names : List (List ℕ))
      → LeavesFiles (λ was. HaveSettled was h names) first → HaveSettled f later names
  spare_settled h f later make spares names =
      still_settled it_is h first later f make
      (leaves_weaker (λ was. KeepsConsumers h was f × ((path : List ℕ) → MayBecome it_is h was f path)) (λ was. KeepsConsumers h was f) first (λ was is. is.0) spares) names

  spare_changes : (h : History) (f : Files) → Spares h f → Changes it_is h first f
  spare_changes h f =
      leaves_weaker (λ was. KeepsConsumers h was f × ((path : List ℕ) → MayBecome it_is h was f path)) (λ was. (path : List ℕ) → MayBecome it_is h was f path) first
      (λ was is. is.1)

  -- where there was no table
  of_none : (f : Files) (later : History) → MayMake it_is no_table later → Folder f later → Spares no_table f → StandsForOthers it_is no_table first later f
  of_none f later make folder spares = record {
    folder = folder;
    free = λ other names new. new_made law e other later f names make folder;
    changes = spare_changes no_table f spares;
    settled = λ names rests. spare_settled no_table f later make spares names;
  }

  -- where there was one
  abbrev AllKept : TableSchema → List Entry → Files → Type 0
  AllKept s es f = (other : Actor) → WasNew it_is (table s es) first other → IsKept kept stay one (actor e.start) other s es f

  of_table : (s : TableSchema) (es : List Entry) (f : Files) (later : History) → MayMake it_is (table s es) later → Folder f later → AllKept s es f
      → Spares (table s es) f → StandsForOthers it_is (table s es) first later f
  of_table s es f later make folder all spares = record {
    folder = folder;
    changes = spare_changes (table s es) f spares;
    settled = λ names rests. spare_settled (table s es) f later make spares names;
    free = λ other names new.
        let so = all other (names, new) in
        let origin : IsNoOrigin (table s es) (own_origin other) =
        any_files (IsNew other (table s es)) (IsNoOrigin (table s es) (own_origin other)) first (λ f is. is.origin) new in
        let is : IsNew other (table s es) f = record { folder = so.0; origin = origin; names = so.1 } in
        subst (λ (h : History). IsNew other h f) (sym (nothing_made e s es later make)) is;
  }

  kept_at : (s : TableSchema) (es : List Entry) → IsAlone first after → LeavesFiles (making.MayStart (actor e.start) (table s es)) first → (other : Actor)
      → WasNew it_is (table s es) first other
      → LeavesFiles (IsKept kept stay one (actor e.start) other s es) after × Extends (IsKept kept stay one (actor e.start) other s es) first.ops after.ops
  kept_at s es alone may other (names, new) =
      let calls = create_calls e.start e.before e.after e.refusal acts in
      all_kept kept stay one (actor e.start) other s es calls.0 first after calls.1 calls.2 alone
      (leaves_both (making.MayStart (actor e.start) (table s es)) (IsNew other (table s es)) (IsKept kept stay one (actor e.start) other s es) first
      (λ f may is. (may.0, is.names, may.1)) may new)

  -- each image is beside the files at first
  spares_at : (h : History) → IsAlone first after → LeavesFiles (making.MayStart (actor e.start) h) first → Extends (Spares h) first.ops after.ops
  spares_at h alone may =
      let calls = create_calls e.start e.before e.after e.refusal acts in
      let Keeps_it : Files → Files → Type 0 = λ was f. KeepsConsumers h was f × ((path : List ℕ) → MayBecome it_is h was f path) in
      images_turned Keeps_it first after.ops
      (any_here (making.MayStart (actor e.start) h) (LeavesFiles (λ f. Extends (Keeps_it f) first.ops after.ops) first) first
      (λ f start here. here (λ f. Extends (Keeps_it f) first.ops after.ops)
      (Extends-weaker (StandsBeside (actor e.start) f) (Keeps_it f) first.ops after.ops
      (λ g beside. (
        beside_keeps (actor e.start) f g beside h start.1,
        λ path. elim (beside_changes (actor e.start) f g beside path) as (λ _. MayBecome it_is h f g path) [
          | inl same ↦ inl same
          | inr new ↦ inr (inl new)
        ],
      ))
      (all_left (actor e.start) (StandsBeside (actor e.start) f) (left_beside (actor e.start) f) calls.0 first after calls.1 calls.2 alone
      (here (StandsBeside (actor e.start) f) (record { held = λ path there. refl; fresh = λ path none origin schema. none }))).1)) may)

  known_first : (h : History) → LeavesFiles (making.MayStart (actor e.start) h) first → LeavesFiles (λ f. Unit {0}) first
  known_first h = leaves_weaker (making.MayStart (actor e.start) h) (λ f. Unit {0}) first (λ f may. tt)

  ends_freely : (h later : History) → IsAlone first after → LeavesFiles (making.MayStart (actor e.start) h) first → MayMake it_is h later
      → LeavesFiles (λ f. Folder f later) after → LeavesFiles (StandsForOthers it_is h first later) after
  ends_freely no_table later alone may make ends =
      leaves_both (λ f. Folder f later) (Spares no_table) (StandsForOthers it_is no_table first later) after (λ f folder spares. of_none f later make folder spares) ends
      (extends_end (Spares no_table) first after (known_first no_table may) (spares_at no_table alone may))
  ends_freely (table s es) later alone may make ends =
      leaves_both (λ f. Folder f later × AllKept s es f) (Spares (table s es)) (StandsForOthers it_is (table s es) first later) after
      (λ f both spares. of_table s es f later make both.0 both.1 spares)
      (leaves_each (λ f. Folder f later) (WasNew it_is (table s es) first) (λ other f. IsKept kept stay one (actor e.start) other s es f) after ends
      (λ other was. (kept_at s es alone may other was).0))
      (extends_end (Spares (table s es)) first after (known_first (table s es) may) (spares_at (table s es) alone may))

  images_freely : (h : History) → IsAlone first after → LeavesFiles (making.MayStart (actor e.start) h) first
      → Extends (StandsForEither e.start e.input h) first.ops after.ops → Extends (StandsForSomeFreely it_is h first) first.ops after.ops
  images_freely no_table alone may images =
      Extends-weaker (λ f. StandsForEither e.start e.input no_table f × Spares no_table f) (StandsForSomeFreely it_is no_table first) first.ops after.ops
      (λ f both. let stands = may_stand e no_table f both.0 in (stands.0, stands.1, of_none f stands.0 stands.1 stands.2 both.1))
      (extends_both (StandsForEither e.start e.input no_table) (Spares no_table) first.ops after.ops images (spares_at no_table alone may))
  images_freely (table s es) alone may images =
      Extends-weaker (λ f. (StandsForEither e.start e.input (table s es) f × AllKept s es f) × Spares (table s es) f)
      (StandsForSomeFreely it_is (table s es) first) first.ops after.ops
      (λ f all. let stands = may_stand e (table s es) f all.0.0 in (stands.0, stands.1, of_table s es f stands.0 stands.1 stands.2 all.0.1 all.1))
      (extends_both (λ f. StandsForEither e.start e.input (table s es) f × AllKept s es f) (Spares (table s es)) first.ops after.ops
      (extends_each (StandsForEither e.start e.input (table s es)) (WasNew it_is (table s es) first)
      (λ other f. IsKept kept stay one (actor e.start) other s es f) first.ops after.ops images (λ other was. (kept_at s es alone may other was).1))
      (spares_at (table s es) alone may))

  keeps_it : (h : History) → IsAlone first after → LeavesFiles (making.MayStart (actor e.start) h) first
      → CreatesTable e.start h e.input first e.before e.after e.refusal → KeepsIt it_is h first
  keeps_it h alone may was =
      let end = leaves_some (λ later. HasMade it_is h e.refusal later × MayMake it_is h later) (λ later f. Folder f later) after (ended e h e.refusal acts first was) in
      record {
        later = end.0;
        makes = end.1.0;
        ends = ends_freely h end.0 alone may end.1.1 end.2;
        own = leaves_weaker (λ f. Folder f end.0) (λ f. Unit {0}) after (λ f folder. tt) end.2;
        stops = Extends-weaker (Spares h) (λ f. Unit {0}) first.ops after.ops (λ f is. tt) (spares_at h alone may);
        images = images_freely h alone may
            (Extends-weaker (IsImage e.start e.input h) (StandsForEither e.start e.input h) first.ops after.ops (λ f is. is.either) was.images);
      }

pub keeps : FolderKept → ContentsStay → OneContents → DraftLaw → (e : Execution) → IsExecuted (with_command commands.Create e) → Keeps (with_command commands.Create e)
keeps kept stay one law e is = λ alone h may input.
    keeps_it kept stay one law e is.acts h alone may (is.history alone h e.input may input)
