-- Laws of `create`: what is so of its input, of its calls, and of a history.
use Rattle.std.proofs.Common.{◌≡◌, inl, inr, ℕ, List, [], Option, None, Some, IfSome, IsSome, IsSomeAnd, Result, Ok, Err, refl, sym, ◌∙◌, subst, arith}
use Rattle.std.specs.FinMap as map
use Rattle.std.specs.Result.{result_err}
use Rattle.pm_values.specs.declared.refusal.Refusal.{Refusal}
use Rattle.pm_values.specs.declared.refusal.Refusal.TheVariants as refusals
use Rattle.pm_io.specs.Sink.{SinkView}
use Rattle.pm_io.specs.Source.{SourceView, SourceFailed}
use Rattle.pm_store.specs.declared.call.Op.{Op}
use Rattle.pm_store.specs.Files.{Files, files_after}
use Rattle.pm_store.specs.Images.{Extends}
use Rattle.pm_store.specs.Store.{StoreView, at_first_own}
use Rattle.pm_store.proofs.ImageLaws.{Extends-refl, Extends-weaker}
use Rattle.pm_machine.specs.Trace.{HasTrace}
use Rattle.pm_machine.proofs.Facts.{Traces-none}
use Rattle.pm_model_history.specs.History.{History, no_table, table}
use Rattle.pm_schema.specs.declared.schema.TableSchema.{TableSchema}
use Rattle.pm_model_folder.specs.Changes.{Actor}
use Rattle.pm_model_folder.specs.Folder.{Folder}
use Rattle.pm_model_folder.specs.Paths.{schema_path}
use Rattle.pm_create.specs.Creator.{CreatorView, NewTable, new_creator, new_table}
use Rattle.pm_create.specs.Making as making
use Rattle.pm_create.specs.Making.{DidMake, LeavesFiles, LeavesHistory, IsThere, IsCaused, IsMadeOrMemory, MakesTables}
use Rattle.pm_draft.specs.Input.{AnswersDraft, ReadsDraft, RefusesDraft}
use Rattle.pm_command_create.specs.Create.{CreatesTable, CreatesTables, HadCause, IsDraftOf, IsImage, IsMade, LeavesTable, MakesAndPrints, StandsForDraft, StandsForEither, created_text, its_table, making as draft_making}
use Rattle.pm_command.specs.Outside.{IsServed, Outside, Prints, actor, outside}
use Rattle.pm_command.specs.declared.start.Start.{Start}
use Rattle.pm_command.proofs.Uncalled.{at_known, uncalled}

-- what is left of files, said of more
leaves_weaker : (P Q : Files → Type 0) → ((f : Files) → P f → Q f) → (store : StoreView) → LeavesFiles P store → LeavesFiles Q store
leaves_weaker P Q weaker store = at_ops store.ops
  where
    at_ops : (ops : Option (List Op)) → IsSomeAnd ops (λ ops. P (files_after ops)) → IsSomeAnd ops (λ ops. Q (files_after ops))
    at_ops None is = is
    at_ops (Some ops) is = weaker (files_after ops) is

-- a store that isn't called leaves one image
images_left : (P Q : Files → Type 0) → ((f : Files) → P f → Q f) → (store : StoreView) → LeavesFiles P store → Extends Q store.ops store.ops
images_left P Q weaker store is =
    Extends-refl Q store.ops (λ ops told. weaker (files_after ops) (subst (λ (ops : Option (List Op)). IsSomeAnd ops (λ ops. P (files_after ops))) told is))

some_none : {A : Type 0} (x : A) → Some x ≡ None → ⊥
some_none x e = cc

-- files from which a table may be made stand for the history
start_stands : (me : Actor) (h : History) (store : StoreView) → LeavesFiles (making.MayStart me h) store → LeavesFiles (λ f. Folder f h) store
start_stands me h store start = leaves_weaker (making.MayStart me h) (λ f. Folder f h) (λ f is. is.0) store start

-- ---- the making of a table

-- memory ran out before the first call
makes_nothing : (t : NewTable) (store : StoreView) → MakesTables t store store (Err refusals.Memory)
makes_nothing t store =
    uncalled (λ first after. (h : History) → LeavesFiles (making.MayStart t.me h) first → making.MakesTable t h first after (Err refusals.Memory)) store
    (λ h start. record {
      leaves = start_stands t.me h store start;
      images = images_left (making.MayStart t.me h) (making.StandsForEither t.schema h) (λ f is. inl is.0) store start;
      settles = tt;
      cause = tt;
      complete = λ none absent no_fault. tt;
    })

pub not_made : (t : NewTable) (out : SinkView) (store : StoreView) → IsMade t out out store store (Some refusals.Memory)
not_made t out store = (Err refusals.Memory, ([], inl refl, Traces-none store), makes_nothing t store, (refl, refl))

pub made_refused : (me : Actor) (s : TableSchema) (c : CreatorView) (out : SinkView) (store after : StoreView) (e : Refusal) → c ≡ new_creator me s
    → HasTrace (DidMake c.table (Err e)) store after → MakesTables c.table store after (Err e) → IsMade (new_table me s) out out store after (Some e)
made_refused me s c out store after e is trace makes =
    subst (λ (c : CreatorView). IsMade c.table out out store after (Some e)) is (Err e, trace, makes, (refl, refl))

pub made_printed : (me : Actor) (s : TableSchema) (c : CreatorView) (out out_after : SinkView) (store after : StoreView) (answer : Option Refusal)
    → c ≡ new_creator me s → HasTrace (DidMake c.table (Ok tt)) store after → MakesTables c.table store after (Ok tt)
    → Prints created_text None None out out_after answer → IsMade (new_table me s) out out_after store after answer
made_printed me s c out out_after store after answer is trace makes prints =
    subst (λ (c : CreatorView). IsMade c.table out out_after store after answer) is (Ok tt, trace, makes, prints)

-- ---- what is answered

pub made_acts : (start : Start) (s : TableSchema) (before after : Outside) (answer : Option Refusal)
    → IsMade (its_table start s) before.out after.out before.store after.store answer → MakesAndPrints (its_table start s) before after answer
made_acts start s before after answer (made, trace, makes, prints) = (made, trace, prints)

-- ---- a history

-- a draft has one answer
other_answer : (start : Start) (s : TableSchema) (bytes : List ℕ) (after : SourceView) (e : Refusal) → IsDraftOf start bytes s
    → AnswersDraft (draft_making start) bytes after (Err e) → ⊥
other_answer start s bytes after e is answers =
    let clash : ◌≡◌ {A = Result TableSchema Refusal} (Ok s) (Err e) = sym is.read ∙ answers.read in cc

-- a draft is refused by its source alone, or out of memory
draft_served : (start : Start) (e : Refusal) (s : TableSchema) (bytes : List ℕ) (before after : SourceView) → IsDraftOf start bytes s
    → (SourceFailed before after → ⊥) → RefusesDraft (draft_making start) bytes before after e → IsServed (Some e)
draft_served start refusals.Memory s bytes before after is no_source refuses = tt
draft_served start refusals.SourceFault s bytes before after is no_source refuses = no_source refuses.0
draft_served start (refusals.Limit text number) s bytes before after is no_source (inl limit) =
    is.within limit.3.0 limit.0 limit.3.1 limit.3.2
draft_served start (refusals.Limit text number) s bytes before after is no_source (inr answers) = other_answer start s bytes after (refusals.Limit text number) is answers
draft_served start (refusals.BadLine line why column) s bytes before after is no_source answers = other_answer start s bytes after (refusals.BadLine line why column) is answers
draft_served start (refusals.Unsupported what text) s bytes before after is no_source answers = other_answer start s bytes after (refusals.Unsupported what text) is answers
draft_served start (refusals.SchemaRule rule) s bytes before after is no_source answers = other_answer start s bytes after (refusals.SchemaRule rule) is answers
draft_served start e s bytes before after is no_source refuses = absurd refuses

-- the input was refused, and nothing done
refusal_leaves : (start : Start) (e : Refusal) (bytes : List ℕ) (h : History) (before after : SourceView) (f : Files)
    → RefusesDraft (draft_making start) bytes before after e → Folder f h → LeavesTable start bytes (Some e) h f
refusal_leaves start (refusals.SinkFault snapshot) bytes h before after f refuses folder = absurd refuses
refusal_leaves start (refusals.StoreFault path) bytes h before after f refuses folder = absurd refuses
refusal_leaves start e bytes h before after f refuses folder = folder

refusal_cause : (start : Start) (e : Refusal) (bytes : List ℕ) (h : History) (before after : SourceView) (store : StoreView)
    → RefusesDraft (draft_making start) bytes before after e → HadCause start h store (Some e)
refusal_cause start refusals.TableExists bytes h before after store refuses = absurd refuses
refusal_cause start (refusals.SessionUsed path) bytes h before after store refuses = absurd refuses
refusal_cause start e bytes h before after store refuses = tt

-- where a schema is, there is a table
schema_there : (o : Option (List ℕ)) → o ≡ None → IsSome o → ⊥
schema_there o none some = cc

imaged : (start : Start) (bytes : List ℕ) (h : History) (f : Files) → StandsForEither start bytes h f → IsImage start bytes h f
imaged start bytes h f (inr (none, stands)) = record { either = inr (none, stands); made = λ empty there. stands }
imaged start bytes h f (inl folder) = record {
  either = inl folder;
  made = λ empty there.
      let nothing : Folder f no_table = subst (Folder f) empty folder in
      absurd (schema_there (map.get f (schema_path 0)) (nothing.schemas 0 (omega arith)) there);
}

refused_table : (start : Start) (h : History) (bytes : List ℕ) (before after : SourceView) (out : SinkView) (store : StoreView) (e : Refusal)
    → RefusesDraft (draft_making start) bytes before after e → LeavesFiles (λ f. Folder f h) store
    → CreatesTable start h bytes store (outside before out store) (outside after out store) (Some e)
refused_table start h bytes before after out store e refuses folder = record {
  done = λ none. absurd (some_none e none);
  leaves = leaves_weaker (λ f. Folder f h) (LeavesTable start bytes (Some e) h) (λ f is. refusal_leaves start e bytes h before after f refuses is) store folder;
  images = images_left (λ f. Folder f h) (IsImage start bytes h) (λ f is. imaged start bytes h f (inl is)) store folder;
  cause = refusal_cause start e bytes h before after store refuses;
  complete = λ s is none absent no_fault. draft_served start e s bytes before after is no_fault.input refuses;
}

-- memory ran out before anything was read
pub nothing_made : (start : Start) (input : SourceView) (out : SinkView) (store : StoreView)
    → CreatesTables start (outside input out store) (outside input out store) (Some refusals.Memory)
nothing_made start input out store =
    uncalled (λ first _. (h : History) (bytes : List ℕ) → LeavesFiles (making.MayStart (actor start) h) first → input.left ≡ Some bytes
    → CreatesTable start h bytes first (outside input out store) (outside input out store) (Some refusals.Memory)) store
    (λ h bytes stands is. refused_table start h bytes input input out store refusals.Memory tt (start_stands (actor start) h store stands))

refused_tables : (start : Start) (before after : SourceView) (out : SinkView) (store : StoreView) (e : Refusal)
    → IfSome before.left (λ bytes. RefusesDraft (draft_making start) bytes before after e)
    → CreatesTables start (outside before out store) (outside after out store) (Some e)
refused_tables start before after out store e refuses =
    uncalled (λ first _. (h : History) (bytes : List ℕ) → LeavesFiles (making.MayStart (actor start) h) first → before.left ≡ Some bytes
    → CreatesTable start h bytes first (outside before out store) (outside after out store) (Some e)) store
    (λ h bytes stands is. refused_table start h bytes before after out store e
    (at_known (λ bytes. RefusesDraft (draft_making start) bytes before after e) before.left bytes is refuses) (start_stands (actor start) h store stands))

-- the draft was read for the name of this command's origin
pub draft_refused : (start : Start) (origin : List ℕ) (before after : SourceView) (out : SinkView) (store : StoreView) (e : Refusal)
    → origin ≡ (draft_making start).origin
    → IfSome before.left (λ bytes. ReadsDraft (record { origin = origin; now = start.now_millis }) bytes before after (Err e))
    → CreatesTables start (outside before out store) (outside after out store) (Some e)
draft_refused start origin before after out store e is reads =
    refused_tables start before after out store e
    (subst (λ (origin : List ℕ). IfSome before.left (λ bytes. RefusesDraft (record { origin = origin; now = start.now_millis }) bytes before after e)) is reads)

-- a draft's table
draft_stands : (start : Start) (bytes : List ℕ) (s : TableSchema) → IsDraftOf start bytes s → (f : Files) → Folder f (table s []) → StandsForDraft start bytes f
draft_stands start bytes s is f folder = (s, is, folder)

module _ (start : Start) (bytes : List ℕ) (s : TableSchema) (draft : IsDraftOf start bytes s) (h : History) (first : StoreView) where
  -- its table was made
  made_leaves : (f : Files) → LeavesHistory s h (Ok tt) f → (h ≡ no_table) × StandsForDraft start bytes f
  made_leaves f (none, folder) = (none, draft_stands start bytes s draft f folder)

  either : (f : Files) → making.StandsForEither s h f → StandsForEither start bytes h f
  either f (inl folder) = inl folder
  either f (inr (none, folder)) = inr (none, draft_stands start bytes s draft f folder)

  done_table : (before after : Outside) (answer : Option Refusal) → after.input.left ≡ Some [] → making.MakesTable (its_table start s) h first after.store (Ok tt)
      → Prints created_text None None before.out after.out answer → CreatesTable start h bytes first before after answer
  done_table before after None left makes prints = record {
    done = λ none. (left, prints);
    leaves = leaves_weaker (LeavesHistory s h (Ok tt)) (LeavesTable start bytes None h) made_leaves after.store makes.leaves;
    images = Extends-weaker (making.StandsForEither s h) (IsImage start bytes h) first.ops after.store.ops (λ f is. imaged start bytes h f (either f is)) makes.images;
    cause = tt;
    complete = λ other is none absent no_fault. tt;
  }
  done_table before after (Some e) left makes (fault, failed, prefix) =
      subst (λ (e : Refusal). CreatesTable start h bytes first before after (Some e)) (sym fault) (record {
        done = λ none. absurd (some_none (refusals.SinkFault None) none);
        leaves = leaves_weaker (LeavesHistory s h (Ok tt)) (LeavesTable start bytes (Some (refusals.SinkFault None)) h) made_leaves after.store makes.leaves;
        images = Extends-weaker (making.StandsForEither s h) (IsImage start bytes h) first.ops after.store.ops (λ f is. imaged start bytes h f (either f is)) makes.images;
        cause = tt;
        complete = λ other is none absent no_fault. no_fault.out failed;
      })

  -- or it wasn't
  not_leaves : (e : Refusal) (after : StoreView) → IsCaused (its_table start s) h first after (Err e) → (f : Files) → LeavesHistory s h (Err e) f
      → LeavesTable start bytes (Some e) h f
  not_leaves (refusals.SinkFault snapshot) after caused f leaves = absurd caused
  not_leaves (refusals.StoreFault path) after caused f (inl folder) = inl folder
  not_leaves (refusals.StoreFault path) after caused f (inr (at, none, folder)) = inr (at, none, draft_stands start bytes s draft f folder)
  not_leaves e after caused f leaves = leaves

  not_cause : (e : Refusal) (after : StoreView) → IsCaused (its_table start s) h first after (Err e) → HadCause start h first (Some e)
  not_cause refusals.TableExists after caused = caused
  not_cause (refusals.SessionUsed path) after (is, there) = (is, subst (λ (path : List ℕ). IsThere path first) is there)
  not_cause e after caused = tt

  not_served : (e : Refusal) → IsMadeOrMemory (Err e) → IsServed (Some e)
  not_served refusals.Memory is = tt
  not_served e is = absurd is

  not_table : (before after : Outside) (e : Refusal) → making.MakesTable (its_table start s) h first after.store (Err e)
      → CreatesTable start h bytes first before after (Some e)
  not_table before after e makes = record {
    done = λ none. absurd (some_none e none);
    leaves = leaves_weaker (LeavesHistory s h (Err e)) (LeavesTable start bytes (Some e) h) (not_leaves e after.store makes.cause) after.store makes.leaves;
    images = Extends-weaker (making.StandsForEither s h) (IsImage start bytes h) first.ops after.store.ops (λ f is. imaged start bytes h f (either f is)) makes.images;
    cause = not_cause e after.store makes.cause;
    complete = λ other is none absent no_fault. not_served e (makes.complete none absent no_fault.store);
  }

  either_way : (before after : Outside) (made : Result (Unit {0}) Refusal) (answer : Option Refusal) → after.input.left ≡ Some []
      → making.MakesTable (its_table start s) h first after.store made → Prints created_text None (result_err made) before.out after.out answer
      → CreatesTable start h bytes first before after answer
  either_way before after (Ok x) answer left makes prints = done_table before after answer left makes prints
  either_way before after (Err e) answer left makes (is, untaken) =
      subst (λ (answer : Option Refusal). CreatesTable start h bytes first before after answer) (sym is) (not_table before after e makes)

draft_of : (start : Start) (bytes : List ℕ) (s : TableSchema) (after : SourceView) → AnswersDraft (draft_making start) bytes after (Ok s) → IsDraftOf start bytes s
draft_of start bytes s after answers = record { within = answers.within; read = answers.read }

made_tables : (start : Start) (s : TableSchema) (before after : Outside) (answer : Option Refusal)
    → IfSome before.input.left (λ bytes. AnswersDraft (draft_making start) bytes after.input (Ok s))
    → IsMade (its_table start s) before.out after.out before.store after.store answer → CreatesTables start before after answer
made_tables start s before after answer read (made, trace, makes, prints) = λ alone h bytes folder is.
    let first = at_first_own before.store after.store in
    let answers = at_known (λ bytes. AnswersDraft (draft_making start) bytes after.input (Ok s)) before.input.left bytes is read in
    either_way start bytes s (draft_of start bytes s after.input answers) h first before after made answer answers.left (makes alone h folder) prints

pub draft_made : (start : Start) (origin : List ℕ) (s : TableSchema) (before after : Outside) (answer : Option Refusal)
    → origin ≡ (draft_making start).origin
    → IfSome before.input.left (λ bytes. ReadsDraft (record { origin = origin; now = start.now_millis }) bytes before.input after.input (Ok s))
    → IsMade (its_table start s) before.out after.out before.store after.store answer → CreatesTables start before after answer
draft_made start origin s before after answer is reads made =
    made_tables start s before after answer
    (subst (λ (origin : List ℕ). IfSome before.input.left (λ bytes. AnswersDraft (record { origin = origin; now = start.now_millis }) bytes after.input (Ok s))) is reads)
    made
