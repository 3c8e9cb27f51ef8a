-- All calls of a reader of a schema, one after another: what they are, and what they say of a history that stands at
-- the first one, where nobody else acts from then on.
use Rattle.std.specs.Prelude.{◌≡◌, List, IsSomeAnd, Result, Ok, Err, IfOk, IfErr}
use Rattle.pm_base.specs.Faults.{Rose}
use Rattle.pm_values.specs.declared.refusal.Refusal.{Refusal}
use Rattle.pm_values.specs.declared.refusal.Refusal.TheVariants as refusals
use Rattle.pm_store.specs.Files.{Files, files_after}
use Rattle.pm_store.specs.Images.{Extends}
use Rattle.pm_store.specs.Store.{StoreView, FromFirst}
use Rattle.pm_machine.specs.Trace.{Event}
use Rattle.pm_model_history.specs.History.{History, IsTableOf}
use Rattle.pm_schema.specs.declared.schema.TableSchema.{TableSchema}
use Rattle.pm_model_folder.specs.Folder.{Folder}
use Rattle.pm_read_schema.specs.Meaning.{MayRefuse}
use Rattle.pm_read_schema.specs.Trace.{Did, Shows}
use Rattle.pm_read_schema.specs.declared.phase.Phase.TheVariants as phases

-- the calls of the reading of a schema, by its answer: this schema was read, or they show the refusal
abbrev pub DidRead : Result TableSchema Refusal → List Event → Type 0
DidRead (Ok s) own = Did (phases.Ready s) own
DidRead (Err refusal) own = Shows refusal own

-- the store's operations are known, and leave these files
abbrev pub HasFiles : Files → StoreView → Type 0
HasFiles f store = IsSomeAnd store.ops (λ ops. files_after ops ≡ f)

-- the files stay: they are the same at the end, and in each image
pub record Stay (f : Files) (first after : StoreView) : Type 0 where
  pub here : HasFiles f after
  pub images : Extends (λ image. image ≡ f) first.ops after.ops

-- What a refusal needs where the files stand for this history: a fault of the store was counted since the first call,
-- and else what answers may show.
abbrev pub IsCaused : History → StoreView → StoreView → Refusal → Type 0
IsCaused h first after (refusals.StoreFault path) = Rose first.faults after.faults
IsCaused h first after other = MayRefuse h other

-- What the reading of a schema is where the files stand for a history at its first call, and nobody else acts from then
-- on: the schema is the table's, and a refusal has its cause.
pub record ReadsTable (f : Files) (h : History) (first after : StoreView) (result : Result TableSchema Refusal)
    : Type 0 where
  pub files : Stay f first after
  pub schema : IfOk result (λ s. IsTableOf s h)
  pub cause : IfErr result (IsCaused h first after)

-- what it promises of histories, from its first call on
abbrev pub ReadsTables : StoreView → StoreView → Result TableSchema Refusal → Type 0
ReadsTables before after result =
    FromFirst (λ first after. (f : Files) (h : History) → HasFiles f first → Folder f h
    → ReadsTable f h first after result) before after
