-- What a command has to do with, what it prints and says there, and how it ends.
use Rattle.std.specs.Prelude.{◌≡◌, ◌⊎◌, ℕ, ◌+◌, ◌≤◌, List, ◌∷◌, ◌++◌, decimal, Option, None, Some}
use Rattle.std.specs.FinMap as map
use Rattle.uuid.specs.Text.{hyphenated_text, hyphen, lower}
use Rattle.pm_base.specs.Faults.{Rose}
use Rattle.pm_base.specs.Known.{and_then}
use Rattle.pm_values.specs.declared.refusal.Refusal.{Refusal}
use Rattle.pm_values.specs.declared.refusal.Refusal.TheVariants as refusals
use Rattle.pm_io.specs.Sink.{SinkView, SinkFailed, TookPrefix}
use Rattle.pm_io.specs.Source.{SourceView, SourceFailed}
use Rattle.pm_store.specs.Files.{Files}
use Rattle.pm_store.specs.Images.{Extends}
use Rattle.pm_store.specs.Store.{StoreView, IsLater}
use Rattle.pm_model_history.specs.History.{History}
use Rattle.pm_model_folder.specs.Changes.{Actor}
use Rattle.pm_model_folder.specs.Folder.{Folder, KeepsConsumers}
use Rattle.pm_model_folder.specs.Ledger.{count_of}
use Rattle.pm_model_folder.specs.Paths.{snapshot_path}
use Rattle.pm_create.specs.Making.{LeavesFiles}
use Rattle.pm_command.specs.declared.start.Start.{Start}
use Rattle.pm_report.specs.Report.{code_of, report_text}

-- the actor of a command: its session and its number there
abbrev pub actor : Start → Actor
actor start = record { session = start.session; number = start.number }

-- an actor as a user: its session and its number
abbrev pub own_user : Actor → List ℕ
own_user me = hyphenated_text lower me.session ++ hyphen ∷ decimal me.number

-- what a command has to do with: its input, where it prints, and the store
pub record Outside : Type 0 where
  pub input : SourceView
  pub out : SinkView
  pub store : StoreView

abbrev pub outside : SourceView → SinkView → StoreView → Outside
outside input out store = record { input = input; out = out; store = store }

-- no count fell
pub record AllLater (before after : Outside) : Type 0 where
  pub input : before.input.faults ≤ after.input.faults
  pub out : before.out.faults ≤ after.out.faults
  pub store : IsLater before.store after.store

-- the sink and the store weren't called
pub record IsUntouched (before after : Outside) : Type 0 where
  pub store : after.store ≡ before.store
  pub out : after.out ≡ before.out

-- the work was done, or memory ran out
abbrev pub IsServed : Option Refusal → Type 0
IsServed None = Unit {0}
IsServed (Some refusals.Memory) = Unit {0}
IsServed (Some other) = ⊥

-- No fault was counted: of the input, of the sink, and of the store since its first call.
pub record HasNoFault (before : Outside) (first : StoreView) (after : Outside) : Type 0 where
  pub input : SourceFailed before.input after.input → ⊥
  pub out : SinkFailed before.out after.out → ⊥
  pub store : Rose first.faults after.store.faults → ⊥

-- What a command prints and answers, by why it made nothing, if it didn't: then the sink wasn't called. What it made is
-- printed as this text; where the sink failed in it, a prefix was, and the refusal names the snapshot that it made, if
-- it did.
abbrev pub Prints : List ℕ → Option ℕ → Option Refusal → SinkView → SinkView → Option Refusal → Type 0
Prints text snapshot None before after None = after.taken ≡ and_then before.taken text
Prints text snapshot None before after (Some e) =
    (e ≡ refusals.SinkFault snapshot) × SinkFailed before after × TookPrefix before.taken after.taken text
Prints text snapshot (Some refusal) before after answer = (answer ≡ Some refusal) × (after ≡ before)

-- the exit status: 0, or the number of the refusal
abbrev pub exit_code : Option Refusal → ℕ
exit_code None = 0
exit_code (Some refusal) = code_of refusal

-- what was said of an answer: nothing, and the sink wasn't called; or the line of the refusal, or a prefix of it where
-- a fault came
abbrev pub Said : Option Refusal → SinkView → SinkView → Type 0
Said None before after = after ≡ before
Said (Some refusal) before after =
    (after.taken ≡ and_then before.taken (report_text refusal))
    ⊎ (SinkFailed before after × TookPrefix before.taken after.taken (report_text refusal))

-- ---- a history

-- the path of the snapshot that a commit publishes
abbrev pub next_path : History → List ℕ
next_path h = snapshot_path (count_of h + 1)

-- no path has another content
abbrev pub HaveSame : Files → Files → Type 0
HaveSame f g = (path : List ℕ) → map.get g path ≡ map.get f path

-- the folder goes on to stand for the history, and no path has another content than at the first call
pub record Rests (h : History) (first after : StoreView) : Type 0 where
  pub folder : LeavesFiles (λ f. Folder f h) after
  pub same : LeavesFiles (λ f. LeavesFiles (HaveSame f) after) first

-- and so is it with each image of a crash
abbrev pub ImagesRest : History → StoreView → StoreView → Type 0
ImagesRest h first after = LeavesFiles (λ f. Extends (λ g. Folder g h × HaveSame f g) first.ops after.ops) first

-- in each image each consumer's file is as it was at the first call, and those are settled that were
abbrev pub ConsumersRest : History → StoreView → StoreView → Type 0
ConsumersRest h first after = LeavesFiles (λ f. Extends (KeepsConsumers h f) first.ops after.ops) first
