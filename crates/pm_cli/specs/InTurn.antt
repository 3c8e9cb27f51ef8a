-- Commands that are executed one after another on one store, some of which a crash stops, and what they make of a
-- history. Each may have a handle of its own, as each process has: to it the calls of those before are others', and
-- faults count from 0. So what one hands on to the next are files.
use Rattle.std.specs.Prelude.{◌≡◌, ℕ, ◌≤◌, List, [], ◌∷◌, length, map, Contains, Some, IsSomeAnd, false}
use Rattle.std.specs.List.{AllByRecursion}
use Rattle.pm_store.specs.declared.call.Op.{Op}
use Rattle.pm_store.specs.Files.{files_after}
use Rattle.pm_store.specs.Images.{CrashImage}
use Rattle.pm_store.specs.Store.{StoreView, IsAlone}
use Rattle.pm_model_history.specs.History.{History}
use Rattle.pm_model_folder.specs.Paths.{consumer_path}
use Rattle.pm_command.specs.Outside.{actor}
use Rattle.pm_cli.specs.Commands.{Acts, IsSingle, ServesHistories}
use Rattle.pm_cli.specs.Promise.{Execution, HasMade, MayMake}
use Rattle.pm_cli.specs.Start.{HasInput, HaveOtherNames, MayExpire, MayTake, MayWrite}

-- it is one by `run`, whose clauses `acts` and `history` say this of the command that its words give, and executes no
-- others
pub record IsExecuted (e : Execution) : Type 0 where
  pub single : IsSingle e.command
  pub acts : Acts e.command e.start e.before e.after e.refusal
  pub history : ServesHistories e.command e.start e.before e.after e.refusal

-- how an execution went: to its end, or only up to a crash somewhere within it
pub data Ending : Type 0 where
  ended : Ending
  stopped : Ending

-- one of some executions, in their order
pub record Turn : Type 0 where
  pub execution : Execution
  pub ending : Ending

abbrev pub to_its_end : Execution → Turn
to_its_end e = record { execution = e; ending = ended }

-- the next store has the files that the execution left
abbrev pub HasItsFiles : Execution → StoreView → Type 0
HasItsFiles e next =
    IsSomeAnd e.after.store.ops (λ after. IsSomeAnd next.ops (λ ops. files_after ops ≡ files_after after))

-- it has those of an image of the execution, of its first call or a later moment
abbrev pub HasImage : Execution → StoreView → Type 0
HasImage e next =
    IsSomeAnd e.before.store.ops (λ before. IsSomeAnd e.after.store.ops (λ after. IsSomeAnd next.ops (λ ops.
    (i : ℕ) × (length before ≤ i) × CrashImage after i (files_after ops))))

-- the store that the next execution finds
abbrev pub HandsOn : Ending → Execution → StoreView → Type 0
HandsOn ended e next = HasItsFiles e next
HandsOn stopped e next = HasImage e next

-- an operation as another handle sees it
abbrev pub others_op : Op → Op
others_op op = record op { is_own = false }

-- the store after operations, as another handle sees it, of whose calls so many failed
abbrev pub seen_by_another : List Op → ℕ → StoreView
seen_by_another ops faults = record { ops = Some (map others_op ops); faults = faults }

-- Each finds the store that the one before handed on, the first one this, and the last hands on that. Nobody else acts,
-- and the inputs are known.
abbrev pub AreInTurn : StoreView → List Turn → StoreView → Type 0
AreInTurn store [] last = last ≡ store
AreInTurn store (t ∷ turns) last = (t.execution.before.store ≡ store) × IsExecuted t.execution
    × IsAlone store t.execution.after.store
    × HasInput t.execution.command t.execution.input t.execution.before.input.left
    × ((next : StoreView) × HandsOn t.ending t.execution next × AreInTurn next turns last)

-- no two of their actors give files the same names
abbrev pub HaveOwnNames : List Turn → Type 0
HaveOwnNames [] = Unit {0}
HaveOwnNames (t ∷ turns) =
    AllByRecursion (λ (next : Turn). HaveOtherNames (actor t.execution.start) (actor next.execution.start)) turns
    × HaveOwnNames turns

-- none of them takes the file of one of these consumers away
abbrev pub DropNone : List Turn → List (List ℕ) → Type 0
DropNone turns names = AllByRecursion (λ (t : Turn). (name : List ℕ) → Contains names name
    → MayTake t.execution.command (consumer_path name) → ⊥) turns

-- none takes the file at a path away, alone or with snapshots, or writes it; and none writes it
abbrev pub TouchNone : List Turn → List ℕ → Type 0
TouchNone turns path = AllByRecursion (λ (t : Turn). (MayTake t.execution.command path → ⊥)
    × (MayWrite t.execution.command path → ⊥) × (MayExpire t.execution.command path → ⊥)) turns

abbrev pub WriteNone : List Turn → List ℕ → Type 0
WriteNone turns path = AllByRecursion (λ (t : Turn). MayWrite t.execution.command path → ⊥) turns

-- what one made of a history: what its answer says, or where it was stopped what it may make
abbrev pub MakesBy : Ending → Execution → History → History → Type 0
MakesBy ended e h later = HasMade e h e.refusal later
MakesBy stopped e h later = MayMake e h later

-- each goes on from the history that the one before made
abbrev pub MakeInTurn : List Turn → History → History → Type 0
MakeInTurn [] h last = last ≡ h
MakeInTurn (t ∷ turns) h last = (later : History) × MakesBy t.ending t.execution h later × MakeInTurn turns later last
