-- The call of a reader of the latest snapshot's id: what it says of a history that stands at it, where nobody else
-- acts.
use Rattle.std.specs.Prelude.{◌≡◌, ℕ, List, Result, Ok, Err, IfOk, IfErr}
use Rattle.pm_base.specs.Faults.{Rose}
use Rattle.pm_values.specs.declared.refusal.Refusal.{Refusal}
use Rattle.pm_values.specs.declared.refusal.Refusal.TheVariants as refusals
use Rattle.pm_store.specs.Files.{Files}
use Rattle.pm_store.specs.Store.{StoreView, FromFirst}
use Rattle.pm_machine.specs.Trace.{Event}
use Rattle.pm_model_history.specs.History.{History}
use Rattle.pm_model_folder.specs.Folder.{Folder}
use Rattle.pm_model_folder.specs.Ledger.{count_of}
use Rattle.pm_read_schema.specs.AllCalls.{HasFiles, Stay}
use Rattle.pm_read_latest.specs.Trace.{HasLatest, Shows}

-- the calls by their answer: this is the latest of the snapshots that were listed, or they show the refusal
abbrev pub DidLatest : Result ℕ Refusal → List Event → Type 0
DidLatest (Ok latest) own = HasLatest latest own
DidLatest (Err refusal) own = Shows refusal own

-- what a refusal needs: a fault of the store was counted; or memory ran out
abbrev pub IsCaused : StoreView → StoreView → Refusal → Type 0
IsCaused first after refusals.Memory = Unit {0}
IsCaused first after (refusals.StoreFault path) = Rose first.faults after.faults
IsCaused first after other = ⊥

-- What it finds where the files stand for a history at the call, and nobody else acts from then on: the files stay, the
-- id is that of the history's last entry, and a refusal has its cause.
pub record FindsLatest (f : Files) (h : History) (first after : StoreView) (result : Result ℕ Refusal) : Type 0 where
  pub files : Stay f first after
  pub latest : IfOk result (λ latest. latest ≡ count_of h)
  pub cause : IfErr result (IsCaused first after)

-- what it promises of histories, from the call on
abbrev pub FindsLatests : StoreView → StoreView → Result ℕ Refusal → Type 0
FindsLatests before after result =
    FromFirst (λ first after. (f : Files) (h : History) → HasFiles f first → Folder f h
    → FindsLatest f h first after result) before after
