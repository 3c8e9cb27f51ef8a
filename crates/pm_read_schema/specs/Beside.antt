-- What calls of readers make known of a table, whatever others do before, between and after these.
use Rattle.std.specs.Prelude.{◌≡◌, ℕ, ◌<◌, ◌≤◌}
use Rattle.pm_values.specs.declared.refusal.Refusal.{Refusal}
use Rattle.pm_values.specs.declared.refusal.Refusal.TheVariants as refusals
use Rattle.pm_store.specs.Files.{Files}
use Rattle.pm_store.specs.Store.{StoreView}
use Rattle.pm_machine.specs.Beside.{Carries}
use Rattle.pm_model_history.specs.History.{IsTableOf, no_table}
use Rattle.pm_schema.specs.declared.schema.TableSchema.{TableSchema}
use Rattle.pm_model_folder.specs.Changes.{Actor}
use Rattle.pm_model_folder.specs.Ledger.{Advances, Past, Stands, count_of}
use Rattle.pm_model_folder.specs.Meaning.{HasSnapshotAt}

-- some actor makes a change of a kind that it may make
abbrev pub OthersAdvance : Files → Past → Files → Past → Type 0
OthersAdvance f p after q = (other : Actor) × Advances other f p after q

-- Of whatever the files stood for and was known with them before, this is known of what they stand for after, if others
-- change them by the kinds of change alone.
abbrev pub Learns : (Files → Past → Type 0) → (Files → Past → Type 0) → StoreView → StoreView → Type 0
Learns knew knows before after = Carries Stands OthersAdvance knew knows before after

-- nothing need be known
abbrev pub AnyPast : Files → Past → Type 0
AnyPast f p = Unit {0}

-- ---- why they are refused

-- the snapshot with the id was committed, or is the origin, and isn't there
pub record IsExpired (f : Files) (p : Past) (id : ℕ) : Type 0 where
  pub schema : TableSchema
  pub table : IsTableOf schema p.history
  pub within : id ≤ count_of p.history
  pub absent : HasSnapshotAt f schema id → ⊥

-- What a reader's refusal tells of the files and of what they stand for, at the call that shows it: there is no table;
-- the snapshot that it names has gone; or that one is above the latest, which is the one that it names besides. Of want
-- of memory and of a fault of the store it tells nothing. And no other refusal comes: no file is damaged.
abbrev pub IsTold : Refusal → Files → Past → Type 0
IsTold refusals.Memory f p = Unit {0}
IsTold (refusals.StoreFault path) f p = Unit {0}
IsTold refusals.NoTable f p = p.history ≡ no_table
IsTold (refusals.NoSnapshot id latest) f p = (latest < id) × (latest ≡ count_of p.history)
IsTold (refusals.Expired id) f p = IsExpired f p id
IsTold other f p = ⊥
