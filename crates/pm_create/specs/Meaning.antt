-- What a creator knows of the files and of the table, and what its steps mean for them.
use Rattle.std.specs.Prelude.{◌≡◌, ◌⊎◌, []}
use Rattle.pm_store.specs.Files.{Files}
use Rattle.pm_store.specs.Store.{StoreView}
use Rattle.pm_machine.specs.Moves.{Moves}
use Rattle.pm_model_history.specs.History.{History, IsTableOf, no_table, table}
use Rattle.pm_schema.specs.declared.schema.TableSchema.{TableSchema}
use Rattle.pm_model_folder.specs.Changes.{IsNoOrigin}
use Rattle.pm_model_folder.specs.Ledger.{Advances, Past, Stands}
use Rattle.pm_model_folder.specs.Meaning.{HasSnapshotAt}
use Rattle.pm_create.specs.Creator.{IsCreator, NewTable, own_origin}
use Rattle.pm_create.specs.declared.phase.Phase.{Phase}
use Rattle.pm_create.specs.declared.phase.Phase.TheVariants as phases

-- the history stays, or it was no table and is now this one, without entries
abbrev pub Begins : TableSchema → History → History → Type 0
Begins s h later = (later ≡ h) ⊎ ((h ≡ no_table) × (later ≡ table s []))

-- what the maker of a table may change: its actor's kinds of change, and of these only the making of its own table
pub record Makes (t : NewTable) (f : Files) (p : Past) (after : Files) (later : Past) : Type 0 where
  pub advances : Advances t.me f p after later
  pub begins : Begins t.schema p.history later.history

-- What the maker of a table knows in each phase, whatever others do: a table that is there names another origin than
-- its own; before its swap that origin stands; and once its table is made, there is this table.
abbrev pub KnowsAt : NewTable → Phase → Files → Past → Type 0
KnowsAt t (phases.Origin path bytes) f p = IsNoOrigin p.history path
KnowsAt t (phases.Schema bytes) f p = HasSnapshotAt f t.schema 0 × IsNoOrigin p.history (own_origin t.me)
KnowsAt t phases.Created f p = IsTableOf t.schema p.history
KnowsAt t phases.Over f p = Unit {0}

abbrev pub Knows : NewTable → Phase → Files → Past → Type 0
Knows t phase f p = IsCreator t phase × KnowsAt t phase f p

-- Whichever table is made: a step makes one of these changes, or none, and what the creator knows holds after it.
abbrev pub CreatorMoved : Phase → Phase → StoreView → StoreView → Type 0
CreatorMoved old new before after = (t : NewTable) → Moves Stands (Makes t) (Knows t old) (Knows t new) before after

-- ---- the table beside the past

-- The table that is made stands beside the pasts, since phases don't hold it: what is known and changed in each depends
-- on it, and it stays.
abbrev pub Beside : Type 0
Beside = NewTable × Past

abbrev pub StandsBeside : Files → Beside → Type 0
StandsBeside f b = Stands f b.1

abbrev pub MakesBeside : Phase → Files → Beside → Files → Beside → Type 0
MakesBeside phase f b after later = (later.0 ≡ b.0) × Makes b.0 f b.1 after later.1

abbrev pub KnowsBeside : Phase → Files → Beside → Type 0
KnowsBeside phase f b = Knows b.0 phase f b.1
