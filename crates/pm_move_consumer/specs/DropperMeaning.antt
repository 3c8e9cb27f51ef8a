-- What a dropper knows of the table, and what its step means for the files and for what is known of its name.
use Rattle.std.specs.Prelude.{◌≡◌, ◌⊎◌, ℕ, List, None, IsSome}
use Rattle.std.specs.FinMap as map
use Rattle.pm_store.specs.Files.{Files, Puts}
use Rattle.pm_store.specs.Store.{StoreView}
use Rattle.pm_machine.specs.Moves.{IsKept, Moves}
use Rattle.pm_model_consumers.specs.Claims.{free, with_claim}
use Rattle.pm_model_folder.specs.Changes.{Actor, IsPlain}
use Rattle.pm_model_folder.specs.Ledger.{Advances, Past, Stands}
use Rattle.pm_model_folder.specs.Paths.{consumer_path}
use Rattle.pm_move_consumer.specs.Dropper.{IsOf}
use Rattle.pm_move_consumer.specs.MoverMeaning.{HasPlainTable}
use Rattle.pm_move_consumer.specs.declared.drop_phase.DropPhase.{DropPhase}
use Rattle.pm_move_consumer.specs.declared.drop_phase.DropPhase.TheVariants as phases

-- a drop: who makes it, and the name of the consumer
pub record Drop : Type 0 where
  pub me : Actor
  pub name : List ℕ

abbrev pub drop_by : Actor → List ℕ → Drop
drop_by me name = record { me = me; name = name }

-- The consumer went. Its file was there and is absent; no other path has another content; and nothing is known of its
-- name any more.
pub record IsGone (d : Drop) (f : Files) (p : Past) (after : Files) (later : Past) : Type 0 where
  pub advances : Advances d.me f p after later
  pub there : IsSome (map.get f (consumer_path d.name))
  pub puts : Puts f (consumer_path d.name) None after
  pub past : later ≡ record p { claims = with_claim d.name free p.claims }

-- what a dropper may change: nothing, or this
abbrev pub MayDrop : Drop → Files → Past → Files → Past → Type 0
MayDrop d f p after later = IsKept f p after later ⊎ IsGone d f p after later

-- What the dropper knows in each phase, whatever others do: that there is a table.
abbrev pub KnowsAt : Drop → DropPhase → Files → Past → Type 0
KnowsAt d phases.Over f p = Unit {0}
KnowsAt d phase f p = HasPlainTable p.history

abbrev pub Knows : Drop → DropPhase → Files → Past → Type 0
Knows d phase f p = IsPlain d.name × IsOf d.name phase × KnowsAt d phase f p

-- Whichever drop it is: its step makes one of these changes, or none, and what the dropper knows holds after it.
abbrev pub DropperMoved : DropPhase → DropPhase → StoreView → StoreView → Type 0
DropperMoved old new before after = (d : Drop) → Moves Stands (MayDrop d) (Knows d old) (Knows d new) before after

-- ---- the drop beside the past

-- The drop stands beside the pasts, since phases don't hold it: what is known and changed in each depends on it, and it
-- stays.
abbrev pub Beside : Type 0
Beside = Drop × Past

abbrev pub StandsBeside : Files → Beside → Type 0
StandsBeside f b = Stands f b.1

abbrev pub DropsBeside : DropPhase → Files → Beside → Files → Beside → Type 0
DropsBeside phase f b after later = (later.0 ≡ b.0) × MayDrop b.0 f b.1 after later.1

abbrev pub KnowsBeside : DropPhase → Files → Beside → Type 0
KnowsBeside phase f b = Knows b.0 phase f b.1
