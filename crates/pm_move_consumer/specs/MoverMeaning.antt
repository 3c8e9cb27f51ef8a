-- What a mover knows of the table, and what its step means for the files and for what is known of its name.
use Rattle.std.specs.Prelude.{◌≡◌, ◌⊎◌, ℕ, ◌≤◌, List, Some}
use Rattle.std.specs.FinMap as map
use Rattle.pm_store.specs.Files.{Files, Puts}
use Rattle.pm_store.specs.Store.{StoreView}
use Rattle.pm_machine.specs.Moves.{IsKept, Moves}
use Rattle.pm_model_consumers.specs.Claims.{moved_past, with_claim}
use Rattle.pm_model_history.specs.History.{History, IsTableOf}
use Rattle.pm_schema.specs.declared.schema.TableSchema.{TableSchema}
use Rattle.pm_model_folder.specs.Changes.{Actor, HavePlainNames}
use Rattle.pm_model_folder.specs.Consumers.{frame_in}
use Rattle.pm_model_folder.specs.Ledger.{Advances, Past, Stands, count_of}
use Rattle.pm_move_consumer.specs.Mover.{IsMoving, IsOf, Moving, its_path, moved_text}
use Rattle.pm_move_consumer.specs.declared.move_phase.MovePhase.{MovePhase}
use Rattle.pm_move_consumer.specs.declared.move_phase.MovePhase.TheVariants as phases

-- a move: who makes it, the consumer that is moved, and the text that was printed before
pub record Move : Type 0 where
  pub me : Actor
  pub moving : Moving
  pub text : List ℕ

abbrev pub move_by : Actor → Moving → List ℕ → Move
move_by me moving text = record { me = me; moving = moving; text = text }

-- a table is there, whose names lead to no file of a consumer
abbrev pub HasPlainTable : History → Type 0
HasPlainTable h = (s : TableSchema) × IsTableOf s h × HavePlainNames s

-- the text that was printed is the frame of a snapshot of the table, whether or not that has gone
pub record IsPrinted (m : Move) (h : History) : Type 0 where
  pub table : HasPlainTable h
  pub within : m.moving.next ≤ count_of h
  pub frame : m.text ≡ frame_in h m.moving.next

-- The consumer was moved past the text. Its file had the bytes that were expected, and has those of the next number; no
-- other path has another content; and of all that is known its name alone has something new, that text where it was
-- settled.
pub record IsMovedPast (m : Move) (f : Files) (p : Past) (after : Files) (later : Past) : Type 0 where
  pub advances : Advances m.me f p after later
  pub found : map.get f (its_path m.moving) ≡ Some m.moving.expected
  pub puts : Puts f (its_path m.moving) (Some (moved_text m.moving)) after
  pub past : later ≡ record p {
    claims = with_claim m.moving.name (moved_past m.text (p.claims m.moving.name)) p.claims;
  }

-- what a mover may change: nothing, or this
abbrev pub MayMovePast : Move → Files → Past → Files → Past → Type 0
MayMovePast m f p after later = IsKept f p after later ⊎ IsMovedPast m f p after later

-- What the mover knows in each phase, whatever others do: that what was printed is the frame.
abbrev pub KnowsAt : Move → MovePhase → Files → Past → Type 0
KnowsAt m phases.Over f p = Unit {0}
KnowsAt m phase f p = IsPrinted m p.history

abbrev pub Knows : Move → MovePhase → Files → Past → Type 0
Knows m phase f p = IsMoving m.moving × IsOf m.moving phase × KnowsAt m phase f p

-- Whichever move it is: its step makes one of these changes, or none, and what the mover knows holds after it.
abbrev pub MoverMoved : MovePhase → MovePhase → StoreView → StoreView → Type 0
MoverMoved old new before after = (m : Move) → Moves Stands (MayMovePast m) (Knows m old) (Knows m new) before after

-- ---- the move beside the past

-- The move stands beside the pasts, since phases don't hold it: what is known and changed in each depends on it, and it
-- stays.
abbrev pub Beside : Type 0
Beside = Move × Past

abbrev pub StandsBeside : Files → Beside → Type 0
StandsBeside f b = Stands f b.1

abbrev pub MovesBeside : MovePhase → Files → Beside → Files → Beside → Type 0
MovesBeside phase f b after later = (later.0 ≡ b.0) × MayMovePast b.0 f b.1 after later.1

abbrev pub KnowsBeside : MovePhase → Files → Beside → Type 0
KnowsBeside phase f b = Knows b.0 phase f b.1
