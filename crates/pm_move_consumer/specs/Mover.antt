-- A mover of a consumer: its phases, its call, and what the answer leads to.
use Rattle.std.specs.Prelude.{◌≡◌, ℕ, ◌+◌, ◌≤◌, List, Option, None, Some, false, Ok}
use Rattle.pm_values.specs.declared.refusal.Refusal.{Refusal}
use Rattle.pm_values.specs.declared.refusal.Refusal.TheVariants as refusals
use Rattle.pm_store.specs.declared.answer.Answer.{Answer}
use Rattle.pm_store.specs.declared.answer.Answer.TheVariants as answers
use Rattle.pm_store.specs.declared.answer.Swapped.TheVariants as swaps
use Rattle.pm_store.specs.declared.call.Call.{Call}
use Rattle.pm_store.specs.declared.call.Call.TheVariants as calls
use Rattle.pm_snapshot.specs.Consumer.{consumer_in, consumer_text}
use Rattle.pm_snapshot.specs.Names.{greatest}
use Rattle.pm_snapshot.specs.declared.consumer.Consumer.{Consumer}
use Rattle.pm_model_folder.specs.Changes.{IsPlain}
use Rattle.pm_model_folder.specs.Paths.{consumer_path}
use Rattle.pm_move_consumer.specs.declared.move_phase.MovePhase.{MovePhase}
use Rattle.pm_move_consumer.specs.declared.move_phase.MovePhase.TheVariants as phases

-- ---- what contracts see

-- a consumer that is moved past a snapshot: its name, the bytes of its file as they were read or written last, and the
-- snapshot that it reads next by these
pub record Moving : Type 0 where
  pub name : List ℕ
  pub expected : List ℕ
  pub next : ℕ

abbrev pub moving_of : List ℕ → List ℕ → ℕ → Moving
moving_of name expected next = record { name = name; expected = expected; next = next }

-- a consumer that isn't new and reads this snapshot next
abbrev pub known_consumer : ℕ → Consumer
known_consumer next = record { next = next; fresh = false }

-- What a consumer that is moved is: its name leads to a file of its own, the bytes say that it isn't new and reads this
-- snapshot next, and a name can bear that one's id.
pub record IsMoving (m : Moving) : Type 0 where
  pub plain : IsPlain m.name
  pub reads : consumer_in m.expected ≡ Ok (known_consumer m.next)
  pub within : m.next ≤ greatest

-- the path of its file
abbrev pub its_path : Moving → List ℕ
its_path m = consumer_path m.name

-- the bytes of its file once it reads the snapshot after that one next
abbrev pub moved_text : Moving → List ℕ
moved_text m = consumer_text (known_consumer (m.next + 1))

-- what a phase holds is the consumer's
abbrev pub IsOf : Moving → MovePhase → Type 0
IsOf m (phases.Swap path expected bytes) = (path ≡ its_path m) × (expected ≡ m.expected) × (bytes ≡ moved_text m)
IsOf m (phases.Moved bytes) = bytes ≡ moved_text m
IsOf m phases.Over = Unit {0}

-- the mover of a consumer that has made no call yet
abbrev pub new_mover : Moving → MovePhase
new_mover m = phases.Swap (its_path m) m.expected (moved_text m)

-- ---- its call

-- its next call, or none at its end
abbrev pub next_call : MovePhase → Option Call
next_call (phases.Swap path expected bytes) = Some (calls.Swap path (Some expected) bytes)
next_call (phases.Moved bytes) = None
next_call phases.Over = None

-- how many calls are left, where no refusal comes
abbrev pub calls_left : MovePhase → ℕ
calls_left (phases.Swap path expected bytes) = 1
calls_left (phases.Moved bytes) = 0
calls_left phases.Over = 0

-- ---- what the answer leads to

-- the phase after an answer that it goes on with: its file has the new bytes
abbrev pub Goes : MovePhase → Answer → MovePhase → Type 0
Goes (phases.Swap path expected bytes) (answers.Swapped swaps.Swapped) later = later ≡ phases.Moved bytes
Goes phase other later = ⊥

-- the refusal that an answer shows: the file was another by then, and this was found
abbrev pub Shown : MovePhase → Answer → Refusal → Type 0
Shown (phases.Swap path expected bytes) (answers.Swapped (swaps.Differs found)) refusal =
    refusal ≡ refusals.ConsumerMoved found
Shown phase other refusal = ⊥

-- the consumer was moved
abbrev pub IsDone : MovePhase → Type 0
IsDone (phases.Moved bytes) = Unit {0}
IsDone other = ⊥
