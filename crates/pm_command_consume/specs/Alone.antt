-- What `follow` with a consumer prints of a history, and what it leaves of it, where nobody else acts from its first
-- call of the store on.
use Rattle.std.specs.Prelude.{◌≡◌, ◌≢◌, ℕ, suc, ◌+◌, ◌-◌, ◌<◌, ◌≤◌, List, ◌∷◌, length, Contains}
use Rattle.std.specs.Prelude.{Bool, true, false, if◌then◌else◌, Option, None, Some, IsSome}
use Rattle.std.specs.FinMap as map
use Rattle.pm_base.specs.Faults.{Rose}
use Rattle.pm_base.specs.Known.{and_then}
use Rattle.pm_values.specs.declared.refusal.Refusal.{Refusal}
use Rattle.pm_values.specs.declared.refusal.Refusal.TheVariants as refusals
use Rattle.pm_io.specs.Sink.{SinkFailed, SinkView, TookPrefix}
use Rattle.pm_store.specs.Files.{Files}
use Rattle.pm_store.specs.Images.{Extends}
use Rattle.pm_store.specs.Store.{FromFirst, StoreView}
use Rattle.pm_options.specs.declared.kinds.Producer.TheVariants as producers
use Rattle.pm_schema.specs.Again.{IsDeclared}
use Rattle.pm_schema.specs.declared.schema.TableSchema.{TableSchema}
use Rattle.pm_model_consumers.specs.Claims.{Said, known_at, new_at}
use Rattle.pm_model_history.specs.History.{Entry, History, no_table, table}
use Rattle.pm_model_following.specs.Following.{frame}
use Rattle.pm_model_folder.specs.Consumers.{said_at}
use Rattle.pm_model_folder.specs.Folder.{Folder, HaveSettled}
use Rattle.pm_model_folder.specs.Paths.{consumer_path}
use Rattle.pm_create.specs.Making.{LeavesFiles}
use Rattle.pm_scan.specs.AllCalls.{path_of}
use Rattle.pm_register.specs.AllCalls.{IsGreatest, NoneExceeds}
use Rattle.pm_command.specs.Outside.{ImagesRest, Outside, Rests}
use Rattle.pm_command_follow.specs.Follow.{TellsChanges, Took}
use Rattle.pm_command_follow.specs.Printed.{count_from, start_of, text_so_far}
use Rattle.pm_command_consume.specs.Consume.{HasConsumed}
use Rattle.pm_command_consume.specs.declared.consuming.Consuming.{Consuming}

-- ---- where its frames begin

-- the snapshot that a consumer's file reads next, where it isn't new
abbrev pub settled_in : Option Said → Option ℕ
settled_in None = None
settled_in (Some said) = if said.fresh then None else Some said.next

abbrev pub settled_at : Files → List ℕ → Option ℕ
settled_at f name = settled_in (said_at f name)

-- the first snapshot: that of a settled consumer; else the one that is asked for, or the one after the newest, whatever
-- number a new file has
abbrev pub start_after : Option ℕ → Option ℕ → ℕ → ℕ
start_after (Some next) from newest = next
start_after None from newest = start_of from newest

-- whether the starting table is printed: where it is asked for, and no settled consumer gave the start
abbrev pub full_after : Option ℕ → Bool → Bool
full_after (Some next) full = false
full_after None full = full

-- What is followed: the schema and the entries of a table, the consumers that are settled, and the files as they are at
-- first, with the snapshot that the consumer's file reads next where it isn't new.
pub record Beginning : Type 0 where
  pub schema : TableSchema
  pub entries : List Entry
  pub names : List (List ℕ)
  pub files : Files
  pub known : Option ℕ

abbrev pub history_of : Beginning → History
history_of b = table b.schema b.entries

abbrev pub newest_of : Beginning → ℕ
newest_of b = length b.entries

abbrev pub start_at : Consuming → Beginning → ℕ
start_at c b = start_after b.known c.from (newest_of b)

abbrev pub full_at : Consuming → Beginning → Bool
full_at c b = full_after b.known c.full

-- how many frames there are
abbrev pub frames_at : Consuming → Beginning → ℕ
frames_at c b = count_from (start_at c b) (newest_of b)

-- the starting table, if it is printed, and so many frames
abbrev pub printed_at : Consuming → Beginning → ℕ → List ℕ
printed_at c b count = text_so_far b.schema b.entries (full_at c b) (start_at c b) count

-- the files stand for the history, the consumers of these names are settled, and the consumer's file says this
pub record Begins (c : Consuming) (b : Beginning) (f : Files) : Type 0 where
  pub files : f ≡ b.files
  pub folder : Folder f (history_of b)
  pub settled : HaveSettled f (history_of b) b.names
  pub known : b.known ≡ settled_at f c.name

-- ---- what it leaves

-- how far the consumer came: its file is as it was; it is new; or it is settled, and was moved past so many snapshots
pub data Stage : Type 0 where
  untouched : Stage
  fresh : Stage
  passed : (count : ℕ) → Stage

-- what its file is then
abbrev pub IsAt : Consuming → Beginning → Stage → Files → Type 0
IsAt c b untouched f = map.get f (consumer_path c.name) ≡ map.get b.files (consumer_path c.name)
IsAt c b fresh f = (b.known ≡ None) × (said_at f c.name ≡ Some (new_at (start_at c b)))
IsAt c b (passed count) f = said_at f c.name ≡ Some (known_at (start_at c b + count))

-- the consumers that are settled then: those that were, and this one once it was registered
abbrev pub names_with : Stage → Option ℕ → List ℕ → List (List ℕ) → List (List ℕ)
names_with untouched known name names = names
names_with fresh known name names = names
names_with (passed count) None name names = name ∷ names
names_with (passed count) (Some next) name names = names

abbrev pub names_at : Consuming → Beginning → Stage → List (List ℕ)
names_at c b stage = names_with stage b.known c.name b.names

-- only of a table whose schema is declared is the file another
abbrev pub IsDeclaredAt : Beginning → Stage → Type 0
IsDeclaredAt b untouched = Unit {0}
IsDeclaredAt b fresh = IsDeclared b.schema
IsDeclaredAt b (passed count) = IsDeclared b.schema

-- The files stand for the history, no path but the consumer's has another content, its file is that of the stage, and
-- so are the names that are settled.
pub record StandsAt (c : Consuming) (b : Beginning) (stage : Stage) (f : Files) : Type 0 where
  pub folder : Folder f (history_of b)
  pub declared : IsDeclaredAt b stage
  pub only : (path : List ℕ) → path ≢ consumer_path c.name → map.get f path ≡ map.get b.files path
  pub at : IsAt c b stage f
  pub settled : HaveSettled f (history_of b) (names_at c b stage)

abbrev pub Leaves : Consuming → Beginning → Stage → StoreView → Type 0
Leaves c b stage store = LeavesFiles (StandsAt c b stage) store

-- a crash leaves a stage at which no more snapshots were passed than these
abbrev pub IsWithin : ℕ → Stage → Type 0
IsWithin most untouched = Unit {0}
IsWithin most fresh = Unit {0}
IsWithin most (passed count) = count ≤ most

pub record IsImage (c : Consuming) (b : Beginning) (most : ℕ) (f : Files) : Type 0 where
  pub stage : Stage
  pub within : IsWithin most stage
  pub stands : StandsAt c b stage f

-- ---- what it answers

-- the file of the table's snapshot has gone, or is there
abbrev pub HasGone : Beginning → ℕ → Type 0
HasGone b id = map.get b.files (path_of b.schema id) ≡ None

abbrev pub IsThere : Beginning → ℕ → Type 0
IsThere b id = IsSome (map.get b.files (path_of b.schema id))

-- the table tells its changes, and its schema is declared
abbrev pub IsFollowed : Beginning → Type 0
IsFollowed b = TellsChanges b.schema × IsDeclared b.schema

-- The consumer was found settled, or was registered: its start isn't too high, and no floor exceeds it.
abbrev pub HasJoined : Consuming → Beginning → Type 0
HasJoined c b = IsFollowed b
    × (b.known ≡ None → (start_at c b ≤ suc (newest_of b)) × NoneExceeds b.files (start_at c b))

-- So many frames may be printed, behind the starting table, if that is: what they are of is there.
pub record HasFrames (c : Consuming) (b : Beginning) (count : ℕ) : Type 0 where
  pub joined : HasJoined c b
  pub within : count ≤ frames_at c b
  pub base : full_at c b ≡ true → IsThere b (start_at c b - 1)
  pub each : (id : ℕ) → start_at c b ≤ id → id < start_at c b + count → IsThere b id

-- and they were
abbrev pub PrintsFrames : Consuming → Beginning → ℕ → SinkView → SinkView → Type 0
PrintsFrames c b count before after = HasFrames c b count × Took (full_at c b) count (printed_at c b count) before after

-- The sink failed: in the starting table, where the consumer is settled at the start; or in the frame after so many,
-- behind these, past which the consumer was moved, and no further.
pub data BreaksOff (c : Consuming) (b : Beginning) (last : StoreView) (before after : SinkView) : ℕ → Type 0 where
  in_table : HasFrames c b 0 → full_at c b ≡ true → TookPrefix before.taken after.taken (printed_at c b 0)
      → Leaves c b (passed 0) last → BreaksOff c b last before after 0
  in_frame : (count : ℕ) → HasFrames c b (suc count)
      → TookPrefix (and_then before.taken (printed_at c b count)) after.taken
      (frame b.schema b.entries (start_at c b + count))
      → Leaves c b (passed count) last → BreaksOff c b last before after count

-- What it may be refused for before anything is printed, and what it leaves then. The table tells nothing; the
-- start that is asked for is too high; a floor exceeds it, and then the consumer is new; the snapshot of the starting
-- table has gone, and then it is settled at the start; a fault of the store was counted; or memory ran out.
abbrev pub Refuses : Consuming → Beginning → StoreView → StoreView → Refusal → Type 0
Refuses c b first last refusals.Memory = (stage : Stage) × IsWithin 0 stage × Leaves c b stage last
Refuses c b first last (refusals.StoreFault path) =
    Rose first.faults last.faults × ((stage : Stage) × IsWithin 0 stage × Leaves c b stage last)
Refuses c b first last refusals.NoChangelog =
    (b.schema.options.producer ≡ producers.None) × Leaves c b untouched last
Refuses c b first last (refusals.NoSnapshot id latest) = IsFollowed b × (b.known ≡ None) × (c.from ≡ Some id)
    × (latest ≡ newest_of b) × (suc latest < id) × Leaves c b untouched last
Refuses c b first last (refusals.BelowFloor next floor) = IsFollowed b × (b.known ≡ None) × (next ≡ start_at c b)
    × (next ≤ suc (newest_of b)) × IsGreatest b.files next floor × Leaves c b fresh last
Refuses c b first last (refusals.Expired id) = HasJoined c b × (b.known ≡ None) × (c.full ≡ true)
    × (id ≡ start_at c b - 1) × HasGone b id × Leaves c b (passed 0) last
Refuses c b first last other = ⊥

-- What it may be refused for once so many frames were printed, where the consumer was moved past so many: past all of
-- them, and the next snapshot has gone, which comes to no consumer that is settled at first and to none that was
-- registered; or past all but the last at most, after a fault of the store, or as memory ran out.
abbrev pub Stops : Consuming → Beginning → ℕ → StoreView → StoreView → Refusal → Type 0
Stops c b count first last refusals.Memory =
    (moved : ℕ) × (moved ≤ count) × (count ≤ suc moved) × Leaves c b (passed moved) last
Stops c b count first last (refusals.StoreFault path) = Rose first.faults last.faults
    × ((moved : ℕ) × (moved ≤ count) × (count ≤ suc moved) × Leaves c b (passed moved) last)
Stops c b count first last (refusals.Expired id) = (id ≡ start_at c b + count) × (id ≤ newest_of b) × HasGone b id
    × (b.known ≢ None) × (Contains b.names c.name → ⊥) × Leaves c b (passed count) last
Stops c b count first last other = ⊥

-- The answer to a table. All was printed, and the consumer is settled and reads the snapshot after the last next, or
-- the start where there was no frame. Or the sink failed; or nothing was printed, or some frames were, before a
-- refusal. Each time no more snapshots were passed, at any crash, than frames were printed whole.
pub data AnswersTable (c : Consuming) (b : Beginning) (first last : StoreView) (before after : SinkView)
    : Option Refusal → Type 0 where
  prints : PrintsFrames c b (frames_at c b) before after → Leaves c b (passed (frames_at c b)) last
      → LeavesFiles (λ f. HaveSettled f (history_of b) (c.name ∷ b.names)) last
      → Extends (IsImage c b (frames_at c b)) first.ops last.ops → AnswersTable c b first last before after None
  breaks_off : (count : ℕ) → BreaksOff c b last before after count → SinkFailed before after
      → Extends (IsImage c b count) first.ops last.ops
      → AnswersTable c b first last before after (Some (refusals.SinkFault None))
  refuses : (e : Refusal) → Refuses c b first last e → after ≡ before → Extends (IsImage c b 0) first.ops last.ops
      → AnswersTable c b first last before after (Some e)
  stops : (e : Refusal) (count : ℕ) → PrintsFrames c b count before after → Stops c b count first last e
      → Extends (IsImage c b count) first.ops last.ops → AnswersTable c b first last before after (Some e)

-- where there is no table it says so, or a fault of the store was counted, or memory ran out
abbrev pub RefusesNone : StoreView → StoreView → Refusal → Type 0
RefusesNone first last refusals.Memory = Unit {0}
RefusesNone first last (refusals.StoreFault path) = Rose first.faults last.faults
RefusesNone first last refusals.NoTable = Unit {0}
RefusesNone first last other = ⊥

-- nothing is printed, and the folder rests
pub record AnswersNone (first last : StoreView) (before after : SinkView) (answer : Option Refusal) : Type 0 where
  pub refusal : Refusal
  pub is : answer ≡ Some refusal
  pub cause : RefusesNone first last refusal
  pub out : after ≡ before
  pub rests : Rests no_table first last
  pub images : ImagesRest no_table first last

-- What it promises of histories, from its first call of the store on: of each that files stand for, with the consumers
-- that are settled.
pub record ConsumesFrom (c : Consuming) (before after : SinkView) (answer : Option Refusal) (first last : StoreView)
    : Type 0 where
  pub none : LeavesFiles (λ f. Folder f no_table) first → AnswersNone first last before after answer
  pub table : (b : Beginning) → LeavesFiles (Begins c b) first → AnswersTable c b first last before after answer

abbrev pub ConsumesAny : Consuming → SinkView → SinkView → StoreView → StoreView → Option Refusal → Type 0
ConsumesAny c out out_after store store_after answer = FromFirst (ConsumesFrom c out out_after answer) store store_after

-- what `follow` with a consumer answers, and what it does to a history
abbrev pub Consumes : Consuming → Outside → Outside → Option Refusal → Type 0
Consumes c before after answer = HasConsumed c before.out after.out before.store after.store answer

abbrev pub ConsumesTables : Consuming → Outside → Outside → Option Refusal → Type 0
ConsumesTables c before after answer = ConsumesAny c before.out after.out before.store after.store answer
