-- The promise: what each command does, in the words of histories, and what is so of all of them.
use Rattle.std.specs.Prelude.{◌≡◌, ◌≢◌, ◌⊎◌, ℕ, suc, ◌+◌, ◌≤◌, List, [], ◌∷◌, ◌++◌, codes, length}
use Rattle.std.specs.Prelude.{Bool, Contains, Option, None, Some, Ok, slice_get}
use Rattle.std.specs.FinMap as map
use Rattle.pm_base.specs.Known.{and_then}
use Rattle.pm_base.specs.Newline.{line}
use Rattle.pm_values.specs.declared.group.Group.{Group}
use Rattle.pm_values.specs.declared.refusal.Refusal.{Refusal}
use Rattle.pm_values.specs.declared.refusal.Refusal.TheVariants as refusals
use Rattle.pm_io.specs.Sink.{TookPrefix}
use Rattle.pm_store.specs.Files.{Files}
use Rattle.pm_store.specs.Images.{Extends}
use Rattle.pm_store.specs.Store.{StoreView, FromFirst, at_first_own}
use Rattle.pm_input.specs.Lines.{row_lines}
use Rattle.pm_schema.specs.declared.schema.TableSchema.{TableSchema}
use Rattle.pm_model_history.specs.History.{Entry, compaction, History, no_table, table, rows_up_to}
use Rattle.pm_model_history.specs.Merge.{HistoryRow}
use Rattle.pm_model_history.specs.Merged.{scan_text}
use Rattle.pm_model_consumers.specs.Claims.{known_at}
use Rattle.pm_model_folder.specs.Changes.{Actor}
use Rattle.pm_model_folder.specs.Consumers.{said_at}
use Rattle.pm_model_folder.specs.Folder.{Folder, HaveSettled}
use Rattle.pm_model_folder.specs.Paths.{consumer_path}
use Rattle.pm_consumer_files.specs.Lines.{consumers_text}
use Rattle.pm_consumer_files.specs.declared.lines.NamedConsumer.{NamedConsumer}
use Rattle.pm_create.specs.Making.{LeavesFiles}
use Rattle.pm_write.specs.Taken.{all_taken}
use Rattle.pm_consumers.specs.AllCalls.{AreConsumersOf}
use Rattle.pm_move_consumer.specs.DropperAllCalls.{ItRests}
use Rattle.pm_scan.specs.AllCalls.{id_of}
use Rattle.pm_snapshots.specs.AllCalls.{AreLinesOf}
use Rattle.pm_snapshots.specs.Lines.{snapshots_text}
use Rattle.pm_snapshots.specs.declared.line.SnapshotLine.{SnapshotLine}
use Rattle.pm_expire.specs.AllCalls.{ChangesAt, IsEndIn}
use Rattle.pm_words.specs.declared.command.Command.{Command}
use Rattle.pm_words.specs.declared.command.Command.TheVariants as commands
use Rattle.pm_command.specs.Outside.{actor, Outside}
use Rattle.pm_command.specs.declared.start.Start.{Start}
use Rattle.pm_command_compact.specs.Compact.{HasChoice}
use Rattle.pm_command_consume.specs.Alone.{settled_at, start_after}
use Rattle.pm_command_consumers.specs.Drop.{ItEnds, WasThere, told_text}
use Rattle.pm_command_create.specs.Create.{IsDraftOf}
use Rattle.pm_command_expire.specs.Expire.{IsImage, IsLeftBy, OfTable, asked_by, kept_text}
use Rattle.pm_command_follow.specs.Follow.{MayStartAt, TellsChanges}
use Rattle.pm_command_follow.specs.Printed.{follow_text}
use Rattle.pm_command_write.specs.Write.{entry_by, identifier_of, writer_of}
use Rattle.pm_cli.specs.Commands.{keep_asked}
use Rattle.pm_cli.specs.Snapshots.{AreLines, HasReached, IsReachedAt}
use Rattle.pm_cli.specs.Start.{HasInput, HaveOtherNames, IsNew, LeavesOut, MayAdd, MayStart, MayTake, MayWrite}
use Rattle.pm_cli.specs.Start.{changed_path, committed_text, consumed_text, frames_after, pieces_of, snapshot_made}

-- What a command does, by its start, the bytes of its input and the store that it finds: of a history it makes a later
-- one, and prints the text.
pub data Does (start : Start) (bytes : List ℕ) (found : StoreView) : Command → History → History → List ℕ → Type 0 where
  creates : (s : TableSchema) → IsDraftOf start bytes s
      → Does start bytes found commands.Create no_table (table s []) (line (codes "created"))
  scans : (at : Option ℕ) (s : TableSchema) (es : List Entry) → id_of at (length es) ≤ length es
      → Does start bytes found (commands.Scan at) (table s es) (table s es)
      (scan_text s (rows_up_to es (id_of at (length es))))
  lists : (s : TableSchema) (es : List Entry) (lines : List SnapshotLine) → AreLines es lines
      → LeavesFiles (λ f. AreLinesOf f lines) found
      → Does start bytes found commands.Snapshots (table s es) (table s es) (snapshots_text lines)
  lists_consumers : (s : TableSchema) (es : List Entry) (consumers : List NamedConsumer)
      → LeavesFiles (λ f. AreConsumersOf f consumers) found
      → Does start bytes found (commands.Consumers None) (table s es) (table s es) (consumers_text consumers)
  drops : (name : List ℕ) (s : TableSchema) (es : List Entry) (was_there : Bool)
      → LeavesFiles (WasThere name was_there) found
      → Does start bytes found (commands.Consumers (Some name)) (table s es) (table s es) (told_text was_there)
  follows : (from : Option ℕ) (full : Bool) (s : TableSchema) (es : List Entry) → MayStartAt s es from
      → Does start bytes found (commands.Follow from None full) (table s es) (table s es) (follow_text s es from full)
  consumes : (name : List ℕ) (from known : Option ℕ) (full : Bool) (s : TableSchema) (es : List Entry)
      → LeavesFiles (λ f. settled_at f name ≡ known) found → TellsChanges s → (known ≡ None → MayStartAt s es from)
      → Does start bytes found (commands.Follow from (Some name) full) (table s es) (table s es)
      (consumed_text s es known from full)
  expires_none : (min max millis : Option ℕ) (s : TableSchema)
      → Does start bytes found (commands.Expire min max millis) (table s []) (table s [])
      (kept_text (record { first = 0; last = 0 }))
  expires : (min max millis : Option ℕ) (s : TableSchema) (es : List Entry) (end : ℕ) → es ≢ []
      → LeavesFiles (λ f. IsEndIn (asked_by start (keep_asked min max millis) s) f end) found
      → Does start bytes found (commands.Expire min max millis) (table s es) (table s es)
      (kept_text (record { first = end; last = length es }))
  rests : (full : Bool) (s : TableSchema) (es : List Entry) → LeavesFiles (HasChoice start full (table s es) []) found
      → Does start bytes found (commands.Compact full) (table s es) (table s es) (line (codes "nothing to compact"))
  compacts : (full : Bool) (s : TableSchema) (es : List Entry) (groups : List (Group × Bool)) → groups ≢ []
      → LeavesFiles (HasChoice start full (table s es) groups) found
      → Does start bytes found (commands.Compact full) (table s es)
      (table s (es ++ compaction (length es) groups ∷ [])) (committed_text es)
  takes_none : (user : Option (List ℕ)) (number : Option ℕ) (s : TableSchema) (es : List Entry)
      → all_taken s (row_lines bytes) ≡ Ok []
      → Does start bytes found (commands.Write user number) (table s es) (table s es) (line (codes "nothing to commit"))
  has_already : (user : List ℕ) (number : Option ℕ) (s : TableSchema) (es : List Entry) (rows : List HistoryRow)
      (i : ℕ) (e : Entry) → all_taken s (row_lines bytes) ≡ Ok rows → rows ≢ [] → slice_get es i ≡ Some e
      → HasReached user (identifier_of number) e → LeavesFiles (IsReachedAt (suc i) user (identifier_of number)) found
      → Does start bytes found (commands.Write (Some user) number) (table s es) (table s es) (line (codes "already"))
  commits : (user : Option (List ℕ)) (number : Option ℕ) (s : TableSchema) (es : List Entry) (rows : List HistoryRow)
      → all_taken s (row_lines bytes) ≡ Ok rows → rows ≢ []
      → Does start bytes found (commands.Write user number) (table s es)
      (table s (es ++ entry_by start (writer_of user number) rows ∷ [])) (committed_text es)

-- a command that was executed: what it was given, what was outside before and after, and why it was refused, if it was
pub record Execution : Type 0 where
  pub command : Command
  pub start : Start
  pub input : List ℕ
  pub before : Outside
  pub after : Outside
  pub refusal : Option Refusal

-- the store as it was at the first call
abbrev pub found_by : Execution → StoreView
found_by e = at_first_own e.before.store e.after.store

-- what it may make of a history: what its command does, or nothing
abbrev pub MayMake : Execution → History → History → Type 0
MayMake e h later = (later ≡ h) ⊎ ((text : List ℕ) × Does e.start e.input (found_by e) e.command h later text)

-- What it made, by its answer. After success or a fault of the sink it did it, and printed its text or a prefix of it;
-- else it did nothing, or in the call that failed all of it, and printed nothing, or the first pieces of its text.
abbrev pub HasMade : Execution → History → Option Refusal → History → Type 0
HasMade e h None later = (text : List ℕ) × Does e.start e.input (found_by e) e.command h later text
    × (e.after.out.taken ≡ and_then e.before.out.taken text)
HasMade e h (Some (refusals.SinkFault snapshot)) later = (text : List ℕ)
    × Does e.start e.input (found_by e) e.command h later text × TookPrefix e.before.out.taken e.after.out.taken text
    × (snapshot ≡ snapshot_made h later)
HasMade e h (Some (refusals.StoreFault path)) later =
    MayMake e h later × ((later ≡ h) ⊎ (path ≡ changed_path e.command h))
    × LeavesOut e.command (found_by e) h e.before.out e.after.out
HasMade e h (Some other) later = (later ≡ h) × LeavesOut e.command (found_by e) h e.before.out e.after.out

-- An expiry changes the file at a path: it takes it with snapshots that go, or makes the floor that tells their end.
abbrev pub ExpiresAt : Command → Start → History → Files → Files → List ℕ → Type 0
ExpiresAt (commands.Expire min max millis) start h was f path =
    OfTable h (λ s. ChangesAt (asked_by start (keep_asked min max millis) s) was f path)
ExpiresAt other start h was f path = ⊥

-- The file at a path is as it was at first; or it appeared, and the command may make it; or it has gone, and the
-- command may take it away; or the command may write it; or an expiry takes it with snapshots, or announces their end.
abbrev pub MayBecome : Execution → History → Files → Files → List ℕ → Type 0
MayBecome e h was f path = (map.get f path ≡ map.get was path)
    ⊎ (((map.get was path ≡ None) × MayAdd e.command (actor e.start) h path)
    ⊎ (((map.get f path ≡ None) × MayTake e.command path)
    ⊎ (MayWrite e.command path ⊎ ExpiresAt e.command e.start h was f path)))

-- what became of all files since the first call
abbrev pub Changes : Execution → History → StoreView → Files → Type 0
Changes e h first f = LeavesFiles (λ was. (path : List ℕ) → MayBecome e h was f path) first

-- Files stand for the history, no other file changed than the command may make, take away or write, and each other
-- actor that was new to the history at first is new to it. Each consumer that was settled is, but for one whose file
-- the command took away.
pub record StandsForOthers (e : Execution) (h : History) (first : StoreView) (later : History) (f : Files)
    : Type 0 where
  pub folder : Folder f later
  pub changes : Changes e h first f
  pub free : (other : Actor) → HaveOtherNames (actor e.start) other → LeavesFiles (IsNew other h) first
      → IsNew other later f
  pub settled : (names : List (List ℕ)) → ((name : List ℕ) → Contains names name
      → MayTake e.command (consumer_path name) → LeavesFiles (λ was. ItRests name was f) first)
      → LeavesFiles (λ was. HaveSettled was h names) first → HaveSettled f later names

-- A following that printed all left its consumer settled, behind the last frame.
abbrev pub EndsBehind : List ℕ → Option ℕ → History → StoreView → Files → Type 0
EndsBehind name from no_table first f = Unit {0}
EndsBehind name from (table s es) first f = HaveSettled f (table s es) (name ∷ [])
    × LeavesFiles (λ was. said_at f name ≡ Some (known_at (start_after (settled_at was name) from (length es)
    + frames_after es (settled_at was name) from))) first

-- What is left of what a command changes beside the history, by its answer. After a drop its consumer has no file, once
-- the remove was answered, whether or not the sink took what was told; else it is as it was, but that a fault of the
-- remove leaves it so or gone. After a following that printed all its consumer is settled, behind the last frame. After
-- an expiry all is gone that goes, and nothing else, once what is kept was told or the sink failed; else no path has
-- another content, but that want of memory and a fault of the store leave what a stop may, and a tag the floor.
abbrev pub LeavesOwn : Start → Command → History → Option Refusal → StoreView → Files → Type 0
LeavesOwn start (commands.Consumers (Some name)) h answer first f =
    LeavesFiles (λ was. ItEnds name answer was f) first
LeavesOwn start (commands.Expire min max millis) h answer first f =
    LeavesFiles (λ was. IsLeftBy start (keep_asked min max millis) h answer was f) first
LeavesOwn start (commands.Follow from (Some name) full) h None first f = EndsBehind name from h first f
LeavesOwn start other h answer first f = Unit {0}

-- Where the consumer of a following is settled one or more snapshots past the start, all frames up to there were
-- printed whole.
abbrev pub ArePrinted : Execution → List ℕ → Option ℕ → Bool → History → StoreView → Files → Type 0
ArePrinted e name from full no_table first f = Unit {0}
ArePrinted e name from full (table s es) first f = LeavesFiles (λ was. (count : ℕ)
    → said_at f name ≡ Some (known_at (start_after (settled_at was name) from (length es) + suc count))
    → (rest : List ℕ) × (e.after.out.taken ≡ and_then e.before.out.taken
    (pieces_of s es (settled_at was name) from full (suc count) ++ rest))) first

-- What a stop leaves of that, in each image: of a following no consumer that is past a frame which wasn't printed
-- whole; of an expiry the floor in part or whole, or so many of the removes, of which those of snapshots come first.
abbrev pub StopsOwn : Execution → Command → History → StoreView → Files → Type 0
StopsOwn e (commands.Expire min max millis) h first f =
    LeavesFiles (λ was. IsImage e.start (keep_asked min max millis) h was f) first
StopsOwn e (commands.Follow from (Some name) full) h first f = ArePrinted e name from full h first f
StopsOwn e other h first f = Unit {0}

-- Of a history that stands at its first call: what it made stands at the end, and in each image of a crash what it may
-- make; others are free to go on there, and who is settled stays so. At the end what it changed beside the history is
-- what the answer says, and in each image what a stop may leave of that.
pub record KeepsIt (e : Execution) (h : History) (first : StoreView) : Type 0 where
  pub later : History
  pub makes : HasMade e h e.refusal later
  pub ends : LeavesFiles (StandsForOthers e h first later) e.after.store
  pub own : LeavesFiles (LeavesOwn e.start e.command h e.refusal first) e.after.store
  pub images : Extends (λ f. (later : History) × MayMake e h later × StandsForOthers e h first later f)
      first.ops e.after.store.ops
  pub stops : Extends (StopsOwn e e.command h first) first.ops e.after.store.ops

-- the promise: so it is where nobody else acts from the first call on
abbrev pub Keeps : Execution → Type 0
Keeps e = FromFirst (λ first after. (h : History) → LeavesFiles (MayStart e.command (actor e.start) h) first
    → HasInput e.command e.input e.before.input.left → KeepsIt e h first) e.before.store e.after.store
