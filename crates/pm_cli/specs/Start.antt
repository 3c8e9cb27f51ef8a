-- Where a command may start, what it reads, by which call it makes what it makes, and what it prints of that, or before
-- a refusal.
use Rattle.std.specs.Prelude.{◌≡◌, ◌≢◌, ◌⊎◌, ℕ, suc, ◌≤◌, List, [], ◌++◌, codes, decimal, length, nat_lt, if◌then◌else◌}
use Rattle.std.specs.Prelude.{Bool, Option, Some, None}
use Rattle.pm_base.specs.Known.{and_then}
use Rattle.pm_base.specs.Newline.{line}
use Rattle.pm_io.specs.Sink.{SinkView}
use Rattle.pm_store.specs.Files.{Files}
use Rattle.pm_store.specs.Store.{StoreView}
use Rattle.pm_schema.specs.declared.schema.TableSchema.{TableSchema}
use Rattle.pm_model_history.specs.History.{Entry, History, no_table, table}
use Rattle.pm_model_folder.specs.Changes.{Actor, HavePlainNames, IsNoOrigin, IsOwn, IsSnapshotPath, origin_name}
use Rattle.pm_model_folder.specs.Commits.{Names}
use Rattle.pm_model_folder.specs.Folder.{Folder}
use Rattle.pm_model_folder.specs.Paths.{consumer_path, floor_path, schema_path}
use Rattle.pm_create.specs.Creator.{own_origin}
use Rattle.pm_create.specs.Making as making
use Rattle.pm_create.specs.Making.{LeavesFiles}
use Rattle.pm_commit.specs.AllCalls as commit
use Rattle.pm_commit.specs.Meaning.{path_after}
use Rattle.pm_command.specs.Outside.{next_path}
use Rattle.pm_command_consume.specs.Alone.{full_after, settled_at, start_after}
use Rattle.pm_command_follow.specs.Follow.{PrintsSome}
use Rattle.pm_command_follow.specs.Printed.{count_from, text_so_far}
use Rattle.pm_words.specs.declared.command.Command.{Command}
use Rattle.pm_words.specs.declared.command.Command.TheVariants as commands

-- files that stand for the history, in which a command of this actor may start
abbrev pub MayStart : Command → Actor → History → Files → Type 0
MayStart commands.Create me h f = making.MayStart me h f
MayStart (commands.Scan at) me h f = Folder f h
MayStart commands.Snapshots me h f = Folder f h
MayStart (commands.Consumers dropped) me h f = Folder f h
MayStart (commands.Compact full) me h f = commit.MayStart me h f
MayStart (commands.Expire min max millis) me h f = Folder f h
MayStart (commands.Follow from consumer full) me h f = Folder f h
MayStart (commands.Generate batches rows seed) me h f = making.MayStart me h f
MayStart (commands.Write user identifier) me h f = commit.MayStart me h f

-- These are the bytes of the input, where the command reads it.
abbrev pub HasInput : Command → List ℕ → Option (List ℕ) → Type 0
HasInput commands.Create bytes left = left ≡ Some bytes
HasInput (commands.Scan at) bytes left = Unit {0}
HasInput commands.Snapshots bytes left = Unit {0}
HasInput (commands.Consumers dropped) bytes left = Unit {0}
HasInput (commands.Compact full) bytes left = Unit {0}
HasInput (commands.Expire min max millis) bytes left = Unit {0}
HasInput (commands.Follow from consumer full) bytes left = Unit {0}
HasInput (commands.Generate batches rows seed) bytes left = Unit {0}
HasInput (commands.Write user identifier) bytes left = left ≡ Some bytes

-- The file at this path is one that the command may make: its table's origin and schema; or its actor's own and the
-- next snapshot.
abbrev pub MayAdd : Command → Actor → History → List ℕ → Type 0
MayAdd commands.Create me h path = (path ≡ own_origin me) ⊎ (path ≡ schema_path 0)
MayAdd (commands.Compact full) me h path = IsOwn me path ⊎ (path ≡ path_after h)
MayAdd (commands.Write user identifier) me h path = IsOwn me path ⊎ (path ≡ path_after h)
MayAdd other me h path = ⊥

-- one that it may take away: that of the consumer which it drops
abbrev pub MayTake : Command → List ℕ → Type 0
MayTake (commands.Consumers (Some name)) path = path ≡ consumer_path name
MayTake other path = ⊥

-- and one that it may write: that of the consumer which it follows with
abbrev pub MayWrite : Command → List ℕ → Type 0
MayWrite (commands.Follow from (Some name) full) path = path ≡ consumer_path name
MayWrite other path = ⊥

-- The file of a snapshot of some table, or of its origin; one that a snapshot names, of whatever files; or a floor.
abbrev pub IsOfSnapshots : List ℕ → Type 0
IsOfSnapshots path = ((s : TableSchema) × (id : ℕ) × HavePlainNames s
    × (IsSnapshotPath s id path ⊎ ((f : Files) × Names f s id path))) ⊎ ((n : ℕ) × (path ≡ floor_path n))

-- and one that it may take away with snapshots which aren't kept
abbrev pub MayExpire : Command → List ℕ → Type 0
MayExpire (commands.Expire min max millis) path = IsOfSnapshots path
MayExpire other path = ⊥

-- the path of the call by which it makes what it makes of a history, where it makes another one
abbrev pub changed_path : Command → History → List ℕ
changed_path commands.Create h = schema_path 0
changed_path (commands.Compact full) h = next_path h
changed_path (commands.Write user identifier) h = next_path h
changed_path other h = []

-- the snapshot that was made: that of the entry which the later history has more
abbrev pub snapshot_made : History → History → Option ℕ
snapshot_made (table s entries) (table t more) =
    if nat_lt (length entries) (length more) then Some (length more) else None
snapshot_made h later = None

-- what is printed of a commit that comes after these entries
abbrev pub committed_text : List Entry → List ℕ
committed_text es = line (codes "snapshot " ++ decimal (suc (length es)))

-- What a following with a consumer prints up to so many frames, where its file is that of a settled one which reads
-- this snapshot next, or isn't: from there without the starting table, or as it is asked for.
abbrev pub pieces_of : TableSchema → List Entry → Option ℕ → Option ℕ → Bool → ℕ → List ℕ
pieces_of s es known from full count =
    text_so_far s es (full_after known full) (start_after known from (length es)) count

-- how many frames there are, and all that it prints
abbrev pub frames_after : List Entry → Option ℕ → Option ℕ → ℕ
frames_after es known from = count_from (start_after known from (length es)) (length es)

abbrev pub consumed_text : TableSchema → List Entry → Option ℕ → Option ℕ → Bool → List ℕ
consumed_text s es known from full = pieces_of s es known from full (frames_after es known from)

-- the first pieces of it were printed, where the store that it found has the consumer's file
abbrev pub PrintsPieces : History → List ℕ → Option ℕ → Bool → StoreView → SinkView → SinkView → Type 0
PrintsPieces no_table name from full found before after = after ≡ before
PrintsPieces (table s es) name from full found before after = (after ≡ before)
    ⊎ ((known : Option ℕ) × LeavesFiles (λ f. settled_at f name ≡ known) found
    × ((count : ℕ) × (count ≤ frames_after es known from)
    × (after.taken ≡ and_then before.taken (pieces_of s es known from full count))))

-- What the sink took before a refusal, where this store was found: nothing, but the first pieces of what `follow`
-- prints.
abbrev pub LeavesOut : Command → StoreView → History → SinkView → SinkView → Type 0
LeavesOut (commands.Follow from None full) found h before after = PrintsSome h from full before after
LeavesOut (commands.Follow from (Some name) full) found h before after =
    PrintsPieces h name from full found before after
LeavesOut other found h before after = after ≡ before

-- Files that stand for the history, to which the actor is new: neither the origin of the table nor a file that a
-- snapshot names bears its name.
pub record IsNew (me : Actor) (h : History) (f : Files) : Type 0 where
  pub folder : Folder f h
  pub origin : IsNoOrigin h (own_origin me)
  pub names : commit.NamesNone me h f

-- two actors give their files other names
abbrev pub HaveOtherNames : Actor → Actor → Type 0
HaveOtherNames me other = origin_name other ≢ origin_name me
