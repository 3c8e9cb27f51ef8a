-- What an expiry of a folder's files is where nobody else acts: its end, what goes with it, and what each image is.
use Rattle.std.specs.Prelude.{◌≡◌, ◌↔◌, ◌⊎◌, ℕ, ◌<◌, ◌≤◌, List, [], Contains, codes, Option, None, Some, IsSome}
use Rattle.std.specs.Prelude.{Result, Ok, Err}
use Rattle.std.specs.Cmp.Lexicographic.{slice_cmp}
use Rattle.std.specs.FinMap as map
use Rattle.std.specs.List.Sorted.{IsStrictlyIncreasing, IsStrictlySortedBy}
use Rattle.std.specs.Ordering.{nat_cmp}
use Rattle.pm_store.specs.Files.{Files, IsListing, Puts, carried}
use Rattle.pm_store.specs.Images.{Extends}
use Rattle.pm_store.specs.Store.{StoreView}
use Rattle.pm_store.specs.declared.call.Call.TheVariants as calls
use Rattle.pm_values.specs.declared.refusal.Refusal.{Refusal}
use Rattle.pm_values.specs.declared.refusal.Refusal.TheVariants as refusals
use Rattle.pm_machine.specs.Trace.{Event}
use Rattle.pm_create.specs.Making.{LeavesFiles}
use Rattle.pm_remove.specs.Meaning.{AreSame, HasLost}
use Rattle.pm_schema.specs.declared.schema.TableSchema.{TableSchema}
use Rattle.pm_consumer_files.specs.declared.lines.NamedConsumer.{NamedConsumer}
use Rattle.pm_snapshot.specs.Names.{greatest}
use Rattle.pm_model_folder.specs.Changes.{IsSnapshotPath}
use Rattle.pm_model_folder.specs.Commits.{Names, Needs}
use Rattle.pm_model_folder.specs.Ledger.{count_of}
use Rattle.pm_model_folder.specs.Meaning.{HasSnapshotAt}
use Rattle.pm_model_folder.specs.Paths.{consumer_path, floor_folder, floor_path}
use Rattle.pm_model_history.specs.History.{History, IsTableOf}
use Rattle.pm_model_expiry.specs.Removals.{removals}
use Rattle.pm_expire_end.specs.Expiry.{expire_end_of}
use Rattle.pm_read_schema.specs.AllCalls.{Stay}
use Rattle.pm_read_latest.specs.AllCalls.{IsCaused}
use Rattle.pm_snapshots.specs.AllCalls.{AreLinesOf, GoesOnFrom}
use Rattle.pm_snapshots.specs.declared.line.SnapshotLine.{SnapshotLine}
use Rattle.pm_consumers.specs.AllCalls.{AreConsumersOf}
use Rattle.pm_read_expiry.specs.Found.{IsNoneFound}
use Rattle.pm_read_expiry.specs.Times.{times_of, IsLeastNext}
use Rattle.pm_read_expiry.specs.declared.asking.Asking.{Asking}
use Rattle.pm_read_expiry.specs.declared.asking.Found.{Found}
use Rattle.pm_announce.specs.Tags.{IsFirstTag}
use Rattle.pm_expire.specs.Trace.{HasExpired, Shows}
use Rattle.pm_expire.specs.declared.all_calls.Kept.{Kept}

-- ---- its end

-- the end of an expiry of these files: that of all their snapshots and consumers
pub record IsEndIn (a : Asking) (f : Files) (end : ℕ) : Type 0 where
  pub lines : List SnapshotLine
  pub are_lines : AreLinesOf f lines
  pub consumers : List NamedConsumer
  pub are_consumers : AreConsumersOf f consumers
  pub next : Option ℕ
  pub is_next : IsLeastNext consumers next
  pub is : end ≡ expire_end_of (times_of lines) a.keep a.now next

-- the least snapshot after the origin
pub record IsFirst (f : Files) (s : TableSchema) (first : ℕ) : Type 0 where
  pub after_origin : 1 ≤ first
  pub within : first ≤ greatest
  pub there : HasSnapshotAt f s first
  pub none : (id : ℕ) → 1 ≤ id → id < first → HasSnapshotAt f s id → ⊥

-- some of the files' snapshots go: those from the first up to below the end
pub record HasToGo (a : Asking) (f : Files) (first end : ℕ) : Type 0 where
  pub is_end : IsEndIn a f end
  pub is_first : IsFirst f a.schema first
  pub some : first < end

-- ---- what goes

-- What goes with the snapshots below the end, the origin counted as 0: these themselves, what they name and the one at
-- the end doesn't, and the floors below that of the end.
pub data IsGivenBack (s : TableSchema) (f : Files) (end : ℕ) (path : List ℕ) : Type 0 where
  its_snapshot : (id : ℕ) → id < end → IsSnapshotPath s id path → IsGivenBack s f end path
  its_file : (id : ℕ) → 1 ≤ id → id < end → Names f s id path → (Names f s end path → ⊥) → IsGivenBack s f end path
  its_floor : (n : ℕ) → n < end → path ≡ floor_path n → IsGivenBack s f end path

-- the files with the floor of the end
abbrev pub announced : Files → ℕ → Files
announced f end = carried (calls.Create (floor_path end) []) f

-- Lost exactly: nothing of what goes is there, and each other path is as it was, but for the floor, which is there.
pub record HasGivenBack (s : TableSchema) (f : Files) (end : ℕ) (after : Files) : Type 0 where
  pub gone : (path : List ℕ) → IsGivenBack s f end path → map.get after path ≡ None
  pub others : (path : List ℕ) → (IsGivenBack s f end path → ⊥) → map.get after path ≡ map.get (announced f end) path

-- the removes of an expiry of these files, in their order: there is one such list
pub record AreRemovalsOf (s : TableSchema) (f : Files) (first end : ℕ) (paths : List (List ℕ)) : Type 0 where
  pub dropped : List (List ℕ)
  pub rising : IsStrictlySortedBy (slice_cmp nat_cmp) dropped
  pub named : (path : List ℕ) → Contains dropped path
      ↔ ((id : ℕ) × (first ≤ id) × (id < end) × Names f s id path × (Names f s end path → ⊥))
  pub floors : List ℕ
  pub rise : IsStrictlyIncreasing floors
  pub listed : (n : ℕ) → Contains floors n ↔ ((n < end) × IsSome (map.get f (floor_path n)))
  pub is : paths ≡ removals (record { schema = s; first = first; end = end; own = end }) dropped floors

-- ---- what it leaves

-- each image of a crash: as before; with the floor, in part or whole; or without the first so many of the removes
pub data IsImageOf (a : Asking) (f g : Files) : Type 0 where
  as_before : AreSame f g → IsImageOf a f g
  announcing : (first end : ℕ) (found : List ℕ) → HasToGo a f first end → map.get f (floor_path end) ≡ None
      → Puts f (floor_path end) (Some found) g → IsImageOf a f g
  removing : (first end : ℕ) (paths : List (List ℕ)) → HasToGo a f first end → AreRemovalsOf a.schema f first end paths
      → HasLost (announced f end) paths g → IsImageOf a f g

-- What became of the files, whose newest snapshot has this id, by the two numbers that are printed. None is there but
-- the origin, and no path changes; or all stay, and no path changes; or some go, no tag is there, and the others stay.
pub data Becomes (a : Asking) (newest : ℕ) (f g : Files) (first last : ℕ) : Type 0 where
  none_there : newest ≡ 0 → first ≡ 0 → last ≡ 0 → AreSame f g → Becomes a newest f g first last
  all_stay : IsEndIn a f first → IsFirst f a.schema first → last ≡ newest → AreSame f g
      → Becomes a newest f g first last
  some_go : (least : ℕ) → HasToGo a f least first → IsFirstTag f None → last ≡ newest
      → HasGivenBack a.schema f first g → Becomes a newest f g first last

-- Some are to go, and a tag is there, the least of this name: no path changes, but that the floor of their end is there.
pub record StopsAtTag (a : Asking) (f : Files) (name : List ℕ) (g : Files) : Type 0 where
  pub first : ℕ
  pub end : ℕ
  pub to_go : HasToGo a f first end
  pub tagged : IsFirstTag f (Some name)
  pub same : AreSame (announced f end) g

-- What was found is so of these files, which stand for this history: no snapshot is there but the origin; or the end is
-- that of the files, the first their least snapshot after the origin, and the last their newest.
pub data FindsIn (a : Asking) (f : Files) (h : History) (x : Found) : Type 0 where
  none_found : count_of h ≡ 0 → IsNoneFound a x → FindsIn a f h x
  all_found : IsEndIn a f x.end → IsFirst f a.schema x.first → x.last ≡ count_of h → x.schema ≡ a.schema
      → IsListing floor_folder x.floors.items f → FindsIn a f h x

-- And so it is where nobody else acted since the first call, at which these files were there: they stay, and the table
-- has the schema that was asked for.
pub record FindsAlone (a : Asking) (f : Files) (h : History) (x : Found) (first after : StoreView) : Type 0 where
  pub files : Stay f first after
  pub table : IsTableOf a.schema h
  pub finds : FindsIn a f h x

-- where no snapshot is to go: the files stay, in each image too, and the two numbers that are printed say so
pub record KeepsAll (a : Asking) (f : Files) (h : History) (first last : ℕ) (before after : StoreView) : Type 0 where
  pub files : Stay f before after
  pub table : IsTableOf a.schema h
  pub becomes : Becomes a (count_of h) f f first last

-- Some of the files' snapshots go, and at this path: the file was taken with them; or it is the floor of their end,
-- which wasn't there.
abbrev pub ChangesAt : Asking → Files → Files → List ℕ → Type 0
ChangesAt a f g path = (first end : ℕ) × HasToGo a f first end
    × (((map.get g path ≡ None) × IsGivenBack a.schema f end path)
    ⊎ ((map.get f path ≡ None) × (path ≡ floor_path end)))

-- ---- all its calls

-- The calls of an expiry, from those that read the schema on, by its answer: these snapshots are kept, or they show the
-- refusal.
abbrev pub DidExpire : Asking → Result Kept Refusal → List Event → Type 0
DidExpire a (Ok kept) own = HasExpired a kept.first kept.last own
DidExpire a (Err refusal) own = GoesOnFrom a.schema own × Shows a refusal own

-- what an answer leaves of the files, whose newest snapshot has this id: what became of them; or a refusal leaves what
-- an image may have
abbrev pub Leaves : Asking → ℕ → Files → Result Kept Refusal → Files → Type 0
Leaves a newest f (Ok kept) g = Becomes a newest f g kept.first kept.last
Leaves a newest f (Err refusal) g = IsImageOf a f g

-- Why it is refused, where these files were there at the first call: a tag is there; or memory ran out, or a fault of
-- the store was counted.
abbrev pub IsRefusedFor : Asking → Files → StoreView → StoreView → Refusal → Type 0
IsRefusedFor a f first after (refusals.Unsupported what text) =
    (what ≡ codes "tag") × LeavesFiles (StopsAtTag a f text) after
IsRefusedFor a f first after other = IsCaused first after other

-- What an expiry does to the files that are there at its first call and stand for this history, where nobody else acts
-- from then on: what it leaves of them by its answer, and that each image is one of an expiry that was stopped.
pub record ExpiresFiles (a : Asking) (f : Files) (h : History) (before after : StoreView) (result : Result Kept Refusal)
    : Type 0 where
  pub table : IsTableOf a.schema h
  pub leaves : LeavesFiles (Leaves a (count_of h) f result) after
  pub images : Extends (IsImageOf a f) before.ops after.ops

-- whoever reads a snapshot that a listing shows, from the end on, finds the same bytes; and each consumer's file is as
-- it was
pub record SparesFrom (s : TableSchema) (end : ℕ) (f g : Files) : Type 0 where
  pub needs : (id : ℕ) (path : List ℕ) → 1 ≤ id → id ≤ greatest → end ≤ id → HasSnapshotAt f s id → Needs f s id path
      → map.get g path ≡ map.get f path
  pub consumers : (name : List ℕ) → map.get g (consumer_path name) ≡ map.get f (consumer_path name)
