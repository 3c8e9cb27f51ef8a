-- Machines of commands beside each other on one folder, each run by an actor: what each may change, and what it knows.
use Rattle.std.specs.Prelude.{◌≡◌, ◌≢◌, ◌⊎◌, ℕ, suc, ◌≤◌, List, [], ◌∷◌, ◌++◌, Option, None, Some, IfSome, option_map}
use Rattle.std.specs.List.{AllByRecursion}
use Rattle.pm_store.specs.Files.{Files, files_after}
use Rattle.pm_store.specs.declared.call.Op.{Op}
use Rattle.pm_machine.specs.Moves.{IsKept}
use Rattle.pm_model_history.specs.History.{Entry, History, IsTableOf}
use Rattle.pm_schema.specs.declared.schema.TableSchema.{TableSchema}
use Rattle.pm_snapshot.specs.Names.{MayName, greatest}
use Rattle.pm_model_folder.specs.Changes.{Actor, HavePlainNames, IsActor, IsNoOrigin, IsPlain}
use Rattle.pm_model_folder.specs.Ledger.{HasNamedNone, Past, Stands, count_of}
use Rattle.pm_model_folder.specs.Paths.{consumer_path}
use Rattle.pm_create.specs.Creator.{IsCreator, NewTable, calls_left, own_origin}
use Rattle.pm_create.specs.Meaning as create
use Rattle.pm_create.specs.declared.phase.Phase as creating
use Rattle.pm_read_schema.specs.declared.phase.Phase.TheVariants as schema_readers
use Rattle.pm_read_latest.specs.Meaning as latest_reader
use Rattle.pm_read_latest.specs.declared.phase.Phase as finding
use Rattle.pm_read_latest.specs.declared.phase.Phase.TheVariants as finders
use Rattle.pm_read_log.specs.Log.{log_asked_of}
use Rattle.pm_read_log.specs.declared.log_phase.LogPhase.TheVariants as logs
use Rattle.pm_snapshots.specs.Meaning as snapshots
use Rattle.pm_snapshots.specs.declared.phase.Phase as listing
use Rattle.pm_snapshots.specs.declared.phase.Phase.TheVariants as listers
use Rattle.pm_read_table.specs.Asked.{Asked}
use Rattle.pm_read_table.specs.declared.phase.Phase.TheVariants as readers
use Rattle.pm_scan.specs.Meaning as scan
use Rattle.pm_scan.specs.declared.phase.Phase as scanning
use Rattle.pm_scan.specs.declared.phase.Phase.TheVariants as scanners
use Rattle.pm_scan.specs.declared.rows.Rows.{Rows}
use Rattle.pm_read_frame.specs.Frames.{AreFramesFrom}
use Rattle.pm_read_frame.specs.Meaning as frame_reader
use Rattle.pm_read_frame.specs.declared.phase.Phase as following
use Rattle.pm_read_frame.specs.declared.phase.Phase.TheVariants as followers
use Rattle.pm_remove.specs.declared.phase.Phase.TheVariants as removers
use Rattle.pm_read_expiry.specs.declared.asking.Asking.{Asking}
use Rattle.pm_read_expiry.specs.declared.phase.Phase.TheVariants as expiry_readers
use Rattle.pm_expire.specs.Meaning as expirer
use Rattle.pm_expire.specs.declared.phase.Phase as expiring
use Rattle.pm_expire.specs.declared.phase.Phase.TheVariants as expirers
use Rattle.pm_made.specs.Intent.{Means}
use Rattle.pm_commit.specs.AllCalls.{NamesNone}
use Rattle.pm_commit.specs.Committer.{IsCommitter, newest_of}
use Rattle.pm_commit.specs.Meaning as commit
use Rattle.pm_commit.specs.Own as owner
use Rattle.pm_commit.specs.Own.{OwnView}
use Rattle.pm_commit.specs.declared.phase.Phase as committing
use Rattle.pm_commit.specs.declared.phase.Phase.TheVariants as committers
use Rattle.pm_plan.specs.declared.planned.Asking as planning
use Rattle.pm_compactor.specs.Compactor.{IsCompactor, actor_of as actor_named}
use Rattle.pm_compactor.specs.Meaning as compactor
use Rattle.pm_compactor.specs.declared.phase.Phase as compacting
use Rattle.pm_compactor.specs.declared.phase.Phase.TheVariants as compactors
use Rattle.pm_register.specs.Meaning as registrar
use Rattle.pm_register.specs.Registrar.{IsRegistering, Registering, registration_of}
use Rattle.pm_register.specs.declared.phase.Phase as registering
use Rattle.pm_register.specs.declared.phase.Phase.TheVariants as registrars
use Rattle.pm_move_consumer.specs.DropperMeaning as dropper
use Rattle.pm_move_consumer.specs.DropperMeaning.{Drop, MayDrop}
use Rattle.pm_move_consumer.specs.Mover.{IsMoving, new_mover}
use Rattle.pm_move_consumer.specs.MoverMeaning as mover
use Rattle.pm_move_consumer.specs.MoverMeaning.{HasPlainTable, IsPrinted, MayMovePast, Move}
use Rattle.pm_move_consumer.specs.declared.drop_phase.DropPhase as dropping
use Rattle.pm_move_consumer.specs.declared.drop_phase.DropPhase.TheVariants as droppers
use Rattle.pm_move_consumer.specs.declared.move_phase.MovePhase as moving

-- what a following has: its table, the snapshot of its first frame, the newest one that was listed, and the frames that
-- were read so far
pub record Followed : Type 0 where
  pub schema : TableSchema
  pub start : ℕ
  pub latest : ℕ
  pub frames : List (List ℕ)

-- it begins, and one frame more was read
abbrev pub follow_from : TableSchema → ℕ → ℕ → Followed
follow_from s start latest = record { schema = s; start = start; latest = latest; frames = [] }

abbrev pub with_frame : Followed → List ℕ → Followed
with_frame x text = record x { frames = x.frames ++ text ∷ [] }

-- the reader of the frame of a snapshot, before its first call
abbrev pub reader_at : TableSchema → ℕ → following.Phase
reader_at s id = followers.Log (logs.Snapshot (log_asked_of s id))

-- An actor whose command has no machine yet; or a machine of a command, by its phase: with the table that it makes, the
-- entry that it adds, or who runs it. The readers of the latest snapshot's id and of a frame have the table, too, and
-- the following that they are for; a registrar has the consumer, a mover the text that was printed, too. A compactor's
-- phase says who runs it, and once the commit is made which entry it adds.
pub data Worker : Type 0 where
  waits : Actor → Worker
  creates : NewTable → creating.Phase → Worker
  lists : Actor → listing.Phase → Worker
  scans : Actor → scanning.Phase → Worker
  finds : Actor → TableSchema → finding.Phase → Worker
  follows : Actor → Followed → following.Phase → Worker
  commits : Entry → committing.Phase → Worker
  compacts : compacting.Phase → Worker
  registers : Actor → Registering → registering.Phase → Worker
  moves : Move → moving.MovePhase → Worker
  drops : Drop → dropping.DropPhase → Worker
  expires : Actor → expiring.Phase → Worker

-- who runs a compactor: the actor of its names, which its plan and then its committer has; of one that is over or has
-- nothing to do nobody
abbrev pub compactor_of : compacting.Phase → Option Actor
compactor_of (compactors.View asking m) = Some (actor_named asking.names)
compactor_of (compactors.Names x) = Some (actor_named x.names)
compactor_of (compactors.Files x m) = Some (actor_named x.names)
compactor_of (compactors.Create m next rest) = option_map owner.actor_of (commit.own_in m)
compactor_of (compactors.Commit m) = option_map owner.actor_of (commit.own_in m)
compactor_of compactors.Nothing = None
compactor_of compactors.Over = None

-- who runs it; of a commit or a compaction that is over nobody
abbrev pub actor_of : Worker → Option Actor
actor_of (waits me) = Some me
actor_of (creates t m) = Some t.me
actor_of (lists me m) = Some me
actor_of (scans me m) = Some me
actor_of (finds me s m) = Some me
actor_of (follows me x m) = Some me
actor_of (commits e m) = option_map owner.actor_of (commit.own_in m)
actor_of (compacts m) = compactor_of m
actor_of (registers me r m) = Some me
actor_of (moves m phase) = Some m.me
actor_of (drops d phase) = Some d.me
actor_of (expires me m) = Some me

-- the kinds of change that it may make
abbrev pub Leaves : Worker → Files → Past → Files → Past → Type 0
Leaves (waits me) f p after later = IsKept f p after later
Leaves (creates t m) f p after later = create.Makes t f p after later
Leaves (lists me m) f p after later = IsKept f p after later
Leaves (scans me m) f p after later = IsKept f p after later
Leaves (finds me s m) f p after later = IsKept f p after later
Leaves (follows me x m) f p after later = IsKept f p after later
Leaves (commits e m) f p after later = commit.MakesEntry e m f p after later
Leaves (compacts m) f p after later = compactor.Leaves m f p after later
Leaves (registers me r m) f p after later = registrar.RegistersAt me r m f p after later
Leaves (moves m phase) f p after later = MayMovePast m f p after later
Leaves (drops d phase) f p after later = MayDrop d f p after later
Leaves (expires me m) f p after later = expirer.Makes me m f p after later

-- What is known of a following: its table is the history's, all snapshots up to the newest that was listed were
-- committed, and what was read so far are frames from its start on.
pub record KnowsFollowed (x : Followed) (p : Past) : Type 0 where
  pub table : IsTableOf x.schema p.history
  pub least : 1 ≤ x.start
  pub bound : x.latest ≤ greatest
  pub within : x.latest ≤ count_of p.history
  pub frames : AreFramesFrom p.history x.start x.frames

-- what it knows of the files and of what they stand for: before its command begins that no known snapshot names a file
-- of its actor, also of those that have gone, which nobody can read any more
abbrev pub Knows : Worker → Files → Past → Type 0
Knows (waits me) f p = HasNamedNone me p
Knows (creates t m) f p = create.Knows t m f p
Knows (lists me m) f p = snapshots.Knows m f p
Knows (scans me m) f p = scan.Knows m f p
Knows (finds me s m) f p = IsTableOf s p.history × latest_reader.Knows m f p
Knows (follows me x m) f p = KnowsFollowed x p × frame_reader.Knows m f p
Knows (commits e m) f p = commit.Knows e m f p
Knows (compacts m) f p = compactor.Knows m f p
Knows (registers me r m) f p = registrar.Knows me r m f p
Knows (moves m phase) f p = mover.Knows m phase f p
Knows (drops d phase) f p = dropper.Knows d phase f p
Knows (expires me m) f p = expirer.Knows m f p

abbrev pub AllKnow : List Worker → Files → Past → Type 0
AllKnow workers f p = AllByRecursion (λ w. Knows w f p) workers

-- ---- their names

-- two actors that differ
pub record Differ (me other : Actor) : Type 0 where
  pub mine : IsActor me
  pub its : IsActor other
  pub apart : me ≢ other

-- those that run them differ
abbrev pub AreApart : Worker → Worker → Type 0
AreApart a b = IfSome (actor_of a) (λ me. IfSome (actor_of b) (λ other. Differ me other))

-- so of each two of them
abbrev pub AreAllApart : List Worker → Type 0
AreAllApart [] = Unit {0}
AreAllApart (w ∷ workers) = AllByRecursion (AreApart w) workers × AreAllApart workers

-- the machine as it is then is run by the same actor, or by nobody
abbrev pub KeepsActor : Worker → Worker → Type 0
KeepsActor a new = IfSome (actor_of new) (λ me. actor_of a ≡ Some me)

-- ---- all of them

-- Operations on a store, through whichever handle, left files that stand, of which each of the machines knows what it
-- knows; different actors run them.
abbrev pub IsWorld : List Worker → List Op → Type 0
IsWorld workers ops = AreAllApart workers
    × ((p : Past) × Stands (files_after ops) p × AllKnow workers (files_after ops) p)

-- ---- where they begin

-- what a commit with this entry begins with: no try was made, and its actor is one that named nothing
pub record BeginsCommit (Named : Actor → Type 0) (h : History) (e : Entry) (m : committing.Phase) : Type 0 where
  pub begun : OwnView
  pub schema : TableSchema
  pub is : m ≡ committers.Names begun schema
  pub is_committer : IsCommitter m
  pub table : IsTableOf schema h
  pub means : Means schema begun.author begun.intent e
  pub may : MayName begun.names
  pub no_base : begun.author.base ≡ 0
  pub none_lost : begun.lost ≡ []
  pub unnamed : Named (owner.actor_of begun)

-- what a compactor begins with: the reader of its table's newest view has made no call, and its actor is one that named
-- nothing
pub record BeginsCompact (Named : Actor → Type 0) (h : History) (m : compacting.Phase) : Type 0 where
  pub asking : planning.Asking
  pub schema : TableSchema
  pub is : m ≡ compactors.View asking (readers.List (newest_of schema))
  pub is_compactor : IsCompactor m
  pub table : IsTableOf schema h
  pub may : MayName asking.names
  pub unnamed : Named (actor_named asking.names)

-- what a reader of a frame begins with: it is the first frame, of a snapshot that was listed
pub record BeginsFollow (h : History) (x : Followed) (m : following.Phase) : Type 0 where
  pub is : m ≡ reader_at x.schema x.start
  pub none : x.frames ≡ []
  pub table : IsTableOf x.schema h
  pub least : 1 ≤ x.start
  pub most : x.start ≤ x.latest
  pub bound : x.latest ≤ greatest
  pub within : x.latest ≤ count_of h

-- what a registrar begins with: a table whose names lead to no file of a consumer, and the snapshot to be read next is
-- at most one above the newest
pub record BeginsRegister (h : History) (r : Registering) (m : registering.Phase) : Type 0 where
  pub is : m ≡ registrars.New r.found (registration_of r)
  pub registering : IsRegistering r
  pub schema : TableSchema
  pub table : IsTableOf schema h
  pub plain : HavePlainNames schema
  pub next : r.next ≤ suc (count_of h)

-- what a mover begins with: what was printed is the frame of the snapshot that the consumer reads next
pub record BeginsMove (h : History) (m : Move) (phase : moving.MovePhase) : Type 0 where
  pub is : phase ≡ new_mover m.moving
  pub moving : IsMoving m.moving
  pub printed : IsPrinted m h

-- what a dropper begins with: there is a table
pub record BeginsDrop (h : History) (d : Drop) (phase : dropping.DropPhase) : Type 0 where
  pub is : phase ≡ droppers.Remove (consumer_path d.name)
  pub plain : IsPlain d.name
  pub table : HasPlainTable h

-- what an expirer begins with: a table whose names lead to no file of a consumer, nor to a floor
pub record BeginsExpire (h : History) (m : expiring.Phase) : Type 0 where
  pub asking : Asking
  pub is : m ≡ expirers.Read (expiry_readers.Snapshots asking (listers.List asking.schema))
  pub table : IsTableOf asking.schema h
  pub plain : HavePlainNames asking.schema

-- A machine has made no call on a table with the history: who waits is one that named nothing, a creator's origin isn't
-- that table's, a lister has yet to read the schema or has read it, and any other has read it.
abbrev pub Begins : (Actor → Type 0) → History → Worker → Type 0
Begins Named h (waits me) = Named me
Begins Named h (creates t m) = IsCreator t m × (calls_left m ≡ 2) × IsNoOrigin h (own_origin t.me)
Begins Named h (lists me m) =
    (m ≡ listers.Schema schema_readers.Schemas) ⊎ ((s : TableSchema) × (m ≡ listers.List s) × IsTableOf s h)
Begins Named h (scans me m) =
    (rows : Rows) × (a : Asked) × (m ≡ scanners.View rows (readers.List a)) × IsTableOf a.schema h
Begins Named h (finds me s m) = (m ≡ finders.List) × IsTableOf s h
Begins Named h (follows me x m) = BeginsFollow h x m
Begins Named h (commits e m) = BeginsCommit Named h e m
Begins Named h (compacts m) = BeginsCompact Named h m
Begins Named h (registers me r m) = BeginsRegister h r m
Begins Named h (moves m phase) = BeginsMove h m phase
Begins Named h (drops d phase) = BeginsDrop h d phase
Begins Named h (expires me m) = BeginsExpire h m

-- in a folder that is found: no snapshot that is there names a file of a committer or a compactor
abbrev pub MayBegin : Files → History → Worker → Type 0
MayBegin f h w = Begins (λ me. NamesNone me h f) h w

-- beside others: no known snapshot names a file of a committer or a compactor
abbrev pub MayJoin : Past → Worker → Type 0
MayJoin p w = Begins (λ me. HasNamedNone me p) p.history w

-- so it may in whatever past the operations' files stand for, run by one who waited
abbrev pub MayFollow : Actor → Worker → List Op → Type 0
MayFollow me w ops = (p : Past) → Stands (files_after ops) p → Begins (λ other. other ≡ me) p.history w

-- ---- an expiry beside who registers

-- the end of an expiry that has read the consumers again or is done: the first snapshot that it keeps
abbrev pub HasEnd : expiring.Phase → ℕ → Type 0
HasEnd (expirers.View v m) end = end ≡ v.announced.end
HasEnd (expirers.Remove first last (removers.Remove r)) end = end ≡ first
HasEnd (expirers.Done first last) end = end ≡ first
HasEnd other end = ⊥
