-- Machines may begin, in a folder that is found and beside others.
use Rattle.std.proofs.Common.{◌≡◌, inl, inr, ℕ, List, [], ◌∷◌, ◌++◌, refl, sym, subst, arith}
use Rattle.std.specs.List.{AllByRecursion}
use Rattle.pm_store.specs.declared.call.Op.{Op}
use Rattle.pm_store.specs.Files.{Files, files_after}
use Rattle.pm_model_history.specs.History.{Entry, History}
use Rattle.pm_model_folder.specs.Changes.{Actor, IsNoOrigin}
use Rattle.pm_model_folder.specs.Commits.{Names}
use Rattle.pm_model_folder.specs.Folder.{Folder}
use Rattle.pm_model_folder.specs.Ledger.{HasNamedNone, Past, Stands, count_of}
use Rattle.pm_create.specs.Creator.{IsCreator, NewTable, calls_left, own_origin}
use Rattle.pm_create.specs.Meaning as create
use Rattle.pm_create.specs.declared.phase.Phase.TheVariants as creators
use Rattle.pm_create.specs.declared.phase.Phase as creating
use Rattle.pm_read_latest.specs.Meaning as latest_reader
use Rattle.pm_read_latest.specs.declared.phase.Phase as finding
use Rattle.pm_snapshots.specs.Meaning as snapshots
use Rattle.pm_snapshots.specs.declared.phase.Phase as listing
use Rattle.pm_scan.specs.Meaning as scan
use Rattle.pm_scan.specs.declared.phase.Phase as scanning
use Rattle.pm_read_frame.specs.Frames.{AreFramesFrom}
use Rattle.pm_read_frame.specs.Meaning as frame_reader
use Rattle.pm_read_frame.specs.declared.phase.Phase as following
use Rattle.pm_commit.specs.AllCalls.{NamesNone}
use Rattle.pm_commit.specs.Committer.{IsCommitter}
use Rattle.pm_commit.specs.Meaning as commit
use Rattle.pm_commit.specs.Meaning.{KnowsOwn}
use Rattle.pm_commit.specs.Own as owner
use Rattle.pm_commit.specs.declared.phase.Phase as committing
use Rattle.pm_commit.proofs.OwnLemmas.{append-planned}
use Rattle.pm_compactor.specs.Compactor.{actor_of as actor_named}
use Rattle.pm_compactor.specs.Meaning as compactor
use Rattle.pm_compactor.specs.declared.phase.Phase as compacting
use Rattle.pm_register.specs.Meaning as registrar
use Rattle.pm_register.specs.Registrar.{Registering}
use Rattle.pm_register.specs.declared.phase.Phase as registering
use Rattle.pm_move_consumer.specs.DropperMeaning as dropper
use Rattle.pm_move_consumer.specs.DropperMeaning.{Drop}
use Rattle.pm_move_consumer.specs.MoverMeaning as mover
use Rattle.pm_move_consumer.specs.MoverMeaning.{Move}
use Rattle.pm_move_consumer.specs.declared.drop_phase.DropPhase as dropping
use Rattle.pm_move_consumer.specs.declared.move_phase.MovePhase as moving
use Rattle.pm_expire.specs.Meaning as expirer
use Rattle.pm_expire.specs.declared.phase.Phase as expiring
use Rattle.pm_actors.specs.World.{AllKnow, Begins, BeginsCommit, BeginsCompact, BeginsDrop, BeginsExpire, BeginsFollow, BeginsMove, BeginsRegister, Followed, IsWorld, KeepsActor, Knows, KnowsFollowed, MayBegin, MayFollow, MayJoin, Worker, commits, compacts, creates, drops, expires, finds, follows, lists, moves, registers, scans, waits}
use Rattle.pm_actors.proofs.WorldLemmas.{replaced}

-- what the law of a folder that is found says
abbrev pub Found : Type 0
Found = (f : Files) (h : History) → Folder f h
    → (p : Past) × (p.history ≡ h) × Stands f p × ((id : ℕ) → p.stood id ≡ f) × (p.since ≡ count_of h)

module _ (f : Files) (p : Past) where
  creator_begins : (t : NewTable) (m : creating.Phase) → IsCreator t m → calls_left m ≡ 2 → IsNoOrigin p.history (own_origin t.me) → create.Knows t m f p
  creator_begins t (creators.Origin path bytes) is left other = (is, subst (IsNoOrigin p.history) (sym is.1.0) other)
  creator_begins t (creators.Schema bytes) is left other = absurd (let clash : 1 ≡ 2 = left in omega (arith, clash))
  creator_begins t creators.Created is left other = absurd (let clash : 0 ≡ 2 = left in omega (arith, clash))
  creator_begins t creators.Over is left other = absurd (let clash : 0 ≡ 2 = left in omega (arith, clash))

  commit_begins : (e : Entry) (m : committing.Phase) → BeginsCommit (λ me. HasNamedNone me p) p.history e m → commit.Knows e m f p
  commit_begins e m begins =
      let own : KnowsOwn begins.begun e begins.schema p = record {
        is_table = begins.table;
        means = begins.means;
        may = begins.may;
        unnamed = begins.unnamed;
        from = (let none = begins.no_base in omega (arith, none));
      } in
      let appends = (subst IsCommitter begins.is begins.is_committer).1 in
      let me : Actor = owner.actor_of begins.begun in (
        begins.is_committer,
        subst (λ (m : committing.Phase). commit.KnowsIn e m f p) (sym begins.is) own,
        subst (λ (m : committing.Phase). commit.HasGiven m f p) (sym begins.is)
            ([], (append-planned begins.begun.intent me begins.begun.author.base [] p appends refl, inr tt)),
      )

  compact_begins : (m : compacting.Phase) → BeginsCompact (λ me. HasNamedNone me p) p.history m → compactor.Knows m f p
  compact_begins m begins = (
    begins.is_compactor,
    subst (λ (m : compacting.Phase). compactor.KnowsIn m f p) (sym begins.is) (begins.table, begins.may, begins.unnamed),
  )

  follow_begins : (x : Followed) (m : following.Phase) → BeginsFollow p.history x m → KnowsFollowed x p × frame_reader.Knows m f p
  follow_begins x m begins =
      let most = begins.most in
      let bound = begins.bound in
      let within = begins.within in (
        record {
          table = begins.table;
          least = begins.least;
          bound = begins.bound;
          within = begins.within;
          frames = subst (AreFramesFrom p.history x.start) (sym begins.none) tt;
        },
        subst (λ (m : following.Phase). frame_reader.Knows m f p) (sym begins.is)
            (begins.table, begins.least, omega (arith, most, bound), omega (arith, most, within)),
      )

  register_begins : (me : Actor) (r : Registering) (m : registering.Phase) → BeginsRegister p.history r m → registrar.Knows me r m f p
  register_begins me r m begins = subst (λ (m : registering.Phase). registrar.Knows me r m f p) (sym begins.is) (
    begins.registering,
    (refl, refl),
    record { schema = begins.schema; is = begins.table; plain = begins.plain; next = begins.next },
    tt,
  )

  move_begins : (m : Move) (phase : moving.MovePhase) → BeginsMove p.history m phase → mover.Knows m phase f p
  move_begins m phase begins =
      subst (λ (phase : moving.MovePhase). mover.Knows m phase f p) (sym begins.is) (begins.moving, (refl, refl, refl), begins.printed)

  drop_begins : (d : Drop) (phase : dropping.DropPhase) → BeginsDrop p.history d phase → dropper.Knows d phase f p
  drop_begins d phase begins = subst (λ (phase : dropping.DropPhase). dropper.Knows d phase f p) (sym begins.is) (begins.plain, refl, begins.table)

  expire_begins : (m : expiring.Phase) → BeginsExpire p.history m → expirer.Knows m f p
  expire_begins m begins = subst (λ (m : expiring.Phase). expirer.Knows m f p) (sym begins.is) (begins.plain, (refl, begins.table))

  pub joined : (w : Worker) → MayJoin p w → Knows w f p
  joined (waits me) named = named
  joined (creates t m) (is, left, other) = creator_begins t m is left other
  joined (lists me m) (inl is) = subst (λ (m : listing.Phase). snapshots.Knows m f p) (sym is) tt
  joined (lists me m) (inr (s, is, table)) = subst (λ (m : listing.Phase). snapshots.Knows m f p) (sym is) table
  joined (scans me m) (rows, a, is, table) = subst (λ (m : scanning.Phase). scan.Knows m f p) (sym is) table
  joined (finds me s m) (is, table) = (table, subst (λ (m : finding.Phase). latest_reader.Knows m f p) (sym is) tt)
  joined (follows me x m) begins = follow_begins x m begins
  joined (commits e m) begins = commit_begins e m begins
  joined (compacts m) begins = compact_begins m begins
  joined (registers me r m) begins = register_begins me r m begins
  joined (moves m phase) begins = move_begins m phase begins
  joined (drops d phase) begins = drop_begins d phase begins
  joined (expires me m) begins = expire_begins m begins

-- who may begin where of its actor more is asked may begin where less is
begins_by : (P Q : Actor → Type 0) (h : History) → ((me : Actor) → P me → Q me) → (w : Worker) → Begins P h w → Begins Q h w
begins_by P Q h more (waits me) may = more me may
begins_by P Q h more (creates t m) may = may
begins_by P Q h more (lists me m) may = may
begins_by P Q h more (scans me m) may = may
begins_by P Q h more (finds me s m) may = may
begins_by P Q h more (follows me x m) may = may
begins_by P Q h more (registers me r m) may = may
begins_by P Q h more (moves m phase) may = may
begins_by P Q h more (drops d phase) may = may
begins_by P Q h more (expires me m) may = may
begins_by P Q h more (commits e m) may = record {
  begun = may.begun;
  schema = may.schema;
  is = may.is;
  is_committer = may.is_committer;
  table = may.table;
  means = may.means;
  may = may.may;
  no_base = may.no_base;
  none_lost = may.none_lost;
  unnamed = more (owner.actor_of may.begun) may.unnamed;
}
begins_by P Q h more (compacts m) may = record {
  asking = may.asking;
  schema = may.schema;
  is = may.is;
  is_compactor = may.is_compactor;
  table = may.table;
  may = may.may;
  unnamed = more (actor_named may.asking.names) may.unnamed;
}

-- who waited goes on as a machine that begins
one_may_join : (me : Actor) (p : Past) → HasNamedNone me p → (w : Worker) → Begins (λ other. other ≡ me) p.history w → MayJoin p w
one_may_join me p named =
    begins_by (λ other. other ≡ me) (λ other. HasNamedNone other p) p.history (λ other is. subst (λ (other : Actor). HasNamedNone other p) (sym is) named)

pub came : (before later : List Worker) (me : Actor) (w : Worker) (ops : List Op) → KeepsActor (waits me) w → MayFollow me w ops
    → IsWorld (before ++ waits me ∷ later) ops → IsWorld (before ++ w ∷ later) ops
came before later me w ops keeps may =
    replaced before later (waits me) w ops keeps (λ p stands named. joined (files_after ops) p w (one_may_join me p named w (may p stands)))

-- what the law of those that join says
abbrev pub Joins : Type 0
Joins = (f : Files) (p : Past) (w : Worker) → MayJoin p w → Knows w f p

-- where each known snapshot stands as it is, one that may begin in the folder may join
module _ (joins : Joins) (f : Files) (p : Past) (stood : (id : ℕ) → p.stood id ≡ f) where
  names_none : (me : Actor) → NamesNone me p.history f → HasNamedNone me p
  names_none me none s id path is known named by =
      none s id path is known.after_origin known.to (subst (λ (g : Files). Names g s id path) (stood id) named) by

  may_join : (w : Worker) → MayBegin f p.history w → MayJoin p w
  may_join = begins_by (λ me. NamesNone me p.history f) (λ me. HasNamedNone me p) p.history names_none

  all_begin : (workers : List Worker) → AllByRecursion (MayBegin f p.history) workers → AllKnow workers f p
  all_begin [] all = tt
  all_begin (w ∷ workers) (first, all) = (joins f p w (may_join w first), all_begin workers all)

pub begun : Found → Joins → (f : Files) (h : History) (workers : List Worker) → Folder f h → AllByRecursion (MayBegin f h) workers
    → (p : Past) × (p.history ≡ h) × Stands f p × AllKnow workers f p
begun found joins f h workers folder may =
    let at = found f h folder in
    (at.0, at.1, at.2, all_begin joins f at.0 at.3 workers (subst (λ (h : History). AllByRecursion (MayBegin f h) workers) (sym at.1) may))
