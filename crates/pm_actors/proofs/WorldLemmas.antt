-- Whichever machine steps, the others know what they knew.
use Rattle.std.proofs.Common.{◌≡◌, ◌≢◌, ◌⊎◌, inl, inr, ℕ, ◌≤◌, List, [], ◌∷◌, ◌++◌, length, length-append, Option, None, Some, IfSome, option_map, refl, sym, ap, subst, ◌∙◌, arith}
use Rattle.std.specs.Cmp.Lexicographic.{nat_list_cmp_total}
use Rattle.std.specs.FinMap.{nat_cmp-IsAntisymmetric, same_map, slice_cmp-IsAntisymmetric}
use Rattle.std.specs.List.{AllByRecursion}
use Rattle.pm_store.specs.declared.call.Op.{Op}
use Rattle.pm_store.specs.Files.{Files, after_effect, after_op, files_after}
use Rattle.pm_store.specs.Store.{own_op}
use Rattle.pm_store.specs.declared.call.Effect.{Effect}
use Rattle.pm_store.proofs.FileLaws.{files_after-push}
use Rattle.pm_machine.specs.Moves.{IsKept, Keeps, Lasts}
use Rattle.pm_model_history.specs.History.{Entry, GoesOn, History, IsTableOf, no_table, table}
use Rattle.pm_model_folder.specs.Changes.{Actor, Change, IsActor, IsOwn, its_origin, origin_name}
use Rattle.pm_model_folder.specs.Consumers.{follower_of}
use Rattle.pm_model_folder.specs.Ledger.{Advances, HasNamedNone, Past, Stands, count_of}
use Rattle.pm_model_folder.specs.Paths.{snapshot_file}
use Rattle.pm_create.specs.Creator.{NewTable}
use Rattle.pm_create.specs.Meaning as create
use Rattle.pm_create.specs.declared.phase.Phase as creating
use Rattle.pm_read_latest.specs.Meaning as latest_reader
use Rattle.pm_read_latest.specs.declared.phase.Phase as finding
use Rattle.pm_snapshots.specs.Meaning as snapshots
use Rattle.pm_snapshots.specs.declared.phase.Phase as listing
use Rattle.pm_scan.specs.Meaning as scan
use Rattle.pm_scan.specs.declared.phase.Phase as scanning
use Rattle.pm_schema.specs.declared.schema.TableSchema.{TableSchema}
use Rattle.pm_read_frame.specs.Frames.{AreFramesFrom}
use Rattle.pm_read_frame.specs.Meaning as frame_reader
use Rattle.pm_read_frame.specs.declared.phase.Phase as following
use Rattle.pm_commit.specs.Meaning as commit
use Rattle.pm_commit.specs.Own as owner
use Rattle.pm_commit.specs.Own.{OwnView}
use Rattle.pm_commit.specs.declared.phase.Phase as committing
use Rattle.pm_compactor.specs.Meaning as compactor
use Rattle.pm_compactor.specs.declared.phase.Phase as compacting
use Rattle.pm_compactor.specs.declared.phase.Phase.TheVariants as compactors
use Rattle.pm_model_consumers.specs.Claims.{Follower}
use Rattle.pm_register.specs.Meaning as registrar
use Rattle.pm_register.specs.Registrar.{Registering}
use Rattle.pm_register.specs.declared.phase.Phase as registering
use Rattle.pm_move_consumer.specs.DropperMeaning as dropper
use Rattle.pm_move_consumer.specs.DropperMeaning.{Drop}
use Rattle.pm_move_consumer.specs.MoverMeaning as mover
use Rattle.pm_move_consumer.specs.MoverMeaning.{Move}
use Rattle.pm_move_consumer.specs.declared.drop_phase.DropPhase as dropping
use Rattle.pm_move_consumer.specs.declared.move_phase.MovePhase as moving
use Rattle.pm_remove.specs.declared.phase.Phase.TheVariants as removers
use Rattle.pm_announce.specs.Meaning as announcing
use Rattle.pm_announce.specs.declared.phase.Phase as announce_phase
use Rattle.pm_announce.specs.declared.phase.Phase.TheVariants as announcers
use Rattle.pm_expire.specs.Meaning as expirer
use Rattle.pm_expire.specs.declared.phase.Phase as expiring
use Rattle.pm_expire.specs.declared.phase.Phase.TheVariants as expirers
use Rattle.pm_actors.specs.World.{AllKnow, AreAllApart, AreApart, Differ, Followed, IsWorld, KeepsActor, Knows, KnowsFollowed, Leaves, Worker, actor_of, commits, compactor_of, compacts, creates, drops, expires, finds, follows, lists, moves, registers, scans, waits}

-- what the laws of the crates below say
pub record KnownLaws : Type 0 where
  pub past : (me : Actor) (f after : Files) (p q : Past) → Stands f p → Advances me f p after q → Stands after q
  pub same : (me : Actor) (f after : Files) (p later : Past) → IsKept f p after later → Advances me f p after later
  pub own : (me other : Actor) (path : List ℕ) → IsActor me → IsActor other → IsOwn me path → IsOwn other path → me ≡ other
  pub waits : (me other : Actor) (f after : Files) (p q : Past) → Stands f p → Advances other f p after q → me ≢ other → HasNamedNone me p → HasNamedNone me q
  pub creates : (t : NewTable) (m : creating.Phase) (other : Actor) (f after : Files) (p q : Past) → Stands f p → Advances other f p after q
      → origin_name other ≢ origin_name t.me → create.Knows t m f p → create.Knows t m after q
  pub lists : (m : listing.Phase) (other : Actor) (f after : Files) (p q : Past) → Stands f p → Advances other f p after q
      → snapshots.Knows m f p → snapshots.Knows m after q
  pub scans : (m : scanning.Phase) (other : Actor) (f after : Files) (p q : Past) → Stands f p → Advances other f p after q
      → scan.Knows m f p → scan.Knows m after q
  pub finds : (m : finding.Phase) (other : Actor) (f after : Files) (p q : Past) → Stands f p → Advances other f p after q
      → latest_reader.Knows m f p → latest_reader.Knows m after q
  pub follows : (m : following.Phase) (other : Actor) (f after : Files) (p q : Past) → Stands f p → Advances other f p after q
      → frame_reader.Knows m f p → frame_reader.Knows m after q
  pub goes_on : (me : Actor) (f after : Files) (h later : History) → Change me f h after later → GoesOn h later
  pub frames : (h later : History) (id : ℕ) (texts : List (List ℕ)) → GoesOn h later → AreFramesFrom h id texts → AreFramesFrom later id texts
  pub commits : (e : Entry) (m : committing.Phase) (other : Actor) (f after : Files) (p q : Past) → Stands f p → Advances other f p after q
      → commit.IsOtherThan other m → commit.Knows e m f p → commit.Knows e m after q
  pub compacts : (m : compacting.Phase) (other : Actor) (f after : Files) (p q : Past) → Stands f p → Advances other f p after q
      → compactor.IsOtherThan other m → compactor.Knows m f p → compactor.Knows m after q
  pub registers : (me other : Actor) (r : Registering) (m : registering.Phase) (f after : Files) (p q : Past) → Stands f p
      → Advances other f p after q → follower_of other ≢ follower_of me → registrar.Knows me r m f p → registrar.Knows me r m after q
  pub moves : (m : Move) (phase : moving.MovePhase) (other : Actor) (f after : Files) (p q : Past) → Stands f p → Advances other f p after q
      → mover.Knows m phase f p → mover.Knows m phase after q
  pub drops : (d : Drop) (phase : dropping.DropPhase) (other : Actor) (f after : Files) (p q : Past) → Stands f p → Advances other f p after q
      → dropper.Knows d phase f p → dropper.Knows d phase after q
  pub expires : (m : expiring.Phase) (other : Actor) (f after : Files) (p q : Past) → Stands f p → Advances other f p after q
      → expirer.Knows m f p → expirer.Knows m after q

-- ---- who steps

-- what is changed is an advance of this actor
abbrev StepsAs : Option Actor → Files → Past → Files → Past → Type 0
StepsAs o f p after q = (me : Actor) × (o ≡ Some me) × Advances me f p after q

-- of the one that steps; and where nobody runs a machine, it changes nothing
abbrev Steps : Worker → Files → Past → Files → Past → Type 0
Steps a f p after q = StepsAs (actor_of a) f p after q ⊎ IsKept f p after q

commit_steps : (e : Entry) (o : Option OwnView) (f after : Files) (p q : Past) → commit.MakesIn o e f p after q
    → StepsAs (option_map owner.actor_of o) f p after q
commit_steps e None f after p q makes = absurd makes
commit_steps e (Some o) f after p q makes = (owner.actor_of o, refl, makes.advances)

-- a compactor's files and its entry are those of its committer
compact_steps : (m : compacting.Phase) (f after : Files) (p q : Past) → compactor.Leaves m f p after q
    → StepsAs (compactor_of m) f p after q ⊎ IsKept f p after q
compact_steps (compactors.Create m next rest) f after p q (e, is, makes) = inl (commit_steps e (commit.own_in m) f after p q makes)
compact_steps (compactors.Commit m) f after p q (e, is, makes) = inl (commit_steps e (commit.own_in m) f after p q makes)
compact_steps (compactors.View asking m) f after p q kept = inr kept
compact_steps (compactors.Names x) f after p q kept = inr kept
compact_steps (compactors.Files x m) f after p q kept = inr kept
compact_steps compactors.Nothing f after p q kept = inr kept
compact_steps compactors.Over f after p q kept = inr kept

-- the floor of an expirer appears, or a path goes, or nothing is changed
announce_steps : KnownLaws → (me : Actor) (m : announce_phase.Phase) (f after : Files) (p q : Past) → announcing.Makes me m f p after q → Advances me f p after q
announce_steps laws me (announcers.Announce x) f after p q makes = makes.advances
announce_steps laws me (announcers.Consumers x c) f after p q kept = laws.same me f after p q kept
announce_steps laws me (announcers.Tags a) f after p q kept = laws.same me f after p q kept
announce_steps laws me (announcers.Announced a) f after p q kept = laws.same me f after p q kept
announce_steps laws me announcers.Over f after p q kept = laws.same me f after p q kept

expire_steps : KnownLaws → (me : Actor) (m : expiring.Phase) (f after : Files) (p q : Past) → expirer.Makes me m f p after q → Advances me f p after q
expire_steps laws me (expirers.Read m) f after p q kept = laws.same me f after p q kept
expire_steps laws me (expirers.Announce m) f after p q makes = announce_steps laws me m f after p q makes
expire_steps laws me (expirers.View v m) f after p q kept = laws.same me f after p q kept
expire_steps laws me (expirers.Remove first last (removers.Remove r)) f after p q makes = makes.advances
expire_steps laws me (expirers.Remove first last removers.Removed) f after p q kept = laws.same me f after p q kept
expire_steps laws me (expirers.Remove first last removers.Over) f after p q kept = laws.same me f after p q kept
expire_steps laws me (expirers.Done first last) f after p q kept = laws.same me f after p q kept
expire_steps laws me expirers.Over f after p q kept = laws.same me f after p q kept

steps : KnownLaws → (a : Worker) (f after : Files) (p q : Past) → Leaves a f p after q → Steps a f p after q
steps laws (waits me) f after p q kept = inr kept
steps laws (creates t m) f after p q makes = inl (t.me, refl, makes.advances)
steps laws (lists me m) f after p q kept = inr kept
steps laws (scans me m) f after p q kept = inr kept
steps laws (finds me s m) f after p q kept = inr kept
steps laws (follows me x m) f after p q kept = inr kept
steps laws (commits e m) f after p q makes = inl (commit_steps e (commit.own_in m) f after p q makes)
steps laws (compacts m) f after p q makes = compact_steps m f after p q makes
steps laws (registers me r m) f after p q (change, puts) = inl (me, refl, change.advances)
steps laws (moves m phase) f after p q (inl kept) = inr kept
steps laws (moves m phase) f after p q (inr past) = inl (m.me, refl, past.advances)
steps laws (drops d phase) f after p q (inl kept) = inr kept
steps laws (drops d phase) f after p q (inr gone) = inl (d.me, refl, gone.advances)
steps laws (expires me m) f after p q makes = inl (me, refl, expire_steps laws me m f after p q makes)

-- ---- who knows

-- actors that differ give their origins other names
origins_apart : KnownLaws → (me other : Actor) → Differ me other → origin_name me ≢ origin_name other
origins_apart laws me other differ same =
    differ.apart (laws.own me other (snapshot_file (origin_name me)) differ.mine differ.its (its_origin refl) (its_origin (ap snapshot_file same)))

-- and register consumers under other names
followers_apart : (me other : Actor) → Differ me other → follower_of me ≢ follower_of other
followers_apart me other differ same = differ.apart (ap (λ (x : Follower). actor_named x) same)
  where
    actor_named : Follower → Actor
    actor_named x = record { session = x.session; number = x.number }

other_commit : (me : Actor) (o : Option OwnView) → IfSome (option_map owner.actor_of o) (λ other. Differ me other) → IfSome o (λ o. owner.actor_of o ≢ me)
other_commit me None differ = tt
other_commit me (Some o) differ = λ same. differ.apart (sym same)

other_compactor : (me : Actor) (m : compacting.Phase) → IfSome (compactor_of m) (λ other. Differ me other) → compactor.IsOtherThan me m
other_compactor me (compactors.View asking m) differ = λ same. differ.apart (sym same)
other_compactor me (compactors.Names x) differ = λ same. differ.apart (sym same)
other_compactor me (compactors.Files x m) differ = λ same. differ.apart (sym same)
other_compactor me (compactors.Create m next rest) differ = other_commit me (commit.own_in m) differ
other_compactor me (compactors.Commit m) differ = other_commit me (commit.own_in m) differ
other_compactor me compactors.Nothing differ = tt
other_compactor me compactors.Over differ = tt

-- a table stays that of its history, which has no fewer entries
table_stays : (s : TableSchema) (h later : History) → GoesOn h later → IsTableOf s h → IsTableOf s later
table_stays s no_table later goes is = absurd is
table_stays s (table t es) no_table goes is = absurd goes
table_stays s (table t es) (table u more) goes is = goes.0 ∙ is

count_grows : (h later : History) → GoesOn h later → count_of h ≤ count_of later
count_grows no_table later goes = omega arith
count_grows (table s es) no_table goes = absurd goes
count_grows (table s es) (table t later) (same, more, is) =
    let size = ap length is in let both = length-append es more in omega (arith, size, both)

followed_stays : KnownLaws → (x : Followed) (p q : Past) → GoesOn p.history q.history → KnowsFollowed x p → KnowsFollowed x q
followed_stays laws x p q goes known =
    let grown = count_grows p.history q.history goes in
    let within = known.within in
    record {
      table = table_stays x.schema p.history q.history goes known.table;
      least = known.least;
      bound = known.bound;
      within = omega (arith, within, grown);
      frames = laws.frames p.history q.history x.start x.frames goes known.frames;
    }

knows_still : KnownLaws → (b : Worker) (me : Actor) (f after : Files) (p q : Past) → IfSome (actor_of b) (λ other. Differ me other) → Stands f p
    → Advances me f p after q → Knows b f p → Knows b after q
knows_still laws (waits other) me f after p q differ stands advances known =
    laws.waits other me f after p q stands advances (λ same. differ.apart (sym same)) known
knows_still laws (creates t m) me f after p q differ stands advances known =
    laws.creates t m me f after p q stands advances (origins_apart laws me t.me differ) known
knows_still laws (lists other m) me f after p q differ stands advances known = laws.lists m me f after p q stands advances known
knows_still laws (scans other m) me f after p q differ stands advances known = laws.scans m me f after p q stands advances known
knows_still laws (finds other s m) me f after p q differ stands advances (is, known) = (
  table_stays s p.history q.history (laws.goes_on me f after p.history q.history advances.change) is,
  laws.finds m me f after p q stands advances known,
)
knows_still laws (follows other x m) me f after p q differ stands advances (followed, known) = (
  followed_stays laws x p q (laws.goes_on me f after p.history q.history advances.change) followed,
  laws.follows m me f after p q stands advances known,
)
knows_still laws (commits e m) me f after p q differ stands advances known =
    laws.commits e m me f after p q stands advances (other_commit me (commit.own_in m) differ) known
knows_still laws (compacts m) me f after p q differ stands advances known =
    laws.compacts m me f after p q stands advances (other_compactor me m differ) known
knows_still laws (registers other r m) me f after p q differ stands advances known =
    laws.registers other me r m f after p q stands advances (followers_apart me other differ) known
knows_still laws (moves m phase) me f after p q differ stands advances known = laws.moves m phase me f after p q stands advances known
knows_still laws (drops d phase) me f after p q differ stands advances known = laws.drops d phase me f after p q stands advances known
knows_still laws (expires other m) me f after p q differ stands advances known = laws.expires m me f after p q stands advances known

apart_from : (a b : Worker) (me : Actor) → actor_of a ≡ Some me → AreApart a b → IfSome (actor_of b) (λ other. Differ me other)
apart_from a b me is apart =
    subst (λ (o : Option Actor). IfSome o (λ (me : Actor). IfSome (actor_of b) (λ (other : Actor). Differ me other))) is apart

all_still : KnownLaws → (a : Worker) (others : List Worker) (f after : Files) (p q : Past) → AllByRecursion (AreApart a) others → Stands f p
    → StepsAs (actor_of a) f p after q → AllKnow others f p → AllKnow others after q
all_still laws a [] f after p q apart stands acts known = tt
all_still laws a (b ∷ others) f after p q apart stands acts known = (
  knows_still laws b acts.0 f after p q (apart_from a b acts.0 acts.1 apart.0) stands acts.2 known.0,
  all_still laws a others f after p q apart.1 stands acts known.1,
)

-- where no path has another content the files are the same
kept_files : (f after : Files) (p q : Past) → IsKept f p after q → after ≡ f
kept_files f after p q kept = same_map nat_list_cmp_total (slice_cmp-IsAntisymmetric nat_cmp-IsAntisymmetric) after f kept.files

all_kept : (others : List Worker) (f after : Files) (p q : Past) → IsKept f p after q → Stands f p → AllKnow others f p → Stands after q × AllKnow others after q
all_kept others f after p q kept stands known =
    subst (λ (g : Files). Stands g q × AllKnow others g q) (sym (kept_files f after p q kept))
    (subst (λ (r : Past). Stands f r × AllKnow others f r) (sym kept.past) (stands, known))

pub others_know : KnownLaws → (a : Worker) (others : List Worker) → AllByRecursion (AreApart a) others → Lasts Stands (Leaves a) (AllKnow others)
others_know laws a others apart f after p q stands known changes = by (steps laws a f after p q changes)
  where
    by : Steps a f p after q → Stands after q × AllKnow others after q
    by (inl acts) = (laws.past acts.0 f after p q stands acts.2, all_still laws a others f after p q apart stands acts known)
    by (inr kept) = all_kept others f after p q kept stands known

-- ---- who is apart

apart_back : (a b : Worker) → AreApart a b → AreApart b a
apart_back a b apart = at (actor_of a) (actor_of b) apart
  where
    at : (mine its : Option Actor) → IfSome mine (λ me. IfSome its (λ other. Differ me other)) → IfSome its (λ me. IfSome mine (λ other. Differ me other))
    at None None apart = tt
    at None (Some other) apart = tt
    at (Some me) None apart = tt
    at (Some me) (Some other) apart = record { mine = apart.its; its = apart.mine; apart = λ same. apart.apart (sym same) }

-- one of them apart
one_out : (P : Worker → Type 0) (before later : List Worker) (a : Worker) → AllByRecursion P (before ++ a ∷ later) → AllByRecursion P (before ++ later) × P a
one_out P [] later a all = (all.1, all.0)
one_out P (b ∷ before) later a all =
    let rest = one_out P before later a all.1 in
    ((all.0, rest.0), rest.1)

apart_rest : (before later : List Worker) (a : Worker) → AreAllApart (before ++ a ∷ later) → AllByRecursion (AreApart a) (before ++ later)
apart_rest [] later a all = all.0
apart_rest (b ∷ before) later a all =
    (apart_back b a (one_out (AreApart b) before later a all.0).1, apart_rest before later a all.1)

left_apart : (before later : List Worker) (a : Worker) → AreAllApart (before ++ a ∷ later) → AreAllApart (before ++ later)
left_apart [] later a all = all.1
left_apart (b ∷ before) later a all = ((one_out (AreApart b) before later a all.0).0, left_apart before later a all.1)

-- a machine that keeps its actor stays apart
module _ (a new : Worker) (keeps : KeepsActor a new) where
  new_apart : (b : Worker) → AreApart b a → AreApart b new
  new_apart b apart = at (actor_of new) keeps
    where
      by_none : (its : Option Actor) → IfSome its (λ me. Unit {0})
      by_none None = tt
      by_none (Some me) = tt

      at : (mine : Option Actor) → IfSome mine (λ me. actor_of a ≡ Some me) → IfSome (actor_of b) (λ its. IfSome mine (λ me. Differ its me))
      at None is = by_none (actor_of b)
      at (Some me) is = subst (λ (o : Option Actor). IfSome (actor_of b) (λ its. IfSome o (λ me. Differ its me))) is apart

  all_new : (b : Worker) (before later : List Worker) → AllByRecursion (AreApart b) (before ++ a ∷ later) → AllByRecursion (AreApart b) (before ++ new ∷ later)
  all_new b [] later all = (new_apart b all.0, all.1)
  all_new b (c ∷ before) later all = (all.0, all_new b before later all.1)

  from_new : (later : List Worker) → AllByRecursion (AreApart a) later → AllByRecursion (AreApart new) later
  from_new [] all = tt
  from_new (b ∷ later) all = (apart_back b new (new_apart b (apart_back a b all.0)), from_new later all.1)

  still_apart : (before later : List Worker) → AreAllApart (before ++ a ∷ later) → AreAllApart (before ++ new ∷ later)
  still_apart [] later all = (from_new later all.0, all.1)
  still_apart (b ∷ before) later all = (all_new b before later all.0, still_apart before later all.1)

-- ---- a world

-- one of them apart, and put in again
taken_out : (before later : List Worker) (a : Worker) (f : Files) (p : Past) → AllKnow (before ++ a ∷ later) f p → AllKnow (before ++ later) f p × Knows a f p
taken_out [] later a f p known = (known.1, known.0)
taken_out (b ∷ before) later a f p known =
    let rest = taken_out before later a f p known.1 in
    ((known.0, rest.0), rest.1)

put_in : (before later : List Worker) (a : Worker) (f : Files) (p : Past) → AllKnow (before ++ later) f p → Knows a f p → AllKnow (before ++ a ∷ later) f p
put_in [] later a f p known own = (own, known)
put_in (b ∷ before) later a f p known own = (known.0, put_in before later a f p known.1 own)

-- what the law above says
abbrev pub OthersKnow : Type 0
OthersKnow = (a : Worker) (others : List Worker) → AllByRecursion (AreApart a) others → Lasts Stands (Leaves a) (AllKnow others)

-- an operation of one of them, and the others then
module _ (law : OthersKnow) (before later : List Worker) (a : Worker) (ops : List Op) where
  -- after a change of some kind
  others_then : (after : Files) (p q : Past) → AreAllApart (before ++ a ∷ later) → Stands (files_after ops) p → AllKnow (before ++ a ∷ later) (files_after ops) p
      → Leaves a (files_after ops) p after q → Stands after q × AllKnow (before ++ later) after q
  others_then after p q apart stands known change =
      law a (before ++ later) (apart_rest before later a apart) (files_after ops) after p q stands (taken_out before later a (files_after ops) p known).0 change

  pub stepped : (new : Worker) (op : Op) → KeepsActor a new → Keeps Stands (Leaves a) (Knows a) (Knows new) op (files_after ops) → IsWorld (before ++ a ∷ later) ops
      → IsWorld (before ++ new ∷ later) (ops ++ op ∷ [])
  stepped new op keeps moved (apart, (p, stands, known)) =
      let leads = (moved p stands (taken_out before later a (files_after ops) p known).1).1 in
      let then = others_then (after_op op (files_after ops)) p leads.0 apart stands known leads.1 in (
        still_apart a new keeps before later apart,
        subst (λ (f : Files). (q : Past) × Stands f q × AllKnow (before ++ new ∷ later) f q) (sym (files_after-push ops op))
            (leads.0, then.0, put_in before later new (after_op op (files_after ops)) leads.0 then.1 leads.2),
      )

  pub cut_off : (new : Worker) (op : Op) (effect : Effect) → Keeps Stands (Leaves a) (Knows a) (Knows new) op (files_after ops) → IsWorld (before ++ a ∷ later) ops
      → IsWorld (before ++ later) (ops ++ own_op op.call effect ∷ [])
  cut_off new op effect moved (apart, (p, stands, known)) =
      let change = (moved p stands (taken_out before later a (files_after ops) p known).1).0 effect in
      let then = others_then (after_effect op.call effect (files_after ops)) p change.0 apart stands known change.1 in (
        left_apart before later a apart,
        subst (λ (f : Files). (q : Past) × Stands f q × AllKnow (before ++ later) f q) (sym (files_after-push ops (own_op op.call effect)))
            (change.0, then.0, then.1),
      )

-- one of them in the place of another, of which it knows what it has to
module _ (before later : List Worker) (a new : Worker) (ops : List Op) (keeps : KeepsActor a new) where
  pub replaced : ((p : Past) → Stands (files_after ops) p → Knows a (files_after ops) p → Knows new (files_after ops) p) → IsWorld (before ++ a ∷ later) ops
      → IsWorld (before ++ new ∷ later) ops
  replaced knows (apart, (p, stands, known)) =
      let out = taken_out before later a (files_after ops) p known in
      (still_apart a new keeps before later apart, (p, stands, put_in before later new (files_after ops) p out.0 (knows p stands out.1)))

-- where one of them stops
pub left : (before later : List Worker) (a : Worker) (ops : List Op) → IsWorld (before ++ a ∷ later) ops → IsWorld (before ++ later) ops
left before later a ops (apart, (p, stands, known)) = (left_apart before later a apart, (p, stands, (taken_out before later a (files_after ops) p known).0))
