-- What an expiry keeps for those who read it.
use Rattle.std.proofs.Common.{◌≡◌, ◌⊎◌, inl, inr, ℕ, zero, suc, ◌+◌, ◌-◌, ◌<◌, ◌≤◌, Bool, true, false, List, [], ◌∷◌, length, codes, Contains, Option, None, Some, IsSome, refl, sym, subst, ap, ◌∙◌, arith}
use Rattle.std.specs.FinMap as map
use Rattle.std.proofs.lemmas.Bool.{cases_lt}
use Rattle.std.proofs.lemmas.Cmp.{nat_list_cmp_total}
use Rattle.std.proofs.lemmas.List.{append-nil, append_cancel_left}
use Rattle.pm_base.specs.Known.{and_then}
use Rattle.pm_values.specs.declared.refusal.Refusal.{Refusal}
use Rattle.pm_values.specs.declared.refusal.Refusal.TheVariants as refusals
use Rattle.pm_io.specs.Sink.{SinkView, TookPrefix}
use Rattle.pm_store.specs.Files.{Files}
use Rattle.pm_store.specs.Store.{StoreView, IsAlone}
use Rattle.pm_schema.specs.declared.schema.TableSchema.{TableSchema}
use Rattle.pm_partitions.proofs.Plain.{plain_names}
use Rattle.pm_snapshot.specs.Names.{greatest, snapshot_name}
use Rattle.pm_model_history.specs.History.{Entry, History, IsTableOf, no_table, rows_up_to, table}
use Rattle.pm_model_history.specs.Merged.{scan_text}
use Rattle.pm_model_folder.specs.Changes.{Actor, HavePlainNames}
use Rattle.pm_model_folder.specs.Consumers.{said_in}
use Rattle.pm_model_folder.specs.Folder.{Folder, HasTable, HaveSettled}
use Rattle.pm_model_folder.specs.Paths.{consumer_path, snapshot_path}
use Rattle.pm_model_folder.proofs.BesideLemmas.{floor-consumer, floor-snapshot, needs-other, snapshot-table}
use Rattle.pm_model_folder.proofs.Facts.{some-none}
use Rattle.pm_model_folder.proofs.PathLemmas.{other-snapshot, snapshot-schema}
use Rattle.pm_create.specs.Making.{LeavesFiles}
use Rattle.pm_scan.specs.AllCalls.{path_of}
use Rattle.pm_read_expiry.specs.declared.asking.Asking.{Asking}
use Rattle.pm_expire.specs.AllCalls.{IsEndIn, IsGivenBack, its_file, its_floor, its_snapshot}
use Rattle.pm_words.specs.declared.command.Command.{Command}
use Rattle.pm_words.specs.declared.command.Command.TheVariants as commands
use Rattle.pm_command.specs.Outside.{actor}
use Rattle.pm_command.specs.declared.start.Start.{Start}
use Rattle.pm_command_consume.specs.Alone.{AnswersTable, Beginning, Begins, ConsumesTables, Refuses, Stops, breaks_off, full_after, prints, refuses, settled_at, settled_in, start_after, stops}
use Rattle.pm_command_consume.specs.Consume.{consuming}
use Rattle.pm_command_consume.specs.declared.consuming.Consuming.{Consuming}
use Rattle.pm_command_expire.specs.Expire.{asked_by}
use Rattle.pm_command_follow.specs.Follow as follows
use Rattle.pm_command_follow.specs.Follow.{FollowsTables}
use Rattle.pm_command_follow.specs.Printed.{count_from, follow_text, text_so_far}
use Rattle.pm_command_follow.proofs.TextLemmas.{and_then_nothing, follow_split}
use Rattle.pm_command_scan.specs.Scan as scans
use Rattle.pm_command_scan.specs.Scan.{ScansTables}
use Rattle.pm_cli.specs.Commands.{ServesHistories, keep_asked}
use Rattle.pm_cli.specs.InTurn.{AreInTurn, Ending, HandsOn, IsExecuted, MakesBy, ended, stopped, to_its_end}
use Rattle.pm_cli.specs.Kept.{IsForNoLoss, IsForNoLossFollowed, IsKeptBy, PrintsText, least_read}
use Rattle.pm_cli.specs.Promise as promise
use Rattle.pm_cli.specs.Promise.{Does, Execution, ExpiresAt, HasMade, KeepsIt, MayBecome, MayMake, StandsForOthers, found_by}
use Rattle.pm_cli.specs.Start.{HasInput, LeavesOut, MayAdd, MayStart, MayTake, MayWrite, PrintsPieces, consumed_text, frames_after}
use Rattle.pm_cli.proofs.Common.{any_both, any_here, leaves_both, leaves_each, leaves_weaker}
use Rattle.pm_cli.proofs.First.{acts_goes_on, first_same, from_before}
use Rattle.pm_cli.proofs.InTurn.{KeepsEach, given-back, next_store, spares-consumers}

-- ---- a snapshot's file

-- what the law of ends says: files have one
abbrev pub OneEnd : Type 0
OneEnd = (a : Asking) (f : Files) (end other : ℕ) → IsEndIn a f end → IsEndIn a f other → end ≡ other

-- what may become of the file at a path by a command of this actor
abbrev BecomesBy : Command → Actor → Start → History → Files → Files → List ℕ → Type 0
BecomesBy command me start h was f path = (map.get f path ≡ map.get was path)
    ⊎ (((map.get was path ≡ None) × MayAdd command me h path)
    ⊎ (((map.get f path ≡ None) × MayTake command path)
    ⊎ (MayWrite command path ⊎ ExpiresAt command start h was f path)))

-- by one that makes, takes and writes none
or_expires : (S A B E : Type 0) → S ⊎ ((A × ⊥) ⊎ ((B × ⊥) ⊎ (⊥ ⊎ E))) → S ⊎ E
or_expires S A B E (inl same) = inl same
or_expires S A B E (inr (inl (none, adds))) = absurd adds
or_expires S A B E (inr (inr (inl (gone, takes)))) = absurd takes
or_expires S A B E (inr (inr (inr (inl writes)))) = absurd writes
or_expires S A B E (inr (inr (inr (inr expires)))) = inr expires

-- a snapshot's file doesn't go with those below an end that isn't above it
spared : (f : Files) (s : TableSchema) (es : List Entry) (id end : ℕ) → HasTable f s es → HavePlainNames s → id ≤ greatest → end ≤ id
    → IsGivenBack s f end (snapshot_path id) → ⊥
spared f s es id end folder plain high from (its_snapshot zero below (name, named, is)) =
    let same : name ≡ snapshot_name id = append_cancel_left (codes "snapshot/") name (snapshot_name id) (sym is) in
    folder.schema.origin id high (named ∙ ap (λ (n : List ℕ). Some n) same)
spared f s es id end folder plain high from (its_snapshot (suc k) below is) =
    other-snapshot (suc k) id (omega (arith, below, from, high)) high (λ (same : suc k ≡ id). omega (arith, below, from, same)) (sym is)
spared f s es id end folder plain high from (its_file k low below names none) =
    needs-other f s k (snapshot_path id) (snapshot_path id) plain
    (other-snapshot id k high (omega (arith, below, from, high)) (λ (same : id ≡ k). omega (arith, below, from, same))) (snapshot-schema (snapshot_name id))
    (snapshot-table (snapshot_name id)) (inr (inr names)) refl
spared f s es id end folder plain high from (its_floor n below is) = floor-snapshot n (snapshot_name id) (sym is)

module _ (law : OneEnd) (min max millis : Option ℕ) (s : TableSchema) (es : List Entry) where
  -- the files stand for the table, and the snapshot is kept
  abbrev pub Keeps : Start → ℕ → Files → Type 0
  Keeps start id f = Folder f (table s es) × IsKeptBy start (keep_asked min max millis) s id f

  -- no expiry changes it
  unchanged : (start : Start) (was f : Files) (id : ℕ) → id ≤ length es → Keeps start id was
      → ExpiresAt (commands.Expire min max millis) start (table s es) was f (snapshot_path id) → ⊥
  unchanged start was f id within (folder, (kept, is_end, from)) (t, is, declared, (first, end, goes, inl (gone, given))) =
      let high = folder.snapshots.within in
      let other : IsEndIn (asked_by start (keep_asked min max millis) s) was end =
      subst (λ (t : TableSchema). IsEndIn (asked_by start (keep_asked min max millis) t) was end) (sym is) goes.is_end in
      let same : kept ≡ end = law (asked_by start (keep_asked min max millis) s) was kept end is_end other in
      spared was s es id end folder (subst HavePlainNames (sym is) (plain_names t declared)) (omega (arith, within, high)) (omega (arith, from, same))
      (subst (λ (t : TableSchema). IsGivenBack t was end (snapshot_path id)) (sym is) given)
  unchanged start was f id within keeps (t, is, declared, (first, end, goes, inr (absent, floor))) = floor-snapshot end (snapshot_name id) (sym floor)

  module _ (e : Execution) (first : StoreView) (later : History) (f : Files) (id : ℕ) (is : e.command ≡ commands.Expire min max millis) (within : id ≤ length es)
      (stands : StandsForOthers e (table s es) first later f) where
    abbrev Same : Files → Type 0
    Same was = map.get f (snapshot_path id) ≡ map.get was (snapshot_path id)

    same_at : (was : Files) → ((path : List ℕ) → MayBecome e (table s es) was f path) → Keeps e.start id was → Same was
    same_at was becomes keeps =
        let may : BecomesBy (commands.Expire min max millis) (actor e.start) e.start (table s es) was f (snapshot_path id) =
        subst (λ (command : Command). BecomesBy command (actor e.start) e.start (table s es) was f (snapshot_path id)) is (becomes (snapshot_path id)) in
        elim (or_expires (Same was) (map.get was (snapshot_path id) ≡ None) (map.get f (snapshot_path id) ≡ None)
        (ExpiresAt (commands.Expire min max millis) e.start (table s es) was f (snapshot_path id)) may) as (λ _. Same was) [
          | inl same ↦ same
          | inr expires ↦ absurd (unchanged e.start was f id within keeps expires)
        ]

    pub kept_same : LeavesFiles (Keeps e.start id) first → LeavesFiles Same first
    kept_same = leaves_both (λ was. (path : List ℕ) → MayBecome e (table s es) was f path) (Keeps e.start id) Same first same_at stands.changes

    pub kept_there : LeavesFiles (λ was. Folder was (table s es) × IsKeptBy e.start (keep_asked min max millis) s id was × IsSome (map.get was (snapshot_path id))) first
        → IsSome (map.get f (snapshot_path id))
    kept_there =
        any_both (λ was. (path : List ℕ) → MayBecome e (table s es) was f path)
        (λ was. Folder was (table s es) × IsKeptBy e.start (keep_asked min max millis) s id was × IsSome (map.get was (snapshot_path id)))
        (IsSome (map.get f (snapshot_path id))) first
        (λ was becomes (folder, kept, there). subst (λ (o : Option (List ℕ)). IsSome o) (sym (same_at was becomes (folder, kept))) there) stands.changes

-- what the law of snapshots that are kept says
abbrev pub KeptThere : Type 0
KeptThere = (min max millis : Option ℕ) (e : Execution) (s : TableSchema) (es : List Entry) (first : StoreView) (later : History) (f : Files) (id : ℕ)
    → e.command ≡ commands.Expire min max millis → id ≤ length es
    → LeavesFiles (λ was. Folder was (table s es) × IsKeptBy e.start (keep_asked min max millis) s id was × IsSome (map.get was (snapshot_path id))) first
    → StandsForOthers e (table s es) first later f → IsSome (map.get f (snapshot_path id))

-- ---- commands that make no other history

made : (e : Execution) (h later : History) (answer : Option Refusal) → HasMade e h answer later → MayMake e h later
made e h later None (text, does, taken) = inr (text, does)
made e h later (Some (refusals.SinkFault snapshot)) (text, does, took, is) = inr (text, does)
made e h later (Some (refusals.StoreFault path)) (makes, at, out) = makes
made e h later (Some other) has = inl has.0

made_by : (ending : Ending) (e : Execution) (h later : History) → MakesBy ending e h later → MayMake e h later
made_by ended e h later makes = made e h later e.refusal makes
made_by stopped e h later makes = makes

-- whatever one does, the history stays
abbrev Stays : Command → History → Type 0
Stays command h = (start : Start) (bytes : List ℕ) (found : StoreView) (later : History) (text : List ℕ) → Does start bytes found command h later text → later ≡ h

scan-stays : (at : Option ℕ) (h : History) → Stays (commands.Scan at) h
scan-stays at h start bytes found later text (promise.scans from s es within) = refl

follow-stays : (from : Option ℕ) (full : Bool) (h : History) → Stays (commands.Follow from None full) h
follow-stays from full h start bytes found later text (promise.follows at with_table s es may) = refl

expire-stays : (min max millis : Option ℕ) (h : History) → Stays (commands.Expire min max millis) h
expire-stays min max millis h start bytes found later text (promise.expires_none a b c s) = refl
expire-stays min max millis h start bytes found later text (promise.expires a b c s es end some ends) = refl

stayed : (ending : Ending) (e : Execution) (command : Command) (h later : History) → e.command ≡ command → Stays command h → MakesBy ending e h later → later ≡ h
stayed ending e command h later is stays makes = by (made_by ending e h later makes)
  where
    by : MayMake e h later → later ≡ h
    by (inl same) = same
    by (inr (text, does)) =
        stays e.start e.input (found_by e) later text (subst (λ (command : Command). Does e.start e.input (found_by e) command h later text) is does)

-- What one found, where the store that it was handed has this: it found the same, nobody else acts from there on, and
-- the next store has what it changed of that.
pub record Turned (ending : Ending) (e : Execution) (h : History) (P : Files → Type 0) (next : StoreView) : Type 0 where
  pub found : LeavesFiles P (found_by e)
  pub alone : IsAlone (found_by e) e.after.store
  pub makes : MakesBy ending e h h
  pub left : LeavesFiles (StandsForOthers e h (found_by e) h) next

turned : KeepsEach → (ending : Ending) (e : Execution) (command : Command) (h : History) (P : Files → Type 0) (store next : StoreView) → e.command ≡ command
    → Stays command h → ((f : Files) → P f → MayStart command (actor e.start) h f) → e.before.store ≡ store → IsExecuted e → IsAlone store e.after.store
    → HasInput e.command e.input e.before.input.left → HandsOn ending e next → LeavesFiles P store → Turned ending e h P next
turned keeps ending e command h P store next is stays starts same executed alone input leaves here =
    let first = found_by e in
    let goes = acts_goes_on e.command executed.single e.start e.before e.after e.refusal executed.acts in
    let only : IsAlone e.before.store e.after.store = subst (λ (store : StoreView). IsAlone store e.after.store) (sym same) alone in
    let there : LeavesFiles P e.before.store = subst (λ (store : StoreView). LeavesFiles P store) (sym same) here in
    let found = from_before P e.before.store e.after.store goes only there in
    let may = leaves_weaker P (MayStart e.command (actor e.start) h) first
    (λ f has. subst (λ (command : Command). MayStart command (actor e.start) h f) (sym is) (starts f has)) found.0 in
    let kept : KeepsIt e h first = keeps e executed found.1 h may input in
    let left = next_store ending e h first next (first_same P e.before.store e.after.store goes only there) kept leaves in
    let rests : left.0 ≡ h = stayed ending e command h left.0 is stays left.1 in record {
      found = found.0;
      alone = found.1;
      makes = subst (MakesBy ending e h) rests left.1;
      left = subst (λ (later : History). LeavesFiles (StandsForOthers e h first later) next) rests left.2;
    }

-- ---- one that changes no file

same_files : (f g : Files) → ((path : List ℕ) → map.get g path ≡ map.get f path) → f ≡ g
same_files f g same = sym (map.same_map nat_list_cmp_total (map.slice_cmp-IsAntisymmetric map.nat_cmp-IsAntisymmetric) g f same)

-- by one that makes, takes, writes and expires none
only_same : (S A B : Type 0) → S ⊎ ((A × ⊥) ⊎ ((B × ⊥) ⊎ (⊥ ⊎ ⊥))) → S
only_same S A B may = elim (or_expires S A B ⊥ may) as (λ _. S) [
  | inl same ↦ same
  | inr never ↦ absurd never
]

abbrev ChangesNone : Command → Type 0
ChangesNone command = (me : Actor) (start : Start) (h : History) (was f : Files) (path : List ℕ) → BecomesBy command me start h was f path
    → map.get f path ≡ map.get was path

scan-same : (at : Option ℕ) → ChangesNone (commands.Scan at)
scan-same at me start h was f path may = only_same (map.get f path ≡ map.get was path) (map.get was path ≡ None) (map.get f path ≡ None) may

follow-same : (from : Option ℕ) (full : Bool) → ChangesNone (commands.Follow from None full)
follow-same from full me start h was f path may = only_same (map.get f path ≡ map.get was path) (map.get was path ≡ None) (map.get f path ≡ None) may

-- leaves what it finds
finds : (e : Execution) (command : Command) (h : History) (first : StoreView) (P : Files → Type 0) → e.command ≡ command → ChangesNone command
    → LeavesFiles P first → (later : History) (g : Files) → StandsForOthers e h first later g → P g
finds e command h first P is none here later g stands =
    any_both (λ was. (path : List ℕ) → MayBecome e h was g path) P (P g) first
    (λ was becomes has. subst P (same_files was g (λ path. none (actor e.start) e.start h was g path
    (subst (λ (command : Command). BecomesBy command (actor e.start) e.start h was g path) is (becomes path)))) has)
    stands.changes here

-- ---- snapshots that are there

-- all these have a file
abbrev pub AreThere : ℕ → ℕ → Files → Type 0
AreThere low high f = (id : ℕ) → (low ≤ id) × (id ≤ high) → IsSome (map.get f (snapshot_path id))

-- so none has gone
none-gone : (first : StoreView) (s : TableSchema) (low high id : ℕ) → 1 ≤ low → low ≤ id → id ≤ high → LeavesFiles (AreThere low high) first
    → LeavesFiles (λ f. map.get f (path_of s id) ≡ None) first → ⊥
none-gone first s low high zero some from to there gone = absurd (omega (arith, some, from))
none-gone first s low high (suc id) some from to there gone =
    any_both (AreThere low high) (λ f. map.get f (snapshot_path (suc id)) ≡ None) ⊥ first
    (λ f are none. some-none (map.get f (snapshot_path (suc id))) (are (suc id) (from, to)) none) there gone

-- that of an id after the origin
at_path : (first : StoreView) (s : TableSchema) (id : ℕ) → 1 ≤ id → LeavesFiles (λ f. IsSome (map.get f (path_of s id))) first
    → LeavesFiles (λ f. IsSome (map.get f (snapshot_path id))) first
at_path first s zero some there = absurd (omega (arith, some))
at_path first s (suc id) some there = there

-- ---- prefixes of a text

-- all of it was printed, or nothing
whole-taken : (before after : SinkView) (text : List ℕ) → after.taken ≡ and_then before.taken text → TookPrefix before.taken after.taken text
whole-taken before after text taken = (text, [], sym (append-nil text), taken)

none-taken : (before after : SinkView) (text : List ℕ) → after ≡ before → TookPrefix before.taken after.taken text
none-taken before after text same = ([], text, refl, ap (λ (view : SinkView). view.taken) same ∙ sym (and_then_nothing before.taken))

-- or the first pieces
pieces-taken : (s : TableSchema) (es : List Entry) (full : Bool) (start count total : ℕ) (before after : SinkView) → count ≤ total
    → after.taken ≡ and_then before.taken (text_so_far s es full start count) → TookPrefix before.taken after.taken (text_so_far s es full start total)
pieces-taken s es full start count total before after within taken =
    let split = follow_split s es full start count total within in (text_so_far s es full start count, split.0, split.1, taken)

-- no more than there are
within-some : (count total : ℕ) → (count < total) ⊎ (count ≡ 0) → count ≤ total
within-some count total (inl less) = omega (arith, less)
within-some count total (inr none) = omega (arith, none)

-- ---- an expiry between two that read

module _ (keeps : KeepsEach) (law : KeptThere) (min max millis : Option ℕ) (how : Ending) (expire : Execution) (is_expire : expire.command ≡ commands.Expire min max millis)
    (s : TableSchema) (es : List Entry) where
  abbrev h : History
  h = table s es

  -- the least is kept, and so are all from there on
  abbrev Kept : ℕ → Files → Type 0
  Kept low f = Folder f h × IsKeptBy expire.start (keep_asked min max millis) s low f

  abbrev Before : ℕ → ℕ → Files → Type 0
  Before low high f = Kept low f × AreThere low high f

  abbrev After : ℕ → ℕ → Files → Type 0
  After low high f = Folder f h × AreThere low high f

  one-kept : (low high id : ℕ) → low ≤ id → id ≤ high → (f : Files) → Before low high f
      → Folder f h × IsKeptBy expire.start (keep_asked min max millis) s id f × IsSome (map.get f (snapshot_path id))
  one-kept low high id from to f ((folder, (end, is_end, below)), there) =
      (folder, (end, is_end, omega (arith, below, from)), there id (from, to))

  over : (low high : ℕ) → high ≤ length es → (store next : StoreView) → expire.before.store ≡ store → IsExecuted expire → IsAlone store expire.after.store
      → HasInput expire.command expire.input expire.before.input.left → HandsOn how expire next → LeavesFiles (Before low high) store
      → LeavesFiles (After low high) next
  over low high within store next same executed alone input leaves here =
      let turn = turned keeps how expire (commands.Expire min max millis) h (Before low high) store next is_expire (expire-stays min max millis h)
      (λ f has. has.0.0) same executed alone input leaves here in
      leaves_weaker (StandsForOthers expire h (found_by expire) h) (After low high) next
      (λ g stands. (
        stands.folder,
        λ id (from, to). law min max millis expire s es (found_by expire) h g id is_expire (omega (arith, to, within))
            (leaves_weaker (Before low high) (λ f. Folder f h × IsKeptBy expire.start (keep_asked min max millis) s id f × IsSome (map.get f (snapshot_path id))) (found_by expire)
            (one-kept low high id from to) turn.found) stands,
      ))
      turn.left

  -- ---- one that reads before it and after it

  -- what one finds at its first call, from which on nobody else acts
  pub record Reads (e : Execution) (P : Files → Type 0) : Type 0 where
    pub executed : IsExecuted e
    pub alone : IsAlone (found_by e) e.after.store
    pub found : LeavesFiles P (found_by e)
    pub makes : HasMade e h e.refusal h

  module _ (before after : Execution) where
    abbrev pub AreThree : StoreView → StoreView → Type 0
    AreThree store last = AreInTurn store (to_its_end before ∷ record { execution = expire; ending = how } ∷ to_its_end after ∷ []) last

    -- The first one finds the least snapshot kept. Where some are there from it on, the last one finds them.
    between : (command : Command) → Stays command h → ChangesNone command → ((me : Actor) (f : Files) → Folder f h → MayStart command me h f)
        → before.command ≡ command → after.command ≡ command → (low : ℕ) (store last : StoreView) → AreThree store last → LeavesFiles (Kept low) store
        → Reads before (Kept low) × ((high : ℕ) → high ≤ length es → LeavesFiles (AreThere low high) (found_by before) → Reads after (After low high))
    between command stays none starts is_before is_after low store last
        (same_1, executed_1, alone_1, input_1, (one, leaves_1, (same_2, executed_2, alone_2, input_2, (two, leaves_2, (same_3, executed_3, alone_3, input_3, (three, leaves_3, end)))))) here =
        let turn = turned keeps ended before command h (Kept low) store one is_before stays (λ f has. starts (actor before.start) f has.0)
        same_1 executed_1 alone_1 input_1 leaves_1 here in (
          record { executed = executed_1; alone = turn.alone; found = turn.found; makes = turn.makes },
          λ high within there.
              let has : LeavesFiles (Before low high) (found_by before) =
              leaves_both (Kept low) (AreThere low high) (Before low high) (found_by before) (λ f kept are. (kept, are)) turn.found there in
              let handed : LeavesFiles (Before low high) one =
              leaves_weaker (StandsForOthers before h (found_by before) h) (Before low high) one
              (finds before command h (found_by before) (Before low high) is_before none has h) turn.left in
              let next : LeavesFiles (After low high) two = over low high within one two same_2 executed_2 alone_2 input_2 leaves_2 handed in
              let again = turned keeps ended after command h (After low high) two three is_after stays (λ f has. starts (actor after.start) f has.0)
              same_3 executed_3 alone_3 input_3 leaves_3 next in
              record { executed = executed_3; alone = again.alone; found = again.found; makes = again.makes },
        )

  -- what one printed that wasn't refused
  printed-whole : (e : Execution) (text : List ℕ) → e.refusal ≡ None → e.after.out.taken ≡ and_then e.before.out.taken text → PrintsText IsForNoLoss e text
  printed-whole e text none taken = record {
    all = λ same. taken;
    part = whole-taken e.before.out e.after.out text taken;
    cause = subst IsForNoLoss (sym none) tt;
  }

  is-table : h ≡ no_table → ⊥
  is-table none = cc

  -- ---- two scans

  module _ (id : ℕ) (some : 1 ≤ id) where
    abbrev Scanned : Execution → Option Refusal → Type 0
    Scanned e answer = scans.AnswersHistory h (Some id) (found_by e) e.before e.after answer

    scanned : (e : Execution) (P : Files → Type 0) → e.command ≡ commands.Scan (Some id) → ((f : Files) → P f → Folder f h) → Reads e P → Scanned e e.refusal
    scanned e P is stands reads =
        let serves : ScansTables (Some id) e.before e.after e.refusal =
        subst (λ (command : Command). ServesHistories command e.start e.before e.after e.refusal) is reads.executed.history in
        (serves reads.alone h (leaves_weaker P (λ f. Folder f h) (found_by e) stands reads.found)).answers

    scan-cause : (e : Execution) (answer : Option Refusal) → Scanned e answer → id ≤ length es → LeavesFiles (AreThere id id) (found_by e) → IsForNoLoss answer
    scan-cause e None answers high there = tt
    scan-cause e (Some refusals.Memory) answers high there = tt
    scan-cause e (Some (refusals.StoreFault path)) answers high there = tt
    scan-cause e (Some (refusals.SinkFault snapshot)) answers high there = tt
    scan-cause e (Some refusals.NoTable) none high there = is-table none
    scan-cause e (Some (refusals.Expired gone)) (declared, at, within, (t, is, none)) high there =
        let same : id ≡ gone = cc in
        none-gone (found_by e) t id id gone some (omega (arith, same)) (omega (arith, same)) there none
    scan-cause e (Some (refusals.NoSnapshot other latest)) (declared, at, is, above) high there =
        let same : id ≡ other = cc in
        omega (arith, same, is, above, high)
    scan-cause e (Some other) never high there = never

    scan-none : (e : Execution) → e.command ≡ commands.Scan (Some id) → LeavesOut e.command (found_by e) h e.before.out e.after.out
        → TookPrefix e.before.out.taken e.after.out.taken (scan_text s (rows_up_to es id))
    scan-none e is out =
        none-taken e.before.out e.after.out (scan_text s (rows_up_to es id))
        (subst (λ (command : Command). LeavesOut command (found_by e) h e.before.out e.after.out) is out)

    scan-part : (e : Execution) (answer : Option Refusal) → e.command ≡ commands.Scan (Some id) → Scanned e answer → HasMade e h answer h
        → TookPrefix e.before.out.taken e.after.out.taken (scan_text s (rows_up_to es id))
    scan-part e None is answers makes = whole-taken e.before.out e.after.out (scan_text s (rows_up_to es id)) answers.1
    scan-part e (Some (refusals.SinkFault snapshot)) is answers makes = answers.2
    scan-part e (Some (refusals.StoreFault path)) is answers (makes, at, out) = scan-none e is out
    scan-part e (Some other) is answers makes = scan-none e is makes.1

    -- it was there, where it was printed
    that : (first : StoreView) → scans.IsThere h id first → LeavesFiles (λ f. IsSome (map.get f (snapshot_path id))) first
    that first (within, (t, is, there)) = at_path first t id some there

    pub two_scans : (before after : Execution) (store last : StoreView) → before.command ≡ commands.Scan (Some id) → before.refusal ≡ None
        → after.command ≡ commands.Scan (Some id) → AreThree before after store last → LeavesFiles (Kept id) store
        → PrintsText IsForNoLoss before (scan_text s (rows_up_to es id)) × PrintsText IsForNoLoss after (scan_text s (rows_up_to es id))
    two_scans before after store last is_before printed is_after turns here =
        let both = between before after (commands.Scan (Some id)) (scan-stays (Some id) h) (scan-same (Some id)) (λ me f folder. folder) is_before is_after id store last
        turns here in
        let was : Scanned before None = subst (Scanned before) printed (scanned before (Kept id) is_before (λ f has. has.0) both.0) in
        let are : LeavesFiles (AreThere id id) (found_by before) =
        leaves_weaker (λ f. IsSome (map.get f (snapshot_path id))) (AreThere id id) (found_by before)
        (λ f there other (from, to). (let same : id ≡ other = omega (arith, from, to) in subst (λ (n : ℕ). IsSome (map.get f (snapshot_path n))) same there))
        (that (found_by before) was.0) in
        let reads = both.1 id was.0.0 are in
        let answers : Scanned after after.refusal = scanned after (After id id) is_after (λ f has. has.0) reads in (
          printed-whole before (scan_text s (rows_up_to es id)) printed was.1,
          record {
            all = λ none. (subst (Scanned after) none answers).1;
            part = scan-part after after.refusal is_after answers reads.makes;
            cause = scan-cause after after.refusal answers was.0.0 (leaves_weaker (After id id) (AreThere id id) (found_by after) (λ f has. has.1) reads.found);
          },
        )

  -- ---- two followings

  module _ (from : ℕ) (full : Bool) (some : 1 ≤ least_read from full) where
    abbrev low : ℕ
    low = least_read from full

    abbrev Followed : Execution → Option Refusal → Type 0
    Followed e answer = follows.AnswersHistory h (Some from) full (found_by e) e.after.store e.before.out e.after.out answer

    followed : (e : Execution) (P : Files → Type 0) → e.command ≡ commands.Follow (Some from) None full → ((f : Files) → P f → Folder f h) → Reads e P
        → Followed e e.refusal
    followed e P is stands reads =
        let serves : FollowsTables (Some from) full e.before e.after e.refusal =
        subst (λ (command : Command). ServesHistories command e.start e.before e.after e.refusal) is reads.executed.history in
        (serves reads.alone h (leaves_weaker P (λ f. Folder f h) (found_by e) stands reads.found)).answers

    -- all were there, where they were printed
    read : (first : StoreView) (before after : SinkView) (was : follows.PrintsTable s es (Some from) full first before after) → (id : ℕ) → (low ≤ id) × (id ≤ length es)
        → LeavesFiles (λ f. IsSome (map.get f (snapshot_path id))) first
    read first before after was id (begins, to) = at_path first s id (omega (arith, some, begins)) (by full was.base begins)
      where
        by : (full : Bool) → (full ≡ true → follows.IsThere s (from - 1) first) → least_read from full ≤ id → follows.IsThere s id first
        by false base begins = was.each id begins to
        by true base begins = elim (cases_lt id from) as (λ _. follows.IsThere s id first) [
          | inl less ↦ (let same : from - 1 ≡ id = omega (arith, less, begins) in subst (λ (n : ℕ). follows.IsThere s n first) same (base refl))
          | inr at ↦ was.each id at to
        ]

    not-above : (full : Bool) → least_read from full ≤ from
    not-above false = omega arith
    not-above true = omega arith

    told : (t : TableSchema) → IsTableOf t h → follows.TellsChanges s → follows.TellsChanges t
    told t is tells = subst follows.TellsChanges is tells

    follow-cause : (e : Execution) (answer : Option Refusal) → Followed e answer → follows.MayStartAt s es (Some from) → LeavesFiles (AreThere low (length es)) (found_by e)
        → IsForNoLoss answer
    follow-cause e None answers starts there = tt
    follow-cause e (Some refusals.Memory) answers starts there = tt
    follow-cause e (Some (refusals.StoreFault path)) answers starts there = tt
    follow-cause e (Some (refusals.SinkFault snapshot)) answers starts there = tt
    follow-cause e (Some refusals.NoTable) (inl (none, untouched)) starts there = is-table none
    follow-cause e (Some refusals.NoTable) (inr (count, took, are, never)) starts there = never
    follow-cause e (Some refusals.NoChangelog) (inl ((t, is, none), untouched)) starts there = told t is starts.0 none
    follow-cause e (Some refusals.NoChangelog) (inr (count, took, are, never)) starts there = never
    follow-cause e (Some (refusals.Expired gone)) (inl ((declared, whole, is, within, (t, same, none)), untouched)) starts there =
        let base : low ≡ from - 1 = ap (least_read from) whole in
        none-gone (found_by e) t low (length es) gone some (omega (arith, base, is)) within there none
    follow-cause e (Some (refusals.Expired gone)) (inr (count, took, are, (is, within, (t, same, none)))) starts there =
        let least = not-above full in
        none-gone (found_by e) t low (length es) (from + count) some (omega (arith, least)) within there none
    follow-cause e (Some (refusals.NoSnapshot other latest)) (inl ((declared, at, is, above), untouched)) starts there =
        let same : from ≡ other = cc in
        let high = starts.1 in
        omega (arith, same, is, above, high)
    follow-cause e (Some (refusals.NoSnapshot other latest)) (inr (count, took, are, never)) starts there = never
    follow-cause e (Some other) (inl (never, untouched)) starts there = never
    follow-cause e (Some other) (inr (count, took, are, never)) starts there = never

    follow-some : (e : Execution) (refusal : Refusal)
        → (follows.MayRefuse h (Some from) full (found_by e) e.after.store refusal × (e.after.out ≡ e.before.out))
        ⊎ follows.StopsAfter h (Some from) full (found_by e) e.after.store e.before.out e.after.out refusal
        → TookPrefix e.before.out.taken e.after.out.taken (follow_text s es (Some from) full)
    follow-some e refusal (inl (may, same)) = none-taken e.before.out e.after.out (follow_text s es (Some from) full) same
    follow-some e refusal (inr (count, took, are, may)) =
        pieces-taken s es full from count (count_from from (length es)) e.before.out e.after.out (within-some count (count_from from (length es)) took.some) took.took.0

    follow-part : (e : Execution) (answer : Option Refusal) → Followed e answer
        → TookPrefix e.before.out.taken e.after.out.taken (follow_text s es (Some from) full)
    follow-part e None answers = whole-taken e.before.out e.after.out (follow_text s es (Some from) full) answers.taken
    follow-part e (Some (refusals.SinkFault snapshot)) answers = answers.2.1
    follow-part e (Some other) answers = follow-some e other answers

    pub two_followings : (before after : Execution) (store last : StoreView) → before.command ≡ commands.Follow (Some from) None full → before.refusal ≡ None
        → after.command ≡ commands.Follow (Some from) None full → AreThree before after store last → LeavesFiles (Kept low) store
        → PrintsText IsForNoLoss before (follow_text s es (Some from) full) × PrintsText IsForNoLoss after (follow_text s es (Some from) full)
    two_followings before after store last is_before printed is_after turns here =
        let both = between before after (commands.Follow (Some from) None full) (follow-stays (Some from) full h) (follow-same (Some from) full) (λ me f folder. folder)
        is_before is_after low store last turns here in
        let was : Followed before None = subst (Followed before) printed (followed before (Kept low) is_before (λ f has. has.0) both.0) in
        let are : LeavesFiles (AreThere low (length es)) (found_by before) =
        leaves_weaker (λ f. Kept low f × AreThere low (length es) f) (AreThere low (length es)) (found_by before) (λ f has. has.1)
        (leaves_each (Kept low) (λ id. (low ≤ id) × (id ≤ length es)) (λ id f. IsSome (map.get f (snapshot_path id))) (found_by before) both.0.found
        (read (found_by before) before.before.out before.after.out was)) in
        let reads = both.1 (length es) (omega arith) are in
        let answers : Followed after after.refusal = followed after (After low (length es)) is_after (λ f has. has.0) reads in (
          printed-whole before (follow_text s es (Some from) full) printed was.taken,
          record {
            all = λ none. (subst (Followed after) none answers).taken;
            part = follow-part after after.refusal answers;
            cause = follow-cause after after.refusal answers was.starts
                (leaves_weaker (After low (length es)) (AreThere low (length es)) (found_by after) (λ f has. has.1) reads.found);
          },
        )

-- ---- a consumer that was settled before it

none-some : (next : ℕ) (known : Option ℕ) → known ≡ Some next → known ≡ None → ⊥
none-some next known is none = cc

module _ (c : Consuming) (b : Beginning) (first last : StoreView) (next : ℕ) (known : b.known ≡ Some next) where
  refuses-cause : (e : Refusal) → Refuses c b first last e → IsForNoLossFollowed (Some e)
  refuses-cause refusals.Memory may = tt
  refuses-cause (refusals.StoreFault path) may = tt
  refuses-cause refusals.NoChangelog may = tt
  refuses-cause (refusals.NoSnapshot id latest) (followed, new, asked, is, above, leaves) = none-some next b.known known new
  refuses-cause (refusals.BelowFloor number floor) (followed, new, is, within, most, leaves) = none-some next b.known known new
  refuses-cause (refusals.Expired id) (joined, new, whole, is, gone, leaves) = none-some next b.known known new
  refuses-cause other never = absurd never

  stops-cause : (count : ℕ) (e : Refusal) → Contains b.names c.name → Stops c b count first last e → IsForNoLossFollowed (Some e)
  stops-cause count refusals.Memory named may = tt
  stops-cause count (refusals.StoreFault path) named may = tt
  stops-cause count (refusals.Expired id) named (is, within, gone, some, unnamed, leaves) = unnamed named
  stops-cause count other named never = absurd never

  consume-cause : (before after : SinkView) (answer : Option Refusal) → Contains b.names c.name → AnswersTable c b first last before after answer
      → IsForNoLossFollowed answer
  consume-cause before after answer named (prints printed leaves settled images) = tt
  consume-cause before after answer named (breaks_off count breaks failed images) = tt
  consume-cause before after answer named (refuses e may same images) = refuses-cause e may
  consume-cause before after answer named (stops e count printed may images) = stops-cause count e named may

consume-stays : (from : Option ℕ) (name : List ℕ) (full : Bool) (h : History) → Stays (commands.Follow from (Some name) full) h
consume-stays from name full h start bytes found later text (promise.consumes n at known with_table s es is tells may) = refl

-- the text that one prints, by what its consumer's file said
consume-text : (start : Start) (bytes : List ℕ) (found : StoreView) (from : Option ℕ) (name : List ℕ) (full : Bool) (s : TableSchema) (es : List Entry) (later : History)
    (text : List ℕ) (known : Option ℕ) → LeavesFiles (λ f. settled_at f name ≡ known) found
    → Does start bytes found (commands.Follow from (Some name) full) (table s es) later text → text ≡ consumed_text s es known from full
consume-text start bytes found from name full s es later text known at (promise.consumes n a said with_table t entries is tells may) =
    any_both (λ f. settled_at f name ≡ said) (λ f. settled_at f name ≡ known) (consumed_text s es said from full ≡ consumed_text s es known from full) found
    (λ f one other. ap (λ (k : Option ℕ). consumed_text s es k from full) (sym one ∙ other)) is at

module _ (keeps : KeepsEach) (min max millis : Option ℕ) (how : Ending) (expire after : Execution) (is_expire : expire.command ≡ commands.Expire min max millis)
    (name : List ℕ) (next : ℕ) (from : Option ℕ) (full : Bool) (is_after : after.command ≡ commands.Follow from (Some name) full) (s : TableSchema) (es : List Entry) where
  abbrev t_h : History
  t_h = table s es

  -- the files stand for the table, and the consumer is settled, with this number
  abbrev HasPlace : Files → Type 0
  HasPlace f = Folder f t_h × HaveSettled f t_h (name ∷ []) × (settled_at f name ≡ Some next)

  -- an expiry leaves its file
  file-stays : (was g : Files) → ((path : List ℕ) → MayBecome expire t_h was g path) → map.get g (consumer_path name) ≡ map.get was (consumer_path name)
  file-stays was g becomes =
      let path = consumer_path name in
      let may : BecomesBy (commands.Expire min max millis) (actor expire.start) expire.start t_h was g path =
      subst (λ (command : Command). BecomesBy command (actor expire.start) expire.start t_h was g path) is_expire (becomes path) in
      by (or_expires (map.get g path ≡ map.get was path) (map.get was path ≡ None) (map.get g path ≡ None)
      (ExpiresAt (commands.Expire min max millis) expire.start t_h was g path) may)
    where
      by : (map.get g (consumer_path name) ≡ map.get was (consumer_path name)) ⊎ ExpiresAt (commands.Expire min max millis) expire.start t_h was g (consumer_path name)
          → map.get g (consumer_path name) ≡ map.get was (consumer_path name)
      by (inl same) = same
      by (inr (t, is, declared, (first, end, goes, inl (gone, given)))) =
          absurd (spares-consumers (commands.Expire min max millis) name (given-back t was end (consumer_path name) declared given))
      by (inr (t, is, declared, (first, end, goes, inr (absent, floor)))) = absurd (floor-consumer end name (sym floor))

  takes-none : (path : List ℕ) → MayTake expire.command path → ⊥
  takes-none path takes = subst (λ (command : Command). MayTake command path) is_expire takes

  still-placed : (first : StoreView) → LeavesFiles HasPlace first → (g : Files) → StandsForOthers expire t_h first t_h g → HasPlace g
  still-placed first here g stands = (
    stands.folder,
    stands.settled (name ∷ []) (λ other named takes. absurd (takes-none (consumer_path other) takes))
        (leaves_weaker HasPlace (λ f. HaveSettled f t_h (name ∷ [])) first (λ f has. has.1) here),
    any_both (λ was. (path : List ℕ) → MayBecome expire t_h was g path) HasPlace (settled_at g name ≡ Some next) first
        (λ was becomes has. ap (λ (content : Option (List ℕ)). settled_in (said_in content)) (file-stays was g becomes) ∙ has.2) stands.changes here,
  )

  abbrev whole : List ℕ
  whole = consumed_text s es (Some next) from full

  text-is : LeavesFiles HasPlace (found_by after) → (text : List ℕ) → Does after.start after.input (found_by after) after.command t_h t_h text → text ≡ whole
  text-is here text does =
      consume-text after.start after.input (found_by after) from name full s es t_h text (Some next)
      (leaves_weaker HasPlace (λ f. settled_at f name ≡ Some next) (found_by after) (λ f has. has.2) here)
      (subst (λ (command : Command). Does after.start after.input (found_by after) command t_h t_h text) is_after does)

  printed-all : LeavesFiles HasPlace (found_by after) → HasMade after t_h None t_h → after.after.out.taken ≡ and_then after.before.out.taken whole
  printed-all here (text, does, taken) = taken ∙ ap (and_then after.before.out.taken) (text-is here text does)

  -- the first pieces of it were, by what the consumer's file said
  printed-pieces : LeavesFiles HasPlace (found_by after) → PrintsPieces t_h name from full (found_by after) after.before.out after.after.out
      → TookPrefix after.before.out.taken after.after.out.taken whole
  printed-pieces here (inl same) = none-taken after.before.out after.after.out whole same
  printed-pieces here (inr (known, said, (count, within, taken))) =
      let is : known ≡ Some next =
      any_both (λ f. settled_at f name ≡ known) HasPlace (known ≡ Some next) (found_by after) (λ f one has. sym one ∙ has.2) said here in
      let all : TookPrefix after.before.out.taken after.after.out.taken (consumed_text s es known from full) =
      pieces-taken s es (full_after known full) (start_after known from (length es)) count (frames_after es known from) after.before.out after.after.out within taken in
      subst (λ (known : Option ℕ). TookPrefix after.before.out.taken after.after.out.taken (consumed_text s es known from full)) is all

  pieces-left : LeavesFiles HasPlace (found_by after) → LeavesOut after.command (found_by after) t_h after.before.out after.after.out
      → TookPrefix after.before.out.taken after.after.out.taken whole
  pieces-left here out =
      printed-pieces here (subst (λ (command : Command). LeavesOut command (found_by after) t_h after.before.out after.after.out) is_after out)

  printed-part : LeavesFiles HasPlace (found_by after) → (answer : Option Refusal) → HasMade after t_h answer t_h
      → TookPrefix after.before.out.taken after.after.out.taken whole
  printed-part here None makes = whole-taken after.before.out after.after.out whole (printed-all here makes)
  printed-part here (Some (refusals.SinkFault snapshot)) (text, does, took, named) =
      subst (TookPrefix after.before.out.taken after.after.out.taken) (text-is here text does) took
  printed-part here (Some (refusals.StoreFault path)) (makes, at, out) = pieces-left here out
  printed-part here (Some other) makes = pieces-left here makes.1

  no-loss : IsExecuted after → IsAlone (found_by after) after.after.store → LeavesFiles HasPlace (found_by after) → IsForNoLossFollowed after.refusal
  no-loss executed alone =
      any_here HasPlace (IsForNoLossFollowed after.refusal) (found_by after)
      (λ f has there.
      let c : Consuming = consuming name from full in
      let b : Beginning = record { schema = s; entries = es; names = name ∷ []; files = f; known = settled_at f name } in
      let serves : ConsumesTables c after.before after.after after.refusal =
      subst (λ (command : Command). ServesHistories command after.start after.before after.after after.refusal) is_after executed.history in
      let answers = (serves alone).table b (there (Begins c b) (record { files = refl; folder = has.0; settled = has.1; known = refl })) in
      consume-cause c b (found_by after) after.after.store next has.2 after.before.out after.after.out after.refusal (0, omega arith, refl) answers)

  pub placed : (store last : StoreView) → AreInTurn store (record { execution = expire; ending = how } ∷ to_its_end after ∷ []) last → LeavesFiles HasPlace store
      → PrintsText IsForNoLossFollowed after whole
  placed store last (same_1, executed_1, alone_1, input_1, (one, leaves_1, (same_2, executed_2, alone_2, input_2, (two, leaves_2, end)))) here =
      let turn = turned keeps how expire (commands.Expire min max millis) t_h HasPlace store one is_expire (expire-stays min max millis t_h) (λ f has. has.0)
      same_1 executed_1 alone_1 input_1 leaves_1 here in
      let handed : LeavesFiles HasPlace one =
      leaves_weaker (StandsForOthers expire t_h (found_by expire) t_h) HasPlace one (still-placed (found_by expire) turn.found) turn.left in
      let again = turned keeps ended after (commands.Follow from (Some name) full) t_h HasPlace one two is_after (consume-stays from name full t_h) (λ f has. has.0)
      same_2 executed_2 alone_2 input_2 leaves_2 handed in record {
        all = λ none. printed-all again.found (subst (λ (answer : Option Refusal). HasMade after t_h answer t_h) none again.makes);
        part = printed-part again.found after.refusal again.makes;
        cause = no-loss executed_2 again.alone again.found;
      }
