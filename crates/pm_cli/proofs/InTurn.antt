-- Commands that are executed one after another.
use Rattle.std.proofs.Common.{◌≡◌, inl, inr, ◌≤◌, ℕ, zero, suc, List, [], ◌∷◌, length, map as each_of, slice_get, append-nil, Contains, Option, None, Some, IsSomeAnd, Ok, refl, sym, subst, ap, ◌∙◌}
use Rattle.std.specs.FinMap as map
use Rattle.std.specs.List.{AllByRecursion}
use Rattle.pm_base.specs.Known.{and_then}
use Rattle.pm_values.specs.declared.refusal.Refusal.{Refusal}
use Rattle.pm_store.specs.declared.call.Op.{Op}
use Rattle.pm_store.specs.Files.{Files, after_from, after_op, files_after}
use Rattle.pm_store.specs.Images.{CrashImage, Extends}
use Rattle.pm_store.specs.Store.{StoreView, IsAlone, at_first_own}
use Rattle.pm_input.specs.Lines.{row_lines}
use Rattle.pm_schema.specs.Again.{IsDeclared}
use Rattle.pm_schema.specs.declared.schema.TableSchema.{TableSchema}
use Rattle.pm_partitions.proofs.Plain.{plain_names}
use Rattle.pm_model_history.specs.History.{Entry, History, no_table, rows_up_to, table}
use Rattle.pm_model_history.specs.Merge.{HistoryRow}
use Rattle.pm_model_history.specs.Merged.{scan_text}
use Rattle.pm_snapshot.specs.Names.{snapshot_name}
use Rattle.pm_model_folder.specs.Changes.{Actor, IsSnapshotPath, origin_name}
use Rattle.pm_model_folder.specs.Folder.{Folder, HaveSettled}
use Rattle.pm_model_folder.specs.Ledger.{count_of}
use Rattle.pm_model_folder.specs.Paths.{consumer_path}
use Rattle.pm_model_folder.proofs.BesideLemmas.{floor-consumer, needs-no_consumer}
use Rattle.pm_model_folder.proofs.PathLemmas.{consumer-own, consumer-schema, consumer-snapshot}
use Rattle.pm_create.specs.Making.{LeavesFiles}
use Rattle.pm_write.specs.Taken.{all_taken}
use Rattle.pm_expire.specs.AllCalls.{IsGivenBack, its_file, its_floor, its_snapshot}
use Rattle.pm_words.specs.declared.command.Command.{Command}
use Rattle.pm_words.specs.declared.command.Command.TheVariants as commands
use Rattle.pm_command.specs.Outside.{actor}
use Rattle.pm_command.specs.declared.start.Start.{Start}
use Rattle.pm_command.proofs.Uncalled.{next_stands}
use Rattle.pm_command_create.specs.Create.{IsDraftOf}
use Rattle.pm_command_write.specs.Write.{entry_by, writer_of}
use Rattle.pm_cli.specs.InTurn.{AreInTurn, Ending, HaveOwnNames, IsExecuted, HandsOn, MakeInTurn, MakesBy, Turn, ended, others_op, seen_by_another, stopped, to_its_end}
use Rattle.pm_cli.specs.Promise.{Does, Execution, HasMade, Keeps, KeepsIt, MayBecome, MayMake, ExpiresAt, StandsForOthers, commits, creates, found_by, has_already, scans, takes_none}
use Rattle.pm_cli.specs.Start.{HaveOtherNames, IsNew, IsOfSnapshots, MayAdd, MayExpire, MayStart, MayTake, MayWrite}
use Rattle.pm_cli.proofs.Common.{StandsForSomeFreely, any_both, leaves_some, leaves_weaker}
use Rattle.pm_cli.proofs.First.{acts_goes_on, first_same, from_before}

-- what the law of every command says, and that of actors that are new
abbrev pub KeepsEach : Type 0
KeepsEach = (e : Execution) → IsExecuted e → Keeps e

abbrev pub NewMayStart : Type 0
NewMayStart = (command : Command) (me : Actor) (h : History) (f : Files) → IsNew me h f → MayStart command me h f

abbrev AreNew : List Turn → History → Files → Type 0
AreNew turns h f = AllByRecursion (λ (t : Turn). IsNew (actor t.execution.start) h f) turns

abbrev HaveOthers : Execution → List Turn → Type 0
HaveOthers e turns = AllByRecursion (λ (next : Turn). HaveOtherNames (actor e.start) (actor next.execution.start)) turns

-- the actors of those that follow are new to what a command made
still_new : (e : Execution) (h : History) (first : StoreView) (later : History) (f : Files) → StandsForOthers e h first later f → (turns : List Turn)
    → HaveOthers e turns → LeavesFiles (AreNew turns h) first → AreNew turns later f
still_new e h first later f stands [] names new = tt
still_new e h first later f stands (t ∷ turns) (name, names) new = (
  stands.free (actor t.execution.start) name
      (leaves_weaker (AreNew (t ∷ turns) h) (IsNew (actor t.execution.start) h) first (λ f both. both.0) new),
  still_new e h first later f stands turns names (leaves_weaker (AreNew (t ∷ turns) h) (AreNew turns h) first (λ f both. both.1) new),
)

-- what the files at the end have the next store has
end_stands : (P : Files → Type 0) (after next : Option (List Op)) → IsSomeAnd after (λ ops. P (files_after ops))
    → IsSomeAnd after (λ after. IsSomeAnd next (λ ops. files_after ops ≡ files_after after)) → IsSomeAnd next (λ ops. P (files_after ops))
end_stands P None next ends has = absurd has
end_stands P (Some after) None ends has = absurd has
end_stands P (Some after) (Some ops) ends has = subst P (sym has) ends

-- what images have it has
image_stands : (P : Files → Type 0) (before after next : Option (List Op)) → Extends P before after
    → IsSomeAnd before (λ before. IsSomeAnd after (λ after. IsSomeAnd next (λ ops. (i : ℕ) × (length before ≤ i) × CrashImage after i (files_after ops))))
    → IsSomeAnd next (λ ops. P (files_after ops))
image_stands P None after next images has = absurd has
image_stands P (Some before) None next images has = absurd has
image_stands P (Some before) (Some after) None images has = absurd has
image_stands P (Some before) (Some after) (Some ops) images (i, from, image) =
    next_stands P before after i (files_after ops) images from image ops (record { ops = Some ops; faults = 0 }) refl refl

-- the next store stands for what the command made
pub next_store : (ending : Ending) (e : Execution) (h : History) (first next : StoreView) → first.ops ≡ e.before.store.ops → KeepsIt e h first
    → HandsOn ending e next → (later : History) × MakesBy ending e h later × LeavesFiles (StandsForOthers e h first later) next
next_store ended e h first next same kept has =
    (kept.later, kept.makes, end_stands (StandsForOthers e h first kept.later) e.after.store.ops next.ops kept.ends has)
next_store stopped e h first next same kept has =
    leaves_some (MayMake e h) (StandsForOthers e h first) next
    (image_stands (StandsForSomeFreely e h first) e.before.store.ops e.after.store.ops next.ops
    (subst (λ (known : Option (List Op)). Extends (StandsForSomeFreely e h first) known e.after.store.ops) same kept.images) has)

-- What is so of files and the history that they stand for, and each command that is allowed keeps.
module _ (Good : History → Files → Type 0) (Allows : Execution → Type 0)
    (step : (e : Execution) (h : History) (first : StoreView) (later : History) (f : Files) → StandsForOthers e h first later f → Allows e
    → LeavesFiles (Good h) first → Good later f) where
  abbrev StandsWith : List Turn → History → Files → Type 0
  StandsWith turns h f = Folder f h × Good h f × AreNew turns h f

  pub in_turn : KeepsEach → NewMayStart → (turns : List Turn) (store last : StoreView) (h : History) → AreInTurn store turns last → HaveOwnNames turns
      → AllByRecursion (λ (t : Turn). Allows t.execution) turns → LeavesFiles (StandsWith turns h) store
      → (later : History) × MakeInTurn turns h later × LeavesFiles (λ f. Folder f later × Good later f) last
  in_turn keeps starts [] store last h is own allowed stands = (
    h,
    refl,
    subst (λ (store : StoreView). LeavesFiles (λ f. Folder f h × Good h f) store) (sym is)
        (leaves_weaker (StandsWith [] h) (λ f. Folder f h × Good h f) store (λ f all. (all.0, all.1)) stands),
  )
  in_turn keeps starts (t ∷ turns) store last h (same, is, alone, input, (next, leaves, rest)) (own, later_own) (allows, later_allows) stands =
      let e = t.execution in
      let first = at_first_own e.before.store e.after.store in
      let Has : Files → Type 0 = StandsWith (t ∷ turns) h in
      let goes = acts_goes_on e.command is.single e.start e.before e.after e.refusal is.acts in
      let only : IsAlone e.before.store e.after.store = subst (λ (store : StoreView). IsAlone store e.after.store) (sym same) alone in
      let here : LeavesFiles Has e.before.store = subst (λ (store : StoreView). LeavesFiles Has store) (sym same) stands in
      let found = from_before Has e.before.store e.after.store goes only here in
      let may = leaves_weaker Has (MayStart e.command (actor e.start) h) first (λ f all. starts e.command (actor e.start) h f all.2.0) found.0 in
      let kept : KeepsIt e h first = keeps e is found.1 h may input in
      let new : LeavesFiles (AreNew turns h) first = leaves_weaker Has (AreNew turns h) first (λ f all. all.2.1) found.0 in
      let good : LeavesFiles (Good h) first = leaves_weaker Has (Good h) first (λ f all. all.1) found.0 in
      let left = next_store t.ending e h first next (first_same Has e.before.store e.after.store goes only here) kept leaves in
      let made = in_turn keeps starts turns next last left.0 rest later_own later_allows
      (leaves_weaker (StandsForOthers e h first left.0) (StandsWith turns left.0) next
      (λ f free. (free.folder, step e h first left.0 f free allows good, still_new e h first left.0 f free turns own new)) left.2) in
      (made.0, (left.0, left.1, made.1), made.2)

-- nothing more
all_allowed : (turns : List Turn) → AllByRecursion (λ (t : Turn). Unit {0}) turns
all_allowed [] = tt
all_allowed (t ∷ turns) = (tt, all_allowed turns)

pub in_turn_from : KeepsEach → NewMayStart → (turns : List Turn) (store last : StoreView) (h : History) → AreInTurn store turns last → HaveOwnNames turns
    → LeavesFiles (λ f. Folder f h × AreNew turns h f) store → (later : History) × MakeInTurn turns h later × LeavesFiles (λ f. Folder f later) last
in_turn_from keeps starts turns store last h is own stands =
    let made = in_turn (λ h f. Unit {0}) (λ e. Unit {0}) (λ e h first later f stands allows good. tt) keeps starts turns store last h is own (all_allowed turns)
    (leaves_weaker (λ f. Folder f h × AreNew turns h f) (λ f. Folder f h × Unit {0} × AreNew turns h f) store (λ f both. (both.0, tt, both.1)) stands) in
    (made.0, made.1, leaves_weaker (λ f. Folder f made.0 × Unit {0}) (λ f. Folder f made.0) last (λ f both. both.0) made.2)

-- who was settled is, but for whom they drop
pub still_settled : (names : List (List ℕ)) (e : Execution) (h : History) (first : StoreView) (later : History) (f : Files) → StandsForOthers e h first later f
    → ((name : List ℕ) → Contains names name → MayTake e.command (consumer_path name) → ⊥) → LeavesFiles (λ g. HaveSettled g h names) first
    → HaveSettled f later names
still_settled names e h first later f stands others was = stands.settled names (λ name there takes. absurd (others name there takes)) was

-- what goes with snapshots is a snapshot's, one that snapshots name, or a floor
pub given-back : (s : TableSchema) (g : Files) (end : ℕ) (path : List ℕ) → IsDeclared s → IsGivenBack s g end path → IsOfSnapshots path
given-back s g end path declared (its_snapshot id below is) = inl (s, id, plain_names s declared, inl is)
given-back s g end path declared (its_file id low below names spared) = inl (s, id, plain_names s declared, inr (g, names))
given-back s g end path declared (its_floor n below is) = inr (n, is)

-- an expiry takes nothing else
forgotten : (command : Command) (start : Start) (h : History) (g f : Files) (path bytes : List ℕ) → map.get g path ≡ Some bytes → ExpiresAt command start h g f path
    → MayExpire command path
forgotten (commands.Expire min max millis) start h g f path bytes there (s, is, declared, (first, end, goes, inl (gone, given))) = given-back s g end path declared given
forgotten (commands.Expire min max millis) start h g f path bytes there (s, is, declared, (first, end, goes, inr (absent, floor))) =
    absurd (let clash : Some bytes ≡ None = sym there ∙ absent in cc)
forgotten commands.Create start h g f path bytes there never = absurd never
forgotten (commands.Scan at) start h g f path bytes there never = absurd never
forgotten commands.Snapshots start h g f path bytes there never = absurd never
forgotten (commands.Consumers dropped) start h g f path bytes there never = absurd never
forgotten (commands.Compact full) start h g f path bytes there never = absurd never
forgotten (commands.Follow from consumer full) start h g f path bytes there never = absurd never
forgotten (commands.Generate batches rows seed) start h g f path bytes there never = absurd never
forgotten (commands.Write user number) start h g f path bytes there never = absurd never

-- a file that is there stays, but for one that they take away or write
pub still_there : (path bytes : List ℕ) (e : Execution) (h : History) (first : StoreView) (later : History) (f : Files) → StandsForOthers e h first later f
    → (MayTake e.command path → ⊥) × (MayWrite e.command path → ⊥) × (MayExpire e.command path → ⊥) → LeavesFiles (λ g. map.get g path ≡ Some bytes) first
    → map.get f path ≡ Some bytes
still_there path bytes e h first later f stands (takes, writes, forgets) was =
    any_both (λ g. (path : List ℕ) → MayBecome e h g f path) (λ g. map.get g path ≡ Some bytes) (map.get f path ≡ Some bytes) first
    (λ g becomes there. at g there (becomes path)) stands.changes was
  where
    not-both : (o : Option (List ℕ)) → o ≡ Some bytes → o ≡ None → ⊥
    not-both o there none = cc

    at : (g : Files) → map.get g path ≡ Some bytes → MayBecome e h g f path → map.get f path ≡ Some bytes
    at g there (inl same) = same ∙ there
    at g there (inr (inl (none, own))) = absurd (not-both (map.get g path) there none)
    at g there (inr (inr (inl (none, takes_it)))) = absurd (takes takes_it)
    at g there (inr (inr (inr (inl writes_it)))) = absurd (writes writes_it)
    at g there (inr (inr (inr (inr forgets_it)))) = absurd (forgets (forgotten e.command e.start h g f path bytes there forgets_it))

-- no command makes a consumer's file but a following with it
no-consumer : (command : Command) (me : Actor) (h : History) (name : List ℕ) → MayAdd command me h (consumer_path name) → ⊥
no-consumer commands.Create me h name (inl is) = consumer-snapshot name (origin_name me) is
no-consumer commands.Create me h name (inr is) = consumer-schema name 0 is
no-consumer (commands.Compact full) me h name (inl own) = consumer-own me (consumer_path name) name own refl
no-consumer (commands.Compact full) me h name (inr is) = consumer-snapshot name (snapshot_name (suc (count_of h))) is
no-consumer (commands.Write user number) me h name (inl own) = consumer-own me (consumer_path name) name own refl
no-consumer (commands.Write user number) me h name (inr is) = consumer-snapshot name (snapshot_name (suc (count_of h))) is
no-consumer (commands.Scan at) me h name may = may
no-consumer commands.Snapshots me h name may = may
no-consumer (commands.Consumers dropped) me h name may = may
no-consumer (commands.Expire min max millis) me h name may = may
no-consumer (commands.Follow from consumer full) me h name may = may
no-consumer (commands.Generate batches rows seed) me h name may = may

-- and none is such
snapshot-no_consumer : (s : TableSchema) (id : ℕ) (name : List ℕ) → IsSnapshotPath s id (consumer_path name) → ⊥
snapshot-no_consumer s zero name (origin, is, at) = consumer-snapshot name origin at
snapshot-no_consumer s (suc id) name at = consumer-snapshot name (snapshot_name (suc id)) at

no-consumer-forgotten : (name : List ℕ) → IsOfSnapshots (consumer_path name) → ⊥
no-consumer-forgotten name (inl (s, id, plain, inl at)) = snapshot-no_consumer s id name at
no-consumer-forgotten name (inl (s, id, plain, inr (f, names))) = needs-no_consumer f s id (consumer_path name) name plain (inr (inr names)) refl
no-consumer-forgotten name (inr (n, at)) = floor-consumer n name (sym at)

pub spares-consumers : (command : Command) (name : List ℕ) → MayExpire command (consumer_path name) → ⊥
spares-consumers (commands.Expire min max millis) name forgets = no-consumer-forgotten name forgets
spares-consumers commands.Create name never = never
spares-consumers (commands.Scan at) name never = never
spares-consumers commands.Snapshots name never = never
spares-consumers (commands.Consumers dropped) name never = never
spares-consumers (commands.Compact full) name never = never
spares-consumers (commands.Follow from consumer full) name never = never
spares-consumers (commands.Generate batches rows seed) name never = never
spares-consumers (commands.Write user number) name never = never

-- an expiry makes none
forgets-none : (command : Command) (start : Start) (h : History) (g f : Files) (name : List ℕ) → ExpiresAt command start h g f (consumer_path name)
    → map.get f (consumer_path name) ≡ None
forgets-none (commands.Expire min max millis) start h g f name (s, is, declared, (first, end, goes, inl (gone, given))) = gone
forgets-none (commands.Expire min max millis) start h g f name (s, is, declared, (first, end, goes, inr (absent, floor))) = absurd (floor-consumer end name (sym floor))
forgets-none commands.Create start h g f name never = absurd never
forgets-none (commands.Scan at) start h g f name never = absurd never
forgets-none commands.Snapshots start h g f name never = absurd never
forgets-none (commands.Consumers dropped) start h g f name never = absurd never
forgets-none (commands.Compact full) start h g f name never = absurd never
forgets-none (commands.Follow from consumer full) start h g f name never = absurd never
forgets-none (commands.Generate batches rows seed) start h g f name never = absurd never
forgets-none (commands.Write user number) start h g f name never = absurd never

pub still_gone : (name : List ℕ) (e : Execution) (h : History) (first : StoreView) (later : History) (f : Files) → StandsForOthers e h first later f
    → (MayWrite e.command (consumer_path name) → ⊥) → LeavesFiles (λ g. map.get g (consumer_path name) ≡ None) first → map.get f (consumer_path name) ≡ None
still_gone name e h first later f stands writes was =
    any_both (λ g. (path : List ℕ) → MayBecome e h g f path) (λ g. map.get g (consumer_path name) ≡ None) (map.get f (consumer_path name) ≡ None) first
    (λ g becomes none. at g none (becomes (consumer_path name))) stands.changes was
  where
    at : (g : Files) → map.get g (consumer_path name) ≡ None → MayBecome e h g f (consumer_path name) → map.get f (consumer_path name) ≡ None
    at g none (inl same) = same ∙ none
    at g none (inr (inl (absent, own))) = absurd (no-consumer e.command (actor e.start) h name own)
    at g none (inr (inr (inl (gone, takes_it)))) = gone
    at g none (inr (inr (inr (inl writes_it)))) = absurd (writes writes_it)
    at g none (inr (inr (inr (inr forgets_it)))) = forgets-none e.command e.start h g f name forgets_it

-- ---- another handle

same_after : (files : Files) (ops : List Op) → after_from files (each_of others_op ops) ≡ after_from files ops
same_after files [] = refl
same_after files (op ∷ ops) = same_after (after_op op files) ops

pub to_another : (e : Execution) (ops : List Op) (faults : ℕ) → e.after.store.ops ≡ Some ops → HandsOn ended e (seen_by_another ops faults)
to_another e ops faults is =
    subst (λ (known : Option (List Op)). IsSomeAnd known (λ after. files_after (each_of others_op ops) ≡ files_after after)) (sym is) (same_after map.empty ops)

-- ---- from nothing

pub all_new : ((me : Actor) → IsNew me no_table map.empty) → (turns : List Turn) → AreNew turns no_table map.empty
all_new new [] = tt
all_new new (t ∷ turns) = (new (actor t.execution.start), all_new new turns)

pub at_nothing : (P : Files → Type 0) (store : StoreView) → store.ops ≡ Some [] → P map.empty → LeavesFiles P store
at_nothing P store is here = subst (λ (ops : Option (List Op)). IsSomeAnd ops (λ ops. P (files_after ops))) (sym is) here

-- ---- three commands

-- a table, and what it takes
pub created : (start : Start) (bytes text : List ℕ) (found : StoreView) (later : History) → Does start bytes found commands.Create no_table later text
    → (s : TableSchema) × IsDraftOf start bytes s × (later ≡ table s [])
created start bytes text found later (creates s draft) = (s, draft, refl)

none_at : (i : ℕ) (e : Entry) → slice_get [] i ≡ Some e → ⊥
none_at i e is = let no : None ≡ Some e = is in cc

-- rows are taken, and the table's entries have them
abbrev Takes : TableSchema → List ℕ → History → Type 0
Takes s bytes later = (rows : List HistoryRow) × (all_taken s (row_lines bytes) ≡ Ok rows)
    × ((es : List Entry) × (later ≡ table s es) × (rows_up_to es (length es) ≡ rows))

wrote : (start : Start) (bytes text : List ℕ) (found : StoreView) (user : Option (List ℕ)) (number : Option ℕ) (s : TableSchema) (later : History)
    → Does start bytes found (commands.Write user number) (table s []) later text → Takes s bytes later
wrote start bytes text found user number s later (takes_none u n t es took) = ([], took, ([], refl, refl))
wrote start bytes text found user number s later (has_already name n t es rows i e took some at reached borne) = absurd (none_at i e at)
wrote start bytes text found user number s later (commits u n t es rows took some) =
    (rows, took, (entry_by start (writer_of user number) rows ∷ [], refl, append-nil rows))

scanned : (start : Start) (bytes : List ℕ) (found : StoreView) (s : TableSchema) (es : List Entry) (later : History) (text : List ℕ)
    → Does start bytes found (commands.Scan None) (table s es) later text → text ≡ scan_text s (rows_up_to es (length es))
scanned start bytes found s es later text (scans at t entries within) = refl

-- what a command did that succeeded
pub does_at : (e : Execution) (h later : History) (command : Command) → e.command ≡ command → e.refusal ≡ None → HasMade e h e.refusal later
    → (text : List ℕ) × Does e.start e.input (found_by e) command h later text × (e.after.out.taken ≡ and_then e.before.out.taken text)
does_at e h later command is done makes =
    let made = subst (λ (refusal : Option Refusal). HasMade e h refusal later) done makes in
    (made.0, subst (λ (command : Command). Does e.start e.input (found_by e) command h later made.0) is made.1, made.2)

-- it stood on this history
does_on : (start : Start) (bytes text : List ℕ) (found : StoreView) (command : Command) (h at later : History) → h ≡ at
    → Does start bytes found command h later text → Does start bytes found command at later text
does_on start bytes text found command h at later is = subst (λ (h : History). Does start bytes found command h later text) is

abbrev pub FirstSteps : Execution → Execution → Execution → Type 0
FirstSteps create write scan = (s : TableSchema) × (rows : List HistoryRow) × IsDraftOf create.start create.input s
    × (all_taken s (row_lines write.input) ≡ Ok rows)
    × (scan.after.out.taken ≡ and_then scan.before.out.taken (scan_text s rows))

pub first_steps : (create write scan : Execution) (user : Option (List ℕ)) (number : Option ℕ) → create.command ≡ commands.Create → create.refusal ≡ None
    → write.command ≡ commands.Write user number → write.refusal ≡ None → scan.command ≡ commands.Scan None → scan.refusal ≡ None
    → (last : History) → MakeInTurn (to_its_end create ∷ to_its_end write ∷ to_its_end scan ∷ []) no_table last → FirstSteps create write scan
first_steps create write scan user number is_create created_it is_write wrote_it is_scan scanned_it last (one, makes_one, (two, makes_two, (three, makes_three, end))) =
    let first = does_at create no_table one commands.Create is_create created_it makes_one in
    let made = created create.start create.input first.0 (found_by create) one first.1 in
    let s = made.0 in
    let second = does_at write one two (commands.Write user number) is_write wrote_it makes_two in
    let took = wrote write.start write.input second.0 (found_by write) user number s two
    (does_on write.start write.input second.0 (found_by write) (commands.Write user number) one (table s []) two made.2 second.1) in
    let es = took.2.0 in
    let third = does_at scan two three (commands.Scan None) is_scan scanned_it makes_three in
    let text = scanned scan.start scan.input (found_by scan) s es three third.0
    (does_on scan.start scan.input third.0 (found_by scan) (commands.Scan None) two (table s es) three took.2.1 third.1) in
    (s, took.0, made.1, took.1, third.2 ∙ ap (and_then scan.before.out.taken) (text ∙ ap (scan_text s) took.2.2))
