-- Laws of `compact`: what is so of its calls, and of a history.
use Rattle.std.proofs.Common.{◌≡◌, ◌≢◌, inl, inr, ℕ, ℤ, ◌+◌, ◌≤◌, List, [], ◌∷◌, Bool, Option, None, Some, IsSome, Result, Ok, Err, refl, sym, ap, ap₂, subst, ◌∙◌}
use Rattle.std.specs.FinMap as map
use Rattle.std.specs.Result.{result_err}
use Rattle.pm_values.specs.Names.{Naming, naming}
use Rattle.pm_values.specs.declared.group.Group.{Group}
use Rattle.pm_values.specs.declared.refusal.Refusal.{Refusal}
use Rattle.pm_values.specs.declared.refusal.Refusal.TheVariants as refusals
use Rattle.pm_io.specs.Sink.{SinkView}
use Rattle.pm_store.specs.Files.{Files}
use Rattle.pm_store.specs.Images.{Extends}
use Rattle.pm_store.specs.Store.{StoreView, at_first_own}
use Rattle.pm_store.proofs.ImageLaws.{Extends-weaker}
use Rattle.pm_machine.specs.Trace.{HasTrace}
use Rattle.pm_model_history.specs.History.{History, compaction}
use Rattle.pm_schema.specs.Again.{IsDeclared}
use Rattle.pm_schema.specs.declared.schema.TableSchema.{TableSchema}
use Rattle.pm_snapshot.specs.Names.{MayName, greatest}
use Rattle.pm_model_folder.specs.Changes.{Actor}
use Rattle.pm_model_folder.specs.Folder.{Folder, KeepsConsumers}
use Rattle.pm_model_folder.specs.Ledger.{count_of}
use Rattle.pm_choice.specs.Choice.{named_groups}
use Rattle.pm_choice.specs.declared.choice.ChosenGroup.{ChosenGroup}
use Rattle.pm_create.specs.Making.{LeavesFiles}
use Rattle.pm_read_schema.specs.AllCalls.{DidRead, HasFiles, Stay, ReadsTables}
use Rattle.pm_read_table.specs.declared.view.View.{View}
use Rattle.pm_commit.specs.AllCalls.{MayStart, NamesNone}
use Rattle.pm_commit.specs.Alone.{with_entry}
use Rattle.pm_commit.specs.Meaning.{AddsOwn, path_after}
use Rattle.pm_compactor.specs.AllCalls as compactor
use Rattle.pm_compactor.specs.AllCalls.{Beginning, Chooses, GivesReason, IsNewestView, IsUnchanged, WasUsed, entry_of}
use Rattle.pm_compactor.specs.Compactor.{asking_of, chosen_in}
use Rattle.pm_compactor.specs.declared.all_calls.Compacted.{Compacted}
use Rattle.pm_compactor.specs.declared.all_calls.Compacted.TheVariants as compacts
use Rattle.pm_command.specs.Outside.{HaveSame, Outside, actor, next_path, own_user, Prints, Rests}
use Rattle.pm_command.specs.Table as tables
use Rattle.pm_command.specs.declared.start.Start.{Start}
use Rattle.pm_command_compact.specs.Compact.{AnswersHistory, Becomes, Compacts, CompactsTables, DidCompact, GivesAgainst, HasChoice, HasCompaction, HasCompactionAs, IsCompacted, IsCompactedTo, IsImage, Keeps, KeepsHistories, MakesOf, MayStartAfter, Spoils, StandsAfterFault, StandsForEither, asked_of, beginning_of, snapshot_of, text_of, with_compaction}
use Rattle.pm_command.proofs.TableLemmas.{consumers_stay, trace_weaker, files_of, files_same, leaves_of, leaves_weaker, none_next, rests_of, images_of, caused}

-- ---- its calls

module _ (start : Start) (full : Bool) where
  pub read_refused : (e : Refusal) (before after : StoreView) → HasTrace (DidRead (Err e)) before after → HasTrace (DidCompact start full (Err e)) before after
  read_refused e before after = trace_weaker (DidRead (Err e)) (DidCompact start full (Err e)) (λ own shows. inl shows) before after

  -- memory ran out once the schema was read
  pub memory_refused : (s : TableSchema) (before after : StoreView) → HasTrace (DidRead (Ok s)) before after
      → HasTrace (DidCompact start full (Err refusals.Memory)) before after
  memory_refused s before after =
      trace_weaker (DidRead (Ok s)) (DidCompact start full (Err refusals.Memory)) (λ own has. inr (inl (s, refl, has))) before after

  pub compacted_trace : (s : TableSchema) (made : Result Compacted Refusal) (before after : StoreView) → IsDeclared s
      → HasTrace (compactor.DidCompact s (asked_of start full) made) before after → HasTrace (DidCompact start full made) before after
  compacted_trace s (Ok done) before after declared =
      trace_weaker (compactor.DidCompact s (asked_of start full) (Ok done)) (DidCompact start full (Ok done)) (λ own did. (s, declared, did)) before after
  compacted_trace s (Err e) before after declared =
      trace_weaker (compactor.DidCompact s (asked_of start full) (Err e)) (DidCompact start full (Err e)) (λ own did. inr (inr (s, declared, did))) before after

  -- ---- files that stay

  -- files that stay go on to stand for the history
  stay_keeps : (h : History) (f : Files) (first after : StoreView) (made : Result Compacted Refusal) → HasFiles f first → Folder f h
      → Stay f first after → (Rests h first after → MakesOf start full h first after made) → Keeps start full h first after made
  stay_keeps h f first after made has folder stay makes = record {
    makes = makes (rests_of h f first after has stay.here folder);
    free = λ other apart starts.
        let at = files_of (MayStart other h) first starts in
        images_of (MayStartAfter other start full h first) f first.ops after.ops stay.images
        (inl (subst (MayStart other h) (files_same at.0 f first at.1 has) at.2));
    images = images_of (StandsForEither start full h first) f first.ops after.ops stay.images (inl folder);
    consumers = consumers_stay h f first after has stay.images;
    adds = leaves_of (λ f. Extends (AddsOwn (actor start) (path_after h) f) first.ops after.ops) f first has
        (images_of (AddsOwn (actor start) (path_after h) f) f first.ops after.ops stay.images (λ path. inl refl));
  }

  fault_left : (h : History) (path : List ℕ) (first store : StoreView) → LeavesFiles (λ f. Folder f h) store
      → LeavesFiles (StandsAfterFault start full h first path) store
  fault_left h path first store = leaves_weaker (λ f. Folder f h) (StandsAfterFault start full h first path) (λ f folder. inl folder) store

  -- a listing may be refused for it
  listing_spoils : (h : History) (first after : StoreView) (e : Refusal) → tables.MayRefuse h first after e
      → Rests h first after → Spoils start full h first after e
  listing_spoils h first after (refusals.StoreFault path) may rests = (may, fault_left h path first after rests.folder)
  listing_spoils h first after refusals.NoTable may rests = (may, rests)
  listing_spoils h first after refusals.Memory may rests = rests.folder
  listing_spoils h first after other may rests = absurd may

  pub read_keeps : (e : Refusal) (before after : StoreView) → ReadsTables before after (Err e) → KeepsHistories start full before after (Err e)
  read_keeps e before after reads = λ alone h begins.
      let first = at_first_own before after in
      let files = files_of (MayStart (actor start) h) first begins in
      let read = reads alone files.0 h files.1 files.2.0 in
      stay_keeps h files.0 first after (Err e) files.1 files.2.0 read.files
      (λ left. listing_spoils h first after e (caused h first after e read.cause) left)

  pub memory_keeps : (s : TableSchema) (before after : StoreView) → ReadsTables before after (Ok s)
      → KeepsHistories start full before after (Err refusals.Memory)
  memory_keeps s before after reads = λ alone h begins.
      let first = at_first_own before after in
      let files = files_of (MayStart (actor start) h) first begins in
      let read = reads alone files.0 h files.1 files.2.0 in
      stay_keeps h files.0 first after (Err refusals.Memory) files.1 files.2.0 read.files (λ left. left.folder)

-- ---- a compaction

-- what is asked by the actor, with its names
pub asked_is : (start : Start) (full : Bool) (user : List ℕ) (names : Naming) (now : ℤ) → user ≡ own_user (actor start)
    → names ≡ naming start.session start.number 0 → now ≡ start.now_millis → asking_of full user names now ≡ asked_of start full
asked_is start full user names now is named at =
    ap₂ (λ (user : List ℕ) (names : Naming). asking_of full user names now) is named
    ∙ ap (λ (now : ℤ). asking_of full (own_user (actor start)) (naming start.session start.number 0) now) at

pub own_may : (start : Start) (names : Naming) → names ≡ naming start.session start.number 0 → MayName names → MayName (naming start.session start.number 0)
own_may start names is may = subst MayName is may

none_chosen : (chosen : List ChosenGroup) → named_groups chosen ≡ [] → chosen ≡ []
none_chosen [] is = refl
none_chosen (c ∷ chosen) is = cc

module _ (start : Start) (full : Bool) (h : History) (f : Files) (first : StoreView) (has : HasFiles f first) where
  abbrev b : Beginning
  b = beginning_of start full h f

  -- the groups that a view chooses
  abbrev groups_in : View → List (Group × Bool)
  groups_in v = named_groups (chosen_in (asked_of start full) v)

  abbrev IsSome_in : View → Type 0
  IsSome_in v = chosen_in (asked_of start full) v ≢ []

  chosen_at : (v : View) (groups : List (Group × Bool)) → IsNewestView b v → groups_in v ≡ groups → LeavesFiles (HasChoice start full h groups) first
  chosen_at v groups newest is = leaves_of (HasChoice start full h groups) f first has (v, newest, is)

  as_compaction : (v : View) → IsNewestView b v → with_entry (entry_of (asked_of start full) v) h ≡ with_compaction (groups_in v) h
  as_compaction v newest = ap (λ (id : ℕ). with_entry (compaction id (groups_in v)) h) newest.newest.id

  has_entry : (Stands : History → Files → Type 0) (g : Files) (v : View) → IsNewestView b v → IsSome_in v
      → Stands (with_entry (entry_of (asked_of start full) v) h) g → HasCompactionAs Stands start full h first g
  has_entry Stands g v newest some stands = (
    groups_in v,
    λ none. some (none_chosen (chosen_in (asked_of start full) v) none),
    chosen_at v (groups_in v) newest refl,
    subst (λ (h : History). Stands h g) (as_compaction v newest) stands,
  )

  stands_with : (g : Files) → compactor.HasEntry b g → HasCompaction start full h first g
  stands_with g (v, newest, some, stands) = has_entry (λ h f. Folder f h) g v newest some stands.folder

  pub either_with : (g : Files) → compactor.StandsForEither b g → StandsForEither start full h first g
  either_with g (inl stands) = inl stands.folder
  either_with g (inr has) = inr (stands_with g has)

  pub keeps_consumers : (g : Files) → compactor.StandsForEither b g → KeepsConsumers h f g
  keeps_consumers g (inl stands) = stands.consumers
  keeps_consumers g (inr (v, newest, some, stands)) = stands.consumers

  pub adds_own : (g : Files) → compactor.StandsForEither b g → AddsOwn (actor start) (path_after h) f g
  adds_own g (inl stands) = stands.adds
  adds_own g (inr (v, newest, some, stands)) = stands.adds

  pub start_with : (other : Actor) → other ≢ actor start → NamesNone other h f → (g : Files) → compactor.StandsForEither b g
      → MayStartAfter other start full h first g
  start_with other apart none g (inl stands) = inl (stands.folder, stands.free other apart none)
  start_with other apart none g (inr (v, newest, some, stands)) =
      inr (has_entry (MayStart other) g v newest some (stands.folder, stands.free other apart none))

  -- where no path has another content than at first
  unchanged : (after : StoreView) → LeavesFiles (λ g. Folder g h × IsUnchanged b g) after → Rests h first after
  unchanged after left = record {
    folder = leaves_weaker (λ g. Folder g h × IsUnchanged b g) (λ g. Folder g h) (λ g is. is.0) after left;
    same = leaves_of (λ f. LeavesFiles (HaveSame f) after) f first has
        (leaves_weaker (λ g. Folder g h × IsUnchanged b g) (HaveSame f) (λ g is. is.1) after left);
  }

  fault_leaves : (path : List ℕ) (g : Files) → compactor.LeavesFolder b (Err (refusals.StoreFault path)) g → StandsAfterFault start full h first path g
  fault_leaves path g (inl folder) = inl folder
  fault_leaves path g (inr (at, has)) = inr (at, stands_with g has)

  -- a reason of the newest snapshot against the compaction
  abbrev Reason : Refusal → Files → Type 0
  Reason e f = Chooses (beginning_of start full h f) (λ v. GivesReason (beginning_of start full h f) v e)

  against : (e : Refusal) (after : StoreView) → LeavesFiles (λ g. Folder g h × IsUnchanged b g × Reason e f) after
      → GivesAgainst start full h e first × Rests h first after
  against e after left =
      let files = files_of (λ g. Folder g h × IsUnchanged b g × Reason e f) after left in (
        leaves_of (Reason e) f first has files.2.2,
        unchanged after (leaves_weaker (λ g. Folder g h × IsUnchanged b g × Reason e f) (λ g. Folder g h × IsUnchanged b g)
            (λ g is. (is.0, is.1)) after left),
      )

  used : (path : List ℕ) (after : StoreView) → LeavesFiles (λ g. Folder g h × WasUsed b path) after
      → LeavesFiles (λ f. WasUsed (beginning_of start full h f) path) first × LeavesFiles (λ g. Folder g h) after
  used path after left =
      let files = files_of (λ g. Folder g h × WasUsed b path) after left in (
        leaves_of (λ f. WasUsed (beginning_of start full h f) path) f first has files.2.1,
        leaves_weaker (λ g. Folder g h × WasUsed b path) (λ g. Folder g h) (λ g is. is.0) after left,
      )

  no_other : (P : Files → Type 0) (R : Type 0) (after : StoreView) → ((g : Files) → P g → ⊥) → LeavesFiles P after → R
  no_other P R after none left = let files = files_of P after left in absurd (none files.0 files.2)

  spoiled : (s : TableSchema) (after : StoreView) (e : Refusal) → compactor.CompactsTable b s first after (Err e) → Spoils start full h first after e
  spoiled s after refusals.Memory does = does.leaves
  spoiled s after (refusals.StoreFault path) does = (
    does.counted,
    leaves_weaker (compactor.LeavesFolder b (Err (refusals.StoreFault path))) (StandsAfterFault start full h first path) (fault_leaves path) after does.leaves,
  )
  spoiled s after (refusals.SessionUsed path) does = used path after does.leaves
  spoiled s after (refusals.Limit which number) does = against (refusals.Limit which number) after does.leaves
  spoiled s after other does = no_other (compactor.LeavesFolder b (Err other)) (Spoils start full h first after other) after (λ g is. is) does.leaves

  became : (s : TableSchema) (after : StoreView) (done : Compacted) → compactor.CompactsTable b s first after (Ok done) → Becomes start full h first after done
  became s after compacts.Nothing does =
      let P : Files → Type 0 = compactor.LeavesFolder b (Ok compacts.Nothing) in
      let files = files_of P after does.leaves in
      let v = files.2.0.0 in (
        chosen_at v [] files.2.0.1 (ap named_groups files.2.0.2),
        unchanged after (leaves_weaker P (λ g. Folder g h × IsUnchanged b g) (λ g is. (is.1, is.2)) after does.leaves),
      )
  became s after (compacts.Committed id) does =
      let P : Files → Type 0 = compactor.LeavesFolder b (Ok (compacts.Committed id)) in (
        (files_of P after does.leaves).2.0,
        leaves_weaker P (λ g. LeavesFiles (IsCompactedTo start full h g) first)
            (λ g (is, (v, newest, some, (stands, bears))). leaves_of (IsCompactedTo start full h g) f first has (v, newest, bears)) after does.leaves,
        leaves_weaker P (HasCompaction start full h first)
            (λ g (is, (v, newest, some, (stands, bears))). has_entry (λ h f. Folder f h) g v newest some stands.folder) after does.leaves,
      )

  pub compaction_makes : (s : TableSchema) (after : StoreView) (made : Result Compacted Refusal) → compactor.CompactsTable b s first after made
      → MakesOf start full h first after made
  compaction_makes s after (Ok done) does = became s after done does
  compaction_makes s after (Err e) does = spoiled s after e does

pub compacted_keeps : (start : Start) (full : Bool) (s : TableSchema) (made : Result Compacted Refusal) (before after : StoreView)
    → MayName (naming start.session start.number 0) → compactor.CompactsTables s (asked_of start full) before after made → KeepsHistories start full before after made
compacted_keeps start full s made before after may compacts = λ alone h begins.
    let first = at_first_own before after in
    let files = files_of (MayStart (actor start) h) first begins in
    let at : Beginning = beginning_of start full h files.0 in
    let does = compacts alone at refl files.1 (record { may = may; start = files.2 }) in
    record {
      makes = compaction_makes start full h files.0 first files.1 s after made does;
      images = Extends-weaker (compactor.StandsForEither at) (StandsForEither start full h first) first.ops after.ops
          (either_with start full h files.0 first files.1) does.images;
      free = λ other apart starts.
          let free = files_of (MayStart other h) first starts in
          let none : NamesNone other h files.0 = subst (NamesNone other h) (files_same free.0 files.0 first free.1 files.1) free.2.1 in
          Extends-weaker (compactor.StandsForEither at) (MayStartAfter other start full h first) first.ops after.ops
          (start_with start full h files.0 first files.1 other apart none) does.images;
      consumers = leaves_of (λ f. Extends (KeepsConsumers h f) first.ops after.ops) files.0 first files.1
          (Extends-weaker (compactor.StandsForEither at) (KeepsConsumers h files.0) first.ops after.ops
          (keeps_consumers start full h files.0 first files.1) does.images);
      adds = leaves_of (λ f. Extends (AddsOwn (actor start) (path_after h) f) first.ops after.ops) files.0 first files.1
          (Extends-weaker (compactor.StandsForEither at) (AddsOwn (actor start) (path_after h) files.0) first.ops after.ops
          (adds_own start full h files.0 first files.1) does.images);
    }

-- ---- what a crash may leave

-- the next snapshot is there only where the compaction is
image_of : (start : Start) (full : Bool) (h : History) (first : StoreView) (f : Files) → StandsForEither start full h first f → IsImage start full h first f
image_of start full h first f either = record { either = either; published = λ within there. published_of either within there }
  where
    published_of : StandsForEither start full h first f → count_of h + 1 ≤ greatest → IsSome (map.get f (next_path h)) → HasCompaction start full h first f
    published_of (inl folder) within there = absurd (none_next h f folder within there)
    published_of (inr has) within there = has

-- ---- and what was printed

module _ (start : Start) (full : Bool) where
  pub refused_compacted : (e : Refusal) (out : SinkView) (store after : StoreView) → HasTrace (DidCompact start full (Err e)) store after
      → KeepsHistories start full store after (Err e) → IsCompacted start full out out store after (Some e)
  refused_compacted e out store after trace kept = (Err e, trace, kept, (refl, refl))

  pub printed_compacted : (done : Compacted) (out out_after : SinkView) (store after : StoreView) (answer : Option Refusal)
      → HasTrace (DidCompact start full (Ok done)) store after → KeepsHistories start full store after (Ok done)
      → Prints (text_of (Ok done)) (snapshot_of (Ok done)) None out out_after answer → IsCompacted start full out out_after store after answer
  printed_compacted done out out_after store after answer trace kept prints = (Ok done, trace, kept, prints)

  pub compacted_answers : (before after : Outside) (answer : Option Refusal)
      → IsCompacted start full before.out after.out before.store after.store answer → Compacts start full before after answer
  compacted_answers before after answer (made, trace, kept, prints) = (made, trace, prints)

  refusal_answers : (h : History) (first : StoreView) (before after : Outside) (e : Refusal)
      → Spoils start full h first after.store e → after.out ≡ before.out → AnswersHistory start full h first before after (Some e)
  refusal_answers h first before after (refusals.SinkFault snapshot) spoils same = absurd spoils
  refusal_answers h first before after e spoils same = (spoils, same)

  made_answers : (h : History) (first : StoreView) (before after : Outside) (made : Result Compacted Refusal) (answer : Option Refusal)
      → MakesOf start full h first after.store made → Prints (text_of made) (snapshot_of made) (result_err made) before.out after.out answer
      → AnswersHistory start full h first before after answer
  made_answers h first before after (Ok done) None makes prints = (done, makes, prints)
  made_answers h first before after (Ok done) (Some e) makes (fault, failed, prefix) =
      subst (λ (e : Refusal). AnswersHistory start full h first before after (Some e)) (sym fault) (done, makes, refl, failed, prefix)
  made_answers h first before after (Err e) answer makes (is, untaken) =
      subst (AnswersHistory start full h first before after) (sym is) (refusal_answers h first before after e makes untaken)

  pub compacted_serves : (before after : Outside) (answer : Option Refusal) → IsCompacted start full before.out after.out before.store after.store answer
      → CompactsTables start full before after answer
  compacted_serves before after answer (made, trace, kept, prints) = λ alone h begins.
      let first = at_first_own before.store after.store in
      let was = kept alone h begins in record {
        answers = made_answers h first before after made answer was.makes prints;
        images = Extends-weaker (StandsForEither start full h first) (IsImage start full h first) first.ops after.store.ops (image_of start full h first) was.images;
        free = was.free;
        consumers = was.consumers;
        adds = was.adds;
      }
