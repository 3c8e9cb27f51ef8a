-- All calls of a committer, one after another.
use Rattle.std.proofs.Common.{◌≡◌, ◌⊎◌, inl, inr, ℕ, suc, ◌≤◌, List, [], ◌∷◌, ◌++◌, Option, None, Some, IsSomeAnd, IfErr, Result, Ok, Err, append-nil, refl, sym, ap, ◌∙◌, subst, arith}
use Rattle.std.specs.FinMap as map
use Rattle.pm_values.specs.declared.refusal.Refusal.{Refusal}
use Rattle.pm_values.specs.declared.refusal.Refusal.TheVariants as refusals
use Rattle.pm_store.specs.declared.call.Op.{Op}
use Rattle.pm_store.specs.Files.{Files, after_op, files_after}
use Rattle.pm_store.specs.Images.{Extends}
use Rattle.pm_store.specs.Store.{StoreView, IsAlone, IsLater, at_first_own}
use Rattle.pm_store.proofs.ImageLaws.{Extends-trans, Extends-weaker}
use Rattle.pm_store.proofs.StepLaws.{alone_parts}
use Rattle.pm_machine.specs.Moves.{Keeps, Moves}
use Rattle.pm_machine.specs.Trace.{Event, HasTrace, Traces}
use Rattle.pm_machine.proofs.AloneLaws.{Follows, Follows-first, Follows-meanwhile, Follows-steps, Traces-first, Traces-later, Traces-same_first}
use Rattle.pm_machine.proofs.Facts.{HasTrace-acts, Traces-faulted, Traces-join, Traces-none, image_changed}
use Rattle.pm_model_history.specs.History.{Entry, GoesOn, History, IsTableOf, no_table, table}
use Rattle.pm_schema.specs.declared.schema.TableSchema.{TableSchema}
use Rattle.pm_snapshot.specs.Names.{snapshot_name}
use Rattle.pm_snapshot.specs.declared.snapshot.Snapshot.{Snapshot}
use Rattle.pm_model_folder.specs.Changes.{Actor}
use Rattle.pm_model_folder.specs.Commits.{Names}
use Rattle.pm_model_folder.specs.Folder.{Folder}
use Rattle.pm_model_folder.specs.Ledger.{Advances, HasConsumersOf, HasNamedNone, IsKnown, Past, Stands, count_of}
use Rattle.pm_model_folder.specs.Meaning.{SnapshotAt}
use Rattle.pm_model_folder.proofs.HoldLemmas.{SameContents}
use Rattle.pm_model_folder.proofs.LedgerFacts.{known-keep}
use Rattle.pm_model_folder.proofs.PathLemmas.{consumer-snapshot}
use Rattle.pm_model_folder.proofs.SettledLemmas.{consumers-stay, same-keeps}
use Rattle.pm_read_schema.proofs.AllCallsLemmas as schema_calls
use Rattle.pm_read_schema.proofs.StillLemmas.{stayed}
use Rattle.pm_made.specs.declared.newest.Author.{Author}
use Rattle.pm_commit.specs.AllCalls.{AppendsAlone, AppendsTables, DidAppend, Ends, Has, IsCounted, IsPastOf, KnewFiles, KnowsFiles, LeavesFiles, LeavesFolder, MayBegin, NamesNone, SaysOf, StandsForEither, StandsFreely, StoodSo}
use Rattle.pm_commit.specs.Alone.{AloneAt, AloneRefused, Beginning, CommitterAlone, IsTryAt, KnewAlone, KnowsAlone, begun_at, newest_id, with_entry}
use Rattle.pm_commit.specs.Committer.{IsCommitter}
use Rattle.pm_commit.specs.Meaning.{AddsOwn, HasCommitted, KnowsOwn, MakesEntry, MakesIn, MakesOwn, own_in, path_after}
use Rattle.pm_commit.specs.Own.{OwnView, actor_of, begun}
use Rattle.pm_commit.specs.Search.{seen_of}
use Rattle.pm_commit.specs.Trace.{CommitterActed, Did}
use Rattle.pm_commit.specs.declared.all_calls.Appended.{Appended}
use Rattle.pm_commit.specs.declared.all_calls.Appended.TheVariants as appends
use Rattle.pm_commit.specs.declared.committer.CommitStep.{CommitStep}
use Rattle.pm_commit.specs.declared.phase.Phase.{Phase}
use Rattle.pm_commit.specs.declared.phase.Phase.TheVariants as phases
use Rattle.pm_commit.proofs.AddsLemmas.{adds-consumers, adds-more, adds-none}
use Rattle.pm_commit.proofs.AloneCauseLemmas.{begun-actor}
use Rattle.pm_commit.proofs.AloneLemmas.{either-way}
use Rattle.pm_commit.proofs.CommittedLemmas.{bears-commit}
use Rattle.pm_commit.proofs.CommitterLemmas.{begun-at}
use Rattle.pm_commit.proofs.FoundLemmas.{LiveEntries}
use Rattle.pm_commit.proofs.OwnLemmas.{append-planned}
use Rattle.pm_commit.proofs.FailLemmas.{after-failed, shows-failed}
use Rattle.pm_commit.proofs.KnownLemmas.{count-bound}
use Rattle.pm_commit.proofs.PublishLemmas as publish
use Rattle.pm_commit.proofs.StillLemmas.{OthersNone}

-- ---- the trace

pub went_further : (s : TableSchema) (own : OwnView) (old new : Phase) (first before after : StoreView) (step : CommitStep) → HasTrace (Did s own old) first before
    → CommitterActed old new before after (Ok step) → IsLater before after → HasTrace (Did s own new) first after
went_further s own old new first before after step trace acted later =
    let t = HasTrace-acts {did = Did s own old} {before = before} trace (acted s own) later in
    (t.0, t.1.0, t.2)

pub was_refused : (s : TableSchema) (own : OwnView) (old new : Phase) (first before after : StoreView) (refusal : Refusal) → HasTrace (Did s own old) first before
    → CommitterActed old new before after (Err refusal) → IsLater before after → HasTrace (Ends s own (Err refusal)) first after
was_refused s own old new first before after refusal trace acted later =
    let t = HasTrace-acts {did = Did s own old} {before = before} trace (acted s own) later in
    (t.0, t.1.1, t.2)

pub was_committed : (s : TableSchema) (own : OwnView) (m : Phase) (author : Author) (id : ℕ) (first after : StoreView) → m ≡ phases.Committed author id
    → HasTrace (Did s own m) first after → HasTrace (Ends s own (Ok (appends.Committed id))) first after
was_committed s own m author id first after is (events, did, trace) =
    (events, (author, subst (λ (m : Phase). Did s own m events) is did), trace)

pub was_already : (s : TableSchema) (own : OwnView) (m : Phase) (author : Author) (first after : StoreView) → m ≡ phases.Already author
    → HasTrace (Did s own m) first after → HasTrace (Ends s own (Ok appends.Already)) first after
was_already s own m author first after is (events, did, trace) =
    (events, (author, subst (λ (m : Phase). Did s own m events) is did), trace)

-- ---- the history, where nobody else acts

-- what the laws of changes and of actors' names say
pub record CallLaws : Type 0 where
  pub past : (me : Actor) (f after : Files) (p q : Past) → Stands f p → Advances me f p after q → Stands after q
  pub here : publish.NamesNone
  pub others : OthersNone

-- ---- what is known before a step, and after it

-- the commit of a phase has the actor of the one at the beginning
abbrev IsOwnOf : Beginning → OwnView → Type 0
IsOwnOf b own = actor_of own ≡ actor_of b.own

own-as : (b : Beginning) (o own : OwnView) → o ≡ own → IsOwnOf b o → IsOwnOf b own
own-as b o own same is = subst (IsOwnOf b) same is

begun-own : (b : Beginning) (o : OwnView) → o ≡ begun_at b → IsOwnOf b o
begun-own b o is = ap actor_of is ∙ begun-actor b.own (newest_id b)

try-own : (b : Beginning) (o : OwnView) (id : ℕ) → IsTryAt b o id → IsOwnOf b o
try-own b o id ((count, is), at, reason) = ap actor_of is ∙ begun-actor b.own (newest_id b)

-- and the history is as it was
own-in : (b : Beginning) (m : Phase) (own : OwnView) (f : Files) (now : History) → own_in m ≡ Some own → AloneAt b m f now → (now ≡ b.history) × IsOwnOf b own
own-in b (phases.Names o s) own f now is (same, (unchanged, is_own)) = (same, own-as b o own (let e : o ≡ own = cc in e) (ap actor_of is_own))
own-in b (phases.View o m) own f now is (same, (unchanged, is_own, reads)) = (same, own-as b o own (let e : o ≡ own = cc in e) (ap actor_of is_own))
own-in b (phases.Search o q) own f now is (same, (unchanged, is_own, sees, asked)) = (same, own-as b o own (let e : o ≡ own = cc in e) (begun-own b o is_own))
own-in b (phases.Put o s id m) own f now is (same, (try, untouched)) = (same, own-as b o own (let e : o ≡ own = cc in e) (try-own b o id try))
own-in b m own f now is at = absurd (let clash = is in cc)

-- in each phase the history has the entry more, or is as it was
either-at : (b : Beginning) (m : Phase) (f : Files) (now : History) → AloneAt b m f now → (now ≡ b.history) ⊎ (now ≡ with_entry b.entry b.history)
either-at b (phases.Committed author id) f now at = inr at.0
either-at b m f now at = inl at.0

-- it goes on as that
pub goes-on : (e : Entry) (h now : History) → (now ≡ h) ⊎ (now ≡ with_entry e h) → GoesOn h now
goes-on e no_table now either = tt
goes-on e (table s es) now (inl same) = subst (GoesOn (table s es)) (sym same) (refl, [], sym (append-nil es))
goes-on e (table s es) now (inr same) = subst (GoesOn (table s es)) (sym same) (refl, e ∷ [], refl)

stands-either : (b : Beginning) (now : History) (f : Files) → StandsFreely b now f → (now ≡ b.history) ⊎ (now ≡ with_entry b.entry b.history) → StandsForEither b f
stands-either b now f stands (inl same) = inl (subst (λ (h : History). StandsFreely b h f) same stands)
stands-either b now f stands (inr same) = inr (subst (λ (h : History). StandsFreely b h f) same stands)

-- the snapshots that were known are known as they were
stood-on : (me : Actor) (f after : Files) (b : Beginning) (p q : Past) → p.history ≡ b.history → StoodSo b p → Advances me f p after q → StoodSo b q
stood-on me f after b p q same stood advances = λ id known within.
    let was : IsKnown p id = record {
      after_origin = known.after_origin;
      from = subst (λ (first : ℕ). first ≤ id) advances.first known.from;
      to = subst (λ (h : History). id ≤ count_of h) (sym same) within;
    } in
    advances.same id was ∙ stood id was within

module _ (laws : CallLaws) (b : Beginning) where
  -- files that stand for what is known stand freely
  freely : (f : Files) (p : Past) → Stands f p → IsPastOf b f p → (p.history ≡ b.history) ⊎ (p.history ≡ with_entry b.entry b.history)
      → StandsFreely b p.history f
  freely f p stands past either = record {
    folder = stands.folder;
    adds = past.adds;
    consumers = known-keep b.history b.files f p stands (goes-on b.entry b.history p.history either) past.consumers;
    free = λ other apart none s id path table low high names by.
        let most = count-bound f p s stands table in
        laws.here other f p s id path stands table (omega (arith, high, most)) (past.others other apart none) names by;
  }

  past-on : (own : OwnView) (f after : Files) (p q : Past) → Stands f p → p.history ≡ b.history → IsOwnOf b own → IsPastOf b f p
      → MakesOwn own b.entry f p after q → IsPastOf b after q
  past-on own f after p q stands same is past makes =
      let own_adds : AddsOwn (actor_of b.own) (path_after b.history) f after = subst (λ (h : History). AddsOwn (actor_of b.own) (path_after h) f after) same
      (subst (λ (me : Actor). AddsOwn me (path_after p.history) f after) is makes.adds) in record {
        stood = stood-on (actor_of own) f after b p q same past.stood makes.advances;
        adds = adds-more (actor_of b.own) (path_after b.history) b.files f after past.adds own_adds;
        consumers = consumers-stay b.history b.files f after p q past.consumers (record {
          files = adds-consumers (actor_of b.own) (path_after b.history) f after
              (λ name. consumer-snapshot name (snapshot_name (suc (newest_id b)))) own_adds;
          claims = makes.consumers;
        });
        others = λ other apart none.
            laws.others other (actor_of own) f after p q stands makes.advances (λ same. apart (same ∙ is)) (past.others other apart none);
      }

module _ (laws : CallLaws) (b : Beginning) (known : Option (List Op)) where
  -- a change that a phase's commit makes, from files that stand for what is known
  changed : (m : Phase) (f after : Files) (p q : Past) → Stands f p → IsPastOf b f p → AloneAt b m f p.history → MakesEntry b.entry m f p after q
      → Stands after q × IsPastOf b after q × StandsForEither b after
  changed m f after p q stands past at makes = by (own_in m) refl makes
    where
      by : (o : Option OwnView) → own_in m ≡ o → MakesIn o b.entry f p after q → Stands after q × IsPastOf b after q × StandsForEither b after
      by None is makes = absurd makes
      by (Some own) is makes =
          let own_is = own-in b m own f p.history is at in
          let then = laws.past _ f after p q stands makes.advances in
          let past_then = past-on laws b own f after p q stands own_is.0 own_is.1 past makes in
          let either = either-way b p.history q.history own_is.0 makes.appends in
          let image = stands-either b q.history after (freely laws b after q then past_then either) either in
          (then, past_then, image)

  pub followed : (old new : Phase) (before after : StoreView) (result : Result CommitStep Refusal) → IsAlone before after
      → CommitterAlone old new before after result → Follows (StandsForEither b) known before (KnewFiles b old)
      → Follows (StandsForEither b) known after (KnowsFiles b new result)
  followed old new before after result alone moves so = by (moves b)
    where
      by : Moves Stands (MakesEntry b.entry old) (KnewAlone b old) (KnowsAlone b new result) before after
          → Follows (StandsForEither b) known after (KnowsFiles b new result)
      by (inl (op, own, steps)) =
          Follows-steps (StandsForEither b) (KnewFiles b old) (KnowsFiles b new result) known op
          (λ ops. Keeps Stands (MakesEntry b.entry old) (KnewAlone b old) (KnowsAlone b new result) op (files_after ops)) before after so steps
          alone
          (λ ops here keeps.
          let f = files_after ops in
          let p = here.0 in
          let got = keeps p here.1 here.3 in
          let leads = got.1 in
          let then = changed old f (after_op op f) p leads.0 here.1 here.2 here.3.1 leads.1 in (
            (leads.0, then.0, then.1, leads.2),
            λ image left.
                let made = image_changed (MakesEntry b.entry old) op.call f p got.0 image left in
                (changed old f image p made.0 here.1 here.2 here.3.1 made.1).2,
          ))
      by (inr (meanwhile, stays)) =
          let same = Follows-meanwhile (StandsForEither b) (KnewFiles b old) known before after so meanwhile alone in
          let here = same.here in record {
            ops = same.ops;
            is = same.is;
            here = (here.0, here.1, here.2, stays (files_after same.ops) here.0 here.1 here.3);
            images = same.images;
          }

  pub followed-first : (m : Phase) (store : StoreView) → store.ops ≡ known → LeavesFiles (KnewFiles b m) store
      → Follows (StandsForEither b) known store (KnewFiles b m)
  followed-first m store is here =
      Follows-first (StandsForEither b) (KnewFiles b m) store known is (with-image known (subst (λ (known : Option (List Op)). Has known) is here))
    where
      Has : Option (List Op) → Type 0
      Has known = IsSomeAnd known (λ ops. KnewFiles b m (files_after ops))

      with-image : (known : Option (List Op)) → Has known → IsSomeAnd known (λ ops. StandsForEither b (files_after ops) × KnewFiles b m (files_after ops))
      with-image None none = none
      with-image (Some ops) here =
          let either = either-at b m (files_after ops) here.0.history here.3.1 in
          (stands-either b here.0.history (files_after ops) (freely laws b (files_after ops) here.0 here.1 here.2 either) either, here)

-- what was known of the files at the beginning, and is known before a step
abbrev pub HasFollowed : Phase → Phase → StoreView → StoreView → Type 0
HasFollowed first m before now = (b : Beginning) → IsAlone before now → LeavesFiles (KnewFiles b first) before
    → Follows (StandsForEither b) before.ops now (KnewFiles b m)

pub followed-none : CallLaws → (m : Phase) (store : StoreView) → HasFollowed m m store store
followed-none law m store = λ b alone here. followed-first law b store.ops m store refl here

-- and is known after it
pub followed-on : CallLaws → (first old new : Phase) (start before after : StoreView) (result : Result CommitStep Refusal) → IsLater start before
    → IsLater before after → HasFollowed first old start before → CommitterAlone old new before after result → (b : Beginning) → IsAlone start after
    → LeavesFiles (KnewFiles b first) start → Follows (StandsForEither b) start.ops after (KnowsFiles b new result)
followed-on law first old new start before after result early late so moves b alone here =
    let parts = alone_parts start before after early late alone in
    followed law b start.ops old new before after result parts.1 moves (so b parts.0 here)

-- ---- its end

module _ (b : Beginning) (start after : StoreView) where
  abbrev Leaves : Result Appended Refusal → Type 0
  Leaves result = LeavesFiles (λ f. LeavesFolder b result f × SaysOf b result) after × Extends (StandsForEither b) start.ops after.ops

  at-end : (result : Result Appended Refusal) (P : Files → Type 0) → ((f : Files) → P f → LeavesFolder b result f × SaysOf b result)
      → Follows (StandsForEither b) start.ops after P → Leaves result
  at-end result P weaker so = (
    subst (λ (known : Option (List Op)). IsSomeAnd known (λ ops. LeavesFolder b result (files_after ops) × SaysOf b result)) (sym so.is) (weaker (files_after so.ops) so.here),
    subst (λ (known : Option (List Op)). Extends (StandsForEither b) start.ops known) (sym so.is) so.images,
  )

  pub left-committed : SameContents → LiveEntries → (m : Phase) (by : Author) (id : ℕ) → m ≡ phases.Committed by id
      → Follows (StandsForEither b) start.ops after (KnewFiles b m) → Leaves (Ok (appends.Committed id))
  left-committed same live_law m by id is =
      at-end (Ok (appends.Committed id)) (KnewFiles b m) (λ f here.
      let known = subst (λ (m : Phase). KnewAlone b m f here.0) is here.3 in
      let at = known.1 in
      let has = subst (λ (a : Author). HasCommitted a b.entry id here.0) at.1.0 known.0.1 in (
        (subst (Folder f) at.0 here.1.folder, bears-commit same live_law b f here.0 here.1 here.2.stood at.0 id at.1.1 has),
        (at.1.1, at.1.2),
      ))

  -- which base an author has says nothing of its earlier commits
  begun-seen : (x : Snapshot) (n : ℕ) → seen_of (begun n b.own).author x ≡ seen_of b.own.author x
  begun-seen x n = begun-at (λ o. seen_of o.author x ≡ seen_of b.own.author x) b.own n refl refl

  pub left-already : (m : Phase) (by : Author) → m ≡ phases.Already by → Follows (StandsForEither b) start.ops after (KnewFiles b m)
      → Leaves (Ok appends.Already)
  left-already m by is =
      at-end (Ok appends.Already) (KnewFiles b m) (λ f here.
      let known = subst (λ (m : Phase). KnewAlone b m f here.0) is here.3 in
      let at = known.1 in
      let earlier = known.0.1 in
      let within : earlier.id ≤ newest_id b = subst (λ (h : History). earlier.id ≤ count_of h) at.0 earlier.known.to in (
        (subst (Folder f) at.0 here.1.folder, at.1.0),
        (
          at.1.2,
          record {
            id = earlier.id;
            after_origin = earlier.known.after_origin;
            within = within;
            snapshot = earlier.snapshot;
            there = subst (λ (f : Files). SnapshotAt f earlier.id earlier.snapshot) (here.2.stood earlier.id earlier.known within) earlier.stood;
            reached = sym (ap (λ (a : Author). seen_of a earlier.snapshot) at.1.1 ∙ begun-seen earlier.snapshot (newest_id b)) ∙ earlier.reached;
          },
        ),
      ))

  refused-leaves : (refusal : Refusal) (f : Files) (p : Past) → Folder f p.history → AloneRefused b refusal f p
      → LeavesFolder b (Err refusal) f × SaysOf b (Err refusal)
  refused-leaves refusals.Memory f p folder same = (subst (Folder f) same folder, tt)
  refused-leaves (refusals.StoreFault path) f p folder (inl same) = (inl (subst (Folder f) same folder), tt)
  refused-leaves (refusals.StoreFault path) f p folder (inr (same, is)) = (inr (subst (Folder f) same folder, is), tt)
  refused-leaves (refusals.SessionUsed path) f p folder (same, used) = (subst (Folder f) same folder, used)
  refused-leaves (refusals.Fenced base fence) f p folder (same, unchanged, reason) = ((subst (Folder f) same folder, unchanged), reason)
  refused-leaves (refusals.CompactTaken file) f p folder (none, same, unchanged, reason) = ((subst (Folder f) same folder, unchanged), (none, reason))
  refused-leaves (refusals.Limit which number) f p folder (same, unchanged, reason) = ((subst (Folder f) same folder, unchanged), reason)
  refused-leaves other f p folder none = absurd none

  pub left-refused : (m : Phase) (refusal : Refusal) → Follows (StandsForEither b) start.ops after (KnowsFiles {X = CommitStep} b m (Err refusal))
      → Leaves (Err refusal)
  left-refused m refusal =
      at-end (Err refusal) (KnowsFiles {X = CommitStep} b m (Err refusal)) (λ f here. refused-leaves refusal f here.0 here.1.folder here.3)

-- ---- from the reading of the schema on

pub first-traced : (s : TableSchema) (own : OwnView) (m : Phase) (store : StoreView) → m ≡ phases.Names own s → HasTrace (Did s own m) store store
first-traced s own m store is = ([], subst (λ (m : Phase). Did s own m []) (sym is) (refl, refl, refl), Traces-none store)

pub went_on : (s : TableSchema) (own : OwnView) (result : Result Appended Refusal) (first middle after : StoreView) → HasTrace (Has s) first middle
    → HasTrace (Ends s own result) middle after → HasTrace (DidAppend s own result) first after
went_on s own result first middle after (earlier, has, trace) (later, does, rest) =
    (earlier ++ later, (earlier, later, has, refl, does), Traces-join earlier later first middle after trace rest)

-- what the law of settled consumers says of a folder that is found
abbrev pub FoundPast : Type 0
FoundPast = (f : Files) (h : History) → Folder f h
    → (p : Past) × (p.history ≡ h) × Stands f p × ((id : ℕ) → p.stood id ≡ f) × (p.since ≡ count_of h) × HasConsumersOf h f f p

-- at first the committer knows its entry, and that no snapshot names a file of its actor
first-known : FoundPast → (s : TableSchema) (b : Beginning) (f : Files) → f ≡ b.files → IsCommitter (phases.Names b.own s) → MayBegin s b
    → IsTableOf s b.history → KnewFiles b (phases.Names b.own s) f
first-known found s b f same is begin table_is =
    let (past, history, stands, stood, since, consumers) = found b.files b.history begin.start.0 in
    let named : (who : Actor) → NamesNone who b.history b.files → HasNamedNone who past = λ who none t id path at known names by.
    none t id path (subst (IsTableOf t) history at) known.after_origin (subst (λ (h : History). id ≤ count_of h) history known.to)
    (subst (λ (f : Files). Names f t id path) (stood id) names) by in
    let knows : KnowsOwn b.own b.entry s past = record {
      is_table = subst (IsTableOf s) (sym history) table_is;
      means = begin.means;
      may = begin.may;
      unnamed = named (actor_of b.own) begin.start.1;
      from = subst (λ (n : ℕ). n ≤ count_of past.history) (sym begin.no_base) (omega arith);
    } in (
      past,
      subst (λ (f : Files). Stands f past) (sym same) stands,
      record {
        stood = λ id known within. stood id;
        adds = adds-none (actor_of b.own) (path_after b.history) b.files f (λ path. ap (λ (f : Files). map.get f path) same);
        consumers = subst (λ (f : Files). HasConsumersOf b.history b.files f past) (sym same) consumers;
        others = λ other apart none. named other none;
      },
      ((is, knows, ([], (append-planned b.own.intent (actor_of b.own) b.own.author.base [] past is.1 refl, inr tt))), (history, ((λ path. ap (λ (f : Files). map.get f path) same), refl))),
    )

leaves-of : (b : Beginning) (result : Result Appended Refusal) (known : Option (List Op))
    → IsSomeAnd known (λ ops. LeavesFolder b result (files_after ops) × SaysOf b result)
    → IsSomeAnd known (λ ops. LeavesFolder b result (files_after ops)) × SaysOf b result
leaves-of b result None none = absurd none
leaves-of b result (Some ops) here = here

files-known : (P : Files → Type 0) (f : Files) (known : Option (List Op)) → ((g : Files) → g ≡ f → P g) → IsSomeAnd known (λ ops. files_after ops ≡ f)
    → IsSomeAnd known (λ ops. P (files_after ops))
files-known P f None at none = none
files-known P f (Some ops) at same = at (files_after ops) same

-- the store failed last, and that was counted
counted : (s : TableSchema) (own : OwnView) (result : Result Appended Refusal) (earlier later : List Event) (first middle after : StoreView)
    → Traces earlier first middle → Traces later middle after → Ends s own result later → IfErr result (IsCounted first after)
counted s own (Ok x) earlier later first middle after trace rest ends = tt
counted s own (Err (refusals.StoreFault path)) earlier later first middle after trace rest ends =
    let last = after-failed earlier later (earlier ++ later) refl (shows-failed s own path later ends) in
    Traces-faulted last.0 last.1 first after
    (subst (λ (events : List Event). Traces events first after) last.2 (Traces-join earlier later first middle after trace rest))
counted s own (Err other) earlier later first middle after trace rest ends = tt

pub appended-history : FoundPast → (s : TableSchema) (own : OwnView) (m : Phase) (result : Result Appended Refusal) (before middle after : StoreView) → m ≡ phases.Names own s
    → IsCommitter m → HasTrace (Has s) before middle → HasTrace (Ends s own result) middle after → IsLater middle after
    → ((b : Beginning) → AppendsAlone b m middle after result) → AppendsTables s own before after result
appended-history found s own m result before middle after is committer (earlier, has, trace) (later, ends, rest) late leaves =
    by earlier has trace
  where
    by : (earlier : List Event) → Has s earlier → Traces earlier before middle → AppendsTables s own before after result
    by [] has trace = absurd (schema_calls.ready_some s has)
    by (event ∷ events) has trace = λ alone b is_own had begin.
        let first = at_first_own before after in
        let same : at_first_own before middle ≡ first = Traces-same_first event events later before middle after trace rest in
        let read : Traces (event ∷ events) first middle = subst (λ (first : StoreView). Traces (event ∷ events) first middle) same (Traces-first (event ∷ events) before middle trace) in
        let parts = alone_parts first middle after (Traces-later (event ∷ events) first middle read) late alone in
        let stay = stayed b.files (event ∷ events) first middle (schema_calls.ready_calls s (event ∷ events) has) read parts.0 had in
        let table_is = schema_calls.ready_at b.files b.history begin.start.0 s (event ∷ events) has stay.1 in
        let at_names : m ≡ phases.Names b.own s = is ∙ ap (λ (own : OwnView). phases.Names own s) (sym is_own) in
        let knew = files-known (KnewFiles b m) b.files middle.ops (λ f same. subst (λ (m : Phase). KnewFiles b m f) (sym at_names)
        (first-known found s b f same (subst IsCommitter at_names committer) begin table_is)) stay.0.here in
        let left = leaves b parts.1 knew in
        let says = leaves-of b result after.ops left.0 in record {
          schema = table_is;
          leaves = says.0;
          images = Extends-trans (StandsForEither b) first.ops middle.ops after.ops
              (Extends-weaker (λ f. f ≡ b.files) (StandsForEither b) first.ops middle.ops
              (λ f same. inl (subst (StandsFreely b b.history) (sym same) (record { folder = begin.start.0; adds = λ path. inl refl; consumers = same-keeps b.files b.files (λ path. refl) b.history; free = λ other apart none. none }))) stay.0.images)
              left.1;
          says = says.1;
          counted = counted s own result (event ∷ events) later first middle after read rest ends;
        }
