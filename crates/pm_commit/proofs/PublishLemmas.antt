-- The publish of a try whose files are all there appends its entry to the history, while the newest snapshot stands.
use Rattle.std.proofs.Common.{◌≡◌, inl, inr, ℕ, ℤ, zero, suc, ◌+◌, ◌-◌, ◌<◌, ◌≤◌, ◌^◌, nat_le, Bool, true, false, if◌then◌else◌, List, [], ◌∷◌, ◌++◌, length, length-append, Option, None, Some, IsSome, IsSomeAnd, refl, sym, ap, ◌∙◌, subst, arith}
use Rattle.std.specs.FinMap as map
use Rattle.std.specs.List.{AllByRecursion}
use Rattle.std.proofs.lemmas.Bool.Decides.{nat_tests}
use Rattle.pm_store.specs.Files.{Files, Puts, carried}
use Rattle.pm_store.specs.Answers.{Answers}
use Rattle.pm_store.specs.declared.answer.Answer.TheVariants as answers
use Rattle.pm_store.specs.declared.answer.Published.TheVariants as published
use Rattle.pm_store.proofs.ChangeLaws.{Answers-Changed}
use Rattle.pm_values.specs.declared.group.Group.{Group}
use Rattle.pm_model_history.specs.History.{Entry, History, IsTableOf, append, compaction, entry_rows, table}
use Rattle.pm_schema.specs.declared.schema.TableSchema.{TableSchema}
use Rattle.pm_partitions.proofs.Plain.{plain_names}
use Rattle.pm_snapshot.specs.Names.{greatest}
use Rattle.pm_model_folder.specs.Changes.{Actor, HavePlainNames, IsNamedBy, NamesOwn, committed as commits}
use Rattle.pm_model_folder.specs.Commits.{IsCommit, Names}
use Rattle.pm_model_folder.specs.Entries.{IsFenced}
use Rattle.pm_model_folder.specs.Folder.{Folder, HasTable, IsEntryAfter}
use Rattle.pm_model_folder.specs.Ledger.{Advances, HasNamedNone, IsKnown, KnowsTable, Past, Stands, count_of}
use Rattle.pm_model_folder.specs.Meaning.{HasSnapshotAt}
use Rattle.pm_model_folder.specs.Paths.{named_origin, origin_path, snapshot_file, snapshot_path}
use Rattle.pm_model_folder.proofs.Facts.{some-none}
use Rattle.pm_model_folder.proofs.HoldLemmas.{Holds, OneContents, SameContents}
use Rattle.pm_model_folder.proofs.LedgerFacts.{at-table, count-is}
use Rattle.pm_read_table.specs.declared.view.View.{View}
use Rattle.pm_write.specs.Batch.{Groups}
use Rattle.pm_runs.specs.Succession.{KnownRun}
use Rattle.pm_made.specs.Commit as made
use Rattle.pm_made.specs.Commit.{Attempt, AreOwnFiles, IsAsMade, IsFoundAs, IsFullWithin, IsNewestOf, MayChange, MayRaise}
use Rattle.pm_made.specs.Files.{IsMadeOf}
use Rattle.pm_made.specs.Intent.{AppendsBatch, IsEntryFor, IsMadeFor, Means, most_files}
use Rattle.pm_made.specs.Refusals.{refusal_of}
use Rattle.pm_made.specs.declared.intent.Intent.{Intent}
use Rattle.pm_made.specs.declared.intent.Intent.TheVariants as intents
use Rattle.pm_made.specs.declared.intent.Plan.{Plan}
use Rattle.pm_made.specs.declared.newest.Author.{Author}
use Rattle.pm_made.specs.declared.newest.Newest.{Newest}
use Rattle.pm_made.proofs.AllowedLemmas.{allowed-id}
use Rattle.pm_compaction.specs.Compacted.{GoesOnWith, HasCompacted}
use Rattle.pm_compaction.specs.Plan.{KnowsPlan}
use Rattle.pm_append.specs.Commit.{Grows, HasAppended, IsReady, Try, attempt_of, entry_of}
use Rattle.pm_commit.specs.Alone.{with_entry}
use Rattle.pm_commit.specs.Committer.{after_path, newest_in, publishing_of}
use Rattle.pm_commit.specs.Meaning.{AreThere, BearsAdded, HasCommitted, HasEntry, HasGiven, KnowsOwn, KnowsTry, MakesOwn, PlannedIn, path_after}
use Rattle.pm_commit.specs.Own.{IsTried, OwnView, actor_of}
use Rattle.pm_commit.specs.declared.found.Found.{Found}
use Rattle.pm_put.proofs.Facts.{published_absent, published_there}
use Rattle.pm_put.specs.Meaning as put
use Rattle.pm_put.specs.Meaning.{IsPut}
use Rattle.pm_put.specs.Putter.{publish_call}
use Rattle.pm_put.specs.declared.phase.Phase.TheVariants as putters
use Rattle.pm_put.specs.declared.putting.CommitFile.{CommitFile}
use Rattle.pm_put.specs.declared.putting.Publishing.{Publishing}
use Rattle.pm_commit.specs.declared.phase.Phase.TheVariants as phases
use Rattle.pm_commit.proofs.AddsLemmas.{adds-none, adds-one}
use Rattle.pm_commit.proofs.AdvanceLemmas.{GoesWith, NamedPaths, append-advances, later_past, one-table, same-advances}
use Rattle.pm_commit.proofs.FenceLemmas.{newest-fence, not-fenced}
use Rattle.pm_commit.proofs.FoundLemmas.{LiveEntries, found-there}
use Rattle.pm_commit.proofs.GrowLemmas.{goes-with, new_runs}
use Rattle.pm_commit.proofs.StillLemmas.{OwnGiven, PlanStays, found-still}

-- ---- what the laws of lower crates say

-- the newest snapshot
abbrev pub IsNewest : Type 0
IsNewest = (f : Files) (s : TableSchema) (entries : List Entry) (id : ℕ) → Folder f (table s entries) → HasSnapshotAt f s id → id + 1 ≤ greatest
    → map.get f (snapshot_path (id + 1)) ≡ None → id ≡ length entries

-- no snapshot names a file of an actor that committed none
abbrev pub NamesNone : Type 0
NamesNone = (me : Actor) (f : Files) (p : Past) (s : TableSchema) (id : ℕ) (path : List ℕ) → Stands f p → IsTableOf s p.history → id ≤ greatest
    → HasNamedNone me p → Names f s id path → IsNamedBy me path → ⊥

-- a try that is ready
abbrev pub AppendsTry : Type 0
AppendsTry = (me : Actor) (f after : Files) (s : TableSchema) (entries : List Entry) (t : Try) → (ready : IsReady me f s entries t)
    → map.get f (snapshot_path (suc (length entries))) ≡ None → Puts f (snapshot_path (suc (length entries))) (Some t.made.text) after
    → IsCommit f after s entries (entry_of t) × NamesOwn me f after s (length entries)
    × IsAsMade after s (suc (length entries)) (attempt_of t) ready.made × HasAppended after s t.newest t.author (length t.rows)
    × ((g : Group) → Grows me f after s (length entries) g t.rows)

-- a plan of a compaction, and a try by it
pub record CompactLaws : Type 0 where
  pub stays : PlanStays
  pub given : OwnGiven
  pub own : (me : Actor) (p : Past) (s : TableSchema) (t : Attempt) (plan : Plan) (given : List CommitFile) → HavePlainNames s
      → KnowsPlan me s t.author.base plan given p → t.intent ≡ intents.Compact plan → AreOwnFiles me s t
  pub full : (me : Actor) (f : Files) (p : Past) (s : TableSchema) (entries : List Entry) (newest : Newest) (base : ℕ) (plan : Plan) (given : List CommitFile)
      → Stands f p → p.history ≡ table s entries → IsNewestOf f s entries newest → KnowsPlan me s base plan given p
      → IsFullWithin newest.snapshot (intents.Compact plan)
  pub change : (me : Actor) (f : Files) (p : Past) (s : TableSchema) (entries : List Entry) (base : ℕ) (t : Attempt) (plan : Plan) (given : List CommitFile)
      → Stands f p → p.history ≡ table s entries → KnowsPlan me s base plan given p → t.intent ≡ intents.Compact plan
      → (made : IsMadeOf s t.newest t.author t.intent t.names t.made) → MayChange s made.delta
  pub compacts : (me : Actor) (f after : Files) (p : Past) (s : TableSchema) (entries : List Entry) (e : Entry) (t : Attempt) (plan : Plan) (given : List CommitFile)
      → Stands f p → p.history ≡ table s entries → HasNamedNone me p → KnowsPlan me s t.author.base plan given p → AllByRecursion (IsPut f) given
      → t.intent ≡ intents.Compact plan → (ready : made.IsReady me f s entries e t) → map.get f (snapshot_path (suc (length entries))) ≡ None
      → Puts f (snapshot_path (suc (length entries))) (Some t.made.text) after
      → IsEntryAfter s entries e × IsCommit f after s entries e × NamesOwn me f after s (length entries)
      × IsAsMade after s (suc (length entries)) t ready.made × HasCompacted after s t.newest t.author plan
      × ((g : Group) → GoesOnWith after s entries e p g)

-- ---- nothing changes

pub own-same : (own : OwnView) (e : Entry) (f after : Files) (p : Past) → ((path : List ℕ) → map.get after path ≡ map.get f path)
    → MakesOwn own e f p after p
own-same own e f after p same = record {
  advances = same-advances (actor_of own) f after p same;
  appends = inl refl;
  adds = adds-none (actor_of own) (path_after p.history) f after same;
  consumers = λ name. refl;
}

-- ---- the snapshot before the one that is published

-- it is there where its path is
before-there : (f : Files) (s : TableSchema) (id : ℕ) → (id ≡ 0 → IsSome s.origin) → IsSome (map.get f (after_path s (id + 1))) → HasSnapshotAt f s id
before-there f s zero origin there = at s.origin refl (origin refl)
  where
    at : (o : Option (List ℕ)) → s.origin ≡ o → IsSome o → HasSnapshotAt f s 0
    at None none is = absurd (let clash = is in cc)
    at (Some name) some is =
        let here : IsSome (map.get f (snapshot_file name)) =
        subst (λ (o : Option (List ℕ)). IsSome (map.get f (snapshot_file (named_origin o)))) some there in
        subst (λ (o : Option (List ℕ)). IsSomeAnd o (λ origin. IsSome (map.get f (snapshot_file origin)))) (sym some) here
before-there f s (suc k) origin there =
    subst (λ (path : List ℕ). IsSome (map.get f path)) (at (nat_le (suc k + 1) 1) refl) there
  where
    at : (b : Bool) → nat_le (suc k + 1) 1 ≡ b → (if b then origin_path s else snapshot_path (suc k + 1 - 1)) ≡ snapshot_path (suc k)
    at true low = absurd (grind (arith, nat_tests))
    at false high = ap snapshot_path (let same : suc k + 1 - 1 ≡ suc k = omega arith in same)

-- ---- a try that is published

module _ (one : OneContents) (same : SameContents) (paths : NamedPaths) (live_law : LiveEntries) (newest_law : IsNewest) (none_law : NamesNone) (append_law : AppendsTry)
    (compact : CompactLaws) (own : OwnView) (e : Entry) (s : TableSchema) (id : ℕ) (x : Publishing) (f : Files) (p : Past) (stands : Stands f p)
    (tried : IsTried s own) (known : KnowsOwn own e s p) (is_try : KnowsTry own e s id (putters.Publish x) f p)
    (gave : HasGiven (phases.Put own s id (putters.Publish x)) f p) where
  abbrev t : Attempt
  t = is_try.attempt

  abbrev v : View
  v = is_try.found.view

  own-table : (es : List Entry) × (p.history ≡ table s es) × HasTable f s es × KnowsTable f s es p
  own-table = at-table f p s stands known.is_table

  abbrev entries : List Entry
  entries = own-table.0

  many : count_of p.history ≡ length entries
  many = count-is p s entries own-table.1

  same-schema : s ≡ v.schema
  same-schema = ap (λ (found : Found). found.schema) is_try.found.is

  same-newest : t.newest ≡ newest_in v
  same-newest = ap (λ (found : Found). found.newest) is_try.found.is

  id-is : id ≡ t.newest.id + 1
  id-is = is_try.is ∙ is_try.made.id

  last-is : x ≡ publishing_of s id t.made.text
  last-is = is_try.put.0 ∙ ap (λ (n : ℕ). publishing_of s n t.made.text) (sym is_try.is)

  below : t.newest.id < greatest
  below = allowed-id t.newest t.author t.intent is_try.allowed

  origin : t.newest.id ≡ 0 → IsSome s.origin
  origin first =
      subst (λ (u : TableSchema). IsSome u.origin) (sym same-schema) (is_try.found.origin (sym (ap (λ (n : Newest). n.id) same-newest) ∙ first))

  -- the history has the entry more, and the id is the next
  abbrev IsNext : Past → Type 0
  IsNext later = (later.history ≡ with_entry e p.history) × (id ≡ count_of p.history + 1)

  module _ (after : Files) (absent : map.get f (snapshot_path id) ≡ None) (there : IsSome (map.get f (after_path s id)))
      (puts_at : Puts f (snapshot_path id) (Some t.made.text) after) where
    before : HasSnapshotAt f s t.newest.id
    before = before-there f s t.newest.id origin (subst (λ (n : ℕ). IsSome (map.get f (after_path s n))) id-is there)

    newest-is : t.newest.id ≡ length entries
    newest-is = newest_law f s entries t.newest.id own-table.2 before (omega (arith, below))
        (subst (λ (n : ℕ). map.get f (snapshot_path n) ≡ None) id-is absent)

    next-is : id ≡ suc (length entries)
    next-is = let one_more = id-is in let last = newest-is in omega (arith, one_more, last)

    newest-there : HasSnapshotAt f s (length entries)
    newest-there = subst (HasSnapshotAt f s) newest-is before

    -- the newest snapshot is as it was found
    found-here : IsFoundAs f s t.newest t.newest.snapshot
    found-here = found-there same live_law f p (record { schema = s; newest = t.newest }) stands is_try.found before

    -- which has not fenced its base
    there-all : (files : List CommitFile) → AreThere own f p files → AllByRecursion (IsPut f) files
    there-all files there = elim there as (λ _. AllByRecursion (IsPut f) files) [
      | inl fenced ↦ absurd (not-fenced t.newest t.author t.intent s entries is_try.allowed
          (newest-fence f p s entries stands own-table.1 (record { schema = s; newest = t.newest }) is_try.found newest-is)
          (subst (λ (h : History). IsFenced t.author.base h) own-table.1
          (subst (λ (a : Author). IsFenced a.base p.history) (sym is_try.same_author) fenced)))
      | inr all ↦ all
    ]

    all-there : AllByRecursion (IsPut f) t.made.files.items
    all-there = there-all t.made.files.items is_try.put.1

    absent-next : map.get f (snapshot_path (suc (length entries))) ≡ None
    absent-next = subst (λ (n : ℕ). map.get f (snapshot_path n) ≡ None) next-is absent

    puts : Puts f (snapshot_path (suc (length entries))) (Some t.made.text) after
    puts = subst (λ (n : ℕ). Puts f (snapshot_path n) (Some t.made.text) after) next-is puts_at

    holds : Holds f after
    holds q there = puts.others q (λ is. some-none (map.get f q) there (ap (map.get f) is ∙ absent-next))

    bound : suc (length entries) ≤ greatest
    bound = let last = newest-is in let low = below in omega (arith, last, low)

    names-none : (id : ℕ) (path : List ℕ) → 1 ≤ id → id ≤ length entries → Names f s id path → IsNamedBy (actor_of own) path → ⊥
    names-none id path low high named by =
        none_law (actor_of own) f p s id path stands known.is_table (let bound = own-table.2.snapshots.within in omega (arith, high, bound)) known.unnamed named by

    -- ---- by what it is for

    -- What is to be shown of each: its entry may come next and is added, what its snapshot names and the newest doesn't is
    -- the actor's own, the snapshot is what it has to be, and each group's runs go on.
    record Adds : Type 0 where
      follows : IsEntryAfter s entries e
      commit : IsCommit f after s entries e
      names : NamesOwn (actor_of own) f after s (length entries)
      added : BearsAdded after s t.newest own.author e
      runs : Group → List KnownRun
      goes : (g : Group) → GoesWith after p s entries e g (runs g)

    -- rows are appended
    module _ (batch : Groups) (is_append : own.intent ≡ intents.Append batch) where
      means : AppendsBatch s own.author.user own.author.identifier batch e
      means = subst (λ (intent : Intent). Means s own.author intent e) is_append known.means

      intent-is : t.intent ≡ intents.Append batch
      intent-is = is_try.same_intent ∙ is_append

      -- the try, with its rows
      abbrev appended : Try
      appended = record {
        rows = entry_rows e;
        batch = batch;
        author = t.author;
        newest = t.newest;
        names = t.names;
        made = t.made;
      }

      ready : IsReady (actor_of own) f s entries appended
      ready = record {
        folder = own-table.2;
        declared = tried.declared;
        newest = record { id = newest-is; found = found-here };
        batch = means.groups;
        made = subst (λ (intent : Intent). IsMadeOf s t.newest t.author intent t.names t.made) intent-is is_try.made;
        allowed = subst (λ (intent : Intent). refusal_of t.newest t.author intent ≡ None) intent-is is_try.allowed;
        base =
            (let from = known.from in
            let same_base : t.author.base ≡ own.author.base = ap (λ (a : Author). a.base) is_try.same_author in
            let last = newest-is in
            let size = many in
            omega (arith, from, same_base, last, size));
        maker = record {
          session = is_try.names.session;
          actor = is_try.names.actor;
          based = is_try.names.based;
          may = is_try.names.may;
          room = subst (λ (intent : Intent). t.names.count + most_files intent < 2 ^ 64) intent-is is_try.names.room;
        };
        there = all-there;
        unnamed = names-none;
      }

      same-entry : entry_of appended ≡ e
      same-entry = ap (λ (a : Author). append a.user a.identifier (entry_rows e)) is_try.same_author ∙ sym means.is

      append-adds : Adds
      append-adds =
          let all = append_law (actor_of own) f after s entries appended ready absent-next puts in
          let user : List ℕ = own.author.user in
          let identifier : ℤ = own.author.identifier in
          let runs : Group → List KnownRun = λ g. new_runs same (actor_of own) f after p s entries user identifier (entry_rows e) stands own-table.1 known.unnamed newest-there
          holds g (all.4 g) in
          record {
            follows = subst (IsEntryAfter s entries) (sym means.is) means.fit;
            commit = subst (λ (e : Entry). IsCommit f after s entries e) same-entry all.0;
            names = all.1;
            added = subst (λ (e : Entry). BearsAdded after s t.newest own.author e) (sym means.is)
                (refl, refl, subst (λ (a : Author). HasAppended after s t.newest a (length (entry_rows e))) is_try.same_author all.3);
            runs = runs;
            goes = λ g. subst (λ (x : Entry). GoesWith after p s entries x g (runs g)) (sym means.is)
                (goes-with same (actor_of own) f after p s entries user identifier (entry_rows e) stands own-table.1 known.unnamed newest-there holds g (all.4 g));
          }

    -- a plan is compacted by
    module _ (plan : Plan) (is_compact : own.intent ≡ intents.Compact plan) where
      compacts-by : t.intent ≡ intents.Compact plan
      compacts-by = is_try.same_intent ∙ is_compact

      same-base : t.author.base ≡ own.author.base
      same-base = ap (λ (a : Author). a.base) is_try.same_author

      abbrev given : List CommitFile
      given = gave.0

      knows : KnowsPlan (actor_of own) s t.author.base plan given p
      knows =
          let planned : PlannedIn (intents.Compact plan) (actor_of own) own.author.base given p =
          subst (λ (intent : Intent). PlannedIn intent (actor_of own) own.author.base given p) is_compact gave.1.0 in
          subst (λ (base : ℕ). KnowsPlan (actor_of own) s base plan given p) (sym same-base)
          (subst (λ (u : TableSchema). KnowsPlan (actor_of own) u own.author.base plan given p)
          (one-table planned.0 s p.history planned.1.table known.is_table) planned.1)

      entry-is : e ≡ compaction own.author.base plan.groups.items
      entry-is = subst (λ (intent : Intent). Means s own.author intent e) is_compact known.means

      by-try : e ≡ compaction t.author.base plan.groups.items
      by-try = entry-is ∙ ap (λ (base : ℕ). compaction base plan.groups.items) (sym same-base)

      plan-ready : made.IsReady (actor_of own) f s entries e t
      plan-ready = record {
        folder = own-table.2;
        newest = record { id = newest-is; found = found-here };
        means = subst (λ (intent : Intent). IsEntryFor t.author intent e) (sym compacts-by) by-try;
        may_raise = subst (MayRaise entries) (sym compacts-by) tt;
        made = is_try.made;
        may_change = compact.change (actor_of own) f p s entries t.author.base t plan given stands own-table.1 knows compacts-by is_try.made;
        allowed = is_try.allowed;
        base = (let from = known.from in let same = same-base in let last = newest-is in let size = many in omega (arith, from, same, last, size));
        full = subst (IsFullWithin t.newest.snapshot) (sym compacts-by)
            (compact.full (actor_of own) f p s entries t.newest t.author.base plan given stands own-table.1 (record { id = newest-is; found = found-here }) knows);
        maker = is_try.names;
        own = compact.own (actor_of own) p s t plan given (plain_names s tried.declared) knows compacts-by;
        there = all-there;
        unnamed = names-none;
      }

      -- the snapshot is to its last field the one of the plan
      plan-compacts : HasCompacted after s t.newest own.author plan
      plan-compacts =
          subst (λ (a : Author). HasCompacted after s t.newest a plan) is_try.same_author
          (compact.compacts (actor_of own) f after p s entries e t plan given stands own-table.1 known.unnamed knows (there-all given gave.1.1)
          compacts-by plan-ready absent-next puts).4

      compact-adds : Adds
      compact-adds =
          let all = compact.compacts (actor_of own) f after p s entries e t plan given stands own-table.1 known.unnamed knows (there-all given gave.1.1)
          compacts-by plan-ready absent-next puts in
          record {
            follows = all.0;
            commit = all.1;
            names = all.2;
            added = subst (BearsAdded after s t.newest own.author) (sym entry-is)
                (plan, refl, refl, subst (λ (a : Author). HasCompacted after s t.newest a plan) is_try.same_author all.4);
            runs = λ g. (all.5 g).runs;
            goes = λ g. ((all.5 g).are, (all.5 g).follow);
          }

    adds : Adds
    adds = by own.intent refl
      where
        by : (intent : Intent) → own.intent ≡ intent → Adds
        by (intents.Append batch) is = append-adds batch is
        by (intents.Compact plan) is = compact-adds plan is
        by (intents.Fence number) is = absurd (subst IsMadeFor is tried.made_for)

    -- ---- whatever it is for

    -- the snapshot wasn't known, and is the commit's
    committed : (q : Past) → Advances (actor_of own) f p after q → q.history ≡ table s (entries ++ e ∷ []) → HasEntry e id q
        → HasCommitted own.author e id q
    committed q advances now has =
        let size : count_of q.history ≡ suc (length entries) =
        ap count_of now ∙ length-append entries (e ∷ []) ∙ (let more : length entries + 1 ≡ suc (length entries) = omega arith in more) in
        let known : IsKnown q id = record {
          after_origin = (let next = next-is in omega (arith, next));
          from = (let start = own-table.3.start in let first = advances.first in let next = next-is in omega (arith, start, first, next));
          to = (let next = next-is in omega (arith, next, size));
        } in
        let fresh : IsKnown p id → ⊥ = λ was. (let high = was.to in let next = next-is in let size = many in absurd (omega (arith, high, next, size))) in
        record {
          entry = has;
          known = known;
          found = record { schema = s; newest = t.newest };
          is_found = found-still (actor_of own) f after p q advances (record { schema = s; newest = t.newest }) is_try.found;
          is_table = subst (IsTableOf s) (sym now) refl;
          next = id-is;
          stood = subst (λ (g : Files). BearsAdded g s t.newest own.author e) (sym (advances.stood id known fresh)) adds.added;
        }

    published-makes : (later : Past) × MakesOwn own e f p after later × HasCommitted own.author e id later × IsNext later
    published-makes =
        let q = later_past p s entries e after adds.runs in
        let change = commits s entries e t.made.text newest-there bound absent-next puts adds.follows adds.commit adds.names in
        let advances : Advances (actor_of own) f p after q =
        append-advances one same paths (actor_of own) f after p s entries e t.made.text stands (plain_names s tried.declared) own-table.1 known.unnamed newest-there bound
        puts adds.names adds.runs adds.goes change in (
          q,
          record {
            advances = advances;
            appends = inr (s, entries, own-table.1, refl);
            adds = adds-one (actor_of own) (path_after p.history) f after (snapshot_path (suc (length entries))) t.made.text absent-next
                (inr (ap (λ (n : ℕ). snapshot_path (suc n)) (sym many))) puts;
            consumers = λ name. refl;
          },
          committed q advances refl (s, entries, [], refl, (let next = next-is in omega (arith, next))),
          (
            ap (with_entry e) (sym own-table.1),
            (let next = next-is in let size = many in omega (arith, next, size)),
          ),
        )

  -- what it is to publish appears, after what has to stand
  publish-makes-own : (after : Files) → IsSome (map.get f x.after) → map.get f x.path ≡ None → Puts f x.path (Some x.bytes) after
      → (later : Past) × MakesOwn own e f p after later × HasCommitted own.author e id later × IsNext later
  publish-makes-own after there absent puts =
      published-makes after (subst (λ (y : Publishing). map.get f y.path ≡ None) last-is absent)
      (subst (λ (y : Publishing). IsSome (map.get f y.after)) last-is there)
      (subst (λ (y : Publishing). Puts f y.path (Some y.bytes) after) last-is puts)

  pub publish-makes : (after : Files) → put.Makes (putters.Publish x) f after → (later : Past) × MakesOwn own e f p after later
  publish-makes after (inl same) = (p, own-same own e f after p same)
  publish-makes after (inr (there, (absent, puts))) = let all = publish-makes-own after there absent puts in (all.0, all.1)

  -- and that is answered
  pub published-whole : Answers (publish_call x) (answers.Published published.Created) f
      → (later : Past) × MakesOwn own e f p (carried (publish_call x) f) later × HasCommitted own.author e id later × IsNext later
  published-whole told =
      publish-makes-own (carried (publish_call x) f) (published_there (map.get f x.path) (map.get f x.after) told)
      (published_absent (map.get f x.path) (map.get f x.after) told)
      (Answers-Changed (publish_call x) (answers.Published published.Created) f told)

  -- what is there then of a compaction
  pub compacted-whole : (plan : Plan) → own.intent ≡ intents.Compact plan → Answers (publish_call x) (answers.Published published.Created) f
      → HasCompacted (carried (publish_call x) f) s t.newest own.author plan
  compacted-whole plan is told =
      let after : Files = carried (publish_call x) f in
      plan-compacts after
      (subst (λ (y : Publishing). map.get f y.path ≡ None) last-is (published_absent (map.get f x.path) (map.get f x.after) told))
      (subst (λ (y : Publishing). IsSome (map.get f y.after)) last-is (published_there (map.get f x.path) (map.get f x.after) told))
      (subst (λ (y : Publishing). Puts f y.path (Some y.bytes) after) last-is (Answers-Changed (publish_call x) (answers.Published published.Created) f told))
      plan is
