-- A try that has what was made adds its entry, where its groups and its changelog hold.
use Rattle.std.proofs.Common.{◌≡◌, ◌⊎◌, inl, inr, ℕ, ℤ, pos, negsuc, zero, suc, ◌+◌, ◌-◌, ◌<◌, ◌≤◌, List, [], ◌∷◌, ◌++◌, length, take, Option, None, Some, refl, sym, ap, subst, ◌∙◌, arith}
use Rattle.std.specs.Prelude.{slice_get}
use Rattle.std.specs.FinMap as finite
use Rattle.std.proofs.lemmas.List.{take_all}
use Rattle.pm_store.specs.Files.{Files, Puts}
use Rattle.pm_values.specs.declared.group.Group.{Group}
use Rattle.pm_model_history.specs.History.{Entry}
use Rattle.pm_schema.specs.declared.schema.TableSchema.{TableSchema}
use Rattle.pm_snapshot.specs.declared.snapshot.Snapshot.{Snapshot}
use Rattle.pm_manifest.specs.declared.entry.Entry as files
use Rattle.pm_model_contents.specs.Named.{Contents, IsNamed}
use Rattle.pm_model_folder.specs.Changes.{Actor}
use Rattle.pm_model_folder.specs.Commits.{BeginsOn, CountsAppends, FollowsOn, HasCommit, IsCommit, IsCommitted, IsFresh, Names, live_in}
use Rattle.pm_model_folder.specs.Entries.{BearsCounts, BearsEntry, appends_in, entry_at, fence_at, rows_in_files}
use Rattle.pm_model_folder.specs.Folder.{IsFrom}
use Rattle.pm_model_folder.specs.Meaning.{HasSnapshotAt, SnapshotAt}
use Rattle.pm_model_folder.specs.Paths.{snapshot_path}
use Rattle.pm_model_folder.specs.Stored.{HasGroup, HoldsChange}
use Rattle.pm_model_folder.proofs.Facts.{same-or-other}
use Rattle.pm_model_folder.proofs.HoldLemmas.{Holds, commit-held, names-held, names-were, one-commit, one-snapshot}
use Rattle.pm_made.specs.Commit.{Attempt, IsAsMade, IsReady, snapshot_of}
use Rattle.pm_made.specs.Delta.{entries_of, left_of}
use Rattle.pm_made.specs.Files.{IsMadeOf}
use Rattle.pm_made.specs.Refusals.{fence_of}
use Rattle.pm_made.specs.Snapshot.{appends_of}
use Rattle.pm_made.proofs.IntentLemmas.{bears-entry, bears-fence, counts-on}
use Rattle.pm_made.proofs.MadeLemmas.{IsMade, PathFacts, made-fresh, maker_of}
use Rattle.pm_made.proofs.NamedLemmas.{fence-below, names-or}
use Rattle.pm_made.proofs.OldLemmas.{Old, SnapshotFacts, no-entries, old-of, puts-holds}

slice-last : {X : Type 0} (xs : List X) (x : X) → slice_get (xs ++ x ∷ []) (length xs) ≡ Some x
slice-last [] x = refl
slice-last (y ∷ xs) x = slice-last xs x

module _ (facts : SnapshotFacts) (paths : PathFacts) (me : Actor) (f after : Files) (s : TableSchema) (entries : List Entry) (e : Entry)
    (t : Attempt) (ready : IsReady me f s entries e t) (absent : finite.get f (snapshot_path (suc (length entries))) ≡ None)
    (puts : Puts f (snapshot_path (suc (length entries))) (Some t.made.text) after) (stands : IsAsMade after s (suc (length entries)) t ready.made) where
  abbrev k : ℕ
  k = length entries

  abbrev later : List Entry
  later = entries ++ e ∷ []

  abbrev made : IsMadeOf s t.newest t.author t.intent t.names t.made
  made = ready.made

  abbrev old : Old facts f s entries ready.folder t.newest ready.newest.id t.newest.snapshot
  old = old-of facts f s entries ready.folder t.newest ready.newest.id t.newest.snapshot ready.newest.found

  abbrev y : Snapshot
  y = snapshot_of s t made

  holds : Holds f after
  holds = puts-holds f after (snapshot_path (suc (length entries))) (Some t.made.text) absent puts

  -- ---- the snapshot

  later-entry : entry_at later (suc k) ≡ Some e
  later-entry = ap (slice_get later) (let same : suc k - 1 ≡ k = omega arith in same) ∙ slice-last entries e

  counts : BearsCounts after s y stands.contents (live_in stands.contents)
  counts = record {
    live_entries = left_of made.delta.removed t.newest.live.items ++ made.delta.added;
    are_live = stands.live;
    total = refl;
    delta_entries = entries_of made.delta;
    have = stands.entries;
    delta = refl;
    changelog = ap (λ (es : List files.Entry). pos (rows_in_files es)) (sym stands.changes);
  }

  committed : ((g : Group) → HasGroup after s later (suc k) (live_in stands.contents) g) → HoldsChange after s later (suc k) stands.contents.changes
      → IsCommitted after s later (suc k)
  committed groups changes = record {
    snapshot = y;
    there = stands.commit.0;
    contents = stands.contents;
    has = stands.commit.1;
    entry = subst (λ (o : Option Entry). BearsEntry o y) (sym later-entry) (bears-entry t.author e t.intent y ready.means refl refl refl);
    schema = refl;
    fence = bears-fence t.author e entries t.newest.snapshot t.intent ready.means ready.may_raise old.fence;
    counts = counts;
    groups = groups;
    changes = changes;
  }

  -- it counts the appends on from the newest
  appends : CountsAppends f after k e
  appends = at k refl
    where
      own : (m : ℕ) (z : Snapshot) → k ≡ m → SnapshotAt after (suc m) z → appends_of t.newest.snapshot + appends_in e ≡ z.appends
      own m z is there =
          sym (counts-on t.author e t.newest.snapshot t.intent ready.means)
          ∙ ap (λ (x : Snapshot). x.appends) (one-snapshot after (suc k) y z stands.commit.0 (subst (λ (m : ℕ). SnapshotAt after (suc m) z) (sym is) there))

      at : (m : ℕ) → k ≡ m → CountsAppends f after m e
      at zero is = λ z new. let one = own zero z is new in let none = old.no_appends is in omega (arith, one, none)
      at (suc m) is = λ x z here new.
          let one = own (suc m) z is new in
          let was = old.appends x (omega (arith, is)) (subst (λ (m : ℕ). SnapshotAt f m x) (sym is) here) in
          omega (arith, one, was)

  -- ---- what it names

  named : (path : List ℕ) → Names after s (suc k) path → ((1 ≤ k) × Names f s k path) ⊎ IsMade me t.author.base path
  named = names-or facts me f after s entries e t ready stands

  fresh : (path : List ℕ) → IsMade me t.author.base path → IsFresh (maker_of me) (fence_of t.newest.snapshot) path
  fresh path is = made-fresh paths me t.author.base (fence_of t.newest.snapshot) path is (fence-below facts me f after s entries e t ready stands)

  -- the first snapshot after the origin
  first-begins : k ≡ 0 → BeginsOn after s
  first-begins none x c commit = (
    maker_of me,
    λ path is. elim (named path (x, c, subst (λ (i : ℕ). HasCommit after s (suc i) x c) (sym none) commit, is)) as (λ _. IsFresh (maker_of me) (negsuc 0) path) [
      | inl was ↦ absurd (let some = was.0 in omega (arith, some, none))
      | inr own ↦ subst (λ (fence : ℤ). IsFresh (maker_of me) fence path) no-fence (fresh path own)
    ],
  )
    where
      no-fence : fence_of t.newest.snapshot ≡ negsuc 0
      no-fence = old.fence ∙ ap (λ (es : List Entry). fence_at es (length es)) (no-entries entries none)

  -- one that follows another
  from-k : 1 ≤ k → IsFrom ready.folder.snapshots.least k k
  from-k some = record { after_origin = some; from = ready.folder.snapshots.some; to = omega arith }

  committed-k : 1 ≤ k → IsCommitted f s (take k entries) k
  committed-k some = ready.folder.commits.committed k (from-k some)

  follows : 1 ≤ k → FollowsOn after s k
  follows some x z c d commit next = record {
    maker = maker_of me;
    fresh = λ path is other.
        elim (named path (z, d, subst (λ (i : ℕ). HasCommit after s i z d) (let more : k + 1 ≡ suc k = omega arith in more) next, is)) as
        (λ _. IsFresh (maker_of me) x.fence path) [
          | inl was ↦ absurd (other (named-here path was.1))
          | inr own ↦ subst (λ (fence : ℤ). IsFresh (maker_of me) fence path) fence-is (fresh path own)
        ];
  }
    where
      cm : IsCommitted f s (take k entries) k
      cm = committed-k some

      held : HasCommit after s k cm.snapshot cm.contents
      held = commit-held f after holds s facts.contents_stay k cm.snapshot cm.contents (cm.there, cm.has)

      both : (cm.snapshot ≡ x) × (cm.contents ≡ c)
      both = one-commit facts.one_contents after s k cm.snapshot x cm.contents c held commit

      named-here : (path : List ℕ) → Names f s k path → IsNamed s x c path
      named-here path named =
          let (u, v, other, is) = names-held f after holds s facts.contents_stay k path named in
          let same = one-commit facts.one_contents after s k u x v c other commit in
          subst (λ (x : Snapshot). IsNamed s x c path) same.0 (subst (λ (c : Contents). IsNamed s u c path) same.1 is)

      fence-is : fence_of t.newest.snapshot ≡ x.fence
      fence-is = old.fence ∙ ap (λ (es : List Entry). fence_at es k) (sym (take_all k entries (omega arith))) ∙ sym cm.fence ∙ ap (λ (x : Snapshot). x.fence) both.0

  -- a path that left doesn't return
  never-returns : (early middle : ℕ) (path : List ℕ) → 1 ≤ early → HasSnapshotAt f s early → early < middle → middle ≤ k → Names after s early path
      → Names after s (suc k) path → Names after s middle path
  never-returns early middle path least there low top here last = elim (named path last) as (λ _. Names after s middle path) [
    | inl was ↦ elim (same-or-other middle k) as (λ _. Names after s middle path) [
      | inl same ↦ subst (λ (i : ℕ). Names after s i path) (sym same) (names-held f after holds s facts.contents_stay k path was.1)
      | inr other ↦ names-held f after holds s facts.contents_stay middle path
          (ready.folder.commits.gone early from-early early middle k path (omega arith) low (let apart = other in grind (arith)) (omega arith) named-early was.1)
    ]
    | inr own ↦ absurd (ready.unnamed early path least (omega (arith, low, top)) named-early own.by)
  ]
    where
      from-early : IsFrom ready.folder.snapshots.least k early
      from-early = record {
        after_origin = least;
        from = ((ready.folder.snapshots.exact early (let most = ready.folder.snapshots.within in omega (arith, low, top, most))).0 there).0;
        to = omega (arith, low, top);
      }

      named-early : Names f s early path
      named-early = names-were facts.one_contents facts.contents_stay f after holds s (take early entries) early path
          (ready.folder.commits.committed early from-early) here

  pub commits : ((g : Group) → HasGroup after s later (suc k) (live_in stands.contents) g) → HoldsChange after s later (suc k) stands.contents.changes
      → IsCommit f after s entries e
  commits groups changes = record {
    committed = committed groups changes;
    appends = appends;
    begins = first-begins;
    next = follows;
    gone = never-returns;
  }
