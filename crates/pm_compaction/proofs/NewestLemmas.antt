-- The newest snapshot that a compaction finds, and the groups' runs there.
use Rattle.std.proofs.Common.{◌≡◌, inl, inr, ℕ, zero, suc, ◌≤◌, List, map, length, take, Option, None, Some, IsSome, refl, sym, ap, subst, ◌∙◌, arith}
use Rattle.std.specs.FinMap as finite
use Rattle.std.proofs.lemmas.List.{take_all}
use Rattle.pm_store.specs.Files.{Files}
use Rattle.pm_values.specs.declared.group.Group.{Group}
use Rattle.pm_model_history.specs.History.{Entry, History, table}
use Rattle.pm_schema.specs.declared.schema.TableSchema.{TableSchema}
use Rattle.pm_snapshot.specs.declared.snapshot.Snapshot.{Snapshot}
use Rattle.pm_levels.specs.Runs.{RunView}
use Rattle.pm_model_contents.specs.Named.{Contents, HasContents}
use Rattle.pm_model_contents.specs.Runs.{AreRunsOf}
use Rattle.pm_model_folder.specs.Commits.{HasCommit, IsCommitted, live_in}
use Rattle.pm_model_folder.specs.Entries.{AreLive}
use Rattle.pm_model_folder.specs.Folder.{HasTable, IsFrom}
use Rattle.pm_model_folder.specs.Ledger.{IsKnown, KnowsPast, KnowsTable, Past, Stands}
use Rattle.pm_model_folder.specs.Meaning.{HasSnapshotAt, SnapshotAt}
use Rattle.pm_model_folder.specs.Paths.{snapshot_path}
use Rattle.pm_model_folder.specs.Runs.{AreInFiles, view_of}
use Rattle.pm_model_folder.specs.Stored.{AreNumberedApart, HasGroup}
use Rattle.pm_model_folder.proofs.HoldLemmas.{OneContents, SameContents, one-commit}
use Rattle.pm_model_folder.proofs.LedgerFacts.{count-is}
use Rattle.pm_made.specs.Commit.{IsFoundAs, IsNewestOf}
use Rattle.pm_made.specs.Snapshot.{appends_of}
use Rattle.pm_made.specs.declared.newest.Newest.{Newest}
use Rattle.pm_made.proofs.StandLemmas.{OneRuns, newest-runs, numbered-too}
use Rattle.pm_compaction.proofs.BaseLemmas.{RunsThere, runs-there}

module _ (one : OneContents) (same : SameContents) (one_runs : OneRuns) (f : Files) (p : Past) (s : TableSchema) (entries : List Entry) (newest : Newest)
    (stands : Stands f p) (was : p.history ≡ table s entries) (folder : HasTable f s entries) (is : IsNewestOf f s entries newest) (some : 1 ≤ length entries) where
  abbrev k : ℕ
  k = length entries

  pub known : KnowsTable f s entries p
  known = subst (λ (h : History). KnowsPast f h p) was stands.past

  pub record FoundNewest : Type 0 where
    pub snapshot : Snapshot
    pub contents : Contents
    pub commit : HasCommit f s (length entries) snapshot contents
    pub live : AreLive (live_in contents) newest.live.items

  pub found-of : (o : Option Snapshot) → IsFoundAs f s newest o → FoundNewest
  found-of None (zero_id, no_manifests, no_live) = absurd (let id = is.id in omega (arith, some, id, zero_id))
  found-of (Some x) (c, commit, are, live) = record { snapshot = x; contents = c; commit = subst (λ (n : ℕ). HasCommit f s n x c) is.id commit; live = live }

  -- it has as many appends
  pub found-appends : (o : Option Snapshot) → (h : IsFoundAs f s newest o) → (found-of o h).snapshot.appends ≡ appends_of o
  unfolding found-of
  found-appends None (zero_id, no_manifests, no_live) = absurd (let id = is.id in omega (arith, some, id, zero_id))
  found-appends (Some x) (c, commit, are, live) = refl

  abbrev pub found : FoundNewest
  found = found-of newest.snapshot is.found

  there : HasSnapshotAt f s k
  there = at k refl
    where
      at : (n : ℕ) → k ≡ n → HasSnapshotAt f s n
      at zero none = absurd (omega (arith, some, none))
      at (suc n) is = subst (λ (o : Option (List ℕ)). IsSome o) (sym (ap (λ (n : ℕ). finite.get f (snapshot_path n)) (sym is) ∙ found.commit.0.1)) refl

  known-newest : IsKnown p k
  known-newest = record {
    after_origin = some;
    from = known.reaches k some (omega arith) there;
    to = (let many = count-is p s entries was in omega (arith, many));
  }

  -- it stood as it is
  pub stood : HasCommit (p.stood k) s k found.snapshot found.contents
  stood =
      let cm : IsCommitted (p.stood k) s (take k entries) k = known.committed k known-newest in
      let kept = (known.kept k known-newest).there there in
      let at : SnapshotAt f k cm.snapshot = (cm.there.0, kept (snapshot_path k) (inl refl) ∙ cm.there.1, cm.there.2) in
      let has : HasContents f s cm.snapshot cm.contents =
      same (p.stood k) f s cm.snapshot cm.contents (λ path named. kept path (inr (inr (cm.snapshot, cm.contents, (cm.there, cm.has), named)))) cm.has in
      let both = one-commit one f s k cm.snapshot found.snapshot cm.contents found.contents (at, has) found.commit in
      subst (λ (c : Contents). HasCommit (p.stood k) s k found.snapshot c) both.1
      (subst (λ (x : Snapshot). HasCommit (p.stood k) s k x cm.contents) both.0 (cm.there, cm.has))

  -- the runs there are those of its files
  pub old-runs : (g : Group) → AreInFiles f s (length entries) g (p.runs (length entries) g)
  old-runs = newest-runs f p s entries known was same there

  pub own-runs : (g : Group) → AreRunsOf (live_in found.contents) g (map view_of (p.runs (length entries) g))
  own-runs g =
      let at : RunsThere f s k g (map view_of (p.runs k g)) = runs-there f s k g (map view_of (p.runs k g)) some (old-runs g).are in
      let both = one-commit one f s k at.snapshot found.snapshot at.contents found.contents at.commit found.commit in
      subst (λ (c : Contents). AreRunsOf (live_in c) g (map view_of (p.runs k g))) both.1 at.own

  -- the group as the folder has it
  has : (g : Group) → HasGroup f s entries k (live_in found.contents) g
  has g =
      let from : IsFrom folder.snapshots.least k k = record { after_origin = some; from = folder.snapshots.some; to = omega arith } in
      let cm : IsCommitted f s entries k = subst (λ (es : List Entry). IsCommitted f s es k) (take_all k entries (omega arith)) (folder.commits.committed k from) in
      let both = one-commit one f s k cm.snapshot found.snapshot cm.contents found.contents (cm.there, cm.has) found.commit in
      subst (λ (c : Contents). HasGroup f s entries k (live_in c) g) both.1 (cm.groups g)

  pub own-numbered : (g : Group) (runs : List RunView) (own : AreRunsOf (live_in found.contents) g runs) → AreNumberedApart own.files
  own-numbered g runs own = let was = has g in numbered-too one_runs (live_in found.contents) g was.runs runs was.own own was.numbered
