-- What a compactor knows once its view is ready: of each group that is chosen, its runs there.
use Rattle.std.proofs.Common.{◌≡◌, ◌≢◌, ℕ, zero, suc, ◌≤◌, All, List, [], ◌∷◌, ◌++◌, append-nil, drop, map, reverse, take, cond, Option, None, Some, refl, sym, ap, subst, ◌∙◌, arith}
use Rattle.std.specs.BTreeMap.{is_at}
use Rattle.std.specs.Cmp.{tied_itself}
use Rattle.std.specs.List.{AllByRecursion}
use Rattle.std.specs.List.Sorted.{IsStrictlySortedBy}
use Rattle.std.specs.Map.{lookup}
use Rattle.std.specs.Ordering.{is_eq}
use Rattle.std.proofs.lemmas.List.Elements.{All-from_recursion}
use Rattle.std.proofs.lemmas.List.Sorted.{All-permutation, IsPermutation-reverse}
use Rattle.pm_base.proofs.Laws.{AllByRecursion-append}
use Rattle.pm_store.specs.Files.{Files}
use Rattle.pm_values.specs.GroupOrder.{group_cmp, group_total}
use Rattle.pm_values.specs.declared.group.Group.{Group}
use Rattle.pm_options.specs.declared.kinds.Producer.{Producer}
use Rattle.pm_options.specs.declared.kinds.Producer.TheVariants as producers
use Rattle.pm_schema.specs.Again.{IsDeclared}
use Rattle.pm_schema.specs.declared.schema.TableSchema.{TableSchema}
use Rattle.pm_model_history.specs.History.{Entry, IsTableOf}
use Rattle.pm_engine.specs.Covers.{IsRising, Run}
use Rattle.pm_engine.specs.OfSchema.{meaning_of}
use Rattle.pm_merge.specs.Merge.{AreStored}
use Rattle.pm_snapshot.specs.Names.{MayName}
use Rattle.pm_snapshot.specs.declared.snapshot.Snapshot.{Snapshot}
use Rattle.pm_levels.specs.Picking.{picked, top_of}
use Rattle.pm_levels.specs.Runs.{RunView}
use Rattle.pm_levels.specs.Sizes.{size_of}
use Rattle.pm_levels.specs.declared.choice.Asked.{Asked}
use Rattle.pm_levels.specs.declared.choice.Pick.{Pick}
use Rattle.pm_levels.specs.declared.choice.PickRule.{PickRule}
use Rattle.pm_manifest.specs.Live.{Live}
use Rattle.pm_model_contents.specs.Groups.{GroupRuns}
use Rattle.pm_model_contents.specs.Named.{Contents, HasContents}
use Rattle.pm_model_contents.specs.Runs.{AreRunsOf}
use Rattle.pm_runs.specs.Succession.{AreKnownAt, KnownRun, from_oldest, without_files}
use Rattle.pm_model_folder.specs.Commits.{HasCommit, IsCommitted, live_in}
use Rattle.pm_model_folder.specs.Ledger.{IsKnown, KnowsTable, Past, Stands}
use Rattle.pm_model_folder.specs.Meaning.{SnapshotAt}
use Rattle.pm_model_folder.specs.Runs.{AreInFiles, AreRunsAt, view_of}
use Rattle.pm_model_folder.specs.Stored.{HasRun}
use Rattle.pm_model_folder.proofs.HoldLemmas.{one-snapshot}
use Rattle.pm_model_folder.proofs.LedgerFacts.{at-table, count-is}
use Rattle.pm_read_table.specs.Meaning.{IsViewIn, view_origin, view_snapshot}
use Rattle.pm_read_table.specs.View.{runs_at}
use Rattle.pm_read_table.specs.declared.view.View.{View}
use Rattle.pm_group_files.specs.Chosen.{chosen_of as asked_of}
use Rattle.pm_group_files.specs.Jobs.{Grouped, Wanted, whole_group}
use Rattle.pm_group_files.specs.Meaning.{IsChosen as IsAsked, IsTableView, StoodAt}
use Rattle.pm_group_files.proofs.ViewLemmas.{IsOfSnapshot, OneContents, OneRuns, each-found, of-snapshot, same-live}
use Rattle.pm_choice.specs.Choice.{chosen_of, choices, group_of, looked_by, of_pick, taken_runs, HaveLevels, IsChosen}
use Rattle.pm_choice.specs.Question.{rule_of}
use Rattle.pm_choice.specs.declared.choice.ChosenGroup.{ChosenGroup}
use Rattle.pm_commit.specs.Committer.{newest_in}
use Rattle.pm_commit.proofs.KnownLemmas.{count-bound}
use Rattle.pm_plan.specs.Known.{AreStoredRuns, MayBegin}
use Rattle.pm_plan.specs.declared.planned.Asking.{Asking}
use Rattle.pm_compactor.specs.Compactor.{actor_of, asked_of_view, chosen_in, wanted_groups, wanted_of}

-- what the laws of views and of choices say
pub record ViewLaws : Type 0 where
  pub one : OneContents
  pub runs : OneRuns
  pub view : (f : Files) (p : Past) (v : View) (g : Group) (runs : List RunView) → Stands f p → IsTableView p v → runs_at v g ≡ Some runs
      → IsKnown p v.id × StoodAt p v.schema v.id (whole_group (g, runs))
  pub newest : (p : Past) (s : TableSchema) (id : ℕ) (g : Group) (runs : List RunView) (n : ℕ) → StoodAt p s id (whole_group (g, runs)) → 1 ≤ n
      → StoodAt p s id (whole_group (g, take n runs))
  pub kept : (p : Past) (s : TableSchema) (id : ℕ) (w : Wanted) (n : ℕ) → StoodAt p s id (whole_group (w.group, w.runs)) → 1 ≤ n
      → StoodAt p s id (record w { runs = take n w.runs; kept = drop n w.runs })
  pub rising : (asked : Asked) (rule : PickRule) (groups : List (Group × List RunView)) → IsStrictlySortedBy group_cmp (map (λ e. e.0) groups)
      → IsStrictlySortedBy group_cmp (map group_of (choices asked rule groups))
  pub each : (asked : Asked) (rule : PickRule) (groups : List (Group × List RunView)) → 1 ≤ rule.trigger → 1 ≤ top_of rule
      → AllByRecursion (λ e. HaveLevels (top_of rule) e.1) groups → AllByRecursion (IsChosen rule) (choices asked rule groups)
  pub stored : (s : TableSchema) (g : Group) (entries : List Entry) (n : ℕ) (taken left : List KnownRun) → AreKnownAt s g entries n (taken ++ left)
      → All IsRising (from_oldest (taken ++ left)) → AreStored (meaning_of s) (from_oldest taken)

-- ---- lists

all-weaker : {X : Type 0} (P Q : X → Type 0) (xs : List X) → ((x : X) → P x → Q x) → AllByRecursion P xs → AllByRecursion Q xs
all-weaker P Q [] weaker all = tt
all-weaker P Q (x ∷ xs) weaker all = (weaker x all.0, all-weaker P Q xs weaker all.1)

all-map : {X Y : Type 0} (P : Y → Type 0) (f : X → Y) (xs : List X) → AllByRecursion (λ (x : X). P (f x)) xs → AllByRecursion P (map f xs)
all-map P f [] all = tt
all-map P f (x ∷ xs) all = (all.0, all-map P f xs all.1)

all-both : {X : Type 0} (P Q : X → Type 0) (xs : List X) → AllByRecursion P xs → AllByRecursion Q xs → AllByRecursion (λ (x : X). P x × Q x) xs
all-both P Q [] first second = tt
all-both P Q (x ∷ xs) first second = ((first.0, second.0), all-both P Q xs first.1 second.1)

-- ---- what is chosen are groups of the view, with their runs

picked-all : (P : Group → List RunView → Type 0) (rule : PickRule) (g : Group) (runs : List RunView) (o : Option Pick) → P g runs
    → AllByRecursion (λ (c : ChosenGroup). P c.group c.levels) (of_pick rule g runs o)
picked-all P rule g runs None is = tt
picked-all P rule g runs (Some pick) is = (is, tt)

chosen-all : (P : Group → List RunView → Type 0) (asked : Asked) (rule : PickRule) (groups : List (Group × List RunView))
    → AllByRecursion (λ (e : Group × List RunView). P e.0 e.1) groups → AllByRecursion (λ (c : ChosenGroup). P c.group c.levels) (choices asked rule groups)
chosen-all P asked rule [] all = tt
chosen-all P asked rule (e ∷ groups) all =
    AllByRecursion-append (λ (c : ChosenGroup). P c.group c.levels) (chosen_of asked rule e) (choices asked rule groups)
    (picked-all P rule e.0 e.1 (picked (map size_of e.1) asked rule) all.0) (chosen-all P asked rule groups all.1)

-- ---- a view of which a group is chosen is that of a snapshot

no-groups : (groups : List Grouped) → ((g : Group) → lookup (is_at (group_cmp g)) groups ≡ None) → groups ≡ []
no-groups [] none = refl
no-groups (e ∷ groups) none =
    let found : Some e.1 ≡ None = sym (ap (λ o. cond (is_eq o) (Some e.1) (lookup (is_at (group_cmp e.0)) groups)) (tied_itself group_total e.0)) ∙ none e.0 in
    cc

pub record IsSeenAt (p : Past) (v : View) : Type 0 where
  pub own : IsOfSnapshot p v
  pub snapshot : Snapshot
  pub is : v.snapshot ≡ Some snapshot
  pub stood : SnapshotAt (p.stood v.id) v.id snapshot

pub seen-at : (p : Past) (v : View) (asked : Asked) (rule : PickRule) → IsViewIn p v → choices asked rule v.groups.entries ≢ [] → IsSeenAt p v
seen-at p v asked rule (view_origin is) some = absurd (some (ap (choices asked rule) (no-groups v.groups.entries is.groups)))
seen-at p v asked rule (view_snapshot x base delta entries live stood has left is) some = record {
  own = of-snapshot p v x base delta entries live stood has left is;
  snapshot = x;
  is = is.snapshot;
  stood = subst (λ (k : ℕ). SnapshotAt (p.stood k) k x) (sym is.id) stood.was;
}

-- ---- the runs of its groups are those that are known

pub record RunsThere (f : Files) (s : TableSchema) (id : ℕ) (g : Group) (runs : List RunView) : Type 0 where
  pub snapshot : Snapshot
  pub contents : Contents
  pub commit : HasCommit f s id snapshot contents
  pub own : AreRunsOf (live_in contents) g runs

pub runs-there : (f : Files) (s : TableSchema) (id : ℕ) (g : Group) (runs : List RunView) → 1 ≤ id → AreRunsAt f s id g runs → RunsThere f s id g runs
runs-there f s zero g runs some are = absurd (omega (arith, some))
runs-there f s (suc id) g runs some (x, c, commit, own) = record { snapshot = x; contents = c; commit = commit; own = own }

-- the view of the snapshot has the files that were live there
pub known-live : OneContents → (f : Files) (p : Past) (v : View) → Stands f p → IsTableOf v.schema p.history → p.since ≤ v.id → (own : IsOfSnapshot p v) → (g : Group)
    → AreRunsOf own.live g (map view_of (p.runs v.id g))
known-live law f p v stands is since own g =
    let s : TableSchema = v.schema in
    let table = at-table f p s stands is in
    let known : KnowsTable f s table.0 p = table.3 in
    let to = own.known.to in
    let count = count-is p s table.0 table.1 in
    let in_files : AreInFiles (p.stood v.id) s v.id g (p.runs v.id g) = known.runs.stood v.id g since (omega (arith, to, count)) in
    let there = runs-there (p.stood v.id) s v.id g (map view_of (p.runs v.id g)) own.known.after_origin in_files.are in
    let commit : IsCommitted (p.stood v.id) s (take v.id table.0) v.id = known.committed v.id own.known in
    let one : there.snapshot ≡ commit.snapshot = one-snapshot (p.stood v.id) v.id there.snapshot commit.snapshot there.commit.0 commit.there in
    let contents : there.contents ≡ commit.contents =
    law (p.stood v.id) s commit.snapshot there.contents commit.contents
    (subst (λ (x : Snapshot). HasContents (p.stood v.id) s x there.contents) one there.commit.1) commit.has in
    let live : live_in there.contents ≡ own.live =
    ap live_in contents
    ∙ same-live law (p.stood v.id) s (take v.id table.0) v.id own.snapshot own.base own.delta own.es own.live commit own.there own.has own.left in
    subst (λ (l : Live). AreRunsOf l g (map view_of (p.runs v.id g))) live there.own

-- the runs of a group in a view are those that are known there
record HasKnown (p : Past) (v : View) (g : Group) (runs : List RunView) : Type 0 where
  same : runs ≡ map view_of (p.runs v.id g)
  levels : HaveLevels (top_of (rule_of v.schema)) runs
  stored : AreStoredRuns v.schema (p.runs v.id g)
  stood : StoodAt p v.schema v.id (whole_group (g, runs))

-- ---- they are of stored rows

rows-rise : (f : Files) (s : TableSchema) (g : Group) (runs : List KnownRun)
    → AllByRecursion (λ (run : KnownRun). HasRun f s g (view_of run) (without_files run)) runs → All IsRising (from_oldest runs)
rows-rise f s g runs hold =
    let rows : List Run = map (λ (run : KnownRun). run.rows) runs in
    All-permutation IsRising rows (reverse rows) (IsPermutation-reverse rows) (All-from_recursion IsRising rows (each runs hold))
  where
    each : (runs : List KnownRun) → AllByRecursion (λ (run : KnownRun). HasRun f s g (view_of run) (without_files run)) runs
        → AllByRecursion IsRising (map (λ (run : KnownRun). run.rows) runs)
    each [] hold = tt
    each (run ∷ runs) hold = (hold.0.rising, each runs hold.1)

rows-stored : ((s : TableSchema) (g : Group) (entries : List Entry) (n : ℕ) (taken left : List KnownRun) → AreKnownAt s g entries n (taken ++ left)
    → All IsRising (from_oldest (taken ++ left)) → AreStored (meaning_of s) (from_oldest taken))
    → (s : TableSchema) (g : Group) (entries : List Entry) (n : ℕ) (runs : List KnownRun) → AreKnownAt s g entries n runs → All IsRising (from_oldest runs)
    → AreStored (meaning_of s) (from_oldest runs)
rows-stored law s g entries n runs known rise =
    law s g entries n runs [] (subst (AreKnownAt s g entries n) (sym (append-nil runs)) known)
    (subst (λ (runs : List KnownRun). All IsRising (from_oldest runs)) (sym (append-nil runs)) rise)

module _ (laws : ViewLaws) (f : Files) (p : Past) (v : View) (stands : Stands f p) (is : IsTableView p v) (since : p.since ≤ v.id) (seen : IsSeenAt p v) where
  has-known : (g : Group) (runs : List RunView) → runs_at v g ≡ Some runs → HasKnown p v g runs
  has-known g runs found =
      let s : TableSchema = v.schema in
      let own = seen.own in
      let table = at-table f p s stands is.table in
      let known : KnowsTable f s table.0 p = table.3 in
      let to = own.known.to in
      let count = count-is p s table.0 table.1 in
      let mine : GroupRuns own.live g (Some runs) = subst (GroupRuns own.live g) found (own.groups g) in
      let same : runs ≡ map view_of (p.runs v.id g) =
      laws.runs own.live g runs (map view_of (p.runs v.id g)) mine.0 (known-live laws.one f p v stands is.table since own g) in
      let at : AreKnownAt s g table.0 v.id (p.runs v.id g) = (known.runs.succession g).known v.id since (omega (arith, to, count)) in
      record {
        same = same;
        levels = record {
          rise = mine.0.made.levels;
          within = subst (AllByRecursion (λ (run : RunView). run.level ≤ top_of (rule_of s))) (sym same)
              (all-map (λ (run : RunView). run.level ≤ top_of (rule_of s)) view_of (p.runs v.id g) at.levels);
        };
        stored = record {
          within = at.levels;
          stored = rows-stored laws.stored s g table.0 v.id (p.runs v.id g) at
              (rows-rise (p.stood v.id) s g (p.runs v.id g) (known.runs.stood v.id g since (omega (arith, to, count))).hold);
        };
        stood = (laws.view f p v g runs stands is found).1;
      }

  all-known : AllByRecursion (λ (e : Grouped). HasKnown p v e.0 e.1) v.groups.entries
  all-known = each-found (λ g runs. HasKnown p v g runs) v.groups.entries is.order has-known

  -- an actor may begin with those that are chosen
  pub may-begin : (asking : Asking) → MayName asking.names → IsDeclared v.schema → chosen_in asking v ≢ []
      → MayBegin (actor_of asking.names) p asking v.schema (newest_in v) (chosen_in asking v)
  may-begin asking may declared some =
      let most = count-bound f p v.schema stands is.table in
      let to = seen.own.known.to in
      let room = may.is_maker.count_bits in
      record {
        table = is.table;
        known = seen.own.known;
        since = since;
        snapshot = (seen.snapshot, seen.is, seen.stood);
        names = record {
          may = record {
            is_maker = record {
              sixteen = may.is_maker.sixteen;
              bytes = may.is_maker.bytes;
              actor_bits = may.is_maker.actor_bits;
              base_bits = omega (arith, most, to);
              count_bits = may.is_maker.count_bits;
            };
            actor_within = may.actor_within;
            base_within = omega (arith, most, to);
          };
          session = refl;
          actor = refl;
          based = refl;
          room = omega (arith, room);
        };
        some = some;
        rise = laws.rising (asked_of_view asking v) (rule_of v.schema) v.groups.entries is.order;
        each = laws.each (asked_of_view asking v) (rule_of v.schema) v.groups.entries
            (let trigger = declared.options.trigger.0 in omega (arith, trigger))
            (let levels = declared.options.levels.0 in omega (arith, levels))
            (all-weaker (λ (e : Grouped). HasKnown p v e.0 e.1) (λ e. HaveLevels (top_of (rule_of v.schema)) e.1) v.groups.entries (λ e known. known.levels) all-known);
        levels = chosen-all (λ g runs. runs ≡ map view_of (p.runs v.id g)) (asked_of_view asking v) (rule_of v.schema) v.groups.entries
            (all-weaker (λ (e : Grouped). HasKnown p v e.0 e.1) (λ (e : Grouped). e.1 ≡ map view_of (p.runs v.id e.0)) v.groups.entries (λ e known. known.same) all-known);
        stored = chosen-all (λ g runs. AreStoredRuns v.schema (p.runs v.id g)) (asked_of_view asking v) (rule_of v.schema) v.groups.entries
            (all-weaker (λ (e : Grouped). HasKnown p v e.0 e.1) (λ (e : Grouped). AreStoredRuns v.schema (p.runs v.id e.0)) v.groups.entries (λ e known. known.stored) all-known);
      }

  -- what is wanted of one that is chosen stood there: the runs that go, and with look-ups the files of those that stay
  wanted-stood : (q : Producer) (c : ChosenGroup) → StoodAt p v.schema v.id (whole_group (c.group, c.levels)) → IsChosen (rule_of v.schema) c
      → StoodAt p v.schema v.id (record { group = c.group; runs = taken_runs c; kept = looked_by q c })
  wanted-stood producers.None c stood chosen = laws.newest p v.schema v.id c.group c.levels c.take stood chosen.choice.some
  wanted-stood producers.Input c stood chosen = laws.newest p v.schema v.id c.group c.levels c.take stood chosen.choice.some
  wanted-stood producers.Lookup c stood chosen =
      laws.kept p v.schema v.id (whole_group (c.group, c.levels)) c.take stood chosen.choice.some
  wanted-stood producers.FullCompaction c stood chosen = laws.newest p v.schema v.id c.group c.levels c.take stood chosen.choice.some

  -- what is wanted of them stood there
  pub taken-stood : (asking : Asking) → IsDeclared v.schema → IsAsked p (asked_of v.schema v.id (wanted_groups v.schema (chosen_in asking v)) [])
  taken-stood asking declared =
      let stood : AllByRecursion (λ (c : ChosenGroup). StoodAt p v.schema v.id (whole_group (c.group, c.levels))) (chosen_in asking v) =
      chosen-all (λ g runs. StoodAt p v.schema v.id (whole_group (g, runs))) (asked_of_view asking v) (rule_of v.schema) v.groups.entries
      (all-weaker (λ (e : Grouped). HasKnown p v e.0 e.1) (λ (e : Grouped). StoodAt p v.schema v.id (whole_group (e.0, e.1))) v.groups.entries (λ e known. known.stood) all-known) in
      let each : AllByRecursion (IsChosen (rule_of v.schema)) (chosen_in asking v) =
      laws.each (asked_of_view asking v) (rule_of v.schema) v.groups.entries
      (let trigger = declared.options.trigger.0 in omega (arith, trigger)) (let levels = declared.options.levels.0 in omega (arith, levels))
      (all-weaker (λ (e : Grouped). HasKnown p v e.0 e.1) (λ e. HaveLevels (top_of (rule_of v.schema)) e.1) v.groups.entries (λ e known. known.levels) all-known) in
      record {
        table = is.table;
        known = seen.own.known;
        each = all-map (StoodAt p v.schema v.id) (wanted_of v.schema) (chosen_in asking v)
            (all-weaker (λ (c : ChosenGroup). StoodAt p v.schema v.id (whole_group (c.group, c.levels)) × IsChosen (rule_of v.schema) c)
            (λ (c : ChosenGroup). StoodAt p v.schema v.id (wanted_of v.schema c)) (chosen_in asking v)
            (λ c both. wanted-stood v.schema.options.producer c both.0 both.1)
            (all-both (λ (c : ChosenGroup). StoodAt p v.schema v.id (whole_group (c.group, c.levels))) (IsChosen (rule_of v.schema)) (chosen_in asking v) stood each));
      }
