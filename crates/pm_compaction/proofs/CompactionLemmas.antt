-- A compaction that is ready and published adds its entry, and each group's runs go on.
use Rattle.std.proofs.Common.{◌≡◌, ◌≢◌, inl, inr, ℕ, pos, suc, ◌+◌, ◌≤◌, int_lt, Bool, true, false, true≢false, not, List, [], ◌∷◌, ◌++◌, map, length, Option, None, Some, IsSome, option_to_list, Contains, refl, sym, ap, subst, ◌∙◌, arith}
use Rattle.std.specs.FinMap as finite
use Rattle.std.specs.List.{AllByRecursion, flat_map}
use Rattle.std.specs.List.Sorted.{IsStrictlySortedBy}
use Rattle.std.proofs.lemmas.List.Elements.{Contains-append_left, Contains-append_right}
use Rattle.pm_base.proofs.Laws.{AllByRecursion-parts}
use Rattle.pm_store.specs.Files.{Files, Puts}
use Rattle.pm_values.specs.GroupOrder.{group_cmp}
use Rattle.pm_values.specs.Fits.{Fits}
use Rattle.pm_values.specs.Names.{Naming}
use Rattle.pm_values.specs.declared.file_meta.FileMeta.{FileMeta}
use Rattle.pm_values.specs.declared.group.Group.{Group}
use Rattle.pm_values.specs.declared.record.Stamped.{Stamped}
use Rattle.pm_model_history.specs.History.{Entry, IsTableOf, compaction, entry_rows, table}
use Rattle.pm_model_history.specs.Merge.{AllFit, HistoryRow}
use Rattle.pm_model_following.specs.Following.{HaveBases, base_of, change}
use Rattle.pm_model_following.specs.Groups.{rows_in}
use Rattle.pm_schema.specs.Rules.{partition_holds}
use Rattle.pm_schema.specs.declared.schema.TableSchema.{TableSchema}
use Rattle.pm_model_changelog.specs.Log.{compaction_log}
use Rattle.pm_run.specs.declared.run.RunFile.{RunFile}
use Rattle.pm_levels.specs.Runs.{files_of}
use Rattle.pm_manifest.specs.Live.{Live}
use Rattle.pm_manifest.specs.declared.entry.Entry as files
use Rattle.pm_manifest.specs.declared.entry.ManifestMeta.{ManifestMeta}
use Rattle.pm_model_contents.specs.Lists.{HaveEntries}
use Rattle.pm_model_folder.specs.Changes.{Actor}
use Rattle.pm_model_folder.specs.Commits.{HasCommit, IsCommit, live_in}
use Rattle.pm_model_folder.specs.Entries.{AreLive, fence_at}
use Rattle.pm_model_folder.specs.Folder.{IsEntryAfter, IsRowOf}
use Rattle.pm_model_folder.specs.Ledger.{HasNamedNone, KnowsTable, Past, Stands, count_of}
use Rattle.pm_model_folder.specs.Paths.{snapshot_path}
use Rattle.pm_model_folder.specs.Runs.{view_of}
use Rattle.pm_model_folder.specs.Stored.{HasFile, HoldChanges, HoldsChange, entries_in}
use Rattle.pm_model_folder.proofs.Facts.{rows-append}
use Rattle.pm_model_folder.proofs.HoldLemmas.{Holds, OneContents, SameContents}
use Rattle.pm_model_folder.proofs.LedgerFacts.{count-is, is-table}
use Rattle.pm_model_folder.proofs.RunFacts.{hold-held}
use Rattle.pm_put.specs.Meaning.{IsPut}
use Rattle.pm_put.specs.declared.putting.CommitFile.{CommitFile}
use Rattle.pm_runs.specs.Stand.{top_of}
use Rattle.pm_runs.specs.Succession.{IsTaken, KnownRun, StillStands, unchanged}
use Rattle.pm_compact.specs.Made.{metas_of}
use Rattle.pm_choice.specs.Choice.{live_entry}
use Rattle.pm_made.specs.Commit.{Attempt, IsAsMade, IsReady}
use Rattle.pm_made.specs.Delta.{Delta, adding, entries_of, is_of_any, left_of}
use Rattle.pm_made.specs.Files.{HasBase, HasManifest, delta_of_plan, kept, merged, merges, no_manifest, one_manifest}
use Rattle.pm_made.specs.Intent.{IsEntryFor, removed_of}
use Rattle.pm_made.specs.Refusals.{first_not_live}
use Rattle.pm_made.specs.Snapshot.{new_snapshot}
use Rattle.pm_made.specs.declared.intent.Intent.{Intent}
use Rattle.pm_made.specs.declared.intent.Intent.TheVariants as intents
use Rattle.pm_made.specs.declared.intent.Plan.{Plan}
use Rattle.pm_made.specs.declared.newest.Newest.{Newest}
use Rattle.pm_made.proofs.AllowedLemmas.{allowed-of}
use Rattle.pm_made.proofs.CommitLaws.{CommitLaw}
use Rattle.pm_made.proofs.ListLemmas.{all-of, all-weaker, each-of, in-map, map-in, none-found}
use Rattle.pm_made.proofs.ListedLemmas.{unlisted}
use Rattle.pm_made.proofs.OldLemmas.{puts-holds}
use Rattle.pm_made.proofs.StandLemmas.{GroupAfter, OneRuns, SuccessionGoesOn, group-stands}
use Rattle.pm_compaction.specs.Compacted.{GoesOnWith, HasCompacted}
use Rattle.pm_compaction.specs.Plan.{IsRewrittenAt, IsToldAt, KnowsPlan, RewrittenGroup, ToldGroup, comes_of, goes_of, group_file, made_files, named_group, tells_of, told_files}
use Rattle.pm_compaction.proofs.ChangeLemmas.{ChangeFacts, other-part, own-part}
use Rattle.pm_compaction.proofs.DeltaLemmas.{IsDeltaFor, delta-for}
use Rattle.pm_compaction.proofs.GroupLemmas.{GroupsTie, named-base, one-group, other-base, part-base, rising, which, whole-base, group_in}
use Rattle.pm_compaction.proofs.ListLemmas.{flat-in, in-flat}
use Rattle.pm_compaction.proofs.LiveLemmas.{same-runs}
use Rattle.pm_compaction.proofs.NewestLemmas.{FoundNewest, found, known, old-runs, own-numbered, own-runs, stood}
use Rattle.pm_compaction.proofs.ReplacedLemmas.{GroupFacts, group-after, no-above}
use Rattle.pm_compaction.proofs.RewrittenLemmas.{StillHolds, live-files, took-there}
use Rattle.pm_compaction.proofs.ToldLemmas.{LogFacts, adding-told, file-there, holds-told, none-in, rewritten-of, told-in, told-of, told-rising, told_in}

-- what the laws of lower crates say
pub record Facts : Type 0 where
  pub groups : GroupFacts
  pub tie : GroupsTie
  pub one_contents : OneContents
  pub same_contents : SameContents
  pub one_runs : OneRuns
  pub still : StillHolds
  pub goes_on : SuccessionGoesOn
  pub change : ChangeFacts
  pub log : LogFacts
  pub commit : CommitLaw

-- ---- the base list

base-kept : (s : TableSchema) (newest : Newest) (names left : Naming) (metas : List ManifestMeta) (made : List CommitFile) → HasBase s newest names metas made left
    → merges s newest.manifests.items ≡ false → metas ≡ newest.manifests.items
base-kept s newest names _ _ _ (kept few) none = refl
base-kept s newest names _ _ _ (merged metas made left enough has) none = absurd (true≢false (sym enough ∙ none))

one-manifest : (s : TableSchema) (names left : Naming) (es : List files.Entry) (metas : List ManifestMeta) (made : List CommitFile) → HasManifest s names es metas made left
    → length metas ≤ 1
one-manifest s names _ es _ _ (no_manifest none) = omega arith
one-manifest s names _ es _ _ (one_manifest m file some is) = omega arith

base-merged : (s : TableSchema) (newest : Newest) (names left : Naming) (metas : List ManifestMeta) (made : List CommitFile) → HasBase s newest names metas made left
    → merges s newest.manifests.items ≡ true → length metas ≤ 1
base-merged s newest names _ _ _ (kept few) enough = absurd (true≢false (sym enough ∙ few))
base-merged s newest names _ _ _ (merged metas made left many has) enough = one-manifest s names left newest.live.items metas made has

some-named : (x : RewrittenGroup) (xs : List RewrittenGroup) → map named_group (x ∷ xs) ≡ [] → ⊥
some-named x xs is = cc

not-true : (b : Bool) → not b ≡ false → b ≡ true
not-true true is = refl
not-true false is = absurd (true≢false is)

module _ (facts : Facts) (me : Actor) (f after : Files) (p : Past) (s : TableSchema) (entries : List Entry) (e : Entry) (t : Attempt) (plan : Plan)
    (given : List CommitFile) (stands : Stands f p) (was : p.history ≡ table s entries) (none : HasNamedNone me p)
    (knows : KnowsPlan me s t.author.base plan given p) (put : AllByRecursion (IsPut f) given) (is : t.intent ≡ intents.Compact plan)
    (ready : IsReady me f s entries e t) (absent : finite.get f (snapshot_path (suc (length entries))) ≡ None)
    (puts : Puts f (snapshot_path (suc (length entries))) (Some t.made.text) after) (made : IsAsMade after s (suc (length entries)) t ready.made)
    (above : int_lt (fence_at entries (length entries)) (pos t.author.base) ≡ true) (partition : partition_holds s ≡ true) where
  abbrev k : ℕ
  k = length entries

  abbrev base : ℕ
  base = t.author.base

  abbrev xs : List RewrittenGroup
  xs = knows.groups

  many : count_of p.history ≡ k
  many = count-is p s entries was

  least : 1 ≤ base
  least = knows.known.after_origin

  to : base ≤ k
  to = let high = knows.known.to in omega (arith, high, many)

  some : 1 ≤ k
  some = omega (arith, least, to)

  is_table : IsTableOf s p.history
  is_table = is-table p s entries was

  holds : Holds f after
  holds = puts-holds f after (snapshot_path (suc (length entries))) (Some t.made.text) absent puts

  -- ---- the entry and the delta

  d-is : ready.made.delta ≡ delta_of_plan plan
  d-is = subst (λ (i : Intent). IsDeltaFor i ready.made.delta) is
      (delta-for s t.newest t.names ready.made.left t.intent ready.made.delta ready.made.row_files ready.made.has_delta)

  e-is : e ≡ compaction base plan.groups.items
  e-is = subst (λ (i : Intent). IsEntryFor t.author i e) is ready.means

  e-groups : e ≡ compaction base (map named_group xs)
  e-groups = e-is ∙ ap (compaction base) knows.named

  rise : IsStrictlySortedBy group_cmp (map group_in xs)
  rise = rising xs plan.groups.items knows.named knows.rise

  some-groups : plan.groups.items ≢ []
  some-groups none_named = at xs knows.some (sym knows.named ∙ none_named)
    where
      at : (ys : List RewrittenGroup) → ys ≢ [] → map named_group ys ≡ [] → ⊥
      at [] some_ys empty = some_ys refl
      at (y ∷ ys) some_ys empty = some-named y ys empty

  pub entry-after : IsEntryAfter s entries e
  entry-after = subst (IsEntryAfter s entries) (sym e-is) (least, to, some-groups, above, knows.rise)

  fits : AllFit s.columns (flat_map entry_rows (entries ++ e ∷ []))
  fits = all-weaker (IsRowOf s) (λ (r : HistoryRow). Fits s.columns r.1) (λ r is_row. is_row.fits) (flat_map entry_rows (entries ++ e ∷ []))
      (rows-append s entries e ready.folder.history entry-after).rows

  high : 1 ≤ top_of s
  high = at xs knows.some knows.each
    where
      at : (ys : List RewrittenGroup) → ys ≢ [] → AllByRecursion (IsRewrittenAt me s base p) ys → 1 ≤ top_of s
      at [] some_ys all = absurd (some_ys refl)
      at (y ∷ ys) some_ys all = let low = all.0.took.positive in let within = all.0.took.within in omega (arith, low, within)

  -- ---- what is live

  abbrev newest : FoundNewest facts.one_contents facts.same_contents facts.one_runs f p s entries t.newest stands was ready.folder ready.newest some
  newest = found facts.one_contents facts.same_contents facts.one_runs f p s entries t.newest stands was ready.folder ready.newest some

  abbrev live0 : Live
  live0 = live_in newest.contents

  abbrev live1 : Live
  live1 = live_in made.contents

  abbrev es : List files.Entry
  es = t.newest.live.items

  abbrev removed : List files.Entry
  removed = plan.removed.items

  abbrev added : List files.Entry
  added = map adding plan.added.items

  now : AreLive live1 (left_of removed es ++ added)
  now = subst (λ (d : Delta). AreLive live1 (left_of d.removed es ++ d.added)) d-is made.live

  none-gone : first_not_live es removed ≡ None
  none-gone = subst (λ (i : Intent). first_not_live es (removed_of i) ≡ None) is (allowed-of t.newest t.author t.intent ready.allowed).live

  -- ---- the plan's files

  -- each that was created is still there
  given-put : (file : CommitFile) → Contains (flat_map (made_files s) xs ++ flat_map (told_files s) knows.told) file → IsPut after file
  given-put file h =
      let there : IsPut f file = each-of (IsPut f) given file put (subst (λ (fs : List CommitFile). Contains fs file) (sym knows.given_are) h) in
      holds file.path (subst (λ (o : Option (List ℕ)). IsSome o) (sym there) refl) ∙ there

  module _ (x : RewrittenGroup) (h : Contains xs x) where
    one : (y : RewrittenGroup) → Contains xs y → y.group ≡ x.group → y ≡ x
    one y there same = one-group facts.tie xs rise y x there h same

    goes : (m : FileMeta) → Contains (files_of (map view_of x.taking.taken)) m → Contains removed (live_entry s x.group m)
    goes m has = subst (λ (es : List files.Entry). Contains es (live_entry s x.group m)) (sym knows.goes)
        (flat-in (goes_of s) xs x (live_entry s x.group m) h (map-in (live_entry s x.group) (files_of (map view_of x.taking.taken)) m has))

    went : (r : files.Entry) → Contains removed r → r.group ≡ x.group
        → (m : FileMeta) × Contains (files_of (map view_of x.taking.taken)) m × (r ≡ live_entry s x.group m)
    went r gone of_g =
        let (y, there, own) = in-flat (goes_of s) xs r (subst (λ (es : List files.Entry). Contains es r) knows.goes gone) in
        let (m, has, same) = in-map (live_entry s y.group) (files_of (map view_of y.taking.taken)) r own in
        let group : y.group ≡ x.group = ap (λ (e : files.Entry). e.group) same ∙ of_g in (
          m,
          subst (λ (z : RewrittenGroup). Contains (files_of (map view_of z.taking.taken)) m) (one y there group) has,
          sym same ∙ ap (λ (g : Group). live_entry s g m) group,
        )

    come : (m : FileMeta) → Contains (metas_of x.files) m → Contains added (live_entry s x.group m)
    come m has =
        let (file, there, same) = in-map (λ (f : RunFile). f.meta) x.files m has in
        let in_plan : Contains plan.added.items (live_entry s x.group file.meta) =
        subst (λ (es : List files.Entry). Contains es (live_entry s x.group file.meta)) (sym knows.comes)
        (flat-in (comes_of s) xs x (live_entry s x.group file.meta) h (map-in (λ (f : RunFile). live_entry s x.group f.meta) x.files file there)) in
        subst (λ (m : FileMeta). Contains added (live_entry s x.group m)) same (map-in adding plan.added.items (live_entry s x.group file.meta) in_plan)

    came : (a : files.Entry) → Contains added a → a.group ≡ x.group → Contains (metas_of x.files) a.file
    came a new of_g =
        let (b, in_plan, is_a) = in-map adding plan.added.items a new in
        let (y, there, own) = in-flat (comes_of s) xs b (subst (λ (es : List files.Entry). Contains es b) knows.comes in_plan) in
        let (file, has, same) = in-map (λ (f : RunFile). live_entry s y.group f.meta) y.files b own in
        let group : y.group ≡ x.group = ap (λ (e : files.Entry). e.group) same ∙ ap (λ (e : files.Entry). e.group) is_a ∙ of_g in
        let meta : file.meta ≡ a.file = ap (λ (e : files.Entry). e.file) same ∙ ap (λ (e : files.Entry). e.file) is_a in
        subst (Contains (metas_of x.files)) meta
        (subst (λ (z : RewrittenGroup). Contains (metas_of z.files) file.meta) (one y there group) (map-in (λ (f : RunFile). f.meta) y.files file has))

    files-put : AllByRecursion (IsPut after) (map (group_file s x.group) x.files)
    files-put = all-of (IsPut after) (map (group_file s x.group) x.files) (λ file there.
        given-put file (Contains-append_left (flat_map (made_files s) xs) (flat_map (told_files s) knows.told) file (flat-in (made_files s) xs x file h there)))

    is-x : IsRewrittenAt me s base p x
    is-x = each-of (IsRewrittenAt me s base p) xs x knows.each h

    table-known : KnowsTable f s entries p
    table-known = known facts.one_contents facts.same_contents facts.one_runs f p s entries t.newest stands was ready.folder ready.newest some

    took : IsTaken s p.since (λ n. p.runs n x.group) (length entries) x.taking
    took = took-there facts.groups.left facts.groups.read facts.groups.stored me f p s entries base table-known least knows.since to x is-x

    still : StillStands s x.group entries (λ n. p.runs n x.group) x.taking
    still = facts.still f p s entries x.group x.taking newest.snapshot newest.contents stands was took
        (stood facts.one_contents facts.same_contents facts.one_runs f p s entries t.newest stands was ready.folder ready.newest some)
        (live-files facts.groups.left facts.groups.read facts.groups.stored me f p s entries base table-known least knows.since to x is-x facts.groups.one_id
        live0 es removed newest.live none-gone goes)

    -- where it goes to the highest level all runs were taken
    none-left : x.whole ≡ true → x.taking.rest ≡ []
    none-left whole =
        let levels : AllByRecursion (λ (r : KnownRun). r.level ≤ top_of s) (x.taking.taken ++ x.taking.rest) =
        subst (AllByRecursion (λ (r : KnownRun). r.level ≤ top_of s)) took.was
        ((table-known.runs.succession x.group).known x.taking.base took.from took.to).levels in
        no-above (top_of s) x.taking.out x.taking.rest (is-x.whole.0 whole)
        (AllByRecursion-parts (λ (r : KnownRun). r.level ≤ top_of s) x.taking.taken x.taking.rest levels).1 took.high

    -- what is told of it is its part of the change
    own-change : rows_in s x.group (change s (entries ++ e ∷ []) (suc (length entries))) ≡ compaction_log s x.whole (p.runs base x.group)
    own-change =
        let at_base : base_of false x.group e ≡ Some x.taking.base =
        subst (λ (e : Entry). base_of false x.group e ≡ Some base) (sym e-groups) (named-base facts.tie xs base rise x h) ∙ sym (ap (λ (n : ℕ). Some n) is-x.based) in
        own-part facts.change s entries base plan.groups.items e e-is partition fits x.group p.since (λ n. p.runs n x.group) x.taking x.whole
        (table-known.runs.succession x.group) took still at_base
        (λ whole. (
          none-left whole,
          subst (λ (e : Entry). base_of true x.group e ≡ Some base) (sym e-groups) (whole-base facts.tie xs base rise x h whole) ∙ sym (ap (λ (n : ℕ). Some n) is-x.based),
        ))
        (λ part. subst (λ (e : Entry). base_of true x.group e ≡ None) (sym e-groups) (part-base facts.tie xs base rise x h part))
        ∙ ap (λ (n : ℕ). compaction_log s x.whole (p.runs n x.group)) is-x.based

    rewritten : GroupAfter after s entries e p live1 x.group
    rewritten = group-after facts.groups me f after p s entries e base table-known least knows.since to holds none is_table many x is-x still
        (subst (λ (e : Entry). base_of false x.group e ≡ Some base) (sym e-groups) (named-base facts.tie xs base rise x h))
        (λ whole. subst (λ (e : Entry). base_of true x.group e ≡ Some base) (sym e-groups) (whole-base facts.tie xs base rise x h whole))
        (λ part. subst (λ (e : Entry). base_of true x.group e ≡ None) (sym e-groups) (part-base facts.tie xs base rise x h part))
        (old-runs facts.one_contents facts.same_contents facts.one_runs f p s entries t.newest stands was ready.folder ready.newest some x.group)
        live0 live1 es removed added newest.live now
        (own-runs facts.one_contents facts.same_contents facts.one_runs f p s entries t.newest stands was ready.folder ready.newest some x.group)
        (λ runs own. own-numbered facts.one_contents facts.same_contents facts.one_runs f p s entries t.newest stands was ready.folder ready.newest some x.group runs own)
        goes went come came files-put

  -- a group that the plan hasn't
  module _ (g : Group) (other : (x : RewrittenGroup) → Contains xs x → x.group ≢ g) where
    none-goes : (r : files.Entry) → Contains removed r → r.group ≢ g
    none-goes r gone of_g =
        let (y, there, own) = in-flat (goes_of s) xs r (subst (λ (es : List files.Entry). Contains es r) knows.goes gone) in
        let (m, has, same) = in-map (live_entry s y.group) (files_of (map view_of y.taking.taken)) r own in
        other y there (ap (λ (e : files.Entry). e.group) same ∙ of_g)

    none-comes : (a : files.Entry) → Contains added a → a.group ≢ g
    none-comes a new of_g =
        let (b, in_plan, is_a) = in-map adding plan.added.items a new in
        let (y, there, own) = in-flat (comes_of s) xs b (subst (λ (es : List files.Entry). Contains es b) knows.comes in_plan) in
        let (file, has, same) = in-map (λ (f : RunFile). live_entry s y.group f.meta) y.files b own in
        other y there (ap (λ (e : files.Entry). e.group) same ∙ ap (λ (e : files.Entry). e.group) is_a ∙ of_g)

    stays : GroupAfter after s entries e p live1 g
    stays =
        let old = old-runs facts.one_contents facts.same_contents facts.one_runs f p s entries t.newest stands was ready.folder ready.newest some g in
        let own = own-runs facts.one_contents facts.same_contents facts.one_runs f p s entries t.newest stands was ready.folder ready.newest some g in record {
          runs = p.runs k g;
          own = same-runs facts.groups.one_id live0 live1 es removed added newest.live now g none-goes none-comes (map view_of (p.runs k g)) own;
          numbered = own-numbered facts.one_contents facts.same_contents facts.one_runs f p s entries t.newest stands was ready.folder ready.newest some g (map view_of (p.runs k g)) own;
          hold = hold-held f after holds s g (p.runs k g) old.hold;
          follow = unchanged refl (subst (λ (e : Entry). base_of false g e ≡ None) (sym e-groups) (other-base facts.tie xs base rise false g other))
              (ap (λ (e : Entry). rows_in s g (entry_rows e)) e-is);
        }

    -- nothing is told of it
    none-change : rows_in s g (change s (entries ++ e ∷ []) (suc (length entries))) ≡ []
    none-change = other-part facts.change s entries base plan.groups.items e e-is partition fits g
        (λ wholly. subst (λ (e : Entry). base_of wholly g e ≡ None) (sym e-groups) (other-base facts.tie xs base rise wholly g other))

  pub group-goes : (g : Group) → GroupAfter after s entries e p live1 g
  group-goes g = elim (which facts.tie xs g) as (λ _. GroupAfter after s entries e p live1 g) [
    | inl found ↦ subst (GroupAfter after s entries e p live1) found.2 (rewritten found.0 found.1)
    | inr other ↦ stays g other
  ]

  pub goes-with : (g : Group) → GoesOnWith after s entries e p g
  goes-with g = let x = group-goes g in record {
    runs = x.runs;
    are = record { are = (_, made.contents, made.commit, x.own); hold = x.hold };
    follow = x.follow;
  }

  bases : HaveBases 1 (entries ++ e ∷ [])
  bases = (rows-append s entries e ready.folder.history entry-after).bases

  -- ---- the changelog

  tells : made.contents.changes ≡ map adding plan.changes.items
  tells = made.changes ∙ ap (λ (d : Delta). d.changes) d-is

  abbrev ys : List ToldGroup
  ys = knows.told

  told-rise : IsStrictlySortedBy group_cmp (map told_in ys)
  told-rise = told-rising ys plan.groups.items knows.all_told knows.rise

  changes-are : made.contents.changes ≡ flat_map (tells_of s) ys
  changes-are = tells ∙ ap (λ (es : List files.Entry). map adding es) knows.tells ∙ adding-told s ys

  module _ (y : ToldGroup) (h : Contains ys y) where
    is-y : IsToldAt me s base p y
    is-y = each-of (IsToldAt me s base p) ys y knows.each_told h

    told-put : AllByRecursion (IsPut after) (map (group_file s y.group) (option_to_list y.file))
    told-put = all-of (IsPut after) (map (group_file s y.group) (option_to_list y.file)) (λ file there.
        given-put file (Contains-append_right (flat_map (made_files s) xs) (flat_map (told_files s) ys) file (flat-in (told_files s) ys y file h there)))

    y-there : (x : RunFile) → Contains (option_to_list y.file) x → (stored : List Stamped) × HasFile after s true y.group x.meta stored
    y-there x there = file-there facts.log after s y.group (compaction_log s y.whole (p.runs base y.group)) is-y.log y.names y.file x is-y.tells is-y.written told-put there

    y-holds : HoldChanges after s y.group (tells_of s y) (compaction_log s y.whole (p.runs base y.group))
    y-holds = holds-told facts.log after s y.group (compaction_log s y.whole (p.runs base y.group)) is-y.log y.names y.file is-y.tells is-y.written told-put

  each-there : (e : files.Entry) → Contains (flat_map (tells_of s) ys) e → (stored : List Stamped) × HasFile after s true e.group e.file stored
  each-there e h =
      let (y, there, own) = in-flat (tells_of s) ys e h in
      let (x, has, is) = in-map (λ (f : RunFile). live_entry s y.group f.meta) (option_to_list y.file) e own in
      subst (λ (e : files.Entry). (stored : List Stamped) × HasFile after s true e.group e.file stored) is (y-there y there x has)

  -- a group's changelog file holds its part of the change
  own-holds : (x : RewrittenGroup) → Contains xs x
      → HoldChanges after s x.group (entries_in x.group (flat_map (tells_of s) ys)) (rows_in s x.group (change s (entries ++ e ∷ []) (suc (length entries))))
  own-holds x h =
      let (y, there, same) = told-of xs ys plan.groups.items knows.named knows.all_told x h in
      let of_y : HoldChanges after s y.group (entries_in y.group (flat_map (tells_of s) ys)) (compaction_log s y.whole (p.runs base y.group)) =
      subst (λ (es : List files.Entry). HoldChanges after s y.group es (compaction_log s y.whole (p.runs base y.group))) (sym (told-in facts.tie s ys told-rise y there))
      (y-holds y there) in
      subst (HoldChanges after s x.group (entries_in x.group (flat_map (tells_of s) ys))) (sym (own-change x h))
      (subst (λ (n : Group × Bool). HoldChanges after s n.0 (entries_in n.0 (flat_map (tells_of s) ys)) (compaction_log s n.1 (p.runs base n.0))) same of_y)

  other-holds : (g : Group) → ((x : RewrittenGroup) → Contains xs x → x.group ≢ g)
      → HoldChanges after s g (entries_in g (flat_map (tells_of s) ys)) (rows_in s g (change s (entries ++ e ∷ []) (suc (length entries))))
  other-holds g other =
      subst (λ (es : List files.Entry). HoldChanges after s g es (rows_in s g (change s (entries ++ e ∷ []) (suc (length entries)))))
      (sym (none-in facts.tie s g ys (λ y there same.
      let (x, h, is) = rewritten-of xs ys plan.groups.items knows.named knows.all_told y there in
      other x h (ap (λ (n : Group × Bool). n.0) is ∙ same))))
      (none-change g other)

  group-holds : (g : Group) → HoldChanges after s g (entries_in g (flat_map (tells_of s) ys)) (rows_in s g (change s (entries ++ e ∷ []) (suc (length entries))))
  group-holds g = elim (which facts.tie xs g)
      as (λ _. HoldChanges after s g (entries_in g (flat_map (tells_of s) ys)) (rows_in s g (change s (entries ++ e ∷ []) (suc (length entries))))) [
        | inl found ↦ subst (λ (g : Group). HoldChanges after s g (entries_in g (flat_map (tells_of s) ys)) (rows_in s g (change s (entries ++ e ∷ []) (suc (length entries)))))
            found.2 (own-holds found.0 found.1)
        | inr other ↦ other-holds g other
      ]

  holds-change : HoldsChange after s (entries ++ e ∷ []) (suc (length entries)) made.contents.changes
  holds-change = subst (HoldsChange after s (entries ++ e ∷ []) (suc (length entries))) (sym changes-are) (record {
    each = all-of (λ (e : files.Entry). (stored : List Stamped) × HasFile after s true e.group e.file stored) (flat_map (tells_of s) ys) each-there;
    change = λ some g. group-holds g;
  })

  no-changelog : plan.changes.items ≡ [] → ready.made.lists.changes ≡ None
  no-changelog nothing = unlisted s t.newest ready.made.left (entries_of ready.made.delta) ready.made.delta.changes ready.made.lists ready.made.list_files
      ready.made.are_manifests (ap (λ (d : Delta). d.changes) d-is ∙ ap (λ (es : List files.Entry). map adding es) nothing)

  pub committed : IsCommit f after s entries e
  committed =
      let table_known = known facts.one_contents facts.same_contents facts.one_runs f p s entries t.newest stands was ready.folder ready.newest some in
      facts.commit me f after s entries e t ready absent puts made
      (λ g. group-stands facts.goes_on after s entries e p live1 g (table_known.runs.succession g) table_known.runs.since high bases (group-goes g))
      holds-change

  pub has-compacted : HasCompacted after s t.newest t.author plan
  has-compacted = record {
    lists = ready.made.lists;
    contents = made.contents;
    commit = subst (λ (i : Intent). HasCommit after s (t.newest.id + 1) (new_snapshot s t.newest t.author i (delta_of_plan plan) ready.made.lists) made.contents) is
        (subst (λ (d : Delta). HasCommit after s (t.newest.id + 1) (new_snapshot s t.newest t.author t.intent d ready.made.lists) made.contents) d-is
        (subst (λ (id : ℕ). HasCommit after s id (new_snapshot s t.newest t.author t.intent ready.made.delta ready.made.lists) made.contents)
        (let id = ready.newest.id in let same : suc k ≡ t.newest.id + 1 = omega (arith, id) in same) made.commit));
    kept = λ few. made.base ∙ base-kept s t.newest ready.made.left ready.made.are_manifests.left ready.made.are_manifests.base ready.made.are_manifests.base_files
        ready.made.are_manifests.has_base few;
    merged = λ enough. (
      made.merged enough,
      subst (λ (ms : List ManifestMeta). length ms ≤ 1) (sym made.base) (base-merged s t.newest ready.made.left ready.made.are_manifests.left
          ready.made.are_manifests.base ready.made.are_manifests.base_files ready.made.are_manifests.has_base enough),
    );
    delta = subst (λ (d : Delta). HaveEntries after s made.contents.delta (entries_of d)) d-is made.entries;
    live = all-of (λ (e : files.Entry). is_of_any es e ≡ true) removed
        (λ e h. not-true (is_of_any es e) (none-found (λ (e : files.Entry). not (is_of_any es e)) removed none-gone e h));
    tells = tells;
    unlisted = no-changelog;
  }
