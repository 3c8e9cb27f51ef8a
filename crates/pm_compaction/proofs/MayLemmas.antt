-- What a plan changes can stand in a manifest, and no two of its entries are of one file.
use Rattle.std.proofs.Common.{◌≡◌, ◌≢◌, ℕ, ◌≤◌, Bool, List, [], ◌∷◌, ◌++◌, map, length, option_to_list, Contains, refl, sym, ap, subst, ◌∙◌}
use Rattle.std.specs.List.{AllByRecursion, flat_map}
use Rattle.std.specs.List.Sorted.{IsStrictlySortedBy}
use Rattle.std.specs.declared.cmp.Ordering.TheVariants.{Less, Equal}
use Rattle.std.proofs.lemmas.Grind.{flat_map-append}
use Rattle.std.proofs.lemmas.List.{map-append}
use Rattle.std.proofs.lemmas.List.Elements.{Contains-append_left}
use Rattle.std.proofs.lemmas.List.Sorted.{IsPermutation-sym}
use Rattle.pm_base.proofs.Laws.{AllByRecursion-parts}
use Rattle.pm_store.specs.Files.{Files}
use Rattle.pm_values.specs.GroupOrder.{group_cmp}
use Rattle.pm_values.specs.declared.file_meta.FileMeta.{FileMeta}
use Rattle.pm_values.specs.Order.{Values}
use Rattle.pm_values.specs.declared.group.Group.{Group}
use Rattle.pm_values.specs.declared.record.Stamped.{Stamped}
use Rattle.pm_model_history.specs.History.{Entry, entry_rows}
use Rattle.pm_model_history.specs.Merge.{HistoryRow}
use Rattle.pm_schema.specs.Again.{IsDeclared}
use Rattle.pm_schema.specs.declared.schema.TableSchema.{TableSchema}
use Rattle.pm_engine.specs.Covers.{row_of}
use Rattle.pm_run.specs.Order.{keys_of}
use Rattle.pm_run.specs.Writing.{HasOwnKey, changes_prefix, data_prefix}
use Rattle.pm_run.specs.declared.run.RunFile.{RunFile}
use Rattle.pm_changelog.specs.GroupLog.{stamped_from}
use Rattle.pm_levels.specs.Runs.{AreNamedApart, RunView, files_of}
use Rattle.pm_manifest.specs.Entries.{IsEntry, IsFile, IsFileWithin, IsWithin}
use Rattle.pm_manifest.specs.Live.{id_of}
use Rattle.pm_manifest.specs.Shape.{shape_of}
use Rattle.pm_manifest.specs.declared.entry.Entry as files
use Rattle.pm_manifest.specs.declared.file_id.FileId.{FileId}
use Rattle.pm_model_contents.specs.Lists.{IsChangelogEntry}
use Rattle.pm_model_folder.specs.Changes.{Actor}
use Rattle.pm_model_folder.specs.Commits.{live_in}
use Rattle.pm_model_folder.specs.Folder.{IsRowOf}
use Rattle.pm_model_folder.specs.Ledger.{KnowsTable, Past}
use Rattle.pm_model_folder.specs.Runs.{view_of}
use Rattle.pm_runs.specs.Succession.{KnownRun}
use Rattle.pm_put.specs.declared.putting.CommitFile.{CommitFile}
use Rattle.pm_compact.specs.Made.{metas_of}
use Rattle.pm_compact.specs.Rewritten.{most_in_file}
use Rattle.pm_choice.specs.Choice.{live_entry}
use Rattle.pm_made.specs.Commit.{Attempt, MayChange}
use Rattle.pm_made.specs.Delta.{Delta, adding, deleted, entries_of}
use Rattle.pm_write.specs.Files.{after_names}
use Rattle.pm_made.specs.Files.{IsMadeOf, delta_of_plan}
use Rattle.pm_made.specs.declared.intent.Intent.{Intent}
use Rattle.pm_made.specs.declared.intent.Intent.TheVariants as intents
use Rattle.pm_made.specs.declared.intent.Plan.{Plan}
use Rattle.pm_paths.proofs.ListLemmas.{here, more}
use Rattle.pm_made.proofs.EntryLemmas.{ReadEntries}
use Rattle.pm_made.proofs.KeyLemmas.{HasRowOf, file-can-be}
use Rattle.pm_made.proofs.ListLemmas.{Pairs, all-of, each-of, in-map, map-in, pairs-append, pairs-to}
use Rattle.pm_made.proofs.ListedLemmas.{changes-within, entries-within}
use Rattle.pm_made.proofs.StandLemmas.{two-moved}
use Rattle.pm_compaction.specs.Plan.{IsRewrittenAt, IsToldAt, KnowsPlan, RewrittenGroup, ToldGroup, comes_of, goes_of, tells_of}
use Rattle.pm_compaction.proofs.AtBaseLemmas.{LogLaw, told-group}
use Rattle.pm_compaction.proofs.BaseLemmas.{RunsThere, TakenStored, file-live, runs-there}
use Rattle.pm_compaction.proofs.DeltaLemmas.{IsDeltaFor, delta-for}
use Rattle.pm_compaction.proofs.EntryLemmas.{LeftJoined, live-can}
use Rattle.pm_compaction.proofs.GroupLemmas.{GroupsTie, group_in, rising}
use Rattle.pm_compaction.proofs.ListLemmas.{flat-in, in-flat}
use Rattle.pm_compaction.proofs.LiveLemmas.{two-of, two-right}
use Rattle.pm_compaction.proofs.MadeLemmas.{ComesBefore, OneName, first-in, greatest-in, last-own, least-in, named-file}
use Rattle.pm_compaction.proofs.RewrittenLemmas.{made-in-turn, made-key, taken-file}
use Rattle.pm_compaction.proofs.ToldLemmas.{adding-told, is-of-log, rewritten-of}

abbrev Apart : files.Entry → files.Entry → Type 0
Apart a b = id_of a ≡ id_of b → ⊥

some-run : (runs : List KnownRun) → runs ≢ [] → (r : KnownRun) × Contains runs r
some-run [] some = absurd (some refl)
some-run (r ∷ runs) some = (r, here r runs)

-- ---- of one group

-- files with different names, or at different levels
abbrev Differ : FileMeta → FileMeta → Type 0
Differ a b = a.level ≡ b.level → a.name ≢ b.name

named-pairs : (ms : List FileMeta) → AreNamedApart ms → Pairs Differ ms
named-pairs [] apart = tt
named-pairs (m ∷ ms) apart = (
  λ n h. apart m n (two-of (m ∷ []) ms m n (here m []) h),
  named-pairs ms (λ a b two. apart a b (two-right a b (m ∷ []) ms two)),
)

pairs-first : {X : Type 0} (R : X → X → Type 0) (xs ys : List X) → Pairs R (xs ++ ys) → Pairs R xs
pairs-first R [] ys pairs = tt
pairs-first R (x ∷ xs) ys pairs = (λ y h. pairs.0 y (Contains-append_left xs ys y h), pairs-first R xs ys pairs.1)

entries-apart : (s : TableSchema) (g : Group) (ms : List FileMeta) → Pairs Differ ms → Pairs Apart (map (live_entry s g) ms)
entries-apart s g [] pairs = tt
entries-apart s g (m ∷ ms) pairs = (
  λ e h same.
      let (n, there, is) = in-map (live_entry s g) ms e h in
      let id : id_of (live_entry s g m) ≡ id_of (live_entry s g n) = same ∙ ap id_of (sym is) in
      pairs.0 n there (ap (λ (i : FileId). i.level) id) (ap (λ (i : FileId). i.name) id),
  entries-apart s g ms pairs.1,
)

comes-apart : (s : TableSchema) (g : Group) (made : List RunFile) → Pairs ComesBefore (metas_of made) → Pairs Apart (map (λ (f : RunFile). live_entry s g f.meta) made)
comes-apart s g [] pairs = tt
comes-apart s g (file ∷ made) pairs = (
  λ e h same.
      let (f, there, is) = in-map (λ (f : RunFile). live_entry s g f.meta) made e h in
      let id : id_of (live_entry s g file.meta) ≡ id_of (live_entry s g f.meta) = same ∙ ap id_of (sym is) in
      (pairs.0 f.meta (map-in (λ (f : RunFile). f.meta) made f there)).apart (ap (λ (i : FileId). i.name) id),
  comes-apart s g made pairs.1,
)

-- ---- of all groups

less-not : (tie : GroupsTie) (a b : Group) → group_cmp a b ≡ Less → a ≡ b → ⊥
less-not tie a b less same = let no : Less ≡ Equal = sym less ∙ (tie a b).1 same in cc

flat-apart : GroupsTie → (F : RewrittenGroup → List files.Entry) → ((x : RewrittenGroup) (e : files.Entry) → Contains (F x) e → e.group ≡ x.group) → (xs : List RewrittenGroup)
    → IsStrictlySortedBy group_cmp (map group_in xs) → ((x : RewrittenGroup) → Contains xs x → Pairs Apart (F x)) → Pairs Apart (flat_map F xs)
unfolding IsStrictlySortedBy
flat-apart tie F own [] rise each = tt
flat-apart tie F own (x ∷ xs) rise each = pairs-append Apart (F x) (flat_map F xs) (each x (here x xs))
    (flat-apart tie F own xs rise.1 (λ y h. each y (more x xs y h)))
    (λ a b first later same.
    let (y, there, has) = in-flat F xs b later in
    less-not tie x.group y.group (each-of (λ (g : Group). group_cmp x.group g ≡ Less) (map group_in xs) y.group rise.0 (map-in group_in xs y there))
    (sym (own x a first) ∙ ap (λ (i : FileId). i.group) same ∙ own y b has))

adding-apart : (es : List files.Entry) → Pairs Apart es → Pairs Apart (map adding es)
adding-apart [] pairs = tt
adding-apart (e ∷ es) pairs = (
  λ d h same. (let (c, there, is) = in-map adding es d h in pairs.0 c there (same ∙ ap id_of (sym is))),
  adding-apart es pairs.1,
)

adding-can : (s : TableSchema) (es : List files.Entry) → AllByRecursion (IsEntry (shape_of s)) es → AllByRecursion (IsEntry (shape_of s)) (map adding es)
adding-can s [] can = tt
adding-can s (e ∷ es) can = (
  (let first = can.0 in record { partition = first.partition; total = first.total; bucket = first.bucket; file = first.file }),
  adding-can s es can.1,
)

goes-group : (s : TableSchema) (x : RewrittenGroup) (e : files.Entry) → Contains (goes_of s x) e → e.group ≡ x.group
goes-group s x e h = let (m, there, is) = in-map (live_entry s x.group) (files_of (map view_of x.taking.taken)) e h in ap (λ (e : files.Entry). e.group) (sym is)

comes-group : (s : TableSchema) (x : RewrittenGroup) (e : files.Entry) → Contains (comes_of s x) e → e.group ≡ x.group
comes-group s x e h = let (f, there, is) = in-map (λ (f : RunFile). live_entry s x.group f.meta) x.files e h in ap (λ (e : files.Entry). e.group) (sym is)

module _ (law : LogLaw) (tie : GroupsTie) (left : LeftJoined) (read : ReadEntries) (stored : TakenStored) (one : OneName) (me : Actor) (files0 : Files) (p : Past)
    (s : TableSchema) (declared : IsDeclared s) (entries : List Entry) (rows : AllByRecursion (IsRowOf s) (flat_map entry_rows entries)) (base : ℕ) (plan : Plan)
    (given : List CommitFile) (known : KnowsTable files0 s entries p) (to : base ≤ length entries) (knows : KnowsPlan me s base plan given p) where
  abbrev xs : List RewrittenGroup
  xs = knows.groups

  rise : IsStrictlySortedBy group_cmp (map group_in xs)
  rise = rising xs plan.groups.items knows.named knows.rise

  module _ (x : RewrittenGroup) (is : IsRewrittenAt me s base p x) where
    -- the runs at the base, as they stood
    was : map view_of (p.runs base x.group) ≡ map view_of x.taking.taken ++ map view_of x.taking.rest
    was = ap (λ (rs : List KnownRun). map view_of rs) (ap (λ (n : ℕ). p.runs n x.group) (sym is.based) ∙ is.took.was)
        ∙ map-append view_of x.taking.taken x.taking.rest

    there : RunsThere (p.stood base) s base x.group (map view_of x.taking.taken ++ map view_of x.taking.rest)
    there = subst (RunsThere (p.stood base) s base x.group) was
        (runs-there (p.stood base) s base x.group (map view_of (p.runs base x.group)) knows.known.after_origin (known.runs.stood base x.group knows.since to).are)

    split : files_of (map view_of x.taking.taken ++ map view_of x.taking.rest) ≡ files_of (map view_of x.taking.taken) ++ files_of (map view_of x.taking.rest)
    split = flat_map-append (λ (run : RunView). run.files) (map view_of x.taking.taken) (map view_of x.taking.rest)

    taken-pairs : Pairs Differ (files_of (map view_of x.taking.taken))
    taken-pairs =
        let all = files_of (map view_of x.taking.taken ++ map view_of x.taking.rest) in
        pairs-first Differ (files_of (map view_of x.taking.taken)) (files_of (map view_of x.taking.rest)) (subst (Pairs Differ) split (named-pairs all
        (λ a b two. there.own.own.apart a b (two-moved a b all there.own.files (IsPermutation-sym there.own.files all there.own.made.whole) two))))

    taken-can : (m : FileMeta) → Contains (files_of (map view_of x.taking.taken)) m → IsEntry (shape_of s) (live_entry s x.group m)
    taken-can m h =
        let (e, live, group, file) = file-live (live_in there.contents) x.group (map view_of x.taking.taken ++ map view_of x.taking.rest) m there.own
        (subst (λ (fs : List FileMeta). Contains fs m) (sym split)
        (Contains-append_left (files_of (map view_of x.taking.taken)) (files_of (map view_of x.taking.rest)) m h)) in
        let can = live-can left read (p.stood base) s there.snapshot there.contents there.commit.1 e live in
        subst (λ (g : Group). IsEntry (shape_of s) (live_entry s g m)) group (subst (λ (n : FileMeta). IsEntry (shape_of s) (live_entry s e.group n)) file
        (record { partition = can.partition; total = refl; bucket = can.bucket; file = can.file }))

    made-pairs : Pairs ComesBefore (metas_of x.files)
    made-pairs = made-in-turn left read stored me files0 p s entries base known knows.known.after_origin knows.since to x is one

  at : (x : RewrittenGroup) → Contains xs x → IsRewrittenAt me s base p x
  at x h = each-of (IsRewrittenAt me s base p) xs x knows.each h

  can-go : AllByRecursion (IsEntry (shape_of s)) plan.removed.items
  can-go = all-of (IsEntry (shape_of s)) plan.removed.items (λ e h.
      let (x, is_x, own) = in-flat (goes_of s) xs e (subst (λ (es : List files.Entry). Contains es e) knows.goes h) in
      let (m, has, is) = in-map (live_entry s x.group) (files_of (map view_of x.taking.taken)) e own in
      subst (IsEntry (shape_of s)) is (taken-can x (at x is_x) m has))

  -- a file that came is one that a manifest can name, as it is written
  file-can : (x : RewrittenGroup) (is : IsRewrittenAt me s base p x) (f : RunFile) → Contains x.files f → IsFileWithin (shape_of s) f.meta
      → IsFile (shape_of s) x.group.partition f.meta
  file-can x is f has within =
      let (k, less, named) = named-file s most_in_file x.taking.out x.names is.made.run x.files f is.made.files has in
      let meta : Contains (metas_of x.files) f.meta = map-in (λ (f : RunFile). f.meta) x.files f has in
      let key = made-key left read stored me files0 p s entries base known knows.known.after_origin knows.since to x is in
      file-can-be s x.group data_prefix (after_names k x.names) f.meta declared named
      (key f.meta.min_key (least-in s most_in_file x.taking.out x.names is.made.run x.files f.meta is.made.files meta))
      (key f.meta.max_key (greatest-in s most_in_file x.taking.out x.names is.made.run x.files f.meta is.made.files meta)) within

  -- and of a group that manifests have
  can-come : AllByRecursion (IsWithin (shape_of s)) (map adding plan.added.items) → AllByRecursion (IsEntry (shape_of s)) plan.added.items
  can-come within = all-of (IsEntry (shape_of s)) plan.added.items (λ e h.
      let (x, is_x, own) = in-flat (comes_of s) xs e (subst (λ (es : List files.Entry). Contains es e) knows.comes h) in
      let (f, has, is) = in-map (λ (f : RunFile). live_entry s x.group f.meta) x.files e own in
      let (r, first) = some-run x.taking.taken (at x is_x).took.some in
      let (m, own_m) = taken-file left read stored me files0 p s entries base known knows.known.after_origin knows.since to x (at x is_x) r first in
      let old = taken-can x (at x is_x) m (flat-in (λ (run : RunView). run.files) (map view_of x.taking.taken) (view_of r) m (map-in view_of x.taking.taken r first) own_m) in
      let written : IsWithin (shape_of s) (adding e) = each-of (IsWithin (shape_of s)) (map adding plan.added.items) (adding e) within (map-in adding plan.added.items e h) in
      let file = file-can x (at x is_x) f has (subst (λ (m : FileMeta). IsFileWithin (shape_of s) m) (ap (λ (e : files.Entry). e.file) (sym is)) written.file) in
      subst (IsEntry (shape_of s)) is (record { partition = old.partition; total = refl; bucket = old.bucket; file = file }))

  go-apart : Pairs Apart plan.removed.items
  go-apart = subst (Pairs Apart) (sym knows.goes) (flat-apart tie (goes_of s) (goes-group s) xs rise
      (λ x h. entries-apart s x.group (files_of (map view_of x.taking.taken)) (taken-pairs x (at x h))))

  come-apart : Pairs Apart plan.added.items
  come-apart = subst (Pairs Apart) (sym knows.comes) (flat-apart tie (comes_of s) (comes-group s) xs rise
      (λ x h. comes-apart s x.group x.files (made-pairs x (at x h))))

  -- ---- its changelog files

  -- a row of a group's log has a key of the group
  log-key : (y : ToldGroup) → (is : IsToldAt me s base p y) → (x : Stamped) → Contains (stamped_from 0 is.log) x → HasRowOf s y.group x.key
  log-key y is x h =
      let own : HasOwnKey s x = each-of (HasOwnKey s) (stamped_from 0 is.log) x is.tells.own h in
      let of_run = (known.runs.succession y.group).known base knows.since to in record {
        row = x.row;
        fits = own.fits;
        group = told-group law tie s y.group entries base knows.known.after_origin to declared.rules.1.1.1.0 rows (known.runs.succession y.group).bases
            (p.runs base y.group) y.whole of_run.stand (row_of x)
            (subst (λ (rs : List HistoryRow). Contains rs (row_of x)) is.tells.told (map-in row_of (stamped_from 0 is.log) x h));
        own = sym own.own;
      }

  -- a key that one of them has is one, too
  own-log-key : (y : ToldGroup) → (is : IsToldAt me s base p y) → (key : Values) → Contains (keys_of (stamped_from 0 is.log)) key → HasRowOf s y.group key
  own-log-key y is key h =
      let (x, there, same) = in-map (λ (x : Stamped). x.key) (stamped_from 0 is.log) key h in
      subst (HasRowOf s y.group) same (log-key y is x there)

  log-can : (y : ToldGroup) (is : IsToldAt me s base p y) (f : RunFile) → Contains (option_to_list y.file) f → IsFileWithin (shape_of s) f.meta
      → IsFile (shape_of s) y.group.partition f.meta
  log-can y is f has within =
      let meta = (is-of-log s y.names is.log y.file f is.written has).made.meta in
      file-can-be s y.group changes_prefix y.names f.meta declared meta.named
      (own-log-key y is f.meta.min_key (first-in (stamped_from 0 is.log) f.meta.min_key meta.least))
      (own-log-key y is f.meta.max_key (last-own (stamped_from 0 is.log) f.meta.max_key meta.greatest)) within

  -- the entry of a file of a group that is rewritten
  group-can : (x : RewrittenGroup) → Contains xs x → (m : FileMeta) → IsFile (shape_of s) x.group.partition m → IsEntry (shape_of s) (live_entry s x.group m)
  group-can x h m file =
      let (r, first) = some-run x.taking.taken (at x h).took.some in
      let (n, own) = taken-file left read stored me files0 p s entries base known knows.known.after_origin knows.since to x (at x h) r first in
      let old = taken-can x (at x h) n (flat-in (λ (run : RunView). run.files) (map view_of x.taking.taken) (view_of r) n (map-in view_of x.taking.taken r first) own) in
      record { partition = old.partition; total = refl; bucket = old.bucket; file = file }

  told-can : (e : files.Entry) → Contains plan.changes.items e → IsWithin (shape_of s) e → IsEntry (shape_of s) e × IsChangelogEntry e
  told-can e h within =
      let (y, is_y, own) = in-flat (tells_of s) knows.told e (subst (λ (es : List files.Entry). Contains es e) knows.tells h) in
      let (f, has, is) = in-map (λ (f : RunFile). live_entry s y.group f.meta) (option_to_list y.file) e own in
      let told : IsToldAt me s base p y = each-of (IsToldAt me s base p) knows.told y knows.each_told is_y in
      let (x, is_x, named) = rewritten-of xs knows.told plan.groups.items knows.named knows.all_told y is_y in
      let of_x : x.group ≡ y.group = ap (λ (n : Group × Bool). n.0) named in
      let file : IsFile (shape_of s) y.group.partition f.meta =
      log-can y told f has (subst (λ (m : FileMeta). IsFileWithin (shape_of s) m) (ap (λ (e : files.Entry). e.file) (sym is)) within.file) in
      let entry : IsEntry (shape_of s) (live_entry s y.group f.meta) = subst (λ (g : Group). IsEntry (shape_of s) (live_entry s g f.meta)) of_x
      (group-can x is_x f.meta (subst (λ (g : Group). IsFile (shape_of s) g.partition f.meta) (sym of_x) file)) in
      let level : f.meta.level ≡ 0 = (is-of-log s y.names told.log y.file f told.written has).made.meta.levelled in (
        subst (IsEntry (shape_of s)) is entry,
        subst IsChangelogEntry is (record { add = refl; level = level }),
      )

  -- they are written as they stand in the plan
  as-told : map adding plan.changes.items ≡ plan.changes.items
  as-told = ap (λ (es : List files.Entry). map adding es) knows.tells ∙ adding-told s knows.told ∙ sym knows.tells

  module _ (within : AllByRecursion (IsWithin (shape_of s)) (map adding plan.changes.items)) where
    each-told : (e : files.Entry) → Contains (map adding plan.changes.items) e → IsEntry (shape_of s) e × IsChangelogEntry e
    each-told e h = told-can e (subst (λ (es : List files.Entry). Contains es e) as-told h) (each-of (IsWithin (shape_of s)) (map adding plan.changes.items) e within h)

    can-tell : AllByRecursion (IsEntry (shape_of s)) (map adding plan.changes.items)
    can-tell = all-of (IsEntry (shape_of s)) (map adding plan.changes.items) (λ e h. (each-told e h).0)

    at-zero : AllByRecursion IsChangelogEntry (map adding plan.changes.items)
    at-zero = all-of IsChangelogEntry (map adding plan.changes.items) (λ e h. (each-told e h).1)

  pub may-change : AllByRecursion (IsWithin (shape_of s)) (entries_of (delta_of_plan plan)) → AllByRecursion (IsWithin (shape_of s)) (map adding plan.changes.items)
      → MayChange s (delta_of_plan plan)
  may-change within logged = record {
    can_go = can-go;
    can_come = adding-can s plan.added.items (can-come
        (AllByRecursion-parts (IsWithin (shape_of s)) (map deleted plan.removed.items) (map adding plan.added.items) within).1);
    can_tell = can-tell logged;
    told = at-zero logged;
    removed = pairs-to Apart plan.removed.items go-apart;
    added = pairs-to Apart (map adding plan.added.items) (adding-apart plan.added.items come-apart);
  }

-- what a try by the plan changes, where it is made
pub attempt-change : (law : LogLaw) (tie : GroupsTie) (left : LeftJoined) (read : ReadEntries) (stored : TakenStored) (one : OneName) (me : Actor) (files0 : Files) (p : Past)
    (s : TableSchema) (declared : IsDeclared s) (entries : List Entry) → AllByRecursion (IsRowOf s) (flat_map entry_rows entries) → (base : ℕ) (t : Attempt) (plan : Plan)
    (given : List CommitFile) → KnowsTable files0 s entries p → base ≤ length entries → KnowsPlan me s base plan given p → t.intent ≡ intents.Compact plan
    → (made : IsMadeOf s t.newest t.author t.intent t.names t.made) → MayChange s made.delta
attempt-change law tie left read stored one me files0 p s declared entries rows base t plan given known to knows is made =
    subst (MayChange s) (sym delta) (may-change law tie left read stored one me files0 p s declared entries rows base plan given known to knows
    (subst (λ (d : Delta). AllByRecursion (IsWithin (shape_of s)) (entries_of d)) delta within)
    (subst (λ (d : Delta). AllByRecursion (IsWithin (shape_of s)) d.changes) delta told))
  where
    delta : made.delta ≡ delta_of_plan plan
    delta = subst (λ (i : Intent). IsDeltaFor i made.delta) is (delta-for s t.newest t.names made.left t.intent made.delta made.row_files made.has_delta)

    within : AllByRecursion (IsWithin (shape_of s)) (entries_of made.delta)
    within = entries-within s t.newest made.left (entries_of made.delta) made.delta.changes made.lists made.list_files made.are_manifests

    told : AllByRecursion (IsWithin (shape_of s)) made.delta.changes
    told = changes-within s t.newest made.left (entries_of made.delta) made.delta.changes made.lists made.list_files made.are_manifests
