-- What the view of a snapshot, and the files that it names, are in the files as they stood when it was committed.
use Rattle.std.proofs.Common.{◌≡◌, ℕ, ◌+◌, ◌≤◌, List, [], ◌∷◌, ◌++◌, length, take, drop, cond, Some, None, inl, refl, sym, ap, subst, ◌∙◌, arith, length-take-le, take-append-drop, take-take}
use Rattle.std.specs.BTreeMap.{is_at}
use Rattle.std.specs.Cmp.{tied_itself}
use Rattle.std.specs.List.{AllByRecursion, flat_map}
use Rattle.std.specs.List.Sorted.{IsStrictlySortedBy}
use Rattle.std.specs.Map.{keys_of, lookup}
use Rattle.std.specs.Ordering.{is_eq}
use Rattle.pm_store.specs.Files.{Files}
use Rattle.pm_values.specs.GroupOrder.{group_cmp, group_total}
use Rattle.pm_values.specs.declared.group.Group.{Group}
use Rattle.pm_schema.specs.Again.{IsDeclared}
use Rattle.pm_schema.specs.declared.schema.TableSchema.{TableSchema}
use Rattle.std.specs.FinMap.{FinMap, values}
use Rattle.pm_base.specs.Newline.{line}
use Rattle.pm_rows.specs.RowText.{row_text}
use Rattle.pm_values.specs.Order.{Values, key_cmp}
use Rattle.pm_values.specs.declared.kind.Kind.TheVariants.{Insert}
use Rattle.pm_model_following.specs.Following.{HaveBases, followed}
use Rattle.pm_model_history.specs.History.{Entry, append, compaction, entry_rows, fence, rows_up_to}
use Rattle.pm_model_history.specs.Merged.{scan_text}
use Rattle.pm_snapshot.specs.declared.snapshot.Snapshot.{Snapshot}
use Rattle.pm_engine.specs.OfSchema.{meaning_of}
use Rattle.pm_scan_rows.specs.Group.{runs_read}
use Rattle.pm_scan_rows.specs.Shown.{GroupsCover, PrintsGroups}
use Rattle.pm_manifest.specs.Live.{Leaves, Live}
use Rattle.pm_manifest.specs.declared.entry.Entry as files
use Rattle.pm_manifest.specs.declared.entry.ManifestMeta.{ManifestMeta}
use Rattle.pm_model_contents.specs.Groups.{GroupRuns}
use Rattle.pm_model_contents.specs.Lists.{HasEntries, none_live}
use Rattle.pm_model_folder.specs.Commits.{IsCommitted}
use Rattle.pm_model_folder.specs.Meaning.{SnapshotAt}
use Rattle.pm_model_folder.specs.Stored.{HasGroup}
use Rattle.pm_group_files.specs.Collected.{Collected, HaveTaken, nothing_of}
use Rattle.pm_group_files.specs.Jobs.{Grouped, all_jobs}
use Rattle.pm_group_files.specs.Meaning.{HasRuns}
use Rattle.pm_group_files.proofs.ViewLemmas.{HasOwn, OneContents, same-live}
use Rattle.pm_scan.specs.Rows.{groups_of, rows_at}
use Rattle.pm_scan.specs.declared.rows.Rows.{Rows}
use Rattle.pm_scan.specs.declared.rows.Rows.TheVariants as shown
use Rattle.pm_scan.proofs.PassedLemmas.{passed-have, passed-scanned}
use Rattle.pm_scan.proofs.ScanLemmas.{Laws, all-have, scanned}

-- ---- the scan of a snapshot

rows-taken : (entries : List Entry) (id : ℕ) → rows_up_to (take id entries) id ≡ rows_up_to entries id
rows-taken entries id = ap (flat_map entry_rows) (take-take id id entries (omega arith))

bases-of : (number : ℕ) (entries more : List Entry) → HaveBases number (entries ++ more) → HaveBases number entries
bases-of number [] more bases = tt
bases-of number (append user identifier rows ∷ entries) more bases = bases-of (number + 1) entries more bases
bases-of number (compaction base groups ∷ entries) more bases = (bases.0, bases-of (number + 1) entries more bases.1)
bases-of number (fence x ∷ entries) more bases = bases-of (number + 1) entries more bases

-- what is followed at a snapshot is so of the entries up to it
followed-taken : Laws → (s : TableSchema) (entries : List Entry) (id : ℕ) → HaveBases 1 entries → id ≤ length entries → followed s (take id entries) id ≡ followed s entries id
followed-taken laws s entries id bases within =
    let whole : take id entries ++ drop id entries ≡ entries = take-append-drop id entries in
    let long : length (take id entries) ≡ id = length-take-le id entries within in
    sym (laws.kept s (take id entries) (drop id entries) id (bases-of 1 (take id entries) (drop id entries) (subst (HaveBases 1) (sym whole) bases)) (omega (arith, long)))
    ∙ ap (λ (entries : List Entry). followed s entries id) whole

abbrev text-of : FinMap key_cmp Values → List ℕ
text-of table = flat_map (λ (row : Values). line (row_text Insert row)) (values table)

text-taken : Laws → (k : Rows) (s : TableSchema) (entries : List Entry) (id : ℕ) → HaveBases 1 entries → id ≤ length entries
    → scan_text s (rows_at k s (take id entries) id) ≡ scan_text s (rows_at k s entries id)
text-taken laws shown.All s entries id bases within = ap (scan_text s) (rows-taken entries id)
text-taken laws shown.Passed s entries id bases within = ap text-of (followed-taken laws s entries id bases within)

-- the groups that have the rows have their files
pub rows-have : (laws : Laws) (k : Rows) (f : Files) (s : TableSchema) (entries : List Entry) (id : ℕ) (live : Live) → ((g : Group) → HasGroup f s entries id live g) → (groups : List Grouped)
    → AllByRecursion (HasOwn live) groups → AllByRecursion (HasRuns f s) (groups_of k s groups)
rows-have laws shown.All f s entries id live has groups own = all-have laws f s entries id live has groups own
rows-have laws shown.Passed f s entries id live has groups own = passed-have laws f s entries id live has groups own

-- whichever rows were asked for
rows-scanned : (laws : Laws) (k : Rows) (f : Files) (s : TableSchema) (entries : List Entry) (id : ℕ) (live : Live) → ((g : Group) → HasGroup f s entries id live g) → (groups : List Grouped)
    (final : Collected) (text : List ℕ) → IsDeclared s → IsStrictlySortedBy group_cmp (keys_of groups) → ((g : Group) → GroupRuns live g (lookup (is_at (group_cmp g)) groups))
    → HaveTaken f (all_jobs s (groups_of k s groups)) (nothing_of s) final → PrintsGroups (meaning_of s) (runs_read final.groups) text → text ≡ scan_text s (rows_at k s entries id)
rows-scanned laws shown.All f s entries id live stand groups final text declared rising runs taken prints =
    scanned laws f s entries id live stand groups final text declared rising runs taken prints
rows-scanned laws shown.Passed f s entries id live stand groups final text declared rising runs taken prints =
    passed-scanned laws f s entries id live stand groups final text declared rising runs taken prints

pub scanned-view : Laws → OneContents → (k : Rows) (f : Files) (s : TableSchema) (entries : List Entry) (id : ℕ) (x : Snapshot) (base delta : List ManifestMeta) (es : List files.Entry) (live : Live) (groups : List Grouped)
    (final : Collected) (text : List ℕ) → IsDeclared s → HaveBases 1 entries → id ≤ length entries → IsCommitted f s (take id entries) id → SnapshotAt f id x → HasEntries f s x base delta es → Leaves none_live es live → IsStrictlySortedBy group_cmp (keys_of groups)
    → ((g : Group) → GroupRuns live g (lookup (is_at (group_cmp g)) groups)) → HaveTaken f (all_jobs s (groups_of k s groups)) (nothing_of s) final → PrintsGroups (meaning_of s) (runs_read final.groups) text
    → text ≡ scan_text s (rows_at k s entries id)
scanned-view laws one k f s entries id x base delta es live groups final text declared bases within committed there has left rising runs taken prints =
    let same = same-live one f s (take id entries) id x base delta es live committed there has left in
    let stand : (g : Group) → HasGroup f s (take id entries) id live g = λ g. subst (λ l. HasGroup f s (take id entries) id l g) same (committed.groups g) in
    rows-scanned laws k f s (take id entries) id live stand groups final text declared rising runs taken prints ∙ text-taken laws k s entries id bases within

-- ---- the scan of the origin

pub no-groups : (groups : List Grouped) → ((g : Group) → lookup (is_at (group_cmp g)) groups ≡ None) → groups ≡ []
no-groups [] none = refl
no-groups (e ∷ groups) none =
    let found : Some e.1 ≡ None = sym (ap (λ o. cond (is_eq o) (Some e.1) (lookup (is_at (group_cmp e.0)) groups)) (tied_itself group_total e.0)) ∙ none e.0 in
    cc

rows-origin : (entries : List Entry) → rows_up_to entries 0 ≡ []
rows-origin [] = refl
rows-origin (e ∷ entries) = refl

pub groups-none : (k : Rows) (s : TableSchema) → groups_of k s [] ≡ []
groups-none shown.All s = refl
groups-none shown.Passed s = refl

text-origin : Laws → (k : Rows) (s : TableSchema) (entries : List Entry) → scan_text s [] ≡ scan_text s (rows_at k s entries 0)
text-origin laws shown.All s entries = ap (scan_text s) (sym (rows-origin entries))
text-origin laws shown.Passed s entries = ap text-of (sym (laws.start s entries))

nothing-covers : (s : TableSchema) → GroupsCover s [] []
unfolding IsStrictlySortedBy
nothing-covers s = record {
  rising = tt;
  each = tt;
  others = λ g others key. ([], inl refl, record { parts = []; split = refl; holds = tt });
}

pub scanned-origin : Laws → (k : Rows) (f : Files) (s : TableSchema) (entries : List Entry) (groups : List Grouped) (final : Collected) (text : List ℕ) → IsDeclared s
    → ((g : Group) → lookup (is_at (group_cmp g)) groups ≡ None) → HaveTaken f (all_jobs s (groups_of k s groups)) (nothing_of s) final → PrintsGroups (meaning_of s) (runs_read final.groups) text → text ≡ scan_text s (rows_at k s entries 0)
scanned-origin laws k f s entries groups final text declared none taken prints =
    let last : final ≡ nothing_of s =
    subst (λ gs. HaveTaken f (all_jobs s gs) (nothing_of s) final) (ap (groups_of k s) (no-groups groups none) ∙ groups-none k s) taken in
    let kept : runs_read final.groups ≡ [] = ap (λ (c : Collected). runs_read c.groups) last in
    laws.scan s [] [] text declared (nothing-covers s) (subst (λ l. PrintsGroups (meaning_of s) l text) kept prints) ∙ text-origin laws k s entries
