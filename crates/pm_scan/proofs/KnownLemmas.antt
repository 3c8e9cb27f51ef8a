-- What is known of a view and of its groups, and of the text at the end.
use Rattle.std.proofs.Common.{◌≡◌, ◌⊎◌, inl, inr, ℕ, ◌≤◌, List, [], ◌∷◌, length, Some, Ok, ◌↔◌, refl, sym, ap, subst, ◌∙◌}
use Rattle.std.specs.BTreeMap.{IsOrdered}
use Rattle.std.specs.List.{AllByRecursion}
use Rattle.pm_store.specs.Files.{Files}
use Rattle.pm_values.specs.GroupOrder.{group_cmp}
use Rattle.pm_values.specs.declared.group.Group.{Group}
use Rattle.pm_schema.specs.Again.{IsDeclared}
use Rattle.pm_schema.specs.Meaning.{SchemaOf}
use Rattle.pm_schema.specs.Reading.{schema_of}
use Rattle.pm_schema.specs.declared.schema.TableSchema.{TableSchema}
use Rattle.pm_model_following.specs.Following.{HaveBases}
use Rattle.pm_model_history.specs.History.{Entry, History, IsTableOf, no_table, table}
use Rattle.pm_model_history.specs.Merged.{scan_text}
use Rattle.pm_engine.specs.OfSchema.{meaning_of}
use Rattle.pm_scan_rows.specs.Group.{runs_read}
use Rattle.pm_scan_rows.specs.Shown.{PrintsGroups}
use Rattle.pm_levels.specs.Runs.{RunView}
use Rattle.pm_model_folder.specs.Folder.{Folder, HasTable}
use Rattle.pm_model_folder.specs.Ledger.{IsKnown, Past, Stands, count_of}
use Rattle.pm_read_table.specs.Meaning.{IsViewIn, view_origin, view_snapshot}
use Rattle.pm_read_table.specs.View.{runs_at}
use Rattle.pm_read_table.specs.declared.view.View.{View}
use Rattle.pm_group_files.specs.Collected.{Collected, HaveTaken, nothing_of}
use Rattle.pm_group_files.specs.Jobs.{Grouped, all_jobs, whole_group, whole_groups}
use Rattle.pm_group_files.specs.Meaning.{IsChosen, IsTableView, StoodAt}
use Rattle.pm_group_files.specs.declared.job.Job.{Job}
use Rattle.pm_group_files.proofs.TakenLemmas.{taken-schema}
use Rattle.pm_group_files.proofs.ViewLemmas.{IsOfTable, OneContents, each-found, of-snapshot, of-table}
use Rattle.pm_scan.specs.Meaning.{all_of, IsScanOf}
use Rattle.pm_scan.specs.Rows.{from_first, groups_of, passed_groups, passes_at, rows_at, with_runs}
use Rattle.pm_scan.specs.Scanner.{jobs_of}
use Rattle.pm_scan.specs.declared.rows.Rows.{Rows}
use Rattle.pm_scan.specs.declared.rows.Rows.TheVariants as shown
use Rattle.pm_scan.proofs.PassedLemmas.{left-stood}
use Rattle.pm_scan.proofs.ScanLemmas.{Laws}
use Rattle.pm_scan.proofs.ViewLemmas.{scanned-origin, scanned-view}

-- ---- what is known of a table

pub record Tells : Type 0 where
  pub exact : (path text : List ℕ) (s : TableSchema) → (schema_of path text ≡ Ok s) ↔ SchemaOf path text s
  pub declared : (path text : List ℕ) (s : TableSchema) → SchemaOf path text s → IsDeclared s

-- its schema is one that was declared
declared-table : Tells → (f : Files) (p : Past) (s : TableSchema) → Stands f p → IsTableOf s p.history → IsDeclared s
declared-table tells f p s stands is = by_history p.history stands.folder is
  where
    by_history : (h : History) → Folder f h → IsTableOf s h → IsDeclared s
    by_history no_table folder is = absurd is
    by_history (table t entries) folder is =
        subst IsDeclared is (tells.declared _ folder.schema.first.0 t ((tells.exact _ folder.schema.first.0 t).0 folder.schema.first.2))

-- its compactions began from snapshots before their own
pub bases-at : (f : Files) (p : Past) (s : TableSchema) (entries : List Entry) → Stands f p → p.history ≡ table s entries → HaveBases 1 entries
bases-at f p s entries stands is = (has-table (subst (Folder f) is stands.folder)).history.bases
  where
    has-table : HasTable f s entries → HasTable f s entries
    has-table has = has

-- ---- what is known of a view

-- what the law of the groups of a view says
abbrev pub ViewLaw : Type 0
ViewLaw = (f : Files) (p : Past) (v : View) (g : Group) (runs : List RunView) → Stands f p → IsTableView p v → runs_at v g ≡ Some runs
    → IsKnown p v.id × StoodAt p v.schema v.id (whole_group (g, runs))

module _ (law : ViewLaw) (f : Files) (p : Past) (v : View) (stands : Stands f p) (is : IsTableView p v) where
  abbrev HasStood : Grouped → Type 0
  HasStood e = IsKnown p v.id × StoodAt p v.schema v.id (whole_group e)

  each-stood : AllByRecursion HasStood v.groups.entries
  each-stood = each-found (λ g runs. HasStood (g, runs)) v.groups.entries is.order (λ g runs found. law f p v g runs stands is found)

  first-known : (groups : List Grouped) (job : Job) (jobs : List Job) → AllByRecursion HasStood groups → all_jobs v.schema groups ≡ job ∷ jobs → IsKnown p v.id
  first-known [] job jobs stood parts = let no : [] ≡ job ∷ jobs = parts in cc
  first-known (e ∷ groups) job jobs stood parts = stood.0.0

  -- the runs whose rows are passed on stood, where all of the group did
  passed-one : (g : Group) (runs left : List RunView) (groups : List Grouped) → from_first (passes_at v.schema) runs ≡ left → HasStood (g, runs) → AllByRecursion HasStood groups
      → AllByRecursion HasStood (with_runs g left groups)
  passed-one g runs [] groups is stood rest = rest
  passed-one g runs (run ∷ left) groups is stood rest = (
    (
      stood.0,
      subst (λ (left : List RunView). StoodAt p v.schema v.id (whole_group (g, left))) is
          (left-stood p v.schema v.id g (passes_at v.schema) runs (λ none. some-first run left (sym is ∙ none)) stood.1),
    ),
    rest,
  )
    where
      some-first : (run : RunView) (left : List RunView) → run ∷ left ≡ [] → ⊥
      some-first run left none = cc

  passed-stood : (groups : List Grouped) → AllByRecursion HasStood groups → AllByRecursion HasStood (passed_groups v.schema groups)
  passed-stood [] stood = tt
  passed-stood (e ∷ groups) stood =
      passed-one e.0 e.1 (from_first (passes_at v.schema) e.1) (passed_groups v.schema groups) refl stood.0 (passed-stood groups stood.1)

  groups-stood : (k : Rows) → AllByRecursion HasStood (groups_of k v.schema v.groups.entries)
  groups-stood shown.All = each-stood
  groups-stood shown.Passed = passed-stood v.groups.entries each-stood

  all-stood : (groups : List Grouped) → AllByRecursion HasStood groups → AllByRecursion (StoodAt p v.schema v.id) (whole_groups groups)
  all-stood [] stood = tt
  all-stood (e ∷ groups) stood = (stood.0.1, all-stood groups stood.1)

  -- what is asked of the reader of its files stood at the snapshot
  pub view-chosen : (k : Rows) (job : Job) (jobs : List Job) → jobs_of k v ≡ job ∷ jobs → IsChosen p (all_of k v)
  view-chosen k job jobs parts = record {
    table = is.table;
    known = first-known (groups_of k v.schema v.groups.entries) job jobs (groups-stood k) parts;
    each = all-stood (groups_of k v.schema v.groups.entries) (groups-stood k);
  }

-- ---- the scan

view-text : Laws → OneContents → (k : Rows) (f : Files) (p : Past) (v : View) → (own : IsOfTable p v.schema) → HaveBases 1 own.entries → IsDeclared v.schema → IsOrdered group_cmp v.groups → (c : Collected) (text : List ℕ)
    → HaveTaken (p.stood v.id) (jobs_of k v) (nothing_of v.schema) c → PrintsGroups (meaning_of v.schema) (runs_read c.groups) text → IsViewIn p v
    → ((v.id ≡ 0) ⊎ IsKnown p v.id) × (text ≡ scan_text v.schema (rows_at k v.schema own.entries v.id))
view-text laws one k f p v own bases declared order c text taken prints (view_origin o) =
    (inl o.id, scanned-origin laws k (p.stood v.id) v.schema own.entries v.groups.entries c text declared o.groups taken prints ∙ ap (λ id. scan_text v.schema (rows_at k v.schema own.entries id)) (sym o.id))
view-text laws one k f p v own bases declared order c text taken prints (view_snapshot x base delta es live stood has left of) =
    let w = of-snapshot p v x base delta es live stood has left of in
    let within : v.id ≤ length own.entries = subst (λ (h : History). v.id ≤ count_of h) own.is_table w.known.to in (
      inr w.known,
      scanned-view laws one k (p.stood v.id) v.schema own.entries v.id w.snapshot w.base w.delta w.es w.live v.groups.entries c text declared bases within (own.committed v.id w.known) w.there w.has w.left order w.groups taken prints,
    )

-- once all files of a view were read
pub view-scan : Laws → OneContents → Tells → (k : Rows) (f : Files) (p : Past) (v : View) → Stands f p → IsTableView p v → (c : Collected) (text : List ℕ)
    → HaveTaken (p.stood v.id) (jobs_of k v) (nothing_of v.schema) c → PrintsGroups (meaning_of c.schema) (runs_read c.groups) text → IsScanOf k p v.id text
view-scan laws one tells k f p v stands is c text taken prints =
    let own = of-table f p v.schema stands is.table in
    let schema : c.schema ≡ v.schema = taken-schema (p.stood v.id) (jobs_of k v) (nothing_of v.schema) c taken in
    let declared = declared-table tells f p v.schema stands is.table in
    let bases = bases-at f p v.schema own.entries stands own.is_table in
    let scan = view-text laws one k f p v own bases declared is.order c text taken (subst (λ s. PrintsGroups (meaning_of s) (runs_read c.groups) text) schema prints) is.is_view in
    record { schema = v.schema; entries = own.entries; is_table = own.is_table; known = scan.0; is_text = scan.1 }
