-- What a scanner knows stays true, whatever others do.
use Rattle.std.proofs.Common.{◌≡◌, ◌⊎◌, inl, inr, ℕ, ◌≤◌, List, ◌++◌, length, refl, sym, ap, subst, ◌∙◌, arith}
use Rattle.std.specs.List.{flat_map}
use Rattle.std.proofs.lemmas.List.{take-append-le}
use Rattle.pm_store.specs.Files.{Files}
use Rattle.std.specs.FinMap.{FinMap, values}
use Rattle.pm_base.specs.Newline.{line}
use Rattle.pm_rows.specs.RowText.{row_text}
use Rattle.pm_schema.specs.declared.schema.TableSchema.{TableSchema}
use Rattle.pm_values.specs.Order.{Values, key_cmp}
use Rattle.pm_values.specs.declared.kind.Kind.TheVariants.{Insert}
use Rattle.pm_model_following.specs.Following.{HaveBases, followed}
use Rattle.pm_model_history.specs.History.{Entry, GoesOn, History, entry_rows, no_table, table}
use Rattle.pm_model_history.specs.Merged.{scan_text}
use Rattle.pm_model_contents.specs.Lists.{HasEntries}
use Rattle.pm_model_folder.specs.Changes.{Actor}
use Rattle.pm_model_folder.specs.Ledger.{Advances, IsKnown, Past, Stands, count_of}
use Rattle.pm_model_folder.specs.Meaning.{SnapshotAt}
use Rattle.pm_group_files.proofs.KeptLemmas.{Going, goes, known-kept, stood-kept, table-kept}
use Rattle.pm_group_files.specs.Meaning.{IsTableView}
use Rattle.pm_scan.specs.Meaning.{IsScanOf}
use Rattle.pm_scan.specs.Rows.{rows_at}
use Rattle.pm_scan.specs.declared.rows.Rows.{Rows}
use Rattle.pm_scan.specs.declared.rows.Rows.TheVariants as shown
use Rattle.pm_scan.proofs.KnownLemmas.{bases-at}
use Rattle.pm_read_table.specs.Meaning.{IsViewIn, view_origin, view_snapshot}
use Rattle.pm_read_table.specs.declared.view.View.{View}

-- what the law of what is passed on says
abbrev pub Kept : Type 0
Kept = (s : TableSchema) (entries more : List Entry) (n : ℕ) → HaveBases 1 entries → n ≤ length entries → followed s (entries ++ more) n ≡ followed s entries n

rows-kept : Kept → (k : Rows) (s : TableSchema) (entries more : List Entry) (id : ℕ) → HaveBases 1 entries → id ≤ length entries
    → scan_text s (rows_at k s entries id) ≡ scan_text s (rows_at k s (entries ++ more) id)
rows-kept kept shown.All s entries more id bases within = ap (λ es. scan_text s (flat_map entry_rows es)) (sym (take-append-le id entries more within))
rows-kept kept shown.Passed s entries more id bases within =
    ap (λ (table : FinMap key_cmp Values). flat_map (λ (row : Values). line (row_text Insert row)) (values table)) (sym (kept s entries more id bases within))

module _ (going : Going) (me : Actor) (f after : Files) (p q : Past) (a : Advances me f p after q) where
  on : GoesOn p.history q.history
  on = goes going me f after p q a

  known : (id : ℕ) → IsKnown p id → IsKnown q id
  known = known-kept going me f after p q a

  pub view-kept : (v : View) → IsViewIn p v → IsViewIn q v
  view-kept v (view_origin o) = view_origin o
  view-kept v (view_snapshot x base delta entries live stood has left of) =
      let same = stood-kept going me f after p q a x.id stood.known in
      view_snapshot x base delta entries live
      record {
        table = table-kept v.schema p.history q.history on stood.table;
        known = known x.id stood.known;
        was = subst (λ files. SnapshotAt files x.id x) same stood.was;
        schema = stood.schema;
      } (subst (λ files. HasEntries files v.schema x base delta entries) same has) left of

  pub table-view-kept : (v : View) → IsTableView p v → IsTableView q v
  table-view-kept v is = record {
    is_view = view-kept v is.is_view;
    order = is.order;
    table = table-kept v.schema p.history q.history on is.table;
  }

  id-within : (id : ℕ) → (id ≡ 0) ⊎ IsKnown p id → id ≤ count_of p.history
  id-within id (inl none) = omega arith
  id-within id (inr was) = was.to

  id-kept : (id : ℕ) → (id ≡ 0) ⊎ IsKnown p id → (id ≡ 0) ⊎ IsKnown q id
  id-kept id (inl none) = inl none
  id-kept id (inr was) = inr (known id was)

  pub scan-kept : Kept → (k : Rows) (id : ℕ) (text : List ℕ) → Stands f p → IsScanOf k p id text → IsScanOf k q id text
  scan-kept kept k id text stands scan = by_later q.history refl (subst (λ h. GoesOn h q.history) scan.is_table on) (subst (λ h. id ≤ count_of h) scan.is_table (id-within id scan.known))
    where
      by_later : (later : History) → q.history ≡ later → GoesOn (table scan.schema scan.entries) later → id ≤ length scan.entries → IsScanOf k q id text
      by_later no_table is more within = absurd more
      by_later (table t later) is more within = record {
        schema = scan.schema;
        entries = scan.entries ++ more.1;
        is_table = is ∙ (λ i. table (more.0 i) (more.2 i));
        known = id-kept id scan.known;
        is_text = scan.is_text ∙ rows-kept kept k scan.schema scan.entries more.1 id (bases-at f p scan.schema scan.entries stands scan.is_table) within;
      }
