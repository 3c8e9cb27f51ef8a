-- What a try found is in the files where its snapshot is there.
use Rattle.std.proofs.Common.{◌≡◌, ℕ, List, inl, inr, Option, None, Some, refl, sym, ap, ◌∙◌, subst}
use Rattle.std.specs.FinMap as map
use Rattle.pm_store.specs.Files.{Files}
use Rattle.pm_schema.specs.declared.schema.TableSchema.{TableSchema}
use Rattle.pm_snapshot.specs.declared.snapshot.Snapshot.{Snapshot}
use Rattle.pm_manifest.specs.Live.{live_after}
use Rattle.pm_manifest.specs.declared.entry.Entry as files
use Rattle.pm_model_contents.specs.Lists.{none_live}
use Rattle.pm_model_contents.specs.Named.{Contents, HasContents}
use Rattle.pm_model_folder.specs.Commits.{HasCommit}
use Rattle.pm_model_folder.specs.Entries.{AreLive}
use Rattle.pm_model_folder.specs.Ledger.{IsKnown, Past, Stands}
use Rattle.pm_model_folder.specs.Meaning.{HasSnapshotAt}
use Rattle.pm_model_folder.specs.Paths.{snapshot_path}
use Rattle.pm_model_folder.proofs.LedgerFacts.{at-table}
use Rattle.pm_model_folder.proofs.HoldLemmas.{SameContents}
use Rattle.pm_read_table.specs.Meaning.{IsViewIn, Stood, view_origin, view_snapshot}
use Rattle.pm_read_table.specs.View.{kept_for, live_entries}
use Rattle.pm_read_table.specs.declared.asked.Wanted.{Wanted}
use Rattle.pm_read_table.specs.declared.view.View.{View}
use Rattle.pm_read_table.proofs.Facts.{stood_contents}
use Rattle.pm_made.specs.Commit.{IsFoundAs}
use Rattle.pm_made.specs.declared.newest.Newest.{Newest}
use Rattle.pm_commit.specs.Committer.{newest_in}
use Rattle.pm_commit.specs.Meaning.{IsFoundIn}
use Rattle.pm_commit.specs.declared.found.Found.{Found}

-- what the law of live entries says
abbrev pub LiveEntries : Type 0
LiveEntries = (entries : List files.Entry) → AreLive (live_after none_live entries) (live_entries entries)

-- what a try found is so in files to which the contents of its snapshot are moved
module _ (live_law : LiveEntries) (f g : Files) (p : Past) (found : Found) (stands : Stands f p) (is_found : IsFoundIn p found)
    (moved : (y : Snapshot) (c : Contents) → Stood p is_found.view.schema y → is_found.view.id ≡ y.id → HasContents (p.stood y.id) is_found.view.schema y c
    → HasCommit g is_found.view.schema y.id y c) where
  abbrev v : View
  v = is_found.view

  same-schema : found.schema ≡ v.schema
  same-schema = ap (λ (found : Found). found.schema) is_found.is

  same-newest : found.newest ≡ newest_in v
  same-newest = ap (λ (found : Found). found.newest) is_found.is

  -- as the view has it
  found-as : IsFoundAs g v.schema (newest_in v) v.snapshot
  found-as = at is_found.stood
    where
      at : IsViewIn p v → IsFoundAs g v.schema (newest_in v) v.snapshot
      at (view_origin is) = subst (IsFoundAs g v.schema (newest_in v)) (sym is.snapshot) (is.id, is.manifests, is.entries)
      at (view_snapshot y base delta es live stood has leaves is) =
          let c0 = stood_contents f p v.schema y stands stood in
          let c : Contents = record { base = base; delta = delta; entries = es; changelog = c0.0.changelog; changes = c0.0.changes } in
          let contents : HasContents (p.stood y.id) v.schema y c = record { table = has; changelog = c0.1.changelog } in
          let commit : HasCommit g v.schema v.id y c = subst (λ (n : ℕ). HasCommit g v.schema n y c) (sym is.id) (moved y c stood is.id contents) in
          let entries_are : v.live.items ≡ live_entries es = is.entries ∙ ap (λ (w : Wanted). live_entries (kept_for w es)) is_found.wanted in
          let are : AreLive (live_after none_live es) v.live.items =
          subst (λ (l : List files.Entry). AreLive (live_after none_live es) l) (sym entries_are) (live_law es) in
          subst (IsFoundAs g v.schema (newest_in v)) (sym is.snapshot) (c, commit, is.manifests, are)

  found-moved : IsFoundAs g found.schema found.newest found.newest.snapshot
  found-moved =
      subst (λ (u : TableSchema). IsFoundAs g u found.newest found.newest.snapshot) (sym same-schema)
      (subst (λ (n : Newest). IsFoundAs g v.schema n n.snapshot) (sym same-newest) found-as)

-- so it is where its snapshot is there
module _ (same : SameContents) (live_law : LiveEntries) (f : Files) (p : Past) (found : Found) (stands : Stands f p) (is_found : IsFoundIn p found)
    (there : HasSnapshotAt f found.schema found.newest.id) where
  abbrev s : TableSchema
  s = is_found.view.schema

  there-now : (id : ℕ) → is_found.view.id ≡ id → HasSnapshotAt f s id
  there-now id is =
      subst (λ (u : TableSchema). HasSnapshotAt f u id) (ap (λ (found : Found). found.schema) is_found.is)
      (subst (HasSnapshotAt f found.schema) (ap (λ (found : Found). found.newest.id) is_found.is ∙ is) there)

  pub found-there : IsFoundAs f found.schema found.newest found.newest.snapshot
  found-there = found-moved live_law f f p found stands is_found (λ y c stood is contents.
      let kept = ((at-table f p s stands stood.table).3.kept y.id stood.known).there (there-now y.id is) in (
        (stood.was.0, kept (snapshot_path y.id) (inl refl) ∙ stood.was.1, stood.was.2),
        same (p.stood y.id) f s y c (λ path named. kept path (inr (inr (y, c, (stood.was, contents), named)))) contents,
      ))

-- and in files in which the snapshot stood
pub found-stood : LiveEntries → (f g : Files) (p : Past) (found : Found) → Stands f p → IsFoundIn p found
    → ((id : ℕ) → IsKnown p id → id ≡ found.newest.id → p.stood id ≡ g) → IsFoundAs g found.schema found.newest found.newest.snapshot
found-stood live_law f g p found stands is_found so = found-moved live_law f g p found stands is_found (λ y c stood is contents.
    subst (λ (h : Files). HasCommit h is_found.view.schema y.id y c) (so y.id stood.known (sym is ∙ sym (ap (λ (found : Found). found.newest.id) is_found.is)))
    (stood.was, contents))

-- where no path has another content it is found so
pub found-same : SameContents → (f g : Files) (s : TableSchema) (newest : Newest) (o : Option Snapshot) → ((path : List ℕ) → map.get g path ≡ map.get f path)
    → IsFoundAs f s newest o → IsFoundAs g s newest o
found-same law f g s newest None same is = is
found-same law f g s newest (Some x) same (c, ((bytes, there, reads), has), manifests, live) =
    (c, ((bytes, same (snapshot_path newest.id) ∙ there, reads), law f g s x c (λ path named. same path) has), manifests, live)
