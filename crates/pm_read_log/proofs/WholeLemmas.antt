-- The paths that are listed of a view and of a changelog of one snapshot are those that the snapshot names.
use Rattle.std.specs.Option.{unwrap_or}
use Rattle.std.proofs.Common.{◌≡◌, ◌↔◌, ℕ, List, ◌++◌, Contains, Option, None, Some, sym, ap, ◌∙◌, subst}
use Rattle.pm_schema.specs.declared.schema.TableSchema.{TableSchema}
use Rattle.pm_snapshot.specs.declared.snapshot.Snapshot.{Snapshot}
use Rattle.pm_model_contents.specs.Lists.{HasEntries}
use Rattle.pm_model_contents.specs.Named.{Contents, HasContents, IsNamed}
use Rattle.pm_model_folder.specs.Commits.{HasCommit, Names}
use Rattle.pm_model_folder.specs.Ledger.{Past}
use Rattle.pm_model_folder.proofs.HoldLemmas.{OneContents, one-commit}
use Rattle.pm_read_log.specs.LogMeaning.{IsLogIn}
use Rattle.pm_read_table.specs.Meaning.{IsViewIn, view_origin, view_snapshot}
use Rattle.pm_read_table.specs.Named.{Parts, named_paths, parts_of}
use Rattle.pm_read_table.specs.Asked.{KeepsEntries}
use Rattle.pm_read_table.specs.View.{live_entries}
use Rattle.pm_read_log.specs.declared.log.Log.{Log}
use Rattle.pm_read_table.specs.declared.view.View.{View}
use Rattle.pm_read_table.proofs.LiveLemmas.{kept_all}
use Rattle.pm_read_table.proofs.NamedLemmas.{named_exactly}

none-some : {X : Type 0} (x : X) → None ≡ Some x → ⊥
none-some x is = subst (λ (o : Option _). elim o as (λ _. Type 0) [ None ↦ Unit {0} | Some y ↦ ⊥ ]) is tt

of-some : {X : Type 0} (d x y : X) → Some x ≡ Some y → x ≡ y
of-some d x y is = ap (λ (o : Option _). unwrap_or o d) is

pub whole-named : OneContents → (p : Past) (v : View) (l : Log) (path : List ℕ) → IsViewIn p v → IsLogIn p l → KeepsEntries v.wanted
    → v.snapshot ≡ Some l.snapshot → v.schema ≡ l.schema
    → Contains (named_paths l.schema l.snapshot (parts_of v.manifests.items v.live.items l.manifests.items l.changes.items)) path
    ↔ Names (p.stood l.snapshot.id) l.schema l.snapshot.id path
whole-named one p v l path (view_origin is) logged keeps snapshot schema = absurd (none-some l.snapshot (sym is.snapshot ∙ snapshot))
whole-named one p v l path (view_snapshot x base delta entries live stood has leaves is) logged keeps snapshot schema =
    let metas = l.manifests.items in
    let changes = l.changes.items in
    let same : x ≡ l.snapshot = of-some x x l.snapshot (sym is.snapshot ∙ snapshot) in
    let f = p.stood l.snapshot.id in
    let c : Contents = record { base = base; delta = delta; entries = entries; changelog = metas; changes = changes } in
    let table : HasEntries f l.schema l.snapshot base delta entries =
    subst (λ (s : TableSchema). HasEntries f s l.snapshot base delta entries) schema
    (subst (λ (x : Snapshot). HasEntries (p.stood x.id) v.schema x base delta entries) same has) in
    let contents : HasContents f l.schema l.snapshot c = record { table = table; changelog = logged.1 } in
    let commit : HasCommit f l.schema l.snapshot.id l.snapshot c = (logged.0.was, contents) in
    let parts : parts_of v.manifests.items v.live.items metas changes ≡ parts_of (base ++ delta) (live_entries entries) metas changes =
    ap (λ ms. parts_of ms v.live.items metas changes) is.manifests
    ∙ ap (λ es. parts_of (base ++ delta) es metas changes) (is.entries ∙ ap live_entries (kept_all v.wanted keeps entries)) in
    let exact = named_exactly l.schema l.snapshot c path in (
      (λ found. (
        l.snapshot,
        c,
        commit,
        exact.0 (subst (λ (parts : Parts). Contains (named_paths l.schema l.snapshot parts) path) parts found),
      )),
      (λ named.
          let (y, d, other, is_named) = named in
          let both = one-commit one f l.schema l.snapshot.id y l.snapshot d c other commit in
          subst (λ (parts : Parts). Contains (named_paths l.schema l.snapshot parts) path) (sym parts)
          (exact.1 (subst (λ (c : Contents). IsNamed l.schema l.snapshot c path) both.1
          (subst (λ (y : Snapshot). IsNamed l.schema y d path) both.0 is_named)))),
    )
