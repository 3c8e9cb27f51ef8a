-- The paths that are listed of a snapshot are those that it names.
use Rattle.std.proofs.Common.{◌≡◌, inl, inr, ◌↔◌, ℕ, List, [], ◌∷◌, ◌++◌, map, Contains, Option, None, Some, refl, sym, subst}
use Rattle.std.proofs.lemmas.List.Elements.{Contains-append_cases, Contains-append_left, Contains-append_right}
use Rattle.pm_paths.proofs.ListLemmas.{here, more, nowhere, cases}
use Rattle.pm_schema.specs.declared.schema.TableSchema.{TableSchema}
use Rattle.pm_snapshot.specs.declared.snapshot.Snapshot.{Snapshot}
use Rattle.pm_manifest.specs.declared.entry.Entry.{Entry}
use Rattle.pm_manifest.specs.declared.entry.ManifestMeta.{ManifestMeta}
use Rattle.pm_model_contents.specs.Lists.{manifest_path}
use Rattle.pm_model_contents.specs.Named.{Contents, IsNamed, base_list, changelog_list, changes_file, data_file, delta_list, manifest}
use Rattle.pm_model_contents.specs.Runs.{data_path}
use Rattle.pm_read_table.specs.Named.{file_paths, log_list_path, meta_paths, named_paths, parts_of}
use Rattle.pm_read_table.specs.View.{live_entries}
use Rattle.pm_read_table.proofs.EntryLemmas.{live_from, live_to}

module _ {X Y : Type 0} (f : X → Y) where
  in_map : (xs : List X) (x : X) → Contains xs x → Contains (map f xs) (f x)
  in_map [] x c = absurd (nowhere x c)
  in_map (y ∷ xs) x c = elim (cases y xs x c) as (λ _. Contains (map f (y ∷ xs)) (f x)) [
    | inl same ↦ subst (λ (y : X). Contains (map f (y ∷ xs)) (f x)) (sym same) (here (f x) (map f xs))
    | inr later ↦ more (f y) (map f xs) (f x) (in_map xs x later)
  ]

  of_map : (xs : List X) (y : Y) → Contains (map f xs) y → (x : X) × Contains xs x × (f x ≡ y)
  of_map [] y c = absurd (nowhere y c)
  of_map (x ∷ xs) y c = elim (cases (f x) (map f xs) y c) as (λ _. (z : X) × Contains (x ∷ xs) z × (f z ≡ y)) [
    | inl same ↦ (x, here x xs, same)
    | inr later ↦ (let rest = of_map xs y later in (rest.0, more x xs rest.0 rest.1, rest.2))
  ]

module _ (s : TableSchema) (x : Snapshot) (c : Contents) where
  abbrev Metas : List ManifestMeta
  Metas = c.base ++ c.delta

  abbrev live : List Entry
  live = live_entries c.entries

  abbrev last : List (List ℕ)
  last = file_paths s c.changes

  abbrev logs : List (List ℕ)
  logs = meta_paths c.changelog ++ last

  abbrev files : List (List ℕ)
  files = file_paths s live ++ logs

  abbrev metas : List (List ℕ)
  metas = meta_paths Metas ++ files

  abbrev lists : List (List ℕ)
  lists = log_list_path x.changelog_list ++ metas

  abbrev all : List (List ℕ)
  all = manifest_path x.base_list ∷ manifest_path x.delta_list ∷ lists

  -- ---- each is named

  list_named : (o : Option (List ℕ)) (path : List ℕ) → x.changelog_list ≡ o → Contains (log_list_path o) path → IsNamed s x c path
  list_named None path is found = absurd (nowhere path found)
  list_named (Some name) path is found = elim (cases (manifest_path name) [] path found) as (λ _. IsNamed s x c path) [
    | inl same ↦ subst (IsNamed s x c) same (changelog_list name is)
    | inr none ↦ absurd (nowhere path none)
  ]

  change_named : (path : List ℕ) → Contains last path → IsNamed s x c path
  change_named path found =
      let own = of_map (λ (e : Entry). data_path s e.group e.file.name) c.changes path found in
      subst (IsNamed s x c) own.2 (changes_file own.0 own.1)

  log_named : (path : List ℕ) → Contains logs path → IsNamed s x c path
  log_named path found = elim (Contains-append_cases (meta_paths c.changelog) last path found) as (λ _. IsNamed s x c path) [
    | inl first ↦ (let own = of_map (λ (meta : ManifestMeta). manifest_path meta.name) c.changelog path first in
        subst (IsNamed s x c) own.2 (manifest own.0 (inr own.1)))
    | inr rest ↦ change_named path rest
  ]

  file_named : (path : List ℕ) → Contains files path → IsNamed s x c path
  file_named path found = elim (Contains-append_cases (file_paths s live) logs path found) as (λ _. IsNamed s x c path) [
    | inl first ↦ (let own = of_map (λ (e : Entry). data_path s e.group e.file.name) live path first in
        subst (IsNamed s x c) own.2 (data_file own.0 (live_to c.entries own.0 own.1)))
    | inr rest ↦ log_named path rest
  ]

  meta_named : (path : List ℕ) → Contains metas path → IsNamed s x c path
  meta_named path found = elim (Contains-append_cases (meta_paths Metas) files path found) as (λ _. IsNamed s x c path) [
    | inl first ↦ (let own = of_map (λ (meta : ManifestMeta). manifest_path meta.name) Metas path first in
        subst (IsNamed s x c) own.2 (manifest own.0 (inl own.1)))
    | inr rest ↦ file_named path rest
  ]

  named : (path : List ℕ) → Contains all path → IsNamed s x c path
  named path found = elim (cases (manifest_path x.base_list) (manifest_path x.delta_list ∷ lists) path found) as (λ _. IsNamed s x c path) [
    | inl same ↦ subst (IsNamed s x c) same base_list
    | inr later ↦ elim (cases (manifest_path x.delta_list) lists path later) as (λ _. IsNamed s x c path) [
      | inl same ↦ subst (IsNamed s x c) same delta_list
      | inr rest ↦ elim (Contains-append_cases (log_list_path x.changelog_list) metas path rest) as (λ _. IsNamed s x c path) [
        | inl first ↦ list_named x.changelog_list path refl first
        | inr others ↦ meta_named path others
      ]
    ]
  ]

  -- ---- and each that is named is one of them

  in_lists : (path : List ℕ) → Contains lists path → Contains all path
  in_lists path found =
      more (manifest_path x.base_list) (manifest_path x.delta_list ∷ lists) path (more (manifest_path x.delta_list) lists path found)

  in_metas : (path : List ℕ) → Contains metas path → Contains all path
  in_metas path found = in_lists path (Contains-append_right (log_list_path x.changelog_list) metas path found)

  in_files : (path : List ℕ) → Contains files path → Contains all path
  in_files path found = in_metas path (Contains-append_right (meta_paths Metas) files path found)

  in_logs : (path : List ℕ) → Contains logs path → Contains all path
  in_logs path found = in_files path (Contains-append_right (file_paths s live) logs path found)

  listed : (path : List ℕ) → IsNamed s x c path → Contains all path
  listed path base_list = here (manifest_path x.base_list) (manifest_path x.delta_list ∷ lists)
  listed path delta_list = more (manifest_path x.base_list) (manifest_path x.delta_list ∷ lists) (manifest_path x.delta_list) (here (manifest_path x.delta_list) lists)
  listed path (changelog_list name is) =
      in_lists (manifest_path name) (Contains-append_left (log_list_path x.changelog_list) metas (manifest_path name)
      (subst (λ (o : Option (List ℕ)). Contains (log_list_path o) (manifest_path name)) (sym is) (here (manifest_path name) [])))
  listed path (manifest meta (inl own)) =
      in_metas (manifest_path meta.name) (Contains-append_left (meta_paths Metas) files (manifest_path meta.name)
      (in_map (λ (meta : ManifestMeta). manifest_path meta.name) Metas meta own))
  listed path (manifest meta (inr own)) =
      in_logs (manifest_path meta.name) (Contains-append_left (meta_paths c.changelog) last (manifest_path meta.name)
      (in_map (λ (meta : ManifestMeta). manifest_path meta.name) c.changelog meta own))
  listed path (data_file e own) =
      in_files (data_path s e.group e.file.name) (Contains-append_left (file_paths s live) logs (data_path s e.group e.file.name)
      (in_map (λ (e : Entry). data_path s e.group e.file.name) live e (live_from c.entries e own)))
  listed path (changes_file e own) =
      in_logs (data_path s e.group e.file.name) (Contains-append_right (meta_paths c.changelog) last (data_path s e.group e.file.name)
      (in_map (λ (e : Entry). data_path s e.group e.file.name) c.changes e own))

  pub named_exactly : (path : List ℕ) → Contains (named_paths s x (parts_of (c.base ++ c.delta) (live_entries c.entries) c.changelog c.changes)) path ↔ IsNamed s x c path
  named_exactly path = (named path, listed path)
