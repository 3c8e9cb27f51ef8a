-- The paths of files that snapshots name are in no folder of snapshots or schemas.
use Rattle.std.proofs.Common.{◌≡◌, ◌≢◌, ℕ, ◌≤◌, List, get_or, codes, refl, sym, subst, ap, arith}
use Rattle.std.specs.Fmt.{decimal}
use Rattle.std.proofs.lemmas.Fmt.{decimal_injective}
use Rattle.std.proofs.lemmas.List.{append_cancel_left}
use Rattle.pm_store.specs.Files.{Files}
use Rattle.pm_values.specs.declared.group.Group.{Group}
use Rattle.pm_model_history.specs.History.{History, no_table, table}
use Rattle.pm_schema.specs.Folder.{folder_text}
use Rattle.pm_schema.specs.declared.schema.TableSchema.{TableSchema}
use Rattle.pm_snapshot.specs.Names.{greatest}
use Rattle.pm_snapshot.specs.declared.snapshot.Snapshot.{Snapshot}
use Rattle.pm_model_contents.specs.Lists.{manifest_path}
use Rattle.pm_model_contents.specs.Named.{Contents, IsNamed, base_list, changelog_list, changes_file, data_file, delta_list, manifest}
use Rattle.pm_model_contents.specs.Runs.{data_path}
use Rattle.pm_model_folder.specs.Changes.{HavePlainNames, IsNoOrigin, IsTablePath, bucket, manifests}
use Rattle.pm_model_folder.specs.Commits.{Names}
use Rattle.pm_model_folder.specs.Paths.{schema_path, snapshot_file, snapshot_path}
use Rattle.pm_model_folder.proofs.BesideLemmas.{schema-table, snapshot-table}
use Rattle.pm_made.proofs.MadeLemmas.{at}

pub not-snapshot : (name path : List ℕ) → IsTablePath path → snapshot_file name ≢ path
not-snapshot name path at e = snapshot-table name (subst IsTablePath (sym e) at)

-- so it is no table's origin
pub no-origin : (h : History) (path : List ℕ) → IsTablePath path → IsNoOrigin h path
no-origin no_table path at = tt
no-origin (table s entries) path at = λ name is. not-snapshot name path at

pub not-schema : (id : ℕ) (path : List ℕ) → IsTablePath path → schema_path id ≢ path
not-schema id path at e = schema-table id (subst IsTablePath (sym e) at)

pub snapshot-schema : (a b : ℕ) → snapshot_path a ≢ schema_path b
snapshot-schema a b e = let clash : 110 ≡ 99 = ap (λ (l : List ℕ). get_or l 1 0) e in omega (arith, clash)

pub same-id : (a b : ℕ) → a ≤ greatest → b ≤ greatest → snapshot_path a ≡ snapshot_path b → a ≡ b
same-id a b within bound e =
    decimal_injective a b (omega (arith, within)) (omega (arith, bound)) (append_cancel_left (codes "snapshot/snapshot-") (decimal a) (decimal b) e)

-- ---- what a snapshot names

in-manifests : (name : List ℕ) → IsTablePath (manifest_path name)
in-manifests name = record { folder = codes "manifest"; name = name; own = manifests; is = refl }

in-bucket : (s : TableSchema) (g : Group) (name : List ℕ) → HavePlainNames s → IsTablePath (data_path s g name)
in-bucket s g name plain = record { folder = folder_text s g; name = name; own = bucket s g plain; is = refl }

named-in : (s : TableSchema) (x : Snapshot) (c : Contents) (path : List ℕ) → HavePlainNames s → IsNamed s x c path → IsTablePath path
named-in s x c path plain base_list = in-manifests x.base_list
named-in s x c path plain delta_list = in-manifests x.delta_list
named-in s x c path plain (changelog_list name is) = in-manifests name
named-in s x c path plain (manifest meta own) = in-manifests meta.name
named-in s x c path plain (data_file e own) = in-bucket s e.group e.file.name plain
named-in s x c path plain (changes_file e own) = in-bucket s e.group e.file.name plain

pub names-in : (f : Files) (s : TableSchema) (id : ℕ) (path : List ℕ) → HavePlainNames s → Names f s id path → IsTablePath path
names-in f s id path plain (x, c, has, named) = named-in s x c path plain named
