-- Entries of manifests are such as a manifest can have.
use Rattle.std.proofs.Common.{◌≡◌, ◌⊎◌, inl, inr, ℕ, Bool, true, false, cond, List, [], ◌∷◌, map, Option, None, Some, Contains, Ok, refl, sym, subst, ◌∙◌}
use Rattle.std.specs.List.{AllByRecursion, last_or}
use Rattle.std.specs.Option.{option_map_or}
use Rattle.pm_base.proofs.Laws.{AllByRecursion-append}
use Rattle.pm_store.specs.Files.{Files}
use Rattle.pm_schema.specs.declared.schema.TableSchema.{TableSchema}
use Rattle.pm_record.specs.File.{ReadsFile}
use Rattle.pm_manifest.specs.Entries.{IsEntry, entry_in, has_entry_fields}
use Rattle.pm_manifest.specs.FileId.{id_eq}
use Rattle.pm_manifest.specs.Live.{id_of, left_by, live_at}
use Rattle.pm_manifest.specs.Shape.{Shape, shape_of}
use Rattle.pm_manifest.specs.declared.entry.Entry as files
use Rattle.pm_manifest.specs.declared.entry.ManifestMeta.{ManifestMeta}
use Rattle.pm_manifest.specs.declared.file_id.FileId.{FileId}
use Rattle.pm_model_contents.specs.Lists.{HaveEntries, manifest_path}
use Rattle.pm_made.specs.Delta.{deleted}
use Rattle.pm_made.proofs.ListLemmas.{in-head, in-tail}
use Rattle.pm_made.proofs.LiveLemmas.{ManifestFacts}

-- entries that are read are such as a manifest can have
abbrev pub ReadEntries : Type 0
ReadEntries = (shape : Shape) (path bytes : List ℕ) (es : List files.Entry) → ReadsFile has_entry_fields (entry_in shape) path bytes (Ok es)
    → AllByRecursion (IsEntry shape) es

-- those that take files away are, where those that added them were
pub can-go : (s : TableSchema) (es : List files.Entry) → AllByRecursion (IsEntry (shape_of s)) es → AllByRecursion (IsEntry (shape_of s)) (map deleted es)
can-go s [] can = tt
can-go s (e ∷ es) can = (
  (let first = can.0 in record { partition = first.partition; total = first.total; bucket = first.bucket; file = first.file }),
  can-go s es can.1,
)

module _ (manifests : ManifestFacts) where
  some-entry : (a b : files.Entry) → Some a ≡ Some b → a ≡ b
  some-entry a b is = cc

  one-left : (t add : Bool) (before : Option files.Entry) (x e : files.Entry) → cond t (cond add (Some x) None) before ≡ Some e
      → (before ≡ Some e) ⊎ (x ≡ e)
  one-left true true before x e is = inr (some-entry x e is)
  one-left true false before x e is = absurd (let no : None ≡ Some e = is in cc)
  one-left false add before x e is = inl is

  last-one : (before : Option files.Entry) (id : FileId) (x : files.Entry) → live_at before id (x ∷ []) ≡ cond (id_eq (id_of x) id) (cond x.add (Some x) None) before
  last-one before id x = at (id_eq (id_of x) id)
    where
      at : (t : Bool) → option_map_or left_by (last_or None (cond t (x ∷ []) [])) before ≡ cond t (cond x.add (Some x) None) before
      at true = refl
      at false = refl

  -- what is live was live before, or is one of the entries
  pub live-entry : (before : Option files.Entry) (id : FileId) (es : List files.Entry) (e : files.Entry) → live_at before id es ≡ Some e
      → (before ≡ Some e) ⊎ Contains es e
  live-entry before id [] e is = inl is
  live-entry before id (x ∷ es) e is = elim (live-entry (live_at before id (x ∷ [])) id es e (sym (manifests.left before id (x ∷ []) es) ∙ is)) as (λ _. (before ≡ Some e) ⊎ Contains (x ∷ es) e) [
    | inl first ↦ elim (one-left (id_eq (id_of x) id) x.add before x e (sym (last-one before id x) ∙ first)) as (λ _. (before ≡ Some e) ⊎ Contains (x ∷ es) e) [
      | inl was ↦ inl was
      | inr one ↦ inr (subst (Contains (x ∷ es)) one (in-head x es))
    ]
    | inr more ↦ inr (in-tail x es e more)
  ]

-- so each of them is one that a manifest can have
pub read-entries : ReadEntries → (f : Files) (s : TableSchema) (metas : List ManifestMeta) (es : List files.Entry) → HaveEntries f s metas es
    → AllByRecursion (IsEntry (shape_of s)) es
read-entries read f s [] es have = subst (AllByRecursion (IsEntry (shape_of s))) (sym have) tt
read-entries read f s (meta ∷ metas) es (own, later, split, is, have) =
    subst (AllByRecursion (IsEntry (shape_of s))) (sym split)
    (AllByRecursion-append (IsEntry (shape_of s)) own later (read (shape_of s) (manifest_path meta.name) is.bytes own is.read) (read-entries read f s metas later have))
