-- Live files are of entries that a manifest can have.
use Rattle.std.proofs.Common.{◌≡◌, ◌⊎◌, inl, inr, Bool, true, false, cond, List, [], ◌∷◌, ◌++◌, Option, None, Some, Contains, refl, sym, subst, ◌∙◌}
use Rattle.std.specs.List.{last_or}
use Rattle.std.specs.Option.{option_map_or}
use Rattle.pm_store.specs.Files.{Files}
use Rattle.pm_schema.specs.declared.schema.TableSchema.{TableSchema}
use Rattle.pm_snapshot.specs.declared.snapshot.Snapshot.{Snapshot}
use Rattle.pm_manifest.specs.Entries.{IsEntry}
use Rattle.pm_manifest.specs.FileId.{id_eq}
use Rattle.pm_manifest.specs.Live.{id_of, left_by, live_at}
use Rattle.pm_manifest.specs.Shape.{shape_of}
use Rattle.pm_manifest.specs.declared.entry.Entry as files
use Rattle.pm_manifest.specs.declared.file_id.FileId.{FileId}
use Rattle.pm_model_contents.specs.Named.{Contents, HasContents}
use Rattle.pm_model_contents.specs.Runs.{IsLive}
use Rattle.pm_model_folder.specs.Commits.{live_in}
use Rattle.pm_paths.proofs.ListLemmas.{here, more}
use Rattle.pm_made.proofs.EntryLemmas.{ReadEntries, read-entries}
use Rattle.pm_made.proofs.ListLemmas.{each-of}

-- two lists of entries leave what the second leaves after the first
abbrev pub LeftJoined : Type 0
LeftJoined = (before : Option files.Entry) (id : FileId) (first later : List files.Entry)
    → live_at before id (first ++ later) ≡ live_at (live_at before id first) id later

some-entry : (a b : files.Entry) → Some a ≡ Some b → a ≡ b
some-entry a b is = cc

one-left : (t add : Bool) (before : Option files.Entry) (x e : files.Entry) → cond t (cond add (Some x) None) before ≡ Some e
    → (before ≡ Some e) ⊎ (x ≡ e)
one-left true true before x e is = inr (some-entry x e is)
one-left true false before x e is = absurd (let no : None ≡ Some e = is in cc)
one-left false add before x e is = inl is

last-one : (before : Option files.Entry) (id : FileId) (x : files.Entry) → live_at before id (x ∷ []) ≡ cond (id_eq (id_of x) id) (cond x.add (Some x) None) before
last-one before id x = at (id_eq (id_of x) id)
  where
    at : (t : Bool) → option_map_or left_by (last_or None (cond t (x ∷ []) [])) before ≡ cond t (cond x.add (Some x) None) before
    at true = refl
    at false = refl

module _ (left : LeftJoined) (read : ReadEntries) where
  -- what is live was live before, or is one of the entries
  live-entry : (before : Option files.Entry) (id : FileId) (es : List files.Entry) (e : files.Entry) → live_at before id es ≡ Some e
      → (before ≡ Some e) ⊎ Contains es e
  live-entry before id [] e is = inl is
  live-entry before id (x ∷ es) e is = elim (live-entry (live_at before id (x ∷ [])) id es e (sym (left before id (x ∷ []) es) ∙ is)) as (λ _. (before ≡ Some e) ⊎ Contains (x ∷ es) e) [
    | inl first ↦ elim (one-left (id_eq (id_of x) id) x.add before x e (sym (last-one before id x) ∙ first)) as (λ _. (before ≡ Some e) ⊎ Contains (x ∷ es) e) [
      | inl was ↦ inl was
      | inr one ↦ inr (subst (Contains (x ∷ es)) one (here x es))
    ]
    | inr later ↦ inr (more x es e later)
  ]

  -- so it is of an entry that a manifest can have
  pub live-can : (f : Files) (s : TableSchema) (x : Snapshot) (c : Contents) → HasContents f s x c → (e : files.Entry) → IsLive (live_in c) e → IsEntry (shape_of s) e
  live-can f s x c has e live = elim (live-entry None (id_of e) c.entries e live) as (λ _. IsEntry (shape_of s) e) [
    | inl none ↦ absurd (let no : None ≡ Some e = none in cc)
    | inr there ↦ each-of (IsEntry (shape_of s)) c.entries e (read-entries read f s (c.base ++ c.delta) c.entries has.table.have) there
  ]
