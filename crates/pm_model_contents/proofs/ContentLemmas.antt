-- What a snapshot's files are: that it is one thing at most, and stays where the files stay; and live files that entries leave.
use Rattle.std.proofs.Common.{◌≡◌, ◌≢◌, ℕ, Bool, true, false, cond, List, [], ◌∷◌, ◌++◌, filter, Contains, Option, None, Some, IfSome, IsSome, Result, Ok, Err, refl, sym, ap, subst, ◌∙◌, ◌⊎◌, inl, inr, if◌then◌else◌}
use Rattle.std.specs.FinMap as finite
use Rattle.std.specs.List.{AllByRecursion, last_or}
use Rattle.std.specs.Option.{option_map_or}
use Rattle.pm_values.specs.declared.refusal.Refusal.{Refusal}
use Rattle.pm_values.specs.declared.refusal.Refusal.TheVariants.{Memory}
use Rattle.pm_store.specs.Files.{Files}
use Rattle.pm_avro_schema.specs.Avro.{Avro}
use Rattle.pm_record.specs.File.{Reading, ReadsFile}
use Rattle.pm_schema.specs.Folder.{FitsPartition}
use Rattle.pm_schema.specs.declared.schema.TableSchema.{TableSchema}
use Rattle.pm_snapshot.specs.declared.snapshot.Snapshot.{Snapshot}
use Rattle.pm_manifest.specs.Entries.{entry_in, has_entry_fields}
use Rattle.pm_manifest.specs.FileId.{id_eq}
use Rattle.pm_manifest.specs.Listed.{has_meta_fields, meta_in}
use Rattle.pm_manifest.specs.Live.{Leaves, Live, id_of, left_by, live_at}
use Rattle.pm_manifest.specs.Shape.{shape_of}
use Rattle.pm_manifest.specs.declared.entry.Entry.{Entry}
use Rattle.pm_manifest.specs.declared.entry.ManifestMeta.{ManifestMeta}
use Rattle.pm_manifest.specs.declared.file_id.FileId.{FileId}
use Rattle.pm_model_contents.specs.Groups.{AreNamed, HaveFolders}
use Rattle.pm_model_contents.specs.Lists.{HasChangelog, HaveEntries, IsList, IsManifest, manifest_path}
use Rattle.pm_model_contents.specs.Named.{Contents, HasContents, IsNamed, base_list, changelog_list, delta_list, manifest}
use Rattle.pm_model_contents.proofs.FileLemmas.{in-head, in-tail}

-- ---- one reading

-- bytes are read as one list of records at most
abbrev pub OneReading : Type 0 → Type 0
OneReading X = (takes : Avro → Bool) (reads : Reading X) (path bytes : List ℕ) (a b : Result (List X) Refusal) → ReadsFile takes reads path bytes a → ReadsFile takes reads path bytes b
    → a ≢ Err Memory → b ≢ Err Memory → a ≡ b

some-is : {X : Type 0} (a b : X) → Some a ≡ Some b → a ≡ b
some-is a b e = cc

abbrev ok : {X : Type 0} → X → Result X Refusal
ok x = Ok x

abbrev no_memory : (X : Type 0) → Result X Refusal
no_memory X = Err Memory

ok-is : {X : Type 0} (a b : X) → ok a ≡ ok b → a ≡ b
ok-is a b e = cc

ok-not : {X : Type 0} (a : X) → ok a ≢ no_memory X
ok-not a e = cc

module _ {X : Type 0} (law : OneReading X) (takes : Avro → Bool) (reads : Reading X) (path : List ℕ) (f : Files) where
  same-records : (first second : List ℕ) (xs ys : List X) → finite.get f path ≡ Some first → finite.get f path ≡ Some second
      → ReadsFile takes reads path first (Ok xs) → ReadsFile takes reads path second (Ok ys) → xs ≡ ys
  same-records first second xs ys here there read again =
      let same : second ≡ first = some-is second first (sym there ∙ here) in
      ok-is xs ys (law takes reads path first (Ok xs) (Ok ys) read (subst (λ bytes. ReadsFile takes reads path bytes (Ok ys)) same again) (ok-not xs) (ok-not ys))

module _ (lists : OneReading ManifestMeta) (manifests : OneReading Entry) (f : Files) (s : TableSchema) where
  same-list : (name : List ℕ) (xs ys : List ManifestMeta) → IsList f name xs → IsList f name ys → xs ≡ ys
  same-list name xs ys a b = same-records lists has_meta_fields meta_in (manifest_path name) f a.bytes b.bytes xs ys a.there b.there a.read b.read

  same-manifest : (name : List ℕ) (xs ys : List Entry) → IsManifest f s name xs → IsManifest f s name ys → xs ≡ ys
  same-manifest name xs ys a b =
      same-records manifests has_entry_fields (entry_in (shape_of s)) (manifest_path name) f a.bytes b.bytes xs ys a.there b.there a.read b.read

  same-entries : (metas : List ManifestMeta) (xs ys : List Entry) → HaveEntries f s metas xs → HaveEntries f s metas ys → xs ≡ ys
  same-entries [] xs ys a b = a ∙ sym b
  same-entries (meta ∷ metas) xs ys a b =
      a.2 ∙ ap (λ es. es ++ a.1) (same-manifest meta.name a.0 b.0 a.3 b.3) ∙ ap (λ es. b.0 ++ es) (same-entries metas a.1 b.1 a.4 b.4) ∙ sym b.2

  same-changes : (name : Option (List ℕ)) (metas more : List ManifestMeta) (xs ys : List Entry) → HasChangelog f s name metas xs → HasChangelog f s name more ys → (metas ≡ more) × (xs ≡ ys)
  same-changes None metas more xs ys a b = (a.0 ∙ sym b.0, a.1 ∙ sym b.1)
  same-changes (Some name) metas more xs ys a b =
      let same = same-list name metas more a.0 b.0 in
      (same, same-entries more xs ys (subst (λ ms. HaveEntries f s ms xs) same a.1) b.1)

  pub same-contents : (x : Snapshot) (c d : Contents) → HasContents f s x c → HasContents f s x d → c ≡ d
  same-contents x c d a b =
      let base = same-list x.base_list c.base d.base a.table.base_list b.table.base_list in
      let delta = same-list x.delta_list c.delta d.delta a.table.delta_list b.table.delta_list in
      let have : HaveEntries f s (d.base ++ d.delta) c.entries =
      subst (λ ms. HaveEntries f s (d.base ++ ms) c.entries) delta (subst (λ ms. HaveEntries f s (ms ++ c.delta) c.entries) base a.table.have) in
      let entries = same-entries (d.base ++ d.delta) c.entries d.entries have b.table.have in
      let changes = same-changes x.changelog_list c.changelog d.changelog c.changes d.changes a.changelog b.changelog in
      λ i. record { base = base i; delta = delta i; entries = entries i; changelog = changes.0 i; changes = changes.1 i }

-- ---- files that stay

module _ (f g : Files) where
  -- what is at a path stays there
  abbrev Stays : List ℕ → Type 0
  Stays path = (bytes : List ℕ) → finite.get f path ≡ Some bytes → finite.get g path ≡ Some bytes

  stay-list : (name : List ℕ) (metas : List ManifestMeta) → Stays (manifest_path name) → IsList f name metas → IsList g name metas
  stay-list name metas stays a = record { bytes = a.bytes; there = stays a.bytes a.there; read = a.read }

  module _ (s : TableSchema) where
    stay-entries : (metas : List ManifestMeta) (es : List Entry) → ((meta : ManifestMeta) → Contains metas meta → Stays (manifest_path meta.name))
        → HaveEntries f s metas es → HaveEntries g s metas es
    stay-entries [] es stay a = a
    stay-entries (meta ∷ metas) es stay a = (
      a.0,
      a.1,
      a.2,
      record { bytes = a.3.bytes; there = stay meta (in-head meta metas) a.3.bytes a.3.there; read = a.3.read },
      stay-entries metas a.1 (λ other there. stay other (in-tail meta metas other there)) a.4,
    )

    stay-changelog : (o : Option (List ℕ)) (metas : List ManifestMeta) (es : List Entry) → ((name : List ℕ) → o ≡ Some name → Stays (manifest_path name))
        → ((meta : ManifestMeta) → Contains metas meta → Stays (manifest_path meta.name)) → HasChangelog f s o metas es → HasChangelog g s o metas es
    stay-changelog None metas es lists stay a = a
    stay-changelog (Some name) metas es lists stay a = (stay-list name metas (lists name refl) a.0, stay-entries metas es stay a.1, a.2)

    -- where what is at the paths that a snapshot names stays, so does what they are
    stay-contents : (x : Snapshot) (c : Contents) → ((path : List ℕ) → IsNamed s x c path → Stays path) → HasContents f s x c → HasContents g s x c
    stay-contents x c stay a = record {
      table = record {
        base_list = stay-list x.base_list c.base (stay (manifest_path x.base_list) base_list) a.table.base_list;
        delta_list = stay-list x.delta_list c.delta (stay (manifest_path x.delta_list) delta_list) a.table.delta_list;
        have = stay-entries (c.base ++ c.delta) c.entries (λ meta there. stay (manifest_path meta.name) (manifest meta (inl there))) a.table.have;
        order = a.table.order;
      };
      changelog = stay-changelog x.changelog_list c.changelog c.changes (λ name is. stay (manifest_path name) (changelog_list name is))
          (λ meta there. stay (manifest_path meta.name) (manifest meta (inr there))) a.changelog;
    }

    pub named-contents : (x : Snapshot) (c : Contents) → ((path : List ℕ) → IsNamed s x c path → finite.get g path ≡ finite.get f path)
        → HasContents f s x c → HasContents g s x c
    named-contents x c same a = stay-contents x c (λ path named bytes there. same path named ∙ there) a

    pub kept-contents : (x : Snapshot) (c : Contents) → ((path : List ℕ) → IsSome (finite.get f path) → finite.get g path ≡ finite.get f path)
        → HasContents f s x c → HasContents g s x c
    kept-contents x c kept a = stay-contents x c (λ path named bytes there. kept path (subst IsSome (sym there) refl) ∙ there) a

-- ---- live files that entries leave

nothing : {X : Type 0} (x : X) → None ≡ Some x → ⊥
nothing x e = cc

pub none-named : (id : FileId) (e : Entry) → None ≡ Some e → id_of e ≡ id
none-named id e none = absurd (nothing e none)

pub none-folders : (s : TableSchema) (id : FileId) (e : Entry) → None ≡ Some e → FitsPartition s e.group
none-folders s id e none = absurd (nothing e none)

-- what is live of a file was live before, or is an ADD of the file
abbrev pub Whence : Type 0
Whence = (before : Option Entry) (id : FileId) (entries : List Entry) (e : Entry) → live_at before id entries ≡ Some e → (before ≡ Some e) ⊎ ((e.add ≡ true) × (id_of e ≡ id))

pub named-after : Whence → (before after : Live) (entries : List Entry) → AreNamed before → Leaves before entries after → AreNamed after
named-after whence before after entries named left id e is = elim (whence (before id) id entries e (sym (left id) ∙ is)) [
  | inl was ↦ named id e was
  | inr added ↦ added.1
]

module _ (P : Entry → Type 0) where
  last-all : (own : Entry → Bool) (o : Option Entry) (es : List Entry) → IfSome o P → AllByRecursion P es → IfSome (last_or o (filter own es)) P
  last-all own o [] first all = first
  last-all own o (e ∷ es) first all = by (last-all own (Some e) es all.0 all.1) (last-all own o es first all.1) (own e)
    where
      by : IfSome (last_or (Some e) (filter own es)) P → IfSome (last_or o (filter own es)) P → (b : Bool) → IfSome (last_or o (cond b (e ∷ filter own es) (filter own es))) P
      by it rest true = it
      by it rest false = rest

  left-all : (o before : Option Entry) → IfSome o P → IfSome before P → IfSome (option_map_or left_by o before) P
  left-all None before last was = was
  left-all (Some e) before last was = by e.add
    where
      by : (b : Bool) → IfSome (if b then Some e else None) P
      by true = last
      by false = tt

  -- what is live of a file has what all entries and the live one before have
  live-all : (before : Option Entry) (id : FileId) (es : List Entry) → IfSome before P → AllByRecursion P es → IfSome (live_at before id es) P
  live-all before id es was all =
      let own : Entry → Bool = λ e. id_eq (id_of e) id in
      left-all (last_or None (filter own es)) before (last-all own None es tt all) was

each-some : (P : Entry → Type 0) (o : Option Entry) → ((e : Entry) → o ≡ Some e → P e) → IfSome o P
each-some P None all = tt
each-some P (Some e) all = all e refl

pub folders-after : (s : TableSchema) (before after : Live) (entries : List Entry) → HaveFolders s before → AllByRecursion (λ (e : Entry). FitsPartition s e.group) entries
    → Leaves before entries after → HaveFolders s after
folders-after s before after entries folders all left id e is =
    let P : Entry → Type 0 = λ e. FitsPartition s e.group in
    subst (λ o. IfSome o P) (sym (left id) ∙ is) (live-all P (before id) id entries (each-some P (before id) (folders id)) all)
