-- Paths that begin with other words differ.
use Rattle.std.proofs.Common.{◌≡◌, ◌≢◌, ℕ, ◌≤◌, List, [], ◌∷◌, ◌++◌, drop, get_or, codes, sym, ap, ◌∙◌, append_assoc, arith}
use Rattle.std.specs.Fmt.{decimal}
use Rattle.std.specs.List.{AllByRecursion}
use Rattle.std.proofs.lemmas.Fmt.{decimal_injective}
use Rattle.std.proofs.lemmas.List.{append_cancel_left}
use Rattle.pm_values.specs.Order.{Values}
use Rattle.pm_schema.specs.Folder.{escaped, parts_text, value_text}
use Rattle.pm_values.specs.Names.{Naming, name_of}
use Rattle.pm_snapshot.specs.Names.{BasedFile, MayName, greatest, prefix_of, snapshot_name, suffix_of}
use Rattle.pm_model_folder.specs.Changes.{Actor, IsNamedBy, IsOwn, IsOwnFile, IsTableFolder, IsTablePath, bucket, its_file, its_origin, manifests}
use Rattle.pm_model_folder.specs.Paths.{schema_path, snapshot_file, snapshot_path, consumer_path, tag_path, changelog_path}

-- two texts with another byte at the same index
pub apart : (k : ℕ) (a b : List ℕ) → get_or a k 0 ≢ get_or b k 0 → a ≢ b
apart k a b differ e = differ (ap (λ (l : List ℕ). get_or l k 0) e)

-- ---- a file in the folder of snapshots, against the other folders

pub snapshot-schema : (name : List ℕ) (id : ℕ) → snapshot_file name ≢ schema_path id
snapshot-schema name id = apart 1 (snapshot_file name) (schema_path id) (λ (e : 110 ≡ 99). omega (arith, e))

pub consumer-snapshot : (name other : List ℕ) → consumer_path name ≢ snapshot_file other
consumer-snapshot name other = apart 0 (consumer_path name) (snapshot_file other) (λ (e : 99 ≡ 115). omega (arith, e))

pub tag-snapshot : (name other : List ℕ) → tag_path name ≢ snapshot_file other
tag-snapshot name other = apart 0 (tag_path name) (snapshot_file other) (λ (e : 116 ≡ 115). omega (arith, e))

pub changelog-snapshot : (id : ℕ) (other : List ℕ) → changelog_path id ≢ snapshot_file other
changelog-snapshot id other = apart 0 (changelog_path id) (snapshot_file other) (λ (e : 99 ≡ 115). omega (arith, e))

-- ---- a schema, against the other folders

pub consumer-schema : (name : List ℕ) (id : ℕ) → consumer_path name ≢ schema_path id
consumer-schema name id = apart 0 (consumer_path name) (schema_path id) (λ (e : 99 ≡ 115). omega (arith, e))

-- two schemas
pub other-schema : (id : ℕ) → id ≤ greatest → id ≢ 0 → schema_path id ≢ schema_path 0
other-schema id within other e =
    other (decimal_injective id 0 (omega (arith, within)) (omega arith) (append_cancel_left (codes "schema/schema-") (decimal id) (decimal 0) e))

-- two snapshots
pub other-snapshot : (a b : ℕ) → a ≤ greatest → b ≤ greatest → a ≢ b → snapshot_path a ≢ snapshot_path b
other-snapshot a b within bound other e =
    other (decimal_injective a b (omega (arith, within)) (omega (arith, bound)) (append_cancel_left (codes "snapshot/snapshot-") (decimal a) (decimal b) e))

-- an origin whose name is that of no snapshot
pub origin-other : (name : List ℕ) (id : ℕ) → name ≢ snapshot_name id → snapshot_file name ≢ snapshot_path id
origin-other name id other e = other (append_cancel_left (codes "snapshot/") name (snapshot_name id) e)

-- ---- a folder of files that snapshots name, against the other folders

-- a folder whose name has no `=` and begins with neither of these bytes
pub record IsOther (folder : List ℕ) : Type 0 where
  pub plain : AllByRecursion (λ b. b ≢ 61) folder
  pub no_manifest : (rest : List ℕ) → get_or (folder ++ 47 ∷ rest) 0 0 ≢ 109
  pub no_bucket : (rest : List ℕ) → get_or (folder ++ 47 ∷ rest) 0 0 ≢ 98

-- what stands before a `=` and has no slash isn't the name of such a folder with its slash
before-equals : (column folder more rest : List ℕ) → AllByRecursion (λ b. b ≢ 47) column → AllByRecursion (λ b. b ≢ 61) folder
    → column ++ 61 ∷ more ≢ folder ++ 47 ∷ rest
before-equals [] [] more rest p q e = let first : 61 ≡ 47 = ap (λ (l : List ℕ). get_or l 0 0) e in omega (arith, first)
before-equals [] (b ∷ folder) more rest p q e = q.0 (sym (ap (λ (l : List ℕ). get_or l 0 0) e))
before-equals (c ∷ column) [] more rest p q e = p.0 (ap (λ (l : List ℕ). get_or l 0 0) e)
before-equals (c ∷ column) (b ∷ folder) more rest p q e = before-equals column folder more rest p.1 q.1 (ap (drop 1) e)

bucket-apart : (columns : List (List ℕ)) (values : Values) (number : ℕ) (name other rest : List ℕ)
    → AllByRecursion (AllByRecursion (λ b. b ≢ 47)) columns → IsOther other
    → (parts_text columns values ++ (codes "bucket-" ++ decimal number)) ++ 47 ∷ name ≢ other ++ 47 ∷ rest
bucket-apart [] values number name other rest plain is e = is.no_bucket rest (sym (ap (λ (l : List ℕ). get_or l 0 0) e))
bucket-apart (column ∷ columns) [] number name other rest plain is e = is.no_bucket rest (sym (ap (λ (l : List ℕ). get_or l 0 0) e))
bucket-apart (column ∷ columns) (value ∷ values) number name other rest plain is e =
    let rest_of : List ℕ = escaped (value_text value) ++ 47 ∷ [] in
    let part : List ℕ = column ++ 61 ∷ rest_of in
    let parts : List ℕ = parts_text columns values in
    let bucket : List ℕ = codes "bucket-" ++ decimal number in
    let tail : List ℕ = 47 ∷ name in
    let joined : ((part ++ parts) ++ bucket) ++ tail ≡ column ++ 61 ∷ (rest_of ++ (parts ++ (bucket ++ tail))) =
    append_assoc (part ++ parts) bucket tail
    ∙ append_assoc part parts (bucket ++ tail)
    ∙ append_assoc column (61 ∷ rest_of) (parts ++ (bucket ++ tail)) in
    before-equals column other (rest_of ++ (parts ++ (bucket ++ tail))) rest plain.0 is.plain (sym joined ∙ e)

pub folder-apart : (folder name other rest : List ℕ) → IsTableFolder folder → IsOther other → folder ++ 47 ∷ name ≢ other ++ 47 ∷ rest
folder-apart folder name other rest manifests is e = is.no_manifest rest (sym (ap (λ (l : List ℕ). get_or l 0 0) e))
folder-apart folder name other rest (bucket s g plain) is e =
    bucket-apart s.partition g.partition g.bucket name other rest plain is e

pub other-snapshots : IsOther (codes "snapshot")
other-snapshots = record { plain = grind arith; no_manifest = λ rest e. omega (arith, e); no_bucket = λ rest e. omega (arith, e) }

pub other-schemas : IsOther (codes "schema")
other-schemas = record { plain = grind arith; no_manifest = λ rest e. omega (arith, e); no_bucket = λ rest e. omega (arith, e) }

pub other-consumers : IsOther (codes "consumer")
other-consumers = record { plain = grind arith; no_manifest = λ rest e. omega (arith, e); no_bucket = λ rest e. omega (arith, e) }

pub other-tags : IsOther (codes "tag")
other-tags = record { plain = grind arith; no_manifest = λ rest e. omega (arith, e); no_bucket = λ rest e. omega (arith, e) }

pub other-changelogs : IsOther (codes "changelog")
other-changelogs = record { plain = grind arith; no_manifest = λ rest e. omega (arith, e); no_bucket = λ rest e. omega (arith, e) }

pub other-floors : IsOther (codes "floor")
other-floors = record { plain = grind arith; no_manifest = λ rest e. omega (arith, e); no_bucket = λ rest e. omega (arith, e) }

-- a file that the actor named is in none of these
pub named-apart : (me : Actor) (path other rest : List ℕ) (by : IsNamedBy me path) → IsTableFolder by.folder → IsOther other
    → path ≢ other ++ 47 ∷ rest
named-apart me path other rest by in_table is e = folder-apart by.folder _ other rest in_table is (sym by.is ∙ e)

-- ---- a file that an actor named

-- among those that snapshots name it is in such a folder
pub own-in_table : (me : Actor) (base : ℕ) (path : List ℕ) → IsOwnFile me base path → IsTablePath path
own-in_table me base path own = record {
  folder = own.by.folder;
  name = name_of (prefix_of own.by.file) (suffix_of own.by.file) own.by.names;
  own = own.in_table;
  is = own.by.is;
}

-- the path of a file that a maker of names names tells its parts
abbrev pub PathParts : Type 0
PathParts = (folder other : List ℕ) (file more : BasedFile) (m n : Naming) → MayName m → MayName n
    → folder ++ 47 ∷ name_of (prefix_of file) (suffix_of file) m ≡ other ++ 47 ∷ name_of (prefix_of more) (suffix_of more) n
    → (folder ≡ other) × (file ≡ more) × (m ≡ n)

-- and so who named it
pub one-namer : PathParts → (me other : Actor) (path : List ℕ) → IsNamedBy me path → IsNamedBy other path → me ≡ other
one-namer parts me other path mine its =
    let same = parts mine.folder its.folder mine.file its.file mine.names its.names mine.may its.may (sym mine.is ∙ its.is) in
    let session : me.session ≡ other.session = sym mine.session ∙ ap (λ (n : Naming). n.session) same.2 ∙ its.session in
    let number : me.number ≡ other.number = sym mine.actor ∙ ap (λ (n : Naming). n.actor) same.2 ∙ its.actor in
    λ i. record { session = session i; number = number i }

-- ---- an actor's own files

-- a snapshot with an id is nobody's own
pub snapshot-own : (me : Actor) (path : List ℕ) (id : ℕ) → IsOwn me path → snapshot_path id ≢ path
snapshot-own me path id (its_origin own) e =
    let same = e ∙ own in
    let first : 115 ≡ 79 = ap (λ (l : List ℕ). get_or l 9 0) same in
    omega (arith, first)
snapshot-own me path id (its_file by in_table) e = named-apart me path (codes "snapshot") (snapshot_name id) by in_table other-snapshots (sym e)

pub schema-own : (me : Actor) (path : List ℕ) (id : ℕ) → IsOwn me path → schema_path id ≢ path
schema-own me path id (its_origin own) e = snapshot-schema _ id (sym (e ∙ own))
schema-own me path id (its_file by in_table) e = named-apart me path (codes "schema") (codes "schema-" ++ decimal id) by in_table other-schemas (sym e)

pub consumer-own : (me : Actor) (path name : List ℕ) → IsOwn me path → consumer_path name ≢ path
consumer-own me path name (its_origin own) e = consumer-snapshot name _ (e ∙ own)
consumer-own me path name (its_file by in_table) e = named-apart me path (codes "consumer") (codes "consumer-" ++ name) by in_table other-consumers (sym e)

pub tag-own : (me : Actor) (path name : List ℕ) → IsOwn me path → tag_path name ≢ path
tag-own me path name (its_origin own) e = tag-snapshot name _ (e ∙ own)
tag-own me path name (its_file by in_table) e = named-apart me path (codes "tag") (codes "tag-" ++ name) by in_table other-tags (sym e)

pub changelog-own : (me : Actor) (path : List ℕ) (id : ℕ) → IsOwn me path → changelog_path id ≢ path
changelog-own me path id (its_origin own) e = changelog-snapshot id _ (e ∙ own)
changelog-own me path id (its_file by in_table) e = named-apart me path (codes "changelog") (codes "changelog-" ++ decimal id) by in_table other-changelogs (sym e)
