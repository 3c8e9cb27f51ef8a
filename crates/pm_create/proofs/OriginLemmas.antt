-- The origin that an actor makes is a file that no snapshot needs.
use Rattle.std.proofs.Common.{◌≡◌, ◌≢◌, inl, inr, ℕ, Bool, true, false, true≢false, ◌&&◌, ◌||◌, not, nat_lt, nat_le, length, List, [], ◌∷◌, ◌++◌, codes, Ok, refl, sym, ap, ◌∙◌, subst, bytes_eq}
use Rattle.std.specs.Cmp.Lexicographic.{bytes_decides}
use Rattle.std.specs.List.{AllByRecursion, list_all, list_any}
use Rattle.std.proofs.lemmas.Bool.{and_parts}
use Rattle.pm_values.specs.declared.column.Column.{Column}
use Rattle.pm_store.specs.Files.{Files}
use Rattle.pm_schema.specs.Again.{IsDeclared}
use Rattle.pm_schema.specs.Folder.{folder_text}
use Rattle.pm_schema.specs.Reading.{schema_of}
use Rattle.pm_schema.specs.Rules.{begins_name, continues_name, differ, is_among, is_name, is_required, is_reserved, is_spelled, names_of, partition_holds, primary_holds}
use Rattle.pm_schema.specs.declared.schema.TableSchema.{TableSchema}
use Rattle.pm_snapshot.specs.declared.snapshot.Snapshot.{Snapshot}
use Rattle.pm_model_contents.specs.Named.{Contents, IsNamed, base_list, changelog_list, changes_file, data_file, delta_list, manifest}
use Rattle.pm_model_history.specs.History.{IsTableOf}
use Rattle.pm_model_folder.specs.Changes.{Actor, HavePlainNames, IsTableFolder, bucket, its_origin, manifests, origin_name}
use Rattle.pm_model_folder.specs.Ledger.{IsUnnamed, Past, Stands}
use Rattle.pm_model_folder.proofs.LedgerFacts.{at-table}
use Rattle.pm_model_folder.proofs.PathLemmas.{folder-apart, other-snapshots, snapshot-own, snapshot-schema}
use Rattle.pm_create.specs.Creator.{own_origin}

-- ---- the names of columns have no slash

abbrev IsPlain : List ℕ → Type 0
IsPlain name = AllByRecursion (λ b. b ≢ 47) name

no_begin : (b : ℕ) → begins_name b ≡ true → b ≢ 47
no_begin b is e = let clash : true ≡ false = sym is ∙ ap begins_name e in cc

no_part : (b : ℕ) → continues_name b ≡ true → b ≢ 47
no_part b is e = let clash : true ≡ false = sym is ∙ ap continues_name e in cc

plain_rest : (bytes : List ℕ) → list_all continues_name bytes ≡ true → IsPlain bytes
plain_rest [] all = tt
plain_rest (b ∷ bytes) all =
    let both = and_parts (continues_name b) (list_all continues_name bytes) all in
    (no_part b both.0, plain_rest bytes both.1)

plain_spelled : (name : List ℕ) → is_spelled name ≡ true → IsPlain name
plain_spelled [] is = tt
plain_spelled (b ∷ bytes) is =
    let both = and_parts (begins_name b) (list_all continues_name bytes) is in
    (no_begin b both.0, plain_rest bytes both.1)

plain_name : (name : List ℕ) → is_name name ≡ true → IsPlain name
plain_name name is = plain_spelled name (and_parts (is_spelled name) (nat_le (length name) 64 && not (is_reserved name)) is).0

-- so have those of the partition
required_plain : (columns : List Column) (name : List ℕ) → list_all is_name (names_of columns) ≡ true → is_required columns name ≡ true → IsPlain name
required_plain [] name named e = absurd (true≢false (sym e))
required_plain (c ∷ cs) name named e =
    let both = and_parts (is_name c.name) (list_all is_name (names_of cs)) named in
    by (plain_name c.name both.0) (λ later. required_plain cs name both.1 later) (bytes_eq c.name name) refl e
  where
    by : IsPlain c.name → (is_required cs name ≡ true → IsPlain name) → (b : Bool) → bytes_eq c.name name ≡ b
        → ((b && not c.nullable) || is_required cs name) ≡ true → IsPlain name
    by own rest true same e = subst IsPlain ((bytes_decides c.name name).0 same) own
    by own rest false other e = rest e

among_plain : (columns : List Column) (names : List (List ℕ)) (name : List ℕ) → list_all is_name (names_of columns) ≡ true
    → list_all (is_required columns) names ≡ true → is_among names name ≡ true → IsPlain name
among_plain columns [] name named all e = absurd (true≢false (sym e))
among_plain columns (n ∷ ns) name named all e =
    let both = and_parts (is_required columns n) (list_all (is_required columns) ns) all in
    by (required_plain columns n named both.0) (λ later. among_plain columns ns name named both.1 later) (bytes_eq n name) refl e
  where
    by : IsPlain n → (is_among ns name ≡ true → IsPlain name) → (b : Bool) → bytes_eq n name ≡ b → (b || is_among ns name) ≡ true → IsPlain name
    by own rest true same e = subst IsPlain ((bytes_decides n name).0 same) own
    by own rest false other e = rest e

all_plain : (columns : List Column) (primary partition : List (List ℕ)) → list_all is_name (names_of columns) ≡ true
    → list_all (is_required columns) primary ≡ true → list_all (is_among primary) partition ≡ true → AllByRecursion IsPlain partition
all_plain columns primary [] named all among = tt
all_plain columns primary (name ∷ names) named all among =
    let both = and_parts (is_among primary name) (list_all (is_among primary) names) among in
    (among_plain columns primary name named all both.0, all_plain columns primary names named all both.1)

plain_names : (s : TableSchema) → IsDeclared s → HavePlainNames s
plain_names s declared =
    let named : list_all is_name (names_of s.columns) ≡ true = declared.rules.0 in
    let primary : primary_holds s ≡ true = declared.rules.1.1.0 in
    let partition : partition_holds s ≡ true = declared.rules.1.1.1.0 in
    let keys = (and_parts (nat_lt 0 (length s.primary)) (list_all (is_required s.columns) s.primary && differ s.primary) primary).1 in
    let required = (and_parts (list_all (is_required s.columns) s.primary) (differ s.primary) keys).0 in
    let left = list_any (λ name. not (is_among s.partition name)) s.primary in
    let among = (and_parts (list_all (is_among s.primary) s.partition) (differ s.partition && left) partition).0 in
    all_plain s.columns s.primary s.partition named required among

-- ---- what a snapshot names is in no folder of snapshots

abbrev IsInFolder : List ℕ → Type 0
IsInFolder path = (folder name : List ℕ) × IsTableFolder folder × (path ≡ folder ++ 47 ∷ name)

in_folder : (s : TableSchema) (x : Snapshot) (c : Contents) (path : List ℕ) → HavePlainNames s → IsNamed s x c path → IsInFolder path
in_folder s x c path plain base_list = (codes "manifest", x.base_list, manifests, refl)
in_folder s x c path plain delta_list = (codes "manifest", x.delta_list, manifests, refl)
in_folder s x c path plain (changelog_list name is) = (codes "manifest", name, manifests, refl)
in_folder s x c path plain (manifest meta own) = (codes "manifest", meta.name, manifests, refl)
in_folder s x c path plain (data_file e own) = (folder_text s e.group, e.file.name, bucket s e.group plain, refl)
in_folder s x c path plain (changes_file e own) = (folder_text s e.group, e.file.name, bucket s e.group plain, refl)

-- what the laws of schemas say of what a file is read as
abbrev pub AreDeclared : Type 0
AreDeclared = (path text : List ℕ) (s : TableSchema) → schema_of path text ≡ Ok s → IsDeclared s

pub origin_unnamed : AreDeclared → (me : Actor) (f : Files) (p : Past) (s : TableSchema) → Stands f p → IsTableOf s p.history
    → IsUnnamed p s (own_origin me)
origin_unnamed law me f p s stands is id known (inl same) = snapshot-own me (own_origin me) id (its_origin refl) (sym same)
origin_unnamed law me f p s stands is id known (inr (inl (x, there, same))) = snapshot-schema (origin_name me) x.schema_id same
origin_unnamed law me f p s stands is id known (inr (inr (x, c, has, named))) =
    let own = at-table f p s stands is in
    let first = own.2.schema.first in
    let plain = plain_names s (law _ first.0 s first.2) in
    let at = in_folder s x c (own_origin me) plain named in
    folder-apart at.0 at.1 (codes "snapshot") (origin_name me) at.2 other-snapshots (sym at.3)
