-- The names of partition columns have no slash.
use Rattle.std.proofs.Common.{◌≡◌, ◌≢◌, ℕ, ◌&&◌, ◌||◌, Bool, true, false, not, nat_le, List, [], ◌∷◌, length}
use Rattle.std.proofs.Common.{refl, sym, ap, subst, ◌∙◌}
use Rattle.std.proofs.lemmas.Bool.{false≢true}
use Rattle.std.proofs.lemmas.Slice.Eq.{bytes_eq-Decides}
use Rattle.std.specs.List.{AllByRecursion, list_all, list_any}
use Rattle.std.specs.Str.{bytes_eq}
use Rattle.pm_values.specs.declared.column.Column.{Column}
use Rattle.pm_schema.specs.Again.{IsDeclared}
use Rattle.pm_schema.specs.Rules.{begins_name, continues_name, differ, is_among, is_name, is_required, is_reserved}
use Rattle.pm_schema.specs.Rules.{is_spelled, names_of}
use Rattle.pm_schema.specs.declared.schema.TableSchema.{TableSchema}
use Rattle.pm_partitions.specs.Names.{is_folder_byte}
use Rattle.pm_partitions.proofs.Names.{begun_byte, continued_bytes}
use Rattle.pm_partitions.proofs.Tests.{both}

-- ---- bytes

no_slash : (bs : List ℕ) → list_all is_folder_byte bs ≡ true → AllByRecursion (λ b. b ≢ 47) bs
no_slash [] all = tt
no_slash (b ∷ bs) all =
    let p = both (is_folder_byte b) (list_all is_folder_byte bs) all in
    (λ same. false≢true (sym (ap is_folder_byte same) ∙ p.0), no_slash bs p.1)

name_plain : (name : List ℕ) → is_name name ≡ true → AllByRecursion (λ b. b ≢ 47) name
name_plain [] named = tt
name_plain (b ∷ bs) named =
    let spelled = (both (is_spelled (b ∷ bs)) (nat_le (length (b ∷ bs)) 64 && not (is_reserved (b ∷ bs))) named).0 in
    let p = both (begins_name b) (list_all continues_name bs) spelled in
    (λ same. false≢true (sym (ap is_folder_byte same) ∙ begun_byte b p.0), no_slash bs (continued_bytes bs p.1))

-- ---- the names of columns

required_named : (columns : List Column) (name : List ℕ) → list_all is_name (names_of columns) ≡ true
    → is_required columns name ≡ true → is_name name ≡ true
required_named [] name all found = absurd (false≢true found)
required_named (c ∷ columns) name all found =
    let p = both (is_name c.name) (list_all is_name (names_of columns)) all in
    step (bytes_eq c.name name) (not c.nullable) refl p.0 (required_named columns name p.1) found
  where
    step : (same required : Bool) → bytes_eq c.name name ≡ same → is_name c.name ≡ true
        → (is_required columns name ≡ true → is_name name ≡ true)
        → ((same && required) || is_required columns name) ≡ true → is_name name ≡ true
    step true required e first rest found =
        subst (λ (n : List ℕ). is_name n ≡ true) ((bytes_eq-Decides c.name name).0 e) first
    step false required e first rest found = rest found

among_named : (P : List ℕ → Bool) (names : List (List ℕ)) (name : List ℕ) → list_all P names ≡ true
    → is_among names name ≡ true → P name ≡ true
among_named P [] name all among = absurd (false≢true among)
among_named P (n ∷ names) name all among =
    let p = both (P n) (list_all P names) all in
    step (bytes_eq n name) refl p.0 (among_named P names name p.1) among
  where
    step : (same : Bool) → bytes_eq n name ≡ same → P n ≡ true → (is_among names name ≡ true → P name ≡ true)
        → (same || is_among names name) ≡ true → P name ≡ true
    step true e first rest among = subst (λ (m : List ℕ). P m ≡ true) ((bytes_eq-Decides n name).0 e) first
    step false e first rest among = rest among

all_plain : (columns : List Column) (primary names : List (List ℕ)) → list_all is_name (names_of columns) ≡ true
    → list_all (is_required columns) primary ≡ true → list_all (is_among primary) names ≡ true
    → AllByRecursion (λ name. AllByRecursion (λ b. b ≢ 47) name) names
all_plain columns primary [] named required among = tt
all_plain columns primary (n ∷ names) named required among =
    let p = both (is_among primary n) (list_all (is_among primary) names) among in
    let is : is_required columns n ≡ true = among_named (is_required columns) primary n required p.0 in
    (name_plain n (required_named columns n named is), all_plain columns primary names named required p.1)

pub plain_names : (s : TableSchema) → IsDeclared s
    → AllByRecursion (λ name. AllByRecursion (λ b. b ≢ 47) name) s.partition
plain_names s is =
    let primary = (both _ (list_all (is_required s.columns) s.primary && differ s.primary) is.rules.1.1.0).1 in
    let required = (both (list_all (is_required s.columns) s.primary) (differ s.primary) primary).0 in
    let among = (both (list_all (is_among s.primary) s.partition)
    (differ s.partition && list_any (λ name. not (is_among s.partition name)) s.primary) is.rules.1.1.1.0).0 in
    all_plain s.columns s.primary s.partition is.rules.0 required among
