-- A text is read as a schema exactly where it declares the schema.
use Rattle.std.proofs.Common.{◌≡◌, ℕ, suc, ◌+◌, ◌≤◌, ℤ, Bool, true, false, cond, nat_lt, List, [], ◌∷◌, map, length, codes, Option, Some, None, option_and_then, Result, Ok, ok_or, IsTrue, refl, sym, ap, subst, ◌∙◌, rules}
use Rattle.std.proofs.lemmas.Bool.Decides.{nat_tests}
use Rattle.std.proofs.lemmas.Bool.{ltb-false}
use Rattle.std.proofs.lemmas.Slice.Eq.{bytes_eq-Decides}
use Rattle.std.specs.List.{AllByRecursion, AllZip}
use Rattle.std.specs.Prelude.{⊤}
use Rattle.std.specs.Str.{bytes_eq}
use Rattle.pm_base.specs.Outcome.{◌>>=◌}
use Rattle.pm_base.proofs.Laws.{step_ok}
use Rattle.pm_options.specs.Entries.{entry_at}
use Rattle.pm_options.specs.Faults.{first_of, judged}
use Rattle.pm_options.specs.Options.{options_in}
use Rattle.pm_options.specs.Pairs.{pair_fault}
use Rattle.pm_options.specs.Reading.{options_of, setting_fault}
use Rattle.pm_options.proofs.Judging.{all_none, judged_none, none_all}
use Rattle.pm_values.specs.declared.column.ColType.{ColType}
use Rattle.pm_values.specs.declared.column.ColType.TheVariants as types
use Rattle.pm_values.specs.declared.column.Column.{Column}
use Rattle.pm_values.specs.declared.refusal.Refusal.{Refusal}
use Rattle.pm_values.specs.declared.refusal.Refusal.TheVariants.{Damaged, Limit, SchemaRule, Unsupported}
use Rattle.pm_values.specs.declared.refusal.Why.TheVariants as whys
use Rattle.pm_schema.specs.ColumnType.{ColumnType, Field, all_types, column_in, column_of, columns_in, type_in, type_text}
use Rattle.pm_schema.specs.Meaning.{Declares, DraftOf, IsColumn, SchemaOf}
use Rattle.pm_schema.specs.Reading.{bad_draft, columns_fault, draft_of, file_at, most_columns, schema_from, schema_of, schema_with}
use Rattle.pm_schema.specs.Rules.{all_rules, broken, meets, number_of, rule_fault}
use Rattle.pm_schema.specs.Stated.{Draft, Stated, at_path, draft_in, file_in, json_of, numbered, schema_path, stated_of, with_missing}
use Rattle.pm_schema.specs.declared.rules.Rule.{Rule}
use Rattle.pm_schema.specs.declared.schema.TableSchema.{TableSchema}

-- ---- steps

ok_or_some : {A : Type 0} (o : Option A) (e : Refusal) (x : A) → ok_or o e ≡ Ok x → o ≡ Some x
ok_or_some None e x is = cc
ok_or_some (Some y) e x is = let same : y ≡ x = cc in ap Some same

-- ---- types

named_at : (b : Bool) (t : ColumnType) (rest : Option ColumnType) (found : ColumnType) (text : List ℕ) → bytes_eq (type_text t) text ≡ b
    → (rest ≡ Some found → type_text found ≡ text) → cond b (Some t) rest ≡ Some found → type_text found ≡ text
named_at true t rest found text is later here =
    let same : t ≡ found = cc in ap type_text (sym same) ∙ (bytes_eq-Decides (type_text t) text).0 is
named_at false t rest found text is later here = later here

named : (all : List ColumnType) (text : List ℕ) (found : ColumnType) → entry_at text (map (λ t. (type_text t, t)) all) ≡ Some found → type_text found ≡ text
named [] text found is = cc
named (t ∷ all) text found is = named_at (bytes_eq (type_text t) text) t _ found text refl (named all text found) is

-- a type that is found has the text
pub type_text-type_in : (text : List ℕ) (found : ColumnType) → type_in text ≡ Some found → type_text found ≡ text
type_text-type_in text found is = named all_types text found is

-- each type is found by its text
pub type_in-type_text : (kind : ColType) (nullable : Bool) → type_in (type_text (kind, nullable)) ≡ Some (kind, nullable)
type_in-type_text types.Boolean true = refl
type_in-type_text types.Boolean false = refl
type_in-type_text types.TinyInt true = refl
type_in-type_text types.TinyInt false = refl
type_in-type_text types.SmallInt true = refl
type_in-type_text types.SmallInt false = refl
type_in-type_text types.Int true = refl
type_in-type_text types.Int false = refl
type_in-type_text types.BigInt true = refl
type_in-type_text types.BigInt false = refl
type_in-type_text types.Text true = refl
type_in-type_text types.Text false = refl
type_in-type_text types.Bytes true = refl
type_in-type_text types.Bytes false = refl
type_in-type_text types.Date true = refl
type_in-type_text types.Date false = refl
type_in-type_text types.Timestamp true = refl
type_in-type_text types.Timestamp false = refl

-- ---- columns

is_column : (required : List (List ℕ)) (field : Field) (c : Column) → column_in required field ≡ Ok c → IsColumn required field c
is_column required field c is =
    let step = step_ok (ok_or (type_in field.2) (Unsupported (codes "type") field.2)) (λ t. Ok (column_of required field t)) c is in
    let t = step.0 in
    let found = ok_or_some (type_in field.2) _ t step.1 in
    let same : column_of required field t ≡ c = let last = step.2 in cc in
    subst (IsColumn required field) same (record {
      id = refl;
      name = refl;
      text = (t.1, type_text-type_in field.2 t found, refl);
    })

column_is : (required : List (List ℕ)) (field : Field) (c : Column) → IsColumn required field c → column_in required field ≡ Ok c
column_is required field c is =
    let nullable = is.text.0 in
    let t : ColumnType = (c.kind, nullable) in
    let found : type_in field.2 ≡ Some t = ap type_in (sym is.text.1) ∙ type_in-type_text c.kind nullable in
    let same : column_of required field t ≡ c = λ i. record { id = (sym is.id) i; name = (sym is.name) i; kind = c.kind; nullable = (sym is.text.2) i } in
    ap (λ o. ok_or o (Unsupported (codes "type") field.2) >>= λ u. Ok (column_of required field u)) found ∙ ap Ok same

pub are_columns : (required : List (List ℕ)) (fields : List Field) (cs : List Column) → columns_in required fields ≡ Ok cs → AllZip (IsColumn required) fields cs
are_columns required [] [] is = tt
are_columns required [] (c ∷ cs) is = cc
are_columns required (field ∷ fields) cs is =
    let first = step_ok (column_in required field) (λ c. columns_in required fields >>= λ more. Ok (c ∷ more)) cs is in
    let then = step_ok (columns_in required fields) (λ more. Ok (first.0 ∷ more)) cs first.2 in
    let same : first.0 ∷ then.0 ≡ cs = let last = then.2 in cc in
    subst (AllZip (IsColumn required) (field ∷ fields)) same (is_column required field first.0 first.1, are_columns required fields then.0 then.1)

pub columns_are : (required : List (List ℕ)) (fields : List Field) (cs : List Column) → AllZip (IsColumn required) fields cs → columns_in required fields ≡ Ok cs
columns_are required [] [] all = refl
columns_are required [] (c ∷ cs) all = absurd all
columns_are required (field ∷ fields) [] all = absurd all
columns_are required (field ∷ fields) (c ∷ cs) all =
    ap (λ r. r >>= λ x. columns_in required fields >>= λ more. Ok (x ∷ more)) (column_is required field c all.0)
    ∙ ap (λ r. r >>= λ more. Ok (c ∷ more)) (columns_are required fields cs all.1)

-- ---- rules

met_at : (b : Bool) (e : Refusal) → cond b None (Some e) ≡ None → b ≡ true
met_at true e is = refl
met_at false e is = cc

all_met : (s : TableSchema) (rules : List Rule) → AllByRecursion (λ rule. broken s rule ≡ None) rules → AllByRecursion (λ rule. IsTrue (meets rule s)) rules
all_met s [] all = tt
all_met s (rule ∷ rules) all = (met_at (meets rule s) _ all.0, all_met s rules all.1)

pub met_all : (s : TableSchema) (rules : List Rule) → AllByRecursion (λ rule. IsTrue (meets rule s)) rules → AllByRecursion (λ rule. broken s rule ≡ None) rules
met_all s [] all = tt
met_all s (rule ∷ rules) all = (ap (λ b. cond b None (Some (SchemaRule (number_of rule)))) all.0, met_all s rules all.1)

-- ---- the schema of what is stated

few_at : (b : Bool) (e : Refusal) → cond b (Some e) None ≡ None → b ≡ false
few_at true e is = cc
few_at false e is = refl

pub few : (n : ℕ) (u : ⊤) → judged (columns_fault n) ≡ Ok u → n ≤ most_columns
few n u is = ltb-false most_columns n (few_at (nat_lt most_columns n) _ (judged_none (columns_fault n) u is))

pub declares : (stated : Stated) (columns : List Column) (s : TableSchema) → length stated.fields ≤ most_columns → schema_from stated columns ≡ Ok s → Declares stated columns s
unfolding schema_from options_of
declares stated columns s small is =
    let settings = stated.settings in
    let first = step_ok (options_of settings) (λ o. judged (rule_fault (schema_with stated columns o)) >>= λ rules. Ok (schema_with stated columns o)) s is in
    let texts = step_ok (judged (first_of setting_fault settings)) (λ texts. judged (pair_fault (options_in settings)) >>= λ pairs. Ok (options_in settings)) first.0 first.1 in
    let pairs = step_ok (judged (pair_fault (options_in settings))) (λ pairs. Ok (options_in settings)) first.0 texts.2 in
    let same : options_in settings ≡ first.0 = let last = pairs.2 in cc in
    let rules = step_ok (judged (rule_fault (schema_with stated columns first.0))) (λ rules. Ok (schema_with stated columns first.0)) s first.2 in
    let made = schema_with stated columns first.0 in
    let whole : made ≡ s = let last = rules.2 in cc in
    let met = all_met made all_rules (all_none (broken made) all_rules (judged_none (rule_fault made) rules.0 rules.1)) in
    record {
      few = small;
      texts = all_none setting_fault settings (judged_none (first_of setting_fault settings) texts.0 texts.1);
      pairs = judged_none (pair_fault (options_in settings)) pairs.0 pairs.1;
      schema = sym whole ∙ ap (schema_with stated columns) (sym same);
      rules = subst (λ t. AllByRecursion (λ rule. IsTrue (meets rule t)) all_rules) whole met;
    }

pub declared : (stated : Stated) (columns : List Column) (s : TableSchema) → Declares stated columns s → schema_from stated columns ≡ Ok s
unfolding schema_from options_of
declared stated columns s is =
    let settings = stated.settings in
    let o = options_in settings in
    let texts = none_all setting_fault settings is.texts in
    let rules : rule_fault (schema_with stated columns o) ≡ None =
    none_all (broken (schema_with stated columns o)) all_rules (met_all (schema_with stated columns o) all_rules (subst (λ t. AllByRecursion (λ rule. IsTrue (meets rule t)) all_rules) is.schema is.rules)) in
    ap (λ f. judged f >>= (λ texts. judged (pair_fault o) >>= λ pairs. Ok o) >>= λ p. judged (rule_fault (schema_with stated columns p)) >>= λ rules. Ok (schema_with stated columns p)) texts
    ∙ ap (λ f. judged f >>= (λ pairs. Ok o) >>= λ p. judged (rule_fault (schema_with stated columns p)) >>= λ rules. Ok (schema_with stated columns p)) is.pairs
    ∙ ap (λ f. judged f >>= λ rules. Ok (schema_with stated columns o)) rules
    ∙ ap Ok (sym is.schema)

small_at : (n : ℕ) → n ≤ most_columns → nat_lt most_columns n ≡ false
small_at n small = search (rules, nat_tests)

pub fits : (n : ℕ) → n ≤ most_columns → judged (columns_fault n) ≡ Ok tt
fits n small = ap (λ b. judged (cond b (Some (Limit (codes "columns") most_columns)) None)) (small_at n small)

-- ---- files

stated_at : (b : Bool) (f stated : Stated) → cond b (Some f) None ≡ Some stated → (b ≡ true) × (f ≡ stated)
stated_at true f stated is = (refl, cc)
stated_at false f stated is = cc

file_parts : (path : List ℕ) (o : Option Stated) (stated : Stated) → option_and_then (at_path path) o ≡ Some stated → (o ≡ Some stated) × (path ≡ schema_path stated.id)
file_parts path None stated is = cc
file_parts path (Some f) stated is =
    let parts = stated_at (bytes_eq (schema_path f.id) path) f stated is in
    (ap Some parts.1, sym ((bytes_eq-Decides (schema_path f.id) path).0 parts.0) ∙ ap (λ g. schema_path g.id) parts.1)

pub schema_of-SchemaOf : (path text : List ℕ) (s : TableSchema) → schema_of path text ≡ Ok s → SchemaOf path text s
unfolding schema_of
schema_of-SchemaOf path text s is =
    let json = step_ok (ok_or (json_of text) (Damaged path 0)) _ s is in
    let d = json.0 in
    let file = step_ok (ok_or (file_at path d) (Damaged path 0)) _ s json.2 in
    let stated = file.0 in
    let count = step_ok (judged (columns_fault (length stated.fields))) _ s file.2 in
    let columns = step_ok (columns_in [] stated.fields) _ s count.2 in
    let parts = file_parts path (file_in d) stated (ok_or_some (file_at path d) _ stated file.1) in (
      d,
      stated,
      columns.0,
      ok_or_some (json_of text) _ d json.1,
      parts.0,
      parts.1,
      are_columns [] stated.fields columns.0 columns.1,
      declares (with_missing stated) columns.0 s (few (length stated.fields) count.0 count.1) columns.2,
    )

-- what follows once it is known what a file states
abbrev from_file : Stated → Result TableSchema Refusal
from_file stated = judged (columns_fault (length stated.fields)) >>= λ few. columns_in [] stated.fields >>= λ cs. schema_from (with_missing stated) cs

pub SchemaOf-schema_of : (path text : List ℕ) (s : TableSchema) → SchemaOf path text s → schema_of path text ≡ Ok s
unfolding schema_of
SchemaOf-schema_of path text s (d, stated, columns, json, file, at, are, is) =
    let own : bytes_eq (schema_path stated.id) path ≡ true = (bytes_eq-Decides (schema_path stated.id) path).1 (sym at) in
    let found : file_at path d ≡ Some stated = ap (option_and_then (at_path path)) file ∙ ap (λ b. cond b (Some stated) None) own in
    ap (λ o. ok_or o (Damaged path 0) >>= λ e. ok_or (file_at path e) (Damaged path 0) >>= from_file) json
    ∙ ap (λ o. ok_or o (Damaged path 0) >>= from_file) found
    ∙ ap (λ r. r >>= λ few. columns_in [] stated.fields >>= λ cs. schema_from (with_missing stated) cs) (fits (length stated.fields) is.few)
    ∙ ap (λ r. r >>= λ cs. schema_from (with_missing stated) cs) (columns_are [] stated.fields columns are)
    ∙ declared (with_missing stated) columns s is

pub one_schema : (path text : List ℕ) (s t : TableSchema) → SchemaOf path text s → SchemaOf path text t → s ≡ t
one_schema path text s t is was =
    let both : ◌≡◌ {A = Result TableSchema Refusal} (Ok s) (Ok t) = sym (SchemaOf-schema_of path text s is) ∙ SchemaOf-schema_of path text t was in cc

-- ---- drafts

pub same_count : (n : ℕ) (fields : List (List ℕ × List ℕ)) → length (numbered n fields) ≡ length fields
same_count n [] = refl
same_count n (f ∷ fields) = ap suc (same_count (n + 1) fields)

pub draft_of-DraftOf : (line origin : List ℕ) (now : ℤ) (s : TableSchema) → draft_of line origin now ≡ Ok s → DraftOf line origin now s
unfolding draft_of
draft_of-DraftOf line origin now s is =
    let json = step_ok (ok_or (json_of line) (bad_draft whys.Json)) _ s is in
    let d = json.0 in
    let found = step_ok (ok_or (draft_in d) (bad_draft whys.Draft)) _ s json.2 in
    let draft = found.0 in
    let count = step_ok (judged (columns_fault (length draft.fields))) _ s found.2 in
    let stated = stated_of draft origin now in
    let columns = step_ok (columns_in draft.primary stated.fields) _ s count.2 in
    let small = subst (λ n. n ≤ most_columns) (sym (same_count 0 draft.fields)) (few (length draft.fields) count.0 count.1) in (
      d,
      draft,
      columns.0,
      ok_or_some (json_of line) _ d json.1,
      ok_or_some (draft_in d) _ draft found.1,
      are_columns draft.primary stated.fields columns.0 columns.1,
      declares stated columns.0 s small columns.2,
    )

-- what follows once it is known what a draft states
abbrev from_draft : List ℕ → ℤ → Draft → Result TableSchema Refusal
from_draft origin now draft =
    judged (columns_fault (length draft.fields)) >>= λ few. columns_in draft.primary (stated_of draft origin now).fields >>= λ cs. schema_from (stated_of draft origin now) cs

pub DraftOf-draft_of : (line origin : List ℕ) (now : ℤ) (s : TableSchema) → DraftOf line origin now s → draft_of line origin now ≡ Ok s
unfolding draft_of
DraftOf-draft_of line origin now s (d, draft, columns, json, found, are, is) =
    let stated = stated_of draft origin now in
    let small = subst (λ n. n ≤ most_columns) (same_count 0 draft.fields) is.few in
    ap (λ o. ok_or o (bad_draft whys.Json) >>= λ e. ok_or (draft_in e) (bad_draft whys.Draft) >>= from_draft origin now) json
    ∙ ap (λ o. ok_or o (bad_draft whys.Draft) >>= from_draft origin now) found
    ∙ ap (λ r. r >>= λ few. columns_in draft.primary stated.fields >>= λ cs. schema_from stated cs) (fits (length draft.fields) small)
    ∙ ap (λ r. r >>= λ cs. schema_from stated cs) (columns_are draft.primary stated.fields columns are)
    ∙ declared stated columns s is
