-- What a file or a draft declares can be declared, and what is written of it declares it again.
use Rattle.std.proofs.Common.{◌≡◌, ℕ, suc, ◌+◌, ◌^◌, ◌<◌, ◌≤◌, ◌&&◌, ℤ, pos, Bool, true, false, cond, nat_lt, List, [], ◌∷◌, ◌++◌, map, length, take, drop, codes, is_some, Option, Some, None, Ok, Ordering, Less, Equal, Greater, IsTrue, refl, sym, ap, subst, ◌∙◌, arith, rules, is_eq}
use Rattle.std.proofs.lemmas.Bool.Decides.{nat_tests}
use Rattle.std.proofs.lemmas.Cmp.{nat_list_cmp_total}
use Rattle.std.proofs.lemmas.Map.Text.{is_eq-slice_cmp}
use Rattle.std.proofs.lemmas.Option.{same_Some}
use Rattle.std.specs.BTreeMap.{insert_entry}
use Rattle.std.specs.Int.{w64}
use Rattle.std.specs.List.{AllByRecursion, AllZip, prefix_len}
use Rattle.std.specs.Ordering.{is_lt, match_ordering, ordering_reverse}
use Rattle.std.specs.Prelude.{FitsSigned}
use Rattle.std.specs.Str.{bytes_eq}
use Rattle.serde_json.specs.Data.{Data, Num, Items, unsigned, negative, float, null, boolean, number, string, array, object, no_items, item}
use Rattle.serde_json.specs.Find.{get, as_i64, as_number}
use Rattle.pm_base.specs.Outcome.{◌>>=◌}
use Rattle.pm_options.specs.Entries.{entry_at}
use Rattle.pm_options.specs.Faults.{judged}
use Rattle.pm_options.specs.Fields.{by_name}
use Rattle.pm_options.specs.Options.{options_in}
use Rattle.pm_options.specs.Pairs.{pair_fault}
use Rattle.pm_options.specs.Reading.{options_of, setting_fault}
use Rattle.pm_options.specs.Settings.{filled, is_below, placed}
use Rattle.pm_options.specs.Stands.{Rises}
use Rattle.pm_options.specs.Table.{Setting}
use Rattle.pm_options.specs.Written.{settings_of}
use Rattle.pm_values.specs.declared.column.Column.{Column}
use Rattle.pm_schema.specs.Again.{IsDeclared, field_of, stated_again}
use Rattle.pm_schema.specs.ColumnType.{Field}
use Rattle.pm_schema.specs.Meaning.{Declares, DraftOf, IsColumn, SchemaOf}
use Rattle.pm_schema.specs.Reading.{most_columns, schema_from, schema_with}
use Rattle.pm_schema.specs.Rules.{all_rules, meets, rule_fault, broken}
use Rattle.pm_schema.specs.Stated.{Draft, Stated, all_in, comment_in, draft_in, field_in, field_list, file_in, json_of, named_in, numbered, origin_in, partition_or, schema_path, settings_at, settings_or, short_at, stated_of, texts_at, time_at, whole_at, with_missing}
use Rattle.pm_schema.specs.declared.schema.TableSchema.{TableSchema}
use Rattle.pm_options.proofs.EntryLemmas.{insert_rises}
use Rattle.pm_options.proofs.Judging.{none_all}
use Rattle.pm_options.proofs.LookupLemmas.{bucket_stands, format_stands}
use Rattle.pm_options.proofs.StandsLemmas.{options_of-Stands}
use Rattle.pm_options.proofs.WrittenLemmas.{options_of-written}
use Rattle.pm_schema.proofs.LawLemmas.{declares, met_all, same_count}
use Rattle.pm_schema.proofs.OrderLemmas.{HasTidyParts, IsFit, IsTidy, json_of-parts, order, settings_at-rise, settings_or-rise}
use Rattle.pm_schema.proofs.Steps.{and_then_parts}

-- ---- settings that are filled in

differs_at : (b : Bool) (x : List ℕ) (rest : Option (List ℕ)) → is_some (cond b (Some x) rest) ≡ false → b ≡ false
differs_at true x rest none = absurd cc
differs_at false x rest none = refl

later_at : (b : Bool) (x : List ℕ) (rest : Option (List ℕ)) → is_some (cond b (Some x) rest) ≡ false → is_some rest ≡ false
later_at true x rest none = absurd cc
later_at false x rest none = none

one_more : (n : ℕ) → 1 + n ≡ suc n
one_more n = omega arith

placed_step : (b : Bool) (s e : Setting) (es : List Setting) (n : ℕ) → take (cond b (1 + n) 0) (e ∷ es) ++ s ∷ drop (cond b (1 + n) 0) (e ∷ es) ≡ cond b (e ∷ (take n es ++ s ∷ drop n es)) (s ∷ e ∷ es)
placed_step true s e es n = ap (λ m. take m (e ∷ es) ++ s ∷ drop m (e ∷ es)) (one_more n)
placed_step false s e es n = refl

insert_at : (o : Ordering) (s e : Setting) (es more : List Setting) → is_eq o ≡ false
    → cond (is_lt o) (e ∷ more) (s ∷ e ∷ es) ≡ match_ordering (ordering_reverse o) (s ∷ e ∷ es) ((e.0, s.1) ∷ es) (e ∷ more)
insert_at Less s e es more apart = refl
insert_at Equal s e es more apart = absurd cc
insert_at Greater s e es more apart = refl

-- a setting whose key doesn't stand is put where a map would put it
placed_insert : (s : Setting) (ss : List Setting) → is_some (entry_at s.0 ss) ≡ false → placed s ss ≡ insert_entry order ss s.0 s.1
placed_insert s [] none = refl
placed_insert s (e ∷ es) none =
    let apart = is_eq-slice_cmp e.0 s.0 ∙ differs_at (bytes_eq e.0 s.0) e.1 (entry_at s.0 es) none in
    placed_step (is_below s.0 e) s e es (prefix_len (is_below s.0) es)
    ∙ ap (λ more. cond (is_below s.0 e) (e ∷ more) (s ∷ e ∷ es)) (placed_insert s es (later_at (bytes_eq e.0 s.0) e.1 (entry_at s.0 es) none))
    ∙ insert_at (order e.0 s.0) s e es (insert_entry order es s.0 s.1) apart
    ∙ ap (λ o. match_ordering o (s ∷ e ∷ es) ((e.0, s.1) ∷ es) (e ∷ insert_entry order es s.0 s.1)) (sym (nat_list_cmp_total.antisymm s.0 e.0))

filled_rises : (s : Setting) (ss : List Setting) → Rises ss → Rises (filled s ss)
filled_rises s ss rises = filled_at (is_some (entry_at s.0 ss)) refl
  where
    filled_at : (b : Bool) → is_some (entry_at s.0 ss) ≡ b → Rises (cond b ss (placed s ss))
    filled_at true is = rises
    filled_at false is = subst Rises (sym (placed_insert s ss is)) (insert_rises s.0 s.1 ss rises)

filled_there : (s : Setting) (ss : List Setting) → is_some (entry_at s.0 ss) ≡ true → filled s ss ≡ ss
filled_there s ss is = ap (λ b. cond b ss (placed s ss)) is

-- ---- what a file states

small_at : (b : Bool) (m n : ℕ) → nat_lt m (2 ^ 32) ≡ b → cond b (Some m) None ≡ Some n → n < 2 ^ 32
small_at true m n small is = let same : m ≡ n = cc in subst (λ k. k < 2 ^ 32) same (search (rules, nat_tests))
small_at false m n small is = absurd cc

short_small : (key : List ℕ) (d : Data) (n : ℕ) → short_at key d ≡ Some n → n < 2 ^ 32
short_small key d n is = let parts = and_then_parts (λ m. cond (nat_lt m (2 ^ 32)) (Some m) None) (whole_at key d) n is in small_at (nat_lt parts.0 (2 ^ 32)) parts.0 n refl parts.2

-- fields whose ids fit 32 bits
abbrev AreSmall : List Field → Type 0
AreSmall = AllByRecursion (λ f. f.0 < 2 ^ 32)

field_small : (d : Data) (f : Field) → field_in d ≡ Some f → f.0 < 2 ^ 32
field_small d f is =
    let id = and_then_parts _ (short_at (codes "id") d) f is in
    let named = and_then_parts _ (named_in d) f id.2 in
    let same : (id.0, named.0.0, named.0.1) ≡ f = let last = named.2 in cc in
    subst (λ g. g.0 < 2 ^ 32) same (short_small (codes "id") d id.0 id.1)

fields_small : (ds : Items) (fields : List Field) → all_in field_in ds ≡ Some fields → AreSmall fields
fields_small no_items fields is = let same : [] ≡ fields = cc in subst AreSmall same tt
fields_small (item d ds) fields is =
    let first = and_then_parts _ (field_in d) fields is in
    let then = and_then_parts _ (all_in field_in ds) fields first.2 in
    let same : first.0 ∷ then.0 ≡ fields = let last = then.2 in cc in
    subst AreSmall same (field_small d first.0 first.1, fields_small ds then.0 then.1)

number_tidy : (e : Data) (n : Num) → IsTidy e → as_number e ≡ Some n → IsFit n
number_tidy null n tidy is = absurd cc
number_tidy (boolean b) n tidy is = absurd cc
number_tidy (number m) n tidy is = let same : m ≡ n = cc in subst IsFit same tidy
number_tidy (string s) n tidy is = absurd cc
number_tidy (array ds) n tidy is = absurd cc
number_tidy (object ms) n tidy is = absurd cc

long_at : (b : Bool) (m : ℕ) (z : ℤ) → nat_lt m (2 ^ 63) ≡ b → cond b (Some (pos m)) None ≡ Some z → FitsSigned w64 z
long_at true m z small is =
    let same : pos m ≡ z = cc in
    let below : m < 2 ^ 63 = search (rules, nat_tests) in
    let fits : FitsSigned w64 (pos m) = record { sfits = below } in
    subst (FitsSigned w64) same fits
long_at false m z small is = absurd cc

integer_fits : (n : Num) (z : ℤ) → IsFit n → as_i64 n ≡ Some z → FitsSigned w64 z
integer_fits (unsigned m) z fit is = long_at (nat_lt m (2 ^ 63)) m z refl is
integer_fits (negative y) z fit is = let same : y ≡ z = cc in subst (FitsSigned w64) same fit
integer_fits (float x) z fit is = absurd cc

time_fits : (key : List ℕ) (d : Data) (z : ℤ) → HasTidyParts d → time_at key d ≡ Some z → FitsSigned w64 z
time_fits key d z tidy is =
    let last = and_then_parts as_i64 _ z is in
    let first = and_then_parts as_number (get key d) last.0 last.1 in
    integer_fits last.0 z (number_tidy first.0 last.0 (tidy key first.0 first.1) first.2) last.2

-- what is stated is within the ranges of its types, and its settings rise
record IsWithin (stated : Stated) : Type 0 where
  fields : AreSmall stated.fields
  highest : stated.highest < 2 ^ 32
  settings : Rises stated.settings
  time : FitsSigned w64 stated.time

file_within : (d : Data) (stated : Stated) → HasTidyParts d → file_in d ≡ Some stated → IsWithin stated
unfolding file_in
file_within d stated tidy is =
    let id = and_then_parts _ (whole_at (codes "id") d) stated is in
    let ds = and_then_parts _ (field_list d) stated id.2 in
    let fields = and_then_parts _ (all_in field_in ds.0) stated ds.2 in
    let highest = and_then_parts _ (short_at (codes "highestFieldId") d) stated fields.2 in
    let partition = and_then_parts _ (texts_at (codes "partitionKeys") d) stated highest.2 in
    let primary = and_then_parts _ (texts_at (codes "primaryKeys") d) stated partition.2 in
    let settings = and_then_parts _ (settings_at d) stated primary.2 in
    let comment = and_then_parts _ (comment_in d) stated settings.2 in
    let time = and_then_parts _ (time_at (codes "timeMillis") d) stated comment.2 in
    let origin = and_then_parts _ (origin_in d) stated time.2 in
    let same = same_Some _ stated origin.2 in
    subst IsWithin same (record {
      fields = fields_small ds.0 fields.0 fields.1;
      highest = short_small (codes "highestFieldId") d highest.0 highest.1;
      settings = settings_at-rise d settings.0 tidy settings.1;
      time = time_fits (codes "timeMillis") d time.0 tidy time.1;
    })

missing_within : (stated : Stated) → IsWithin stated → IsWithin (with_missing stated)
missing_within stated is = record {
  fields = is.fields;
  highest = is.highest;
  settings = filled_rises (codes "file.format", []) (filled (codes "bucket", codes "-1") stated.settings) (filled_rises (codes "bucket", codes "-1") stated.settings is.settings);
  time = is.time;
}

-- ---- what a draft states

draft_rises : (d : Data) (draft : Draft) → HasTidyParts d → draft_in d ≡ Some draft → Rises draft.settings
unfolding draft_in
draft_rises d draft tidy is =
    let ds = and_then_parts _ (field_list d) draft is in
    let fields = and_then_parts _ (all_in named_in ds.0) draft ds.2 in
    let partition = and_then_parts _ (partition_or d) draft fields.2 in
    let primary = and_then_parts _ (texts_at (codes "primaryKeys") d) draft partition.2 in
    let settings = and_then_parts _ (settings_or d) draft primary.2 in
    let comment = and_then_parts _ (comment_in d) draft settings.2 in
    let same = same_Some _ draft comment.2 in
    subst (λ e. Rises e.settings) same (settings_or-rise d settings.0 tidy settings.1)

numbered_small : (n : ℕ) (fields : List (List ℕ × List ℕ)) → n + length fields ≤ most_columns → AreSmall (numbered n fields)
numbered_small n [] few = tt
numbered_small n (f ∷ fields) few = (omega arith, numbered_small (n + 1) fields (omega arith))

draft_within : (draft : Draft) (origin : List ℕ) (now : ℤ) → Rises draft.settings → length draft.fields ≤ most_columns → FitsSigned w64 now → IsWithin (stated_of draft origin now)
draft_within draft origin now rises few fits = record {
  fields = numbered_small 0 draft.fields (omega (arith, few));
  highest = omega arith;
  settings = filled_rises (codes "file.format", codes "avro") (filled (codes "bucket", codes "1") draft.settings) (filled_rises (codes "bucket", codes "1") draft.settings rises);
  time = fits;
}

-- ---- the schema

columns_small : (required : List (List ℕ)) (fields : List Field) (cs : List Column) → AllZip (IsColumn required) fields cs → AreSmall fields → AllByRecursion (λ c. c.id < 2 ^ 32) cs
columns_small required [] [] all small = tt
columns_small required [] (c ∷ cs) all small = absurd all
columns_small required (f ∷ fs) [] all small = absurd all
columns_small required (f ∷ fs) (c ∷ cs) all small = (subst (λ n. n < 2 ^ 32) (sym all.0.id) small.0, columns_small required fs cs all.1 small.1)

columns_length : (required : List (List ℕ)) (fields : List Field) (cs : List Column) → AllZip (IsColumn required) fields cs → length cs ≡ length fields
columns_length required [] [] all = refl
columns_length required [] (c ∷ cs) all = absurd all
columns_length required (f ∷ fs) [] all = absurd all
columns_length required (f ∷ fs) (c ∷ cs) all = ap suc (columns_length required fs cs all.1)

read_options : (settings : List Setting) → AllByRecursion (λ s. setting_fault s ≡ None) settings → pair_fault (options_in settings) ≡ None → options_of settings ≡ Ok (options_in settings)
unfolding options_of
read_options settings texts pairs =
    let o = options_in settings in
    ap (λ f. judged f >>= λ texts. judged (pair_fault o) >>= λ pairs. Ok o) (none_all setting_fault settings texts)
    ∙ ap (λ f. judged f >>= λ pairs. Ok o) pairs

declared_by : (required : List (List ℕ)) (stated : Stated) (columns : List Column) (s : TableSchema) → IsWithin stated → AllZip (IsColumn required) stated.fields columns → Declares stated columns s → IsDeclared s
declared_by required stated columns s within all is =
    let o = options_in stated.settings in
    let made = schema_with stated columns o in
    subst IsDeclared (sym is.schema) (record {
      ranges = record { highest = within.highest; ids = columns_small required stated.fields columns all within.fields; time = within.time };
      few = subst (λ n. n ≤ most_columns) (sym (columns_length required stated.fields columns all)) is.few;
      options = options_of-Stands stated.settings o within.settings (read_options stated.settings is.texts is.pairs);
      rules = subst (λ t. AllByRecursion (λ rule. IsTrue (meets rule t)) all_rules) is.schema is.rules;
    })

-- a file declares what can be declared
pub SchemaOf-declared : (path text : List ℕ) (s : TableSchema) → SchemaOf path text s → IsDeclared s
SchemaOf-declared path text s (d, stated, columns, json, file, at, are, is) =
    declared_by [] (with_missing stated) columns s (missing_within stated (file_within d stated (json_of-parts text d json) file)) are is

-- and so does a draft
pub DraftOf-declared : (line origin : List ℕ) (now : ℤ) (s : TableSchema) → FitsSigned w64 now → DraftOf line origin now s → IsDeclared s
DraftOf-declared line origin now s fits (d, draft, columns, json, found, are, is) =
    let few = subst (λ n. n ≤ most_columns) (same_count 0 draft.fields) is.few in
    declared_by draft.primary (stated_of draft origin now) columns s (draft_within draft origin now (draft_rises d draft (json_of-parts line d json) found) few fits) are is

-- ---- what is written

nullable_at : (b : Bool) → b ≡ b && true
nullable_at true = refl
nullable_at false = refl

own_columns : (cs : List Column) → AllZip (IsColumn []) (map field_of cs) cs
own_columns [] = tt
own_columns (c ∷ cs) = (record { id = refl; name = refl; text = (c.nullable, refl, nullable_at c.nullable) }, own_columns cs)

fields_length : (cs : List Column) → length (map field_of cs) ≡ length cs
fields_length [] = refl
fields_length (c ∷ cs) = ap suc (fields_length cs)

-- nothing is missing
whole_again : (s : TableSchema) → with_missing (stated_again s) ≡ stated_again s
whole_again s =
    let settings = by_name (settings_of s.options) in
    ap (λ ss. record (stated_again s) { settings = ss })
    (ap (filled (codes "file.format", [])) (filled_there (codes "bucket", codes "-1") settings (bucket_stands s.options)) ∙ filled_there (codes "file.format", []) settings (format_stands s.options))

schema_again : (s : TableSchema) → IsDeclared s → schema_from (stated_again s) s.columns ≡ Ok s
unfolding schema_from
schema_again s is =
    let made = schema_with (stated_again s) s.columns s.options in
    let rules : rule_fault s ≡ None = none_all (broken s) all_rules (met_all s all_rules is.rules) in
    ap (λ r. r >>= λ o. judged (rule_fault (schema_with (stated_again s) s.columns o)) >>= λ rules. Ok (schema_with (stated_again s) s.columns o)) (options_of-written s.options is.options)
    ∙ ap (λ f. judged f >>= λ rules. Ok s) rules

-- a text that states a schema again declares it
pub declares-again : (text : List ℕ) (d : Data) (s : TableSchema) → IsDeclared s → json_of text ≡ Some d → file_in d ≡ Some (stated_again s) → SchemaOf (schema_path s.id) text s
declares-again text d s is json file =
    let few = subst (λ n. n ≤ most_columns) (sym (fields_length s.columns)) is.few in
    (d, stated_again s, s.columns, json, file, refl, own_columns s.columns, subst (λ t. Declares t s.columns s) (sym (whole_again s)) (declares (stated_again s) s.columns s few (schema_again s is)))
