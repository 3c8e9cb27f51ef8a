-- Which refusals the readings of a schema have.
use Rattle.std.proofs.Common.{◌≡◌, ℕ, ℤ, List, [], ◌∷◌, length, codes, nat_lt, Bool, true, false, if◌then◌else◌, Option, None, Some, IfSome, option_map, Result, Ok, Err, IfErr, ok_or, refl, inl, inr}
use Rattle.std.specs.Option.{option_or}
use Rattle.pm_base.specs.Outcome.{◌>>=◌}
use Rattle.pm_values.specs.declared.column.Column.{Column}
use Rattle.pm_values.specs.declared.refusal.Refusal.{Refusal}
use Rattle.pm_values.specs.declared.refusal.Refusal.TheVariants as refusals
use Rattle.pm_values.specs.declared.refusal.Why.TheVariants as whys
use Rattle.pm_options.specs.Faults.{first_of, judged, refused}
use Rattle.pm_options.specs.Options.{options_in}
use Rattle.pm_options.specs.Pairs.{pair_fault, refused_pair, all_pairs, setting_of}
use Rattle.pm_options.specs.Reading.{options_of, setting_fault, fault_by, other_fault, unless_taken, too_many, column_takes}
use Rattle.pm_options.specs.Entries.{entry_at}
use Rattle.pm_options.specs.Table.{Setting, table, unsupported, takes, is_only}
use Rattle.pm_schema.specs.ColumnType.{Field, type_in, column_in, columns_in}
use Rattle.pm_schema.specs.Faults.{IsFaultOf, IsDraftFault}
use Rattle.pm_schema.specs.Reading.{bad_draft, columns_fault, most_columns, schema_with, schema_from, file_at, schema_of, draft_of}
use Rattle.pm_schema.specs.Rules.{all_rules, broken, meets, rule_fault}
use Rattle.pm_schema.specs.Stated.{Stated, json_of, with_missing, stated_of}
use Rattle.pm_schema.specs.Stated as parts
use Rattle.pm_schema.specs.declared.schema.TableSchema.{TableSchema}

-- ---- readings whose refusals have P

module _ (P : Refusal → Type 0) where
  pub step_fault : {A B : Type 0} (r : Result A Refusal) (f : A → Result B Refusal) → IfErr r P → ((x : A) → IfErr (f x) P) → IfErr (r >>= f) P
  step_fault (Ok x) f first next = next x
  step_fault (Err e) f first next = first

  pub ok_or_fault : {A : Type 0} (o : Option A) (e : Refusal) → P e → IfErr (ok_or o e) P
  ok_or_fault None e is = is
  ok_or_fault (Some x) e is = tt

  pub judged_fault : (o : Option Refusal) → IfSome o P → IfErr (judged o) P
  judged_fault None is = tt
  judged_fault (Some e) is = is

  pub cond_fault : (b : Bool) (o p : Option Refusal) → IfSome o P → IfSome p P → IfSome (if b then o else p) P
  cond_fault true o p first next = first
  cond_fault false o p first next = next

  pub or_fault : (o p : Option Refusal) → IfSome o P → IfSome p P → IfSome (option_or o p) P
  or_fault None p first next = next
  or_fault (Some e) p first next = first

  pub first_fault : {A : Type 0} (fault : A → Option Refusal) → ((x : A) → IfSome (fault x) P) → (xs : List A) → IfSome (first_of fault xs) P
  first_fault fault each [] = tt
  first_fault fault each (x ∷ xs) = or_fault (fault x) (first_of fault xs) (each x) (first_fault fault each xs)

-- ---- what is stated

-- a text that isn't supported, a limit and a rule have P
record Takes (P : Refusal → Type 0) : Type 0 where
  text : (what text : List ℕ) → P (refusals.Unsupported what text)
  limit : (which : List ℕ) (number : ℕ) → P (refusals.Limit which number)
  rule : (number : ℕ) → P (refusals.SchemaRule number)

module _ (P : Refusal → Type 0) (has : Takes P) where
  count_is : (n : ℕ) → IfErr (judged (columns_fault n)) P
  count_is n =
      judged_fault P (columns_fault n)
      (cond_fault P (nat_lt most_columns n) (Some (refusals.Limit (codes "columns") most_columns)) None
      (has.limit (codes "columns") most_columns) tt)

  columns_are : (required : List (List ℕ)) (fields : List Field) → IfErr (columns_in required fields) P
  columns_are required [] = tt
  columns_are required (field ∷ fields) =
      step_fault P (column_in required field) _
      (step_fault P (ok_or (type_in field.2) (refusals.Unsupported (codes "type") field.2)) _
      (ok_or_fault P (type_in field.2) (refusals.Unsupported (codes "type") field.2) (has.text (codes "type") field.2)) (λ t. tt))
      (λ c. step_fault P (columns_in required fields) _ (columns_are required fields) (λ more. tt))

  unless_is : (taken : Bool) (s : Setting) → IfSome (unless_taken taken s) P
  unless_is taken s = cond_fault P taken None (Some (refused s)) tt (has.text s.0 s.1)

  other_is : (s : Setting) → IfSome (other_fault (entry_at s.0 unsupported) s) P
  other_is s = elim (entry_at s.0 unsupported) as (λ o. IfSome (other_fault o s) P) [
    | None ↦ unless_is (column_takes s) s
    | Some only ↦ unless_is (is_only only s.1) s
  ]

  setting_is : (s : Setting) → IfSome (setting_fault s) P
  setting_is s = elim (entry_at s.0 table) as (λ o. IfSome (fault_by o s) P) [
    | None ↦ other_is s
    | Some form ↦ cond_fault P (too_many form s.1) _ (unless_taken (takes form s.1) s) (has.limit _ _) (unless_is (takes form s.1) s)
  ]

  named_is : (o : Option Setting) → IfSome (option_map refused o) P
  named_is None = tt
  named_is (Some s) = has.text s.0 s.1

  options_are : (settings : List Setting) → IfErr (options_of settings) P
  unfolding options_of
  options_are settings =
      step_fault P (judged (first_of setting_fault settings)) _
      (judged_fault P (first_of setting_fault settings) (first_fault P setting_fault setting_is settings))
      (λ texts. step_fault P (judged (pair_fault (options_in settings))) _
      (judged_fault P (pair_fault (options_in settings))
      (first_fault P (refused_pair (options_in settings)) (λ p. named_is (setting_of p (options_in settings))) all_pairs))
      (λ pairs. tt))

  rules_are : (s : TableSchema) → IfSome (rule_fault s) P
  rules_are s = first_fault P (broken s) (λ rule. cond_fault P (meets rule s) None _ tt (has.rule _)) all_rules

  schema_is : (stated : Stated) (columns : List Column) → IfErr (schema_from stated columns) P
  unfolding schema_from
  schema_is stated columns =
      step_fault P (options_of stated.settings) _ (options_are stated.settings)
      (λ options. step_fault P (judged (rule_fault (schema_with stated columns options))) _
      (judged_fault P (rule_fault (schema_with stated columns options)) (rules_are (schema_with stated columns options)))
      (λ rules. tt))

-- ---- the two readings

pub file_faults : (path text : List ℕ) → IfErr (schema_of path text) (IsFaultOf path)
unfolding schema_of
file_faults path text =
    let P = IsFaultOf path in
    let has : Takes P = record { text = λ what text. tt; limit = λ which number. tt; rule = λ number. tt } in
    let damaged : P (refusals.Damaged path 0) = (refl, refl) in
    step_fault P (ok_or (json_of text) (refusals.Damaged path 0)) _ (ok_or_fault P (json_of text) (refusals.Damaged path 0) damaged)
    (λ d. step_fault P (ok_or (file_at path d) (refusals.Damaged path 0)) _ (ok_or_fault P (file_at path d) (refusals.Damaged path 0) damaged)
    (λ stated. step_fault P (judged (columns_fault (length stated.fields))) _ (count_is P has (length stated.fields))
    (λ few. step_fault P (columns_in [] stated.fields) _ (columns_are P has [] stated.fields)
    (λ columns. schema_is P has (with_missing stated) columns))))

pub draft_faults : (line origin : List ℕ) (now : ℤ) → IfErr (draft_of line origin now) IsDraftFault
unfolding draft_of
draft_faults line origin now =
    let P = IsDraftFault in
    let has : Takes P = record { text = λ what text. tt; limit = λ which number. tt; rule = λ number. tt } in
    step_fault P (ok_or (json_of line) (bad_draft whys.Json)) _ (ok_or_fault P (json_of line) (bad_draft whys.Json) (inl refl, refl))
    (λ d. step_fault P (ok_or (parts.draft_in d) (bad_draft whys.Draft)) _
    (ok_or_fault P (parts.draft_in d) (bad_draft whys.Draft) (inr refl, refl))
    (λ draft. step_fault P (judged (columns_fault (length draft.fields))) _ (count_is P has (length draft.fields))
    (λ few. step_fault P (columns_in draft.primary (stated_of draft origin now).fields) _
    (columns_are P has draft.primary (stated_of draft origin now).fields)
    (λ columns. schema_is P has (stated_of draft origin now) columns))))

-- ---- laws

pub fault : (path text : List ℕ) (refusal : Refusal) → schema_of path text ≡ Err refusal → IsFaultOf path refusal
fault path text refusal is = rw is at (file_faults path text)

pub draft_fault : (line origin : List ℕ) (now : ℤ) (refusal : Refusal) → draft_of line origin now ≡ Err refusal → IsDraftFault refusal
draft_fault line origin now refusal is = rw is at (draft_faults line origin now)
