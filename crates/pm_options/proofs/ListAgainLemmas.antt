-- The lists of columns and what is kept are read again from what they are written as.
use Rattle.std.proofs.Common.{◌≡◌, ℕ, Bool, true, false, cond, List, [], ◌∷◌, Option, Some, None, is_some, refl, sym, ap, ◌∙◌}
use Rattle.std.specs.List.{AllByRecursion, filter}
use Rattle.std.specs.Option.{option_or}
use Rattle.pm_options.specs.Entries.{entry_at}
use Rattle.pm_options.specs.Fields.{delimiter_suffix, function_suffix, group_suffix, meant, names_meant, retract_suffix, texts_of}
use Rattle.pm_options.specs.Kinds.{function_in, function_text, truth_in, truth_text}
use Rattle.pm_options.specs.Options.{is_kept, is_kept_key}
use Rattle.pm_options.specs.Pairs.{column_key}
use Rattle.pm_options.specs.Stands.{IsGroup, Stands}
use Rattle.pm_options.specs.Table.{table}
use Rattle.pm_options.specs.Written.{field_settings, list_text, settings_of}
use Rattle.pm_options.specs.declared.options.Options.{Options}
use Rattle.pm_options.proofs.ColumnListLemmas.{delimiters_at, fields_not_kept, functions_at, groups_at, meant_again, retracts_at, same_texts, texts_again}
use Rattle.pm_options.proofs.EntryLemmas.{all_then, by_name-Rises, entry_at-append, entry_at-apart, entry_at-filter, filter-Rises, same_entries}
use Rattle.pm_options.proofs.KindLemmas.{function_in-function_text, truth_in-truth_text}
use Rattle.pm_options.proofs.NamesLemmas.{names_again}
use Rattle.pm_options.proofs.SlotLemmas.{rest_of}
use Rattle.pm_options.proofs.LookupLemmas.{kept_keys, kept_outside, other_at, written}
use Rattle.pm_options.proofs.ColumnKeyLemmas.{column_key-table}

-- what all have, each has
each_all : {X : Type 0} (P : X → Type 0) → ((x : X) → P x) → (xs : List X) → AllByRecursion P xs
each_all P each [] = tt
each_all P each (x ∷ xs) = (each x, each_all P each xs)

-- the key of a column stands among what isn't of the table
column_at : (o : Options) (suffix column : List ℕ)
    → entry_at (column_key suffix column) (written o) ≡ entry_at (column_key suffix column) (rest_of o)
column_at o suffix column = other_at o (column_key suffix column) (column_key-table suffix column)

-- the aggregate functions
pub functions_again : (o : Options) → Stands o → meant function_in (texts_of function_suffix (written o)) ≡ o.functions
functions_again o is =
    let each = λ (column : List ℕ). column_at o function_suffix column ∙ functions_at o (kept_keys o is) column in
    ap (meant function_in) (texts_again function_suffix function_text o.functions (written o) is.functions each)
    ∙ meant_again function_in function_text o.functions (each_all _ (λ e. function_in-function_text e.1) o.functions)

-- the delimiters
pub delimiters_again : (o : Options) → Stands o → texts_of delimiter_suffix (written o) ≡ o.delimiters
delimiters_again o is =
    let each = λ (column : List ℕ). column_at o delimiter_suffix column ∙ delimiters_at o (kept_keys o is) column in
    texts_again delimiter_suffix (λ text. text) o.delimiters (written o) is.delimiters each ∙ same_texts o.delimiters

-- whether columns ignore retractions
pub retracts_again : (o : Options) → Stands o → meant truth_in (texts_of retract_suffix (written o)) ≡ o.ignore_retract
retracts_again o is =
    let each = λ (column : List ℕ). column_at o retract_suffix column ∙ retracts_at o (kept_keys o is) column in
    ap (meant truth_in) (texts_again retract_suffix truth_text o.ignore_retract (written o) is.ignore_retract each)
    ∙ meant_again truth_in truth_text o.ignore_retract (each_all _ (λ e. truth_in-truth_text e.1) o.ignore_retract)

-- the sequence groups
pub groups_again : (o : Options) → Stands o → meant names_meant (texts_of group_suffix (written o)) ≡ o.groups
groups_again o is =
    let each = λ (column : List ℕ). column_at o group_suffix column ∙ groups_at o (kept_keys o is) column in
    let names = λ (e : List ℕ × List (List ℕ)) (g : IsGroup e). ap Some (names_again e.1 g.listed g.names) in
    let all = all_then IsGroup (λ e. names_meant (list_text e.1) ≡ Some e.1) names o.groups is.all_groups in
    ap (meant names_meant) (texts_again group_suffix list_text o.groups (written o) is.groups each)
    ∙ meant_again names_meant list_text o.groups all

-- what isn't there is none
outside_none : {A : Type 0} (o : Option A) → is_some o ≡ false → o ≡ None
outside_none None is = refl
outside_none (Some x) is = cc

-- what is kept of the settings is what the options keep
kept_at : (o : Options) → Stands o → (key : List ℕ) (b : Bool) → is_kept_key key ≡ b
    → cond b (entry_at key (written o)) None ≡ entry_at key o.kept
kept_at o is key true kept =
    let none = entry_at-apart is_kept_key true key (field_settings o) kept (fields_not_kept o) in
    other_at o key (outside_none (entry_at key table) (kept_outside key kept))
    ∙ entry_at-append key (field_settings o) o.kept ∙ ap (λ r. option_or r (entry_at key o.kept)) none
kept_at o is key false kept = sym (entry_at-apart is_kept_key false key o.kept kept (kept_keys o is))

-- the kept settings
pub kept_again : (o : Options) → Stands o → filter is_kept (written o) ≡ o.kept
kept_again o is =
    let rises = filter-Rises is_kept_key (written o) (by_name-Rises (settings_of o)) in
    same_entries (filter is_kept (written o)) o.kept rises is.kept
    (λ key. entry_at-filter is_kept_key key (written o) ∙ kept_at o is key (is_kept_key key) refl)
