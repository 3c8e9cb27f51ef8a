-- The options that settings state, or their first fault: that of the first setting whose text isn't taken, in the
-- order of the settings, and then that of the first pair that doesn't go together.
use Rattle.std.specs.Prelude.{ℕ, List, codes, Bool, false, Option, Some, None, if◌then◌else◌, option_map, unwrap_or, nat_lt, ◌||◌, ◌&&◌, not, is_some, Result, Ok}
use Rattle.pm_base.specs.Outcome.{◌>>=◌}
use Rattle.pm_values.specs.declared.refusal.Refusal.{Refusal}
use Rattle.pm_values.specs.declared.refusal.Refusal.TheVariants.{Limit}
use Rattle.pm_options.specs.Faults.{first_of, judged, refused}
use Rattle.pm_options.specs.Fields.{column_in, function_suffix, retract_suffix, group_suffix, has_comma}
use Rattle.pm_options.specs.Kinds.{function_in, truth_in}
use Rattle.pm_options.specs.Numbers.{number_in}
use Rattle.pm_options.specs.Options.{options_in}
use Rattle.pm_options.specs.Pairs.{pair_fault}
use Rattle.pm_options.specs.Entries.{entry_at}
use Rattle.pm_options.specs.Table.{Setting, table, unsupported, most_buckets, takes, is_only}
use Rattle.pm_options.specs.declared.options.Options.{Options}
use Rattle.pm_options.specs.declared.table.Only.{Only}
use Rattle.pm_options.specs.declared.table.Form.{Form}
use Rattle.pm_options.specs.declared.table.Form.TheVariants.{Bucket}

-- a setting whose text isn't taken is a fault
abbrev pub unless_taken : Bool → Setting → Option Refusal
unless_taken taken s = if taken then None else Some (refused s)

-- more buckets than there may be
abbrev pub too_many : Form → List ℕ → Bool
too_many Bucket text = unwrap_or (option_map (λ n. nat_lt most_buckets n) (number_in text)) false
too_many form text = false

-- the fault of a text of an option of the table
abbrev pub form_fault : Form → Setting → Option Refusal
form_fault form s =
    if too_many form s.1 then Some (Limit (codes "buckets") most_buckets) else unless_taken (takes form s.1) s

-- the key is that of a sequence group whose column has a comma
abbrev pub names_commas : List ℕ → Bool
names_commas key = unwrap_or (option_map has_comma (column_in group_suffix key)) false

-- the text, or the column, of an option of a column is taken
abbrev pub column_takes : Setting → Bool
column_takes s =
    (not (is_some (column_in function_suffix s.0)) || is_some (function_in s.1))
    && ((not (is_some (column_in retract_suffix s.0)) || is_some (truth_in s.1))
    && not (names_commas s.0))

-- the fault of a text of another option
abbrev pub other_fault : Option Only → Setting → Option Refusal
other_fault (Some only) s = unless_taken (is_only only s.1) s
other_fault None s = unless_taken (column_takes s) s

abbrev pub fault_by : Option Form → Setting → Option Refusal
fault_by (Some form) s = form_fault form s
fault_by None s = other_fault (entry_at s.0 unsupported) s

-- the fault of a setting
abbrev pub setting_fault : Setting → Option Refusal
setting_fault s = fault_by (entry_at s.0 table) s

-- the options of settings in the order of their keys, or their first fault
unfoldable pub options_of : List Setting → Result Options Refusal
options_of settings = do
  texts ← judged (first_of setting_fault settings)
  pairs ← judged (pair_fault (options_in settings))
  Ok (options_in settings)
