-- One field of a JSON object. A number that is written with a point or an exponent is no integer, nor is `-0`.
use Rattle.std.specs.Prelude.{ℕ, ℤ, List, if◌then◌else◌, Option, None, Some, option_and_then, Result, Ok, ok_or}
use Rattle.std.specs.Str.{is_utf8}
use Rattle.pm_base.specs.Outcome.{◌>>=◌}
use Rattle.serde_json.specs.Data.{Data, null}
use Rattle.serde_json.specs.Find.{get, as_number, as_str, as_u64, as_i64}
use Rattle.serde_json.specs.Read.{read}
use Rattle.pm_snapshot.specs.declared.fault.SnapFault.{SnapFault}
use Rattle.pm_snapshot.specs.declared.fault.SnapFault.TheVariants.{Bad}

-- the JSON of a file, which is UTF-8 and nests at most 127 deep
abbrev pub json_in : List ℕ → Result Data SnapFault
json_in text = ok_or (if is_utf8 text then read text else None) Bad

-- an integer of 64 bits without a sign, and one with a sign
abbrev pub as_natural : Data → Option ℕ
as_natural d = option_and_then as_u64 (as_number d)

abbrev pub as_integer : Data → Option ℤ
as_integer d = option_and_then as_i64 (as_number d)

-- what the value is read as, and nothing where it is null
abbrev pub unless_null : {A : Type 0} → (Data → Option A) → Data → Result (Option A) SnapFault
unless_null read null = Ok None
unless_null read d = ok_or (read d) Bad >>= λ x. Ok (Some x)

-- the same of a value that may be missing, as null
abbrev pub unless_missing : {A : Type 0} → (Data → Option A) → Option Data → Result (Option A) SnapFault
unless_missing read None = Ok None
unless_missing read (Some d) = unless_null read d

-- ---- the field with a name

abbrev pub natural_at : List ℕ → Data → Result ℕ SnapFault
natural_at name d = ok_or (option_and_then as_natural (get name d)) Bad

abbrev pub integer_at : List ℕ → Data → Result ℤ SnapFault
integer_at name d = ok_or (option_and_then as_integer (get name d)) Bad

abbrev pub text_at : List ℕ → Data → Result (List ℕ) SnapFault
text_at name d = ok_or (option_and_then as_str (get name d)) Bad

-- null or missing is none
abbrev pub maybe_integer_at : List ℕ → Data → Result (Option ℤ) SnapFault
maybe_integer_at name d = unless_missing as_integer (get name d)

abbrev pub maybe_text_at : List ℕ → Data → Result (Option (List ℕ)) SnapFault
maybe_text_at name d = unless_missing as_str (get name d)
