-- Private: what an attribute of a JSON object is read as.
use Rattle.std.specs.Prelude.{ℕ, ◌+◌, List, codes, Option, Some, None, option_and_then, Result}
use Rattle.pm_avro_schema.specs.Avro.{Avro}
use Rattle.serde_json.specs.Data.{Data}
use Rattle.serde_json.specs.Find.{get, as_str}
use Rattle.pm_avro_schema.specs.Reading.{bad, object_with, type_at, fields_from}
use Rattle.pm_avro_schema.specs.declared.fault.AvroFault.{AvroFault}

-- the text at a key
abbrev pub text_at : List ℕ → Data → Option (List ℕ)
text_at key d = option_and_then as_str (get key d)

-- what is there, read, or the fault that nothing is
abbrev pub present : {A : Type 0} → (Data → Result A AvroFault) → Option Data → Result A AvroFault
present read None = bad
present read (Some d) = read d

-- the type that an object declares by its attributes, with n types around it
abbrev pub object_at : Data → ℕ → Result Avro AvroFault
object_at d n = object_with (text_at (codes "type") d) n
    (present (λ e. fields_from e (n + 1)) (get (codes "fields") d))
    (present (λ e. type_at e (n + 1)) (get (codes "items") d))
    (present (λ e. type_at e (n + 1)) (get (codes "values") d))
