-- Facts that other crates' proofs use, and what they rest on: what whole texts are read as, and what a type is seen as.
use Rattle.std.proofs.Common.{◌≡◌, ◌≢◌, ℕ, ◌≤◌, List, Bool, true, false, if◌then◌else◌, Option}
use Rattle.std.proofs.Common.{Some, None, Result, Ok, Err, IfOk, IfErr, refl, sym, ap, ◌∙◌, arith, rules}
use Rattle.std.proofs.lemmas.Str.{is_utf8-from_IsUtf8, IsUtf8-from_is_utf8}
use Rattle.std.specs.Str.{IsUtf8, is_utf8}
use Rattle.serde_json.proofs.Nesting.{depth-read}
use Rattle.serde_json.specs.Data.{Data, depth}
use Rattle.serde_json.specs.Read.{read, max_depth}
use Rattle.pm_avro_schema.proofs.Again.{type_at-json_of, depth-json_of}
use Rattle.pm_avro_schema.proofs.Bounds.{Fit-Declares}
use Rattle.pm_avro_schema.proofs.Declared.{type_at-Declares, Declares-type_at}
use Rattle.pm_avro_schema.proofs.Steps.{refused}
use Rattle.pm_avro_schema.specs.Avro.{Avro, long}
use Rattle.pm_avro_schema.specs.Meaning.{TypeOf}
use Rattle.pm_base.specs.Outcome.{Fails, Gives}
use Rattle.pm_avro_schema.specs.Fault.{fault_of}
use Rattle.pm_avro_schema.specs.Readable.{IsReadable}
use Rattle.pm_avro_schema.specs.Reading.{parsed_type, json_type, type_at, bad}
use Rattle.pm_avro_schema.specs.Writing.{json_of}
use Rattle.pm_avro_schema.specs.View.{view}
use Rattle.pm_avro_schema.specs.declared.fault.AvroFault.{AvroFault}
use Rattle.pm_avro_schema.specs.declared.fault.AvroFault.TheVariants.{Memory}
use Rattle.pm_avro_schema.specs.declared.kind.AvroType.{AvroType, fold-roll-AvroType}
use Rattle.pm_avro_schema.specs.declared.kind.AvroType.TheVariants.{Long, rolls-Long}

-- a text that is JSON is read as its value is
pub parsed_type-read : (schema : List ℕ) (d : Data) → IsUtf8 schema → read schema ≡ Some d → parsed_type schema ≡ type_at d 0
parsed_type-read schema d utf8 is = rw (is_utf8-from_IsUtf8 schema utf8, is)

none_at : (schema : List ℕ) (b : Bool) → is_utf8 schema ≡ b → (IsUtf8 schema → read schema ≡ None) → parsed_type schema ≡ bad
none_at schema true is none = rw (is, none (IsUtf8-from_is_utf8 schema is))
none_at schema false is none = rw is

-- a text that isn't JSON isn't read
pub parsed_type-none : (schema : List ℕ) → (IsUtf8 schema → read schema ≡ None) → parsed_type schema ≡ bad
parsed_type-none schema none = none_at schema (is_utf8 schema) refl none

-- a text whose value is a readable type's is read as the type
pub parsed_type-again : (schema : List ℕ) (t : Avro) → IsReadable t → IsUtf8 schema → (depth (json_of t 0) ≤ max_depth → read schema ≡ Some (json_of t 0)) → parsed_type schema ≡ Ok t
parsed_type-again schema t is utf8 reads =
    let shallow : depth (json_of t 0) ≤ max_depth = let same = depth-json_of t 0 in let bound = is.levels in omega arith in
    parsed_type-read schema (json_of t 0) utf8 (reads shallow) ∙ type_at-json_of t 0 0 is.bounds

utf8_at : (b : Bool) (o : Option Data) (t : Avro) → json_type (if b then o else None) ≡ Ok t → (b ≡ true) × (d : Data) × (o ≡ Some d) × (type_at d 0 ≡ Ok t)
utf8_at true None t h = refused _ _ t h
utf8_at true (Some d) t h = (refl, d, refl, h)
utf8_at false o t h = refused _ _ t h

-- a text that is read as a type declares it
pub TypeOf-parsed_type : (schema : List ℕ) (t : Avro) → parsed_type schema ≡ Ok t → TypeOf schema t
TypeOf-parsed_type schema t h =
    let parts = utf8_at (is_utf8 schema) (read schema) t h in
    (IsUtf8-from_is_utf8 schema parts.0, parts.1, parts.2, Declares-type_at parts.1 0 t parts.3)

-- a text that declares a type is read as it
pub parsed_type-TypeOf : (schema : List ℕ) (t : Avro) → TypeOf schema t → parsed_type schema ≡ Ok t
parsed_type-TypeOf schema t is = parsed_type-read schema is.1 is.0 is.2 ∙ type_at-Declares t is.1 0 is.3

-- what a call gives is declared
pub declared : (schema : List ℕ) (r : Result AvroType AvroFault) → Gives view fault_of r (parsed_type schema) → IfOk r (λ t. TypeOf schema (view t))
declared schema (Ok t) gives = TypeOf-parsed_type schema (view t) gives
declared schema (Err e) gives = tt

undeclared : (schema : List ℕ) (e : AvroFault) → Fails (fault_of e) (parsed_type schema) → e ≢ Memory → (t : Avro) → TypeOf schema t → ⊥
undeclared schema Memory fault other t is = other refl
undeclared schema e fault other t is = refused ⊥ _ t (sym fault ∙ parsed_type-TypeOf schema t is)

-- where a call gives a fault, no type is declared
pub none_declared : (schema : List ℕ) (r : Result AvroType AvroFault) → Gives view fault_of r (parsed_type schema) → IfErr r (λ e. e ≢ Memory → (t : Avro) → TypeOf schema t → ⊥)
none_declared schema (Ok t) gives = tt
none_declared schema (Err e) gives = undeclared schema e gives

-- the types that texts declare are readable
pub IsReadable-TypeOf : (schema : List ℕ) (t : Avro) → TypeOf schema t → IsReadable t
IsReadable-TypeOf schema t is =
    let fit = Fit-Declares t is.1 0 is.3 in
    record { bounds = fit.bounds; levels = let within = fit.within in let deep = depth-read schema is.1 is.2 in omega arith }

pub readable : (schema : List ℕ) (r : Result AvroType AvroFault) → Gives view fault_of r (parsed_type schema) → IfOk r (λ t. IsReadable (view t))
readable schema (Ok t) gives = IsReadable-TypeOf schema (view t) (TypeOf-parsed_type schema (view t) gives)
readable schema (Err e) gives = tt

-- the type of longs that is given
pub view-Long : view Long ≡ long
view-Long = ap view (sym rolls-Long) ∙ search (rules, fold-roll-AvroType)
