-- The metadata's type, and the header that has it.
use Rattle.std.proofs.Common.{◌≡◌, ℕ, List, Option, Some, None, Bool, true, false, ◌⊎◌, inl, inr, refl, ap, ap₂, ◌∙◌}
use Rattle.std.specs.Prelude.{Result, Ok, Err, codes}
use Rattle.std.specs.Str.{bytes_eq, is_utf8, IsUtf8}
use Rattle.std.proofs.lemmas.Bool.{false_from_ne_true}
use Rattle.std.proofs.lemmas.Str.{IsUtf8-from_is_utf8, is_utf8-from_IsUtf8}
use Rattle.std.proofs.lemmas.Slice.Eq.{bytes_eq-Decides}
use Rattle.pm_avro_schema.specs.Avro.{Avro}
use Rattle.pm_avro_schema.specs.Reading.{parsed_type}
use Rattle.pm_avro_schema.specs.declared.fault.AvroFault.{AvroFault}
use Rattle.pm_avro_schema.specs.declared.fault.AvroFault.TheVariants.{Memory, Unsupported, Bad}
use Rattle.pm_avro_schema.proofs.Facts.{TypeOf-parsed_type, parsed_type-TypeOf, IsReadable-TypeOf}
use Rattle.pm_avro_file.specs.Container.{Pairs, codec_in, schema_in, IsPlain, IsPreamble, IsHeader}
use Rattle.pm_avro_file.specs.Header.{codec_fault, unpacked, at_header, declared_by, kind_in}

tells : (b : Bool) → (b ≡ true) ⊎ (b ≡ false)
tells true = inl refl
tells false = inr refl

unpacked-plain : (codec : Option (List ℕ)) (kind : Result Avro AvroFault) → IsPlain codec → unpacked codec kind ≡ kind
unpacked-plain None kind plain = refl
unpacked-plain (Some name) kind plain =
    let same : bytes_eq name (codes "null") ≡ true = (bytes_eq-Decides name (codes "null")).1 plain in
    rw same refl

unpacked-Ok : (codec : Option (List ℕ)) (kind : Result Avro AvroFault) (t : Avro) → unpacked codec kind ≡ Ok t → IsPlain codec × (kind ≡ Ok t)
unpacked-Ok None kind t e = (tt, e)
unpacked-Ok (Some name) kind t e =
    elim (tells (bytes_eq name (codes "null"))) [
      | inl same ↦ ((bytes_eq-Decides name (codes "null")).0 same, rw same at e)
      | inr other ↦ (let f : ◌≡◌ {A = Result Avro AvroFault} (Err (codec_fault name)) (Ok t) = rw other at e in absurd cc)
    ]

at_header-Ok : (kind : Result Avro AvroFault) (t : Avro) → at_header kind ≡ Ok t → kind ≡ Ok t
at_header-Ok (Ok u) t e = e
at_header-Ok (Err Memory) t e = absurd cc
at_header-Ok (Err (Unsupported what said)) t e = absurd cc
at_header-Ok (Err (Bad offset)) t e = absurd cc

declared-Ok : (found : Option (List ℕ)) (t : Avro) → declared_by found ≡ Ok t → (schema : List ℕ) × (found ≡ Some schema) × (parsed_type schema ≡ Ok t)
declared-Ok None t e = absurd cc
declared-Ok (Some schema) t e = (schema, refl, at_header-Ok (parsed_type schema) t e)

-- the metadata of a header give its type
pub header_kind : (t : Avro) (marker source rest : List ℕ) (h : IsHeader t marker source rest) → kind_in h.pairs ≡ Ok t
header_kind t marker source rest h =
    let declared : parsed_type h.schema ≡ Ok t = parsed_type-TypeOf h.schema t h.declared in
    unpacked-plain (codec_in h.pairs) (declared_by (schema_in h.pairs)) h.plain ∙ ap declared_by h.found ∙ ap at_header declared

-- a preamble whose metadata give a type is a header
pub kind_header : (t : Avro) (pairs : Pairs) (marker source rest : List ℕ) → IsPreamble pairs marker source rest → kind_in pairs ≡ Ok t → IsHeader t marker source rest
kind_header t pairs marker source rest preamble e =
    let p = unpacked-Ok (codec_in pairs) (declared_by (schema_in pairs)) t e in
    let d = declared-Ok (schema_in pairs) t p.1 in
    let declared = TypeOf-parsed_type d.0 t d.2 in
    record {
      pairs = pairs;
      preamble = preamble;
      plain = p.0;
      schema = d.0;
      found = d.1;
      declared = declared;
      readable = IsReadable-TypeOf d.0 t declared;
    }

-- ---- the fault of a codec

pub codec_named : (name : List ℕ) → IsUtf8 name → codec_fault name ≡ Unsupported (codes "codec") name
codec_named name utf8 = rw (is_utf8-from_IsUtf8 name utf8) refl

pub codec_nameless : (name : List ℕ) → (IsUtf8 name → ⊥) → codec_fault name ≡ Bad 0
codec_nameless name other =
    let no : is_utf8 name ≡ false = false_from_ne_true (is_utf8 name) (λ yes. other (IsUtf8-from_is_utf8 name yes)) in
    rw no refl

-- ---- the same text

-- metadata with one codec and one text give one type
pub kind_same : (pairs others : Pairs) → schema_in pairs ≡ schema_in others → codec_in pairs ≡ codec_in others → kind_in pairs ≡ kind_in others
kind_same pairs others schema codec = ap₂ unpacked codec (ap declared_by schema)
