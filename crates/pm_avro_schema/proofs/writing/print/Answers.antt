use Rattle.std.proofs.Common.{string_bytes, ap, ◌∙◌}
use Rattle.std.proofs.lemmas.Str.{IsUtf8-string_bytes}
use Rattle.serde_json.specs.Written.{has_float, compact_text}
use Rattle.pm_avro_schema.proofs.Again.{has_float-json_of}
use Rattle.pm_avro_schema.proofs.Facts.{parsed_type-again}
use Rattle.pm_avro_schema.specs.Reading.{parsed_type}
use Rattle.pm_avro_schema.specs.View.{view}
use Rattle.pm_avro_schema.proofs.writing.print.Goals as goal

pub returns-clause-text : goal.returns-clause-text
returns-clause-text c =
    ap (λ v. v.items) c.into_bytes.ensures.value ∙ c.in_ok-text.ensures.text (ap has_float c.in_ok-value.ensures.value ∙ has_float-json_of (view c.args.kind.now) 0) ∙ ap compact_text c.in_ok-value.ensures.value

pub returns-clause-again : goal.returns-clause-again
returns-clause-again c =
    ap (λ v. parsed_type v.items) c.into_bytes.ensures.value ∙ parsed_type-again (string_bytes c.in_ok-text.text) (view c.args.kind.now) c.requires (IsUtf8-string_bytes c.in_ok-text.text) (rw c.in_ok-value.ensures.value at c.in_ok-text.ensures.reads_back)
