use Rattle.std.proofs.Common.{◌≡◌, ◌∙◌, sym, ap, List, ℕ}
use Rattle.std.specs.Prelude.{Ok}
use Rattle.pm_avro_data.specs.declared.datum.Datum.{Datum}
use Rattle.pm_avro_file.specs.Container.{codec_in, schema_in}
use Rattle.pm_avro_file.specs.Header.{kind_in}
use Rattle.pm_avro_file.specs.Views.{pairs_view}
use Rattle.pm_avro_file.proofs.Meanings.{kind_same}
use Rattle.pm_avro_file.proofs.known.KnownType.is_of.Goals as goal

pub returns-then-is_same : goal.returns-then-is_same
returns-then-is_same c = λ same.
    let theirs = pairs_view c.args.entries.now in
    let own = pairs_view c.as_slice-own.result.now in
    let schema : schema_in theirs ≡ schema_in own = sym c.last_value.ensures ∙ c.is_same.ensures c.if-is_same.true ∙ c.last_value-2.ensures in
    let codec : codec_in theirs ≡ codec_in own =
    sym c.last_value-then-is_same.ensures ∙ c.is_same-then-is_same.ensures same ∙ c.last_value-then-is_same-2.ensures in
    kind_same theirs own schema codec ∙ ap (λ (es : List (List ℕ × Datum)). kind_in (pairs_view es)) c.as_slice-own.ensures.value ∙ c.self.invariant ∙ ap Ok c.self.view_is
