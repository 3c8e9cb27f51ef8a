use Rattle.std.proofs.Common.{Some, option_and_then, ◌≤◌, subst, sym, ap, ◌∙◌}
use Rattle.serde_json.specs.Data.{depth, object}
use Rattle.serde_json.specs.Read.{max_depth}
use Rattle.serde_json.specs.Written.{compact_text, has_float}
use Rattle.pm_schema.specs.Written.{schema_text}
use Rattle.pm_schema_file.proofs.FloatLemmas.{no_float-schema}
use Rattle.pm_schema.specs.Stated.{file_in}
use Rattle.pm_schema.specs.Written.{schema_members}
use Rattle.pm_schema_file.proofs.AgainLemmas.{file_again, schema_depth}
use Rattle.pm_schema.proofs.DeclaredLemmas.{declares-again}
use Rattle.pm_schema_file.proofs.JsonLemmas.{json_of-some}
use Rattle.pm_schema_file.proofs.write.write_schema.Goals as goal

pub returns-clause-text : goal.returns-clause-text
unfolding schema_text
returns-clause-text c =
    c.in_ok-to_vec.ensures.text (ap has_float c.in_ok-json.ensures ∙ no_float-schema c.args.schema.now) ∙ ap compact_text c.in_ok-json.ensures

pub returns-clause-again : goal.returns-clause-again
returns-clause-again c = λ ranges.
    let made = c.in_ok-json.ensures in
    let shallow = subst (λ d. depth d ≤ max_depth) (sym made) (schema_depth c.args.schema.now) in
    let read = c.in_ok-to_vec.ensures.reads_back shallow ∙ ap Some made in
    ap (option_and_then file_in) (json_of-some c.in_ok-to_vec.field-0.items (object (schema_members c.args.schema.now)) c.in_ok-to_vec.ensures.utf8 read)
    ∙ file_again c.args.schema.now ranges

pub returns-clause-reads : goal.returns-clause-reads
returns-clause-reads c = λ is.
    let made = c.in_ok-json.ensures in
    let shallow = subst (λ d. depth d ≤ max_depth) (sym made) (schema_depth c.args.schema.now) in
    let read = c.in_ok-to_vec.ensures.reads_back shallow ∙ ap Some made in
    let json = json_of-some c.in_ok-to_vec.field-0.items (object (schema_members c.args.schema.now)) c.in_ok-to_vec.ensures.utf8 read in
    declares-again c.in_ok-to_vec.field-0.items (object (schema_members c.args.schema.now)) c.args.schema.now is json (file_again c.args.schema.now is.ranges)
