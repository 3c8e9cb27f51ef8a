use Rattle.std.proofs.Common.{Some, sym, ◌∙◌}
use Rattle.pm_options.specs.Fields.{prefix}
use Rattle.pm_settings.proofs.TextLemmas.{column_in-some, strip_prefix-is, strip_suffix-is}
use Rattle.pm_settings.proofs.fields.column_in.Goals as goal

pub returns : goal.returns
returns c =
    let rest = c.in_ok-rest.rest in
    strip_suffix-is c.args.suffix.now rest.now c.strip_suffix.result c.strip_suffix.ensures.cases
    ∙ sym (column_in-some c.args.suffix.now c.args.key.now rest.now (sym (strip_prefix-is prefix c.args.key.now (Some rest) c.in_ok-rest.ensures.cases)))
