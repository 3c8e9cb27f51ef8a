use Rattle.std.proofs.Common.{sym, ap, ◌∙◌}
use Rattle.std.proofs.lemmas.List.{take_all}
use Rattle.pm_options.specs.Written.{list_text}
use Rattle.pm_settings.proofs.TextLemmas.{list_text-next}
use Rattle.pm_settings.proofs.names.print_names.Goals as goal

pub loop-name-preserved : goal.loop-name-preserved
loop-name-preserved c =
    c.in_ok-push_str-2.ensures.bytes
    ∙ rw (c.in_ok-push_str.ensures.bytes, c.as_str-in-loop-name.ensures, c.loop-name.invariant)
    (list_text-next _ c.in-Some.rest.now c.loop-name.name-index c.name-item.result c.loop-name-test.true c.name-item.is)

pub returns : goal.returns
returns c =
    c.loop-name.invariant
    ∙ rw (c.in_ok-text.ensures.ok, c.as_str.ensures, take_all c.loop-name.name-index c.in-Some.rest.now c.loop-name-test.false) (ap list_text (sym c.in-Some.ensures.cases.0))
