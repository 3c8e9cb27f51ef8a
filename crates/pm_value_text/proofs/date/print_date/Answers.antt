use Rattle.std.proofs.Common.{◌≡◌, ◌∙◌, IfOk, ap, of_z, rules, subst, sym, to_z, w32}
use Rattle.std.specs.String.{string_bytes}
use Rattle.std.proofs.lemmas.Result.{IfOk-weaker}
use Rattle.std.proofs.lemmas.Int.{to_z-of_z}
use Rattle.std.specs.Str.{IsUtf8}
use Rattle.pm_value_text.specs.Date.{date_text}
use Rattle.pm_value_text.proofs.DateLemmas.{IsUtf8-date_text, parts_text-same, printed_as}
use Rattle.pm_value_text.proofs.date.print_date.Goals as goal

pub unreachable-requires : goal.unreachable-requires
unfolding date_text
unreachable-requires c =
    let parts = c.parts-year.ensures in
    let passed : to_z w32 (of_z w32 c.args.day) ≡ c.args.day = to_z-of_z w32 c.args.day c.ranges.day in
    let text : c.characters-characters.result ≡ date_text c.args.day =
    c.characters-characters.ensures ∙ parts_text-same _ _ _ _ _ _ parts.year parts.month parts.day ∙ ap date_text passed in
    c.in-Err.ensures.cases.0 (subst IsUtf8 (sym text) (IsUtf8-date_text c.args.day c.requires))

pub returns-clause-named : goal.returns-clause-named
unfolding date_text
returns-clause-named c =
    let value : IfOk c.from_str.result (λ text. string_bytes text ≡ date_text c.args.day) = search rules in
    IfOk-weaker c.from_str.result _ _ (λ text is. printed_as (string_bytes text) c.args.day c.requires is) value
