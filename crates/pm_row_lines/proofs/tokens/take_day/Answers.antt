use Rattle.std.proofs.Common.{SFits, w32, refl, sym, ◌∙◌, arith}
use Rattle.std.proofs.lemmas.Int.{ints, to_z-of_z}
use Rattle.serde_json.specs.Data.{string}
use Rattle.pm_value_text.proofs.Lemmas.{text-day_in}
use Rattle.pm_row_lines.proofs.tokens.take_day.Goals as goal

pub returns-in-Some : goal.returns-in-Some
returns-in-Some c =
    let text = c.in-String.text.now in
    let day = c.in-Some.day in
    let read = sym c.parse_date.ensures.value ∙ c.in-Some.is in
    let range = (text-day_in text day read).0 in
    let fits : SFits w32 day = omega (arith, ints) in
    rw (c.in-String.is, to_z-of_z w32 day fits) (string text, refl, λ index. rw read refl)
