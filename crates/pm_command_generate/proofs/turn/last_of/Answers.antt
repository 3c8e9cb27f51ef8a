use Rattle.std.proofs.Common.{[], ◌∷◌, ◌∙◌, sym}
use Rattle.std.proofs.lemmas.Bool.Decides.{Decides-eqb}
use Rattle.std.proofs.lemmas.Slice.Eq.{strip_suffix_is}
use Rattle.pm_command_generate.proofs.TextLemmas.{tells_none, tells_other, tells_some}
use Rattle.pm_command_generate.proofs.turn.last_of.Goals as goal

pub returns-in-None : goal.returns-in-None
returns-in-None c =
    let strips = strip_suffix_is Decides-eqb c.args.text.now (10 ∷ []) c.strip_suffix.result c.strip_suffix.ensures.cases in
    tells_none c.args.text.now c.args.old (rw c.in-None.is at strips)

pub returns-in-None-number_after : goal.returns-in-None-number_after
returns-in-None-number_after c =
    let strips = strip_suffix_is Decides-eqb c.args.text.now (10 ∷ []) c.strip_suffix.result c.strip_suffix.ensures.cases in
    tells_other c.args.text.now c.in-Some.told.now c.args.old (rw c.in-Some.is at strips) (sym c.number_after.ensures ∙ c.in-None-number_after.is)

pub returns-in-Some-number_after : goal.returns-in-Some-number_after
returns-in-Some-number_after c =
    let strips = strip_suffix_is Decides-eqb c.args.text.now (10 ∷ []) c.strip_suffix.result c.strip_suffix.ensures.cases in
    tells_some c.args.text.now c.in-Some.told.now c.args.old c.in-Some-number_after.id (rw c.in-Some.is at strips)
    (sym c.number_after.ensures ∙ c.in-Some-number_after.is)
