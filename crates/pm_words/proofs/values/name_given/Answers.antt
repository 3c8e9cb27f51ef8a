use Rattle.std.proofs.Common.{◌∙◌, ℕ, List, Some, None, option_map, ap, sym, Bor}
use Rattle.pm_words.proofs.CommandLemmas.{name_found}
use Rattle.pm_words.proofs.FindLemmas.{value_is}
use Rattle.pm_words.proofs.values.name_given.Goals as goal

pub returns-in_default : goal.returns-in_default
returns-in_default c = λ declared words found known alone. (
  value_is declared words c.args.matches.now found c.args.option.now known alone
      ∙ ap (option_map Some) (sym c.get_str.ensures ∙ ap (option_map (λ (s : Bor (List ℕ)). s.now)) c.in_default.is),
  tt,
)

pub returns-in-Some-2 : goal.returns-in-Some-2
returns-in-Some-2 c = λ declared words found known alone.
    name_found found.options c.args.option.now c.in-Some.text.now (Some c.in-Some-2.name)
    (value_is declared words c.args.matches.now found c.args.option.now known alone
    ∙ ap (option_map Some) (sym c.get_str.ensures ∙ ap (option_map (λ (s : Bor (List ℕ)). s.now)) c.in-Some.is)) (rw c.in-Some-2.is at c.in_ok-name.ensures)

pub returns-in-None : goal.returns-in-None
returns-in-None c = λ declared words found known alone.
    name_found found.options c.args.option.now c.in-Some.text.now None
    (value_is declared words c.args.matches.now found c.args.option.now known alone
    ∙ ap (option_map Some) (sym c.get_str.ensures ∙ ap (option_map (λ (s : Bor (List ℕ)). s.now)) c.in-Some.is)) (rw c.in-None.is at c.in_ok-name.ensures)
