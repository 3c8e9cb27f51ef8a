use Rattle.std.proofs.Common.{◌∙◌, ℕ, List, Some, None, option_map, ap, sym, Bor}
use Rattle.pm_words.proofs.CommandLemmas.{number_found}
use Rattle.pm_words.proofs.FindLemmas.{value_is}
use Rattle.pm_words.proofs.values.number_given.Goals as goal

pub returns-in_err-number-in-Some : goal.returns-in_err-number-in-Some
returns-in_err-number-in-Some c = λ declared words found known alone.
    rw c.from_residual.ensures
    (number_found found.options c.args.option.now c.in-Some.text.now None
    (value_is declared words c.args.matches.now found c.args.option.now known alone
    ∙ ap (option_map Some) (sym c.get_str.ensures ∙ ap (option_map (λ (s : Bor (List ℕ)). s.now)) c.in-Some.is)) c.in_err-number-in-Some.ensures)

pub returns-in_ok-number-in-Some : goal.returns-in_ok-number-in-Some
returns-in_ok-number-in-Some c = λ declared words found known alone.
    number_found found.options c.args.option.now c.in-Some.text.now (Some c.in_ok-number-in-Some.number)
    (value_is declared words c.args.matches.now found c.args.option.now known alone
    ∙ ap (option_map Some) (sym c.get_str.ensures ∙ ap (option_map (λ (s : Bor (List ℕ)). s.now)) c.in-Some.is)) c.in_ok-number-in-Some.ensures

pub returns-in-None : goal.returns-in-None
returns-in-None c = λ declared words found known alone. (
  value_is declared words c.args.matches.now found c.args.option.now known alone
      ∙ ap (option_map Some) (sym c.get_str.ensures ∙ ap (option_map (λ (s : Bor (List ℕ)). s.now)) c.in-None.is),
  tt,
)
