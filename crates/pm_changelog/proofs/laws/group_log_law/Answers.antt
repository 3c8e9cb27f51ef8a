use Rattle.std.proofs.Common.{map, ap, sym, ◌∙◌}
use Rattle.pm_engine.specs.Covers.{row_of}
use Rattle.pm_changelog.specs.GroupLog.{stamped_from}
use Rattle.pm_changelog.proofs.LogLemmas.{holds-log, none-told}
use Rattle.pm_changelog.proofs.laws.group_log_law.Goals as goal

pub returns-clause-input : goal.returns-clause-input
returns-clause-input c = λ s g entries e log holds input is. record {
  told = is.told ∙ sym (c.input_law.ensures s g entries e holds input);
  own = is.own;
}

pub returns-clause-none : goal.returns-clause-none
returns-clause-none c = λ s rows log is.
    (λ none. sym is.told ∙ ap (λ cs. map row_of (stamped_from 0 cs)) none, λ none. none-told log (is.told ∙ none))

pub returns-clause-holds : goal.returns-clause-holds
returns-clause-holds c = λ s rows log names f is file. holds-log s rows log names f is file
