use Rattle.std.proofs.Common.{◌∙◌, Some, ap}
use Rattle.std.proofs.lemmas.Result.{IfOk-weaker}
use Rattle.clap.specs.Words.{Rule, rule_of}
use Rattle.clap.specs.declared.builder.arg.Arg.{Arg}
use Rattle.clap.specs.declared.builder.action.ArgAction.TheVariants.{SetTrue}
use Rattle.pm_words.specs.Clap.{flag}
use Rattle.pm_words.proofs.DeclareLemmas.{adds_declared}
use Rattle.pm_words.proofs.options.with_flag.Goals as goal

pub returns : goal.returns
returns c = λ word declared is.
    let told = c.help-option.ensures
    ∙ ap (λ (a : Arg). record a { help = Some c.args.help }) (c.action.ensures ∙ ap (λ (a : Arg). record a { action = Some SetTrue }) c.long.ensures) in
    IfOk-weaker c.arg.result _ _
    (λ new adds. adds_declared c.args.command new c.help-option.result word declared (flag c.args.name.now) adds
    (ap rule_of told ∙ ap (λ (r : Rule). record r { long = Some c.args.name.now; action = Some SetTrue }) c.new.ensures.rule) (ap (λ (a : Arg). a.global) told ∙ c.new.ensures.optional.1) is)
    c.arg.ensures
