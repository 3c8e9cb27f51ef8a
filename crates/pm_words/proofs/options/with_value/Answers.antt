use Rattle.std.proofs.Common.{◌∙◌, Some, ap}
use Rattle.std.proofs.lemmas.Result.{IfOk-weaker}
use Rattle.clap.specs.Words.{Rule, rule_of}
use Rattle.clap.specs.declared.builder.arg.Arg.{Arg}
use Rattle.clap.specs.declared.builder.action.ArgAction.TheVariants.{Set}
use Rattle.clap.specs.declared.builder.texts.Texts.TheVariants.{One}
use Rattle.pm_words.specs.Clap.{value}
use Rattle.pm_words.proofs.DeclareLemmas.{adds_declared}
use Rattle.pm_words.proofs.options.with_value.Goals as goal

pub returns : goal.returns
returns c = λ word declared is.
    let told = c.help-option.ensures
    ∙ ap (λ (a : Arg). record a { help = Some c.args.help }) (c.value_name.ensures
    ∙ ap (λ (a : Arg). record a { val_names = One c.args.shown }) (c.action.ensures ∙ ap (λ (a : Arg). record a { action = Some Set }) c.long.ensures)) in
    IfOk-weaker c.arg.result _ _
    (λ new adds. adds_declared c.args.command new c.help-option.result word declared (value c.args.name.now) adds
    (ap rule_of told ∙ ap (λ (r : Rule). record r { long = Some c.args.name.now; action = Some Set; value_names = 1 }) c.new.ensures.rule) (ap (λ (a : Arg). a.global) told ∙ c.new.ensures.optional.1) is)
    c.arg.ensures
