use Rattle.std.proofs.Common.{[], subst}
use Rattle.pm_model_history.specs.History.{History, no_table, table}
use Rattle.pm_model_folder.specs.Folder.{Folder}
use Rattle.pm_words.specs.declared.command.Command.TheVariants as commands
use Rattle.pm_cli.specs.Promise.{StandsForOthers, found_by}
use Rattle.pm_cli.specs.Start.{MayStart}
use Rattle.pm_cli.proofs.Common.{leaves_weaker}
use Rattle.pm_cli.proofs.InTurn.{created, does_at}
use Rattle.pm_cli.proofs.laws.chain_law.Goals as goal

pub returns : goal.returns
returns c = λ e first is done kept.
    let does = does_at e no_table kept.later commands.Create is done kept.makes in
    let made = created e.start e.input does.0 (found_by e) kept.later does.1 in
    let s = made.0 in (
      s,
      made.1,
      λ command me.
          leaves_weaker (StandsForOthers e no_table first kept.later) (MayStart command me (table s [])) e.after.store
          (λ f stands. c.base_law.ensures.created command me s f (subst (λ (h : History). Folder f h) made.2 stands.folder)) kept.ends,
    )
