use Rattle.pm_store.specs.declared.answer.Answer.TheVariants as answers
use Rattle.pm_compactor.specs.declared.phase.Phase.TheVariants as phases
use Rattle.pm_compactor.proofs.PartLemmasAfter.{still-ok}
use Rattle.pm_compactor.proofs.machine.PhasePhase.next.Goals as goal

pub returns-in-View-default-clause-holds : goal.returns-in-View-default-clause-holds
returns-in-View-default-clause-holds c =
    still-ok c.compactor_law.ensures.still c.args.self (phases.View c.in-View-default.asking c.in-View-default.reader) c.args.answer c.after_view.result
    c.in-View-default.is-0 c.requires.holds c.after_view.ensures.goes

pub returns-in-Names-Listed-clause-holds : goal.returns-in-Names-Listed-clause-holds
returns-in-Names-Listed-clause-holds c =
    still-ok c.compactor_law.ensures.still c.args.self (phases.Names c.in-Names-Listed.planned) (answers.Listed c.in-Names-Listed.names) c.after_names.result
    c.in-Names-Listed.is-0 c.requires.holds c.after_names.ensures.goes

pub returns-in-Files-default-clause-holds : goal.returns-in-Files-default-clause-holds
returns-in-Files-default-clause-holds c =
    still-ok c.compactor_law.ensures.still c.args.self (phases.Files c.in-Files-default.planned c.in-Files-default.files) c.args.answer c.after_files.result
    c.in-Files-default.is-0 c.requires.holds c.after_files.ensures.goes

pub returns-in-Create-Made-clause-holds : goal.returns-in-Create-Made-clause-holds
returns-in-Create-Made-clause-holds c =
    still-ok c.compactor_law.ensures.still c.args.self (phases.Create c.in-Create-Made.committer c.in-Create-Made.next c.in-Create-Made.rest) (answers.Made c.in-Create-Made.made) c.after_create.result
    c.in-Create-Made.is-0 c.requires.holds c.after_create.ensures.goes

pub returns-in-Commit-default-clause-holds : goal.returns-in-Commit-default-clause-holds
returns-in-Commit-default-clause-holds c =
    still-ok c.compactor_law.ensures.still c.args.self (phases.Commit c.in-Commit-default.committer) c.args.answer c.after_commit.result
    c.in-Commit-default.is-0 c.requires.holds c.after_commit.ensures.goes
