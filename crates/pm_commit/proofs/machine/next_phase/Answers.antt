use Rattle.pm_store.specs.declared.answer.Answer.TheVariants as answers
use Rattle.pm_commit.specs.declared.phase.Phase.TheVariants as phases
use Rattle.pm_commit.proofs.AfterLemmas.{ok-committer}
use Rattle.pm_commit.proofs.machine.next_phase.Goals as goal

pub returns-in-View-default-clause-is_committer : goal.returns-in-View-default-clause-is_committer
returns-in-View-default-clause-is_committer c =
    ok-committer c.committer_law.ensures c.args.phase (phases.View c.in-View-default.own c.in-View-default.reader) c.args.answer c.after_view.result
    c.in-View-default.is-0 c.requires.is_committer c.after_view.ensures

pub returns-in-Search-Found-clause-is_committer : goal.returns-in-Search-Found-clause-is_committer
returns-in-Search-Found-clause-is_committer c =
    ok-committer c.committer_law.ensures c.args.phase (phases.Search c.in-Search-Found.own c.in-Search-Found.searching) (answers.Found c.in-Search-Found.bytes)
    c.after_search.result c.in-Search-Found.is-0 c.requires.is_committer c.after_search.ensures

pub returns-in-Put-default-clause-is_committer : goal.returns-in-Put-default-clause-is_committer
returns-in-Put-default-clause-is_committer c =
    ok-committer c.committer_law.ensures c.args.phase (phases.Put c.in-Put-default.own c.in-Put-default.schema c.in-Put-default.id c.in-Put-default.putter) c.args.answer c.after_put.result
    c.in-Put-default.is-0 c.requires.is_committer c.after_put.ensures
