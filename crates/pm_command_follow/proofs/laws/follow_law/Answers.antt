use Rattle.pm_command_follow.proofs.HistoryLemmas.{follows}
use Rattle.pm_command_follow.proofs.laws.follow_law.Goals as goal

pub returns : goal.returns
returns c = follows (record {
  latest = c.all_calls_law.ensures;
  passed = c.all_calls_law-2.ensures.passed;
  frames = c.all_calls_law-3.ensures;
  read = c.schema_law.ensures.exact;
  declared = c.declared_law.ensures.file;
})
