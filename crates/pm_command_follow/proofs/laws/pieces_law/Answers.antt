use Rattle.pm_command_follow.proofs.BesideLemmas.{are_all, are_first}
use Rattle.pm_command_follow.proofs.laws.pieces_law.Goals as goal

pub returns-clause-first : goal.returns-clause-first
returns-clause-first c = λ s es full start first frames tells. are_first (record {
  within = c.frames_law.ensures.within;
  text = c.frames_law.ensures.text;
  table = c.kept_law.ensures.table;
  change = c.kept_law.ensures.change;
}) s tells es full start first frames

pub returns-clause-all : goal.returns-clause-all
returns-clause-all c = λ f s es more full start first frames stands tells. are_all (record {
  within = c.frames_law.ensures.within;
  text = c.frames_law.ensures.text;
  table = c.kept_law.ensures.table;
  change = c.kept_law.ensures.change;
}) s tells f es more full start first frames stands
