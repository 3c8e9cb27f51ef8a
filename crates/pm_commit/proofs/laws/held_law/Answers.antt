use Rattle.pm_commit.proofs.StepLemmas.{goes-ahead, has-call}
use Rattle.pm_commit.proofs.laws.held_law.Goals as goal

pub returns : goal.returns
returns c = record {
  sound = c.machine_law.ensures.sound;
  later = c.machine_law.ensures.later;
  goes = λ m answer later is goes.
      let ahead = goes-ahead c.read_entry_law.ensures.manifest m answer later goes is in
      (c.committer_law.ensures m answer later is goes, ahead.0, ahead.1);
  has_call = has-call;
}
