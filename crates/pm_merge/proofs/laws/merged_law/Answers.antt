use Rattle.pm_merge.proofs.OneLemmas.{found-stored, merged-again, merged-stored, one-merge}
use Rattle.pm_merge.proofs.laws.merged_law.Goals as goal

pub returns : goal.returns
returns c = record {
  found = found-stored c.stored_law.ensures.itself;
  stored = merged-stored c.stored_law.ensures.one;
  one = one-merge c.stored_law.ensures.one;
  again = merged-again c.stored_law.ensures.itself;
}
