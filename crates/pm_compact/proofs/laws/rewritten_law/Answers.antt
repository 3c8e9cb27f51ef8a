use Rattle.pm_compact.proofs.LawLemmas.{rewritten_none, rewritten_one, rewritten_place, rewritten_stands, rewritten_told}
use Rattle.pm_compact.proofs.laws.rewritten_law.Goals as goal

pub returns : goal.returns
returns c = record {
  place = rewritten_place c.replaces_law.ensures.replaces c.oldest_law.ensures.replaces c.made_law.ensures.place c.made_law.ensures.oldest;
  none = rewritten_none;
  told = rewritten_told;
  one = rewritten_one;
  stands = rewritten_stands c.replaces_law.ensures.replaces c.oldest_law.ensures.replaces c.made_law.ensures.place c.made_law.ensures.oldest;
}
