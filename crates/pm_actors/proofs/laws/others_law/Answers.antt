use Rattle.pm_actors.proofs.WorldLemmas.{KnownLaws, others_know}
use Rattle.pm_actors.proofs.laws.others_law.Goals as goal

pub returns : goal.returns
returns c =
    let laws : KnownLaws = record {
      past = c.past_law.ensures;
      same = c.nothing_law.ensures;
      own = c.own_law.ensures.own;
      waits = c.unnamed_law.ensures.others;
      creates = c.known_law.ensures;
      lists = c.known_law-2.ensures;
      scans = c.known_law-3.ensures;
      finds = c.known_law-4.ensures;
      follows = c.known_law-5.ensures;
      goes_on = c.goes_on_law.ensures;
      frames = c.frames_law.ensures.later;
      commits = c.known_law-6.ensures;
      compacts = c.known_law-7.ensures;
      registers = c.known_law-8.ensures;
      moves = c.known_law-9.ensures.moves;
      drops = c.known_law-9.ensures.drops;
      expires = c.known_law-10.ensures;
    } in
    others_know laws
