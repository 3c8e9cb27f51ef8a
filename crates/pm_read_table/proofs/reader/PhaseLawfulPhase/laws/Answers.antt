use Rattle.pm_read_table.proofs.Facts.{sound, recounts, goes, has_call}
use Rattle.pm_read_table.proofs.CauseLemmas.{truthful}
use Rattle.pm_read_table.proofs.reader.PhaseLawfulPhase.laws.Goals as goal

pub returns-clause-sound : goal.returns-clause-sound
returns-clause-sound c = sound (c.joined_law.ensures.left, c.joined_law.ensures.order) c.one_reading_law.ensures

pub returns-clause-truthful : goal.returns-clause-truthful
returns-clause-truthful c = truthful (record {
  joined = (c.joined_law.ensures.left, c.joined_law.ensures.order);
  lists = c.one_reading_law.ensures;
  manifests = c.one_reading_law-2.ensures;
  contents = c.one_contents_law.ensures;
})

pub returns-clause-recounts : goal.returns-clause-recounts
returns-clause-recounts c = recounts (c.joined_law.ensures.left, c.joined_law.ensures.order)

pub returns-clause-goes : goal.returns-clause-goes
returns-clause-goes c = goes

pub returns-clause-has_call : goal.returns-clause-has_call
returns-clause-has_call c = λ m is. has_call m
