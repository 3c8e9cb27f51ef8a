use Rattle.pm_read_frame.proofs.CauseLemmas.{truthful}
use Rattle.pm_read_frame.proofs.Facts.{sound, recounts, goes, has_call}
use Rattle.pm_read_frame.proofs.reader.PhaseLawfulPhase.laws.Goals as goal

pub returns-clause-sound : goal.returns-clause-sound
returns-clause-sound c = sound c.one_contents_law.ensures c.one_reading_law.ensures c.taken_law.ensures

pub returns-clause-truthful : goal.returns-clause-truthful
returns-clause-truthful c = truthful c.causes_law.ensures

pub returns-clause-recounts : goal.returns-clause-recounts
returns-clause-recounts c = recounts

pub returns-clause-goes : goal.returns-clause-goes
returns-clause-goes c = goes

pub returns-clause-has_call : goal.returns-clause-has_call
returns-clause-has_call c = has_call
