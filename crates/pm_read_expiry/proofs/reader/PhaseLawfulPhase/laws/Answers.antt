use Rattle.pm_read_expiry.proofs.CauseLemmas.{truthful}
use Rattle.pm_read_expiry.proofs.Facts.{goes_ahead, has_call, recounts, sound}
use Rattle.pm_read_expiry.proofs.reader.PhaseLawfulPhase.laws.Goals as goal

pub returns-clause-sound : goal.returns-clause-sound
returns-clause-sound c = sound

pub returns-clause-truthful : goal.returns-clause-truthful
returns-clause-truthful c = truthful

pub returns-clause-recounts : goal.returns-clause-recounts
returns-clause-recounts c = recounts

pub returns-clause-goes : goal.returns-clause-goes
returns-clause-goes c = goes_ahead

pub returns-clause-has_call : goal.returns-clause-has_call
returns-clause-has_call c = has_call
