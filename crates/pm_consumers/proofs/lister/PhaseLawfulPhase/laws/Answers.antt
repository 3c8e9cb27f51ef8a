use Rattle.pm_consumers.proofs.CauseLemmas.{truthful}
use Rattle.pm_consumers.proofs.Facts.{sound, recounts, goes_ahead, has_call}
use Rattle.pm_consumers.proofs.lister.PhaseLawfulPhase.laws.Goals as goal

pub returns-clause-sound : goal.returns-clause-sound
returns-clause-sound c = sound

pub returns-clause-truthful : goal.returns-clause-truthful
returns-clause-truthful c = truthful

pub returns-clause-recounts : goal.returns-clause-recounts
returns-clause-recounts c = λ asked. recounts

pub returns-clause-goes : goal.returns-clause-goes
returns-clause-goes c = λ m answer new is. goes_ahead m answer new

pub returns-clause-has_call : goal.returns-clause-has_call
returns-clause-has_call c = λ m holds. has_call m
