use Rattle.pm_read_log.proofs.LogCauseLemmas.{truthful}
use Rattle.pm_read_log.proofs.LogFacts.{sound, recounts, goes, has_call}
use Rattle.pm_read_log.proofs.log_reader.LogPhaseLawfulPhase.laws.Goals as goal

pub returns-clause-sound : goal.returns-clause-sound
returns-clause-sound c = sound c.one_reading_law.ensures

pub returns-clause-truthful : goal.returns-clause-truthful
returns-clause-truthful c = truthful c.one_reading_law.ensures c.one_reading_law-2.ensures

pub returns-clause-recounts : goal.returns-clause-recounts
returns-clause-recounts c = recounts

pub returns-clause-goes : goal.returns-clause-goes
returns-clause-goes c = goes

pub returns-clause-has_call : goal.returns-clause-has_call
returns-clause-has_call c = λ m is. has_call m
