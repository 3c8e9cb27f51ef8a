use Rattle.pm_group_files.proofs.CauseLemmas.{truthful}
use Rattle.pm_group_files.proofs.Facts.{sound, recounts, goes_ahead, has_call}
use Rattle.pm_group_files.proofs.reader.PhaseLawfulPhase.laws.Goals as goal

pub returns-clause-sound : goal.returns-clause-sound
returns-clause-sound c = sound

pub returns-clause-truthful : goal.returns-clause-truthful
returns-clause-truthful c = truthful (record {
  one_rows = c.one_list_law.ensures.follow;
  in_order = c.order_law.ensures.follow;
  after_other = c.order_law.ensures.other;
  gives = c.reading_law.ensures.gives;
  opens = c.reading_law.ensures.opens;
})

pub returns-clause-recounts : goal.returns-clause-recounts
returns-clause-recounts c = recounts

pub returns-clause-goes : goal.returns-clause-goes
returns-clause-goes c = λ m answer new is goes. goes_ahead m answer new goes

pub returns-clause-has_call : goal.returns-clause-has_call
returns-clause-has_call c = λ m is left. has_call m left
