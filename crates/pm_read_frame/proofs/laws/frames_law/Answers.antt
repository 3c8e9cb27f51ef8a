use Rattle.pm_read_frame.proofs.FrameLemmas.{are_within, frames_are, go_on, is_known, next_one}
use Rattle.pm_read_frame.proofs.laws.frames_law.Goals as goal

pub returns-clause-known : goal.returns-clause-known
returns-clause-known c = is_known

pub returns-clause-later : goal.returns-clause-later
returns-clause-later c = go_on

pub returns-clause-next : goal.returns-clause-next
returns-clause-next c = next_one

pub returns-clause-within : goal.returns-clause-within
returns-clause-within c = are_within

pub returns-clause-text : goal.returns-clause-text
returns-clause-text c = frames_are c.kept_law.ensures.change
