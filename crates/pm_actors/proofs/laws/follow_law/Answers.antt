use Rattle.pm_actors.proofs.FollowLemmas.{first_knows, last_knows, moves_knows, next_knows}
use Rattle.pm_actors.proofs.laws.follow_law.Goals as goal

pub returns-clause-first : goal.returns-clause-first
returns-clause-first c = first_knows

pub returns-clause-next : goal.returns-clause-next
returns-clause-next c = λ me x text f p stands. next_knows (record { known = c.frames_law.ensures.known; next = c.frames_law.ensures.next }) me x text f p stands

pub returns-clause-last : goal.returns-clause-last
returns-clause-last c = λ me x text f p stands. last_knows (record { known = c.frames_law.ensures.known; next = c.frames_law.ensures.next }) me x text f p stands

pub returns-clause-moves : goal.returns-clause-moves
returns-clause-moves c = moves_knows
