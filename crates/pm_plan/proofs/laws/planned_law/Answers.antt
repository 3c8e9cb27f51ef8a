use Rattle.pm_plan.proofs.BeginLemmas.{planned-begins}
use Rattle.pm_plan.proofs.GrownLemmas.{planned-grows, planned-memory, planned-named, planned-whole}
use Rattle.pm_plan.proofs.StayLemmas.{planned-stays}
use Rattle.pm_plan.proofs.laws.planned_law.Goals as goal

pub returns-clause-begins : goal.returns-clause-begins
returns-clause-begins c me p asking s newest chosen x is may = planned-begins me p asking s newest chosen x is may

pub returns-clause-stays : goal.returns-clause-stays
returns-clause-stays c me other f after p q x done takings advances knows =
    planned-stays c.goes_on_law.ensures me other f after p q x done takings advances knows

pub returns-clause-grows : goal.returns-clause-grows
returns-clause-grows c me p x y done t takings read can knows was rewrites =
    planned-grows c.known_log_law.ensures.told me p x y done t takings read can knows was rewrites

pub returns-clause-memory : goal.returns-clause-memory
returns-clause-memory c me p x done t takings read refusal knows was refuses =
    planned-memory c.known_log_law.ensures.memory me p x done t takings read refusal knows was refuses

pub returns-clause-whole : goal.returns-clause-whole
returns-clause-whole c me p x y done plan knows told room is = planned-whole me p x y done plan knows told room is

pub returns-clause-named : goal.returns-clause-named
returns-clause-named c me p x y done knows told room = planned-named me p x y done knows told room
