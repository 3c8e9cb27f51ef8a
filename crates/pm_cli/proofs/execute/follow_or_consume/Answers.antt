use Rattle.pm_words.proofs.NameLemmas.{name_is_plain}
use Rattle.pm_cli.proofs.execute.follow_or_consume.Goals as goal

pub run_consume-requires : goal.run_consume-requires
run_consume-requires g c = record { plain = name_is_plain c.in-Some.name (rw c.in-Some.is at c.requires.consumer); from = c.requires.from }

pub returns-in-None-clause-done : goal.returns-in-None-clause-done
returns-in-None-clause-done g c = rw c.in-None.is (λ before after. (c.run_follow.ensures.followed, c.run_follow.ensures.history))

pub returns-in-Some-clause-done : goal.returns-in-Some-clause-done
returns-in-Some-clause-done g c =
    rw c.in-Some.is (λ before after. ((c.run_consume.ensures.consumed, c.run_consume.ensures.beside), c.run_consume.ensures.history))
