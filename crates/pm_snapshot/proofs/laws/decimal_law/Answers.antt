use Rattle.pm_snapshot.proofs.Decimals.{naturals, integers}
use Rattle.pm_snapshot.proofs.laws.decimal_law.Goals as goal

pub returns-clause-natural : goal.returns-clause-natural
returns-clause-natural c text n = (naturals.some text n, λ is. naturals.found text n is.0 is.1)

pub returns-clause-integer : goal.returns-clause-integer
returns-clause-integer c text z = (integers.some text z, λ is. integers.found text z is.0 is.1)
