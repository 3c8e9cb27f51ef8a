use Rattle.pm_expire_end.specs.Expiry.{expire_end_of}
use Rattle.pm_expire_end.proofs.ExpiryLemmas.{is-end}
use Rattle.pm_expire_end.proofs.NeededLemmas.{no-later}
use Rattle.pm_expire_end.proofs.laws.more_law.Goals as goal

pub returns : goal.returns
returns c times less more now before next earlier keeps clock reads =
    no-later times less more now before next earlier (expire_end_of times less now next)
    (expire_end_of times more before earlier) keeps clock reads (is-end times less now next)
    (is-end times more before earlier)
