use Rattle.pm_expire_end.specs.Expiry.{expire_end_of}
use Rattle.pm_expire_end.proofs.ExpiryLemmas.{is-end}
use Rattle.pm_expire_end.proofs.NeededLemmas.{needed}
use Rattle.pm_expire_end.proofs.laws.end_law.Goals as goal

pub returns : goal.returns
returns c times keep now next listed some =
    needed times keep now next (expire_end_of times keep now next) listed some (is-end times keep now next)
