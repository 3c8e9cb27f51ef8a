use Rattle.pm_compactor.proofs.KnownLemmas.{StillLaws, knows-still}
use Rattle.pm_compactor.proofs.laws.known_law.Goals as goal

pub returns : goal.returns
returns c =
    let laws : StillLaws = record {
      plan = c.planned_law.ensures.stays;
      others = c.unnamed_law.ensures.others;
      but = c.begins_law.ensures.known;
      committer = c.known_law.ensures;
    } in
    λ m other f after p q stands advances apart known. knows-still laws other f after p q stands advances m apart known
