use Rattle.pm_commit.proofs.BeginLemmas.{begins, file-created, file-own}
use Rattle.pm_commit.proofs.StillLemmas.{but-still}
use Rattle.pm_commit.proofs.laws.begins_law.Goals as goal

pub returns : goal.returns
returns c = record {
  begins = λ f p s newest author plan names given m stands is_found at_newest knows may none committer begun.
      begins f p s newest author plan names given m is_found at_newest knows may none committer begun;
  created = λ e given done left file m f after p stands parts but some absent puts.
      file-created c.ready_law.ensures.given c.own_files_law.ensures e given done left file f after p parts stands absent puts m but some;
  own = λ e given done left file m f after p stands parts but some makes.
      file-own c.ready_law.ensures.given c.own_files_law.ensures e given done left file f after p parts m but some makes;
  known = λ e given done m other f after p q left parts stands advances apart but.
      but-still c.unnamed_law.ensures.others c.plan_law.ensures c.ready_law.ensures.given c.own_files_law.ensures e given done left other f after p q
      stands parts advances m apart but;
}
