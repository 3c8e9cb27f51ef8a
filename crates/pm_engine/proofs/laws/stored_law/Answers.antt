use Rattle.pm_engine.specs.Covers.{IsKeyed}
use Rattle.pm_engine.proofs.ReduceLemmas.{by_recursion}
use Rattle.pm_engine.proofs.StoredLemmas.{rows-stored, speaks-itself, stored-is}
use Rattle.pm_engine.proofs.laws.stored_law.Goals as goal

pub returns : goal.returns
returns c = record {
  one = stored-is;
  itself = speaks-itself;
  run = λ m run rows rising keyed covers kinds. rows-stored m run rows rising (by_recursion (IsKeyed m) rows keyed) covers kinds;
}
