use Rattle.std.proofs.Common.{subst, sym}
use Rattle.std.proofs.Math.Dec.{eqb}
use Rattle.std.proofs.lemmas.List.Filters.{dedup_is}
use Rattle.std.proofs.lemmas.List.Sorted.{IsPermutation-sym}
use Rattle.pm_expire_paths.specs.Floors.{AreFloorsBelow}
use Rattle.pm_expire_paths.proofs.FloorLemmas.{floors_are}
use Rattle.pm_expire_paths.proofs.floors.floors_below.Goals as goal

pub returns : goal.returns
returns c =
    subst (AreFloorsBelow c.args.names.now c.args.own) (sym (dedup_is eqb _ _ c.dedup.ensures.filtered))
    (floors_are c.args.own c.args.names.now c.in_ok-floors.floors.items c.sort.new.self.items c.in_ok-floors.ensures c.sort.ensures.permutation
    (IsPermutation-sym _ _ c.sort.ensures.permutation) c.in_ok-sort.ensures.sorted)
