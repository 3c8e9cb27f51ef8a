use Rattle.std.proofs.Common.{subst, sym}
use Rattle.std.proofs.Math.Dec.{eqb}
use Rattle.std.proofs.lemmas.List.Filters.{dedup_is}
use Rattle.std.proofs.lemmas.List.Sorted.{IsPermutation-sym}
use Rattle.pm_paths.specs.Ids.{AreIds}
use Rattle.pm_paths.proofs.IdLemmas.{ids_are}
use Rattle.pm_paths.proofs.ids.ids_of.Goals as goal

pub returns : goal.returns
returns c =
    subst (AreIds c.args.names.now) (sym (dedup_is eqb _ _ c.dedup.ensures.filtered))
    (ids_are c.args.names.now c.in_ok-ids.ids.items c.sort.new.self.items c.in_ok-ids.ensures c.sort.ensures.permutation
    (IsPermutation-sym _ _ c.sort.ensures.permutation) c.in_ok-sort.ensures.sorted)
