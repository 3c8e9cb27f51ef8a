use Rattle.std.proofs.Common.{rules, is_lt}
use Rattle.std.proofs.lemmas.List.Sorted.{answers_always, ranks_by}
use Rattle.pm_values.specs.declared.file_meta.FileMeta.{FileMeta}
use Rattle.pm_levels.specs.Order.{file_cmp}
use Rattle.pm_levels.proofs.OrderLemmas.{file_total}
use Rattle.pm_levels.proofs.runs.sorted.Goals as goal

-- the closure compares files
pub returns-clause-sorted : goal.returns-clause-sorted
returns-clause-sorted c =
    c.sort_unstable_by.ensures.sorted (λ (a b : FileMeta). is_lt (file_cmp a b)) (ranks_by file_total (λ (f : FileMeta). f)) (answers_always _ _ _ (λ f a r g h. search rules))
