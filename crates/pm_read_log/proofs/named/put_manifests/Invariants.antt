use Rattle.std.proofs.Common.{◌≡◌, ◌++◌, drop}
use Rattle.pm_read_table.specs.Named.{meta_paths}
use Rattle.pm_read_log.proofs.named.put_manifests.Given as goal

abbrev pub invariant-loop-meta : goal.invariant-loop-meta
invariant-loop-meta l = l.paths.items ++ meta_paths (drop l.meta-index l.metas) ≡ l.fn.paths.items ++ meta_paths l.metas
