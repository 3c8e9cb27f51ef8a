use Rattle.std.proofs.Common.{◌≡◌, map, take}
use Rattle.std.specs.List.{AllByRecursion}
use Rattle.pm_lookup.specs.File.{IsFileFor, seen}
use Rattle.pm_lookup.specs.Lookup.{HaveOne}
use Rattle.pm_lookup.proofs.lookup.Lookup.old_value.Given as goal

-- the files are the same, and those so far were looked in
abbrev pub invariant-loop-file : goal.invariant-loop-file
invariant-loop-file g l = record {
  same : map seen l.file-items ≡ map seen l.fn.self.files.items;
  opened : AllByRecursion (IsFileFor l.schema) l.file-items;
  have : HaveOne (g.E.MergeEngine.meaning l.engine) l.schema l.key (take l.file-index (map seen l.fn.self.files.items)) l.old;
}
