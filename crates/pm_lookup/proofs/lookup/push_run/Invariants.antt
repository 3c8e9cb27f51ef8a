use Rattle.std.proofs.Common.{◌≡◌, ◌++◌, map}
use Rattle.std.specs.List.{AllByRecursion}
use Rattle.std.specs.Vec.Iter.{into_iter_items}
use Rattle.pm_schema.specs.declared.schema.TableSchema.{TableSchema}
use Rattle.pm_lookup.specs.File.{IsFileFor, seen}
use Rattle.pm_lookup.specs.Lookup.{file_in}
use Rattle.pm_lookup.proofs.lookup.push_run.Given as goal

-- the files so far, none of which was opened, stand after those that were there
abbrev pub invariant-loop-meta : goal.invariant-loop-meta
invariant-loop-meta l = record {
  parts : l.yielded ++ into_iter_items l.meta-iterator ≡ l.fn.run.files.items;
  folder : l.run.folder ≡ l.fn.run.folder;
  have : map seen l.files.items ≡ map seen l.fn.files.items ++ map (file_in l.fn.run.folder) l.yielded;
  opened : (s : TableSchema) → AllByRecursion (IsFileFor s) l.fn.files.items → AllByRecursion (IsFileFor s) l.files.items;
}
