use Rattle.std.proofs.Common.{◌≡◌, ◌++◌, map}
use Rattle.std.specs.List.{AllByRecursion}
use Rattle.std.specs.Vec.Iter.{into_iter_items}
use Rattle.pm_schema.specs.declared.schema.TableSchema.{TableSchema}
use Rattle.pm_lookup.specs.File.{IsFileFor, seen}
use Rattle.pm_lookup.specs.Lookup.{files_of}
use Rattle.pm_lookup.proofs.lookup.Lookup.new.Given as goal

-- the files of the runs so far, none of which was opened
abbrev pub invariant-loop-run : goal.invariant-loop-run
invariant-loop-run l = record {
  parts : l.yielded ++ into_iter_items l.run-iterator ≡ l.fn.runs.items;
  have : map seen l.files.items ≡ files_of l.yielded;
  opened : (s : TableSchema) → AllByRecursion (IsFileFor s) l.files.items;
}
