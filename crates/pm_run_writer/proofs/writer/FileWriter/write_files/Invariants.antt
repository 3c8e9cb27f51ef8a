use Rattle.std.proofs.Common.{◌≡◌, ◌+◌, ◌≤◌, List, ◌++◌, length}
use Rattle.pm_schema.specs.declared.schema.TableSchema.{TableSchema}
use Rattle.pm_run.specs.declared.run.RunFile.{RunFile}
use Rattle.pm_run.specs.Form.{form_of}
use Rattle.pm_run.specs.Writing.{AreFilesOf}
use Rattle.pm_run_writer.proofs.writer.FileWriter.write_files.Given as goal

-- with files for the rows that are left, those so far are files for all rows
abbrev pub invariant-loop-left : goal.invariant-loop-left
invariant-loop-left l = record {
  named : l.names ≡ record l.fn.names { count = l.names.count };
  counted : l.names.count + length l.left ≤ l.fn.names.count + length l.fn.rows;
  rising : l.fn.names.count ≤ l.names.count;
  taken : l.names.count ≡ l.fn.names.count + length l.files.items;
  files : (s : TableSchema) (more : List RunFile) → l.self.form ≡ form_of s → l.self.schema_id ≡ s.id → AreFilesOf s l.limit l.level l.names l.left more
      → AreFilesOf s l.limit l.level l.fn.names l.fn.rows (l.files.items ++ more);
}

abbrev pub decreases-loop-left : goal.decreases-loop-left
decreases-loop-left l = length l.left
