use Rattle.std.proofs.Common.{Option, refl, subst}
use Rattle.pm_run.specs.declared.run.RunFile.{RunFile}
use Rattle.pm_changelog.specs.Written.{IsWrittenLog}
use Rattle.pm_write.proofs.LogLemmas.{file-of-log}
use Rattle.pm_write.proofs.files.write_changes.Goals as goal

-- the file of the group's log
pub returns-in-Some-clause-file : goal.returns-in-Some-clause-file
returns-in-Some-clause-file c =
    let s = c.args.schema.now in
    let names = c.args.names.now in
    let log = c.args.held.now.log in
    record {
      own = c.in_ok-group.ensures;
      changelog = refl;
      file = file-of-log s names log c.in-Some.field-0 (subst (λ (f : Option RunFile). IsWrittenLog s names log f) c.in-Some.is c.in_ok-meta.ensures.file);
    }
