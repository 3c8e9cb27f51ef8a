use Rattle.std.proofs.Common.{◌≡◌, length, map, ap, subst, ◌∙◌, arith}
use Rattle.std.proofs.lemmas.List.{length-append, length-map}
use Rattle.pm_values.specs.Names.{Naming, with_count}
use Rattle.pm_write.specs.Batch.{logs_in}
use Rattle.pm_write.specs.Files.{AreFilesOfLogs, after_names, next_run}
use Rattle.pm_write.specs.Held.{all_groups, group_rows}
use Rattle.pm_write.proofs.FileLemmas.{files_many}
use Rattle.pm_write.proofs.files.write_files.Goals as goal

-- the data files took one name each
pub write_logs-requires : goal.write_logs-requires
write_logs-requires c =
    let all = all_groups c.args.groups.now in
    let seen = length-map c.args.groups.now group_rows in
    let many = length-map all (next_run c.args.next.now) in
    let each = files_many c.args.schema.now c.args.names.now (map (next_run c.args.next.now) all) c.in_ok-files.files.items c.in_ok-files.ensures.files in
    let taken = c.in_ok-files.ensures.taken in
    let count = c.requires.count in
    omega arith

pub returns-clause-files : goal.returns-clause-files
returns-clause-files c =
    let s = c.args.schema.now in
    let old = c.args.names.now in
    let logs = logs_in (all_groups c.args.groups.now) in
    let named : c.write_groups.new.names ≡ after_names (length c.in_ok-files.files.items) old =
    c.write_groups.ensures.names ∙ ap (with_count old.session old.actor old.base) c.in_ok-files.ensures.taken in
    record {
      data_files = c.in_ok-files.files.items;
      changes = c.in_ok-changes.changes.items;
      both = c.in_ok-append.ensures.items;
      runs = c.in_ok-files.ensures.files;
      logs = subst (λ (n : Naming). AreFilesOfLogs s n logs c.in_ok-changes.changes.items) named c.in_ok-changes.ensures.files;
    }

pub returns-clause-taken : goal.returns-clause-taken
returns-clause-taken c =
    let first = c.in_ok-files.ensures.taken in
    let more = c.in_ok-changes.ensures.taken in
    let both = ap length c.in_ok-append.ensures.items in
    let many = length-append c.in_ok-files.files.items c.in_ok-changes.changes.items in
    omega arith
