use Rattle.std.proofs.Common.{ap, refl, ◌∙◌}
use Rattle.pm_values.specs.Names.{with_count}
use Rattle.pm_write.proofs.files.write_group.Goals as goal

-- the file of the group's run, as it is numbered now
pub returns-clause-file : goal.returns-clause-file
returns-clause-file c = record {
  own = c.in_ok-group.ensures;
  no_changelog = refl;
  file = c.in_ok-meta.ensures.file;
}

-- one name was taken
pub returns-clause-taken : goal.returns-clause-taken
returns-clause-taken c =
    let old = c.args.names.now in
    c.in_ok-meta.ensures.names ∙ ap (with_count old.session old.actor old.base) c.in_ok-meta.ensures.taken
