use Rattle.pm_cases_groups.proofs.Columns.{fits_parts}
use Rattle.pm_cases_groups.proofs.folder.say_group.Goals as goal

pub say_folder-requires : goal.say_folder-requires
say_folder-requires c =
    fits_parts c.args.schema.now.columns c.args.schema.now.partition c.args.columns.now c.in-Ok.partition c.requires
    c.in-Ok.ensures.fits
