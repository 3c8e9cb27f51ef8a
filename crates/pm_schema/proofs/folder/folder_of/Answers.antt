use Rattle.pm_schema.proofs.FolderLemmas.{texts_from_fits}
use Rattle.pm_schema.proofs.folder.folder_of.Goals as goal

pub push_parts-requires : goal.push_parts-requires
push_parts-requires c = rw (c.as_slice.ensures, c.values.ensures) (texts_from_fits c.args.schema.now.columns c.args.schema.now.partition c.args.group.now.partition c.requires)
