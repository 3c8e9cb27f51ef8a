use Rattle.std.proofs.lemmas.Str.Pattern.{ends_text}
use Rattle.pm_manifest.specs.Entries.{suffix}
use Rattle.pm_manifest_reader.proofs.manifest_reader.is_of_records.Goals as goal

pub returns : goal.returns
returns c = ends_text c.ends_with.result suffix c.args.name.now c.ends_with.ensures.cases
