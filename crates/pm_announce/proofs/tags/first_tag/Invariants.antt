use Rattle.std.proofs.Common.{◌≡◌, drop}
use Rattle.pm_announce.specs.Tags.{first_tag}
use Rattle.pm_announce.proofs.tags.first_tag.Given as goal

abbrev pub invariant-loop-file : goal.invariant-loop-file
invariant-loop-file l = first_tag (drop l.file-index l.files) ≡ first_tag l.files
