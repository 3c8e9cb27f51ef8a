use Rattle.std.proofs.Common.{◌≡◌}
use Rattle.serde_json.specs.View.{members_view}
use Rattle.pm_options.specs.Settings.{views}
use Rattle.pm_schema.specs.Stated.{settings_in}
use Rattle.pm_schema_file.proofs.Lists.{after}
use Rattle.pm_schema_file.proofs.shape.settings_in.Given as goal

abbrev pub invariant-loop-key : goal.invariant-loop-key
invariant-loop-key l =
    after (views l.settings.items) (settings_in (members_view l.key-iterator)) ≡ settings_in (members_view l.members.entries)
