use Rattle.std.proofs.Common.{◌≡◌, vec_len}
use Rattle.serde_json.specs.View.{members_view}
use Rattle.pm_options.specs.Written.{text_views}
use Rattle.pm_schema.specs.Written.{settings_members}
use Rattle.pm_schema_file.proofs.WriteLemmas.{settings_onto}
use Rattle.pm_schema_file.proofs.write.json_of_settings.Given as goal

abbrev pub invariant-loop-setting : goal.invariant-loop-setting
invariant-loop-setting l =
    settings_onto (text_views l.left.items) (members_view l.members.entries) ≡ settings_members (text_views l.fn.settings.items)

abbrev pub decreases-loop-setting : goal.decreases-loop-setting
decreases-loop-setting l = vec_len l.left
