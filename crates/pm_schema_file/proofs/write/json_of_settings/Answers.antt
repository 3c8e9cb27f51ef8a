use Rattle.std.proofs.Common.{sym, ap, ◌∙◌}
use Rattle.std.proofs.lemmas.List.{map-append}
use Rattle.serde_json.specs.View.{members_view}
use Rattle.pm_options.specs.Written.{text_views}
use Rattle.pm_schema_file.proofs.WriteLemmas.{settings_onto, settings_onto-none, settings_onto-push, text_view}
use Rattle.pm_schema_file.proofs.write.json_of_settings.Goals as goal

pub loop-setting-init : goal.loop-setting-init
loop-setting-init c =
    let ss = text_views c.args.settings.items in
    ap (λ es. settings_onto ss (members_view es)) c.new-members.ensures.empty ∙ settings_onto-none ss

pub loop-setting-preserved : goal.loop-setting-preserved
loop-setting-preserved c =
    let old = members_view c.loop-setting.members.entries in
    let left = c.pop.new.self.items in
    let setting = c.in-Some.setting in
    ap (settings_onto (text_views left)) c.in_ok-insert.ensures
    ∙ sym (settings_onto-push (text_views left) (text_view setting) old)
    ∙ sym (ap (λ ss. settings_onto ss old) (ap text_views c.in-Some.ensures.items ∙ map-append text_view left _))
    ∙ c.loop-setting.invariant
