use Rattle.std.proofs.Common.{◌≡◌, Global, String, string_bytes, ap, ◌∙◌, rules}
use Rattle.serde_json.specs.Data.{put, string}
use Rattle.serde_json.specs.View.{members_view, view}
use Rattle.serde_json.specs.declared.value.Value as value
use Rattle.serde_json.proofs.Views.{members_view-insert_entry}
use Rattle.pm_schema_file.proofs.write.insert.Goals as goal

view-String : (text : String Global) → view (value.String text) ≡ string (string_bytes text)
view-String text = search (rules, value.the_lemmas)

pub returns : goal.returns
returns c =
    let old = c.args.members.now.entries in
    ap members_view c.in_ok-insert.ensures.entries ∙ members_view-insert_entry old c.args.key (value.String c.args.text)
    ∙ ap (λ d. put (string_bytes c.args.key) d (members_view old)) (view-String c.args.text)
