use Rattle.std.proofs.Common.{ℕ, List, [], ◌∷◌, ◌++◌, Bor, ap, ◌∙◌}
use Rattle.std.proofs.lemmas.List.{map-append}
use Rattle.serde_json.specs.View.{members_view}
use Rattle.pm_options.specs.Settings.{views}
use Rattle.pm_options.specs.Table.{Setting}
use Rattle.pm_schema.specs.Stated.{settings_in}
use Rattle.pm_schema_file.proofs.Lists.{after, settings_in-next}
use Rattle.pm_schema_file.proofs.shape.settings_in.Goals as goal

abbrev setting : Bor (List ℕ) × Bor (List ℕ) → Setting
setting s = (s.0.now, s.1.now)

pub loop-key-preserved : goal.loop-key-preserved
loop-key-preserved c =
    let items = c.loop-key.settings.items in
    let text = c.in-Some-as_str.text.now in
    let rest = c.next.new.self in
    let whole = settings_in (members_view c.args.members.now.entries) in
    let pushed = ap views c.in_ok-push-in-Some-as_str.ensures.items ∙ map-append setting items _ in
    let named = ap (λ (k : List ℕ). views items ++ (k, text) ∷ []) c.as_str-in-Some-as_str.ensures.value in
    ap (λ front. after front (settings_in (members_view rest))) (pushed ∙ named)
    ∙ settings_in-next (views items) c.loop-key.key-iterator rest (c.in-Some.key.now, c.in-Some.value.now) text whole c.in-Some.ensures.steps c.in-Some-as_str.ensures c.loop-key.invariant
