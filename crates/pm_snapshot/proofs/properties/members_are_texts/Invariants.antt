use Rattle.std.proofs.Common.{◌≡◌}
use Rattle.serde_json.specs.View.{members_view}
use Rattle.pm_snapshot.specs.Properties.{members_are_texts}
use Rattle.pm_snapshot.proofs.properties.members_are_texts.Given as goal

-- the members so far are texts, so those that are left decide
abbrev pub invariant-loop-value : goal.invariant-loop-value
invariant-loop-value l = members_are_texts (members_view l.value-iterator) ≡ members_are_texts
    (members_view l.map.entries)
