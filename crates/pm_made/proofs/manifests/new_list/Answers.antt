use Rattle.std.proofs.Common.{ap, ◌∙◌}
use Rattle.pm_values.specs.Names.{Naming}
use Rattle.pm_made.proofs.ManifestLemmas.{new-list}
use Rattle.pm_made.proofs.manifests.new_list.Goals as goal

pub returns-clause-made : goal.returns-clause-made
returns-clause-made c =
    new-list c.args.schema.now c.args.names.now c.args.metas.now c.in_ok-name.name c.session.result c.in_ok-bytes.bytes.items
    (record { path = c.in_ok-path.path; bytes = c.new.result }) c.in_ok-name.ensures.name c.in_ok-path.ensures c.new.ensures
    (c.session.ensures ∙ ap (λ (n : Naming). n.session) c.in_ok-name.ensures.counted) c.in_ok-bytes.ensures.file c.in_ok-bytes.ensures.again
