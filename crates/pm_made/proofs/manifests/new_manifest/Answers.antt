use Rattle.std.proofs.Common.{◌≡◌, ◌-◌, length, refl, ap, ◌∙◌, arith}
use Rattle.pm_values.specs.Names.{Naming}
use Rattle.pm_made.proofs.ManifestLemmas.{new-manifest}
use Rattle.pm_made.proofs.manifests.new_manifest.Goals as goal

pub returns-clause-made : goal.returns-clause-made
returns-clause-made c =
    let counted = c.len.ensures in
    let size : c.len.result ≡ length c.in_ok-bytes.bytes.items = grind (arith, c.in_ok-bytes.bytes.ok) in
    new-manifest c.args.schema.now c.args.names.now c.args.entries.now
    (record {
      name = c.in_ok-name.name;
      size = c.len.result;
      added = c.count_added-added.result;
      deleted = length c.args.entries.now - c.count_added-added.result;
      schema_id = c.args.schema.now.id;
    }) c.session.result c.in_ok-bytes.bytes.items (record { path = c.in_ok-path.path; bytes = c.new.result }) c.in_ok-name.ensures.name
    c.in_ok-path.ensures c.new.ensures size c.count_added-added.ensures.exact refl refl
    (c.session.ensures ∙ ap (λ (n : Naming). n.session) c.in_ok-name.ensures.counted) c.in_ok-bytes.ensures.file c.in_ok-bytes.ensures.within
    c.in_ok-bytes.ensures.again
