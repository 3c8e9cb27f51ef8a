use Rattle.std.proofs.Common.{List, [], ◌∷◌, ◌++◌, subst}
use Rattle.pm_manifest.specs.declared.entry.ManifestMeta.{ManifestMeta}
use Rattle.pm_made.specs.Files.{HasChangesList, IsNewList}
use Rattle.pm_made.proofs.ManifestLemmas.{new-lists, put-five}
use Rattle.pm_made.proofs.manifests.new_lists.Goals as goal

pub returns-clause-lists : goal.returns-clause-lists
returns-clause-lists c =
    let s = c.args.schema.now in
    let delta = c.in_ok-delta_metas.ensures.made in
    let changes = c.in_ok-changes_metas.ensures.made in
    let list = c.in_ok-delta.field-0 in
    let told = c.in_ok-changes.ensures.made in
    let last = c.in_ok-base.field-0 in (
      delta.0 ++ (changes.0 ++ (list.file ∷ (told.0 ++ last.file ∷ []))),
      new-lists s c.args.names.now c.manifest_of.new.names c.manifest_of-2.new.names c.new_list.new.names c.changes_list.new.names c.args.entries.now
          c.args.changes.now c.args.base.now c.in_ok-delta_metas.delta_metas.items c.in_ok-changes_metas.changes_metas.items list.name last.name
          c.in_ok-changes.changes delta.0 changes.0 told.0 list.file last.file delta.1 changes.1
          (subst (λ (metas : List ManifestMeta). IsNewList s c.manifest_of-2.new.names metas list.name list.file) c.deref.ensures.value c.in_ok-delta.ensures.made)
          c.in_ok-delta.ensures.names
          (subst (λ (metas : List ManifestMeta). HasChangesList s c.new_list.new.names metas c.in_ok-changes.changes told.0 c.changes_list.new.names)
          c.deref-2.ensures.value told.1)
          c.in_ok-base.ensures.made,
      put-five c.args.files.now.items c.manifest_of.new.files.items c.manifest_of-2.new.files.items c.push.new.self.items c.changes_list.new.files.items
          c.push-2.new.self.items delta.0 changes.0 told.0 list.file last.file delta.2 changes.2 c.in_ok-push.ensures.items told.2 c.in_ok-push-2.ensures.items,
    )
