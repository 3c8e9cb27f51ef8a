use Rattle.std.proofs.Common.{List, subst}
use Rattle.pm_manifest.specs.declared.entry.Entry.{Entry}
use Rattle.pm_made.specs.Files.{AreManifests}
use Rattle.pm_made.proofs.FileCountLemmas.{few-made}
use Rattle.pm_made.proofs.making.make.Goals as goal

pub returns-clause-few : goal.returns-clause-few
returns-clause-few c =
    let s = c.args.schema.now in
    let newest = c.args.newest.now in
    let left = c.new_delta.new.names in
    let delta = c.in_ok-entries.field-0 in
    let lists = c.in_ok-lists.lists in
    let own = c.in_ok-lists.ensures.lists in
    few-made s newest c.args.names.now c.args.intent.now delta.files.items left delta.entries.items delta.changes.items c.deref-2.result.now lists c.all_lists.new.files.items
    c.in_ok-entries.ensures.delta (
      own.0,
      subst (λ (changes : List Entry). AreManifests s newest left c.deref-2.result.now changes lists own.0) c.deref-3.ensures.value own.1,
      own.2,
    )
