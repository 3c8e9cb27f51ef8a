use Rattle.std.proofs.Common.{sym, ap, ◌∙◌}
use Rattle.pm_made.specs.Files.{merges}
use Rattle.pm_made.proofs.ManifestLemmas.{if-ok, kept-base, merged-base}
use Rattle.pm_made.proofs.manifests.all_lists.Goals as goal

pub returns-in_ok-base-clause-lists : goal.returns-in_ok-base-clause-lists
returns-in_ok-base-clause-lists c =
    if-ok _ _ c.new_lists.result
    (λ lists made. merged-base c.args.schema.now c.args.newest.now c.args.names.now c.args.entries.now c.args.changes.now lists c.deref-then-merges.result.now
    c.in_ok-base.base.items c.deref-then-merges-2.result.now c.manifest_of.new.names c.args.files.now.items c.manifest_of.new.files.items c.new_lists.new.files.items
    (ap (merges c.args.schema.now) (sym c.deref.ensures.value) ∙ sym c.merges.ensures ∙ c.if-merges.true) c.deref-then-merges.ensures.value c.in_ok-base.ensures.made
    c.deref-then-merges-2.ensures.value made)
    c.new_lists.ensures.lists

pub returns-else-merges-clause-lists : goal.returns-else-merges-clause-lists
returns-else-merges-clause-lists c =
    if-ok _ _ c.new_lists-else-merges.result
    (λ lists made. kept-base c.args.schema.now c.args.newest.now c.args.names.now c.args.entries.now c.args.changes.now lists c.deref-else-merges.result.now
    c.args.files.now.items c.new_lists-else-merges.new.files.items
    (ap (merges c.args.schema.now) (sym c.deref.ensures.value) ∙ sym c.merges.ensures ∙ c.if-merges.false) c.deref-else-merges.ensures.value made)
    c.new_lists-else-merges.ensures.lists
