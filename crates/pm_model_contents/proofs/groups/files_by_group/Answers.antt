use Rattle.std.proofs.Common.{[], Vec, Global, option_map, ap, sym, ◌∙◌}
use Rattle.std.specs.BTreeMap.{get_by, is_at}
use Rattle.std.specs.Map.{lookup, values_of}
use Rattle.pm_values.specs.GroupOrder.{group_cmp}
use Rattle.pm_values.specs.declared.file_meta.FileMeta.{FileMeta}
use Rattle.pm_model_contents.proofs.GroupLemmas.{lookup-grouped, with-all, with_files}
use Rattle.pm_model_contents.proofs.groups.files_by_group.Goals as goal

pub loop-entry-init : goal.loop-entry-init
loop-entry-init c = λ g.
    let entries = c.args.live.entries in
    ap (λ ps. with_files g (values_of ps) (option_map (λ (v : Vec FileMeta Global). v.items) (get_by (group_cmp g) c.new-groups.result))) c.into_iter-entry-iterator.ensures.into_iter_gives.0
    ∙ ap (λ es. with_files g (values_of entries) (option_map (λ (v : Vec FileMeta Global). v.items) (lookup (is_at (group_cmp g)) es))) c.new-groups.ensures.empty
    ∙ with-all g [] (values_of entries)

pub loop-entry-preserved : goal.loop-entry-preserved
loop-entry-preserved c = λ g.
    ap (with_files g (values_of c.next.new.self)) (c.in_ok-put_file.ensures g)
    ∙ ap (λ ps. with_files g (values_of ps) (option_map (λ (v : Vec FileMeta Global). v.items) (get_by (group_cmp g) c.loop-entry.groups))) (sym c.in-Some.ensures.steps)
    ∙ c.loop-entry.invariant g

pub returns-clause-files : goal.returns-clause-files
returns-clause-files c = λ g.
    lookup-grouped (is_at (group_cmp g)) c.loop-entry.groups.entries
    ∙ ap (λ ps. with_files g (values_of ps) (option_map (λ (v : Vec FileMeta Global). v.items) (get_by (group_cmp g) c.loop-entry.groups))) (sym c.in-None.ensures.steps.0)
    ∙ c.loop-entry.invariant g
