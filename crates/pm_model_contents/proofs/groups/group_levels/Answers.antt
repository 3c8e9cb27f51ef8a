use Rattle.std.specs.BTreeMap.{is_at, get_by}
use Rattle.std.specs.Map.{lookup, values_of}
use Rattle.std.proofs.lemmas.Result.{IfOk-weaker, IfErr-weaker}
use Rattle.pm_values.specs.GroupOrder.{group_cmp}
use Rattle.std.proofs.Common.{List, Option, None, Some, IsSome, refl, subst}
use Rattle.pm_levels.specs.Runs.{RunView}
use Rattle.pm_schema.specs.Folder.{FitsPartition}
use Rattle.pm_values.specs.declared.file_meta.FileMeta.{FileMeta}
use Rattle.pm_values.specs.declared.group.Group.{Group}
use Rattle.pm_model_contents.specs.Groups.{GroupRuns, HasRuns, Overlaps, RefusesGroups, files_in, grouped}
use Rattle.pm_model_contents.proofs.FileLemmas.{are-files, found, live-in}
use Rattle.pm_model_contents.proofs.GroupLemmas.{group-runs, has-folder, overlaps}
use Rattle.pm_model_contents.proofs.groups.group_levels.Goals as goal

pub levels_by_group-requires : goal.levels_by_group-requires
levels_by_group-requires c = λ g some.
    let pairs = c.args.live.entries in
    has-folder c.args.schema.now (found pairs) (values_of pairs) g (lookup (is_at (group_cmp g)) (grouped c.in_ok-groups.groups.entries))
    (live-in pairs c.files_by_group.ensures.unique c.requires.named) c.requires.folders (c.in_ok-groups.ensures.files g) some

pub returns-clause-runs : goal.returns-clause-runs
returns-clause-runs c =
    let pairs = c.args.live.entries in
    let entries = grouped c.in_ok-groups.groups.entries in
    IfOk-weaker c.levels_by_group.result (λ levels. (g : Group) → HasRuns (lookup (is_at (group_cmp g)) entries) (get_by (group_cmp g) levels))
    (λ levels. (g : Group) → GroupRuns (found pairs) g (get_by (group_cmp g) levels))
    (λ levels has g.
    group-runs (found pairs) g (files_in g (values_of pairs)) (get_by (group_cmp g) levels) (are-files pairs c.files_by_group.ensures.unique c.requires.named g)
    (subst (λ o. HasRuns o (get_by (group_cmp g) levels)) (c.in_ok-groups.ensures.files g) (has g)))
    c.levels_by_group.ensures.runs

pub returns-clause-refused : goal.returns-clause-refused
returns-clause-refused c =
    let pairs = c.args.live.entries in
    let entries = grouped c.in_ok-groups.groups.entries in
    IfErr-weaker c.levels_by_group.result (RefusesGroups c.args.schema.now entries) (Overlaps c.args.schema.now (found pairs))
    (overlaps c.args.schema.now (found pairs) (λ g. files_in g (values_of pairs)) (are-files pairs c.files_by_group.ensures.unique c.requires.named) entries c.in_ok-groups.ensures.files
    c.levels_by_group.ensures.ordered)
    c.levels_by_group.ensures.refused

-- a group with runs has files
has-files : (files : Option (List FileMeta)) (runs : Option (List RunView)) → HasRuns files runs → IsSome runs → IsSome files
has-files None None has some = some
has-files None (Some runs) has some = absurd has
has-files (Some files) runs has some = refl

pub returns-clause-folders : goal.returns-clause-folders
returns-clause-folders c =
    let pairs = c.args.live.entries in
    let entries = grouped c.in_ok-groups.groups.entries in
    IfOk-weaker c.levels_by_group.result (λ levels. (g : Group) → HasRuns (lookup (is_at (group_cmp g)) entries) (get_by (group_cmp g) levels))
    (λ levels. (g : Group) → IsSome (get_by (group_cmp g) levels) → FitsPartition c.args.schema.now g)
    (λ levels has g some.
    has-folder c.args.schema.now (found pairs) (values_of pairs) g (lookup (is_at (group_cmp g)) entries) (live-in pairs c.files_by_group.ensures.unique c.requires.named)
    c.requires.folders (c.in_ok-groups.ensures.files g) (has-files (lookup (is_at (group_cmp g)) entries) (get_by (group_cmp g) levels) (has g) some))
    c.levels_by_group.ensures.runs
