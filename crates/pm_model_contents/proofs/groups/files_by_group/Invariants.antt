use Rattle.std.proofs.Common.{◌≡◌, Vec, Global, option_map}
use Rattle.std.specs.BTreeMap.{get_by}
use Rattle.std.specs.Map.{values_of}
use Rattle.pm_values.specs.GroupOrder.{group_cmp}
use Rattle.pm_values.specs.declared.file_meta.FileMeta.{FileMeta}
use Rattle.pm_values.specs.declared.group.Group.{Group}
use Rattle.pm_model_contents.specs.Groups.{files_in, some_files}
use Rattle.pm_model_contents.proofs.GroupLemmas.{with_files}
use Rattle.pm_model_contents.proofs.groups.files_by_group.Given as goal

-- once the entries that are left are put to those so far, all are
abbrev pub invariant-loop-entry : goal.invariant-loop-entry
invariant-loop-entry l = (g : Group) → with_files g (values_of l.entry-iterator) (option_map (λ (v : Vec FileMeta Global). v.items) (get_by (group_cmp g) l.groups)) ≡ some_files (files_in g (values_of l.fn.live.entries))
