use Rattle.std.proofs.Common.{ℕ, List, ◌<◌, length, ap, ◌∙◌, arith, rules}
use Rattle.std.specs.BTreeMap.{get_by}
use Rattle.pm_values.specs.GroupOrder.{group_cmp}
use Rattle.pm_model_history.specs.Merge.{key_of}
use Rattle.pm_group_rows.proofs.BucketLemmas.{blank}
use Rattle.pm_group_rows.proofs.CutLemmas.{dealt-more}
use Rattle.pm_group_rows.proofs.cut.dealt.Goals as goal

pub loop-index-preserved : goal.loop-index-preserved
loop-index-preserved c = λ g.
    let inside : c.loop-index.index < length c.args.rows.now = omega (arith, c.loop-index-test.true, c.loop-index.auto, c.len-index-end.ensures) in
    dealt-more c.args.schema.now c.args.rows.now c.loop-index.index c.in_ok-row.row _ c.in_ok-partition.partition.items c.args.buckets.now g (get_by (group_cmp g) c.loop-index.groups) (get_by (group_cmp g) c.put_row.new.groups)
    inside (c.in_ok-row.ensures blank) c.in_ok-partition.ensures (c.in_ok-values_at.ensures ∙ ap (λ (cs : List ℕ). key_of cs c.in_ok-row.row.row) c.deref.ensures.value) c.requires.buckets (search rules) (c.in_ok-put_row.ensures g) (c.loop-index.invariant g)
