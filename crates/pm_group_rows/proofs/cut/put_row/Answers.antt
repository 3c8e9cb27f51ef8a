use Rattle.std.proofs.Common.{refl, rules}
use Rattle.pm_group_rows.proofs.CutLemmas.{put}
use Rattle.pm_group_rows.proofs.cut.put_row.Goals as goal

pub returns : goal.returns
returns c = λ g.
    put g c.args.group c.args.row _ c.args.groups.now _ _ _ c.or_insert-own.result.now c.push.new.self c.len-seq.result (c.in_ok-groups.ensures.update.0 c.push.new.self).0
    c.in_ok-groups.ensures.value (search rules) c.len-seq.ensures refl c.in_ok-push.ensures.added (search rules)
