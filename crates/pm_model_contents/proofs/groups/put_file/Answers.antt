use Rattle.std.proofs.Common.{rules}
use Rattle.pm_model_contents.proofs.GroupLemmas.{put}
use Rattle.pm_model_contents.proofs.groups.put_file.Goals as goal

pub returns : goal.returns
returns c = λ g.
    put g c.args.entry c.args.groups.now _ _ _ c.or_default.result.now c.push.new.self (c.in_ok-groups.ensures.update.0 c.push.new.self).0 c.in_ok-groups.ensures.value c.or_default.ensures.value
    c.in_ok-push.ensures.items (search rules)
