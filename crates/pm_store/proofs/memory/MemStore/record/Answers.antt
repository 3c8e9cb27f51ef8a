use Rattle.std.proofs.Common.{◌∙◌, ap, sym, [], ◌∷◌, ◌++◌}
use Rattle.pm_store.specs.Files.{files_after, after_op}
use Rattle.pm_store.proofs.FileLaws.{files_after-push}
use Rattle.pm_store.proofs.memory.MemStore.record.Goals as goal

pub invariant_of-self-2 : goal.invariant_of-self-2
invariant_of-self-2 c =
    c.in_ok-apply.ensures.ok
    ∙ ap (after_op c.args.op) c.self.invariant
    ∙ sym (files_after-push c.self.inside.ops.items c.args.op)
    ∙ ap (λ ops. files_after (ops ++ c.args.op ∷ [])) (sym c.reserve.ensures.items)
    ∙ ap files_after (sym c.in-Ok.ensures.items)
