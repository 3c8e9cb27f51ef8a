use Rattle.std.proofs.Common.{sym, ◌∙◌, true≢false}
use Rattle.indexmap.specs.IndexMap.{get}
use Rattle.pm_manifest.specs.FileId.{id_eq}
use Rattle.pm_manifest.proofs.live.fold_entry.Goals as goal

pub returns-then-not-can_follow-clause-refused : goal.returns-then-not-can_follow-clause-refused
returns-then-not-can_follow-clause-refused c =
    c.damaged.ensures (get id_eq c.args.live.now) c.args.entry (λ f. true≢false (sym (c.can_follow.ensures.1 f) ∙ c.if-not-can_follow.true))
