use Rattle.std.proofs.Common.{◌∙◌}
use Rattle.pm_compaction_log.proofs.older.OlderRows.of.Goals as goal

-- no row stands first
pub returns : goal.returns
returns g c = λ m. rw (c.in_ok-first.ensures.ok ∙ c.new.ensures) (c.in_ok-merging.ensures.left m)
