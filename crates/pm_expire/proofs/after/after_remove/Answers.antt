use Rattle.pm_expire.proofs.PhaseLemmas.{remover_left}
use Rattle.pm_expire.proofs.after.after_remove.Goals as goal

pub with_remover-requires : goal.with_remover-requires
with_remover-requires c = record { left = remover_left c.args.remover c.args.answer c.take.new.self c.in-Ok.ensures.goes }
