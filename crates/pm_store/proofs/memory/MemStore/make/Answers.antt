use Rattle.std.proofs.Common.{arith}
use Rattle.pm_store.proofs.StepLaws.{IsLater-step}
use Rattle.pm_store.proofs.memory.MemStore.make.Goals as goal

-- src/memory.rt:92:5
pub returns-clause-later : goal.returns-clause-later
returns-clause-later c = IsLater-step c.whole.result c.args.self.now c.record.new.self 0 0 c.in_ok-record.ensures.ok (omega arith)
