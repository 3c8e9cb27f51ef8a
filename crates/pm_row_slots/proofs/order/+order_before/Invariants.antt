use Rattle.std.proofs.Common.{length}
use Rattle.pm_row_slots.proofs.order.+order_before.Given as goal

abbrev pub decreases-order_before : goal.decreases-order_before
decreases-order_before l = length l.a.now
