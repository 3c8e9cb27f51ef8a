use Rattle.std.proofs.Common.{length}
use Rattle.pm_row_slots.proofs.order.+order_by_value.Given as goal

abbrev pub decreases-order_by_value : goal.decreases-order_by_value
decreases-order_by_value l = length l.a.now
