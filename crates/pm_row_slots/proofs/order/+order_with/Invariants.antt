use Rattle.std.proofs.Common.{length}
use Rattle.pm_row_slots.proofs.order.+order_with.Given as goal

abbrev pub decreases-order_with : goal.decreases-order_with
decreases-order_with l = length l.a.now
