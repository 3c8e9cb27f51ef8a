use Rattle.pm_packed.proofs.order.+order_of_many.Given as goal

abbrev pub decreases-order_of_many : goal.decreases-order_of_many
decreases-order_of_many l = l.a_count
