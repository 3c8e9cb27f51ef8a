use Rattle.std.proofs.Common.{◌≤◌}
use Rattle.std.proofs.lemmas.Result.{IfOk-weaker}
use Rattle.pm_snapshot.proofs.WriteLemmas.{IfOk-again, depth-consumer_data, consumer_from-consumer_data, consumer_text-printed}
use Rattle.pm_snapshot.specs.Consumer.{consumer_data, consumer_in, consumer_from}
use Rattle.pm_snapshot.proofs.consumer.write_consumer.Goals as goal

pub returns-clause-text : goal.returns-clause-text
returns-clause-text c =
    IfOk-weaker c.to_vec.result _ _ (λ v prints. consumer_text-printed c.args.c.now _ v.items
    c.in_ok-json_of.ensures prints) c.to_vec.ensures.text

pub returns-clause-again : goal.returns-clause-again
unfolding consumer_in
returns-clause-again c =
    let x = c.args.c.now in
    IfOk-again c.to_vec.result _ (consumer_data x) consumer_from x (1 ≤ x.next) c.in_ok-json_of.ensures
    (depth-consumer_data x)
    (consumer_from-consumer_data x) c.to_vec.ensures.utf8 c.to_vec.ensures.reads_back
