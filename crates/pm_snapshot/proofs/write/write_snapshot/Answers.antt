use Rattle.std.proofs.lemmas.Result.{IfOk-weaker}
use Rattle.pm_snapshot.proofs.WriteLemmas.{IfOk-again, depth-snapshot_data, snapshot_from-snapshot_data, snapshot_text-printed}
use Rattle.pm_snapshot.specs.Snapshot.{IsConsistent, snapshot_data, snapshot_in, snapshot_from}
use Rattle.pm_snapshot.proofs.write.write_snapshot.Goals as goal

pub returns-clause-text : goal.returns-clause-text
returns-clause-text c =
    IfOk-weaker c.to_vec.result _ _ (λ v prints. snapshot_text-printed c.args.s.now _ v.items
    c.in_ok-json_of.ensures.data prints) c.to_vec.ensures.text

pub returns-clause-again : goal.returns-clause-again
unfolding snapshot_in
returns-clause-again c =
    let s = c.args.s.now in
    let made = c.in_ok-json_of.ensures in
    IfOk-again c.to_vec.result _ (snapshot_data s) (snapshot_from s.id) s (IsConsistent s) made.data
    (depth-snapshot_data s)
    (snapshot_from-snapshot_data s (record { commit = made.commit; counts = made.counts; own = made.own }))
    c.to_vec.ensures.utf8 c.to_vec.ensures.reads_back
