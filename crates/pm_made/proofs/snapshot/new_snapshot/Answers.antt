use Rattle.std.proofs.Common.{ap, rules}
use Rattle.pm_model_folder.specs.Entries.{rows_added, rows_in_files}
use Rattle.pm_made.specs.Delta.{Delta, IsDeltaOf}
use Rattle.pm_made.specs.Intent.{removed_of}
use Rattle.pm_made.proofs.CountLemmas.{total_is}
use Rattle.pm_made.proofs.snapshot.new_snapshot.Goals as goal

pub returns : goal.returns
returns c = λ (d : Delta) (is : IsDeltaOf (removed_of c.args.intent.now) c.args.entries.now c.args.changes.now d).
    let total = total_is (removed_of c.args.intent.now) c.args.newest.now.live.items c.args.entries.now c.args.changes.now d is in
    let delta = ap rows_added is.whole in
    let told = ap rows_in_files is.told in
    search rules
