use Rattle.std.proofs.Common.{ℕ, ◌<◌, get_or, rules}
use Rattle.pm_run.proofs.RangeLemmas.{all_bytes}
use Rattle.pm_run_scalars.proofs.leaf.known_bytes.Goals as goal

pub returns : goal.returns
returns c =
    let each : (i : ℕ) → get_or c.args.bytes.now i 0 < 256 = search rules in
    all_bytes c.args.bytes.now each
