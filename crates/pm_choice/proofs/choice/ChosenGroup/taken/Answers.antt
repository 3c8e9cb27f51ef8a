use Rattle.std.proofs.Common.{◌∙◌, ap, map, sym, take}
use Rattle.std.proofs.lemmas.List.{take-map, take_min}
use Rattle.pm_levels.specs.Runs.{run_of}
use Rattle.pm_choice.proofs.choice.ChosenGroup.taken.Goals as goal

pub returns : goal.returns
returns c =
    let runs = c.runs-runs.result.now in
    let count = c.args.self.now.take in
    ap (λ n. map run_of (take n runs)) c.min-count.ensures
    ∙ ap (map run_of) (take_min count runs)
    ∙ sym (take-map run_of count runs)
    ∙ ap (take count) c.runs-runs.ensures
