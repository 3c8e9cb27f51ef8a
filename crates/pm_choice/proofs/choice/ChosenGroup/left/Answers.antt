use Rattle.std.proofs.Common.{◌∙◌, ap, drop, map, sym}
use Rattle.std.proofs.lemmas.List.{drop-map, drop_min, take_rest}
use Rattle.pm_levels.specs.Runs.{run_of}
use Rattle.pm_choice.proofs.choice.ChosenGroup.left.Goals as goal

pub returns : goal.returns
returns c =
    let runs = c.runs-runs.result.now in
    let count = c.args.self.now.take in
    ap (map run_of) (take_rest runs c.min-count.result)
    ∙ ap (λ n. map run_of (drop n runs)) c.min-count.ensures
    ∙ ap (map run_of) (drop_min count runs)
    ∙ sym (drop-map run_of count runs)
    ∙ ap (drop count) c.runs-runs.ensures
