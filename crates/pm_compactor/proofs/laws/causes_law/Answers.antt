use Rattle.pm_compactor.proofs.CauseLemmas.{CauseLaws, causes}
use Rattle.pm_compactor.proofs.laws.causes_law.Goals as goal

pub returns : goal.returns
returns c =
    let laws : CauseLaws = record {
      committer = c.causes_law.ensures;
      files = c.causes_law-2.ensures;
      view = c.causes_law-3.ensures;
      one = c.one_contents_law.ensures;
      live = c.entries_law.ensures;
      whole = c.whole_law.ensures;
      rows = λ s bytes rows others one other. c.one_list_law.ensures.one s _ bytes rows others one other;
      kept = c.known_log_law.ensures.kept;
      grows = c.planned_law.ensures.grows;
      memory = c.planned_law.ensures.memory;
    } in
    causes laws
