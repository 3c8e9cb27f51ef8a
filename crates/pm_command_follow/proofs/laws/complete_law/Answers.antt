use Rattle.pm_command_follow.proofs.CompleteLemmas.{all_printed}
use Rattle.pm_command_follow.proofs.laws.complete_law.Goals as goal

pub returns : goal.returns
returns c = λ s es from full first last before after answer follows may quiet whole.
    all_printed s es from full first last may quiet before after answer whole follows.answers
