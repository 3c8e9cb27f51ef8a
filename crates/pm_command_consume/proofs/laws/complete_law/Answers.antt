use Rattle.pm_command_consume.proofs.CompleteLemmas.{completes}
use Rattle.pm_command_consume.proofs.laws.complete_law.Goals as goal

pub returns : goal.returns
returns c = λ consuming b first last before after answer answers may store sink.
    completes consuming b first last before after may store answer answers sink
