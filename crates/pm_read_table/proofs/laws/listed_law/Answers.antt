use Rattle.pm_model_history.specs.History.{table}
use Rattle.pm_paths.proofs.ListedLemmas.{ids_there}
use Rattle.pm_read_table.proofs.laws.listed_law.Goals as goal

pub returns : goal.returns
returns c = λ f s entries names ids id folder are listing. ids_there f (table s entries) names ids id folder are listing
