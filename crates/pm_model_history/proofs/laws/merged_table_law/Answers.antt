use Rattle.pm_model_history.proofs.MergedLemmas.{get-table}
use Rattle.pm_model_history.proofs.laws.merged_table_law.Goals as goal

pub returns : goal.returns
returns c = get-table
