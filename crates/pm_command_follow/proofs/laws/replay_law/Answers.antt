use Rattle.pm_command_follow.proofs.FinishedLemmas.{finished-all, input-all}
use Rattle.pm_command_follow.proofs.ReplayLemmas.{leads_from, leads_on}
use Rattle.pm_command_follow.proofs.TextLemmas.{table_is}
use Rattle.pm_command_follow.proofs.laws.replay_law.Goals as goal

pub returns-clause-replayed : goal.returns-clause-replayed
returns-clause-replayed c = leads_on (record { one_row = c.round_trip_law.ensures.one_row; newline = c.line_law.ensures.newline; begins = c.line_law.ensures.begins }) c.merged_table_law.ensures c.frames_law.ensures c.schema_law.ensures.exact c.declared_law.ensures.file

pub returns-clause-printed : goal.returns-clause-printed
returns-clause-printed c = leads_from (record { one_row = c.round_trip_law.ensures.one_row; newline = c.line_law.ensures.newline; begins = c.line_law.ensures.begins }) c.merged_table_law.ensures c.frames_law.ensures c.schema_law.ensures.exact c.declared_law.ensures.file

pub returns-clause-finished : goal.returns-clause-finished
returns-clause-finished c = λ f s es last stands within all. finished-all c.kept_law.ensures.table s es last stands.history.bases within all

pub returns-clause-input : goal.returns-clause-input
returns-clause-input c = input-all

pub returns-clause-scanned : goal.returns-clause-scanned
returns-clause-scanned c = c.finished_law.ensures

pub returns-clause-starting : goal.returns-clause-starting
returns-clause-starting c = table_is
