use Rattle.pm_draft.proofs.LineLemmas.{first_draft, later, alone}
use Rattle.pm_draft.proofs.laws.draft_line_law.Goals as goal

pub returns-clause-draft : goal.returns-clause-draft
returns-clause-draft c = first_draft

pub returns-clause-later : goal.returns-clause-later
returns-clause-later c = later

pub returns-clause-alone : goal.returns-clause-alone
returns-clause-alone c = alone
