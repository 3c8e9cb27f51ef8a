use Rattle.pm_schema.proofs.LawLemmas.{draft_of-DraftOf, DraftOf-draft_of}
use Rattle.pm_schema.proofs.laws.draft_law.Goals as goal

pub returns : goal.returns
returns c = λ line origin now s. (draft_of-DraftOf line origin now s, DraftOf-draft_of line origin now s)
