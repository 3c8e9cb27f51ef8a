use Rattle.pm_schema.proofs.DeclaredLemmas.{DraftOf-declared, SchemaOf-declared}
use Rattle.pm_schema.proofs.laws.declared_law.Goals as goal

pub returns-clause-file : goal.returns-clause-file
returns-clause-file c = λ path text s declares. SchemaOf-declared path text s declares

pub returns-clause-draft : goal.returns-clause-draft
returns-clause-draft c = λ line origin now s fits declares. DraftOf-declared line origin now s fits declares
