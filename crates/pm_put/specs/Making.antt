-- Files that are being created.
use Rattle.std.specs.Prelude.{List}
use Rattle.pm_put.specs.declared.putting.CommitFile.{CommitFile}
use Rattle.pm_put.specs.declared.putting.Publishing.{Publishing}

-- what is published once all files are there, the next of them, and those after it
pub record MakingView : Type 0 where
  pub publishing : Publishing
  pub next : CommitFile
  pub rest : List CommitFile

abbrev pub making_of : Publishing → CommitFile → List CommitFile → MakingView
making_of publishing next rest = record { publishing = publishing; next = next; rest = rest }
