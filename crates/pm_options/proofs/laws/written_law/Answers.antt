use Rattle.pm_options.specs.Written.{settings_of}
use Rattle.pm_options.proofs.EntryLemmas.{by_name-Rises}
use Rattle.pm_options.proofs.LookupLemmas.{bucket_stands, format_stands}
use Rattle.pm_options.proofs.WrittenLemmas.{options_of-written}
use Rattle.pm_options.proofs.laws.written_law.Goals as goal

pub returns-clause-again : goal.returns-clause-again
returns-clause-again c = λ o is. options_of-written o is

pub returns-clause-order : goal.returns-clause-order
returns-clause-order c = λ o. by_name-Rises (settings_of o)

pub returns-clause-bucket : goal.returns-clause-bucket
returns-clause-bucket c = λ o. bucket_stands o

pub returns-clause-format : goal.returns-clause-format
returns-clause-format c = λ o. format_stands o
