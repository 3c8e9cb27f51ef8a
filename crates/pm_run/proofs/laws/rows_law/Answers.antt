use Rattle.std.proofs.Common.{None, sym, subst}
use Rattle.pm_run.specs.Rows.{AreBytes}
use Rattle.pm_run.proofs.FileRowLemmas.{block_of_file, follow_of_file, rows_of_file, rows_of_run}
use Rattle.pm_run.proofs.laws.rows_law.Goals as goal

pub returns-clause-have : goal.returns-clause-have
returns-clause-have c = λ s changes bytes rows all h. rows_of_file s changes bytes rows all h

pub returns-clause-run : goal.returns-clause-run
returns-clause-run c = λ s files rows all h. rows_of_run s files rows all h

pub returns-clause-gives : goal.returns-clause-gives
returns-clause-gives c = λ s changes path bytes r rows end all o g.
    follow_of_file s changes path r r.first None rows end (subst AreBytes (sym o.same) all) g

pub returns-clause-follow : goal.returns-clause-follow
returns-clause-follow c = λ s changes path r offset before rows end all f. follow_of_file s changes path r offset before rows end all f

pub returns-clause-block : goal.returns-clause-block
returns-clause-block c = λ s changes path r offset next ds before all b. block_of_file s changes path r offset next ds before all b
