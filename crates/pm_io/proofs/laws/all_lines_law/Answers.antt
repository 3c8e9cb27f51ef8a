use Rattle.pm_io.proofs.Lemmas.{all_lines-ended, all_lines-last, all_lines-first, first_line-parts, first_line-unbroken}
use Rattle.pm_io.proofs.laws.all_lines_law.Goals as goal

pub returns-clause-ended : goal.returns-clause-ended
returns-clause-ended c = all_lines-ended

pub returns-clause-last : goal.returns-clause-last
returns-clause-last c = all_lines-last

pub returns-clause-first : goal.returns-clause-first
returns-clause-first c = all_lines-first

pub returns-clause-parts : goal.returns-clause-parts
returns-clause-parts c = first_line-parts

pub returns-clause-unbroken : goal.returns-clause-unbroken
returns-clause-unbroken c = first_line-unbroken
