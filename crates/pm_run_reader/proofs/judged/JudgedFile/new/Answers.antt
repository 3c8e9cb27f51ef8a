use Rattle.pm_run_reader.proofs.judged.JudgedFile.new.Goals as goal

pub invariant_of-result : goal.invariant_of-result
invariant_of-result c = ((c.requires.0, ∣ c.requires.1 ∣₁), tt)
