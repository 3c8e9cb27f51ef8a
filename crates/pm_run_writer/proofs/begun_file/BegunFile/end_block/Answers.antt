use Rattle.pm_run_writer.proofs.begun_file.BegunFile.end_block.Goals as goal

pub returns-clause-begun : goal.returns-clause-begun
returns-clause-begun c = λ t blocks ds begun encoded count. c.in_ok-add_block.ensures t blocks ds begun (rw c.deref.ensures.value encoded) count
