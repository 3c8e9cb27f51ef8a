use Rattle.pm_run_writer.proofs.row_writer.add_present.Goals as goal

pub returns-clause-added : goal.returns-clause-added
returns-clause-added c = c.in_ok-add_branch.ensures c.add_scalar.new.out.items _ c.in_ok-add_scalar.ensures.added
