use Rattle.pm_cases_runs.proofs.look_up.look_in.Goals as goal

-- the files were opened with no schema yet
pub say_found-requires : goal.say_found-requires
say_found-requires c = c.in-Ok.ensures c.args.table.schema.now
