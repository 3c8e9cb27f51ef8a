use Rattle.pm_read_expiry.proofs.Facts as reading_facts
use Rattle.pm_expire.proofs.after.after_read.Goals as goal

pub with_reader-requires : goal.with_reader-requires
with_reader-requires c = record { left = (reading_facts.goes_ahead c.args.reader c.args.answer c.take.new.self c.requires.is_reader c.in-Ok.ensures.goes).1 }
