use Rattle.pm_commit.proofs.AfterLemmas.{still-reads}
use Rattle.pm_commit.proofs.after.after_view.Goals as goal

pub after_reader-requires : goal.after_reader-requires
after_reader-requires c =
    still-reads c.read_entry_law.ensures.manifest c.args.own c.args.reader c.args.answer c.take.new.self c.requires.viewing c.in-Ok.ensures.goes
