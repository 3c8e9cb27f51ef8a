use Rattle.pm_group_files.specs.Reading.{ReadingView, reading_of}
use Rattle.pm_group_files.proofs.AfterLemmas.{file_on}
use Rattle.pm_group_files.proofs.after.after_file.Goals as goal

pub returns-in-Ok-clause-goes : goal.returns-in-Ok-clause-goes
returns-in-Ok-clause-goes c =
    let own : ReadingView = reading_of c.reading.inside.id c.reading.inside.collected c.reading.inside.next c.reading.inside.rest.items in
    file_on c.args.reading own c.args.found c.in-Some.bytes c.take-taken.new.self c.read_next.result c.reading.view_is c.in-Some.is
    c.in-Ok.ensures.takes c.read_next.ensures
