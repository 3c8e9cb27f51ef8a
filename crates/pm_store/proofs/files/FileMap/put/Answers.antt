use Rattle.pm_store.proofs.FileMapLaws.{entries_written}
use Rattle.pm_store.proofs.files.FileMap.put.Goals as goal

pub returns-clause-ok : goal.returns-clause-ok
returns-clause-ok c =
    rw (← c.self.view_is, ← c.in_ok-path.ensures, ← c.in_ok-bytes.ensures)
    (entries_written c.self.inside.files.entries c.insert.new.self.entries c.in_ok-path.path c.in_ok-bytes.bytes c.in_ok-insert.ensures.updates.0)
