use Rattle.std.proofs.Common.{◌∙◌}
use Rattle.std.specs.Coded.{Coded-set, codes}
use Rattle.pm_run_reader.proofs.KnownLemmas.{given_known, known_lies}
use Rattle.pm_run_reader.proofs.judged.JudgedFile.rows.Goals as goal

pub new-requires : goal.new-requires
new-requires c =
    known_lies c.self.inside.reader.opened c.self.inside.direct c.bytes.result.now c.form.result.now c.changes.result c.first.result c.bytes.ensures c.form.ensures c.changes.ensures c.first.ensures.first
    c.self.inside.known

pub returns : goal.returns
returns c =
    given_known c.self.inside.reader.opened c.self.inside.direct c.bytes.result.now c.form.result.now c.changes.result c.first.result c.bytes.ensures c.form.ensures c.changes.ensures c.first.ensures.first
    (Coded-set (hlevel codes)) _ c.self.inside.known.0 c.self.inside.known.1 c.new.ensures ∙ c.self.view_is
