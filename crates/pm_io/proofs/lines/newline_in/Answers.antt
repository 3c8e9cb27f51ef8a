use Rattle.pm_io.proofs.NewlineLemmas as first
use Rattle.pm_io.proofs.lines.newline_in.Goals as goal

pub returns-clause-none : goal.returns-clause-none
returns-clause-none c = first.none c.args.bytes.now c.memchr.result c.memchr.ensures

pub returns-clause-index : goal.returns-clause-index
returns-clause-index c = first.index c.args.bytes.now c.memchr.result c.memchr.ensures

pub returns-clause-prefix : goal.returns-clause-prefix
returns-clause-prefix c = first.prefix c.args.bytes.now c.memchr.result c.memchr.ensures

pub returns-clause-rest : goal.returns-clause-rest
returns-clause-rest c = first.rest c.args.bytes.now c.memchr.result c.memchr.ensures
