use Rattle.std.specs.Coded.{codes}
use Rattle.pm_run_bytes.proofs.LyingLemmas.{block_given, known_block, some_block}
use Rattle.pm_run_bytes.proofs.lying.FileRows.next_block.Goals as goal

pub invariant_of-self : goal.invariant_of-self
invariant_of-self c =
    let v = c.args.self.now in
    record {
      known = known_block v.direct.now v.bytes.now v.form.now v.changes v.rest.now v.left v.next c.in-Some.count c.in-Some.next c.in-Some.content.now c.requires c.in-Some.ensures v.known;
    }

pub returns-clause-same : goal.returns-clause-same
returns-clause-same c =
    let v = c.args.self.now in
    block_given v.direct.now v.bytes.now v.form.now v.changes v.rest.now v.left v.next c.in-Some.count c.in-Some.next c.in-Some.content.now c.requires c.in-Some.ensures (hlevel codes) v.known c.self-1.given.0

pub returns-clause-some : goal.returns-clause-some
returns-clause-some c =
    let v = c.args.self.now in
    some_block v.direct.now v.bytes.now v.form.now v.changes v.rest.now v.left v.next c.in-Some.count c.in-Some.next c.in-Some.content.now c.requires c.in-Some.ensures v.known
