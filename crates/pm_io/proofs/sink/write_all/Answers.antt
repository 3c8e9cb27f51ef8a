use Rattle.std.proofs.Common.{◌≢◌, [], rules, subst, sym, List, ℕ}
use Rattle.pm_io.specs.Sink.{TookAllBut, Offered, Begun, Took}
use Rattle.pm_io.proofs.Writing.{TookAllBut-more, TookAllBut-start}
use Rattle.pm_io.proofs.sink.write_all.Goals as goal

pub loop-rest-init : goal.loop-rest-init
loop-rest-init g c = record {
  took = TookAllBut-start (g.W.Sink.seen c.args.sink.now).taken c.args.bytes.now;
  later = search rules;
  calls = Begun;
}

pub loop-rest-preserved : goal.loop-rest-preserved
loop-rest-preserved g c =
    let seen = g.W.Sink.seen in
    let called = g.W.Sink.called in
    let before = (seen c.args.sink.now).taken in
    let after = (seen c.write.new.self).taken in
    let more = TookAllBut-more c.in-Ok.n c.loop-rest.rest.now before (seen c.loop-rest.sink).taken after c.args.bytes.now c.loop-rest.invariant.took c.in-Ok.ensures.bytes in
    let some : c.loop-rest.rest.now ≢ [] = search rules in
    let calls = Took c.loop-rest.sink c.write.new.self c.loop-rest.rest.now c.in-Ok.n c.loop-rest.invariant.calls some c.in-Ok.ensures.told in
    record {
      took = subst (λ (rest : List ℕ). TookAllBut rest before after c.args.bytes.now) (sym c.split_at.ensures.back) more;
      later = search rules;
      calls = subst (Offered called c.args.sink.now c.args.bytes.now c.write.new.self) (sym c.split_at.ensures.back) calls;
    }
