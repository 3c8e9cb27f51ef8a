use Rattle.std.proofs.Common.{length}
use Rattle.pm_io.specs.Sink.{SinkLater, TookAllBut, Offered}
use Rattle.pm_io.proofs.sink.write_all.Given as goal

abbrev pub invariant-loop-rest : goal.invariant-loop-rest
invariant-loop-rest g l =
    let seen = g.W.Sink.seen in
    record {
      took : TookAllBut l.rest (seen l.fn.sink).taken (seen l.sink).taken l.bytes;
      later : SinkLater (seen l.fn.sink) (seen l.sink);
      calls : Offered g.W.Sink.called l.fn.sink l.bytes l.sink l.rest;
    }

abbrev pub decreases-loop-rest : goal.decreases-loop-rest
decreases-loop-rest g l = length l.rest
