use Rattle.pm_command_consume.proofs.ConsumeLemmas.{consumes}
use Rattle.pm_command_consume.proofs.laws.consume_law.Goals as goal

pub returns : goal.returns
returns c = consumes (record {
  readers = record {
    latest = c.all_calls_law.ensures;
    passed = c.all_calls_law-4.ensures.passed;
    frames = c.all_calls_law-5.ensures;
    read = c.schema_law.ensures.exact;
    declared = c.declared_law.ensures.file;
  };
  found = c.all_calls_law-2.ensures;
  registers = c.all_calls_law-3.ensures;
  moves = c.moves_law.ensures.alone;
  reads = record { next = c.consumer_law.ensures.next; again = c.consumer_law.ensures.again };
})
