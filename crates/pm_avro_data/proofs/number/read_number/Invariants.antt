use Rattle.std.proofs.Common.{◌≡◌, ◌-◌, ◌*◌, ◌^◌, ◌<◌}
use Rattle.pm_avro_data.specs.Reading.{number_at}
use Rattle.pm_avro_data.proofs.Numbers.{with_low}
use Rattle.pm_avro_data.proofs.number.read_number.Given as goal

abbrev pub invariant-loop-i : goal.invariant-loop-i
invariant-loop-i l = record {
  small : l.number < 2 ^ (7 * l.i);
  reads : with_low l.number (7 * l.i) (number_at (l.most - l.i) l.top l.rest) ≡ number_at l.most l.top l.bytes;
}
