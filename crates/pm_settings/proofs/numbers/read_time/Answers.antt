use Rattle.std.proofs.Common.{arith}
use Rattle.std.proofs.lemmas.List.Sums.{prefix_len-le-length}
use Rattle.std.specs.Char.{is_ascii_digit}
use Rattle.pm_settings.proofs.NumberLemmas.{prefix_passes}
use Rattle.pm_settings.proofs.numbers.read_time.Goals as goal

pub split_at-requires : goal.split_at-requires
split_at-requires c = omega (arith, prefix_len-le-length is_ascii_digit c.as_bytes-text.result.now)

pub digits_value-requires : goal.digits_value-requires
digits_value-requires c = rw c.split_at.ensures.front (prefix_passes c.as_bytes-text.result.now c.digit_count.result c.digit_count.ensures)
