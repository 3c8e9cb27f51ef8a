use Rattle.pm_partitions.proofs.Lengths.{day_short, hex_long}
use Rattle.std.proofs.Common.{sym}
use Rattle.pm_partitions.proofs.limit.is_too_long.Goals as goal

pub returns-in-Bytes : goal.returns-in-Bytes
returns-in-Bytes c = rw (c.in-Bytes.is, c.as_bytes-in-Bytes.ensures) (hex_long c.in-Bytes.bytes)

pub returns-in-Day : goal.returns-in-Day
returns-in-Day c = rw c.in-Day.is (sym (day_short c.in-Day.field-0))
