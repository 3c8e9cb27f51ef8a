use Rattle.std.proofs.Common.{◌-◌, ◌≤◌, length}
use Rattle.pm_record.specs.File.{HasRead}
use Rattle.pm_record.proofs.reading.read_records.Given as goal

abbrev pub invariant-loop-all : goal.invariant-loop-all
invariant-loop-all g l = record {
  within : l.offset ≤ length l.file.bytes;
  read : HasRead (g.R.ReadRecord.reads l.records) l.file l.offset l.all.items;
}

abbrev pub decreases-loop-all : goal.decreases-loop-all
decreases-loop-all g l = length l.file.bytes - l.offset
