use Rattle.std.proofs.Common.{◌≡◌, ◌-◌, length}
use Rattle.pm_lookup.specs.File.{ComesTo, IsOpen}
use Rattle.pm_lookup.proofs.open_file.OpenFile.find.Given as goal

-- looking for the key comes to where the file stands
abbrev pub invariant-loop-self : goal.invariant-loop-self
invariant-loop-self l = record {
  known : IsOpen l.self;
  same : l.self.reader ≡ l.fn.self.reader;
  comes : ComesTo l.self.reader.opened l.key l.self.begins;
}

abbrev pub decreases-loop-self : goal.decreases-loop-self
decreases-loop-self l = length l.self.reader.opened.file.bytes - l.self.begins
