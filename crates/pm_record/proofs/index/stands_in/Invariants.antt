use Rattle.std.proofs.Common.{◌≡◌, drop}
use Rattle.std.specs.List.{list_any}
use Rattle.std.specs.Str.{bytes_eq}
use Rattle.pm_record.specs.Record.{lent}
use Rattle.pm_record.proofs.index.stands_in.Given as goal

abbrev pub invariant-loop-other : goal.invariant-loop-other
invariant-loop-other l =
    list_any (bytes_eq l.name) (lent (drop l.other-index l.others)) ≡ list_any (bytes_eq l.name) (lent l.others)
