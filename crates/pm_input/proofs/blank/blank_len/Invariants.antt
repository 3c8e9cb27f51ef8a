use Rattle.std.proofs.Common.{◌≡◌, ◌+◌, drop}
use Rattle.std.specs.List.{prefix_len}
use Rattle.pm_input.specs.Blank.{is_blank_byte}
use Rattle.pm_input.proofs.blank.blank_len.Given as goal

abbrev pub invariant-loop-offset : goal.invariant-loop-offset
invariant-loop-offset l = l.offset + prefix_len is_blank_byte (drop l.offset l.line) ≡ prefix_len is_blank_byte l.line
