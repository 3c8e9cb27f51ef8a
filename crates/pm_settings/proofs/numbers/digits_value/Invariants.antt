use Rattle.std.proofs.Common.{◌≡◌, ◌-◌, ◌^◌, take, min}
use Rattle.std.specs.Str.Parse.{digits_value}
use Rattle.pm_settings.proofs.numbers.digits_value.Given as goal

abbrev pub invariant-loop-digit : goal.invariant-loop-digit
invariant-loop-digit l = l.total ≡ min (2 ^ 64 - 1) (digits_value 10 (take l.digit-index l.digits))
