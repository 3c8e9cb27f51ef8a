-- How a command refuses an input that wasn't read.
use Rattle.pm_values.specs.declared.refusal.Refusal.{Refusal}
use Rattle.pm_values.specs.declared.refusal.Refusal.TheVariants as refusals
use Rattle.pm_input.specs.Limits.{limits, limit_text, limit_number}
use Rattle.pm_input.specs.declared.lines.InputFault.{InputFault}
use Rattle.pm_input.specs.declared.lines.InputFault.TheVariants as faults

-- the refusal of a fault of an input that was read within the limits of every command
abbrev pub refusal_of : InputFault → Refusal
refusal_of faults.Memory = refusals.Memory
refusal_of faults.Read = refusals.SourceFault
refusal_of (faults.Limit which) = refusals.Limit (limit_text which) (limit_number limits which)
