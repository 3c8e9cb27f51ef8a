-- Which answers of `follow` no call of the store shows.
use Rattle.std.specs.Prelude.{◌≡◌, ◌⊎◌, Option, None, Some}
use Rattle.pm_values.specs.declared.refusal.Refusal.{Refusal}
use Rattle.pm_values.specs.declared.refusal.Refusal.TheVariants as refusals

-- memory ran out, or the sink failed
abbrev pub IsUnshown : Option Refusal → Type 0
IsUnshown answer = (answer ≡ Some refusals.Memory) ⊎ (answer ≡ Some (refusals.SinkFault None))
