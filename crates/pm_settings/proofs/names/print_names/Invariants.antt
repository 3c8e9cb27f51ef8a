use Rattle.std.proofs.Common.{◌≡◌, ◌∷◌, take, string_bytes}
use Rattle.pm_options.specs.Written.{list_text}
use Rattle.pm_settings.proofs.names.print_names.Given as goal

abbrev pub invariant-loop-name : goal.invariant-loop-name
invariant-loop-name l = string_bytes l.text ≡ list_text (string_bytes l.initial.text ∷ take l.name-index l.rest)
