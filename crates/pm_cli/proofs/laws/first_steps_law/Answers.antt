use Rattle.std.proofs.Common.{[], ◌∷◌}
use Rattle.pm_cli.specs.InTurn.{to_its_end}
use Rattle.pm_cli.proofs.InTurn.{first_steps}
use Rattle.pm_cli.proofs.laws.first_steps_law.Goals as goal

pub returns : goal.returns
returns c = λ create write scan user number store last is_create created is_write wrote is_scan scanned none turns names.
    let made = c.in_turn_law.ensures.empty (to_its_end create ∷ to_its_end write ∷ to_its_end scan ∷ []) store last none turns names in
    first_steps create write scan user number is_create created is_write wrote is_scan scanned made.0 made.1
