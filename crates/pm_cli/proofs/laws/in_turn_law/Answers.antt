use Rattle.std.proofs.Common.{◌≡◌, ℕ, List, [], Contains, None, Some}
use Rattle.std.specs.FinMap as map
use Rattle.std.specs.List.{AllByRecursion}
use Rattle.pm_model_history.specs.History.{no_table}
use Rattle.pm_model_folder.specs.Changes.{Actor}
use Rattle.pm_model_folder.specs.Folder.{Folder, HaveSettled}
use Rattle.pm_model_folder.specs.Paths.{consumer_path}
use Rattle.pm_command.specs.Outside.{actor}
use Rattle.pm_cli.specs.InTurn.{Turn}
use Rattle.pm_cli.specs.Start.{IsNew, MayExpire, MayTake, MayWrite}
use Rattle.pm_cli.proofs.InTurn.{all_new, at_nothing, in_turn, in_turn_from, spares-consumers, still_gone, still_settled, still_there, to_another}
use Rattle.pm_cli.proofs.laws.in_turn_law.Goals as goal

-- an actor, to whom no file is known
nobody : Actor
nobody = record { session = []; number = 0 }

pub returns-clause-from : goal.returns-clause-from
returns-clause-from c = in_turn_from c.keeps_law.ensures c.base_law.ensures.new

pub returns-clause-settled : goal.returns-clause-settled
returns-clause-settled c = λ names.
    in_turn (λ h f. HaveSettled f h names) (λ e. (name : List ℕ) → Contains names name → MayTake e.command (consumer_path name) → ⊥) (still_settled names)
    c.keeps_law.ensures c.base_law.ensures.new

pub returns-clause-there : goal.returns-clause-there
returns-clause-there c = λ path bytes.
    in_turn (λ h f. map.get f path ≡ Some bytes) (λ e. (MayTake e.command path → ⊥) × (MayWrite e.command path → ⊥) × (MayExpire e.command path → ⊥)) (still_there path bytes)
    c.keeps_law.ensures c.base_law.ensures.new

pub returns-clause-gone : goal.returns-clause-gone
returns-clause-gone c = λ name.
    in_turn (λ h f. map.get f (consumer_path name) ≡ None) (λ e. MayWrite e.command (consumer_path name) → ⊥) (still_gone name)
    c.keeps_law.ensures c.base_law.ensures.new

pub returns-clause-empty : goal.returns-clause-empty
returns-clause-empty c = λ turns store last none are names.
    let new = c.base_law.ensures.empty in
    in_turn_from c.keeps_law.ensures c.base_law.ensures.new turns store last no_table are names
    (at_nothing (λ f. Folder f no_table × AllByRecursion (λ (t : Turn). IsNew (actor t.execution.start) no_table f) turns) store none
    ((new nobody).folder, all_new new turns))

pub returns-clause-another : goal.returns-clause-another
returns-clause-another c = to_another

pub returns-clause-spared : goal.returns-clause-spared
returns-clause-spared c = spares-consumers
