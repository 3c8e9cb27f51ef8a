-- Why a command refuses a table before it does anything of its own.
use Rattle.std.specs.Prelude.{◌≡◌}
use Rattle.pm_base.specs.Faults.{Rose}
use Rattle.pm_values.specs.declared.refusal.Refusal.{Refusal}
use Rattle.pm_values.specs.declared.refusal.Refusal.TheVariants as refusals
use Rattle.pm_store.specs.Store.{StoreView}
use Rattle.pm_model_history.specs.History.{History, no_table}
use Rattle.pm_read_schema.specs.Beside.{AnyPast, IsTold, Learns}

-- What a command's refusal tells is so at the call that shows it, of each history that the files stand for, once others
-- changed them by the kinds of change alone.
abbrev pub LearnsRefusal : Refusal → StoreView → StoreView → Type 0
LearnsRefusal e before after = Learns AnyPast (IsTold e) before after

-- What a history may be refused for: there is no table; a fault of the store was counted; or memory ran out.
abbrev pub MayRefuse : History → StoreView → StoreView → Refusal → Type 0
MayRefuse h first after refusals.Memory = Unit {0}
MayRefuse h first after refusals.NoTable = h ≡ no_table
MayRefuse h first after (refusals.StoreFault path) = Rose first.faults after.faults
MayRefuse h first after other = ⊥
