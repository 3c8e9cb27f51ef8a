-- Values that are taken one after another.
use Rattle.std.proofs.Common.{◌≡◌, List, [], ◌∷◌, ◌++◌, Option, None, Some, Result, Ok, Err, refl, sym, ap, append_assoc}
use Rattle.pm_base.specs.Outcome.{◌>>=◌, Fails}
use Rattle.pm_avro_data.specs.Datum.{Data}
use Rattle.pm_values.specs.Order.{Values}
use Rattle.pm_values.specs.declared.value.Value.{Value}
use Rattle.pm_record.specs.declared.misfit.Misfit.{Misfit}
use Rattle.pm_run.specs.declared.slot.Slot.{Slot}
use Rattle.pm_run.specs.Row.{value_in, values_in}
use Rattle.pm_run.specs.Taking.{first_read}

-- values before those that are read
abbrev pub prefixed : Values → Result (Values × List Data) Misfit → Result (Values × List Data) Misfit
prefixed values (Ok taken) = Ok (values ++ taken.0, taken.1)
prefixed values (Err misfit) = Err misfit

pub prefixed-nil : (r : Result (Values × List Data) Misfit) → prefixed [] r ≡ r
prefixed-nil (Ok taken) = refl
prefixed-nil (Err misfit) = refl

-- one more value
pub prefixed-push : (values : Values) (s : Slot) (slots : List Slot) (ds rest : List Data) (value : Value) → first_read (value_in s) ds ≡ Ok (value, rest)
    → prefixed values (values_in (s ∷ slots) ds) ≡ prefixed (values ++ value ∷ []) (values_in slots rest)
prefixed-push values s slots ds rest value read = rw read (joint (values_in slots rest))
  where
    joint : (r : Result (Values × List Data) Misfit) → prefixed values (r >>= λ later. Ok (value ∷ later.0, later.1)) ≡ prefixed (values ++ value ∷ []) r
    joint (Ok taken) = let same = append_assoc values (value ∷ []) taken.0 in let make : Values → Result (Values × List Data) Misfit = λ vs. Ok (vs, taken.1) in sym (ap make same)
    joint (Err misfit) = refl

-- the first value that isn't read is the misfit of all
pub prefixed-fails : (fault : Option Misfit) (values : Values) (s : Slot) (slots : List Slot) (ds : List Data) → Fails fault (first_read (value_in s) ds)
    → Fails fault (prefixed values (values_in (s ∷ slots) ds))
prefixed-fails None values s slots ds fails = tt
prefixed-fails (Some misfit) values s slots ds fails = rw fails refl
