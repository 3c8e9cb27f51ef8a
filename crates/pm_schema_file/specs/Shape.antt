-- Private: what a part of JSON is read as.
use Rattle.std.specs.Prelude.{◌≡◌, Option, Some, None, Result, Ok, Err}
use Rattle.pm_options.specs.Faults.{Answers}
use Rattle.pm_values.specs.declared.refusal.Refusal.{Refusal}
use Rattle.pm_values.specs.declared.refusal.Refusal.TheVariants as refusals
use Rattle.pm_schema_file.specs.declared.shape.Flaw.{Flaw}
use Rattle.pm_schema_file.specs.declared.shape.Flaw.TheVariants.{Memory, Shape}

-- the part isn't what is read, unless memory ran out
abbrev pub Misses : {Y : Type 0} → Flaw → Option Y → Type 0
Misses Memory defined = Unit {0}
Misses Shape defined = defined ≡ None

-- the value is the defined one, seen by view, unless memory ran out
abbrev pub Reads : {X Y : Type 0} → (X → Y) → Result X Flaw → Option Y → Type 0
Reads view (Ok x) defined = defined ≡ Some (view x)
Reads view (Err flaw) defined = Misses flaw defined

-- out of memory where the flaw is that, or else the fault
abbrev pub Refuses : {X : Type 0} → Flaw → Refusal → Result X Refusal → Type 0
Refuses Memory fault answer = answer ≡ Err refusals.Memory
Refuses Shape fault answer = Answers (λ x. x) answer (Err fault)
