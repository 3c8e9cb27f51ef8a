-- What a call answers that has a defined answer, and may run out of memory anywhere.
use Rattle.std.specs.Prelude.{ℕ, List, [], ◌∷◌, Option, Some, None, Result, Ok, Err, ⊤}
use Rattle.std.specs.Option.{option_or}
use Rattle.pm_base.specs.Outcome.{Gives}
use Rattle.pm_values.specs.declared.refusal.Refusal.{Refusal}
use Rattle.pm_values.specs.declared.refusal.Refusal.TheVariants.{Memory, Unsupported}

-- the fault that a refusal names: none where memory ran out
abbrev pub fault_of : Refusal → Option Refusal
fault_of Memory = None
fault_of other = Some other

-- the answer is the defined one, its value seen by view, unless memory ran out
abbrev pub Answers : {X Y : Type 0} → (X → Y) → Result X Refusal → Result Y Refusal → Type 0
Answers view answer defined = Gives view fault_of answer defined

-- a judgement: the fault, where there is one
abbrev pub judged : Option Refusal → Result ⊤ Refusal
judged None = Ok tt
judged (Some fault) = Err fault

-- the first fault of the list
abbrev pub first_of : {A : Type 0} → (A → Option Refusal) → List A → Option Refusal
first_of fault [] = None
first_of fault (x ∷ xs) = option_or (fault x) (first_of fault xs)

-- an option's key and its text, which isn't supported
abbrev pub refused : List ℕ × List ℕ → Refusal
refused s = Unsupported s.0 s.1
