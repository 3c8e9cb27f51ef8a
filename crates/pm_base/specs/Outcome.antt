-- What a call answers that has a defined answer, and may run out of memory anywhere.
use Rattle.std.specs.Prelude.{◌≡◌, Option, None, Some, Result, Ok, Err}

-- the next step, which an error stops
infixl 10 ◌>>=◌
abbrev pub ◌>>=◌ : {A B E : Type 0} → Result A E → (A → Result B E) → Result B E
(Ok x) >>= f = f x
(Err e) >>= f = Err e

-- the fault is the defined one; no fault is out of memory, of which nothing is said
abbrev pub Fails : {Y D : Type 0} → Option D → Result Y D → Type 0
Fails None defined = Unit {0}
Fails (Some fault) defined = defined ≡ Err fault

-- The answer is the defined one, its value seen by view and its error by fault_of, which sees none in out of memory.
abbrev pub Gives : {X Y E D : Type 0} → (X → Y) → (E → Option D) → Result X E → Result Y D → Type 0
Gives view fault_of (Ok x) defined = defined ≡ Ok (view x)
Gives view fault_of (Err e) defined = Fails (fault_of e) defined
