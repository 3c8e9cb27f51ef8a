-- One reading after another, each of which may find nothing.
use Rattle.std.specs.Prelude.{Option, Some, None}

-- one reading, and then another of what it gave
infixl 10 ◌>>=◌
abbrev pub ◌>>=◌ : {A B : Type 0} → Option A → (A → Option B) → Option B
(Some x) >>= f = f x
None >>= f = None
