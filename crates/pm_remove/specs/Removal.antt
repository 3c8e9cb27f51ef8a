-- Paths that are being removed.
use Rattle.std.specs.Prelude.{ℕ, List}

-- the next of them, and those after it
pub record RemovalView : Type 0 where
  pub next : List ℕ
  pub rest : List (List ℕ)

abbrev pub removal_of : List ℕ → List (List ℕ) → RemovalView
removal_of next rest = record { next = next; rest = rest }
