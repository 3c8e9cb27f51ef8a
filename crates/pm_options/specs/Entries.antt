-- Entries of tables: what stands for a key.
use Rattle.std.specs.Prelude.{ℕ, List, [], ◌∷◌, map, Option, Some, None, if◌then◌else◌}
use Rattle.std.specs.Borrow.{Bor}
use Rattle.std.specs.Str.{bytes_eq}

-- an option's key, a text or a column's name, and what stands for it
abbrev pub Entries : Type 0 → Type 0
Entries A = List (List ℕ × A)

-- what stands for a key first
abbrev pub entry_at : {A : Type 0} → List ℕ → Entries A → Option A
entry_at key [] = None
entry_at key (e ∷ es) = if bytes_eq e.0 key then Some e.1 else entry_at key es

-- entries whose keys are borrowed
abbrev pub keyed : {A : Type 0} → List (Bor (List ℕ) × A) → Entries A
keyed es = map (λ e. (e.0.now, e.1)) es
