-- What is known of rows that lie one after another in the bytes of a file.
use Rattle.std.specs.Prelude.{◌≡◌, ◌≢◌, ℕ, Bool, List, [], ◌∷◌, ◌++◌, length}
use Rattle.std.specs.Coded.{Coded, Coded-set}
use mathlib.Core.HLevel.{is_prop→PathP}
use mathlib.Core.Logic.{∥∥₁_elim, ∥∥₁_prop}
use Rattle.pm_values.specs.declared.record.Stamped.{Stamped}
use Rattle.pm_run_bytes.specs.declared.direct.Direct.{Direct}
use Rattle.pm_run_bytes.specs.Direct.{HasContent, IsRow, IsWritten}
use Rattle.pm_run.specs.Form.{Form}
use Rattle.pm_run.specs.Kinds.{run_type}

-- the source is these rows, whatever the order of their keys, and then the rest
abbrev pub LieRows : Form → Bool → List Stamped → List ℕ → List ℕ → Type 0
LieRows f changes [] source rest = source ≡ rest
LieRows f changes (x ∷ xs) source rest =
    (middle : List ℕ) × IsRow f changes x source middle × LieRows f changes xs middle rest

-- the blocks from an offset to the end of the bytes have these rows, and each has some
pub data LieFrom (d : Direct) (bytes : List ℕ) (f : Form) (changes : Bool) : ℕ → List Stamped → Type 0 where
  at_end : (offset : ℕ) → offset ≡ length bytes → LieFrom d bytes f changes offset []
  with_block : (offset next : ℕ) (own more : List Stamped) (content : List ℕ)
      → own ≢ [] → HasContent d bytes offset (length own) content next → LieRows f changes own content []
      → LieFrom d bytes f changes next more → LieFrom d bytes f changes offset (own ++ more)

-- so in a file whose type is what is written of the form
abbrev pub LieAt : Direct → List ℕ → Form → Bool → ℕ → List Stamped → Type 0
LieAt d bytes f changes offset rows = IsWritten f (run_type f) × LieFrom d bytes f changes offset rows

-- Private: the rows that are left of a block, and those of the blocks from an offset on
pub record LieLeft (d : Direct) (bytes : List ℕ) (f : Form) (changes : Bool) (rest : List ℕ) (left next : ℕ)
    (rows : List Stamped) : Type 0 where
  pub own : List Stamped
  pub more : List Stamped
  pub here : LieRows f changes own rest []
  pub many : length own ≡ left
  pub later : LieAt d bytes f changes next more
  pub joined : rows ≡ own ++ more

-- Private: these are left, and no others
pub record OnlyLie (d : Direct) (bytes : List ℕ) (f : Form) (changes : Bool) (rest : List ℕ) (left next : ℕ)
    (rows : List Stamped) : Type 0 where
  pub lie : LieLeft d bytes f changes rest left next rows
  pub only : (others : List Stamped) → LieLeft d bytes f changes rest left next others → others ≡ rows

-- Private: such rows
abbrev pub KnownRows : Direct → List ℕ → Form → Bool → List ℕ → ℕ → ℕ → Type 0
KnownRows d bytes f changes rest left next =
    (rows : List Stamped) × ∥ OnlyLie d bytes f changes rest left next rows ∥₁

-- Private: they are one list
pub one_known : Coded (List Stamped) → (d : Direct) (bytes : List ℕ) (f : Form) (changes : Bool) (rest : List ℕ)
    (left next : ℕ) → IsProp (KnownRows d bytes f changes rest left next)
one_known code d bytes f changes rest left next x y =
    let same : x.0 ≡ y.0 = ∥∥₁_elim x.1 (Coded-set code x.0 y.0)
    (λ h. ∥∥₁_elim y.1 (Coded-set code x.0 y.0) (λ k. k.only x.0 h.lie)) in
    λ i. (
      same i,
      is_prop→PathP (λ j. ∥ OnlyLie d bytes f changes rest left next (same j) ∥₁) (λ j. ∥∥₁_prop) x.1 y.1 i,
    )
