-- What a crash may leave of the files.
use Rattle.std.specs.Prelude.{◌≡◌, ◌⊎◌, ◌≤◌, ℕ, List, ◌++◌, length, take, Option, None, IsSomeAnd, slice_get}
use Rattle.std.specs.FinMap as map
use Rattle.pm_store.specs.declared.call.Call.{Call}
use Rattle.pm_store.specs.declared.call.Call.TheVariants as calls
use Rattle.pm_store.specs.declared.call.Effect.{Effect}
use Rattle.pm_store.specs.declared.call.Op.{Op}
use Rattle.pm_store.specs.Files.{Files, after_effect, carried, files_after}
use Rattle.pm_store.specs.Store.{Came}

-- What a stop within a call may leave. A create of an absent path leaves it absent or with any bytes, and
-- any other call is carried out whole or not at all.
abbrev pub MayLeave : Call → Files → Files → Type 0
MayLeave (calls.Create path bytes) files f =
    (f ≡ files) ⊎ ((map.get files path ≡ None) × ((found : List ℕ) × (f ≡ map.insert files path found)))
MayLeave call files f = (f ≡ files) ⊎ (f ≡ carried call files)

-- some effect of the call leaves these files
abbrev pub HasEffect : Call → Files → Files → Type 0
HasEffect call files f = (effect : Effect) × (f ≡ after_effect call effect files)

-- a crash image: the files after the first i operations, or what the next one may leave of those
abbrev pub CrashImage : List Op → ℕ → Files → Type 0
CrashImage ops i f =
    (f ≡ files_after (take i ops)) ⊎ IsSomeAnd (slice_get ops i) (λ op. MayLeave op.call (files_after (take i ops)) f)

-- each crash image of the operations, from the first n of them on, has P
abbrev pub AllImages : (Files → Type 0) → ℕ → List Op → Type 0
AllImages P n ops = (i : ℕ) (f : Files) → n ≤ i → CrashImage ops i f → P f

-- Operations came since, and each crash image from then on has P. Where none are told, none come to be told.
abbrev pub Extends : (Files → Type 0) → Option (List Op) → Option (List Op) → Type 0
Extends P before after = Came (λ ops more. AllImages P (length ops) (ops ++ more)) before after
