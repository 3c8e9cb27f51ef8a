-- The effect that is planned of a call is one that it may have, and a planned call is a step.
use Rattle.std.proofs.Common.{◌≡◌, List, ℕ, Option, None, Some, is_none, if◌then◌else◌, refl}
use Rattle.std.specs.FinMap as map
use Rattle.pm_store.specs.declared.call.Call.{Call}
use Rattle.pm_store.specs.declared.call.Call.TheVariants as calls
use Rattle.pm_store.specs.declared.call.Effect.{Effect}
use Rattle.pm_store.specs.declared.call.Effect.TheVariants as effects
use Rattle.pm_store.specs.Answers.{MayHave}
use Rattle.pm_store.specs.Failing.{allowed}
use Rattle.pm_store.specs.Files.{Files}

part_of : (path bytes found : List ℕ) (files : Files) (at : Option (List ℕ)) → map.get files path ≡ at
    → MayHave (calls.Create path bytes) (if is_none at then effects.Part (Some found) else effects.None) files
part_of path bytes found files None is = is
part_of path bytes found files (Some other) is = tt

no_part_of : (path bytes : List ℕ) (files : Files) (at : Option (List ℕ)) → map.get files path ≡ at
    → MayHave (calls.Create path bytes) (if is_none at then effects.Part None else effects.None) files
no_part_of path bytes files None is = is
no_part_of path bytes files (Some other) is = tt

pub allowed_may : (call : Call) (effect : Effect) (files : Files) → MayHave call (allowed call effect files) files
allowed_may (calls.Create path bytes) (effects.Part (Some found)) files = part_of path bytes found files (map.get files path) refl
allowed_may (calls.Create path bytes) (effects.Part None) files = no_part_of path bytes files (map.get files path) refl
allowed_may (calls.Create path bytes) effects.None files = tt
allowed_may (calls.Create path bytes) effects.Whole files = tt
allowed_may (calls.List folder) effects.None files = tt
allowed_may (calls.List folder) (effects.Part found) files = tt
allowed_may (calls.List folder) effects.Whole files = tt
allowed_may (calls.Read path) effects.None files = tt
allowed_may (calls.Read path) (effects.Part found) files = tt
allowed_may (calls.Read path) effects.Whole files = tt
allowed_may (calls.Publish after path bytes) effects.None files = tt
allowed_may (calls.Publish after path bytes) (effects.Part found) files = tt
allowed_may (calls.Publish after path bytes) effects.Whole files = tt
allowed_may (calls.Swap path expected bytes) effects.None files = tt
allowed_may (calls.Swap path expected bytes) (effects.Part found) files = tt
allowed_may (calls.Swap path expected bytes) effects.Whole files = tt
allowed_may (calls.Remove path) effects.None files = tt
allowed_may (calls.Remove path) (effects.Part found) files = tt
allowed_may (calls.Remove path) effects.Whole files = tt
