-- A store that fails at planned calls.
use Rattle.std.specs.Prelude.{◌≡◌, ℕ, List, [], ◌∷◌, ◌++◌, ◌==◌, if◌then◌else◌, option_map, Option, None, Some, is_none}
use Rattle.std.specs.Prelude.{Result, Ok, Err}
use Rattle.std.specs.FinMap as map
use Rattle.std.specs.List.{find}
use Rattle.pm_base.specs.Faults.{one_more}
use Rattle.pm_store.specs.declared.call.Call.{Call}
use Rattle.pm_store.specs.declared.call.Call.TheVariants as calls
use Rattle.pm_store.specs.declared.call.Effect.{Effect}
use Rattle.pm_store.specs.declared.call.Effect.TheVariants as effects
use Rattle.pm_store.specs.declared.call.Op.{Op}
use Rattle.pm_store.specs.declared.failing.Planned.{Planned}
use Rattle.pm_store.specs.declared.store.StoreFail.{StoreFail}
use Rattle.pm_store.specs.declared.store.StoreFail.TheVariants.{Memory, Failed}
use Rattle.pm_store.specs.Files.{Files, files_after}
use Rattle.pm_store.specs.Store.{StoreView, own_op}

-- its operations, the calls that are to fail, and the calls and the faults so far
pub record FailView : Type 0 where
  pub ops : List Op
  pub plan : List Planned
  pub calls : ℕ
  pub faults : ℕ

-- what contracts of a store see of it: nobody else uses it
abbrev pub fail_seen : FailView → StoreView
fail_seen view = record { ops = Some view.ops; faults = view.faults }

-- the effect that is planned of the call with a number: the first one that the plan has
abbrev pub planned_at : ℕ → List Planned → Option Effect
planned_at number plan = option_map (λ (p : Planned). p.effect) (find (λ (p : Planned). p.call == number) plan)

-- the effect that a call may have: a part only of a create of an absent path, else nothing in its place
abbrev pub allowed : Call → Effect → Files → Effect
allowed (calls.Create path bytes) (effects.Part found) files =
    if is_none (map.get files path) then effects.Part found else effects.None
allowed call (effects.Part found) files = effects.None
allowed call effect files = effect

-- What a call answers by the plan: it fails exactly where its number is planned, and the planned effect is carried out.
abbrev pub FollowsPlan : {X : Type 0} → Call → FailView → FailView → Result X StoreFail → Type 0
FollowsPlan call before after (Ok x) =
    (after.plan ≡ before.plan) × (after.calls ≡ one_more before.calls)
    × (planned_at (one_more before.calls) before.plan ≡ None)
    × (after.faults ≡ before.faults)
FollowsPlan call before after (Err Failed) =
    (after.plan ≡ before.plan) × (after.calls ≡ one_more before.calls)
    × ((effect : Effect) × (planned_at (one_more before.calls) before.plan ≡ Some effect)
    × (after.ops ≡ before.ops ++ own_op call (allowed call effect (files_after before.ops)) ∷ []))
    × (after.faults ≡ one_more before.faults)
FollowsPlan call before after (Err Memory) =
    (after.plan ≡ before.plan) × (after.ops ≡ before.ops) × (after.faults ≡ before.faults)
