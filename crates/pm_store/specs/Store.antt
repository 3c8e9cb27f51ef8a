-- What contracts see of a store.
use Rattle.std.specs.Prelude.{◌≡◌, ℕ, ◌+◌, ◌≤◌, List, [], ◌∷◌, ◌++◌, true, false, if◌then◌else◌, drop, length}
use Rattle.std.specs.Prelude.{Option, None, Some}
use Rattle.std.specs.List.{AllByRecursion}
use Rattle.pm_store.specs.declared.call.Call.{Call}
use Rattle.pm_store.specs.declared.call.Effect.{Effect}
use Rattle.pm_store.specs.declared.call.Effect.TheVariants as effects
use Rattle.pm_store.specs.declared.call.Op.{Op}

-- All operations from the empty store on up to the last own call, each with its effect and whose it is, where they are
-- known; and how often a call failed.
pub record StoreView : Type 0 where
  pub ops : Option (List Op)
  pub faults : ℕ

-- what contracts see of a store with these operations that never fails
abbrev pub mem_seen : List Op → StoreView
mem_seen ops = record { ops = Some ops; faults = 0 }

-- ---- whose an operation is

-- the call by this handle, with this effect
abbrev pub own_op : Call → Effect → Op
own_op call effect = record { call = call; effect = effect; is_own = true }

-- and carried out whole
abbrev pub whole : Call → Op
whole call = own_op call effects.Whole

abbrev pub AreOthers : List Op → Type 0
AreOthers ops = AllByRecursion (λ op. op.is_own ≡ false) ops

-- ---- what came between two moments

-- Operations came since, and of those before and these this is so. Where none are told, none come to be told.
abbrev pub Came : (List Op → List Op → Type 0) → Option (List Op) → Option (List Op) → Type 0
Came P None after = after ≡ None
Came P (Some ops) after = (more : List Op) × (after ≡ Some (ops ++ more)) × P ops more

-- the operations before stay, and more may come
abbrev pub GoesOn : StoreView → StoreView → Type 0
GoesOn before after = Came (λ ops more. Unit {0}) before.ops after.ops

-- how many of these operations are others'
abbrev pub others_in : List Op → ℕ
others_in [] = 0
others_in (op ∷ ops) = (if op.is_own then 0 else 1) + others_in ops

-- of those that are known
abbrev pub others_told : Option (List Op) → ℕ
others_told None = 0
others_told (Some ops) = others_in ops

-- no count fell
pub record IsLater (before after : StoreView) : Type 0 where
  pub others : others_told before.ops ≤ others_told after.ops
  pub faults : before.faults ≤ after.faults

-- nobody else had an operation between: as many are others' as before
abbrev pub IsAlone : StoreView → StoreView → Type 0
IsAlone before after = others_told after.ops ≡ others_told before.ops

-- others alone had operations between
abbrev pub Meanwhile : StoreView → StoreView → Type 0
Meanwhile before after = Came (λ ops more. AreOthers more) before.ops after.ops

-- the last of these operations, which have others before them, and it alone is not another's; all up to it have P
abbrev pub EndsWith : Op → (List Op → Type 0) → List Op → List Op → Type 0
EndsWith op P ops more = (others : List Op) × (more ≡ others ++ op ∷ []) × AreOthers others × P (ops ++ others)

-- one operation came, after those of others meanwhile; all up to it have P
abbrev pub Steps : Op → (List Op → Type 0) → StoreView → StoreView → Type 0
Steps op P before after = Came (EndsWith op P) before.ops after.ops

-- ---- the first own operation

-- the operations up to the first own one
abbrev pub up_to_own : List Op → List Op
up_to_own [] = []
up_to_own (op ∷ ops) = if op.is_own then [] else op ∷ up_to_own ops

-- of those between two moments
abbrev pub ops_at_first_own : Option (List Op) → Option (List Op) → Option (List Op)
ops_at_first_own (Some ops) (Some all) = Some (ops ++ up_to_own (drop (length ops) all))
ops_at_first_own ops all = None

-- The moment right before the first own operation between two: others alone had operations up to it. Where none came,
-- it is the later one.
abbrev pub at_first_own : StoreView → StoreView → StoreView
at_first_own before after = record { ops = ops_at_first_own before.ops after.ops; faults = before.faults }

-- where nobody else acts from that moment on, this is so of it and of the later one
abbrev pub FromFirst : (StoreView → StoreView → Type 0) → StoreView → StoreView → Type 0
FromFirst P before after = IsAlone (at_first_own before after) after → P (at_first_own before after) after
