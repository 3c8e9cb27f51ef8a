-- What a reading that gave something was.
use Rattle.std.proofs.Common.{◌≡◌, Bool, true, false, cond, ◌&&◌, ℤ, Option, Some, None, option_map, ◌⊎◌, inl, inr, refl}
use Rattle.pm_base.specs.Steps.{◌>>=◌}
use Rattle.std.specs.Prelude.{◌≤ℤ◌}
use lib.Signed.{le_z, le_z_yes}
use Rattle.std.proofs.lemmas.Float.{T_from_true}
use Rattle.std.specs.Prelude.{T}

pub bind_some : {A B : Type 0} (o : Option A) (f : A → Option B) (y : B) → (o >>= f) ≡ Some y → (x : A) × (o ≡ Some x) × (f x ≡ Some y)
bind_some None f y e = absurd cc
bind_some (Some x) f y e = (x, refl, e)

pub map_some : {A B : Type 0} (o : Option A) (f : A → B) (y : B) → option_map f o ≡ Some y → (x : A) × (o ≡ Some x) × (f x ≡ y)
map_some None f y e = absurd cc
map_some (Some x) f y e = (x, refl, cc)

pub some_is : {A : Type 0} {x y : A} → Some x ≡ Some y → x ≡ y
some_is e = cc

pub some_if : {A : Type 0} (b : Bool) (x y : A) → cond b (Some x) None ≡ Some y → (b ≡ true) × (x ≡ y)
some_if true x y e = (refl, cc)
some_if false x y e = absurd cc

pub some_then : {A : Type 0} (b : Bool) (o : Option A) (y : A) → cond b o None ≡ Some y → (b ≡ true) × (o ≡ Some y)
some_then true o y e = (refl, e)
some_then false o y e = absurd cc

pub some_else : {A : Type 0} (b : Bool) (x : A) (o : Option A) (y : A) → cond b (Some x) o ≡ Some y → (x ≡ y) ⊎ (o ≡ Some y)
some_else true x o y e = inl cc
some_else false x o y e = inr e

pub true_then : (a b : Bool) → cond a b false ≡ true → (a ≡ true) × (b ≡ true)
true_then true b e = (refl, e)
true_then false b e = absurd cc

pub both : (a b : Bool) → (a && b) ≡ true → (a ≡ true) × (b ≡ true)
both true true e = (refl, refl)
both true false e = absurd cc
both false b e = absurd cc

truth : (b : Bool) → T b → b ≡ true
truth true h = refl
truth false h = absurd h

pub le_z-true : (a b : ℤ) → le_z a b ≡ true → a ≤ℤ b
le_z-true a b e = le_z_yes (T_from_true (le_z a b) e)

pub le-le_z : (a b : ℤ) → a ≤ℤ b → le_z a b ≡ true
le-le_z a b h = truth (le_z a b) h.le
