-- Steps of a reading that may find nothing.
use Rattle.std.proofs.Common.{◌≡◌, ℕ, List, ◌∷◌, Option, Some, None, option_and_then, refl}
use Rattle.serde_json.specs.Data.{Data, Members, member}
use Rattle.serde_json.specs.Find.{as_str}
use Rattle.pm_options.specs.Table.{Setting}
use Rattle.pm_schema.specs.Stated.{settings_in}

-- a reading after another that gave a value had one before it
pub and_then_parts : {A B : Type 0} (f : A → Option B) (o : Option A) (y : B) → option_and_then f o ≡ Some y → (x : A) × (o ≡ Some x) × (f x ≡ Some y)
and_then_parts f None y is = absurd cc
and_then_parts f (Some x) y is = (x, refl, is)

-- the parts of an object of texts
pub member_parts : (l : List ℕ) (e : Data) (ms : Members) (ss : List Setting) → settings_in (member l e ms) ≡ Some ss
    → (text : List ℕ) × (rest : List Setting) × (as_str e ≡ Some text) × (settings_in ms ≡ Some rest) × ((l, text) ∷ rest ≡ ss)
member_parts l e ms ss is =
    let first = and_then_parts (λ text. option_and_then (λ more. Some ((l, text) ∷ more)) (settings_in ms)) (as_str e) ss is in
    let then = and_then_parts (λ more. Some ((l, first.0) ∷ more)) (settings_in ms) ss first.2 in
    (first.0, then.0, first.1, then.1, cc)
