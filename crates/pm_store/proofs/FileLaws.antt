-- Laws of the files after operations, and of what a stop within a call leaves.
use Rattle.std.proofs.Common.{◌≡◌, ◌≢◌, ℕ, Bool, true, false, List, [], ◌∷◌, ◌++◌, ◌⊎◌, if◌then◌else◌, Option, None, Some, is_none, cond, refl, sym, ap, ◌∙◌, inl, inr, subst}
use Rattle.std.specs.Cmp.{unsigned_Decides}
use Rattle.std.specs.Cmp.Lexicographic.{slice_cmp, nat_list_cmp_total}
use Rattle.std.specs.Ordering.{nat_cmp, is_eq}
use Rattle.std.specs.declared.cmp.Ordering.{Ordering}
use Rattle.std.specs.declared.cmp.Ordering.TheVariants.{Less, Equal, Greater}
use Rattle.std.proofs.lemmas.Cmp.{tied_itself}
use Rattle.std.proofs.lemmas.Map.Lookups.{exact_bytes}
use Rattle.std.proofs.lemmas.Slice.Eq.{slice_eq-Decides}
use Rattle.std.specs.FinMap as map
use Rattle.pm_store.specs.declared.call.Call.{Call}
use Rattle.pm_store.specs.declared.call.Call.TheVariants as calls
use Rattle.pm_store.specs.declared.call.Effect.{Effect}
use Rattle.pm_store.specs.declared.call.Effect.TheVariants as effects
use Rattle.pm_store.specs.declared.call.Op.{Op}
use Rattle.pm_store.specs.Files.{Files, is_same, carried, cut, after_effect, after_op, after_from, files_after, file_at}
use Rattle.pm_store.specs.Store.{whole}
use Rattle.pm_store.specs.Images.{MayLeave, HasEffect}

pub after_from-append : (files : Files) (ops more : List Op) → after_from files (ops ++ more) ≡ after_from (after_from files ops) more
after_from-append files [] more = refl
after_from-append files (op ∷ ops) more = after_from-append (after_op op files) ops more

-- the files with one more operation
pub files_after-push : (ops : List Op) (op : Op) → files_after (ops ++ op ∷ []) ≡ after_op op (files_after ops)
files_after-push ops op = after_from-append map.empty ops (op ∷ [])

-- the test of two contents
pub is_same-equal : (a b : Option (List ℕ)) → is_same a b ≡ true → a ≡ b
is_same-equal None None e = refl
is_same-equal None (Some y) e = cc
is_same-equal (Some x) None e = cc
is_same-equal (Some x) (Some y) e = ap Some ((slice_eq-Decides unsigned_Decides x y true (sym e)).0 refl)

pub is_same-itself : (a : Option (List ℕ)) → is_same a a ≡ true
is_same-itself None = refl
is_same-itself (Some x) = (slice_eq-Decides unsigned_Decides x x (is_same (Some x) (Some x)) refl).1 refl

pub is_same-other : (a b : Option (List ℕ)) → a ≢ b → is_same a b ≡ false
is_same-other a b differ =
    let cases : (r : Bool) → is_same a b ≡ r → is_same a b ≡ false = λ r. elim r as (λ r. is_same a b ≡ r → is_same a b ≡ false) [
      | true ↦ λ e. absurd (differ (is_same-equal a b e))
      | false ↦ λ e. e
    ] in
    cases (is_same a b) refl

-- a swap that finds what it expects writes the path
pub carried-swapped : (path bytes : List ℕ) (expected : Option (List ℕ)) (files : Files) → map.get files path ≡ expected →
    carried (calls.Swap path expected bytes) files ≡ map.insert files path bytes
carried-swapped path bytes expected files is =
    ap (λ b. if b then map.insert files path bytes else files)
    (subst (λ (found : Option (List ℕ)). is_same found expected ≡ true) (sym is) (is_same-itself expected))

-- and one that finds anything else changes nothing
pub carried-differs : (path bytes : List ℕ) (expected : Option (List ℕ)) (files : Files) → map.get files path ≢ expected →
    carried (calls.Swap path expected bytes) files ≡ files
carried-differs path bytes expected files differ =
    ap (λ b. if b then map.insert files path bytes else files) (is_same-other (map.get files path) expected differ)

-- a stop within a call may leave the files as they were
pub MayLeave-none : (call : Call) (files : Files) → MayLeave call files files
MayLeave-none (calls.List folder) files = inl refl
MayLeave-none (calls.Read path) files = inl refl
MayLeave-none (calls.Create path bytes) files = inl refl
MayLeave-none (calls.Publish after path bytes) files = inl refl
MayLeave-none (calls.Swap path expected bytes) files = inl refl
MayLeave-none (calls.Remove path) files = inl refl

-- a create writes a path that is absent, and else nothing
made : (path bytes found : List ℕ) (files : Files) (at : Option (List ℕ)) → map.get files path ≡ at →
    MayLeave (calls.Create path bytes) files (if is_none at then map.insert files path found else files)
made path bytes found files None absent = inr (absent, (found, refl))
made path bytes found files (Some there) present = inl refl

MayLeave-whole : (call : Call) (files : Files) → MayLeave call files (carried call files)
MayLeave-whole (calls.List folder) files = inl refl
MayLeave-whole (calls.Read path) files = inl refl
MayLeave-whole (calls.Create path bytes) files = made path bytes bytes files (map.get files path) refl
MayLeave-whole (calls.Publish after path bytes) files = inr refl
MayLeave-whole (calls.Swap path expected bytes) files = inr refl
MayLeave-whole (calls.Remove path) files = inr refl

MayLeave-cut : (call : Call) (found : Option (List ℕ)) (files : Files) → MayLeave call files (cut call found files)
MayLeave-cut (calls.List folder) found files = inl refl
MayLeave-cut (calls.Read path) found files = inl refl
MayLeave-cut (calls.Create path bytes) None files = inl refl
MayLeave-cut (calls.Create path bytes) (Some found) files = made path bytes found files (map.get files path) refl
MayLeave-cut (calls.Publish after path bytes) found files = inl refl
MayLeave-cut (calls.Swap path expected bytes) found files = inl refl
MayLeave-cut (calls.Remove path) found files = inl refl

-- each effect of a call is what a stop within it may leave
pub MayLeave-after_effect : (call : Call) (effect : Effect) (files : Files) → MayLeave call files (after_effect call effect files)
MayLeave-after_effect call effects.None files = MayLeave-none call files
MayLeave-after_effect call (effects.Part found) files = MayLeave-cut call found files
MayLeave-after_effect call effects.Whole files = MayLeave-whole call files

all_or_nothing : (call : Call) (files f : Files) → (f ≡ files) ⊎ (f ≡ carried call files) → HasEffect call files f
all_or_nothing call files f (inl e) = (effects.None, e)
all_or_nothing call files f (inr e) = (effects.Whole, e)

effect_of_create : (path bytes : List ℕ) (files f : Files) → map.get files path ≡ None → (found : List ℕ) → f ≡ map.insert files path found →
    HasEffect (calls.Create path bytes) files f
effect_of_create path bytes files f absent found e =
    (effects.Part (Some found), e ∙ sym (ap (λ (at : Option (List ℕ)). if is_none at then map.insert files path found else files) absent))

-- and what a stop within a call may leave is one of its effects
pub effect_left : (call : Call) (files f : Files) → MayLeave call files f → HasEffect call files f
effect_left (calls.List folder) files f left = all_or_nothing (calls.List folder) files f left
effect_left (calls.Read path) files f left = all_or_nothing (calls.Read path) files f left
effect_left (calls.Publish after path bytes) files f left = all_or_nothing (calls.Publish after path bytes) files f left
effect_left (calls.Swap path expected bytes) files f left = all_or_nothing (calls.Swap path expected bytes) files f left
effect_left (calls.Remove path) files f left = all_or_nothing (calls.Remove path) files f left
effect_left (calls.Create path bytes) files f (inl e) = all_or_nothing (calls.Create path bytes) files f (inl e)
effect_left (calls.Create path bytes) files f (inr (absent, (found, e))) = effect_of_create path bytes files f absent found e

-- a swap that finds what it expects leaves the bytes at its path
pub file_at-swapped : (ops : List Op) (path : List ℕ) (expected : Option (List ℕ)) (bytes : List ℕ) → file_at ops path ≡ expected →
    file_at (ops ++ whole (calls.Swap path expected bytes) ∷ []) path ≡ Some bytes
file_at-swapped ops path expected bytes is =
    ap (λ (files : Files). map.get files path) (files_after-push ops (whole (calls.Swap path expected bytes)) ∙ carried-swapped path bytes expected (files_after ops) is)
    ∙ map.get-insert nat_list_cmp_total (files_after ops) path bytes path
    ∙ ap (λ r. cond (is_eq r) (Some bytes) (file_at ops path)) (tied_itself nat_list_cmp_total path)

-- a swap that finds anything else changes nothing
pub files_after-differs : (ops : List Op) (path : List ℕ) (expected : Option (List ℕ)) (bytes : List ℕ) → file_at ops path ≢ expected →
    files_after (ops ++ whole (calls.Swap path expected bytes) ∷ []) ≡ files_after ops
files_after-differs ops path expected bytes differ =
    files_after-push ops (whole (calls.Swap path expected bytes)) ∙ carried-differs path bytes expected (files_after ops) differ

-- writing a path leaves the others
pub get-insert_other : (files : Files) (path bytes q : List ℕ) → q ≢ path → map.get (map.insert files path bytes) q ≡ map.get files q
get-insert_other files path bytes q other =
    let cases : (r : Ordering) → slice_cmp nat_cmp q path ≡ r → cond (is_eq r) (Some bytes) (map.get files q) ≡ map.get files q = λ r. elim r as (λ r. slice_cmp nat_cmp q path ≡ r → cond (is_eq r) (Some bytes) (map.get files q) ≡ map.get files q) [
      | Less ↦ λ e. refl
      | Equal ↦ λ e. absurd (other (exact_bytes q path e))
      | Greater ↦ λ e. refl
    ] in
    map.get-insert nat_list_cmp_total files path bytes q ∙ cases (slice_cmp nat_cmp q path) refl

-- a swap leaves the other paths
pub file_at-swap_other : (ops : List Op) (path : List ℕ) (expected : Option (List ℕ)) (bytes q : List ℕ) → q ≢ path →
    file_at (ops ++ whole (calls.Swap path expected bytes) ∷ []) q ≡ file_at ops q
file_at-swap_other ops path expected bytes q other =
    let cases : (b : Bool) → map.get (if b then map.insert (files_after ops) path bytes else files_after ops) q ≡ file_at ops q = λ b. elim b as (λ b. map.get (if b then map.insert (files_after ops) path bytes else files_after ops) q ≡ file_at ops q) [
      | true ↦ get-insert_other (files_after ops) path bytes q other
      | false ↦ refl
    ] in
    ap (λ (files : Files). map.get files q) (files_after-push ops (whole (calls.Swap path expected bytes))) ∙ cases (is_same (file_at ops path) expected)
