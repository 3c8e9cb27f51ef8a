-- What a command promises that made no call of the store, what is so of a known input, and what a crash leaves.
use Rattle.std.proofs.Common.{◌≡◌, ◌≤◌, ℕ, List, length, ◌++◌, Option, Some, IfSome, IsSomeAnd, sym, ap, subst}
use Rattle.pm_store.specs.declared.call.Op.{Op}
use Rattle.pm_store.specs.Files.{Files, files_after}
use Rattle.pm_store.specs.Images.{CrashImage, Extends}
use Rattle.pm_store.specs.Store.{StoreView, FromFirst, at_first_own}
use Rattle.pm_store.proofs.StepLaws.{Meanwhile-refl, at_first_own-none}

-- what holds of known bytes
pub at_known : (P : List ℕ → Type 0) (left : Option (List ℕ)) (bytes : List ℕ) → left ≡ Some bytes → IfSome left P → P bytes
at_known P left bytes is here = subst (λ left. IfSome left P) is here

-- where no call came, the moment of the first one is now
at_first_own-uncalled : (store : StoreView) → at_first_own store store ≡ store
at_first_own-uncalled store =
    let view : Option (List Op) → StoreView = λ ops. record { ops = ops; faults = store.faults } in
    ap view (at_first_own-none store store (Meanwhile-refl store))

pub uncalled : (P : StoreView → StoreView → Type 0) (store : StoreView) → P store store → FromFirst P store store
uncalled P store here = λ alone. subst (λ (first : StoreView). P first store) (sym (at_first_own-uncalled store)) here

same_some : (ops others : List Op) → Some ops ≡ Some others → ops ≡ others
same_some ops others e = cc

-- what a crash leaves has what each image has
pub next_stands : (P : Files → Type 0) (old new : List Op) (i : ℕ) (image : Files) → Extends P (Some old) (Some new) → length old ≤ i → CrashImage new i image
    → (ops : List Op) (store : StoreView) → store.ops ≡ Some ops → files_after ops ≡ image → IsSomeAnd store.ops (λ ops. P (files_after ops))
next_stands P old new i image (more, is, images) from crash ops store told files =
    let here : P image = images i image from (subst (λ (ops : List Op). CrashImage ops i image) (same_some new (old ++ more) is) crash) in
    subst (λ (ops : Option (List Op)). IsSomeAnd ops (λ ops. P (files_after ops))) (sym told) (subst P (sym files) here)
