-- Laws of crash images: what holds of them as operations come.
use Rattle.std.proofs.Common.{◌≡◌, ℕ, ◌+◌, ◌<◌, ◌≤◌, ◌⊎◌, zero, suc, List, [], ◌∷◌, ◌++◌, length, take, Option, None, Some, IsSomeAnd, slice_get, refl, sym, ap, subst, ◌∙◌, inl, inr, arith}
use Rattle.std.proofs.Math.Seq.{take-nil}
use Rattle.std.proofs.lemmas.List.{append_assoc, append-nil}
use Rattle.std.specs.FinMap as map
use Rattle.pm_store.specs.declared.call.Op.{Op}
use Rattle.pm_store.specs.Files.{Files, after_op, after_from, files_after}
use Rattle.pm_store.specs.Images.{MayLeave, HasEffect, CrashImage, AllImages, Extends}
use Rattle.pm_store.proofs.FileLaws.{MayLeave-none, MayLeave-after_effect, effect_left}

-- a crash image of operations that begin with these files
abbrev ImageFrom : Files → List Op → ℕ → Files → Type 0
ImageFrom files ops i f =
    (f ≡ after_from files (take i ops)) ⊎ IsSomeAnd (slice_get ops i) (λ op. MayLeave op.call (after_from files (take i ops)) f)

-- an image of operations with more behind them is one of these operations, or comes after them
image-append : (files : Files) (ops more : List Op) (i : ℕ) (f : Files) → ImageFrom files (ops ++ more) i f →
    ((i < length ops) × ImageFrom files ops i f) ⊎ ((j : ℕ) × (i ≡ length ops + j) × ImageFrom (after_from files ops) more j f)
image-append files [] more i f image = inr (i, omega arith, image)
image-append files (op ∷ ops) more zero f image = inl (omega arith, image)
image-append files (op ∷ ops) more (suc i) f image =
    elim (image-append (after_op op files) ops more i f image) [
      | inl (below, before) ↦ inl (omega arith, before)
      | inr (j, is, after) ↦ inr (j, omega arith, after)
    ]

-- the images of one operation
last_image : (op : Op) (files : Files) (j : ℕ) (f : Files) → ImageFrom files (op ∷ []) j f → MayLeave op.call files f
last_image op files zero f (inl e) = subst (MayLeave op.call files) (sym e) (MayLeave-none op.call files)
last_image op files zero f (inr left) = left
last_image op files (suc j) f (inl e) =
    subst (MayLeave op.call files) (sym (e ∙ ap (λ (ops : List Op). after_from (after_op op files) ops) (take-nil j))) (MayLeave-after_effect op.call op.effect files)
last_image op files (suc j) f (inr left) = absurd left

-- each image from the first n on still has P after one more operation, whose images have it
pub AllImages-push : (P : Files → Type 0) (n : ℕ) (ops : List Op) (op : Op) → AllImages P n ops →
    ((f : Files) → MayLeave op.call (files_after ops) f → P f) → AllImages P n (ops ++ op ∷ [])
AllImages-push P n ops op before step i f from image =
    elim (image-append map.empty ops (op ∷ []) i f image) [
      | inl (below, here) ↦ before i f from here
      | inr (j, is, after) ↦ step f (last_image op (files_after ops) j f after)
    ]

-- where nothing came, it is enough that the files have P
pub Extends-refl : (P : Files → Type 0) (ops : Option (List Op)) → ((told : List Op) → ops ≡ Some told → P (files_after told)) → Extends P ops ops
Extends-refl P None here = refl
Extends-refl P (Some told) here = ([], ap Some (sym (append-nil told)), end_image)
  where
    end_image : (i : ℕ) (f : Files) → length told ≤ i → CrashImage (told ++ []) i f → P f
    end_image i f from image =
        elim (image-append map.empty told [] i f image) [
          | inl (below, before) ↦ absurd (omega arith)
          | inr (j, is, inl e) ↦ subst P (sym (e ∙ ap (λ (ops : List Op). after_from (files_after told) ops) (take-nil j))) (here told refl)
          | inr (j, is, inr left) ↦ absurd left
        ]

-- one more operation, whose images have P
pub Extends-push : (P : Files → Type 0) (first : Option (List Op)) (ops : List Op) (op : Op) → Extends P first (Some ops) →
    ((f : Files) → MayLeave op.call (files_after ops) f → P f) → Extends P first (Some (ops ++ op ∷ []))
Extends-push P None ops op before step = absurd (let no : Some ops ≡ None = before in cc)
Extends-push P (Some old) ops op (more, is, images) step =
    let same : ops ≡ old ++ more = cc in
    let longer : ops ++ op ∷ [] ≡ old ++ (more ++ op ∷ []) = ap (λ ops. ops ++ op ∷ []) same ∙ append_assoc old more (op ∷ []) in (
      more ++ op ∷ [],
      ap Some longer,
      subst (AllImages P (length old)) longer (AllImages-push P (length old) ops op (subst (AllImages P (length old)) (sym same) images) step),
    )

-- a weaker fact holds of the images too
pub Extends-weaker : (P Q : Files → Type 0) (first now : Option (List Op)) → ((f : Files) → P f → Q f) → Extends P first now → Extends Q first now
Extends-weaker P Q None now weaker is = is
Extends-weaker P Q (Some old) now weaker (more, is, images) = (more, is, λ i f from image. weaker f (images i f from image))

-- and what holds of all images up to a moment, and from there on, holds of all
images_joined : (P : Files → Type 0) (n : ℕ) (ops later : List Op) → AllImages P n ops → AllImages P (length ops) (ops ++ later) → AllImages P n (ops ++ later)
images_joined P n ops later before after i f from image =
    elim (image-append map.empty ops later i f image) [
      | inl (below, here) ↦ before i f from here
      | inr (j, is, there) ↦ after i f (omega arith) image
    ]

pub Extends-trans : (P : Files → Type 0) (first middle now : Option (List Op)) → Extends P first middle → Extends P middle now → Extends P first now
Extends-trans P None middle now none after = subst (λ (ops : Option (List Op)). Extends P ops now) none after
Extends-trans P (Some old) middle now (more, is, images) after =
    let rest : Extends P (Some (old ++ more)) now = subst (λ (ops : Option (List Op)). Extends P ops now) is after in
    let joined : (old ++ more) ++ rest.0 ≡ old ++ (more ++ rest.0) = append_assoc old more rest.0 in (
      more ++ rest.0,
      rest.1 ∙ ap Some joined,
      subst (AllImages P (length old)) joined (images_joined P (length old) (old ++ more) rest.0 images rest.2),
    )

-- an image within an operation is what one of the effects of its call leaves
some_effect : (files f : Files) (op : Option Op) → IsSomeAnd op (λ op. MayLeave op.call files f) → IsSomeAnd op (λ op. HasEffect op.call files f)
some_effect files f None here = absurd here
some_effect files f (Some op) here = effect_left op.call files f here

some_image : (files f : Files) (op : Option Op) → IsSomeAnd op (λ op. HasEffect op.call files f) → IsSomeAnd op (λ op. MayLeave op.call files f)
some_image files f None here = absurd here
some_image files f (Some op) here = subst (MayLeave op.call files) (sym here.1) (MayLeave-after_effect op.call here.0 files)

pub image-effect : (ops : List Op) (i : ℕ) (f : Files) → CrashImage ops i f →
    (f ≡ files_after (take i ops)) ⊎ IsSomeAnd (slice_get ops i) (λ op. HasEffect op.call (files_after (take i ops)) f)
image-effect ops i f (inl is) = inl is
image-effect ops i f (inr here) = inr (some_effect (files_after (take i ops)) f (slice_get ops i) here)

pub effect-image : (ops : List Op) (i : ℕ) (f : Files) →
    (f ≡ files_after (take i ops)) ⊎ IsSomeAnd (slice_get ops i) (λ op. HasEffect op.call (files_after (take i ops)) f) → CrashImage ops i f
effect-image ops i f (inl is) = inl is
effect-image ops i f (inr here) = inr (some_image (files_after (take i ops)) f (slice_get ops i) here)
