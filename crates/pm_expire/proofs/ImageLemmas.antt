-- An image of an expiry is another at a path only where the expiry takes the file there, or makes its floor.
use Rattle.std.proofs.Common.{◌≡◌, ◌⊎◌, inl, inr, ℕ, List, [], Contains, if◌then◌else◌, is_none, Option, None, Some, refl, sym, ap, ◌∙◌, subst}
use Rattle.std.specs.FinMap as finite
use Rattle.std.proofs.lemmas.List.Elements.{Contains-append_left}
use Rattle.pm_store.specs.Files.{Files, Puts}
use Rattle.pm_remove.specs.Meaning.{HasLost}
use Rattle.pm_model_folder.specs.Paths.{floor_path}
use Rattle.pm_model_folder.proofs.Facts.{same-path}
use Rattle.pm_expire_paths.proofs.DroppingLemmas.{either}
use Rattle.pm_read_expiry.specs.declared.asking.Asking.{Asking}
use Rattle.pm_expire.specs.AllCalls.{announced, AreRemovalsOf, ChangesAt, HasToGo, IsImageOf, announcing, as_before, removing}
use Rattle.pm_expire.proofs.AnnouncedLemmas.{others}
use Rattle.pm_expire.proofs.GivenBackLemmas.{goes}

-- the path is as it was, or the expiry changes it
abbrev Differs : Asking → Files → Files → List ℕ → Type 0
Differs a f g path = (finite.get g path ≡ finite.get f path) ⊎ ChangesAt a f g path

-- ---- the floor

-- where a floor was, no path changes
there_still : (f : Files) (floor q : List ℕ) (at : Option (List ℕ)) → finite.get f floor ≡ at
    → (finite.get f floor ≡ None) ⊎ (finite.get (if is_none at then finite.insert f floor [] else f) q ≡ finite.get f q)
there_still f floor q None is = inl is
there_still f floor q (Some found) is = inr refl

module _ (a : Asking) (f g : Files) (path : List ℕ) (first end : ℕ) (has : HasToGo a f first end) where
  is_floor : finite.get f (floor_path end) ≡ None → path ≡ floor_path end → Differs a f g path
  is_floor absent same = inr (first, end, has, inr (ap (finite.get f) same ∙ absent, same))

  -- where the floor was made, in part or whole
  with_floor : (found : List ℕ) → finite.get f (floor_path end) ≡ None → Puts f (floor_path end) (Some found) g → Differs a f g path
  with_floor found absent puts = elim (same-path path (floor_path end)) as (λ _. Differs a f g path) [
    | inl same ↦ is_floor absent same
    | inr other ↦ inl (puts.others path other)
  ]

  -- as it is with the floor
  as_announced : finite.get g path ≡ finite.get (announced f end) path → Differs a f g path
  as_announced is = elim (there_still f (floor_path end) path (finite.get f (floor_path end)) refl) as (λ _. Differs a f g path) [
    | inr still ↦ inl (is ∙ still)
    | inl absent ↦ elim (same-path path (floor_path end)) as (λ _. Differs a f g path) [
      | inl same ↦ is_floor absent same
      | inr other ↦ inl (is ∙ others f end path other)
    ]
  ]

  -- ---- the removes

  lost_at : (paths : List (List ℕ)) → AreRemovalsOf a.schema f first end paths → HasLost (announced f end) paths g → Differs a f g path
  lost_at paths are lost = elim (either lost.done path) as (λ _. Differs a f g path) [
    | inl among ↦
        let goes_too : Contains paths path = subst (λ (ps : List (List ℕ)). Contains ps path) (sym lost.is) (Contains-append_left lost.done lost.left path among) in
        inr (first, end, has, inl (lost.lost.gone path among, goes f a.schema first end has.is_first has.some paths are path goes_too))
    | inr none ↦ as_announced (lost.lost.others path none)
  ]

-- ---- each image

pub image : (a : Asking) (f g : Files) (path : List ℕ) → IsImageOf a f g → Differs a f g path
image a f g path (as_before same) = inl (same path)
image a f g path (announcing first end found has absent puts) = with_floor a f g path first end has found absent puts
image a f g path (removing first end paths has are lost) = lost_at a f g path first end has paths are lost
