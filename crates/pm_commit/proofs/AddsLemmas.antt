-- Files that appear, one after another.
use Rattle.std.proofs.Common.{◌≡◌, ◌≢◌, ◌⊎◌, inl, inr, ℕ, List, Bool, true, false, None, Some, refl, sym, ap, ◌∙◌, subst, true≢false}
use Rattle.std.specs.FinMap as map
use Rattle.std.specs.Str.{bytes_eq}
use Rattle.std.proofs.lemmas.Slice.Eq.{bytes_eq-Decides}
use Rattle.pm_store.specs.Files.{Files, Puts}
use Rattle.pm_model_folder.specs.Changes.{Actor, IsOwn}
use Rattle.pm_model_folder.specs.Paths.{consumer_path}
use Rattle.pm_model_folder.proofs.PathLemmas.{consumer-own}
use Rattle.pm_commit.specs.Meaning.{AddsOwn}

module _ (me : Actor) (last : List ℕ) where
  pub adds-none : (f after : Files) → ((path : List ℕ) → map.get after path ≡ map.get f path) → AddsOwn me last f after
  adds-none f after same = λ path. inl (same path)

  pub adds-one : (f after : Files) (path content : List ℕ) → map.get f path ≡ None → IsOwn me path ⊎ (path ≡ last) → Puts f path (Some content) after
      → AddsOwn me last f after
  adds-one f after path content absent own puts = λ other. at other (bytes_eq other path) refl
    where
      at : (other : List ℕ) (t : Bool) → bytes_eq other path ≡ t → (map.get after other ≡ map.get f other)
          ⊎ ((map.get f other ≡ None) × (IsOwn me other ⊎ (other ≡ last)))
      at other false is = inl (puts.others other (λ same. true≢false (sym ((bytes_eq-Decides other path).1 same) ∙ is)))
      at other true is =
          let same : other ≡ path = (bytes_eq-Decides other path).0 is in
          inr (subst (λ (path : List ℕ). (map.get f path ≡ None) × (IsOwn me path ⊎ (path ≡ last))) (sym same) (absent, own))

  pub adds-more : (f between after : Files) → AddsOwn me last f between → AddsOwn me last between after → AddsOwn me last f after
  adds-more f between after first rest = λ path. at path (rest path) (first path)
    where
      Adds : Files → Files → List ℕ → Type 0
      Adds f after path = (map.get after path ≡ map.get f path) ⊎ ((map.get f path ≡ None) × (IsOwn me path ⊎ (path ≡ last)))

      at : (path : List ℕ) → Adds between after path → Adds f between path → Adds f after path
      at path (inl same) (inl was) = inl (same ∙ was)
      at path (inl same) (inr new) = inr new
      at path (inr (absent, own)) (inl was) = inr (sym was ∙ absent, own)
      at path (inr new) (inr first) = inr first

  -- none of them is a consumer's
  pub adds-consumers : (f after : Files) → ((name : List ℕ) → consumer_path name ≢ last) → AddsOwn me last f after → (name : List ℕ)
      → map.get after (consumer_path name) ≡ map.get f (consumer_path name)
  adds-consumers f after apart adds name = at (adds (consumer_path name))
    where
      at : (map.get after (consumer_path name) ≡ map.get f (consumer_path name))
          ⊎ ((map.get f (consumer_path name) ≡ None) × (IsOwn me (consumer_path name) ⊎ (consumer_path name ≡ last)))
          → map.get after (consumer_path name) ≡ map.get f (consumer_path name)
      at (inl same) = same
      at (inr (absent, inl own)) = absurd (consumer-own me (consumer_path name) name own refl)
      at (inr (absent, inr is)) = absurd (apart name is)
