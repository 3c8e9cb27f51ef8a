-- The paths of snapshots, one after another.
use Rattle.std.proofs.Common.{◌≡◌, ℕ, suc, ◌+◌, ◌-◌, ◌<◌, List, [], ◌∷◌, ◌++◌, refl, sym, ap, subst, ◌∙◌, append_assoc, arith}
use Rattle.pm_model_folder.specs.Paths.{snapshot_path}
use Rattle.pm_model_expiry.specs.Removals.{snapshot_paths}

next_path : (id end : ℕ) → id < end → snapshot_paths id (end - id) ≡ snapshot_path id ∷ snapshot_paths (id + 1) (end - (id + 1))
next_path id end less =
    let count : end - id ≡ suc (end - (id + 1)) = omega (arith, less) in
    subst (λ (n : ℕ). snapshot_paths id n ≡ snapshot_path id ∷ snapshot_paths (id + 1) (end - (id + 1))) (sym count) refl

-- one more was added
pub one_more : (all new before : List (List ℕ)) (path : List ℕ) (id first end : ℕ) → id < end → path ≡ snapshot_path id → new ≡ all ++ path ∷ []
    → all ++ snapshot_paths id (end - id) ≡ before ++ snapshot_paths first (end - first)
    → new ++ snapshot_paths (id + 1) (end - (id + 1)) ≡ before ++ snapshot_paths first (end - first)
one_more all new before path id first end less is added so =
    let rest : List (List ℕ) = snapshot_paths (id + 1) (end - (id + 1)) in
    ap (λ (xs : List (List ℕ)). xs ++ rest) added ∙ append_assoc all (path ∷ []) rest ∙ ap (λ (q : List ℕ). all ++ q ∷ rest) is
    ∙ sym (ap (λ (xs : List (List ℕ)). all ++ xs) (next_path id end less)) ∙ so
