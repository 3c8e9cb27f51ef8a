-- What stands after the last slash of a path.
use Rattle.std.proofs.Common.{◌≡◌, ◌++◌, ◌∷◌, [], ◌∙◌, ◌==◌, ℕ, suc, List, if◌then◌else◌, ap, refl, ne_eqb, suc-le-suc, zero-lt-suc}
use Rattle.pm_folder_store.specs.Paths.{HasNoSlash, IsCutAtLast}
use Rattle.pm_folder_store.specs.Folders.{after_slashes, last_part}

-- a text without a slash leaves what came before it
pub no_slash : (before text : List ℕ) → HasNoSlash text → after_slashes before text ≡ before
no_slash before [] none = refl
no_slash before (b ∷ bs) none =
    ap (λ is. after_slashes (if is then bs else before) bs) (ne_eqb b 47 (none 0 (zero-lt-suc _)))
    ∙ no_slash before bs (λ i h. none (suc i) (suc-le-suc h))

-- what came before a slash doesn't count
pub after_last : (before front name : List ℕ) → after_slashes before (front ++ (47 ∷ name)) ≡ after_slashes name name
after_last before [] name = refl
after_last before (b ∷ front) name = after_last (if b == 47 then front ++ (47 ∷ name) else before) front name

-- the last part of a path that is cut at its last slash
pub last_from_cut : (path front name : List ℕ) → IsCutAtLast path front name → last_part path ≡ name
last_from_cut path front name (none, is) =
    ap last_part is ∙ after_last (front ++ (47 ∷ name)) front name ∙ no_slash name name none
