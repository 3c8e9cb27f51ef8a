-- What the last slash of a path tells.
use Rattle.std.proofs.Common.{◌++◌, ◌∷◌, ◌∙◌, ℕ, List, Option, None, Some, MatchOption, take, drop, ap, sym, subst, lit<}
use Rattle.std.specs.Str.Pattern.{RFindsChar, SplitsAroundMatch}
use Rattle.std.proofs.lemmas.List.{take-append-drop}
use Rattle.std.proofs.lemmas.Str.Pattern.{NoCharPasses-char, drop_at_char}
use Rattle.pm_folder_store.specs.Paths.{HasNoSlash, IsCutAtLast}
use denote.Ref.{Bor}

-- around the last match of a slash stand what comes before it, and what has none
pub cut_from_split : (path front back : List ℕ) → SplitsAroundMatch (RFindsChar 47) path front back → IsCutAtLast path front back
cut_from_split path front back (i, j, finds, before, after, ordered, first, last) = (
  subst HasNoSlash (sym after) (λ k h. NoCharPasses-char 47 (drop j path) k finds.0 (lit< tt) h),
  sym (take-append-drop i path) ∙ ap (λ l. take i path ++ l) (drop_at_char 47 path i j finds.1 (lit< tt))
      ∙ ap (λ l. l ++ (47 ∷ drop j path)) (sym before) ∙ ap (λ l. front ++ (47 ∷ l)) (sym after),
)

-- the same of what `rsplit_once` answers
pub cut_from_rsplit : (path : List ℕ) (r : Option (Bor (List ℕ) × Bor (List ℕ))) → MatchOption r (RFindsChar 47 path None) (λ x. SplitsAroundMatch (RFindsChar 47) path x.0.now x.1.now) → MatchOption r (HasNoSlash path) (λ x. IsCutAtLast path x.0.now x.1.now)
cut_from_rsplit path None none = λ k h. NoCharPasses-char 47 path k none (lit< tt) h
cut_from_rsplit path (Some x) split = cut_from_split path x.0.now x.1.now split
