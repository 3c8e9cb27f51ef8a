-- The runs of a group once some were rewritten: those of its files, numbered apart at level 0 as before.
use Rattle.std.proofs.Common.{◌≡◌, inl, inr, ℕ, ◌<◌, ◌≤◌, List, [], ◌∷◌, ◌++◌, sym, ap, subst, arith}
use Rattle.std.specs.List.{AllByRecursion}
use Rattle.std.specs.List.Sorted.{IsPermutation}
use Rattle.std.proofs.lemmas.List.Sorted.{IsPermutation-append_right, IsPermutation-append_left, IsPermutation-append_comm, IsPermutation-refl, IsPermutation-sym, IsPermutation-trans}
use Rattle.std.proofs.lemmas.List.{append_assoc}
use Rattle.pm_values.specs.declared.file_meta.FileMeta.{FileMeta}
use Rattle.pm_values.specs.declared.group.Group.{Group}
use Rattle.pm_levels.specs.Overlap.{AreDisjoint}
use Rattle.pm_levels.specs.Runs.{AreMadeAt, AreNamedApart, AreRuns, AreTwoOf, MakePlace, RunView, files_of}
use Rattle.pm_manifest.specs.Live.{Live}
use Rattle.pm_model_contents.specs.Runs.{AreFilesOf, AreRunsOf}
use Rattle.pm_model_folder.specs.Stored.{AreNumberedApart}
use Rattle.pm_compaction.proofs.LiveLemmas.{files-three, two-left}
use Rattle.pm_compaction.proofs.PlaceLemmas.{TwoOfMore}
use Rattle.pm_made.proofs.StandLemmas.{two-moved}

-- what the law of runs in the place of others says
pub record Replaced : Type 0 where
  pub runs : (files after : List FileMeta) (later taken made older : List RunView) (out : ℕ) → MakePlace files later taken made older out
      → IsPermutation after (files_of (later ++ (made ++ older))) → AreRuns after (later ++ (made ++ older))
  pub disjoint : (files after : List FileMeta) (later taken made older : List RunView) (out : ℕ) → MakePlace files later taken made older out
      → IsPermutation after (files_of (later ++ (made ++ older))) → AreDisjoint files → AreDisjoint (files_of made) → AreDisjoint after
  pub named : (files after : List FileMeta) (later taken made older : List RunView) (out : ℕ) → MakePlace files later taken made older out
      → IsPermutation after (files_of (later ++ (made ++ older))) → AreNamedApart files → AreNamedApart (files_of made) → AreNamedApart after

module _ (replaced : Replaced) (more : TwoOfMore) (live0 live1 : Live) (g : Group) (later taken made older : List RunView) (out : ℕ) (high : 1 ≤ out)
    (own : AreRunsOf live0 g (later ++ (taken ++ older))) (are_made : AreMadeAt out made)
    (below : AllByRecursion (λ (run : RunView). run.level < out) later) (above : AllByRecursion (λ (run : RunView). out < run.level) older)
    (apart : AreNamedApart (files_of made)) (disjoint : AreDisjoint (files_of made)) where
  abbrev after : List RunView
  after = later ++ (made ++ older)

  abbrev all : List FileMeta
  all = files_of after

  pub place : MakePlace own.files later taken made older out
  place = record { were = own.made; are_made = are_made; below = below; above = above }

  pub after-named : AreNamedApart (files_of (later ++ (made ++ older)))
  after-named = replaced.named own.files all later taken made older out place (IsPermutation-refl all) own.own.apart apart

  abbrev pub after-runs : AreFilesOf live1 g (files_of (later ++ (made ++ older))) → AreRunsOf live1 g (later ++ (made ++ older))
  after-runs files = record {
    files = all;
    own = files;
    made = replaced.runs own.files all later taken made older out place (IsPermutation-refl all);
    disjoint = replaced.disjoint own.files all later taken made older out place (IsPermutation-refl all) own.disjoint disjoint;
  }

  -- two files at level 0 are none of those that were made
  others : (ms rest : List FileMeta) (a b : FileMeta) → AllByRecursion (λ (m : FileMeta). m.level ≡ out) ms → a.level ≡ 0 → b.level ≡ 0 → AreTwoOf a b (ms ++ rest)
      → AreTwoOf a b rest
  others [] rest a b levels low_a low_b two = two
  others (m ∷ ms) rest a b levels low_a low_b two = elim (more m (ms ++ rest) a b two) as (λ _. AreTwoOf a b rest) [
    | inl first ↦ absurd (let same = ap (λ (x : FileMeta). x.level) first.0 in let is = levels.0 in omega (arith, same, is, low_a, high))
    | inr two_more ↦ elim two_more as (λ _. AreTwoOf a b rest) [
      | inl second ↦ absurd (let same = ap (λ (x : FileMeta). x.level) second.0 in let is = levels.0 in omega (arith, same, is, low_b, high))
      | inr left ↦ others ms rest a b levels.1 low_a low_b left
    ]
  ]

  -- the files that were made come first
  made-first : IsPermutation all (files_of made ++ (files_of later ++ files_of older))
  made-first =
      let ls = files_of later in
      let ms = files_of made in
      let os = files_of older in
      subst (λ (fs : List FileMeta). IsPermutation fs (ms ++ (ls ++ os))) (sym (files-three later made older))
      (subst (λ (fs : List FileMeta). IsPermutation (ls ++ (ms ++ os)) fs) (append_assoc ms ls os)
      (subst (λ (fs : List FileMeta). IsPermutation fs ((ms ++ ls) ++ os)) (append_assoc ls ms os)
      (IsPermutation-append_left os (ls ++ ms) (ms ++ ls) (IsPermutation-append_comm ls ms))))

  -- those that were taken come last
  taken-last : IsPermutation ((files_of later ++ files_of older) ++ files_of taken) own.files
  taken-last =
      let ls = files_of later in
      let ts = files_of taken in
      let os = files_of older in
      IsPermutation-trans ((ls ++ os) ++ ts) (files_of (later ++ (taken ++ older))) own.files
      (subst (λ (fs : List FileMeta). IsPermutation ((ls ++ os) ++ ts) fs) (sym (files-three later taken older))
      (subst (λ (fs : List FileMeta). IsPermutation fs (ls ++ (ts ++ os))) (sym (append_assoc ls os ts))
      (IsPermutation-append_right ls (os ++ ts) (ts ++ os) (IsPermutation-append_comm os ts))))
      (IsPermutation-sym own.files (files_of (later ++ (taken ++ older))) own.made.whole)

  pub after-numbered : AllByRecursion (λ (m : FileMeta). m.level ≡ out) (files_of made) → AreNumberedApart own.files → AreNumberedApart (files_of (later ++ (made ++ older)))
  after-numbered levels were a b two low_a low_b =
      let first = two-moved a b all (files_of made ++ (files_of later ++ files_of older)) made-first two in
      let rest = others (files_of made) (files_of later ++ files_of older) a b levels low_a low_b first in
      were a b (two-moved a b ((files_of later ++ files_of older) ++ files_of taken) own.files taken-last
      (two-left a b (files_of later ++ files_of older) (files_of taken) rest)) low_a low_b
