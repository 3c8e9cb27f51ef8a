-- The rows of the runs on a side of a level, of runs that are known.
use Rattle.std.proofs.Common.{◌≡◌, ℕ, suc, ◌+◌, ◌<◌, ◌≤◌, All, Bool, true, false, List, [], ◌∷◌, ◌++◌, drop, filter, get_or, if◌then◌else◌, length, length-append, map, reverse, refl, sym, ap, ◌∙◌, append_assoc, append-nil, arith}
use mathlib.Core.List.{reverse-cons}
use Rattle.std.proofs.lemmas.List.{drop_all, map-append, reverse-append}
use Rattle.std.proofs.lemmas.List.Elements.{All-cons, All-tail}
use Rattle.pm_engine.specs.Covers.{IsRising, Run}
use Rattle.pm_levels.specs.Runs.{RunView, run_of}
use Rattle.pm_levels.specs.declared.runs.RunFiles.{RunFiles}
use Rattle.pm_model_folder.specs.Runs.{view_of}
use Rattle.pm_runs.specs.Stand.{StoredRun, oldest_first}
use Rattle.pm_runs.specs.Succession.{KnownRun, from_oldest, without_files}
use Rattle.pm_group_log.specs.Told.{rows_where}
use Rattle.pm_group_log.proofs.BytesLemmas.{drop_next}

long-reverse : {X : Type 0} (xs : List X) → length (reverse xs) ≡ length xs
long-reverse [] = refl
long-reverse (x ∷ xs) =
    let same : length (reverse (x ∷ xs)) ≡ length (reverse xs ++ x ∷ []) = ap length (reverse-cons x xs) in
    let both = length-append (reverse xs) (x ∷ []) in
    let rest = long-reverse xs in
    omega (arith, same, both, rest)

abbrev rows_of : KnownRun → Run
rows_of run = run.rows

long-both : (known : List KnownRun) → length (map view_of known) ≡ length (map rows_of known)
long-both [] = refl
long-both (run ∷ known) = ap suc (long-both known)

module _ (such : ℕ → Bool) where
  side-append : (runs more : List RunView) (own others : List Run) → length runs ≡ length own
      → rows_where such (runs ++ more) (own ++ others) ≡ rows_where such runs own ++ rows_where such more others
  side-append [] more [] others same = refl
  side-append [] more (r ∷ own) others same = absurd (let clash : 0 ≡ suc (length own) = same in omega (arith, clash))
  side-append (run ∷ runs) more [] others same = absurd (let clash : suc (length runs) ≡ 0 = same in omega (arith, clash))
  side-append (run ∷ runs) more (r ∷ own) others same =
      let long : suc (length runs) ≡ suc (length own) = same in
      let rest = side-append runs more own others (omega (arith, long)) in
      elim (such run.level) as (λ b. (if b then r ∷ rows_where such (runs ++ more) (own ++ others) else rows_where such (runs ++ more) (own ++ others))
      ≡ (if b then r ∷ rows_where such runs own else rows_where such runs own) ++ rows_where such more others) [
        | true ↦ ap (λ (rows : List Run). r ∷ rows) rest
        | false ↦ rest
      ]

  -- the oldest run first, as runs were read
  pub side-known : (known : List KnownRun) → rows_where such (reverse (map view_of known)) (from_oldest known) ≡ oldest_first such (map without_files known)
  side-known [] = refl
  side-known (run ∷ known) =
      let views = map view_of known in
      let rows = map rows_of known in
      let long : length (reverse views) ≡ length (reverse rows) = long-reverse views ∙ long-both known ∙ sym (long-reverse rows) in
      ap (λ (runs : List RunView). rows_where such runs (reverse (run.rows ∷ rows))) (reverse-cons (view_of run) views)
      ∙ ap (λ (own : List Run). rows_where such (reverse views ++ view_of run ∷ []) own) (reverse-cons run.rows rows)
      ∙ side-append (reverse views) (view_of run ∷ []) (reverse rows) (run.rows ∷ []) long
      ∙ ap (λ (own : List Run). own ++ (if such run.level then run.rows ∷ [] else [])) (side-known known)
      ∙ one-more (such run.level)
    where
      stored : List StoredRun
      stored = filter (λ (r : StoredRun). such r.level) (map without_files known)

      one-more : (b : Bool) → oldest_first such (map without_files known) ++ (if b then run.rows ∷ [] else [])
          ≡ reverse (map (λ (r : StoredRun). r.rows) (if b then without_files run ∷ stored else stored))
      one-more true = sym (reverse-cons run.rows (map (λ (r : StoredRun). r.rows) stored))
      one-more false = append-nil (oldest_first such (map without_files known))

  -- ---- as they are put together

  no-rows : (runs : List RunView) → rows_where such runs [] ≡ []
  no-rows [] = refl
  no-rows (run ∷ runs) = refl

  one-put : (b : Bool) (so-far later : List Run) (own : Run)
      → (so-far ++ (if b then own ∷ [] else [])) ++ later ≡ so-far ++ (if b then own ∷ later else later)
  one-put true so-far later own = append_assoc so-far (own ∷ []) later
  one-put false so-far later own = append_assoc so-far [] later

  -- the oldest of the runs that are left
  pub side-next : (older newer : List RunFiles) (run : RunFiles) (read : List Run) (i : ℕ) (own : Run) (so-far new all : List Run) → older ≡ newer ++ run ∷ []
      → i < length read → own ≡ get_or read i own → new ≡ so-far ++ (if such run.level then own ∷ [] else [])
      → so-far ++ rows_where such (reverse (map run_of older)) (drop i read) ≡ all
      → new ++ rows_where such (reverse (map run_of newer)) (drop (i + 1) read) ≡ all
  side-next older newer run read i own so-far new all split less is put so =
      let later = rows_where such (reverse (map run_of newer)) (drop (i + 1) read) in
      let back : reverse (map run_of older) ≡ run_of run ∷ reverse (map run_of newer) =
      ap (λ (runs : List RunFiles). reverse (map run_of runs)) split ∙ ap (λ (runs : List RunView). reverse runs) (map-append run_of newer (run ∷ []))
      ∙ reverse-append (map run_of newer) (run_of run ∷ []) in
      let step : rows_where such (reverse (map run_of older)) (drop i read) ≡ (if such run.level then own ∷ later else later) =
      ap (λ (runs : List RunView). rows_where such runs (drop i read)) back
      ∙ ap (λ (rows : List Run). rows_where such (run_of run ∷ reverse (map run_of newer)) rows) (drop_next read i own less is) in
      ap (λ (rows : List Run). rows ++ later) put ∙ one-put (such run.level) so-far later own ∙ ap (λ (rows : List Run). so-far ++ rows) (sym step) ∙ so

  -- no run is known any more
  pub side-unknown : (older : List RunFiles) (rows so-far all : List Run) → older ≡ [] → so-far ++ rows_where such (reverse (map run_of older)) rows ≡ all → so-far ≡ all
  side-unknown older rows so-far all none so =
      sym (append-nil so-far) ∙ ap (λ (runs : List RunFiles). so-far ++ rows_where such (reverse (map run_of runs)) rows) (sym none) ∙ so

  -- none was read any more
  pub side-ended : (older : List RunFiles) (read : List Run) (i : ℕ) (so-far all : List Run) → length read ≤ i
      → so-far ++ rows_where such (reverse (map run_of older)) (drop i read) ≡ all → so-far ≡ all
  side-ended older read i so-far all ended so =
      sym (append-nil so-far) ∙ ap (λ (rows : List Run). so-far ++ rows) (sym (ap (rows_where such (reverse (map run_of older))) (drop_all i read ended) ∙ no-rows (reverse (map run_of older))))
      ∙ so

  -- of runs that rise they rise
  pub side-rises : (runs : List RunView) (rows : List Run) → All IsRising rows → All IsRising (rows_where such runs rows)
  side-rises [] rows all = λ k d within. absurd (let no : ⊥ = omega (arith, within) in no)
  side-rises (run ∷ runs) [] all = λ k d within. absurd (let no : ⊥ = omega (arith, within) in no)
  side-rises (run ∷ runs) (own ∷ rows) all =
      let rest = side-rises runs rows (All-tail IsRising own rows all) in
      elim (such run.level) as (λ b. All IsRising (if b then own ∷ rows_where such runs rows else rows_where such runs rows)) [
        | true ↦ All-cons IsRising own (rows_where such runs rows) (all 0 own (omega arith)) rest
        | false ↦ rest
      ]
