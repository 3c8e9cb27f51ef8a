-- Of known runs of stored rows those at some levels are such.
use Rattle.std.proofs.Common.{◌≡◌, ℕ, Bool, true, false, List, [], ◌∷◌, cond, filter, map, reverse, sym, subst, arith}
use mathlib.Core.List.{reverse-cons}
use Rattle.std.specs.List.{AllByRecursion}
use Rattle.std.proofs.lemmas.List.{reverse-reverse}
use Rattle.std.proofs.lemmas.List.Elements.{All-cons, All-tail}
use Rattle.pm_base.proofs.Laws.{AllByRecursion-append, AllByRecursion-parts, AllByRecursion-push}
use Rattle.pm_values.specs.declared.record.Stamped.{Stamped}
use Rattle.pm_engine.specs.Covers.{IsRising, Run, row_of}
use Rattle.pm_engine.specs.Meaning.{Meaning, SpeaksFor}
use Rattle.pm_merge.specs.Merge.{all_rows, AreStored}
use Rattle.pm_runs.specs.Stand.{StoredRun, oldest_first}
use Rattle.pm_runs.specs.Succession.{KnownRun, from_oldest, without_files}

all-reversed : {X : Type 0} (P : X → Type 0) (xs : List X) → AllByRecursion P xs → AllByRecursion P (reverse xs)
all-reversed P [] all = tt
all-reversed P (x ∷ xs) all =
    subst (AllByRecursion P) (sym (reverse-cons x xs)) (AllByRecursion-push P (reverse xs) x (all-reversed P xs all.1) all.0)

module _ (m : Meaning) where
  abbrev Speaks : Stamped → Type 0
  Speaks x = SpeaksFor m x.key (row_of x) (row_of x ∷ [])

  abbrev HasOwnKind : Stamped → Type 0
  HasOwnKind x = x.kind ≡ m.kind (row_of x ∷ [])

  -- a run of stored rows
  record IsStored (run : Run) : Type 0 where
    rising : IsRising run
    speak : AllByRecursion Speaks run
    kinds : AllByRecursion HasOwnKind run

  each-stored : (runs : List Run) → AreStored m runs → AllByRecursion IsStored runs
  each-stored [] are = tt
  each-stored (run ∷ runs) are =
      let speak = AllByRecursion-parts Speaks run (all_rows runs) are.speak in
      let kinds = AllByRecursion-parts HasOwnKind run (all_rows runs) are.kinds in (
        record { rising = are.rising 0 run (omega arith); speak = speak.0; kinds = kinds.0 },
        each-stored runs (record { rising = All-tail IsRising run runs are.rising; speak = speak.1; kinds = kinds.1 }),
      )

  all-stored : (runs : List Run) → AllByRecursion IsStored runs → AreStored m runs
  all-stored [] each = record { rising = λ k d within. absurd (let no : ⊥ = omega (arith, within) in no); speak = tt; kinds = tt }
  all-stored (run ∷ runs) each =
      let rest = all-stored runs each.1 in record {
        rising = All-cons IsRising run runs each.0.rising rest.rising;
        speak = AllByRecursion-append Speaks run (all_rows runs) each.0.speak rest.speak;
        kinds = AllByRecursion-append HasOwnKind run (all_rows runs) each.0.kinds rest.kinds;
      }

  some-stored : (such : ℕ → Bool) (known : List KnownRun) → AllByRecursion IsStored (map (λ (run : KnownRun). run.rows) known)
      → AllByRecursion IsStored (map (λ (r : StoredRun). r.rows) (filter (λ (r : StoredRun). such r.level) (map without_files known)))
  some-stored such [] each = tt
  some-stored such (run ∷ known) each =
      let left : List StoredRun = filter (λ (r : StoredRun). such r.level) (map without_files known) in
      let rest = some-stored such known each.1 in
      elim (such run.level) as (λ b. AllByRecursion IsStored (map (λ (r : StoredRun). r.rows) (cond b (without_files run ∷ left) left))) [
        | true ↦ (each.0, rest)
        | false ↦ rest
      ]

  -- those at such levels
  pub side-stored : (such : ℕ → Bool) (known : List KnownRun) → AreStored m (from_oldest known) → AreStored m (oldest_first such (map without_files known))
  side-stored such known are =
      let rows = map (λ (run : KnownRun). run.rows) known in
      let each : AllByRecursion IsStored rows = subst (AllByRecursion IsStored) (reverse-reverse rows) (all-reversed IsStored (reverse rows) (each-stored (reverse rows) are)) in
      let side = map (λ (r : StoredRun). r.rows) (filter (λ (r : StoredRun). such r.level) (map without_files known)) in
      all-stored (reverse side) (all-reversed IsStored side (some-stored such known each))
