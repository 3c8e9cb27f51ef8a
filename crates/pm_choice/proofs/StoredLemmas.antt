-- The rows of the runs that go are stored rows of the table.
use Rattle.std.proofs.Common.{◌≡◌, ℕ, true, List, [], ◌∷◌, ◌++◌, map, reverse, filter, refl, ap, subst, ◌∙◌, All, suc, arith}
use Rattle.std.specs.List.{AllByRecursion}
use Rattle.std.proofs.lemmas.List.{reverse-append}
use Rattle.std.proofs.lemmas.Grind.{flat_map-append}
use Rattle.pm_base.proofs.Laws.{AllByRecursion-parts}
use Rattle.pm_values.specs.declared.record.Stamped.{Stamped}
use Rattle.pm_values.specs.declared.group.Group.{Group}
use Rattle.pm_schema.specs.declared.schema.TableSchema.{TableSchema}
use Rattle.pm_model_history.specs.History.{Entry, rows_up_to}
use Rattle.pm_model_history.specs.Merge.{HistoryRow}
use Rattle.pm_model_following.specs.Groups.{rows_in}
use Rattle.pm_engine.specs.Covers.{Covers, IsRising, Run, row_of}
use Rattle.pm_engine.specs.Meaning.{KindsAreOwn, Meaning, SpeaksFor}
use Rattle.pm_engine.specs.OfSchema.{meaning_of}
use Rattle.pm_merge.specs.Merge.{all_rows, AreStored, HaveOwnKinds}
use Rattle.pm_runs.specs.Stand.{StoredRun, oldest_first}
use Rattle.pm_runs.specs.Succession.{AreKnownAt, KnownRun, from_oldest, without_files}

-- ---- the runs, the oldest first

rows-kept : (runs : List KnownRun)
    → map (λ (r : StoredRun). r.rows) (filter (λ (r : StoredRun). true) (map without_files runs)) ≡ map (λ (run : KnownRun). run.rows) runs
rows-kept [] = refl
rows-kept (run ∷ runs) = ap (λ (rest : List Run). run.rows ∷ rest) (rows-kept runs)

all-kept : (runs : List KnownRun) → oldest_first (λ level. true) (map without_files runs) ≡ from_oldest runs
all-kept runs = ap (λ (rows : List Run). reverse rows) (rows-kept runs)

rows-joined : (xs ys : List KnownRun) → map (λ (run : KnownRun). run.rows) (xs ++ ys) ≡ map (λ (run : KnownRun). run.rows) xs ++ map (λ (run : KnownRun). run.rows) ys
rows-joined [] ys = refl
rows-joined (x ∷ xs) ys = ap (λ (rest : List Run). x.rows ∷ rest) (rows-joined xs ys)

oldest-joined : (xs ys : List KnownRun) → from_oldest (xs ++ ys) ≡ from_oldest ys ++ from_oldest xs
oldest-joined xs ys =
    ap (λ (rows : List Run). reverse rows) (rows-joined xs ys)
    ∙ reverse-append (map (λ (run : KnownRun). run.rows) xs) (map (λ (run : KnownRun). run.rows) ys)

-- ---- stored rows

all-later : {X : Type 0} (P : X → Type 0) (xs ys : List X) → All P (xs ++ ys) → All P ys
all-later P [] ys all = all
all-later P (x ∷ xs) ys all = all-later P xs ys (λ k d within. all (suc k) d (omega (arith, within)))

-- of runs of stored rows the later ones are such
later-stored : (m : Meaning) (xs ys : List Run) → AreStored m (xs ++ ys) → AreStored m ys
later-stored m xs ys are =
    let joined : all_rows (xs ++ ys) ≡ all_rows xs ++ all_rows ys = flat_map-append (λ (run : Run). run) xs ys in
    record {
      rising = all-later IsRising xs ys are.rising;
      speak = (AllByRecursion-parts (λ (s : Stamped). SpeaksFor m s.key (row_of s) (row_of s ∷ [])) (all_rows xs) (all_rows ys)
          (subst (AllByRecursion (λ (s : Stamped). SpeaksFor m s.key (row_of s) (row_of s ∷ []))) joined are.speak)).1;
      kinds = (AllByRecursion-parts (λ (s : Stamped). s.kind ≡ m.kind (row_of s ∷ [])) (all_rows xs) (all_rows ys)
          (subst (HaveOwnKinds m) joined are.kinds)).1;
    }

abbrev pub Found : Type 0
Found = (m : Meaning) (runs : List Run) (rows : List HistoryRow) → KindsAreOwn m → All IsRising runs → Covers m runs rows → AreStored m runs

covered-stored : Found → (m : Meaning) → KindsAreOwn m → (taken rest : List KnownRun) (rows : List HistoryRow)
    → Covers m (oldest_first (λ level. true) (map without_files (taken ++ rest))) rows → All IsRising (from_oldest (taken ++ rest)) → AreStored m (from_oldest taken)
covered-stored found m own taken rest rows covers rising =
    let all : AreStored m (from_oldest (taken ++ rest)) =
    found m (from_oldest (taken ++ rest)) rows own rising (subst (λ (runs : List Run). Covers m runs rows) (all-kept (taken ++ rest)) covers) in
    later-stored m (from_oldest rest) (from_oldest taken) (subst (AreStored m) (oldest-joined taken rest) all)

pub taken-stored : Found → ((s : TableSchema) → KindsAreOwn (meaning_of s)) → (s : TableSchema) (g : Group) (entries : List Entry) (n : ℕ) (taken rest : List KnownRun)
    → AreKnownAt s g entries n (taken ++ rest) → All IsRising (from_oldest (taken ++ rest)) → AreStored (meaning_of s) (from_oldest taken)
taken-stored found own s g entries n taken rest known rising =
    covered-stored found (meaning_of s) (own s) taken rest (rows_in s g (rows_up_to entries n)) known.stand.all rising
