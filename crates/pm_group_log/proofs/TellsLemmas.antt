-- What is told of a group is what a compaction tells of its runs.
use Rattle.std.proofs.Common.{◌≡◌, ℕ, zero, suc, ◌<◌, ◌≤◌, ◌==◌, nat_lt, not, Bool, true, false, List, [], ◌∷◌, ◌++◌, cond, drop, filter, length, map, reverse, take, Err, refl, sym, ap, subst, ◌∙◌, arith}
use Rattle.std.specs.List.{AllByRecursion}
use Rattle.std.proofs.lemmas.Bool.{eq-eqb, le-ltb, lt-ltb, ltb-false, ltb-true, ne_eqb}
use Rattle.std.proofs.lemmas.List.{drop-map, map-append, reverse-append, take-append-drop, take-map}
use Rattle.std.proofs.lemmas.List.Elements.{filter-append}
use Rattle.pm_values.specs.Order.{Values}
use Rattle.pm_values.specs.declared.record.Change.{Change}
use Rattle.pm_values.specs.declared.refusal.Refusal.{Refusal}
use Rattle.pm_values.specs.declared.refusal.Refusal.TheVariants.{Memory}
use Rattle.pm_options.specs.declared.kinds.Producer.{Producer}
use Rattle.pm_options.specs.declared.kinds.Producer.TheVariants as producers
use Rattle.pm_schema.specs.declared.schema.TableSchema.{TableSchema}
use Rattle.pm_model_changelog.specs.Log.{compaction_log, log_by, log_of}
use Rattle.pm_engine.specs.Covers.{Run}
use Rattle.pm_engine.specs.Meaning.{Meaning}
use Rattle.pm_engine.specs.OfSchema.{meaning_of}
use Rattle.pm_merge.specs.Merge.{AreStored}
use Rattle.pm_levels.specs.Runs.{RunView}
use Rattle.pm_model_folder.specs.Runs.{view_of}
use Rattle.pm_runs.specs.Stand.{StoredRun, oldest_first, top_of}
use Rattle.pm_runs.specs.Succession.{KnownRun, from_oldest, without_files}
use Rattle.pm_changelog.specs.GroupLog.{IsGroupLog}
use Rattle.pm_lookup.specs.File.{SeenFile}
use Rattle.pm_lookup.specs.Lookup.{AreRunsWith, IsOldValue, all_files}
use Rattle.pm_scan_rows.specs.Group.{GroupRead}
use Rattle.pm_choice.specs.Choice.{taken_runs}
use Rattle.pm_choice.specs.declared.choice.ChosenGroup.{ChosenGroup}
use Rattle.pm_compaction_log.specs.Log.{AreFilesWith}
use Rattle.pm_group_log.specs.Told.{first_told, is_side, looked_files, newer_rows, older_rows, rows_where, IsKnownAs, IsToldOf, RefusesBy, RefusesTelling, TellsBy}
use Rattle.pm_group_log.proofs.SidesLemmas.{side-known}
use Rattle.pm_group_log.proofs.StoredLemmas.{side-stored}

-- ---- runs at levels

abbrev stored_rows_of : List StoredRun → List Run
stored_rows_of stored = map (λ (r : StoredRun). r.rows) stored

abbrev at_levels : (ℕ → Bool) → List KnownRun → List StoredRun
at_levels such known = filter (λ (r : StoredRun). such r.level) (map without_files known)

-- the level is told apart from others in the same way
abbrev Agree : (ℕ → Bool) → (ℕ → Bool) → KnownRun → Type 0
Agree such other run = such run.level ≡ other run.level

levels-agree : (such other : ℕ → Bool) (known : List KnownRun) → AllByRecursion (Agree such other) known → at_levels such known ≡ at_levels other known
levels-agree such other [] agree = refl
levels-agree such other (run ∷ known) agree =
    ap (λ (b : Bool). cond b (without_files run ∷ at_levels such known) (at_levels such known)) agree.0
    ∙ ap (λ (left : List StoredRun). cond (other run.level) (without_files run ∷ left) left) (levels-agree such other known agree.1)

sides-agree : (such other : ℕ → Bool) (known : List KnownRun) → AllByRecursion (Agree such other) known
    → oldest_first such (map without_files known) ≡ oldest_first other (map without_files known)
sides-agree such other known agree = ap (λ (left : List StoredRun). reverse (stored_rows_of left)) (levels-agree such other known agree)

always : (P : KnownRun → Type 0) → ((run : KnownRun) → P run) → (known : List KnownRun) → AllByRecursion P known
always P each [] = tt
always P each (run ∷ known) = (each run, always P each known)

all-levels : (known : List KnownRun) → oldest_first (λ level. true) (map without_files known) ≡ from_oldest known
all-levels known = ap (λ (rows : List Run). reverse rows) (kept known)
  where
    kept : (runs : List KnownRun) → stored_rows_of (at_levels (λ level. true) runs) ≡ map (λ (run : KnownRun). run.rows) runs
    kept [] = refl
    kept (run ∷ runs) = ap (λ (rest : List Run). run.rows ∷ rest) (kept runs)

no-levels : (known : List KnownRun) → oldest_first (λ level. false) (map without_files known) ≡ []
no-levels known = ap (λ (left : List StoredRun). reverse (stored_rows_of left)) (none known)
  where
    none : (runs : List KnownRun) → at_levels (λ level. false) runs ≡ []
    none [] = refl
    none (run ∷ runs) = none runs

-- the older runs come first
sides-joined : (such : ℕ → Bool) (xs ys : List KnownRun)
    → oldest_first such (map without_files (xs ++ ys)) ≡ oldest_first such (map without_files ys) ++ oldest_first such (map without_files xs)
sides-joined such xs ys =
    let test : StoredRun → Bool = λ (r : StoredRun). such r.level in
    ap (λ (stored : List StoredRun). oldest_first such stored) (map-append without_files xs ys)
    ∙ ap (λ (left : List StoredRun). reverse (stored_rows_of left)) (filter-append test (map without_files xs) (map without_files ys))
    ∙ ap (λ (rows : List Run). reverse rows) (map-append (λ (r : StoredRun). r.rows) (at_levels such xs) (at_levels such ys))
    ∙ reverse-append (stored_rows_of (at_levels such xs)) (stored_rows_of (at_levels such ys))

above-all : (out : ℕ) (known : List KnownRun) → 1 ≤ out → AllByRecursion (λ (run : RunView). out < run.level) (map view_of known)
    → AllByRecursion (λ (run : KnownRun). 1 ≤ run.level) known
above-all out [] positive high = tt
above-all out (run ∷ known) positive high = (let here = high.0 in omega (arith, here, positive), above-all out known positive high.1)

all-then : (P Q : KnownRun → Type 0) → ((run : KnownRun) → P run → Q run) → (known : List KnownRun) → AllByRecursion P known → AllByRecursion Q known
all-then P Q each [] all = tt
all-then P Q each (run ∷ known) all = (each run all.0, all-then P Q each known all.1)

-- ---- tests of a level

above-zero : (n : ℕ) → 1 ≤ n → nat_lt 0 n ≡ true
above-zero n above = lt-ltb 0 n (omega (arith, above))

not-zero : (n : ℕ) → 1 ≤ n → (n == 0) ≡ false
not-zero n above = ne_eqb n 0 (λ same. absurd (let no : ⊥ = omega (arith, above, same) in no))

is-zero : (n : ℕ) → nat_lt n 1 ≡ (n == 0)
is-zero zero = lt-ltb 0 1 (omega arith) ∙ sym (eq-eqb 0 0 refl)
is-zero (suc n) = le-ltb (suc n) 1 (omega arith) ∙ sym (not-zero (suc n) (omega arith))

is-above : (n : ℕ) → not (nat_lt n 1) ≡ nat_lt 0 n
is-above zero = ap not (lt-ltb 0 1 (omega arith)) ∙ sym (le-ltb 0 0 (omega arith))
is-above (suc n) = ap not (le-ltb (suc n) 1 (omega arith)) ∙ sym (lt-ltb 0 (suc n) (omega arith))

is-top : (top n : ℕ) → n ≤ top → not (nat_lt n top) ≡ (n == top)
is-top top n within = by (nat_lt n top) refl
  where
    by : (b : Bool) → nat_lt n top ≡ b → not (nat_lt n top) ≡ (n == top)
    by true is = let less = ltb-true n top is in ap not is ∙ sym (ne_eqb n top (λ same. absurd (let no : ⊥ = omega (arith, less, same) in no)))
    by false is = let above = ltb-false n top is in ap not is ∙ sym (eq-eqb n top (omega (arith, above, within)))

-- ---- what is told

told-nothing : (s : TableSchema) (log : List Change) → log ≡ [] → IsGroupLog s [] log
told-nothing s log none = subst (IsGroupLog s []) (sym none) (record { told = refl; own = tt })

module _ (s : TableSchema) (c : ChosenGroup) (x : GroupRead) (known : List KnownRun) (is : IsKnownAs s c x known) where
  abbrev goes : List KnownRun
  goes = take c.take known

  abbrev stays : List KnownRun
  stays = drop c.take known

  abbrev at : (ℕ → Bool) → List KnownRun → List Run
  at such runs = oldest_first such (map without_files runs)

  taken : taken_runs c ≡ map view_of goes
  taken = ap (λ (runs : List RunView). take c.take runs) is.levels ∙ take-map view_of c.take known

  one-side : (below : Bool) (first : ℕ) → rows_where (is_side below first) (reverse (taken_runs c)) x.runs ≡ at (is_side below first) goes
  one-side below first =
      ap (λ (runs : List RunView). rows_where (is_side below first) (reverse runs) x.runs) taken
      ∙ ap (λ (rows : List Run). rows_where (is_side below first) (reverse (map view_of goes)) rows) is.read
      ∙ side-known (is_side below first) goes

  both : (such : ℕ → Bool) → at such known ≡ at such stays ++ at such goes
  both such = ap (at such) (sym (take-append-drop c.take known)) ∙ sides-joined such goes stays

  high : AllByRecursion (λ (run : KnownRun). 1 ≤ run.level) stays
  high =
      let seen : drop c.take c.levels ≡ map view_of stays = ap (λ (runs : List RunView). drop c.take runs) is.levels ∙ drop-map view_of c.take known in
      above-all c.out stays is.chosen.choice.positive
      (subst (AllByRecursion (λ (run : RunView). c.out < run.level)) seen is.chosen.choice.high)

  stays-above : at (λ level. nat_lt 0 level) stays ≡ from_oldest stays
  stays-above =
      sides-agree (λ level. nat_lt 0 level) (λ level. true) stays
      (all-then (λ (run : KnownRun). 1 ≤ run.level) (Agree (λ level. nat_lt 0 level) (λ level. true)) (λ run above. above-zero run.level above) stays high)
      ∙ all-levels stays

  none-zero : at (λ level. level == 0) stays ≡ []
  none-zero =
      sides-agree (λ level. level == 0) (λ level. false) stays
      (all-then (λ (run : KnownRun). 1 ≤ run.level) (Agree (λ level. level == 0) (λ level. false)) (λ run above. not-zero run.level above) stays high)
      ∙ no-levels stays

  stored : (such : ℕ → Bool) → AreStored (meaning_of s) (at such known)
  stored such = side-stored (meaning_of s) such known is.stored

  -- the log of such runs upon such others
  abbrev IsUponBy : List Run → List Run → List Change → Type 0
  IsUponBy older newer log = AreStored (meaning_of s) older → AreStored (meaning_of s) newer → IsGroupLog s (log_of s older newer) log

  upon : (older newer : List Run) (old new : ℕ → Bool) (log : List Change) → older ≡ at old known → newer ≡ at new known → IsUponBy older newer log
      → IsGroupLog s (log_of s (at old known) (at new known)) log
  upon older newer old new log olders newers tells =
      subst (λ (runs : List Run). IsUponBy (at old known) runs log) newers (subst (λ (runs : List Run). IsUponBy runs newer log) olders tells) (stored old) (stored new)

  -- with look-ups: those of level 0 all go, and those that stay lie under those that go
  zero-newer : rows_where (is_side true 1) (reverse (taken_runs c)) x.runs ≡ at (λ level. level == 0) known
  zero-newer =
      one-side true 1
      ∙ sides-agree (is_side true 1) (λ level. level == 0) goes (always (Agree (is_side true 1) (λ level. level == 0)) (λ run. is-zero run.level) goes)
      ∙ ap (λ (rows : List Run). rows ++ at (λ level. level == 0) goes) (sym none-zero)
      ∙ sym (both (λ level. level == 0))

  above-older : from_oldest stays ++ rows_where (is_side false 1) (reverse (taken_runs c)) x.runs ≡ at (λ level. nat_lt 0 level) known
  above-older =
      ap (λ (rows : List Run). from_oldest stays ++ rows) (one-side false 1
      ∙ sides-agree (is_side false 1) (λ level. nat_lt 0 level) goes (always (Agree (is_side false 1) (λ level. nat_lt 0 level)) (λ run. is-above run.level) goes))
      ∙ ap (λ (rows : List Run). rows ++ at (λ level. nat_lt 0 level) goes) (sym stays-above)
      ∙ sym (both (λ level. nat_lt 0 level))

  -- with full compactions, where all go
  all-go : c.whole ≡ true → goes ≡ known
  all-go whole =
      let many : c.take ≡ length known = is.chosen.whole.0 whole ∙ ap (λ (runs : List RunView). length runs) is.levels ∙ long known in
      ap (λ (n : ℕ). take n known) many ∙ whole-list known
    where
      long : (runs : List KnownRun) → length (map view_of runs) ≡ length runs
      long [] = refl
      long (run ∷ runs) = ap suc (long runs)

      whole-list : (runs : List KnownRun) → take (length runs) runs ≡ runs
      whole-list [] = refl
      whole-list (run ∷ runs) = ap (λ (rest : List KnownRun). run ∷ rest) (whole-list runs)

  below-newer : c.whole ≡ true → rows_where (is_side true (top_of s)) (reverse (taken_runs c)) x.runs ≡ at (λ level. nat_lt level (top_of s)) known
  below-newer whole = one-side true (top_of s) ∙ ap (at (λ level. nat_lt level (top_of s))) (all-go whole)

  top-older : c.whole ≡ true → rows_where (is_side false (top_of s)) (reverse (taken_runs c)) x.runs ≡ at (λ level. level == top_of s) known
  top-older whole =
      one-side false (top_of s)
      ∙ ap (at (is_side false (top_of s))) (all-go whole)
      ∙ sides-agree (is_side false (top_of s)) (λ level. level == top_of s) known
      (all-then (λ (run : KnownRun). run.level ≤ top_of s) (Agree (is_side false (top_of s)) (λ level. level == top_of s)) (λ run within. is-top (top_of s) run.level within) known
      is.within)

  told-by : (p : Producer) (whole : Bool) (log : List Change) → s.options.producer ≡ p → c.whole ≡ whole → TellsBy p whole s c x log
      → IsGroupLog s (log_by p s whole (map without_files known)) log
  told-by producers.None whole log by wholly tells = told-nothing s log tells
  told-by producers.Input whole log by wholly tells = told-nothing s log tells
  told-by producers.Lookup whole log by wholly tells =
      upon (from_oldest stays ++ older_rows s c x) (newer_rows s c x) (λ level. nat_lt 0 level) (λ level. level == 0) log
      (ap (λ (p : Producer). from_oldest stays ++ rows_where (is_side false (first_told p s)) (reverse (taken_runs c)) x.runs) by ∙ above-older)
      (ap (λ (p : Producer). rows_where (is_side true (first_told p s)) (reverse (taken_runs c)) x.runs) by ∙ zero-newer)
      (tells.1 (from_oldest stays) (is.kept by))
  told-by producers.FullCompaction false log by wholly tells = told-nothing s log tells
  told-by producers.FullCompaction true log by wholly tells =
      upon (older_rows s c x) (newer_rows s c x) (λ level. level == top_of s) (λ level. nat_lt level (top_of s)) log
      (ap (λ (p : Producer). rows_where (is_side false (first_told p s)) (reverse (taken_runs c)) x.runs) by ∙ top-older wholly)
      (ap (λ (p : Producer). rows_where (is_side true (first_told p s)) (reverse (taken_runs c)) x.runs) by ∙ below-newer wholly)
      tells

  pub is-told : (log : List Change) → IsToldOf s c x log → IsGroupLog s (compaction_log s c.whole known) log
  is-told log tells = told-by s.options.producer c.whole log refl refl tells

-- ---- refusals

abbrev pub OnlyMemory : Type 0
OnlyMemory = (m : Meaning) (s : TableSchema) (runs : List (List SeenFile)) (rows : List Run) (key : Values) (e : Refusal)
    → AreRunsWith s runs rows → IsOldValue m s key (all_files runs) (Err e) → e ≡ Memory

pub only-memory : OnlyMemory → (s : TableSchema) (c : ChosenGroup) (x : GroupRead) (e : Refusal) (known : List KnownRun) → IsKnownAs s c x known
    → RefusesTelling s c x e → e ≡ Memory
only-memory law s c x e known is refuses = by s.options.producer refl refuses
  where
    of-files : (older : List Run) → AreFilesWith s (looked_files s c x) older → (key : Values)
        → IsOldValue (meaning_of s) s key (looked_files s c x) (Err e) → e ≡ Memory
    of-files older (runs, rows, files, are, same) key old =
        law (meaning_of s) s runs rows key e are (subst (λ (seen : List SeenFile). IsOldValue (meaning_of s) s key seen (Err e)) files old)

    by : (p : Producer) → s.options.producer ≡ p → RefusesBy p s c x e → e ≡ Memory
    by producers.None is_by refuses = absurd refuses
    by producers.Input is_by refuses = absurd refuses
    by producers.FullCompaction is_by refuses = absurd refuses
    by producers.Lookup is_by (run, left, looked, next, later, gives, old) = of-files (from_oldest (drop c.take known)) (is.kept is_by) next.key old
