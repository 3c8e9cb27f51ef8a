-- Runs that were read as sources of a merge, and what the logs that are made of them tell.
use Rattle.std.proofs.Common.{◌≡◌, ◌≢◌, ℕ, All, Bool, true, false, List, [], ◌∷◌, ◌++◌, map, reverse, Result, Ok, Err, IfOk, IfErr, refl, sym, ap, subst, ◌∙◌}
use Rattle.pm_values.specs.declared.record.Change.{Change}
use Rattle.pm_values.specs.declared.refusal.Refusal.{Refusal}
use Rattle.pm_values.specs.declared.refusal.Refusal.TheVariants.{Memory}
use Rattle.pm_options.specs.declared.kinds.Producer.{Producer}
use Rattle.pm_options.specs.declared.kinds.Producer.TheVariants as producers
use Rattle.pm_schema.specs.declared.schema.TableSchema.{TableSchema}
use Rattle.pm_engine.specs.Covers.{IsRising, Run}
use Rattle.pm_engine.specs.Meaning.{Meaning}
use Rattle.pm_engine.specs.OfSchema.{meaning_of}
use Rattle.pm_merge.specs.Merging.{HaveNoRefusal, rests_of, runs_in}
use Rattle.pm_merge.specs.Source.{Rest}
use Rattle.pm_levels.specs.Runs.{RunView}
use Rattle.pm_runs.specs.Stand.{top_of}
use Rattle.pm_lookup.specs.File.{SeenFile}
use Rattle.pm_scan_rows.specs.Group.{GroupRead}
use Rattle.pm_scan_rows.specs.Stored.{rest_of, run_left}
use Rattle.pm_scan_rows.specs.declared.rows.StoredRows.{StoredRows}
use Rattle.pm_choice.specs.Choice.{taken_runs}
use Rattle.pm_choice.specs.declared.choice.ChosenGroup.{ChosenGroup}
use Rattle.pm_compaction_log.specs.Log.{AreFilesWith, IsLogUpon, LooksForAll, RefusesLooking}
use Rattle.pm_group_log.specs.Told.{first_told, is_side, looked_files, newer_rows, older_rows, rows_where, IsToldOf, RefusesBy, RefusesTelling, TellsBy}
use Rattle.pm_group_log.proofs.SidesLemmas.{side-rises}

-- ---- sources

pub rests : (sources : List StoredRows) (rows : List Run) → map run_left sources ≡ rows → map rest_of sources ≡ rests_of rows
rests sources rows are = joined sources ∙ ap rests_of are
  where
    joined : (xs : List StoredRows) → map rest_of xs ≡ rests_of (map run_left xs)
    joined [] = refl
    joined (x ∷ xs) = ap (λ (rests : List Rest). rest_of x ∷ rests) (joined xs)

pub runs-again : (rows : List Run) → runs_in (rests_of rows) ≡ rows
runs-again [] = refl
runs-again (own ∷ rows) = ap (λ (rest : List Run). own ∷ rest) (runs-again rows)

-- they rise where the runs do of which they are
pub rise : (such : ℕ → Bool) (known : List RunView) (read : List Run) (sources : List StoredRows) → map run_left sources ≡ rows_where such known read → All IsRising read
    → All IsRising (runs_in (map rest_of sources))
rise such known read sources are rising =
    subst (All IsRising) (sym (ap runs_in (rests sources (rows_where such known read) are) ∙ runs-again (rows_where such known read))) (side-rises such known read rising)

-- and none of them has a refusal
pub judged : (sources : List StoredRows) → HaveNoRefusal (map rest_of sources)
judged [] = tt
judged (x ∷ sources) = (refl, judged sources)

-- ---- what is told

module _ (s : TableSchema) (c : ChosenGroup) (x : GroupRead) where
  abbrev side : Bool → ℕ → List Run
  side below first = rows_where (is_side below first) (reverse (taken_runs c)) x.runs

  -- of a producer that is known, where all runs go or not
  pub told-by : (p : Producer) (whole : Bool) (log : List Change) → s.options.producer ≡ p → c.whole ≡ whole → TellsBy p whole s c x log → IsToldOf s c x log
  told-by p whole log by wholly tells =
      subst (λ (q : Producer). TellsBy q c.whole s c x log) (sym by) (subst (λ (b : Bool). TellsBy p b s c x log) (sym wholly) tells)

  pub looked-told : (m : Meaning) (files : List SeenFile) (newer older : List Rest) (r : Result (List Change) Refusal) → s.options.producer ≡ producers.Lookup
      → m ≡ meaning_of s → files ≡ looked_files s c x → newer ≡ rests_of (side true 1) → older ≡ rests_of (side false 1)
      → IfOk r (λ log. m ≡ meaning_of s → (old : List Run) → AreFilesWith s files old → IsLogUpon s (old ++ runs_in older) (runs_in newer) log)
      → IfOk r (λ log. LooksForAll m s files newer) → IfOk r (IsToldOf s c x)
  looked-told m files newer older (Err e) by meant are news olds tells looks = tt
  looked-told m files newer older (Ok log) by meant are news olds tells looks =
      let newer_is : newer_rows s c x ≡ side true 1 = ap (λ (p : Producer). side true (first_told p s)) by in
      let older_is : older_rows s c x ≡ side false 1 = ap (λ (p : Producer). side false (first_told p s)) by in
      let looked : LooksForAll (meaning_of s) s (looked_files s c x) newer =
      subst (λ (fs : List SeenFile). LooksForAll (meaning_of s) s fs newer) are (subst (λ (n : Meaning). LooksForAll n s files newer) meant looks) in
      let upon : (old : List Run) → AreFilesWith s (looked_files s c x) old → IsLogUpon s (old ++ older_rows s c x) (newer_rows s c x) log =
      λ old have.
      subst (λ (rows : List Run). IsLogUpon s (old ++ rows) (newer_rows s c x) log) (ap runs_in olds ∙ runs-again (side false 1) ∙ sym older_is)
      (subst (λ (rows : List Run). IsLogUpon s (old ++ runs_in older) rows log) (ap runs_in news ∙ runs-again (side true 1) ∙ sym newer_is)
      (tells meant old (subst (λ (fs : List SeenFile). AreFilesWith s fs old) (sym are) have))) in
      subst (λ (q : Producer). TellsBy q c.whole s c x log) (sym by)
      (subst (λ (rests : List Rest). LooksForAll (meaning_of s) s (looked_files s c x) rests) (news ∙ ap rests_of (sym newer_is)) looked, upon)

  pub looked-refused : (m : Meaning) (files : List SeenFile) (newer : List Rest) (r : Result (List Change) Refusal) → s.options.producer ≡ producers.Lookup
      → m ≡ meaning_of s → files ≡ looked_files s c x → newer ≡ rests_of (side true 1)
      → IfErr r (λ e. e ≢ Memory → RefusesLooking m s files newer e) → IfErr r (λ e. e ≢ Memory → RefusesTelling s c x e)
  looked-refused m files newer (Ok log) by meant are news refuses = tt
  looked-refused m files newer (Err e) by meant are news refuses = λ other.
      let newer_is : newer_rows s c x ≡ side true 1 = ap (λ (p : Producer). side true (first_told p s)) by in
      let found : RefusesLooking (meaning_of s) s (looked_files s c x) newer e =
      subst (λ (fs : List SeenFile). RefusesLooking (meaning_of s) s fs newer e) are (subst (λ (n : Meaning). RefusesLooking n s files newer e) meant (refuses other)) in
      subst (λ (q : Producer). RefusesBy q s c x e) (sym by)
      (subst (λ (rests : List Rest). RefusesLooking (meaning_of s) s (looked_files s c x) rests e) (news ∙ ap rests_of (sym newer_is)) found)

  pub whole-told : (m : Meaning) (top : ℕ) (newer older : List Rest) (log : List Change) → s.options.producer ≡ producers.FullCompaction → c.whole ≡ true
      → m ≡ meaning_of s → top ≡ top_of s → newer ≡ rests_of (side true top) → older ≡ rests_of (side false top)
      → (m ≡ meaning_of s → IsLogUpon s (runs_in older) (runs_in newer) log) → IsToldOf s c x log
  whole-told m top newer older log by wholly meant at_top news olds tells =
      let newer_is : side true top ≡ newer_rows s c x = ap (side true) at_top ∙ sym (ap (λ (p : Producer). side true (first_told p s)) by) in
      let older_is : side false top ≡ older_rows s c x = ap (side false) at_top ∙ sym (ap (λ (p : Producer). side false (first_told p s)) by) in
      told-by producers.FullCompaction true log by wholly
      (subst (λ (rows : List Run). IsLogUpon s rows (newer_rows s c x) log) (ap runs_in olds ∙ runs-again (side false top) ∙ older_is)
      (subst (λ (rows : List Run). IsLogUpon s (runs_in older) rows log) (ap runs_in news ∙ runs-again (side true top) ∙ newer_is) (tells meant)))
