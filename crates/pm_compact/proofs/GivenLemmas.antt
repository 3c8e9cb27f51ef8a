-- Files of a run that are given one after another.
use Rattle.std.proofs.Common.{◌≡◌, ◌⊎◌, inl, inr, ℕ, ◌+◌, ◌≤◌, Bool, true, false, List, [], ◌∷◌, ◌++◌, Option, None, Some, length, take, drop, not, option_to_list, refl, sym, ap, subst, ◌∙◌, append_assoc, append-nil, arith}
use Rattle.std.specs.List.{AllByRecursion}
use Rattle.std.proofs.lemmas.List.{drop-append-le, drop_all, length-append, length-take, take-append-le, take_all}
use Rattle.pm_base.proofs.Laws.{AllByRecursion-push}
use Rattle.pm_schema.specs.declared.schema.TableSchema.{TableSchema}
use Rattle.pm_values.specs.Names.{Naming, counted, name_of}
use Rattle.pm_values.specs.declared.record.Stamped.{Stamped}
use Rattle.pm_engine.specs.Covers.{IsRising, Run, row_of}
use Rattle.pm_engine.specs.Meaning.{Meaning}
use Rattle.pm_merge.specs.Merge.{IsMerge, without_droppable}
use Rattle.pm_merge.specs.Merging.{GivesAll, GivesLeast, HasLeft, HaveNoRow, first_refusal, runs_in}
use Rattle.pm_merge.specs.Source.{Rest}
use Rattle.pm_run.specs.Writing.{AreFilesOf, IsFileWith, data_prefix, suffix}
use Rattle.pm_run.specs.declared.run.RunFile.{RunFile}
use Rattle.pm_run_writer.specs.Written.{HasEnded, HasFinished, HasInHand}
use Rattle.pm_compact.specs.Rewriting.{AreAsked, AreWrittenFor, Asked, GivesFile, HasGiven, IsFull, row_at}
use Rattle.pm_compact.specs.Rewritten.{kept_rows, most_in_file}
use Rattle.pm_compact.specs.declared.rewriting.Rewriting.{Rewriting}
use Rattle.pm_compact.proofs.OwnRowsLemmas.{ReadsFiles, read_whole}
use Rattle.pm_compact.proofs.ReadLemmas.{OwnKinds, StoredAgain}
use Rattle.pm_compact.proofs.RewriteLemmas.{kept_push, kept_readable, kept_rises}

-- ---- files of rows

-- the names after so many
abbrev pub past : ℕ → Naming → Naming
past many names = record names { count = names.count + many }

-- full files of rows, and the files of the rows after these
files_more : (s : TableSchema) (most level : ℕ) (names : Naming) (rows more : List Stamped) (files others : List RunFile) → AreFilesOf s most level names rows files
    → AllByRecursion (λ (f : RunFile). f.meta.rows ≡ most) files → AreFilesOf s most level (past (length files) names) more others → AreFilesOf s most level names (rows ++ more) (files ++ others)
files_more s most level names rows more [] others are full then =
    subst (λ (xs : List Stamped). AreFilesOf s most level names (xs ++ more) others) (sym are)
    (subst (λ (n : ℕ). AreFilesOf s most level (record names { count = n }) more others) (omega arith) then)
files_more s most level names rows more (f ∷ files) others are full then =
    let many : length (take most rows) ≡ most = sym are.1.meta.count ∙ full.0 in
    let within : most ≤ length rows = let least = length-take most rows in omega arith in
    let some : 1 ≤ length (rows ++ more) = let both = length-append rows more in let has = are.0 in omega arith in
    let next : AreFilesOf s most level (past (length files) (counted names)) more others =
    subst (λ (n : ℕ). AreFilesOf s most level (record names { count = n }) more others) (omega arith) then in (
      some,
      subst (λ (xs : List Stamped). IsFileWith s level names.session (name_of data_prefix suffix names) xs f) (sym (take-append-le most rows more within)) are.1,
      subst (λ (xs : List Stamped). AreFilesOf s most level (counted names) xs (files ++ others)) (sym (drop-append-le most rows more within))
          (files_more s most level (counted names) (drop most rows) more files others are.2 full.1 next),
    )

-- one file more, after full ones
file_more : (s : TableSchema) (most level : ℕ) (names now : Naming) (rows more : List Stamped) (files : List RunFile) (f : RunFile) → AreFilesOf s most level names rows files
    → AllByRecursion (λ (f : RunFile). f.meta.rows ≡ most) files → now ≡ past (length files) names → 1 ≤ length more → length more ≤ most
    → IsFileWith s level now.session (name_of data_prefix suffix now) more f → AreFilesOf s most level names (rows ++ more) (files ++ f ∷ [])
file_more s most level names now rows more files f are full named some within is =
    files_more s most level names rows more files (f ∷ []) are full
    (subst (λ (n : Naming). AreFilesOf s most level n more (f ∷ [])) named
    (some, subst (λ (xs : List Stamped). IsFileWith s level now.session (name_of data_prefix suffix now) xs f) (sym (take_all most more within)) is, drop_all most more within))

-- of a row at most one is kept
pub kept_most : (m : Meaning) (drop : Bool) (x : Stamped) → length (kept_rows m drop (x ∷ [])) ≤ 1
kept_most m true x =
    elim (not (m.drops (row_of x))) as (λ b. not (m.drops (row_of x)) ≡ b → length (kept_rows m true (x ∷ [])) ≤ 1) [
      | true ↦ λ e. rw e (omega arith)
      | false ↦ λ e. rw e (omega arith)
    ] refl
kept_most m false x = omega arith

-- ---- what the crates below prove

-- without the droppable rows a run rises still
abbrev pub KeptRises : Type 0
KeptRises = (m : Meaning) (run : Run) → IsRising run → IsRising (without_droppable m run)

-- ---- what was given

module _ {S : Type 0} (m : Meaning) (rest : S → Rest) (fits : S → TableSchema → Type 0) (asked : Asked) (given : List RunFile) (rows : List Stamped) (now : Naming) (before : Rewriting S)
    (h : HasGiven m rest fits asked given rows now before) where
  abbrev pub IsLeftAfter : Stamped → List Rest → Rewriting S → Type 0
  IsLeftAfter x later after =
      GivesLeast m h.left x later × HasLeft m row_at rest after.merging later × (after.drop ≡ before.drop) × AreWrittenFor fits asked.schema after.merging

  -- the rows in hand and what is kept of one more
  abbrev pub more_rows : Stamped → List Stamped
  more_rows x = rows ++ kept_rows m asked.drop (x ∷ [])

  module _ (more : (s : Stamped) (later : List Rest) → GivesLeast m h.left s later → GivesAll m asked.rests (h.run ++ s ∷ []) later)
      (some : (s : Stamped) (later : List Rest) → GivesLeast m h.left s later → HaveNoRow h.left → ⊥) (x : Stamped) (later : List Rest) (after : Rewriting S) (is : IsLeftAfter x later after) where
    -- all files so far are full
    all_full : AllByRecursion IsFull given
    all_full = by_cases h.full
      where
        by_cases : AllByRecursion IsFull given ⊎ ((rows ≡ []) × HaveNoRow h.left × (first_refusal h.left ≡ None)) → AllByRecursion IsFull given
        by_cases (inl full) = full
        by_cases (inr over) = absurd (some x later is.0 over.1)

    kept_more : kept_rows m asked.drop (h.run ++ x ∷ []) ≡ h.filed ++ more_rows x
    kept_more =
        kept_push m asked.drop h.run x ∙ ap (λ (xs : List Stamped). xs ++ kept_rows m asked.drop (x ∷ [])) h.same ∙ append_assoc h.filed rows (kept_rows m asked.drop (x ∷ []))

    -- a row more is in hand
    pub given_row : HasInHand asked.schema most_in_file asked.level now.session (more_rows x) after.writer → HasGiven m rest fits asked given (more_rows x) now after
    given_row hand = record {
      rising = h.rising;
      run = h.run ++ x ∷ [];
      left = later;
      gave = more x later is.0;
      has = is.1;
      filed = h.filed;
      same = kept_more;
      files = h.files;
      full = inl all_full;
      named = h.named;
      hand = hand;
      drops = is.2 ∙ h.drops;
      written = is.3;
    }

    -- with a row more a file is full
    pub given_full : (f : RunFile) → length (more_rows x) ≡ most_in_file → HasEnded asked.schema most_in_file asked.level now (more_rows x) f after.writer
        → HasGiven m rest fits asked (given ++ f ∷ []) [] (counted now) after
    given_full f many ended = record {
      rising = h.rising;
      run = h.run ++ x ∷ [];
      left = later;
      gave = more x later is.0;
      has = is.1;
      filed = h.filed ++ more_rows x;
      same = kept_more ∙ sym (append-nil (h.filed ++ more_rows x));
      files = file_more asked.schema most_in_file asked.level asked.names now h.filed (more_rows x) given f h.files all_full h.named (omega arith) (omega arith) ended.file;
      full = inl (AllByRecursion-push IsFull given f all_full (ended.file.meta.count ∙ many));
      named = ap counted h.named ∙ ap (λ (n : ℕ). record asked.names { count = n }) (let longer = length-append given (f ∷ []) in omega arith);
      hand = ended.none;
      drops = is.2 ∙ h.drops;
      written = is.3;
    }

  -- the last rows are given, where nothing is left
  pub given_last : (left : List Rest) (after : Rewriting S) → left ≡ h.left → HaveNoRow left → first_refusal left ≡ None → HasLeft m row_at rest after.merging left → after.drop ≡ before.drop → AreWrittenFor fits asked.schema after.merging → (f : RunFile)
      → 1 ≤ length rows → HasEnded asked.schema most_in_file asked.level now rows f after.writer → HasGiven m rest fits asked (given ++ f ∷ []) [] (counted now) after
  given_last left after same none well has drops written f some ended = record {
    rising = h.rising;
    run = h.run;
    left = left;
    gave = subst (GivesAll m asked.rests h.run) (sym same) h.gave;
    has = has;
    filed = h.filed ++ rows;
    same = h.same ∙ sym (append-nil (h.filed ++ rows));
    files = file_more asked.schema most_in_file asked.level asked.names now h.filed rows given f h.files (all_full h.full) h.named some h.hand.within ended.file;
    full = inr (refl, none, well);
    named = ap counted h.named ∙ ap (λ (n : ℕ). record asked.names { count = n }) (let longer = length-append given (f ∷ []) in omega arith);
    hand = ended.none;
    drops = drops ∙ h.drops;
    written = written;
  }
    where
      all_full : AllByRecursion IsFull given ⊎ ((rows ≡ []) × HaveNoRow h.left × (first_refusal h.left ≡ None)) → AllByRecursion IsFull given
      all_full (inl full) = full
      all_full (inr over) = absurd (omega (arith, ap length over.0))

  -- no row is in hand, and nothing is left
  pub given_none : (left : List Rest) (after : Rewriting S) → left ≡ h.left → HaveNoRow left → first_refusal left ≡ None → HasLeft m row_at rest after.merging left → after.drop ≡ before.drop
      → AreWrittenFor fits asked.schema after.merging → rows ≡ [] → HasInHand asked.schema most_in_file asked.level now.session [] after.writer → HasGiven m rest fits asked given [] now after
  given_none left after same none well has drops written empty hand = record {
    rising = h.rising;
    run = h.run;
    left = left;
    gave = subst (GivesAll m asked.rests h.run) (sym same) h.gave;
    has = has;
    filed = h.filed;
    same = subst (λ (xs : List Stamped). kept_rows m asked.drop h.run ≡ h.filed ++ xs) empty h.same;
    files = h.files;
    full = inr (refl, none, well);
    named = h.named;
    hand = hand;
    drops = drops ∙ h.drops;
    written = written;
  }

  -- nothing is left, and no row in hand: the files are those that were asked for
  pub given_all : ReadsFiles → OwnKinds → StoredAgain → KeptRises → (HaveNoRow h.left → IsMerge m (runs_in asked.rests) h.run) → HaveNoRow h.left → first_refusal h.left ≡ None → rows ≡ []
      → AreAsked m asked given
  given_all reads own again rises merges none well empty =
      let merge = merges none in
      let same : kept_rows m asked.drop h.run ≡ h.filed = h.same ∙ ap (λ (xs : List Stamped). h.filed ++ xs) empty ∙ append-nil h.filed in
      let files : AreFilesOf asked.schema most_in_file asked.level asked.names (kept_rows m asked.drop h.run) given =
      subst (λ (xs : List Stamped). AreFilesOf asked.schema most_in_file asked.level asked.names xs given) (sym same) h.files in
      record {
        run = kept_rows m asked.drop h.run;
        is = (h.run, merge, refl);
        files = files;
        again = λ table stored numbered.
            read_whole reads asked.schema asked.level asked.names (kept_rows m asked.drop h.run) given h.hand.names files
            (kept_readable own again asked.schema m asked.drop (runs_in asked.rests) h.run merge table stored numbered) (kept_rises rises m asked.drop h.run merge.rising);
        ends = (h.run, h.left, h.gave, none, well);
      }

  -- what the end makes of it: the last file, or none
  pub given_end : ReadsFiles → OwnKinds → StoredAgain → KeptRises → (HaveNoRow h.left → IsMerge m (runs_in asked.rests) h.run) → (left : List Rest) → HaveNoRow h.left × (first_refusal h.left ≡ None) × (left ≡ h.left)
      → (after : Rewriting S) → HasLeft m row_at rest after.merging left → after.drop ≡ before.drop → AreWrittenFor fits asked.schema after.merging → (file : Option RunFile) (next : Naming)
      → next ≡ past (length (option_to_list file)) now → HasFinished asked.schema most_in_file asked.level now rows file after.writer → GivesFile m rest fits asked given file next after
  given_end reads own again rises merges left over after has drops written None next named finished =
      let same = over.2 in (
        given_all reads own again rises merges over.0 over.1 finished.0,
        subst (λ (n : Naming). HasGiven m rest fits asked given [] n after) (ap (λ (n : ℕ). record now { count = n }) (omega arith) ∙ sym named)
            (given_none h.left after refl over.0 over.1 (subst (HasLeft m row_at rest after.merging) same has) drops written finished.0 finished.1),
      )
  given_end reads own again rises merges left over after has drops written (Some f) next named finished =
      let same = over.2 in
      subst (λ (n : Naming). HasGiven m rest fits asked (given ++ f ∷ []) [] n after) (sym named)
      (given_last h.left after refl over.0 over.1 (subst (HasLeft m row_at rest after.merging) same has) drops written f finished.0 finished.1)

-- the next name, by its count
pub past_is : (old new : Naming) (many : ℕ) → new ≡ record old { count = new.count } → new.count ≡ old.count + many → new ≡ past many old
past_is old new many named counted = named ∙ ap (λ (n : ℕ). record old { count = n }) counted

-- a row from the sources is in hand, or is left out
pub fewer_in : (m : Meaning) (drop : Bool) (rows : List Stamped) (x : Stamped) (most old new : ℕ) → length rows + old ≤ most → 1 + new ≤ old → length (rows ++ kept_rows m drop (x ∷ [])) + new ≤ most
fewer_in m drop rows x most old new less one =
    let both = length-append rows (kept_rows m drop (x ∷ [])) in
    let kept = kept_most m drop x in
    omega arith

-- a file at the end has a row that was in hand
pub finished_some : {S : Type 0} (asked : Asked) (now : Naming) (rows : List Stamped) (file : Option RunFile) (after : Rewriting S)
    → HasFinished asked.schema most_in_file asked.level now rows file after.writer → length (option_to_list file) ≤ length rows
finished_some asked now rows None after finished = omega arith
finished_some asked now rows (Some f) after finished = finished.0
