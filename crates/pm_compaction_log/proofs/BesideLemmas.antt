-- What is found of a key in older runs of which some are read beside the newer ones, and keys are looked up in the others.
use Rattle.std.proofs.Common.{◌≡◌, List, [], ◌∷◌, ◌++◌, Option, None, Some, map, sym, subst, append-nil}
use Rattle.std.specs.List.{AllByRecursion}
use Rattle.std.proofs.lemmas.Grind.{flat_map-append}
use Rattle.std.proofs.lemmas.List.Elements.{All-from_recursion, recursion_from_All}
use Rattle.pm_base.proofs.Laws.{AllByRecursion-parts}
use Rattle.pm_values.specs.Order.{Values}
use Rattle.pm_values.specs.declared.record.Stamped.{Stamped}
use Rattle.pm_schema.specs.declared.schema.TableSchema.{TableSchema}
use Rattle.pm_model_history.specs.Merge.{HistoryRow}
use Rattle.pm_engine.specs.Covers.{IsRising, Run, of_key, row_of, stored_rows}
use Rattle.pm_engine.specs.Meaning.{Meaning, SpeaksFor}
use Rattle.pm_engine.specs.OfSchema.{meaning_of}
use Rattle.pm_engine.specs.Stored.{as_row}
use Rattle.pm_engine.specs.declared.stored.Stored.{Stored}
use Rattle.pm_merge.specs.Merge.{AreStored, all_rows}
use Rattle.pm_merge.specs.Merging.{runs_in}
use Rattle.pm_merge.specs.Source.{Rest}
use Rattle.pm_lookup.specs.File.{SeenFile}
use Rattle.pm_compaction_log.specs.Log.{AreFilesWith, FindsBoth, HaveOldValues}
use Rattle.pm_compaction_log.specs.Older.{AreBelow, FindsOlder}
use Rattle.pm_compaction_log.specs.Told.{HasStored, IsOneOf}
use Rattle.pm_compaction_log.proofs.LookedLemmas.{AnswersStored, finds-looked}
use Rattle.pm_compaction_log.proofs.OlderLemmas.{AreBeside, beside-finds, finds-stored}
use Rattle.pm_compaction_log.proofs.SoFarLemmas.{FindsStored, HaveFound}

-- the stored row of a key by runs and by others upon them
one-stored : (m : Meaning) (key : Values) (older newer one : Option Stored) (before after : List HistoryRow) → HasStored m key older before → HasStored m key newer after
    → IsOneOf m older newer one → HasStored m key one (before ++ after)
one-stored m key older None one before after a b is =
    subst (λ (o : Option Stored). HasStored m key o (before ++ after)) (sym is)
    (subst (λ (rows : List HistoryRow). HasStored m key older (before ++ rows)) (sym b)
    (subst (λ (rows : List HistoryRow). HasStored m key older rows) (sym (append-nil before)) a))
one-stored m key None (Some w) one before after a b (now, same, is) =
    subst (λ (o : Option Stored). HasStored m key o (before ++ after)) (sym is)
    (subst (λ (rows : List HistoryRow). SpeaksFor m key (as_row now) (rows ++ after)) (sym a)
    (subst (λ (v : Stored). SpeaksFor m key (as_row v) after) (sym same) b))
one-stored m key (Some v) (Some w) one before after a b (now, upon, is) =
    subst (λ (o : Option Stored). HasStored m key o (before ++ after)) (sym is) (upon key before after a b)

-- of stored rows those of each part of the runs are
stored-parts : (m : Meaning) (xs ys : List Run) → AreStored m (xs ++ ys) → AreStored m xs × AreStored m ys
stored-parts m xs ys stored =
    let rising = AllByRecursion-parts IsRising xs ys (recursion_from_All IsRising (xs ++ ys) stored.rising) in
    let speak = parts (λ (x : Stamped). SpeaksFor m x.key (row_of x) (row_of x ∷ [])) stored.speak in
    let kinds = parts (λ (x : Stamped). x.kind ≡ m.kind (row_of x ∷ [])) stored.kinds in (
      record { rising = All-from_recursion IsRising xs rising.0; speak = speak.0; kinds = kinds.0 },
      record { rising = All-from_recursion IsRising ys rising.1; speak = speak.1; kinds = kinds.1 },
    )
  where
    parts : (P : Stamped → Type 0) → AllByRecursion P (all_rows (xs ++ ys)) → AllByRecursion P (all_rows xs) × AllByRecursion P (all_rows ys)
    parts P all = AllByRecursion-parts P (all_rows xs) (all_rows ys) (subst (AllByRecursion P) (flat_map-append (λ (run : Run). run) xs ys) all)

-- what was found of a key, with what was left then of the runs beside
abbrev pub FoundBoth : Meaning → TableSchema → List SeenFile → List Rest → Values → Option Stored → Type 0
FoundBoth m s files beside key old = (left : List Rest) × FindsBoth m s files key beside old left

-- it is the stored row of all the older runs
pub finds-both : AnswersStored → (m : Meaning) (s : TableSchema) (files : List SeenFile) (older : List Run) (beside : List Rest) → m ≡ meaning_of s → AreFilesWith s files older
    → AreStored (meaning_of s) (older ++ runs_in beside) → FindsStored s (FoundBoth m s files beside) (older ++ runs_in beside)
finds-both law m s files older beside same are all_stored key old (left, (far, near, looked, found, one)) =
    let n : Meaning = meaning_of s in
    let (stored, near_stored) = stored-parts n older (runs_in beside) all_stored in
    let far_is : HasStored n key far (stored_rows key older) = finds-looked law m s files older same are stored key far looked in
    let own : FindsOlder n key beside near left = subst (λ (n : Meaning). FindsOlder n key beside near left) same found in
    let near_is : HasStored n key near (stored_rows key (runs_in beside)) = finds-stored n key beside near left near_stored own in
    subst (HasStored n key old) (sym (flat_map-append (λ (run : Run). map row_of (of_key key run)) older (runs_in beside)))
    (one-stored n key far near old (stored_rows key older) (stored_rows key (runs_in beside)) far_is near_is
    (subst (λ (n : Meaning). IsOneOf n far near old) same one))

-- so is what is found in what is left of the ones beside, of a key above the newer rows that were given
pub both-later : (m : Meaning) (s : TableSchema) (files : List SeenFile) (beside : List Rest) (key : Values) (run : Run) (rests : List Rest) (old : Option Stored) (left : List Rest)
    → AreBeside m beside run rests → AreBelow key run → FindsBoth m s files key rests old left → FoundBoth m s files beside key old
both-later m s files beside key run rests old left are below (far, near, looked, found, one) =
    (left, (far, near, looked, beside-finds m beside key run rests near left are below found, one))

-- of each key the old value was found
pub found-looked : (m : Meaning) (s : TableSchema) (files : List SeenFile) (beside : List Rest) (run : Run) → HaveFound (FoundBoth m s files beside) run → HaveOldValues m s files run
found-looked m s files beside [] found = tt
found-looked m s files beside (x ∷ run) ((old, (left, (far, near, looked, near_found, one))), found) = ((far, looked), found-looked m s files beside run found)
