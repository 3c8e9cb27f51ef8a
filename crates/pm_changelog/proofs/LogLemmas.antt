-- The log of a group: how it is made, kept and written.
use Rattle.std.proofs.Common.{◌≡◌, ℕ, ◌≤◌, List, [], ◌∷◌, length, map, true, Option, Some, None, IsTrue, refl, sym, ap, subst, ◌∙◌, arith}
use Rattle.std.specs.List.{AllByRecursion}
use Rattle.std.specs.List.Sorted.{IsPermutation, IsStableByKey}
use Rattle.std.proofs.lemmas.List.Elements.{All-from_recursion, recursion_from_All}
use Rattle.std.proofs.lemmas.List.Sorted.{All-permutation}
use Rattle.pm_values.specs.Names.{Naming, name_of}
use Rattle.pm_values.specs.Order.{Values, key_cmp}
use Rattle.pm_values.specs.declared.record.Change.{Change}
use Rattle.pm_values.specs.declared.record.Stamped.{Stamped}
use Rattle.pm_schema.specs.declared.schema.TableSchema.{TableSchema}
use Rattle.pm_model_history.specs.Merge.{HistoryRow, rows_of}
use Rattle.pm_model_history.specs.Merged.{primary_of}
use Rattle.pm_model_following.specs.Following.{by_key}
use Rattle.pm_engine.specs.Covers.{row_of}
use Rattle.pm_run.specs.Order.{are_in_order}
use Rattle.pm_run.specs.Rows.{HasRows}
use Rattle.pm_run.specs.Writing.{HasOwnKey, IsFileWith, changes_prefix, suffix}
use Rattle.pm_run.specs.declared.run.RunFile.{RunFile}
use Rattle.pm_run_writer.specs.Written.{HasFinishedChanges, HasNames}
use Rattle.pm_model_changelog.specs.Log.{AreByKey}
use Rattle.pm_changelog.specs.GroupLog.{IsGroupLog, without_numbers, stamped_from}
use Rattle.pm_changelog.specs.Written.{HoldsLog, IsFileOfLog, IsWrittenLog}
use Rattle.pm_changelog.proofs.NumberLemmas.{counts-stamped, order-stamped, own-stamped, rows-stamped}
use Rattle.pm_changelog.proofs.OrderLemmas.{AreOwn, AreSorted, rise-sorted, same-sorted}

-- ---- the rows that were taken

-- rows by rising key that have of each key the same rows are these by key
abbrev pub OnlyByKey : Type 0
OnlyByKey = (s : TableSchema) (rows given : List HistoryRow) → AreByKey s rows
    → ((key : Values) → rows_of (primary_of s) key rows ≡ rows_of (primary_of s) key given) → rows ≡ by_key s given

own-keys : (s : TableSchema) (rows : List Stamped) → AllByRecursion (HasOwnKey s) rows → AreOwn s rows
own-keys s [] own = tt
own-keys s (x ∷ rows) own = (own.0.own, own-keys s rows own.1)

pub log-made : (rows copies sorted : List Stamped) → copies ≡ rows → AreSorted sorted → OnlyByKey → IsStableByKey (λ (x : Stamped). x.key) key_cmp copies sorted → IsPermutation copies sorted
    → (s : TableSchema) → AllByRecursion (HasOwnKey s) rows → IsGroupLog s (by_key s (map row_of rows)) (without_numbers sorted)
log-made rows copies sorted copied rises only stable same s own =
    let own_copies : AllByRecursion (HasOwnKey s) copies = subst (AllByRecursion (HasOwnKey s)) (sym copied) own in
    let own_sorted : AllByRecursion (HasOwnKey s) sorted =
    recursion_from_All (HasOwnKey s) sorted (All-permutation (HasOwnKey s) copies sorted same (All-from_recursion (HasOwnKey s) copies own_copies)) in
    record {
      told = rows-stamped 0 sorted
          ∙ only s (map row_of sorted) (map row_of copies) (rise-sorted s sorted rises (own-keys s sorted own_sorted))
          (λ key. same-sorted s copies sorted key stable (own-keys s copies own_copies) (own-keys s sorted own_sorted))
          ∙ ap (λ (rs : List Stamped). by_key s (map row_of rs)) copied;
      own = own-stamped s 0 sorted own_sorted;
    }

-- ---- the file

-- `changes_law`
abbrev pub ReadsChanges : Type 0
ReadsChanges = (s : TableSchema) (level : ℕ) (marker name : List ℕ) (rows : List Stamped) (f : RunFile) → HasNames s → 1 ≤ length rows → IsFileWith s level marker name rows f
    → AllByRecursion (HasOwnKey s) rows → IsTrue (are_in_order true None rows) → HasRows s true f.bytes rows

-- what was written of all rows, each with the number of its index
pub written-log : ReadsChanges → (s : TableSchema) (names : Naming) (rows : List Stamped) (file : Option RunFile) → HasNames s → are_in_order true None rows ≡ true
    → HasFinishedChanges s 0 names (stamped_from 0 (without_numbers rows)) file → IsWrittenLog s names (without_numbers rows) file
written-log law s names [] None differ order finished = refl
written-log law s names [] (Some f) differ order finished = let some = finished.0 in absurd (omega arith)
written-log law s names (x ∷ rows) None differ order finished = cc
written-log law s names (x ∷ rows) (Some f) differ order finished = record {
  made = finished.1;
  again = λ own. law s 0 names.session (name_of changes_prefix suffix names) (stamped_from 0 (without_numbers (x ∷ rows))) f differ finished.0 finished.1 own
      (order-stamped true None 0 (x ∷ rows) ∙ order);
}

-- ---- what a log tells

pub none-told : (log : List Change) → map row_of (stamped_from 0 log) ≡ [] → log ≡ []
none-told [] none = refl
none-told (c ∷ log) none = cc

pub holds-log : (s : TableSchema) (rows : List HistoryRow) (log : List Change) (names : Naming) (f : RunFile) → IsGroupLog s rows log → IsFileOfLog s names log f → HoldsLog s rows f
holds-log s rows log names f is file =
    let meta = file.made.meta in
    record {
      stored = stamped_from 0 log;
      same = is.told;
      numbers = counts-stamped 0 log;
      read = file.again is.own;
      tells = record {
        named = refl;
        size = meta.size;
        count = meta.count;
        least = meta.least;
        greatest = meta.greatest;
        lowest = meta.lowest;
        highest = meta.highest;
        schema = meta.schema;
        levelled = meta.levelled;
        unknown = meta.unknown;
      };
    }
