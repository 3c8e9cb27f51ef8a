-- The logs of the groups of a batch, and their files.
use Rattle.std.proofs.Common.{◌≡◌, ◌≢◌, ℕ, ◌+◌, ◌<◌, ◌≤◌, List, [], ◌∷◌, ◌++◌, drop, get_or, length, map, Bool, cond, Some, None, refl, sym, ap, subst, ◌∙◌, append_assoc, append-nil, arith}
use Rattle.std.specs.BTreeMap.{BTreeMap}
use Rattle.std.specs.List.{AllByRecursion, AllZip}
use Rattle.std.proofs.lemmas.List.{at_drop_more, drop_all}
use Rattle.pm_values.specs.Names.{Naming, counted}
use Rattle.pm_values.specs.Order.{Values}
use Rattle.pm_values.specs.declared.group.Group.{Group}
use Rattle.pm_values.specs.declared.record.Change.{Change}
use Rattle.pm_options.specs.declared.kinds.Producer.{Producer}
use Rattle.pm_options.specs.declared.kinds.Producer.TheVariants as producers
use Rattle.pm_schema.specs.declared.schema.TableSchema.{TableSchema}
use Rattle.pm_model_history.specs.Merge.{HistoryRow, key_of, rows_of}
use Rattle.pm_model_history.specs.Merged.{primary_of}
use Rattle.pm_model_following.specs.Following.{by_key}
use Rattle.pm_model_following.specs.Groups.{rows_in}
use Rattle.pm_engine.specs.Covers.{row_of}
use Rattle.pm_engine.proofs.Rising.{ties_itself}
use Rattle.pm_run.specs.declared.run.RunFile.{RunFile}
use Rattle.pm_changelog.specs.GroupLog.{IsGroupLog, stamped_from}
use Rattle.pm_changelog.specs.Written.{HoldsLog, IsFileOfLog, IsWrittenLog}
use Rattle.pm_write.specs.Batch.{GroupRows, Groups, IsBatchOf, KeepsLog, group_log, held_of, logs_in, with_log}
use Rattle.pm_write.specs.Files.{AreFilesOfLogs, AreLogsWritten, AreNewFiles, IsLogWritten, IsNewChanges, after_names}
use Rattle.pm_write.specs.Held.{all_groups}
use Rattle.pm_write.specs.declared.files.NewFile.{NewFile}
use Rattle.pm_write.specs.declared.held.HeldRows.{HeldRows}
use Rattle.pm_write.proofs.LawLemmas.{all_held, held_rows, some_group}

-- a log that tells something stands before the others, another one doesn't
log-some : (g : Group) (log : List Change) (logs : List (Group × List Change)) → log ≢ [] → with_log g log logs ≡ (g, log) ∷ logs
log-some g [] logs some = absurd (some refl)
log-some g (c ∷ log) logs some = refl

-- ---- the changelog files of groups

-- what was written of a log that tells something is its file
pub file-of-log : (s : TableSchema) (names : Naming) (log : List Change) (f : RunFile) → IsWrittenLog s names log (Some f) → IsFileOfLog s names log f
file-of-log s names [] f is = let no : Some f ≡ None = is in cc
file-of-log s names (c ∷ log) f is = is

-- the logs of the groups that are left, where the next one's tells something
left-some : (groups : List HeldRows) (i : ℕ) (d : HeldRows) → i < length groups → (get_or groups i d).log ≢ []
    → logs_in (all_groups (drop i groups)) ≡ ((get_or groups i d).group, (get_or groups i d).log) ∷ logs_in (all_groups (drop (i + 1) groups))
left-some groups i d inside some =
    let h = get_or groups i d in
    at_drop_more (λ (hs : List HeldRows). logs_in (all_groups hs)) groups i d inside
    ∙ log-some h.group h.log (logs_in (all_groups (drop (i + 1) groups))) some

-- and where it tells nothing
pub left-none : (groups : List HeldRows) (i : ℕ) (d : HeldRows) → i < length groups → (get_or groups i d).log ≡ []
    → logs_in (all_groups (drop i groups)) ≡ logs_in (all_groups (drop (i + 1) groups))
left-none groups i d inside none =
    let h = get_or groups i d in
    at_drop_more (λ (hs : List HeldRows). logs_in (all_groups hs)) groups i d inside
    ∙ ap (λ (log : List Change). with_log h.group log (logs_in (all_groups (drop (i + 1) groups)))) none

pub left-one : (groups : List HeldRows) (i : ℕ) (d : HeldRows) → i < length groups → (get_or groups i d).log ≢ []
    → length (logs_in (all_groups (drop i groups))) ≡ length (logs_in (all_groups (drop (i + 1) groups))) + 1
left-one groups i d inside some =
    let many = ap length (left-some groups i d inside some) in
    omega arith

-- with one file more
pub logs-more : (s : TableSchema) (old names now : Naming) (groups : List HeldRows) (i : ℕ) (d : HeldRows) (files new : List NewFile) (x : NewFile)
    → i < length groups → (get_or groups i d).log ≢ [] → IsNewChanges s names (get_or groups i d).group (get_or groups i d).log x → now ≡ counted names → new ≡ files ++ x ∷ []
    → ((more : List NewFile) → AreFilesOfLogs s names (logs_in (all_groups (drop i groups))) more → AreFilesOfLogs s old (logs_in (all_groups groups)) (files ++ more))
    → (more : List NewFile) → AreFilesOfLogs s now (logs_in (all_groups (drop (i + 1) groups))) more → AreFilesOfLogs s old (logs_in (all_groups groups)) (new ++ more)
logs-more s old names now groups i d files new x inside some own named pushed before more later =
    let all = logs_in (all_groups groups) in
    let rest = logs_in (all_groups (drop (i + 1) groups)) in
    let after : AreFilesOfLogs s (counted names) rest more = subst (λ (n : Naming). AreFilesOfLogs s n rest more) named later in
    let both : AreFilesOfLogs s names (logs_in (all_groups (drop i groups))) (x ∷ more) =
    subst (λ (logs : List (Group × List Change)). AreFilesOfLogs s names logs (x ∷ more)) (sym (left-some groups i d inside some)) (own, after) in
    subst (AreFilesOfLogs s old all) (sym (ap (λ (fs : List NewFile). fs ++ more) pushed ∙ append_assoc files (x ∷ []) more)) (before (x ∷ more) both)

-- with none more, since the group's log tells nothing
pub logs-same : (s : TableSchema) (old names : Naming) (groups : List HeldRows) (i : ℕ) (d : HeldRows) (files : List NewFile) → i < length groups → (get_or groups i d).log ≡ []
    → ((more : List NewFile) → AreFilesOfLogs s names (logs_in (all_groups (drop i groups))) more → AreFilesOfLogs s old (logs_in (all_groups groups)) (files ++ more))
    → (more : List NewFile) → AreFilesOfLogs s names (logs_in (all_groups (drop (i + 1) groups))) more → AreFilesOfLogs s old (logs_in (all_groups groups)) (files ++ more)
logs-same s old names groups i d files inside none before more later =
    before more (subst (λ (logs : List (Group × List Change)). AreFilesOfLogs s names logs more) (sym (left-none groups i d inside none)) later)

-- with none left
pub logs-all : (s : TableSchema) (old names : Naming) (groups : List HeldRows) (i : ℕ) (files : List NewFile) → length groups ≤ i
    → ((more : List NewFile) → AreFilesOfLogs s names (logs_in (all_groups (drop i groups))) more → AreFilesOfLogs s old (logs_in (all_groups groups)) (files ++ more))
    → AreFilesOfLogs s old (logs_in (all_groups groups)) files
logs-all s old names groups i files past before =
    subst (AreFilesOfLogs s old (logs_in (all_groups groups))) (append-nil files)
    (before [] (subst (λ (hs : List HeldRows). AreFilesOfLogs s names (logs_in (all_groups hs)) []) (sym (drop_all i groups past)) tt))

-- ---- the logs of a batch

-- `same` of `by_key_law`
abbrev pub SameByKey : Type 0
SameByKey = (s : TableSchema) (key : Values) (rows : List HistoryRow) → rows_of (primary_of s) key (by_key s rows) ≡ rows_of (primary_of s) key rows

-- some rows are some by key
some-by_key : SameByKey → (s : TableSchema) (rows : List HistoryRow) → rows ≢ [] → by_key s rows ≢ []
some-by_key same s [] some none = some refl
some-by_key same s (r ∷ rows) some none =
    let key = key_of (primary_of s) r.1 in
    let own = ap (λ (b : Bool). cond b (r ∷ rows_of (primary_of s) key rows) (rows_of (primary_of s) key rows)) (ties_itself key) in
    let no : r ∷ rows_of (primary_of s) key rows ≡ [] = sym own ∙ sym (same s key (r ∷ rows)) ∙ ap (rows_of (primary_of s) key) none in
    cc

quiet-log : (p : Producer) (s : TableSchema) (rows : List HistoryRow) (log : List Change) → p ≢ producers.Input → KeepsLog p s rows log → log ≡ []
quiet-log producers.None s rows log other keeps = keeps
quiet-log producers.Input s rows log other keeps = absurd (other refl)
quiet-log producers.Lookup s rows log other keeps = keeps
quiet-log producers.FullCompaction s rows log other keeps = keeps

told-log : (p : Producer) (s : TableSchema) (rows : List HistoryRow) (c : Change) (log : List Change) → KeepsLog p s rows (c ∷ log) → IsGroupLog s (by_key s rows) (c ∷ log)
told-log producers.None s rows c log keeps = let no : c ∷ log ≡ [] = keeps in cc
told-log producers.Input s rows c log keeps = keeps
told-log producers.Lookup s rows c log keeps = let no : c ∷ log ≡ [] = keeps in cc
told-log producers.FullCompaction s rows c log keeps = let no : c ∷ log ≡ [] = keeps in cc

-- `holds` of `group_log_law`
abbrev pub FileHolds : Type 0
FileHolds = (s : TableSchema) (rows : List HistoryRow) (log : List Change) (names : Naming) (f : RunFile) → IsGroupLog s rows log → IsFileOfLog s names log f → HoldsLog s rows f

module _ (s : TableSchema) (rows : List HistoryRow) (batch : Groups) (is : IsBatchOf s rows batch) where
  abbrev AreHeldOf : Groups → Type 0
  AreHeldOf es = AllByRecursion (λ (e : Group × GroupRows). held_of e.0 batch ≡ Some e.1) es

  kept : (e : Group × GroupRows) → held_of e.0 batch ≡ Some e.1 → KeepsLog s.options.producer s (rows_in s e.0 rows) e.1.log
  kept e held = (held_rows s rows batch e.0 e.1 is held).log

  pub logs-quiet : s.options.producer ≢ producers.Input → logs_in batch ≡ []
  logs-quiet other = by_groups batch (all_held s rows batch is)
    where
      by_groups : (es : Groups) → AreHeldOf es → logs_in es ≡ []
      by_groups [] held = refl
      by_groups (e ∷ es) held =
          ap (λ (log : List Change). with_log e.0 log (logs_in es)) (quiet-log s.options.producer s (rows_in s e.0 rows) e.1.log other (kept e held.0)) ∙ by_groups es held.1

  pub logs-input : SameByKey → s.options.producer ≡ producers.Input → logs_in batch ≡ map group_log batch
  logs-input same input = by_groups batch (all_held s rows batch is)
    where
      some-log : (e : Group × GroupRows) → held_of e.0 batch ≡ Some e.1 → e.1.log ≢ []
      some-log e held none =
          let own = rows_in s e.0 rows in
          let log : IsGroupLog s (by_key s own) e.1.log = subst (λ (p : Producer). KeepsLog p s own e.1.log) input (kept e held) in
          some-by_key same s own (some_group s rows batch e.0 e.1 is held) (sym log.told ∙ ap (λ (cs : List Change). map row_of (stamped_from 0 cs)) none)

      by_groups : (es : Groups) → AreHeldOf es → logs_in es ≡ map group_log es
      by_groups [] held = refl
      by_groups (e ∷ es) held =
          log-some e.0 e.1.log (logs_in es) (some-log e held.0) ∙ ap (λ (logs : List (Group × List Change)). (e.0, e.1.log) ∷ logs) (by_groups es held.1)

  abbrev HoldLogs : List (Group × List Change) → List NewFile → Type 0
  HoldLogs logs xs = AllZip (λ (p : Group × List Change) (x : NewFile). IsLogWritten s rows p.0 x) logs xs

  -- each file holds the rows of its group
  module _ (holds : FileHolds) where
    with-first : (e : Group × GroupRows) (log : List Change) → KeepsLog s.options.producer s (rows_in s e.0 rows) log → (logs : List (Group × List Change)) (names : Naming) (xs : List NewFile)
        → ((names : Naming) (xs : List NewFile) → AreFilesOfLogs s names logs xs → HoldLogs logs xs) → AreFilesOfLogs s names (with_log e.0 log logs) xs → HoldLogs (with_log e.0 log logs) xs
    with-first e [] keeps logs names xs rest are = rest names xs are
    with-first e (c ∷ log) keeps logs names [] rest are = absurd are
    with-first e (c ∷ log) keeps logs names (x ∷ xs) rest are =
        let own = rows_in s e.0 rows in (
          record {
            own = are.0.own;
            changelog = are.0.changelog;
            holds = holds s (by_key s own) (c ∷ log) names (record { meta = x.meta; bytes = x.bytes }) (told-log s.options.producer s own c log keeps) are.0.file;
          },
          rest (counted names) xs are.1,
        )

    by_logs : (es : Groups) → AreHeldOf es → (names : Naming) (xs : List NewFile) → AreFilesOfLogs s names (logs_in es) xs → HoldLogs (logs_in es) xs
    by_logs [] held names [] are = tt
    by_logs [] held names (x ∷ xs) are = absurd are
    by_logs (e ∷ es) held names xs are = with-first e e.1.log (kept e held.0) (logs_in es) names xs (λ names xs are. by_logs es held.1 names xs are) are

    pub logs-written : (next : BTreeMap Group ℕ) (names : Naming) (files : List NewFile) → (new : AreNewFiles s next names batch files) → AreLogsWritten s rows batch new.changes
    logs-written next names files new = by_logs batch (all_held s rows batch is) (after_names (length new.data_files) names) new.changes new.logs
