-- Laws of `write`: what is so of its input, of its calls, and of a history.
use Rattle.std.proofs.Common.{if◌then◌else◌, ◌≡◌, ◌≢◌, ◌⊎◌, inl, inr, ℕ, ◌+◌, ◌-◌, ◌≤◌, ◌==◌, ◌++◌, Bool, true, false, List, [], ◌∷◌, length, Option, None, Some, IfSome, IsSome, IsSomeAnd, Result, Ok, Err, refl, sym, ap, ◌∙◌, subst, arith}
use Rattle.std.specs.FinMap as map
use Rattle.std.specs.List.{AllByRecursion}
use Rattle.std.specs.Result.{result_err}
use Rattle.pm_base.specs.Outcome.{◌>>=◌, Fails}
use Rattle.pm_values.specs.Names.{naming}
use Rattle.pm_values.specs.Fits.{Fits}
use Rattle.pm_values.specs.declared.column.Column.{Column}
use Rattle.pm_values.specs.declared.refusal.Refusal.{Refusal}
use Rattle.pm_values.specs.declared.refusal.Refusal.TheVariants as refusals
use Rattle.pm_io.specs.Sink.{SinkView}
use Rattle.pm_io.specs.Source.{SourceView}
use Rattle.pm_store.specs.declared.call.Op.{Op}
use Rattle.pm_store.specs.Files.{Files, files_after}
use Rattle.pm_store.specs.Images.{Extends}
use Rattle.pm_store.specs.Store.{StoreView, at_first_own}
use Rattle.pm_store.proofs.ImageLaws.{Extends-refl, Extends-weaker}
use Rattle.pm_machine.specs.Trace.{Event, HasTrace}
use Rattle.pm_model_history.specs.History.{History, IsTableOf}
use Rattle.pm_model_history.specs.Merge.{HistoryRow}
use Rattle.pm_model_history.specs.Taken.{verdict}
use Rattle.pm_model_history.specs.declared.verdict.Verdict.{Verdict as VerdictByIndex}
use Rattle.pm_model_history.specs.declared.verdict.Verdict.TheVariants as by_index
use Rattle.pm_rows.specs.Reading.{Fault, row_of}
use Rattle.pm_input.specs.Limits.{limits}
use Rattle.pm_input.specs.Lines.{row_lines}
use Rattle.pm_input.specs.Rows.{faulty_column, judged, refusal_in, row_at}
use Rattle.pm_schema.specs.Again.{IsDeclared}
use Rattle.pm_schema.specs.declared.schema.TableSchema.{TableSchema}
use Rattle.pm_snapshot.specs.Names.{MayName, greatest}
use Rattle.pm_snapshot.specs.declared.snapshot.Snapshot.{Snapshot}
use Rattle.pm_model_contents.specs.Named.{Contents, HasContents, IsNamed}
use Rattle.pm_engines.specs.Verdict.{named, verdict_on}
use Rattle.pm_engines.specs.declared.verdict.Verdict.{Verdict}
use Rattle.pm_engines.specs.declared.verdict.Verdict.TheVariants.{Take, Ignore, Refuse}
use Rattle.pm_model_folder.specs.Changes.{Actor}
use Rattle.pm_model_folder.specs.Folder.{Folder, IsRowOf, KeepsConsumers}
use Rattle.pm_model_folder.specs.Ledger.{count_of}
use Rattle.pm_model_folder.specs.Paths.{snapshot_path}
use Rattle.pm_create.specs.Making.{LeavesFiles}
use Rattle.pm_read_schema.specs.AllCalls.{DidRead, HasFiles, Stay, ReadsTables}
use Rattle.pm_write.specs.Batch.{Groups, IsBatchOf, ReadsBatch}
use Rattle.pm_group_rows.specs.Limit.{exceeds_partition}
use Rattle.pm_write.specs.Taken.{all_taken, long_partition, no_room, taken_at, taken_by, taken_in, taken_of}
use Rattle.pm_commit.specs.AllCalls as commit
use Rattle.pm_commit.specs.AllCalls.{AddsAlone, AppendsTables, DidAppend, HasBorne, MayBegin, MayStart, NamesNone}
use Rattle.pm_commit.specs.Alone.{Beginning, GivesReason, IsUnchanged, WasUsed, with_entry}
use Rattle.pm_commit.specs.Meaning.{AddsOwn, path_after}
use Rattle.pm_commit.specs.Own.{group_limit}
use Rattle.pm_commit.specs.declared.all_calls.Appended.{Appended}
use Rattle.pm_commit.specs.declared.all_calls.Appended.TheVariants as appends
use Rattle.pm_command_write.specs.Input.{HasLines, MayRefuseInput, RefusesInput}
use Rattle.pm_command.specs.Outside.{HaveSame, Outside, outside, actor, next_path, Prints, Rests}
use Rattle.pm_command.specs.declared.start.Start.{Start}
use Rattle.pm_command.specs.Table as tables
use Rattle.pm_command_write.specs.Write.{ActsWrite, AnswersLines, AnswersWrite, BeginsWith, DidWrite, HasRows, IsCommittedTo, IsImage, IsWritten, Keeps, KeepsHistories, Lines, MakesOf, MayStartAfter, Spoils, StandsAfterFault, StandsForEither, TakesRows, WritesLines, WritesTable, WritesTables, commit_of, entry_by, snapshot_of, text_of}
use Rattle.pm_command_write.specs.declared.writer.Writer.{Writer}
use Rattle.pm_command_write.specs.declared.write.Written.{Written}
use Rattle.pm_command_write.specs.declared.write.Written.TheVariants as written
use Rattle.pm_command.proofs.TableLemmas.{consumers_stay, trace_weaker, files_of, files_same, leaves_of, leaves_weaker, none_next, rests_of, images_of, caused}
use Rattle.pm_command.proofs.Uncalled.{at_known, uncalled}

-- ---- the rows that are taken

-- a line that is read as a row has one that fits
abbrev pub FitLaw : Type 0
FitLaw = (columns : List Column) (line : List ℕ) (row : HistoryRow) → row_of columns line ≡ Ok row → Fits columns row.1

by_take : (s : TableSchema) (v : VerdictByIndex) → named s.columns v ≡ Take → v ≡ by_index.Take
by_take s by_index.Take is = refl
by_take s by_index.Ignore is = cc
by_take s (by_index.Refuse index) is = cc
by_take s by_index.RefuseAll is = cc

module _ (fits : FitLaw) (s : TableSchema) where
  one-row : (row : HistoryRow) → Fits s.columns row.1 → (v : Verdict) → verdict_on s row.0 ≡ v → (number : ℕ) (rows : List HistoryRow)
      → taken_by s v number row ≡ Ok rows → AllByRecursion (IsRowOf s) rows
  one-row row fit Take is number rows taken = by (exceeds_partition s row.1) taken
    where
      by : (long : Bool) → (if long then Err long_partition else Ok (row ∷ [])) ≡ Ok rows → AllByRecursion (IsRowOf s) rows
      by true taken = cc
      by false taken =
          let same : row ∷ [] ≡ rows = cc in
          subst (AllByRecursion (IsRowOf s)) same (record { fits = fit; taken = by_take s (verdict s row.0) is }, tt)
  one-row row fit Ignore is number rows taken = let same : [] ≡ rows = cc in subst (AllByRecursion (IsRowOf s)) same tt
  one-row row fit (Refuse column) is number rows taken = cc

  of-row : (number : ℕ) (bytes : List ℕ) (read : Result HistoryRow Fault) → row_of s.columns bytes ≡ read → (rows : List HistoryRow)
      → (judged s.columns number read >>= (λ (row : HistoryRow). taken_by s (verdict_on s row.0) number row)) ≡ Ok rows → AllByRecursion (IsRowOf s) rows
  of-row number bytes (Ok row) is rows taken = one-row row (fits s.columns bytes row is) (verdict_on s row.0) refl number rows taken
  of-row number bytes (Err fault) is rows taken = cc

  of-line : (room : ℕ) (l : ℕ × List ℕ) (rows : List HistoryRow) → taken_at s room l ≡ Ok rows → AllByRecursion (IsRowOf s) rows
  of-line room l rows taken = by (room == 0) taken
    where
      by : (full : Bool) → (if full then Err no_room else taken_of s l) ≡ Ok rows → AllByRecursion (IsRowOf s) rows
      by true taken = cc
      by false taken = of-row l.0 l.1 (row_of s.columns l.1) refl rows taken

  both : (xs ys : List HistoryRow) → AllByRecursion (IsRowOf s) xs → AllByRecursion (IsRowOf s) ys → AllByRecursion (IsRowOf s) (xs ++ ys)
  both [] ys none all = all
  both (x ∷ xs) ys (one, more) all = (one, both xs ys more all)

  rows-of : (first later : Result (List HistoryRow) Refusal) (rows : List HistoryRow)
      → (first >>= (λ (f : List HistoryRow). later >>= (λ (l : List HistoryRow). Ok (f ++ l)))) ≡ Ok rows
      → (f l : List HistoryRow) × (first ≡ Ok f) × (later ≡ Ok l) × (f ++ l ≡ rows)
  rows-of (Ok f) (Ok l) rows is = (f, l, refl, refl, (let same : f ++ l ≡ rows = cc in same))
  rows-of (Ok f) (Err e) rows is = cc
  rows-of (Err e) later rows is = cc

  rows-in : (room : ℕ) (lines : Lines) (rows : List HistoryRow) → taken_in s room lines ≡ Ok rows → AllByRecursion (IsRowOf s) rows
  rows-in room [] rows is = let same : [] ≡ rows = cc in subst (AllByRecursion (IsRowOf s)) same tt
  rows-in room (l ∷ lines) rows is =
      let parts = rows-of (taken_at s room l) (taken_in s (room - 1) lines) rows is in
      subst (AllByRecursion (IsRowOf s)) parts.4 (both parts.0 parts.1 (of-line room l parts.0 parts.2) (rows-in (room - 1) lines parts.1 parts.3))

-- ---- its calls

pub read_refused : (start : Start) (w : Writer) (lines : Lines) (e : Refusal) (before after : StoreView) → HasTrace (DidRead (Err e)) before after
    → HasTrace (DidWrite start w lines (Err e)) before after
read_refused start w lines e before after = trace_weaker (DidRead (Err e)) (DidWrite start w lines (Err e)) (λ own shows. inl shows) before after

-- a line is refused, or memory ran out
pub why_refused : (e : Refusal) (taken : Result (List HistoryRow) Refusal) → Fails (refusal_in e) taken → (e ≡ refusals.Memory) ⊎ (taken ≡ Err e)
why_refused refusals.Memory taken fails = inl refl
why_refused refusals.SourceFault taken fails = inr fails
why_refused e taken fails = inr fails

pub lines_refused : (start : Start) (w : Writer) (lines : Lines) (s : TableSchema) (e : Refusal) (before after : StoreView) → IsDeclared s
    → (e ≡ refusals.Memory) ⊎ (all_taken s lines ≡ Err e) → HasTrace (DidRead (Ok s)) before after → HasTrace (DidWrite start w lines (Err e)) before after
lines_refused start w lines s e before after declared why =
    trace_weaker (DidRead (Ok s)) (DidWrite start w lines (Err e)) (λ own has. inr (inl (s, why, record { declared = declared; has = has }))) before after

pub nothing_trace : (start : Start) (w : Writer) (lines : Lines) (s : TableSchema) (before after : StoreView) → IsDeclared s → all_taken s lines ≡ Ok []
    → HasTrace (DidRead (Ok s)) before after → HasTrace (DidWrite start w lines (Ok written.Nothing)) before after
nothing_trace start w lines s before after declared none =
    trace_weaker (DidRead (Ok s)) (DidWrite start w lines (Ok written.Nothing)) (λ own has. (s, none, record { declared = declared; has = has })) before after

-- what became of the rows, by the answer of their commit
abbrev pub written_of : Result Appended Refusal → Result Written Refusal
written_of (Ok appends.Already) = Ok written.Already
written_of (Ok (appends.Committed id)) = Ok (written.Committed id)
written_of (Err e) = Err e

-- what is known of the batch that is committed
pub record IsTakenOf (start : Start) (w : Writer) (lines : Lines) (s : TableSchema) (batch : Groups) : Type 0 where
  pub rows : List HistoryRow
  pub declared : IsDeclared s
  pub taken : all_taken s lines ≡ Ok rows
  pub some : rows ≢ []
  pub batch_of : IsBatchOf s rows batch

appended_did : (start : Start) (w : Writer) (lines : Lines) (s : TableSchema) (batch : Groups) (made : Result Appended Refusal) (own : List Event)
    → IsTakenOf start w lines s batch → DidAppend s (commit_of start w batch) made own → DidWrite start w lines (written_of made) own
appended_did start w lines s batch (Ok appends.Already) own t did = (s, t.rows, batch, t.declared, t.taken, t.some, t.batch_of, did)
appended_did start w lines s batch (Ok (appends.Committed id)) own t did = (s, t.rows, batch, t.declared, t.taken, t.some, t.batch_of, did)
appended_did start w lines s batch (Err e) own t did = inr (inr (s, t.rows, batch, t.declared, t.taken, t.some, t.batch_of, did))

pub appended_trace : (start : Start) (w : Writer) (lines : Lines) (s : TableSchema) (batch : Groups) (made : Result Appended Refusal) (before after : StoreView)
    → IsTakenOf start w lines s batch → HasTrace (DidAppend s (commit_of start w batch) made) before after
    → HasTrace (DidWrite start w lines (written_of made)) before after
appended_trace start w lines s batch made before after t =
    trace_weaker (DidAppend s (commit_of start w batch) made) (DidWrite start w lines (written_of made)) (λ own did. appended_did start w lines s batch made own t did) before after

-- ---- what its calls do to histories

-- no file appears where files stay
adds_none : (start : Start) (h : History) (f : Files) (first after : StoreView) → HasFiles f first → Extends (λ g. g ≡ f) first.ops after.ops
    → AddsAlone (actor start) h first after
adds_none start h f first after has images =
    leaves_of (λ f. Extends (AddsOwn (actor start) (path_after h) f) first.ops after.ops) f first has
    (images_of (AddsOwn (actor start) (path_after h) f) f first.ops after.ops images (λ path. inl refl))

-- files that stay go on to stand for the history
stay_keeps : (start : Start) (w : Writer) (lines : Lines) (h : History) (f : Files) (first after : StoreView) (made : Result Written Refusal)
    → HasFiles f first → Folder f h → Stay f first after → (Rests h first after → MakesOf start w lines h first after made)
    → Keeps start w lines h first after made
stay_keeps start w lines h f first after made has folder stay makes = record {
  makes = makes (rests_of h f first after has stay.here folder);
  free = λ other apart starts.
      let at = files_of (MayStart other h) first starts in
      images_of (MayStartAfter other start w lines h) f first.ops after.ops stay.images
      (inl (subst (MayStart other h) (files_same at.0 f first at.1 has) at.2));
  images = images_of (StandsForEither start w lines h) f first.ops after.ops stay.images (inl folder);
  consumers = consumers_stay h f first after has stay.images;
  adds = adds_none start h f first after has stay.images;
}

fault_left : (start : Start) (w : Writer) (lines : Lines) (h : History) (path : List ℕ) (store : StoreView) → LeavesFiles (λ f. Folder f h) store
    → LeavesFiles (StandsAfterFault start w lines h path) store
fault_left start w lines h path store left =
    let files = files_of (λ f. Folder f h) store left in
    leaves_of (StandsAfterFault start w lines h path) files.0 store files.1 (inl files.2)

-- a listing may be refused for it
listing_spoils : (start : Start) (w : Writer) (lines : Lines) (h : History) (first after : StoreView) (e : Refusal) → tables.MayRefuse h first after e
    → Rests h first after → Spoils start w lines h first after e
listing_spoils start w lines h first after (refusals.StoreFault path) may rests = (may, fault_left start w lines h path after rests.folder)
listing_spoils start w lines h first after refusals.NoTable may rests = (may, rests)
listing_spoils start w lines h first after refusals.Memory may rests = rests.folder
listing_spoils start w lines h first after other may rests = absurd may

pub read_keeps : (start : Start) (w : Writer) (lines : Lines) (e : Refusal) (before after : StoreView) → ReadsTables before after (Err e)
    → KeepsHistories start w lines before after (Err e)
read_keeps start w lines e before after reads = λ alone h begins.
    let first = at_first_own before after in
    let files = files_of (MayStart (actor start) h) first begins in
    let read = reads alone files.0 h files.1 files.2.0 in
    stay_keeps start w lines h files.0 first after (Err e) files.1 files.2.0 read.files
    (λ left. listing_spoils start w lines h first after e (caused h first after e read.cause) left)

-- ---- a line is refused, or there are no rows

-- the refusals of a line
abbrev IsOfLines : Refusal → Type 0
IsOfLines (refusals.BadLine number why column) = Unit {0}
IsOfLines (refusals.Retraction number column) = Unit {0}
IsOfLines (refusals.Limit which number) = Unit {0}
IsOfLines other = ⊥

of-judged : (columns : List Column) (number : ℕ) (read : Result HistoryRow Fault) (e : Refusal) → judged columns number read ≡ Err e → IsOfLines e
of-judged columns number (Ok row) e is = cc
of-judged columns number (Err fault) e is =
    subst IsOfLines (let same : refusals.BadLine number fault.0 (faulty_column columns fault.0 fault.1) ≡ e = cc in same) tt

of-taken : (s : TableSchema) (v : Verdict) (number : ℕ) (row : HistoryRow) (e : Refusal) → taken_by s v number row ≡ Err e → IsOfLines e
of-taken s Take number row e is = by (exceeds_partition s row.1) is
  where
    by : (long : Bool) → (if long then Err long_partition else Ok (row ∷ [])) ≡ Err e → IsOfLines e
    by true is = subst IsOfLines (let same : long_partition ≡ e = cc in same) tt
    by false is = cc
of-taken s Ignore number row e is = cc
of-taken s (Refuse column) number row e is = subst IsOfLines (let same : refusals.Retraction number column ≡ e = cc in same) tt

of-one : (s : TableSchema) (l : ℕ × List ℕ) (read : Result HistoryRow Refusal) → row_at s.columns l ≡ read → (e : Refusal)
    → (read >>= (λ (row : HistoryRow). taken_by s (verdict_on s row.0) l.0 row)) ≡ Err e → IsOfLines e
of-one s l (Ok row) at e is = of-taken s (verdict_on s row.0) l.0 row e is
of-one s l (Err r) at e is = of-judged s.columns l.0 (row_of s.columns l.1) e (at ∙ (let same : r ≡ e = cc in ap Err same))

of-line-refused : (s : TableSchema) (room : ℕ) (l : ℕ × List ℕ) (e : Refusal) → taken_at s room l ≡ Err e → IsOfLines e
of-line-refused s room l e refused = by (room == 0) refused
  where
    by : (full : Bool) → (if full then Err no_room else taken_of s l) ≡ Err e → IsOfLines e
    by true refused = subst IsOfLines (let same : no_room ≡ e = cc in same) tt
    by false refused = of-one s l (row_at s.columns l) refl e refused

of-both : (first later : Result (List HistoryRow) Refusal) (e : Refusal)
    → (first >>= (λ (f : List HistoryRow). later >>= (λ (l : List HistoryRow). Ok (f ++ l)))) ≡ Err e → (first ≡ Err e) ⊎ (later ≡ Err e)
of-both (Ok f) (Ok l) e is = cc
of-both (Ok f) (Err r) e is = inr (let same : r ≡ e = cc in ap Err same)
of-both (Err r) later e is = inl (let same : r ≡ e = cc in ap Err same)

of-lines : (s : TableSchema) (room : ℕ) (lines : Lines) (e : Refusal) → taken_in s room lines ≡ Err e → IsOfLines e
of-lines s room [] e is = cc
of-lines s room (l ∷ lines) e is = elim (of-both (taken_at s room l) (taken_in s (room - 1) lines) e is) [
  | inl first ↦ of-line-refused s room l e first
  | inr later ↦ of-lines s (room - 1) lines e later
]

line_spoils : (start : Start) (w : Writer) (lines : Lines) (h : History) (s : TableSchema) (first after : StoreView) (e : Refusal) → IsTableOf s h
    → IsDeclared s → all_taken s lines ≡ Err e → IsOfLines e → Rests h first after → Spoils start w lines h first after e
line_spoils start w lines h s first after (refusals.BadLine number why column) is declared refused of left = ((s, is, declared, refused), left)
line_spoils start w lines h s first after (refusals.Retraction number column) is declared refused of left = ((s, is, declared, refused), left)
line_spoils start w lines h s first after (refusals.Limit which number) is declared refused of left = (inl (s, is, declared, refused), left)
line_spoils start w lines h s first after other is declared refused of left = absurd of

why_spoils : (start : Start) (w : Writer) (lines : Lines) (h : History) (s : TableSchema) (first after : StoreView) (e : Refusal) → IsTableOf s h
    → IsDeclared s → (e ≡ refusals.Memory) ⊎ (all_taken s lines ≡ Err e) → Rests h first after → Spoils start w lines h first after e
why_spoils start w lines h s first after e is declared (inl memory) left = subst (Spoils start w lines h first after) (sym memory) left.folder
why_spoils start w lines h s first after e is declared (inr refused) left =
    line_spoils start w lines h s first after e is declared refused (of-lines s limits.rows lines e refused) left

pub lines_keeps : (start : Start) (w : Writer) (lines : Lines) (s : TableSchema) (e : Refusal) (before after : StoreView) → IsDeclared s
    → (e ≡ refusals.Memory) ⊎ (all_taken s lines ≡ Err e) → ReadsTables before after (Ok s) → KeepsHistories start w lines before after (Err e)
lines_keeps start w lines s e before after declared why reads = λ alone h begins.
    let first = at_first_own before after in
    let files = files_of (MayStart (actor start) h) first begins in
    let read = reads alone files.0 h files.1 files.2.0 in
    stay_keeps start w lines h files.0 first after (Err e) files.1 files.2.0 read.files (λ left. why_spoils start w lines h s first after e read.schema declared why left)

pub nothing_keeps : (start : Start) (w : Writer) (lines : Lines) (s : TableSchema) (before after : StoreView) → all_taken s lines ≡ Ok []
    → ReadsTables before after (Ok s) → KeepsHistories start w lines before after (Ok written.Nothing)
nothing_keeps start w lines s before after none reads = λ alone h begins.
    let first = at_first_own before after in
    let files = files_of (MayStart (actor start) h) first begins in
    let read = reads alone files.0 h files.1 files.2.0 in
    stay_keeps start w lines h files.0 first after (Ok written.Nothing) files.1 files.2.0 read.files (λ left. ((s, read.schema, none), left))

-- ---- a commit

module _ (start : Start) (w : Writer) (lines : Lines) (s : TableSchema) (batch : Groups) (t : IsTakenOf start w lines s batch) (h : History) (f : Files)
    (table : IsTableOf s h) where
  abbrev b : Beginning
  b = record { own = commit_of start w batch; entry = entry_by start w t.rows; files = f; history = h }

  takes : TakesRows h lines t.rows
  takes = (s, table, t.taken)

  has-rows : (g : Files) → Folder g (with_entry (entry_by start w t.rows) h) → HasRows start w lines h g
  has-rows g folder = record { rows = t.rows; takes = takes; some = t.some; stands = folder }

  pub either-rows : (g : Files) → commit.StandsForEither b g → StandsForEither start w lines h g
  either-rows g (inl stands) = inl stands.folder
  either-rows g (inr stands) = inr (has-rows g stands.folder)

  pub keeps-consumers : (g : Files) → commit.StandsForEither b g → KeepsConsumers h f g
  keeps-consumers g (inl stands) = stands.consumers
  keeps-consumers g (inr stands) = stands.consumers

  pub adds-own : (g : Files) → commit.StandsForEither b g → AddsOwn (actor start) (path_after h) f g
  adds-own g (inl stands) = stands.adds
  adds-own g (inr stands) = stands.adds

  pub start-rows : (other : Actor) → other ≢ actor start → NamesNone other h f → (g : Files) → commit.StandsForEither b g
      → MayStartAfter other start w lines h g
  start-rows other apart none g (inl stands) = inl (stands.folder, stands.free other apart none)
  start-rows other apart none g (inr stands) =
      inr (record { rows = t.rows; takes = takes; some = t.some; stands = (stands.folder, stands.free other apart none) })

  -- what is so of the beginning is so at the first call
  at-first : (P : Beginning → Type 0) (first : StoreView) → HasFiles f first → P b → LeavesFiles (BeginsWith start w lines h P) first
  unfolding takes
  at-first P first has is =
      leaves_of (BeginsWith start w lines h P) f first has
      (record { rows = t.rows; batch = batch; takes = takes; some = t.some; batch_of = t.batch_of; is = is })

  -- where no path has another content than at first
  unchanged : (first after : StoreView) → HasFiles f first → LeavesFiles (λ g. Folder g h × IsUnchanged b g) after → Rests h first after
  unchanged first after has left = record {
    folder = leaves_weaker (λ g. Folder g h × IsUnchanged b g) (λ g. Folder g h) (λ g is. is.0) after left;
    same = leaves_of (λ f. LeavesFiles (HaveSame f) after) f first has
        (leaves_weaker (λ g. Folder g h × IsUnchanged b g) (HaveSame f) (λ g is. is.1) after left);
  }

  fault-leaves : (path : List ℕ) (g : Files) → commit.LeavesFolder b (Err (refusals.StoreFault path)) g → StandsAfterFault start w lines h path g
  fault-leaves path g (inl folder) = inl folder
  fault-leaves path g (inr (folder, at)) = inr (at, has-rows g folder)

  spoiled : (first after : StoreView) (e : Refusal) → HasFiles f first → commit.AppendsTable b s first after (Err e) → Spoils start w lines h first after e
  spoiled first after refusals.Memory has does = does.leaves
  spoiled first after (refusals.StoreFault path) has does =
      (does.counted, leaves_weaker (commit.LeavesFolder b (Err (refusals.StoreFault path))) (StandsAfterFault start w lines h path) (fault-leaves path) after does.leaves)
  spoiled first after (refusals.SessionUsed path) has does = (at-first (λ b. WasUsed b path) first has does.says, does.leaves)
  spoiled first after (refusals.Fenced base fence) has does = (
    at-first (λ b. GivesReason b (Some (refusals.Fenced base fence))) first has does.says,
    unchanged first after has does.leaves,
  )
  spoiled first after (refusals.CompactTaken file) has does = absurd (does.says.0 tt)
  spoiled first after (refusals.Limit which number) has does = (
    inr (at-first (λ b. GivesReason b (Some (refusals.Limit which number))) first has does.says),
    unchanged first after has does.leaves,
  )
  spoiled first after other has does = absurd does.says

  pub commit-makes : (first after : StoreView) (made : Result Appended Refusal) → HasFiles f first → commit.AppendsTable b s first after made
      → MakesOf start w lines h first after (written_of made)
  commit-makes first after (Ok appends.Already) has does = (
    does.says.0,
    at-first (λ b. HasBorne b.own.author b.files b.history) first has does.says.1,
    unchanged first after has does.leaves,
  )
  commit-makes first after (Ok (appends.Committed id)) has does = (
    does.says.0,
    leaves_weaker (commit.LeavesFolder b (Ok (appends.Committed id))) (λ g. LeavesFiles (BeginsWith start w lines h (IsCommittedTo g)) first)
        (λ g is. at-first (IsCommittedTo g) first has (record { allowed = does.says.1; bears = is.1 })) after does.leaves,
    leaves_weaker (commit.LeavesFolder b (Ok (appends.Committed id))) (HasRows start w lines h) (λ g is. has-rows g is.0) after does.leaves,
  )
  commit-makes first after (Err e) has does = spoiled first after e has does

pub appended_keeps : FitLaw → (start : Start) (w : Writer) (lines : Lines) (s : TableSchema) (batch : Groups) (made : Result Appended Refusal)
    (before after : StoreView) → IsTakenOf start w lines s batch → MayName (naming start.session start.number 0)
    → AppendsTables s (commit_of start w batch) before after made → KeepsHistories start w lines before after (written_of made)
appended_keeps fits start w lines s batch made before after t may appends = λ alone h begins.
    let first = at_first_own before after in
    let files = files_of (MayStart (actor start) h) first begins in
    let at : Beginning = record { own = commit_of start w batch; entry = entry_by start w t.rows; files = files.0; history = h } in
    let begin : MayBegin s at = record {
      no_base = refl;
      may = may;
      means = record { is = refl; fit = rows-in fits s limits.rows lines t.rows t.taken; groups = t.batch_of };
      start = files.2;
    } in
    let does = appends alone at refl files.1 begin in
    record {
      makes = commit-makes start w lines s batch t h files.0 does.schema first after made files.1 does;
      images = Extends-weaker (commit.StandsForEither at) (StandsForEither start w lines h) first.ops after.ops
          (either-rows start w lines s batch t h files.0 does.schema) does.images;
      free = λ other apart starts.
          let free = files_of (MayStart other h) first starts in
          let none : NamesNone other h files.0 = subst (NamesNone other h) (files_same free.0 files.0 first free.1 files.1) free.2.1 in
          Extends-weaker (commit.StandsForEither at) (MayStartAfter other start w lines h) first.ops after.ops
          (start-rows start w lines s batch t h files.0 does.schema other apart none) does.images;
      consumers = leaves_of (λ f. Extends (KeepsConsumers h f) first.ops after.ops) files.0 first files.1
          (Extends-weaker (commit.StandsForEither at) (KeepsConsumers h files.0) first.ops after.ops
          (keeps-consumers start w lines s batch t h files.0 does.schema) does.images);
      adds = leaves_of (λ f. Extends (AddsOwn (actor start) (path_after h) f) first.ops after.ops) files.0 first files.1
          (Extends-weaker (commit.StandsForEither at) (AddsOwn (actor start) (path_after h) files.0) first.ops after.ops
          (adds-own start w lines s batch t h files.0 does.schema) does.images);
    }

-- ---- what a crash may leave

-- the next snapshot is there only where the rows are
pub image_of : (start : Start) (w : Writer) (lines : Lines) (h : History) (f : Files) → StandsForEither start w lines h f → IsImage start w lines h f
image_of start w lines h f either = record { either = either; published = λ within there. published_of h either within there }
  where
    published_of : (h : History) → StandsForEither start w lines h f → count_of h + 1 ≤ greatest → IsSome (map.get f (next_path h)) → HasRows start w lines h f
    published_of h (inl folder) within there = absurd (none_next h f folder within there)
    published_of h (inr rows) within there = rows

images_are : (start : Start) (w : Writer) (lines : Lines) (h : History) (first after : Option (List Op)) → Extends (StandsForEither start w lines h) first after
    → Extends (IsImage start w lines h) first after
images_are start w lines h first after images =
    Extends-weaker (StandsForEither start w lines h) (IsImage start w lines h) first after (image_of start w lines h) images

-- what the law of the same contents says
abbrev pub SameContents : Type 0
SameContents = (f g : Files) (s : TableSchema) (x : Snapshot) (c : Contents) → ((path : List ℕ) → IsNamed s x c path → map.get g path ≡ map.get f path)
    → HasContents f s x c → HasContents g s x c

-- who may start may do so where no file has another content
pub same_starts : SameContents → (me : Actor) (h : History) (f g : Files) → MayStart me h f → HaveSame f g → Folder g h → MayStart me h g
same_starts law me h f g (folder, none) same stands = (
  stands,
  λ s id path table low high (x, c, ((bytes, there, reads), has), is) by.
      none s id path table low high
      (x, c, ((bytes, sym (same (snapshot_path id)) ∙ there, reads), law g f s x c (λ path named. sym (same path)) has), is) by,
)

-- ---- and what was printed

pub refused_written : (start : Start) (w : Writer) (lines : Lines) (e : Refusal) (out : SinkView) (store after : StoreView)
    → HasTrace (DidWrite start w lines (Err e)) store after → KeepsHistories start w lines store after (Err e)
    → IsWritten start w lines out out store after (Some e)
refused_written start w lines e out store after trace kept = (Err e, trace, kept, (refl, refl))

pub printed_written : (start : Start) (w : Writer) (lines : Lines) (done : Written) (out out_after : SinkView) (store after : StoreView) (answer : Option Refusal)
    → HasTrace (DidWrite start w lines (Ok done)) store after → KeepsHistories start w lines store after (Ok done)
    → Prints (text_of (Ok done)) (snapshot_of (Ok done)) None out out_after answer → IsWritten start w lines out out_after store after answer
printed_written start w lines done out out_after store after answer trace kept prints = (Ok done, trace, kept, prints)

-- ---- what is answered

lines_written : (start : Start) (w : Writer) (lines : Lines) (before after : Outside) (answer : Option Refusal)
    → IsWritten start w lines before.out after.out before.store after.store answer → WritesLines start w lines before after answer
lines_written start w lines before after answer (made, trace, kept, prints) = (made, trace, prints)

pub input_refused : (start : Start) (w : Writer) (bytes : List ℕ) (before after : SourceView) (out : SinkView) (store : StoreView) (e : Refusal)
    → RefusesInput bytes before after e → AnswersWrite start w bytes (outside before out store) (outside after out store) (Some e)
input_refused start w bytes before after out store e refuses = inl (e, refl, refuses, record { store = refl; out = refl })

pub input_acts : (start : Start) (w : Writer) (before after : SourceView) (out : SinkView) (store : StoreView) (e : Refusal)
    → MayRefuseInput before after e → ActsWrite start w (outside before out store) (outside after out store) (Some e)
input_acts start w before after out store e may = inl (e, refl, may, record { store = refl; out = refl })

pub input_written : (start : Start) (w : Writer) (bytes : List ℕ) (lines : Lines) (before after : Outside) (answer : Option Refusal)
    → HasLines bytes after.input lines → IsWritten start w lines before.out after.out before.store after.store answer
    → AnswersWrite start w bytes before after answer
input_written start w bytes lines before after answer has wrote =
    inr (has.within, has.left, subst (λ (lines : Lines). WritesLines start w lines before after answer) has.are (lines_written start w lines before after answer wrote))

pub lines_acts : (start : Start) (w : Writer) (lines : Lines) (before after : Outside) (answer : Option Refusal)
    → IsWritten start w lines before.out after.out before.store after.store answer → ActsWrite start w before after answer
lines_acts start w lines before after answer wrote = inr (lines, lines_written start w lines before after answer wrote)

-- ---- a history

-- a store that isn't called leaves one image
images_left : (P : Files → Type 0) (f : Files) (store : StoreView) → HasFiles f store → P f → Extends P store.ops store.ops
images_left P f store has p =
    Extends-refl P store.ops (λ ops told. subst P (sym (subst (λ (known : Option (List Op)). IsSomeAnd known (λ ops. files_after ops ≡ f)) told has)) p)

-- the input was refused, and nothing done
pub refused_serves : (start : Start) (w : Writer) (before after : SourceView) (out : SinkView) (store : StoreView) (e : Refusal)
    → IfSome before.left (λ bytes. RefusesInput bytes before after e) → WritesTables start w (outside before out store) (outside after out store) (Some e)
refused_serves start w before after out store e refuses =
    uncalled (λ first _. (h : History) (bytes : List ℕ) → LeavesFiles (MayStart (actor start) h) first → before.left ≡ Some bytes
    → WritesTable start w bytes h first (outside before out store) (outside after out store) (Some e)) store
    (λ h bytes begins is.
    let files = files_of (MayStart (actor start) h) store begins in record {
      answers = inl (
        (e, refl, at_known (λ bytes. RefusesInput bytes before after e) before.left bytes is refuses, record { store = refl; out = refl }),
        leaves_of (λ f. Folder f h) files.0 store files.1 files.2.0,
      );
      images = images_are start w (row_lines bytes) h store.ops store.ops
          (images_left (StandsForEither start w (row_lines bytes) h) files.0 store files.1 (inl files.2.0));
      free = λ other apart starts.
          let free = files_of (MayStart other h) store starts in
          images_left (MayStartAfter other start w (row_lines bytes) h) free.0 store free.1 (inl free.2);
      consumers = consumers_stay h files.0 store store files.1 (images_left (λ g. g ≡ files.0) files.0 store files.1 refl);
      adds = adds_none start h files.0 store store files.1 (images_left (λ g. g ≡ files.0) files.0 store files.1 refl);
    })

refusal_answers : (start : Start) (w : Writer) (lines : Lines) (h : History) (first : StoreView) (before after : Outside) (e : Refusal)
    → Spoils start w lines h first after.store e → after.out ≡ before.out → AnswersLines start w lines h first before after (Some e)
refusal_answers start w lines h first before after (refusals.SinkFault snapshot) spoils same = absurd spoils
refusal_answers start w lines h first before after e spoils same = (spoils, same)

made_answers : (start : Start) (w : Writer) (lines : Lines) (h : History) (first : StoreView) (before after : Outside) (made : Result Written Refusal)
    (answer : Option Refusal) → MakesOf start w lines h first after.store made
    → Prints (text_of made) (snapshot_of made) (result_err made) before.out after.out answer → AnswersLines start w lines h first before after answer
made_answers start w lines h first before after (Ok done) None makes prints = (done, makes, prints)
made_answers start w lines h first before after (Ok done) (Some e) makes (fault, failed, prefix) =
    subst (λ (e : Refusal). AnswersLines start w lines h first before after (Some e)) (sym fault) (done, makes, refl, failed, prefix)
made_answers start w lines h first before after (Err e) answer makes (is, untaken) =
    subst (AnswersLines start w lines h first before after) (sym is) (refusal_answers start w lines h first before after e makes untaken)

pub lines_serve : (start : Start) (w : Writer) (lines : Lines) (before after : Outside) (answer : Option Refusal)
    → IfSome before.input.left (λ bytes. HasLines bytes after.input lines)
    → IsWritten start w lines before.out after.out before.store after.store answer → WritesTables start w before after answer
lines_serve start w lines before after answer read (made, trace, kept, prints) = λ alone h bytes begins is.
    let first = at_first_own before.store after.store in
    let has = at_known (λ bytes. HasLines bytes after.input lines) before.input.left bytes is read in
    let was = kept alone h begins in
    let answers = made_answers start w lines h first before after made answer was.makes prints in record {
      answers = inr (has.within, has.left, subst (λ (lines : Lines). AnswersLines start w lines h first before after answer) has.are answers);
      images = subst (λ (lines : Lines). Extends (IsImage start w lines h) first.ops after.store.ops) has.are
          (images_are start w lines h first.ops after.store.ops was.images);
      free = λ other apart starts. subst (λ (lines : Lines). Extends (MayStartAfter other start w lines h) first.ops after.store.ops) has.are
          (was.free other apart starts);
      consumers = was.consumers;
      adds = was.adds;
    }

-- ---- what is done by the answer of the batch

-- the rows that were taken of the lines
pub taken_rows : (s : TableSchema) (lines : Lines) (batch : Groups) → ReadsBatch s (Ok batch) (all_taken s lines)
    → (rows : List HistoryRow) × IsBatchOf s rows batch
taken_rows s lines batch (rows, taken, is) = (rows, is)

-- a batch that was read has few enough groups
pub few_read : ((s : TableSchema) (rows : List HistoryRow) (batch : Groups) → IsBatchOf s rows batch → length batch ≤ length rows)
    → ((s : TableSchema) (lines : Lines) (rows : List HistoryRow) → all_taken s lines ≡ Ok rows → length rows ≤ limits.rows)
    → (s : TableSchema) (lines : Lines) (batch : Groups) → ReadsBatch s (Ok batch) (all_taken s lines) → length batch ≤ group_limit
few_read few room s lines batch (rows, taken, is) =
    let low = few s rows batch is in
    let high = room s lines rows taken in
    omega (arith, low, high)

-- what the law of batches says
abbrev pub EmptyLaw : Type 0
EmptyLaw = (s : TableSchema) (rows : List HistoryRow) (batch : Groups) → IsBatchOf s rows batch → ((batch ≡ [] → rows ≡ []) × (rows ≡ [] → batch ≡ []))

pub none_taken : EmptyLaw → (s : TableSchema) (lines : Lines) (batch : Groups) → ReadsBatch s (Ok batch) (all_taken s lines) → batch ≡ []
    → all_taken s lines ≡ Ok []
none_taken law s lines batch (rows, taken, is) none = taken ∙ ap Ok ((law s rows batch is).0 none)

pub some_taken : EmptyLaw → (start : Start) (w : Writer) (lines : Lines) (s : TableSchema) (batch : Groups) → IsDeclared s
    → ReadsBatch s (Ok batch) (all_taken s lines) → batch ≢ [] → IsTakenOf start w lines s batch
some_taken law start w lines s batch declared (rows, taken, is) some = record {
  rows = rows;
  declared = declared;
  taken = taken;
  some = λ none. some ((law s rows batch is).1 none);
  batch_of = is;
}
