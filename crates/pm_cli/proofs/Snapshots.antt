-- The promise of `snapshots`.
use Rattle.std.proofs.Common.{◌≡◌, ◌≢◌, ℕ, zero, suc, ◌-◌, ◌≤◌, List, [], ◌∷◌, length, map, take, slice_get, Contains, Option, None, Some, IsSome, Result, Ok, Err, inl, inr, refl, sym, subst, ap, ◌∙◌, arith}
use Rattle.std.specs.FinMap as finite
use Rattle.std.specs.List.{AllByRecursion}
use Rattle.std.specs.Result.{result_err}
use Rattle.pm_values.specs.declared.refusal.Refusal.{Refusal}
use Rattle.pm_values.specs.declared.refusal.Refusal.TheVariants as refusals
use Rattle.pm_io.specs.Sink.{SinkView}
use Rattle.pm_machine.specs.Trace.{Event}
use Rattle.pm_store.specs.Files.{Files}
use Rattle.pm_model_history.specs.History.{Entry, append, compaction, fence, History, no_table, table}
use Rattle.pm_schema.specs.declared.schema.TableSchema.{TableSchema}
use Rattle.pm_snapshot.specs.Names.{greatest}
use Rattle.pm_snapshot.specs.declared.snapshot.Snapshot.{Snapshot}
use Rattle.pm_model_folder.specs.Commits.{IsCommitted}
use Rattle.pm_model_folder.specs.Entries.{BearsEntry, entry_at}
use Rattle.pm_model_folder.specs.Folder.{Folder, HasTable, IsFrom}
use Rattle.pm_model_folder.specs.Meaning.{SnapshotAt}
use Rattle.pm_model_folder.specs.Paths.{snapshot_path}
use Rattle.pm_model_folder.proofs.HoldLemmas.{one-snapshot}
use Rattle.pm_create.specs.Making.{LeavesFiles}
use Rattle.pm_paths.proofs.ListLemmas.{here, more}
use Rattle.pm_snapshots.specs.AllCalls.{AreLinesOf}
use Rattle.pm_snapshots.specs.Lines.{line_of, snapshots_text}
use Rattle.pm_snapshots.specs.Meaning.{IsLineAt}
use Rattle.pm_snapshots.specs.declared.line.SnapshotLine.{SnapshotLine}
use Rattle.pm_words.specs.declared.command.Command.TheVariants as commands
use Rattle.pm_command.specs.Outside.{Prints}
use Rattle.pm_command_snapshots.specs.Snapshots.{AnswersHistory, DidSnapshots, ListsSnapshots, text_of}
use Rattle.pm_cli.specs.InTurn.{IsExecuted}
use Rattle.pm_cli.specs.Promise.{Does, Execution, Keeps, HasMade, found_by, lists}
use Rattle.pm_cli.specs.Snapshots.{AreLines, LineBears}
use Rattle.pm_cli.proofs.Common.{any_both, makes_nothing, none_made, sink_same, with_command}
use Rattle.pm_cli.proofs.Resting.{SameStarts, resting, unprinted}

-- ---- what lines bear of a history

get_take : (es : List Entry) (k : ℕ) → slice_get (take (suc k) es) k ≡ slice_get es k
get_take [] k = refl
get_take (e ∷ es) zero = refl
get_take (e ∷ es) (suc k) = get_take es k

entry_taken : (es : List Entry) (k : ℕ) → slice_get (take (suc k) es) (suc k - 1) ≡ slice_get es (suc k - 1)
entry_taken es k =
    let same : suc k - 1 ≡ k = omega arith in
    ap (slice_get (take (suc k) es)) same ∙ get_take es k ∙ sym (ap (slice_get es) same)

pub bears_entry : (f : Files) (s : TableSchema) (es : List Entry) (stands : HasTable f s es) (id : ℕ) (x : Snapshot) → SnapshotAt f id x
    → IsFrom stands.snapshots.least (length es) id → BearsEntry (entry_at es id) x
bears_entry f s es stands zero x at from = absurd (let low = from.after_origin in omega (arith, low))
bears_entry f s es stands (suc k) x at from =
    let commit : IsCommitted f s (take (suc k) es) (suc k) = stands.commits.committed (suc k) from in
    let same : commit.snapshot ≡ x = one-snapshot f (suc k) commit.snapshot x commit.there at in
    subst (λ (o : Option Entry). BearsEntry o x) (entry_taken es k)
    (subst (λ (x : Snapshot). BearsEntry (slice_get (take (suc k) es) (suc k - 1)) x) same commit.entry)

-- a snapshot that is there is one of the history's
pub from_there : (f : Files) (s : TableSchema) (es : List Entry) (stands : HasTable f s es) (id : ℕ) → 1 ≤ id → id ≤ greatest
    → IsSome (finite.get f (snapshot_path id)) → IsFrom stands.snapshots.least (length es) id
from_there f s es stands zero low within there = absurd (omega (arith, low))
from_there f s es stands (suc k) low within there =
    let bounds = (stands.snapshots.exact (suc k) within).0 there in
    record { after_origin = low; from = bounds.0; to = bounds.1 }

there_from : (f : Files) (s : TableSchema) (es : List Entry) (stands : HasTable f s es) (id : ℕ) → 1 ≤ id → stands.snapshots.least ≤ id
    → id ≤ length es → (id ≤ greatest) × IsSome (finite.get f (snapshot_path id))
there_from f s es stands zero low from to = absurd (omega (arith, low))
there_from f s es stands (suc k) low from to =
    let most = stands.snapshots.within in
    let within : suc k ≤ greatest = omega (arith, to, most) in
    (within, (stands.snapshots.exact (suc k) within).1 (from, to))

line_bears : (o : Option Entry) (x : Snapshot) → BearsEntry o x → LineBears o (line_of x)
line_bears (Some (append user identifier rows)) x bears = bears
line_bears (Some (compaction base groups)) x bears = tt
line_bears (Some (fence number)) x bears = tt
line_bears None x bears = bears

abbrev ids_of : List SnapshotLine → List ℕ
ids_of lines = map (λ l. l.id) lines

abbrev AtEntry : List Entry → SnapshotLine → Type 0
AtEntry es l = LineBears (entry_at es l.id) l

one_line : (f : Files) (s : TableSchema) (es : List Entry) (stands : HasTable f s es) (l : SnapshotLine) → IsLineAt f l
    → IsFrom stands.snapshots.least (length es) l.id → AtEntry es l
one_line f s es stands l (x, at, is) from =
    subst (λ (m : SnapshotLine). LineBears (entry_at es l.id) m) (sym is)
    (line_bears (entry_at es l.id) x (bears_entry f s es stands l.id x at from))

each_line : (f : Files) (s : TableSchema) (es : List Entry) (stands : HasTable f s es) (lines : List SnapshotLine)
    → ((id : ℕ) → Contains (ids_of lines) id → IsFrom stands.snapshots.least (length es) id) → AllByRecursion (IsLineAt f) lines
    → AllByRecursion (AtEntry es) lines
each_line f s es stands [] all are = tt
each_line f s es stands (l ∷ lines) all (is, are) = (
  one_line f s es stands l is (all l.id (here l.id (ids_of lines))),
  each_line f s es stands lines (λ id c. all id (more l.id (ids_of lines) id c)) are,
)

lines_are : (f : Files) (s : TableSchema) (es : List Entry) (lines : List SnapshotLine) → HasTable f s es → AreLinesOf f lines → AreLines es lines
lines_are f s es lines stands are = record {
  least = stands.snapshots.least;
  some = stands.snapshots.some;
  rising = are.ids.rising;
  exact = λ id. (
    λ c. let at = all id c in (at.after_origin, at.from, at.to),
    λ (low, from, to). let there = there_from f s es stands id low from to in (are.ids.exact id).1 (low, there.0, there.1),
  );
  each = each_line f s es stands lines all are.each;
}
  where
    all : (id : ℕ) → Contains (ids_of lines) id → IsFrom stands.snapshots.least (length es) id
    all id c = let at = (are.ids.exact id).0 c in from_there f s es stands id at.0 at.1 at.2

-- ---- what it does

does : (e : Execution) (h : History) (lines : List SnapshotLine) → h ≢ no_table → LeavesFiles (λ f. AreLinesOf f lines) (found_by e)
    → LeavesFiles (λ f. Folder f h) (found_by e) → Does e.start e.input (found_by e) commands.Snapshots h h (snapshots_text lines)
does e no_table lines some are stands = absurd (some refl)
does e (table s es) lines some are stands =
    lists s es lines
    (any_both (λ f. Folder f (table s es)) (λ f. AreLinesOf f lines) (AreLines es lines) (found_by e)
    (λ f folder are. lines_are f s es lines folder are) stands are) are

-- no calls of a listing show a fault of the sink
not_shown : (own : List Event) (snapshot : Option ℕ) → DidSnapshots (Err (refusals.SinkFault snapshot)) own → ⊥
not_shown own snapshot (inl shows) = shows
not_shown own snapshot (inr (s, declared, from, inl shows)) = shows
not_shown own snapshot (inr (s, declared, from, inr shows)) = shows

none_named : (made : Result (List SnapshotLine) Refusal) (own : List Event) (before after : SinkView) (snapshot : Option ℕ) → DidSnapshots made own
    → Prints (text_of made) None (result_err made) before after (Some (refusals.SinkFault snapshot)) → snapshot ≡ None
none_named (Ok lines) own before after snapshot did says = sink_same snapshot None says.0
none_named (Err e) own before after snapshot did says =
    absurd (not_shown own snapshot (subst (λ (e : Refusal). DidSnapshots (Err e) own) (let same : e ≡ refusals.SinkFault snapshot = cc in same) did))

makes : (e : Execution) (h : History) (answer : Option Refusal) → ListsSnapshots e.before e.after answer
    → LeavesFiles (λ f. Folder f h) (found_by e) → AnswersHistory h (found_by e) e.before e.after answer
    → HasMade (with_command commands.Snapshots e) h answer h
makes e h None acts stands (some, (lines, are, taken)) = (snapshots_text lines, does e h lines some are stands, taken)
makes e h (Some (refusals.SinkFault snapshot)) (made, (own, did, traces), beside, says) stands (failed, some, (lines, are, taken)) =
    let none = none_named made own e.before.out e.after.out snapshot did says in
    (snapshots_text lines, does e h lines some are stands, taken, none ∙ none_made h)
makes e h (Some refusal) (made, trace, beside, prints) stands may =
    makes_nothing (with_command commands.Snapshots e) h refusal tt (unprinted (text_of made) (result_err made) e.before.out e.after.out refusal tt prints)

pub keeps : SameStarts → (e : Execution) → IsExecuted (with_command commands.Snapshots e) → Keeps (with_command commands.Snapshots e)
keeps law e is = λ alone h stands input.
    let was = is.history alone h stands in
    resting law (with_command commands.Snapshots e) h (found_by e) (makes e h e.refusal is.acts stands was.answers) was.rests was.images (λ f. (tt, tt))
