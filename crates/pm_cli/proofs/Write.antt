-- The promise of `write`.
use Rattle.std.proofs.Common.{◌≡◌, ◌⊎◌, inl, inr, ℕ, ℤ, zero, suc, ◌+◌, ◌-◌, ◌≤◌, List, [], ◌∷◌, ◌++◌, length, slice_get, Bool, true, false, not, bytes_eq, int_lt, if◌then◌else◌, Option, None, Some, IsSome, Result, Ok, refl, sym, ap, subst, ◌∙◌, arith}
use Rattle.std.proofs.lemmas.Slice.Eq.{bytes_eq-Decides}
use Rattle.pm_values.specs.declared.refusal.Refusal.{Refusal}
use Rattle.pm_values.specs.declared.refusal.Refusal.TheVariants as refusals
use Rattle.pm_store.specs.Files.{Files}
use Rattle.pm_store.specs.Images.{Extends}
use Rattle.pm_store.specs.Store.{StoreView}
use Rattle.pm_store.proofs.ImageLaws.{Extends-weaker}
use Rattle.pm_model_history.specs.History.{Entry, append, compaction, fence, History, no_table, table}
use Rattle.pm_model_history.specs.Merge.{HistoryRow}
use Rattle.pm_input.specs.Lines.{row_lines}
use Rattle.pm_schema.specs.declared.schema.TableSchema.{TableSchema}
use Rattle.pm_snapshot.specs.declared.snapshot.Snapshot.{Snapshot}
use Rattle.pm_snapshot.specs.Names.{greatest}
use Rattle.pm_model_folder.specs.Changes.{Actor, IsNoOrigin}
use Rattle.pm_model_folder.specs.Entries.{BearsEntry}
use Rattle.pm_model_folder.specs.Folder.{Folder, HasTable, IsFrom, KeepsConsumers}
use Rattle.pm_model_folder.specs.Ledger.{count_of}
use Rattle.pm_model_folder.specs.Meaning.{SnapshotAt}
use Rattle.pm_create.specs.Creator.{own_origin}
use Rattle.pm_create.specs.Making.{LeavesFiles}
use Rattle.pm_write.specs.Taken.{all_taken}
use Rattle.pm_made.specs.declared.newest.Author.{Author}
use Rattle.pm_commit.specs.AllCalls.{HasBorne}
use Rattle.pm_commit.specs.AllCalls as commit
use Rattle.pm_commit.specs.Meaning.{AddsOwn, path_after}
use Rattle.pm_commit.specs.Search.{seen_of}
use Rattle.pm_commit.specs.declared.search.Seen.TheVariants as seen
use Rattle.pm_words.specs.declared.command.Command.TheVariants as commands
use Rattle.pm_command.specs.Outside.{actor, next_path}
use Rattle.pm_command.specs.declared.start.Start.{Start}
use Rattle.pm_command_write.specs.Input.{RefusesInput}
use Rattle.pm_command_write.specs.Write.{AnswersHistory, AnswersLines, Becomes, BeginsWith, HasRows, HasRowsAs, IsImage, Lines, MayStartAfter, Spoils, StandsAfterFault, TakesRows, WritesTable, author_of, entry_by, snapshot_of, text_of, writer_of}
use Rattle.pm_command_write.specs.declared.writer.Writer.{Writer}
use Rattle.pm_command_write.specs.declared.write.Written.{Written}
use Rattle.pm_command_write.specs.declared.write.Written.TheVariants as written
use Rattle.pm_io.specs.Source.{SourceView}
use Rattle.pm_cli.specs.InTurn.{IsExecuted}
use Rattle.pm_cli.specs.Promise.{Does, Execution, HasMade, Keeps, KeepsIt, MayBecome, MayMake, StandsForOthers, commits, found_by, has_already, takes_none}
use Rattle.pm_cli.specs.Snapshots.{HasReached, IsReachedAt}
use Rattle.pm_cli.specs.Start.{IsNew, snapshot_made}
use Rattle.pm_cli.proofs.Common.{NotSink, StandsForSome, StandsForSomeFreely, WasNew, any_files, any_here, extends_both, extends_each, extends_end, images_turned, leaves_both, leaves_each, leaves_some, leaves_weaker, makes_nothing, none_made, one_made, one_more, other_than, still_settled, with_command}
use Rattle.pm_cli.proofs.Snapshots.{bears_entry, from_there}

-- ---- an earlier commit of the user

seen_cases : (b c : Bool) → (if not b then seen.Other else if c then seen.Below else seen.Reached) ≡ seen.Reached → (b ≡ true) × (c ≡ false)
seen_cases true false e = (refl, refl)
seen_cases true true e = absurd (below e)
  where
    below : seen.Below ≡ seen.Reached → ⊥
    below e = cc
seen_cases false c e = absurd (elsewhere e)
  where
    elsewhere : seen.Other ≡ seen.Reached → ⊥
    elsewhere e = cc

seen_reached : (author : Author) (x : Snapshot) → seen_of author x ≡ seen.Reached → (x.user ≡ author.user) × (int_lt x.ident author.identifier ≡ false)
seen_reached author x e =
    let both = seen_cases (bytes_eq x.user author.user) (int_lt x.ident author.identifier) e in
    ((bytes_eq-Decides x.user author.user).0 both.0, both.1)

entry_reached : (e : Entry) (x : Snapshot) (author : Author) → BearsEntry (Some e) x → seen_of author x ≡ seen.Reached → HasReached author.user author.identifier e
entry_reached (append name number rows) x author bears is =
    let reached = seen_reached author x is in
    (sym bears.0 ∙ reached.0, subst (λ (n : ℤ). int_lt n author.identifier ≡ false) bears.1 reached.1)
entry_reached (compaction base groups) x author bears is = tt
entry_reached (fence number) x author bears is = tt

abbrev Reaches : Author → List Entry → Files → Type 0
Reaches author es f = (i : ℕ) × (e : Entry) × (slice_get es i ≡ Some e) × HasReached author.user author.identifier e
    × IsReachedAt (suc i) author.user author.identifier f

at_entry : (author : Author) (es : List Entry) (f : Files) (x : Snapshot) (i : ℕ) (o : Option Entry) → slice_get es i ≡ o → BearsEntry o x
    → seen_of author x ≡ seen.Reached → SnapshotAt f (suc i) x → Reaches author es f
at_entry author es f x i None at bears is there = absurd bears
at_entry author es f x i (Some e) at bears is there =
    let reached = seen_reached author x is in
    (i, e, at, entry_reached e x author bears is, (x, there, reached.0, reached.1))

suc_less : (id : ℕ) → 1 ≤ id → suc (id - 1) ≡ id
suc_less zero low = absurd (omega (arith, low))
suc_less (suc k) low = let same : suc k - 1 ≡ k = omega arith in ap suc same

borne : (f : Files) (s : TableSchema) (es : List Entry) (author : Author) → HasTable f s es → HasBorne author f (table s es) → Reaches author es f
borne f s es author stands was =
    let most = stands.snapshots.within in
    let to : was.id ≤ length es = was.within in
    let within : was.id ≤ greatest = omega (arith, to, most) in
    let there = subst (λ (o : Option (List ℕ)). IsSome o) (sym was.there.1) refl in
    let from : IsFrom stands.snapshots.least (length es) was.id = from_there f s es stands was.id was.after_origin within there in
    at_entry author es f was.snapshot (was.id - 1) (slice_get es (was.id - 1)) refl
    (bears_entry f s es stands was.id was.snapshot was.there from) was.reached
    (subst (λ (id : ℕ). SnapshotAt f id was.snapshot) (sym (suc_less was.id was.after_origin)) was.there)

-- ---- one history at a time

ok_same : (taken : Result (List HistoryRow) Refusal) (a b : List HistoryRow) → taken ≡ Ok a → taken ≡ Ok b → a ≡ b
ok_same taken a b is other = cc

module _ (user : Option (List ℕ)) (number : Option ℕ) (e : Execution) where
  abbrev it : Execution
  it = with_command (commands.Write user number) e

  abbrev w : Writer
  w = writer_of user number

  abbrev lines : Lines
  lines = row_lines e.input

  abbrev Done : History → History → List ℕ → Type 0
  Done h later text = Does e.start e.input (found_by e) (commands.Write user number) h later text

  -- ---- the rows are at the end of the history

  taken_by : (t s : TableSchema) (rows : List HistoryRow) → t ≡ s → all_taken s lines ≡ Ok rows → all_taken t lines ≡ Ok rows
  taken_by t s rows same = subst (λ (s : TableSchema). all_taken s lines ≡ Ok rows) (sym same)

  -- so stand files for what it does
  abbrev DoneAs : (History → Files → Type 0) → History → ℕ → Files → Type 0
  DoneAs Stands h id f = (later : History) × (Done h later (text_of (Ok (written.Committed id))) × (Some id ≡ snapshot_made h later)) × Stands later f

  rows_done : (Stands : History → Files → Type 0) (h : History) (id : ℕ) (f : Files) → id ≡ count_of h + 1 → HasRowsAs Stands e.start w lines h f
      → DoneAs Stands h id f
  rows_done Stands no_table id f is has = absurd has.takes.1
  rows_done Stands (table t es) id f is has =
      let took = taken_by t has.takes.0 has.rows has.takes.1 has.takes.2 in
      let later : History = table t (es ++ entry_by e.start w has.rows ∷ []) in
      let next : suc (length es) ≡ id = omega (arith, is) in
      let done = subst (λ (id : ℕ). Done (table t es) later (text_of (Ok (written.Committed id)))) next (commits user number t es has.rows took has.some) in
      (later, (done, one_made t es (entry_by e.start w has.rows) id is), has.stands)

  may_have : (Stands : History → Files → Type 0) (h : History) (f : Files) → HasRowsAs Stands e.start w lines h f → StandsForSome Stands it h f
  may_have Stands h f has =
      let done = rows_done Stands h (count_of h + 1) f refl has in
      (done.0, inr (text_of (Ok (written.Committed (count_of h + 1))), done.1.0), done.2)

  either : (Stands : History → Files → Type 0) (h : History) (f : Files) → Stands h f ⊎ HasRowsAs Stands e.start w lines h f → StandsForSome Stands it h f
  either Stands h f (inl stands) = (h, inl refl, stands)
  either Stands h f (inr has) = may_have Stands h f has

  -- ---- no row, or committed before

  none_done : (h : History) → TakesRows h lines [] → Done h h (text_of (Ok written.Nothing))
  none_done no_table takes = absurd takes.1
  none_done (table t es) takes = takes_none user number t es (taken_by t takes.0 [] takes.1 takes.2)

  abbrev Was : History → Files → Type 0
  Was h f = BeginsWith e.start w lines h (λ b. HasBorne b.own.author b.files b.history) f

none_some : (o : Option (List ℕ)) → o ≡ None → IsSome o → ⊥
none_some o none is = cc

already_named : (name : List ℕ) (number : Option ℕ) (e : Execution) (h : History) (f : Files) → Was (Some name) number e h f → Folder f h
    → ((T : Files → Type 0) → T f → LeavesFiles T (found_by e)) → Done (Some name) number e h h (text_of (Ok written.Already))
already_named name number e no_table f begins folder here = absurd begins.takes.1
already_named name number e (table t es) f begins folder here =
    let took = taken_by (Some name) number e t begins.takes.0 begins.rows begins.takes.1 begins.takes.2 in
    let author = author_of e.start (writer_of (Some name) number) in
    let found : Reaches author es f = borne f t es author folder begins.is in
    has_already name number t es begins.rows found.0 found.1 took begins.some found.2 found.3
    (here (IsReachedAt (suc found.0) author.user author.identifier) found.4)

already_done : (user : Option (List ℕ)) (number : Option ℕ) (e : Execution) (h : History) → IsSome user
    → LeavesFiles (Was user number e h) (found_by e) → LeavesFiles (λ f. Folder f h) (found_by e)
    → Done user number e h h (text_of (Ok written.Already))
already_done None number e h some was stands = absurd (none_some None refl some)
already_done (Some name) number e h some was stands =
    any_here (λ f. Was (Some name) number e h f × Folder f h) (Done (Some name) number e h h (text_of (Ok written.Already))) (found_by e)
    (λ f both here. already_named name number e h f both.0 both.1 here)
    (leaves_both (Was (Some name) number e h) (λ f. Folder f h) (λ f. Was (Some name) number e h f × Folder f h) (found_by e)
    (λ f was folder. (was, folder)) was stands)

abbrev NotStore : Refusal → Type 0
NotStore (refusals.StoreFault path) = ⊥
NotStore other = Unit {0}

stays : (start : Start) (w : Writer) (all : Lines) (h : History) (first after : StoreView) (e : Refusal) → NotStore e
    → Spoils start w all h first after e → LeavesFiles (λ f. Folder f h) after
stays start w all h first after refusals.Memory other spoils = spoils
stays start w all h first after (refusals.StoreFault path) other spoils = absurd other
stays start w all h first after refusals.NoTable other spoils = spoils.1.folder
stays start w all h first after (refusals.BadLine number why column) other spoils = spoils.1.folder
stays start w all h first after (refusals.Retraction number column) other spoils = spoils.1.folder
stays start w all h first after (refusals.SessionUsed path) other spoils = spoils.1
stays start w all h first after (refusals.Fenced base high) other spoils = spoils.1.folder
stays start w all h first after (refusals.Limit which number) other spoils = spoils.1.folder
stays start w all h first after e other spoils = absurd spoils

not_sink_input : (bytes : List ℕ) (before after : SourceView) (e : Refusal) → RefusesInput bytes before after e → NotSink e
not_sink_input bytes before after (refusals.SinkFault snapshot) refuses = absurd refuses
not_sink_input bytes before after e refuses = tt

module _ (user : Option (List ℕ)) (number : Option ℕ) (e : Execution) (h : History) (stands : LeavesFiles (λ f. Folder f h) (found_by e)) where
  abbrev after : StoreView
  after = e.after.store

  abbrev first : StoreView
  first = found_by e

  -- ---- what became of the lines

  abbrev Did : Written → Type 0
  Did done = (later : History) × (Done user number e h later (text_of (Ok done)) × (snapshot_of (Ok done) ≡ snapshot_made h later)) × LeavesFiles (λ f. Folder f later) after

  did : (done : Written) → Becomes e.start (w user number e) (lines user number e) h first after done → Did done
  did written.Nothing becomes = (h, (none_done user number e h becomes.0, none_made h), becomes.1.folder)
  did written.Already becomes = (h, (already_done user number e h becomes.0 becomes.1 stands, none_made h), becomes.2.folder)
  did (written.Committed id) becomes =
      leaves_some (λ later. Done user number e h later (text_of (Ok (written.Committed id))) × (Some id ≡ snapshot_made h later)) (λ later f. Folder f later) after
      (leaves_weaker (HasRows e.start (w user number e) (lines user number e) h) (DoneAs user number e (λ h f. Folder f h) h id) after
      (λ f has. rows_done user number e (λ h f. Folder f h) h id f becomes.0 has) becomes.2)

  abbrev IsEnd : Option Refusal → Type 0
  IsEnd answer = (later : History) × (HasMade (it user number e) h answer later × MayMake (it user number e) h later) × LeavesFiles (λ f. Folder f later) after

  -- what it may make where a call at the path failed
  abbrev MadeAt : List ℕ → History → Type 0
  MadeAt path later = MayMake (it user number e) h later × ((later ≡ h) ⊎ (path ≡ next_path h))

  after_fault : (path : List ℕ) (f : Files) → StandsAfterFault e.start (w user number e) (lines user number e) h path f
      → (later : History) × MadeAt path later × Folder f later
  after_fault path f (inl folder) = (h, (inl refl, inl refl), folder)
  after_fault path f (inr (at, has)) =
      let made = may_have user number e (λ h f. Folder f h) h f has in
      (made.0, (made.1, inr at), made.2)

  ended_lines : (answer : Option Refusal) → AnswersLines e.start (w user number e) (lines user number e) h first e.before e.after answer → IsEnd answer
  ended_lines None (done, becomes, taken) = let all = did done becomes in (all.0, ((text_of (Ok done), all.1.0, taken), inr (text_of (Ok done), all.1.0)), all.2)
  ended_lines (Some (refusals.SinkFault snapshot)) (done, becomes, is, failed, took) =
      let all = did done becomes in
      (all.0, ((text_of (Ok done), all.1.0, took, is ∙ all.1.1), inr (text_of (Ok done), all.1.0)), all.2)
  ended_lines (Some (refusals.StoreFault path)) ((rose, left), out) =
      let all = leaves_some (MadeAt path) (λ later f. Folder f later) after
      (leaves_weaker (StandsAfterFault e.start (w user number e) (lines user number e) h path) (λ f. (later : History) × MadeAt path later × Folder f later) after
      (λ f is. after_fault path f is) left) in
      (all.0, ((all.1.0, all.1.1, out), all.1.0), all.2)
  ended_lines (Some refusal) answers =
      (h, (makes_nothing (it user number e) h refusal tt answers.1, inl refl), stays e.start (w user number e) (lines user number e) h first after refusal tt answers.0)

  ended : (answer : Option Refusal) → AnswersHistory e.start (w user number e) e.input h first e.before e.after answer → IsEnd answer
  ended answer (inl ((refusal, is, refuses, untouched), rests)) =
      subst IsEnd (sym is)
      (h, (makes_nothing (it user number e) h refusal (not_sink_input e.input e.before.input e.after.input refusal refuses) untouched.out, inl refl), rests)
  ended answer (inr (within, left, answers)) = ended_lines answer answers

-- ---- whoever was new is new

-- Files that stand for what it made, and in which the other may start on something that it may make.
abbrev MayNow : Option (List ℕ) → Option ℕ → Execution → History → Actor → Files → Type 0
MayNow user number e h other f = MayStartAfter other e.start (writer_of user number) (row_lines e.input) h f

new_here : (user : Option (List ℕ)) (number : Option ℕ) (e : Execution) (t : TableSchema) (es : List Entry) (other : Actor) (f : Files)
    → IsNoOrigin (table t es) (own_origin other) → Folder f (table t es) → MayNow user number e (table t es) other f → IsNew other (table t es) f
new_here user number e t es other f origin folder (inl may) = record { folder = folder; origin = origin; names = may.1 }
new_here user number e t es other f origin folder (inr has) =
    absurd (one_more f t es (entry_by e.start (writer_of user number) has.rows) folder has.stands.0)

new_with_rows : (user : Option (List ℕ)) (number : Option ℕ) (e : Execution) (t : TableSchema) (es : List Entry) (other : Actor) (f : Files)
    (rows : List HistoryRow) → IsNoOrigin (table t es) (own_origin other) → all_taken t (row_lines e.input) ≡ Ok rows
    → Folder f (table t (es ++ entry_by e.start (writer_of user number) rows ∷ [])) → MayNow user number e (table t es) other f
    → IsNew other (table t (es ++ entry_by e.start (writer_of user number) rows ∷ [])) f
new_with_rows user number e t es other f rows origin took folder (inl may) =
    absurd (one_more f t es (entry_by e.start (writer_of user number) rows) may.0 folder)
new_with_rows user number e t es other f rows origin took folder (inr has) =
    let its = taken_by user number e t has.takes.0 has.rows has.takes.1 has.takes.2 in
    let same : has.rows ≡ rows = ok_same (all_taken t (row_lines e.input)) has.rows rows its took in
    let named = subst (λ (rows : List HistoryRow). commit.NamesNone other (table t (es ++ entry_by e.start (writer_of user number) rows ∷ [])) f) same has.stands.1 in
    record { folder = folder; origin = origin; names = named }

new_done : (user : Option (List ℕ)) (number : Option ℕ) (e : Execution) (t : TableSchema) (es : List Entry) (other : Actor) (f : Files)
    (later : History) (text : List ℕ) → IsNoOrigin (table t es) (own_origin other)
    → Does e.start e.input (found_by e) (commands.Write user number) (table t es) later text → Folder f later → MayNow user number e (table t es) other f
    → IsNew other later f
new_done user number e t es other f later text origin (takes_none u n s entries took) folder starts = new_here user number e t es other f origin folder starts
new_done user number e t es other f later text origin (has_already name n s entries rows i entry took some at reached there) folder starts =
    new_here (Some name) number e t es other f origin folder starts
new_done user number e t es other f later text origin (commits u n s entries rows took some) folder starts =
    new_with_rows user number e t es other f rows origin took folder starts

new_at_end : (user : Option (List ℕ)) (number : Option ℕ) (e : Execution) (t : TableSchema) (es : List Entry) (later : History) (other : Actor) (f : Files)
    → IsNoOrigin (table t es) (own_origin other) → MayMake (with_command (commands.Write user number) e) (table t es) later → Folder f later
    → MayNow user number e (table t es) other f → IsNew other later f
new_at_end user number e t es later other f origin (inl same) folder starts =
    subst (λ (h : History). IsNew other h f) (sym same)
    (new_here user number e t es other f origin (subst (λ (h : History). Folder f h) same folder) starts)
new_at_end user number e t es later other f origin (inr (text, does)) folder starts = new_done user number e t es other f later text origin does folder starts

new_end : (user : Option (List ℕ)) (number : Option ℕ) (e : Execution) (h later : History) (other : Actor) (f : Files) → IsNoOrigin h (own_origin other)
    → MayMake (with_command (commands.Write user number) e) h later → Folder f later
    → MayStartAfter other e.start (writer_of user number) (row_lines e.input) h f → IsNew other later f
new_end user number e no_table later other f origin make folder (inr has) = absurd has.takes.1
new_end user number e no_table later other f origin (inl same) folder (inl may) =
    subst (λ (h : History). IsNew other h f) (sym same) (record { folder = may.0; origin = origin; names = may.1 })
new_end user number e no_table later other f origin (inr (text, does)) folder (inl may) = elim does [ ]
new_end user number e (table t es) later other f origin make folder starts = new_at_end user number e t es later other f origin make folder starts

keeps_it : (user : Option (List ℕ)) (number : Option ℕ) (e : Execution) (h : History) → LeavesFiles (λ f. Folder f h) (found_by e)
    → WritesTable e.start (writer_of user number) e.input h (found_by e) e.before e.after e.refusal
    → KeepsIt (with_command (commands.Write user number) e) h (found_by e)
keeps_it user number e h stands was =
    let first = found_by e in
    let after = e.after.store in
    let own : Execution = with_command (commands.Write user number) e in
    let end = ended user number e h stands e.refusal was.answers in
    let known : LeavesFiles (λ f. Unit {0}) first = leaves_weaker (λ f. Folder f h) (λ f. Unit {0}) first (λ f folder. tt) stands in
    let AfterIt : Actor → Files → Type 0 = λ other. MayStartAfter other e.start (writer_of user number) (row_lines e.input) h in
    let starts : (other : Actor) → WasNew own h first other → Extends (AfterIt other) first.ops after.ops = λ other (names, new).
    was.free other (other_than (actor e.start) other names)
    (leaves_weaker (IsNew other h) (commit.MayStart other h) first (λ f is. (is.folder, is.names)) new) in
    let Spares : Files → Type 0 = λ f. LeavesFiles (λ was. KeepsConsumers h was f) first × LeavesFiles (λ was. AddsOwn (actor e.start) (path_after h) was f) first in
    let spares : Extends Spares first.ops after.ops =
    extends_both (λ f. LeavesFiles (λ was. KeepsConsumers h was f) first) (λ f. LeavesFiles (λ was. AddsOwn (actor e.start) (path_after h) was f) first)
    first.ops after.ops (images_turned (KeepsConsumers h) first after.ops was.consumers)
    (images_turned (AddsOwn (actor e.start) (path_after h)) first after.ops was.adds) in
    let freely : (later : History) (f : Files) → MayMake own h later → Folder f later → ((other : Actor) → WasNew own h first other → AfterIt other f) → Spares f
    → StandsForOthers own h first later f = λ later f make folder others spare. record {
      folder = folder;
      changes = leaves_weaker (λ was. AddsOwn (actor e.start) (path_after h) was f) (λ was. (path : List ℕ) → MayBecome own h was f path) first
          (λ was adds path. elim (adds path) as (λ _. MayBecome own h was f path) [
            | inl same ↦ inl same
            | inr new ↦ inr (inl new)
          ]) spare.1;
      settled = λ names rests. still_settled own h first later f make spare.0 names;
      free = λ other names new.
          let origin : IsNoOrigin h (own_origin other) = any_files (IsNew other h) (IsNoOrigin h (own_origin other)) first (λ f is. is.origin) new in
          new_end user number e h later other f origin make folder (others other (names, new));
    } in record {
      later = end.0;
      makes = end.1.0;
      ends = leaves_both (λ f. Folder f end.0 × ((other : Actor) → WasNew own h first other → AfterIt other f)) Spares (StandsForOthers own h first end.0) after
          (λ f both spare. freely end.0 f end.1.1 both.0 both.1 spare)
          (leaves_each (λ f. Folder f end.0) (WasNew own h first) AfterIt after end.2
          (λ other was. extends_end (AfterIt other) first after known (starts other was)))
          (extends_end Spares first after known spares);
      own = leaves_weaker (λ f. Folder f end.0) (λ f. Unit {0}) after (λ f folder. tt) end.2;
      stops = Extends-weaker Spares (λ f. Unit {0}) first.ops after.ops (λ f is. tt) spares;
      images = Extends-weaker
          (λ f. (IsImage e.start (writer_of user number) (row_lines e.input) h f × ((other : Actor) → WasNew own h first other → AfterIt other f)) × Spares f)
          (StandsForSomeFreely own h first) first.ops after.ops
          (λ f all.
          let stands = either user number e (λ h f. Folder f h) h f all.0.0.either in
          (stands.0, stands.1, freely stands.0 f stands.1 stands.2 all.0.1 all.1))
          (extends_both (λ f. IsImage e.start (writer_of user number) (row_lines e.input) h f × ((other : Actor) → WasNew own h first other → AfterIt other f))
          Spares first.ops after.ops
          (extends_each (IsImage e.start (writer_of user number) (row_lines e.input) h) (WasNew own h first) AfterIt first.ops after.ops was.images starts)
          spares);
    }

pub keeps : (user : Option (List ℕ)) (number : Option ℕ) (e : Execution) → IsExecuted (with_command (commands.Write user number) e)
    → Keeps (with_command (commands.Write user number) e)
keeps user number e is = λ alone h may input.
    keeps_it user number e h (leaves_weaker (commit.MayStart (actor e.start) h) (λ f. Folder f h) (found_by e) (λ f may. may.0) may)
    (is.history alone h e.input may input)
