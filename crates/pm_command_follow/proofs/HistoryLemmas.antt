-- What the calls of `follow` say of a history that stands at the first of them, where nobody else acts.
use Rattle.std.proofs.Common.{◌≡◌, ◌⊎◌, ◌↔◌, inl, inr, ℕ, zero, suc, ◌+◌, ◌-◌, ◌<◌, ◌≤◌, Bool, true, false, List, [], ◌++◌, length, Option, None, Some, IsSome, Result, Ok, Err, refl, sym, ap, subst, ◌∙◌, append-nil, arith}
use Rattle.std.proofs.lemmas.Bool.{cases_lt}
use Rattle.std.specs.FinMap as map
use Rattle.pm_base.specs.Known.{and_then}
use Rattle.pm_values.specs.declared.refusal.Refusal.{Refusal}
use Rattle.pm_values.specs.declared.refusal.Refusal.TheVariants as refusals
use Rattle.pm_io.specs.Sink.{SinkView, TookPrefix}
use Rattle.pm_store.specs.Files.{Files}
use Rattle.pm_store.specs.Store.{StoreView, at_first_own}
use Rattle.pm_machine.specs.Trace.{Event, HasTrace, Traces}
use Rattle.pm_machine.proofs.AloneLaws.{Traces-first}
use Rattle.pm_schema.specs.Again.{IsDeclared}
use Rattle.pm_schema.specs.Meaning.{SchemaOf}
use Rattle.pm_schema.specs.Reading.{schema_of}
use Rattle.pm_schema.specs.declared.schema.TableSchema.{TableSchema}
use Rattle.pm_model_history.specs.History.{Entry, History, IsTableOf, no_table, table}
use Rattle.pm_model_history.specs.Merged.{scan_text}
use Rattle.pm_model_following.specs.Following.{frame, passed_rows, table_text}
use Rattle.pm_snapshot.specs.Names.{greatest}
use Rattle.pm_model_folder.specs.Folder.{Folder, HasTable}
use Rattle.pm_model_folder.specs.Ledger.{count_of}
use Rattle.pm_model_folder.specs.Paths.{schema_path, snapshot_path}
use Rattle.pm_read_schema.specs.AllCalls.{HasFiles, Stay}
use Rattle.pm_read_schema.specs.AllCalls as reader_calls
use Rattle.pm_read_schema.specs.Trace as reader
use Rattle.pm_read_schema.specs.declared.phase.Phase.TheVariants as readers
use Rattle.pm_read_schema.proofs.AllCallsLemmas.{ready_at, ready_calls, shows_at, shows_calls}
use Rattle.pm_read_schema.proofs.StillLemmas.{stayed}
use Rattle.pm_read_latest.specs.AllCalls as latest_calls
use Rattle.pm_read_latest.specs.AllCalls.{DidLatest, FindsLatest, FindsLatests}
use Rattle.pm_scan.specs.AllCalls as scanner
use Rattle.pm_scan.specs.AllCalls.{PassesOf, ScansRows, path_of}
use Rattle.pm_scan.specs.Asked.{passed_at}
use Rattle.pm_scan.specs.declared.rows.Rows.TheVariants as shown
use Rattle.pm_read_frame.specs.AllCalls as frame_calls
use Rattle.pm_read_frame.specs.AllCalls.{DidFrame, ReadsFrame}
use Rattle.pm_read_frame.specs.Meaning.{HasProducer}
use Rattle.pm_command.proofs.TableLemmas.{files_of, images_rest, leaves_of, rests_of}
use Rattle.pm_command_follow.specs.Follow.{AnswersHistory, AreThere, DidTable, Ends, FollowsAny, GoesOn, HasFollowedTable, HasSchema, IsFollowed, Lists, MayRefuse, MayStartAt, MayStop, Opens, Prints, PrintsPrefix, PrintsTable, ReadsAll, ReadsFrames, ReadsTable, ShowsFirst, ShowsSchema, Starts, StopsAfter, TellsChanges, Then, Took, TookPart, TookPieces, all, fails_frame, fails_table, in_frame, in_table, of_listing, of_producer, of_reader, of_schema, of_start, of_table, refused_first, refused_frame, refused_listing}
use Rattle.pm_command_follow.specs.Printed.{count_from, follow_text, frames_text, start_of, table_head, text_so_far}
use Rattle.pm_command_follow.proofs.JoinLemmas.{IsRun, at_first, in_turn, rose_wider}
use Rattle.pm_command_follow.proofs.TextLemmas.{follow_split, frame_behind, frames_push, took_behind, took_longer, with_frames}

-- the laws of the machines that read, and of the model
pub record Laws : Type 0 where
  pub latest : (result : Result ℕ Refusal) (before after : StoreView) → HasTrace (DidLatest result) before after → FindsLatests before after result
  pub passed : (s : TableSchema) (id : ℕ) (result : Result (List ℕ) Refusal) (before after : StoreView) → IsDeclared s
      → HasTrace (scanner.Ends (passed_at s id) result) before after → PassesOf s id before after result
  pub frames : (s : TableSchema) (id : ℕ) (result : Result (List ℕ) Refusal) (before after : StoreView) → 1 ≤ id
      → HasTrace (DidFrame s id result) before after → frame_calls.ReadsFrames s id before after result
  pub read : (path text : List ℕ) (s : TableSchema) → (schema_of path text ≡ Ok s) ↔ SchemaOf path text s
  pub declared : (path text : List ℕ) (s : TableSchema) → SchemaOf path text s → IsDeclared s

-- the entries of a history
abbrev pub entries_of : History → List Entry
entries_of no_table = []
entries_of (table s es) = es

pub has_table : (f : Files) (h : History) (s : TableSchema) → Folder f h → IsTableOf s h → HasTable f s (entries_of h)
has_table f no_table s folder is = absurd is
has_table f (table t es) s folder is = subst (λ (t : TableSchema). HasTable f t es) is folder

pub count_is : (h : History) → count_of h ≡ length (entries_of h)
count_is no_table = refl
count_is (table s es) = refl

-- a snapshot after the origin has a file of its own
pub path_is : (s : TableSchema) (id : ℕ) → 1 ≤ id → path_of s id ≡ snapshot_path id
path_is s zero low = absurd (omega (arith, low))
path_is s (suc id) low = refl

-- a table that is followed
pub record IsOf (h : History) (t : TableSchema) : Type 0 where
  pub is : IsTableOf t h
  pub tells : TellsChanges t
  pub declared : IsDeclared t

module _ (laws : Laws) (f : Files) (h : History) (folder : Folder f h) where
  abbrev es : List Entry
  es = entries_of h

  declared_of : (t : TableSchema) → IsTableOf t h → IsDeclared t
  declared_of t is =
      let first = (has_table f h t folder is).schema.first in
      laws.declared (schema_path 0) first.0 t ((laws.read (schema_path 0) first.0 t).0 first.2)

  -- ---- each piece

  pub schema_at : (t : TableSchema) (own : List Event) (first after : StoreView) → reader.Did (readers.Ready t) own → IsRun f own first after
      → Stay f first after × IsTableOf t h
  schema_at t own first after did run =
      let stay = stayed f own first after (ready_calls t own did) run.trace run.alone run.has in
      (stay.0, ready_at f h folder t own did stay.1)

  pub has_at : (t : TableSchema) (own : List Event) (first after : StoreView) → HasSchema t own → IsRun f own first after → Stay f first after × IsOf h t
  has_at t own first after (tells, declared, did) run =
      let so = schema_at t own first after did run in
      (so.0, record { is = so.1; tells = tells; declared = declared })

  pub latest_at : (result : Result ℕ Refusal) (own : List Event) (first after : StoreView) → DidLatest result own → IsRun f own first after
      → FindsLatest f h first after result
  latest_at result own first after did run =
      at_first (λ first after. (f : Files) (h : History) → HasFiles f first → Folder f h → FindsLatest f h first after result) f own first after run
      (laws.latest result first after (own, did, run.trace)) f h run.has folder

  pub scan_at : (t : TableSchema) (id : ℕ) (result : Result (List ℕ) Refusal) (own : List Event) (first after : StoreView) → IsOf h t
      → scanner.Ends (passed_at t id) result own → IsRun f own first after → ScansRows shown.Passed f h t (Some id) first after result
  scan_at t id result own first after of did run =
      at_first (λ first after. (f : Files) (h : History) → HasFiles f first → Folder f h → IsTableOf t h → ScansRows shown.Passed f h t (Some id) first after result) f own first after run
      (laws.passed t id result first after (declared_of t of.is) (own, did, run.trace)) f h run.has folder of.is

  pub frame_at : (t : TableSchema) (id : ℕ) (result : Result (List ℕ) Refusal) (own : List Event) (first after : StoreView) → IsOf h t → 1 ≤ id → id ≤ length es
      → DidFrame t id result own → IsRun f own first after → ReadsFrame f t es id first after result
  frame_at t id result own first after of low high did run =
      let stands = has_table f h t folder of.is in
      let most = stands.snapshots.within in
      at_first (λ first after. (f : Files) (es : List Entry) → HasFiles f first → HasTable f t es → id ≤ greatest → ReadsFrame f t es id first after result) f own first after
      run (laws.frames t id result first after low (own, did, run.trace)) f es run.has stands (omega (arith, high, most))

  -- ---- the start

  record StartsAt (t : TableSchema) (from : Option ℕ) (start : ℕ) : Type 0 where
    of : IsOf h t
    is : start ≡ start_of from (length es)
    low : 1 ≤ start
    high : start ≤ suc (length es)

  starts_at : (t : TableSchema) (from : Option ℕ) (start : ℕ) (own : List Event) (first after : StoreView) → Starts t from start own → IsRun f own first after
      → Stay f first after × StartsAt t from start
  starts_at t from start own first after (latest, calls, is, low, high) run =
      in_turn (IsOf h t) (StartsAt t from start) f own first after calls run
      (λ earlier middle. has_at t earlier first middle)
      (λ of later middle did wider run.
      let found = latest_at (Ok latest) later middle after did run in
      let same : latest ≡ length es = found.latest ∙ count_is h in (
        found.files,
        record {
          of = of;
          is = is ∙ ap (start_of from) same;
          low = low;
          high = subst (λ (latest : ℕ). start ≤ suc latest) same high;
        },
      ))

  -- ---- the starting table

  some_at : (id : ℕ) → 1 ≤ id → (id - 1) + 1 ≡ id
  some_at id low = omega (arith, low)

  record HasStart (t : TableSchema) (full : Bool) (start : ℕ) (text : List ℕ) : Type 0 where
    text_is : text ≡ text_so_far t es full start 0
    base : full ≡ true → IsSome (map.get f (path_of t (start - 1)))

  pub prints_start : (t : TableSchema) (start : ℕ) (rows : List ℕ) (h : History) → IsTableOf t h
      → scanner.PrintsRows shown.Passed h (Some (start - 1)) rows → table_head (start - 1) ++ rows ≡ text_so_far t (entries_of h) true start 0
  prints_start t start rows no_table is prints = absurd prints
  prints_start t start rows (table u es) is prints =
      let same : rows ≡ scan_text t (passed_rows t es (start - 1)) = prints ∙ ap (λ (u : TableSchema). scan_text u (passed_rows u es (start - 1))) is in
      ap (λ (rows : List ℕ). table_head (start - 1) ++ rows) same ∙ nothing_behind (table_text t es (start - 1))
    where
      nothing_behind : (text : List ℕ) → text ≡ text ++ []
      nothing_behind text = simp append-nil

  table_at : (t : TableSchema) (full : Bool) (start : ℕ) (text : List ℕ) (own : List Event) (first after : StoreView) → IsOf h t
      → ReadsTable t full start text own → IsRun f own first after → Stay f first after × HasStart t full start text
  table_at t false start text own first after of (nothing, none) run =
      let stay = stayed f [] first after tt (subst (λ (own : List Event). Traces own first after) none run.trace) run.alone run.has in
      (stay.0, record { text_is = nothing; base = λ is. cc })
  table_at t true start text own first after of (rows, did, is) run =
      let scan = scan_at t (start - 1) (Ok rows) own first after of did run in (
        scan.files,
        record {
          text_is = is ∙ prints_start t start rows h of.is scan.text;
          base = λ is. scan.there.1;
        },
      )

  record OpensAt (t : TableSchema) (from : Option ℕ) (full : Bool) (start : ℕ) (text : List ℕ) : Type 0 where
    starts : StartsAt t from start
    table : HasStart t full start text

  opens_at : (t : TableSchema) (from : Option ℕ) (full : Bool) (start : ℕ) (text : List ℕ) (own : List Event) (first after : StoreView)
      → Opens t from full start text own → IsRun f own first after → Stay f first after × OpensAt t from full start text
  opens_at t from full start text own first after calls run =
      in_turn (StartsAt t from start) (OpensAt t from full start text) f own first after calls run
      (λ earlier middle. starts_at t from start earlier first middle)
      (λ starts later middle did wider run.
      let so = table_at t full start text later middle after starts.of did run in
      (so.0, record { starts = starts; table = so.1 }))

  record ListsAt (t : TableSchema) (from : Option ℕ) (full : Bool) (start latest : ℕ) (text : List ℕ) : Type 0 where
    opens : OpensAt t from full start text
    newest : latest ≡ length es

  lists_at : (t : TableSchema) (from : Option ℕ) (full : Bool) (start latest : ℕ) (text : List ℕ) (own : List Event) (first after : StoreView)
      → Lists t from full start latest text own → IsRun f own first after → Stay f first after × ListsAt t from full start latest text
  lists_at t from full start latest text own first after calls run =
      in_turn (OpensAt t from full start text) (ListsAt t from full start latest text) f own first after calls run
      (λ earlier middle. opens_at t from full start text earlier first middle)
      (λ opens later middle did wider run.
      let found = latest_at (Ok latest) later middle after did run in
      (found.files, record { opens = opens; newest = found.latest ∙ count_is h }))

  -- ---- the frames

  pub has_producer : (t : TableSchema) → IsOf h t → HasProducer t
  has_producer t of = of.tells

  record HasFrames (t : TableSchema) (start count : ℕ) (text : List ℕ) : Type 0 where
    text_is : text ≡ frames_text t es start count
    there : (id : ℕ) → start ≤ id → id < start + count → IsSome (map.get f (path_of t id))

  one_more : (t : TableSchema) (start count : ℕ) → ((id : ℕ) → start ≤ id → id < start + count → IsSome (map.get f (path_of t id)))
      → IsSome (map.get f (path_of t (start + count))) → (id : ℕ) → start ≤ id → id < start + suc count → IsSome (map.get f (path_of t id))
  one_more t start count each last id from below = by (cases_lt id (start + count))
    where
      by : (id < start + count) ⊎ (start + count ≤ id) → IsSome (map.get f (path_of t id))
      by (inl less) = each id from less
      by (inr not) =
          let same : start + count ≡ id = omega (arith, not, below) in
          subst (λ (id : ℕ). IsSome (map.get f (path_of t id))) same last

  there_of : (t : TableSchema) (full : Bool) (start next : ℕ) (first : StoreView) → HasFiles f first
      → (full ≡ true → IsSome (map.get f (path_of t (start - 1)))) → ((id : ℕ) → start ≤ id → id < next → IsSome (map.get f (path_of t id)))
      → AreThere t full start next first
  there_of t full start next first has base each = record {
    base = λ asked. leaves_of (λ f. IsSome (map.get f (path_of t (start - 1)))) f first has (base asked);
    each = λ id low below. leaves_of (λ f. IsSome (map.get f (path_of t id))) f first has (each id low below);
  }

  frames_at : (t : TableSchema) (start count : ℕ) (text : List ℕ) (own : List Event) (first after : StoreView) → IsOf h t → 1 ≤ start → start + count ≤ suc (length es)
      → ReadsFrames t start count text own → IsRun f own first after → Stay f first after × HasFrames t start count text
  frames_at t start zero text own first after of low high (nothing, none) run =
      let stay = stayed f [] first after tt (subst (λ (own : List Event). Traces own first after) none run.trace) run.alone run.has in
      (stay.0, record { text_is = nothing; there = λ id from below. absurd (omega (arith, from, below)) })
  frames_at t start (suc count) text own first after of low high (before, frame_text, calls, is) run =
      in_turn (HasFrames t start count before) (HasFrames t start (suc count) text) f own first after calls run
      (λ earlier middle did run. frames_at t start count before earlier first middle of low (omega (arith, high)) did run)
      (λ so later middle did wider run.
      let at : 1 ≤ start + count = omega (arith, low) in
      let read = frame_at t (start + count) (Ok frame_text) later middle after of at (omega (arith, high)) did run in
      let there : IsSome (map.get f (path_of t (start + count))) =
      subst (λ (path : List ℕ). IsSome (map.get f path)) (sym (path_is t (start + count) at)) read.there in (
        read.files,
        record {
          text_is = is ∙ ap (λ (text : List ℕ). text ++ frame_text) so.text_is
              ∙ ap (λ (text : List ℕ). frames_text t es start count ++ text) (read.text (has_producer t of)) ∙ sym (frames_push t es start count);
          there = one_more t start count so.there there;
        },
      ))

  -- ---- what may be refused

  cause_first : (first middle after : StoreView) (from : Option ℕ) (full : Bool) (e : Refusal) → first.faults ≤ middle.faults → latest_calls.IsCaused middle after e
      → MayRefuse h from full first after e
  cause_first first middle after from full refusals.Memory wider cause = tt
  cause_first first middle after from full (refusals.StoreFault path) wider cause = rose_wider first.faults middle.faults after.faults wider cause
  cause_first first middle after from full e wider cause = absurd cause

  cause_listing : (first middle after : StoreView) (id : ℕ) (e : Refusal) → first.faults ≤ middle.faults → latest_calls.IsCaused middle after e
      → MayStop h id first after e
  cause_listing first middle after id refusals.Memory wider cause = tt
  cause_listing first middle after id (refusals.StoreFault path) wider cause = rose_wider first.faults middle.faults after.faults wider cause
  cause_listing first middle after id e wider cause = absurd cause

  cause_frame : (t : TableSchema) (first middle after : StoreView) (id : ℕ) (e : Refusal) → HasFiles f first → IsOf h t → 1 ≤ id → id ≤ length es
      → first.faults ≤ middle.faults → frame_calls.IsCaused f id middle after e → MayStop h id first after e
  cause_frame t first middle after id refusals.Memory has of low within wider cause = tt
  cause_frame t first middle after id (refusals.StoreFault path) has of low within wider cause = rose_wider first.faults middle.faults after.faults wider cause
  cause_frame t first middle after id (refusals.Expired gone) has of low within wider (is, none) =
      let none_there : map.get f (path_of t id) ≡ None = ap (map.get f) (path_is t id low) ∙ none in (
        is,
        subst (λ (n : ℕ). id ≤ n) (sym (count_is h)) within,
        (t, of.is, leaves_of (λ f. map.get f (path_of t id) ≡ None) f first has none_there),
      )
  cause_frame t first middle after id e has of low within wider cause = absurd cause

  cause_scan : (t : TableSchema) (from : Option ℕ) (start : ℕ) (first middle after : StoreView) (e : Refusal) → HasFiles f first → StartsAt t from start
      → first.faults ≤ middle.faults → scanner.IsCaused f t h (Some (start - 1)) middle after e → MayRefuse h from true first after e
  cause_scan t from start first middle after refusals.Memory has starts wider cause = tt
  cause_scan t from start first middle after (refusals.StoreFault path) has starts wider cause = rose_wider first.faults middle.faults after.faults wider cause
  cause_scan t from start first middle after (refusals.NoSnapshot id latest) has starts wider (asked, newest, above) =
      let same : start - 1 ≡ id = cc in
      let all : latest ≡ length es = newest ∙ count_is h in
      let high : start ≤ suc (length es) = starts.high in
      absurd (omega (arith, same, all, high, above))
  cause_scan t from start first middle after (refusals.Expired id) has starts wider (asked, within, none) =
      let same : start - 1 ≡ id = cc in (
        (t, starts.of.is, starts.of.tells, starts.of.declared),
        refl,
        sym same ∙ ap (λ (start : ℕ). start - 1) (starts.is ∙ ap (start_of from) (sym (count_is h))),
        within,
        (t, starts.of.is, leaves_of (λ f. map.get f (path_of t id) ≡ None) f first has none),
      )
  cause_scan t from start first middle after e has starts wider cause = absurd cause

  read_caused : (from : Option ℕ) (full : Bool) (first after : StoreView) (e : Refusal) → reader_calls.IsCaused h first after e → MayRefuse h from full first after e
  read_caused from full first after refusals.Memory is = tt
  read_caused from full first after refusals.NoTable is = is
  read_caused from full first after (refusals.StoreFault path) is = is
  read_caused from full first after e is = absurd is

  schema_refused : (from : Option ℕ) (full : Bool) (e : Refusal) (own : List Event) (first after : StoreView) → ShowsSchema e own → IsRun f own first after
      → Stay f first after × MayRefuse h from full first after e
  schema_refused from full e own first after (of_reader shows) run =
      let stay = stayed f own first after (shows_calls e own shows) run.trace run.alone run.has in
      (stay.0, read_caused from full first after e (shows_at f h folder first after e own shows stay.1 run.trace))
  schema_refused from full e own first after (of_producer t none is did) run =
      let so = schema_at t own first after did run in
      (so.0, subst (MayRefuse h from full first after) (sym is) (t, so.1, none))

  record IsNewest (latest : ℕ) : Type 0 where
    followed : HasFollowedTable h
    newest : latest ≡ count_of h

  refused_at_first : (from : Option ℕ) (full : Bool) (e : Refusal) (own : List Event) (first after : StoreView) → ShowsFirst from full e own → IsRun f own first after
      → Stay f first after × MayRefuse h from full first after e
  refused_at_first from full e own first after (of_schema shows) run = schema_refused from full e own first after shows run
  refused_at_first from full e own first after (of_listing t calls) run =
      in_turn (IsOf h t) (MayRefuse h from full first after e) f own first after calls run
      (λ earlier middle. has_at t earlier first middle)
      (λ of later middle did wider run.
      let found = latest_at (Err e) later middle after did run in
      (found.files, cause_first first middle after from full e wider found.cause))
  refused_at_first from full e own first after (of_start t id latest asked above is calls) run =
      let so = in_turn (IsOf h t) (IsNewest latest) f own first after calls run
      (λ earlier middle. has_at t earlier first middle)
      (λ of later middle did wider run.
      let found = latest_at (Ok latest) later middle after did run in
      (found.files, record { followed = (t, of.is, of.tells, of.declared); newest = found.latest })) in
      (so.0, subst (MayRefuse h from full first after) (sym is) (so.1.followed, asked, so.1.newest, above))
  refused_at_first from full e own first after (of_table t start asked calls) run =
      let so = in_turn (StartsAt t from start) (MayRefuse h from true first after e) f own first after calls run
      (λ earlier middle. starts_at t from start earlier first middle)
      (λ starts later middle did wider here. table_refused t from start e later first middle after run.has starts did wider here) in
      (so.0, subst (λ (full : Bool). MayRefuse h from full first after e) (sym asked) so.1)
    where
      table_refused : (t : TableSchema) (from : Option ℕ) (start : ℕ) (e : Refusal) (own : List Event) (first middle after : StoreView) → HasFiles f first
          → StartsAt t from start → DidTable t start (Err e) own → first.faults ≤ middle.faults → IsRun f own middle after
          → Stay f middle after × MayRefuse h from true first after e
      table_refused t from start e own first middle after has starts (inl ends) wider run =
          let scan = scan_at t (start - 1) (Err e) own middle after starts.of ends run in
          (scan.files, cause_scan t from start first middle after e has starts wider scan.cause)
      table_refused t from start e own first middle after has starts (inr (memory, rows, ends)) wider run =
          let scan = scan_at t (start - 1) (Ok rows) own middle after starts.of ends run in
          (scan.files, subst (MayRefuse h from true first after) (sym memory) tt)

  -- ---- what it answers, with the table in its history

  record GoesTo (t : TableSchema) (from : Option ℕ) (full : Bool) (start count : ℕ) (text : List ℕ) : Type 0 where
    starts : StartsAt t from start
    base : full ≡ true → IsSome (map.get f (path_of t (start - 1)))
    text_is : text ≡ text_so_far t es full start count
    there : (id : ℕ) → start ≤ id → id < start + count → IsSome (map.get f (path_of t id))

  goes_to : (t : TableSchema) (from : Option ℕ) (full : Bool) (start latest count : ℕ) (head frames text : List ℕ) → ListsAt t from full start latest head
      → HasFrames t start count frames → text ≡ head ++ frames → GoesTo t from full start count text
  goes_to t from full start latest count head frames text lists so is = record {
    starts = lists.opens.starts;
    base = lists.opens.table.base;
    text_is = is ∙ ap (λ (head : List ℕ). head ++ frames) lists.opens.table.text_is
        ∙ ap (λ (frames : List ℕ). text_so_far t es full start 0 ++ frames) so.text_is ∙ with_frames t es full start count;
    there = so.there;
  }

  record GoneOn (B : TableSchema → ℕ → Type 0) (from : Option ℕ) (full : Bool) (count : ℕ) (text : List ℕ) : Type 0 where
    t : TableSchema
    start : ℕ
    goes : GoesTo t from full start count text
    within : start + count ≤ length es
    so : B t start

  -- the calls up to so many frames, and those after them
  gone_on : (Next : TableSchema → ℕ → List Event → Type 0) (B : TableSchema → ℕ → Type 0) (from : Option ℕ) (full : Bool) (count : ℕ) (text : List ℕ) (own : List Event)
      (first after : StoreView) → GoesOn from full count text Next own → IsRun f own first after
      → ((t : TableSchema) (start : ℕ) → GoesTo t from full start count text → start + count ≤ length es → (later : List Event) (middle : StoreView)
      → Next t (start + count) later → first.faults ≤ middle.faults → IsRun f later middle after → Stay f middle after × B t start)
      → Stay f first after × GoneOn B from full count text
  gone_on Next B from full count text own first after (t, start, latest, head, frames, few, calls, is) run next_so =
      in_turn (ListsAt t from full start latest head) (GoneOn B from full count text) f own first after calls run
      (λ earlier middle. lists_at t from full start latest head earlier first middle)
      (λ lists later middle did wider run.
      in_turn (HasFrames t start count frames) (GoneOn B from full count text) f later middle after did run
      (λ earlier between does run. frames_at t start count frames earlier middle between lists.opens.starts.of lists.opens.starts.low
      (let newest = lists.newest in omega (arith, few, newest)) does run)
      (λ so last between does more run.
      let goes = goes_to t from full start latest count head frames text lists so is in
      let newest : latest ≡ length es = lists.newest in
      let within : start + count ≤ length es = omega (arith, few, newest) in
      let far : first.faults ≤ between.faults = omega (arith, wider, more) in
      let b = next_so t start goes within last between does far run in
      (b.0, record { t = t; start = start; goes = goes; within = within; so = b.1 })))

  took_so : (full : Bool) (count : ℕ) (text other : List ℕ) (before after : SinkView) → text ≡ other → Took full count text before after → Took full count other before after
  took_so full count text other before after is took = subst (λ (text : List ℕ). Took full count text before after) is took

  -- all of it, from the start
  whole_is : (t : TableSchema) (from : Option ℕ) (full : Bool) (start : ℕ) → start ≡ start_of from (length es)
      → text_so_far t es full start (count_from start (length es)) ≡ follow_text t es from full
  whole_is t from full start is = ap (λ (start : ℕ). text_so_far t es full start (count_from start (length es))) is

  may_start : (t : TableSchema) (from : Option ℕ) (start : ℕ) → StartsAt t from start → MayStartAt t es from
  may_start t from start starts = (starts.of.tells, subst (λ (start : ℕ). start ≤ suc (length es)) starts.is starts.high)

  pieces_of : (t : TableSchema) (from : Option ℕ) (full : Bool) (start count : ℕ) (text : List ℕ) (before after : SinkView) → StartsAt t from start
      → (count < count_from start (length es)) ⊎ (count ≡ 0) → text ≡ text_so_far t es full start count → Took full count text before after
      → TookPieces t es from full count before after
  pieces_of t from full start count text before after starts few is took = record {
    starts = may_start t from start starts;
    some = subst (λ (start : ℕ). (count < count_from start (length es)) ⊎ (count ≡ 0)) starts.is few;
    took = subst (λ (start : ℕ). Took full count (text_so_far t es full start count) before after) starts.is (took_so full count text (text_so_far t es full start count) before after is took);
  }

  prefix_at : (t : TableSchema) (from : Option ℕ) (full : Bool) (start count : ℕ) (text : List ℕ) (before after : Option (List ℕ)) → StartsAt t from start
      → count ≤ count_from start (length es) → text ≡ text_so_far t es full start count → TookPrefix before after text
      → TookPrefix before after (follow_text t es from full)
  prefix_at t from full start count text before after starts few is took =
      let rest = follow_split t es full start count (count_from start (length es)) few in
      took_longer before after text (follow_text t es from full) rest.0
      (sym (whole_is t from full start starts.is) ∙ rest.1 ∙ ap (λ (text : List ℕ). text ++ rest.0) (sym is)) took

  record PrintsAt (from : Option ℕ) (full : Bool) (first : StoreView) (before after : SinkView) : Type 0 where
    t : TableSchema
    is : IsTableOf t h
    prints : PrintsTable t es from full first before after

  all_printed : (from : Option ℕ) (full : Bool) (count : ℕ) (text : List ℕ) (own : List Event) (first last : StoreView) (before after : SinkView)
      → ReadsAll from full count text own → Took full count text before after → IsRun f own first last → Stay f first last × PrintsAt from full first before after
  all_printed from full count text own first last before after (t, start, latest, head, frames, whole, calls, is) took run =
      in_turn (ListsAt t from full start latest head) (PrintsAt from full first before after) f own first last calls run
      (λ earlier middle. lists_at t from full start latest head earlier first middle)
      (λ lists later middle did wider more.
      let newest : latest ≡ length es = lists.newest in
      let high : start ≤ suc (length es) = lists.opens.starts.high in
      let so = frames_at t start count frames later middle last lists.opens.starts.of lists.opens.starts.low (omega (arith, whole, newest, high)) did more in
      let goes = goes_to t from full start latest count head frames text lists so.1 is in
      let starts_is : start ≡ start_of from (length es) = lists.opens.starts.is in
      let count_same : count ≡ count_from start (length es) = whole ∙ ap (count_from start) newest in (
        so.0,
        record {
          t = t;
          is = lists.opens.starts.of.is;
          prints = record {
            starts = may_start t from start lists.opens.starts;
            base = λ asked. leaves_of (λ f. IsSome (map.get f (path_of t (start_of from (length es) - 1)))) f first run.has
                (subst (λ (start : ℕ). IsSome (map.get f (path_of t (start - 1)))) starts_is (goes.base asked));
            each = λ id low within. leaves_of (λ f. IsSome (map.get f (path_of t id))) f first run.has
                (goes.there id (omega (arith, low, starts_is)) (omega (arith, within, count_same, high)));
            taken = took.0 ∙ ap (and_then before.taken)
                (goes.text_is ∙ ap (text_so_far t es full start) count_same ∙ whole_is t from full start starts_is);
          };
        },
      ))

  record PrefixAt (from : Option ℕ) (full : Bool) (first : StoreView) (before after : SinkView) : Type 0 where
    t : TableSchema
    is : IsTableOf t h
    may : MayStartAt t es from
    took : TookPrefix before.taken after.taken (follow_text t es from full)
    part : TookPart t es full (start_of from (length es)) first before after

  table_failed : (from : Option ℕ) (full : Bool) (t : TableSchema) (start : ℕ) (text : List ℕ) (own : List Event) (first last : StoreView) (before after : SinkView)
      → full ≡ true → Opens t from full start text own → TookPrefix before.taken after.taken text → IsRun f own first last
      → Stay f first last × PrefixAt from full first before after
  table_failed from full t start text own first last before after asked calls took run =
      let so = opens_at t from full start text own first last calls run in
      let starts = so.1.starts in (
        so.0,
        record {
          t = t;
          is = starts.of.is;
          may = may_start t from start starts;
          took = prefix_at t from full start 0 text before.taken after.taken starts (omega arith) so.1.table.text_is took;
          part = subst (λ (start : ℕ). TookPart t es full start first before after) starts.is (
              in_table asked (there_of t full start start first run.has so.1.table.base (λ id low below. absurd (omega (arith, low, below))))
              (subst (TookPrefix before.taken after.taken) so.1.table.text_is took)
              );
        },
      )

  frame_failed : (from : Option ℕ) (full : Bool) (count : ℕ) (text frame_text : List ℕ) (own : List Event) (first last : StoreView) (before after : SinkView)
      → GoesOn from full count text (λ s id. DidFrame s id (Ok frame_text)) own → TookPrefix (and_then before.taken text) after.taken frame_text → IsRun f own first last
      → Stay f first last × PrefixAt from full first before after
  frame_failed from full count text frame_text own first last before after calls took run =
      let so = gone_on (λ s id. DidFrame s id (Ok frame_text)) (λ t start. (frame_text ≡ frame t es (start + count)) × IsSome (map.get f (path_of t (start + count)))) from full count text own first last calls run
      (λ t start goes within later middle did wider more.
      let low : 1 ≤ start + count = let from_one = goes.starts.low in omega (arith, from_one) in
      let read = frame_at t (start + count) (Ok frame_text) later middle last goes.starts.of low within did more in
      let there : IsSome (map.get f (path_of t (start + count))) =
      subst (λ (path : List ℕ). IsSome (map.get f path)) (sym (path_is t (start + count) low)) read.there in
      (read.files, (read.text (has_producer t goes.starts.of), there))) in
      let t = so.1.t in
      let start = so.1.start in
      let goes = so.1.goes in
      let few : suc count ≤ count_from start (length es) = let within = so.1.within in omega (arith, within) in
      let is : text ++ frame_text ≡ text_so_far t es full start (suc count) = frame_behind t es full start count text frame_text goes.text_is so.1.so.0 in (
        so.0,
        record {
          t = t;
          is = goes.starts.of.is;
          may = may_start t from start goes.starts;
          took = prefix_at t from full start (suc count) (text ++ frame_text) before.taken after.taken goes.starts few is
              (took_behind before.taken after.taken text frame_text took);
          part = subst (λ (start : ℕ). TookPart t es full start first before after) goes.starts.is (
              in_frame count few (there_of t full start (start + suc count) first run.has goes.base (one_more t start count goes.there so.1.so.1))
              (subst (λ (text : List ℕ). TookPrefix (and_then before.taken text) after.taken (frame t es (start + count))) goes.text_is
              (subst (TookPrefix (and_then before.taken text) after.taken) so.1.so.0 took))
              );
        },
      )

  record StopsAt (from : Option ℕ) (full : Bool) (first last : StoreView) (before after : SinkView) (e : Refusal) : Type 0 where
    t : TableSchema
    is : IsTableOf t h
    count : ℕ
    took : TookPieces t es from full count before after
    there : AreThere t full (start_of from (length es)) (start_of from (length es) + count) first
    may : MayStop h (start_of from (length es) + count) first last e

  listing_refused : (from : Option ℕ) (full : Bool) (e : Refusal) (t : TableSchema) (start : ℕ) (text : List ℕ) (own : List Event) (first last : StoreView)
      (before after : SinkView) → Then (Opens t from full start text) (DidLatest (Err e)) own → Took full 0 text before after → IsRun f own first last
      → Stay f first last × StopsAt from full first last before after e
  listing_refused from full e t start text own first last before after calls took run =
      in_turn (OpensAt t from full start text) (StopsAt from full first last before after e) f own first last calls run
      (λ earlier middle. opens_at t from full start text earlier first middle)
      (λ opens later middle did wider more.
      let found = latest_at (Err e) later middle last did more in (
        found.files,
        record {
          t = t;
          is = opens.starts.of.is;
          count = 0;
          took = pieces_of t from full start 0 text before after opens.starts (inr refl) opens.table.text_is took;
          there = subst (λ (start : ℕ). AreThere t full start (start + 0) first) opens.starts.is
              (there_of t full start (start + 0) first run.has opens.table.base (λ id low below. absurd (omega (arith, low, below))));
          may = cause_listing first middle last (start_of from (length es) + 0) e wider found.cause;
        },
      ))

  frame_refused : (from : Option ℕ) (full : Bool) (e : Refusal) (count : ℕ) (text : List ℕ) (own : List Event) (first last : StoreView) (before after : SinkView)
      → GoesOn from full count text (λ s id. DidFrame s id (Err e)) own → Took full count text before after → IsRun f own first last
      → Stay f first last × StopsAt from full first last before after e
  frame_refused from full e count text own first last before after calls took run =
      let so = gone_on (λ s id. DidFrame s id (Err e)) (λ t start. MayStop h (start + count) first last e) from full count text own first last calls run
      (λ t start goes within later middle did wider more.
      let low : 1 ≤ start + count = let from_one = goes.starts.low in omega (arith, from_one) in
      let read = frame_at t (start + count) (Err e) later middle last goes.starts.of low within did more in
      (read.files, cause_frame t first middle last (start + count) e run.has goes.starts.of low within wider read.cause)) in
      let t = so.1.t in
      let start = so.1.start in
      let goes = so.1.goes in
      let few : count < count_from start (length es) = let within = so.1.within in omega (arith, within) in (
        so.0,
        record {
          t = t;
          is = goes.starts.of.is;
          count = count;
          took = pieces_of t from full start count text before after goes.starts (inl few) goes.text_is took;
          there = subst (λ (start : ℕ). AreThere t full start (start + count) first) goes.starts.is
              (there_of t full start (start + count) first run.has goes.base goes.there);
          may = subst (λ (start : ℕ). MayStop h (start + count) first last e) goes.starts.is so.1.so;
        },
      )

-- ---- the answer

prints_of : (h : History) (t : TableSchema) (from : Option ℕ) (full : Bool) (first : StoreView) (before after : SinkView) → IsTableOf t h
    → PrintsTable t (entries_of h) from full first before after → Prints h from full first before after
prints_of no_table t from full first before after is prints = absurd is
prints_of (table u es) t from full first before after is prints = subst (λ (s : TableSchema). PrintsTable s es from full first before after) (sym is) prints

prefix_of : (h : History) (t : TableSchema) (from : Option ℕ) (full : Bool) (first : StoreView) (before after : SinkView) → IsTableOf t h → MayStartAt t (entries_of h) from
    → TookPrefix before.taken after.taken (follow_text t (entries_of h) from full)
    → TookPart t (entries_of h) full (start_of from (length (entries_of h))) first before after → PrintsPrefix h from full first before after
prefix_of no_table t from full first before after is may took part = absurd is
prefix_of (table u es) t from full first before after is may took part =
    subst (λ (s : TableSchema). PrintsPrefix (table s es) from full first before after) (sym is) (may, took, part)

stops_of : (h : History) (t : TableSchema) (from : Option ℕ) (full : Bool) (count : ℕ) (first last : StoreView) (before after : SinkView) (e : Refusal) → IsTableOf t h
    → TookPieces t (entries_of h) from full count before after
    → AreThere t full (start_of from (length (entries_of h))) (start_of from (length (entries_of h)) + count) first → MayStop h (start_of from (length (entries_of h)) + count) first last e
    → StopsAfter h from full first last before after e
stops_of no_table t from full count first last before after e is took there may = absurd is
stops_of (table u es) t from full count first last before after e is took there may = (
  count,
  subst (λ (s : TableSchema). TookPieces s es from full count before after) (sym is) took,
  subst (λ (s : TableSchema). AreThere s full (start_of from (length es)) (start_of from (length es) + count) first) (sym is) there,
  may,
)

not_sink : (h : History) (from : Option ℕ) (full : Bool) (snapshot : Option ℕ) (first last : StoreView) (before after : SinkView)
    → StopsAfter h from full first last before after (refusals.SinkFault snapshot) → ⊥
not_sink no_table from full snapshot first last before after stops = stops
not_sink (table s _) from full snapshot first last before after (count, took, there, may) = may

refusal_answers : (h : History) (from : Option ℕ) (full : Bool) (first last : StoreView) (before after : SinkView) (e : Refusal)
    → (MayRefuse h from full first last e × (after ≡ before)) ⊎ StopsAfter h from full first last before after e
    → AnswersHistory h from full first last before after (Some e)
refusal_answers h from full first last before after (refusals.SinkFault snapshot) (inl (may, same)) = absurd may
refusal_answers h from full first last before after (refusals.SinkFault snapshot) (inr stops) =
    absurd (not_sink h from full snapshot first last before after stops)
refusal_answers h from full first last before after e why = why

answers : (laws : Laws) (f : Files) (h : History) (folder : Folder f h) (from : Option ℕ) (full : Bool) (own : List Event) (first last : StoreView) (before after : SinkView)
    (answer : Option Refusal) → Ends from full before after own answer → IsRun f own first last
    → Stay f first last × AnswersHistory h from full first last before after answer
answers laws f h folder from full own first last before after answer (all count text calls took) run =
    let so = all_printed laws f h folder from full count text own first last before after calls took run in
    (so.0, prints_of h so.1.t from full first before after so.1.is so.1.prints)
answers laws f h folder from full own first last before after answer (fails_table t start text asked calls failed took) run =
    let so = table_failed laws f h folder from full t start text own first last before after asked calls took run in
    (so.0, (refl, failed, prefix_of h so.1.t from full first before after so.1.is so.1.may so.1.took so.1.part))
answers laws f h folder from full own first last before after answer (fails_frame count text frame_text calls failed took) run =
    let so = frame_failed laws f h folder from full count text frame_text own first last before after calls took run in
    (so.0, (refl, failed, prefix_of h so.1.t from full first before after so.1.is so.1.may so.1.took so.1.part))
answers laws f h folder from full own first last before after answer (refused_first e shows same) run =
    let so = refused_at_first laws f h folder from full e own first last shows run in
    (so.0, refusal_answers h from full first last before after e (inl (so.1, same)))
answers laws f h folder from full own first last before after answer (refused_listing e t start text calls took) run =
    let so = listing_refused laws f h folder from full e t start text own first last before after calls took run in
    (so.0, refusal_answers h from full first last before after e (inr (stops_of h so.1.t from full so.1.count first last before after e so.1.is so.1.took so.1.there so.1.may)))
answers laws f h folder from full own first last before after answer (refused_frame e count text calls took) run =
    let so = frame_refused laws f h folder from full e count text own first last before after calls took run in
    (so.0, refusal_answers h from full first last before after e (inr (stops_of h so.1.t from full so.1.count first last before after e so.1.is so.1.took so.1.there so.1.may)))

pub follows : Laws → (from : Option ℕ) (full : Bool) (out out_after : SinkView) (store store_after : StoreView) (answer : Option Refusal)
    → IsFollowed from full out out_after store store_after answer → FollowsAny from full out out_after store store_after answer
follows laws from full out out_after store store_after answer ((own, ends, trace), beside) = λ alone h stands.
    let first = at_first_own store store_after in
    let files = files_of (λ f. Folder f h) first stands in
    let so = answers laws files.0 h files.2 from full own first store_after out out_after answer ends
    (record { trace = Traces-first own store store_after trace; alone = alone; has = files.1 }) in
    record {
      answers = so.1;
      rests = rests_of h files.0 first store_after files.1 so.0.here files.2;
      images = images_rest h files.0 first store_after files.1 files.2 so.0.images;
    }
