-- The pieces of what is printed, one behind another: the calls for them, and what the sink took.
use Rattle.std.proofs.Common.{◌≡◌, ◌≢◌, ◌⊎◌, inl, inr, ℕ, suc, ◌+◌, ◌-◌, ◌<◌, ◌≤◌, Bool, true, false, List, [], ◌++◌, Option, None, Some, Result, Ok, Err, refl, sym, ap, subst, ◌∙◌, append-nil, arith}
use Rattle.pm_base.specs.Known.{and_then}
use Rattle.pm_values.specs.declared.refusal.Refusal.{Refusal}
use Rattle.pm_values.specs.declared.refusal.Refusal.TheVariants as refusals
use Rattle.pm_io.specs.Sink.{SinkView, SinkLater, TookPrefix}
use Rattle.pm_store.specs.Store.{StoreView}
use Rattle.pm_machine.specs.Trace.{Event, HasTrace, before_call}
use Rattle.pm_machine.proofs.Facts.{Traces-none}
use Rattle.pm_options.specs.declared.kinds.Producer.TheVariants as producers
use Rattle.pm_schema.specs.Again.{IsDeclared}
use Rattle.pm_schema.specs.declared.schema.TableSchema.{TableSchema}
use Rattle.pm_read_schema.specs.AllCalls.{DidRead}
use Rattle.pm_read_latest.specs.AllCalls.{DidLatest}
use Rattle.pm_read_table.specs.declared.phase.Phase.TheVariants as views
use Rattle.pm_scan.specs.AllCalls as scanner
use Rattle.pm_scan.specs.Asked.{passed_at}
use Rattle.pm_read_frame.specs.AllCalls.{DidFrame}
use Rattle.pm_command.specs.Outside as outside
use Rattle.pm_command_follow.specs.Follow.{DidSchema, DidTable, HasEnded, HasSchema, Lists, Opens, ReadsFrames, Starts, Then, Took, all, fails_frame, fails_table, of_listing, of_producer, of_reader, of_schema, of_start, of_table, refused_first, refused_frame, refused_listing}
use Rattle.pm_command_follow.specs.Pieces.{HasPrinted, PrintsFrame, PrintsFrames, PrintsPiece, PrintsStart}
use Rattle.pm_command_follow.specs.Printed.{count_from, start_of, table_head}
use Rattle.pm_command_follow.proofs.JoinLemmas.{in_a_row, rose_wider}
use Rattle.pm_command_follow.proofs.TextLemmas.{and_then_nothing, and_then_twice}

-- ---- the schema

pub reader_shown : (e : Refusal) (store after : StoreView) → HasTrace (DidRead (Err e)) store after → HasTrace (DidSchema (Err e)) store after
reader_shown e store after (own, shows, trace) = (own, of_reader shows, trace)

pub producer_shown : (s : TableSchema) (store after : StoreView) → s.options.producer ≡ producers.None → HasTrace (DidRead (Ok s)) store after
    → HasTrace (DidSchema (Err refusals.NoChangelog)) store after
producer_shown s store after none (own, did, trace) = (own, of_producer s none refl did, trace)

pub schema_read : (s : TableSchema) (store after : StoreView) → s.options.producer ≢ producers.None → IsDeclared s → HasTrace (DidRead (Ok s)) store after
    → HasTrace (HasSchema s) store after
schema_read s store after tells declared (own, did, trace) = (own, (tells, declared, did), trace)

pub schema_shown : (from : Option ℕ) (full : Bool) (e : Refusal) (out : SinkView) (store after : StoreView) → HasTrace (DidSchema (Err e)) store after
    → HasEnded from full out out store after (Some e)
schema_shown from full e out store after (own, shows, trace) = (own, refused_first e (of_schema shows) refl, trace)

-- ---- the start

pub listing_shown : (s : TableSchema) (from : Option ℕ) (full : Bool) (e : Refusal) (out : SinkView) (first middle after : StoreView) → HasTrace (HasSchema s) first middle
    → HasTrace (DidLatest (Err e)) middle after → HasEnded from full out out first after (Some e)
listing_shown s from full e out first middle after has did =
    let t = in_a_row (HasSchema s) (DidLatest (Err e)) first middle after has did in
    (t.0, refused_first e (of_listing s t.1) refl, t.2)

pub start_shown : (s : TableSchema) (from : Option ℕ) (full : Bool) (latest : ℕ) (e : Refusal) (out : SinkView) (first middle after : StoreView)
    → HasTrace (HasSchema s) first middle → HasTrace (DidLatest (Ok latest)) middle after
    → (id : ℕ) × (from ≡ Some id) × (suc latest < id) × (e ≡ refusals.NoSnapshot id latest) → HasEnded from full out out first after (Some e)
start_shown s from full latest e out first middle after has did (id, asked, above, is) =
    let t = in_a_row (HasSchema s) (DidLatest (Ok latest)) first middle after has did in
    (t.0, refused_first e (of_start s id latest asked above is t.1) refl, t.2)

pub started : (s : TableSchema) (from : Option ℕ) (latest start : ℕ) (first middle after : StoreView) → HasTrace (HasSchema s) first middle
    → HasTrace (DidLatest (Ok latest)) middle after → (start ≡ start_of from latest) × (start ≤ suc latest) × (1 ≤ start) → HasTrace (Starts s from start) first after
started s from latest start first middle after has did (is, high, low) =
    let t = in_a_row (HasSchema s) (DidLatest (Ok latest)) first middle after has did in
    (t.0, (latest, t.1, is, low, high), t.2)

-- ---- the starting table

pub rows_shown : (s : TableSchema) (start : ℕ) (e : Refusal) (store after : StoreView) → HasTrace (scanner.Ends (passed_at s (start - 1)) (Err e)) store after
    → HasTrace (DidTable s start (Err e)) store after
rows_shown s start e store after (own, shows, trace) = (own, inl shows, trace)

pub memory_shown : (s : TableSchema) (start : ℕ) (rows : List ℕ) (store after : StoreView) → HasTrace (scanner.Ends (passed_at s (start - 1)) (Ok rows)) store after
    → HasTrace (DidTable s start (Err refusals.Memory)) store after
memory_shown s start rows store after (own, did, trace) = (own, inr (refl, rows, did), trace)

pub table_read : (s : TableSchema) (start : ℕ) (rows text : List ℕ) (store after : StoreView) → text ≡ table_head (start - 1) ++ rows
    → HasTrace (scanner.Ends (passed_at s (start - 1)) (Ok rows)) store after → HasTrace (DidTable s start (Ok text)) store after
table_read s start rows text store after is (own, did, trace) = (own, (rows, did, is), trace)

-- no call was made
pub scan_none : (s : TableSchema) (id : ℕ) (store : StoreView) → HasTrace (scanner.Ends (passed_at s id) (Err refusals.Memory)) store store
scan_none s id store = ([], inl (before_call (views.List (passed_at s id).table) refl (refl, refl, tt)), Traces-none store)

-- ---- a piece

pub printed : (did : Result (List ℕ) Refusal → List Event → Type 0) (text shown : List ℕ) (out out_after : SinkView) (store after : StoreView) (answer : Option Refusal)
    → shown ≡ text → HasTrace (did (Ok text)) store after → outside.Prints shown None None out out_after answer → PrintsPiece did out out_after store after answer
printed did text shown out out_after store after None is trace taken = (text, trace, taken ∙ ap (and_then out.taken) is)
printed did text shown out out_after store after (Some e) is trace (fault, failed, took) =
    inl (text, trace, (fault, failed, subst (TookPrefix out.taken out_after.taken) is took))

pub unprinted : (did : Result (List ℕ) Refusal → List Event → Type 0) (e : Refusal) (out : SinkView) (store after : StoreView) → HasTrace (did (Err e)) store after
    → PrintsPiece did out out store after (Some e)
unprinted did e out store after trace = inr (trace, refl)

-- ---- with the starting table or without it

pub table_shown : (s : TableSchema) (from : Option ℕ) (start : ℕ) (e : Refusal) (out out_after : SinkView) (first middle after : StoreView)
    → HasTrace (Starts s from start) first middle → PrintsStart s start out out_after middle after (Some e) → HasEnded from true out out_after first after (Some e)
table_shown s from start e out out_after first middle after starts (inl (text, did, (is, failed, took))) =
    let t = in_a_row (Starts s from start) (DidTable s start (Ok text)) first middle after starts did in
    subst (λ (e : Refusal). HasEnded from true out out_after first after (Some e)) (sym is) (t.0, fails_table s start text refl t.1 failed took, t.2)
table_shown s from start e out out_after first middle after starts (inr (did, same)) =
    let t = in_a_row (Starts s from start) (DidTable s start (Err e)) first middle after starts did in
    (t.0, refused_first e (of_table s start refl t.1) same, t.2)

-- it goes on from what was printed so far
pub record IsOpen (s : TableSchema) (from : Option ℕ) (full : Bool) (start : ℕ) (out out_after : SinkView) (first after : StoreView) : Type 0 where
  pub text : List ℕ
  pub opens : HasTrace (Opens s from full start text) first after
  pub took : Took full 0 text out out_after

pub opened_with : (s : TableSchema) (from : Option ℕ) (start : ℕ) (out out_after : SinkView) (first middle after : StoreView) → HasTrace (Starts s from start) first middle
    → PrintsStart s start out out_after middle after None → SinkLater out out_after → IsOpen s from true start out out_after first after
opened_with s from start out out_after first middle after starts (text, did, taken) later = record {
  text = text;
  opens = in_a_row (Starts s from start) (DidTable s start (Ok text)) first middle after starts did;
  took = (taken, λ not none. absurd (true_not not), later);
}
  where
    true_not : true ≡ false → ⊥
    true_not is = cc

pub opened_without : (s : TableSchema) (from : Option ℕ) (start : ℕ) (out : SinkView) (first after : StoreView) → HasTrace (Starts s from start) first after
    → IsOpen s from false start out out first after
opened_without s from start out first after (own, starts, trace) = record {
  text = [];
  opens = (own, (own, [], starts, (refl, refl), sym (append-nil own)), trace);
  took = (sym (and_then_nothing out.taken), (λ not none. refl), same out.faults);
}
  where
    same : (n : ℕ) → n ≤ n
    same n = omega arith

-- ---- the frames

pub second_shown : (s : TableSchema) (from : Option ℕ) (full : Bool) (start : ℕ) (text : List ℕ) (e : Refusal) (out out_after : SinkView) (first middle after : StoreView)
    → HasTrace (Opens s from full start text) first middle → Took full 0 text out out_after → HasTrace (DidLatest (Err e)) middle after
    → HasEnded from full out out_after first after (Some e)
second_shown s from full start text e out out_after first middle after opens took did =
    let t = in_a_row (Opens s from full start text) (DidLatest (Err e)) first middle after opens did in
    (t.0, refused_listing e s start text t.1 took, t.2)

took_join : (full : Bool) (count : ℕ) (text frames : List ℕ) (first middle last : SinkView) → Took full 0 text first middle → Took false count frames middle last
    → Took full count (text ++ frames) first last
took_join full count text frames first middle last (taken, untouched, later) (more, unmoved, late) = (
  more ∙ ap (λ (known : Option (List ℕ)). and_then known frames) taken ∙ and_then_twice first.taken text frames,
  (λ none nothing. unmoved refl nothing ∙ untouched none refl),
  omega (arith, later, late),
)

pub frames_shown : (s : TableSchema) (from : Option ℕ) (full : Bool) (start latest : ℕ) (text : List ℕ) (out between out_after : SinkView)
    (first middle now after : StoreView) (answer : Option Refusal) → HasTrace (Opens s from full start text) first middle → Took full 0 text out between
    → HasTrace (DidLatest (Ok latest)) middle now → PrintsFrames s start latest between out_after now after answer
    → HasEnded from full out out_after first after answer
frames_shown s from full start latest text out between out_after first middle now after None opens took did (frames, read, took_frames) =
    let lists = in_a_row (Opens s from full start text) (DidLatest (Ok latest)) first middle now opens did in
    let t = in_a_row (Lists s from full start latest text) (ReadsFrames s start (count_from start latest) frames) first now after lists read in (
      t.0,
      all (count_from start latest) (text ++ frames) (s, start, latest, text, frames, refl, t.1, refl)
          (took_join full (count_from start latest) text frames out between out_after took took_frames),
      t.2,
    )
frames_shown s from full start latest text out between out_after first middle now after (Some e) opens took did
    (count, few, (last, until, (frames, read, took_frames), inl (frame, did_frame, (is, failed, took_frame)))) =
    let lists = in_a_row (Opens s from full start text) (DidLatest (Ok latest)) first middle now opens did in
    let more = in_a_row (ReadsFrames s start count frames) (DidFrame s (start + count) (Ok frame)) now until after read did_frame in
    let t = in_a_row (Lists s from full start latest text) (Then (ReadsFrames s start count frames) (DidFrame s (start + count) (Ok frame))) first now after lists more in
    let took_all = took_join full count text frames out between last took took_frames in
    subst (λ (e : Refusal). HasEnded from full out out_after first after (Some e)) (sym is) (
      t.0,
      fails_frame count (text ++ frames) frame (s, start, latest, text, frames, few, t.1, refl)
          (rose_wider out.faults last.faults out_after.faults took_all.2 failed)
          (subst (λ (known : Option (List ℕ)). TookPrefix known out_after.taken frame) took_all.0 took_frame),
      t.2,
    )
frames_shown s from full start latest text out between out_after first middle now after (Some e) opens took did
    (count, few, (last, until, (frames, read, took_frames), inr (did_frame, same))) =
    let lists = in_a_row (Opens s from full start text) (DidLatest (Ok latest)) first middle now opens did in
    let more = in_a_row (ReadsFrames s start count frames) (DidFrame s (start + count) (Err e)) now until after read did_frame in
    let t = in_a_row (Lists s from full start latest text) (Then (ReadsFrames s start count frames) (DidFrame s (start + count) (Err e))) first now after lists more in
    let took_all = took_join full count text frames out between last took took_frames in (
      t.0,
      refused_frame e count (text ++ frames) (s, start, latest, text, frames, few, t.1, refl)
          (subst (λ (last : SinkView). Took full count (text ++ frames) out last) (sym same) took_all),
      t.2,
    )

-- ---- frame by frame

pub none_printed : (s : TableSchema) (start : ℕ) (out : SinkView) (store : StoreView) → HasPrinted s start (start - start) out out store store
none_printed s start out store =
    let zero_is : start - start ≡ 0 = omega arith in
    subst (λ (count : ℕ). HasPrinted s start count out out store store) (sym zero_is)
    ([], ([], (refl, refl), Traces-none store), (sym (and_then_nothing out.taken), (λ not none. refl), same out.faults))
  where
    same : (n : ℕ) → n ≤ n
    same n = omega arith

pub one_printed : (s : TableSchema) (start id : ℕ) (first middle last : SinkView) (store now after : StoreView) → start ≤ id
    → HasPrinted s start (id - start) first middle store now → PrintsFrame s id middle last now after None → SinkLater middle last
    → HasPrinted s start ((id + 1) - start) first last store after
one_printed s start id first middle last store now after low (frames, read, (taken, untouched, later)) (frame, did, taken_frame) late =
    let at : id ≡ start + (id - start) = omega (arith, low) in
    let count : suc (id - start) ≡ (id + 1) - start = omega (arith, low) in
    let t = in_a_row (ReadsFrames s start (id - start) frames) (DidFrame s (start + (id - start)) (Ok frame)) store now after read
    (subst (λ (id_now : ℕ). HasTrace (DidFrame s id_now (Ok frame)) now after) at did) in
    subst (λ (count : ℕ). HasPrinted s start count first last store after) count (
      frames ++ frame,
      (t.0, (frames, frame, t.1, refl), t.2),
      (
        taken_frame ∙ ap (λ (known : Option (List ℕ)). and_then known frame) taken ∙ and_then_twice first.taken frames frame,
        (λ not none. absurd (suc_not (id - start) none)),
        omega (arith, later, late),
      ),
    )
  where
    suc_not : (n : ℕ) → suc n ≡ 0 → ⊥
    suc_not n is = omega (arith, is)

pub stopped : (s : TableSchema) (start latest id : ℕ) (first middle last : SinkView) (store now after : StoreView) (e : Refusal) → start ≤ id → id ≤ latest
    → HasPrinted s start (id - start) first middle store now → PrintsFrame s id middle last now after (Some e)
    → PrintsFrames s start latest first last store after (Some e)
stopped s start latest id first middle last store now after e low within printed piece =
    let at : id ≡ start + (id - start) = omega (arith, low) in
    (id - start, omega (arith, low, within), (middle, now, printed, subst (λ (id_now : ℕ). PrintsFrame s id_now middle last now after (Some e)) at piece))

pub finished : (s : TableSchema) (start latest id : ℕ) (first last : SinkView) (store after : StoreView) → start ≤ id → latest < id → (id ≡ start) ⊎ (id ≤ suc latest)
    → HasPrinted s start (id - start) first last store after → PrintsFrames s start latest first last store after None
finished s start latest id first last store after low above bound printed =
    subst (λ (count : ℕ). HasPrinted s start count first last store after) (by bound) printed
  where
    by : (id ≡ start) ⊎ (id ≤ suc latest) → id - start ≡ suc latest - start
    by (inl is) = omega (arith, is, above)
    by (inr high) = let same : id ≡ suc latest = omega (arith, high, above) in ap (λ (n : ℕ). n - start) same
