-- What is known of the pieces that were printed, one after another, whatever others do.
use Rattle.std.proofs.Common.{◌≡◌, ◌⊎◌, inl, inr, ℕ, suc, ◌+◌, ◌-◌, ◌<◌, ◌≤◌, Bool, true, false, List, [], ◌∷◌, ◌++◌, length, IfErr, IfOk, Option, None, Some, Result, Ok, Err, Vec, refl, sym, ap, subst, ◌∙◌, append-nil, append_assoc, length-append, arith}
use Rattle.std.specs.Global.{Global}
use Rattle.pm_base.specs.Known.{and_then}
use Rattle.pm_values.specs.declared.refusal.Refusal.{Refusal}
use Rattle.pm_values.specs.declared.refusal.Refusal.TheVariants as refusals
use Rattle.pm_io.specs.Sink.{SinkView, TookPrefix}
use Rattle.pm_store.specs.Files.{Files}
use Rattle.pm_store.specs.Store.{StoreView}
use Rattle.pm_machine.specs.Trace.{Event, HasTrace}
use Rattle.pm_machine.proofs.Facts.{Traces-join}
use Rattle.pm_schema.specs.declared.schema.TableSchema.{TableSchema}
use Rattle.pm_snapshot.specs.Names.{greatest}
use Rattle.pm_model_history.specs.History.{Entry, GoesOn, History, IsTableOf, no_table, table}
use Rattle.pm_model_folder.specs.Ledger.{Past, Stands, count_of}
use Rattle.pm_read_schema.specs.Beside.{AnyPast, IsTold, Learns}
use Rattle.pm_read_schema.proofs.BesideFacts.{PastStays, learns-none, learns-then, learns-weaker}
use Rattle.pm_read_latest.specs.AllCalls.{DidLatest}
use Rattle.pm_read_table.specs.Trace.{HasDelta, HasView, of_origin, of_snapshot}
use Rattle.pm_read_table.specs.declared.view.View.{View}
use Rattle.pm_manifest.specs.declared.entry.ManifestMeta.{ManifestMeta}
use Rattle.pm_snapshot.specs.declared.snapshot.Snapshot.{Snapshot}
use Rattle.pm_scan.specs.Asked.{passed_at}
use Rattle.pm_scan.specs.Beside.{PassesBeside, TellsBeside}
use Rattle.pm_scan.specs.Meaning.{IsPassed}
use Rattle.pm_scan.specs.Trace.{HasScan}
use Rattle.pm_read_frame.specs.AllCalls.{DidFrame}
use Rattle.pm_read_frame.specs.Frames.{AreFramesFrom, IsFrameOf, joined}
use Rattle.pm_read_frame.specs.Meaning.{IsFrame}
use Rattle.pm_command.specs.Outside as outside
use Rattle.pm_command_follow.specs.Beside.{ArePieces, IsFirstOf, IsStartOf}
use Rattle.pm_command_follow.specs.Follow.{DidTable, FollowsBeside, HasStarted, LearnsFirst, Lists, Opens, ReadsFrames, Starts, TellsChanges, Then, breaks_off, prints, refuses, stops}
use Rattle.pm_command_follow.specs.Pieces.{FramesBeside, HasBegun, HasLearned, IsCommittedOf, IsListed, IsStarting, LearnsBelow, LearnsFrame, LearnsFrames, LearnsStart, PieceBeside, PrintsFrames, PrintsPiece, PrintsStart, RefusesFrame}
use Rattle.pm_command_follow.specs.Printed.{count_from, table_head}
use Rattle.pm_command_follow.proofs.JoinLemmas.{in_a_row}
use Rattle.pm_command_follow.proofs.LearnLemmas.{count_on, goes_itself, learns_with, start_on, table_on}
use Rattle.pm_command_follow.proofs.TextLemmas.{and_then_nothing, and_then_twice, took_behind}
use Rattle.pm_command_follow.proofs.WhyLemmas.{why_frames, why_listing, why_start}

-- what the law of pieces says of the first of them
abbrev pub FirstLaw : Type 0
FirstLaw = (s : TableSchema) (es : List Entry) (full : Bool) (start : ℕ) (first : List ℕ) (frames : List (List ℕ)) → TellsChanges s
    → ArePieces (table s es) full start first frames → IsFirstOf s es full start (length frames) (first ++ joined frames)

-- what the law of frames says of one that is known
abbrev pub FrameKnown : Type 0
FrameKnown = (f : Files) (p : Past) (id : ℕ) (text : List ℕ) → Stands f p → IsFrame p id text → IsFrameOf p.history id text

-- of frames of a history that goes on
abbrev pub FramesLater : Type 0
FramesLater = (h later : History) (id : ℕ) (texts : List (List ℕ)) → GoesOn h later → AreFramesFrom h id texts → AreFramesFrom later id texts

-- and of a frame behind others
abbrev pub FramesNext : Type 0
FramesNext = (h : History) (id : ℕ) (texts : List (List ℕ)) (text : List ℕ) → AreFramesFrom h id texts → IsFrameOf h (id + length texts) text
    → AreFramesFrom h id (texts ++ text ∷ [])

-- ---- the starting table

delta_id : (s : TableSchema) (at : ℕ) (x : Snapshot) (base delta : List ManifestMeta) (own : List Event) → HasDelta (passed_at s at).table x base delta own → x.id ≡ at
delta_id s at x base delta own (bytes, list, (early, (others, other, (first, (own_bytes, low, reads, same, (one, (names, latest, last, (is, within), only), there)), found)), also)) = is

view_id : (s : TableSchema) (at : ℕ) (v : View) (own : List Event) → HasView (passed_at s at).table v own → v.id ≡ at
view_id s at v own (of_origin bytes view (one, (names, latest, last, (is, within), only), there)) = view.id ∙ is
view_id s at v own (of_snapshot x metas entries live part leaves view) = view.id ∙ delta_id s at x part.base part.delta part.lists part.listed

-- the rows are those at the snapshot that was asked for
passed_id : (s : TableSchema) (at id : ℕ) (text : List ℕ) (own : List Event) → HasScan (passed_at s at) id text own → id ≡ at
passed_id s at id text own has = has.is_id ∙ view_id s at has.view has.all_read.first has.all_read.viewed

pub passed_known : (s copy : TableSchema) (at : ℕ) (made : Result (Vec ℕ Global) Refusal) (before after : StoreView) → copy ≡ s
    → IfOk made (λ text. PassesBeside copy at text.items before after)
    → IfOk made (λ text. Learns (λ f p. IsTableOf s p.history) (λ f p. IsPassed p at text.items) before after)
passed_known s copy at (Err e) before after same scans = tt
passed_known s copy at (Ok text) before after same (id, (own, has, trace), learned) =
    subst (λ (s : TableSchema). Learns (λ f p. IsTableOf s p.history) (λ f p. IsPassed p at text.items) before after) same
    (subst (λ (id : ℕ). Learns (λ f p. IsTableOf copy p.history) (λ f p. IsPassed p id text.items) before after) (passed_id copy at id text.items own has) learned)

pub passed_told : (s copy : TableSchema) (made : Result (Vec ℕ Global) Refusal) (before after : StoreView) → copy ≡ s
    → IfErr made (λ e. TellsBeside copy e before after) → IfErr made (λ e. TellsBeside s e before after)
passed_told s copy (Ok text) before after same told = tt
passed_told s copy (Err e) before after same told = subst (λ (s : TableSchema). TellsBeside s e before after) same told

-- memory ran out before any call
pub none_told : (s : TableSchema) (store : StoreView) → TellsBeside s refusals.Memory store store
none_told s store = learns-weaker (λ f p. IsTableOf s p.history) (λ f p. IsTableOf s p.history) (λ f p. IsTableOf s p.history) (IsTold refusals.Memory) store store
    (λ f p known. known) (λ f p stands known. tt) (learns-none (λ f p. IsTableOf s p.history) store)

-- or after the rows were read
pub rows_told : (s : TableSchema) (id : ℕ) (rows : List ℕ) (before after : StoreView) → Learns (λ f p. IsTableOf s p.history) (λ f p. IsPassed p id rows) before after
    → TellsBeside s refusals.Memory before after
rows_told s id rows before after = learns-weaker (λ f p. IsTableOf s p.history) (λ f p. IsTableOf s p.history) (λ f p. IsPassed p id rows) (IsTold refusals.Memory)
    before after (λ f p known. known) (λ f p stands known. tt)

start_known : (s : TableSchema) (start : ℕ) (rows text : List ℕ) (f : Files) (p : Past) → text ≡ table_head (start - 1) ++ rows → Stands f p
    → IsTableOf s p.history → IsPassed p (start - 1) rows → IsStarting s true start text p
start_known s start rows text f p is stands of_table scan =
    (of_table, (rows, record { files = f; past = p; stood = stands; scan = scan; goes_on = goes_itself p.history }, is))

-- behind its head
pub start_learned : (s : TableSchema) (start : ℕ) (rows text : List ℕ) (before after : StoreView) → text ≡ table_head (start - 1) ++ rows
    → Learns (λ f p. IsTableOf s p.history) (λ f p. IsPassed p (start - 1) rows) before after → LearnsStart s start text before after
start_learned s start rows text before after is learned =
    learns-weaker (λ f p. IsTableOf s p.history) (λ f p. IsTableOf s p.history × IsTableOf s p.history)
    (λ f p. IsTableOf s p.history × IsPassed p (start - 1) rows) (λ f p. IsStarting s true start text p) before after
    (λ f p known. (known, known)) (λ f p stands known. start_known s start rows text f p is stands known.0 known.1)
    (learns_with (λ h. IsTableOf s h) (table_on s) (λ f p. IsTableOf s p.history) (λ f p. IsPassed p (start - 1) rows) before after learned)

-- ---- a piece

pub piece_printed : (learns : List ℕ → StoreView → StoreView → Type 0) (refused : Refusal → StoreView → StoreView → Type 0) (text shown : List ℕ) (out out_after : SinkView)
    (store after : StoreView) (answer : Option Refusal) → shown ≡ text → learns text store after → outside.Prints shown None None out out_after answer
    → PieceBeside learns refused out out_after store after answer
piece_printed learns refused text shown out out_after store after None is known taken = (text, known, taken ∙ ap (and_then out.taken) is)
piece_printed learns refused text shown out out_after store after (Some e) is known (fault, failed, took) =
    inl (text, known, (fault, failed, subst (TookPrefix out.taken out_after.taken) is took))

pub piece_refused : (learns : List ℕ → StoreView → StoreView → Type 0) (refused : Refusal → StoreView → StoreView → Type 0) (e : Refusal) (out : SinkView)
    (store after : StoreView) → refused e store after → PieceBeside learns refused out out store after (Some e)
piece_refused learns refused e out store after why = inr (refl, why)

-- some calls came
pub any_trace : (did : List Event → Type 0) (before after : StoreView) → HasTrace did before after → HasTrace (λ own. Unit {0}) before after
any_trace did before after (own, so, trace) = (own, tt, trace)

-- ---- frame by frame

pub joined_push : (texts : List (List ℕ)) (text : List ℕ) → joined (texts ++ text ∷ []) ≡ joined texts ++ text
joined_push [] text = append-nil text
joined_push (one ∷ texts) text = ap (λ (rest : List ℕ). one ++ rest) (joined_push texts text) ∙ sym (append_assoc one (joined texts) text)

pub length_push : (texts : List (List ℕ)) (text : List ℕ) → length (texts ++ text ∷ []) ≡ suc (length texts)
length_push texts text = let both = length-append texts (text ∷ []) in omega (arith, both)

pub none_learned : (s : TableSchema) (start latest : ℕ) (out : SinkView) (store : StoreView) → HasLearned s start latest (start - start) out out store store
none_learned s start latest out store = (
  [],
  omega arith,
  learns-weaker (λ f p. IsListed s latest p) (λ f p. IsListed s latest p) (λ f p. IsListed s latest p)
      (λ f p. IsListed s latest p × AreFramesFrom p.history start []) store store (λ f p known. known) (λ f p stands known. (known, tt))
      (learns-none (λ f p. IsListed s latest p) store),
  sym (and_then_nothing out.taken),
)

-- what is known of a listing and of frames stays
frames_on : FramesLater → (s : TableSchema) (start latest : ℕ) (frames : List (List ℕ)) (h later : History) → GoesOn h later
    → (IsTableOf s h × (latest ≤ count_of h)) × AreFramesFrom h start frames → (IsTableOf s later × (latest ≤ count_of later)) × AreFramesFrom later start frames
frames_on law s start latest frames h later goes known =
    ((table_on s h later goes known.0.0, count_on latest h later goes known.0.1), law h later start frames goes known.1)

-- one frame more
frames_push : FrameKnown → FramesLater → FramesNext → (s : TableSchema) (start latest id : ℕ) (frames : List (List ℕ)) (text : List ℕ) (store now after : StoreView)
    → id ≤ latest → latest ≤ greatest → id ≡ start + length frames → LearnsFrames s start latest frames store now → LearnsFrame s id text now after
    → LearnsFrames s start latest (frames ++ text ∷ []) store after
frames_push known later next s start latest id frames text store now after within low at learned frame =
    learns-then (λ f p. IsListed s latest p) (λ f p. IsListed s latest p × AreFramesFrom p.history start frames)
    (λ f p. IsListed s latest p × AreFramesFrom p.history start (frames ++ text ∷ [])) store now after learned
    (learns-weaker (λ f p. IsListed s latest p × AreFramesFrom p.history start frames)
    (λ f p. (IsListed s latest p × AreFramesFrom p.history start frames) × (IsTableOf s p.history × (id ≤ greatest) × (id ≤ count_of p.history)))
    (λ f p. (IsListed s latest p × AreFramesFrom p.history start frames) × IsFrame p id text)
    (λ f p. IsListed s latest p × AreFramesFrom p.history start (frames ++ text ∷ [])) now after
    (λ f p was. (was, (was.0.0, omega (arith, within, low), below (count_of p.history) was.0.1)))
    (λ f p stands was. (
      was.0.0,
      next p.history start frames text was.0.1
          (subst (λ (id : ℕ). IsFrameOf p.history id text) at (known f p id text stands was.1)),
    ))
    (learns_with (λ h. (IsTableOf s h × (latest ≤ count_of h)) × AreFramesFrom h start frames) (frames_on later s start latest frames)
    (λ f p. IsTableOf s p.history × (id ≤ greatest) × (id ≤ count_of p.history)) (λ f p. IsFrame p id text) now after frame))
  where
    below : (count : ℕ) → latest ≤ count → id ≤ count
    below count high = omega (arith, within, high)

pub one_learned : FrameKnown → FramesLater → FramesNext → (s : TableSchema) (start latest id : ℕ) (first middle last : SinkView) (store now after : StoreView)
    → start ≤ id → id ≤ latest → latest ≤ greatest → HasLearned s start latest (id - start) first middle store now
    → PieceBeside (LearnsFrame s id) (RefusesFrame s id) middle last now after None → HasLearned s start latest ((id + 1) - start) first last store after
one_learned known later next s start latest id first middle last store now after low within most (frames, size, learned, taken) (text, frame, taken_frame) =
    let push = length_push frames text in (
      frames ++ text ∷ [],
      omega (arith, push, size, low),
      frames_push known later next s start latest id frames text store now after within most (omega (arith, size, low)) learned frame,
      taken_frame ∙ ap (λ (taken : Option (List ℕ)). and_then taken text) taken ∙ and_then_twice first.taken (joined frames) text
          ∙ ap (and_then first.taken) (sym (joined_push frames text)),
    )

-- each snapshot up to the latest that was listed was committed
committed_below : (s : TableSchema) (latest id : ℕ) (f : Files) (p : Past) → id ≤ latest → latest ≤ greatest → IsListed s latest p → IsCommittedOf s id f p
committed_below s latest id f p within most known = (known.0, omega (arith, within, most), omega (arith, within, known.1))

-- a frame was refused behind others
refused_push : (s : TableSchema) (start latest id : ℕ) (frames : List (List ℕ)) (e : Refusal) (store now after : StoreView) → id ≤ latest → latest ≤ greatest
    → LearnsFrames s start latest frames store now → Learns (IsCommittedOf s id) (IsTold e) now after → Learns (λ f p. IsListed s latest p) (IsTold e) store after
refused_push s start latest id frames e store now after within most learned told =
    learns-then (λ f p. IsListed s latest p) (λ f p. IsListed s latest p × AreFramesFrom p.history start frames) (IsTold e) store now after learned
    (learns-weaker (λ f p. IsListed s latest p × AreFramesFrom p.history start frames) (IsCommittedOf s id) (IsTold e) (IsTold e) now after
    (λ f p was. committed_below s latest id f p within most was.0) (λ f p stands known. known) told)

pub frame_stopped : FrameKnown → FramesLater → FramesNext → (s : TableSchema) (start latest id : ℕ) (first middle last : SinkView)
    (store now after : StoreView) (e : Refusal) → start ≤ id → id ≤ latest → latest ≤ greatest
    → HasLearned s start latest (id - start) first middle store now → PieceBeside (LearnsFrame s id) (RefusesFrame s id) middle last now after (Some e)
    → FramesBeside s start latest first last store after (Some e)
frame_stopped known later next s start latest id first middle last store now after e low within most (frames, size, learned, taken)
    (inl (text, frame, (is, failed, took))) = (
      frames ++ text ∷ [],
      frames_push known later next s start latest id frames text store now after within most (omega (arith, size, low)) learned frame,
      inl (
        is,
        subst (TookPrefix first.taken last.taken) (sym (joined_push frames text))
            (took_behind first.taken last.taken (joined frames) text (subst (λ (taken : Option (List ℕ)). TookPrefix taken last.taken text) taken took)),
      ),
    )
frame_stopped known later next s start latest id first middle last store now after e low within most (frames, size, learned, taken)
    (inr (same, told)) = (
      frames,
      learns-then (λ f p. IsListed s latest p) (λ f p. IsListed s latest p × AreFramesFrom p.history start frames)
          (λ f p. IsListed s latest p × AreFramesFrom p.history start frames) store now after learned
          (learns-weaker (λ f p. IsListed s latest p × AreFramesFrom p.history start frames)
          (λ f p. (IsListed s latest p × AreFramesFrom p.history start frames) × IsCommittedOf s id f p)
          (λ f p. (IsListed s latest p × AreFramesFrom p.history start frames) × IsTold e f p) (λ f p. IsListed s latest p × AreFramesFrom p.history start frames)
          now after (λ f p was. (was, committed_below s latest id f p within most was.0)) (λ f p stands known. known.0)
          (learns_with (λ h. (IsTableOf s h × (latest ≤ count_of h)) × AreFramesFrom h start frames) (frames_on later s start latest frames) (IsCommittedOf s id)
          (IsTold e) now after told)),
      inr (
        ap (λ (out : SinkView). out.taken) same ∙ taken,
        refused_push s start latest id frames e store now after within most learned told,
      ),
    )

pub all_learned : (s : TableSchema) (start latest id : ℕ) (first last : SinkView) (store after : StoreView) → start ≤ id → latest < id
    → (id ≡ start) ⊎ (id ≤ suc latest) → HasLearned s start latest (id - start) first last store after → FramesBeside s start latest first last store after None
all_learned s start latest id first last store after low above bound learned =
    subst (λ (count : ℕ). HasLearned s start latest count first last store after) (by bound) learned
  where
    by : (id ≡ start) ⊎ (id ≤ suc latest) → id - start ≡ suc latest - start
    by (inl is) = omega (arith, is, above)
    by (inr high) = let same : id ≡ suc latest = omega (arith, high, above) in ap (λ (n : ℕ). n - start) same

-- ---- what that is of a following

-- pieces that are known of a history are the first of what is printed of its table
pub first_of : FirstLaw → (s : TableSchema) → TellsChanges s → (h : History) (full : Bool) (start : ℕ) (first : List ℕ) (frames : List (List ℕ))
    → IsTableOf s h → IsStartOf h full start first → AreFramesFrom h start frames
    → (es : List Entry) × (h ≡ table s es) × IsFirstOf s es full start (length frames) (first ++ joined frames)
first_of law s tells no_table full start first frames is base each = absurd is
first_of law s tells (table t es) full start first frames is base each = (
  es,
  ap (λ (t : TableSchema). table t es) is,
  law s es full start first frames tells
      (subst (λ (t : TableSchema). ArePieces (table t es) full start first frames) is (record { base = base; each = each })),
)

-- the table tells its changes
started_schema : (s : TableSchema) (from : Option ℕ) (start : ℕ) (own : List Event) → Starts s from start own → TellsChanges s
started_schema s from start own (latest, (earlier, later, (tells, declared, did), listed, is), at, low, high) = tells

opened_schema : (s : TableSchema) (from : Option ℕ) (full : Bool) (start : ℕ) (text : List ℕ) (first after : StoreView)
    → HasTrace (Opens s from full start text) first after → TellsChanges s
opened_schema s from full start text first after (own, (earlier, later, starts, reads, is), trace) = started_schema s from start earlier starts

-- the starting table stays
pub starting_on : (s : TableSchema) (full : Bool) (start : ℕ) (text : List ℕ) (h later : History) → GoesOn h later → IsTableOf s h × IsStartOf h full start text
    → IsTableOf s later × IsStartOf later full start text
starting_on s full start text h later goes known = (table_on s h later goes known.0, start_on full start text h later goes known.1)

-- the starting table alone
begun_first : FirstLaw → (s : TableSchema) (full : Bool) (start : ℕ) (text : List ℕ) (first after : StoreView) → TellsChanges s
    → Learns AnyPast (λ f p. IsStarting s full start text p) first after → LearnsFirst s full start 0 text first after
begun_first law s full start text first after so =
    learns-weaker AnyPast AnyPast (λ f p. IsStarting s full start text p)
    (λ f p. (es : List Entry) × (p.history ≡ table s es) × IsFirstOf s es full start 0 text) first after (λ f p known. known)
    (λ f p stands known. (
    let found = first_of law s so p.history full start text [] known.0 known.1 tt in
    (found.0, found.1, subst (IsFirstOf s found.0 full start 0) (append-nil text) found.2)))

-- and the snapshots that were listed after it
listed_begun : (s : TableSchema) (full : Bool) (start latest : ℕ) (text : List ℕ) (first before now : StoreView)
    → Learns AnyPast (λ f p. IsStarting s full start text p) first before → Learns AnyPast (λ f p. (latest ≤ greatest) × (latest ≤ count_of p.history)) before now
    → Learns AnyPast (λ f p. IsStartOf p.history full start text × IsListed s latest p) first now
listed_begun s full start latest text first before now begun listed =
    learns-then AnyPast (λ f p. IsStarting s full start text p) (λ f p. IsStartOf p.history full start text × IsListed s latest p) first before now begun
    (learns-weaker (λ f p. IsStarting s full start text p) (λ f p. IsStarting s full start text p × AnyPast f p)
    (λ f p. IsStarting s full start text p × ((latest ≤ greatest) × (latest ≤ count_of p.history)))
    (λ f p. IsStartOf p.history full start text × IsListed s latest p) before now (λ f p known. (known, tt))
    (λ f p stands known. (known.0.1, (known.0.0, known.1.1)))
    (learns_with (λ h. IsTableOf s h × IsStartOf h full start text) (starting_on s full start text) AnyPast (λ f p. (latest ≤ greatest) × (latest ≤ count_of p.history)) before now listed))

-- and with frames behind it
frames_first : FirstLaw → (s : TableSchema) (full : Bool) (start latest : ℕ) (text : List ℕ) (frames : List (List ℕ)) (first before now after : StoreView)
    → TellsChanges s → Learns AnyPast (λ f p. IsStarting s full start text p) first before
    → Learns AnyPast (λ f p. (latest ≤ greatest) × (latest ≤ count_of p.history)) before now → LearnsFrames s start latest frames now after
    → LearnsFirst s full start (length frames) (text ++ joined frames) first after
frames_first law s full start latest text frames first before now after so begun listed learned =
    learns-weaker AnyPast AnyPast (λ f p. IsStartOf p.history full start text × (IsListed s latest p × AreFramesFrom p.history start frames))
    (λ f p. (es : List Entry) × (p.history ≡ table s es) × IsFirstOf s es full start (length frames) (text ++ joined frames)) first after (λ f p known. known)
    (λ f p stands known. first_of law s so p.history full start text frames known.1.0.0 known.0 known.1.1)
    (learns-then AnyPast (λ f p. IsStartOf p.history full start text × IsListed s latest p)
    (λ f p. IsStartOf p.history full start text × (IsListed s latest p × AreFramesFrom p.history start frames)) first now after
    (listed_begun s full start latest text first before now begun listed)
    (learns_with (λ h. IsStartOf h full start text) (start_on full start text) (λ f p. IsListed s latest p)
    (λ f p. IsListed s latest p × AreFramesFrom p.history start frames) now after learned))

-- ---- the parts of a following

any_twice : (first middle after : StoreView) → HasTrace (λ own. Unit {0}) first middle → HasTrace (λ own. Unit {0}) middle after → HasTrace (λ own. Unit {0}) first after
any_twice first middle after one other =
    any_trace (Then (λ own. Unit {0}) (λ own. Unit {0})) first after (in_a_row (λ own. Unit {0}) (λ own. Unit {0}) first middle after one other)

piece_trace : (did : Result (List ℕ) Refusal → List Event → Type 0) (out out_after : SinkView) (store after : StoreView) (answer : Option Refusal)
    → PrintsPiece did out out_after store after answer → HasTrace (λ own. Unit {0}) store after
piece_trace did out out_after store after None (text, trace, taken) = any_trace (did (Ok text)) store after trace
piece_trace did out out_after store after (Some e) (inl (text, trace, fails)) = any_trace (did (Ok text)) store after trace
piece_trace did out out_after store after (Some e) (inr (trace, same)) = any_trace (did (Err e)) store after trace

frames_trace : (s : TableSchema) (start latest : ℕ) (out out_after : SinkView) (store after : StoreView) (answer : Option Refusal)
    → PrintsFrames s start latest out out_after store after answer → HasTrace (λ own. Unit {0}) store after
frames_trace s start latest out out_after store after None (text, trace, took) = any_trace (ReadsFrames s start (count_from start latest) text) store after trace
frames_trace s start latest out out_after store after (Some e) (count, few, (middle, between, (text, trace, took), piece)) =
    any_twice store between after (any_trace (ReadsFrames s start count text) store between trace)
    (piece_trace (DidFrame s (start + count)) middle out_after between after (Some e) piece)

-- it started, and calls came after that
started_so : (s : TableSchema) (from : Option ℕ) (start : ℕ) (first middle after : StoreView) → HasTrace (Starts s from start) first middle
    → HasTrace (λ own. Unit {0}) middle after → HasTrace (HasStarted s from start) first after
started_so s from start = in_a_row (Starts s from start) (λ own. Unit {0})

opened_so : (s : TableSchema) (from : Option ℕ) (full : Bool) (start : ℕ) (text : List ℕ) (first middle after : StoreView)
    → HasTrace (Opens s from full start text) first middle → HasTrace (λ own. Unit {0}) middle after → HasTrace (HasStarted s from start) first after
opened_so s from full start text first middle after (own, (earlier, later, starts, reads, is), trace) (more, any, rest) = (
  own ++ more,
  (earlier, later ++ more, starts, tt, ap (λ (own : List Event). own ++ more) is ∙ append_assoc earlier later more),
  Traces-join own more first middle after trace rest,
)

-- the starting table is known
table_begun : (s : TableSchema) (start : ℕ) (text : List ℕ) (first before after : StoreView) → LearnsBelow s start first before → LearnsStart s start text before after
    → Learns AnyPast (λ f p. IsStarting s true start text p) first after
table_begun s start text first before after learned known =
    learns-then AnyPast (λ f p. IsListed s (start - 1) p) (λ f p. IsStarting s true start text p) first before after learned
    (learns-weaker (λ f p. IsListed s (start - 1) p) (λ f p. IsTableOf s p.history) (λ f p. IsStarting s true start text p) (λ f p. IsStarting s true start text p)
    before after (λ f p known. known.0) (λ f p stands known. known) known)

-- the sink failed in the starting table, or it was refused
pub table_beside : PastStays → FirstLaw → (s : TableSchema) (from : Option ℕ) (start : ℕ) (e : Refusal) (out out_after : SinkView) (first before after : StoreView)
    → HasTrace (Starts s from start) first before → LearnsBelow s start first before → PrintsStart s start out out_after before after (Some e)
    → PieceBeside (LearnsStart s start) (TellsBeside s) out out_after before after (Some e) → FollowsBeside from true out out_after first after (Some e)
table_beside past law s from start e out out_after first before after (own, starts, trace) learned piece (inl (text, known, (is, failed, took))) =
    subst (λ (e : Refusal). FollowsBeside from true out out_after first after (Some e)) (sym is)
    (breaks_off s start 0 text
    (started_so s from start first before after (own, starts, trace) (piece_trace (DidTable s start) out out_after before after (Some e) piece))
    took
    (begun_first law s true start text first after (started_schema s from start own starts) (table_begun s start text first before after learned known)))
table_beside past law s from start e out out_after first before after starts learned piece (inr (same, told)) =
    refuses e same (why_start past from s start e out out_after first before after learned piece told)

-- it was printed, or isn't asked for
pub begun_with : (s : TableSchema) (start : ℕ) (out out_after : SinkView) (first before after : StoreView) → LearnsBelow s start first before
    → PieceBeside (LearnsStart s start) (TellsBeside s) out out_after before after None → HasBegun s true start out out_after first after
begun_with s start out out_after first before after learned (text, known, taken) =
    (text, table_begun s start text first before after learned known, taken)

pub begun_without : (s : TableSchema) (start : ℕ) (out : SinkView) (first after : StoreView) → LearnsBelow s start first after → HasBegun s false start out out first after
begun_without s start out first after learned = (
  [],
  learns-weaker AnyPast AnyPast (λ f p. IsListed s (start - 1) p) (λ f p. IsStarting s false start [] p) first after (λ f p known. known)
      (λ f p stands known. (known.0, refl)) learned,
  sym (and_then_nothing out.taken),
)

-- the second listing was refused
pub listing_beside : FirstLaw → (s : TableSchema) (from : Option ℕ) (full : Bool) (start : ℕ) (text : List ℕ) (e : Refusal) (out out_after : SinkView)
    (first before after : StoreView) → HasTrace (Opens s from full start text) first before → HasBegun s full start out out_after first before
    → HasTrace (DidLatest (Err e)) before after → Learns AnyPast (IsTold e) before after → FollowsBeside from full out out_after first after (Some e)
listing_beside law s from full start text e out out_after first before after opens (known, begun, taken) did told =
    stops e s start 0 known (opened_so s from full start text first before after opens (any_trace (DidLatest (Err e)) before after did)) taken
    (begun_first law s full start known first after (opened_schema s from full start text first before opens)
    (learns-then AnyPast (λ f p. IsStarting s full start known p) (λ f p. IsStarting s full start known p) first before after begun
    (learns-weaker (λ f p. IsStarting s full start known p) (λ f p. IsStarting s full start known p × AnyPast f p)
    (λ f p. IsStarting s full start known p × IsTold e f p) (λ f p. IsStarting s full start known p) before after (λ f p so. (so, tt)) (λ f p stands so. so.0)
    (learns_with (λ h. IsTableOf s h × IsStartOf h full start known) (starting_on s full start known) AnyPast (IsTold e) before after told))))
    (why_listing from (λ f p. IsStarting s full start known p) e first before after begun did told)

-- what the sink took behind the starting table
taken_behind : (out between out_after : SinkView) (text frames : List ℕ) → between.taken ≡ and_then out.taken text
    → out_after.taken ≡ and_then between.taken frames → out_after.taken ≡ and_then out.taken (text ++ frames)
taken_behind out between out_after text frames taken more =
    more ∙ ap (λ (known : Option (List ℕ)). and_then known frames) taken ∙ and_then_twice out.taken text frames

-- and the frames after it
pub frames_beside : FirstLaw → (s : TableSchema) (from : Option ℕ) (full : Bool) (start latest : ℕ) (text : List ℕ) (out between out_after : SinkView)
    (first before now after : StoreView) (answer : Option Refusal) → HasTrace (Opens s from full start text) first before
    → HasBegun s full start out between first before → HasTrace (DidLatest (Ok latest)) before now
    → Learns AnyPast (λ f p. (latest ≤ greatest) × (latest ≤ count_of p.history)) before now → PrintsFrames s start latest between out_after now after answer
    → FramesBeside s start latest between out_after now after answer → FollowsBeside from full out out_after first after answer
frames_beside law s from full start latest text out between out_after first before now after None opens (known, begun, taken) did listed
    (shown, read, took) (frames, size, learned, more) =
    let lists = in_a_row (Opens s from full start text) (DidLatest (Ok latest)) first before now opens did in
    let (own, all, trace) = in_a_row (Lists s from full start latest text) (ReadsFrames s start (count_from start latest) shown) first now after lists read in
    prints s start latest (known ++ joined frames) (own, (text, shown, all), trace)
    (taken_behind out between out_after known (joined frames) taken more)
    (subst (λ (count : ℕ). LearnsFirst s full start count (known ++ joined frames) first after) size
    (frames_first law s full start latest known frames first before now after (opened_schema s from full start text first before opens) begun listed learned))
frames_beside law s from full start latest text out between out_after first before now after (Some e) opens (known, begun, taken) did listed
    printed (frames, learned, inl (is, took)) =
    subst (λ (e : Refusal). FollowsBeside from full out out_after first after (Some e)) (sym is)
    (breaks_off s start (length frames) (known ++ joined frames)
    (opened_so s from full start text first before after opens
    (any_twice before now after (any_trace (DidLatest (Ok latest)) before now did) (frames_trace s start latest between out_after now after (Some e) printed)))
    (took_behind out.taken out_after.taken known (joined frames)
    (subst (λ (taken : Option (List ℕ)). TookPrefix taken out_after.taken (joined frames)) taken took))
    (frames_first law s full start latest known frames first before now after (opened_schema s from full start text first before opens) begun listed learned))
frames_beside law s from full start latest text out between out_after first before now after (Some e) opens (known, begun, taken) did listed
    printed (frames, learned, inr (more, told)) =
    stops e s start (length frames) (known ++ joined frames)
    (opened_so s from full start text first before after opens
    (any_twice before now after (any_trace (DidLatest (Ok latest)) before now did) (frames_trace s start latest between out_after now after (Some e) printed)))
    (taken_behind out between out_after known (joined frames) taken more)
    (frames_first law s full start latest known frames first before now after (opened_schema s from full start text first before opens) begun listed learned)
    (why_frames from s start latest e between out_after first now after
    (learns-weaker AnyPast AnyPast (λ f p. IsStartOf p.history full start known × IsListed s latest p) (λ f p. IsListed s latest p) first now (λ f p known. known)
    (λ f p stands known. known.1) (listed_begun s full start latest known first before now begun listed))
    printed told)
