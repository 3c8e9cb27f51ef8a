-- Why a following is refused, whatever others do.
use Rattle.std.proofs.Common.{◌≡◌, ◌⊎◌, inl, inr, ℕ, suc, ◌+◌, ◌-◌, ◌<◌, ◌≤◌, ◌∷◌, [], List, Option, None, Some, Err, refl, sym, subst, ◌∙◌, arith}
use Rattle.pm_values.specs.declared.refusal.Refusal.{Refusal}
use Rattle.pm_values.specs.declared.refusal.Refusal.TheVariants as refusals
use Rattle.pm_io.specs.Sink.{SinkView}
use Rattle.pm_store.specs.Answers.{Answers}
use Rattle.pm_store.specs.Files.{Files}
use Rattle.pm_store.specs.Store.{StoreView}
use Rattle.pm_store.specs.declared.answer.Answer.TheVariants as answers
use Rattle.pm_machine.specs.Trace.{Event, HasTrace, Traces}
use Rattle.pm_options.specs.declared.kinds.Producer.TheVariants as producers
use Rattle.pm_schema.specs.declared.schema.TableSchema.{TableSchema}
use Rattle.pm_snapshot.specs.Names.{greatest}
use Rattle.pm_model_history.specs.History.{GoesOn, History, IsTableOf}
use Rattle.pm_model_folder.specs.Ledger.{Past, Stands, count_of}
use Rattle.pm_model_folder.specs.Paths.{snapshot_folder}
use Rattle.pm_paths.specs.Ids.{IsLatest}
use Rattle.pm_read_schema.specs.AllCalls.{DidRead}
use Rattle.pm_read_schema.specs.Beside.{AnyPast, IsTold, Learns}
use Rattle.pm_read_schema.specs.Reader.{snapshots_call}
use Rattle.pm_read_schema.specs.Trace.{Names, listed_snapshots}
use Rattle.pm_read_schema.proofs.AllCallsLemmas.{list_still}
use Rattle.pm_read_schema.proofs.BesideFacts.{PastStays, learns-then, learns-weaker}
use Rattle.pm_read_latest.specs.AllCalls.{DidLatest}
use Rattle.pm_read_latest.proofs.Facts.{latest_of}
use Rattle.pm_read_log.specs.Log.{LogAskedView, log_asked_of}
use Rattle.pm_scan.specs.Beside.{TellsBeside}
use Rattle.pm_read_frame.specs.AllCalls.{DidFrame}
use Rattle.pm_read_frame.specs.Trace as frames
use Rattle.pm_command_follow.specs.Follow.{DidTable, IsToldFrom, LearnsWhy}
use Rattle.pm_command_follow.specs.Pieces.{IsCommittedOf, IsListed, LearnsBelow, LearnsTable, PrintsFrame, PrintsFrames, PrintsStart}
use Rattle.pm_command_follow.proofs.LearnLemmas.{count_on, learns_never, learns_on, learns_with, table_on}

-- ---- what readers tell

-- it doesn't say that a snapshot is too high
abbrev pub NotAbove : Refusal → Type 0
NotAbove e = (id latest : ℕ) → e ≡ refusals.NoSnapshot id latest → ⊥

above_or_not : (e : Refusal) → NotAbove e ⊎ ((id : ℕ) × (latest : ℕ) × (e ≡ refusals.NoSnapshot id latest))
above_or_not (refusals.NoSnapshot id latest) = inr (id, latest, refl)
above_or_not e = inl (λ id latest is. cc)

-- calls that show it never say so
by_trace : (P : Refusal → List Event → Type 0) (e : Refusal) (before after : StoreView)
    → ((id latest : ℕ) (own : List Event) → P (refusals.NoSnapshot id latest) own → ⊥) → HasTrace (P e) before after → NotAbove e
by_trace P e before after none (own, shows, trace) id latest is = none id latest own (subst (λ (e : Refusal). P e own) is shows)

sink_not : (e : Refusal) → e ≡ refusals.SinkFault None → NotAbove e
sink_not e is id latest other = let clash : refusals.SinkFault None ≡ refusals.NoSnapshot id latest = sym is ∙ other in cc

told_from : (from : Option ℕ) (e : Refusal) (f : Files) (p : Past) → NotAbove e → IsTold e f p → IsToldFrom from e f p
told_from from refusals.NoChangelog f p not told = absurd told
told_from from (refusals.NoSnapshot id latest) f p not told = absurd (not id latest refl)
told_from from e f p not told = told

why_told : (had : Files → Past → Type 0) (from : Option ℕ) (e : Refusal) (before after : StoreView) → NotAbove e → Learns had (IsTold e) before after
    → Learns had (IsToldFrom from e) before after
why_told had from e before after not =
    learns-weaker had had (IsTold e) (IsToldFrom from e) before after (λ f p known. known) (λ f p stands told. told_from from e f p not told)

-- what is known without a condition is known after anything
then_any : (had knows : Files → Past → Type 0) (first before after : StoreView) → Learns AnyPast had first before → Learns AnyPast knows before after
    → Learns AnyPast knows first after
then_any had knows first before after one two =
    learns-then AnyPast had knows first before after one (learns-weaker had AnyPast knows knows before after (λ f p known. tt) (λ f p stands known. known) two)

-- calls of a reader that never says that a snapshot is too high
pub why_read : (P : Refusal → List Event → Type 0) (from : Option ℕ) (e : Refusal) (before after : StoreView)
    → ((id latest : ℕ) (own : List Event) → P (refusals.NoSnapshot id latest) own → ⊥) → HasTrace (P e) before after → Learns AnyPast (IsTold e) before after
    → LearnsWhy from e before after
why_read P from e before after none trace = why_told AnyPast from e before after (by_trace P e before after none trace)

-- after others
pub why_after : (P : Refusal → List Event → Type 0) (from : Option ℕ) (had : Files → Past → Type 0) (e : Refusal) (first before after : StoreView)
    → ((id latest : ℕ) (own : List Event) → P (refusals.NoSnapshot id latest) own → ⊥) → Learns AnyPast had first before → HasTrace (P e) before after
    → Learns AnyPast (IsTold e) before after → LearnsWhy from e first after
why_after P from had e first before after none learned trace told =
    then_any had (IsToldFrom from e) first before after learned (why_read P from e before after none trace told)

-- ---- the schema

pub why_schema : (from : Option ℕ) (e : Refusal) (before after : StoreView) → HasTrace (DidRead (Err e)) before after → Learns AnyPast (IsTold e) before after
    → LearnsWhy from e before after
why_schema from e before after = why_read (λ e own. DidRead (Err e) own) from e before after (λ id latest own shows. shows)

pub why_producer : (from : Option ℕ) (s : TableSchema) (before after : StoreView) → s.options.producer ≡ producers.None → LearnsTable s before after
    → LearnsWhy from refusals.NoChangelog before after
why_producer from s before after none =
    learns-weaker AnyPast AnyPast (λ f p. IsTableOf s p.history) (IsToldFrom from refusals.NoChangelog) before after (λ f p known. known)
    (λ f p stands of. (s, of, none))

-- ---- the listings

pub why_listing : (from : Option ℕ) (had : Files → Past → Type 0) (e : Refusal) (first before after : StoreView) → Learns AnyPast had first before
    → HasTrace (DidLatest (Err e)) before after → Learns AnyPast (IsTold e) before after → LearnsWhy from e first after
why_listing from had e first before after = why_after (λ e own. DidLatest (Err e) own) from had e first before after (λ id latest own shows. shows)

-- the start that is asked for is too high
pub why_above : (from : Option ℕ) (s : TableSchema) (latest : ℕ) (e : Refusal) (first before after : StoreView) → LearnsTable s first before
    → Learns AnyPast (λ f p. (latest ≤ greatest) × (latest ≤ count_of p.history)) before after
    → (id : ℕ) × (from ≡ Some id) × (suc latest < id) × (e ≡ refusals.NoSnapshot id latest) → LearnsWhy from e first after
why_above from s latest e first before after learned listed (id, asked, above, is) =
    subst (λ (e : Refusal). LearnsWhy from e first after) (sym is)
    (learns-weaker AnyPast AnyPast (λ f p. (latest ≤ greatest) × (latest ≤ count_of p.history)) (IsToldFrom from (refusals.NoSnapshot id latest)) first after
    (λ f p known. known) (λ f p stands known. (asked, above, known.1))
    (then_any (λ f p. IsTableOf s p.history) (λ f p. (latest ≤ greatest) × (latest ≤ count_of p.history)) first before after learned listed))

-- or isn't, and then the snapshot below it was committed
pub below_learned : (s : TableSchema) (start latest : ℕ) (first before after : StoreView) → start ≤ suc latest → LearnsTable s first before
    → Learns AnyPast (λ f p. (latest ≤ greatest) × (latest ≤ count_of p.history)) before after → LearnsBelow s start first after
below_learned s start latest first before after low learned listed =
    learns-then AnyPast (λ f p. IsTableOf s p.history) (λ f p. IsListed s (start - 1) p) first before after learned
    (learns-weaker (λ f p. IsTableOf s p.history) (λ f p. IsTableOf s p.history × AnyPast f p)
    (λ f p. IsTableOf s p.history × ((latest ≤ greatest) × (latest ≤ count_of p.history))) (λ f p. IsListed s (start - 1) p) before after
    (λ f p known. (known, tt)) (λ f p stands known. (known.0, below (count_of p.history) known.1.1))
    (learns_with (λ h. IsTableOf s h) (table_on s) AnyPast (λ f p. (latest ≤ greatest) × (latest ≤ count_of p.history)) before after listed))
  where
    below : (count : ℕ) → latest ≤ count → start - 1 ≤ count
    below count within = omega (arith, low, within)

-- ---- the starting table

-- Its snapshot isn't above the latest that is listed then.
module _ (past : PastStays) (s : TableSchema) (below : ℕ) where
  below_on : (h later : History) → GoesOn h later → IsTableOf s h × (below ≤ count_of h) → IsTableOf s later × (below ≤ count_of later)
  below_on h later goes known = (table_on s h later goes known.0, count_on below h later goes known.1)

  not_here : (id latest : ℕ) (names : Names) (f : Files) (p : Past) → IsLatest names.items latest → (id ≡ below) × (latest < below) → Stands f p
      → IsTableOf s p.history × (below ≤ count_of p.history) → Answers snapshots_call (answers.Listed names) f → ⊥
  not_here id latest names f p newest above stands known told =
      let same = latest_of f p.history latest names.items stands.folder newest told in
      omega (arith, same, known.1, above.1)

  listing_never : (id latest : ℕ) (names : Names) (before after : StoreView) → IsLatest names.items latest → (id ≡ below) × (latest < below)
      → Traces (listed_snapshots names ∷ []) before after → Learns (λ f p. IsListed s below p) (λ f p. ⊥) before after
  listing_never id latest names before after newest above (middle, ended, later, rest) =
      learns-then (λ f p. IsListed s below p) (λ f p. ⊥) (λ f p. ⊥) before middle after
      (learns_never (λ h. IsTableOf s h × (below ≤ count_of h)) below_on past snapshots_call (answers.Listed names) before middle (list_still snapshot_folder)
      (λ f p stands known told. not_here id latest names f p newest above stands known told) ended)
      (learns_on (λ h. ⊥) (λ h after goes never. never) past middle after rest.0)

above_never : PastStays → (s : TableSchema) (start id latest : ℕ) (before after : StoreView) → HasTrace (DidTable s start (Err (refusals.NoSnapshot id latest))) before after
    → Learns (λ f p. IsListed s (start - 1) p) (λ f p. ⊥) before after
above_never past s start id latest before after (own, inl (inl (names, newest, above, is)), trace) =
    listing_never past s (start - 1) id latest names before after newest above (subst (λ (own : List Event). Traces own before after) is trace)
above_never past s start id latest before after (own, inl (inr (view, shown)), trace) = absurd shown.so
above_never past s start id latest before after (own, inr (memory, rows, rest), trace) =
    absurd (let clash : refusals.NoSnapshot id latest ≡ refusals.Memory = memory in cc)

table_plain : (from : Option ℕ) (s : TableSchema) (start : ℕ) (e : Refusal) (before after : StoreView) → NotAbove e → TellsBeside s e before after
    → Learns (λ f p. IsListed s (start - 1) p) (IsToldFrom from e) before after
table_plain from s start e before after not told =
    learns-weaker (λ f p. IsListed s (start - 1) p) (λ f p. IsTableOf s p.history) (IsToldFrom from e) (IsToldFrom from e) before after (λ f p known. known.0)
    (λ f p stands known. known) (why_told (λ f p. IsTableOf s p.history) from e before after not told)

table_read : PastStays → (from : Option ℕ) (s : TableSchema) (start : ℕ) (e : Refusal) (before after : StoreView)
    → HasTrace (DidTable s start (Err e)) before after → TellsBeside s e before after → Learns (λ f p. IsListed s (start - 1) p) (IsToldFrom from e) before after
table_read past from s start e before after trace told = by (above_or_not e)
  where
    by : NotAbove e ⊎ ((id : ℕ) × (latest : ℕ) × (e ≡ refusals.NoSnapshot id latest)) → Learns (λ f p. IsListed s (start - 1) p) (IsToldFrom from e) before after
    by (inl not) = table_plain from s start e before after not told
    by (inr (id, latest, is)) =
        learns-weaker (λ f p. IsListed s (start - 1) p) (λ f p. IsListed s (start - 1) p) (λ f p. ⊥) (IsToldFrom from e) before after (λ f p known. known)
        (λ f p stands never. absurd never)
        (above_never past s start id latest before after (subst (λ (e : Refusal). HasTrace (DidTable s start (Err e)) before after) is trace))

pub table_told : PastStays → (from : Option ℕ) (s : TableSchema) (start : ℕ) (e : Refusal) (out out_after : SinkView) (before after : StoreView)
    → PrintsStart s start out out_after before after (Some e) → TellsBeside s e before after
    → Learns (λ f p. IsListed s (start - 1) p) (IsToldFrom from e) before after
table_told past from s start e out out_after before after (inl (text, trace, (is, failed, took))) told =
    table_plain from s start e before after (sink_not e is) told
table_told past from s start e out out_after before after (inr (trace, same)) told = table_read past from s start e before after trace told

pub why_start : PastStays → (from : Option ℕ) (s : TableSchema) (start : ℕ) (e : Refusal) (out out_after : SinkView) (first before after : StoreView)
    → LearnsBelow s start first before → PrintsStart s start out out_after before after (Some e) → TellsBeside s e before after → LearnsWhy from e first after
why_start past from s start e out out_after first before after learned piece told =
    learns-then AnyPast (λ f p. IsListed s (start - 1) p) (IsToldFrom from e) first before after learned
    (table_told past from s start e out out_after before after piece told)

-- ---- the frames

frame_none : (a : LogAskedView) (id latest : ℕ) (own : List Event) → frames.Shows a (refusals.NoSnapshot id latest) own → ⊥
frame_none a id latest own (inl shows) = shows
frame_none a id latest own (inr shows) = shows

frame_not : (s : TableSchema) (id : ℕ) (e : Refusal) (out out_after : SinkView) (before after : StoreView) → PrintsFrame s id out out_after before after (Some e) → NotAbove e
frame_not s id e out out_after before after (inl (text, trace, (is, failed, took))) = sink_not e is
frame_not s id e out out_after before after (inr (trace, same)) = by_trace (λ e own. DidFrame s id (Err e) own) e before after (frame_none (log_asked_of s id)) trace

-- where its snapshot was committed
pub frame_told : (from : Option ℕ) (s : TableSchema) (id : ℕ) (e : Refusal) (out out_after : SinkView) (before after : StoreView)
    → PrintsFrame s id out out_after before after (Some e) → Learns (IsCommittedOf s id) (IsTold e) before after
    → Learns (IsCommittedOf s id) (IsToldFrom from e) before after
frame_told from s id e out out_after before after piece = why_told (IsCommittedOf s id) from e before after (frame_not s id e out out_after before after piece)

pub why_frames : (from : Option ℕ) (s : TableSchema) (start latest : ℕ) (e : Refusal) (out out_after : SinkView) (first before after : StoreView)
    → Learns AnyPast (λ f p. IsListed s latest p) first before → PrintsFrames s start latest out out_after before after (Some e)
    → Learns (λ f p. IsListed s latest p) (IsTold e) before after → LearnsWhy from e first after
why_frames from s start latest e out out_after first before after learned (count, few, (middle, between, some, piece)) told =
    learns-then AnyPast (λ f p. IsListed s latest p) (IsToldFrom from e) first before after learned
    (why_told (λ f p. IsListed s latest p) from e before after (frame_not s (start + count) e middle out_after between after piece) told)
