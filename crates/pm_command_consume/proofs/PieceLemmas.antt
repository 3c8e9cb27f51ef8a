-- The pieces of a following with a consumer, one behind another: their calls, and what the sink took.
use Rattle.std.proofs.Common.{◌≡◌, ◌⊎◌, inl, inr, ℕ, suc, ◌+◌, ◌-◌, ◌^◌, ◌<◌, ◌≤◌, Bool, true, false, List, [], ◌++◌, Option, None, Some, Ok, Err, refl, sym, ap, subst, ◌∙◌, append-nil, arith}
use Rattle.pm_base.specs.Known.{and_then}
use Rattle.pm_values.specs.declared.refusal.Refusal.{Refusal}
use Rattle.pm_values.specs.declared.refusal.Refusal.TheVariants as refusals
use Rattle.pm_io.specs.Sink.{SinkView, SinkLater, TookPrefix}
use Rattle.pm_store.specs.Store.{StoreView}
use Rattle.pm_machine.specs.Trace.{Event, HasTrace}
use Rattle.pm_machine.proofs.Facts.{Traces-none}
use Rattle.pm_schema.specs.declared.schema.TableSchema.{TableSchema}
use Rattle.pm_snapshot.specs.Consumer.{consumer_in}
use Rattle.pm_snapshot.specs.Names.{greatest}
use Rattle.pm_snapshot.specs.declared.consumer.Consumer.{Consumer}
use Rattle.pm_read_latest.specs.AllCalls.{DidLatest}
use Rattle.pm_read_consumer.specs.AllCalls.{DidFind}
use Rattle.pm_read_consumer.specs.Reader.{Says, found_as}
use Rattle.pm_read_consumer.specs.declared.phase.FoundConsumer.{FoundConsumer}
use Rattle.pm_register.specs.AllCalls.{DidRegister}
use Rattle.pm_register.specs.Registrar.{Registering, consumer_at, known_text, registering}
use Rattle.pm_move_consumer.specs.MoverAllCalls.{DidMove}
use Rattle.pm_read_frame.specs.AllCalls.{DidFrame}
use Rattle.pm_command_follow.specs.Follow.{DidSchema, DidTable, HasSchema, ReadsTable, Then, Took}
use Rattle.pm_command_follow.specs.Pieces.{PrintsFrame, PrintsStart}
use Rattle.pm_command_follow.specs.Printed.{count_from, start_of}
use Rattle.pm_command_follow.proofs.JoinLemmas.{in_a_row, rose_wider}
use Rattle.pm_command_follow.proofs.TextLemmas.{and_then_nothing, and_then_twice}
use Rattle.pm_command_consume.specs.Consume.{FindsUnsettled, HandsOne, HandsOut, HasConsumed, Joins, Lists, Opens, Starts, all, fails_frame, fails_table, joined, moving_from, of_file, of_listing, of_registering, of_schema, of_start, of_table, place_at, refused_first, refused_frame, refused_listing, refused_move, settled}
use Rattle.pm_command_consume.specs.Pieces.{DidJoin, HandsFrames, HandsPiece, HasHandedOut, IsPlace, Opened}
use Rattle.pm_command_consume.specs.Place.{StandsAs}
use Rattle.pm_command_consume.specs.declared.consuming.Consuming.{Consuming}
use Rattle.pm_command_consume.specs.declared.place.Place.{Place}
use Rattle.pm_command_consume.specs.declared.place.Standing.TheVariants as standings
use Rattle.pm_command_consume.proofs.StageLemmas.{Reads, reads_again}

-- ---- the schema, and the file

pub schema_shown : (c : Consuming) (e : Refusal) (out : SinkView) (store after : StoreView) → HasTrace (DidSchema (Err e)) store after
    → HasConsumed c out out store after (Some e)
schema_shown c e out store after (own, shows, trace) = (own, refused_first e (of_schema shows) refl, trace)

pub file_shown : (s : TableSchema) (c : Consuming) (e : Refusal) (out : SinkView) (first middle after : StoreView) → HasTrace (HasSchema s) first middle
    → HasTrace (DidFind c.name (Err e)) middle after → Opened s c first out out after (Err e)
file_shown s c e out first middle after has did =
    let t = in_a_row (HasSchema s) (DidFind c.name (Err e)) first middle after has did in
    (t.0, refused_first e (of_file s t.1) refl, t.2)

-- nothing was printed, as no table is
took_nothing : (full : Bool) (out : SinkView) → Took full 0 [] out out
took_nothing full out = (sym (and_then_nothing out.taken), (λ not none. refl), same out.faults)
  where
    same : (n : ℕ) → n ≤ n
    same n = omega arith

pub settled_at : (s : TableSchema) (c : Consuming) (r : FoundConsumer) (p : Place) (first middle after : StoreView) → StandsAs r (standings.Settled p)
    → HasTrace (HasSchema s) first middle → HasTrace (DidFind c.name (Ok r)) middle after → HasTrace (Opens s c p false []) first after
settled_at s c r p first middle after (found, said) has did =
    let is : r ≡ found_as (Some p.bytes) (Some (consumer_at p.next false)) = same_found r (Some p.bytes) (Some (consumer_at p.next false)) found said in
    let t = in_a_row (HasSchema s) (DidFind c.name (Ok r)) first middle after has did in
    (t.0, settled (subst (λ (r : FoundConsumer). Then (HasSchema s) (DidFind c.name (Ok r)) t.0) is t.1) refl refl, t.2)
  where
    same_found : (r : FoundConsumer) (found : Option (List ℕ)) (said : Option Consumer) → r.found ≡ found → r.consumer ≡ said → r ≡ found_as found said
    same_found r found said is says = ap (λ (found : Option (List ℕ)). found_as found r.consumer) is ∙ ap (found_as found) says

pub settled_opened : (s : TableSchema) (c : Consuming) (r : FoundConsumer) (p : Place) (out : SinkView) (first middle after : StoreView) → StandsAs r (standings.Settled p)
    → HasTrace (HasSchema s) first middle → HasTrace (DidFind c.name (Ok r)) middle after → Opened s c first out out after (Ok p)
settled_opened s c r p out first middle after stands has did = (false, [], settled_at s c r p first middle after stands has did, took_nothing false out)

pub unsettled_found : (s : TableSchema) (c : Consuming) (r : FoundConsumer) (found : Option (List ℕ)) (first middle after : StoreView)
    → StandsAs r (standings.Unsettled found) → HasTrace (HasSchema s) first middle → HasTrace (DidFind c.name (Ok r)) middle after
    → HasTrace (FindsUnsettled s c found) first after
unsettled_found s c r found first middle after (is, unregistered) has did =
    let same : r ≡ found_as found r.consumer = ap (λ (found : Option (List ℕ)). found_as found r.consumer) is in
    let t = in_a_row (HasSchema s) (DidFind c.name (Ok r)) first middle after has did in
    (t.0, (unregistered, (r.consumer, subst (λ (r : FoundConsumer). Then (HasSchema s) (DidFind c.name (Ok r)) t.0) same t.1)), t.2)

-- ---- the registering

pub listing_shown : (s : TableSchema) (c : Consuming) (found : Option (List ℕ)) (e : Refusal) (out : SinkView) (first middle after : StoreView)
    → HasTrace (FindsUnsettled s c found) first middle → HasTrace (DidLatest (Err e)) middle after → Opened s c first out out after (Err e)
listing_shown s c found e out first middle after finds did =
    let t = in_a_row (FindsUnsettled s c found) (DidLatest (Err e)) first middle after finds did in
    (t.0, refused_first e (of_listing s found t.1) refl, t.2)

pub start_shown : (s : TableSchema) (c : Consuming) (found : Option (List ℕ)) (latest : ℕ) (e : Refusal) (out : SinkView) (first middle after : StoreView)
    → HasTrace (FindsUnsettled s c found) first middle → HasTrace (DidLatest (Ok latest)) middle after
    → (id : ℕ) × (c.from ≡ Some id) × (suc latest < id) × (e ≡ refusals.NoSnapshot id latest) → Opened s c first out out after (Err e)
start_shown s c found latest e out first middle after finds did (id, asked, above, is) =
    let t = in_a_row (FindsUnsettled s c found) (DidLatest (Ok latest)) first middle after finds did in
    (t.0, refused_first e (of_start s found id latest asked above is t.1) refl, t.2)

started : (s : TableSchema) (c : Consuming) (found : Option (List ℕ)) (latest start : ℕ) (first middle after : StoreView)
    → HasTrace (FindsUnsettled s c found) first middle → HasTrace (DidLatest (Ok latest)) middle after
    → (start ≡ start_of c.from latest) × (start ≤ suc latest) × (1 ≤ start) → HasTrace (Starts s c found start) first after
started s c found latest start first middle after finds did (is, high, low) =
    let t = in_a_row (FindsUnsettled s c found) (DidLatest (Ok latest)) first middle after finds did in
    (t.0, (latest, t.1, is, low, high), t.2)

-- it starts there: the listing came, and its answer was taken
pub record HasStarted (s : TableSchema) (c : Consuming) (found : Option (List ℕ)) (start : ℕ) (first after : StoreView) : Type 0 where
  pub starts : HasTrace (Starts s c found start) first after

pub has_started : (s : TableSchema) (c : Consuming) (found : Option (List ℕ)) (latest start : ℕ) (first middle after : StoreView)
    → HasTrace (FindsUnsettled s c found) first middle → HasTrace (DidLatest (Ok latest)) middle after
    → (start ≡ start_of c.from latest) × (start ≤ suc latest) × (1 ≤ start) → HasStarted s c found start first after
has_started s c found latest start first middle after finds did is = record { starts = started s c found latest start first middle after finds did is }

pub registering_shown : (s : TableSchema) (c : Consuming) (found : Option (List ℕ)) (start : ℕ) (e : Refusal) (out : SinkView) (first middle after : StoreView)
    → HasStarted s c found start first middle → HasTrace (DidJoin (registering c.name found start) (Err e)) middle after → Opened s c first out out after (Err e)
registering_shown s c found start e out first middle after has did =
    let t = in_a_row (Starts s c found start) (DidRegister (registering c.name found start) (Err e)) first middle after has.starts did in
    (t.0, refused_first e (of_registering s found start t.1) refl, t.2)

-- it was registered, and has this place
pub record HasJoined (s : TableSchema) (c : Consuming) (start : ℕ) (p : Place) (first after : StoreView) : Type 0 where
  pub joins : HasTrace (Joins s c start) first after
  pub place : p ≡ record { next = start; bytes = known_text start }

pub has_joined : (s : TableSchema) (c : Consuming) (found : Option (List ℕ)) (start : ℕ) (p : Place) (first middle after : StoreView)
    → HasStarted s c found start first middle → HasTrace (DidJoin (registering c.name found start) (Ok p)) middle after → HasJoined s c start p first after
has_joined s c found start p first middle after has (own, (did, is), trace) =
    let t = in_a_row (Starts s c found start) (DidRegister (registering c.name found start) (Ok tt)) first middle after has.starts (own, did, trace) in
    record { joins = (t.0, (found, t.1), t.2); place = is }

pub table_shown : (s : TableSchema) (c : Consuming) (start : ℕ) (p : Place) (e : Refusal) (out out_after : SinkView) (first middle after : StoreView) → c.full ≡ true
    → HasJoined s c start p first middle → PrintsStart s start out out_after middle after (Some e) → Opened s c first out out_after after (Err e)
table_shown s c start p e out out_after first middle after asked has (inl (text, did, (is, failed, took))) =
    let t = in_a_row (Joins s c start) (ReadsTable s c.full start text) first middle after has.joins
    (subst (λ (full : Bool). HasTrace (ReadsTable s full start text) middle after) (sym asked) did) in
    subst (λ (e : Refusal). HasConsumed c out out_after first after (Some e)) (sym is)
    (t.0, fails_table s (record { next = start; bytes = known_text start }) text (joined t.1 (sym asked) refl) failed took, t.2)
table_shown s c start p e out out_after first middle after asked has (inr (did, same)) =
    let t = in_a_row (Joins s c start) (DidTable s start (Err e)) first middle after has.joins did in
    (t.0, refused_first e (of_table s start asked t.1) same, t.2)

-- where it stands once it is registered
abbrev pub place_of : ℕ → Place
place_of start = record { next = start; bytes = known_text start }

pub opens_with : (s : TableSchema) (c : Consuming) (start : ℕ) (p : Place) (text : List ℕ) (first middle after : StoreView) → c.full ≡ true
    → HasJoined s c start p first middle → HasTrace (DidTable s start (Ok text)) middle after → HasTrace (Opens s c (place_of start) true text) first after
opens_with s c start p text first middle after asked has did =
    let t = in_a_row (Joins s c start) (ReadsTable s c.full start text) first middle after has.joins
    (subst (λ (full : Bool). HasTrace (ReadsTable s full start text) middle after) (sym asked) did) in
    (t.0, joined t.1 (sym asked) refl, t.2)

pub opened_with : (s : TableSchema) (c : Consuming) (start : ℕ) (p : Place) (out out_after : SinkView) (first middle after : StoreView) → c.full ≡ true
    → HasJoined s c start p first middle → PrintsStart s start out out_after middle after None → SinkLater out out_after → Opened s c first out out_after after (Ok p)
opened_with s c start p out out_after first middle after asked has (text, did, taken) later =
    subst (λ (p : Place). Opened s c first out out_after after (Ok p)) (sym has.place)
    (true, text, opens_with s c start p text first middle after asked has did, (taken, (λ not none. absurd (true_not not)), later))
  where
    true_not : true ≡ false → ⊥
    true_not is = cc

pub opens_without : (s : TableSchema) (c : Consuming) (start : ℕ) (p : Place) (first after : StoreView) → c.full ≡ false → HasJoined s c start p first after
    → HasTrace (Opens s c (place_of start) false []) first after
opens_without s c start p first after asked has = at has.joins
  where
    at : HasTrace (Joins s c start) first after → HasTrace (Opens s c (place_of start) false []) first after
    at (own, joins, trace) = (
      own,
      joined (own, [], joins, subst (λ (full : Bool). ReadsTable s full start [] []) (sym asked) (refl, refl), sym (append-nil own)) (sym asked) refl,
      trace,
    )

pub opened_without : (s : TableSchema) (c : Consuming) (start : ℕ) (p : Place) (out : SinkView) (first after : StoreView) → c.full ≡ false
    → HasJoined s c start p first after → Opened s c first out out after (Ok p)
opened_without s c start p out first after asked has =
    subst (λ (p : Place). Opened s c first out out after (Ok p)) (sym has.place)
    (false, [], opens_without s c start p first after asked has, took_nothing false out)

-- ---- the frames

pub second_shown : (s : TableSchema) (c : Consuming) (p : Place) (full : Bool) (text : List ℕ) (e : Refusal) (out out_after : SinkView) (first middle after : StoreView)
    → HasTrace (Opens s c p full text) first middle → Took full 0 text out out_after → HasTrace (DidLatest (Err e)) middle after
    → HasConsumed c out out_after first after (Some e)
second_shown s c p full text e out out_after first middle after opens took did =
    let t = in_a_row (Opens s c p full text) (DidLatest (Err e)) first middle after opens did in
    (t.0, refused_listing e s p full text t.1 took, t.2)

-- the frames behind the starting table
took_join : (full : Bool) (count : ℕ) (text frames : List ℕ) (first middle last : SinkView) → Took full 0 text first middle → Took false count frames middle last
    → Took full count (text ++ frames) first last
took_join full count text frames first middle last (taken, untouched, later) (more, unmoved, late) = (
  more ∙ ap (λ (known : Option (List ℕ)). and_then known frames) taken ∙ and_then_twice first.taken text frames,
  (λ none nothing. unmoved refl nothing ∙ untouched none refl),
  omega (arith, later, late),
)

-- one frame more was taken
took_one : (full : Bool) (count : ℕ) (text frame : List ℕ) (first middle last : SinkView) → Took full count text first middle → SinkLater middle last
    → last.taken ≡ and_then middle.taken frame → Took full (suc count) (text ++ frame) first last
took_one full count text frame first middle last (taken, untouched, later) late taken_frame = (
  taken_frame ∙ ap (λ (known : Option (List ℕ)). and_then known frame) taken ∙ and_then_twice first.taken text frame,
  (λ not none. absurd (suc_not count none)),
  omega (arith, later, late),
)
  where
    suc_not : (n : ℕ) → suc n ≡ 0 → ⊥
    suc_not n is = omega (arith, is)

module _ (s : TableSchema) (c : Consuming) (p : Place) (full : Bool) (latest : ℕ) (text : List ℕ) (out between out_after : SinkView) (first middle now after : StoreView)
    (opens : HasTrace (Opens s c p full text) first middle) (took : Took full 0 text out between) (did : HasTrace (DidLatest (Ok latest)) middle now) where
  lists : HasTrace (Lists s c p full text latest) first now
  lists = in_a_row (Opens s c p full text) (DidLatest (Ok latest)) first middle now opens did

  all_shown : HandsFrames s c p latest between out_after now after None → HasConsumed c out out_after first after None
  all_shown (frames, handed, took_frames) =
      let t = in_a_row (Lists s c p full text latest) (HandsOut s c p (count_from p.next latest) frames) first now after lists handed in (
        t.0,
        all s p full (count_from p.next latest) (text ++ frames) (latest, text, frames, refl, t.1, refl)
            (took_join full (count_from p.next latest) text frames out between out_after took took_frames),
        t.2,
      )

  -- these calls came for the frame after so many
  goes : (count : ℕ) (frames : List ℕ) (Next : List Event → Type 0) (until : StoreView) → HasTrace (HandsOut s c p count frames) now until → HasTrace Next until after
      → HasTrace (Then (Lists s c p full text latest) (Then (HandsOut s c p count frames) Next)) first after
  goes count frames Next until handed next =
      in_a_row (Lists s c p full text latest) (Then (HandsOut s c p count frames) Next) first now after lists
      (in_a_row (HandsOut s c p count frames) Next now until after handed next)

  some_shown : (e : Refusal) → HandsFrames s c p latest between out_after now after (Some e) → HasConsumed c out out_after first after (Some e)
  some_shown e (count, few, (last, until, (frames, handed, took_frames), late, inl (frame, did_frame, (is, failed, took_frame)))) =
      let t = goes count frames (DidFrame s (p.next + count) (Ok frame)) until handed did_frame in
      let took_all = took_join full count text frames out between last took took_frames in
      subst (λ (e : Refusal). HasConsumed c out out_after first after (Some e)) (sym is) (
        t.0,
        fails_frame s p full count (text ++ frames) frame (latest, text, frames, few, t.1, refl)
            (rose_wider out.faults last.faults out_after.faults took_all.2 failed)
            (subst (λ (known : Option (List ℕ)). TookPrefix known out_after.taken frame) took_all.0 took_frame),
        t.2,
      )
  some_shown e (count, few, (last, until, (frames, handed, took_frames), late, inr (inl (did_frame, same)))) =
      let t = goes count frames (DidFrame s (p.next + count) (Err e)) until handed did_frame in
      let took_all = took_join full count text frames out between last took took_frames in (
        t.0,
        refused_frame e s p full count (text ++ frames) (latest, text, frames, few, t.1, refl)
            (subst (λ (last : SinkView). Took full count (text ++ frames) out last) (sym same) took_all),
        t.2,
      )
  some_shown e (count, few, (last, until, (frames, handed, took_frames), late, inr (inr (frame, did_both, taken)))) =
      let t = goes count frames (Then (DidFrame s (p.next + count) (Ok frame)) (DidMove (moving_from c (place_at p count)) (Err e))) until handed did_both in
      let took_all = took_join full count text frames out between last took took_frames in (
        t.0,
        refused_move e s p full count (text ++ frames) frame (latest, text, frames, few, t.1, refl)
            (took_one full count (text ++ frames) frame out last out_after took_all late taken),
        t.2,
      )

pub frames_shown : (s : TableSchema) (c : Consuming) (p : Place) (full : Bool) (latest : ℕ) (text : List ℕ) (out between out_after : SinkView)
    (first middle now after : StoreView) → HasTrace (Opens s c p full text) first middle → Took full 0 text out between → HasTrace (DidLatest (Ok latest)) middle now
    → (answer : Option Refusal) → HandsFrames s c p latest between out_after now after answer → HasConsumed c out out_after first after answer
frames_shown s c p full latest text out between out_after first middle now after opens took did None handed =
    all_shown s c p full latest text out between out_after first middle now after opens took did handed
frames_shown s c p full latest text out between out_after first middle now after opens took did (Some e) handed =
    some_shown s c p full latest text out between out_after first middle now after opens took did e handed

-- ---- one frame, and then the next

pub frame_failed : (s : TableSchema) (c : Consuming) (p : Place) (e : Refusal) (out out_after : SinkView) (store after : StoreView)
    → PrintsFrame s p.next out out_after store after (Some e) → HandsPiece s c p out out_after store after (Err e)
frame_failed s c p e out out_after store after (inl broke) = inl broke
frame_failed s c p e out out_after store after (inr refused) = inr (inl refused)

pub move_failed : (s : TableSchema) (c : Consuming) (p : Place) (e : Refusal) (out out_after : SinkView) (store middle after : StoreView)
    → PrintsFrame s p.next out out_after store middle None → HasTrace (DidMove (moving_from c p) (Err e)) middle after
    → HandsPiece s c p out out_after store after (Err e)
move_failed s c p e out out_after store middle after (frame, did, taken) moved =
    inr (inr (frame, in_a_row (DidFrame s p.next (Ok frame)) (DidMove (moving_from c p) (Err e)) store middle after did moved, taken))

pub one_handed : (s : TableSchema) (c : Consuming) (p : Place) (bytes : List ℕ) (out out_after : SinkView) (store middle after : StoreView)
    → PrintsFrame s p.next out out_after store middle None → HasTrace (DidMove (moving_from c p) (Ok bytes)) middle after
    → HandsPiece s c p out out_after store after (Ok (record { next = p.next + 1; bytes = bytes }))
one_handed s c p bytes out out_after store middle after (frame, did, taken) (own, (is, does), trace) =
    subst (λ (bytes : List ℕ). HandsPiece s c p out out_after store after (Ok (record { next = p.next + 1; bytes = bytes }))) (sym is) (
      frame,
      in_a_row (DidFrame s p.next (Ok frame)) (DidMove (moving_from c p) (Ok (known_text (p.next + 1)))) store middle after did (own, (refl, does), trace),
      taken,
      place_next p,
    )
  where
    place_next : (p : Place) → record { next = p.next + 1; bytes = known_text (p.next + 1) } ≡ place_at p 1
    place_next p =
        let same : p.next + 1 ≡ p.next + 0 + 1 = omega arith in
        ap (λ (next : ℕ). record { next = p.next + 1; bytes = known_text next }) same

-- ---- frame by frame

pub none_handed : (s : TableSchema) (c : Consuming) (p : Place) (out : SinkView) (store : StoreView) → HasHandedOut s c p (p.next - p.next) out out store store
none_handed s c p out store =
    let zero_is : p.next - p.next ≡ 0 = omega arith in
    subst (λ (count : ℕ). HasHandedOut s c p count out out store store) (sym zero_is) ([], ([], (refl, refl), Traces-none store), took_nothing false out)

-- the place after so many, by its number
pub record IsPlaceFrom (p now : Place) : Type 0 where
  pub low : p.next ≤ now.next
  pub is : now ≡ place_at p (now.next - p.next)

pub from_place : (p : Place) → IsPlaceFrom p p
from_place p = record { low = omega arith; is = at (p.next - p.next) (omega arith) }
  where
    at : (count : ℕ) → count ≡ 0 → p ≡ place_at p count
    at count none =
        let same : p.next ≡ p.next + 0 = omega arith in
        subst (λ (count : ℕ). p ≡ place_at p count) (sym none) (ap (λ (next : ℕ). record { next = next; bytes = p.bytes }) same)

abbrev with_bytes : ℕ → List ℕ → Place
with_bytes next bytes = record { next = next; bytes = bytes }

-- the place after a number of snapshots and one more
placed : (p : Place) (passed next : ℕ) (text : List ℕ) → next ≡ p.next + suc passed → text ≡ known_text (p.next + passed + 1)
    → with_bytes next text ≡ place_at p (suc passed)
placed p passed next text is at =
    ap (λ (next : ℕ). with_bytes next text) is ∙ ap (with_bytes (p.next + suc passed)) at

pub next_place : (p now later : Place) → IsPlaceFrom p now → later ≡ place_at now 1 → IsPlaceFrom p later
next_place p now later from is =
    let low = from.low in
    let number : later.next ≡ now.next + 1 = ap (λ (p : Place). p.next) is in
    let count : suc (now.next - p.next) ≡ later.next - p.next = omega (arith, low, number) in
    let there : now.next + 1 ≡ p.next + suc (now.next - p.next) = omega (arith, low) in
    let text : now.next + 0 + 1 ≡ p.next + (now.next - p.next) + 1 = omega (arith, low) in
    record {
      low = omega (arith, low, number);
      is = subst (λ (count : ℕ). later ≡ place_at p count) count
          (is ∙ placed p (now.next - p.next) (now.next + 1) (known_text (now.next + 0 + 1)) there (ap known_text text));
    }

-- what the next place is
pub next_number : (s : TableSchema) (c : Consuming) (now later : Place) (out out_after : SinkView) (store after : StoreView)
    → HandsPiece s c now out out_after store after (Ok later) → (later.next ≡ now.next + 1) × (later ≡ place_at now 1)
next_number s c now later out out_after store after (frame, did, taken, is) = (ap (λ (p : Place). p.next) is, is)

pub one_more : (s : TableSchema) (c : Consuming) (p now later : Place) (first middle last : SinkView) (store until after : StoreView) → IsPlaceFrom p now
    → HasHandedOut s c p (now.next - p.next) first middle store until → HandsPiece s c now middle last until after (Ok later) → SinkLater middle last
    → HasHandedOut s c p (later.next - p.next) first last store after
one_more s c p now later first middle last store until after from (frames, handed, took) (frame, did, taken, is) late =
    let low = from.low in
    let number : later.next ≡ now.next + 1 = ap (λ (p : Place). p.next) is in
    let count : suc (now.next - p.next) ≡ later.next - p.next = omega (arith, low, number) in
    let t = in_a_row (HandsOut s c p (now.next - p.next) frames) (HandsOne s c (place_at p (now.next - p.next)) frame) store until after handed
    (subst (λ (now : Place). HasTrace (HandsOne s c now frame) until after) from.is did) in
    subst (λ (count : ℕ). HasHandedOut s c p count first last store after) count
    (frames ++ frame, (t.0, (frames, frame, t.1, refl), t.2), took_one false (now.next - p.next) frames frame first middle last took late taken)

pub stopped : (s : TableSchema) (c : Consuming) (p now : Place) (latest : ℕ) (e : Refusal) (first middle last : SinkView) (store until after : StoreView) → IsPlaceFrom p now
    → now.next ≤ latest → HasHandedOut s c p (now.next - p.next) first middle store until → SinkLater middle last
    → HandsPiece s c now middle last until after (Err e) → HandsFrames s c p latest first last store after (Some e)
stopped s c p now latest e first middle last store until after from within handed late piece =
    let low = from.low in (
      now.next - p.next,
      omega (arith, low, within),
      (middle, until, handed, late, subst (λ (now : Place). HandsPiece s c now middle last until after (Err e)) from.is piece),
    )

pub finished : (s : TableSchema) (c : Consuming) (p now : Place) (latest : ℕ) (first last : SinkView) (store after : StoreView) → IsPlaceFrom p now → latest < now.next
    → (now.next ≡ p.next) ⊎ (now.next ≤ suc latest) → HasHandedOut s c p (now.next - p.next) first last store after
    → HandsFrames s c p latest first last store after None
finished s c p now latest first last store after from above bound handed =
    subst (λ (count : ℕ). HasHandedOut s c p count first last store after) (by bound) handed
  where
    by : (now.next ≡ p.next) ⊎ (now.next ≤ suc latest) → now.next - p.next ≡ suc latest - p.next
    by (inl is) = omega (arith, is, above)
    by (inr high) = let same : now.next ≡ suc latest = omega (arith, high, above) in ap (λ (n : ℕ). n - p.next) same

-- ---- places

-- where a consumer stands that was moved on
pub handed_place : Reads → (c : Consuming) (p : Place) (bytes : List ℕ) (before after : StoreView) → IsPlace p → p.next ≤ greatest
    → HasTrace (DidMove (moving_from c p) (Ok bytes)) before after → IsPlace (record { next = p.next + 1; bytes = bytes })
handed_place reads c p bytes before after place within (own, (is, does), trace) = record {
  after_origin = omega arith;
  reads = ap consumer_in is ∙ reads_again reads (p.next + 1) false (omega arith) (omega (arith, within));
}

-- where one was found that is settled
pub settled_place : Reads → (name : List ℕ) (r : FoundConsumer) (p : Place) (before after : StoreView) → StandsAs r (standings.Settled p)
    → HasTrace (DidFind name (Ok r)) before after → IsPlace p
settled_place reads name r p before after (found, said) (own, (says, is), trace) =
    let so : consumer_in p.bytes ≡ Ok (consumer_at p.next false) = says_so r.found r.consumer found said says in
    record { after_origin = reads.next p.bytes (consumer_at p.next false) so; reads = so }
  where
    says_so : (found : Option (List ℕ)) (said : Option Consumer) → found ≡ Some p.bytes → said ≡ Some (consumer_at p.next false) → Says found said
        → consumer_in p.bytes ≡ Ok (consumer_at p.next false)
    says_so found said is was says = subst (Says (Some p.bytes)) was (subst (λ (found : Option (List ℕ)). Says found said) is says)

-- what was found says something
pub says_at : (name : List ℕ) (r : FoundConsumer) (before after : StoreView) → HasTrace (DidFind name (Ok r)) before after → Says r.found r.consumer
says_at name r before after (own, (says, is), trace) = says

-- where one is registered
pub joined_place : Reads → (start : ℕ) (bytes : List ℕ) → bytes ≡ known_text start → 1 ≤ start → start < 2 ^ 64 → IsPlace (record { next = start; bytes = bytes })
joined_place reads start bytes is low high =
    record { after_origin = low; reads = ap consumer_in is ∙ reads.again (consumer_at start false) low high }

-- the calls of a registering, once the bytes were made
pub joined_calls : (r : Registering) (bytes : List ℕ) (before after : StoreView) → bytes ≡ known_text r.next → HasTrace (DidRegister r (Ok tt)) before after
    → HasTrace (DidJoin r (Ok (record { next = r.next; bytes = bytes }))) before after
joined_calls r bytes before after is (own, did, trace) = (own, (did, ap (λ (bytes : List ℕ). record { next = r.next; bytes = bytes }) is), trace)

pub joins_none : (r : Registering) (store : StoreView) → HasTrace (DidJoin r (Err refusals.Memory)) store store
joins_none r store = ([], inl refl, Traces-none store)

-- it opened, and this follows from that
pub opened_then : {R : Type 0} (s : TableSchema) (c : Consuming) (p : Place) (first after : StoreView) (out out_after : SinkView) → Opened s c first out out_after after (Ok p)
    → ((full : Bool) (text : List ℕ) → HasTrace (Opens s c p full text) first after → Took full 0 text out out_after → R) → R
opened_then s c p first after out out_after (full, text, trace, took) leads = leads full text trace took
