-- How a following with a consumer opens, and goes on from there, whatever others do: what its calls bring to any past.
use Rattle.std.proofs.Common.{◌≡◌, inl, inr, ℕ, suc, ◌+◌, ◌-◌, ◌<◌, ◌≤◌, Bool, true, false, List, [], ◌∷◌, ◌++◌, length, slice_get, Option, None, Some, Result, Ok, Err, refl, sym, ap, subst, ◌∙◌, append-nil, append_assoc, arith}
use Rattle.pm_base.specs.Known.{and_then}
use Rattle.pm_values.specs.declared.refusal.Refusal.{Refusal}
use Rattle.pm_values.specs.declared.refusal.Refusal.TheVariants as refusals
use Rattle.pm_io.specs.Sink.{SinkView, TookPrefix}
use Rattle.pm_store.specs.Files.{Files}
use Rattle.pm_store.specs.Store.{StoreView}
use Rattle.pm_machine.specs.Trace.{Event, HasTrace}
use Rattle.pm_schema.specs.Again.{IsDeclared}
use Rattle.pm_schema.specs.declared.schema.TableSchema.{TableSchema}
use Rattle.pm_snapshot.specs.Names.{greatest}
use Rattle.pm_model_history.specs.History.{Entry, History, IsTableOf, table}
use Rattle.pm_model_folder.specs.Changes.{Actor}
use Rattle.pm_model_folder.specs.Ledger.{Past, Stands, count_of}
use Rattle.pm_model_folder.proofs.Facts.{goes_on}
use Rattle.pm_beside.specs.Bringing.{BringsBeside, OthersApart}
use Rattle.pm_beside.proofs.BringLemmas.{brings-meanwhile}
use Rattle.pm_read_schema.specs.Beside.{AnyPast, IsTold, Learns}
use Rattle.pm_read_schema.proofs.BesideFacts.{PastStays, learns-then, learns-weaker}
use Rattle.pm_read_latest.specs.AllCalls.{DidLatest}
use Rattle.pm_read_consumer.specs.AllCalls.{DidFind}
use Rattle.pm_read_consumer.specs.Meaning.{IsFoundIn}
use Rattle.pm_read_consumer.specs.declared.phase.FoundConsumer.{FoundConsumer}
use Rattle.pm_register.specs.AllCalls.{LeavesBeside, RegistersAmong}
use Rattle.pm_register.specs.Meaning.{IsWithin, Registers}
use Rattle.pm_register.specs.Registrar.{Registering, registering}
use Rattle.pm_move_consumer.specs.MoverAllCalls.{DidMove}
use Rattle.pm_scan.specs.Beside.{TellsBeside}
use Rattle.pm_read_frame.specs.AllCalls.{DidFrame}
use Rattle.pm_read_frame.specs.Frames.{AreFramesFrom, joined}
use Rattle.pm_partitions.proofs.Plain.{plain_names}
use Rattle.pm_command_follow.specs.Beside.{IsFirstOf, IsStartOf}
use Rattle.pm_command_follow.specs.Follow.{HasSchema, LearnsWhy, TellsChanges, Then}
use Rattle.pm_command_follow.specs.Pieces.{IsStarting, LearnsStart, LearnsTable, PieceBeside, PrintsStart}
use Rattle.pm_command_follow.specs.Printed.{count_from}
use Rattle.pm_command_follow.proofs.JoinLemmas.{in_a_row}
use Rattle.pm_command_follow.proofs.KnownLemmas.{FirstLaw, any_trace, first_of, joined_push, length_push, starting_on}
use Rattle.pm_command_follow.proofs.LearnLemmas.{count_on, learns_with, table_on}
use Rattle.pm_command_follow.proofs.TextLemmas.{and_then_nothing, and_then_twice}
use Rattle.pm_command_follow.proofs.WhyLemmas.{table_told, why_above, why_after, why_listing, why_read}
use Rattle.pm_command_consume.specs.Beside.{BringsFirst, ConsumesBeside, HasBegun, IsToldTo, Steps, StepsStill, breaks_frame, breaks_table, prints, refuses, stops}
use Rattle.pm_command_consume.specs.Consume.{FindsUnsettled, HandsOut, Joins, Lists, Opens, joined as joined_so, moving_from, place_at, settled}
use Rattle.pm_command_consume.specs.Pieces.{BringsFrames, DidJoin, FramesBeside, HandsFrames, HandsPiece, HasOpened, IsListed, JoinsBeside, OpenedBeside}
use Rattle.pm_command_consume.specs.Place.{StandsAs}
use Rattle.pm_command_consume.specs.declared.consuming.Consuming.{Consuming}
use Rattle.pm_command_consume.specs.declared.place.Place.{Place}
use Rattle.pm_command_consume.specs.declared.place.Standing.TheVariants as standings
use Rattle.pm_command_consume.proofs.BringLemmas.{bring_known, bring_none, bring_then, bring_weaker, bring_with, learned, registers_step, steps_still, why_brings}
use Rattle.pm_command_consume.proofs.PieceLemmas.{HasJoined, opens_with, opens_without, settled_at}

-- ---- calls one after another

any_twice : (first middle after : StoreView) → HasTrace (λ own. Unit {0}) first middle → HasTrace (λ own. Unit {0}) middle after → HasTrace (λ own. Unit {0}) first after
any_twice first middle after one other =
    any_trace (Then (λ own. Unit {0}) (λ own. Unit {0})) first after (in_a_row (λ own. Unit {0}) (λ own. Unit {0}) first middle after one other)

-- ---- the schema that its calls read

unsettled_schema : (s : TableSchema) (c : Consuming) (found : Option (List ℕ)) (own : List Event) → FindsUnsettled s c found own → TellsChanges s × IsDeclared s
unsettled_schema s c found own (none, (said, (earlier, later, (tells, declared, did), does, is))) = (tells, declared)

pub unsettled_so : (s : TableSchema) (c : Consuming) (found : Option (List ℕ)) (first after : StoreView) → HasTrace (FindsUnsettled s c found) first after
    → TellsChanges s × IsDeclared s
unsettled_so s c found first after (own, did, trace) = unsettled_schema s c found own did

opens_schema : (s : TableSchema) (c : Consuming) (p : Place) (full : Bool) (text : List ℕ) (own : List Event) → Opens s c p full text own → TellsChanges s × IsDeclared s
opens_schema s c p full text own (settled (earlier, later, (tells, declared, did), does, is) without none) = (tells, declared)
opens_schema s c p full text own
    (joined_so (first, rest, (found, (starts, registers, (latest, (finds_calls, lists, finds_so, listed, one), at, low, high), joins, two)), reads, three) same bytes) =
    unsettled_schema s c found finds_calls finds_so

pub opens_so : (s : TableSchema) (c : Consuming) (p : Place) (full : Bool) (text : List ℕ) (first after : StoreView) → HasTrace (Opens s c p full text) first after
    → TellsChanges s × IsDeclared s
opens_so s c p full text first after (own, opens, trace) = opens_schema s c p full text own opens

-- ---- where nothing is printed

pub schema_refused : (me : Actor) (c : Consuming) (e : Refusal) (out : SinkView) (store after : StoreView) → LearnsWhy c.from e store after
    → ConsumesBeside me c out out store after (Some e)
schema_refused me c e out store after why = refuses e refl (why_brings me c (λ next text. ⊥) AnyPast e store after why)

module _ (me : Actor) (s : TableSchema) (c : Consuming) where
  pub file_refused : (e : Refusal) (out : SinkView) (first middle after : StoreView) → LearnsTable s first middle → HasTrace (DidFind c.name (Err e)) middle after
      → Learns AnyPast (IsTold e) middle after → ConsumesBeside me c out out first after (Some e)
  file_refused e out first middle after learns did told =
      schema_refused me c e out first after
      (why_after (λ e own. DidFind c.name (Err e) own) c.from (λ f p. IsTableOf s p.history) e first middle after (λ id latest own shows. shows) learns did told)

  pub listing_refused : (e : Refusal) (out : SinkView) (first middle after : StoreView) → LearnsTable s first middle → HasTrace (DidLatest (Err e)) middle after
      → Learns AnyPast (IsTold e) middle after → ConsumesBeside me c out out first after (Some e)
  listing_refused e out first middle after learns did told =
      schema_refused me c e out first after (why_listing c.from (λ f p. IsTableOf s p.history) e first middle after learns did told)

  pub start_refused : (latest : ℕ) (e : Refusal) (out : SinkView) (first middle after : StoreView) → LearnsTable s first middle
      → Learns AnyPast (λ f p. (latest ≤ greatest) × (latest ≤ count_of p.history)) middle after
      → (id : ℕ) × (c.from ≡ Some id) × (suc latest < id) × (e ≡ refusals.NoSnapshot id latest) → ConsumesBeside me c out out first after (Some e)
  start_refused latest e out first middle after learns listed above = schema_refused me c e out first after (why_above c.from s latest e first middle after learns listed above)

  -- ---- a consumer that is settled

  -- the table has the schema while the consumer's file is read
  pub found_kept : (r : FoundConsumer) (first before after : StoreView) → LearnsTable s first before → Learns AnyPast (IsFoundIn c.name r) before after
      → LearnsTable s first after
  found_kept r first before after learns found =
      learns-then AnyPast (λ f p. IsTableOf s p.history) (λ f p. IsTableOf s p.history) first before after learns
      (learns-weaker (λ f p. IsTableOf s p.history) (λ f p. IsTableOf s p.history × AnyPast f p) (λ f p. IsTableOf s p.history × IsFoundIn c.name r f p)
      (λ f p. IsTableOf s p.history) before after (λ f p so. (so, tt)) (λ f p stands so. so.0)
      (learns_with (λ h. IsTableOf s h) (table_on s) AnyPast (IsFoundIn c.name r) before after found))

  opened_bare : (start : ℕ) (first after : StoreView) → BringsBeside me (StepsStill me c) AnyPast (λ f q. IsTableOf s q.history) first after
      → BringsBeside me (StepsStill me c) AnyPast (λ f q. IsStarting s false start [] q) first after
  opened_bare start first after =
      bring_known me (StepsStill me c) AnyPast AnyPast (λ f q. IsTableOf s q.history) (λ f q. IsStarting s false start [] q) first after (λ f q so. so)
      (λ f q stands so. (so, refl))

  pub settled_beside : (r : FoundConsumer) (p : Place) (out : SinkView) (first middle after : StoreView) → StandsAs r (standings.Settled p)
      → HasTrace (HasSchema s) first middle → LearnsTable s first middle → HasTrace (DidFind c.name (Ok r)) middle after
      → Learns AnyPast (IsFoundIn c.name r) middle after → OpenedBeside me s c first out out after (Ok p)
  settled_beside r p out first middle after stands has learns did found = (
    false,
    ([], settled_at s c r p first middle after stands has did),
    (
      [],
      (
        sym (and_then_nothing out.taken),
        opened_bare p.next first after
            (learned me c (λ next text. ⊥) AnyPast (λ f q. IsTableOf s q.history) first after (found_kept r first middle after learns found)),
      ),
    ),
  )

-- ---- a registering

-- each step of the registering is one of its actor
pub registering_brings : PastStays → (me : Actor) (r : Registering) (result : Result (Unit {0}) Refusal) (before after : StoreView)
    → RegistersAmong me r before after result → JoinsBeside me r before after
registering_brings past me r result before after among =
    bring_then me (Registers me r) (λ f q. IsWithin r q) (λ f q. IsWithin r q) (λ f q. IsWithin r q) before among.last after
    (bring_known me (Registers me r) (λ f q. IsWithin r q) (λ f q. IsWithin r q) (λ f q. IsWithin r q × LeavesBeside me r result f q) (λ f q. IsWithin r q) before among.last (λ f q so. so)
    (λ f q stands so. so.0) among.brings)
    (brings-meanwhile Stands (Registers me r) (OthersApart me) (λ f q. IsWithin r q) keep among.last after among.rest)
  where
    below : (n m : ℕ) → r.next ≤ suc n → n ≤ m → r.next ≤ suc m
    below n m high grown = omega (arith, high, grown)

    at_least : (n : ℕ) → n ≤ n
    at_least n = omega arith

    keep : (f later : Files) (p q : Past) → Stands f p → IsWithin r p → OthersApart me f p later q → Stands later q × IsWithin r q
    keep f later p q stands within (other, apart, advances) =
        let goes = goes_on other f later p.history q.history advances.change in (
          past other f later p q stands advances,
          record {
            schema = within.schema;
            is = table_on within.schema p.history q.history goes within.is;
            plain = within.plain;
            next = below (count_of p.history) (count_of q.history) within.next (count_on (count_of p.history) p.history q.history goes (at_least (count_of p.history)));
          },
        )

pub nothing_brings : (me : Actor) (r : Registering) (store : StoreView) → JoinsBeside me r store store
nothing_brings me r store = bring_none me (Registers me r) (λ f q. IsWithin r q) store

module _ (me : Actor) (s : TableSchema) (c : Consuming) where
  -- what a registering needs is known once the snapshots were listed
  within_learned : (found : Option (List ℕ)) (latest start : ℕ) (first before now : StoreView) → IsDeclared s → start ≤ suc latest → LearnsTable s first before
      → Learns AnyPast (λ f p. (latest ≤ greatest) × (latest ≤ count_of p.history)) before now
      → Learns AnyPast (λ f p. IsTableOf s p.history × IsWithin (registering c.name found start) p) first now
  within_learned found latest start first before now declared high learns listed =
      learns-then AnyPast (λ f p. IsTableOf s p.history) (λ f p. IsTableOf s p.history × IsWithin (registering c.name found start) p) first before now learns
      (learns-weaker (λ f p. IsTableOf s p.history) (λ f p. IsTableOf s p.history × AnyPast f p)
      (λ f p. IsTableOf s p.history × ((latest ≤ greatest) × (latest ≤ count_of p.history)))
      (λ f p. IsTableOf s p.history × IsWithin (registering c.name found start) p) before now (λ f p so. (so, tt))
      (λ f p stands so. (so.0, record { schema = s; is = so.0; plain = plain_names s declared; next = below (count_of p.history) so.1.1 }))
      (learns_with (λ h. IsTableOf s h) (table_on s) AnyPast (λ f p. (latest ≤ greatest) × (latest ≤ count_of p.history)) before now listed))
    where
      below : (n : ℕ) → latest ≤ n → start ≤ suc n
      below n within = omega (arith, high, within)

  -- whatever the registering is answered, no call is a move, and the snapshot below the start stays committed
  pub registered_below : (found : Option (List ℕ)) (latest start : ℕ) (first before now after : StoreView) → HasTrace (FindsUnsettled s c found) first before
      → LearnsTable s first before → Learns AnyPast (λ f p. (latest ≤ greatest) × (latest ≤ count_of p.history)) before now → start ≤ suc latest
      → JoinsBeside me (registering c.name found start) now after
      → BringsBeside me (StepsStill me c) AnyPast (λ f q. IsTableOf s q.history × (start - 1 ≤ count_of q.history)) first after
  registered_below found latest start first before now after finds_so learns listed high joins =
      bring_then me (StepsStill me c) AnyPast (λ f q. IsTableOf s q.history × IsWithin (registering c.name found start) q)
      (λ f q. IsTableOf s q.history × (start - 1 ≤ count_of q.history)) first now after
      (learned me c (λ next text. ⊥) AnyPast (λ f q. IsTableOf s q.history × IsWithin (registering c.name found start) q) first now
      (within_learned found latest start first before now (unsettled_so s c found first before finds_so).1 high learns listed))
      (bring_known me (StepsStill me c) (λ f q. IsTableOf s q.history × IsWithin (registering c.name found start) q)
      (λ f q. IsTableOf s q.history × IsWithin (registering c.name found start) q) (λ f q. IsTableOf s q.history × IsWithin (registering c.name found start) q)
      (λ f q. IsTableOf s q.history × (start - 1 ≤ count_of q.history)) now after (λ f q so. so) (λ f q stands so. (so.0, below (count_of q.history) so.1.next))
      (bring_with me c (λ next text. ⊥) (λ h. IsTableOf s h) (table_on s) (λ f q. IsWithin (registering c.name found start) q)
      (λ f q. IsWithin (registering c.name found start) q) now after
      (bring_weaker me (Registers me (registering c.name found start)) (StepsStill me c) (λ f q. IsWithin (registering c.name found start) q)
      (λ f q. IsWithin (registering c.name found start) q) (λ f q. IsWithin (registering c.name found start) q)
      (λ f q. IsWithin (registering c.name found start) q) now after (registers_step me c found start) (λ f q so. so) (λ f q stands so. so) joins)))
    where
      below : (n : ℕ) → start ≤ suc n → start - 1 ≤ n
      below n within = omega (arith, within)

  table_of : (start : ℕ) (first after : StoreView) → BringsBeside me (StepsStill me c) AnyPast (λ f q. IsTableOf s q.history × (start - 1 ≤ count_of q.history)) first after
      → BringsBeside me (StepsStill me c) AnyPast (λ f q. IsTableOf s q.history) first after
  table_of start first after = bring_known me (StepsStill me c) AnyPast AnyPast (λ f q. IsTableOf s q.history × (start - 1 ≤ count_of q.history)) (λ f q. IsTableOf s q.history)
      first after (λ f q so. so) (λ f q stands so. so.0)

  pub registered : (found : Option (List ℕ)) (latest start : ℕ) (first before now after : StoreView) → HasTrace (FindsUnsettled s c found) first before
      → LearnsTable s first before → Learns AnyPast (λ f p. (latest ≤ greatest) × (latest ≤ count_of p.history)) before now → start ≤ suc latest
      → JoinsBeside me (registering c.name found start) now after → BringsBeside me (StepsStill me c) AnyPast (λ f q. IsTableOf s q.history) first after
  registered found latest start first before now after finds_so learns listed high joins =
      table_of start first after (registered_below found latest start first before now after finds_so learns listed high joins)

  -- a registering that is refused tells nothing
  none_told : (r : Registering) (e : Refusal) (own : List Event) → DidJoin r (Err e) own → (f : Files) (p : Past) → IsToldTo c e f p
  none_told r refusals.Memory own shows f p = tt
  none_told r (refusals.StoreFault path) own shows f p = tt
  none_told r (refusals.ConsumerMoved found) own shows f p = tt
  none_told r (refusals.BelowFloor next floor) own shows f p = tt
  none_told r e own shows f p = absurd shows

  pub registering_refused : (r : Registering) (e : Refusal) (out : SinkView) (first now after : StoreView) → HasTrace (DidJoin r (Err e)) now after
      → BringsBeside me (StepsStill me c) AnyPast (λ f q. IsTableOf s q.history) first after → ConsumesBeside me c out out first after (Some e)
  registering_refused r e out first now after (own, shows, trace) brings =
      refuses e refl
      (bring_known me (StepsStill me c) AnyPast AnyPast (λ f q. IsTableOf s q.history) (IsToldTo c e) first after (λ f q so. so)
      (λ f q stands so. none_told r e own shows f q) brings)

  -- ---- the starting table

  tries : (start : ℕ) (e : Refusal) (out out_after : SinkView) (before after : StoreView) → PrintsStart s start out out_after before after (Some e)
      → HasTrace (λ own. Unit {0}) before after
  tries start e out out_after before after (inl (text, (own, did, trace), fails)) = (own, tt, trace)
  tries start e out out_after before after (inr ((own, did, trace), same)) = (own, tt, trace)

  first_bare : FirstLaw → (start : ℕ) (text : List ℕ) (first after : StoreView) → TellsChanges s × IsDeclared s
      → BringsBeside me (StepsStill me c) AnyPast (λ f q. IsStarting s true start text q) first after → BringsFirst me s c start true [] 0 text first after
  first_bare law start text first after so brings =
      bring_weaker me (StepsStill me c) (Steps me c start []) AnyPast AnyPast (λ f q. IsStarting s true start text q)
      (λ f q. (es : List Entry) × (q.history ≡ table s es) × IsFirstOf s es true start 0 text) first after (steps_still me c start []) (λ f q known. known)
      (λ f q stands known.
      let found = first_of law s so.0 q.history true start text [] known.0 known.1 tt in
      (found.0, found.1, subst (IsFirstOf s found.0 true start 0) (append-nil text) found.2)) brings

  starts_with : (start : ℕ) (text : List ℕ) (first before after : StoreView) → BringsBeside me (StepsStill me c) AnyPast (λ f q. IsTableOf s q.history) first before
      → LearnsStart s start text before after → BringsBeside me (StepsStill me c) AnyPast (λ f q. IsStarting s true start text q) first after
  starts_with start text first before after brings learns =
      bring_then me (StepsStill me c) AnyPast (λ f q. IsTableOf s q.history) (λ f q. IsStarting s true start text q) first before after brings
      (learned me c (λ next shown. ⊥) (λ f q. IsTableOf s q.history) (λ f q. IsStarting s true start text q) before after learns)

  pub table_refused : PastStays → FirstLaw → (start : ℕ) (p : Place) (e : Refusal) (out out_after : SinkView) (first before after : StoreView) → c.full ≡ true
      → TellsChanges s × IsDeclared s → HasJoined s c start p first before
      → BringsBeside me (StepsStill me c) AnyPast (λ f q. IsTableOf s q.history × (start - 1 ≤ count_of q.history)) first before
      → PrintsStart s start out out_after before after (Some e) → PieceBeside (LearnsStart s start) (TellsBeside s) out out_after before after (Some e)
      → ConsumesBeside me c out out_after first after (Some e)
  table_refused past law start p e out out_after first before after asked so has brings piece (inl (text, learns, (is, failed, took))) =
      subst (λ (e : Refusal). ConsumesBeside me c out out_after first after (Some e)) (sym is)
      (breaks_table s start text asked
      (in_a_row (Joins s c start) (λ own. Unit {0}) first before after has.joins (tries start e out out_after before after piece))
      took (first_bare law start text first after so (starts_with start text first before after (table_of start first before brings) learns)))
  table_refused past law start p e out out_after first before after asked so has brings piece (inr (same, told)) =
      refuses e same
      (bring_then me (StepsStill me c) AnyPast (λ f q. IsTableOf s q.history × (start - 1 ≤ count_of q.history)) (IsToldTo c e) first before after brings
      (why_brings me c (λ next shown. ⊥) (λ f q. IsTableOf s q.history × (start - 1 ≤ count_of q.history)) e before after
      (table_told past c.from s start e out out_after before after piece told)))

  pub table_opened : (start : ℕ) (p : Place) (out out_after : SinkView) (first before after : StoreView) → c.full ≡ true → HasJoined s c start p first before
      → BringsBeside me (StepsStill me c) AnyPast (λ f q. IsTableOf s q.history) first before → PrintsStart s start out out_after before after None
      → PieceBeside (LearnsStart s start) (TellsBeside s) out out_after before after None → OpenedBeside me s c first out out_after after (Ok p)
  table_opened start p out out_after first before after asked has brings (shown, did, was) (text, learns, taken) =
      subst (λ (p : Place). OpenedBeside me s c first out out_after after (Ok p)) (sym has.place) (
        true,
        (shown, opens_with s c start p shown first before after asked has did),
        (text, (taken, starts_with start text first before after brings learns)),
      )

  pub bare_opened : (start : ℕ) (p : Place) (out : SinkView) (first after : StoreView) → c.full ≡ false → HasJoined s c start p first after
      → BringsBeside me (StepsStill me c) AnyPast (λ f q. IsTableOf s q.history) first after → OpenedBeside me s c first out out after (Ok p)
  bare_opened start p out first after asked has brings =
      subst (λ (p : Place). OpenedBeside me s c first out out after (Ok p)) (sym has.place) (
        false,
        ([], opens_without s c start p first after asked has),
        (
          [],
          (
            sym (and_then_nothing out.taken),
            bring_known me (StepsStill me c) AnyPast AnyPast (λ f q. IsTableOf s q.history) (λ f q. IsStarting s false start [] q) first after (λ f q so. so)
                (λ f q stands so. (so, refl)) brings,
          ),
        ),
      )

-- ---- the frames

module _ (law : FirstLaw) (me : Actor) (s : TableSchema) (c : Consuming) (p : Place) (full : Bool) (table_text text : List ℕ) (out between out_after : SinkView)
    (first middle : StoreView) (opens : HasTrace (Opens s c p full table_text) first middle) (opened : HasOpened me s c p full text out between first middle) where
  so : TellsChanges s × IsDeclared s
  so = opens_so s c p full table_text first middle opens

  abbrev Kept : History → Type 0
  Kept h = IsTableOf s h × IsStartOf h full p.next text

  begun : (after : StoreView) → HasTrace (λ own. Unit {0}) middle after → HasTrace (HasBegun s c p full) first after
  begun after any =
      let t = in_a_row (Opens s c p full table_text) (λ own. Unit {0}) first middle after opens any in
      (t.0, (table_text, t.1), t.2)

  -- no call of the opening is a move
  opened_so : (moved : List (List ℕ)) → BringsBeside me (Steps me c p.next moved) AnyPast (λ f q. Kept q.history) first middle
  opened_so moved = bring_weaker me (StepsStill me c) (Steps me c p.next moved) AnyPast AnyPast (λ f q. Kept q.history) (λ f q. Kept q.history) first middle
      (steps_still me c p.next moved) (λ f q known. known) (λ f q stands known. known) opened.1

  listing_known : (e : Refusal) (after : StoreView) → LearnsWhy c.from e middle after
      → BringsBeside me (StepsStill me c) AnyPast (λ f q. Kept q.history × IsToldTo c e f q) first after
  listing_known e after why =
      bring_then me (StepsStill me c) AnyPast (λ f q. Kept q.history) (λ f q. Kept q.history × IsToldTo c e f q) first middle after opened.1
      (bring_known me (StepsStill me c) (λ f q. Kept q.history) (λ f q. Kept q.history × AnyPast f q) (λ f q. Kept q.history × IsToldTo c e f q)
      (λ f q. Kept q.history × IsToldTo c e f q) middle after (λ f q known. (known, tt)) (λ f q stands known. known)
      (bring_with me c (λ next shown. ⊥) Kept (starting_on s full p.next text) AnyPast (IsToldTo c e) middle after
      (why_brings me c (λ next shown. ⊥) AnyPast e middle after why)))

  pub listing_stops : (e : Refusal) (after : StoreView) → HasTrace (DidLatest (Err e)) middle after → Learns AnyPast (IsTold e) middle after
      → ConsumesBeside me c out between first after (Some e)
  listing_stops e after did told =
      let known = listing_known e after (why_read (λ e own. DidLatest (Err e) own) c.from e middle after (λ id latest own shows. shows) did told) in
      stops e s p full text [] (begun after (any_trace (DidLatest (Err e)) middle after did)) (opened.0 ∙ ap (and_then out.taken) (sym (append-nil text)))
      (bring_weaker me (StepsStill me c) (Steps me c p.next []) AnyPast AnyPast (λ f q. Kept q.history × IsToldTo c e f q)
      (λ f q. (es : List Entry) × (q.history ≡ table s es) × IsFirstOf s es full p.next 0 (text ++ [])) first after (steps_still me c p.next []) (λ f q so. so)
      (λ f q stands both. first_of law s so.0 q.history full p.next text [] both.0.0 both.0.1 tt) known)
      (bring_weaker me (StepsStill me c) (Steps me c p.next []) AnyPast AnyPast (λ f q. Kept q.history × IsToldTo c e f q) (IsToldTo c e) first after
      (steps_still me c p.next []) (λ f q so. so) (λ f q stands both. both.1) known)

  module _ (latest : ℕ) (now after : StoreView) (did : HasTrace (DidLatest (Ok latest)) middle now)
      (listed : Learns AnyPast (λ f p. (latest ≤ greatest) × (latest ≤ count_of p.history)) middle now) where
    listed_now : (moved : List (List ℕ)) → BringsBeside me (Steps me c p.next moved) AnyPast (λ f q. Kept q.history × IsListed s latest q.history) first now
    listed_now moved =
        bring_then me (Steps me c p.next moved) AnyPast (λ f q. Kept q.history) (λ f q. Kept q.history × IsListed s latest q.history) first middle now
        (opened_so moved)
        (bring_known me (Steps me c p.next moved) (λ f q. Kept q.history) (λ f q. Kept q.history × AnyPast f q)
        (λ f q. Kept q.history × ((latest ≤ greatest) × (latest ≤ count_of q.history))) (λ f q. Kept q.history × IsListed s latest q.history) middle now
        (λ f q known. (known, tt)) (λ f q stands known. (known.0, record { is = known.0.0; plain = plain_names s so.1; within = known.1.1 }))
        (bring_with me c (λ next shown. (n : ℕ) × (next ≡ p.next + n) × (slice_get moved n ≡ Some shown)) Kept (starting_on s full p.next text) AnyPast
        (λ f q. (latest ≤ greatest) × (latest ≤ count_of q.history)) middle now
        (learned me c (λ next shown. (n : ℕ) × (next ≡ p.next + n) × (slice_get moved n ≡ Some shown)) AnyPast
        (λ f q. (latest ≤ greatest) × (latest ≤ count_of q.history)) middle now listed)))

    -- why a call behind these frames was refused
    frames_why : (e : Refusal) (frames : List (List ℕ)) → BringsBeside me (Steps me c p.next frames) (λ f q. IsListed s latest q.history) (IsToldTo c e) now after
        → BringsBeside me (Steps me c p.next frames) AnyPast (IsToldTo c e) first after
    frames_why e frames why =
        bring_then me (Steps me c p.next frames) AnyPast (λ f q. IsListed s latest q.history) (IsToldTo c e) first now after
        (bring_known me (Steps me c p.next frames) AnyPast AnyPast (λ f q. Kept q.history × IsListed s latest q.history) (λ f q. IsListed s latest q.history) first now
        (λ f q known. known) (λ f q stands known. known.1) (listed_now frames)) why

    -- the pieces are the first of what is printed
    frames_first : (frames moved : List (List ℕ)) → BringsFrames me s c p.next latest moved frames now after
        → BringsFirst me s c p.next full moved (length frames) (text ++ joined frames) first after
    frames_first frames moved brings =
        bring_known me (Steps me c p.next moved) AnyPast AnyPast
        (λ f q. Kept q.history × (IsListed s latest q.history × AreFramesFrom q.history p.next frames))
        (λ f q. (es : List Entry) × (q.history ≡ table s es) × IsFirstOf s es full p.next (length frames) (text ++ joined frames)) first after (λ f q known. known)
        (λ f q stands known. first_of law s so.0 q.history full p.next text frames known.0.0 known.0.1 known.1.1)
        (bring_then me (Steps me c p.next moved) AnyPast (λ f q. Kept q.history × IsListed s latest q.history)
        (λ f q. Kept q.history × (IsListed s latest q.history × AreFramesFrom q.history p.next frames)) first now after
        (listed_now moved)
        (bring_with me c (λ next shown. (n : ℕ) × (next ≡ p.next + n) × (slice_get moved n ≡ Some shown)) Kept (starting_on s full p.next text)
        (λ f q. IsListed s latest q.history) (λ f q. IsListed s latest q.history × AreFramesFrom q.history p.next frames) now after brings))

    -- what the sink took
    took_all : (frames : List (List ℕ)) → and_then between.taken (joined frames) ≡ and_then out.taken (text ++ joined frames)
    took_all frames = ap (λ (known : Option (List ℕ)). and_then known (joined frames)) opened.0 ∙ and_then_twice out.taken text (joined frames)

    any_piece : (e : Refusal) (at : Place) (one other : SinkView) (until : StoreView) → HandsPiece s c at one other until after (Err e)
        → HasTrace (λ own. Unit {0}) until after
    any_piece e at one other until (inl (shown, trace, fails)) = any_trace (DidFrame s at.next (Ok shown)) until after trace
    any_piece e at one other until (inr (inl (trace, same))) = any_trace (DidFrame s at.next (Err e)) until after trace
    any_piece e at one other until (inr (inr (shown, trace, took))) =
        any_trace (Then (DidFrame s at.next (Ok shown)) (DidMove (moving_from c at) (Err e))) until after trace

    any_frames : (e : Refusal) → HandsFrames s c p latest between out_after now after (Some e) → HasTrace (λ own. Unit {0}) now after
    any_frames e (count, few, (last, until, (shown, trace, took), late, piece)) =
        any_twice now until after (any_trace (HandsOut s c p count shown) now until trace) (any_piece e (place_at p count) last out_after until piece)

    begun_all : (e : Refusal) → HandsFrames s c p latest between out_after now after (Some e) → HasTrace (HasBegun s c p full) first after
    begun_all e hands = begun after (any_twice middle now after (any_trace (DidLatest (Ok latest)) middle now did) (any_frames e hands))

    pub frames_beside : (answer : Option Refusal) → HandsFrames s c p latest between out_after now after answer
        → FramesBeside me s c p latest between out_after now after answer → ConsumesBeside me c out out_after first after answer
    frames_beside None (shown, trace, took) (frames, size, taken, brings) =
        let lists = in_a_row (Opens s c p full table_text) (DidLatest (Ok latest)) first middle now opens did in
        let t = in_a_row (Lists s c p full table_text latest) (HandsOut s c p (count_from p.next latest) shown) first now after lists trace in
        prints s p full latest text frames (t.0, (table_text, shown, t.1), t.2) size (taken ∙ took_all frames) (frames_first frames frames brings)
    frames_beside (Some e) hands (frames, inl (taken, brings, why)) =
        stops e s p full text frames (begun_all e hands) (taken ∙ took_all frames) (frames_first frames frames brings) (frames_why e frames why)
    frames_beside (Some e) hands (frames, inr (last, is, took, brings)) =
        let all_first = frames_first (frames ++ last ∷ []) frames brings in
        subst (λ (e : Refusal). ConsumesBeside me c out out_after first after (Some e)) (sym is)
        (breaks_frame s p full text last frames (begun_all e hands)
        (subst (λ (known : Option (List ℕ)). TookPrefix known out_after.taken last) (took_all frames) took)
        (subst (λ (shown : List ℕ). BringsFirst me s c p.next full frames (suc (length frames)) shown first after)
        (ap (λ (shown : List ℕ). text ++ shown) (joined_push frames last) ∙ sym (append_assoc text (joined frames) last))
        (subst (λ (count : ℕ). BringsFirst me s c p.next full frames count (text ++ joined (frames ++ last ∷ [])) first after) (length_push frames last) all_first)))

-- it opened, and this follows from that
pub beside_then : {R : Type 0} (me : Actor) (s : TableSchema) (c : Consuming) (p : Place) (first after : StoreView) (out out_after : SinkView)
    → OpenedBeside me s c first out out_after after (Ok p)
    → ((full : Bool) (shown text : List ℕ) → HasTrace (Opens s c p full shown) first after → HasOpened me s c p full text out out_after first after → R) → R
beside_then me s c p first after out out_after (full, (shown, trace), (text, opened)) leads = leads full shown text trace opened
