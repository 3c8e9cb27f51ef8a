-- The parts of what an expiry reads first: the schema, the ids of the snapshots, the floors, the consumers, and the
-- snapshots. What was found follows from its calls.
use Rattle.std.proofs.Common.{◌≡◌, inl, inr, ℕ, ℤ, List, [], ◌∷◌, ◌++◌, length, Option, None, Some, IsSome, Result, Ok, Err, refl, sym, ap, subst, ◌∙◌, append_assoc, append-nil}
use Rattle.std.specs.List.{AllZip}
use Rattle.pm_values.specs.declared.refusal.Refusal.{Refusal}
use Rattle.pm_values.specs.declared.refusal.Refusal.TheVariants as refusals
use Rattle.pm_store.specs.declared.answer.Answer.{Answer}
use Rattle.pm_store.specs.declared.answer.Answer.TheVariants as answers
use Rattle.pm_machine.specs.Trace.{Event}
use Rattle.pm_schema.specs.declared.schema.TableSchema.{TableSchema}
use Rattle.pm_snapshot.specs.Snapshot.{snapshot_in}
use Rattle.pm_snapshot.specs.declared.consumer.Consumer.{Consumer}
use Rattle.pm_snapshot.specs.declared.fault.SnapFault.{SnapFault}
use Rattle.pm_snapshot.specs.declared.snapshot.Snapshot.{Snapshot}
use Rattle.pm_model_folder.specs.Paths.{consumer_path, snapshot_path}
use Rattle.pm_paths.specs.Ids.{AreIds}
use Rattle.pm_consumer_files.specs.declared.lines.NamedConsumer.{NamedConsumer}
use Rattle.pm_read_schema.specs.Trace.{Names, listed_snapshots}
use Rattle.pm_read_schema.proofs.IdLemmas.{one_ids}
use Rattle.pm_read_schema.proofs.LeadLemmas.{IsAnswered, Leads, all_answered, failed, lead_step, led}
use Rattle.pm_read_schema.proofs.OneLemmas as schema
use Rattle.pm_read_consumer.specs.Reader.{IsDamaged, Says}
use Rattle.pm_read_consumer.specs.Trace.{read_consumer}
use Rattle.pm_read_consumer.proofs.OneLemmas.{none_said, one_said}
use Rattle.pm_snapshots.specs.Lines.{line_of}
use Rattle.pm_snapshots.specs.Trace.{IsLineOf, read_snapshot}
use Rattle.pm_snapshots.specs.declared.line.SnapshotLine.{SnapshotLine}
use Rattle.pm_snapshots.specs.Lister as lister
use Rattle.pm_snapshots.specs.Reading.{IsReading, ReadingView, next_id}
use Rattle.pm_snapshots.specs.Trace as snapshots
use Rattle.pm_consumers.specs.Lister as consumer_lister
use Rattle.pm_consumers.specs.Names.{AreNames}
use Rattle.pm_consumers.specs.Trace as consumers
use Rattle.pm_consumers.specs.Trace.{FileRead, AreSaid, consumers_of, listed_consumers, named, names_of, reads_of}
use Rattle.pm_expire_end.specs.Expiry.{expire_end_of, first_id, last_id}
use Rattle.pm_read_expiry.specs.Times.{times_of, IsChain, IsLeastNext}
use Rattle.pm_read_expiry.specs.declared.asking.Asking.{Asking}
use Rattle.pm_expire.specs.declared.all_calls.Kept.{Kept}
use Rattle.pm_expire.proofs.ChainLemmas.{ids_of}
use Rattle.pm_expire.proofs.OneEndLemmas.{one_next}
use Rattle.pm_expire.proofs.OnlyLemmas.{all_taken, one_chain, one_names, split_at}
use Rattle.pm_expire.proofs.PartLemmas.{AreAnswered, EndsAs, EndsEither, HasBoth, HasEvent, HasLed, IsPart, IsShown, IsTail, NoEnd, event_part, lead_part, no_tail, of_end, of_failure, of_memory, part_as, then_part}

-- what an expiry answers
abbrev pub Made : Type 0
Made = Result Kept Refusal

abbrev pub kept_of : ℕ → ℕ → Made
kept_of first last = Ok (record { first = first; last = last })

abbrev pub refused : Refusal → Made
refused e = Err e

-- ---- the schema

abbrev IsSchema : TableSchema → schema.Place → Type 0
IsSchema s m = m ≡ schema.ready s

abbrev IsRefused : Refusal → schema.Place → Type 0
IsRefused e m = m ≡ schema.over e

abbrev pub HasSchema : TableSchema → List Event → Type 0
HasSchema s own = HasLed schema.Goes schema.listing IsSchema s own

abbrev pub EndsSchema : Refusal → List Event → Type 0
EndsSchema e own = HasLed schema.Goes schema.listing IsRefused e own

over_same : (e d : Refusal) → schema.over e ≡ schema.over d → e ≡ d
over_same e d is = cc

schema_part : IsPart HasSchema EndsSchema
schema_part = lead_part schema.Goes schema.listing IsSchema IsRefused schema.IsEnd (record {
  are_one = schema.are_one;
  stays = schema.ends_stay;
  answered = schema.leads_answered;
  at_ends = λ s m is. subst schema.IsEnd (sym is) tt;
  over_ends = λ e m is. subst schema.IsEnd (sym is) tt;
  one_at = λ s t m is was. schema.one_ready s t (sym is ∙ was);
  one_over = λ e d m is was. over_same e d (sym is ∙ was);
  not_over = λ s e m is was. schema.over_not e s (sym was ∙ is);
})

-- ---- the ids of the snapshots

listed_in : Option Answer → List (List ℕ)
listed_in (Some (answers.Listed names)) = names.items
listed_in other = []

pub same_listed : (names others : Names) (event : Event) → event.answer ≡ Some (answers.Listed names) → event.answer ≡ Some (answers.Listed others)
    → names.items ≡ others.items
unfolding listed_in
same_listed names others event is was = ap listed_in (sym is ∙ was)

pub listed_answered : (names : Names) (event : Event) → event.answer ≡ Some (answers.Listed names) → IsAnswered event
listed_answered names event is = subst (λ (o : Option Answer). IsSome o) (sym is) refl

abbrev pub ListsIds : List ℕ → Event → Type 0
ListsIds ids event = (names : Names) × AreIds names.items ids × (event.answer ≡ Some (answers.Listed names))

ids_part : IsPart (HasEvent ListsIds) (NoEnd {A = Made})
ids_part = event_part ListsIds NoEnd one answer (λ ids event more made at ends. ends) no_tail
  where
    one : (ids others : List ℕ) (event : Event) → ListsIds ids event → ListsIds others event → ids ≡ others
    one ids others event (names, are, is) (also, were, was) =
        one_ids names.items ids others are (subst (λ (names : List (List ℕ)). AreIds names others) (sym (same_listed names also event is was)) were)

    answer : (ids : List ℕ) (event : Event) → ListsIds ids event → IsAnswered event
    answer ids event (names, are, is) = listed_answered names event is

-- ---- snapshots that are read one after another

-- of these ids the snapshots are to be read, after these lines; or the reading was refused
pub data LinePlace : Type 0 where
  lines : List ℕ → List SnapshotLine → LinePlace
  lines_over : Refusal → LinePlace

abbrev line_leads : ℕ → List ℕ → List SnapshotLine → Result Snapshot SnapFault → LinePlace
line_leads id ids before (Ok s) = lines ids (before ++ line_of s ∷ [])
line_leads id ids before (Err fault) = lines_over (refusals.Damaged (snapshot_path id) 0)

abbrev line_after : ℕ → List ℕ → List SnapshotLine → Option (List ℕ) → LinePlace
line_after id ids before None = lines_over (refusals.Expired id)
line_after id ids before (Some bytes) = line_leads id ids before (snapshot_in id bytes)

abbrev LineAfter : LinePlace → Option Answer → LinePlace → Type 0
LineAfter (lines (id ∷ ids) before) (Some (answers.Found found)) new = new ≡ line_after id ids before found
LineAfter m answer new = ⊥

abbrev pub LineGoes : LinePlace → Event → LinePlace → Type 0
LineGoes m event new = LineAfter m event.answer new

one_line_after : (m : LinePlace) (answer : Option Answer) (one other : LinePlace) → LineAfter m answer one → LineAfter m answer other → one ≡ other
one_line_after (lines (id ∷ ids) before) (Some (answers.Found found)) one other is was = is ∙ sym was
one_line_after m answer one other is was = absurd is

line_answered : (m : LinePlace) (answer : Option Answer) (new : LinePlace) → LineAfter m answer new → IsSome answer
line_answered m (Some answer) new goes = refl
line_answered (lines (id ∷ ids) before) None new goes = absurd goes
line_answered (lines [] before) None new goes = absurd goes
line_answered (lines_over e) None new goes = absurd goes

abbrev LinesEnd : LinePlace → Type 0
LinesEnd (lines [] before) = Unit {0}
LinesEnd (lines_over e) = Unit {0}
LinesEnd m = ⊥

lines_stay : (m new : LinePlace) (answer : Option Answer) → LinesEnd m → LineAfter m answer new → ⊥
lines_stay (lines [] before) new answer ends goes = goes
lines_stay (lines_over e) new answer ends goes = goes
lines_stay (lines (id ∷ ids) before) new answer ends goes = ends

abbrev LinesOver : Refusal → LinePlace → Type 0
LinesOver e (lines_over d) = e ≡ d
LinesOver e m = ⊥

-- what was found: of the snapshots that count the first and the last, and the end
pub record Bounds : Type 0 where
  pub schema : TableSchema
  pub first : ℕ
  pub last : ℕ
  pub end : ℕ

abbrev pub bounds : TableSchema → ℕ → ℕ → ℕ → Bounds
bounds s first last end = record { schema = s; first = first; last = last; end = end }

module _ (a : Asking) where
  -- where the lines of all were read, and consumers read this number next
  abbrev pub FoundAt : Option ℕ → Bounds → LinePlace → Type 0
  FoundAt next v (lines [] read) =
      (chain : List (ℕ × ℤ)) × IsChain (times_of read) chain
      × (v ≡ bounds a.schema (first_id chain) (last_id chain) (expire_end_of chain a.keep a.now next))
  FoundAt next v m = ⊥

  abbrev pub HasTimes : List ℕ → Option ℕ → Bounds → List Event → Type 0
  HasTimes ids next v own = HasLed LineGoes (lines ids []) (FoundAt next) v own

  abbrev pub EndsTimes : List ℕ → Refusal → List Event → Type 0
  EndsTimes ids e own = HasLed LineGoes (lines ids []) LinesOver e own

  times_part : (ids : List ℕ) (next : Option ℕ) → IsPart (HasTimes ids next) (EndsTimes ids)
  times_part ids next = lead_part LineGoes (lines ids []) (FoundAt next) LinesOver LinesEnd (record {
    are_one = λ m event one other is was. one_line_after m event.answer one other is was;
    stays = λ m new event ends goes. lines_stay m new event.answer ends goes;
    answered = λ own m lead. all_answered LineGoes (λ m event new goes. line_answered m event.answer new goes) own (lines ids []) m lead;
    at_ends = ends_at;
    over_ends = ends_over;
    one_at = one;
    one_over = one_over;
    not_over = not_both;
  })
    where
      ends_at : (v : Bounds) (m : LinePlace) → FoundAt next v m → LinesEnd m
      ends_at v (lines [] read) at = tt
      ends_at v m at = absurd at

      ends_over : (e : Refusal) (m : LinePlace) → LinesOver e m → LinesEnd m
      ends_over e (lines_over d) over = tt
      ends_over e m over = absurd over

      one : (v w : Bounds) (m : LinePlace) → FoundAt next v m → FoundAt next w m → v ≡ w
      one v w (lines [] read) (chain, are, is) (other, were, was) =
          is
          ∙ ap (λ (chain : List (ℕ × ℤ)). bounds a.schema (first_id chain) (last_id chain) (expire_end_of chain a.keep a.now next))
          (one_chain (times_of read) chain other are were)
          ∙ sym was
      one v w m at there = absurd at

      one_over : (e d : Refusal) (m : LinePlace) → LinesOver e m → LinesOver d m → e ≡ d
      one_over e d (lines_over other) is was = is ∙ sym was
      one_over e d m is was = absurd is

      not_both : (v : Bounds) (e : Refusal) (m : LinePlace) → FoundAt next v m → LinesOver e m → ⊥
      not_both v e (lines_over d) at over = at
      not_both v e (lines [] read) at over = over
      not_both v e (lines (id ∷ ids) read) at over = at

-- ---- consumers

-- the consumers are to be listed; or the files of these, after those that were read; or the reading was refused
pub data ConsumerPlace : Type 0 where
  listing : ConsumerPlace
  reading : List (List ℕ) → List NamedConsumer → ConsumerPlace
  consumers_over : Refusal → ConsumerPlace

pub data ReadsConsumer (name : List ℕ) (names : List (List ℕ)) (before : List NamedConsumer) (found : Option (List ℕ)) (new : ConsumerPlace) : Type 0 where
  says : (said : Option Consumer) → Says found said → new ≡ reading names (before ++ named name said) → ReadsConsumer name names before found new
  damaged : (bytes : List ℕ) → found ≡ Some bytes → IsDamaged bytes → new ≡ consumers_over (refusals.Damaged (consumer_path name) 0)
      → ReadsConsumer name names before found new

abbrev ConsumerAfter : ConsumerPlace → Option Answer → ConsumerPlace → Type 0
ConsumerAfter listing (Some (answers.Listed files)) new = (names : List (List ℕ)) × AreNames files.items names × (new ≡ reading names [])
ConsumerAfter (reading (name ∷ names) before) (Some (answers.Found found)) new = ReadsConsumer name names before found new
ConsumerAfter m answer new = ⊥

abbrev pub ConsumerGoes : ConsumerPlace → Event → ConsumerPlace → Type 0
ConsumerGoes m event new = ConsumerAfter m event.answer new

one_read : (name : List ℕ) (names : List (List ℕ)) (before : List NamedConsumer) (found : Option (List ℕ)) (one other : ConsumerPlace)
    → ReadsConsumer name names before found one → ReadsConsumer name names before found other → one ≡ other
one_read name names before found one other (says said at is) (says also there was) =
    is ∙ ap (λ (said : Option Consumer). reading names (before ++ named name said)) (one_said found said also at there) ∙ sym was
one_read name names before found one other (says said at is) (damaged bytes there bad was) =
    absurd (none_said bytes said (subst (λ (found : Option (List ℕ)). Says found said) there at) bad)
one_read name names before found one other (damaged bytes there bad is) (says said at was) =
    absurd (none_said bytes said (subst (λ (found : Option (List ℕ)). Says found said) there at) bad)
one_read name names before found one other (damaged bytes at bad is) (damaged more there worse was) = is ∙ sym was

one_consumer_after : (m : ConsumerPlace) (answer : Option Answer) (one other : ConsumerPlace) → ConsumerAfter m answer one → ConsumerAfter m answer other
    → one ≡ other
one_consumer_after listing (Some (answers.Listed files)) one other (names, are, is) (others, were, was) =
    is ∙ ap (λ (names : List (List ℕ)). reading names []) (one_names files.items names others are were) ∙ sym was
one_consumer_after (reading (name ∷ names) before) (Some (answers.Found found)) one other is was = one_read name names before found one other is was
one_consumer_after m answer one other is was = absurd is

consumer_answered : (m : ConsumerPlace) (answer : Option Answer) (new : ConsumerPlace) → ConsumerAfter m answer new → IsSome answer
consumer_answered m (Some answer) new goes = refl
consumer_answered listing None new goes = absurd goes
consumer_answered (reading (name ∷ names) before) None new goes = absurd goes
consumer_answered (reading [] before) None new goes = absurd goes
consumer_answered (consumers_over e) None new goes = absurd goes

abbrev ConsumersEnd : ConsumerPlace → Type 0
ConsumersEnd (reading [] before) = Unit {0}
ConsumersEnd (consumers_over e) = Unit {0}
ConsumersEnd m = ⊥

consumers_stay : (m new : ConsumerPlace) (answer : Option Answer) → ConsumersEnd m → ConsumerAfter m answer new → ⊥
consumers_stay (reading [] before) new answer ends goes = goes
consumers_stay (consumers_over e) new answer ends goes = goes
consumers_stay (reading (name ∷ names) before) new answer ends goes = ends
consumers_stay listing new answer ends goes = ends

abbrev NextAt : Option ℕ → ConsumerPlace → Type 0
NextAt next (reading [] read) = IsLeastNext read next
NextAt next m = ⊥

abbrev ConsumersOver : Refusal → ConsumerPlace → Type 0
ConsumersOver e (consumers_over d) = e ≡ d
ConsumersOver e m = ⊥

abbrev pub HasConsumers : Option ℕ → List Event → Type 0
HasConsumers next own = HasLed ConsumerGoes listing NextAt next own

abbrev pub EndsConsumers : Refusal → List Event → Type 0
EndsConsumers e own = HasLed ConsumerGoes listing ConsumersOver e own

pub consumers_part : IsPart HasConsumers EndsConsumers
consumers_part = lead_part ConsumerGoes listing NextAt ConsumersOver ConsumersEnd (record {
  are_one = λ m event one other is was. one_consumer_after m event.answer one other is was;
  stays = λ m new event ends goes. consumers_stay m new event.answer ends goes;
  answered = λ own m lead. all_answered ConsumerGoes (λ m event new goes. consumer_answered m event.answer new goes) own listing m lead;
  at_ends = ends_at;
  over_ends = ends_over;
  one_at = one;
  one_over = one_over;
  not_over = not_both;
})
  where
    ends_at : (next : Option ℕ) (m : ConsumerPlace) → NextAt next m → ConsumersEnd m
    ends_at next (reading [] read) at = tt
    ends_at next m at = absurd at

    ends_over : (e : Refusal) (m : ConsumerPlace) → ConsumersOver e m → ConsumersEnd m
    ends_over e (consumers_over d) over = tt
    ends_over e m over = absurd over

    one : (next other : Option ℕ) (m : ConsumerPlace) → NextAt next m → NextAt other m → next ≡ other
    one next other (reading [] read) at there = one_next read read next other (λ c has. (c, has, refl)) (λ c has. (c, has, refl)) at there
    one next other m at there = absurd at

    one_over : (e d : Refusal) (m : ConsumerPlace) → ConsumersOver e m → ConsumersOver d m → e ≡ d
    one_over e d (consumers_over other) is was = is ∙ sym was
    one_over e d m is was = absurd is

    not_both : (next : Option ℕ) (e : Refusal) (m : ConsumerPlace) → NextAt next m → ConsumersOver e m → ⊥
    not_both next e (consumers_over d) at over = at
    not_both next e (reading [] read) at over = over
    not_both next e (reading (name ∷ names) read) at over = at
    not_both next e listing at over = at

-- ---- the floors

abbrev pub ListsFloors : Unit {0} → Event → Type 0
ListsFloors u event = (names : Names) × (event.answer ≡ Some (answers.Listed names))

-- no snapshot was listed, and no call follows; or snapshots were read at once, and refused
pub data EndsFloors (ids : List ℕ) (made : Made) (own : List Event) : Type 0 where
  none_there : own ≡ [] → ids ≡ [] → made ≡ kept_of 0 0 → EndsFloors ids made own
  reads_first : (e : Refusal) → made ≡ refused e → HasLed LineGoes (lines ids []) LinesOver e own → EndsFloors ids made own

module _ (a : Asking) (ids : List ℕ) where
  abbrev lines_tail : IsTail (EndsTimes a ids)
  lines_tail = (times_part a ids None).tail

  start_not : (e : Refusal) (own : List Event) → own ≡ [] → EndsTimes a ids e own → ⊥
  start_not e own is (m, lead, over) = at ids (subst (λ (own : List Event). Leads LineGoes own (lines ids []) m) is lead)
    where
      at : (ids : List ℕ) → m ≡ lines ids [] → ⊥
      at ids same = subst (LinesOver e) same over

  floors_tail : IsTail (EndsFloors ids)
  floors_tail = record { one_made = one; answered = answer }
    where
      one : (made other : Made) (own : List Event) → EndsFloors ids made own → EndsFloors ids other own → made ≡ other
      one made other own (none_there none ids_none is) (none_there empty also was) = is ∙ sym was
      one made other own (none_there none ids_none is) (reads_first e was ends) = absurd (start_not e own none ends)
      one made other own (reads_first e is ends) (none_there none ids_none was) = absurd (start_not e own none ends)
      one made other own (reads_first e is ends) (reads_first d was also) = is ∙ ap refused (lines_tail.one_made e d own ends also) ∙ sym was

      answer : (made : Made) (own : List Event) → EndsFloors ids made own → AreAnswered own
      answer made own (none_there none ids_none is) = subst AreAnswered (sym none) tt
      answer made own (reads_first e is ends) = lines_tail.answered e own ends

  no_listing : (names : Names) (answer : Option Answer) (m new : LinePlace) → answer ≡ Some (answers.Listed names) → LineAfter m answer new → ⊥
  no_listing names answer (lines (id ∷ ids) before) new is goes =
      subst (λ (answer : Option Answer). LineAfter (lines (id ∷ ids) before) answer new) is goes
  no_listing names answer (lines [] before) new is goes = goes
  no_listing names answer (lines_over e) new is goes = goes

  none_begun : (event : Event) (more : List Event) → event ∷ more ≡ [] → ⊥
  none_begun event more is = cc

  floors_part : IsPart (HasEvent ListsFloors) (EndsFloors ids)
  floors_part = event_part ListsFloors (EndsFloors ids) (λ x y event at there. refl) (λ x event at. listed_answered at.0 event at.1) begun floors_tail
    where
      begun : (x : Unit {0}) (event : Event) (more : List Event) (made : Made) → ListsFloors x event → EndsFloors ids made (event ∷ more) → ⊥
      begun x event more made (names, at) (none_there none ids_none is) = none_begun event more none
      begun x event more made (names, at) (reads_first e is (m, (new, goes, lead), over)) = no_listing names event.answer (lines ids []) new at goes

-- ---- one after another

abbrev pub EndsSchemaAs : Made → List Event → Type 0
EndsSchemaAs made own = EndsAs EndsSchema refused made own

abbrev pub EndsConsumersAs : Made → List Event → Type 0
EndsConsumersAs made own = EndsAs EndsConsumers refused made own

-- the ids of the snapshots, with the schema before them
abbrev pub HasIdsFirst : List ℕ → List Event → Type 0
HasIdsFirst ids own = HasBoth HasSchema (λ (s : TableSchema). HasEvent ListsIds) ids own

abbrev pub EndsIdsFirst : Made → List Event → Type 0
EndsIdsFirst made own = EndsEither HasSchema EndsSchemaAs (λ (s : TableSchema). NoEnd) made own

pub ids_first_part : IsPart HasIdsFirst EndsIdsFirst
ids_first_part =
    then_part HasSchema EndsSchemaAs (λ (s : TableSchema). HasEvent ListsIds) (λ (s : TableSchema). NoEnd) (part_as HasSchema EndsSchema refused schema_part)
    (λ s. ids_part)

module _ (a : Asking) where
  -- from each of them on
  abbrev pub EndsTimesAs : List ℕ → Option ℕ → Made → List Event → Type 0
  EndsTimesAs ids next made own = EndsAs (EndsTimes a ids) refused made own

  abbrev pub HasFromConsumers : List ℕ → Bounds → List Event → Type 0
  HasFromConsumers ids v own = HasBoth HasConsumers (HasTimes a ids) v own

  abbrev pub EndsFromConsumers : List ℕ → Made → List Event → Type 0
  EndsFromConsumers ids made own = EndsEither HasConsumers EndsConsumersAs (EndsTimesAs ids) made own

  from_consumers : (ids : List ℕ) → IsPart (HasFromConsumers ids) (EndsFromConsumers ids)
  from_consumers ids =
      then_part HasConsumers EndsConsumersAs (HasTimes a ids) (EndsTimesAs ids) (part_as HasConsumers EndsConsumers refused consumers_part)
      (λ next. part_as (HasTimes a ids next) (EndsTimes a ids) refused (times_part a ids next))

  abbrev pub HasFromFloors : List ℕ → Bounds → List Event → Type 0
  HasFromFloors ids v own = HasBoth (HasEvent ListsFloors) (λ (u : Unit {0}). HasFromConsumers ids) v own

  abbrev pub EndsFromFloors : List ℕ → Made → List Event → Type 0
  EndsFromFloors ids made own = EndsEither (HasEvent ListsFloors) (EndsFloors ids) (λ (u : Unit {0}). EndsFromConsumers ids) made own

  from_floors : (ids : List ℕ) → IsPart (HasFromFloors ids) (EndsFromFloors ids)
  from_floors ids =
      then_part (HasEvent ListsFloors) (EndsFloors ids) (λ (u : Unit {0}). HasFromConsumers ids) (λ (u : Unit {0}). EndsFromConsumers ids) (floors_part a ids)
      (λ u. from_consumers ids)

  abbrev pub HasFromIds : Bounds → List Event → Type 0
  HasFromIds v own = HasBoth (HasEvent ListsIds) HasFromFloors v own

  abbrev pub EndsFromIds : Made → List Event → Type 0
  EndsFromIds made own = EndsEither (HasEvent ListsIds) NoEnd EndsFromFloors made own

  from_ids : IsPart HasFromIds EndsFromIds
  from_ids = then_part (HasEvent ListsIds) NoEnd HasFromFloors EndsFromFloors ids_part from_floors

  -- all that is read first
  abbrev pub HasFirst : Bounds → List Event → Type 0
  HasFirst v own = HasBoth HasSchema (λ (s : TableSchema). HasFromIds) v own

  abbrev pub EndsFirst : Made → List Event → Type 0
  EndsFirst made own = EndsEither HasSchema EndsSchemaAs (λ (s : TableSchema). EndsFromIds) made own

  pub first_part : IsPart HasFirst EndsFirst
  first_part =
      then_part HasSchema EndsSchemaAs (λ (s : TableSchema). HasFromIds) (λ (s : TableSchema). EndsFromIds) (part_as HasSchema EndsSchema refused schema_part)
      (λ s. from_ids)

-- ---- where calls have come

-- lines that were read, of the first of the ids
pub lines_lead : (read : List SnapshotLine) (reads : List Event) (ids : List ℕ) (before : List SnapshotLine) → AllZip IsLineOf read reads
    → Leads LineGoes reads (lines (ids_of read ++ ids) before) (lines ids (before ++ read))
lines_lead [] [] ids before all = ap (lines ids) (append-nil before)
lines_lead [] (event ∷ reads) ids before all = absurd all
lines_lead (l ∷ read) [] ids before all = absurd all
lines_lead (l ∷ read) (event ∷ reads) ids before ((bytes, s, is, line, at), all) =
    let m : LinePlace = lines (l.id ∷ (ids_of read ++ ids)) before in
    let new : LinePlace = lines (ids_of read ++ ids) (before ++ l ∷ []) in
    let leads : new ≡ line_leads l.id (ids_of read ++ ids) before (snapshot_in l.id bytes) =
    ap (λ (l : SnapshotLine). lines (ids_of read ++ ids) (before ++ l ∷ [])) line
    ∙ ap (line_leads l.id (ids_of read ++ ids) before) (sym is) in
    let whole : (before ++ l ∷ []) ++ read ≡ before ++ l ∷ read = append_assoc before (l ∷ []) read in (
      new,
      subst (λ (event : Event). LineGoes m event new) (sym at) leads,
      subst (λ (all : List SnapshotLine). Leads LineGoes reads new (lines ids all)) whole (lines_lead read reads ids (before ++ l ∷ []) all),
    )

-- consumers' files that were read, of the first of the names
pub reads_lead : (reads : List FileRead) (names : List (List ℕ)) (before : List NamedConsumer) → AreSaid reads
    → Leads ConsumerGoes (reads_of reads) (reading (names_of reads ++ names) before) (reading names (before ++ consumers_of reads))
reads_lead [] names before all = ap (reading names) (append-nil before)
reads_lead (r ∷ reads) names before (one, all) =
    let new : ConsumerPlace = reading (names_of reads ++ names) (before ++ named r.name r.said) in
    let whole = append_assoc before (named r.name r.said) (consumers_of reads) in (
      new,
      says r.said one refl,
      subst (λ (all : List NamedConsumer). Leads ConsumerGoes (reads_of reads) new (reading names all)) whole
          (reads_lead reads names (before ++ named r.name r.said) all),
    )

-- they were listed, and these files were read
pub listed_lead : (files : Names) (reads : List FileRead) (all names : List (List ℕ)) (own : List Event) → AreNames files.items all
    → all ≡ names_of reads ++ names → AreSaid reads → own ≡ listed_consumers files ∷ reads_of reads
    → Leads ConsumerGoes own listing (reading names (consumers_of reads))
listed_lead files reads all names own are parts said is =
    led ConsumerGoes own (listed_consumers files ∷ reads_of reads) listing (reading names (consumers_of reads)) is (
      reading (names_of reads ++ names) [],
      (all, are, ap (λ (names : List (List ℕ)). reading names []) (sym parts)),
      reads_lead reads names [] said,
    )

-- ---- what the calls of the lister of consumers show

pub consumers_led : (cs : List NamedConsumer) (next : Option ℕ) (own : List Event) → consumers.HasListed cs own → IsLeastNext cs next → HasConsumers next own
consumers_led cs next own (files, reads, are, said, texts, is) least = (
  reading [] (consumers_of reads),
  listed_lead files reads (names_of reads) [] own are (sym (append-nil (names_of reads))) said is,
  subst (λ (cs : List NamedConsumer). IsLeastNext cs next) texts least,
)

damaged_same : (path at : List ℕ) (place : ℕ) → path ≡ at → place ≡ 0 → refusals.Damaged path place ≡ refusals.Damaged at 0
damaged_same path at place is zero = ap (λ (path : List ℕ). refusals.Damaged path place) is ∙ ap (refusals.Damaged at) zero

pub consumers_shown : (e : Refusal) (own : List Event) → consumers.Shows e own → IsShown (λ (e : Refusal). e) EndsConsumers e own
consumers_shown refusals.Memory own shows = of_memory refl
consumers_shown (refusals.StoreFault path) own fails =
    of_failure (refusals.StoreFault path) refl (failed consumer_lister.next_call consumers.DidSoFar path own fails)
consumers_shown (refusals.Damaged path place) own (r, name, bytes, at, zero, bad, (earlier, (files, reads, are, names, said, texts, is), next, whole)) =
    let rest = split_at r.names r.read name next in
    let parts : r.names ≡ names_of reads ++ name ∷ rest.0 = rest.1 ∙ ap (λ (first : List (List ℕ)). first ++ name ∷ rest.0) (sym names) in
    let there = listed_lead files reads r.names (name ∷ rest.0) earlier are parts said is in
    let e : Refusal = refusals.Damaged (consumer_path name) 0 in
    let last : Leads ConsumerGoes own listing (consumers_over e) =
    led ConsumerGoes own (earlier ++ read_consumer name (Some bytes) ∷ []) listing (consumers_over e) whole
    (lead_step ConsumerGoes earlier listing (reading (name ∷ rest.0) (consumers_of reads)) (consumers_over e) (read_consumer name (Some bytes)) there
    (damaged bytes refl bad refl)) in
    of_end (consumers_over e, last, damaged_same path (consumer_path name) place at zero)
consumers_shown other own shows = absurd shows

-- ---- what the calls of the lister of snapshots show

-- the ids were listed
pub ids_led : (s : TableSchema) (ids : List ℕ) (names : Names) (own : List Event) → AreIds names.items ids → snapshots.Lists s names own
    → HasIdsFirst ids own
ids_led s ids names own are (first, has, at) = (
  s,
  first,
  listed_snapshots names ∷ [],
  (schema.ready s, schema.ready_lead s first has, refl),
  (listed_snapshots names, (names, are, refl), refl),
  at,
)

-- and then snapshots were read
pub data EndsLines (a : Asking) (e : Refusal) (own : List Event) : Type 0 where
  at_schema : EndsSchema e own → EndsLines a e own
  at_lines : (ids : List ℕ) (first rest : List Event) → HasIdsFirst ids first → EndsTimes a ids e rest → own ≡ first ++ rest → EndsLines a e own

-- the ids are those of the lines and those that are left
left_after : (r : ReadingView) (id : ℕ) → IsReading r → next_id r ≡ Some id → (rest : List ℕ) × (r.ids ≡ ids_of r.lines ++ id ∷ rest)
left_after r id is next =
    let rest = split_at r.ids (length r.lines) id next in
    (rest.0, rest.1 ∙ ap (λ (first : List ℕ). first ++ id ∷ rest.0) (sym is))

-- the next snapshot was found so, and that is refused
met : (a : Asking) (r : ReadingView) (id : ℕ) (found : Option (List ℕ)) (e : Refusal) (own : List Event) → snapshots.Meets r id found own
    → ((ids : List ℕ) → line_after id ids r.lines found ≡ lines_over e) → EndsLines a e own
met a r id found e own (earlier, (names, first, reads, are, is_reading, lists, zipped, at), next, whole) refuses =
    let left = left_after r id is_reading next in
    let begun : Leads LineGoes reads (lines r.ids []) (lines (id ∷ left.0) r.lines) =
    subst (λ (ids : List ℕ). Leads LineGoes reads (lines ids []) (lines (id ∷ left.0) r.lines)) (sym left.1)
    (lines_lead r.lines reads (id ∷ left.0) [] zipped) in
    let rest : List Event = reads ++ read_snapshot id found ∷ [] in
    let last : Leads LineGoes rest (lines r.ids []) (lines_over e) =
    lead_step LineGoes reads (lines r.ids []) (lines (id ∷ left.0) r.lines) (lines_over e) (read_snapshot id found) begun (sym (refuses left.0)) in
    at_lines r.ids first rest (ids_led r.schema r.ids names first are lists) (lines_over e, last, refl)
    (whole ∙ ap (λ (earlier : List Event). earlier ++ read_snapshot id found ∷ []) at ∙ append_assoc first reads (read_snapshot id found ∷ []))

over_at : (path at : List ℕ) (place : ℕ) → path ≡ at → place ≡ 0 → lines_over (refusals.Damaged at 0) ≡ lines_over (refusals.Damaged path place)
over_at path at place is zero = ap lines_over (sym (damaged_same path at place is zero))

by_schema : (a : Asking) (e : Refusal) (own : List Event) → schema.IsShown e own → IsShown (λ (e : Refusal). e) (EndsLines a) e own
by_schema a e own (schema.of_memory memory) = of_memory memory
by_schema a e own (schema.of_failure fails) = of_failure e refl fails
by_schema a e own (schema.of_place lead) = of_end (at_schema (schema.over e, lead, refl))

own_shown : (a : Asking) (e : Refusal) (own : List Event) → snapshots.ShowsOwn e own → IsShown (λ (e : Refusal). e) (EndsLines a) e own
own_shown a refusals.Memory own shows = of_memory refl
own_shown a (refusals.StoreFault path) own fails =
    of_failure (refusals.StoreFault path) refl (failed lister.next_call snapshots.DidSoFar path own fails)
own_shown a (refusals.Expired id) own (r, meets) = of_end (met a r id None (refusals.Expired id) own meets (λ ids. refl))
own_shown a (refusals.Damaged path place) own (r, id, bytes, at, zero, bad, meets) =
    of_end (met a r id (Some bytes) (refusals.Damaged path place) own meets
    (λ ids. ap (line_leads id ids r.lines) bad ∙ over_at path (snapshot_path id) place at zero))
own_shown a other own shows = absurd shows

pub snapshots_shown : (a : Asking) (e : Refusal) (own : List Event) → snapshots.Shows e own → IsShown (λ (e : Refusal). e) (EndsLines a) e own
snapshots_shown a e own (inl shows) = by_schema a e own (schema.is_shown e own shows)
snapshots_shown a e own (inr shows) = own_shown a e own shows

-- where the ids were listed before, what follows them is of lines that were read
pub lines_after : (a : Asking) (ids : List ℕ) (e : Refusal) (first rest : List Event) → HasIdsFirst ids first → EndsLines a e (first ++ rest)
    → EndsTimes a ids e rest
lines_after a ids e first rest has (at_schema ends) =
    absurd (ids_first_part.not_end ids (refused e) first rest (first ++ rest) refl has (inl (e, ends, refl)))
lines_after a ids e first rest has (at_lines others before later had ends is) =
    let same = ids_first_part.one_part others ids before first later rest (sym is) had has in
    subst (EndsTimes a ids e) same.2 (subst (λ (ids : List ℕ). EndsTimes a ids e later) same.0 ends)

-- and all that were read are
pub times_after : (a : Asking) (r : ReadingView) (next : Option ℕ) (v : Bounds) (first rest : List Event) → HasIdsFirst r.ids first
    → snapshots.HasRead r (first ++ rest) → next_id r ≡ None → FoundAt a next v (lines [] r.lines) → HasTimes a r.ids next v rest
times_after a r next v first rest has (names, before, reads, are, is_reading, lists, zipped, at) none found =
    let same = ids_first_part.one_part r.ids r.ids before first reads rest (sym at) (ids_led r.schema r.ids names before are lists) has in
    let all : r.ids ≡ ids_of r.lines ++ [] = sym (is_reading ∙ all_taken r.ids (length r.lines) none) ∙ sym (append-nil (ids_of r.lines)) in
    let lead : Leads LineGoes reads (lines r.ids []) (lines [] r.lines) =
    subst (λ (ids : List ℕ). Leads LineGoes reads (lines ids []) (lines [] r.lines)) (sym all) (lines_lead r.lines reads [] [] zipped) in
    (lines [] r.lines, subst (λ (own : List Event). Leads LineGoes own (lines r.ids []) (lines [] r.lines)) same.2 lead, found)
