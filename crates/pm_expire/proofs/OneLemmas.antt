-- The calls of an expiry show one answer, but that memory may run out: what was read first, the announcement, the views
-- and the removes are parts, and where each of them ends follows from the calls.
use Rattle.std.proofs.Common.{◌≡◌, ◌⊎◌, inl, inr, ℕ, suc, ◌-◌, ◌<◌, ◌≤◌, max, min, List, [], ◌∷◌, ◌++◌, length, Option, None, Some, Result, Ok, Err, refl, sym, ap, subst, ◌∙◌, append_assoc, append-nil, arith}
use Rattle.std.specs.List.{AllZip}
use Rattle.pm_values.specs.declared.refusal.Refusal.{Refusal}
use Rattle.pm_values.specs.declared.refusal.Refusal.TheVariants as refusals
use Rattle.pm_store.specs.declared.answer.Answer.TheVariants as answers
use Rattle.pm_store.specs.declared.answer.Made as floor
use Rattle.pm_store.specs.declared.call.Call.{Call}
use Rattle.pm_machine.specs.Step.{path_of}
use Rattle.pm_machine.specs.Trace.{Event, faulted}
use Rattle.pm_schema.specs.declared.schema.TableSchema.{TableSchema}
use Rattle.pm_remove.specs.Remover as remover
use Rattle.pm_remove.specs.Trace as removing
use Rattle.pm_remove.specs.Trace.{IsRemoval}
use Rattle.pm_expire_paths.specs.Dropping.{DroppingView}
use Rattle.pm_read_schema.specs.Trace as schema_reader
use Rattle.pm_read_schema.proofs.LeadLemmas.{IsAnswered, failed}
use Rattle.pm_read_table.proofs.OneLemmas.{OneLaws}
use Rattle.pm_read_whole.specs.Trace as whole
use Rattle.pm_snapshots.specs.Reading.{ReadingView, next_id}
use Rattle.pm_snapshots.specs.Trace as snapshots
use Rattle.pm_snapshots.specs.Trace.{IsLineOf}
use Rattle.pm_consumers.specs.Trace as consumers
use Rattle.pm_read_expiry.specs.Found.{IsFoundIn, IsNoneFound}
use Rattle.pm_read_expiry.specs.Reader.{floors_call}
use Rattle.pm_read_expiry.specs.Times.{times_of}
use Rattle.pm_read_expiry.specs.Trace as reading
use Rattle.pm_read_expiry.specs.Trace.{HasFloors, HasIds, HasLines, ShowsOfConsumers, ShowsOfFloors, all_read, listed_floors, none_listed}
use Rattle.pm_read_expiry.specs.declared.asking.Asking.{Asking}
use Rattle.pm_read_expiry.specs.declared.asking.Found.{Found}
use Rattle.pm_announce.specs.Announcer.{announce_call, end_after, tags_call}
use Rattle.pm_announce.specs.Tags.{first_tag, unbuilt_tag}
use Rattle.pm_announce.specs.Trace as announcing
use Rattle.pm_announce.specs.declared.phase.Announced.{Announced}
use Rattle.pm_expire_end.specs.Expiry.{first_id, last_id}
use Rattle.pm_expire.specs.AllCalls.{DidExpire}
use Rattle.pm_expire.specs.Trace.{asked_at, HasAll, HasAnnounced, HasExpired, HasFound, HasViews, Shows, ShowsOfRemover, ShowsOfView, kept_all, kept_all_then, removed}
use Rattle.pm_expire.specs.declared.all_calls.Kept.{Kept}
use Rattle.pm_expire.proofs.OneReadLemmas.{Bounds, EndsConsumers, EndsConsumersAs, EndsFirst, EndsFloors, EndsFromConsumers, EndsFromFloors, EndsFromIds, EndsLines, EndsSchemaAs, EndsTimesAs, FoundAt, HasConsumers, HasFirst, HasFromFloors, HasIdsFirst, HasSchema, HasTimes, ListsFloors, ListsIds, Made, at_lines, at_schema, bounds, consumers_led, consumers_part, consumers_shown, first_part, ids_first_part, ids_led, kept_of, lines, lines_after, listed_answered, none_there, reads_first, refused, same_listed, snapshots_shown, times_after}
use Rattle.pm_expire.proofs.OneViewLemmas as views
use Rattle.pm_expire.proofs.OneViewLemmas.{EndsViews, has_views, views_part, views_shown, whole_shown}
use Rattle.pm_expire.proofs.PartLemmas.{AreAnswered, EndsAs, EndsEither, EndsOn, HasEvent, HasOn, IsPart, IsShown, IsTail, NoEnd, event_part, failed_shown, fails_moved, no_tail, of_end, of_failure, of_memory, one_shown, part_as, part_on, shown_as, shown_first, shown_then, then_tail}

-- ---- what an expiry ends with

-- no snapshot is to go: it is done
abbrev StopsFirst : Bounds → Made → Type 0
StopsFirst v made = (v.end ≡ v.first) × (made ≡ kept_of v.end v.last)

abbrev GoesOn : Bounds → Type 0
GoesOn v = v.first < v.end

-- the end once the consumers were read again
abbrev end_of : Bounds → Option ℕ → ℕ
end_of v None = v.end
end_of v (Some next) = max v.first (min v.end next)

abbrev StopsThen : Bounds → Option ℕ → Made → Type 0
StopsThen v next made = (end_of v next ≡ v.first) × (made ≡ kept_of (end_of v next) v.last)

abbrev GoesThen : Bounds → Option ℕ → Type 0
GoesThen v next = v.first < end_of v next

-- the tags were listed, and this is the first, if there is one
abbrev ListsTags : Option (List ℕ) → Event → Type 0
ListsTags tag event = (files : schema_reader.Names) × (first_tag files.items ≡ tag) × (event.answer ≡ Some (answers.Listed files))

abbrev IsUntagged : Option (List ℕ) → Type 0
IsUntagged tag = tag ≡ None

abbrev StopsAtTag : Option (List ℕ) → Made → Type 0
StopsAtTag tag made = (name : List ℕ) × (tag ≡ Some name) × (made ≡ refused (unbuilt_tag name))

-- how many views are read
abbrev count_of : Bounds → Option ℕ → ℕ
count_of v next = suc (end_of v next) - v.first

-- the floor was made, or was there
abbrev Announces : Unit {0} → Event → Type 0
Announces u event = IsAnswered event

-- whatever was removed
abbrev EndsRemoved : Bounds → Option ℕ → Made → List Event → Type 0
EndsRemoved v next made own = (made ≡ kept_of (end_of v next) v.last) × AreAnswered own

abbrev EndsViewsAs : Bounds → Option ℕ → Made → List Event → Type 0
EndsViewsAs v next made own = EndsAs (EndsViews v.schema (count_of v next) v.first) refused made own

abbrev HasAllViews : Bounds → Option ℕ → Unit {0} → List Event → Type 0
HasAllViews v next u own = views.HasViews v.schema (count_of v next) v.first u own

abbrev EndsFromViews : Bounds → Option ℕ → Made → List Event → Type 0
EndsFromViews v next made own = EndsEither (HasAllViews v next) (EndsViewsAs v next) (λ (u : Unit {0}). EndsRemoved v next) made own

abbrev HasTags : Option (List ℕ) → List Event → Type 0
HasTags tag own = HasOn (HasEvent ListsTags) IsUntagged tag own

abbrev EndsTags : Made → List Event → Type 0
EndsTags made own = EndsOn (HasEvent ListsTags) NoEnd StopsAtTag made own

abbrev EndsFromTags : Bounds → Option ℕ → Made → List Event → Type 0
EndsFromTags v next made own = EndsEither HasTags EndsTags (λ (tag : Option (List ℕ)). EndsFromViews v next) made own

abbrev HasAgain : Bounds → Option ℕ → List Event → Type 0
HasAgain v next own = HasOn HasConsumers (GoesThen v) next own

abbrev EndsAgain : Bounds → Made → List Event → Type 0
EndsAgain v made own = EndsOn HasConsumers EndsConsumersAs (StopsThen v) made own

abbrev EndsFromAgain : Bounds → Made → List Event → Type 0
EndsFromAgain v made own = EndsEither (HasAgain v) (EndsAgain v) (EndsFromTags v) made own

abbrev EndsFromFloor : Bounds → Made → List Event → Type 0
EndsFromFloor v made own = EndsEither (HasEvent Announces) NoEnd (λ (u : Unit {0}). EndsFromAgain v) made own

module _ (a : Asking) where
  abbrev HasToGo : Bounds → List Event → Type 0
  HasToGo v own = HasOn (HasFirst a) GoesOn v own

  abbrev EndsToGo : Made → List Event → Type 0
  EndsToGo made own = EndsOn (HasFirst a) (EndsFirst a) StopsFirst made own

  abbrev EndsAll : Made → List Event → Type 0
  EndsAll made own = EndsEither HasToGo EndsToGo EndsFromFloor made own

not_less : (n m : ℕ) → n < m → m ≡ n → ⊥
not_less n m less same = omega (arith, less, same)

removed_tail : (v : Bounds) (next : Option ℕ) → IsTail (EndsRemoved v next)
removed_tail v next = record {
  one_made = λ made other own ends also. ends.0 ∙ sym also.0;
  answered = λ made own ends. ends.1;
}

tags_part : IsPart HasTags EndsTags
tags_part =
    part_on (HasEvent ListsTags) NoEnd StopsAtTag IsUntagged
    (event_part ListsTags NoEnd one answer (λ tag event more made at ends. ends) no_tail)
    (λ tag made other stops also. stops.2 ∙ ap (λ (name : List ℕ). refused (unbuilt_tag name)) (same_name stops.0 also.0 (sym stops.1 ∙ also.1)) ∙ sym also.2)
    (λ tag made none stops. let clash : None ≡ Some stops.0 = sym none ∙ stops.1 in cc)
  where
    same_name : (name other : List ℕ) → Some name ≡ Some other → name ≡ other
    same_name name other same = cc

    one : (tag other : Option (List ℕ)) (event : Event) → ListsTags tag event → ListsTags other event → tag ≡ other
    one tag other event (files, first, is) (others, also, was) = sym first ∙ ap first_tag (same_listed files others event is was) ∙ also

    answer : (tag : Option (List ℕ)) (event : Event) → ListsTags tag event → IsAnswered event
    answer tag event (files, first, is) = listed_answered files event is

module _ (laws : OneLaws) where
  from_views : (v : Bounds) (next : Option ℕ) → IsTail (EndsFromViews v next)
  from_views v next =
      then_tail (HasAllViews v next) (EndsViewsAs v next) (λ (u : Unit {0}). EndsRemoved v next)
      (part_as (HasAllViews v next) (EndsViews v.schema (count_of v next) v.first) refused (views_part laws v.schema (count_of v next) v.first))
      (λ u. removed_tail v next)

  from_tags : (v : Bounds) (next : Option ℕ) → IsTail (EndsFromTags v next)
  from_tags v next = then_tail HasTags EndsTags (λ (tag : Option (List ℕ)). EndsFromViews v next) tags_part (λ tag. from_views v next)

  again_part : (v : Bounds) → IsPart (HasAgain v) (EndsAgain v)
  again_part v =
      part_on HasConsumers EndsConsumersAs (StopsThen v) (GoesThen v) (part_as HasConsumers EndsConsumers refused consumers_part)
      (λ next made other stops also. stops.1 ∙ sym also.1) (λ next made goes stops. not_less v.first (end_of v next) goes stops.0)

  from_again : (v : Bounds) → IsTail (EndsFromAgain v)
  from_again v = then_tail (HasAgain v) (EndsAgain v) (EndsFromTags v) (again_part v) (from_tags v)

  from_floor : (v : Bounds) → IsTail (EndsFromFloor v)
  from_floor v =
      then_tail (HasEvent Announces) NoEnd (λ (u : Unit {0}). EndsFromAgain v)
      (event_part Announces NoEnd (λ x y event at there. refl) (λ x event at. at) (λ x event more made at ends. ends) no_tail) (λ u. from_again v)

  all_tail : (a : Asking) → IsTail (EndsAll a)
  all_tail a =
      then_tail (HasToGo a) (EndsToGo a) EndsFromFloor
      (part_on (HasFirst a) (EndsFirst a) StopsFirst GoesOn (first_part a) (λ v made other stops also. stops.1 ∙ sym also.1)
      (λ v made goes stops. not_less v.first v.end goes stops.0))
      from_floor

abbrev Shown : (Made → List Event → Type 0) → Made → List Event → Type 0
Shown Ends made own = IsShown refused Ends made own

-- ---- what is read first

-- the bounds of what was found
abbrev bounds_of : Found → Bounds
bounds_of x = bounds x.schema x.first x.last x.end

end_same : (x : Found) (next : Option ℕ) → end_after x next ≡ end_of (bounds_of x) next
end_same x None = refl
end_same x (Some next) = refl

-- no line was read yet
none_zipped : (reads : List Event) → AllZip IsLineOf [] reads → reads ≡ []
none_zipped [] all = refl
none_zipped (event ∷ reads) all = absurd all

module _ (a : Asking) where
  ids_of_first : (ids : List ℕ) (own : List Event) → HasIds a ids own → HasIdsFirst ids own
  ids_of_first ids own (names, earlier, none, are, is_reading, listed, zipped, at) =
      subst (HasIdsFirst ids) (sym (at ∙ ap (λ (none : List Event). earlier ++ none) (none_zipped none zipped) ∙ append-nil earlier))
      (ids_led a.schema ids names earlier are listed)

  -- what follows the ids shows this, so all does
  ids_then : (ids : List ℕ) (made : Made) (first rest own : List Event) → HasIdsFirst ids first → own ≡ first ++ rest → Shown (EndsFromFloors a ids) made rest
      → Shown (EndsFirst a) made own
  ids_then ids made first rest own (s, schema_reads, listed, has, has_ids, at) is shows =
      shown_then refused HasSchema EndsSchemaAs (λ (s : TableSchema). EndsFromIds a) s schema_reads (listed ++ rest) own made has
      (is ∙ ap (λ (first : List Event). first ++ rest) at ∙ append_assoc schema_reads listed rest)
      (shown_then refused (HasEvent ListsIds) NoEnd (EndsFromFloors a) ids listed rest (listed ++ rest) made has_ids refl shows)

  ids_has : (ids : List ℕ) (v : Bounds) (first rest own : List Event) → HasIdsFirst ids first → own ≡ first ++ rest → HasFromFloors a ids v rest
      → HasFirst a v own
  ids_has ids v first rest own (s, schema_reads, listed, has, has_ids, at) is then = (
    s,
    schema_reads,
    listed ++ rest,
    has,
    (ids, listed, rest, has_ids, then, refl),
    is ∙ ap (λ (first : List Event). first ++ rest) at ∙ append_assoc schema_reads listed rest,
  )

  lists_floors : (names : schema_reader.Names) → HasEvent ListsFloors tt (listed_floors names ∷ [])
  lists_floors names = (listed_floors names, (names, refl), refl)

  floors_whole : (ids : List ℕ) (floors : List (List ℕ)) (P : List Event → Type 0) (before more own : List Event) (f : HasFloors a ids floors P before)
      → own ≡ before ++ more → own ≡ f.first ++ (listed_floors f.names ∷ (f.rest ++ more))
  floors_whole ids floors P before more own f is =
      is ∙ ap (λ (before : List Event). before ++ more) f.is ∙ append_assoc f.first (listed_floors f.names ∷ f.rest) more

  -- what follows the floors shows this
  floors_then : (ids : List ℕ) (floors : List (List ℕ)) (P : List Event → Type 0) (made : Made) (before more own : List Event)
      (f : HasFloors a ids floors P before) → own ≡ before ++ more → Shown (EndsFromConsumers a ids) made (f.rest ++ more) → Shown (EndsFirst a) made own
  floors_then ids floors P made before more own f is shows =
      ids_then ids made f.first (listed_floors f.names ∷ (f.rest ++ more)) own (ids_of_first ids f.first f.listed)
      (floors_whole ids floors P before more own f is)
      (shown_then refused (HasEvent ListsFloors) (EndsFloors ids) (λ (u : Unit {0}). EndsFromConsumers a ids) tt (listed_floors f.names ∷ []) (f.rest ++ more)
      (listed_floors f.names ∷ (f.rest ++ more)) made (lists_floors f.names) refl shows)

  -- ---- what was found

  found_times : (x : Found) (floors : List (List ℕ)) (next : Option ℕ) (r : ReadingView) → IsFoundIn a (times_of r.lines) next floors x
      → FoundAt a next (bounds_of x) (lines [] r.lines)
  found_times x floors next r found =
      let c = found.chain in (
        c,
        found.is_chain,
        ap (λ (s : TableSchema). bounds s x.first x.last x.end) found.schema
            ∙ ap (λ (first : ℕ). bounds a.schema first x.last x.end) found.first
            ∙ ap (λ (last : ℕ). bounds a.schema (first_id c) last x.end) found.last
            ∙ ap (bounds a.schema (first_id c) (last_id c)) found.end,
      )

  read_first : (x : Found) (floors : List (List ℕ)) (next : Option ℕ) (r : ReadingView) (own : List Event) → HasLines a floors next r own → next_id r ≡ None
      → IsFoundIn a (times_of r.lines) next floors x → HasFirst a (bounds_of x) own
  read_first x floors next r own found_lines done found =
      let times = found_lines.read in
      let f = times.listed in
      let consumed = f.then_consumers in
      let read : HasTimes a r.ids next (bounds_of x) times.reads =
      times_after a r next (bounds_of x) f.first times.reads (ids_of_first r.ids f.first f.listed) times.then_reads done (found_times x floors next r found) in
      ids_has r.ids (bounds_of x) f.first (listed_floors f.names ∷ (f.rest ++ times.reads)) own (ids_of_first r.ids f.first f.listed)
      (floors_whole r.ids floors (reading.HasConsumers next) times.before times.reads own f times.is) (
        tt,
        listed_floors f.names ∷ [],
        f.rest ++ times.reads,
        lists_floors f.names,
        (next, f.rest, times.reads, consumers_led consumed.0 next f.rest consumed.1 consumed.2, read, refl),
        refl,
      )

  has_first : (x : Found) (own : List Event) → reading.HasFound a x own → 1 ≤ x.first → HasFirst a (bounds_of x) own
  has_first x own (none_listed none has) least = absurd (let zero = none.first in omega (arith, zero, least))
  has_first x own (all_read floors next r found_lines done found) least = read_first x floors next r own found_lines done found

  -- what ends there ends all
  first_then : (made : Made) (own : List Event) → Shown (EndsFirst a) made own → Shown (EndsAll a) made own
  first_then made own (of_memory memory) = of_memory memory
  first_then made own (of_failure e is fails) = of_failure e is fails
  first_then made own (of_end ends) = of_end (inl (inl ends))

  -- none is there: then the calls end at the ids
  none_found : (x : Found) (own : List Event) (made : Made) → IsNoneFound a x → HasIds a [] own → made ≡ kept_of x.end x.last → Shown (EndsFirst a) made own
  none_found x own made none has is =
      ids_then [] made own [] own (ids_of_first [] own has) (sym (append-nil own))
      (of_end (inl (none_there refl refl (is ∙ ap (λ (end : ℕ). kept_of end x.last) none.end ∙ ap (kept_of 0) none.last))))

  -- no snapshot is to go
  found_stops : (x : Found) (own : List Event) (made : Made) → reading.HasFound a x own → x.end ≡ x.first → made ≡ kept_of x.end x.last
      → Shown (EndsAll a) made own
  found_stops x own made (none_listed none has) same is = first_then made own (none_found x own made none has is)
  found_stops x own made (all_read floors next r found_lines done found) same is =
      of_end (inl (inr (bounds_of x, read_first x floors next r own found_lines done found, (same, is))))

  -- ---- what its calls show

  floors_shown : (e : Refusal) (own : List Event) → ShowsOfFloors a e own → Shown (EndsFirst a) (refused e) own
  floors_shown refusals.Memory own shows = of_memory refl
  floors_shown (refusals.StoreFault path) own (ids, earlier, has, at, is) =
      of_failure (refusals.StoreFault path) refl (earlier, floors_call, ap (λ (path : List ℕ). refusals.StoreFault path) at, is)
  floors_shown other own shows = absurd shows

  again_shown : (e : Refusal) (own : List Event) → consumers.Shows e own → Shown EndsConsumersAs (refused e) own
  again_shown e own shows = shown_as refused EndsConsumers e own (consumers_shown e own shows)

  by_consumers : (e : Refusal) (own : List Event) → ShowsOfConsumers a e own → Shown (EndsFirst a) (refused e) own
  by_consumers e own (ids, floors, f) =
      let shows : Shown EndsConsumersAs (refused e) (f.rest ++ []) =
      subst (Shown EndsConsumersAs (refused e)) (sym (append-nil f.rest)) (again_shown e f.rest f.then_consumers) in
      floors_then ids floors (consumers.Shows e) (refused e) own [] own f (sym (append-nil own))
      (shown_first refused HasConsumers EndsConsumersAs (EndsTimesAs a ids) (refused e) (f.rest ++ []) shows)

  by_lines : (ids : List ℕ) (floors : List (List ℕ)) (next : Option ℕ) (e : Refusal) (own : List Event)
      (t : reading.HasTimes a ids floors next (snapshots.Shows e) own) → IsShown (λ (e : Refusal). e) (EndsLines a) e (t.listed.first ++ t.reads) → Shown (EndsFirst a) (refused e) own
  by_lines ids floors next e own t (of_memory memory) = of_memory (ap refused memory)
  by_lines ids floors next e own t (of_failure d is fails) =
      let answered = ids_first_part.has_answered ids t.listed.first (ids_of_first ids t.listed.first t.listed.listed) in
      of_failure d (ap refused is) (fails_moved d t.listed.first t.before t.reads own t.is answered fails)
  by_lines ids floors next e own t (of_end ends) =
      let f = t.listed in
      let consumed = f.then_consumers in
      let last = lines_after a ids e f.first t.reads (ids_of_first ids f.first f.listed) ends in
      floors_then ids floors (reading.HasConsumers next) (refused e) t.before t.reads own f t.is
      (shown_then refused HasConsumers EndsConsumersAs (EndsTimesAs a ids) next f.rest t.reads (f.rest ++ t.reads) (refused e)
      (consumers_led consumed.0 next f.rest consumed.1 consumed.2) refl (of_end (e, last, refl)))

  at_once : (e : Refusal) (own : List Event) → IsShown (λ (e : Refusal). e) (EndsLines a) e own → Shown (EndsFirst a) (refused e) own
  at_once e own (of_memory memory) = of_memory (ap refused memory)
  at_once e own (of_failure d is fails) = of_failure d (ap refused is) fails
  at_once e own (of_end (at_schema ends)) = of_end (inl (e, ends, refl))
  at_once e own (of_end (at_lines ids first rest has ends is)) =
      ids_then ids (refused e) first rest own has is (of_end (inl (reads_first e refl ends)))

  read_shown : (e : Refusal) (own : List Event) → reading.Shows a e own → Shown (EndsFirst a) (refused e) own
  read_shown e own (inl shows) = at_once e own (snapshots_shown a e own shows)
  read_shown e own (inr (inl shows)) = floors_shown e own shows
  read_shown e own (inr (inr (inl shows))) = by_consumers e own shows
  read_shown e own (inr (inr (inr (ids, floors, next, t)))) =
      by_lines ids floors next e own t (snapshots_shown a e (t.listed.first ++ t.reads) t.then_reads)

  -- what it needs was read, and a snapshot is to go
  found_then : (x : Found) (P : List Event → Type 0) (made : Made) (own : List Event) → HasFound a x P own
      → ((rest : List Event) → P rest → Shown (EndsFromFloor (bounds_of x)) made rest) → Shown (EndsAll a) made own
  found_then x P made own h then =
      shown_then refused (HasToGo a) (EndsToGo a) EndsFromFloor (bounds_of x) h.reads h.rest own made
      (has_first x h.reads h.found h.to_announce.some, h.to_announce.first) h.is (then h.rest h.then_rest)

-- ---- the announcement

-- the floor was made, or was there
floor_then : (v : Bounds) (x : Found) (answer : floor.Made) (made : Made) (rest own : List Event) → own ≡ announcing.announces x answer ∷ rest
    → Shown (EndsFromAgain v) made rest → Shown (EndsFromFloor v) made own
floor_then v x answer made rest own is shows =
    shown_then refused (HasEvent Announces) NoEnd (λ (u : Unit {0}). EndsFromAgain v) tt (announcing.announces x answer ∷ []) rest own made
    (announcing.announces x answer, refl, refl) is shows

again_on : (v : Bounds) (made : Made) (own : List Event) → Shown EndsConsumersAs made own → Shown (EndsFromAgain v) made own
again_on v made own (of_memory memory) = of_memory memory
again_on v made own (of_failure e is fails) = of_failure e is fails
again_on v made own (of_end ends) = of_end (inl (inl ends))

floor_shown : (x : Found) (e : Refusal) (own : List Event) → announcing.ShowsOfFloor x e own → Shown (EndsFromFloor (bounds_of x)) (refused e) own
floor_shown x refusals.Memory own shows = of_memory refl
floor_shown x (refusals.StoreFault path) own (at, is) =
    of_failure (refusals.StoreFault path) refl ([], announce_call x, ap (λ (path : List ℕ). refusals.StoreFault path) at, is)
floor_shown x other own shows = absurd shows

-- the consumers were read again, a snapshot is to go still, and then the tags were listed
tags_then : (x : Found) (end : ℕ) (tag : Option (List ℕ)) (made : Made) (rest own : List Event) (l : announcing.HasListed x end tag own)
    → ((next : Option ℕ) → end ≡ end_of (bounds_of x) next → Shown (EndsFromTags (bounds_of x) next) made (announcing.listed_tags l.files ∷ rest))
    → Shown (EndsFromFloor (bounds_of x)) made (own ++ rest)
tags_then x end tag made rest own l then = by l.to_list.1
  where
    by : announcing.HasRead x end l.earlier → Shown (EndsFromFloor (bounds_of x)) made (own ++ rest)
    by (cs, next, least, is, f) =
        let v : Bounds = bounds_of x in
        let same : end ≡ end_of v next = is ∙ end_same x next in
        let last : List Event = announcing.listed_tags l.files ∷ rest in
        floor_then v x f.answer made (f.rest ++ last) (own ++ rest)
        (ap (λ (own : List Event). own ++ rest) l.is ∙ append_assoc l.earlier (announcing.listed_tags l.files ∷ []) rest
        ∙ ap (λ (earlier : List Event). earlier ++ last) f.is)
        (shown_then refused (HasAgain v) (EndsAgain v) (EndsFromTags v) next f.rest last (f.rest ++ last) made
        (consumers_led cs next f.rest f.then_consumers least, subst (λ (end : ℕ). x.first < end) same l.to_list.0) refl (then next same))

-- a tag is there
tag_shown : (x : Found) (end : ℕ) (name : List ℕ) (made : Made) (own : List Event) → made ≡ refused (unbuilt_tag name)
    → announcing.HasListed x end (Some name) own → Shown (EndsFromFloor (bounds_of x)) made own
tag_shown x end name made own is l =
    subst (Shown (EndsFromFloor (bounds_of x)) made) (append-nil own)
    (tags_then x end (Some name) made [] own l
    (λ next same. of_end (inl (inr (Some name, (announcing.listed_tags l.files, (l.files, l.first, refl), refl), (name, refl, is))))))

tags_shown : (x : Found) (e : Refusal) (own : List Event) → announcing.ShowsOfTags x e own → Shown (EndsFromFloor (bounds_of x)) (refused e) own
tags_shown x refusals.Memory own shows = of_memory refl
tags_shown x (refusals.StoreFault path) own (end, earlier, to_list, at, is) =
    of_failure (refusals.StoreFault path) refl (earlier, tags_call, ap (λ (path : List ℕ). refusals.StoreFault path) at, is)
tags_shown x (refusals.Unsupported what text) own (what_is, (end, l)) =
    tag_shown x end text (refused (refusals.Unsupported what text)) own (ap (λ (what : List ℕ). refused (refusals.Unsupported what text)) what_is) l
tags_shown x other own shows = absurd shows

announcer_shown : (x : Found) (e : Refusal) (own : List Event) → announcing.Shows x e own → Shown (EndsFromFloor (bounds_of x)) (refused e) own
announcer_shown x e own (inl shows) = floor_shown x e own shows
announcer_shown x e own (inr (inr shows)) = tags_shown x e own shows
announcer_shown x e own (inr (inl f)) =
    floor_then (bounds_of x) x f.answer (refused e) f.rest own f.is
    (again_on (bounds_of x) (refused e) f.rest (shown_as refused EndsConsumers e f.rest (consumers_shown e f.rest f.then_consumers)))

-- the consumers were read again, and no snapshot is to go any more
again_stops : (n : Announced) (made : Made) (own : List Event) → announcing.HasRead n.found n.end own → n.end ≡ n.found.first
    → made ≡ kept_of n.end n.found.last → Shown (EndsFromFloor (bounds_of n.found)) made own
again_stops n made own (cs, next, least, end, f) none is =
    let v : Bounds = bounds_of n.found in
    let same : n.end ≡ end_of v next = end ∙ end_same n.found next in
    floor_then v n.found f.answer made f.rest own f.is
    (of_end (inl (inr (next, consumers_led cs next f.rest f.then_consumers least, (sym same ∙ none, is ∙ ap (λ (end : ℕ). kept_of end v.last) same)))))

-- or some are
announced_then : (n : Announced) (P : List Event → Type 0) (made : Made) (own : List Event) → HasAnnounced n P own
    → ((next : Option ℕ) → n.end ≡ end_of (bounds_of n.found) next → (rest : List Event) → P rest → Shown (EndsFromViews (bounds_of n.found) next) made rest)
    → Shown (EndsFromFloor (bounds_of n.found)) made own
announced_then n P made own h then =
    subst (Shown (EndsFromFloor (bounds_of n.found)) made) (sym h.is)
    (tags_then n.found n.end None made h.rest h.announces h.listed (λ next same.
    shown_then refused HasTags EndsTags (λ (tag : Option (List ℕ)). EndsFromViews (bounds_of n.found) next) None (announcing.listed_tags h.listed.files ∷ []) h.rest
    (announcing.listed_tags h.listed.files ∷ h.rest) made
    ((announcing.listed_tags h.listed.files, (h.listed.files, h.listed.first, refl), refl), refl) refl (then next same h.rest h.then_rest)))

-- ---- the removes

removed_answered : (paths : List (List ℕ)) (own : List Event) → AllZip IsRemoval paths own → AreAnswered own
removed_answered [] [] all = tt
removed_answered [] (event ∷ own) all = absurd all
removed_answered (path ∷ paths) [] all = absurd all
removed_answered (path ∷ paths) (event ∷ own) ((answer, is), all) = (subst IsAnswered (sym is) refl, removed_answered paths own all)

remover_shown : (v : Bounds) (next : Option ℕ) (paths : List (List ℕ)) (e : Refusal) (own : List Event) → removing.Shows paths e own
    → Shown (EndsRemoved v next) (refused e) own
remover_shown v next paths refusals.Memory own shows = of_memory refl
remover_shown v next paths (refusals.StoreFault path) own fails =
    of_failure (refusals.StoreFault path) refl (failed remover.next_call (removing.DidSoFar paths) path own fails)
remover_shown v next paths other own shows = absurd shows

-- ---- all of them

module _ (laws : OneLaws) (a : Asking) where
  view_shown : (n : Announced) (id : ℕ) (d : DroppingView) (next : Option ℕ) (e : Refusal) (own : List Event) → n.end ≡ end_of (bounds_of n.found) next
      → id ≤ n.end → HasViews n id d (whole.Shows (asked_at n id) e) own → Shown (EndsFromViews (bounds_of n.found) next) (refused e) own
  view_shown n id d next e own same within h =
      let v : Bounds = bounds_of n.found in
      let count = h.count in
      let fewer : length h.read < count_of (bounds_of n.found) next = omega (arith, count, within, same) in
      let shows : IsShown (λ (e : Refusal). e) (EndsViews n.found.schema (count_of (bounds_of n.found) next) n.found.first) e own =
      views_shown laws n (count_of (bounds_of n.found) next) h.read n.found.first id h.none d e h.views h.rest own fewer count h.viewed
      (whole_shown laws (asked_at n id) e h.rest h.then_rest) h.is in
      shown_first refused (HasAllViews (bounds_of n.found) next) (EndsViewsAs (bounds_of n.found) next) (λ (u : Unit {0}). EndsRemoved (bounds_of n.found) next)
      (refused e) own (shown_as refused (EndsViews n.found.schema (count_of (bounds_of n.found) next) n.found.first) e own shows)

  -- all views were read
  all_then : (n : Announced) (P : List (List ℕ) → List Event → Type 0) (next : Option ℕ) (made : Made) (own : List Event)
      → n.end ≡ end_of (bounds_of n.found) next → HasAll n P own → ((paths : List (List ℕ)) (rest : List Event) → P paths rest → Shown (EndsRemoved (bounds_of n.found) next) made rest)
      → Shown (EndsFromViews (bounds_of n.found) next) made own
  all_then n P next made own same (d, paths, removals, h) then =
      let count = h.count in
      let all : length h.read ≡ count_of (bounds_of n.found) next = omega (arith, count, same) in
      let has : HasAllViews (bounds_of n.found) next tt h.views =
      subst (λ (count : ℕ). views.HasViews n.found.schema count n.found.first tt h.views) all
      (has_views laws n h.read n.found.first h.none d h.views h.viewed) in
      shown_then refused (HasAllViews (bounds_of n.found) next) (EndsViewsAs (bounds_of n.found) next) (λ (u : Unit {0}). EndsRemoved (bounds_of n.found) next)
      tt h.views h.rest own made has h.is (then paths h.rest h.then_rest)

  expired : (kept : Kept) (own : List Event) → HasExpired a kept.first kept.last own → Shown (EndsAll a) (Ok kept) own
  expired kept own (kept_all x same first last found) =
      found_stops a x own (Ok kept) found same (ap (λ (first : ℕ). kept_of first kept.last) first ∙ ap (kept_of x.end) last)
  expired kept own (kept_all_then n none first last h) =
      found_then a n.found (announcing.HasRead n.found n.end) (Ok kept) own h
      (λ rest read. again_stops n (Ok kept) rest read none (ap (λ (first : ℕ). kept_of first kept.last) first ∙ ap (kept_of n.end) last))
  expired kept own (removed n first last h) =
      found_then a n.found (HasAnnounced n (HasAll n Removed)) (Ok kept) own h (λ rest announced.
      announced_then n (HasAll n Removed) (Ok kept) rest announced (λ next same later all.
      all_then n Removed next (Ok kept) later same all (λ paths last_calls done. of_end (is next same, removed_answered paths last_calls done))))
    where
      Removed : List (List ℕ) → List Event → Type 0
      Removed paths rest = removing.HasRemoved rest paths

      is : (next : Option ℕ) → n.end ≡ end_of (bounds_of n.found) next → Ok kept ≡ kept_of (end_of (bounds_of n.found) next) n.found.last
      is next same = ap (λ (first : ℕ). kept_of first kept.last) (first ∙ same) ∙ ap (kept_of (end_of (bounds_of n.found) next)) last

  by_view : (e : Refusal) (own : List Event) → ShowsOfView a e own → Shown (EndsAll a) (refused e) own
  by_view e own (v, within, h) =
      let n = v.announced in
      found_then a n.found (HasAnnounced n (HasViews n v.id v.dropping (whole.Shows (asked_at n v.id) e))) (refused e) own h (λ rest announced.
      announced_then n (HasViews n v.id v.dropping (whole.Shows (asked_at n v.id) e)) (refused e) rest announced
      (λ next same later viewed. view_shown n v.id v.dropping next e later same within viewed))

  by_remover : (e : Refusal) (own : List Event) → ShowsOfRemover a e own → Shown (EndsAll a) (refused e) own
  by_remover e own (n, h) =
      found_then a n.found (HasAnnounced n (HasAll n (λ paths. removing.Shows paths e))) (refused e) own h (λ rest announced.
      announced_then n (HasAll n (λ paths. removing.Shows paths e)) (refused e) rest announced (λ next same later all.
      all_then n (λ paths. removing.Shows paths e) next (refused e) later same all
      (λ paths last_calls shows. remover_shown (bounds_of n.found) next paths e last_calls shows)))

  shown : (e : Refusal) (own : List Event) → Shows a e own → Shown (EndsAll a) (refused e) own
  shown e own (inl shows) = first_then a (refused e) own (read_shown a e own shows)
  shown e own (inr (inl (x, h))) = found_then a x (announcing.Shows x e) (refused e) own h (λ rest shows. announcer_shown x e rest shows)
  shown e own (inr (inr (inl shows))) = by_view e own shows
  shown e own (inr (inr (inr (inl shows)))) = by_remover e own shows
  shown e own (inr (inr (inr (inr (memory, ends))))) = of_memory (ap refused memory)

  is_shown : (made : Made) (own : List Event) → DidExpire a made own → Shown (EndsAll a) made own
  is_shown (Ok kept) own did = expired kept own did
  is_shown (Err e) own did = shown e own did.1

pub one_answer : OneLaws → (a : Asking) (one other : Result Kept Refusal) (own : List Event) → DidExpire a one own → DidExpire a other own
    → (one ≡ other) ⊎ ((one ≡ Err refusals.Memory) ⊎ (other ≡ Err refusals.Memory))
one_answer laws a one other own did does =
    one_shown refused (EndsAll a) (all_tail laws a) own one other (is_shown laws a one own did) (is_shown laws a other own does)

pub failed_answer : OneLaws → (a : Asking) (earlier : List Event) (call : Call) (made : Result Kept Refusal) → DidExpire a made (earlier ++ faulted call ∷ [])
    → (made ≡ Err refusals.Memory) ⊎ (made ≡ Err (refusals.StoreFault (path_of call)))
failed_answer laws a earlier call made did =
    failed_shown refused (EndsAll a) (all_tail laws a) (earlier ++ faulted call ∷ []) made (refusals.StoreFault (path_of call)) (earlier, call, refl, refl)
    (is_shown laws a made (earlier ++ faulted call ∷ []) did)
