-- An expirer's own calls, and what they show.
use Rattle.std.proofs.Common.{◌<◌, ◌≡◌, inl, inr, ℕ, ◌+◌, ◌≤◌, List, [], ◌∷◌, ◌++◌, length, Option, None, Some, IsSome, IfSome, refl, sym, ap, ◌∙◌, subst, arith, append_assoc}
use Rattle.std.proofs.lemmas.List.{append-nil, length_push}
use Rattle.std.proofs.lemmas.Option.{IfSome_then}
use Rattle.pm_values.specs.declared.refusal.Refusal.{Refusal}
use Rattle.pm_values.specs.declared.refusal.Refusal.TheVariants as refusals
use Rattle.pm_store.specs.declared.answer.Answer.{Answer}
use Rattle.pm_store.specs.Answers.{MayAnswer}
use Rattle.pm_store.specs.declared.call.Call.{Call}
use Rattle.pm_machine.specs.Running.{Refuses, Stops}
use Rattle.pm_machine.specs.Step.{path_of}
use Rattle.pm_machine.specs.Trace.{Event, Recounts, answered, faulted}
use Rattle.pm_remove.specs.Remover as removing
use Rattle.pm_remove.specs.Trace as removing_trace
use Rattle.pm_remove.specs.declared.phase.Phase as remove_phase
use Rattle.pm_remove.specs.declared.phase.Phase.TheVariants as removers
use Rattle.pm_remove.proofs.Facts as removing_facts
use Rattle.pm_expire_paths.specs.Dropping.{Adds, DroppingView}
use Rattle.pm_read_table.proofs.Facts.{Joined}
use Rattle.pm_read_whole.specs.Trace as whole_trace
use Rattle.pm_read_whole.specs.Whole as whole
use Rattle.pm_read_whole.specs.declared.phase.Phase as whole_phase
use Rattle.pm_read_whole.specs.declared.phase.Phase.TheVariants as wholes
use Rattle.pm_read_whole.proofs.Facts as whole_facts
use Rattle.pm_read_expiry.specs.Reader as reading
use Rattle.pm_read_expiry.specs.Trace as reading_trace
use Rattle.pm_read_expiry.specs.declared.asking.Asking.{Asking}
use Rattle.pm_read_expiry.specs.declared.asking.Found.{Found}
use Rattle.pm_read_expiry.specs.declared.phase.Phase as read_phase
use Rattle.pm_read_expiry.specs.declared.phase.Phase.TheVariants as readers
use Rattle.pm_read_expiry.proofs.Facts as reading_facts
use Rattle.pm_announce.specs.Announcer as announcing
use Rattle.pm_announce.specs.Trace as announcing_trace
use Rattle.pm_announce.specs.declared.phase.Announced.{Announced}
use Rattle.pm_announce.specs.declared.phase.Phase as announce_phase
use Rattle.pm_announce.specs.declared.phase.Phase.TheVariants as announcers
use Rattle.pm_announce.proofs.Facts as announcing_facts
use Rattle.pm_expire.specs.Expirer.{next_call, view_at, AfterAdding, AfterAnnounce, AfterRead, AfterRemove, AfterView, Goes, Shown}
use Rattle.pm_expire.specs.Expirer.{announces_on, none_goes, none_goes_then, reads_on, removed_all, removes_on, some_goes, view_read, views_all, views_first, views_next, views_on}
use Rattle.pm_expire.specs.Trace.{asked_at, Did, EndsBetween, HasAll, HasAnnounced, HasExpired, HasFound, HasViews, HaveViews, Shows}
use Rattle.pm_expire.specs.Trace.{announced_then, kept_all, kept_all_then, removed, viewed_then}
use Rattle.pm_expire.specs.declared.phase.Phase.{Phase}
use Rattle.pm_expire.specs.declared.phase.Phase.TheVariants as phases
use Rattle.pm_expire.specs.declared.phase.Views.{Views}

-- ---- a call more

found_with : (a : Asking) (x : Found) (P Q : List Event → Type 0) (own : List Event) (event : Event) → HasFound a x P own
    → ((rest : List Event) → P rest → Q (rest ++ event ∷ [])) → HasFound a x Q (own ++ event ∷ [])
found_with a x P Q own event has grows = record {
  to_announce = has.to_announce;
  reads = has.reads;
  rest = has.rest ++ event ∷ [];
  found = has.found;
  then_rest = grows has.rest has.then_rest;
  is = ap (λ (own : List Event). own ++ event ∷ []) has.is ∙ append_assoc has.reads has.rest (event ∷ []);
}

found_so : (a : Asking) (x : Found) (P Q : List Event → Type 0) (own : List Event) → HasFound a x P own → ((rest : List Event) → P rest → Q rest)
    → HasFound a x Q own
found_so a x P Q own has so = record {
  to_announce = has.to_announce;
  reads = has.reads;
  rest = has.rest;
  found = has.found;
  then_rest = so has.rest has.then_rest;
  is = has.is;
}

announced_with : (n : Announced) (P Q : List Event → Type 0) (own : List Event) (event : Event) → HasAnnounced n P own
    → ((rest : List Event) → P rest → Q (rest ++ event ∷ [])) → HasAnnounced n Q (own ++ event ∷ [])
announced_with n P Q own event has grows = record {
  announces = has.announces;
  rest = has.rest ++ event ∷ [];
  listed = has.listed;
  then_rest = grows has.rest has.then_rest;
  is = ap (λ (own : List Event). own ++ event ∷ []) has.is ∙ append_assoc has.announces has.rest (event ∷ []);
}

announced_so : (n : Announced) (P Q : List Event → Type 0) (own : List Event) → HasAnnounced n P own → ((rest : List Event) → P rest → Q rest)
    → HasAnnounced n Q own
announced_so n P Q own has so =
    record { announces = has.announces; rest = has.rest; listed = has.listed; then_rest = so has.rest has.then_rest; is = has.is }

views_with : (n : Announced) (id : ℕ) (d : DroppingView) (P Q : List Event → Type 0) (own : List Event) (event : Event) → HasViews n id d P own
    → ((rest : List Event) → P rest → Q (rest ++ event ∷ [])) → HasViews n id d Q (own ++ event ∷ [])
views_with n id d P Q own event has grows = record {
  none = has.none;
  are_none = has.are_none;
  read = has.read;
  views = has.views;
  rest = has.rest ++ event ∷ [];
  count = has.count;
  viewed = has.viewed;
  then_rest = grows has.rest has.then_rest;
  is = ap (λ (own : List Event). own ++ event ∷ []) has.is ∙ append_assoc has.views has.rest (event ∷ []);
}

views_so : (n : Announced) (id : ℕ) (d : DroppingView) (P Q : List Event → Type 0) (own : List Event) → HasViews n id d P own
    → ((rest : List Event) → P rest → Q rest) → HasViews n id d Q own
views_so n id d P Q own has so = record {
  none = has.none;
  are_none = has.are_none;
  read = has.read;
  views = has.views;
  rest = has.rest;
  count = has.count;
  viewed = has.viewed;
  then_rest = so has.rest has.then_rest;
  is = has.is;
}

-- ---- a view more

-- a view is read behind those that were
views_push : (n : Announced) (read : List whole_phase.Phase) (id : ℕ) (d e f : DroppingView) (m : whole_phase.Phase) (own first : List Event)
    → HaveViews n id d read e own → whole.IsReady m → whole_trace.Did (asked_at n (id + length read)) m first → Adds e (whole.paths_of m) f
    → HaveViews n id d (read ++ m ∷ []) f (own ++ first)
views_push n [] id d e f m own first (same, none) ready did adds = (
  f,
  first,
  [],
  ready,
  subst (λ (k : ℕ). whole_trace.Did (asked_at n k) m first) (let zero : id + 0 ≡ id = omega arith in zero) did,
  subst (λ (e : DroppingView). Adds e (whole.paths_of m) f) same adds,
  (refl, refl),
  ap (λ (own : List Event). own ++ first) none ∙ sym (append-nil first),
)
views_push n (one ∷ read) id d e f m own first (next, calls, rest, ready_one, did_one, adds_one, viewed, is) ready did adds =
    let same : id + length (one ∷ read) ≡ id + 1 + length read = omega arith in (
      next,
      calls,
      rest ++ first,
      ready_one,
      did_one,
      adds_one,
      views_push n read (id + 1) next e f m rest first viewed ready (subst (λ (k : ℕ). whole_trace.Did (asked_at n k) m first) same did) adds,
      ap (λ (own : List Event). own ++ first) is ∙ append_assoc calls rest first,
    )

-- so the calls begin with those of one view more
more_viewed : (n : Announced) (id : ℕ) (d e : DroppingView) (m : whole_phase.Phase) (P : List Event → Type 0) (own : List Event)
    → HasViews n id d (whole_trace.Did (asked_at n id) m) own → whole.IsReady m → Adds d (whole.paths_of m) e → P [] → HasViews n (id + 1) e P own
more_viewed n id d e m P own has ready adds begins = record {
  none = has.none;
  are_none = has.are_none;
  read = has.read ++ m ∷ [];
  views = has.views ++ has.rest;
  rest = [];
  count = (let longer = length_push has.read m in let count = has.count in omega (arith, longer, count));
  viewed = views_push n has.read n.found.first has.none d e m has.views has.rest has.viewed ready
      (subst (λ (k : ℕ). whole_trace.Did (asked_at n k) m has.rest) (sym has.count) has.then_rest) adds;
  then_rest = begins;
  is = has.is ∙ sym (append-nil (has.views ++ has.rest));
}

-- the reader of the view of a snapshot has made no call
begins : (n : Announced) (id : ℕ) → 1 ≤ id → whole_trace.Did (asked_at n id) (view_at n.found.schema id) []
begins n id some = ((refl, refl), some, (refl, refl))

-- ---- each phase

read_did : (a : Asking) (to : read_phase.Phase) (new : Phase) (own : List Event) → AfterRead to new → reading_trace.Did a to own → Did a new own
read_did a to new own (reads_on more is) did = subst (λ (m : Phase). Did a m own) (sym is) did
read_did a to new own (none_goes x at end order is) did =
    let found : reading_trace.HasFound a x own = subst (λ (m : read_phase.Phase). reading_trace.Did a m own) at did in
    let expired : HasExpired a x.end x.last own = kept_all x end refl refl found in
    subst (λ (m : Phase). Did a m own) (sym is) expired
read_did a to new own (some_goes x at goes within is) did =
    let found : reading_trace.HasFound a x own = subst (λ (m : read_phase.Phase). reading_trace.Did a m own) at did in
    let begun : HasFound a x (announcing_trace.Did x (announcers.Announce x)) own =
    record { to_announce = goes; reads = own; rest = []; found = found; then_rest = (refl, refl); is = sym (append-nil own) } in
    subst (λ (m : Phase). Did a m own) (sym is) (x, begun)

-- what was announced was found
announced_of : (a : Asking) (x : Found) (n : Announced) (P : Found → List Event → Type 0) (own : List Event)
    → ((rest : List Event) → announcing_trace.Did x (announcers.Announced n) rest → P x rest)
    → HasFound a x (announcing_trace.Did x (announcers.Announced n)) own → HasFound a n.found (P n.found) own
announced_of a x n P own so has =
    let same : n.found ≡ x = has.then_rest.0 in
    subst (λ (y : Found). HasFound a y (P y) own) (sym same)
    (record { to_announce = has.to_announce; reads = has.reads; rest = has.rest; found = has.found; then_rest = so has.rest has.then_rest; is = has.is })

-- where no snapshot is to go the consumers were read, and else the tags were listed
none_read : (x : Found) (n : Announced) (own : List Event) → n.end ≡ n.found.first → announcing_trace.Did x (announcers.Announced n) own
    → announcing_trace.HasRead x n.end own
none_read x n own end (same, inl read) = read.1
none_read x n own end (same, inr listed) =
    let first = ap (λ (y : Found). y.first) same in
    let less = listed.to_list.0 in
    absurd (omega (arith, end, first, less))

some_listed : (x : Found) (n : Announced) (own : List Event) → n.found.first < n.end → announcing_trace.Did x (announcers.Announced n) own
    → announcing_trace.HasListed x n.end None own
some_listed x n own less (same, inl read) =
    let first = ap (λ (y : Found). y.first) same in
    let none = read.0 in
    absurd (omega (arith, less, first, none))
some_listed x n own less (same, inr listed) = listed

announce_did : (a : Asking) (x : Found) (to : announce_phase.Phase) (new : Phase) (own : List Event) → AfterAnnounce to new
    → HasFound a x (announcing_trace.Did x to) own → Did a new own
announce_did a x to new own (announces_on more is) has = subst (λ (m : Phase). Did a m own) (sym is) (x, has)
announce_did a x to new own (none_goes_then n at end is) has =
    let read = announced_of a x n (λ y. announcing_trace.HasRead y n.end) own (λ rest did. none_read x n rest end did)
    (subst (λ (m : announce_phase.Phase). HasFound a x (announcing_trace.Did x m) own) at has) in
    let expired : HasExpired a n.end n.found.last own = kept_all_then n end refl refl read in
    subst (λ (m : Phase). Did a m own) (sym is) expired
announce_did a x to new own (views_first n d at order less none is) has =
    let listed = announced_of a x n (λ y. announcing_trace.HasListed y n.end None) own (λ rest did. some_listed x n rest less did)
    (subst (λ (m : announce_phase.Phase). HasFound a x (announcing_trace.Did x m) own) at has) in
    let views : HasFound a n.found (HasAnnounced n (HasViews n n.found.first d (whole_trace.Did (asked_at n n.found.first) (view_at n.found.schema n.found.first)))) own =
    found_so a n.found (announcing_trace.HasListed n.found n.end None) _ own listed
    (λ rest listed. record {
      announces = rest;
      rest = [];
      listed = listed;
      then_rest = record {
        none = d;
        are_none = none;
        read = [];
        views = [];
        rest = [];
        count = omega arith;
        viewed = (refl, refl);
        then_rest = begins n n.found.first order.of.some;
        is = refl;
      };
      is = sym (append-nil rest);
    }) in
    subst (λ (m : Phase). Did a m own) (sym is) (omega (arith, less), views)

-- the calls of a view that is ready
abbrev Viewed : Asking → Announced → ℕ → DroppingView → whole_phase.Phase → List Event → Type 0
Viewed a n id d m own = HasFound a n.found (HasAnnounced n (HasViews n id d (whole_trace.Did (asked_at n id) m))) own

added_did : (a : Asking) (n : Announced) (id : ℕ) (d e : DroppingView) (m : whole_phase.Phase) (new : Phase) (own : List Event) → AfterAdding n e id new
    → whole.IsReady m → Adds d (whole.paths_of m) e → Viewed a n id d m own → Did a new own
added_did a n id d e m new own (views_next below is) ready adds has =
    let start : whole_trace.Did (asked_at n (id + 1)) (view_at n.found.schema (id + 1)) [] = begins n (id + 1) (omega arith) in
    let views : Viewed a n (id + 1) e (view_at n.found.schema (id + 1)) own =
    found_so a n.found _ _ own has (λ rest announced. announced_so n _ _ rest announced (λ rest viewed.
    more_viewed n id d e m (whole_trace.Did (asked_at n (id + 1)) (view_at n.found.schema (id + 1))) rest viewed ready adds start)) in
    subst (λ (m : Phase). Did a m own) (sym is) (omega (arith, below), views)
added_did a n id d e m new own (views_all paths at are is) ready adds has =
    let all : HasFound a n.found (HasAnnounced n (HasAll n (λ q. removing_trace.Did q (removing.remove_next paths)))) own =
    found_so a n.found _ _ own has (λ rest announced. announced_so n _ _ rest announced (λ rest viewed. (
      e,
      paths,
      are,
      subst (λ (k : ℕ). HasViews n (k + 1) e (removing_trace.Did paths (removing.remove_next paths)) rest) at
          (more_viewed n id d e m (removing_trace.Did paths (removing.remove_next paths)) rest viewed ready adds (removing_facts.first_did paths)),
    ))) in
    subst (λ (m : Phase). Did a m own) (sym is) (n, refl, refl, all)

remove_did : (a : Asking) (n : Announced) (first last : ℕ) (to : remove_phase.Phase) (new : Phase) (own : List Event) → AfterRemove first last to new
    → first ≡ n.end → last ≡ n.found.last → HasFound a n.found (HasAnnounced n (HasAll n (λ paths. removing_trace.Did paths to))) own → Did a new own
remove_did a n first last to new own (removes_on more is) end newest has = subst (λ (m : Phase). Did a m own) (sym is) (n, end, newest, has)
remove_did a n first last to new own (removed_all at is) end newest has =
    let all : HasFound a n.found (HasAnnounced n (HasAll n (λ paths rest. removing_trace.HasRemoved rest paths))) own =
    found_so a n.found _ _ own has (λ rest announced. announced_so n _ _ rest announced (λ rest all. (
      all.0,
      all.1,
      all.2,
      views_so n (n.end + 1) all.0 (removing_trace.Did all.1 to) (λ rest. removing_trace.HasRemoved rest all.1) rest all.3
          (λ rest did. subst (λ (m : remove_phase.Phase). removing_trace.Did all.1 m rest) at did),
    ))) in
    let expired : HasExpired a first last own = removed n end newest all in
    subst (λ (m : Phase). Did a m own) (sym is) expired

-- ---- calls of a part

-- where a call of a view's reader leads so does it here
view_with : (a : Asking) (n : Announced) (id : ℕ) (d : DroppingView) (P Q : List Event → Type 0) (own : List Event) (event : Event)
    → HasFound a n.found (HasAnnounced n (HasViews n id d P)) own → ((rest : List Event) → P rest → Q (rest ++ event ∷ []))
    → HasFound a n.found (HasAnnounced n (HasViews n id d Q)) (own ++ event ∷ [])
view_with a n id d P Q own event has grows =
    found_with a n.found (HasAnnounced n (HasViews n id d P)) (HasAnnounced n (HasViews n id d Q)) own event has
    (λ rest announced. announced_with n (HasViews n id d P) (HasViews n id d Q) rest event announced
    (λ rest views. views_with n id d P Q rest event views grows))

view_so : (a : Asking) (n : Announced) (id : ℕ) (d : DroppingView) (P Q : List Event → Type 0) (own : List Event)
    → HasFound a n.found (HasAnnounced n (HasViews n id d P)) own → ((rest : List Event) → P rest → Q rest)
    → HasFound a n.found (HasAnnounced n (HasViews n id d Q)) own
view_so a n id d P Q own has so =
    found_so a n.found (HasAnnounced n (HasViews n id d P)) (HasAnnounced n (HasViews n id d Q)) own has
    (λ rest announced. announced_so n (HasViews n id d P) (HasViews n id d Q) rest announced (λ rest views. views_so n id d P Q rest views so))

-- so of a remover
all_with : (a : Asking) (n : Announced) (P Q : List (List ℕ) → List Event → Type 0) (own : List Event) (event : Event)
    → HasFound a n.found (HasAnnounced n (HasAll n P)) own → ((paths : List (List ℕ)) (rest : List Event) → P paths rest → Q paths (rest ++ event ∷ []))
    → HasFound a n.found (HasAnnounced n (HasAll n Q)) (own ++ event ∷ [])
all_with a n P Q own event has grows =
    found_with a n.found (HasAnnounced n (HasAll n P)) (HasAnnounced n (HasAll n Q)) own event has
    (λ rest announced. announced_with n (HasAll n P) (HasAll n Q) rest event announced
    (λ rest all. (all.0, all.1, all.2, views_with n (n.end + 1) all.0 (P all.1) (Q all.1) rest event all.3 (grows all.1))))

all_so : (a : Asking) (n : Announced) (P Q : List (List ℕ) → List Event → Type 0) (own : List Event)
    → HasFound a n.found (HasAnnounced n (HasAll n P)) own → ((paths : List (List ℕ)) (rest : List Event) → P paths rest → Q paths rest)
    → HasFound a n.found (HasAnnounced n (HasAll n Q)) own
all_so a n P Q own has so =
    found_so a n.found (HasAnnounced n (HasAll n P)) (HasAnnounced n (HasAll n Q)) own has
    (λ rest announced. announced_so n (HasAll n P) (HasAll n Q) rest announced
    (λ rest all. (all.0, all.1, all.2, views_so n (n.end + 1) all.0 (P all.1) (Q all.1) rest all.3 (so all.1))))

-- what is so of each list of calls where there is a next call is so of all of them
each_if : (next : Option Call) (P : List Event → Type 0) (Q : Call → List Event → Type 0) → ((rest : List Event) → P rest → IfSome next (λ call. Q call rest))
    → IfSome next (λ call. (rest : List Event) → P rest → Q call rest)
each_if None P Q so = tt
each_if (Some call) P Q so = so

each_of : (next : Option Call) (P : List (List ℕ) → List Event → Type 0) (Q : Call → List (List ℕ) → List Event → Type 0)
    → ((paths : List (List ℕ)) (rest : List Event) → P paths rest → IfSome next (λ call. Q call paths rest))
    → IfSome next (λ call. (paths : List (List ℕ)) (rest : List Event) → P paths rest → Q call paths rest)
each_of None P Q so = tt
each_of (Some call) P Q so = so

view_did : (a : Asking) (v : Views) (to : whole_phase.Phase) (new : Phase) (own : List Event) → AfterView v to new → v.id ≤ v.announced.end
    → Viewed a v.announced v.id v.dropping to own → Did a new own
view_did a v to new own (views_on more is) within has = subst (λ (m : Phase). Did a m own) (sym is) (within, has)
view_did a v to new own (view_read d ready read adds on) within has = added_did a v.announced v.id v.dropping d to new own on ready adds has

ready_announced : (m : announce_phase.Phase) → announcing.IsReady m → (n : Announced) × (m ≡ announcers.Announced n)
ready_announced (announcers.Announced n) ready = (n, refl)
ready_announced m ready = absurd ready

module _ (law : Joined) (a : Asking) where
  -- a call of the announcer, and one of a view's reader
  went_announcer : (x : Found) (m to : announce_phase.Phase) (answer : Answer) (own : List Event) → announcing.Goes m answer to
      → HasFound a x (announcing_trace.Did x m) own → IfSome (announcing.next_call m) (λ call. MayAnswer call answer
      → HasFound a x (announcing_trace.Did x to) (own ++ answered call answer ∷ []))
  went_announcer x m to answer own on has =
      IfSome_then (announcing.next_call m)
      (each_if (announcing.next_call m) (announcing_trace.Did x m)
      (λ call rest. MayAnswer call answer → announcing_trace.Did x to (rest ++ answered call answer ∷ []))
      (λ rest did. (announcing_facts.recounts x).went m to answer rest on did))
      (λ call grows may. found_with a x (announcing_trace.Did x m) (announcing_trace.Did x to) own (answered call answer) has (λ rest did. grows rest did may))

  went_viewer : (n : Announced) (id : ℕ) (d : DroppingView) (m to : whole_phase.Phase) (answer : Answer) (own : List Event) → whole.Goes m answer to
      → Viewed a n id d m own → IfSome (whole.next_call m) (λ call. MayAnswer call answer → Viewed a n id d to (own ++ answered call answer ∷ []))
  went_viewer n id d m to answer own on has =
      IfSome_then (whole.next_call m)
      (each_if (whole.next_call m) (whole_trace.Did (asked_at n id) m)
      (λ call rest. MayAnswer call answer → whole_trace.Did (asked_at n id) to (rest ++ answered call answer ∷ []))
      (λ rest did. (whole_facts.recounts law (asked_at n id)).went m to answer rest on did))
      (λ call grows may. view_with a n id d (whole_trace.Did (asked_at n id) m) (whole_trace.Did (asked_at n id) to) own (answered call answer) has
      (λ rest did. grows rest did may))

  went_on : (m : Phase) (answer : Answer) (new : Phase) (own : List Event) → Goes m answer new → Did a m own
      → IfSome (next_call m) (λ call. MayAnswer call answer → Did a new (own ++ answered call answer ∷ []))
  went_on (phases.Read m) answer new own (to, on, after) did =
      IfSome_then (reading.next_call m) ((reading_facts.recounts a).went m to answer own on did)
      (λ call did may. read_did a to new (own ++ answered call answer ∷ []) after (did may))
  went_on (phases.Announce m) answer new own (to, on, after) (x, has) =
      IfSome_then (announcing.next_call m) (went_announcer x m to answer own on has)
      (λ call did may. announce_did a x to new (own ++ answered call answer ∷ []) after (did may))
  went_on (phases.View v m) answer new own (to, on, after) (within, has) =
      IfSome_then (whole.next_call m) (went_viewer v.announced v.id v.dropping m to answer own on has)
      (λ call did may. view_did a v to new (own ++ answered call answer ∷ []) after within (did may))
  went_on (phases.Remove first last m) answer new own (to, on, after) (n, end, newest, has) =
      IfSome_then (removing.next_call m)
      (each_of (removing.next_call m) (λ paths. removing_trace.Did paths m)
      (λ call paths rest. MayAnswer call answer → removing_trace.Did paths to (rest ++ answered call answer ∷ []))
      (λ paths rest did. (removing_facts.recounts paths).went m to answer rest on did))
      (λ call grows may. remove_did a n first last to new (own ++ answered call answer ∷ []) after end newest
      (all_with a n (λ paths. removing_trace.Did paths m) (λ paths. removing_trace.Did paths to) own (answered call answer) has
      (λ paths rest did. grows paths rest did may)))
  went_on m answer new own goes did = absurd goes

  -- ---- what they show

  between : (refusal : Refusal) (own : List Event) → refusal ≡ refusals.Memory → EndsBetween a own → Shows a refusal own
  between refusal own is ends = inr (inr (inr (inr (is, ends))))

  refused_on : (m : Phase) (answer : Answer) (refusal : Refusal) (own : List Event) → Shown m answer refusal → Did a m own
      → IfSome (next_call m) (λ call. MayAnswer call answer → Shows a refusal (own ++ answered call answer ∷ []))
  refused_on (phases.Read m) answer refusal own shown did =
      IfSome_then (reading.next_call m) ((reading_facts.recounts a).refused m readers.Over answer refusal own (shown, refl) did)
      (λ call shows may. inl (shows may).1)
  refused_on (phases.Announce m) answer refusal own (inl (is, (to, on, ready))) (x, has) =
      let (n, at) = ready_announced to ready in
      IfSome_then (announcing.next_call m) (went_announcer x m to answer own on has)
      (λ call did may. between refusal (own ++ answered call answer ∷ []) is (announced_then n
      (announced_of a x n (λ y. announcing_trace.HasEnded y n.end) (own ++ answered call answer ∷ []) (λ rest did. did.1)
      (subst (λ (m : announce_phase.Phase). HasFound a x (announcing_trace.Did x m) (own ++ answered call answer ∷ [])) at (did may)))))
  refused_on (phases.Announce m) answer refusal own (inr shown) (x, has) =
      IfSome_then (announcing.next_call m)
      (each_if (announcing.next_call m) (announcing_trace.Did x m)
      (λ call rest. MayAnswer call answer → announcing_trace.Shows x refusal (rest ++ answered call answer ∷ []))
      (λ rest did. IfSome_then (announcing.next_call m) ((announcing_facts.recounts x).refused m announcers.Over answer refusal rest (shown, refl) did)
      (λ call shows may. (shows may).1)))
      (λ call grows may. inr (inl (
        x,
        found_with a x (announcing_trace.Did x m) (announcing_trace.Shows x refusal) own (answered call answer) has (λ rest did. grows rest did may),
      )))
  refused_on (phases.View v m) answer refusal own (inl (is, (to, on, ready))) (within, has) =
      IfSome_then (whole.next_call m) (went_viewer v.announced v.id v.dropping m to answer own on has)
      (λ call did may. between refusal (own ++ answered call answer ∷ []) is (viewed_then v to ready (did may)))
  refused_on (phases.View v m) answer refusal own (inr shown) (within, has) =
      let asked = asked_at v.announced v.id in
      IfSome_then (whole.next_call m)
      (each_if (whole.next_call m) (whole_trace.Did asked m)
      (λ call rest. MayAnswer call answer → whole_trace.Shows asked refusal (rest ++ answered call answer ∷ []))
      (λ rest did. IfSome_then (whole.next_call m) ((whole_facts.recounts law asked).refused m wholes.Over answer refusal rest (shown, refl) did)
      (λ call shows may. (shows may).1)))
      (λ call grows may. inr (inr (inl (
        v,
        within,
        view_with a v.announced v.id v.dropping (whole_trace.Did asked m) (whole_trace.Shows asked refusal) own (answered call answer) has
            (λ rest did. grows rest did may),
      ))))
  refused_on m answer refusal own shown did = absurd shown

  failed_on : (m : Phase) (own : List Event) → Did a m own
      → IfSome (next_call m) (λ call. Shows a (refusals.StoreFault (path_of call)) (own ++ faulted call ∷ []))
  failed_on (phases.Read m) own did =
      IfSome_then (reading.next_call m) ((reading_facts.recounts a).failed m readers.Over own refl did) (λ call shows. inl shows.1)
  failed_on (phases.Announce m) own (x, has) =
      IfSome_then (announcing.next_call m)
      (each_if (announcing.next_call m) (announcing_trace.Did x m)
      (λ call rest. announcing_trace.Shows x (refusals.StoreFault (path_of call)) (rest ++ faulted call ∷ []))
      (λ rest did. IfSome_then (announcing.next_call m) ((announcing_facts.recounts x).failed m announcers.Over rest refl did) (λ call shows. shows.1)))
      (λ call grows. inr (inl (
        x,
        found_with a x (announcing_trace.Did x m) (announcing_trace.Shows x (refusals.StoreFault (path_of call))) own (faulted call) has grows,
      )))
  failed_on (phases.View v m) own (within, has) =
      let asked = asked_at v.announced v.id in
      IfSome_then (whole.next_call m)
      (each_if (whole.next_call m) (whole_trace.Did asked m)
      (λ call rest. whole_trace.Shows asked (refusals.StoreFault (path_of call)) (rest ++ faulted call ∷ []))
      (λ rest did. IfSome_then (whole.next_call m) ((whole_facts.recounts law asked).failed m wholes.Over rest refl did) (λ call shows. shows.1)))
      (λ call grows. inr (inr (inl (
        v,
        within,
        view_with a v.announced v.id v.dropping (whole_trace.Did asked m) (whole_trace.Shows asked (refusals.StoreFault (path_of call))) own (faulted call)
            has grows,
      ))))
  failed_on (phases.Remove first last m) own (n, end, newest, has) =
      IfSome_then (removing.next_call m)
      (each_of (removing.next_call m) (λ paths. removing_trace.Did paths m)
      (λ call paths rest. removing_trace.Shows paths (refusals.StoreFault (path_of call)) (rest ++ faulted call ∷ []))
      (λ paths rest did. IfSome_then (removing.next_call m) ((removing_facts.recounts paths).failed m removers.Over rest refl did) (λ call shows. shows.1)))
      (λ call grows. inr (inr (inr (inl (
        n,
        all_with a n (λ paths. removing_trace.Did paths m) (λ paths. removing_trace.Shows paths (refusals.StoreFault (path_of call))) own (faulted call)
            has grows,
      )))))
  failed_on (phases.Done first last) own did = tt
  failed_on phases.Over own did = tt

  stopped_on : (m : Phase) (own : List Event) → IsSome (next_call m) → Did a m own → Shows a refusals.Memory own
  stopped_on (phases.Read m) own called did = inl ((reading_facts.recounts a).stopped m readers.Over own called refl did).1
  stopped_on (phases.Announce m) own called (x, has) = inr (inl (
    x,
    found_so a x (announcing_trace.Did x m) (announcing_trace.Shows x refusals.Memory) own has
        (λ rest did. ((announcing_facts.recounts x).stopped m announcers.Over rest called refl did).1),
  ))
  stopped_on (phases.View v m) own called (within, has) =
      let asked = asked_at v.announced v.id in
      inr (inr (inl (
        v,
        within,
        view_so a v.announced v.id v.dropping (whole_trace.Did asked m) (whole_trace.Shows asked refusals.Memory) own has
            (λ rest did. ((whole_facts.recounts law asked).stopped m wholes.Over rest called refl did).1),
      )))
  stopped_on (phases.Remove first last m) own called (n, end, newest, has) = inr (inr (inr (inl (
    n,
    all_so a n (λ paths. removing_trace.Did paths m) (λ paths. removing_trace.Shows paths refusals.Memory) own has
        (λ paths rest did. ((removing_facts.recounts paths).stopped m removers.Over rest called refl did).1),
  ))))
  stopped_on (phases.Done first last) own called did = absurd (let clash = called in cc)
  stopped_on phases.Over own called did = absurd (let clash = called in cc)

  over_did : (new : Phase) (refusal : Refusal) (own : List Event) → new ≡ phases.Over → Shows a refusal own → Did a new own × Shows a refusal own
  over_did new refusal own over shows = (subst (λ (m : Phase). Did a m own) (sym over) (refusal, shows), shows)

  pub recounts : Recounts next_call Goes (Refuses Shown phases.Over) (Stops phases.Over) (Did a) (Shows a)
  recounts = record {
    went = λ m new answer own goes did. went_on m answer new own goes did;
    refused = λ m new answer refusal own refuses did. IfSome_then (next_call m) (refused_on m answer refusal own refuses.0 did)
        (λ call shows may. over_did new refusal (own ++ answered call answer ∷ []) refuses.1 (shows may));
    failed = λ m new own stops did. IfSome_then (next_call m) (failed_on m own did)
        (λ call shows. over_did new (refusals.StoreFault (path_of call)) (own ++ faulted call ∷ []) stops shows);
    stopped = λ m new own called stops did. over_did new refusals.Memory own stops (stopped_on m own called did);
  }
