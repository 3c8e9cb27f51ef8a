-- An expirer keeps the laws of machines.
use Rattle.std.proofs.Common.{◌≡◌, inl, inr, ℕ, ◌+◌, ◌<◌, ◌≤◌, List, ◌∷◌, None, Some, IsSome, IfSome, refl, sym, subst, arith}
use Rattle.std.specs.FinMap as map
use Rattle.std.proofs.lemmas.Option.{IfSome_then}
use Rattle.pm_store.specs.declared.answer.Answer.{Answer}
use Rattle.pm_store.specs.declared.answer.Answer.TheVariants as answers
use Rattle.pm_store.specs.declared.call.Call.{Call}
use Rattle.pm_store.specs.declared.call.Effect.{Effect}
use Rattle.pm_store.specs.declared.call.Effect.TheVariants as effects
use Rattle.pm_store.specs.Answers.{Answers}
use Rattle.pm_store.specs.Files.{Files, Puts, after_effect, carried}
use Rattle.pm_store.specs.Images.{MayLeave}
use Rattle.pm_machine.specs.Moves.{Changes, IsKept, Leads, Sound}
use Rattle.pm_machine.specs.Running.{Refuses, Stops}
use Rattle.pm_machine.proofs.Facts.{image_changed}
use Rattle.pm_model_folder.specs.Changes.{Actor}
use Rattle.pm_model_folder.specs.Ledger.{Advances, Past, Stands}
use Rattle.pm_model_folder.proofs.LedgerFacts.{known-still}
use Rattle.pm_model_expiry.specs.Removals.{Expiry, KnowsRemovals}
use Rattle.pm_remove.specs.Meaning as removing_meaning
use Rattle.pm_remove.specs.Remover as removing
use Rattle.pm_remove.specs.Removal.{RemovalView}
use Rattle.pm_remove.specs.declared.phase.Phase as remove_phase
use Rattle.pm_remove.specs.declared.phase.Phase.TheVariants as removers
use Rattle.pm_remove.proofs.Facts.{changes_of, leads_of}
use Rattle.pm_read_table.proofs.Facts.{Joined, OneList}
use Rattle.pm_read_whole.specs.Meaning as whole_meaning
use Rattle.pm_read_whole.specs.Whole as whole
use Rattle.pm_read_whole.specs.declared.phase.Phase as whole_phase
use Rattle.pm_read_whole.proofs.Facts as whole_facts
use Rattle.pm_read_expiry.specs.Meaning as reading_meaning
use Rattle.pm_read_expiry.specs.Reader as reading
use Rattle.pm_read_expiry.specs.declared.phase.Phase as read_phase
use Rattle.pm_read_expiry.proofs.Facts as reading_facts
use Rattle.pm_announce.specs.Announcer as announcing
use Rattle.pm_announce.specs.Meaning as announcing_meaning
use Rattle.pm_announce.specs.declared.phase.Announced.{Announced}
use Rattle.pm_announce.specs.declared.phase.Phase as announce_phase
use Rattle.pm_announce.specs.declared.phase.Phase.TheVariants as announcers
use Rattle.pm_expire_paths.specs.Dropping.{DroppingView}
use Rattle.pm_expire.specs.Expirer.{next_call, view_next, views_of, AfterAdding, AfterAnnounce, AfterRead, AfterRemove, AfterView, Goes, Shown}
use Rattle.pm_expire.specs.Expirer.{announces_on, none_goes, none_goes_then, reads_on, removed_all, removes_on, some_goes, view_read, views_all, views_first, views_next, views_on}
use Rattle.pm_expire.specs.Meaning.{IsPlainRead, Knows, KnowsBeside, KnowsRemover, KnowsView, KnowsViews, Makes, MakesBeside, Removes, StandsBeside}
use Rattle.pm_expire.specs.declared.phase.Phase.{Phase}
use Rattle.pm_expire.specs.declared.phase.Phase.TheVariants as phases
use Rattle.pm_expire.specs.declared.phase.Views.{Views}
use Rattle.pm_expire.proofs.KnowsLemmas.{BetweenStays, PathsNamed, RemovalsBegin, begins_known, done_still, found_done, more_views, none_views, read_names, removals_known, remover_known, same_advances, views_still}
use Rattle.pm_expire.proofs.PhaseLemmas.{plain_stays}

-- ---- laws of crates below

-- an announcer keeps the laws of machines
abbrev pub AnnouncerSound : Type 0
AnnouncerSound = Sound announcing.next_call announcing.Goes (Refuses announcing.Shown announcers.Over) (Stops announcers.Over)
    announcing_meaning.StandsBeside announcing_meaning.MakesBeside announcing_meaning.KnowsBeside

-- what it knows stays
abbrev pub AnnouncedStays : Type 0
AnnouncedStays = (m : announce_phase.Phase) (other : Actor) (f after : Files) (p q : Past) → Stands f p → Advances other f p after q
    → announcing_meaning.Knows m f p → announcing_meaning.Knows m after q

-- a remove is a change of some kind, and leaves what is to be removed after it
abbrev pub RemoveChanges : Type 0
RemoveChanges = (x : Expiry) (path : List ℕ) (rest : List (List ℕ)) (me : Actor) (f after : Files) (p : Past)
    → Stands f p → KnowsRemovals x (path ∷ rest) f p → IsSome (map.get f path) → Puts f path None after
    → Advances me f p after p

abbrev pub RemoveLeaves : Type 0
RemoveLeaves = (x : Expiry) (path : List ℕ) (rest : List (List ℕ)) (f after : Files) (p : Past) → Stands f p
    → KnowsRemovals x (path ∷ rest) f p → Puts f path None after → KnowsRemovals x rest after p

abbrev pub PastStays : Type 0
PastStays = (me : Actor) (f after : Files) (p q : Past) → Stands f p → Advances me f p after q → Stands after q

pub record Laws : Type 0 where
  pub stays : PastStays
  pub announcer : AnnouncerSound
  pub announced : AnnouncedStays
  pub joined : Joined
  pub list : OneList
  pub paths : PathsNamed
  pub begins : RemovalsBegin
  pub removes : RemoveChanges
  pub leaves : RemoveLeaves

-- ---- what it may change

module _ (laws : Laws) (me : Actor) (f : Files) (p : Past) (stands : Stands f p) where
  -- a remover's change is one of its kinds
  remove_made : (first last : ℕ) (r : RemovalView) → KnowsRemover first last (removers.Remove r) f p → (after : Files) → removing_meaning.Makes (removers.Remove r) f after
      → Removes me r.next f p after p
  remove_made first last r (x, end, order, oldest, newest, known) after (inl same) = record { advances = same_advances me f after p same; same = refl; files = λ path other. same path }
  remove_made first last r (x, end, order, oldest, newest, known) after (inr (there, puts)) = record {
    advances = laws.removes x r.next r.rest me f after p stands known there puts;
    same = refl;
    files = puts.others;
  }

  made_at : (first last : ℕ) (m : remove_phase.Phase) → KnowsRemover first last m f p → (after : Files) → removing_meaning.Makes m f after
      → Makes me (phases.Remove first last m) f p after p
  made_at first last (removers.Remove r) known after makes = remove_made first last r known after makes
  made_at first last m known after makes = absurd makes

  pub changes_at : (m : Phase) → Knows m f p → IfSome (next_call m) (λ call. Changes (MakesBeside m) call f (me, p))
  changes_at (phases.Read m) (plain, known) = IfSome_then (reading.next_call m) (reading_facts.sound.changes m f p stands known)
      (λ call changes effect. ((me, (changes effect).0), (refl, (changes effect).1)))
  changes_at (phases.Announce m) known = laws.announcer.changes m f (me, p) stands known
  changes_at (phases.View v m) known = IfSome_then (whole.next_call m) ((whole_facts.sound laws.joined laws.list).changes m f p stands known.reader)
      (λ call changes effect. ((me, (changes effect).0), (refl, (changes effect).1)))
  changes_at (phases.Remove first last m) known =
      IfSome_then (removing.next_call m) (changes_of (Makes me (phases.Remove first last m)) m f p (made_at first last m known))
      (λ call changes effect. ((me, (changes effect).0), (refl, (changes effect).1)))
  changes_at (phases.Done first last) known = tt
  changes_at phases.Over known = tt

  -- ---- what it knows afterwards

  read_known : (to : read_phase.Phase) (new : Phase) (after : Files) (later : Past) → AfterRead to new → IsPlainRead to
      → reading_meaning.Knows to after later → Knows new after later
  read_known to new after later (reads_on more is) plain known = subst (λ (m : Phase). Knows m after later) (sym is) (plain, known)
  read_known to new after later (none_goes x at end order is) plain known = subst (λ (m : Phase). Knows m after later) (sym is)
      (found_done x x.end after later end order (subst (λ (m : read_phase.Phase). reading_meaning.Knows m after later) at known))
  read_known to new after later (some_goes x at goes within is) plain known = subst (λ (m : Phase). Knows m after later) (sym is) (record {
    to_announce = goes;
    plain = subst IsPlainRead at plain;
    found = subst (λ (m : read_phase.Phase). reading_meaning.Knows m after later) at known;
  })

  view_known : (a : Announced) (d : DroppingView) (id : ℕ) (after : Files) (later : Past) → Stands after later → a.found.first < a.end → a.found.first ≤ id
      → id ≤ a.end → a.end ≤ a.found.last → announcing_meaning.KnowsEnd a.found a.end after later → KnowsViews (views_of a d id) later
      → Knows (view_next a d id) after later
  view_known a d id after later still less low high order end views =
      let within = (end.left (λ e. omega (arith, e, less))).announced.within in
      let some = end.of.to_announce.some in
      record {
        some = less;
        from = low;
        to = high;
        order = order;
        end = end;
        views = views;
        reader = begins_known after later a.found.schema id still end.of.found.table (omega (arith, some, low))
            (omega (arith, high, within));
      }

  announced_known : (to : announce_phase.Phase) (new : Phase) (after : Files) (later : Past) → Stands after later → AfterAnnounce to new
      → announcing_meaning.Knows to after later → Knows new after later
  announced_known to new after later still (announces_on more is) known = subst (λ (m : Phase). Knows m after later) (sym is) known
  announced_known to new after later still (none_goes_then a at same is) known =
      let end : announcing_meaning.KnowsEnd a.found a.end after later = subst (λ (m : announce_phase.Phase). announcing_meaning.Knows m after later) at known in
      let below = end.of.to_announce.first in
      let above = end.of.to_announce.last in
      subst (λ (m : Phase). Knows m after later) (sym is) (found_done a.found a.end after later same (omega (arith, same, below, above)) end.of.found)
  announced_known to new after later still (views_first a d at order less none is) known =
      let end : announcing_meaning.KnowsEnd a.found a.end after later = subst (λ (m : announce_phase.Phase). announcing_meaning.Knows m after later) at known in
      let low = order.last in
      let high = order.of.last in
      subst (λ (m : Phase). Knows m after later) (sym is)
      (view_known a d a.found.first after later still less (omega arith) (omega (arith, less)) (omega (arith, low, high)) end (none_views a d later none))

  -- where no path has another content
  past_same : (after : Files) (later : Past) → IsKept f p after later → Stands after later
  past_same after later kept = subst (λ (q : Past). Stands after q) (sym kept.past)
      (laws.stays me f after p p stands (same_advances me f after p kept.files))

  -- what is known beside the view's reader stays
  end_still : (a : Announced) (after : Files) (later : Past) → IsKept f p after later → announcing_meaning.KnowsEnd a.found a.end f p
      → announcing_meaning.KnowsEnd a.found a.end after later
  end_still a after later kept known = subst (λ (q : Past). announcing_meaning.KnowsEnd a.found a.end after q) (sym kept.past)
      (laws.announced (announcers.Announced a) me f after p p stands (same_advances me f after p kept.files) known)

  added_known : (a : Announced) (d : DroppingView) (id : ℕ) (new : Phase) (after : Files) (later : Past) → Stands after later → a.found.first < a.end
      → a.found.first ≤ id → id ≤ a.end → a.end ≤ a.found.last → announcing_meaning.KnowsEnd a.found a.end after later
      → KnowsViews (views_of a d (id + 1)) later → AfterAdding a d id new → Knows new after later
  added_known a d id new after later still less low high order end views (views_next below is) =
      subst (λ (m : Phase). Knows m after later) (sym is)
      (view_known a d (id + 1) after later still less (omega (arith, low)) (omega (arith, below)) order end views)
  added_known a d id new after later still less low high order end views (views_all paths at are is) =
      let all : KnowsViews (views_of a d (a.end + 1)) later = subst (λ (n : ℕ). KnowsViews (views_of a d (n + 1)) later) at views in
      subst (λ (m : Phase). Knows m after later) (sym is) (removals_known laws.begins a d paths after later less order end all are)

  viewed_known : (v : Views) (to : whole_phase.Phase) (new : Phase) (after : Files) (later : Past) → IsKept f p after later → AfterView v to new
      → (m : whole_phase.Phase) → KnowsView v m f p → whole_meaning.Knows to after later → Knows new after later
  viewed_known v to new after later kept (views_on more is) m known read = subst (λ (m : Phase). Knows m after later) (sym is) (record {
    some = known.some;
    from = known.from;
    to = known.to;
    order = known.order;
    end = end_still v.announced after later kept known.end;
    views = subst (KnowsViews v) (sym kept.past) known.views;
    reader = read;
  })
  viewed_known v to new after later kept (view_read d ready of adds on) m known read =
      let views : KnowsViews v later = subst (KnowsViews v) (sym kept.past) known.views in
      added_known v.announced d v.id new after later (past_same after later kept) known.some known.from known.to known.order
      (end_still v.announced after later kept known.end)
      (more_views v d (whole.paths_of to) later known.from views (read_names laws.paths v to after later ready of read) adds) on

  removed_known : (first last : ℕ) (to : remove_phase.Phase) (new : Phase) (after : Files) (later : Past) → AfterRemove first last to new
      → KnowsRemover first last to after later → Knows new after later
  removed_known first last to new after later (removes_on more is) known = subst (λ (m : Phase). Knows m after later) (sym is) known
  removed_known first last to new after later (removed_all at is) known = subst (λ (m : Phase). Knows m after later) (sym is)
      (subst (λ (m : remove_phase.Phase). KnowsRemover first last m after later) at known)

  -- the next of what is to be removed
  rest_known : (first last : ℕ) (m : remove_phase.Phase) (answer : Answer) (to : remove_phase.Phase) → removing.Goes m answer to
      → KnowsRemover first last m f p → (after : Files) → removing_meaning.Clears m f after → KnowsRemover first last to after p
  rest_known first last (removers.Remove r) (answers.Removed answer) to at (x, end, order, oldest, newest, known) after puts =
      subst (λ (m : remove_phase.Phase). KnowsRemover first last m after p) (sym at)
      (remover_known x first last r.rest after p end order oldest newest (laws.leaves x r.next r.rest f after p stands known puts))
  rest_known first last m answer to on known after puts = absurd on

  announced_stands : (m : announce_phase.Phase) (after : Files) (later : Past) → announcing_meaning.Makes me m f p after later → Stands after later
  announced_stands (announcers.Announce x) after later change = laws.stays me f after p later stands change.advances
  announced_stands (announcers.Consumers x c) after later change = past_same after later change
  announced_stands (announcers.Tags a) after later change = past_same after later change
  announced_stands (announcers.Announced a) after later change = past_same after later change
  announced_stands announcers.Over after later change = past_same after later change

  pub went_at : (m : Phase) (answer : Answer) (new : Phase) → Goes m answer new → Knows m f p
      → IfSome (next_call m) (λ call. Answers call answer f → Leads (MakesBeside m) (KnowsBeside new) f (me, p) (carried call f))
  went_at (phases.Read m) answer new (to, on, after) (plain, known) =
      IfSome_then (reading.next_call m) (reading_facts.sound.went m to answer f p on stands known)
      (λ call led told.
      let (later, kept, knows) = led told in
      ((me, later), (refl, kept), read_known to new (carried call f) later after (plain_stays m answer to on plain) knows))
  went_at (phases.Announce m) answer new (to, on, after) known =
      IfSome_then (announcing.next_call m) (laws.announcer.went m to answer f (me, p) on stands known)
      (λ call led told.
      let (later, change, knows) = led told in
      (later, change, announced_known to new (carried call f) later.1 (announced_stands m (carried call f) later.1 change.1) after knows))
  went_at (phases.View v m) answer new (to, on, after) known =
      IfSome_then (whole.next_call m) ((whole_facts.sound laws.joined laws.list).went m to answer f p on stands known.reader)
      (λ call led told.
      let (later, kept, knows) = led told in
      ((me, later), (refl, kept), viewed_known v to new (carried call f) later kept after m known knows))
  went_at (phases.Remove first last m) answer new (to, on, after) known =
      IfSome_then (removing.next_call m)
      (leads_of (Makes me (phases.Remove first last m)) (KnowsRemover first last to) m answer to f p on (made_at first last m known) (rest_known first last m answer to on known))
      (λ call led told.
      let (later, change, knows) = led told in
      ((me, later), (refl, change), removed_known first last to new (carried call f) later after knows))
  went_at m answer new goes known = absurd goes

  over_knows : (new : Phase) (after : Files) (later : Past) → new ≡ phases.Over → Knows new after later
  over_knows new after later over = subst (λ (m : Phase). Knows m after later) (sym over) tt

  pub failed_at : (m new : Phase) (effect : Effect) → new ≡ phases.Over → Knows m f p
      → IfSome (next_call m) (λ call. Leads (MakesBeside m) (KnowsBeside new) f (me, p) (after_effect call effect f))
  failed_at m new effect over known = IfSome_then (next_call m) (changes_at m known)
      (λ call changes. ((changes effect).0, (changes effect).1, over_knows new (after_effect call effect f) (changes effect).0.1 over))

pub sound : Laws → Sound next_call Goes (Refuses Shown phases.Over) (Stops phases.Over) StandsBeside MakesBeside KnowsBeside
sound laws = record {
  changes = λ m f b stands known. changes_at laws b.0 f b.1 stands m known;
  went = λ m new answer f b goes stands known. went_at laws b.0 f b.1 stands m answer new goes known;
  refused = λ m new answer refusal f b refuses stands known. IfSome_then (next_call m)
      (failed_at laws b.0 f b.1 stands m new effects.Whole refuses.1 known) (λ call leads told. leads);
  failed = λ m new effect f b stops stands known. IfSome_then (next_call m) (failed_at laws b.0 f b.1 stands m new effect stops known)
      (λ call leads may. leads);
  stopped = λ m new f b called stops stands known. over_knows laws b.0 f b.1 stands new f b.1 stops;
}

-- ---- what stays

abbrev pub FoundStays : Type 0
FoundStays = (m : read_phase.Phase) (other : Actor) (f after : Files) (p q : Past) → Stands f p → Advances other f p after q
    → reading_meaning.Knows m f p → reading_meaning.Knows m after q

abbrev pub WholeStays : Type 0
WholeStays = (m : whole_phase.Phase) (other : Actor) (f after : Files) (p q : Past) → Stands f p → Advances other f p after q
    → whole_meaning.Knows m f p → whole_meaning.Knows m after q

abbrev pub RemovalsStay : Type 0
RemovalsStay = (x : Expiry) (left : List (List ℕ)) (me : Actor) (f after : Files) (p q : Past) → Stands f p
    → Advances me f p after q → KnowsRemovals x left f p → KnowsRemovals x left after q

pub record Stay : Type 0 where
  pub announced : AnnouncedStays
  pub found : FoundStays
  pub viewed : WholeStays
  pub removals : RemovalsStay
  pub between : BetweenStays

pub knows_still : Stay → (m : Phase) (other : Actor) (f after : Files) (p q : Past) → Stands f p → Advances other f p after q → Knows m f p → Knows m after q
knows_still laws (phases.Read m) other f after p q stands advances (plain, known) = (plain, laws.found m other f after p q stands advances known)
knows_still laws (phases.Announce m) other f after p q stands advances known = laws.announced m other f after p q stands advances known
knows_still laws (phases.View v m) other f after p q stands advances known = record {
  some = known.some;
  from = known.from;
  to = known.to;
  order = known.order;
  end = laws.announced (announcers.Announced v.announced) other f after p q stands advances known.end;
  views = views_still v other f after p q advances known.views;
  reader = laws.viewed m other f after p q stands advances known.reader;
}
knows_still laws (phases.Remove first last (removers.Remove r)) other f after p q stands advances (x, end, order, oldest, newest, known) = (
  x,
  end,
  order,
  known-still other f after p q first advances oldest,
  known-still other f after p q last advances newest,
  laws.removals x (r.next ∷ r.rest) other f after p q stands advances known,
)
knows_still laws (phases.Remove first last removers.Removed) other f after p q stands advances known =
    done_still laws.between first last other f after p q stands advances known
knows_still laws (phases.Remove first last removers.Over) other f after p q stands advances known = tt
knows_still laws (phases.Done first last) other f after p q stands advances known =
    done_still laws.between first last other f after p q stands advances known
knows_still laws phases.Over other f after p q stands advances known = tt

-- ---- images

pub images : Sound next_call Goes (Refuses Shown phases.Over) (Stops phases.Over) StandsBeside MakesBeside KnowsBeside → (me : Actor) (m : Phase) (call : Call)
    (f image : Files) (p : Past) → next_call m ≡ Some call → Stands f p → Knows m f p → MayLeave call f image → (later : Past) × Makes me m f p image later
images law me m call f image p is stands known left =
    let changes : Changes (MakesBeside m) call f (me, p) = rw is at (law.changes m f (me, p) stands known) in
    let led = image_changed (MakesBeside m) call f (me, p) changes image left in
    own led.0.0 led.0.1 led.1.0 led.1.1
  where
    own : (one : Actor) (later : Past) → one ≡ me → Makes me m f p image later → (later : Past) × Makes me m f p image later
    own one later same change = (later, change)
