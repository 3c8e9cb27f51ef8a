-- An announcer keeps the laws of machines.
use Rattle.std.proofs.Common.{◌≡◌, ◌⊎◌, inl, inr, ℕ, ◌+◌, ◌<◌, List, [], ◌∷◌, ◌++◌, is_none, if◌then◌else◌, Option, None, Some, IsSome, IfErr, IfSome, Result, Ok, Err, refl, sym, ap, ◌∙◌, subst, arith}
use Rattle.std.specs.FinMap as map
use Rattle.std.proofs.lemmas.Option.{IfSome_then}
use Rattle.pm_values.specs.declared.refusal.Refusal.{Refusal}
use Rattle.pm_values.specs.declared.refusal.Refusal.TheVariants as refusals
use Rattle.pm_store.specs.declared.answer.Answer.{Answer}
use Rattle.pm_store.specs.declared.answer.Answer.TheVariants as answers
use Rattle.pm_store.specs.declared.answer.Made.{Made}
use Rattle.pm_store.specs.declared.call.Call.{Call}
use Rattle.pm_store.specs.declared.call.Effect.{Effect}
use Rattle.pm_store.specs.declared.call.Effect.TheVariants as effects
use Rattle.pm_store.specs.declared.call.Op.{Op}
use Rattle.pm_store.specs.Answers.{Answers, MayAnswer}
use Rattle.pm_store.specs.Files.{Files, after_effect, carried, files_after}
use Rattle.pm_store.specs.Images.{MayLeave}
use Rattle.pm_store.specs.Store.{StoreView}
use Rattle.pm_store.proofs.ChangeLaws.{Puts-insert}
use Rattle.pm_store.proofs.StepLaws.{Steps-weaker}
use Rattle.pm_machine.specs.Moves.{Changes, Keeps, Leads, Moves, Sound}
use Rattle.pm_machine.specs.Running.{Refuses, Stops}
use Rattle.pm_machine.specs.Step.{path_of}
use Rattle.pm_machine.specs.Trace.{Event, Recounts, answered, faulted}
use Rattle.pm_machine.proofs.Facts.{image_changed}
use Rattle.pm_machine.proofs.PhaseFacts.{both_if}
use Rattle.pm_model_folder.specs.Changes.{Actor}
use Rattle.pm_model_folder.specs.Ledger.{Advances, Past, Stands}
use Rattle.pm_model_folder.specs.Paths.{floor_path}
use Rattle.pm_read_schema.proofs.Facts.{list_effect}
use Rattle.pm_consumers.specs.Lister as consumers
use Rattle.pm_consumers.specs.Trace as consumers_trace
use Rattle.pm_consumers.specs.declared.phase.Phase as consuming
use Rattle.pm_consumers.specs.declared.phase.Phase.TheVariants as consumer_listers
use Rattle.pm_consumers.proofs.Facts as consumers_facts
use Rattle.pm_read_expiry.specs.declared.asking.Found.{Found}
use Rattle.pm_announce.specs.Announcer.{announce_call, announced_of, calls_left, end_after, next_call, reached_at, tags_call, AfterConsumers, AfterEnd, Goes, IsAnnouncer, Reaches, Shown}
use Rattle.pm_announce.specs.Announcer.{all_consumers, more_consumers, none_goes, some_goes}
use Rattle.pm_announce.specs.Meaning.{Announces, AnnouncerTold, Beside, IsTold, Knows, KnowsEnd, KnowsBeside, KnowsFloor, KnowsOf, KnowsReading, Makes, MakesBeside, StandsBeside, TellsBeside}
use Rattle.pm_announce.specs.Tags.{first_tag, tag_folder}
use Rattle.pm_announce.specs.Trace.{announces, Did, HasFloor, HasRead, IsToList, Shows}
use Rattle.pm_announce.specs.declared.phase.Announced.{Announced}
use Rattle.pm_announce.specs.declared.phase.Phase.{Phase}
use Rattle.pm_announce.specs.declared.phase.Phase.TheVariants as phases
use Rattle.pm_announce.proofs.KnowsLemmas.{Laws, Stay, all_known, appears, end_still, floor_known, floor_still, of_still, reading_next, rests}

-- ---- what its calls may leave

-- files with these bytes at a path where it was absent
left : (path content : List ℕ) (f : Files) (P : Files → Type 0) → P f → (map.get f path ≡ None → P (map.insert f path content))
    → (at : Option (List ℕ)) → map.get f path ≡ at → P (if is_none at then map.insert f path content else f)
left path content f P same made None absent = made absent
left path content f P same made (Some found) is = same

-- each effect of the call that creates the floor
created : (x : Found) (f : Files) (P : Files → Type 0) → P f → ((content : List ℕ) → map.get f (floor_path x.end) ≡ None → P (map.insert f (floor_path x.end) content))
    → (effect : Effect) → P (after_effect (announce_call x) effect f)
created x f P same made effects.None = same
created x f P same made (effects.Part None) = same
created x f P same made (effects.Part (Some found)) = left (floor_path x.end) found f P same (made found) (map.get f (floor_path x.end)) refl
created x f P same made effects.Whole = left (floor_path x.end) [] f P same (made []) (map.get f (floor_path x.end)) refl

-- once it was carried out the floor is there
there : (path : List ℕ) (f : Files) (P : Files → Type 0) → (IsSome (map.get f path) → P f) → (map.get f path ≡ None → P (map.insert f path []))
    → (at : Option (List ℕ)) → map.get f path ≡ at → P (if is_none at then map.insert f path [] else f)
there path f P same made None absent = made absent
there path f P same made (Some found) is = same (subst (λ (o : Option (List ℕ)). IsSome o) (sym is) refl)

module _ (laws : Laws) (me : Actor) (f : Files) (p : Past) (stands : Stands f p) where
  floor_appears : (x : Found) (content : List ℕ) → KnowsOf x f p → map.get f (floor_path x.end) ≡ None
      → Announces me x f p (map.insert f (floor_path x.end) content) p
  floor_appears x content known absent =
      appears laws me x f (map.insert f (floor_path x.end) content) p content stands known absent (Puts-insert f (floor_path x.end) content)

  changes_at : (m : Phase) → Knows m f p → IfSome (next_call m) (λ call. Changes (Makes me m) call f p)
  changes_at (phases.Announce x) known =
      created x f (λ g. (later : Past) × Announces me x f p g later) (p, rests me x f f p (λ q. refl))
      (λ content absent. (p, floor_appears x content known absent))
  changes_at (phases.Consumers x c) known = IfSome_then (consumers.next_call c) (consumers_facts.spares c f)
      (λ call same effect. (p, record { files = λ q. ap (λ (g : Files). map.get g q) (same effect); past = refl }))
  changes_at (phases.Tags a) known = λ effect. (p, record { files = λ q. ap (λ (g : Files). map.get g q) (list_effect tag_folder effect f); past = refl })
  changes_at (phases.Announced a) known = tt
  changes_at phases.Over known = tt

  -- ---- what it knows afterwards

  -- the floor appeared
  floor_made : (x : Found) → KnowsOf x f p → map.get f (floor_path x.end) ≡ None
      → Leads (Makes me (phases.Announce x)) (Knows (phases.Consumers x consumer_listers.List)) f p (map.insert f (floor_path x.end) [])
  floor_made x known absent =
      let after : Files = map.insert f (floor_path x.end) [] in
      let change = floor_appears x [] known absent in
      let here : map.get after (floor_path x.end) ≡ Some [] = (Puts-insert f (floor_path x.end) []).here in (
        p,
        change,
        floor_known laws x after p (laws.stays me f after p p stands change.advances)
            (of_still laws.found x me f after p p stands change.advances known) (subst (λ (o : Option (List ℕ)). IsSome o) (sym here) refl),
      )

  went_first : (x : Found) → KnowsOf x f p
      → Leads (Makes me (phases.Announce x)) (Knows (phases.Consumers x consumer_listers.List)) f p (carried (announce_call x) f)
  went_first x known =
      there (floor_path x.end) f (λ g. Leads (Makes me (phases.Announce x)) (Knows (phases.Consumers x consumer_listers.List)) f p g)
      (λ here. (p, rests me x f f p (λ q. refl), floor_known laws x f p stands known here)) (floor_made x known) (map.get f (floor_path x.end)) refl

  end_known : (a : Announced) (new : Phase) → AfterEnd a new → KnowsEnd a.found a.end f p → Knows new f p
  end_known a new (none_goes none is) known = subst (λ (m : Phase). Knows m f p) (sym is) known
  end_known a new (some_goes some is) known = subst (λ (m : Phase). Knows m f p) (sym is) known

  after_known : (x : Found) (to : consuming.Phase) (new : Phase) → AfterConsumers x to new → KnowsFloor x to f p → Knows new f p
  after_known x to new (more_consumers more is) known = subst (λ (m : Phase). Knows m f p) (sym is) known
  after_known x to new (all_consumers next done least end) known =
      end_known (announced_of x (end_after x next)) new end (all_known x to next f p done least known)

  -- where the files are the same
  kept : (x : Found) (c : consuming.Phase) (new : Phase) (after : Files) → after ≡ f → Knows new f p
      → Leads (Makes me (phases.Consumers x c)) (Knows new) f p after
  kept x c new after same known = (
    p,
    record { files = λ q. ap (λ (g : Files). map.get g q) same; past = refl },
    subst (λ (g : Files). Knows new g p) (sym same) known,
  )

  went_at : (m : Phase) (answer : Answer) (new : Phase) → Goes m answer new → Knows m f p
      → IfSome (next_call m) (λ call. Answers call answer f → Leads (Makes me m) (Knows new) f p (carried call f))
  went_at (phases.Announce x) (answers.Made answer) new is known = λ told.
      subst (λ (n : Phase). Leads (Makes me (phases.Announce x)) (Knows n) f p (carried (announce_call x) f)) (sym is) (went_first x known)
  went_at (phases.Consumers x c) answer new (to, on, after) known = both_if (consumers.next_call c) _ _ _
      (λ call same next told. kept x c new (carried call f) (same effects.Whole) (after_known x to new after (more (next told))))
      (consumers_facts.spares c f) (reading_next laws x c to answer f p on stands known)
    where
      more : KnowsReading x to f p → KnowsFloor x to f p
      more reading = record { of = known.of; announced = known.announced; reading = reading }
  went_at (phases.Tags a) (answers.Listed files) new (none, is) known = λ told.
      (p, record { files = λ q. refl; past = refl }, subst (λ (m : Phase). Knows m f p) (sym is) known)
  went_at m answer new goes known = absurd goes

  over_knows : (new : Phase) (after : Files) (later : Past) → new ≡ phases.Over → Knows new after later
  over_knows new after later over = subst (λ (m : Phase). Knows m after later) (sym over) tt

  failed_at : (m new : Phase) (effect : Effect) → new ≡ phases.Over → Knows m f p
      → IfSome (next_call m) (λ call. Leads (Makes me m) (Knows new) f p (after_effect call effect f))
  failed_at m new effect over known = IfSome_then (next_call m) (changes_at m known)
      (λ call changes. ((changes effect).0, (changes effect).1, over_knows new (after_effect call effect f) (changes effect).0 over))

-- ---- the actor beside the past

with_actor : (me : Actor) (m new : Phase) (f after : Files) (p : Past) → Leads (Makes me m) (Knows new) f p after
    → Leads (MakesBeside m) (KnowsBeside new) f (me, p) after
with_actor me m new f after p leads = ((me, leads.0), (refl, leads.1), leads.2)

pub sound : Laws → Sound next_call Goes (Refuses Shown phases.Over) (Stops phases.Over) StandsBeside MakesBeside KnowsBeside
sound laws = record {
  changes = λ m f b stands known. IfSome_then (next_call m) (changes_at laws b.0 f b.1 stands m known)
      (λ call changes effect. ((b.0, (changes effect).0), (refl, (changes effect).1)));
  went = λ m new answer f b goes stands known. IfSome_then (next_call m) (went_at laws b.0 f b.1 stands m answer new goes known)
      (λ call leads told. with_actor b.0 m new f (carried call f) b.1 (leads told));
  refused = λ m new answer refusal f b refuses stands known. IfSome_then (next_call m)
      (failed_at laws b.0 f b.1 stands m new effects.Whole refuses.1 known)
      (λ call leads told. with_actor b.0 m new f (carried call f) b.1 leads);
  failed = λ m new effect f b stops stands known. IfSome_then (next_call m) (failed_at laws b.0 f b.1 stands m new effect stops known)
      (λ call leads may. with_actor b.0 m new f (after_effect call effect f) b.1 leads);
  stopped = λ m new f b called stops stands known. over_knows laws b.0 f b.1 stands new f b.1 stops;
}

keeps_of : (me : Actor) (old : Phase) (knows : Files → Past → Type 0) (op : Op) (f : Files)
    → Keeps StandsBeside (MakesBeside old) (KnowsBeside old) (λ f b. knows f b.1) op f → Keeps Stands (Makes me old) (Knows old) knows op f
keeps_of me old knows op f keeps p stands known =
    let both = keeps (me, p) stands known in
    let after : Files = after_effect op.call op.effect f in (
      λ effect. at (after_effect op.call effect f) (both.0 effect),
      led after both.1,
    )
  where
    at : (after : Files) → ((later : Beside) × MakesBeside old f (me, p) after later) → (later : Past) × Makes me old f p after later
    at after (later, change) = (later.1, change.1)

    led : (after : Files) → Leads (MakesBeside old) (λ f b. knows f b.1) f (me, p) after → Leads (Makes me old) knows f p after
    led after (later, change, known) = (later.1, change.1, known)

-- what a step does whoever stands beside the past, it does to the past
pub moves_of : (me : Actor) (old : Phase) (knows : Files → Past → Type 0) (before after : StoreView)
    → Moves StandsBeside (MakesBeside old) (KnowsBeside old) (λ f b. knows f b.1) before after → Moves Stands (Makes me old) (Knows old) knows before after
moves_of me old knows before after (inl (op, own, steps)) = inl (
  op,
  own,
  Steps-weaker op (λ ops. Keeps StandsBeside (MakesBeside old) (KnowsBeside old) (λ f b. knows f b.1) op (files_after ops))
      (λ ops. Keeps Stands (Makes me old) (Knows old) knows op (files_after ops)) before after
      (λ ops keeps. keeps_of me old knows op (files_after ops) keeps) steps,
)
moves_of me old knows before after (inr (meanwhile, same)) = inr (meanwhile, λ f p stands known. same f (me, p) stands known)

-- and what it tells of that
pub told_of : {Step : Type 0} (old : Phase) (result : Result Step Refusal) (before after : StoreView)
    → IfErr result (λ refusal. Moves StandsBeside (MakesBeside old) (KnowsBeside old) (TellsBeside refusal) before after)
    → IfErr result (λ refusal. AnnouncerTold old refusal before after)
told_of old (Ok step) before after told = tt
told_of old (Err refusal) before after told = λ me. moves_of me old (IsTold refusal) before after told

-- ---- its calls

-- a call more of the lister of consumers
floor_with : (x : Found) (P Q : List Event → Type 0) (own : List Event) (event : Event) → (has : HasFloor x P own) → Q (has.rest ++ event ∷ [])
    → HasFloor x Q (own ++ event ∷ [])
floor_with x P Q own event has more = record {
  answer = has.answer;
  rest = has.rest ++ event ∷ [];
  then_consumers = more;
  is = ap (λ (own : List Event). own ++ event ∷ []) has.is;
}

floor_so : (x : Found) (P Q : List Event → Type 0) (own : List Event) → (has : HasFloor x P own) → Q has.rest → HasFloor x Q own
floor_so x P Q own has more = record { answer = has.answer; rest = has.rest; then_consumers = more; is = has.is }

-- the end is known
end_did : (x : Found) (a : Announced) (new : Phase) (own : List Event) → AfterEnd a new → a.found ≡ x → HasRead x a.end own → Did x new own
end_did x a new own (none_goes none is) same read =
    subst (λ (m : Phase). Did x m own) (sym is) (same, inl (none ∙ ap (λ (z : Found). z.first) same, read))
end_did x a new own (some_goes some is) same read =
    subst (λ (m : Phase). Did x m own) (sym is) (same, (subst (λ (z : Found). z.first < a.end) same some, read))

after_did : (x y : Found) (to : consuming.Phase) (new : Phase) (own : List Event) → y ≡ x → AfterConsumers y to new → HasFloor x (consumers_trace.Did to) own
    → Did x new own
after_did x y to new own same (more_consumers more is) has = subst (λ (m : Phase). Did x m own) (sym is) (same, has)
after_did x y to new own same (all_consumers next done least end) has =
    let cs = consumers.consumers_in to in
    let read = floor_so x (consumers_trace.Did to) (consumers_trace.HasListed cs) own has (consumers_facts.listed_all to has.rest done has.then_consumers) in
    end_did x (announced_of y (end_after y next)) new own end same (cs, next, least, ap (λ (z : Found). end_after z next) same, read)

went_on : (x : Found) (m : Phase) (answer : Answer) (new : Phase) (own : List Event) → Goes m answer new → Did x m own
    → IfSome (next_call m) (λ call. MayAnswer call answer → Did x new (own ++ answered call answer ∷ []))
went_on x (phases.Announce y) (answers.Made answer) new own is (same, none) = λ may.
    let first : own ++ answered (announce_call y) (answers.Made answer) ∷ [] ≡ announces x answer ∷ [] =
    ap (λ (own : List Event). own ++ answered (announce_call y) (answers.Made answer) ∷ []) none ∙ ap (λ (z : Found). announces z answer ∷ []) same in
    let has : HasFloor x (consumers_trace.Did consumer_listers.List) (own ++ answered (announce_call y) (answers.Made answer) ∷ []) =
    record { answer = answer; rest = []; then_consumers = refl; is = first } in
    subst (λ (m : Phase). Did x m (own ++ answered (announce_call y) (answers.Made answer) ∷ [])) (sym is) (same, has)
went_on x (phases.Consumers y c) answer new own (to, on, after) (same, has) =
    IfSome_then (consumers.next_call c) (consumers_facts.recounts.went c to answer has.rest on has.then_consumers)
    (λ call did may. after_did x y to new (own ++ answered call answer ∷ []) same after
    (floor_with x (consumers_trace.Did c) (consumers_trace.Did to) own (answered call answer) has (did may)))
went_on x (phases.Tags a) (answers.Listed files) new own (none, is) (same, to_list) = λ may.
    subst (λ (m : Phase). Did x m (own ++ answered tags_call (answers.Listed files) ∷ [])) (sym is)
    (same, inr (record { earlier = own; files = files; to_list = to_list; first = none; is = refl }))
went_on x m answer new own goes did = absurd goes

refused_on : (x : Found) (m : Phase) (answer : Answer) (refusal : Refusal) (own : List Event) → Shown m answer refusal → Did x m own
    → IfSome (next_call m) (λ call. MayAnswer call answer → Shows x refusal (own ++ answered call answer ∷ []))
refused_on x (phases.Consumers y c) answer refusal own shown (same, has) =
    IfSome_then (consumers.next_call c) (consumers_facts.recounts.refused c consumer_listers.Over answer refusal has.rest (shown, refl) has.then_consumers)
    (λ call shows may. inr (inl (floor_with x (consumers_trace.Did c) (consumers_trace.Shows refusal) own (answered call answer) has (shows may).1)))
refused_on x (phases.Tags a) (answers.Listed files) refusal own (inl memory) (same, to_list) = λ may.
    let own_then : List Event = own ++ answered tags_call (answers.Listed files) ∷ [] in
    subst (λ (refusal : Refusal). Shows x refusal own_then) (sym memory)
    (inr (inr (a.end, inr (first_tag files.items, record { earlier = own; files = files; to_list = to_list; first = refl; is = refl }))))
refused_on x (phases.Tags a) (answers.Listed files) refusal own (inr (name, first, is)) (same, to_list) = λ may.
    let own_then : List Event = own ++ answered tags_call (answers.Listed files) ∷ [] in
    subst (λ (refusal : Refusal). Shows x refusal own_then) (sym is)
    (inr (inr (refl, (a.end, record { earlier = own; files = files; to_list = to_list; first = first; is = refl }))))
refused_on x m answer refusal own shown did = absurd shown

failed_on : (x : Found) (m : Phase) (own : List Event) → Did x m own
    → IfSome (next_call m) (λ call. Shows x (refusals.StoreFault (path_of call)) (own ++ faulted call ∷ []))
failed_on x (phases.Announce y) own (same, none) = inl (
  ap (λ (z : Found). floor_path z.end) same,
  ap (λ (own : List Event). own ++ faulted (announce_call y) ∷ []) none ∙ ap (λ (z : Found). faulted (announce_call z) ∷ []) same,
)
failed_on x (phases.Consumers y c) own (same, has) =
    IfSome_then (consumers.next_call c) (consumers_facts.recounts.failed c consumer_listers.Over has.rest refl has.then_consumers)
    (λ call shows. inr (inl
    (floor_with x (consumers_trace.Did c) (consumers_trace.Shows (refusals.StoreFault (path_of call))) own (faulted call) has shows.1)))
failed_on x (phases.Tags a) own (same, to_list) = inr (inr (a.end, own, to_list, refl, refl))
failed_on x (phases.Announced a) own did = tt
failed_on x phases.Over own did = tt

stopped_on : (x : Found) (m : Phase) (own : List Event) → IsSome (next_call m) → Did x m own → Shows x refusals.Memory own
stopped_on x (phases.Announce y) own called (same, none) = inl none
stopped_on x (phases.Consumers y c) own called (same, has) =
    let shows = (consumers_facts.recounts.stopped c consumer_listers.Over has.rest called refl has.then_consumers).1 in
    inr (inl (floor_so x (consumers_trace.Did c) (consumers_trace.Shows refusals.Memory) own has shows))
stopped_on x (phases.Tags a) own called (same, to_list) = inr (inr (a.end, inl to_list))
stopped_on x (phases.Announced a) own called did = absurd (let clash = called in cc)
stopped_on x phases.Over own called did = absurd (let clash = called in cc)

over_did : (x : Found) (new : Phase) (refusal : Refusal) (own : List Event) → new ≡ phases.Over → Shows x refusal own → Did x new own × Shows x refusal own
over_did x new refusal own over shows = (subst (λ (m : Phase). Did x m own) (sym over) (refusal, shows), shows)

pub recounts : (x : Found) → Recounts next_call Goes (Refuses Shown phases.Over) (Stops phases.Over) (Did x) (Shows x)
recounts x = record {
  went = λ m new answer own goes did. went_on x m answer new own goes did;
  refused = λ m new answer refusal own refuses did. IfSome_then (next_call m) (refused_on x m answer refusal own refuses.0 did)
      (λ call shows may. over_did x new refusal (own ++ answered call answer ∷ []) refuses.1 (shows may));
  failed = λ m new own stops did. IfSome_then (next_call m) (failed_on x m own did)
      (λ call shows. over_did x new (refusals.StoreFault (path_of call)) (own ++ faulted call ∷ []) stops shows);
  stopped = λ m new own called stops did. over_did x new refusals.Memory own stops (stopped_on x m own called did);
}

-- ---- how far it has come

abbrev IsAhead : ℕ → Phase → Type 0
IsAhead n m = (calls_left m < n) × Reaches (reached_at m) m × Unit {0}

end_ahead : (a : Announced) (n : ℕ) (new : Phase) → 0 < n → AfterEnd a new → IsAhead (n + 1) new
end_ahead a n new some (none_goes none is) = subst (IsAhead (n + 1)) (sym is) (omega arith, tt, tt)
end_ahead a n new some (some_goes goes is) = subst (IsAhead (n + 1)) (sym is) (omega (arith, some), omega arith, tt)

after_ahead : (x : Found) (n : ℕ) (to : consuming.Phase) (new : Phase) → consumers.calls_left to < n → AfterConsumers x to new → IsAhead (n + 1) new
after_ahead x n to new fewer (more_consumers more is) = subst (IsAhead (n + 1)) (sym is) (omega (arith, fewer), omega arith, tt)
after_ahead x n to new fewer (all_consumers next done least end) =
    end_ahead (announced_of x (end_after x next)) n new (omega (arith, fewer)) end

-- an answer that it goes on with leaves fewer calls
pub goes : (m : Phase) (answer : Answer) (new : Phase) → Goes m answer new
    → (calls_left new < calls_left m) × Reaches (reached_at new) new × Unit {0}
goes (phases.Announce x) (answers.Made answer) new is =
    subst (IsAhead (consumers.calls_left consumer_listers.List + 2)) (sym is) (omega arith, omega arith, tt)
goes (phases.Consumers x c) answer new (to, on, after) =
    after_ahead x (consumers.calls_left c) to new (consumers_facts.goes_ahead c answer to on).0 after
goes (phases.Tags a) (answers.Listed files) new (none, is) = subst (IsAhead 1) (sym is) (omega arith, tt, tt)
goes m answer new on = absurd on

-- an announcer with calls left has a next one
pub has_call : (m : Phase) → IsAnnouncer m → 0 < calls_left m → IsSome (next_call m)
has_call (phases.Announce x) is left = refl
has_call (phases.Consumers x c) is left = consumers_facts.has_call c is.1
has_call (phases.Tags a) is left = refl
has_call (phases.Announced a) is left = absurd (let none : 0 < 0 = left in omega (arith, none))
has_call phases.Over is left = absurd (let none : 0 < 0 = left in omega (arith, none))

-- ---- laws

pub knows_still : Stay → (m : Phase) (other : Actor) (f after : Files) (p q : Past) → Stands f p → Advances other f p after q → Knows m f p → Knows m after q
knows_still laws (phases.Announce x) other f after p q stands advances known = of_still laws.found x other f after p q stands advances known
knows_still laws (phases.Consumers x c) other f after p q stands advances known = floor_still laws other f after p q stands advances x c known
knows_still laws (phases.Tags a) other f after p q stands advances known = end_still laws other f after p q stands advances a.found a.end known
knows_still laws (phases.Announced a) other f after p q stands advances known = end_still laws other f after p q stands advances a.found a.end known
knows_still laws phases.Over other f after p q stands advances known = tt

pub images : Laws → (me : Actor) (m : Phase) (call : Call) (f image : Files) (p : Past) → next_call m ≡ Some call → Stands f p → Knows m f p
    → MayLeave call f image → (later : Past) × Makes me m f p image later
images laws me m call f image p is stands known left =
    let changes : Changes (Makes me m) call f p = rw is at (changes_at laws me f p stands m known) in
    image_changed (Makes me m) call f p changes image left
