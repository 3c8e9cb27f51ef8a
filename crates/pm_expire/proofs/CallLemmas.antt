-- How far an expirer has come.
use Rattle.std.proofs.Common.{◌≡◌, ◌⊎◌, inl, inr, ℕ, ◌+◌, ◌<◌, ◌≤◌, Option, None, Some, IsSome, IfErr, Result, Ok, Err, refl, sym, ap, ◌∙◌, subst, arith}
use Rattle.pm_values.specs.declared.refusal.Refusal.{Refusal}
use Rattle.pm_store.specs.declared.answer.Answer.{Answer}
use Rattle.pm_store.specs.declared.answer.Answer.TheVariants as answers
use Rattle.pm_store.specs.Store.{StoreView}
use Rattle.pm_store.specs.Files.{Files, after_effect, files_after}
use Rattle.pm_store.specs.declared.call.Op.{Op}
use Rattle.pm_store.proofs.StepLaws.{Steps-weaker}
use Rattle.pm_machine.specs.Moves.{Keeps, Leads, Moves}
use Rattle.pm_model_folder.specs.Changes.{Actor}
use Rattle.pm_model_folder.specs.Ledger.{Past, Stands}
use Rattle.pm_remove.specs.declared.phase.Phase as remove_phase
use Rattle.pm_remove.specs.declared.phase.Phase.TheVariants as removers
use Rattle.pm_remove.specs.Remover as removing
use Rattle.pm_remove.proofs.Facts as removing_facts
use Rattle.pm_expire_paths.specs.Dropping.{DroppingView}
use Rattle.pm_read_whole.specs.Whole as whole
use Rattle.pm_read_whole.specs.declared.phase.Phase as whole_phase
use Rattle.pm_read_whole.proofs.Facts as whole_facts
use Rattle.pm_read_expiry.specs.Reader as reading
use Rattle.pm_read_expiry.specs.declared.asking.Found.{Found}
use Rattle.pm_read_expiry.specs.declared.phase.Phase as read_phase
use Rattle.pm_read_expiry.proofs.Facts as reading_facts
use Rattle.pm_announce.specs.Announcer as announcing
use Rattle.pm_announce.specs.Announcer.{all_consumers, end_after, more_consumers}
use Rattle.pm_announce.specs.declared.phase.Announced.{Announced}
use Rattle.pm_announce.specs.declared.phase.Phase as announce_phase
use Rattle.pm_announce.specs.declared.phase.Phase.TheVariants as announcers
use Rattle.pm_announce.proofs.Facts as announcing_facts
use Rattle.pm_expire.specs.Expirer.{announce_calls, calls_left, calls_to, most_paths, next_call, reached_at, view_calls, views_left, AfterAdding, AfterAnnounce, AfterRead, AfterRemove, AfterView, Goes, IsExpirer, Reaches}
use Rattle.pm_expire.specs.Expirer.{announces_on, none_goes, none_goes_then, reads_on, removed_all, removes_on, some_goes, view_read, views_all, views_first, views_next, views_on}
use Rattle.pm_expire.specs.Meaning.{Beside, ExpirerTold, IsTold, Knows, KnowsBeside, Makes, MakesBeside, StandsBeside, TellsBeside}
use Rattle.pm_expire.specs.declared.phase.Phase.{Phase}
use Rattle.pm_expire.specs.declared.phase.Phase.TheVariants as phases
use Rattle.pm_expire.specs.declared.phase.Views.{Views}
use Rattle.pm_expire.proofs.PhaseLemmas.{announcer_left, remover_left, removals_left}

-- fewer calls than that are left, and what was reached
abbrev IsAhead : ℕ → Phase → Type 0
IsAhead n m = (calls_left m < n) × Reaches (reached_at m) m × Unit {0}

some_left : {X : Type 0} (n : ℕ) → (X → ⊥) → X ⊎ (0 < n) → 0 < n
some_left n not (inl so) = absurd (not so)
some_left n not (inr some) = some

read_ahead : (n : ℕ) (to : read_phase.Phase) (new : Phase) → AfterRead to new → reading.calls_left to < n
    → IsAhead (n + (announce_calls + (view_calls + calls_to 0 most_paths))) new
read_ahead n to new (reads_on more is) fewer =
    subst (IsAhead (n + (announce_calls + (view_calls + calls_to 0 most_paths)))) (sym is) (omega (arith, fewer), omega arith, tt)
read_ahead n to new (none_goes x at end order is) fewer =
    subst (IsAhead (n + (announce_calls + (view_calls + calls_to 0 most_paths)))) (sym is) (omega arith, refl, tt)
read_ahead n to new (some_goes x at goes within is) fewer =
    subst (IsAhead (n + (announce_calls + (view_calls + calls_to 0 most_paths)))) (sym is) (omega (arith, fewer, within), omega arith, tt)

-- the announcer goes on with what was found
views_same : (m to : announce_phase.Phase) (answer : Answer) → announcing.Goes m answer to → (announcing.IsReady to → ⊥) → views_left to ≡ views_left m
views_same (announcers.Announce x) to (answers.Made answer) is not = ap views_left is
views_same (announcers.Consumers x c) to answer (new, on, more_consumers more is) not = ap views_left is
views_same (announcers.Consumers x c) to answer (new, on, all_consumers next done least (announcing.none_goes none is)) not =
    absurd (not (subst announcing.IsReady (sym is) tt))
views_same (announcers.Consumers x c) to answer (new, on, all_consumers next done least (announcing.some_goes some is)) not = ap views_left is
views_same (announcers.Tags a) to (answers.Listed files) (none, is) not = absurd (not (subst announcing.IsReady (sym is) tt))
views_same m to answer goes not = absurd goes

end_below : (x : Found) (next : Option ℕ) → x.first ≤ x.end → end_after x next ≤ x.end
end_below x None low = omega arith
end_below x (Some next) low = omega (arith, low)

one_announced : (a b : Announced) → announcers.Announced a ≡ announcers.Announced b → a ≡ b
one_announced a b is = cc

views_begun : (m to : announce_phase.Phase) (answer : Answer) (a : Announced) → announcing.IsAnnouncer m → announcing.Goes m answer to → to ≡ announcers.Announced a
    → view_calls + calls_to a.found.first a.end ≤ views_left m
views_begun (announcers.Announce x) to (answers.Made answer) a is at here =
    absurd (let clash : announcers.Announced a ≡ _ = sym here ∙ at in cc)
views_begun (announcers.Consumers x c) to answer a is (new, on, more_consumers more at) here =
    absurd (let clash : announcers.Announced a ≡ announcers.Consumers x new = sym here ∙ at in cc)
views_begun (announcers.Consumers x c) to answer a is (new, on, all_consumers next done least (announcing.some_goes some at)) here =
    absurd (let clash : announcers.Announced a ≡ _ = sym here ∙ at in cc)
views_begun (announcers.Consumers x c) to answer a is (new, on, all_consumers next done least (announcing.none_goes none at)) here =
    let same = one_announced a (announcing.announced_of x (end_after x next)) (sym here ∙ at) in
    let first = ap (λ (a : Announced). a.found.first) same in
    let end = ap (λ (a : Announced). a.end) same in
    let low = is.0.first in
    let high = end_below x next (omega (arith, low)) in
    omega (arith, first, end, high)
views_begun (announcers.Tags b) to (answers.Listed files) a is (none, at) here =
    let same = one_announced a b (sym here ∙ at) in
    let first = ap (λ (a : Announced). a.found.first) same in
    let end = ap (λ (a : Announced). a.end) same in
    let high = is.0.last in
    omega (arith, first, end, high)
views_begun m to answer a is goes here = absurd goes

announce_ahead : (m to : announce_phase.Phase) (answer : Answer) (new : Phase) → announcing.IsAnnouncer m → announcing.Goes m answer to → AfterAnnounce to new
    → IsAhead (announcing.calls_left m + views_left m) new
announce_ahead m to answer new is on (announces_on not at) =
    let fewer = (announcing_facts.goes m answer to on).0 in
    let same = views_same m to answer on not in
    let some = some_left (announcing.calls_left to) not (announcer_left m answer to on) in
    subst (IsAhead (announcing.calls_left m + views_left m)) (sym at) (omega (arith, fewer, same), omega (arith, some), tt)
announce_ahead m to answer new is on (none_goes_then a here end at) =
    let fewer = (announcing_facts.goes m answer to on).0 in
    subst (IsAhead (announcing.calls_left m + views_left m)) (sym at) (omega (arith, fewer), refl, tt)
announce_ahead m to answer new is on (views_first a d here order less none at) =
    let fewer = (announcing_facts.goes m answer to on).0 in
    let begun = views_begun m to answer a is on here in
    subst (IsAhead (announcing.calls_left m + views_left m)) (sym at) (omega (arith, fewer, begun), omega arith, tt)

added_ahead : (a : Announced) (d : DroppingView) (id n : ℕ) (new : Phase) → a.found.first < a.end → 0 < n → AfterAdding a d id new → IsAhead (n + calls_to id a.end) new
added_ahead a d id n new less some (views_next below is) = subst (IsAhead (n + calls_to id a.end)) (sym is) (omega (arith, below, some), omega arith, tt)
added_ahead a d id n new less some (views_all paths at are is) =
    let within = are.within in
    let size = removing_facts.next_left paths in
    subst (IsAhead (n + calls_to id a.end)) (sym is) (omega (arith, within, size, some), removals_left a paths d less are, tt)

view_ahead : (v : Views) (m to : whole_phase.Phase) (new : Phase) → v.announced.found.first < v.announced.end → whole.calls_left to < whole.calls_left m
    → AfterView v to new → IsAhead (whole.calls_left m + calls_to v.id v.announced.end) new
view_ahead v m to new less fewer (views_on not is) =
    subst (IsAhead (whole.calls_left m + calls_to v.id v.announced.end)) (sym is) (omega (arith, fewer), omega arith, tt)
view_ahead v m to new less fewer (view_read d ready read adds on) =
    added_ahead v.announced d v.id (whole.calls_left m) new less (omega (arith, fewer)) on

remove_ahead : (first last n : ℕ) (to : remove_phase.Phase) (new : Phase) → removing.calls_left to < n → (to ≡ removers.Removed) ⊎ (0 < removing.calls_left to)
    → AfterRemove first last to new → IsAhead n new
remove_ahead first last n to new fewer left (removes_on not is) =
    subst (IsAhead n) (sym is) (fewer, some_left (removing.calls_left to) not left, tt)
remove_ahead first last n to new fewer left (removed_all at is) = subst (IsAhead n) (sym is) (omega (arith, fewer), refl, tt)

-- an answer that it goes on with leaves fewer calls
pub goes : (m : Phase) (answer : Answer) (new : Phase) → IsExpirer m → Goes m answer new
    → (calls_left new < calls_left m) × Reaches (reached_at new) new × Unit {0}
goes (phases.Read m) answer new is (to, on, after) = read_ahead (reading.calls_left m) to new after (reading_facts.goes_ahead m answer to is.0 on).0
goes (phases.Announce m) answer new is (to, on, after) = announce_ahead m to answer new is.0 on after
goes (phases.View v m) answer new is (to, on, after) =
    view_ahead v m to new is.0.some (whole_facts.goes m answer to is.1.whole on).0 after
goes (phases.Remove first last m) answer new is (to, on, after) =
    remove_ahead first last (removing.calls_left m) to new (removing_facts.goes m answer to on).0 (remover_left m answer to on) after
goes m answer new is on = absurd on

-- an expirer with calls left has a next one
pub has_call : (m : Phase) → IsExpirer m → 0 < calls_left m → IsSome (next_call m)
has_call (phases.Read m) is left = reading_facts.has_call m is.0 is.1
has_call (phases.Announce m) is left = announcing_facts.has_call m is.0 is.1
has_call (phases.View v m) is left = whole_facts.has_call m is.1.whole is.2
has_call (phases.Remove first last m) is left = removing_facts.has_call m is
has_call (phases.Done first last) is left = absurd (let none : 0 < 0 = left in omega (arith, none))
has_call phases.Over is left = absurd (let none : 0 < 0 = left in omega (arith, none))

-- ---- the actor beside the past

keeps_of : (me : Actor) (old : Phase) (knows : Files → Past → Type 0) (op : Op) (f : Files)
    → Keeps StandsBeside (MakesBeside old) (KnowsBeside old) (λ f b. knows f b.1) op f → Keeps Stands (Makes me old) (Knows old) knows op f
keeps_of me old knows op f keeps p stands known =
    let both = keeps (me, p) stands known in
    let after : Files = after_effect op.call op.effect f in (
      λ effect. at (after_effect op.call effect f) (both.0 effect),
      led after both.1,
    )
  where
    at : (after : Files) → ((later : Beside) × MakesBeside old f (me, p) after later) → (later : Past) × Makes me old f p after later
    at after (later, change) = (later.1, change.1)

    led : (after : Files) → Leads (MakesBeside old) (λ f b. knows f b.1) f (me, p) after → Leads (Makes me old) knows f p after
    led after (later, change, known) = (later.1, change.1, known)

-- what a step does whoever stands beside the past, it does to the past
pub moves_of : (me : Actor) (old : Phase) (knows : Files → Past → Type 0) (before after : StoreView)
    → Moves StandsBeside (MakesBeside old) (KnowsBeside old) (λ f b. knows f b.1) before after → Moves Stands (Makes me old) (Knows old) knows before after
moves_of me old knows before after (inl (op, own, steps)) = inl (
  op,
  own,
  Steps-weaker op (λ ops. Keeps StandsBeside (MakesBeside old) (KnowsBeside old) (λ f b. knows f b.1) op (files_after ops))
      (λ ops. Keeps Stands (Makes me old) (Knows old) knows op (files_after ops)) before after
      (λ ops keeps. keeps_of me old knows op (files_after ops) keeps) steps,
)
moves_of me old knows before after (inr (meanwhile, same)) = inr (meanwhile, λ f p stands known. same f (me, p) stands known)

-- and what it tells of that
pub told_of : {Step : Type 0} (old : Phase) (result : Result Step Refusal) (before after : StoreView)
    → IfErr result (λ refusal. Moves StandsBeside (MakesBeside old) (KnowsBeside old) (TellsBeside refusal) before after)
    → IfErr result (λ refusal. ExpirerTold old refusal before after)
told_of old (Ok step) before after told = tt
told_of old (Err refusal) before after told = λ me. moves_of me old (IsTold refusal) before after told
