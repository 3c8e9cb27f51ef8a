-- What the calls of a putter leave, what led to its phases, and how far it has come.
use Rattle.std.proofs.Common.{◌≡◌, inl, inr, ℕ, ◌+◌, ◌<◌, List, [], ◌∷◌, ◌++◌, length, if◌then◌else◌, ◌&&◌, Option, None, Some, is_none, is_some, IsSome, IfSome, refl, sym, ap, subst, ◌∙◌, append_assoc, append-nil, arith}
use Rattle.std.specs.FinMap as map
use Rattle.std.specs.List.{AllByRecursion}
use Rattle.pm_base.proofs.Laws.{AllByRecursion-append, AllByRecursion-parts}
use Rattle.pm_values.specs.declared.refusal.Refusal.{Refusal}
use Rattle.pm_store.specs.declared.answer.Answer.{Answer}
use Rattle.pm_store.specs.declared.answer.Answer.TheVariants as answers
use Rattle.pm_store.specs.declared.answer.Made.TheVariants as makes
use Rattle.pm_store.specs.declared.answer.Published.{Published}
use Rattle.pm_store.specs.declared.answer.Published.TheVariants as published
use Rattle.pm_store.specs.declared.call.Effect.{Effect}
use Rattle.pm_store.specs.declared.call.Effect.TheVariants as effects
use Rattle.pm_store.specs.Answers.{MayAnswer, made_at, published_at}
use Rattle.pm_store.specs.Files.{Files, Puts, after_effect}
use Rattle.pm_store.proofs.ChangeLaws.{Puts-insert}
use Rattle.pm_machine.specs.Running.{Refuses, Stops}
use Rattle.pm_machine.specs.Trace.{Event, Recounts, answered}
use Rattle.pm_machine.proofs.PhaseFacts.{recounts_of}
use Rattle.pm_put.specs.Making.{MakingView}
use Rattle.pm_put.specs.Meaning.{HasDone, IsAt, IsPut, Knows, Makes, Putting, StayPut}
use Rattle.pm_put.specs.Putter.{after_publish, calls_left, create_call, create_next, next_call, publish_call, reached_at, Goes, IsOneFewer, Reaches, Shown}
use Rattle.pm_put.specs.Trace.{all_created, all_put, creates, publishes, Did, DidSoFar, HasCreated, MayTakeMemory, Shows}
use Rattle.pm_put.specs.declared.putting.CommitFile.{CommitFile}
use Rattle.pm_put.specs.declared.putting.Publishing.{Publishing}
use Rattle.pm_put.specs.declared.phase.Phase.{Phase}
use Rattle.pm_put.specs.declared.phase.Phase.TheVariants as phases

-- ---- what its calls may leave

part_made : (m : MakingView) (f : Files) (content : List ℕ) (at : Option (List ℕ)) → map.get f m.next.path ≡ at
    → Makes (phases.Create m) f (if is_none at then map.insert f m.next.path content else f)
part_made m f content None absent = inr (content, (absent, Puts-insert f m.next.path content))
part_made m f content (Some found) is = inl (λ q. refl)

create_makes : (m : MakingView) (f : Files) (effect : Effect) → Makes (phases.Create m) f (after_effect (create_call m.next) effect f)
create_makes m f effects.None = inl (λ q. refl)
create_makes m f (effects.Part None) = inl (λ q. refl)
create_makes m f (effects.Part (Some found)) = part_made m f found (map.get f m.next.path) refl
create_makes m f effects.Whole = part_made m f m.next.bytes (map.get f m.next.path) refl

whole_published : (x : Publishing) (f : Files) (at before : Option (List ℕ)) → map.get f x.path ≡ at → map.get f x.after ≡ before
    → Makes (phases.Publish x) f (if is_none at && is_some before then map.insert f x.path x.bytes else f)
whole_published x f (Some found) before is there = inl (λ q. refl)
whole_published x f None None is there = inl (λ q. refl)
whole_published x f None (Some present) is there =
    inr (subst (λ (found : Option (List ℕ)). IsSome found) (sym there) refl, (is, Puts-insert f x.path x.bytes))

publish_makes : (x : Publishing) (f : Files) (effect : Effect) → Makes (phases.Publish x) f (after_effect (publish_call x) effect f)
publish_makes x f effects.None = inl (λ q. refl)
publish_makes x f (effects.Part found) = inl (λ q. refl)
publish_makes x f effects.Whole = whole_published x f (map.get f x.path) (map.get f x.after) refl refl

-- each effect of its call is one of its changes
pub call_makes : (m : Phase) (f : Files) → IfSome (next_call m) (λ call. (effect : Effect) → Makes m f (after_effect call effect f))
call_makes (phases.Create making) f = create_makes making f
call_makes (phases.Publish x) f = publish_makes x f
call_makes m f = tt

-- ---- what is known afterwards

-- what is there stays as it is
abbrev pub Stays : Files → Files → Type 0
Stays f after = (path : List ℕ) → IsSome (map.get f path) → map.get after path ≡ map.get f path

pub all_stay : (f after : Files) → Stays f after → (files : List CommitFile) → AllByRecursion (IsPut f) files → AllByRecursion (IsPut after) files
all_stay f after stays [] all = tt
all_stay f after stays (file ∷ files) (is, rest) = (
  stays file.path (subst (λ (found : Option (List ℕ)). IsSome found) (sym is) refl) ∙ is,
  all_stay f after stays files rest,
)

-- what holds of the files that were created, which are the first of all
pub at_weaker : (put : Putting) (P Q : List CommitFile → Type 0) (m : Phase)
    → ((done left : List CommitFile) → put.files ≡ done ++ left → P done → Q done) → IsAt put P m → IsAt put Q m
at_weaker put P Q (phases.Create making) weaker (is, has) =
    (is, record { done = has.done; files = has.files; so = weaker has.done (making.next ∷ making.rest) has.files has.so })
at_weaker put P Q (phases.Publish x) weaker (is, so) = (is, weaker put.files [] (sym (append-nil put.files)) so)
at_weaker put P Q phases.Published weaker so = weaker put.files [] (sym (append-nil put.files)) so
at_weaker put P Q phases.Lost weaker so = weaker put.files [] (sym (append-nil put.files)) so
at_weaker put P Q phases.Over weaker so = tt

-- one file more was created
pub at_next : (put : Putting) (P Q : List CommitFile → Type 0) (x : Publishing) (file : CommitFile) (left : List CommitFile) → x ≡ put.last
    → HasDone put P (file ∷ left) → ((done : List CommitFile) → P done → Q (done ++ file ∷ [])) → IsAt put Q (create_next x left)
at_next put P Q x file [] is has more = (is, subst Q (sym has.files) (more has.done has.so))
at_next put P Q x file (other ∷ left) is has more = (
  is,
  record { done = has.done ++ file ∷ []; files = has.files ∙ sym (append_assoc has.done (file ∷ []) (other ∷ left)); so = more has.done has.so },
)

-- none was created yet
pub at_first : (put : Putting) (P : List CommitFile → Type 0) → P [] → IsAt put P (create_next put.last put.files)
at_first put P none = at put.files refl
  where
    at : (files : List CommitFile) → put.files ≡ files → IsAt put P (create_next put.last files)
    at [] is = (refl, subst P (sym is) none)
    at (file ∷ files) is = (refl, record { done = []; files = is; so = none })

-- of the files that were created, each that is there stays so
still_put : (f after : Files) (files : List CommitFile) → StayPut f after files → AllByRecursion (IsPut f) files → AllByRecursion (IsPut after) files
still_put f after [] stay all = tt
still_put f after (file ∷ files) (stays, stay) (is, all) = (stays is, still_put f after files stay all)

pub kept : (put : Putting) (m : Phase) (f after : Files) → StayPut f after put.files → Knows put m f → Knows put m after
kept put m f after stay known =
    at_weaker put (AllByRecursion (IsPut f)) (AllByRecursion (IsPut after)) m
    (λ done left files. still_put f after done
    (AllByRecursion-parts (λ (file : CommitFile). IsPut f file → IsPut after file) done left (subst (StayPut f after) files stay)).0)
    known

none-there : (found : Option (List ℕ)) → IsSome found → found ≡ None → ⊥
none-there None there is = cc
none-there (Some found) there is = cc

-- where a file appears at a path that was absent
pub appears-stays : (f after : Files) (path : List ℕ) (content : Option (List ℕ)) → map.get f path ≡ None → Puts f path content after → Stays f after
appears-stays f after path content absent puts other there =
    puts.others other (λ same. none-there (map.get f other) there (ap (map.get f) same ∙ absent))

-- one file more is there
pub put-more : (f after : Files) (file : CommitFile) → map.get f file.path ≡ None → Puts f file.path (Some file.bytes) after → (done : List CommitFile)
    → AllByRecursion (IsPut f) done → AllByRecursion (IsPut after) (done ++ file ∷ [])
put-more f after file absent puts done there =
    AllByRecursion-append (IsPut after) done (file ∷ [])
    (all_stay f after (appears-stays f after file.path (Some file.bytes) absent puts) done there) (puts.here, tt)

-- a create is answered so where its path was absent; and a publish where its path was
pub created_absent : (at : Option (List ℕ)) → makes.Created ≡ made_at at → at ≡ None
created_absent None e = refl
created_absent (Some found) e = cc

pub published_absent : (at before : Option (List ℕ)) → published.Created ≡ published_at at before → at ≡ None
published_absent (Some found) before e = cc
published_absent None None e = refl
published_absent None (Some present) e = refl

pub published_there : (at before : Option (List ℕ)) → published.Created ≡ published_at at before → IsSome before
published_there (Some found) before e = cc
published_there None None e = cc
published_there None (Some present) e = refl

-- ---- its calls

so_far : (put : Putting) (m : Phase) (own : List Event) → IsSome (next_call m) → Did put m own → DidSoFar put m own
so_far put phases.Over own called did = absurd (let clash = called in cc)
so_far put m own called did = did

created-push : (files : List CommitFile) (file : CommitFile)
    → all_created files ++ creates file makes.Created ∷ [] ≡ all_created (files ++ file ∷ [])
created-push [] file = refl
created-push (one ∷ files) file = ap (λ (own : List Event). creates one makes.Created ∷ own) (created-push files file)

next_did : (put : Putting) (x : Publishing) (left : List CommitFile) (own : List Event) → IsAt put (HasCreated own) (create_next x left)
    → Did put (create_next x left) own
next_did put x [] own at = at
next_did put x (file ∷ left) own at = at

pub first_did : (put : Putting) → Did put (create_next put.last put.files) []
first_did put = next_did put put.last put.files [] (at_first put (HasCreated []) refl)

all_did : (put : Putting) (x : Publishing) (answer : Published) (own : List Event) → x ≡ put.last → own ≡ all_created put.files
    → own ++ publishes x answer ∷ [] ≡ all_put put answer
all_did put x answer own is did =
    ap (λ (own : List Event). own ++ publishes x answer ∷ []) did
    ∙ ap (λ (y : Publishing). all_created put.files ++ publishes y answer ∷ []) is

publish_did : (put : Putting) (x : Publishing) (answer : Published) (own : List Event) → x ≡ put.last → own ≡ all_created put.files
    → Did put (after_publish answer) (own ++ publishes x answer ∷ [])
publish_did put x published.Created own is did = all_did put x published.Created own is did
publish_did put x published.Exists own is did = (published.Exists, tt, all_did put x published.Exists own is did)
publish_did put x published.AfterGone own is did = (published.AfterGone, tt, all_did put x published.AfterGone own is did)

went_on : (put : Putting) (m : Phase) (answer : Answer) (new : Phase) (own : List Event) → Goes m answer new → Did put m own
    → IfSome (next_call m) (λ call. MayAnswer call answer → Did put new (own ++ answered call answer ∷ []))
went_on put (phases.Create making) (answers.Made makes.Created) new own goes (is, has) = λ may.
    subst (λ (m : Phase). Did put m (own ++ creates making.next makes.Created ∷ [])) (sym goes)
    (next_did put making.publishing making.rest (own ++ creates making.next makes.Created ∷ [])
    (at_next put (HasCreated own) (HasCreated (own ++ creates making.next makes.Created ∷ [])) making.publishing making.next making.rest is has
    (λ done so. ap (λ (own : List Event). own ++ creates making.next makes.Created ∷ []) so ∙ created-push done making.next)))
went_on put (phases.Publish x) (answers.Published answer) new own goes (is, did) = λ may.
    subst (λ (m : Phase). Did put m (own ++ publishes x answer ∷ [])) (sym goes) (publish_did put x answer own is did)
went_on put m answer new own goes did = absurd goes

refused_on : (put : Putting) (m : Phase) (answer : Answer) (refusal : Refusal) (own : List Event) → Shown m answer refusal → Did put m own
    → IfSome (next_call m) (λ call. MayAnswer call answer → Shows put refusal (own ++ answered call answer ∷ []))
refused_on put (phases.Create making) (answers.Made makes.Exists) refusal own is (last, has) = λ may.
    let event : Event = creates making.next makes.Exists in
    subst (λ (refusal : Refusal). Shows put refusal (own ++ event ∷ [])) (sym is) (
      has.done,
      making.next,
      making.rest,
      has.files,
      refl,
      ap (λ (own : List Event). own ++ event ∷ []) has.so,
    )
refused_on put m answer refusal own shown did = absurd shown

pub recounts : (put : Putting) → Recounts next_call Goes (Refuses Shown phases.Over) (Stops phases.Over) (Did put) (Shows put)
recounts put = recounts_of next_call Goes Shown phases.Over (DidSoFar put) (Did put) MayTakeMemory (Shows put) (so_far put)
    (λ refusal own shows. (refusal, shows)) (λ path own failed. failed) (λ own ended. ended) (went_on put) (refused_on put)

-- ---- how far it has come

pub next_left : (x : Publishing) (left : List CommitFile) → calls_left (create_next x left) ≡ length left + 1
next_left x [] = omega arith
next_left x (file ∷ left) = omega arith

next_reaches : (x : Publishing) (left : List CommitFile) → Reaches (reached_at (create_next x left)) (create_next x left)
next_reaches x [] = omega arith
next_reaches x (file ∷ left) = omega arith

published_left : (answer : Published) → calls_left (after_publish answer) ≡ 0
published_left published.Created = refl
published_left published.Exists = refl
published_left published.AfterGone = refl

published_reaches : (answer : Published) → Reaches (reached_at (after_publish answer)) (after_publish answer)
published_reaches published.Created = refl
published_reaches published.Exists = refl
published_reaches published.AfterGone = refl

-- an answer that it goes on with leaves one call fewer
pub goes : (m : Phase) (answer : Answer) (new : Phase) → Goes m answer new
    → (calls_left new < calls_left m) × Reaches (reached_at new) new × IsOneFewer m new
goes (phases.Create making) (answers.Made makes.Created) new on =
    let left = next_left making.publishing making.rest in
    subst (λ (new : Phase). (calls_left new < length making.rest + 2) × Reaches (reached_at new) new × IsOneFewer (phases.Create making) new) (sym on)
    (omega (arith, left), next_reaches making.publishing making.rest, omega (arith, left))
goes (phases.Publish x) (answers.Published answer) new on =
    let left = published_left answer in
    subst (λ (new : Phase). (calls_left new < 1) × Reaches (reached_at new) new × IsOneFewer (phases.Publish x) new) (sym on)
    (omega (arith, left), published_reaches answer, omega (arith, left))
goes m answer new on = absurd on

-- with calls left there is a next one
pub has_call : (m : Phase) → 0 < calls_left m → IsSome (next_call m)
has_call (phases.Create making) left = refl
has_call (phases.Publish x) left = refl
has_call m left = absurd (omega (arith, left))
