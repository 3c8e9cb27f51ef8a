-- The files of rows that a commit was given are there after each of its calls.
use Rattle.std.proofs.Common.{◌≡◌, inr, ℕ, List, [], append-nil, Option, None, Some, IfSome, Ok, sym, subst}
use Rattle.pm_values.specs.Names.{based}
use Rattle.pm_store.specs.Files.{Files}
use Rattle.pm_store.specs.declared.answer.Answer.{Answer}
use Rattle.pm_model_history.specs.History.{Entry}
use Rattle.pm_model_folder.specs.Changes.{Actor}
use Rattle.pm_model_folder.specs.Ledger.{Advances, Past, Stands}
use Rattle.pm_put.specs.declared.putting.CommitFile.{CommitFile}
use Rattle.pm_made.specs.declared.intent.Intent.{Intent}
use Rattle.pm_made.specs.declared.intent.Intent.TheVariants as intents
use Rattle.pm_commit.specs.Committer.{After, IsCommitter}
use Rattle.pm_commit.specs.Meaning.{AreThere, HasGiven, KnowsIn, MakesEntry, MakesIn, PlannedIn, own_in}
use Rattle.pm_commit.specs.Own.{IsAppend, MayView, OwnView, actor_of, begun}
use Rattle.pm_commit.specs.declared.phase.Phase.{Phase}
use Rattle.pm_commit.proofs.CommitterLemmas.{begun-first}
use Rattle.pm_commit.proofs.OwnLemmas.{append-planned}
use Rattle.pm_commit.proofs.PhaseLemmas.{own-on}
use Rattle.pm_commit.proofs.StillLemmas.{OwnFiles, OwnGiven, PlanStays, WasGivenBy, held-in, was-still}

-- an append was given none, by whomever and with whatever base
append-none : (intent : Intent) (me : Actor) (base : ℕ) (given : List CommitFile) (p : Past) → IsAppend intent → PlannedIn intent me base given p → given ≡ []
append-none (intents.Append batch) me base given p is none = none
append-none (intents.Compact plan) me base given p is planned = absurd is
append-none (intents.Fence number) me base given p is planned = absurd is

append-given : (own : OwnView) (given : List CommitFile) (f : Files) (p : Past) → IsAppend own.intent → given ≡ [] → WasGivenBy given given f p own
append-given own given f p is none = (
  append-planned own.intent (actor_of own) own.author.base given p is none,
  subst (AreThere own f p) (sym none) (inr tt),
)

-- one that begins by a view appends
begun-given : (own : OwnView) (given : List CommitFile) (f : Files) (p : Past) (n : ℕ) → MayView own → WasGivenBy given given f p own
    → WasGivenBy given given f p (begun n own)
begun-given own given f p n may was =
    begun-first (WasGivenBy given given f p) own n was
    (λ first. append-given (record own { author = record own.author { base = n }; names = based n own.names }) given f p (may first)
    (append-none own.intent (actor_of own) own.author.base given p (may first) was.0))

-- what an answer leads to was given the same
given-to : (m : Phase) (answer : Answer) (new : Phase) (given : List CommitFile) (f : Files) (p : Past) → IsCommitter m → After m answer (Ok new)
    → IfSome (own_in m) (WasGivenBy given given f p) → IfSome (own_in new) (WasGivenBy given given f p)
given-to m answer new given f p is goes was =
    own-on (WasGivenBy given given f p) (λ count own was. was) (λ id own was. was) m answer new
    (λ own r n at was. (let viewing = subst IsCommitter at is in begun-given own given f p n viewing.2 was)) was goes

own-advances : (e : Entry) (o : Option OwnView) (f after : Files) (p q : Past) → MakesIn o e f p after q
    → IfSome o (λ own. (other : Actor) × Advances other f p after q)
own-advances e None f after p q makes = tt
own-advances e (Some own) f after p q makes = (actor_of own, makes.advances)

-- whatever the call changed
pub gave-on : PlanStays → OwnGiven → OwnFiles → (e : Entry) (m : Phase) (answer : Answer) (new : Phase) (f after : Files) (p q : Past) → Stands f p
    → IsCommitter m → KnowsIn e m f p → HasGiven m f p → After m answer (Ok new) → MakesEntry e m f p after q → HasGiven new after q
gave-on stays law own_files e m answer new f after p q stands is known (given, was) goes makes = (
  given,
  given-to m answer new given after q is goes
      (was-still stays law own_files e (own_in m) given given [] f after p q stands (sym (append-nil given)) (held-in e m f p is known)
      (own-advances e (own_in m) f after p q makes) was),
)
