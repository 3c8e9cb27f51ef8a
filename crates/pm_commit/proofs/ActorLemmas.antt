-- Whoever runs a committer goes on to run it.
use Rattle.std.proofs.Common.{◌≡◌, Option, None, Some, IfSome, option_map, refl, sym, ap, ◌∙◌}
use Rattle.pm_store.specs.declared.answer.Answer.{Answer}
use Rattle.pm_model_folder.specs.Changes.{Actor}
use Rattle.pm_commit.specs.Committer.{Goes}
use Rattle.pm_commit.specs.Meaning.{own_in}
use Rattle.pm_commit.specs.Own.{OwnView, actor_of}
use Rattle.pm_commit.specs.declared.phase.Phase.{Phase}
use Rattle.pm_commit.specs.declared.phase.Phase.TheVariants as phases
use Rattle.pm_commit.proofs.AloneCauseLemmas.{begun-actor}
use Rattle.pm_commit.proofs.PhaseLemmas.{own-on}

-- what an answer leads to is run by whoever ran it before
abbrev StillRun : Phase → Phase → Type 0
StillRun m later = IfSome (option_map actor_of (own_in later)) (λ me. option_map actor_of (own_in m) ≡ Some me)

by-actor : (me : Actor) (later : Phase) → IfSome (own_in later) (λ own. actor_of own ≡ me)
    → IfSome (option_map actor_of (own_in later)) (λ other. Some me ≡ Some other)
by-actor me later = at (own_in later)
  where
    at : (o : Option OwnView) → IfSome o (λ own. actor_of own ≡ me) → IfSome (option_map actor_of o) (λ other. Some me ≡ Some other)
    at None run = tt
    at (Some own) run = ap (λ (me : Actor). Some me) (sym run)

run-on : (own : OwnView) (m : Phase) (answer : Answer) (later : Phase) → own_in m ≡ Some own → IfSome (own_in m) (λ o. actor_of o ≡ actor_of own) → Goes m answer later
    → IfSome (own_in later) (λ o. actor_of o ≡ actor_of own)
run-on own m answer later at run goes =
    own-on (λ o. actor_of o ≡ actor_of own) (λ count o is. is) (λ id o is. is) m answer later (λ o r n view is. begun-actor o n ∙ is) run goes

pub still-run : (m : Phase) (answer : Answer) (later : Phase) → Goes m answer later → StillRun m later
still-run (phases.Names own s) answer later goes = by-actor (actor_of own) later (run-on own (phases.Names own s) answer later refl refl goes)
still-run (phases.View own m) answer later goes = by-actor (actor_of own) later (run-on own (phases.View own m) answer later refl refl goes)
still-run (phases.Search own q) answer later goes = by-actor (actor_of own) later (run-on own (phases.Search own q) answer later refl refl goes)
still-run (phases.Put own s id m) answer later goes = by-actor (actor_of own) later (run-on own (phases.Put own s id m) answer later refl refl goes)
still-run m answer later goes = absurd goes
