-- Whoever runs a compactor goes on to run it.
use Rattle.std.proofs.Common.{◌≡◌, List, [], ◌∷◌, Option, None, Some, IfSome, option_map, refl, sym, ap, subst, ◌∙◌}
use Rattle.std.specs.List.{FoldsTo}
use Rattle.pm_store.specs.declared.answer.Answer.{Answer}
use Rattle.pm_store.specs.declared.answer.Answer.TheVariants as answers
use Rattle.pm_store.specs.declared.answer.Made.TheVariants as creates
use Rattle.pm_put.specs.declared.putting.CommitFile.{CommitFile}
use Rattle.pm_model_folder.specs.Changes.{Actor}
use Rattle.pm_scan_rows.specs.Group.{GroupRead}
use Rattle.pm_choice.specs.declared.choice.ChosenGroup.{ChosenGroup}
use Rattle.pm_read_table.specs.declared.phase.Phase as view_phase
use Rattle.pm_read_table.specs.declared.phase.Phase.TheVariants as readers
use Rattle.pm_read_table.specs.declared.view.View.{View}
use Rattle.pm_group_files.specs.declared.phase.Phase as files_phase
use Rattle.pm_group_files.specs.declared.phase.Phase.TheVariants as file_readers
use Rattle.pm_plan.specs.Planned.{AllRewritten, HasTold, RewritesFirst, RewritesOf, TellsGroup}
use Rattle.pm_plan.specs.declared.planned.Asking.{Asking}
use Rattle.pm_plan.specs.declared.planned.Planned.{Planned}
use Rattle.pm_commit.specs.Committer as committer
use Rattle.pm_commit.specs.Meaning.{own_in}
use Rattle.pm_commit.specs.Own as owner
use Rattle.pm_commit.specs.declared.phase.Phase as commit_phase
use Rattle.pm_compactor.specs.Compactor.{AfterGroups, AfterReader, Begins, CreatesNext, Goes, OpensWith, StartsFiles, actor_of, chosen_in}
use Rattle.pm_compactor.specs.declared.phase.Phase.{Phase}
use Rattle.pm_compactor.specs.declared.phase.Phase.TheVariants as phases
use Rattle.pm_actors.specs.World.{KeepsActor, compactor_of, compacts}

-- this actor runs it, or nobody does
abbrev RunsOf : Option Actor → Option Actor → Type 0
RunsOf o later = IfSome later (λ me. o ≡ Some me)

abbrev RunBy : Option Actor → Phase → Type 0
RunBy o later = RunsOf o (compactor_of later)

runs_itself : (o : Option Actor) → RunsOf o o
runs_itself None = tt
runs_itself (Some me) = refl

-- ---- the names of a plan

abbrev actor_in : Planned → Actor
actor_in x = actor_of x.names

-- what each item keeps, all of them do
folds_same : {P A X : Type 0} (R : P → A → P → Type 0) (see : P → X) → ((p : P) (a : A) (q : P) → R p a q → see q ≡ see p) → (items : List A) (p q : P)
    → FoldsTo R p items q → see q ≡ see p
folds_same R see keeps [] p q is = ap see (sym is)
folds_same R see keeps (a ∷ items) p q (middle, one, rest) = folds_same R see keeps items middle q rest ∙ keeps p a middle one

rewritten_same : (left : List ChosenGroup) (old : Planned) (x : GroupRead) (new : Planned) → RewritesOf left old x new → actor_in new ≡ actor_in old
rewritten_same [] old x new is = absurd is
rewritten_same (c ∷ left) old x new is = ap actor_in is.put.same

all_same : (old : Planned) (groups : List GroupRead) (new : Planned) → AllRewritten old groups new → actor_in new ≡ actor_in old
all_same old groups new rewritten =
    folds_same RewritesFirst actor_in (λ p x q is. rewritten_same p.left.items p x q is) groups old new rewritten

told_same : (old new : Planned) → HasTold old new → actor_in new ≡ actor_in old
told_same old new has =
    folds_same TellsGroup actor_in (λ p told q tells. ap actor_in tells.same) old.logs.items (record old { logs = new.logs }) new has.told

-- ---- what each answer leads to

run_still : (o : Option Actor) (later new : Phase) → later ≡ new → RunBy o new → RunBy o later
run_still o later new is run = subst (RunBy o) (sym is) run

named_still : (me other : Actor) → other ≡ me → Some me ≡ Some other
named_still me other is = ap (λ (me : Actor). Some me) (sym is)

opened : (asking : Asking) (v : View) (chosen : List ChosenGroup) (later : Phase) → OpensWith asking v chosen later → RunBy (Some (actor_of asking.names)) later
opened asking v [] later is = run_still (Some (actor_of asking.names)) later phases.Nothing is tt
opened asking v (c ∷ chosen) later (x, plan, is) =
    run_still (Some (actor_of asking.names)) later (phases.Names x) is (named_still (actor_of asking.names) (actor_in x) (ap actor_of plan.names_are))

viewed : (asking : Asking) (m : view_phase.Phase) (later : Phase) → AfterReader asking m later → RunBy (Some (actor_of asking.names)) later
viewed asking (readers.Ready v) later (ordered, folders, opens) = opened asking v (chosen_in asking v) later opens
viewed asking m later is = run_still (Some (actor_of asking.names)) later (phases.View asking m) is refl

created : (o : Option Actor) (m : commit_phase.Phase) (files : List CommitFile) (later : Phase) → RunsOf o (option_map owner.actor_of (own_in m))
    → CreatesNext m files later → RunBy o later
created o m [] later run is = run_still o later (phases.Commit m) is run
created o m (next ∷ files) (phases.Create n file rest) run (is, same, others) =
    subst (λ (m : commit_phase.Phase). RunsOf o (option_map owner.actor_of (own_in m))) (sym is) run
created o m (next ∷ files) later run creates = absurd creates

begun : (me : Actor) (x : Planned) (later : Phase) → actor_in x ≡ me → Begins x later → RunBy (Some me) later
begun me x later mine (m, (plan, is_plan, begins), next) = created (Some me) m x.files.items later (named m begins) next
  where
    named : (m : commit_phase.Phase) → committer.Begins x.schema x.newest x.author plan x.names m → RunsOf (Some me) (option_map owner.actor_of (own_in m))
    named m (made, is_made, allowed, is) =
        subst (λ (m : commit_phase.Phase). RunsOf (Some me) (option_map owner.actor_of (own_in m))) (sym is) (named_still me (actor_in x) mine)

grouped : (me : Actor) (made : Planned) (m : files_phase.Phase) (later : Phase) → actor_in made ≡ me → AfterGroups made m later → RunBy (Some me) later
grouped me made (file_readers.Ready c) later mine (all, told, room, begins) = begun me all later (told_same made all told ∙ mine) begins
grouped me made m later mine is = run_still (Some me) later (phases.Files made m) is (named_still me (actor_in made) mine)

started : (x : Planned) (later : Phase) → StartsFiles x later → RunBy (Some (actor_in x)) later
started x later (few, is) = run_still (Some (actor_in x)) later _ is refl

-- what the law of whoever runs a committer says
abbrev pub RunsCommit : Type 0
RunsCommit = (m : commit_phase.Phase) (answer : Answer) (later : commit_phase.Phase) → committer.Goes m answer later
    → IfSome (option_map owner.actor_of (own_in later)) (λ me. option_map owner.actor_of (own_in m) ≡ Some me)

pub compactor_still : RunsCommit → (m : Phase) (answer : Answer) (later : Phase) → Goes m answer later → KeepsActor (compacts m) (compacts later)
compactor_still law (phases.View asking m) answer later (new, goes, on) = viewed asking new later on
compactor_still law (phases.Names x) (answers.Listed names) later (free, starts) = started x later starts
compactor_still law (phases.Files x m) answer later (new, goes, (groups, rest, made, hands, rewritten, room, on)) =
    grouped (actor_in x) made rest later (all_same x groups made rewritten) on
compactor_still law (phases.Create m next rest) (answers.Made creates.Created) later on =
    created (option_map owner.actor_of (own_in m)) m rest.items later (runs_itself (option_map owner.actor_of (own_in m))) on
compactor_still law (phases.Commit m) answer later (new, goes, is) =
    run_still (option_map owner.actor_of (own_in m)) later (phases.Commit new) is (law m answer new goes)
compactor_still law m answer later goes = absurd goes
