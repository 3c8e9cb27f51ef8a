-- What follows the answers to a compactor's calls, by what the parts of the code say.
use Rattle.std.proofs.Common.{◌≡◌, ◌≢◌, ◌⊎◌, inl, inr, ◌≤◌, List, [], ◌∷◌, length, Some, Result, Ok, Err, IfOk, IfErr, refl, sym, ap, subst, ◌∙◌, arith}
use Rattle.std.proofs.lemmas.List.{length-map}
use Rattle.std.specs.BTreeMap.{IsOrdered}
use Rattle.pm_values.specs.GroupOrder.{group_cmp}
use Rattle.pm_values.specs.Names.{Naming}
use Rattle.pm_values.specs.declared.refusal.Refusal.{Refusal}
use Rattle.pm_values.specs.declared.refusal.Refusal.TheVariants as refusals
use Rattle.pm_store.specs.declared.answer.Answer.{Answer}
use Rattle.pm_put.specs.declared.putting.CommitFile.{CommitFile}
use Rattle.pm_schema.specs.declared.schema.TableSchema.{TableSchema}
use Rattle.pm_scan_rows.specs.Group.{GroupRead, read_of, reads_of}
use Rattle.pm_engines.specs.TableEngine.{HasEngine}
use Rattle.pm_read_table.specs.Reader as reader
use Rattle.pm_read_table.specs.Reader.{FailsToOpen, OfSchema}
use Rattle.pm_read_table.specs.View.{HasFolders}
use Rattle.pm_read_table.specs.declared.phase.Phase as view_phase
use Rattle.pm_read_table.specs.declared.view.View.{View}
use Rattle.pm_read_table.proofs.WithinLemmas.{failed, schema_stays}
use Rattle.pm_group_files.specs.Collected.{without_groups}
use Rattle.pm_group_files.specs.Reading.{reading_of}
use Rattle.pm_group_files.specs.Reader as files
use Rattle.pm_group_files.specs.Reader.{HandsOut}
use Rattle.pm_group_files.specs.declared.phase.Phase as files_phase
use Rattle.pm_group_files.specs.declared.phase.Phase.TheVariants as readers
use Rattle.pm_scan_rows.specs.declared.read_group.ReadGroup.{ReadGroup}
use Rattle.pm_made.specs.Refusals.{refusal_of}
use Rattle.pm_made.specs.declared.intent.Intent.TheVariants as intents
use Rattle.pm_made.specs.declared.newest.Author.{Author}
use Rattle.pm_made.specs.declared.newest.Newest.{Newest}
use Rattle.pm_choice.specs.declared.choice.ChosenGroup.{ChosenGroup}
use Rattle.pm_plan.specs.Planned.{AllRewritten, HasRoom, HasTold, IsCommitOf, IsPlanOf, RefusesSome}
use Rattle.pm_plan.specs.declared.planned.Asking.{Asking}
use Rattle.pm_plan.specs.declared.planned.Planned.{Planned}
use Rattle.pm_plan.specs.declared.planned.PlannedCommit.{PlannedCommit}
use Rattle.pm_commit.specs.Committer as commit
use Rattle.pm_commit.specs.declared.phase.Phase as commit_phase
use Rattle.pm_compactor.specs.Compactor.{AfterFiles, AfterGroups, AreLeftFor, Begins, CreatesNext, FailsWith, Goes, IsCompactor, Opens, OpensWith, RefusesPlan, chosen_in}
use Rattle.pm_compactor.specs.declared.phase.Phase.{Phase}
use Rattle.pm_compactor.specs.declared.phase.Phase.TheVariants as phases
use Rattle.pm_compactor.proofs.PartLemmas.{engine-of}
use Rattle.pm_compactor.proofs.PartLemmasFiles.{hands-few}

-- ---- the view

-- what is chosen leads to a plan, or to nothing
pub opens-on : (asking : Asking) (v : View) (chosen : List ChosenGroup) (r : Result Phase Refusal) → chosen ≡ chosen_in asking v → IsOrdered group_cmp v.groups → HasFolders v
    → (chosen ≡ [] → IfOk r (λ later. later ≡ phases.Nothing))
    → (chosen ≢ [] → IfOk r (λ later. (p : Planned) × IsPlanOf asking v.schema (commit.newest_in v) chosen p × (later ≡ phases.Names p)))
    → IfOk r (Opens asking v)
opens-on asking v chosen (Err e) are order folders none some = tt
opens-on asking v chosen (Ok later) are order folders none some = (order, folders, by_chosen (chosen_in asking v) refl)
  where
    by_chosen : (cs : List ChosenGroup) → chosen_in asking v ≡ cs → OpensWith asking v cs later
    by_chosen [] is = none (are ∙ is)
    by_chosen (c ∷ cs) is =
        let (p, plan, same) = some (λ empty. let clash : c ∷ cs ≡ [] = sym is ∙ sym are ∙ empty in cc) in
        (p, subst (λ (cs : List ChosenGroup). IsPlanOf asking v.schema (commit.newest_in v) cs p) are plan, same)

-- memory ran out with a view that is ready
pub fails-to-open : (asking : Asking) (m : view_phase.Phase) (answer : Answer) (new : view_phase.Phase) (refusal : Refusal) → IsCompactor (phases.View asking m)
    → reader.Goes m answer new → refusal ≡ refusals.Memory → reader.IsReady new → FailsToOpen (OfSchema HasEngine) m answer refusal
fails-to-open asking m answer new refusal (some, count, (s, reads, declared, engine)) goes is ready =
    failed (OfSchema HasEngine) m answer new refusal goes (schema_stays HasEngine m answer new goes (engine-of m s reads engine)) is ready

-- ---- the files that are read

-- no group is whole and a file is left
pub still-reads : (p : Planned) (m : files_phase.Phase) → HasRoom p → (files.HasGroup m ⊎ files.IsReady m → ⊥) → AfterFiles p m (phases.Files p m)
still-reads p (readers.Files r) room none = by_groups r.collected.groups refl
  where
    by_groups : (gs : List GroupRead) → r.collected.groups ≡ gs → AfterFiles p (readers.Files r) (phases.Files p (readers.Files r))
    by_groups [] is =
        let same : phases.Files p (readers.Files r) ≡ phases.Files p (readers.Files (reading_of r.id (without_groups r.collected) r.next r.rest)) =
        ap (λ (gs : List GroupRead). phases.Files p (readers.Files (reading_of r.id (record r.collected { groups = gs }) r.next r.rest))) is in (
          r.collected.groups,
          readers.Files (reading_of r.id (without_groups r.collected) r.next r.rest),
          p,
          (refl, refl),
          subst (λ (gs : List GroupRead). AllRewritten p gs p) (sym is) refl,
          room,
          same,
        )
    by_groups (g ∷ gs) is = absurd (none (inl (λ e. let clash : g ∷ gs ≡ [] = sym is ∙ e in cc)))
still-reads p (readers.Ready c) room none = absurd (none (inr tt))
still-reads p (readers.Again id path) room none = ([], readers.Again id path, p, (refl, refl), refl, room, refl)
still-reads p readers.Over room none = ([], readers.Over, p, (refl, refl), refl, room, refl)

-- no more groups are handed out than are left
pub few-groups : (left : List ChosenGroup) (m : files_phase.Phase) (groups : List ReadGroup) (rest : files_phase.Phase) → HandsOut m (reads_of groups) rest
    → AreLeftFor left m → length groups ≤ length left
few-groups left m groups rest hands are =
    let few = hands-few left m (reads_of groups) rest hands are in
    let long : length (reads_of groups) ≡ length groups = length-map groups read_of in
    omega (arith, few, long)

-- what was made of the groups that are whole
pub files-on : (p : Planned) (m : files_phase.Phase) (groups : List GroupRead) (rest : files_phase.Phase) (made : Planned) (r : Result Phase Refusal) → HandsOut m groups rest
    → AllRewritten p groups made → HasRoom made → IfOk r (AfterGroups made rest) → IfOk r (AfterFiles p m)
files-on p m groups rest made (Err e) hands rewritten room on = tt
files-on p m groups rest made (Ok later) hands rewritten room on = (groups, rest, made, hands, rewritten, room, on)

pub files-fail : (p : Planned) (m : files_phase.Phase) (groups : List GroupRead) (rest : files_phase.Phase) (made : Planned) (r : Result Phase Refusal) → HandsOut m groups rest
    → AllRewritten p groups made → files.HasGroup m ⊎ files.IsReady m
    → IfErr r (λ e. files.IsReady rest × ((e ≡ refusals.Memory) ⊎ ((all : Planned) × HasTold made all × RefusesPlan all e))) → IfErr r (FailsWith p m)
files-fail p m groups rest made (Ok later) hands rewritten whole on = tt
files-fail p m groups rest made (Err e) hands rewritten whole (ready, why) =
    elim why as (λ _. FailsWith p m e) [
      | inl is ↦ inl (is, whole)
      | inr against ↦ inr (inr (rest, groups, made, against.0, hands, rewritten, ready, against.1, against.2))
    ]

-- where nothing can be told of one of them
pub groups-fail : (p : Planned) (m : files_phase.Phase) (groups : List GroupRead) (rest : files_phase.Phase) (e : Refusal) → HandsOut m groups rest
    → files.HasGroup m ⊎ files.IsReady m → (e ≢ refusals.Memory → RefusesSome p groups e) → FailsWith p m e
groups-fail p m groups rest refusals.Memory hands whole refuses = inl (refl, whole)
groups-fail p m groups rest e hands whole refuses = inr (inl (rest, groups, hands, refuses (λ is. cc)))

-- more are to be read, where not all were
pub still-files : (p : Planned) (m : files_phase.Phase) → (files.IsReady m → ⊥) → AfterGroups p m (phases.Files p m)
still-files p (readers.Ready c) unready = absurd (unready tt)
still-files p m unready = refl

-- ---- what is told is written

pub told-begins : (p all : Planned) (r : Result Phase Refusal) → HasTold p all → HasRoom all → IfOk r (Begins all)
    → IfOk r (λ later. (all : Planned) × HasTold p all × HasRoom all × Begins all later)
told-begins p all (Err e) told room on = tt
told-begins p all (Ok later) told room on = (all, told, room, on)

pub told-fails : (p all : Planned) (r : Result Phase Refusal) → HasTold p all → IfErr r (λ e. (e ≡ refusals.Memory) ⊎ RefusesPlan all e)
    → IfErr r (λ e. (e ≡ refusals.Memory) ⊎ ((all : Planned) × HasTold p all × RefusesPlan all e))
told-fails p all (Ok later) told on = tt
told-fails p all (Err e) told (inl is) = inl is
told-fails p all (Err e) told (inr against) = inr (all, told, against)

-- that comes once all files were read
pub tells-on : (p : Planned) (m : files_phase.Phase) (r : Result Phase Refusal) → files.IsReady m
    → IfOk r (λ later. (all : Planned) × HasTold p all × HasRoom all × Begins all later) → IfOk r (AfterGroups p m)
tells-on p (readers.Ready c) (Ok later) ready on = on
tells-on p (readers.Ready c) (Err e) ready on = tt
tells-on p m r ready on = absurd ready

pub tell-fails : (P : Refusal → Type 0) (m : files_phase.Phase) (r : Result Phase Refusal) → files.IsReady m → IfErr r P → IfErr r (λ e. files.IsReady m × P e)
tell-fails P m (Ok later) ready on = tt
tell-fails P m (Err e) ready on = (ready, on)

-- ---- the commit

pub begins-on : (p : Planned) (c : PlannedCommit) (m : commit_phase.Phase) (later : Phase) → IsCommitOf p c
    → commit.Begins c.schema c.newest c.author c.plan c.names m → CreatesNext m c.files.items later → Begins p later
begins-on p c m later of begins creates =
    let begun : commit.Begins p.schema p.newest p.author c.plan p.names m =
    subst (λ (s : TableSchema). commit.Begins s p.newest p.author c.plan p.names m) of.schema_is
    (subst (λ (newest : Newest). commit.Begins c.schema newest p.author c.plan p.names m) of.newest_is
    (subst (λ (author : Author). commit.Begins c.schema c.newest author c.plan p.names m) of.author_is
    (subst (λ (names : Naming). commit.Begins c.schema c.newest c.author c.plan names m) of.names_are begins))) in
    (m, (c.plan, of.plan_is, begun), subst (λ (files : List CommitFile). CreatesNext m files later) (ap (λ x. x.items) of.files_are) creates)

pub refuses-on : (p : Planned) (c : PlannedCommit) (e : Refusal) → IsCommitOf p c
    → (e ≡ refusals.Memory) ⊎ (refusal_of c.newest c.author (intents.Compact c.plan) ≡ Some e) → (e ≡ refusals.Memory) ⊎ RefusesPlan p e
refuses-on p c e of (inl is) = inl is
refuses-on p c e of (inr why) =
    inr (
      c.plan,
      of.plan_is,
      subst (λ (newest : Newest). refusal_of newest p.author (intents.Compact c.plan) ≡ Some e) of.newest_is
          (subst (λ (author : Author). refusal_of c.newest author (intents.Compact c.plan) ≡ Some e) of.author_is why),
    )

-- ---- what an answer leads to is a compactor

pub still-ok : ((m : Phase) (answer : Answer) (later : Phase) → IsCompactor m → Goes m answer later → IsCompactor later) → (self m : Phase) (answer : Answer) (r : Result Phase Refusal)
    → self ≡ m → IsCompactor self → IfOk r (Goes m answer) → IfOk r IsCompactor
still-ok law self m answer (Ok later) is holds goes = law m answer later (subst IsCompactor is holds) goes
still-ok law self m answer (Err e) is holds goes = tt
