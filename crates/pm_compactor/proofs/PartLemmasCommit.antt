-- The commit of a plan begins once all of it was made, and never looks for an earlier one.
use Rattle.std.proofs.Common.{◌≡◌, ℕ, ◌<◌, ◌≤◌, true, false, length, Ok, IfOk, refl, sym, subst, ◌∙◌, arith}
use Rattle.pm_store.specs.declared.answer.Answer.{Answer}
use Rattle.pm_store.specs.declared.answer.Answer.TheVariants as answers
use Rattle.pm_put.specs.declared.phase.Phase as put_phase
use Rattle.pm_put.specs.declared.phase.Phase.TheVariants as puts
use Rattle.pm_schema.specs.declared.schema.TableSchema.{TableSchema}
use Rattle.pm_read_table.specs.declared.phase.Phase as view_phase
use Rattle.pm_plan.specs.declared.planned.Planned.{Planned}
use Rattle.pm_commit.specs.Committer as commit
use Rattle.pm_commit.specs.Committer.{AfterPutter, AfterReader, Makes, Outcome, most_calls}
use Rattle.pm_commit.specs.Own.{OwnView, begun}
use Rattle.pm_commit.specs.declared.found.Found.{Found}
use Rattle.pm_commit.specs.declared.phase.Phase as commit_phase
use Rattle.pm_commit.specs.declared.phase.Phase.TheVariants as commits
use Rattle.pm_commit.proofs.BeginLemmas.{begun-committer, plan-own}
use Rattle.pm_commit.proofs.CommitterLemmas.{begun-at}
use Rattle.pm_commit.proofs.OutcomeLemmas.{ok-same, read-on, tried}
use Rattle.pm_compactor.specs.Compactor.{CanCommit, IsBegun, NeverSearches, most_made}

-- ---- it never looks for an earlier one

makes-quiet : (own : OwnView) (found : Found) (later : commit_phase.Phase) → own.check ≡ false → Makes own found (Ok later) → NeverSearches later
makes-quiet own found later quiet (made, is_made, allowed, is) = subst NeverSearches (sym is) quiet

begun-quiet : (own : OwnView) (id : ℕ) → own.check ≡ false → (begun id own).check ≡ false
begun-quiet own id quiet = begun-at (λ o. o.check ≡ false) own id quiet quiet

reader-quiet : (own : OwnView) (m : view_phase.Phase) (later : commit_phase.Phase) → own.check ≡ false → AfterReader own m (Ok later) → NeverSearches later
reader-quiet own m later quiet on =
    read-on (λ (o : Outcome). IfOk o NeverSearches) (λ m. Unit {0}) own (Ok later)
    (λ v so tries. tried (NeverSearches later) (begun v.id own) v (Ok later)
    (λ unasked makes. makes-quiet (begun v.id own) _ later (begun-quiet own v.id quiet) makes)
    (λ asked hears. absurd (let both : true ≡ false = sym asked ∙ begun-quiet own v.id quiet in cc)) tries)
    (λ m none so. quiet) m tt on

putter-quiet : (own : OwnView) (s : TableSchema) (id : ℕ) (m : put_phase.Phase) (later : commit_phase.Phase) → own.check ≡ false → AfterPutter own s id m (Ok later)
    → NeverSearches later
putter-quiet own s id puts.Published later quiet is = subst NeverSearches (sym (ok-same later _ is)) tt
putter-quiet own s id puts.Lost later quiet (left, is) = subst NeverSearches (sym is) quiet
putter-quiet own s id m later quiet is = subst NeverSearches (sym (ok-same later _ is)) quiet

pub never-searches : (m : commit_phase.Phase) (answer : Answer) (later : commit_phase.Phase) → NeverSearches m → commit.Goes m answer later → NeverSearches later
never-searches (commits.Names own s) (answers.Listed names) later quiet (none, is) = subst NeverSearches (sym is) quiet
never-searches (commits.View own m) answer later quiet (to, goes, on) = reader-quiet own to later quiet on
never-searches (commits.Search own q) answer later quiet on = absurd quiet
never-searches (commits.Put own s id m) answer later quiet (to, goes, on) = putter-quiet own s id to later quiet on
never-searches m answer later quiet on = absurd on

-- ---- it begins

-- what is known of the committer with which it begins
pub record BeginsWell (p : Planned) (m : commit_phase.Phase) : Type 0 where
  pub committer : commit.IsCommitter m
  pub quiet : NeverSearches m
  pub some : 0 < commit.calls_left m
  pub few : commit.calls_left m ≤ most_calls
  pub files : length p.files.items ≤ most_made

pub begins-well : (p : Planned) (m : commit_phase.Phase) → CanCommit p → IsBegun p m → BeginsWell p m
begins-well p m can (plan, is_plan, begins) =
    let named = can.room.named in
    let few = can.room.few in
    let is = begun-committer p.schema p.newest p.author plan p.names m
    (plan-own p.schema p.author plan p.names can.declared (can.based ∙ sym can.base) (omega (arith, named, few))) begins in
    let (made, is_made, allowed, first) = begins in
    record {
      committer = is.0;
      quiet = subst NeverSearches (sym first) refl;
      some = is.1;
      few = is.2;
      files = few;
    }
