-- What an answer leads to is a phase of the same commit.
use Rattle.std.proofs.Common.{◌≡◌, ℕ, ◌+◌, List, length, None, Some, IfSome, Ok, IfOk, refl, sym, subst}
use Rattle.pm_store.specs.declared.answer.Answer.{Answer}
use Rattle.pm_store.specs.declared.answer.Answer.TheVariants as answers
use Rattle.pm_read_table.specs.declared.phase.Phase as view_phase
use Rattle.pm_read_table.specs.declared.phase.Phase.TheVariants as readers
use Rattle.pm_read_table.specs.declared.view.View.{View}
use Rattle.pm_commit.specs.Committer.{AfterPutter, AfterReader, Goes, Hears, Makes, Outcome, Tries, found_in}
use Rattle.pm_commit.specs.Meaning.{own_in}
use Rattle.pm_commit.specs.Own.{OwnView, begun, with_lost, with_named}
use Rattle.pm_commit.specs.Search.{older_ids, seen_in, seen_of}
use Rattle.pm_commit.specs.declared.found.Found.{Found}
use Rattle.pm_put.specs.declared.phase.Phase as put_phase
use Rattle.pm_put.specs.declared.phase.Phase.TheVariants as puts
use Rattle.pm_schema.specs.declared.schema.TableSchema.{TableSchema}
use Rattle.pm_commit.specs.declared.phase.Phase.{Phase}
use Rattle.pm_commit.specs.declared.phase.Phase.TheVariants as phases
use Rattle.pm_commit.specs.declared.search.Seen.{Seen}
use Rattle.pm_commit.proofs.OutcomeLemmas.{heard, ok-same, tried}

-- what holds of a commit whichever names it gave, and whichever ids it lost
module _ (P : OwnView → Type 0) (named : (count : ℕ) (own : OwnView) → P own → P (with_named count own))
    (lost : (id : ℕ) (own : OwnView) → P own → P (with_lost id own)) where
  -- it holds of that of a phase, or no call is left
  abbrev Holds : Phase → Type 0
  Holds m = IfSome (own_in m) P

  makes-own : (own : OwnView) (found : Found) (later : Phase) → P own → Makes own found (Ok later) → Holds later
  makes-own own found later is (made, is_made, allowed, to) = subst Holds (sym to) (named (own.names.count + length made.files.items) own is)

  hears-own : (own : OwnView) (found : Found) (left : List ℕ) (said : Seen) (later : Phase) → P own → Hears own found left said (Ok later) → Holds later
  hears-own own found left said later is on =
      heard (λ (o : Outcome). IfOk o Holds) own found left said (Ok later) (λ free on. makes-own own found later is on)
      (λ id rest other to few. is) (λ reached. tt) on

  tries-own : (own : OwnView) (v : View) (later : Phase) → P own → Tries own v (Ok later) → Holds later
  tries-own own v later is on =
      tried (Holds later) own v (Ok later) (λ unasked on. makes-own own (found_in v) later is on)
      (λ asked on. hears-own own (found_in v) (older_ids v.listed.items) (seen_in own.author v.snapshot) later is on) on

  reader-own : (own : OwnView) (m : view_phase.Phase) (later : Phase) → P own → ((n : ℕ) → P (begun n own)) → AfterReader own m (Ok later) → Holds later
  reader-own own (readers.Ready v) later is begins on = tries-own (begun v.id own) v later (begins v.id) on
  reader-own own m later is begins to = subst Holds (sym (ok-same later _ to)) is

  putter-own : (own : OwnView) (s : TableSchema) (id : ℕ) (m : put_phase.Phase) (later : Phase) → P own → AfterPutter own s id m (Ok later) → Holds later
  putter-own own s id puts.Published later is to = subst Holds (sym (ok-same later _ to)) tt
  putter-own own s id puts.Lost later is (few, to) = subst Holds (sym to) (lost id own is)
  putter-own own s id m later is to = subst Holds (sym (ok-same later _ to)) is

  -- where it holds too of one that begins by a view
  pub own-on : (m : Phase) (answer : Answer) (later : Phase) → ((own : OwnView) (r : view_phase.Phase) (n : ℕ) → m ≡ phases.View own r → P own → P (begun n own))
      → Holds m → Goes m answer later → Holds later
  own-on (phases.Names own s) (answers.Listed names) later begins is (none, to) = subst Holds (sym to) is
  own-on (phases.View own m) answer later begins is (new, goes, after) = reader-own own new later is (λ n. begins own m n refl is) after
  own-on (phases.Search own q) (answers.Found None) later begins is on = makes-own own q.found later is on
  own-on (phases.Search own q) (answers.Found (Some bytes)) later begins is (x, reads, on) =
      hears-own own q.found q.left (seen_of own.author x) later is on
  own-on (phases.Put own s id m) answer later begins is (to, goes, on) = putter-own own s id to later is on
  own-on m answer later begins is goes = absurd goes
