-- What an answer leads to is a compactor, with a call less, and with one left where it goes on.
use Rattle.std.proofs.Common.{◌≡◌, ◌≢◌, ◌⊎◌, inl, inr, ℕ, suc, ◌+◌, ◌<◌, ◌≤◌, ◌^◌, List, [], ◌∷◌, length, IsSome, refl, sym, ap, subst, ◌∙◌, arith}
use Rattle.std.specs.List.{AllByRecursion}
use Rattle.pm_values.specs.Names.{Naming}
use Rattle.pm_store.specs.declared.answer.Answer.{Answer}
use Rattle.pm_store.specs.declared.answer.Answer.TheVariants as answers
use Rattle.pm_store.specs.declared.answer.Made.TheVariants as creates
use Rattle.pm_put.specs.declared.putting.CommitFile.{CommitFile}
use Rattle.pm_schema.specs.Again.{IsDeclared}
use Rattle.pm_schema.specs.declared.schema.TableSchema.{TableSchema}
use Rattle.pm_scan_rows.specs.Group.{GroupRead}
use Rattle.pm_engines.specs.TableEngine.{HasEngine}
use Rattle.pm_read_table.specs.Asked.{Asked}
use Rattle.pm_read_table.specs.Reader as reader
use Rattle.pm_read_table.specs.Reader.{OfSchema, most}
use Rattle.pm_read_table.specs.declared.phase.Phase as view_phase
use Rattle.pm_read_table.specs.declared.phase.Phase.TheVariants as views
use Rattle.pm_read_table.specs.declared.view.View.{View}
use Rattle.pm_read_table.proofs.Facts as reader_facts
use Rattle.pm_group_files.specs.Collected.{nothing_of}
use Rattle.pm_group_files.specs.Jobs.{all_wanted}
use Rattle.pm_group_files.specs.Reader as files
use Rattle.pm_group_files.specs.Reader.{HandsOut, OfTable}
use Rattle.pm_group_files.specs.declared.phase.Phase as files_phase
use Rattle.pm_group_files.specs.declared.phase.Phase.TheVariants as readers
use Rattle.pm_group_files.proofs.Facts as files_facts
use Rattle.pm_made.specs.declared.newest.Newest.{Newest}
use Rattle.pm_choice.specs.Question.{rule_of}
use Rattle.pm_choice.specs.declared.choice.ChosenGroup.{ChosenGroup}
use Rattle.pm_plan.specs.Planned.{CanMake, FitChosen, FitTold, HasRoom, IsPlanOf}
use Rattle.pm_plan.specs.declared.planned.Asking.{Asking}
use Rattle.pm_plan.specs.declared.planned.Planned.{Planned}
use Rattle.pm_commit.specs.Committer as commit
use Rattle.pm_commit.specs.Committer.{Reads, most_calls, newest_of}
use Rattle.pm_commit.specs.declared.phase.Phase as commit_phase
use Rattle.pm_commit.specs.declared.phase.Phase.TheVariants as commits
use Rattle.pm_commit.proofs.CommitterLemmas.{asked-same, ready-schema}
use Rattle.pm_commit.proofs.ReadsLemmas.{EntriesRead, reads-on}
use Rattle.pm_compactor.specs.Compactor.{AfterFiles, AfterGroups, AfterReader, AreLeftFor, Begins, CanCommit, CreatesNext, Goes, IsCompactor, NeverSearches, OpensWith, Reaches, StartsFiles, TakesFiles, asked_of_view, calls_left, chosen_in, most_made, next_call, reached_at, wanted_in}
use Rattle.pm_compactor.specs.declared.phase.Phase.{Phase}
use Rattle.pm_compactor.specs.declared.phase.Phase.TheVariants as phases
use Rattle.pm_compactor.proofs.PartLemmasChosen.{fits-chosen, takes-files}
use Rattle.pm_compactor.proofs.PartLemmasCommit.{begins-well, never-searches}
use Rattle.pm_compactor.proofs.PartLemmasFiles.{all-end, first-left, goes-left, hands-left, hands-same, hands-table}
use Rattle.pm_compactor.proofs.PartLemmasRewritten.{all-became, still-commits, still-makes, told-commits}

-- what the law of committers that are held says
pub record HeldGoes : Type 0 where
  pub goes : (m : commit_phase.Phase) (answer : Answer) (later : commit_phase.Phase) → commit.IsCommitter m → commit.Goes m answer later
      → commit.IsCommitter later × (commit.calls_left later < commit.calls_left m) × commit.Reaches (commit.reached_at later) later
  pub has_call : (m : commit_phase.Phase) → commit.IsCommitter m → 0 < commit.calls_left m → IsSome (commit.next_call m)

-- a compactor with fewer calls than that, and with one left where it goes on
pub record IsNext (n : ℕ) (later : Phase) : Type 0 where
  pub compactor : IsCompactor later
  pub fewer : calls_left later < n
  pub reaches : Reaches (reached_at later) later

-- ---- the view

-- the table of a reader has an engine
pub engine-of : (m : view_phase.Phase) (s : TableSchema) → Reads m s → HasEngine s → OfSchema HasEngine m
engine-of (views.List a) s reads has = subst HasEngine (sym (ap (λ (a : Asked). a.schema) (asked-same a (newest_of s) reads.asked))) has
engine-of (views.Origin q) s reads has = subst HasEngine (sym (ap (λ (a : Asked). a.schema) (asked-same q.asked (newest_of s) reads.asked))) has
engine-of (views.Snapshot q id) s reads has = subst HasEngine (sym (ap (λ (a : Asked). a.schema) (asked-same q.asked (newest_of s) reads.asked))) has
engine-of (views.Base q x) s reads has = subst HasEngine (sym (ap (λ (a : Asked). a.schema) (asked-same q.asked (newest_of s) reads.asked))) has
engine-of (views.Delta q x base) s reads has = subst HasEngine (sym (ap (λ (a : Asked). a.schema) (asked-same q.asked (newest_of s) reads.asked))) has
engine-of (views.Manifests r) s reads has = subst HasEngine (sym (ap (λ (a : Asked). a.schema) (asked-same r.sought.asked (newest_of s) reads.asked))) has
engine-of (views.Again a id path) s reads has = subst HasEngine (sym (ap (λ (a : Asked). a.schema) (asked-same a (newest_of s) reads.asked))) has
engine-of (views.Ready v) s reads has = subst HasEngine (sym (ready-schema v s reads)) has
engine-of views.Over s reads has = tt

-- how many calls are left once the view is there, and once all files were read
abbrev after_view : ℕ
after_view = 1 + (most + 2) + (most_made + most_calls)

abbrev after_files : ℕ
after_files = most_made + most_calls

module _ (asking : Asking) (s : TableSchema) (count : asking.names.count ≤ 2 ^ 60) (declared : IsDeclared s) (engine : HasEngine s) where
  -- a plan of a view
  plan-next : (v : View) (p : Planned) (chosen : List ChosenGroup) (n : ℕ) → Reads (views.Ready v) s → after_view < n → FitChosen s chosen → chosen ≢ []
      → AllByRecursion TakesFiles chosen → IsPlanOf asking v.schema (commit.newest_in v) chosen p → IsNext n (phases.Names p)
  plan-next v p chosen n reads below fit some takes is =
      let same : p.schema ≡ s = is.schema_is ∙ ready-schema v s reads in
      let no_files : length p.files.items ≡ 0 = ap length is.files in
      let counted : p.names.count ≡ asking.names.count = ap (λ (x : Naming). x.count) is.names_are in
      let room : HasRoom p = record { named = omega (arith, count, counted, no_files); few = omega (arith, no_files) } in
      let made : CanMake p = record {
        engine = subst HasEngine (sym same) engine;
        fit = subst (λ (t : TableSchema). FitChosen t p.left.items) (sym same) (subst (FitChosen s) (sym is.left) fit);
        fit_logs = subst (FitTold p.schema) (sym is.logs) tt;
        room = room;
      } in
      let can : CanCommit p = record {
        declared = subst IsDeclared (sym same) declared;
        base = ap (λ a. a.base) is.author_is ∙ sym (ap (λ (x : Newest). x.id) is.newest_is);
        based = ap (λ (x : Naming). x.base) is.names_are ∙ sym (ap (λ (x : Newest). x.id) is.newest_is);
        numbers = subst (λ (x : Newest). commit.AreNumbered x.live.items) (sym is.newest_is) reads.numbers;
        room = room;
      } in
      record {
        compactor = (made, can, (λ none. some (sym is.left ∙ none)), subst (AllByRecursion TakesFiles) (sym is.left) takes);
        fewer = below;
        reaches = omega arith;
      }

  opens-next : (v : View) (later : Phase) (n : ℕ) (chosen : List ChosenGroup) → chosen_in asking v ≡ chosen → Reads (views.Ready v) s → after_view < n
      → FitChosen s (chosen_in asking v) → AllByRecursion TakesFiles (chosen_in asking v) → OpensWith asking v chosen later → IsNext n later
  opens-next v later n [] are reads below fit takes is =
      subst (IsNext n) (sym is) (record { compactor = tt; fewer = omega (arith, below); reaches = refl })
  opens-next v later n (c ∷ chosen) are reads below fit takes (p, plan, is) =
      let some : chosen_in asking v ≢ [] = λ none. let clash : c ∷ chosen ≡ [] = sym are ∙ none in cc in
      subst (IsNext n) (sym is) (plan-next v p (chosen_in asking v) n reads below fit some takes plan)

  -- with the reader of the view after an answer
  reader-next : (m : view_phase.Phase) (answer : Answer) (new : view_phase.Phase) (later : Phase) (n : ℕ) → reader.Goes m answer new → Reads new s
      → reader.IsReady new ⊎ (0 < reader.calls_left new) → reader.calls_left new + after_view < n → after_view < n → AfterReader asking new later → IsNext n later
  reader-next m answer (views.Ready v) later n goes reads left fewer below (order, folders, opens) =
      opens-next v later n (chosen_in asking v) refl reads below
      (fits-chosen v s (asked_of_view asking v) (rule_of v.schema) (ready-schema v s reads) folders order)
      (takes-files m answer v (asked_of_view asking v) (rule_of v.schema) goes order) opens
  reader-next m answer new later n goes reads left fewer below is =
      subst (IsNext n) (sym is) (record {
        compactor = (elim left as (λ _. 0 < reader.calls_left new) [ inl ready ↦ absurd ready | inr some ↦ some ], count, (s, reads, declared, engine));
        fewer = fewer;
        reaches = omega arith;
      })

  view-next : EntriesRead → (m : view_phase.Phase) (answer : Answer) (new : view_phase.Phase) (later : Phase) → Reads m s → 0 < reader.calls_left m
      → reader.Goes m answer new → AfterReader asking new later → IsNext (reader.calls_left m + after_view) later
  view-next law m answer new later reads some goes on =
      let still = reads-on law s m answer new reads goes in
      let ahead = reader_facts.goes_ahead m answer new goes in
      let fewer = ahead.0 in
      reader-next m answer new later (reader.calls_left m + after_view) goes still.reads still.left (omega (arith, fewer)) (omega (arith, some)) on

-- ---- the files that are read

names-next : (p : Planned) (later : Phase) → IsCompactor (phases.Names p) → StartsFiles p later → IsNext after_view later
names-next p later (made, can, some, takes) (within, is) =
    let jobs = all_wanted p.schema (wanted_in p) in
    let first = first-left p.schema p.newest.id p.left.items jobs some (all-end p.schema p.left.items takes) within in
    let left = first.1 in
    let few = first.2 in
    subst (IsNext after_view) (sym is) (record {
      compactor = (made, can, left, files_facts.next_of_table (λ s. s ≡ p.schema) p.newest.id (nothing_of p.schema) jobs refl, first.0);
      fewer = omega (arith, few);
      reaches = omega (arith, left);
    })

-- the commit begins
creates-next : (m : commit_phase.Phase) (files : List CommitFile) (later : Phase) (n : ℕ) → commit.IsCommitter m → NeverSearches m → 0 < commit.calls_left m
    → length files + commit.calls_left m < n → CreatesNext m files later → IsNext n later
creates-next m [] later n is quiet some below same =
    subst (IsNext n) (sym same) (record { compactor = (is, quiet); fewer = omega (arith, below); reaches = some-reaches m some })
  where
    some-reaches : (m : commit_phase.Phase) → 0 < commit.calls_left m → Reaches (reached_at (phases.Commit m)) (phases.Commit m)
    some-reaches (commits.Committed author id) some = absurd (let none : 0 < 0 = some in omega (arith, none))
    some-reaches m some = some
creates-next m (next ∷ files) (phases.Create other file rest) n is quiet some below (same, at, are) =
    let long : length rest.items ≡ length files = ap length are in
    let all : suc (length files) + commit.calls_left m < n = below in
    let calls : commit.calls_left other ≡ commit.calls_left m = ap commit.calls_left same in record {
      compactor = (
        subst commit.IsCommitter (sym same) is,
        subst NeverSearches (sym same) quiet,
        subst (λ (m : commit_phase.Phase). 0 < commit.calls_left m) (sym same) some,
      );
      fewer = omega (arith, long, all, calls);
      reaches = omega arith;
    }
creates-next m (next ∷ files) later n is quiet some below none = absurd none

begins-next : (p : Planned) (later : Phase) (n : ℕ) → CanCommit p → after_files < n → Begins p later → IsNext n later
begins-next p later n can below (m, begun, creates) =
    let well = begins-well p m can begun in
    let files = well.files in
    let few = well.few in
    creates-next m p.files.items later n well.committer well.quiet well.some (omega (arith, below, files, few)) creates

-- with the groups that are whole made
groups-next : (p : Planned) (rest : files_phase.Phase) (later : Phase) (n : ℕ) → CanMake p → CanCommit p → files.IsReady rest ⊎ (0 < files.calls_left rest)
    → OfTable (λ s. s ≡ p.schema) rest → AreLeftFor p.left.items rest → files.calls_left rest + after_files < n → after_files < n → AfterGroups p rest later → IsNext n later
groups-next p (readers.Ready c) later n made can left table are fewer below (all, told, room, begins) =
    begins-next all later n (told-commits p all told can room) below begins
groups-next p rest later n made can left table are fewer below is =
    let some : 0 < files.calls_left rest = elim left as (λ _. 0 < files.calls_left rest) [ inl ready ↦ absurd ready | inr some ↦ some ] in
    subst (IsNext n) (sym is) (record { compactor = (made, can, some, table, are); fewer = fewer; reaches = omega (arith, some) })

ready-same : (m : files_phase.Phase) (groups : List GroupRead) (rest : files_phase.Phase) → HandsOut m groups rest → files.IsReady m ⊎ (0 < files.calls_left m)
    → files.IsReady rest ⊎ (0 < files.calls_left rest)
ready-same (readers.Files r) groups rest (are, is) left = subst (λ (m : files_phase.Phase). files.IsReady m ⊎ (0 < files.calls_left m)) (sym is) (inr (omega arith))
ready-same (readers.Ready c) groups rest (are, is) left = subst (λ (m : files_phase.Phase). files.IsReady m ⊎ (0 < files.calls_left m)) (sym is) (inl tt)
ready-same m groups rest (none, is) left = subst (λ (m : files_phase.Phase). files.IsReady m ⊎ (0 < files.calls_left m)) (sym is) left

files-next : (p : Planned) (m : files_phase.Phase) (answer : Answer) (new : files_phase.Phase) (later : Phase) → IsCompactor (phases.Files p m) → files.Goes m answer new
    → AfterFiles p new later → IsNext (files.calls_left m + after_files) later
files-next p m answer new later (made, can, some, table, are) goes (groups, rest, after, hands, rewritten, room, on) =
    let became = all-became groups p after rewritten in
    let ahead = files_facts.goes_ahead m answer new goes in
    let fewer = ahead.0 in
    let same = hands-same new groups rest hands in
    groups-next after rest later (files.calls_left m + after_files) (still-makes (length groups) p after became made room)
    (still-commits (length groups) p after became can room) (ready-same new groups rest hands ahead.1)
    (subst (λ (s : TableSchema). OfTable (λ t. t ≡ s) rest) (sym became.schema)
    (hands-table (λ t. t ≡ p.schema) new groups rest hands (files_facts.table_stays (λ t. t ≡ p.schema) m answer new goes table)))
    (hands-left p.left.items after.left.items new groups rest hands (goes-left p.left.items m answer new goes are) became.left)
    (omega (arith, fewer, same)) (omega (arith, some)) on

-- ---- the commit

-- a committer that goes on never has found an earlier commit
commit-reaches : (m : commit_phase.Phase) → NeverSearches m → commit.Reaches (commit.reached_at m) m → Reaches (reached_at (phases.Commit m)) (phases.Commit m)
commit-reaches (commits.Committed author id) quiet is = (author, refl)
commit-reaches (commits.Already author) quiet is = absurd quiet
commit-reaches m quiet is = is

pub next-compactor : EntriesRead → HeldGoes → (m : Phase) (answer : Answer) (later : Phase) → IsCompactor m → Goes m answer later → IsNext (calls_left m) later
next-compactor law held (phases.View asking m) answer later (some, count, (s, reads, declared, engine)) (new, goes, on) =
    view-next asking s count declared engine law m answer new later reads some goes on
next-compactor law held (phases.Names p) (answers.Listed names) later is (free, starts) = names-next p later is starts
next-compactor law held (phases.Files p m) answer later is (new, goes, on) = files-next p m answer new later is goes on
next-compactor law held (phases.Create m next rest) (answers.Made creates.Created) later (is, quiet, some) creates =
    creates-next m rest.items later (1 + length rest.items + commit.calls_left m) is quiet some (omega arith) creates
next-compactor law held (phases.Commit m) answer later (is, quiet) (new, goes, same) =
    let on = held.goes m answer new is goes in
    let still = never-searches m answer new quiet goes in
    subst (IsNext (commit.calls_left m)) (sym same) (record { compactor = (on.0, still); fewer = on.1; reaches = commit-reaches new still on.2 })
next-compactor law held m answer later is goes = absurd goes

-- ---- a call is there

files-call : (m : files_phase.Phase) → 0 < files.calls_left m → IsSome (files.next_call m)
files-call m left = files_facts.has_call m left

pub has-call : HeldGoes → (m : Phase) → IsCompactor m → 0 < calls_left m → IsSome (next_call m)
has-call held (phases.View asking m) is left = reader_facts.has_call m is.0
has-call held (phases.Names p) is left = refl
has-call held (phases.Files p m) is left = files-call m is.2
has-call held (phases.Create m next rest) is left = refl
has-call held (phases.Commit m) is left = held.has_call m is.0 left
has-call held m is left = absurd (let none : 0 < 0 = left in omega (arith, none))

-- ---- as others cite it

pub still-compactor : EntriesRead → HeldGoes → (m : Phase) (answer : Answer) (later : Phase) → IsCompactor m → Goes m answer later → IsCompactor later
still-compactor law held m answer later is goes = (next-compactor law held m answer later is goes).compactor

pub goes-ahead : EntriesRead → HeldGoes → (m : Phase) (answer : Answer) (later : Phase) → IsCompactor m → Goes m answer later
    → (calls_left later < calls_left m) × Reaches (reached_at later) later
goes-ahead law held m answer later is goes =
    let next = next-compactor law held m answer later is goes in
    (next.fewer, next.reaches)
