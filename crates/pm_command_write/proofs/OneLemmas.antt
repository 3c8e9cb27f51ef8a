-- The calls of `write` show one answer: those that read the schema end at one place, and from there on those of a
-- commit do, as two batches of the same rows have as many of each group.
use Rattle.std.proofs.Common.{◌≡◌, ◌≢◌, ◌⊎◌, inl, inr, ℕ, true, false, List, [], ◌∷◌, ◌++◌, Option, None, Some, option_map, Result, Ok, Err, Less, refl, sym, ap, subst, ◌∙◌, append-nil}
use Rattle.std.specs.BTreeMap.{is_at}
use Rattle.std.specs.Cmp.{tied_itself}
use Rattle.std.specs.List.Sorted.{IsStrictlySortedBy}
use Rattle.std.specs.Map.{keys_of, lookup}
use Rattle.std.specs.Ordering.{is_eq, ordering_reverse}
use Rattle.std.specs.declared.cmp.Ordering.TheVariants as orders
use Rattle.std.proofs.lemmas.Map.{lookup-none}
use Rattle.std.proofs.lemmas.Map.Entries.{lookup_head, lookup_tail, none_below_head, none_past_head}
use Rattle.std.proofs.lemmas.Map.Keys.{IsDistinct-from_sorted}
use Rattle.pm_values.specs.GroupOrder.{group_cmp, group_equiv, group_total}
use Rattle.pm_values.specs.declared.group.Group.{Group}
use Rattle.pm_values.specs.declared.refusal.Refusal.{Refusal}
use Rattle.pm_values.specs.declared.refusal.Refusal.TheVariants as refusals
use Rattle.pm_values.proofs.Lemmas.{group_cmp-IsAntisymmetric}
use Rattle.pm_store.specs.declared.call.Call.{Call}
use Rattle.pm_machine.specs.Step.{path_of}
use Rattle.pm_machine.specs.Trace.{Event, faulted}
use Rattle.pm_model_history.specs.Merge.{HistoryRow}
use Rattle.pm_schema.specs.Again.{IsDeclared}
use Rattle.pm_schema.specs.declared.schema.TableSchema.{TableSchema}
use Rattle.pm_read_schema.proofs.LeadLemmas.{Fails, Leads, failed_not, one_end, one_failed, one_lead}
use Rattle.pm_read_schema.proofs.OneLemmas as schema
use Rattle.pm_model_following.specs.Groups.{rows_in}
use Rattle.pm_write.specs.Batch.{GroupRows, Groups, HoldsRows, IsBatchOf}
use Rattle.pm_write.specs.Taken.{all_taken}
use Rattle.pm_commit.specs.AllCalls.{DidAppend}
use Rattle.pm_commit.specs.Own.{AreAlike, OwnView, counts_of}
use Rattle.pm_commit.specs.declared.all_calls.Appended.{Appended}
use Rattle.pm_commit.specs.declared.all_calls.Appended.TheVariants as appends
use Rattle.pm_command.specs.declared.start.Start.{Start}
use Rattle.pm_command_write.specs.Write.{AppendsLines, DidWrite, Lines, commit_of}
use Rattle.pm_command_write.specs.declared.write.Written.{Written}
use Rattle.pm_command_write.specs.declared.write.Written.TheVariants as written
use Rattle.pm_command_write.specs.declared.writer.Writer.{Writer}

-- ---- batches of the same rows

abbrev count_in : Option GroupRows → Option ℕ
count_in o = option_map (λ (x : GroupRows). x.count) o

held_alike : (s : TableSchema) (rows : List HistoryRow) (one other : Option GroupRows) → HoldsRows s rows one → HoldsRows s rows other → count_in one ≡ count_in other
held_alike s [] one other is was = ap count_in (is ∙ sym was)
held_alike s (row ∷ rows) None other is was = absurd is
held_alike s (row ∷ rows) (Some x) None is was = absurd was
held_alike s (row ∷ rows) (Some x) (Some y) is was = ap Some (is.count ∙ sym was.count)

some_not : (n : ℕ) → ◌≡◌ {A = Option ℕ} (Some n) None → ⊥
some_not n is = cc

one_some : {X : Type 0} (x y : X) → Some x ≡ Some y → x ≡ y
one_some x y is = cc

abbrev found : Group → Groups → Option GroupRows
found g batch = lookup (is_at (group_cmp g)) batch

at_head : (e : Group × GroupRows) (batch : Groups) → found e.0 (e ∷ batch) ≡ Some e.1
at_head e batch = lookup_head (is_at (group_cmp e.0)) e batch (ap is_eq (tied_itself group_total e.0))

below_head : (g : Group) (e : Group × GroupRows) (batch : Groups) → IsStrictlySortedBy group_cmp (keys_of (e ∷ batch)) → group_cmp g e.0 ≡ Less → found g (e ∷ batch) ≡ None
below_head g e batch rises less = lookup-none (is_at (group_cmp g)) (e ∷ batch) (none_below_head group_total g e batch rises less)

past_head : (g : Group) (e : Group × GroupRows) (batch : Groups) → IsStrictlySortedBy group_cmp (keys_of (e ∷ batch)) → is_at (group_cmp g) e.0 ≡ true → found g batch ≡ None
past_head g e batch rises at =
    lookup-none (is_at (group_cmp g)) batch (none_past_head group_equiv g e batch (IsDistinct-from_sorted group_cmp _ rises) at)

module _ (d e : Group × GroupRows) (xs ys : Groups) (rises : IsStrictlySortedBy group_cmp (keys_of (d ∷ xs))) (climbs : IsStrictlySortedBy group_cmp (keys_of (e ∷ ys)))
    (same : (g : Group) → count_in (found g (d ∷ xs)) ≡ count_in (found g (e ∷ ys))) where
  one_group : d.0 ≡ e.0
  one_group =
      elim (group_cmp d.0 e.0) as (λ o. group_cmp d.0 e.0 ≡ o → d.0 ≡ e.0) [
        | orders.Less ↦ λ less. absurd (some_not d.1.count (sym (ap count_in (at_head d xs)) ∙ same d.0 ∙ ap count_in (below_head d.0 e ys climbs less)))
        | orders.Equal ↦ λ tie. group_cmp-IsAntisymmetric d.0 e.0 tie
        | orders.Greater ↦ λ more.
            absurd (some_not e.1.count (sym (ap count_in (at_head e ys)) ∙ sym (same e.0)
            ∙ ap count_in (below_head e.0 d xs rises (group_total.antisymm e.0 d.0 ∙ ap ordering_reverse more))))
      ] refl

  one_count : d.1.count ≡ e.1.count
  one_count =
      let second : found d.0 (e ∷ ys) ≡ Some e.1 = subst (λ (g : Group). found g (e ∷ ys) ≡ Some e.1) (sym one_group) (at_head e ys) in
      one_some d.1.count e.1.count (sym (ap count_in (at_head d xs)) ∙ same d.0 ∙ ap count_in second)

  same_tails : (g : Group) → count_in (found g xs) ≡ count_in (found g ys)
  same_tails g =
      elim (is_at (group_cmp g) d.0) as (λ b. is_at (group_cmp g) d.0 ≡ b → count_in (found g xs) ≡ count_in (found g ys)) [
        | true ↦ λ at. ap count_in (past_head g d xs rises at ∙ sym (past_head g e ys climbs (subst (λ (h : Group). is_at (group_cmp g) h ≡ true) one_group at)))
        | false ↦ λ off.
            ap count_in (sym (lookup_tail (is_at (group_cmp g)) d xs off)) ∙ same g
            ∙ ap count_in (lookup_tail (is_at (group_cmp g)) e ys (subst (λ (h : Group). is_at (group_cmp g) h ≡ false) one_group off))
      ] refl

tail_rises : (e : Group × GroupRows) (batch : Groups) → IsStrictlySortedBy group_cmp (keys_of (e ∷ batch)) → IsStrictlySortedBy group_cmp (keys_of batch)
unfolding IsStrictlySortedBy
tail_rises e batch rises = rises.1

same_counts : (xs ys : Groups) → IsStrictlySortedBy group_cmp (keys_of xs) → IsStrictlySortedBy group_cmp (keys_of ys)
    → ((g : Group) → count_in (found g xs) ≡ count_in (found g ys)) → counts_of xs ≡ counts_of ys
same_counts [] [] rises climbs same = refl
same_counts [] (e ∷ ys) rises climbs same = absurd (some_not e.1.count (sym (ap count_in (at_head e ys)) ∙ sym (same e.0)))
same_counts (d ∷ xs) [] rises climbs same = absurd (some_not d.1.count (sym (ap count_in (at_head d xs)) ∙ same d.0))
same_counts (d ∷ xs) (e ∷ ys) rises climbs same =
    let rest = same_counts xs ys (tail_rises d xs rises) (tail_rises e ys climbs) (same_tails d e xs ys rises climbs same) in
    λ i. (one_group d e xs ys rises climbs same i, one_count d e xs ys rises climbs same i) ∷ rest i

one_counts : (s : TableSchema) (rows : List HistoryRow) (batch more : Groups) → IsBatchOf s rows batch → IsBatchOf s rows more → counts_of batch ≡ counts_of more
one_counts s rows batch more is was =
    same_counts batch more is.ordered was.ordered (λ g. held_alike s (rows_in s g rows) (found g batch) (found g more) (is.held g) (was.held g))

-- ---- what the law of commits says

abbrev pub OneCommit : Type 0
OneCommit = (s : TableSchema) (first second : OwnView) → AreAlike first second → (own : List Event) (one other : Result Appended Refusal) → DidAppend s first one own
    → DidAppend s second other own → (one ≡ other) ⊎ ((one ≡ Err refusals.Memory) ⊎ (other ≡ Err refusals.Memory))

abbrev pub FailedCommit : Type 0
FailedCommit = (s : TableSchema) (first : OwnView) (earlier : List Event) (call : Call) (made : Result Appended Refusal)
    → DidAppend s first made (earlier ++ faulted call ∷ []) → (made ≡ Err refusals.Memory) ⊎ (made ≡ Err (refusals.StoreFault (path_of call)))

-- ---- what the calls show

-- what a commit became is what became of its lines
abbrev written_by : Result Appended Refusal → Result Written Refusal
written_by (Ok appends.Already) = Ok written.Already
written_by (Ok (appends.Committed id)) = Ok (written.Committed id)
written_by (Err e) = Err e

-- what is answered where the schema was read, if no commit follows
abbrev answer_of : Result (List HistoryRow) Refusal → Option (Result Written Refusal)
answer_of (Ok []) = Some (Ok written.Nothing)
answer_of (Ok (row ∷ rows)) = None
answer_of (Err e) = Some (Err e)

module _ (start : Start) (w : Writer) (lines : Lines) where
  abbrev answer_at : schema.Place → Option (Result Written Refusal)
  answer_at (schema.over e) = Some (Err e)
  answer_at (schema.ready s) = answer_of (all_taken s lines)
  answer_at m = None

  -- the rows are committed
  record Commits (result : Result Appended Refusal) (own : List Event) : Type 0 where
    table : TableSchema
    rows : List HistoryRow
    batch : Groups
    declared : IsDeclared table
    taken : all_taken table lines ≡ Ok rows
    some : rows ≢ []
    is_batch : IsBatchOf table rows batch
    did : DidAppend table (commit_of start w batch) result own

  data IsShown (made : Result Written Refusal) (own : List Event) : Type 0 where
    of_memory : made ≡ Err refusals.Memory → IsShown made own
    of_failure : (e : Refusal) → made ≡ Err e → Fails e own → IsShown made own
    of_schema : (m : schema.Place) → Leads schema.Goes own schema.listing m → schema.IsEnd m → answer_at m ≡ Some made → IsShown made own
    of_commit : (result : Result Appended Refusal) → made ≡ written_by result → Commits result own → IsShown made own

  by_schema : (e : Refusal) (own : List Event) → schema.IsShown e own → IsShown (Err e) own
  by_schema e own (schema.of_memory memory) = of_memory (ap Err memory)
  by_schema e own (schema.of_failure fails) = of_failure e refl fails
  by_schema e own (schema.of_place lead) = of_schema (schema.over e) lead tt refl

  by_commit : (result : Result Appended Refusal) (own : List Event) → AppendsLines start w lines result own → IsShown (written_by result) own
  by_commit result own (s, rows, batch, declared, taken, some, is, did) =
      of_commit result refl (record { table = s; rows = rows; batch = batch; declared = declared; taken = taken; some = some; is_batch = is; did = did })

  ready_answer : (s : TableSchema) (taken : Result (List HistoryRow) Refusal) → all_taken s lines ≡ taken → answer_at (schema.ready s) ≡ answer_of taken
  ready_answer s taken is = ap answer_of is

  is_shown : (made : Result Written Refusal) (own : List Event) → DidWrite start w lines made own → IsShown made own
  is_shown (Ok written.Nothing) own (s, taken, has) = of_schema (schema.ready s) (schema.ready_lead s own has.has) tt (ready_answer s (Ok []) taken)
  is_shown (Ok written.Already) own appended = by_commit (Ok appends.Already) own appended
  is_shown (Ok (written.Committed id)) own appended = by_commit (Ok (appends.Committed id)) own appended
  is_shown (Err e) own (inl shows) = by_schema e own (schema.is_shown e own shows)
  is_shown (Err e) own (inr (inl (s, inl memory, has))) = of_memory (ap Err memory)
  is_shown (Err e) own (inr (inl (s, inr why, has))) = of_schema (schema.ready s) (schema.ready_lead s own has.has) tt (ready_answer s (Err e) why)
  is_shown (Err e) own (inr (inr appended)) = by_commit (Err e) own appended

  -- ---- one answer

  abbrev AreOneAnswer : Result Written Refusal → Result Written Refusal → Type 0
  AreOneAnswer one other = (one ≡ other) ⊎ ((one ≡ Err refusals.Memory) ⊎ (other ≡ Err refusals.Memory))

  -- no commit follows where something is answered of the schema
  none_left : (rows : List HistoryRow) (made : Result Written Refusal) → rows ≢ [] → answer_of (Ok rows) ≡ Some made → ⊥
  none_left [] made some is = some refl
  none_left (row ∷ rows) made some is = cc

  schema_not : (own : List Event) (made : Result Written Refusal) (result : Result Appended Refusal) (m : schema.Place) → Leads schema.Goes own schema.listing m → schema.IsEnd m
      → answer_at m ≡ Some made → Commits result own → ⊥
  schema_not own made result m lead ends answer c =
      let (earlier, later, has, is, ended) = c.did in
      let end = one_end schema.Goes schema.IsEnd schema.are_one schema.ends_stay own earlier [] later schema.listing m (schema.ready c.table) (append-nil own ∙ is) lead
      ends (schema.ready_lead c.table earlier has) tt in
      none_left c.rows made c.some (sym (ready_answer c.table (Ok c.rows) c.taken) ∙ subst (λ (m : schema.Place). answer_at m ≡ Some made) end.1 answer)

  same_table : (own : List Event) (one other : Result Appended Refusal) (c : Commits one own) (d : Commits other own) → c.table ≡ d.table
  same_table own one other c d =
      let (earlier, later, has, is, ended) = c.did in
      let (before, more, had, was, stopped) = d.did in
      schema.one_ready c.table d.table
      (one_end schema.Goes schema.IsEnd schema.are_one schema.ends_stay earlier before later more schema.listing (schema.ready c.table) (schema.ready d.table) (sym is ∙ was)
      (schema.ready_lead c.table earlier has) tt (schema.ready_lead d.table before had) tt).1

  one_rows : (rows others : List HistoryRow) → ◌≡◌ {A = Result (List HistoryRow) Refusal} (Ok rows) (Ok others) → rows ≡ others
  one_rows rows others is = cc

  as_written : (one other : Result Appended Refusal) → (one ≡ other) ⊎ ((one ≡ Err refusals.Memory) ⊎ (other ≡ Err refusals.Memory)) → AreOneAnswer (written_by one) (written_by other)
  as_written one other (inl same) = inl (ap written_by same)
  as_written one other (inr (inl memory)) = inr (inl (ap written_by memory))
  as_written one other (inr (inr memory)) = inr (inr (ap written_by memory))

  module _ (law : OneCommit) (failed_law : FailedCommit) where
    one_commit : (own : List Event) (one other : Result Appended Refusal) → Commits one own → Commits other own → AreOneAnswer (written_by one) (written_by other)
    one_commit own one other c d =
        let s = c.table in
        let same = same_table own one other c d in
        let rows : d.rows ≡ c.rows = one_rows d.rows c.rows (sym d.taken ∙ ap (λ (s : TableSchema). all_taken s lines) (sym same) ∙ c.taken) in
        let batch : IsBatchOf s c.rows d.batch = subst (λ (rows : List HistoryRow). IsBatchOf s rows d.batch) rows (subst (λ (s : TableSchema). IsBatchOf s d.rows d.batch) (sym same) d.is_batch) in
        let alike : AreAlike (commit_of start w c.batch) (commit_of start w d.batch) =
        record { author = refl; check = refl; names = refl; lost = refl; counts = one_counts s c.rows c.batch d.batch c.is_batch batch } in
        let did : DidAppend s (commit_of start w d.batch) other own = subst (λ (s : TableSchema). DidAppend s (commit_of start w d.batch) other own) (sym same) d.did in
        as_written one other (law s (commit_of start w c.batch) (commit_of start w d.batch) alike own one other c.did did)

    failed_answer : (own : List Event) (result : Result Appended Refusal) (e : Refusal) → Commits result own → Fails e own
        → (result ≡ Err refusals.Memory) ⊎ (result ≡ Err e)
    failed_answer own result e c (earlier, call, names, is) =
        subst (λ (e : Refusal). (result ≡ Err refusals.Memory) ⊎ (result ≡ Err e)) (sym names)
        (failed_law c.table (commit_of start w c.batch) earlier call result (subst (DidAppend c.table (commit_of start w c.batch) result) is c.did))

    failed_first : (one : Result Written Refusal) (result : Result Appended Refusal) (e : Refusal) → one ≡ Err e → (result ≡ Err refusals.Memory) ⊎ (result ≡ Err e)
        → AreOneAnswer one (written_by result)
    failed_first one result e is (inl memory) = inr (inr (ap written_by memory))
    failed_first one result e is (inr was) = inl (is ∙ sym (ap written_by was))

    failed_last : (result : Result Appended Refusal) (other : Result Written Refusal) (e : Refusal) → other ≡ Err e → (result ≡ Err refusals.Memory) ⊎ (result ≡ Err e)
        → AreOneAnswer (written_by result) other
    failed_last result other e was (inl memory) = inr (inl (ap written_by memory))
    failed_last result other e was (inr is) = inl (ap written_by is ∙ sym was)

    said : (one other made : Result Written Refusal) → one ≡ made → AreOneAnswer made other → AreOneAnswer one other
    said one other made is = subst (λ (made : Result Written Refusal). AreOneAnswer made other) (sym is)

    said_last : (one other made : Result Written Refusal) → other ≡ made → AreOneAnswer one made → AreOneAnswer one other
    said_last one other made is = subst (λ (made : Result Written Refusal). AreOneAnswer one made) (sym is)

    one_shown : (own : List Event) (one other : Result Written Refusal) → IsShown one own → IsShown other own → AreOneAnswer one other
    one_shown own one other (of_memory memory) was = inr (inl memory)
    one_shown own one other is (of_memory memory) = inr (inr memory)
    one_shown own one other (of_failure e is fails) (of_failure d was failed) = inl (is ∙ ap Err (one_failed e d own fails failed) ∙ sym was)
    one_shown own one other (of_failure e is fails) (of_schema m lead ends answer) = absurd (failed_not e own fails (schema.leads_answered own m lead))
    one_shown own one other (of_failure e is fails) (of_commit result was c) = said_last one other (written_by result) was (failed_first one result e is (failed_answer own result e c fails))
    one_shown own one other (of_schema m lead ends answer) (of_failure d was fails) = absurd (failed_not d own fails (schema.leads_answered own m lead))
    one_shown own one other (of_schema m lead ends answer) (of_schema n led stops also) =
        let same = one_lead schema.Goes schema.are_one own schema.listing m n lead led in
        inl (one_some one other (sym answer ∙ ap answer_at same ∙ also))
    one_shown own one other (of_schema m lead ends answer) (of_commit result was c) = absurd (schema_not own one result m lead ends answer c)
    one_shown own one other (of_commit result is c) (of_failure d was fails) = said one other (written_by result) is (failed_last result other d was (failed_answer own result d c fails))
    one_shown own one other (of_commit result is c) (of_schema m lead ends answer) = absurd (schema_not own other result m lead ends answer c)
    one_shown own one other (of_commit result is c) (of_commit found_so was d) =
        said one other (written_by result) is (said_last (written_by result) other (written_by found_so) was (one_commit own result found_so c d))

pub one_answer : OneCommit → FailedCommit → (start : Start) (w : Writer) (lines : Lines) (own : List Event) (one other : Result Written Refusal) → DidWrite start w lines one own
    → DidWrite start w lines other own → (one ≡ other) ⊎ ((one ≡ Err refusals.Memory) ⊎ (other ≡ Err refusals.Memory))
one_answer law failed_law start w lines own one other did does =
    one_shown start w lines law failed_law own one other (is_shown start w lines one own did) (is_shown start w lines other own does)
