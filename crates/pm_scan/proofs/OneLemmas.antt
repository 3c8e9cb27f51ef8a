-- What the calls of a scan show: what each data file leads to, once the view is read, but that memory may run out. So the
-- calls show one refusal at most, and texts of the same runs.
use Rattle.std.proofs.Common.{◌≡◌, ◌⊎◌, inl, inr, ℕ, List, [], ◌∷◌, ◌++◌, Option, None, Some, Result, Ok, Err, refl, sym, ap, subst, ◌∙◌, append_assoc, append-nil}
use Rattle.std.specs.List.{AllByRecursion}
use Rattle.std.proofs.lemmas.Map.Lookups.{btree_map_from_get}
use Rattle.pm_base.proofs.Laws.{AllByRecursion-append}
use Rattle.pm_values.specs.GroupOrder.{group_total}
use Rattle.pm_values.specs.declared.group.Group.{Group}
use Rattle.pm_values.specs.declared.refusal.Refusal.{Refusal}
use Rattle.pm_values.specs.declared.refusal.Refusal.TheVariants as refusals
use Rattle.pm_values.proofs.Lemmas.{group_cmp-IsAntisymmetric}
use Rattle.pm_store.specs.declared.call.Call.{Call}
use Rattle.pm_machine.specs.Step.{path_of}
use Rattle.pm_machine.specs.Trace.{Event, faulted}
use Rattle.pm_schema.specs.declared.schema.TableSchema.{TableSchema}
use Rattle.pm_engine.specs.OfSchema.{meaning_of}
use Rattle.pm_scan_rows.specs.Group.{runs_read}
use Rattle.pm_scan_rows.specs.Shown.{PrintsGroups}
use Rattle.pm_levels.specs.Runs.{RunView}
use Rattle.pm_manifest.specs.Live.{Live}
use Rattle.pm_model_contents.specs.Groups.{GroupRuns}
use Rattle.pm_model_contents.specs.Runs.{AreRunsOf}
use Rattle.pm_read_schema.proofs.LeadLemmas.{Fails, IsAnswered, Leads, failed, failed_not, one_end, one_failed, one_lead}
use Rattle.pm_read_schema.proofs.OneLemmas as schema
use Rattle.pm_read_table.specs.Asked.{Asked}
use Rattle.pm_read_table.specs.View.{runs_at}
use Rattle.pm_read_table.specs.declared.view.View.{View}
use Rattle.pm_read_table.proofs.OneLemmas as view
use Rattle.pm_group_files.specs.Chosen.{Chosen, chosen_of}
use Rattle.pm_group_files.specs.Collected.{with_groups}
use Rattle.pm_group_files.specs.Jobs.{whole_groups}
use Rattle.pm_group_files.specs.Trace as files_trace
use Rattle.pm_group_files.proofs.FaultLemmas.{IsOfFiles, damaged, expired, unsupported}
use Rattle.pm_group_files.proofs.OneLemmas.{FileLaws, LeadsTo, Place, files, lead_answered, one_place, over, part_lead, shows_lead}
use Rattle.pm_scan.specs.AllCalls.{DidScan, Ends, Has, PrintAlike}
use Rattle.pm_scan.specs.Asked.{AskedRows, asked_at}
use Rattle.pm_scan.specs.Rows.{groups_of}
use Rattle.pm_scan.specs.declared.rows.Rows.{Rows}
use Rattle.pm_scan.specs.Meaning.{all_of}
use Rattle.pm_scan.specs.Scanner.{next_call}
use Rattle.pm_scan.specs.Trace.{AfterView, DidSoFar, ShowsOfFiles}
use Rattle.pm_scan.proofs.ScanLemmas.{no-runs}

-- ---- the laws of the crates below

pub record OneLaws : Type 0 where
  pub reader : view.OneLaws
  pub runs : (live : Live) (g : Group) (runs others : List RunView) → AreRunsOf live g runs → AreRunsOf live g others → runs ≡ others
  pub read : FileLaws

-- ---- the reading of the schema

-- two readings of a schema were the same calls, and so are those that follow
pub one_reading : (s t : TableSchema) (first other more rest : List Event) → Has s first → Has t other → first ++ more ≡ other ++ rest → (s ≡ t) × (more ≡ rest)
one_reading s t first other more rest has had is =
    let end = one_end schema.Goes schema.IsEnd schema.are_one schema.ends_stay first other more rest schema.listing (schema.ready s) (schema.ready t) is
    (schema.ready_lead s first has) tt (schema.ready_lead t other had) tt in
    (schema.one_ready s t end.1, end.2)

-- ---- they lead to one place

module _ (laws : OneLaws) where
  -- ---- a view is one

  same_found : (live : Live) (g : Group) (one other : Option (List RunView)) → GroupRuns live g one → GroupRuns live g other → one ≡ other
  same_found live g (Some runs) (Some others) (are, some) (were, more) = ap Some (laws.runs live g runs others are were)
  same_found live g (Some runs) None (are, some) none = absurd (some (no-runs live g runs are none))
  same_found live g None (Some others) none (were, more) = absurd (more (no-runs live g others were none))
  same_found live g None None none gone = refl

  -- to its id, its schema and the runs of its groups
  pub record Alike (v w : View) : Type 0 where
    pub id : v.id ≡ w.id
    pub schema : v.schema ≡ w.schema
    pub groups : v.groups.entries ≡ w.groups.entries

  pub one_view : (a : Asked) (v w : View) (m : view.Place) → view.IsViewAt a v m → view.IsViewAt a w m → Alike v w
  one_view a v w view.origin is was = record {
    id = is.id ∙ sym was.id;
    schema = is.schema ∙ sym was.schema;
    groups = btree_map_from_get group_total v.groups w.groups is.order was.order (λ g. is.groups g ∙ sym (was.groups g)) group_cmp-IsAntisymmetric;
  }
  one_view a v w (view.manifests x metas [] es) (live, left, is) (other, gone, was) =
      let same = view.same_live es other live gone left in
      let found : (g : Group) → runs_at v g ≡ runs_at w g =
      λ g. same_found live g (runs_at v g) (runs_at w g) (is.groups g) (subst (λ (live : Live). GroupRuns live g (runs_at w g)) same (was.groups g)) in record {
        id = is.id ∙ sym was.id;
        schema = is.schema ∙ sym was.schema;
        groups = btree_map_from_get group_total v.groups w.groups is.order was.order found group_cmp-IsAntisymmetric;
      }
  one_view a v w m is was = absurd is

  -- so what is asked of the reader of its files is
  pub same_asked : (k : Rows) (v w : View) → Alike v w → all_of k v ≡ all_of k w
  same_asked k v w alike =
      ap (λ (s : TableSchema). chosen_of s v.id (whole_groups (groups_of k s v.groups.entries)) []) alike.schema
      ∙ ap (λ (id : ℕ). chosen_of w.schema id (whole_groups (groups_of k w.schema v.groups.entries)) []) alike.id
      ∙ ap (λ (groups : List (Group × List RunView)). chosen_of w.schema w.id (whole_groups (groups_of k w.schema groups)) []) alike.groups

  module _ (b : AskedRows) where
    abbrev a : Asked
    a = b.table

    -- the view was read, and then its files led here
    record Scanned (own : List Event) (n : Place) : Type 0 where
      view_is : View
      first : List Event
      reads : List Event
      is : own ≡ first ++ reads
      place : view.Place
      lead : Leads (view.Goes a) first (view.start a) place
      at : view.IsViewAt a view_is place
      reach : LeadsTo (all_of b.rows view_is) reads n

    scanned : (v : View) (P : List Event → Type 0) (n : Place) (own : List Event) → ((reads : List Event) → P reads → LeadsTo (all_of b.rows v) reads n) → AfterView a v P own → Scanned own n
    scanned v P n own leads after =
        let viewed = view.view_lead a laws.reader v after.first after.viewed in record {
          view_is = v;
          first = after.first;
          reads = after.reads;
          is = after.is;
          place = viewed.0;
          lead = viewed.1;
          at = viewed.2;
          reach = leads after.reads after.so;
        }

    -- ---- what they show

    abbrev IsAnswer : Place → Result (List ℕ) Refusal → Type 0
    IsAnswer (files c []) (Ok text) = PrintsGroups (meaning_of c.schema) (runs_read c.groups) text
    IsAnswer (over e) (Err other) = e ≡ other
    IsAnswer m made = ⊥

    data IsShown (made : Result (List ℕ) Refusal) (own : List Event) : Type 0 where
      of_memory : made ≡ Err refusals.Memory → IsShown made own
      of_failure : (e : Refusal) → made ≡ Err e → Fails e own → IsShown made own
      of_reader : (e : Refusal) → made ≡ Err e → (m : view.Place) → Leads (view.Goes a) own (view.start a) m → view.IsRefusedAt a e m → IsShown made own
      of_files : (n : Place) → Scanned own n → IsAnswer n made → IsShown made own

    by_reader : (e : Refusal) (own : List Event) → view.IsShown a e own → IsShown (Err e) own
    by_reader e own (view.of_memory memory) = of_memory (ap Err memory)
    by_reader e own (view.of_failure fails) = of_failure e refl fails
    by_reader e own (view.of_place m lead refused) = of_reader e refl m lead refused

    of_fault : (e : Refusal) (own : List Event) → IsOfFiles e → (v : View) → AfterView a v (files_trace.Shows (all_of b.rows v) e) own → IsShown (Err e) own
    of_fault e own fault v after =
        of_files (over e) (scanned v (files_trace.Shows (all_of b.rows v) e) (over e) own (λ reads shows. shows_lead (all_of b.rows v) e reads fault shows) after) refl

    -- a reader of files shows no other refusal
    files_shown : (e : Refusal) (own : List Event) → ShowsOfFiles b e own → IsShown (Err e) own
    files_shown refusals.Memory own shows = of_memory refl
    files_shown (refusals.StoreFault path) own fails = of_failure (refusals.StoreFault path) refl (failed next_call (DidSoFar b) path own fails)
    files_shown (refusals.Expired id) own (v, after) = of_fault (refusals.Expired id) own (expired id) v after
    files_shown (refusals.Damaged path place) own (v, after) = of_fault (refusals.Damaged path place) own (damaged path place) v after
    files_shown (refusals.Unsupported what text) own (v, after) = of_fault (refusals.Unsupported what text) own (unsupported what text) v after
    files_shown e own (v, after) = absurd after.so

    is_shown : (made : Result (List ℕ) Refusal) (own : List Event) → Ends b made own → IsShown made own
    is_shown (Ok text) own (id, scan) =
        let v = scan.view in
        of_files (files (with_groups [] scan.collected) [])
        (scanned v (files_trace.HasPart (all_of b.rows v) scan.collected []) (files (with_groups [] scan.collected) []) own
        (λ reads part. part_lead (all_of b.rows v) scan.collected [] reads part) scan.all_read)
        scan.prints
    is_shown (Err e) own (inl shows) = by_reader e own (view.is_shown a laws.reader e own shows)
    is_shown (Err e) own (inr shows) = files_shown e own shows

    -- ---- one answer

    scanned_answered : (own : List Event) (n : Place) → Scanned own n → AllByRecursion IsAnswered own
    scanned_answered own n s =
        let one = view.leads_answered a s.first s.place s.lead in
        let two = lead_answered (all_of b.rows s.view_is) s.reads n s.reach in
        subst (AllByRecursion IsAnswered) (sym s.is) (AllByRecursion-append IsAnswered s.first s.reads one two)

    one_scanned : (own : List Event) (n k : Place) → Scanned own n → Scanned own k → n ≡ k
    one_scanned own n k s t =
        let end = one_end (view.Goes a) (view.IsEnd a) (view.are_one a laws.reader) (view.ends_stay a) s.first t.first s.reads t.reads (view.start a) s.place t.place (sym s.is ∙ t.is)
        s.lead (view.view_ends a s.view_is s.place s.at) t.lead (view.view_ends a t.view_is t.place t.at) in
        let alike = one_view a t.view_is s.view_is t.place t.at (subst (view.IsViewAt a s.view_is) end.1 s.at) in
        let asked = subst (λ (c : Chosen). LeadsTo c t.reads k) (same_asked b.rows t.view_is s.view_is alike) t.reach in
        let same = subst (λ (reads : List Event). LeadsTo (all_of b.rows s.view_is) reads k) (sym end.2) asked in
        one_place (all_of b.rows s.view_is) laws.read s.reads n k s.reach same

    -- the view's reader isn't refused where the view was read
    refused_not : (own : List Event) (e : Refusal) (m : view.Place) (n : Place) → Leads (view.Goes a) own (view.start a) m → view.IsRefusedAt a e m → Scanned own n → ⊥
    refused_not own e m n lead refused s =
        let end = one_end (view.Goes a) (view.IsEnd a) (view.are_one a laws.reader) (view.ends_stay a) own s.first [] s.reads (view.start a) m s.place (append-nil own ∙ s.is)
        lead (view.refused_ends a e m refused) s.lead (view.view_ends a s.view_is s.place s.at) in
        view.view_not_refused a laws.reader s.view_is e s.place s.at (subst (view.IsRefusedAt a e) end.1 refused)

    -- two answers are one; or memory ran out; or both are texts of the same runs
    abbrev AreAlike : Result (List ℕ) Refusal → Result (List ℕ) Refusal → Type 0
    AreAlike one other = (one ≡ other) ⊎ ((one ≡ Err refusals.Memory) ⊎ ((other ≡ Err refusals.Memory) ⊎ PrintAlike one other))

    one_answer_at : (n : Place) (one other : Result (List ℕ) Refusal) → IsAnswer n one → IsAnswer n other → AreAlike one other
    one_answer_at (files c []) (Ok text) (Ok more) is was = inr (inr (inr (c.schema, runs_read c.groups, is, was)))
    one_answer_at (files c []) (Ok text) (Err e) is was = absurd was
    one_answer_at (over e) (Err one) (Err other) is was = inl (ap Err (sym is ∙ was))
    one_answer_at (over e) (Err one) (Ok text) is was = absurd was
    one_answer_at n one other is was = absurd is

    same_errs : (one other : Result (List ℕ) Refusal) (e d : Refusal) → one ≡ Err e → other ≡ Err d → e ≡ d → AreAlike one other
    same_errs one other e d is was same = inl (is ∙ ap Err same ∙ sym was)

    one_shown : (own : List Event) (one other : Result (List ℕ) Refusal) → IsShown one own → IsShown other own → AreAlike one other
    one_shown own one other (of_memory memory) was = inr (inl memory)
    one_shown own one other is (of_memory memory) = inr (inr (inl memory))
    one_shown own one other (of_failure e is fails) (of_failure d was failed) = same_errs one other e d is was (one_failed e d own fails failed)
    one_shown own one other (of_failure e is fails) (of_reader d was m lead refused) = absurd (failed_not e own fails (view.leads_answered a own m lead))
    one_shown own one other (of_failure e is fails) (of_files n s answer) = absurd (failed_not e own fails (scanned_answered own n s))
    one_shown own one other (of_reader e is m lead refused) (of_failure d was fails) = absurd (failed_not d own fails (view.leads_answered a own m lead))
    one_shown own one other (of_reader e is m lead refused) (of_reader d was n leads denied) =
        let same = one_lead (view.Goes a) (view.are_one a laws.reader) own (view.start a) m n lead leads in
        same_errs one other e d is was (view.one_refused a laws.reader e d n (subst (view.IsRefusedAt a e) same refused) denied)
    one_shown own one other (of_reader e is m lead refused) (of_files n s answer) = absurd (refused_not own e m n lead refused s)
    one_shown own one other (of_files n s answer) (of_failure d was fails) = absurd (failed_not d own fails (scanned_answered own n s))
    one_shown own one other (of_files n s answer) (of_reader d was m lead refused) = absurd (refused_not own d m n lead refused s)
    one_shown own one other (of_files n s answer) (of_files k t also) =
        one_answer_at k one other (subst (λ (n : Place). IsAnswer n one) (one_scanned own n k s t) answer) also

  -- ---- from the reading of the schema on

  pub one_answer : (s : TableSchema) (at : Option ℕ) (own : List Event) (one other : Result (List ℕ) Refusal) → DidScan s at one own → DidScan s at other own
      → (one ≡ other) ⊎ ((one ≡ Err refusals.Memory) ⊎ ((other ≡ Err refusals.Memory) ⊎ PrintAlike one other))
  one_answer s at own one other (earlier, later, has, is, ends_so) (first, last, had, was, ended) =
      let same = (one_reading s s earlier first later last has had (sym is ∙ was)).1 in
      one_shown (asked_at s at) last one other (is_shown (asked_at s at) one last (subst (Ends (asked_at s at) one) same ends_so)) (is_shown (asked_at s at) other last ended)

  -- where the last call failed the answer says so
  failed_answer : (s : TableSchema) (at : Option ℕ) (own : List Event) (made : Result (List ℕ) Refusal) (e : Refusal) → DidScan s at made own → Fails e own
      → (made ≡ Err refusals.Memory) ⊎ (made ≡ Err e)
  failed_answer s at own made e (earlier, later, has, is, ends_so) fails = by (is_shown (asked_at s at) made later ends_so)
    where
      whole : AllByRecursion IsAnswered later → AllByRecursion IsAnswered own
      whole answered =
          subst (AllByRecursion IsAnswered) (sym is)
          (AllByRecursion-append IsAnswered earlier later (schema.leads_answered earlier (schema.ready s) (schema.ready_lead s earlier has)) answered)

      by : IsShown (asked_at s at) made later → (made ≡ Err refusals.Memory) ⊎ (made ≡ Err e)
      by (of_memory memory) = inl memory
      by (of_failure d was (first, call, names, at_last)) =
          let all : Fails d own = (
            earlier ++ first,
            call,
            names,
            is ∙ ap (λ (later : List Event). earlier ++ later) at_last ∙ sym (append_assoc earlier first (faulted call ∷ [])),
          ) in
          inr (was ∙ ap Err (one_failed d e own all fails))
      by (of_reader d was m lead refused) = absurd (failed_not e own fails (whole (view.leads_answered (asked_at s at).table later m lead)))
      by (of_files n scan answer) = absurd (failed_not e own fails (whole (scanned_answered (asked_at s at) later n scan)))

  pub failed_scan : (s : TableSchema) (at : Option ℕ) (earlier : List Event) (call : Call) (made : Result (List ℕ) Refusal)
      → DidScan s at made (earlier ++ faulted call ∷ []) → (made ≡ Err refusals.Memory) ⊎ (made ≡ Err (refusals.StoreFault (path_of call)))
  failed_scan s at earlier call made did =
      failed_answer s at (earlier ++ faulted call ∷ []) made (refusals.StoreFault (path_of call)) did (earlier, call, refl, refl)
