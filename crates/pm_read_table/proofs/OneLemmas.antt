-- What the calls of a reader show: what each answer leads to, but that memory may run out. So the calls lead to one
-- place, and show one refusal at most.
use Rattle.std.proofs.Common.{◌≡◌, ◌≢◌, ◌⊎◌, inl, inr, ℕ, zero, suc, ◌≤◌, List, [], ◌∷◌, ◌++◌, Option, None, Some, IsSome, Result, Ok, Err, refl, sym, ap, subst, ◌∙◌, arith, append_assoc, append-nil, Bool}
use Rattle.std.specs.List.{AllByRecursion}
use Rattle.pm_values.specs.declared.refusal.Refusal.{Refusal}
use Rattle.pm_values.specs.declared.refusal.Refusal.TheVariants as refusals
use Rattle.pm_store.specs.declared.answer.Answer.{Answer}
use Rattle.pm_store.specs.declared.answer.Answer.TheVariants as answers
use Rattle.pm_machine.specs.Trace.{Event}
use Rattle.pm_avro_schema.specs.Avro.{Avro}
use Rattle.pm_record.specs.File.{Reading, ReadsFile}
use Rattle.pm_snapshot.specs.Snapshot.{snapshot_in}
use Rattle.pm_snapshot.specs.declared.fault.SnapFault.{SnapFault}
use Rattle.pm_snapshot.specs.declared.fault.SnapFault.TheVariants as faults
use Rattle.pm_snapshot.specs.declared.snapshot.Snapshot.{Snapshot}
use Rattle.pm_model_folder.specs.Paths.{origin_path, schema_path, snapshot_path}
use Rattle.pm_paths.specs.Ids.{IsLatest}
use Rattle.pm_read_schema.specs.Trace.{Names, listed_snapshots}
use Rattle.pm_manifest.specs.Entries.{entry_in, has_entry_fields}
use Rattle.pm_manifest.specs.Listed.{has_meta_fields, meta_in}
use Rattle.pm_manifest.specs.Live.{AreInOrder, IsOutOfOrder, Leaves, Live, live_after}
use Rattle.pm_manifest.specs.Shape.{shape_of}
use Rattle.pm_manifest.specs.declared.entry.Entry.{Entry}
use Rattle.pm_manifest.specs.declared.entry.ManifestMeta.{ManifestMeta}
use Rattle.pm_model_contents.specs.Groups.{Overlaps}
use Rattle.pm_model_contents.specs.Lists.{manifest_path, none_live}
use Rattle.pm_read_table.specs.Asked.{Asked}
use Rattle.pm_read_table.specs.Reader.{IsAbove, IsAsked, next_call}
use Rattle.pm_read_table.specs.Trace.{DidSoFar, FindsBase, FindsDelta, FindsNext, Has, HasBase, HasDelta, HasPart, HasView, HaveRead, IsDamaged, IsGone, LacksFile, Lists, ListsFor, Misreads, Reads, ReadsAgain, Shows, bad_schema, bad_snapshot, gone_again, gone_origin, gone_snapshot, is_absent, is_disordered, is_misread, is_overlap, lacks_base, lacks_delta, lacks_manifest, misreads_base, misreads_delta, misreads_manifest, of_origin, of_snapshot, read_file}
use Rattle.pm_read_table.specs.View.{IsOriginView, IsViewOf, kept_for, runs_at}
use Rattle.pm_read_table.specs.declared.asked.Wanted.{Wanted}
use Rattle.pm_read_table.specs.declared.asked.Wanted.TheVariants as wants
use Rattle.pm_read_table.specs.declared.view.View.{View}
use Rattle.pm_read_table.proofs.Facts.{Joined, OneList}
use Rattle.pm_read_schema.proofs.LeadLemmas.{AreOne, Fails, IsAnswered, Leads, Stays, all_answered, failed, failed_not, lead_join, lead_step, led, one_failed, one_lead}
use Rattle.pm_read_table.proofs.OverlapLemmas.{one_overlap, runs_or_overlap}

-- ---- the laws of the crates below

abbrev pub OneManifest : Type 0
OneManifest = (takes : Avro → Bool) (reads : Reading Entry) (path bytes : List ℕ) (a b : Result (List Entry) Refusal)
    → ReadsFile takes reads path bytes a → ReadsFile takes reads path bytes b → a ≢ Err refusals.Memory → b ≢ Err refusals.Memory → a ≡ b

pub record OneLaws : Type 0 where
  pub joined : Joined
  pub lists : OneList
  pub manifests : OneManifest

-- ---- where calls lead

-- the snapshots are to be listed; the one with an id is to be opened, or was, and is the origin; a snapshot's base list
-- is to be read, then its delta list, then its manifests, of which those that are left are, after the entries of those
-- that were; a snapshot is to be read again, as the file at the path was absent; or the reader was refused
pub data Place : Type 0 where
  listing : Place
  opening : ℕ → Place
  origin : Place
  base : Snapshot → Place
  delta : Snapshot → List ManifestMeta → Place
  manifests : Snapshot → List ManifestMeta → List ManifestMeta → List Entry → Place
  again : ℕ → List ℕ → Place
  over : Refusal → Place

abbrev pub list_leads : (List ManifestMeta → Place) → Result (List ManifestMeta) Refusal → Place
list_leads then (Ok metas) = then metas
list_leads then (Err e) = over e

-- where the first call is made
abbrev pub start_for : Wanted → Place
start_for (wants.Whole id) = opening id
start_for other = listing

pub same_live : (es : List Entry) (live other : Live) → Leaves none_live es live → Leaves none_live es other → live ≡ other
same_live es live other left was = λ i id. (left id ∙ sym (was id)) i

module _ (a : Asked) where
  abbrev pub Opened : ℕ → Result Snapshot SnapFault → Place → Type 0
  Opened id (Ok x) new =
      ((x.schema_id ≡ a.schema.id) × (new ≡ base x)) ⊎ ((x.schema_id ≢ a.schema.id) × (new ≡ over (refusals.Damaged (schema_path x.schema_id) 0)))
  Opened id (Err fault) new = new ≡ over (refusals.Damaged (snapshot_path id) 0)

  pub record ListRead (path bytes : List ℕ) (then : List ManifestMeta → Place) (new : Place) : Type 0 where
    pub result : Result (List ManifestMeta) Refusal
    pub reads : ReadsFile has_meta_fields meta_in path bytes result
    pub other : result ≢ Err refusals.Memory
    pub is : new ≡ list_leads then result

  abbrev pub Follows : Snapshot → List ManifestMeta → ManifestMeta → List ManifestMeta → List Entry → Result (List Entry) Refusal → Place → Type 0
  Follows x done meta rest es (Ok own) new =
      (AreInOrder none_live (es ++ own) × (new ≡ manifests x (done ++ meta ∷ []) rest (es ++ own)))
      ⊎ ((i : ℕ) × IsOutOfOrder (live_after none_live es) own i × (new ≡ over (refusals.Damaged (manifest_path meta.name) 0)))
  Follows x done meta rest es (Err e) new = new ≡ over e

  pub record ManifestRead (x : Snapshot) (done : List ManifestMeta) (meta : ManifestMeta) (rest : List ManifestMeta) (es : List Entry) (bytes : List ℕ) (new : Place) : Type 0 where
    pub result : Result (List Entry) Refusal
    pub reads : ReadsFile has_entry_fields (entry_in (shape_of a.schema)) (manifest_path meta.name) bytes result
    pub other : result ≢ Err refusals.Memory
    pub follows : Follows x done meta rest es result new

  -- the id that is asked for is of a snapshot, or above them
  abbrev pub Listed : List (List ℕ) → Place → Type 0
  Listed names new = (latest id : ℕ) × IsLatest names latest
      × ((IsAsked a.wanted latest id × (new ≡ opening id)) ⊎ (IsAbove a.wanted latest id × (new ≡ over (refusals.NoSnapshot id latest))))

  -- what an answer leads to
  abbrev pub After : Place → Answer → Place → Type 0
  After listing (answers.Listed names) new = Listed names.items new
  After (opening zero) (answers.Found None) new = new ≡ over (refusals.Expired 0)
  After (opening zero) (answers.Found (Some bytes)) new = new ≡ origin
  After (opening (suc id)) (answers.Found None) new = new ≡ over (refusals.Expired (suc id))
  After (opening (suc id)) (answers.Found (Some bytes)) new = Opened (suc id) (snapshot_in (suc id) bytes) new
  After (base x) (answers.Found None) new = new ≡ again x.id (manifest_path x.base_list)
  After (base x) (answers.Found (Some bytes)) new = ListRead (manifest_path x.base_list) bytes (delta x) new
  After (delta x metas) (answers.Found None) new = new ≡ again x.id (manifest_path x.delta_list)
  After (delta x metas) (answers.Found (Some bytes)) new =
      ListRead (manifest_path x.delta_list) bytes (λ (more : List ManifestMeta). manifests x [] (metas ++ more) []) new
  After (manifests x done (meta ∷ rest) es) (answers.Found None) new = new ≡ again x.id (manifest_path meta.name)
  After (manifests x done (meta ∷ rest) es) (answers.Found (Some bytes)) new = ManifestRead x done meta rest es bytes new
  After (again id path) (answers.Found None) new = new ≡ over (refusals.Expired id)
  After (again id path) (answers.Found (Some bytes)) new = new ≡ over (refusals.Damaged path 0)
  After m answer new = ⊥

  abbrev pub Given : Place → Option Answer → Place → Type 0
  Given m None new = ⊥
  Given m (Some answer) new = After m answer new

  abbrev pub Goes : Place → Event → Place → Type 0
  Goes m event new = Given m event.answer new

  abbrev pub start : Place
  start = start_for a.wanted

  -- ---- they lead to one place

  up_to : (names : List (List ℕ)) (one other : ℕ) → IsLatest names one → IsLatest names other → one ≤ other
  up_to names zero other is was = omega arith
  up_to names (suc one) other is was = was.most (suc one) is.within (is.listed (omega arith))

  one_latest : (names : List (List ℕ)) (one other : ℕ) → IsLatest names one → IsLatest names other → one ≡ other
  one_latest names one other is was =
      let low = up_to names one other is was in
      let high = up_to names other one was is in
      omega (arith, low, high)

  one_asked : (w : Wanted) (latest id other : ℕ) → IsAsked w latest id → IsAsked w latest other → id ≡ other
  one_asked wants.Newest latest id other is was = is ∙ sym was
  one_asked wants.Entries latest id other is was = is ∙ sym was
  one_asked (wants.At asked) latest id other is was = is.0 ∙ sym was.0
  one_asked (wants.Whole asked) latest id other is was = absurd is

  one_above : (w : Wanted) (latest id other : ℕ) → IsAbove w latest id → IsAbove w latest other → id ≡ other
  one_above wants.Newest latest id other is was = absurd is
  one_above wants.Entries latest id other is was = absurd is
  one_above (wants.At asked) latest id other is was = is.0 ∙ sym was.0
  one_above (wants.Whole asked) latest id other is was = absurd is

  asked_above : (w : Wanted) (latest id other : ℕ) → IsAsked w latest id → IsAbove w latest other → ⊥
  asked_above wants.Newest latest id other is was = was
  asked_above wants.Entries latest id other is was = was
  asked_above (wants.At asked) latest id other (is, within) (was, above) = omega (arith, within, above)
  asked_above (wants.Whole asked) latest id other is was = was

  one_listed : (names : List (List ℕ)) (one other : Place) → Listed names one → Listed names other → one ≡ other
  one_listed names one other (latest, id, newest, goes) (last, jd, greatest, went) =
      at (one_latest names latest last newest greatest) goes went
    where
      at : latest ≡ last → (IsAsked a.wanted latest id × (one ≡ opening id)) ⊎ (IsAbove a.wanted latest id × (one ≡ over (refusals.NoSnapshot id latest)))
          → (IsAsked a.wanted last jd × (other ≡ opening jd)) ⊎ (IsAbove a.wanted last jd × (other ≡ over (refusals.NoSnapshot jd last))) → one ≡ other
      at same (inl (is, p)) (inl (was, q)) = p ∙ ap opening (one_asked a.wanted last id jd (subst (λ (n : ℕ). IsAsked a.wanted n id) same is) was) ∙ sym q
      at same (inl (is, p)) (inr (was, q)) = absurd (asked_above a.wanted last id jd (subst (λ (n : ℕ). IsAsked a.wanted n id) same is) was)
      at same (inr (is, p)) (inl (was, q)) = absurd (asked_above a.wanted last jd id was (subst (λ (n : ℕ). IsAbove a.wanted n id) same is))
      at same (inr (is, p)) (inr (was, q)) =
          p ∙ ap (λ (id : ℕ). over (refusals.NoSnapshot id latest)) (one_above a.wanted last id jd (subst (λ (n : ℕ). IsAbove a.wanted n id) same is) was)
          ∙ ap (λ (n : ℕ). over (refusals.NoSnapshot jd n)) same ∙ sym q

  one_opened : (id : ℕ) (result : Result Snapshot SnapFault) (one other : Place) → Opened id result one → Opened id result other → one ≡ other
  one_opened id (Ok x) one other (inl (own, p)) (inl (also, q)) = p ∙ sym q
  one_opened id (Ok x) one other (inl (own, p)) (inr (foreign, q)) = absurd (foreign own)
  one_opened id (Ok x) one other (inr (foreign, p)) (inl (own, q)) = absurd (foreign own)
  one_opened id (Ok x) one other (inr (foreign, p)) (inr (also, q)) = p ∙ sym q
  one_opened id (Err fault) one other p q = p ∙ sym q

  -- ---- where they end

  -- the view is read here
  abbrev pub IsViewAt : View → Place → Type 0
  IsViewAt v origin = IsOriginView a.schema v
  IsViewAt v (manifests x metas [] es) = (live : Live) × Leaves none_live es live × IsViewOf a.schema x metas (kept_for a.wanted es) live v
  IsViewAt v m = ⊥

  -- it is refused here
  abbrev pub IsRefusedAt : Refusal → Place → Type 0
  IsRefusedAt e (over other) = e ≡ other
  IsRefusedAt e (manifests x metas [] es) = (path : List ℕ) × (place : ℕ) × (live : Live) × (e ≡ refusals.Damaged path place) × Leaves none_live es live
      × Overlaps a.schema live (refusals.Damaged path place)
  IsRefusedAt e m = ⊥

  abbrev pub IsEnd : Place → Type 0
  IsEnd origin = Unit {0}
  IsEnd (manifests x metas [] es) = Unit {0}
  IsEnd (over e) = Unit {0}
  IsEnd m = ⊥

  given_not : (answer : Option Answer) (m new : Place) → ((answer : Answer) → After m answer new → ⊥) → Given m answer new → ⊥
  given_not None m new none goes = goes
  given_not (Some answer) m new none goes = none answer goes

  pub ends_stay : Stays Goes IsEnd
  ends_stay origin new event ends goes = given_not event.answer origin new (λ answer goes. goes) goes
  ends_stay (manifests x metas [] es) new event ends goes = given_not event.answer (manifests x metas [] es) new (λ answer goes. goes) goes
  ends_stay (over e) new event ends goes = given_not event.answer (over e) new (λ answer goes. goes) goes
  ends_stay m new event ends goes = absurd ends

  pub view_ends : (v : View) (m : Place) → IsViewAt v m → IsEnd m
  view_ends v origin is = tt
  view_ends v (manifests x metas [] es) is = tt
  view_ends v m is = absurd is

  pub refused_ends : (e : Refusal) (m : Place) → IsRefusedAt e m → IsEnd m
  refused_ends e (over other) is = tt
  refused_ends e (manifests x metas [] es) is = tt
  refused_ends e m is = absurd is

  -- memory ran out; or the last call failed; or they lead to where this is refused
  pub data IsShown (e : Refusal) (own : List Event) : Type 0 where
    of_memory : e ≡ refusals.Memory → IsShown e own
    of_failure : Fails e own → IsShown e own
    of_place : (m : Place) → Leads Goes own start m → IsRefusedAt e m → IsShown e own

  given_answered : (m new : Place) (answer : Option Answer) → Given m answer new → IsSome answer
  given_answered m new None goes = absurd goes
  given_answered m new (Some answer) goes = refl

  -- no call that leads on failed
  pub leads_answered : (own : List Event) (m : Place) → Leads Goes own start m → AllByRecursion IsAnswered own
  leads_answered own m lead = all_answered Goes (λ m event new goes. given_answered m new event.answer goes) own start m lead

  module _ (laws : OneLaws) where
    one_list : (path bytes : List ℕ) (then : List ManifestMeta → Place) (one other : Place) → ListRead path bytes then one → ListRead path bytes then other → one ≡ other
    one_list path bytes then one other is was =
        is.is ∙ ap (list_leads then) (laws.lists has_meta_fields meta_in path bytes is.result was.result is.reads was.reads is.other was.other) ∙ sym was.is

    -- what is live depends on no order, so entries are in order or not
    order_after : (es own : List Entry) → AreInOrder none_live (es ++ own) → AreInOrder (live_after none_live es) own
    order_after es own order = ((laws.joined.1 none_live es own).0 order).1

    ordered_not : (es own : List Entry) (i : ℕ) → AreInOrder none_live (es ++ own) → IsOutOfOrder (live_after none_live es) own i → ⊥
    ordered_not es own i order (e, at, cannot) = cannot (order_after es own order i e at)

    one_follows : (x : Snapshot) (done : List ManifestMeta) (meta : ManifestMeta) (rest : List ManifestMeta) (es : List Entry) (result : Result (List Entry) Refusal) (one other : Place)
        → Follows x done meta rest es result one → Follows x done meta rest es result other → one ≡ other
    one_follows x done meta rest es (Ok own) one other (inl (order, p)) (inl (also, q)) = p ∙ sym q
    one_follows x done meta rest es (Ok own) one other (inl (order, p)) (inr (i, out, q)) = absurd (ordered_not es own i order out)
    one_follows x done meta rest es (Ok own) one other (inr (i, out, p)) (inl (order, q)) = absurd (ordered_not es own i order out)
    one_follows x done meta rest es (Ok own) one other (inr (i, out, p)) (inr (j, also, q)) = p ∙ sym q
    one_follows x done meta rest es (Err e) one other p q = p ∙ sym q

    one_manifest : (x : Snapshot) (done : List ManifestMeta) (meta : ManifestMeta) (rest : List ManifestMeta) (es : List Entry) (bytes : List ℕ) (one other : Place)
        → ManifestRead x done meta rest es bytes one → ManifestRead x done meta rest es bytes other → one ≡ other
    one_manifest x done meta rest es bytes one other is was =
        let same = laws.manifests has_entry_fields (entry_in (shape_of a.schema)) (manifest_path meta.name) bytes was.result is.result was.reads is.reads was.other is.other in
        one_follows x done meta rest es is.result one other is.follows
        (subst (λ (result : Result (List Entry) Refusal). Follows x done meta rest es result other) same was.follows)

    one_after : (m : Place) (answer : Answer) (one other : Place) → After m answer one → After m answer other → one ≡ other
    one_after listing (answers.Listed names) one other is was = one_listed names.items one other is was
    one_after (opening zero) (answers.Found None) one other is was = is ∙ sym was
    one_after (opening zero) (answers.Found (Some bytes)) one other is was = is ∙ sym was
    one_after (opening (suc id)) (answers.Found None) one other is was = is ∙ sym was
    one_after (opening (suc id)) (answers.Found (Some bytes)) one other is was = one_opened (suc id) (snapshot_in (suc id) bytes) one other is was
    one_after (base x) (answers.Found None) one other is was = is ∙ sym was
    one_after (base x) (answers.Found (Some bytes)) one other is was = one_list (manifest_path x.base_list) bytes (delta x) one other is was
    one_after (delta x metas) (answers.Found None) one other is was = is ∙ sym was
    one_after (delta x metas) (answers.Found (Some bytes)) one other is was =
        one_list (manifest_path x.delta_list) bytes (λ (more : List ManifestMeta). manifests x [] (metas ++ more) []) one other is was
    one_after (manifests x done (meta ∷ rest) es) (answers.Found None) one other is was = is ∙ sym was
    one_after (manifests x done (meta ∷ rest) es) (answers.Found (Some bytes)) one other is was = one_manifest x done meta rest es bytes one other is was
    one_after (again id path) (answers.Found None) one other is was = is ∙ sym was
    one_after (again id path) (answers.Found (Some bytes)) one other is was = is ∙ sym was
    one_after m answer one other is was = absurd is

    one_given : (m : Place) (answer : Option Answer) (one other : Place) → Given m answer one → Given m answer other → one ≡ other
    one_given m None one other is was = absurd is
    one_given m (Some answer) one other is was = one_after m answer one other is was

    pub are_one : AreOne Goes
    are_one m event one other is was = one_given m event.answer one other is was

    -- ---- how far they have come

    listed_lead : (names : Names) (own : List Event) (new : Place) → own ≡ listed_snapshots names ∷ [] → Listed names.items new → Leads Goes own listing new
    listed_lead names own new is goes = led Goes own (listed_snapshots names ∷ []) listing new is (new, goes, refl)

    lists_lead : (id : ℕ) (own : List Event) → Lists a id own → Leads Goes own start (opening id)
    lists_lead id own lists = at a.wanted (λ latest is. is) lists
      where
        listed : (names : Names) (latest : ℕ) → IsLatest names.items latest → IsAsked a.wanted latest id → own ≡ listed_snapshots names ∷ [] → Leads Goes own listing (opening id)
        listed names latest newest asked is = listed_lead names own (opening id) is (latest, id, newest, inl (asked, refl))

        at : (w : Wanted) → ((latest : ℕ) → IsAsked w latest id → IsAsked a.wanted latest id) → ListsFor w id own → Leads Goes own (start_for w) (opening id)
        at wants.Newest as_asked (names, latest, newest, asked, is) = listed names latest newest (as_asked latest asked) is
        at wants.Entries as_asked (names, latest, newest, asked, is) = listed names latest newest (as_asked latest asked) is
        at (wants.At asked_id) as_asked (names, latest, newest, asked, is) = listed names latest newest (as_asked latest asked) is
        at (wants.Whole asked_id) as_asked (asked, none) = led Goes own [] (opening asked_id) (opening id) none (ap opening asked)

    above_lead : (names : Names) (latest id : ℕ) (own : List Event) → IsLatest names.items latest → IsAbove a.wanted latest id → own ≡ listed_snapshots names ∷ []
        → Leads Goes own start (over (refusals.NoSnapshot id latest))
    above_lead names latest id own newest above is = at a.wanted (λ is. is) above
      where
        at : (w : Wanted) → (IsAbove w latest id → IsAbove a.wanted latest id) → IsAbove w latest id → Leads Goes own (start_for w) (over (refusals.NoSnapshot id latest))
        at wants.Newest as_above over_it = absurd over_it
        at wants.Entries as_above over_it = absurd over_it
        at (wants.At asked_id) as_above over_it =
            listed_lead names own (over (refusals.NoSnapshot id latest)) is (latest, id, newest, inr (as_above over_it, refl))
        at (wants.Whole asked_id) as_above over_it = absurd over_it

    -- and then this was found
    found_lead : (path : List ℕ) (found : Option (List ℕ)) (earlier own : List Event) (m new : Place) → own ≡ earlier ++ read_file path found ∷ [] → Leads Goes earlier start m
        → After m (answers.Found found) new → Leads Goes own start new
    found_lead path found earlier own m new is lead goes =
        led Goes own (earlier ++ read_file path found ∷ []) start new is (lead_step Goes earlier start m new (read_file path found) lead goes)

    reads_lead : (id : ℕ) (path : List ℕ) (found : Option (List ℕ)) (own : List Event) (new : Place) → Reads a id path found own → After (opening id) (answers.Found found) new
        → Leads Goes own start new
    reads_lead id path found own new (earlier, lists, is) goes = found_lead path found earlier own (opening id) new is (lists_lead id earlier lists) goes

    opened_at : (id : ℕ) (bytes : List ℕ) (result : Result Snapshot SnapFault) (new : Place) → 1 ≤ id → snapshot_in id bytes ≡ result → Opened id result new
        → After (opening id) (answers.Found (Some bytes)) new
    opened_at zero bytes result new least is opened = absurd (omega (arith, least))
    opened_at (suc id) bytes result new least is opened = subst (λ (r : Result Snapshot SnapFault). Opened (suc id) r new) (sym is) opened

    has_lead : (x : Snapshot) (own : List Event) → Has a x own → Leads Goes own start (base x)
    has_lead x own (bytes, least, is, schema, reads) =
        reads_lead x.id (snapshot_path x.id) (Some bytes) own (base x) reads (opened_at x.id bytes (Ok x) (base x) least is (inl (schema, refl)))

    base_lead : (x : Snapshot) (found : Option (List ℕ)) (own : List Event) (new : Place) → FindsBase a x found own → After (base x) (answers.Found found) new
        → Leads Goes own start new
    base_lead x found own new (earlier, has, is) goes = found_lead (manifest_path x.base_list) found earlier own (base x) new is (has_lead x earlier has) goes

    metas_or : (metas : List ManifestMeta) → ◌≢◌ {A = Result (List ManifestMeta) Refusal} (Ok metas) (Err refusals.Memory)
    metas_or metas same = cc

    metas_fault : (e : Refusal) → e ≢ refusals.Memory → ◌≢◌ {A = Result (List ManifestMeta) Refusal} (Err e) (Err refusals.Memory)
    metas_fault e other same = other (let it : e ≡ refusals.Memory = cc in it)

    entries_or : (es : List Entry) → ◌≢◌ {A = Result (List Entry) Refusal} (Ok es) (Err refusals.Memory)
    entries_or es same = cc

    entries_fault : (e : Refusal) → e ≢ refusals.Memory → ◌≢◌ {A = Result (List Entry) Refusal} (Err e) (Err refusals.Memory)
    entries_fault e other same = other (let it : e ≡ refusals.Memory = cc in it)

    has_base_lead : (x : Snapshot) (metas : List ManifestMeta) (own : List Event) → HasBase a x metas own → Leads Goes own start (delta x metas)
    has_base_lead x metas own (bytes, list, finds) =
        base_lead x (Some bytes) own (delta x metas) finds (record { result = Ok metas; reads = list; other = metas_or metas; is = refl })

    delta_lead : (x : Snapshot) (metas : List ManifestMeta) (found : Option (List ℕ)) (own : List Event) (new : Place) → FindsDelta a x metas found own
        → After (delta x metas) (answers.Found found) new → Leads Goes own start new
    delta_lead x metas found own new (earlier, has, is) goes =
        found_lead (manifest_path x.delta_list) found earlier own (delta x metas) new is (has_base_lead x metas earlier has) goes

    has_delta_lead : (x : Snapshot) (metas more : List ManifestMeta) (own : List Event) → HasDelta a x metas more own → Leads Goes own start (manifests x [] (metas ++ more) [])
    has_delta_lead x metas more own (bytes, list, finds) =
        delta_lead x metas (Some bytes) own (manifests x [] (metas ++ more) []) finds (record { result = Ok more; reads = list; other = metas_or more; is = refl })

    manifests_lead : (x : Snapshot) (done metas rest : List ManifestMeta) (es own : List Entry) (events : List Event) → HaveRead a.schema metas own events
        → AreInOrder none_live (es ++ own) → Leads Goes events (manifests x done (metas ++ rest) es) (manifests x (done ++ metas) rest (es ++ own))
    manifests_lead x done [] rest es own events (none, is) order =
        let whole : es ++ own ≡ es = ap (λ (own : List Entry). es ++ own) none ∙ append-nil es in
        led Goes events [] (manifests x done rest es) (manifests x (done ++ []) rest (es ++ own)) is
        (ap (λ (done : List ManifestMeta). manifests x done rest (es ++ own)) (append-nil done) ∙ ap (manifests x done rest) whole)
    manifests_lead x done (meta ∷ metas) rest es own events (bytes, first, later, reads, read, split, is, more) order =
        let parts : es ++ own ≡ (es ++ first) ++ later = ap (λ (own : List Entry). es ++ own) split ∙ sym (append_assoc es first later) in
        let whole = subst (AreInOrder none_live) parts order in
        let one : AreInOrder none_live (es ++ first) = ((laws.joined.1 none_live (es ++ first) later).0 whole).0 in
        let next : Place = manifests x (done ++ meta ∷ []) (metas ++ rest) (es ++ first) in
        let last : Place = manifests x (done ++ meta ∷ metas) rest (es ++ own) in
        let at : manifests x ((done ++ meta ∷ []) ++ metas) rest ((es ++ first) ++ later) ≡ last =
        ap (λ (done : List ManifestMeta). manifests x done rest ((es ++ first) ++ later)) (append_assoc done (meta ∷ []) metas)
        ∙ ap (manifests x (done ++ meta ∷ metas) rest) (sym parts) in
        led Goes events (read_file (manifest_path meta.name) (Some bytes) ∷ reads) (manifests x done (meta ∷ (metas ++ rest)) es) last is (
          next,
          record { result = Ok first; reads = read; other = entries_or first; follows = inl (one, refl) },
          subst (Leads Goes reads next) at (manifests_lead x (done ++ meta ∷ []) metas rest (es ++ first) later reads more whole),
        )

    pub part_lead : (x : Snapshot) (done rest : List ManifestMeta) (es : List Entry) (own : List Event) → HasPart a x done rest es own
        → Leads Goes own start (manifests x done rest es)
    part_lead x done rest es own part =
        let lists : Leads Goes part.lists start (manifests x [] (done ++ rest) []) =
        subst (λ (metas : List ManifestMeta). Leads Goes part.lists start (manifests x [] metas [])) part.parts (has_delta_lead x part.base part.delta part.lists part.listed) in
        led Goes own (part.lists ++ part.reads) start (manifests x done rest es) part.is
        (lead_join Goes part.lists part.reads start (manifests x [] (done ++ rest) []) (manifests x done rest es) lists
        (manifests_lead x [] done rest [] es part.reads part.read part.order))

    next_lead : (x : Snapshot) (done : List ManifestMeta) (meta : ManifestMeta) (rest : List ManifestMeta) (es : List Entry) (found : Option (List ℕ)) (own : List Event) (new : Place)
        → FindsNext a x done meta rest es found own → After (manifests x done (meta ∷ rest) es) (answers.Found found) new → Leads Goes own start new
    next_lead x done meta rest es found own new (earlier, part, is) goes =
        found_lead (manifest_path meta.name) found earlier own (manifests x done (meta ∷ rest) es) new is (part_lead x done (meta ∷ rest) es earlier part) goes

    again_same : (id other : ℕ) (path at : List ℕ) → id ≡ other → path ≡ at → again id path ≡ again other at
    again_same id other path at same is = ap (λ (id : ℕ). again id path) same ∙ ap (again other) is

    lacks_lead : (id : ℕ) (path : List ℕ) (own : List Event) → LacksFile a id path own → Leads Goes own start (again id path)
    lacks_lead id path own (lacks_base x same at finds) = base_lead x None own (again id path) finds (again_same id x.id path (manifest_path x.base_list) same at)
    lacks_lead id path own (lacks_delta x metas same at finds) = delta_lead x metas None own (again id path) finds (again_same id x.id path (manifest_path x.delta_list) same at)
    lacks_lead id path own (lacks_manifest x done meta rest es same at finds) =
        next_lead x done meta rest es None own (again id path) finds (again_same id x.id path (manifest_path meta.name) same at)

    again_lead : (id : ℕ) (path : List ℕ) (found : Option (List ℕ)) (own : List Event) (new : Place) → ReadsAgain a id path found own
        → After (again id path) (answers.Found found) new → Leads Goes own start new
    again_lead id path found own new (earlier, lacks, is) goes = found_lead (snapshot_path id) found earlier own (again id path) new is (lacks_lead id path earlier lacks) goes

    pub view_lead : (v : View) (own : List Event) → HasView a v own → (m : Place) × Leads Goes own start m × IsViewAt v m
    view_lead v own (of_origin bytes view reads) = (origin, reads_lead 0 (origin_path a.schema) (Some bytes) own origin reads refl, view)
    view_lead v own (of_snapshot x metas es live part left view) = (manifests x metas [] es, part_lead x metas [] es own part, (live, left, view))

    pub one_refused : (e d : Refusal) (m : Place) → IsRefusedAt e m → IsRefusedAt d m → e ≡ d
    one_refused e d (over other) is was = is ∙ sym was
    one_refused e d (manifests x metas [] es) (path, place, live, is, left, overlap) (at, from, other, was, gone, also) =
        let same = subst (λ (live : Live). Overlaps a.schema live (refusals.Damaged at from)) (same_live es other live gone left) also in
        is ∙ one_overlap a.schema live path at place from overlap same ∙ sym was
    one_refused e d m is was = absurd is

    pub view_not_refused : (v : View) (e : Refusal) (m : Place) → IsViewAt v m → IsRefusedAt e m → ⊥
    view_not_refused v e (manifests x metas [] es) (live, left, view) (path, place, other, is, was, overlap) =
        let same = subst (λ (live : Live). Overlaps a.schema live (refusals.Damaged path place)) (same_live es other live was left) overlap in
        runs_or_overlap a.schema live (runs_at v) path place view.groups same
    view_not_refused v e origin is refused = refused
    view_not_refused v e (over other) is refused = is
    view_not_refused v e m is refused = absurd is

    -- ---- what they show

    refused : (e : Refusal) (own : List Event) → Leads Goes own start (over e) → IsShown e own
    refused e own lead = of_place (over e) lead refl

    misread : (e : Refusal) (own : List Event) → e ≢ refusals.Memory → Misreads a e own → IsShown e own
    misread e own other (misreads_base x bytes fault finds) =
        refused e own (base_lead x (Some bytes) own (over e) finds (record { result = Err e; reads = fault; other = metas_fault e other; is = refl }))
    misread e own other (misreads_delta x metas bytes fault finds) =
        refused e own (delta_lead x metas (Some bytes) own (over e) finds (record { result = Err e; reads = fault; other = metas_fault e other; is = refl }))
    misread e own other (misreads_manifest x done meta rest es bytes fault finds) =
        refused e own (next_lead x done meta rest es (Some bytes) own (over e) finds (record { result = Err e; reads = fault; other = entries_fault e other; follows = refl }))

    damaged_at : (path at : List ℕ) (place : ℕ) → path ≡ at → place ≡ 0 → over (refusals.Damaged path place) ≡ over (refusals.Damaged at 0)
    damaged_at path at place is first = ap (λ (path : List ℕ). over (refusals.Damaged path place)) is ∙ ap (λ (place : ℕ). over (refusals.Damaged at place)) first

    gone_at : (id : ℕ) (new : Place) → 1 ≤ id → new ≡ over (refusals.Expired id) → After (opening id) (answers.Found None) new
    gone_at zero new least is = absurd (omega (arith, least))
    gone_at (suc id) new least is = is

    gone : (id : ℕ) (own : List Event) → IsGone a id own → IsShown (refusals.Expired id) own
    gone id own (gone_origin first reads) =
        refused (refusals.Expired id) own (reads_lead 0 (origin_path a.schema) None own (over (refusals.Expired id)) reads (ap (λ (id : ℕ). over (refusals.Expired id)) first))
    gone id own (gone_snapshot least reads) =
        refused (refusals.Expired id) own (reads_lead id (snapshot_path id) None own (over (refusals.Expired id)) reads (gone_at id (over (refusals.Expired id)) least refl))
    gone id own (gone_again path again_read) = refused (refusals.Expired id) own (again_lead id path None own (over (refusals.Expired id)) again_read refl)

    damaged_not : (path : List ℕ) (place : ℕ) → refusals.Damaged path place ≢ refusals.Memory
    damaged_not path place e = cc

    unsupported_not : (what text : List ℕ) → refusals.Unsupported what text ≢ refusals.Memory
    unsupported_not what text e = cc

    out_after : (es own : List Entry) (live : Live) (i : ℕ) → Leaves none_live es live → IsOutOfOrder live own i → IsOutOfOrder (live_after none_live es) own i
    out_after es own live i left out = subst (λ (live : Live). IsOutOfOrder live own i) (same_live es live (live_after none_live es) left (λ id. refl)) out

    damaged : (path : List ℕ) (place : ℕ) (own : List Event) → IsDamaged a path place own → IsShown (refusals.Damaged path place) own
    damaged path place own (bad_snapshot id bytes least at first bad reads) =
        let e : Refusal = refusals.Damaged path place in
        refused e own (reads_lead id path (Some bytes) own (over e) reads
        (opened_at id bytes (Err faults.Bad) (over e) least bad (damaged_at path (snapshot_path id) place at first)))
    damaged path place own (bad_schema x id bytes least at first is other reads) =
        let e : Refusal = refusals.Damaged path place in
        refused e own (reads_lead id (snapshot_path id) (Some bytes) own (over e) reads
        (opened_at id bytes (Ok x) (over e) least is (inr (other, damaged_at path (schema_path x.schema_id) place at first))))
    damaged path place own (is_absent id bytes first again_read) =
        let e : Refusal = refusals.Damaged path place in
        refused e own (again_lead id path (Some bytes) own (over e) again_read (damaged_at path path place refl first))
    damaged path place own (is_misread misreads) = misread (refusals.Damaged path place) own (damaged_not path place) misreads
    damaged path place own (is_disordered x done meta rest es live bytes later i at first left is out finds) =
        let e : Refusal = refusals.Damaged path place in
        let read : ReadsFile has_entry_fields (entry_in (shape_of a.schema)) (manifest_path meta.name) bytes (Ok later) =
        subst (λ (path : List ℕ). ReadsFile has_entry_fields (entry_in (shape_of a.schema)) path bytes (Ok later)) at is in
        refused e own (next_lead x done meta rest es (Some bytes) own (over e) finds (record {
          result = Ok later;
          reads = read;
          other = entries_or later;
          follows = inr (i, out_after es later live i left out, damaged_at path (manifest_path meta.name) place at first);
        }))
    damaged path place own (is_overlap x metas es live part left overlaps) =
        of_place (manifests x metas [] es) (part_lead x metas [] es own part) (path, place, live, refl, left, overlaps)

    pub is_shown : (e : Refusal) (own : List Event) → Shows a e own → IsShown e own
    is_shown refusals.Memory own shows = of_memory refl
    is_shown (refusals.StoreFault path) own fails = of_failure (failed next_call (DidSoFar a) path own fails)
    is_shown (refusals.NoSnapshot id latest) own (names, newest, above, is) =
        refused (refusals.NoSnapshot id latest) own (above_lead names latest id own newest above is)
    is_shown (refusals.Expired id) own shows = gone id own shows
    is_shown (refusals.Damaged path place) own shows = damaged path place own shows
    is_shown (refusals.Unsupported what text) own shows = misread (refusals.Unsupported what text) own (unsupported_not what text) shows
    is_shown e own shows = absurd shows

    one_shown : (own : List Event) (e d : Refusal) → IsShown e own → IsShown d own → (e ≡ d) ⊎ ((e ≡ refusals.Memory) ⊎ (d ≡ refusals.Memory))
    one_shown own e d (of_memory memory) was = inr (inl memory)
    one_shown own e d is (of_memory memory) = inr (inr memory)
    one_shown own e d (of_failure fails) (of_failure failed) = inl (one_failed e d own fails failed)
    one_shown own e d (of_failure fails) (of_place m lead denied) = absurd (failed_not e own fails (leads_answered own m lead))
    one_shown own e d (of_place m lead denied) (of_failure fails) = absurd (failed_not d own fails (leads_answered own m lead))
    one_shown own e d (of_place m lead denied) (of_place n leads was) =
        inl (one_refused e d n (subst (IsRefusedAt e) (one_lead Goes are_one own start m n lead leads) denied) was)

pub one_refusal : OneLaws → (a : Asked) (own : List Event) (one other : Refusal) → Shows a one own → Shows a other own
    → (one ≡ other) ⊎ ((one ≡ refusals.Memory) ⊎ (other ≡ refusals.Memory))
one_refusal laws a own one other is was = one_shown a laws own one other (is_shown a laws one own is) (is_shown a laws other own was)
