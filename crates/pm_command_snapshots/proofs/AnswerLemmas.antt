-- What the calls of `snapshots` show: which call comes where, and what each answer leads to, but that memory may run
-- out. So the calls lead to one place, and show one answer at most.
use Rattle.std.proofs.Common.{◌≡◌, ◌⊎◌, inl, inr, ℕ, zero, suc, List, [], ◌∷◌, ◌++◌, length, map, drop, slice_get, codes, Option, None, Some, IsSome, option_map, Result, Ok, Err, refl, sym, ap, subst, ◌∙◌, arith, append_assoc, append-nil}
use Rattle.std.specs.List.{AllZip}
use Rattle.std.proofs.lemmas.List.{take-append-drop}
use Rattle.pm_values.specs.declared.refusal.Refusal.{Refusal}
use Rattle.pm_values.specs.declared.refusal.Refusal.TheVariants as refusals
use Rattle.pm_store.specs.declared.answer.Answer.{Answer}
use Rattle.pm_store.specs.declared.answer.Answer.TheVariants as answers
use Rattle.pm_store.specs.declared.call.Call.{Call}
use Rattle.pm_machine.specs.Step.{path_of}
use Rattle.pm_machine.specs.Trace.{Event, faulted}
use Rattle.pm_schema.specs.Reading.{schema_of}
use Rattle.pm_schema.specs.declared.schema.TableSchema.{TableSchema}
use Rattle.pm_snapshot.specs.Snapshot.{snapshot_in}
use Rattle.pm_snapshot.specs.declared.fault.SnapFault.TheVariants as faults
use Rattle.pm_snapshot.specs.declared.snapshot.Snapshot.{Snapshot}
use Rattle.pm_model_folder.specs.Paths.{schema_path, snapshot_path}
use Rattle.pm_paths.specs.Ids.{AreIds}
use Rattle.pm_read_schema.proofs.IdLemmas.{one_ids}
use Rattle.pm_read_schema.specs.Names.{IsNewest, HasNoSchema, HasSnapshot}
use Rattle.pm_read_schema.specs.Reader as reader_machine
use Rattle.pm_read_schema.specs.Reader.{schema_call, schemas_call, snapshots_call}
use Rattle.pm_read_schema.specs.Trace as reader
use Rattle.pm_read_schema.specs.Trace.{Names, listed_schemas, listed_snapshots, read_schema}
use Rattle.pm_read_schema.specs.declared.phase.Phase as reader_phase
use Rattle.pm_read_schema.specs.declared.phase.Phase.TheVariants as readers
use Rattle.pm_snapshots.specs.Lines.{line_of}
use Rattle.pm_snapshots.specs.Lister as lister_machine
use Rattle.pm_snapshots.specs.Lister.{snapshot_call}
use Rattle.pm_snapshots.specs.Reading.{ReadingView, next_id}
use Rattle.pm_snapshots.specs.Trace as lister
use Rattle.pm_snapshots.specs.Trace.{HasListed, HasRead, IsLineOf, Lists, Meets, read_snapshot}
use Rattle.pm_snapshots.specs.declared.line.SnapshotLine.{SnapshotLine}
use Rattle.pm_snapshots.specs.declared.phase.Phase as lister_phase
use Rattle.pm_snapshots.specs.declared.phase.Phase.TheVariants as listers
use Rattle.pm_command_snapshots.specs.Snapshots.{DidSnapshots}

-- ---- where calls lead

-- the schemas are to be listed, a schema read, the snapshots listed for an origin, and listed, and those with these ids
-- read, after these lines; or the command was refused
data Place : Type 0 where
  schemas : Place
  schema : ℕ → Place
  origin : TableSchema → Place
  snapshots : TableSchema → Place
  lines : List ℕ → List SnapshotLine → Place
  over : Refusal → Place

abbrev call_at : Place → Option Call
call_at schemas = Some schemas_call
call_at (schema id) = Some (schema_call id)
call_at (origin s) = Some snapshots_call
call_at (snapshots s) = Some snapshots_call
call_at (lines [] done) = None
call_at (lines (id ∷ ids) done) = Some (snapshot_call id)
call_at (over e) = None

abbrev with_origin : Option (List ℕ) → TableSchema → Place
with_origin (Some name) s = snapshots s
with_origin None s = origin s

abbrev Goes : Place → Answer → Place → Type 0
Goes schemas (answers.Listed names) new =
    ((id : ℕ) × IsNewest names.items id × (new ≡ schema id)) ⊎ (HasNoSchema names.items × (new ≡ over refusals.NoTable))
Goes (schema id) (answers.Found None) new = new ≡ over (refusals.Damaged (schema_path id) 0)
Goes (schema id) (answers.Found (Some bytes)) new =
    ((s : TableSchema) × (schema_of (schema_path id) bytes ≡ Ok s) × (new ≡ with_origin s.origin s))
    ⊎ ((e : Refusal) × (schema_of (schema_path id) bytes ≡ Err e) × (new ≡ over e))
Goes (origin s) (answers.Listed names) new =
    (HasSnapshot names.items × (new ≡ snapshots s))
    ⊎ ((¬ HasSnapshot names.items) × (new ≡ over (refusals.Unsupported (codes "origin") [])))
Goes (snapshots s) (answers.Listed names) new = (ids : List ℕ) × AreIds names.items ids × (new ≡ lines ids [])
Goes (lines (id ∷ ids) done) (answers.Found None) new = new ≡ over (refusals.Expired id)
Goes (lines (id ∷ ids) done) (answers.Found (Some bytes)) new =
    ((x : Snapshot) × (snapshot_in id bytes ≡ Ok x) × (new ≡ lines ids (done ++ line_of x ∷ [])))
    ⊎ ((snapshot_in id bytes ≡ Err faults.Bad) × (new ≡ over (refusals.Damaged (snapshot_path id) 0)))
Goes m answer new = ⊥

abbrev Ends : Option Answer → Place → Place → Type 0
Ends None m new = (call : Call) × (call_at m ≡ Some call) × (new ≡ over (refusals.StoreFault (path_of call)))
Ends (Some answer) m new = Goes m answer new

abbrev Path : List Event → Place → Place → Type 0
Path [] m last = last ≡ m
Path (event ∷ own) m last = (new : Place) × (call_at m ≡ Some event.call) × Ends event.answer m new × Path own new last

-- ---- they lead to one place

one_some : {X : Type 0} (x y : X) → Some x ≡ Some y → x ≡ y
one_some x y is = cc

no_some : {X : Type 0} (x : X) → None ≡ Some x → ⊥
no_some x is = cc

one_ok : {X E : Type 0} (r : Result X E) (x y : X) → r ≡ Ok x → r ≡ Ok y → x ≡ y
one_ok r x y is was = cc

one_err : {X E : Type 0} (r : Result X E) (x y : E) → r ≡ Err x → r ≡ Err y → x ≡ y
one_err r x y is was = cc

ok_err : {X E : Type 0} (r : Result X E) (x : X) (y : E) → r ≡ Ok x → r ≡ Err y → ⊥
ok_err r x y is was = cc

one_newest : (names : List (List ℕ)) (id other : ℕ) → IsNewest names id → IsNewest names other → id ≡ other
one_newest names id other is was =
    let low = was.most id is.within is.listed in
    let high = is.most other was.within was.listed in
    omega (arith, low, high)

goes_on : (m : Place) (answer : Answer) (one other : Place) → Goes m answer one → Goes m answer other → one ≡ other
goes_on schemas (answers.Listed names) one other (inl (id, is, a)) (inl (jd, was, b)) = a ∙ ap schema (one_newest names.items id jd is was) ∙ sym b
goes_on schemas (answers.Listed names) one other (inl (id, is, a)) (inr (none, b)) = absurd (none id is.within is.listed)
goes_on schemas (answers.Listed names) one other (inr (none, a)) (inl (id, is, b)) = absurd (none id is.within is.listed)
goes_on schemas (answers.Listed names) one other (inr (none, a)) (inr (empty, b)) = a ∙ sym b
goes_on (schema id) (answers.Found None) one other a b = a ∙ sym b
goes_on (schema id) (answers.Found (Some bytes)) one other (inl (s, is, a)) (inl (t, was, b)) =
    a ∙ ap (λ (s : TableSchema). with_origin s.origin s) (one_ok (schema_of (schema_path id) bytes) s t is was) ∙ sym b
goes_on (schema id) (answers.Found (Some bytes)) one other (inl (s, is, a)) (inr (e, was, b)) = absurd (ok_err (schema_of (schema_path id) bytes) s e is was)
goes_on (schema id) (answers.Found (Some bytes)) one other (inr (e, was, a)) (inl (s, is, b)) = absurd (ok_err (schema_of (schema_path id) bytes) s e is was)
goes_on (schema id) (answers.Found (Some bytes)) one other (inr (e, is, a)) (inr (d, was, b)) =
    a ∙ ap over (one_err (schema_of (schema_path id) bytes) e d is was) ∙ sym b
goes_on (origin s) (answers.Listed names) one other (inl (there, a)) (inl (was, b)) = a ∙ sym b
goes_on (origin s) (answers.Listed names) one other (inl (there, a)) (inr (none, b)) = absurd (none there)
goes_on (origin s) (answers.Listed names) one other (inr (none, a)) (inl (there, b)) = absurd (none there)
goes_on (origin s) (answers.Listed names) one other (inr (none, a)) (inr (empty, b)) = a ∙ sym b
goes_on (snapshots s) (answers.Listed names) one other (ids, are, a) (others, were, b) =
    a ∙ ap (λ (ids : List ℕ). lines ids []) (one_ids names.items ids others are were) ∙ sym b
goes_on (lines (id ∷ ids) done) (answers.Found None) one other a b = a ∙ sym b
goes_on (lines (id ∷ ids) done) (answers.Found (Some bytes)) one other (inl (x, is, a)) (inl (y, was, b)) =
    a ∙ ap (λ (x : Snapshot). lines ids (done ++ line_of x ∷ [])) (one_ok (snapshot_in id bytes) x y is was) ∙ sym b
goes_on (lines (id ∷ ids) done) (answers.Found (Some bytes)) one other (inl (x, is, a)) (inr (was, b)) =
    absurd (ok_err (snapshot_in id bytes) x faults.Bad is was)
goes_on (lines (id ∷ ids) done) (answers.Found (Some bytes)) one other (inr (was, a)) (inl (x, is, b)) =
    absurd (ok_err (snapshot_in id bytes) x faults.Bad is was)
goes_on (lines (id ∷ ids) done) (answers.Found (Some bytes)) one other (inr (is, a)) (inr (was, b)) = a ∙ sym b
goes_on m answer one other goes went = absurd goes

one_end : (answer : Option Answer) (m one other : Place) → Ends answer m one → Ends answer m other → one ≡ other
one_end None m one other (call, is, a) (next, was, b) =
    a ∙ ap (λ (call : Call). over (refusals.StoreFault (path_of call))) (one_some call next (sym is ∙ was)) ∙ sym b
one_end (Some answer) m one other goes went = goes_on m answer one other goes went

one_path : (own : List Event) (m one other : Place) → Path own m one → Path own m other → one ≡ other
one_path [] m one other is was = is ∙ sym was
one_path (event ∷ own) m one other (new, call, ends, rest) (now, next, goes, later) =
    one_path own new one other rest (subst (λ (m : Place). Path own m other) (sym (one_end event.answer m new now ends goes)) later)

-- one call more, and more calls
step : (own : List Event) (m n new : Place) (event : Event) → Path own m n → call_at n ≡ Some event.call → Ends event.answer n new
    → Path (own ++ event ∷ []) m new
step [] m n new event is call ends = (new, subst (λ (n : Place). call_at n ≡ Some event.call) is call, subst (λ (n : Place). Ends event.answer n new) is ends, refl)
step (first ∷ own) m n new event (next, was, goes, rest) call ends = (next, was, goes, step own next n new event rest call ends)

joined : (own others : List Event) (m n last : Place) → Path own m n → Path others n last → Path (own ++ others) m last
joined [] others m n last is rest = subst (λ (n : Place). Path others n last) is rest
joined (first ∷ own) others m n last (next, was, goes, path) rest = (next, was, goes, joined own others next n last path rest)

-- these calls, said otherwise
said : (own others : List Event) (m last : Place) → own ≡ others → Path others m last → Path own m last
said own others m last is = subst (λ (own : List Event). Path own m last) (sym is)

-- ---- the schema

lists_path : (id : ℕ) (own : List Event) → reader.Lists id own → Path own schemas (schema id)
lists_path id own (names, is, at) = said own (listed_schemas names ∷ []) schemas (schema id) at (schema id, refl, inl (id, is, refl), refl)

reads_path : (id : ℕ) (found : Option (List ℕ)) (own : List Event) (new : Place) → reader.Reads id found own → Goes (schema id) (answers.Found found) new
    → Path own schemas new
reads_path id found own new (earlier, lists, at) goes =
    said own (earlier ++ read_schema id found ∷ []) schemas new at
    (step earlier schemas (schema id) new (read_schema id found) (lists_path id earlier lists) refl goes)

has_path : (s : TableSchema) (own : List Event) → reader.Has s own → Path own schemas (with_origin s.origin s)
has_path s own (id, bytes, is, reads) = reads_path id (Some bytes) own (with_origin s.origin s) reads (inl (s, is, refl))

none_there : (o : Option (List ℕ)) → o ≡ None → IsSome o → ⊥
none_there o is there = cc

with_some : (o : Option (List ℕ)) (s : TableSchema) → IsSome o → with_origin o s ≡ snapshots s
with_some None s some = absurd (none_there None refl some)
with_some (Some name) s some = refl

origin_path : (s : TableSchema) (own : List Event) → reader.Has s own → s.origin ≡ None → Path own schemas (origin s)
origin_path s own has none = subst (Path own schemas) (ap (λ (o : Option (List ℕ)). with_origin o s) none) (has_path s own has)

looks_path : (s : TableSchema) (names : Names) (own : List Event) (new : Place) → reader.Looks s names own → Goes (origin s) (answers.Listed names) new
    → Path own schemas new
looks_path s names own new (earlier, has, none, at) goes =
    said own (earlier ++ listed_snapshots names ∷ []) schemas new at
    (step earlier schemas (origin s) new (listed_snapshots names) (origin_path s earlier has none) refl goes)

ready_path : (s : TableSchema) (own : List Event) → reader.Did (readers.Ready s) own → Path own schemas (snapshots s)
ready_path s own (inl (has, some)) = subst (Path own schemas) (with_some s.origin s some) (has_path s own has)
ready_path s own (inr (names, there, looks)) = looks_path s names own (snapshots s) looks (inl (there, refl))

-- the place of a call
abbrev Stands : Call → List Event → Type 0
Stands call own = (m : Place) × Path own schemas m × (call_at m ≡ Some call)

reader_stands : (r : reader_phase.Phase) (call : Call) (own : List Event) → reader.Did r own → reader_machine.next_call r ≡ Some call → Stands call own
reader_stands readers.Schemas call own none is = (schemas, said own [] schemas schemas none refl, is)
reader_stands (readers.Schema id) call own lists is = (schema id, lists_path id own lists, is)
reader_stands (readers.Snapshots s) call own (has, none) is = (origin s, origin_path s own has none, is)
reader_stands (readers.Ready s) call own did is = absurd (no_some call is)
reader_stands readers.Over call own did is = absurd (no_some call is)

-- what shows a refusal, but that memory ran out
abbrev Refused : Refusal → List Event → Type 0
Refused e own = (e ≡ refusals.Memory) ⊎ Path own schemas (over e)

failed : (path : List ℕ) (call : Call) (own earlier : List Event) → Stands call earlier → path ≡ path_of call → own ≡ earlier ++ faulted call ∷ []
    → Refused (refusals.StoreFault path) own
failed path call own earlier (m, led, is) at ends =
    inr (said own (earlier ++ faulted call ∷ []) schemas (over (refusals.StoreFault path)) ends
    (step earlier schemas m (over (refusals.StoreFault path)) (faulted call) led is
    (call, is, ap (λ (path : List ℕ). over (refusals.StoreFault path)) at)))

misread : (e : Refusal) (own : List Event) → reader.Misreads e own → Refused e own
misread e own (id, bytes, is, reads) = inr (reads_path id (Some bytes) own (over e) reads (inr (e, is, refl)))

-- the reader's phases before its end
so_far : (r : reader_phase.Phase) (own : List Event) → reader.DidSoFar r own → reader.Did r own
so_far readers.Schemas own did = did
so_far (readers.Schema id) own did = did
so_far (readers.Snapshots s) own did = did
so_far (readers.Ready s) own did = did
so_far readers.Over own did = absurd did

reader_refused : (e : Refusal) (own : List Event) → reader.Shows e own → Refused e own
reader_refused refusals.Memory own shows = inl refl
reader_refused refusals.NoTable own (names, none, at) =
    inr (said own (listed_schemas names ∷ []) schemas (over refusals.NoTable) at (over refusals.NoTable, refl, inr (none, refl), refl))
reader_refused (refusals.StoreFault path) own fails =
    failed path fails.call own fails.earlier (reader_stands fails.phase fails.call fails.earlier (so_far fails.phase fails.earlier fails.did_so) fails.next)
    fails.is_path fails.is
reader_refused (refusals.Damaged path place) own (inl (id, at, first, reads)) =
    inr (reads_path id None own (over (refusals.Damaged path place)) reads
    (ap (λ (path : List ℕ). over (refusals.Damaged path place)) at ∙ ap (λ (place : ℕ). over (refusals.Damaged (schema_path id) place)) first))
reader_refused (refusals.Damaged path place) own (inr misreads) = misread (refusals.Damaged path place) own misreads
reader_refused (refusals.Unsupported what text) own (inl (is, blank, (s, names, none, looks))) =
    inr (looks_path s names own (over (refusals.Unsupported what text)) looks
    (inr (none, ap (λ (what : List ℕ). over (refusals.Unsupported what text)) is ∙ ap (λ (text : List ℕ). over (refusals.Unsupported (codes "origin") text)) blank)))
reader_refused (refusals.Unsupported what text) own (inr misreads) = misread (refusals.Unsupported what text) own misreads
reader_refused (refusals.Limit which number) own misreads = misread (refusals.Limit which number) own misreads
reader_refused (refusals.SchemaRule rule) own misreads = misread (refusals.SchemaRule rule) own misreads
reader_refused e own shows = absurd shows

-- ---- the snapshots

listed_path : (s : TableSchema) (names : Names) (ids : List ℕ) (own : List Event) → Lists s names own → AreIds names.items ids → Path own schemas (lines ids [])
listed_path s names ids own (earlier, has, at) are =
    said own (earlier ++ listed_snapshots names ∷ []) schemas (lines ids []) at
    (step earlier schemas (snapshots s) (lines ids []) (listed_snapshots names) (ready_path s earlier has) refl (ids, are, refl))

each_path : (ls : List SnapshotLine) (reads : List Event) (ids : List ℕ) (done : List SnapshotLine) → AllZip IsLineOf ls reads
    → Path reads (lines (map (λ l. l.id) ls ++ ids) done) (lines ids (done ++ ls))
each_path [] [] ids done all = ap (lines ids) (append-nil done)
each_path [] (event ∷ reads) ids done all = absurd all
each_path (l ∷ ls) [] ids done all = absurd all
each_path (l ∷ ls) (event ∷ reads) ids done ((bytes, x, in_it, is, at), rest) =
    let left : List ℕ = map (λ l. l.id) ls ++ ids in
    let last : Place = lines ids (done ++ l ∷ ls) in
    let next : Place = lines left (done ++ l ∷ []) in
    let path : Path reads next last =
    subst (λ (all : List SnapshotLine). Path reads next (lines ids all)) (append_assoc done (l ∷ []) ls) (each_path ls reads ids (done ++ l ∷ []) rest) in
    said (event ∷ reads) (read_snapshot l.id (Some bytes) ∷ reads) (lines (l.id ∷ left) done) last (ap (λ (event : Event). event ∷ reads) at)
    (next, refl, inl (x, in_it, ap (λ (l : SnapshotLine). lines left (done ++ l ∷ [])) is), path)

all_path : (s : TableSchema) (ls : List SnapshotLine) (own : List Event) → HasListed s ls own → Path own schemas (lines [] ls)
all_path s ls own (names, earlier, reads, are, listed, all, at) =
    let ids : List ℕ = map (λ l. l.id) ls in
    let each = subst (λ (ids : List ℕ). Path reads (lines ids []) (lines [] ls)) (append-nil ids) (each_path ls reads [] [] all) in
    said own (earlier ++ reads) schemas (lines [] ls) at
    (joined earlier reads schemas (lines ids []) (lines [] ls) (listed_path s names ids earlier listed are) each)

some_path : (r : ReadingView) (own : List Event) → HasRead r own → Path own schemas (lines (drop (length r.lines) r.ids) r.lines)
some_path r own (names, earlier, reads, are, reading, listed, all, at) =
    let left : List ℕ = drop (length r.lines) r.ids in
    let whole : map (λ l. l.id) r.lines ++ left ≡ r.ids = ap (λ (ids : List ℕ). ids ++ left) reading ∙ take-append-drop (length r.lines) r.ids in
    let each = subst (λ (ids : List ℕ). Path reads (lines ids []) (lines left r.lines)) whole (each_path r.lines reads left [] all) in
    said own (earlier ++ reads) schemas (lines left r.lines) at
    (joined earlier reads schemas (lines r.ids []) (lines left r.lines) (listed_path r.schema names r.ids earlier listed are) each)

left_from : (ids : List ℕ) (n id : ℕ) → slice_get ids n ≡ Some id → (rest : List ℕ) × (drop n ids ≡ id ∷ rest)
left_from [] n id is = absurd (no_some id is)
left_from (x ∷ xs) zero id is = (xs, ap (λ (x : ℕ). x ∷ xs) (one_some x id is))
left_from (x ∷ xs) (suc n) id is = left_from xs n id is

next_path : (r : ReadingView) (id : ℕ) (own : List Event) → HasRead r own → next_id r ≡ Some id
    → (rest : List ℕ) × Path own schemas (lines (id ∷ rest) r.lines)
next_path r id own read is =
    let left = left_from r.ids (length r.lines) id is in
    (left.0, subst (λ (ids : List ℕ). Path own schemas (lines ids r.lines)) left.1 (some_path r own read))

meets_path : (r : ReadingView) (id : ℕ) (found : Option (List ℕ)) (own : List Event) (new : Place) → Meets r id found own
    → ((rest : List ℕ) → Goes (lines (id ∷ rest) r.lines) (answers.Found found) new) → Path own schemas new
meets_path r id found own new (earlier, read, next, at) goes =
    let led = next_path r id earlier read next in
    said own (earlier ++ read_snapshot id found ∷ []) schemas new at
    (step earlier schemas (lines (id ∷ led.0) r.lines) new (read_snapshot id found) led.1 refl (goes led.0))

read_stands : (r : ReadingView) (o : Option ℕ) (call : Call) (own : List Event) → HasRead r own → next_id r ≡ o → option_map snapshot_call o ≡ Some call
    → Stands call own
read_stands r None call own read at is = absurd (no_some call is)
read_stands r (Some id) call own read at is = let led = next_path r id own read at in (lines (id ∷ led.0) r.lines, led.1, is)

lister_stands : (m : lister_phase.Phase) (call : Call) (own : List Event) → lister.DidSoFar m own → lister_machine.next_call m ≡ Some call → Stands call own
lister_stands (listers.Schema r) call own did is = reader_stands r call own did is
lister_stands (listers.List s) call own has is = (snapshots s, ready_path s own has, is)
lister_stands (listers.Read r) call own read is = read_stands r (next_id r) call own read refl is
lister_stands listers.Over call own did is = absurd did

own_refused : (e : Refusal) (own : List Event) → lister.ShowsOwn e own → Refused e own
own_refused refusals.Memory own shows = inl refl
own_refused (refusals.StoreFault path) own fails =
    failed path fails.call own fails.earlier (lister_stands fails.phase fails.call fails.earlier fails.did_so fails.next) fails.is_path fails.is
own_refused (refusals.Expired id) own (r, meets) = inr (meets_path r id None own (over (refusals.Expired id)) meets (λ rest. refl))
own_refused (refusals.Damaged path place) own (r, id, bytes, at, first, bad, meets) =
    inr (meets_path r id (Some bytes) own (over (refusals.Damaged path place)) meets (λ rest. inr (
      bad,
      ap (λ (path : List ℕ). over (refusals.Damaged path place)) at ∙ ap (λ (place : ℕ). over (refusals.Damaged (snapshot_path id) place)) first,
    )))
own_refused e own shows = absurd shows

-- ---- what they show

abbrev answer_at : Place → Option (Result (List SnapshotLine) Refusal)
answer_at (lines [] done) = Some (Ok done)
answer_at (over e) = Some (Err e)
answer_at m = None

abbrev IsShown : Result (List SnapshotLine) Refusal → List Event → Type 0
IsShown made own = (made ≡ Err refusals.Memory) ⊎ ((m : Place) × Path own schemas m × (answer_at m ≡ Some made))

refused_shown : (e : Refusal) (own : List Event) → Refused e own → IsShown (Err e) own
refused_shown e own (inl memory) = inl (ap Err memory)
refused_shown e own (inr path) = inr (over e, path, refl)

is_shown : (made : Result (List SnapshotLine) Refusal) (own : List Event) → DidSnapshots made own → IsShown made own
is_shown (Ok ls) own (s, declared, listed) = inr (lines [] ls, all_path s ls own listed, refl)
is_shown (Err e) own (inl shows) = refused_shown e own (reader_refused e own shows)
is_shown (Err e) own (inr (s, declared, from, inl shows)) = refused_shown e own (reader_refused e own shows)
is_shown (Err e) own (inr (s, declared, from, inr shows)) = refused_shown e own (own_refused e own shows)

one_shown : (own : List Event) (one other : Result (List SnapshotLine) Refusal) → IsShown one own → IsShown other own
    → (one ≡ other) ⊎ ((one ≡ Err refusals.Memory) ⊎ (other ≡ Err refusals.Memory))
one_shown own one other (inl memory) was = inr (inl memory)
one_shown own one other (inr is) (inl memory) = inr (inr memory)
one_shown own one other (inr (m, path, is)) (inr (n, led, was)) =
    let same = one_path own schemas m n path led in
    inl (one_some one other (sym is ∙ ap answer_at same ∙ was))

pub one_answer : (own : List Event) (one other : Result (List SnapshotLine) Refusal) → DidSnapshots one own → DidSnapshots other own
    → (one ≡ other) ⊎ ((one ≡ Err refusals.Memory) ⊎ (other ≡ Err refusals.Memory))
one_answer own one other did does = one_shown own one other (is_shown one own did) (is_shown other own does)
