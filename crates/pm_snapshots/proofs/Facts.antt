-- A lister of snapshots keeps the laws of machines.
use Rattle.std.proofs.Common.{◌≡◌, ◌⊎◌, inl, inr, ℕ, zero, suc, ◌<◌, ◌≤◌, ◌+◌, ◌-◌, List, [], ◌∷◌, ◌++◌, Contains, length, Option, None, Some, option_map, IsSome, IfSome, Ok, refl, sym, ap, ◌∙◌, subst, arith, append_assoc}
use Rattle.std.specs.FinMap as map
use Rattle.std.specs.List.{AllByRecursion, AllZip}
use Rattle.std.proofs.lemmas.List.{append-nil, length_push}
use Rattle.std.proofs.lemmas.Option.{IfSome_then, slice_get_within}
use Rattle.pm_base.proofs.Laws.{AllByRecursion-push}
use Rattle.pm_values.specs.declared.refusal.Refusal.{Refusal}
use Rattle.pm_store.specs.declared.answer.Answer.{Answer}
use Rattle.pm_store.specs.declared.answer.Answer.TheVariants as answers
use Rattle.pm_store.specs.declared.call.Call.{Call}
use Rattle.pm_store.specs.Answers.{Answers, MayAnswer}
use Rattle.pm_store.specs.Files.{Files, IsListing}
use Rattle.pm_store.specs.Images.{MayLeave}
use Rattle.pm_machine.specs.Moves.{IsKept, Sound}
use Rattle.pm_machine.specs.Running.{Refuses, Stops}
use Rattle.pm_machine.specs.Trace.{Event, Recounts, after_answer, answered}
use Rattle.pm_machine.proofs.PhaseFacts.{Spares, ended, image_spared, recounts_of, sound_of_spared}
use Rattle.pm_model_history.specs.History.{IsTableOf}
use Rattle.pm_schema.specs.declared.schema.TableSchema.{TableSchema}
use Rattle.pm_snapshot.specs.Names.{greatest}
use Rattle.pm_snapshot.specs.Snapshot.{snapshot_in}
use Rattle.pm_snapshot.specs.declared.snapshot.Snapshot.{Snapshot}
use Rattle.pm_snapshot.proofs.Facts.{id_same}
use Rattle.pm_model_folder.specs.Changes.{Actor}
use Rattle.pm_model_folder.specs.Ledger.{Advances, IsKnown, Past, Stands}
use Rattle.pm_model_folder.specs.Meaning.{HasSnapshotAt, SnapshotAt}
use Rattle.pm_model_folder.specs.Paths.{snapshot_folder, snapshot_path}
use Rattle.pm_model_folder.proofs.Facts.{goes_on}
use Rattle.pm_model_folder.proofs.LedgerFacts.{at-table, count-is, known-still, stood-same}
use Rattle.pm_paths.specs.Ids.{AreIds}
use Rattle.pm_paths.proofs.IdLemmas.{ids_within}
use Rattle.pm_paths.proofs.ListedLemmas.{ids_there}
use Rattle.pm_read_schema.specs.Meaning as reader_meaning
use Rattle.pm_read_schema.specs.Reader as reader
use Rattle.pm_read_schema.specs.Reader.{snapshots_call}
use Rattle.pm_read_schema.specs.Trace as reader_trace
use Rattle.pm_read_schema.specs.Trace.{listed_snapshots}
use Rattle.pm_read_schema.specs.declared.phase.Phase as schema_phase
use Rattle.pm_read_schema.specs.declared.phase.Phase.TheVariants as readers
use Rattle.pm_read_schema.proofs.Facts as reader_facts
use Rattle.pm_read_schema.proofs.Facts.{list_effect, read_effect, still_table}
use Rattle.pm_snapshots.specs.Lines.{line_of}
use Rattle.pm_snapshots.specs.Lister.{snapshot_call, next_call, IsLister, calls_left, IsDone, lines_of, schema_at, KeepsSchema, after_reader, Goes, Shown}
use Rattle.pm_snapshots.specs.Meaning.{IsLineAt, IsLineIn, IsReadingIn, Knows}
use Rattle.pm_snapshots.specs.Reading.{ReadingView, reading_of, next_id, add_line}
use Rattle.pm_snapshots.specs.Trace.{read_snapshot, IsLineOf, HasRead, Meets, HasListed, DidSoFar, MayTakeMemory, Shows, Did}
use Rattle.pm_snapshots.specs.declared.line.SnapshotLine.{SnapshotLine}
use Rattle.pm_snapshots.specs.declared.phase.Phase.{Phase}
use Rattle.pm_snapshots.specs.declared.phase.Phase.TheVariants as phases
use Rattle.pm_snapshots.proofs.ReadingLemmas.{next_listed, none_left, one_more, within_none}

-- ---- its calls change nothing

read_spares : (next : Option ℕ) (f : Files) → IfSome (option_map snapshot_call next) (Spares f)
read_spares None f = tt
read_spares (Some id) f = λ effect. read_effect (snapshot_path id) effect f

pub spares : (m : Phase) (f : Files) → IfSome (next_call m) (Spares f)
spares (phases.Schema r) f = reader_facts.spares r f
spares (phases.List s) f = λ effect. list_effect snapshot_folder effect f
spares (phases.Read r) f = read_spares (next_id r) f
spares phases.Over f = tt

-- ---- what it knows

knows_reader : (r : schema_phase.Phase) (f : Files) (p : Past) → reader_meaning.Knows r f p → Knows (after_reader r) f p
knows_reader readers.Schemas f p known = known
knows_reader (readers.Schema id) f p known = known
knows_reader (readers.Snapshots s) f p known = known
knows_reader (readers.Ready s) f p known = known
knows_reader readers.Over f p known = known

-- a snapshot that is there is known
there_known : (f : Files) (p : Past) (s : TableSchema) (id : ℕ) → Stands f p → IsTableOf s p.history → 1 ≤ id → id ≤ greatest
    → IsSome (map.get f (snapshot_path id)) → IsKnown p id
there_known f p s zero stands is least within there = absurd (omega (arith, least))
there_known f p s (suc k) stands is least within there =
    let own = at-table f p s stands is in
    let here : HasSnapshotAt f s (suc k) = there in
    let high = ((own.2.snapshots.exact (suc k) within).0 here).1 in
    record {
      after_origin = least;
      from = own.3.reaches (suc k) least high here;
      to = (let many = count-is p s own.0 own.1 in omega (arith, high, many));
    }

-- so are those that a listing has
listed_known : (f : Files) (p : Past) (s : TableSchema) (names : List (List ℕ)) (ids : List ℕ) → Stands f p → IsTableOf s p.history → AreIds names ids
    → IsListing snapshot_folder names f → (id : ℕ) → Contains ids id → IsKnown p id
listed_known f p s names ids stands is are listing id listed =
    let there = (ids_there f p.history names ids id stands.folder are listing).0 listed in
    there_known f p s id stands is there.0 there.1 there.2

-- the line of a known snapshot that is read is that of it as it stood
line_in : (f : Files) (p : Past) (t : TableSchema) (id : ℕ) (bytes : List ℕ) (s : Snapshot) → Stands f p → IsTableOf t p.history → IsKnown p id
    → Some bytes ≡ map.get f (snapshot_path id) → snapshot_in id bytes ≡ Ok s → IsLineIn p (line_of s)
line_in f p t id bytes s stands is known there reads =
    let same : id ≡ s.id = sym (id_same id bytes s reads) in
    let stood = stood-same f p t id (snapshot_path id) bytes stands is known (inl refl) (sym there) in record {
      known = subst (IsKnown p) same known;
      stood = (s, subst (λ id. SnapshotAt (p.stood id) id s) same (bytes, stood, reads), refl);
    }

knows_read : (r : ReadingView) (next : Option ℕ) (id : ℕ) (bytes : List ℕ) (s : Snapshot) (f : Files) (p : Past) → next_id r ≡ next → next ≡ Some id
    → snapshot_in id bytes ≡ Ok s → Stands f p → IsReadingIn p r
    → IfSome (option_map snapshot_call next) (λ call. Answers call (answers.Found (Some bytes)) f → IsReadingIn p (add_line r (line_of s)))
knows_read r None id bytes s f p at is reads stands known = tt
knows_read r (Some other) id bytes s f p at is reads stands known = λ told.
    let same : other ≡ id = cc in
    let known_id = known.ids id (next_listed r id (at ∙ is)) in record {
      table = known.table;
      ids = known.ids;
      lines = AllByRecursion-push (IsLineIn p) r.lines (line_of s) known.lines
          (line_in f p r.schema id bytes s stands known.table known_id (told ∙ ap (λ id. map.get f (snapshot_path id)) same) reads);
    }

-- what an answer leads to is known of the same files
knows_next : (m : Phase) (answer : Answer) (new : Phase) (f : Files) (p : Past) → Goes m answer new → Stands f p → Knows m f p
    → IfSome (next_call m) (λ call. Answers call answer f → Knows new f p)
knows_next (phases.Schema r) answer new f p (to, on, is) stands known =
    IfSome_then (reader.next_call r) (reader_facts.knows_next r answer to f p on stands known)
    (λ call knows told. subst (λ (m : Phase). Knows m f p) (sym is) (knows_reader to f p (knows told)))
knows_next (phases.List s) (answers.Listed names) new f p (ids, are, is) stands known = λ told.
    let reading : IsReadingIn p (reading_of s ids []) =
    record { table = known; ids = listed_known f p s names.items ids stands known are told; lines = tt } in
    subst (λ (m : Phase). Knows m f p) (sym is) reading
knows_next (phases.Read r) (answers.Found (Some bytes)) new f p (id, s, next, reads, is) stands known =
    IfSome_then (next_call (phases.Read r)) (knows_read r (next_id r) id bytes s f p refl next reads stands known)
    (λ call knows told. subst (λ (m : Phase). Knows m f p) (sym is) (knows told))
knows_next m answer new f p goes stands known = absurd goes

pub sound : Sound next_call Goes (Refuses Shown phases.Over) (Stops phases.Over) Stands (λ m. IsKept) Knows
sound = sound_of_spared next_call Goes Shown phases.Over Stands Knows spares knows_next (λ f p. tt)

-- ---- its calls

did_reader : (r : schema_phase.Phase) (own : List Event) → reader_trace.Did r own → Did (after_reader r) own
did_reader readers.Schemas own did = did
did_reader (readers.Schema id) own did = did
did_reader (readers.Snapshots s) own did = did
did_reader (readers.Ready s) own did = did
did_reader readers.Over own did = did

zip_push : {A B : Type 0} (R : A → B → Type 0) (xs : List A) (ys : List B) (x : A) (y : B) → AllZip R xs ys → R x y
    → AllZip R (xs ++ x ∷ []) (ys ++ y ∷ [])
zip_push R [] [] x y all one = (one, tt)
zip_push R [] (b ∷ ys) x y all one = absurd all
zip_push R (a ∷ xs) [] x y all one = absurd all
zip_push R (a ∷ xs) (b ∷ ys) x y all one = (all.0, zip_push R xs ys x y all.1 one)

-- a snapshot more was read
read_more : (r : ReadingView) (id : ℕ) (bytes : List ℕ) (s : Snapshot) (own : List Event) → next_id r ≡ Some id → snapshot_in id bytes ≡ Ok s
    → HasRead r own → HasRead (add_line r (line_of s)) (own ++ read_snapshot id (Some bytes) ∷ [])
read_more r id bytes s own next reads (names, earlier, events, are, reading, lists, all, is) =
    let event : Event = read_snapshot id (Some bytes) in
    let same : s.id ≡ id = id_same id bytes s reads in
    let one : IsLineOf (line_of s) event =
    (bytes, s, subst (λ id. snapshot_in id bytes ≡ Ok s) (sym same) reads, refl, ap (λ id. read_snapshot id (Some bytes)) (sym same)) in (
      names,
      earlier,
      events ++ event ∷ [],
      are,
      one_more r (line_of s) reading (next ∙ ap Some (sym same)),
      lists,
      zip_push IsLineOf r.lines events (line_of s) event all one,
      ap (λ (own : List Event). own ++ event ∷ []) is ∙ append_assoc earlier events (event ∷ []),
    )

went_read : (r : ReadingView) (next : Option ℕ) (id : ℕ) (bytes : List ℕ) (s : Snapshot) (own : List Event) → next_id r ≡ next → next ≡ Some id
    → snapshot_in id bytes ≡ Ok s → HasRead r own
    → IfSome (option_map snapshot_call next) (λ call. HasRead (add_line r (line_of s)) (own ++ answered call (answers.Found (Some bytes)) ∷ []))
went_read r None id bytes s own at is reads did = tt
went_read r (Some other) id bytes s own at is reads did =
    let same : id ≡ other = cc in
    subst (λ id. HasRead (add_line r (line_of s)) (own ++ read_snapshot id (Some bytes) ∷ [])) same (read_more r id bytes s own (at ∙ is) reads did)

went_on : (m : Phase) (answer : Answer) (new : Phase) (own : List Event) → Goes m answer new → Did m own
    → IfSome (next_call m) (λ call. MayAnswer call answer → Did new (own ++ answered call answer ∷ []))
went_on (phases.Schema r) answer new own (to, on, is) did =
    IfSome_then (reader.next_call r) (reader_facts.recounts.went r to answer own on did)
    (λ call done may. subst (λ (m : Phase). Did m (own ++ answered call answer ∷ [])) (sym is)
    (did_reader to (own ++ answered call answer ∷ []) (done may)))
went_on (phases.List s) (answers.Listed names) new own (ids, are, is) did = λ may.
    let now : List Event = own ++ listed_snapshots names ∷ [] in
    subst (λ (m : Phase). Did m now) (sym is) (names, now, [], are, refl, (own, did, refl), tt, sym (append-nil now))
went_on (phases.Read r) (answers.Found (Some bytes)) new own (id, s, next, reads, is) did =
    IfSome_then (next_call (phases.Read r)) (went_read r (next_id r) id bytes s own refl next reads did)
    (λ call done may. subst (λ (m : Phase). Did m (own ++ answered call (answers.Found (Some bytes)) ∷ [])) (sym is) done)
went_on m answer new own goes did = absurd goes

-- what was found at the path of the next snapshot
met : (r : ReadingView) (next : Option ℕ) (id : ℕ) (found : Option (List ℕ)) (own : List Event) → next_id r ≡ next → next ≡ Some id → HasRead r own
    → IfSome (option_map snapshot_call next) (λ call. Meets r id found (own ++ answered call (answers.Found found) ∷ []))
met r None id found own at is did = tt
met r (Some other) id found own at is did =
    let same : id ≡ other = cc in
    (own, did, at ∙ is, ap (λ id. own ++ read_snapshot id found ∷ []) (sym same))

refused_on : (m : Phase) (answer : Answer) (refusal : Refusal) (own : List Event) → Shown m answer refusal → Did m own
    → IfSome (next_call m) (λ call. MayAnswer call answer → Shows refusal (own ++ answered call answer ∷ []))
refused_on (phases.Schema r) answer refusal own shown did =
    IfSome_then (reader.next_call r) (reader_facts.recounts.refused r readers.Over answer refusal own (shown, refl) did)
    (λ call done may. inl (done may).1)
refused_on (phases.List s) (answers.Listed names) refusal own is did = λ may.
    subst (λ (refusal : Refusal). Shows refusal (own ++ listed_snapshots names ∷ [])) (sym is)
    (inr (inl (after_answer (phases.List s) snapshots_call (answers.Listed names) own did refl may tt refl)))
refused_on (phases.Read r) (answers.Found None) refusal own (id, next, is) did =
    IfSome_then (next_call (phases.Read r)) (met r (next_id r) id None own refl next did)
    (λ call meets may. subst (λ (refusal : Refusal). Shows refusal (own ++ answered call (answers.Found None) ∷ [])) (sym is) (inr (r, meets)))
refused_on (phases.Read r) (answers.Found (Some bytes)) refusal own (id, next, inl is) did =
    IfSome_then (next_call (phases.Read r))
    (ended next_call DidSoFar MayTakeMemory (phases.Read r) (next_call (phases.Read r)) (answers.Found (Some bytes)) own refl did tt)
    (λ call ends may. subst (λ (refusal : Refusal). Shows refusal (own ++ answered call (answers.Found (Some bytes)) ∷ [])) (sym is) (inr (inl (ends may))))
refused_on (phases.Read r) (answers.Found (Some bytes)) refusal own (id, next, inr is) did =
    IfSome_then (next_call (phases.Read r)) (met r (next_id r) id (Some bytes) own refl next did)
    (λ call meets may. subst (λ (refusal : Refusal). Shows refusal (own ++ answered call (answers.Found (Some bytes)) ∷ [])) (sym is.0)
    (inr (r, id, bytes, refl, refl, is.1, meets)))
refused_on m answer refusal own shown did = absurd shown

so_far : (m : Phase) (own : List Event) → IsSome (next_call m) → Did m own → DidSoFar m own
so_far (phases.Schema r) own called did = did
so_far (phases.List s) own called did = did
so_far (phases.Read r) own called did = did
so_far phases.Over own called did = absurd (let clash = called in cc)

pub recounts : Recounts next_call Goes (Refuses Shown phases.Over) (Stops phases.Over) Did Shows
recounts = recounts_of next_call Goes Shown phases.Over DidSoFar Did MayTakeMemory Shows so_far (λ refusal own shows. (refusal, shows))
    (λ path own failed. inr failed) (λ own ends. inr (inl ends)) went_on refused_on

-- ---- how far it has come

-- fewer calls than that are left, and some if not all snapshots were read
abbrev pub IsAhead : ℕ → Phase → Type 0
IsAhead n m = (calls_left m < n) × (IsDone m ⊎ (0 < calls_left m))

reader_ahead : (r to : schema_phase.Phase) → reader.calls_left to < reader.calls_left r
    → IsAhead (reader.calls_left r + (greatest + 2)) (after_reader to)
reader_ahead r readers.Schemas fewer = (omega (arith, fewer), inr (omega arith))
reader_ahead r (readers.Schema id) fewer = (omega (arith, fewer), inr (omega arith))
reader_ahead r (readers.Snapshots s) fewer = (omega (arith, fewer), inr (omega arith))
reader_ahead r (readers.Ready s) fewer = (omega (arith, fewer), inr (omega arith))
reader_ahead r readers.Over fewer = (omega (arith, fewer), inr (omega arith))

read_ahead : (r : ReadingView) (next : Option ℕ) (n : ℕ) → next_id r ≡ next → length r.ids - length r.lines < n → IsAhead n (phases.Read r)
read_ahead r None n is fewer = (fewer, inl is)
read_ahead r (Some id) n is fewer = (fewer, inr (let within = slice_get_within r.ids (length r.lines) id is in omega (arith, within)))

-- an answer that it goes on with leaves fewer calls
pub goes_ahead : (m : Phase) (answer : Answer) (new : Phase) → Goes m answer new → IsAhead (calls_left m) new
goes_ahead (phases.Schema r) answer new (to, on, is) = subst (IsAhead (calls_left (phases.Schema r))) (sym is)
    (reader_ahead r to (reader_facts.goes_ahead r answer to on).0)
goes_ahead (phases.List s) (answers.Listed names) new (ids, are, is) =
    let within = ids_within names.items ids are in
    let own = reading_of s ids [] in
    subst (IsAhead (greatest + 2)) (sym is) (read_ahead own (next_id own) (greatest + 2) refl (omega (arith, within)))
goes_ahead (phases.Read r) (answers.Found (Some bytes)) new (id, s, next, reads, is) =
    let within = slice_get_within r.ids (length r.lines) id next in
    let longer = length_push r.lines (line_of s) in
    let own = add_line r (line_of s) in
    subst (IsAhead (length r.ids - length r.lines)) (sym is)
    (read_ahead own (next_id own) (length r.ids - length r.lines) refl (omega (arith, within, longer)))
goes_ahead m answer new on = absurd on

-- the schema that was read stays
pub keeps : (m : Phase) (answer : Answer) (new : Phase) → Goes m answer new → KeepsSchema m new
keeps (phases.Schema r) answer new on = tt
keeps (phases.List s) (answers.Listed names) new (ids, are, is) = ap schema_at is
keeps (phases.Read r) (answers.Found (Some bytes)) new (id, s, next, reads, is) = ap schema_at is
keeps m answer new on = absurd on

read_called : (r : ReadingView) (next : Option ℕ) → next_id r ≡ next → length r.lines < length r.ids → IsSome (option_map snapshot_call next)
read_called r None is left = absurd (let within = within_none r is in omega (arith, within, left))
read_called r (Some id) is left = refl

-- a lister with calls left has a next one
pub has_call : (m : Phase) → IsLister m → 0 < calls_left m → IsSome (next_call m)
has_call (phases.Schema r) is left = reader_facts.has_call r is
has_call (phases.List s) is left = refl
has_call (phases.Read r) is left = read_called r (next_id r) refl (omega (arith, left))
has_call phases.Over is left = absurd (omega (arith, left))

-- ---- laws

module _ (other : Actor) (f after : Files) (p q : Past) (advances : Advances other f p after q) where
  line_still : (l : SnapshotLine) → IsLineIn p l → IsLineIn q l
  line_still l line = record {
    known = known-still other f after p q l.id advances line.known;
    stood = subst (λ (g : Files). IsLineAt g l) (sym (advances.same l.id line.known)) line.stood;
  }

  lines_still : (lines : List SnapshotLine) → AllByRecursion (IsLineIn p) lines → AllByRecursion (IsLineIn q) lines
  lines_still [] known = tt
  lines_still (l ∷ lines) (line, known) = (line_still l line, lines_still lines known)

  table_still : (s : TableSchema) → IsTableOf s p.history → IsTableOf s q.history
  table_still s is = still_table s p.history q.history (goes_on other f after p.history q.history advances.change) is

  reading_still : (r : ReadingView) → IsReadingIn p r → IsReadingIn q r
  reading_still r known = record {
    table = table_still r.schema known.table;
    ids = λ id listed. known-still other f after p q id advances (known.ids id listed);
    lines = lines_still r.lines known.lines;
  }

pub knows_still : (m : Phase) (other : Actor) (f after : Files) (p q : Past) → Stands f p → Advances other f p after q → Knows m f p → Knows m after q
knows_still (phases.Schema r) other f after p q stands advances known = reader_facts.knows_still r other f after p q stands advances known
knows_still (phases.List s) other f after p q stands advances known = table_still other f after p q advances s known
knows_still (phases.Read r) other f after p q stands advances known = reading_still other f after p q advances r known
knows_still phases.Over other f after p q stands advances known = tt

pub images : (m : Phase) (call : Call) (f image : Files) (p : Past) → next_call m ≡ Some call → MayLeave call f image → IsKept f p image p
images m call f image p = image_spared next_call m call f image p (spares m f)

pub printed : (m : Phase) (s : TableSchema) (own : List Event) → IsLister m → IsDone m → schema_at m ≡ Some s → Did m own
    → HasListed s (lines_of m) own
printed (phases.Read r) s own is done had (names, earlier, reads, are, reading, lists, all, same) =
    let schema : r.schema ≡ s = cc in
    subst (λ (s : TableSchema). HasListed s r.lines own) schema
    (names, earlier, reads, subst (λ (ids : List ℕ). AreIds names.items ids) (sym (none_left r is done)) are, lists, all, same)
printed m s own is done had did = absurd done
