-- A reader of files keeps the laws of machines.
use Rattle.std.proofs.Common.{◌≡◌, ◌⊎◌, inl, inr, ℕ, ◌<◌, ◌+◌, suc, List, [], ◌∷◌, ◌++◌, length, None, Some, IsSome, IfSome, refl, sym, ap, ◌∙◌, subst, arith, append_assoc}
use Rattle.std.proofs.lemmas.List.{append-nil}
use Rattle.pm_values.specs.declared.refusal.Refusal.{Refusal}
use Rattle.pm_values.specs.declared.refusal.Refusal.TheVariants as refusals
use Rattle.pm_store.specs.declared.answer.Answer.{Answer}
use Rattle.pm_store.specs.declared.answer.Answer.TheVariants as answers
use Rattle.pm_store.specs.declared.call.Call.{Call}
use Rattle.pm_store.specs.declared.call.Call.TheVariants as calls
use Rattle.pm_store.specs.Answers.{Answers, MayAnswer}
use Rattle.pm_store.specs.Files.{Files}
use Rattle.pm_store.specs.Images.{MayLeave}
use Rattle.pm_machine.specs.Moves.{IsKept, Sound}
use Rattle.pm_machine.specs.Running.{Refuses, Stops}
use Rattle.pm_machine.specs.Trace.{Event, Recounts, after_answer, answered}
use Rattle.pm_machine.proofs.PhaseFacts.{Spares, image_spared, recounts_of, sound_of_spared}
use Rattle.pm_schema.specs.declared.schema.TableSchema.{TableSchema}
use Rattle.pm_scan_rows.specs.Group.{GroupRead}
use Rattle.pm_model_folder.specs.Changes.{Actor}
use Rattle.pm_model_folder.specs.Ledger.{Advances, Past, Stands}
use Rattle.pm_model_folder.specs.Paths.{snapshot_path}
use Rattle.pm_model_folder.proofs.Facts.{goes_on}
use Rattle.pm_read_schema.proofs.Facts.{read_effect}
use Rattle.pm_read_table.specs.Meaning.{HasGone}
use Rattle.pm_read_table.specs.Trace.{read_file}
use Rattle.pm_read_table.proofs.Facts.{gone_still}
use Rattle.pm_read_table.proofs.FaultLemmas.{IsFileFault}
use Rattle.pm_group_files.specs.Chosen.{Chosen, chosen_of}
use Rattle.pm_group_files.specs.Collected.{Collected, HaveTaken, Takes, nothing_of, with_groups, without_groups}
use Rattle.pm_group_files.specs.Jobs.{all_wanted}
use Rattle.pm_group_files.specs.Meaning.{HasTaken, Knows, KnowsChosen, StandsFor}
use Rattle.pm_group_files.specs.Reader.{next_call, calls_left, read_next, Goes, HandsOut, HasGroup, IsReady, OfTable, Shown}
use Rattle.pm_group_files.specs.Trace.{HaveRead, HasPart, DidSoFar, MayTakeMemory, Misreads, Shows, Did}
use Rattle.pm_group_files.specs.declared.job.Job.{Job}
use Rattle.pm_group_files.specs.declared.phase.Phase.{Phase}
use Rattle.pm_group_files.specs.declared.phase.Phase.TheVariants as phases
use Rattle.pm_group_files.proofs.FaultLemmas.{refuses_fault}
use Rattle.pm_group_files.proofs.ReadLemmas.{next-gone, next-taken, taken-kept}
use Rattle.pm_group_files.proofs.TakenLemmas.{takes-after, takes-schema}

-- ---- its calls change nothing

pub spares : (m : Phase) (f : Files) → IfSome (next_call m) (Spares f)
spares (phases.Files r) f = λ effect. read_effect r.next.path effect f
spares (phases.Again id path) f = λ effect. read_effect (snapshot_path id) effect f
spares (phases.Ready c) f = tt
spares phases.Over f = tt

-- ---- what it knows

-- with these files left
pub next_known : (a : Chosen) (id : ℕ) (c : Collected) (left : List Job) (f : Files) (p : Past) → id ≡ a.id → HasTaken p a c left → Knows a (read_next id c left) f p
next_known a id c [] f p same taken = taken
next_known a id c (job ∷ jobs) f p same taken = (same, taken)

-- what an answer leads to is known of the same files
pub knows_next : (a : Chosen) (m : Phase) (answer : Answer) (new : Phase) (f : Files) (p : Past) → Goes m answer new → Stands f p → Knows a m f p
    → IfSome (next_call m) (λ call. Answers call answer f → Knows a new f p)
knows_next a (phases.Files r) (answers.Found None) new f p is stands (same, taken) = λ told.
    let gone : HasGone f p a.schema r.id =
    subst (HasGone f p a.schema) (sym same) (next-gone f p stands a r.collected r.next r.rest taken (sym told)) in
    subst (λ (m : Phase). Knows a m f p) (sym is) gone
knows_next a (phases.Files r) (answers.Found (Some bytes)) new f p (c, takes, is) stands (same, taken) = λ told.
    subst (λ (m : Phase). Knows a m f p) (sym is)
    (next_known a r.id c r.rest f p same (next-taken f p stands a r.collected r.next r.rest taken bytes c (sym told) takes))
knows_next a m answer new f p goes stands known = absurd goes

pub sound : Sound next_call Goes (Refuses Shown phases.Over) (Stops phases.Over) StandsFor (λ m. IsKept) KnowsChosen
sound =
    sound_of_spared next_call Goes Shown phases.Over StandsFor KnowsChosen spares
    (λ m answer new f h goes stands known. knows_next h.chosen m answer new f h.past goes stands known) (λ f h. tt)

-- ---- its calls

pub read_push : (jobs : List Job) (job : Job) (old middle new : Collected) (bytes : List ℕ) (events : List Event) → HaveRead jobs old middle events → Takes job bytes middle new
    → HaveRead (jobs ++ job ∷ []) old new (events ++ read_file job.path (Some bytes) ∷ [])
read_push [] job old middle new bytes events (same, quiet) takes =
    let event : Event = read_file job.path (Some bytes) in
    (bytes, new, [], subst (λ (c : Collected). Takes job bytes c new) same takes, ap (λ (own : List Event). own ++ event ∷ []) quiet, (refl, refl))
read_push (first ∷ jobs) job old middle new bytes events (own, here, rest, took, comes, more) takes =
    let event : Event = read_file job.path (Some bytes) in
    (own, here, rest ++ event ∷ [], took, ap (λ (own : List Event). own ++ event ∷ []) comes, read_push jobs job here middle new bytes rest more takes)

-- one file more was read
part_more : (a : Chosen) (c new : Collected) (job : Job) (rest : List Job) (bytes : List ℕ) (own : List Event) → HasPart a c (job ∷ rest) own
    → Takes job bytes c new → HasPart a new rest (own ++ read_file job.path (Some bytes) ∷ [])
part_more a c new job rest bytes own part takes = record {
  done = part.done ++ job ∷ [];
  parts = part.parts ∙ sym (append_assoc part.done (job ∷ []) rest);
  read = read_push part.done job (nothing_of a.schema) (with_groups a.given c) (with_groups a.given new) bytes own part.read (takes-after a.given job bytes c new takes);
}

-- none was read yet
pub part_none : (a : Chosen) → a.given ≡ [] → HasPart a (nothing_of a.schema) (all_wanted a.schema a.groups) []
part_none a none = record {
  done = [];
  parts = refl;
  read = (ap (λ (given : List GroupRead). with_groups given (nothing_of a.schema)) none, refl);
}

pub did_next : (a : Chosen) (id : ℕ) (c : Collected) (left : List Job) (own : List Event) → id ≡ a.id → HasPart a c left own → Did a (read_next id c left) own
did_next a id c [] own same part = part
did_next a id c (job ∷ jobs) own same part = (same, part)

went_on : (a : Chosen) (m : Phase) (answer : Answer) (new : Phase) (own : List Event) → Goes m answer new → Did a m own
    → IfSome (next_call m) (λ call. MayAnswer call answer → Did a new (own ++ answered call answer ∷ []))
went_on a (phases.Files r) (answers.Found None) new own is (same, part) = λ may.
    subst (λ (m : Phase). Did a m (own ++ read_file r.next.path None ∷ [])) (sym is)
    (record { collected = r.collected; job = r.next; rest = r.rest; is_id = same; is_path = refl; absent = (own, part, refl) })
went_on a (phases.Files r) (answers.Found (Some bytes)) new own (c, takes, is) (same, part) = λ may.
    subst (λ (m : Phase). Did a m (own ++ read_file r.next.path (Some bytes) ∷ [])) (sym is)
    (did_next a r.id c r.rest (own ++ read_file r.next.path (Some bytes) ∷ []) same (part_more a r.collected c r.next r.rest bytes own part takes))
went_on a m answer new own goes did = absurd goes

shows_as : (a : Chosen) (refusal defined : Refusal) (own : List Event) → refusal ≡ defined → Shows a defined own → Shows a refusal own
shows_as a refusal defined own is shows = subst (λ (e : Refusal). Shows a e own) (sym is) shows

-- a file was refused so
misread_as : (a : Chosen) (refusal : Refusal) (own : List Event) → IsFileFault refusal → Shows a refusals.Memory own → Misreads a refusal own
    → Shows a refusal own
misread_as a refusals.Memory own fault ends bad = ends
misread_as a (refusals.Damaged path place) own fault ends bad = inr bad
misread_as a (refusals.Unsupported what text) own fault ends bad = bad
misread_as a other own fault ends bad = absurd fault

refused_on : (a : Chosen) (m : Phase) (answer : Answer) (refusal : Refusal) (own : List Event) → Shown m answer refusal → Did a m own
    → IfSome (next_call m) (λ call. MayAnswer call answer → Shows a refusal (own ++ answered call answer ∷ []))
refused_on a (phases.Files r) (answers.Found (Some bytes)) refusal own (inl is) did = λ may.
    shows_as a refusal refusals.Memory _ is
    (after_answer (phases.Files r) (calls.Read r.next.path) (answers.Found (Some bytes)) own did refl may tt refl)
refused_on a (phases.Files r) (answers.Found (Some bytes)) refusal own (inr bad) (same, part) = λ may.
    misread_as a refusal _ (refuses_fault r.collected.schema r.next bytes r.collected.rows refusal bad)
    (after_answer (phases.Files r) (calls.Read r.next.path) (answers.Found (Some bytes)) own (same, part) refl may tt refl)
    (r.collected, r.next, r.rest, bytes, bad, (own, part, refl))
refused_on a (phases.Again id path) (answers.Found None) refusal own is lacks = λ may.
    shows_as a refusal (refusals.Expired id) _ is (path, (own, lacks, refl))
refused_on a (phases.Again id path) (answers.Found (Some bytes)) refusal own is lacks = λ may.
    shows_as a refusal (refusals.Damaged path 0) _ is (inl (refl, id, bytes, (own, lacks, refl)))
refused_on a m answer refusal own shown did = absurd shown

so_far : (a : Chosen) (m : Phase) (own : List Event) → IsSome (next_call m) → Did a m own → DidSoFar a m own
so_far a (phases.Files r) own called did = did
so_far a (phases.Again id path) own called did = did
so_far a (phases.Ready c) own called did = did
so_far a phases.Over own called did = absurd (let clash = called in cc)

pub recounts : (a : Chosen) → Recounts next_call Goes (Refuses Shown phases.Over) (Stops phases.Over) (Did a) (Shows a)
recounts a = recounts_of next_call Goes Shown phases.Over (DidSoFar a) (Did a) MayTakeMemory (Shows a) (so_far a)
    (λ refusal own shows. (refusal, shows)) (λ path own failed. failed) (λ own ends. ends) (went_on a) (refused_on a)

-- ---- how far it has come

-- fewer calls than that are left, and some if not all files were read
abbrev pub IsAhead : ℕ → Phase → Type 0
IsAhead n m = (calls_left m < n) × (IsReady m ⊎ (0 < calls_left m))

pub next_ahead : (id : ℕ) (c : Collected) (jobs : List Job) (n : ℕ) → length jobs + 1 < n → IsAhead n (read_next id c jobs)
next_ahead id c [] n below =
    let one : 0 + 1 < n = below in
    let less : 0 < n = omega (arith, one) in
    (less, inl tt)
next_ahead id c (job ∷ jobs) n below =
    let one : suc (length jobs) + 1 < n = below in
    let less : length jobs + 2 < n = omega (arith, one) in
    let some : 0 < length jobs + 2 = omega arith in
    (less, inr some)

pub goes_ahead : (m : Phase) (answer : Answer) (new : Phase) → Goes m answer new → IsAhead (calls_left m) new
goes_ahead (phases.Files r) (answers.Found None) new is =
    let less : 1 < length r.rest + 2 = omega arith in
    let some : 0 < 1 = omega arith in
    subst (IsAhead (length r.rest + 2)) (sym is) (less, inr some)
goes_ahead (phases.Files r) (answers.Found (Some bytes)) new (c, takes, is) =
    subst (IsAhead (length r.rest + 2)) (sym is) (next_ahead r.id c r.rest (length r.rest + 2) (omega arith))
goes_ahead m answer new goes = absurd goes

-- where it goes on it isn't over
pub goes_on_not_over : (m : Phase) (answer : Answer) → Goes m answer phases.Over → ⊥
goes_on_not_over (phases.Files r) (answers.Found None) is = let clash : phases.Over ≡ phases.Again r.id r.next.path = is in cc
goes_on_not_over (phases.Files r) (answers.Found (Some bytes)) (c, takes, is) = not_next r.rest is
  where
    not_next : (jobs : List Job) → phases.Over ≡ read_next r.id c jobs → ⊥
    not_next [] e = cc
    not_next (job ∷ jobs) e = cc
goes_on_not_over m answer goes = goes

-- a reader with calls left has a next one
pub has_call : (m : Phase) → 0 < calls_left m → IsSome (next_call m)
has_call (phases.Files r) left = refl
has_call (phases.Again id path) left = refl
has_call (phases.Ready c) left = absurd (let none : 0 < 0 = left in omega (arith, none))
has_call phases.Over left = absurd (let none : 0 < 0 = left in omega (arith, none))

-- ---- the table stays

pub next_of_table : (Holds : TableSchema → Type 0) (id : ℕ) (c : Collected) (jobs : List Job) → Holds c.schema → OfTable Holds (read_next id c jobs)
next_of_table Holds id c [] holds = holds
next_of_table Holds id c (job ∷ jobs) holds = holds

pub table_stays : (Holds : TableSchema → Type 0) (m : Phase) (answer : Answer) (new : Phase) → Goes m answer new → OfTable Holds m → OfTable Holds new
table_stays Holds (phases.Files r) (answers.Found None) new is holds = subst (OfTable Holds) (sym is) tt
table_stays Holds (phases.Files r) (answers.Found (Some bytes)) new (c, takes, is) holds =
    subst (OfTable Holds) (sym is) (next_of_table Holds r.id c r.rest (subst Holds (sym (takes-schema r.next bytes r.collected c takes)) holds))
table_stays Holds m answer new goes holds = absurd goes

-- ---- laws

pub knows_still : (a : Chosen) (m : Phase) (other : Actor) (f after : Files) (p q : Past) → Stands f p → Advances other f p after q → Knows a m f p → Knows a m after q
knows_still a (phases.Files r) other f after p q stands advances (same, taken) = (same, taken-kept goes_on other f after p q advances a r.collected (r.next ∷ r.rest) taken)
knows_still a (phases.Again id path) other f after p q stands advances gone = gone_still other f after p q a.schema id stands advances gone
knows_still a (phases.Ready c) other f after p q stands advances taken = taken-kept goes_on other f after p q advances a c [] taken
knows_still a phases.Over other f after p q stands advances known = tt

pub images : (m : Phase) (call : Call) (f image : Files) (p : Past) → next_call m ≡ Some call → MayLeave call f image → IsKept f p image p
images m call f image p = image_spared next_call m call f image p (spares m f)

-- ---- groups that are handed out

-- what was handed out before, and this
abbrev pub also_given : Chosen → List GroupRead → Chosen
also_given a groups = chosen_of a.schema a.id a.groups (a.given ++ groups)

same_whole : (given : List GroupRead) (c : Collected) → with_groups given c ≡ with_groups (given ++ c.groups) (without_groups c)
same_whole given c = ap (λ (groups : List GroupRead). record c { groups = groups }) (sym (append-nil (given ++ c.groups)))

taken_given : (p : Past) (a : Chosen) (c : Collected) (left : List Job) → HasTaken p a c left → HasTaken p (also_given a c.groups) (without_groups c) left
taken_given p a c left taken = record {
  chosen = record { table = taken.chosen.table; known = taken.chosen.known; each = taken.chosen.each };
  done = taken.done;
  parts = taken.parts;
  taken = subst (HaveTaken (p.stood a.id) taken.done (nothing_of a.schema)) (same_whole a.given c) taken.taken;
  schema = taken.schema;
}

part_given : (a : Chosen) (c : Collected) (left : List Job) (own : List Event) → HasPart a c left own → HasPart (also_given a c.groups) (without_groups c) left own
part_given a c left own part = record {
  done = part.done;
  parts = part.parts;
  read = subst (λ (whole : Collected). HaveRead part.done (nothing_of a.schema) whole own) (same_whole a.given c) part.read;
}

-- what is known then, and which calls led there
pub handed_known : (a : Chosen) (m : Phase) (groups : List GroupRead) (new : Phase) (f : Files) (p : Past) → HandsOut m groups new → Knows a m f p → Knows (also_given a groups) new f p
handed_known a (phases.Files r) groups new f p (are, is) (same, taken) =
    subst (λ (groups : List GroupRead). Knows (also_given a groups) new f p) (sym are)
    (subst (λ (m : Phase). Knows (also_given a r.collected.groups) m f p) (sym is) (same, taken_given p a r.collected (r.next ∷ r.rest) taken))
handed_known a (phases.Ready c) groups new f p (are, is) taken =
    subst (λ (groups : List GroupRead). Knows (also_given a groups) new f p) (sym are)
    (subst (λ (m : Phase). Knows (also_given a c.groups) m f p) (sym is) (taken_given p a c [] taken))
handed_known a (phases.Again id path) groups new f p (none, is) gone = subst (λ (m : Phase). Knows (also_given a groups) m f p) (sym is) gone
handed_known a phases.Over groups new f p (none, is) known = subst (λ (m : Phase). Knows (also_given a groups) m f p) (sym is) tt

pub handed_did : (a : Chosen) (m : Phase) (groups : List GroupRead) (new : Phase) (own : List Event) → HasGroup m → HandsOut m groups new
    → DidSoFar a m own → DidSoFar (also_given a groups) new own
handed_did a (phases.Files r) groups new own some (are, is) (same, part) =
    subst (λ (groups : List GroupRead). DidSoFar (also_given a groups) new own) (sym are)
    (subst (λ (m : Phase). DidSoFar (also_given a r.collected.groups) m own) (sym is) (same, part_given a r.collected (r.next ∷ r.rest) own part))
handed_did a (phases.Ready c) groups new own some (are, is) part =
    subst (λ (groups : List GroupRead). DidSoFar (also_given a groups) new own) (sym are)
    (subst (λ (m : Phase). DidSoFar (also_given a c.groups) m own) (sym is) (part_given a c [] own part))
handed_did a m groups new own some hands did = absurd some
