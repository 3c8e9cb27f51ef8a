-- What the files of groups lead to, each by its bytes, but that memory may run out: so the same calls lead to one place.
use Rattle.std.proofs.Common.{◌≡◌, ◌≢◌, inl, inr, ℕ, List, [], ◌∷◌, ◌++◌, Bool, true, false, Option, None, Some, IsSome, Ok, refl, sym, ap, subst, ◌∙◌}
use Rattle.std.specs.List.{AllByRecursion}
use Rattle.pm_values.specs.declared.record.Stamped.{Stamped}
use Rattle.pm_values.specs.declared.refusal.Refusal.{Refusal}
use Rattle.pm_values.specs.declared.refusal.Refusal.TheVariants as refusals
use Rattle.pm_store.specs.declared.answer.Answer.{Answer}
use Rattle.pm_store.specs.declared.answer.Answer.TheVariants as answers
use Rattle.pm_machine.specs.Trace.{Event}
use Rattle.pm_schema.specs.declared.schema.TableSchema.{TableSchema}
use Rattle.pm_engine.specs.Covers.{Run}
use Rattle.pm_run.specs.Order.{last_key}
use Rattle.pm_run.specs.Reader.{OpensRun, RunView as ReaderView}
use Rattle.pm_run.specs.Rows.{Follow}
use Rattle.pm_run.proofs.OneLemmas.{OneOpening}
use Rattle.pm_run.proofs.OpenedLemmas.{OneFollow, one_opened, one_unopened, opened_not, refused_of}
use Rattle.pm_read_schema.proofs.LeadLemmas.{AreOne, Leads, IsAnswered, all_answered, lead_step, led, one_lead}
use Rattle.pm_read_table.specs.Trace.{read_file}
use Rattle.pm_model_folder.specs.Paths.{snapshot_path}
use Rattle.pm_group_files.specs.Chosen.{Chosen}
use Rattle.pm_group_files.specs.Collected.{Closes, ClosesKept, Collected, RefusesFile, RefusesJob, RefusesWhere, Takes, TakesRows, TakesWhere, misread, nothing_of, unopened, with_groups, with_kept, with_rows}
use Rattle.pm_group_files.specs.Jobs.{all_wanted}
use Rattle.pm_group_files.specs.Trace.{FindsNext, HasPart, HaveRead, IsDamaged, LacksFile, Misreads, ReadsAgain, Shows}
use Rattle.pm_group_files.specs.declared.job.Ends.{Ends as JobEnds}
use Rattle.pm_group_files.specs.declared.job.Ends.TheVariants as ends
use Rattle.pm_group_files.specs.declared.job.Job.{Job}
use Rattle.pm_group_files.proofs.FaultLemmas.{IsOfFiles, damaged, expired, unsupported}

-- ---- the laws of the crates below

pub record FileLaws : Type 0 where
  pub opening : OneOpening
  pub rows : OneFollow

-- ---- where files lead

-- with this collected these files are left; the snapshot is to be read again, as the file at the path was absent; or the
-- reader was refused
pub data Place : Type 0 where
  files : Collected → List Job → Place
  again : List ℕ → Place
  over : Refusal → Place

-- what a file's bytes lead to
pub data FileRead (c : Collected) (job : Job) (jobs : List Job) (bytes : List ℕ) (new : Place) : Type 0 where
  is_taken : (next : Collected) → Takes job bytes c next → new ≡ files next jobs → FileRead c job jobs bytes new
  is_refused : (e : Refusal) → e ≢ refusals.Memory → RefusesJob c.schema job bytes c.rows e → new ≡ over e → FileRead c job jobs bytes new

-- what an answer leads to, at a snapshot
abbrev pub After : ℕ → Place → Answer → Place → Type 0
After id (files c (job ∷ jobs)) (answers.Found None) new = new ≡ again job.path
After id (files c (job ∷ jobs)) (answers.Found (Some bytes)) new = FileRead c job jobs bytes new
After id (again path) (answers.Found None) new = new ≡ over (refusals.Expired id)
After id (again path) (answers.Found (Some bytes)) new = new ≡ over (refusals.Damaged path 0)
After id m answer new = ⊥

abbrev pub Given : ℕ → Place → Option Answer → Place → Type 0
Given id m None new = ⊥
Given id m (Some answer) new = After id m answer new

abbrev pub Goes : ℕ → Place → Event → Place → Type 0
Goes id m event new = Given id m event.answer new

pub given_answered : (id : ℕ) (m new : Place) (answer : Option Answer) → Given id m answer new → IsSome answer
given_answered id m new None goes = absurd goes
given_answered id m new (Some answer) goes = refl

-- ---- they lead to one place

module _ (laws : FileLaws) where
  -- the rows of a file after those before it, and its end, are one
  one_follow : (s : TableSchema) (job : Job) (bytes : List ℕ) (before : Run) (v w : ReaderView) (rows others : List Stamped) (end other : Option Refusal)
      → OpensRun s false job.schema_id job.path bytes (Ok v) → OpensRun s false job.schema_id job.path bytes (Ok w)
      → Follow v.opened v.opened.file.first (last_key None before) rows end → Follow w.opened w.opened.file.first (last_key None before) others other → (rows ≡ others) × (end ≡ other)
  one_follow s job bytes before v w rows others end other opens opened follow followed =
      one_opened laws.opening laws.rows s false job.schema_id job.path bytes (last_key None before) v w rows others end other opens opened follow followed

  one_closed : (end : JobEnds) (c one other : Collected) → Closes end c one → Closes end c other → one ≡ other
  one_closed ends.File c one other is was = is ∙ sym was
  one_closed ends.Run c one other is was = is ∙ sym was
  one_closed ends.Group c one other is was = is ∙ sym was

  one_kept : (end : JobEnds) (c one other : Collected) → ClosesKept end c one → ClosesKept end c other → one ≡ other
  one_kept ends.File c one other is was = is ∙ sym was
  one_kept ends.Run c one other is was = is ∙ sym was
  one_kept ends.Group c one other is was = is ∙ sym was

  one_rows : (job : Job) (bytes : List ℕ) (c one other : Collected) → TakesRows job bytes c one → TakesRows job bytes c other → one ≡ other
  one_rows job bytes c one other (rows, (v, opens, follow), closes) (others, (w, opened, followed), closed) =
      let same = one_follow c.schema job bytes c.rows w v others rows None None opened opens followed follow in
      one_closed job.ends (with_rows (c.rows ++ rows) c) one other closes
      (subst (λ (rows : List Stamped). Closes job.ends (with_rows (c.rows ++ rows) c) other) same.0 closed)

  one_taken : (job : Job) (bytes : List ℕ) (c one other : Collected) → Takes job bytes c one → Takes job bytes c other → one ≡ other
  one_taken job bytes c one other took taken = by job.kept took taken
    where
      by : (kept : Bool) → TakesWhere kept job bytes c one → TakesWhere kept job bytes c other → one ≡ other
      by false took taken = one_rows job bytes c one other took taken
      by true took taken = one_kept job.ends (with_kept bytes c) one other took taken

  end_not : (e : Refusal) → ◌≡◌ {A = Option Refusal} None (Some e) → ⊥
  end_not e is = cc

  one_end_refusal : (e d : Refusal) → ◌≡◌ {A = Option Refusal} (Some e) (Some d) → e ≡ d
  one_end_refusal e d is = cc

  rows_not : (job : Job) (bytes : List ℕ) (c new : Collected) (e : Refusal) → e ≢ refusals.Memory → TakesRows job bytes c new → RefusesFile c.schema job bytes c.rows e → ⊥
  rows_not job bytes c new e other (rows, (v, opens, follow), closes) (unopened refuses) =
      opened_not laws.opening c.schema false job.schema_id job.path bytes v e other opens (refused_of c.schema job.schema_id job.path bytes e other refuses)
  rows_not job bytes c new e other (rows, (v, opens, follow), closes) (misread w others opened followed) =
      end_not e (one_follow c.schema job bytes c.rows v w rows others None (Some e) opens opened follow followed).1

  taken_not : (job : Job) (bytes : List ℕ) (c new : Collected) (e : Refusal) → e ≢ refusals.Memory → Takes job bytes c new → RefusesJob c.schema job bytes c.rows e → ⊥
  taken_not job bytes c new e other took refuses = by job.kept took refuses
    where
      by : (kept : Bool) → TakesWhere kept job bytes c new → RefusesWhere kept c.schema job bytes c.rows e → ⊥
      by false took refuses = rows_not job bytes c new e other took refuses
      by true took refuses = refuses

  one_file_refused : (s : TableSchema) (job : Job) (bytes : List ℕ) (before : Run) (e d : Refusal) → e ≢ refusals.Memory → d ≢ refusals.Memory → RefusesFile s job bytes before e
      → RefusesFile s job bytes before d → e ≡ d
  one_file_refused s job bytes before e d other more (unopened refuses) (unopened refused) =
      one_unopened laws.opening s job.schema_id job.path bytes e d other more (refused_of s job.schema_id job.path bytes e other refuses) (refused_of s job.schema_id job.path bytes d more refused)
  one_file_refused s job bytes before e d other more (unopened refuses) (misread w others opened followed) =
      absurd (opened_not laws.opening s false job.schema_id job.path bytes w e other opened (refused_of s job.schema_id job.path bytes e other refuses))
  one_file_refused s job bytes before e d other more (misread v rows opens follow) (unopened refused) =
      absurd (opened_not laws.opening s false job.schema_id job.path bytes v d more opens (refused_of s job.schema_id job.path bytes d more refused))
  one_file_refused s job bytes before e d other more (misread v rows opens follow) (misread w others opened followed) =
      one_end_refusal e d (one_follow s job bytes before v w rows others (Some e) (Some d) opens opened follow followed).1

  one_refused : (s : TableSchema) (job : Job) (bytes : List ℕ) (before : Run) (e d : Refusal) → e ≢ refusals.Memory → d ≢ refusals.Memory → RefusesJob s job bytes before e
      → RefusesJob s job bytes before d → e ≡ d
  one_refused s job bytes before e d other more refuses refused = by job.kept refuses refused
    where
      by : (kept : Bool) → RefusesWhere kept s job bytes before e → RefusesWhere kept s job bytes before d → e ≡ d
      by false refuses refused = one_file_refused s job bytes before e d other more refuses refused
      by true refuses refused = absurd refuses

  one_file : (c : Collected) (job : Job) (jobs : List Job) (bytes : List ℕ) (one other : Place) → FileRead c job jobs bytes one → FileRead c job jobs bytes other → one ≡ other
  one_file c job jobs bytes one other (is_taken next took is) (is_taken also taken was) =
      is ∙ ap (λ (c : Collected). files c jobs) (one_taken job bytes c next also took taken) ∙ sym was
  one_file c job jobs bytes one other (is_taken next took is) (is_refused e not_memory refused was) = absurd (taken_not job bytes c next e not_memory took refused)
  one_file c job jobs bytes one other (is_refused e not_memory refused is) (is_taken next took was) = absurd (taken_not job bytes c next e not_memory took refused)
  one_file c job jobs bytes one other (is_refused e not_memory refused is) (is_refused d nor_memory denied was) =
      is ∙ ap over (one_refused c.schema job bytes c.rows e d not_memory nor_memory refused denied) ∙ sym was

  one_after : (id : ℕ) (m : Place) (answer : Answer) (one other : Place) → After id m answer one → After id m answer other → one ≡ other
  one_after id (files c (job ∷ jobs)) (answers.Found None) one other is was = is ∙ sym was
  one_after id (files c (job ∷ jobs)) (answers.Found (Some bytes)) one other is was = one_file c job jobs bytes one other is was
  one_after id (again path) (answers.Found None) one other is was = is ∙ sym was
  one_after id (again path) (answers.Found (Some bytes)) one other is was = is ∙ sym was
  one_after id m answer one other is was = absurd is

  one_given : (id : ℕ) (m : Place) (answer : Option Answer) (one other : Place) → Given id m answer one → Given id m answer other → one ≡ other
  one_given id m None one other is was = absurd is
  one_given id m (Some answer) one other is was = one_after id m answer one other is was

  pub are_one : (id : ℕ) → AreOne (Goes id)
  are_one id m event one other is was = one_given id m event.answer one other is was

-- ---- from what was asked on

-- where its reader begins
abbrev pub start : Chosen → Place
start a = files (nothing_of a.schema) (all_wanted a.schema a.groups)

pub have_lead : (id : ℕ) (jobs rest : List Job) (old new : Collected) (own : List Event) → HaveRead jobs old new own → Leads (Goes id) own (files old (jobs ++ rest)) (files new rest)
have_lead id [] rest old new own (same, none) = led (Goes id) own [] (files old rest) (files new rest) none (ap (λ (c : Collected). files c rest) same)
have_lead id (job ∷ jobs) rest old new own (bytes, middle, events, took, is, more) =
    led (Goes id) own (read_file job.path (Some bytes) ∷ events) (files old (job ∷ (jobs ++ rest))) (files new rest) is
    (files middle (jobs ++ rest), is_taken middle took refl, have_lead id jobs rest middle new events more)

module _ (a : Chosen) where
  -- the calls lead here
  abbrev pub LeadsTo : List Event → Place → Type 0
  LeadsTo own n = Leads (Goes a.id) own (start a) n

  pub part_lead : (c : Collected) (rest : List Job) (own : List Event) → HasPart a c rest own → LeadsTo own (files (with_groups a.given c) rest)
  part_lead c rest own part =
      subst (λ (jobs : List Job). Leads (Goes a.id) own (files (nothing_of a.schema) jobs) (files (with_groups a.given c) rest)) (sym part.parts)
      (have_lead a.id part.done rest (nothing_of a.schema) (with_groups a.given c) own part.read)

  step_lead : (earlier own : List Event) (event : Event) (m n : Place) → LeadsTo earlier m → own ≡ earlier ++ event ∷ [] → Goes a.id m event n → LeadsTo own n
  step_lead earlier own event m n lead is goes =
      subst (λ (own : List Event). LeadsTo own n) (sym is) (lead_step (Goes a.id) earlier (start a) m n event lead goes)

  found_lead : (c : Collected) (job : Job) (rest : List Job) (found : Option (List ℕ)) (own : List Event) (n : Place) → FindsNext a c job rest found own
      → After a.id (files (with_groups a.given c) (job ∷ rest)) (answers.Found found) n → LeadsTo own n
  found_lead c job rest found own n (earlier, part, is) goes =
      step_lead earlier own (read_file job.path found) (files (with_groups a.given c) (job ∷ rest)) n (part_lead c (job ∷ rest) earlier part) is goes

  lacks_lead : (id : ℕ) (path : List ℕ) (own : List Event) → LacksFile a id path own → LeadsTo own (again path)
  lacks_lead id path own lacks = found_lead lacks.collected lacks.job lacks.rest None own (again path) lacks.absent (ap again lacks.is_path)

  again_lead : (id : ℕ) (path : List ℕ) (found : Option (List ℕ)) (own : List Event) (e : Refusal) → ReadsAgain a id path found own
      → After id (again path) (answers.Found found) (over e) → LeadsTo own (over e)
  again_lead id path found own e (earlier, lacks, is) goes =
      let at : After a.id (again path) (answers.Found found) (over e) =
      subst (λ (id : ℕ). After id (again path) (answers.Found found) (over e)) lacks.is_id goes in
      step_lead earlier own (read_file (snapshot_path id) found) (again path) (over e) (lacks_lead id path earlier lacks) is at

  misread_lead : (e : Refusal) (own : List Event) → e ≢ refusals.Memory → Misreads a e own → LeadsTo own (over e)
  misread_lead e own other (c, job, rest, bytes, refused, finds) =
      found_lead c job rest (Some bytes) own (over e) finds (is_refused e other refused refl)

  damaged_not : (path : List ℕ) (place : ℕ) → refusals.Damaged path place ≢ refusals.Memory
  damaged_not path place e = cc

  unsupported_not : (what text : List ℕ) → refusals.Unsupported what text ≢ refusals.Memory
  unsupported_not what text e = cc

  pub damaged_lead : (path : List ℕ) (place : ℕ) (own : List Event) → IsDamaged a path place own → LeadsTo own (over (refusals.Damaged path place))
  damaged_lead path place own (inl (first, id, bytes, reads)) =
      again_lead id path (Some bytes) own (refusals.Damaged path place) reads (ap (λ (place : ℕ). over (refusals.Damaged path place)) first)
  damaged_lead path place own (inr misreads) = misread_lead (refusals.Damaged path place) own (damaged_not path place) misreads

  -- a refusal of files is where its calls lead
  pub shows_lead : (e : Refusal) (own : List Event) → IsOfFiles e → Shows a e own → LeadsTo own (over e)
  shows_lead e own (expired id) (path, reads) = again_lead id path None own (refusals.Expired id) reads refl
  shows_lead e own (damaged path place) shows = damaged_lead path place own shows
  shows_lead e own (unsupported what text) misreads = misread_lead (refusals.Unsupported what text) own (unsupported_not what text) misreads

  pub lead_answered : (own : List Event) (n : Place) → LeadsTo own n → AllByRecursion IsAnswered own
  lead_answered own n lead = all_answered (Goes a.id) (λ m event new goes. given_answered a.id m new event.answer goes) own (start a) n lead

  pub one_place : FileLaws → (own : List Event) (n k : Place) → LeadsTo own n → LeadsTo own k → n ≡ k
  one_place laws own n k one other = one_lead (Goes a.id) (are_one laws a.id) own (start a) n k one other
