-- A mover keeps the laws of machines.
use Rattle.std.proofs.Common.{◌≡◌, inl, inr, ℕ, suc, ◌+◌, ◌<◌, ◌≤◌, List, [], ◌∷◌, ◌++◌, length, length-append, Bool, true, false, if◌then◌else◌, Some, IsSome, IfSome, refl, sym, ap, ◌∙◌, subst, arith}
use Rattle.std.specs.FinMap as map
use Rattle.std.specs.List.{flat_map}
use Rattle.pm_base.specs.Newline.{line}
use Rattle.pm_values.specs.declared.refusal.Refusal.{Refusal}
use Rattle.pm_values.specs.declared.refusal.Refusal.TheVariants as refusals
use Rattle.pm_store.specs.declared.answer.Answer.{Answer}
use Rattle.pm_store.specs.declared.answer.Answer.TheVariants as answers
use Rattle.pm_store.specs.declared.answer.Swapped.TheVariants as swaps
use Rattle.pm_store.specs.declared.call.Call.{Call}
use Rattle.pm_store.specs.declared.call.Call.TheVariants as calls
use Rattle.pm_store.specs.declared.call.Effect.{Effect}
use Rattle.pm_store.specs.declared.call.Effect.TheVariants as effects
use Rattle.pm_store.specs.Answers.{Answers, MayAnswer}
use Rattle.pm_store.specs.Files.{Files, Puts, after_effect, carried, is_same}
use Rattle.pm_store.specs.Images.{MayLeave}
use Rattle.pm_store.proofs.ChangeLaws.{Answers-Changed, Puts-insert}
use Rattle.pm_store.proofs.FileLaws.{is_same-equal}
use Rattle.pm_machine.specs.Moves.{Changes, Leads, Sound}
use Rattle.pm_machine.specs.Running.{Refuses, Stops}
use Rattle.pm_machine.specs.Step.{path_of}
use Rattle.pm_machine.specs.Trace.{Event, IsFailed, MayEnd, Recounts, after_answer, answered, before_call, faulted}
use Rattle.pm_machine.proofs.Facts.{image_changed}
use Rattle.pm_machine.proofs.PhaseFacts.{recounts_of}
use Rattle.pm_model_consumers.specs.Claims.{known_at, moved_past, with_claim}
use Rattle.pm_model_history.specs.History.{Entry, GoesOn, History, IsTableOf, no_table, table}
use Rattle.pm_model_history.specs.Merge.{HistoryRow}
use Rattle.pm_model_following.specs.Following.{HaveBases, change, frame, frame_head}
use Rattle.pm_rows.specs.RowText.{row_text}
use Rattle.pm_schema.specs.declared.schema.TableSchema.{TableSchema}
use Rattle.pm_model_folder.specs.Changes.{Actor}
use Rattle.pm_model_folder.specs.Consumers.{frame_in, said_in, said_of}
use Rattle.pm_model_folder.specs.Folder.{Folder}
use Rattle.pm_model_folder.specs.Ledger.{Advances, Past, Stands, count_of, moves}
use Rattle.pm_model_folder.proofs.Facts.{goes_on}
use Rattle.pm_read_schema.proofs.Facts.{kept_nothing}
use Rattle.pm_move_consumer.specs.declared.move_phase.MovePhase.{MovePhase}
use Rattle.pm_move_consumer.specs.declared.move_phase.MovePhase.TheVariants as phases
use Rattle.pm_move_consumer.specs.Mover.{Goes, IsDone, IsMoving, IsOf, Moving, Shown, calls_left, its_path, known_consumer, moved_text, next_call}
use Rattle.pm_move_consumer.specs.MoverMeaning.{IsMovedPast, IsPrinted, Knows, KnowsAt, KnowsBeside, MayMovePast, Move, MovesBeside, StandsBeside}
use Rattle.pm_move_consumer.specs.MoverTrace.{Did, DidSoFar, MayTakeMemory, Shows, swap_call}
use Rattle.pm_move_consumer.proofs.SideLemmas.{sound_beside}
use Rattle.pm_move_consumer.proofs.StepFacts.{ConsumerSteps, PastKept, ReadsAgain, ReadsNext, claimed-step, others-stay, plain-table}

-- ---- what its call may leave

-- of a swap, where the content is the one that is expected the new bytes, and else the files as they were
swap_at : (path expected bytes : List ℕ) (f : Files) (P : Files → Type 0) → P f → (map.get f path ≡ Some expected → P (map.insert f path bytes))
    → (b : Bool) → is_same (map.get f path) (Some expected) ≡ b → P (if b then map.insert f path bytes else f)
swap_at path expected bytes f P same changed true is = changed (is_same-equal (map.get f path) (Some expected) is)
swap_at path expected bytes f P same changed false is = same

pub swap_effects : (path expected bytes : List ℕ) (f : Files) (P : Files → Type 0) → P f → (map.get f path ≡ Some expected → P (map.insert f path bytes))
    → (effect : Effect) → P (after_effect (calls.Swap path (Some expected) bytes) effect f)
swap_effects path expected bytes f P same changed effects.None = same
swap_effects path expected bytes f P same changed (effects.Part found) = same
swap_effects path expected bytes f P same changed effects.Whole = swap_at path expected bytes f P same changed (is_same (map.get f path) (Some expected)) refl

-- ---- the move

-- the past with the move
abbrev pub moved_on : Move → Past → Past
moved_on m p = record p { claims = with_claim m.moving.name (moved_past m.text (p.claims m.moving.name)) p.claims }

-- what the laws say that a move rests on
pub record Laws : Type 0 where
  pub steps : ConsumerSteps
  pub again : ReadsAgain
  pub next : ReadsNext

new-reads : Laws → (m : Moving) → IsMoving m → said_in (Some (moved_text m)) ≡ Some (known_at (suc m.next))
new-reads laws m is =
    let some : 1 ≤ m.next = laws.next m.expected (known_consumer m.next) is.reads in
    let bound = is.within in
    ap said_of (laws.again (known_consumer (m.next + 1)) (omega (arith, some)) (omega (arith, bound)))
    ∙ ap (λ (n : ℕ). Some (known_at n)) (omega arith)

pub move-past : Laws → (m : Move) (f after : Files) (p : Past) → IsMoving m.moving → IsPrinted m p.history → map.get f (its_path m.moving) ≡ Some m.moving.expected
    → Puts f (its_path m.moving) (Some (moved_text m.moving)) after → IsMovedPast m f p after (moved_on m p)
move-past laws m f after p is printed found puts = record {
  advances = claimed-step laws.steps m.me f after p m.moving.name (Some (moved_text m.moving))
      (with_claim m.moving.name (moved_past m.text (p.claims m.moving.name)) p.claims) printed.table is.plain
      (known_consumer (m.moving.next + 1), laws.again (known_consumer (m.moving.next + 1)) (omega (arith, some)) (omega (arith, bound))) puts
      (moves m.moving.name m.moving.next m.text (ap said_in found ∙ ap said_of is.reads) printed.within printed.frame
      (ap said_in puts.here ∙ new-reads laws m.moving is) (others-stay f after m.moving.name (Some (moved_text m.moving)) puts));
  found = found;
  puts = puts;
  past = refl;
}
  where
    some : 1 ≤ m.moving.next
    some = laws.next m.moving.expected (known_consumer m.moving.next) is.reads

    bound : m.moving.next ≤ 9007199254740991
    bound = is.within

kept-same : (m : Move) (f : Files) (p : Past) → MayMovePast m f p f p
kept-same m f p = inl (record { files = λ path. refl; past = refl })

-- whatever of its call is carried out
pub swap-changes : Laws → (m : Move) (f : Files) (p : Past) → IsMoving m.moving → IsPrinted m p.history → Changes (MayMovePast m) (swap_call m.moving) f p
swap-changes laws m f p is printed =
    swap_effects (its_path m.moving) m.moving.expected (moved_text m.moving) f (λ g. (later : Past) × MayMovePast m f p g later) (p, kept-same m f p)
    (λ found. (
      moved_on m p,
      inr (move-past laws m f (map.insert f (its_path m.moving) (moved_text m.moving)) p is printed found
          (Puts-insert f (its_path m.moving) (moved_text m.moving))),
    ))

-- and once it was answered that it was
pub swap-done : Laws → (m : Move) (f : Files) (p : Past) → IsMoving m.moving → IsPrinted m p.history
    → Answers (swap_call m.moving) (answers.Swapped swaps.Swapped) f → IsMovedPast m f p (carried (swap_call m.moving) f) (moved_on m p)
swap-done laws m f p is printed told =
    move-past laws m f (carried (swap_call m.moving) f) p is printed told
    (Answers-Changed (swap_call m.moving) (answers.Swapped swaps.Swapped) f told)

-- ---- what it knows, and what it changes

-- the call of a phase that holds what is the consumer's
its-call : (m : Moving) (path expected bytes : List ℕ) → IsOf m (phases.Swap path expected bytes) → calls.Swap path (Some expected) bytes ≡ swap_call m
its-call m path expected bytes (at, old, new) = λ i. calls.Swap (at i) (Some (old i)) (new i)

changes_at : Laws → (m : Move) (phase : MovePhase) (f : Files) (p : Past) → Stands f p → Knows m phase f p
    → IfSome (next_call phase) (λ call. Changes (MayMovePast m) call f p)
changes_at laws m (phases.Swap path expected bytes) f p stands (is, its, printed) =
    subst (λ (call : Call). Changes (MayMovePast m) call f p) (sym (its-call m.moving path expected bytes its)) (swap-changes laws m f p is printed)
changes_at laws m (phases.Moved bytes) f p stands known = tt
changes_at laws m phases.Over f p stands known = tt

went_at : Laws → (m : Move) (phase new : MovePhase) (answer : Answer) (f : Files) (p : Past) → Goes phase answer new → Stands f p → Knows m phase f p
    → IfSome (next_call phase) (λ call. Answers call answer f → Leads (MayMovePast m) (Knows m new) f p (carried call f))
went_at laws m (phases.Swap path expected bytes) new (answers.Swapped swaps.Swapped) f p goes stands (is, its, printed) =
    subst (λ (phase : MovePhase). Answers (calls.Swap path (Some expected) bytes) (answers.Swapped swaps.Swapped) f
    → Leads (MayMovePast m) (Knows m phase) f p (carried (calls.Swap path (Some expected) bytes) f)) (sym goes)
    (subst (λ (call : Call). Answers call (answers.Swapped swaps.Swapped) f → Leads (MayMovePast m) (Knows m (phases.Moved bytes)) f p (carried call f))
    (sym (its-call m.moving path expected bytes its))
    (λ told. (moved_on m p, inr (swap-done laws m f p is printed told), (is, its.2, printed))))
went_at laws m phase new answer f p goes stands known = absurd goes

over_at : (m : Move) (phase : MovePhase) (f after : Files) (p later : Past) → Knows m phase f p → Knows m phases.Over after later
over_at m phase f after p later known = (known.0, tt, tt)

pub sound : Laws → Sound next_call Goes (Refuses Shown phases.Over) (Stops phases.Over) StandsBeside MovesBeside KnowsBeside
sound laws = sound_beside Stands MayMovePast Knows next_call Goes Shown phases.Over (changes_at laws) (went_at laws) over_at

-- ---- its call

so_far : (m : Moving) (phase : MovePhase) (own : List Event) → IsSome (next_call phase) → Did m phase own → DidSoFar m phase own
so_far m (phases.Swap path expected bytes) own called did = did
so_far m (phases.Moved bytes) own called did = did
so_far m phases.Over own called did = absurd (let clash = called in cc)

failed_in : (m : Moving) (phase : MovePhase) (call : Call) (own : List Event) → DidSoFar m phase own → next_call phase ≡ Some call
    → Shows m (refusals.StoreFault (path_of call)) (own ++ faulted call ∷ [])
failed_in m (phases.Swap path expected bytes) call own (its, did) next =
    let same : calls.Swap path (Some expected) bytes ≡ call = cc in
    let is : call ≡ swap_call m = sym same ∙ its-call m path expected bytes its in
    subst (λ (call : Call). Shows m (refusals.StoreFault (path_of call)) (own ++ faulted call ∷ [])) (sym is)
    (refl, ap (λ (own : List Event). own ++ faulted (swap_call m) ∷ []) did)
failed_in m (phases.Moved bytes) call own did next = absurd (let clash = next in cc)
failed_in m phases.Over call own did next = absurd did

fails : (m : Moving) (path : List ℕ) (own : List Event) → IsFailed next_call (DidSoFar m) path own → Shows m (refusals.StoreFault path) own
fails m path own failed =
    let shown = failed_in m failed.phase failed.call failed.earlier failed.did_so failed.next in
    let here = subst (λ (own : List Event). Shows m (refusals.StoreFault (path_of failed.call)) own) (sym failed.is) shown in
    subst (λ (path : List ℕ). Shows m (refusals.StoreFault path) own) (sym failed.is_path) here

ended_in : (m : Moving) (phase : MovePhase) (own : List Event) → IsSome (next_call phase) → DidSoFar m phase own → Shows m refusals.Memory own
ended_in m (phases.Swap path expected bytes) own called did = did.1
ended_in m (phases.Moved bytes) own called did = absurd (let clash = called in cc)
ended_in m phases.Over own called did = absurd did

memory : (m : Moving) (own : List Event) → MayEnd next_call (DidSoFar m) MayTakeMemory own → Shows m refusals.Memory own
memory m own (before_call phase called did) = ended_in m phase own called did
memory m own (after_answer phase call answer earlier did next may takes is) = absurd takes

went_on : (m : Moving) (phase : MovePhase) (answer : Answer) (new : MovePhase) (own : List Event) → Goes phase answer new → Did m phase own
    → IfSome (next_call phase) (λ call. MayAnswer call answer → Did m new (own ++ answered call answer ∷ []))
went_on m (phases.Swap path expected bytes) (answers.Swapped swaps.Swapped) new own goes (its, did) = λ may.
    let event : Call → Event = λ call. answered call (answers.Swapped swaps.Swapped) in
    subst (λ (phase : MovePhase). Did m phase (own ++ event (calls.Swap path (Some expected) bytes) ∷ [])) (sym goes) (
      its.2,
      ap (λ (own : List Event). own ++ event (calls.Swap path (Some expected) bytes) ∷ []) did
          ∙ ap (λ (call : Call). event call ∷ []) (its-call m path expected bytes its),
    )
went_on m phase answer new own goes did = absurd goes

refused_on : (m : Moving) (phase : MovePhase) (answer : Answer) (refusal : Refusal) (own : List Event) → Shown phase answer refusal → Did m phase own
    → IfSome (next_call phase) (λ call. MayAnswer call answer → Shows m refusal (own ++ answered call answer ∷ []))
refused_on m (phases.Swap path expected bytes) (answers.Swapped (swaps.Differs found)) refusal own is (its, did) = λ may.
    let event : Call → Event = λ call. answered call (answers.Swapped (swaps.Differs found)) in
    subst (λ (refusal : Refusal). Shows m refusal (own ++ event (calls.Swap path (Some expected) bytes) ∷ [])) (sym is)
    (ap (λ (own : List Event). own ++ event (calls.Swap path (Some expected) bytes) ∷ []) did
    ∙ ap (λ (call : Call). event call ∷ []) (its-call m path expected bytes its))
refused_on m phase answer refusal own shown did = absurd shown

pub recounts : (m : Moving) → Recounts next_call Goes (Refuses Shown phases.Over) (Stops phases.Over) (Did m) (Shows m)
recounts m = recounts_of next_call Goes Shown phases.Over (DidSoFar m) (Did m) MayTakeMemory (Shows m) (so_far m) (λ refusal own shows. (refusal, shows))
    (fails m) (memory m) (went_on m) (refused_on m)

-- ---- how far it has come

pub goes : (phase : MovePhase) (answer : Answer) (new : MovePhase) → Goes phase answer new → (calls_left new < calls_left phase) × IsDone new × Unit {0}
goes (phases.Swap path expected bytes) (answers.Swapped swaps.Swapped) new on =
    subst (λ (new : MovePhase). (calls_left new < 1) × IsDone new × Unit {0}) (sym on) (omega arith, tt, tt)
goes phase answer new on = absurd on

pub has_call : (phase : MovePhase) → 0 < calls_left phase → IsSome (next_call phase)
has_call (phases.Swap path expected bytes) left = refl
has_call (phases.Moved bytes) left = absurd (let none : 0 < 0 = left in omega (arith, none))
has_call phases.Over left = absurd (let none : 0 < 0 = left in omega (arith, none))

-- ---- what others leave of what it knows

-- what the law of changes says
abbrev pub ChangesStay : Type 0
ChangesStay = (s : TableSchema) (entries more : List Entry) (n : ℕ) → HaveBases 1 entries → n ≤ length entries
    → change s (entries ++ more) n ≡ change s entries n

abbrev frame_with : ℕ → List HistoryRow → List ℕ
frame_with n rows = frame_head n ++ flat_map (λ (r : HistoryRow). line (row_text r.0 r.1)) rows

-- a frame stays where more entries come
frame-still : ChangesStay → (f : Files) (s : TableSchema) (h later : History) (n : ℕ) → IsTableOf s h → Folder f h → GoesOn h later → n ≤ count_of h
    → frame_in h n ≡ frame_in later n
frame-still law f s no_table later n is folder goes within = absurd is
frame-still law f s (table t entries) no_table n is folder goes within = absurd goes
frame-still law f s (table t entries) (table u grown) n is folder (same, more, longer) within =
    let led : frame u grown n ≡ frame t (entries ++ more) n = λ i. frame (same i) (longer i) n in
    sym (ap (frame_with n) (law t entries more n folder.history.bases within)) ∙ sym led

count-grows : (h later : History) → GoesOn h later → count_of h ≤ count_of later
count-grows no_table later goes = omega arith
count-grows (table s entries) no_table goes = absurd goes
count-grows (table s entries) (table t later) (same, more, is) =
    let size = ap length is in let both = length-append entries more in omega (arith, size, both)

pub printed-still : ChangesStay → (m : Move) (f : Files) (h later : History) → Folder f h → GoesOn h later → IsPrinted m h → IsPrinted m later
printed-still law m f h later folder more printed =
    let low = printed.within in let grown = count-grows h later more in record {
      table = plain-table h later more printed.table;
      within = omega (arith, low, grown);
      frame = printed.frame ∙ frame-still law f printed.table.0 h later m.moving.next printed.table.1 folder more printed.within;
    }

known_at-still : ChangesStay → (m : Move) (phase : MovePhase) (f after : Files) (p q : Past) → Folder f p.history → GoesOn p.history q.history
    → KnowsAt m phase f p → KnowsAt m phase after q
known_at-still law m (phases.Swap path expected bytes) f after p q folder more known = printed-still law m f p.history q.history folder more known
known_at-still law m (phases.Moved bytes) f after p q folder more known = printed-still law m f p.history q.history folder more known
known_at-still law m phases.Over f after p q folder more known = tt

pub knows_still : ChangesStay → (m : Move) (phase : MovePhase) (other : Actor) (f after : Files) (p q : Past) → Stands f p → Advances other f p after q
    → Knows m phase f p → Knows m phase after q
knows_still law m phase other f after p q stands advances known = (
  known.0,
  known.1,
  known_at-still law m phase f after p q stands.folder (goes_on other f after p.history q.history advances.change) known.2,
)

-- ---- images

pub advances-of : (m : Move) (f after : Files) (p later : Past) → MayMovePast m f p after later → Advances m.me f p after later
advances-of m f after p later (inl kept) = kept_nothing m.me f after p later kept
advances-of m f after p later (inr past) = past.advances

pub images : Laws → PastKept → (m : Move) (phase : MovePhase) (call : Call) (f image : Files) (p : Past) → next_call phase ≡ Some call → Stands f p
    → Knows m phase f p → MayLeave call f image → (later : Past) × MayMovePast m f p image later × Stands image later
images laws kept m phase call f image p is stands known left =
    let changes : Changes (MayMovePast m) call f p = rw is at (changes_at laws m phase f p stands known) in
    let led = image_changed (MayMovePast m) call f p changes image left in
    (led.0, led.1, kept m.me f image p led.0 stands (advances-of m f image p led.0 led.1))
