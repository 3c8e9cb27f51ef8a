-- What the calls of a following with a consumer bring, one after another, whatever others do: each is a step of its actor.
use Rattle.std.proofs.Common.{◌≡◌, ◌≢◌, inl, inr, ℕ, suc, ◌+◌, List, [], ◌∷◌, ◌++◌, slice_get, Bool, true, false, Option, Some, Result, Ok, Err, refl, sym, ap, subst, ◌∙◌, arith}
use Rattle.std.specs.Str.{bytes_eq}
use Rattle.std.proofs.lemmas.Slice.Eq.{bytes_eq-Decides}
use Rattle.pm_values.specs.declared.refusal.Refusal.{Refusal}
use Rattle.pm_values.specs.declared.refusal.Refusal.TheVariants as refusals
use Rattle.pm_store.specs.declared.call.Op.{Op}
use Rattle.pm_store.specs.Files.{Files, files_after}
use Rattle.pm_store.specs.Store.{StoreView}
use Rattle.pm_store.proofs.StepLaws.{Came-weaker}
use Rattle.pm_machine.specs.Moves.{IsKept}
use Rattle.pm_model_consumers.specs.Claims.{Claim, Said, known_at, with_claim}
use Rattle.pm_model_history.specs.History.{History}
use Rattle.pm_model_folder.specs.Changes.{Actor}
use Rattle.pm_model_folder.specs.Consumers.{said_at, said_in, said_of}
use Rattle.pm_model_folder.specs.Ledger.{Past, Stands}
use Rattle.pm_model_folder.specs.Paths.{consumer_path}
use Rattle.pm_model_folder.proofs.Facts.{goes_on}
use Rattle.pm_beside.specs.Bringing.{BringsBeside, OthersApart, Through}
use Rattle.pm_beside.proofs.BringLemmas.{brings-carries, brings-none, brings-then, brings-weaker, through-weaker}
use Rattle.pm_read_schema.specs.Beside.{Learns, OthersAdvance}
use Rattle.pm_register.specs.Meaning.{Registers}
use Rattle.pm_register.specs.Registrar.{registering}
use Rattle.pm_move_consumer.specs.Mover.{IsMoving}
use Rattle.pm_move_consumer.specs.MoverAllCalls.{ItChanges, MovesOn}
use Rattle.pm_move_consumer.specs.MoverMeaning.{IsMovedPast, IsPrinted, move_by}
use Rattle.pm_command_follow.proofs.LearnLemmas.{IsKeptOn}
use Rattle.pm_command_follow.specs.Follow.{IsToldFrom}
use Rattle.pm_command_consume.specs.Beside.{IsToldTo, MayStep, Steps, StepsOf, StepsStill}
use Rattle.pm_command_consume.specs.Consume.{moving_from}
use Rattle.pm_command_consume.specs.declared.consuming.Consuming.{Consuming}
use Rattle.pm_command_consume.specs.declared.place.Place.{Place}
use Rattle.pm_command_consume.proofs.StageLemmas.{said_next}

-- ---- one after another

pub bring_then : (me : Actor) (Own : Files → Past → Files → Past → Type 0) (knew had knows : Files → Past → Type 0) (first middle after : StoreView)
    → BringsBeside me Own knew had first middle → BringsBeside me Own had knows middle after → BringsBeside me Own knew knows first after
bring_then me Own = brings-then Stands Own (OthersApart me)

pub bring_none : (me : Actor) (Own : Files → Past → Files → Past → Type 0) (knows : Files → Past → Type 0) (store : StoreView) → BringsBeside me Own knows knows store store
bring_none me Own = brings-none Stands Own (OthersApart me)

-- own changes are of a wider kind; less was known before, and less is known after
pub bring_weaker : (me : Actor) (Own More : Files → Past → Files → Past → Type 0) (knew had has knows : Files → Past → Type 0) (before after : StoreView)
    → ((f after : Files) (p q : Past) → Own f p after q → More f p after q) → ((f : Files) (p : Past) → knew f p → had f p)
    → ((f : Files) (p : Past) → Stands f p → has f p → knows f p) → BringsBeside me Own had has before after → BringsBeside me More knew knows before after
bring_weaker me Own More knew had has knows before after own first last =
    brings-weaker Stands Own More (OthersApart me) (OthersApart me) knew had has knows before after own (λ f changed p q apart. apart) first last

pub bring_known : (me : Actor) (Own : Files → Past → Files → Past → Type 0) (knew had has knows : Files → Past → Type 0) (before after : StoreView)
    → ((f : Files) (p : Past) → knew f p → had f p) → ((f : Files) (p : Past) → Stands f p → has f p → knows f p)
    → BringsBeside me Own had has before after → BringsBeside me Own knew knows before after
bring_known me Own knew had has knows before after = bring_weaker me Own Own knew had has knows before after (λ f changed p q change. change)

-- ---- steps

module _ (me : Actor) (c : Consuming) where
  -- what is said of the texts that were printed is said of more
  pub step_weaker : (P Q : ℕ → List ℕ → Type 0) → ((next : ℕ) (text : List ℕ) → P next text → Q next text) → (f after : Files) (p q : Past)
      → MayStep me c P f p after q → MayStep me c Q f p after q
  step_weaker P Q leads f after p q (inl same) = inl same
  step_weaker P Q leads f after p q (inr step) = inr (record {
    advances = step.advances;
    history = step.history;
    files = step.files;
    claims = step.claims;
    moves = λ next was now. let past = step.moves next was now in (past.0, leads next past.0 past.1, past.2);
  })

  -- what calls of a reader make known
  pub learned : (Printed : ℕ → List ℕ → Type 0) (knew knows : Files → Past → Type 0) (before after : StoreView) → Learns knew knows before after
      → BringsBeside me (MayStep me c Printed) knew knows before after
  learned Printed knew knows before after learns =
      brings-weaker Stands (λ f p changed q. q ≡ p) (MayStep me c Printed) OthersAdvance (OthersApart me) knew knew knows knows before after
      (λ f changed p q same. inl same) (λ f changed p q apart. (apart.0, apart.2)) (λ f p known. known) (λ f p stands known. known)
      (brings-carries Stands OthersAdvance knew knows before after learns)

  pub steps_still : (start : ℕ) (moved : List (List ℕ)) (f after : Files) (p q : Past) → StepsStill me c f p after q → Steps me c start moved f p after q
  steps_still start moved =
      step_weaker (λ next shown. ⊥) (λ next shown. (n : ℕ) × (next ≡ start + n) × (slice_get moved n ≡ Some shown)) (λ next shown none. absurd none)

  -- ---- what is known of a history that goes on

  module _ (Printed : ℕ → List ℕ → Type 0) (K : History → Type 0) (keeps : IsKeptOn K) where
    own_keeps : (f after : Files) (p q : Past) → MayStep me c Printed f p after q → K p.history → K q.history
    own_keeps f after p q (inl same) known = subst (λ (p : Past). K p.history) (sym same) known
    own_keeps f after p q (inr step) known = subst K (sym step.history) known

    through_with : (ends : Files → Past → Type 0) (more ops : List Op) (p : Past) → K p.history → Through (MayStep me c Printed) (OthersApart me) ends more ops p
        → Through (MayStep me c Printed) (OthersApart me) (λ f q. K q.history × ends f q) more ops p
    through_with ends [] ops p known through = (known, through)
    through_with ends (op ∷ more) ops p known through = (
      (λ is.
          let (later, change, rest) = through.0 is in (
            later,
            change,
            through_with ends more (ops ++ op ∷ []) later (own_keeps (files_after ops) (files_after (ops ++ op ∷ [])) p later change known) rest,
          )),
      (λ is later change.
          through_with ends more (ops ++ op ∷ []) later
          (keeps p.history later.history (goes_on change.0 (files_after ops) (files_after (ops ++ op ∷ [])) p.history later.history change.2.change) known)
          (through.1 is later change)),
    )

    -- it is known with what the calls bring
    pub bring_with : (knew knows : Files → Past → Type 0) (before after : StoreView) → BringsBeside me (MayStep me c Printed) knew knows before after
        → BringsBeside me (MayStep me c Printed) (λ f p. K p.history × knew f p) (λ f p. K p.history × knows f p) before after
    bring_with knew knows before after = Came-weaker
        (λ ops more. (p : Past) → Stands (files_after ops) p → knew (files_after ops) p
        → Through (MayStep me c Printed) (OthersApart me) (λ f q. Stands f q × knows f q) more ops p)
        (λ ops more. (p : Past) → Stands (files_after ops) p → K p.history × knew (files_after ops) p
        → Through (MayStep me c Printed) (OthersApart me) (λ f q. Stands f q × (K q.history × knows f q)) more ops p)
        before.ops after.ops (λ ops more here p stands known.
        through-weaker (MayStep me c Printed) (MayStep me c Printed) (OthersApart me) (OthersApart me)
        (λ f q. K q.history × (Stands f q × knows f q)) (λ f q. Stands f q × (K q.history × knows f q)) (λ f changed p q change. change)
        (λ f changed p q change. change) (λ f q both. (both.1.0, (both.0, both.1.1))) more ops p
        (through_with (λ f q. Stands f q × knows f q) more ops p known.0 (here p stands known.1)))

  -- ---- a registering

  -- two numbers that the same file says are one
  said_same : (n k : ℕ) (x y : Option Said) → x ≡ Some (known_at n) → y ≡ Some (known_at k) → x ≡ y → n ≡ k
  said_same n k x y is was same = ap said_next (sym is ∙ same ∙ was)

  suc_not : (n : ℕ) → suc n ≢ n
  suc_not n is = omega (arith, is)

  -- each of its changes is such a step, and none a move
  pub registers_step : (found : Option (List ℕ)) (start : ℕ) (f after : Files) (p q : Past) → Registers me (registering c.name found start) f p after q
      → StepsStill me c f p after q
  registers_step found start f after p q step = inr (record {
    advances = step.advances;
    history = step.history;
    files = step.files;
    claims = step.claims;
    moves = λ next was now.
        absurd (suc_not next (said_same (suc next) next (said_at after c.name) (said_at f c.name) now was
        (ap said_in (step.keeps next was (consumer_path c.name)))));
  })

  -- ---- a move

  claim_other : (name other : List ℕ) (claim : Claim) (claims : List ℕ → Claim) → other ≢ name → with_claim name claim claims other ≡ claims other
  claim_other name other claim claims apart = at (bytes_eq other name) refl
    where
      at : (t : Bool) → bytes_eq other name ≡ t → with_claim name claim claims other ≡ claims other
      at true same = absurd (apart ((bytes_eq-Decides other name).0 same))
      at false differs = rw differs refl

  module _ (place : Place) (frame : List ℕ) (is : IsMoving (moving_from c place)) where
    moved_step : (f after : Files) (p q : Past) → IsMovedPast (move_by me (moving_from c place) frame) f p after q → StepsOf me c place.next frame f p after q
    moved_step f after p q moved = inr (record {
      advances = moved.advances;
      history = ap (λ (p : Past). p.history) moved.past;
      files = moved.puts.others;
      claims = λ other apart. ap (λ (p : Past). p.claims other) moved.past ∙ claim_other c.name other _ p.claims apart;
      moves = λ next was now. (
        frame,
        (said_same next place.next (said_at f c.name) (said_at f c.name) was (ap said_in moved.found ∙ ap said_of is.reads) refl, refl),
        ap (λ (p : Past). p.claims) moved.past,
      );
    })

    kept_step : (f after : Files) (p q : Past) → IsKept f p after q → StepsOf me c place.next frame f p after q
    kept_step f after p q kept = inl kept.past

    -- whatever the move is answered
    changes_step : (result : Result (List ℕ) Refusal) (f after : Files) (p q : Past) → ItChanges (move_by me (moving_from c place) frame) result f p after q
        → StepsOf me c place.next frame f p after q
    changes_step (Ok bytes) f after p q moved = moved_step f after p q moved
    changes_step (Err (refusals.StoreFault path)) f after p q (inl kept) = kept_step f after p q kept
    changes_step (Err (refusals.StoreFault path)) f after p q (inr moved) = moved_step f after p q moved
    changes_step (Err other) f after p q kept = kept_step f after p q kept

    -- what a move brings to each past in which the frame was printed
    pub move_brings : (result : Result (List ℕ) Refusal) (before after : StoreView) → MovesOn (move_by me (moving_from c place) frame) result before after
        → BringsBeside me (StepsOf me c place.next frame) (λ f p. IsPrinted (move_by me (moving_from c place) frame) p.history)
        (λ f p. IsPrinted (move_by me (moving_from c place) frame) p.history) before after
    move_brings result before after moves =
        brings-weaker Stands (ItChanges (move_by me (moving_from c place) frame) result) (StepsOf me c place.next frame) OthersAdvance (OthersApart me)
        (λ f p. IsPrinted (move_by me (moving_from c place) frame) p.history) (λ f p. IsPrinted (move_by me (moving_from c place) frame) p.history)
        (λ f p. IsPrinted (move_by me (moving_from c place) frame) p.history) (λ f p. IsPrinted (move_by me (moving_from c place) frame) p.history) before after
        (λ f changed p q change. changes_step result f changed p q change) (λ f changed p q apart. (apart.0, apart.2)) (λ f p known. known)
        (λ f p stands known. known) moves

-- ---- a refusal

-- what `follow` would tell
told_to : (c : Consuming) (e : Refusal) (f : Files) (p : Past) → IsToldFrom c.from e f p → IsToldTo c e f p
told_to c (refusals.ConsumerMoved found) f p told = tt
told_to c (refusals.BelowFloor next floor) f p told = tt
told_to c e f p told = told

pub why_brings : (me : Actor) (c : Consuming) (Printed : ℕ → List ℕ → Type 0) (knew : Files → Past → Type 0) (e : Refusal) (before after : StoreView)
    → Learns knew (IsToldFrom c.from e) before after → BringsBeside me (MayStep me c Printed) knew (IsToldTo c e) before after
why_brings me c Printed knew e before after why =
    bring_known me (MayStep me c Printed) knew knew (IsToldFrom c.from e) (IsToldTo c e) before after (λ f q known. known) (λ f q stands told. told_to c e f q told)
    (learned me c Printed knew (IsToldFrom c.from e) before after why)
