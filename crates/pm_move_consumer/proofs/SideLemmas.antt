-- A machine of which something stands beside the pasts, since its phases don't hold it.
use Rattle.std.proofs.Common.{◌≡◌, inl, inr, Option, IfSome, refl, sym, subst}
use Rattle.std.proofs.lemmas.Option.{IfSome_then}
use Rattle.pm_values.specs.declared.refusal.Refusal.{Refusal}
use Rattle.pm_store.specs.declared.answer.Answer.{Answer}
use Rattle.pm_store.specs.declared.call.Call.{Call}
use Rattle.pm_store.specs.declared.call.Effect.TheVariants as effects
use Rattle.pm_store.specs.declared.call.Op.{Op}
use Rattle.pm_store.specs.Answers.{Answers}
use Rattle.pm_store.specs.Files.{Files, after_effect, carried, files_after}
use Rattle.pm_store.specs.Store.{StoreView}
use Rattle.pm_store.proofs.StepLaws.{Steps-weaker}
use Rattle.pm_machine.specs.Moves.{Changes, Keeps, Leads, Moves, Sound}
use Rattle.pm_machine.specs.Running.{Refuses, Stops}

-- B stands beside what the files stand for.
module _ {B H : Type 0} (Folder : Files → H → Type 0) (Change : B → Files → H → Files → H → Type 0) where
  abbrev pub FolderBeside : Files → B × H → Type 0
  FolderBeside f x = Folder f x.1

  abbrev pub ChangeBeside : Files → B × H → Files → B × H → Type 0
  ChangeBeside f x after later = (later.0 ≡ x.0) × Change x.0 f x.1 after later.1

  -- ---- what is known of both, by the phase

  module _ {M : Type 0} (Knows : B → M → Files → H → Type 0) where
    abbrev pub KnowsWith : M → Files → B × H → Type 0
    KnowsWith m f x = Knows x.0 m f x.1

    leads_with : (b : B) (new : M) (f after : Files) (h : H) → Leads (Change b) (Knows b new) f h after
        → Leads ChangeBeside (KnowsWith new) f (b, h) after
    leads_with b new f after h leads = ((b, leads.0), (refl, leads.1), leads.2)

    -- the machine is sound beside all that may stand there
    pub sound_beside : (call_of : M → Option Call) (Goes : M → Answer → M → Type 0) (Shown : M → Answer → Refusal → Type 0) (end : M)
        → ((b : B) (m : M) (f : Files) (h : H) → Folder f h → Knows b m f h → IfSome (call_of m) (λ call. Changes (Change b) call f h))
        → ((b : B) (m new : M) (answer : Answer) (f : Files) (h : H) → Goes m answer new → Folder f h → Knows b m f h
        → IfSome (call_of m) (λ call. Answers call answer f → Leads (Change b) (Knows b new) f h (carried call f)))
        → ((b : B) (m : M) (f after : Files) (h later : H) → Knows b m f h → Knows b end after later)
        → Sound call_of Goes (Refuses Shown end) (Stops end) FolderBeside (λ m. ChangeBeside) KnowsWith
    sound_beside call_of Goes Shown end changes went over = record {
      changes = λ m f x stands known. IfSome_then (call_of m) (changes x.0 m f x.1 stands known)
          (λ call all effect. ((x.0, (all effect).0), (refl, (all effect).1)));
      went = λ m new answer f x goes stands known. IfSome_then (call_of m) (went x.0 m new answer f x.1 goes stands known)
          (λ call leads told. leads_with x.0 new f (carried call f) x.1 (leads told));
      refused = λ m new answer refusal f x refuses stands known. IfSome_then (call_of m) (changes x.0 m f x.1 stands known)
          (λ call all told. ended m new f (carried call f) x refuses.1 known (all effects.Whole));
      failed = λ m new effect f x stops stands known. IfSome_then (call_of m) (changes x.0 m f x.1 stands known)
          (λ call all may. ended m new f (after_effect call effect f) x stops known (all effect));
      stopped = λ m new f x called stops stands known. subst (λ (m : M). KnowsWith m f x) (sym stops) (over x.0 m f f x.1 x.1 known);
    }
      where
        ended : (m new : M) (f after : Files) (x : B × H) → new ≡ end → KnowsWith m f x → (later : H) × Change x.0 f x.1 after later
            → Leads ChangeBeside (KnowsWith new) f x after
        ended m new f after x is known led =
            ((x.0, led.0), (refl, led.1), subst (λ (m : M). Knows x.0 m after led.0) (sym is) (over x.0 m f after x.1 led.0 known))

    keeps_of : (b : B) (old new : M) (op : Op) (f : Files) → Keeps FolderBeside ChangeBeside (KnowsWith old) (KnowsWith new) op f
        → Keeps Folder (Change b) (Knows b old) (Knows b new) op f
    keeps_of b old new op f keeps h stands known =
        let both = keeps (b, h) stands known in
        let leads = both.1 in (
          (λ effect. ((both.0 effect).0.1, (both.0 effect).1.1)),
          (leads.0.1, leads.1.1, subst (λ (c : B). Knows c new (after_effect op.call op.effect f) leads.0.1) leads.1.0 leads.2),
        )

    -- what a step does whatever stands beside, it does to what the files stand for
    pub moves_of : (b : B) (old new : M) (before after : StoreView)
        → Moves FolderBeside ChangeBeside (KnowsWith old) (KnowsWith new) before after
        → Moves Folder (Change b) (Knows b old) (Knows b new) before after
    moves_of b old new before after (inl (op, own, steps)) = inl (
      op,
      own,
      Steps-weaker op
          (λ ops. Keeps FolderBeside ChangeBeside (KnowsWith old) (KnowsWith new) op (files_after ops))
          (λ ops. Keeps Folder (Change b) (Knows b old) (Knows b new) op (files_after ops)) before after
          (λ ops keeps. keeps_of b old new op (files_after ops) keeps) steps,
    )
    moves_of b old new before after (inr (meanwhile, same)) = inr (meanwhile, λ f h stands known. same f (b, h) stands known)
