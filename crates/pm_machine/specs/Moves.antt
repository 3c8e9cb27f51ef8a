-- What a step means for the files and for what they stand for. H are the histories, Folder says which of them files
-- stand for, and Change which changes of both a machine may make: the kinds of change, which depend on who makes them.
use Rattle.std.specs.Prelude.{◌≡◌, ◌⊎◌, ℕ, List, Option, IsSome, IfSome, IsSomeAnd, true}
use Rattle.std.specs.FinMap as map
use Rattle.pm_values.specs.declared.refusal.Refusal.{Refusal}
use Rattle.pm_values.specs.declared.refusal.Refusal.TheVariants as refusals
use Rattle.pm_store.specs.declared.answer.Answer.{Answer}
use Rattle.pm_store.specs.declared.call.Call.{Call}
use Rattle.pm_store.specs.declared.call.Effect.{Effect}
use Rattle.pm_store.specs.declared.call.Op.{Op}
use Rattle.pm_store.specs.Answers.{Answers, MayHave}
use Rattle.pm_store.specs.Files.{Files, after_effect, after_op, carried, files_after}
use Rattle.pm_store.specs.Store.{Meanwhile, Steps, StoreView}

-- no path has another content, and what the files stand for stays
pub record IsKept {H : Type 0} (f : Files) (h : H) (after : Files) (later : H) : Type 0 where
  pub files : (path : List ℕ) → map.get after path ≡ map.get f path
  pub past : later ≡ h

-- whatever of the call is carried out, it is a change of some kind
abbrev pub Changes : {H : Type 0} → (Files → H → Files → H → Type 0) → Call → Files → H → Type 0
Changes {H} Change call f h = (effect : Effect) → (later : H) × Change f h (after_effect call effect f) later

-- the files become these by a change of some kind, after which this is known
abbrev pub Leads : {H : Type 0} → (Files → H → Files → H → Type 0) → (Files → H → Type 0) → Files → H → Files → Type 0
Leads {H} Change knows f h after = (later : H) × Change f h after later × knows after later

-- Whatever history the files stand for and was known with them, each effect of the operation's call is a change of some
-- kind, and the effect that it had leads to what is known now.
abbrev pub Keeps : {H : Type 0} → (Files → H → Type 0) → (Files → H → Files → H → Type 0) → (Files → H → Type 0) →
    (Files → H → Type 0) → Op → Files → Type 0
Keeps {H} Folder Change knew knows op f =
    (h : H) → Folder f h → knew f h → Changes Change op.call f h × Leads Change knows f h (after_op op f)

-- One operation came by this handle, its own, and keeps that on the files as they were up to it, whatever others did.
-- Or none came, and what was known of any files is known of them now.
abbrev pub Moves : {H : Type 0} → (Files → H → Type 0) → (Files → H → Files → H → Type 0) → (Files → H → Type 0) →
    (Files → H → Type 0) → StoreView → StoreView → Type 0
Moves {H} Folder Change knew knows before after =
    ((op : Op) × (op.is_own ≡ true)
    × Steps op (λ ops. Keeps Folder Change knew knows op (files_after ops)) before after)
    ⊎ (Meanwhile before after × ((f : Files) (h : H) → Folder f h → knew f h → knows f h))

-- What a machine proves once: that each effect of its next call is a change of some kind, on any files of which what
-- it knows is true, and that what it knows next is true too, be it after an answer or a refusal, after a fault in the
-- call, or where the call wasn't made.
pub record Sound {M H : Type 0} (call_of : M → Option Call) (goes : M → Answer → M → Type 0)
    (refuses : M → Answer → Refusal → M → Type 0) (stops : M → M → Type 0) (Folder : Files → H → Type 0)
    (Change : M → Files → H → Files → H → Type 0) (knows : M → Files → H → Type 0) : Type 0 where
  pub changes : (m : M) (f : Files) (h : H) → Folder f h → knows m f h →
      IfSome (call_of m) (λ call. Changes (Change m) call f h)
  pub went : (m new : M) (answer : Answer) (f : Files) (h : H) → goes m answer new → Folder f h → knows m f h →
      IfSome (call_of m) (λ call. Answers call answer f → Leads (Change m) (knows new) f h (carried call f))
  pub refused : (m new : M) (answer : Answer) (refusal : Refusal) (f : Files) (h : H) → refuses m answer refusal new →
      Folder f h → knows m f h →
      IfSome (call_of m) (λ call. Answers call answer f → Leads (Change m) (knows new) f h (carried call f))
  pub failed : (m new : M) (effect : Effect) (f : Files) (h : H) → stops m new → Folder f h → knows m f h →
      IfSome (call_of m) (λ call. MayHave call effect f → Leads (Change m) (knows new) f h (after_effect call effect f))
  pub stopped : (m new : M) (f : Files) (h : H) → IsSome (call_of m) → stops m new → Folder f h → knows m f h →
      knows new f h

-- What a machine proves once of its refusals: that what it tells of one is true of any files of which what it knows
-- was, after the answer that shows it. Of memory that ran out, and of a fault of the store, it tells what is always
-- true.
pub record Truthful {M H : Type 0} (call_of : M → Option Call) (holds : M → Type 0)
    (refuses : M → Answer → Refusal → M → Type 0) (Folder : Files → H → Type 0)
    (Change : M → Files → H → Files → H → Type 0) (knows : M → Files → H → Type 0)
    (tells : Refusal → Files → H → Type 0) : Type 0 where
  pub answered : (m new : M) (answer : Answer) (refusal : Refusal) (f : Files) (h later : H) → holds m →
      refuses m answer refusal new → Folder f h → knows m f h →
      IfSome (call_of m) (λ call. Answers call answer f → Change m f h (carried call f) later →
      tells refusal (carried call f) later)
  pub memory : (f : Files) (h : H) → tells refusals.Memory f h
  pub fault : (path : List ℕ) (f : Files) (h : H) → tells (refusals.StoreFault path) f h

-- through each change of a kind the files stand for a history, and of both this stays true
abbrev pub Lasts : {H : Type 0} → (Files → H → Type 0) → (Files → H → Files → H → Type 0) → (Files → H → Type 0) →
    Type 0
Lasts {H} Folder Change P =
    (f after : Files) (h later : H) → Folder f h → P f h → Change f h after later → Folder after later × P after later

-- the store's operations are known, and leave files that stand for a history; of both this is true
abbrev pub Stands : {H : Type 0} → (Files → H → Type 0) → (Files → H → Type 0) → StoreView → Type 0
Stands {H} Folder P store = IsSomeAnd store.ops (λ ops. (h : H) × Folder (files_after ops) h × P (files_after ops) h)
