-- What all calls of a registrar do to a table that stands at the first one, where nobody else acts.
use Rattle.std.proofs.Common.{◌≡◌, ◌≢◌, ◌⊎◌, inl, inr, ℕ, zero, suc, ◌≤◌, List, [], ◌∷◌, ◌++◌, Bool, true, false, true≢false, Option, None, Some, IsSome, IsSomeAnd, Contains, Result, Ok, Err, IfOk, refl, sym, ap, ◌∙◌, subst, arith}
use Rattle.std.specs.FinMap as map
use Rattle.pm_base.specs.Faults.{Rose}
use Rattle.pm_values.specs.declared.refusal.Refusal.{Refusal}
use Rattle.pm_values.specs.declared.refusal.Refusal.TheVariants as refusals
use Rattle.pm_store.specs.declared.answer.Answer.TheVariants as answers
use Rattle.pm_store.specs.declared.answer.Swapped.TheVariants as swaps
use Rattle.pm_store.specs.declared.call.Call.{Call}
use Rattle.pm_store.specs.declared.call.Effect.{Effect}
use Rattle.pm_store.specs.declared.call.Effect.TheVariants as effects
use Rattle.pm_store.specs.declared.call.Op.{Op}
use Rattle.pm_store.specs.Answers.{Answers, MayHave}
use Rattle.pm_store.specs.Files.{Files, IsListing, Puts, after_effect, carried, files_after}
use Rattle.pm_store.specs.Images.{Extends, MayLeave}
use Rattle.pm_store.specs.Store.{IsAlone, Meanwhile, Steps, StoreView, at_first_own, own_op, whole}
use Rattle.pm_store.proofs.ChangeLaws.{Answers-Changed, Puts-insert}
use Rattle.pm_store.proofs.StepLaws.{IsLater-trans, alone_parts}
use Rattle.pm_machine.specs.Trace.{Event, HasTrace, Traces}
use Rattle.pm_machine.proofs.AloneLaws.{Extends-end, Follows, Follows-first, Follows-meanwhile, Follows-steps, Traces-first, Traces-later}
use Rattle.pm_model_consumers.specs.Claims.{Claim, new_at, settled, waits}
use Rattle.pm_model_history.specs.History.{Entry, History, table}
use Rattle.pm_schema.specs.declared.schema.TableSchema.{TableSchema}
use Rattle.pm_snapshot.specs.Consumer.{consumer_in}
use Rattle.pm_snapshot.specs.Names.{floor_name, greatest}
use Rattle.pm_snapshot.specs.declared.consumer.Consumer.{Consumer}
use Rattle.pm_snapshot.specs.declared.fault.SnapFault.{SnapFault}
use Rattle.pm_model_folder.specs.Changes.{Actor}
use Rattle.pm_model_folder.specs.Consumers.{follower_of, said_at}
use Rattle.pm_model_folder.specs.Folder.{Folder, HaveSettled}
use Rattle.pm_model_folder.specs.Ledger.{Past, Stands}
use Rattle.pm_model_folder.specs.Paths.{consumer_path, floor_folder, floor_path}
use Rattle.pm_model_folder.proofs.LedgerFacts.{AreClaimed, count-is, is-table}
use Rattle.pm_model_folder.proofs.PathLemmas.{apart}
use Rattle.pm_read_schema.specs.AllCalls.{HasFiles}
use Rattle.pm_read_schema.specs.Trace.{Names}
use Rattle.pm_consumer_files.specs.Floors.{Exceeds}
use Rattle.pm_register.specs.AllCalls.{DidRegister, IsCaused, IsFloorIn, IsFoundOrNew, IsFoundOrPut, IsGreatest, IsLeft, IsRegisteredOrMemory, LeavesAt, MayRegister, NoneExceeds, OnlyIts, RegistersName, RegistersNames}
use Rattle.pm_register.specs.Meaning.{IsWithin, Registers}
use Rattle.pm_register.specs.Registrar.{IsRegistering, IsUnregistered, Registering, consumer_at, floors_call, known_text, new_call, new_text, registration_of, settle_call}
use Rattle.pm_register.specs.Trace.{HasFloors, Shows, listed_floors, met_first, met_later, put_known, put_new}
use Rattle.pm_consumer_files.proofs.FloorPaths.{floor-listed}
use Rattle.pm_register.proofs.ChangeLemmas.{AreTexts, Laws, lists-floors, new-said, none-above, puts-new, settles-name, swap-effects, texts-of}

-- what the laws of settled consumers say
pub record SettledLaws : Type 0 where
  pub found : (f : Files) (h : History) (names : List (List ℕ)) → Folder f h → HaveSettled f h names
      → (p : Past) × (p.history ≡ h) × Stands f p × ((name : List ℕ) → Contains names name → (from : ℕ) × (p.claims name ≡ settled from []))
  pub known : (f : Files) (p : Past) (names : List (List ℕ)) → Stands f p → ((name : List ℕ) → Contains names name
      → (from : ℕ) × (moved : List (List ℕ)) × (p.claims name ≡ settled from moved)) → HaveSettled f p.history names

-- whoever registers it
nobody : Actor
nobody = record { session = []; number = 0 }

-- ---- names and texts

in-cons : (name other : List ℕ) (names : List (List ℕ)) → Contains (other ∷ names) name → (name ≡ other) ⊎ Contains names name
in-cons name other names (zero, within, is) = inl (sym is)
in-cons name other names (suc k, within, is) = inr (k, omega (arith, within), is)

fresh-in : Result Consumer SnapFault → Bool
fresh-in (Ok c) = c.fresh
fresh-in (Err e) = true

-- what isn't registered isn't settled
unregistered-fresh : (found : Option (List ℕ)) (bytes : List ℕ) (c : Consumer) → IsUnregistered found → found ≡ Some bytes → consumer_in bytes ≡ Ok c → c.fresh ≡ true
unfolding fresh-in
unregistered-fresh None bytes c is same reads = absurd (let clash = same in cc)
unregistered-fresh (Some own) bytes c (next, is) same reads =
    let bytes_so : own ≡ bytes = cc in
    let one : Result Consumer SnapFault = Ok (consumer_at next true) in
    let both : one ≡ Ok c = sym is ∙ ap consumer_in bytes_so ∙ reads in
    sym (ap fresh-in both)

floor-other : (n : ℕ) (name : List ℕ) → floor_path n ≢ consumer_path name
floor-other n name = apart 0 (floor_path n) (consumer_path name) (λ e. let clash : 102 ≡ 99 = e in omega (arith, clash))

-- ---- files that it reached

-- They stand for a past of this history, whose settled consumers are those, and only the consumer's file is another
-- than at first: this, with this known of it.
pub record At (r : Registering) (s : TableSchema) (entries : List Entry) (names : List (List ℕ)) (f : Files) (content : Option (List ℕ))
    (C : Claim → Type 0) (g : Files) : Type 0 where
  pub past : Past
  pub stands : Stands g past
  pub history : past.history ≡ table s entries
  pub named : AreClaimed past names
  pub only : OnlyIts r f g
  pub here : map.get g (consumer_path r.name) ≡ content
  pub claim : C (past.claims r.name)

-- what has causes is done where there are none
done_by : (r : Registering) (f : Files) (first after : StoreView) (result : Result (Unit {0}) Refusal) → IsCaused r f first after result
    → NoneExceeds f r.next → (Rose first.faults after.faults → ⊥) → IsRegisteredOrMemory result
done_by r f first after (Ok x) caused none no_fault = tt
done_by r f first after (Err refusals.Memory) caused none no_fault = tt
done_by r f first after (Err (refusals.BelowFloor next floor)) (same, greatest) none no_fault =
    absurd (let low = none floor greatest.is in let high = greatest.exceeds in omega (arith, low, high))
done_by r f first after (Err (refusals.StoreFault path)) caused none no_fault = no_fault caused
done_by r f first after (Err refusal) caused none no_fault = absurd caused

module _ (laws : Laws) (law : SettledLaws) (r : Registering) (is : IsRegistering r) (s : TableSchema) (entries : List Entry) (names : List (List ℕ))
    (f : Files) (may : MayRegister r s entries names f) (first after : StoreView) (alone : IsAlone first after) (has : HasFiles f first) where
  abbrev path : List ℕ
  path = consumer_path r.name

  abbrev Reached : Option (List ℕ) → (Claim → Type 0) → Files → Type 0
  Reached content C g = At r s entries names f content C g

  abbrev Left : Files → Type 0
  Left g = IsLeft r s entries names f g

  abbrev Image : Files → Type 0
  Image g = Left g × IsFoundOrPut r (map.get g path)

  abbrev Begun : Files → Type 0
  Begun = Reached r.found (λ c. Unit {0})

  abbrev Waits : Bool → Files → Type 0
  Waits listed = Reached (Some (new_text r.next)) (λ c. c ≡ waits (follower_of nobody) listed)

  abbrev Settled : Files → Type 0
  Settled = Reached (Some (known_text r.next)) (λ c. c ≡ settled r.next [])

  begin : Begun f
  begin =
      let (p, history, stands, named) = law.found f (table s entries) names may.folder may.settled in
      record {
        past = p;
        stands = stands;
        history = history;
        named = λ name there. (let (from, is) = named name there in (from, [], is));
        only = λ path apart. refl;
        here = may.found;
        claim = tt;
      }

  within : (g : Files) (p : Past) → p.history ≡ table s entries → IsWithin r p
  within g p history = record {
    schema = s;
    is = is-table p s entries history;
    plain = may.plain;
    next = subst (λ (n : ℕ). r.next ≤ suc n) (sym (count-is p s entries history)) may.next;
  }

  texts : AreTexts r
  texts = texts-of laws.reads r f begin.past is begin.stands (within f begin.past begin.history)

  not-known : (content : Option (List ℕ)) → IsUnregistered content → content ≢ Some (known_text r.next)
  not-known content unregistered same =
      true≢false (sym (unregistered-fresh content (known_text r.next) (consumer_at r.next false) unregistered same texts.known))

  new-unregistered : IsUnregistered (Some (new_text r.next))
  new-unregistered = (r.next, texts.fresh)

  -- none of the settled consumers is the one to register
  named-apart : (name : List ℕ) → Contains names name → name ≢ r.name
  named-apart name there same =
      let (bytes, at, reads) = (may.settled name there).3.at in
      let known = (may.settled name there).3.known in
      let found : r.found ≡ Some bytes = sym may.found ∙ ap (λ (name : List ℕ). map.get f (consumer_path name)) (sym same) ∙ at in
      true≢false (sym (unregistered-fresh r.found bytes (may.settled name there).3.consumer is.found found reads) ∙ known)

  -- a change of its own leads on
  on : (content other : Option (List ℕ)) (C D : Claim → Type 0) (g image : Files) (a : Reached content C g) (later : Past) → Registers nobody r g a.past image later
      → map.get image path ≡ other → D (later.claims r.name) → Reached other D image
  on content other C D g image a later change here claim = record {
    past = later;
    stands = laws.stays nobody g image a.past later a.stands change.advances;
    history = change.history ∙ a.history;
    named = λ name there. (let (from, moved, at) = a.named name there in (from, moved, change.claims name (named-apart name there) ∙ at));
    only = λ q apart. change.files q apart ∙ a.only q apart;
    here = here;
    claim = claim;
  }

  -- ---- what it leaves

  reached-folder : (content : Option (List ℕ)) (C : Claim → Type 0) (g : Files) → Reached content C g → Folder g (table s entries)
  reached-folder content C g a = subst (λ (h : History). Folder g h) a.history a.stands.folder

  reached-names : (content : Option (List ℕ)) (C : Claim → Type 0) (g : Files) → Reached content C g → HaveSettled g (table s entries) names
  reached-names content C g a = subst (λ (h : History). HaveSettled g h names) a.history (law.known g a.past names a.stands a.named)

  left-new : (content : Option (List ℕ)) (C : Claim → Type 0) (g : Files) → IsUnregistered content → Reached content C g → Left g
  left-new content C g unregistered a = record {
    only = a.only;
    folder = reached-folder content C g a;
    settled = reached-names content C g a;
    known = λ at. absurd (not-known content unregistered (sym a.here ∙ at));
  }

  left-known : (g : Files) → Settled g → Left g
  left-known g a = record {
    only = a.only;
    folder = reached-folder (Some (known_text r.next)) (λ c. c ≡ settled r.next []) g a;
    settled = reached-names (Some (known_text r.next)) (λ c. c ≡ settled r.next []) g a;
    known = λ at. subst (λ (h : History). HaveSettled g h (r.name ∷ names)) a.history (law.known g a.past (r.name ∷ names) a.stands all);
  }
    where
      all : AreClaimed a.past (r.name ∷ names)
      all name there = elim (in-cons name r.name names there) as (λ _. (from : ℕ) × (moved : List (List ℕ)) × (a.past.claims name ≡ settled from moved)) [
        | inl same ↦ (r.next, [], ap a.past.claims same ∙ a.claim)
        | inr other ↦ a.named name other
      ]

  image-begun : (g : Files) → Begun g → Image g
  image-begun g a = (left-new r.found (λ c. Unit {0}) g is.found a, inl (inl a.here))

  image-waits : (listed : Bool) (g : Files) → Waits listed g → Image g
  image-waits listed g a = (left-new (Some (new_text r.next)) (λ c. c ≡ waits (follower_of nobody) listed) g new-unregistered a, inl (inr a.here))

  image-settled : (g : Files) → Settled g → Image g
  image-settled g a = (left-known g a, inr a.here)

  -- however much of its next call is left
  abbrev first_call : Call
  first_call = new_call (registration_of r) r.found

  abbrev last_call : Call
  last_call = settle_call (registration_of r)

  puts-first : (g : Files) → Begun g → (image : Files) → map.get g path ≡ r.found → Puts g path (Some (new_text r.next)) image → Waits false image
  puts-first g a image found puts =
      let (later, change, wait) = puts-new laws nobody r g image a.past is a.stands (within g a.past a.history) found puts in
      on r.found (Some (new_text r.next)) (λ c. Unit {0}) (λ c. c ≡ waits (follower_of nobody) false) g image a later change puts.here wait.claim

  puts-last : (g : Files) → Waits true g → (image : Files) → Puts g path (Some (known_text r.next)) image → Settled image
  puts-last g a image puts =
      let said = new-says g a in
      let (later, change, says, joined) =
      settles-name laws nobody r g image a.past is a.stands (within g a.past a.history) (record { claim = a.claim; file = said }) puts in
      on (Some (new_text r.next)) (Some (known_text r.next)) (λ c. c ≡ waits (follower_of nobody) true) (λ c. c ≡ settled r.next []) g image a later change
      puts.here joined
    where
      new-says : (g : Files) → Waits true g → said_at g r.name ≡ Some (new_at r.next)
      new-says g a = new-said r g texts a.here

  first-effects : (g : Files) → Begun g → (effect : Effect) → Image (after_effect first_call effect g)
  first-effects g a effect = swap-effects path (new_text r.next) r.found g Image (image-begun g a)
      (λ found. image-waits false (map.insert g path (new_text r.next)) (puts-first g a (map.insert g path (new_text r.next)) found (Puts-insert g path (new_text r.next)))) effect

  last-effects : (g : Files) → Waits true g → (effect : Effect) → Image (after_effect last_call effect g)
  last-effects g a effect = swap-effects path (known_text r.next) (Some (new_text r.next)) g Image (image-waits true g a)
      (λ found. image-settled (map.insert g path (known_text r.next)) (puts-last g a (map.insert g path (known_text r.next)) (Puts-insert g path (known_text r.next)))) effect

  first-images : (g : Files) → Begun g → (image : Files) → MayLeave first_call g image → Image image
  first-images g a image (inl same) = subst Image (sym same) (image-begun g a)
  first-images g a image (inr whole) = subst Image (sym whole) (first-effects g a effects.Whole)

  last-images : (g : Files) → Waits true g → (image : Files) → MayLeave last_call g image → Image image
  last-images g a image (inl same) = subst Image (sym same) (image-waits true g a)
  last-images g a image (inr whole) = subst Image (sym whole) (last-effects g a effects.Whole)

  list-images : (g : Files) → Waits false g → (image : Files) → MayLeave floors_call g image → Image image
  list-images g a image (inl same) = subst Image (sym same) (image-waits false g a)
  list-images g a image (inr whole) = subst Image (sym whole) (image-waits false g a)

  -- ---- floors

  floor-then : (listed : Bool) (g : Files) → Waits listed g → (n : ℕ) → IsSome (map.get f (floor_path n)) → IsSome (map.get g (floor_path n))
  floor-then listed g a n there = subst (λ (o : Option (List ℕ)). IsSome o) (sym (a.only (floor_path n) (floor-other n r.name))) there

  floor-first : (listed : Bool) (g : Files) → Waits listed g → (n : ℕ) → IsSome (map.get g (floor_path n)) → IsSome (map.get f (floor_path n))
  floor-first listed g a n there = subst (λ (o : Option (List ℕ)). IsSome o) (a.only (floor_path n) (floor-other n r.name)) there

  none-exceeds : (g : Files) (floors : List (List ℕ)) → Waits false g → IsListing floor_folder floors g → Exceeds floors r.next None → NoneExceeds f r.next
  none-exceeds g floors a listing exceeds n (low, there) = exceeds n (low, floor-listed g floors n listing low (floor-then false g a n there))

  floor-in : (g : Files) (floors : List (List ℕ)) (n : ℕ) → Waits false g → IsListing floor_folder floors g → n ≤ greatest → Contains floors (floor_name n) → IsFloorIn f n
  floor-in g floors n a listing low there =
      let (q, some, leads) = (listing.exact (floor_name n)).0 there in
      let same : q ≡ floor_path n = (reached-folder (Some (new_text r.next)) (λ c. c ≡ waits (follower_of nobody) false) g a).names.floors n q low some leads in
      (low, floor-first false g a n (subst (λ (q : List ℕ). IsSome (map.get g q)) same some))

  greatest-exceeds : (g : Files) (floors : List (List ℕ)) (floor : ℕ) → Waits false g → IsListing floor_folder floors g → Exceeds floors r.next (Some floor)
      → IsGreatest f r.next floor
  greatest-exceeds g floors floor a listing (most, exceeds) = record {
    is = floor-in g floors floor a listing most.listed.0 most.listed.1;
    exceeds = exceeds;
    most = λ n there. most.most n (there.0, floor-listed g floors n listing there.0 (floor-then false g a n there.1));
  }

  -- ---- calls in a row

  abbrev So : StoreView → (Files → Type 0) → Type 0
  So store P = Follows Image first.ops store P

  at_first : (known : Option (List Op)) → IsSomeAnd known (λ ops. files_after ops ≡ f) → IsSomeAnd known (λ ops. Image (files_after ops) × Begun (files_after ops))
  at_first None here = here
  at_first (Some ops) here = subst (λ (g : Files). Image g × Begun g) (sym here) (image-begun f begin, begin)

  started : So first Begun
  started = Follows-first Image Begun first first.ops refl (at_first first.ops has)

  after-first : (middle : StoreView) → Steps (whole first_call) (λ ops. Answers first_call (answers.Swapped swaps.Swapped) (files_after ops)) first middle
      → IsAlone first middle → So middle (Waits false)
  after-first middle steps own = Follows-steps Image Begun (Waits false) first.ops (whole first_call) _ first middle started steps own
      (λ ops here told. (
        puts-first (files_after ops) here (carried first_call (files_after ops)) told (Answers-Changed first_call (answers.Swapped swaps.Swapped) (files_after ops) told),
        first-images (files_after ops) here,
      ))

  -- no floor that was listed exceeds the number
  abbrev Clear : Files → Type 0
  Clear g = Waits true g × NoneExceeds f r.next

  after-list : (floors : Names) → Exceeds floors.items r.next None → (middle next : StoreView) → So middle (Waits false)
      → Steps (whole floors_call) (λ ops. Answers floors_call (answers.Listed floors) (files_after ops)) middle next → IsAlone middle next → So next Clear
  after-list floors exceeds middle next so steps own = Follows-steps Image (Waits false) Clear first.ops (whole floors_call) _ middle next so steps own
      (λ ops here told. (
        (listed (files_after ops) here told, none-exceeds (files_after ops) floors.items here told exceeds),
        list-images (files_after ops) here,
      ))
    where
      listed : (g : Files) → Waits false g → IsListing floor_folder floors.items g → Waits true g
      listed g a told =
          let (later, change, wait) = lists-floors nobody r g a.past (none-above g floors.items r.next told exceeds)
          (record { claim = a.claim; file = new-said r g texts a.here }) in
          on (Some (new_text r.next)) (Some (new_text r.next)) (λ c. c ≡ waits (follower_of nobody) false) (λ c. c ≡ waits (follower_of nobody) true) g g a later change
          a.here wait.claim

  -- its end
  ended_as : (result : Result (Unit {0}) Refusal) (P : Files → Type 0) → (so : So after P)
      → ((g : Files) → P g → Left g × LeavesAt r result (map.get g path))
      → IfOk result (λ x. Extends (λ g. Left g × (map.get g path ≡ Some (known_text r.next))) after.ops after.ops)
      → IsCaused r f first after result → RegistersName r s entries names f first after result
  ended_as result P so leaves settles caused = record {
    leaves = subst (λ (known : Option (List Op)). IsSomeAnd known (λ ops. Left (files_after ops) × LeavesAt r result (map.get (files_after ops) path))) (sym so.is)
        (leaves (files_after so.ops) so.here);
    images = subst (λ (known : Option (List Op)). Extends Image first.ops known) (sym so.is) so.images;
    settles = settles;
    cause = caused;
    complete = done_by r f first after result caused;
  }

  -- memory ran out
  out-of_memory : (P : Files → Type 0) (middle : StoreView) → So middle P → Meanwhile middle after → IsAlone middle after
      → ((g : Files) → P g → Left g × IsFoundOrNew r (map.get g path)) → RegistersName r s entries names f first after (Err refusals.Memory)
  out-of_memory P middle so still own leaves =
      ended_as (Err refusals.Memory) P (Follows-meanwhile Image P first.ops middle after so still own) leaves tt tt

  none-before : Traces [] first after → RegistersName r s entries names f first after (Err refusals.Memory)
  none-before (still, last) = out-of_memory Begun first started still alone (λ g a. (left-new r.found (λ c. Unit {0}) g is.found a, inl a.here))

  waits-left : (listed : Bool) (g : Files) → Waits listed g → Left g × IsFoundOrNew r (map.get g path)
  waits-left listed g a = (left-new (Some (new_text r.next)) (λ c. c ≡ waits (follower_of nobody) listed) g new-unregistered a, inr a.here)

  one-before : Traces (put_new r ∷ []) first after → RegistersName r s entries names f first after (Err refusals.Memory)
  one-before (one, (steps, might), early, (still, last)) =
      let own = alone_parts first one after early last alone in
      out-of_memory (Waits false) one (after-first one steps own.0) still own.1 (waits-left false)

  -- the first two calls, and whatever came then
  two-first : (floors : Names) → Exceeds floors.items r.next None → (rest : List Event) → Traces (put_new r ∷ listed_floors floors ∷ rest) first after
      → (two : StoreView) × So two Clear × IsAlone two after × Traces rest two after × (first.faults ≤ two.faults)
  two-first floors exceeds rest (one, (steps, might), early, (two, (list, may_list), late, last)) =
      let end = Traces-later rest two after last in
      let own = alone_parts first one after early (IsLater-trans one two after late end) alone in
      let next = alone_parts one two after late end own.1 in
      let low = early.faults in let high = late.faults in
      (two, after-list floors exceeds one two (after-first one steps own.0) list next.0, next.1, last, omega (arith, low, high))

  two-before : (floors : Names) → Exceeds floors.items r.next None → Traces (put_new r ∷ listed_floors floors ∷ []) first after
      → RegistersName r s entries names f first after (Err refusals.Memory)
  two-before floors exceeds trace =
      let (two, so, own, (still, last), later) = two-first floors exceeds [] trace in
      out-of_memory Clear two so still own (λ g a. waits-left true g a.0)

  -- it was settled
  served : (floors : Names) → Exceeds floors.items r.next None → Traces (put_new r ∷ listed_floors floors ∷ put_known r ∷ []) first after
      → RegistersName r s entries names f first after (Ok tt)
  served floors exceeds trace =
      let (two, so, own, (three, (steps, might), late, (still, last)), later) = two-first floors exceeds (put_known r ∷ []) trace in
      let end = alone_parts two three after late last own in
      let Done : Files → Type 0 = λ g. Settled g × NoneExceeds f r.next in
      let put = Follows-steps Image Clear Done first.ops (whole last_call) _ two three so steps end.0
      (λ ops here told. (
        (puts-last (files_after ops) here.0 (carried last_call (files_after ops)) (Answers-Changed last_call (answers.Swapped swaps.Swapped) (files_after ops) told), here.1),
        last-images (files_after ops) here.0,
      )) in
      let done = Follows-meanwhile Image Done first.ops three after put still end.1 in
      let At-end : Files → Type 0 = λ g. Left g × (map.get g path ≡ Some (known_text r.next)) in
      ended_as (Ok tt) Done done (λ g a. (left-known g a.0, a.0.here))
      (Extends-end At-end after.ops done.ops done.is (left-known (files_after done.ops) done.here.0, done.here.0.here)) done.here.1

  -- a floor exceeds its number
  below-floor : (floors : Names) (floor : ℕ) → Exceeds floors.items r.next (Some floor) → Traces (put_new r ∷ listed_floors floors ∷ []) first after
      → RegistersName r s entries names f first after (Err (refusals.BelowFloor r.next floor))
  below-floor floors floor exceeds (one, (steps, might), early, (two, (list, may_list), late, (still, last))) =
      let own = alone_parts first one after early (IsLater-trans one two after late last) alone in
      let next = alone_parts one two after late last own.1 in
      let Below : Files → Type 0 = λ g. Waits false g × IsGreatest f r.next floor in
      let listed = Follows-steps Image (Waits false) Below first.ops (whole floors_call) (λ ops. Answers floors_call (answers.Listed floors) (files_after ops)) one two
      (after-first one steps own.0) list next.0
      (λ ops here told. ((here, greatest-exceeds (files_after ops) floors.items floor here told exceeds), list-images (files_after ops) here)) in
      let so = Follows-meanwhile Image Below first.ops two after listed still next.1 in
      ended_as (Err (refusals.BelowFloor r.next floor)) Below so
      (λ g a. (left-new (Some (new_text r.next)) (λ c. c ≡ waits (follower_of nobody) false) g new-unregistered a.0, a.0.here)) tt (refl, so.here.1)

  -- the store failed
  failed_as : (name : List ℕ) (so : So after Image) → Rose first.faults after.faults → RegistersName r s entries names f first after (Err (refusals.StoreFault name))
  failed_as name so rose = ended_as (Err (refusals.StoreFault name)) Image so (λ g a. a) tt rose

  first-failed : (name : List ℕ) → Traces (record { call = first_call; answer = None } ∷ []) first after
      → RegistersName r s entries names f first after (Err (refusals.StoreFault name))
  first-failed name (one, ((effect, steps), rose), early, (still, last)) =
      let own = alone_parts first one after early last alone in
      let failed = Follows-steps Image Begun Image first.ops (own_op first_call effect) (λ ops. MayHave first_call effect (files_after ops)) first one started steps own.0
      (λ ops here might. (first-effects (files_after ops) here effect, first-images (files_after ops) here)) in
      failed_as name (Follows-meanwhile Image Image first.ops one after failed still own.1) (let end = last.faults in omega (arith, rose, end))

  -- however much of a listing was carried out
  list-left : (effect : Effect) (g : Files) (P : Files → Type 0) → P g → P (after_effect floors_call effect g)
  list-left effects.None g P here = here
  list-left (effects.Part found) g P here = here
  list-left effects.Whole g P here = here

  list-failed : (name : List ℕ) → Traces (put_new r ∷ record { call = floors_call; answer = None } ∷ []) first after
      → RegistersName r s entries names f first after (Err (refusals.StoreFault name))
  list-failed name (one, (steps, might), early, (two, ((effect, list), rose), late, (still, last))) =
      let own = alone_parts first one after early (IsLater-trans one two after late last) alone in
      let next = alone_parts one two after late last own.1 in
      let failed = Follows-steps Image (Waits false) Image first.ops (own_op floors_call effect) (λ ops. MayHave floors_call effect (files_after ops)) one two
      (after-first one steps own.0) list next.0
      (λ ops here might. (list-left effect (files_after ops) Image (image-waits false (files_after ops) here), list-images (files_after ops) here)) in
      let low = early.faults in let end = last.faults in
      failed_as name (Follows-meanwhile Image Image first.ops two after failed still next.1) (omega (arith, low, rose, end))

  last-failed : (name : List ℕ) (floors : Names) → Exceeds floors.items r.next None
      → Traces (put_new r ∷ listed_floors floors ∷ record { call = last_call; answer = None } ∷ []) first after
      → RegistersName r s entries names f first after (Err (refusals.StoreFault name))
  last-failed name floors exceeds trace =
      let (two, so, own, (three, ((effect, steps), rose), late, (still, last)), low) = two-first floors exceeds (record { call = last_call; answer = None } ∷ []) trace in
      let end = alone_parts two three after late last own in
      let failed = Follows-steps Image Clear Image first.ops (own_op last_call effect) (λ ops. MayHave last_call effect (files_after ops)) two three so steps end.0
      (λ ops here might. (last-effects (files_after ops) here.0 effect, last-images (files_after ops) here.0)) in
      let high = last.faults in
      failed_as name (Follows-meanwhile Image Image first.ops three after failed still end.1) (omega (arith, low, rose, high))

  -- its file is never another than what was found, or than what it put there
  first-met : (other : Option (List ℕ)) → Traces (met_first r other ∷ []) first after → ⊥
  first-met other (one, (steps, might), early, (still, last)) =
      let own = alone_parts first one after early last alone in
      (Follows-steps Image Begun (λ g. ⊥) first.ops (whole first_call) (λ ops. Answers first_call (answers.Swapped (swaps.Differs other)) (files_after ops)) first one started steps own.0
      (λ ops here told. absurd (told.1 (sym told.0 ∙ here.here)))).here

  last-met : (other : Option (List ℕ)) (floors : Names) → Exceeds floors.items r.next None
      → Traces (put_new r ∷ listed_floors floors ∷ met_later r other ∷ []) first after → ⊥
  last-met other floors exceeds trace =
      let (two, so, own, (three, (steps, might), late, (still, last)), low) = two-first floors exceeds (met_later r other ∷ []) trace in
      let end = alone_parts two three after late last own in
      (Follows-steps Image Clear (λ g. ⊥) first.ops (whole last_call) (λ ops. Answers last_call (answers.Swapped (swaps.Differs other)) (files_after ops)) two three so steps end.0
      (λ ops here told. absurd (told.1 (sym told.0 ∙ here.0.here)))).here

  -- ---- all of them

  traces-at : (own events : List Event) → own ≡ events → Traces own first after → Traces events first after
  traces-at own events same trace = subst (λ (own : List Event). Traces own first after) same trace

  third-at : (earlier own : List Event) (event : Event) → (floors : HasFloors r None earlier) → own ≡ earlier ++ event ∷ []
      → own ≡ put_new r ∷ listed_floors floors.0 ∷ event ∷ []
  third-at earlier own event (floors, exceeds, at) same = same ∙ ap (λ (earlier : List Event). earlier ++ event ∷ []) at

  refused : (refusal : Refusal) (own : List Event) → Shows r refusal own → Traces own first after → RegistersName r s entries names f first after (Err refusal)
  refused refusals.Memory own (inl at) trace = none-before (traces-at own [] at trace)
  refused refusals.Memory own (inr (inl at)) trace = one-before (traces-at own (put_new r ∷ []) at trace)
  refused refusals.Memory own (inr (inr (floors, exceeds, at))) trace =
      two-before floors exceeds (traces-at own (put_new r ∷ listed_floors floors ∷ []) at trace)
  refused (refusals.ConsumerMoved other) own (inl at) trace = absurd (first-met other (traces-at own (met_first r other ∷ []) at trace))
  refused (refusals.ConsumerMoved other) own (inr (earlier, floors, at)) trace =
      absurd (last-met other floors.0 floors.1
      (traces-at own (put_new r ∷ listed_floors floors.0 ∷ met_later r other ∷ []) (third-at earlier own (met_later r other) floors at) trace))
  refused (refusals.BelowFloor next floor) own (same, (floors, exceeds, at)) trace =
      subst (λ (next : ℕ). RegistersName r s entries names f first after (Err (refusals.BelowFloor next floor))) (sym same)
      (below-floor floors floor exceeds (traces-at own (put_new r ∷ listed_floors floors ∷ []) at trace))
  refused (refusals.StoreFault name) own (inl (named, at)) trace =
      first-failed name (traces-at own (record { call = first_call; answer = None } ∷ []) at trace)
  refused (refusals.StoreFault name) own (inr (inl (named, at))) trace =
      list-failed name (traces-at own (put_new r ∷ record { call = floors_call; answer = None } ∷ []) at trace)
  refused (refusals.StoreFault name) own (inr (inr (named, earlier, floors, at))) trace =
      last-failed name floors.0 floors.1
      (traces-at own (put_new r ∷ listed_floors floors.0 ∷ record { call = last_call; answer = None } ∷ [])
      (third-at earlier own (record { call = last_call; answer = None }) floors at) trace)
  refused refusal own shows trace = absurd shows

  registered : (result : Result (Unit {0}) Refusal) (own : List Event) → DidRegister r result own → Traces own first after
      → RegistersName r s entries names f first after result
  registered (Ok x) own (earlier, floors, at) trace =
      served floors.0 floors.1
      (traces-at own (put_new r ∷ listed_floors floors.0 ∷ put_known r ∷ []) (third-at earlier own (put_known r) floors at) trace)
  registered (Err refusal) own shows trace = refused refusal own shows trace

pub all_calls : Laws → SettledLaws → (r : Registering) (result : Result (Unit {0}) Refusal) (before after : StoreView) → IsRegistering r
    → HasTrace (DidRegister r result) before after → RegistersNames r before after result
all_calls laws law r result before after is (own, did, trace) = λ alone s entries names f has may.
    registered laws law r is s entries names f may (at_first_own before after) after alone has result own did (Traces-first own before after trace)
