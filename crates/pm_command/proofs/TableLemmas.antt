-- Facts on files that stay, and on why a table is refused, for all commands.
use Rattle.std.proofs.Common.{◌≡◌, ℕ, suc, ◌+◌, ◌≤◌, List, length, Option, None, Some, IsSome, IsSomeAnd, refl, sym, subst, ◌∙◌, arith}
use Rattle.std.specs.FinMap as map
use Rattle.pm_values.specs.declared.refusal.Refusal.{Refusal}
use Rattle.pm_values.specs.declared.refusal.Refusal.TheVariants as refusals
use Rattle.pm_store.specs.declared.call.Op.{Op}
use Rattle.pm_store.specs.Files.{Files, files_after}
use Rattle.pm_store.specs.Images.{Extends}
use Rattle.pm_store.specs.Store.{StoreView}
use Rattle.pm_store.proofs.ImageLaws.{Extends-weaker}
use Rattle.pm_machine.specs.Trace.{Event, HasTrace}
use Rattle.pm_model_history.specs.History.{History, no_table, table}
use Rattle.pm_snapshot.specs.Names.{greatest}
use Rattle.pm_model_folder.specs.Folder.{Folder, KeepsConsumers}
use Rattle.pm_model_folder.specs.Ledger.{count_of}
use Rattle.pm_model_folder.specs.Meaning.{HasSnapshotAt}
use Rattle.pm_model_folder.specs.Paths.{snapshot_path}
use Rattle.pm_model_folder.proofs.SettledLemmas.{same-keeps}
use Rattle.pm_create.specs.Making.{LeavesFiles}
use Rattle.pm_read_schema.specs.AllCalls.{HasFiles, IsCaused}
use Rattle.pm_command.specs.Outside.{ConsumersRest, HaveSame, ImagesRest, Rests, next_path}
use Rattle.pm_command.specs.Table.{MayRefuse}

pub trace_weaker : (P Q : List Event → Type 0) → ((own : List Event) → P own → Q own) → (before after : StoreView) → HasTrace P before after → HasTrace Q before after
trace_weaker P Q weaker before after (own, did, traces) = (own, weaker own did, traces)

-- ---- files that stay

pub files_of : (P : Files → Type 0) (store : StoreView) → LeavesFiles P store → (f : Files) × HasFiles f store × P f
files_of P store = at_ops store.ops
  where
    at_ops : (ops : Option (List Op)) → IsSomeAnd ops (λ ops. P (files_after ops)) → (f : Files) × IsSomeAnd ops (λ ops. files_after ops ≡ f) × P f
    at_ops None is = absurd is
    at_ops (Some ops) is = (files_after ops, refl, is)

pub leaves_of : (P : Files → Type 0) (f : Files) (store : StoreView) → HasFiles f store → P f → LeavesFiles P store
leaves_of P f store = at_ops store.ops
  where
    at_ops : (ops : Option (List Op)) → IsSomeAnd ops (λ ops. files_after ops ≡ f) → P f → IsSomeAnd ops (λ ops. P (files_after ops))
    at_ops None is p = is
    at_ops (Some ops) is p = subst P (sym is) p

pub images_of : (P : Files → Type 0) (f : Files) (first after : Option (List Op)) → Extends (λ image. image ≡ f) first after → P f → Extends P first after
images_of P f first after images p = Extends-weaker (λ image. image ≡ f) P first after (λ image is. subst P (sym is) p) images

-- a store leaves the same files
pub files_same : (f g : Files) (store : StoreView) → HasFiles f store → HasFiles g store → f ≡ g
files_same f g store one other = at store.ops one other
  where
    at : (ops : Option (List Op)) → IsSomeAnd ops (λ ops. files_after ops ≡ f) → IsSomeAnd ops (λ ops. files_after ops ≡ g) → f ≡ g
    at None one other = absurd one
    at (Some ops) one other = sym one ∙ other

pub leaves_weaker : (P Q : Files → Type 0) → ((f : Files) → P f → Q f) → (store : StoreView) → LeavesFiles P store → LeavesFiles Q store
leaves_weaker P Q weaker store left =
    let files = files_of P store left in
    leaves_of Q files.0 store files.1 (weaker files.0 files.2)

-- files that stay are the same as at first
pub rests_of : (h : History) (f : Files) (first after : StoreView) → HasFiles f first → HasFiles f after → Folder f h → Rests h first after
rests_of h f first after was is folder = record {
  folder = leaves_of (λ f. Folder f h) f after is folder;
  same = leaves_of (λ g. LeavesFiles (HaveSame g) after) f first was (leaves_of (HaveSame f) f after is (λ path. refl));
}

-- and so are they in each image of a crash
pub images_rest : (h : History) (f : Files) (first after : StoreView) → HasFiles f first → Folder f h → Extends (λ image. image ≡ f) first.ops after.ops
    → ImagesRest h first after
images_rest h f first after has folder images =
    leaves_of (λ f. Extends (λ g. Folder g h × HaveSame f g) first.ops after.ops) f first has
    (images_of (λ g. Folder g h × HaveSame f g) f first.ops after.ops images (folder, λ path. refl))

-- and consumers with them
pub consumers_stay : (h : History) (f : Files) (first after : StoreView) → HasFiles f first → Extends (λ image. image ≡ f) first.ops after.ops
    → ConsumersRest h first after
consumers_stay h f first after has images =
    leaves_of (λ f. Extends (KeepsConsumers h f) first.ops after.ops) f first has
    (images_of (KeepsConsumers h f) f first.ops after.ops images (same-keeps f f (λ path. refl) h))

-- files that stand for a history don't have its next snapshot
pub none_next : (h : History) (f : Files) → Folder f h → count_of h + 1 ≤ greatest → IsSome (map.get f (next_path h)) → ⊥
none_next no_table f folder within there = none_there (map.get f (snapshot_path 1)) (folder.snapshots 1 within) there
  where
    none_there : (o : Option (List ℕ)) → o ≡ None → IsSome o → ⊥
    none_there None is there = let no : IsSome {T = List ℕ} None = there in cc
    none_there (Some x) is there = let no : Some x ≡ None = is in cc
none_next (table s entries) f folder within there =
    let n = length entries in
    let more : n + 1 ≡ suc n = omega arith in
    let here : HasSnapshotAt f s (suc n) = subst (λ (id : ℕ). IsSome (map.get f (snapshot_path id))) more there in
    let high = ((folder.snapshots.exact (suc n) (omega (arith, within))).0 here).1 in
    omega (arith, high)

-- ---- what a history may be refused for

pub caused : (h : History) (first after : StoreView) (e : Refusal) → IsCaused h first after e → MayRefuse h first after e
caused h first after refusals.Memory is = tt
caused h first after refusals.NoTable is = is
caused h first after (refusals.StoreFault path) is = is
caused h first after e is = absurd is
