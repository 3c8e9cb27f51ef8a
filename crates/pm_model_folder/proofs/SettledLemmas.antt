-- A folder that is found has a past which knows of all settled consumers, and they stay where nothing is made of them.
use Rattle.std.proofs.Common.{◌≡◌, ◌↔◌, ℕ, zero, suc, ◌<◌, ◌≤◌, nat_le, List, [], ◌∷◌, Contains, Bool, true, false, cond, Option, Some, None, refl, sym, ap, subst, ◌∙◌, arith}
use Rattle.std.specs.FinMap as map
use Rattle.std.proofs.lemmas.Bool.Decides.{nat_tests}
use Rattle.pm_store.specs.Files.{Files}
use Rattle.pm_model_consumers.specs.Claims.{Claim, IsClaimed, Moment, Said, free, known_at, settled}
use Rattle.pm_model_history.specs.History.{Entry, GoesOn, History, IsTableOf, no_table, table}
use Rattle.pm_schema.specs.declared.schema.TableSchema.{TableSchema}
use Rattle.pm_model_folder.specs.Consumers.{KnowsConsumers, moment_of, said_at}
use Rattle.pm_model_folder.specs.Folder.{HasTable, HaveSettled, IsSettled, KeepsConsumers}
use Rattle.pm_model_folder.specs.Ledger.{HasConsumersOf, LeavesConsumers, Past}
use Rattle.pm_model_folder.specs.Meaning.{HasSnapshotAt}
use Rattle.pm_model_folder.specs.Paths.{consumer_path, snapshot_file, snapshot_path}
use Rattle.pm_model_folder.proofs.BesideLemmas.{snapshot-same}
use Rattle.pm_model_folder.proofs.ConsumerLemmas.{consumer-said, found-consumers}
use Rattle.pm_model_folder.proofs.ExpiryLemmas.{least-at-most, table-least}

-- ---- what is known of all where a folder is found

-- a consumer is settled whose file isn't new, and names a snapshot that hasn't gone
abbrev claim_by : ℕ → Option Said → Claim
claim_by least None = free
claim_by least (Some said) = cond said.fresh free (cond (nat_le least said.next) (settled said.next []) free)

abbrev pub all_claims : Files → ℕ → List ℕ → Claim
all_claims f least name = claim_by least (said_at f name)

module _ (f : Files) (s : TableSchema) (entries : List Entry) (folder : HasTable f s entries) where
  abbrev least : ℕ
  least = folder.snapshots.least

  abbrev now : Moment
  now = moment_of f s entries least (all_claims f least)

  claimed-said : (name : List ℕ) (said : Said) → said_at f name ≡ Some said → IsClaimed now name (claim_by least (Some said))
  claimed-said name said is = at said.fresh refl (nat_le least said.next) refl
    where
      at : (fresh : Bool) → said.fresh ≡ fresh → (under : Bool) → nat_le least said.next ≡ under
          → IsClaimed now name (cond fresh free (cond under (settled said.next []) free))
      at true fresh under le = tt
      at false fresh false le = tt
      at false fresh true le = (
        said.next,
        is ∙ (λ i. Some (record { next = said.next; fresh = fresh i })),
        grind (arith, nat_tests, le),
        refl,
      )

  claimed-by : (name : List ℕ) (o : Option Said) → said_at f name ≡ o → IsClaimed now name (claim_by least o)
  claimed-by name None is = tt
  claimed-by name (Some said) is = claimed-said name said is

  pub all-known : KnowsConsumers f s entries (all_claims f least)
  all-known = found-consumers f s entries (all_claims f least) folder (λ name. claimed-by name (said_at f name) refl)

  -- what is known of one that is settled
  settled-claim : (name : List ℕ) (lowest : ℕ) → HasSnapshotAt f s lowest → (is : IsSettled f lowest name)
      → all_claims f least name ≡ settled is.consumer.next []
  settled-claim name lowest here is =
      let low = least-at-most f s least lowest (table-least f s entries folder) here in
      let under = is.next in
      let bound : least ≤ is.consumer.next = omega (arith, low, under) in
      let le : nat_le least is.consumer.next ≡ true = grind (arith, nat_tests, bound) in
      ap (claim_by least) (consumer-said f name is.consumer is.at)
      ∙ ap (λ (fresh : Bool). cond fresh free (cond (nat_le least is.consumer.next) (settled is.consumer.next []) free)) is.known
      ∙ ap (λ (under : Bool). cond under (settled is.consumer.next []) free) le

  pub all-settled : (names : List (List ℕ)) (name : List ℕ) → HaveSettled f (table s entries) names → Contains names name
      → (from : ℕ) × (all_claims f least name ≡ settled from [])
  all-settled names name have there =
      let (lowest, here, none, is) = have name there in (is.consumer.next, settled-claim name lowest here is)

-- ---- what stays

-- a step that makes nothing of consumers keeps what is known of them
pub consumers-stay : (h : History) (was f after : Files) (p q : Past) → HasConsumersOf h was f p → LeavesConsumers f p after q → HasConsumersOf h was after q
consumers-stay h was f after p q has leaves = record {
  files = λ name. leaves.files name ∙ has.files name;
  known = λ names name have there. (let (from, is) = has.known names name have there in (from, leaves.claims name ∙ is));
}

-- those of whom it is known are settled, on the history and on each that it goes on as
pub on-earlier : (f : Files) (names : List (List ℕ)) (s : TableSchema) (entries : List Entry) (later : History) → GoesOn (table s entries) later → HaveSettled f later names
    → HaveSettled f (table s entries) names
on-earlier f names s entries no_table on have = absurd on
on-earlier f names s entries (table t grown) (same, more, is) have = subst (λ (s : TableSchema). HaveSettled f (table s entries) names) same have

-- ---- files in which snapshots and consumers stay

module _ (f after : Files) (consumers : (name : List ℕ) → map.get after (consumer_path name) ≡ map.get f (consumer_path name)) where
  settled-same : (name : List ℕ) (lowest : ℕ) → IsSettled f lowest name → IsSettled after lowest name
  settled-same name lowest is =
      let (bytes, there, reads) = is.at in
      record { consumer = is.consumer; at = (bytes, consumers name ∙ there, reads); known = is.known; next = is.next }

  have-same : (h : History) → ((s : TableSchema) → IsTableOf s h → (id : ℕ) → HasSnapshotAt f s id ↔ HasSnapshotAt after s id) → (names : List (List ℕ))
      → HaveSettled f h names → HaveSettled after h names
  have-same no_table snapshots names have = have
  have-same (table s entries) snapshots names have = λ name there.
      let (lowest, here, none, is) = have name there in (
        lowest,
        (snapshots s refl lowest).0 here,
        (λ id below there. none id below ((snapshots s refl id).1 there)),
        settled-same name lowest is,
      )

  pub kept-consumers : (h : History) → ((s : TableSchema) → IsTableOf s h → (id : ℕ) → HasSnapshotAt f s id ↔ HasSnapshotAt after s id) → KeepsConsumers h f after
  kept-consumers h snapshots = record { files = consumers; settled = λ names have. have-same h snapshots names have }

-- where no path has another content
pub same-keeps : (f after : Files) → ((path : List ℕ) → map.get after path ≡ map.get f path) → (h : History) → KeepsConsumers h f after
same-keeps f after same h =
    kept-consumers f after (λ name. same (consumer_path name)) h
    (λ s is id. snapshot-same f after s id (λ zero_is name named. same (snapshot_file name)) (λ k at. same (snapshot_path (suc k))))
