-- What is changed beside the history of a table is a step of its past.
use Rattle.std.proofs.Common.{◌≡◌, ◌≢◌, inl, inr, ℕ, suc, ◌<◌, ◌≤◌, List, length, Option, Some, None, IsSome, refl, sym, ap, subst, ◌∙◌}
use Rattle.std.specs.FinMap as map
use Rattle.pm_store.specs.Files.{Files, Puts}
use Rattle.pm_model_consumers.specs.Claims.{Claim}
use Rattle.pm_model_history.specs.History.{Entry, History, IsTableOf, table}
use Rattle.pm_schema.specs.declared.schema.TableSchema.{TableSchema}
use Rattle.pm_snapshot.specs.Names.{greatest}
use Rattle.pm_model_folder.specs.Changes.{Actor, Beside, Change, HavePlainNames, IsConsumerFile, IsPlain, IsSnapshotPath, IsTablePath, IsUnneeded, beside as changes_beside, consumer, expired, floor, forgotten, removed}
use Rattle.pm_model_folder.specs.Commits.{Needs}
use Rattle.pm_model_folder.specs.Folder.{IsAnnounced}
use Rattle.pm_model_folder.specs.Ledger.{Advances, AreAbove, IsKnown, IsUnnamed, MovesConsumers, Past, WasNamed, untouched}
use Rattle.pm_model_folder.specs.Meaning.{HasSnapshotAt, IsLeast}
use Rattle.pm_model_folder.specs.Paths.{consumer_path, floor_path, snapshot_file}
use Rattle.pm_model_folder.proofs.BesideLemmas.{consumer-table, floor-consumer, floor-snapshot, floor-table, needs-no_consumer, needs-no_floor, snapshot-table}
use Rattle.pm_model_folder.proofs.ConsumerLemmas.{beside-snapshots}
use Rattle.pm_model_folder.proofs.ExpiryLemmas.{no-table, one-least, path-file}
use Rattle.pm_model_folder.proofs.Facts.{same-path, some-none}
use Rattle.pm_model_folder.proofs.LedgerFacts.{beside-moving}
use Rattle.pm_model_folder.proofs.PathLemmas.{consumer-snapshot}

module _ (me : Actor) (f after : Files) (p : Past) (s : TableSchema) (entries : List Entry) (was : p.history ≡ table s entries) (plain : HavePlainNames s) where
  one-table : (t : TableSchema) → IsTableOf t p.history → s ≡ t
  one-table t is = subst (λ (h : History). IsTableOf t h) was is

  module _ (path : List ℕ) (content : Option (List ℕ)) (puts : Puts f path content after) where
    -- what appears is at that path, where no snapshot needs it
    fresh-at : ((id : ℕ) → IsKnown p id → Needs (p.stood id) s id path → ⊥)
        → (t : TableSchema) (q : List ℕ) → IsTableOf t p.history → map.get f q ≡ None → IsSome (map.get after q) → IsUnnamed p t q
    fresh-at unneeded t q is none here = λ id known needs. elim (same-path q path) as (λ _. ⊥) [
      | inl same ↦ unneeded id known (subst (λ (t : TableSchema). Needs (p.stood id) t id path) (sym (one-table t is))
          (subst (λ (q : List ℕ). Needs (p.stood id) t id q) same needs))
      | inr other ↦ some-none (map.get after q) here (puts.others q other ∙ none)
    ]

    -- what goes is at that path
    gone-at : (IsTablePath path → IsSome (map.get f path) → WasNamed p s path)
        → (t : TableSchema) (q : List ℕ) → IsTableOf t p.history → IsTablePath q → IsSome (map.get f q) → map.get after q ≡ None → WasNamed p t q
    gone-at named t q is in_table there absent = elim (same-path q path) as (λ _. WasNamed p t q) [
      | inl same ↦ subst (λ (t : TableSchema). WasNamed p t q) (one-table t is)
          (subst (λ (q : List ℕ). WasNamed p s q) (sym same)
          (named (subst IsTablePath same in_table) (subst (λ (q : List ℕ). IsSome (map.get f q)) same there)))
      | inr other ↦ absurd (some-none (map.get f q) there (sym (puts.others q other) ∙ absent))
    ]

    -- no snapshot goes where the path is that of none
    none-spared : ((name : List ℕ) → path ≢ snapshot_file name) → (t : TableSchema) (least : ℕ) → IsTableOf t p.history → IsLeast f t least
        → (HasSnapshotAt after t least → ⊥) → AreAbove f p.claims least
    none-spared other t least is first gone name said counts at =
        absurd (gone ((beside-snapshots f after t path content puts other least).0 first.there))

  step : (claims : List ℕ → Claim) → Beside f s entries after
      → ((t : TableSchema) (q : List ℕ) → IsTableOf t p.history → map.get f q ≡ None → IsSome (map.get after q) → IsUnnamed p t q)
      → ((t : TableSchema) (q : List ℕ) → IsTableOf t p.history → IsTablePath q → IsSome (map.get f q) → map.get after q ≡ None → WasNamed p t q)
      → ((t : TableSchema) (least : ℕ) → IsTableOf t p.history → IsLeast f t least → (HasSnapshotAt after t least → ⊥) → AreAbove f p.claims least)
      → MovesConsumers me f after p.history p.claims claims → Advances me f p after (record p { claims = claims })
  step claims change fresh gone spared move =
      beside-moving me f after p p.history claims (subst (λ (h : History). Change me f h after h) (sym was) (changes_beside s entries plain change)) refl fresh gone spared move

  -- a consumer's file
  pub consumer-step : (name : List ℕ) (content : Option (List ℕ)) (claims : List ℕ → Claim) → IsPlain name → IsConsumerFile content
      → Puts f (consumer_path name) content after → MovesConsumers me f after p.history p.claims claims → Advances me f p after (record p { claims = claims })
  consumer-step name content claims is_plain reads puts move =
      step claims (consumer name content is_plain reads puts)
      (fresh-at (consumer_path name) content puts (λ id known needs. needs-no_consumer (p.stood id) s id (consumer_path name) name plain needs refl))
      (gone-at (consumer_path name) content puts (λ in_table there. absurd (consumer-table name in_table)))
      (none-spared (consumer_path name) content puts (consumer-snapshot name)) move

  -- a floor appears
  pub floor-step : (n : ℕ) (found : List ℕ) → n ≤ length entries → map.get f (floor_path n) ≡ None → Puts f (floor_path n) (Some found) after → Advances me f p after p
  floor-step n found below absent puts =
      step p.claims (floor n found below absent puts)
      (fresh-at (floor_path n) (Some found) puts (λ id known needs. needs-no_floor (p.stood id) s id (floor_path n) n plain needs refl))
      (gone-at (floor_path n) (Some found) puts (λ in_table there. absurd (floor-table n in_table)))
      (none-spared (floor_path n) (Some found) puts (floor-snapshot n))
      (untouched (λ name. puts.others (consumer_path name) (λ e. floor-consumer n name (sym e))))

  -- or goes
  pub forget-step : (n above : ℕ) → n < above → above ≤ greatest → IsSome (map.get f (floor_path above)) → Puts f (floor_path n) None after → Advances me f p after p
  forget-step n above less high there puts =
      step p.claims (forgotten n above less high there puts)
      (fresh-at (floor_path n) None puts (λ id known needs. needs-no_floor (p.stood id) s id (floor_path n) n plain needs refl))
      (gone-at (floor_path n) None puts (λ in_table is. absurd (floor-table n in_table)))
      (none-spared (floor_path n) None puts (floor-snapshot n))
      (untouched (λ name. puts.others (consumer_path name) (λ e. floor-consumer n name (sym e))))

  -- nothing appears where a file goes
  none-fresh : (path : List ℕ) → Puts f path None after
      → (t : TableSchema) (q : List ℕ) → IsTableOf t p.history → map.get f q ≡ None → IsSome (map.get after q) → IsUnnamed p t q
  none-fresh path puts t q is none here = elim (same-path q path) as (λ _. IsUnnamed p t q) [
    | inl same ↦ absurd (some-none (map.get after q) here (ap (map.get after) same ∙ puts.here))
    | inr other ↦ absurd (some-none (map.get after q) here (puts.others q other ∙ none))
  ]

  -- the least snapshot goes
  pub expire-step : (least : ℕ) (path : List ℕ) → IsLeast f s least → IsSnapshotPath s least path → least < length entries → IsAnnounced f (suc least)
      → Puts f path None after → AreAbove f p.claims least → Advances me f p after p
  expire-step least path is_least is below announced puts above =
      step p.claims (expired least path is_least is below announced puts) (none-fresh path puts)
      (gone-at path None puts (λ in_table there. absurd (no-table s least path is in_table)))
      (λ t other is_t first gone. subst (AreAbove f p.claims)
      (one-least f s least other is_least (subst (λ (t : TableSchema). IsLeast f t other) (sym (one-table t is_t)) first)) above)
      (untouched (λ name. puts.others (consumer_path name) (λ e. consumer-snapshot name file.0 (e ∙ file.1))))
    where
      file : (name : List ℕ) × (path ≡ snapshot_file name)
      file = path-file s least path is

  -- a file goes
  pub remove-step : (path : List ℕ) → IsTablePath path → IsUnneeded f s path → WasNamed p s path → Puts f path None after → Advances me f p after p
  remove-step path in_table unneeded named puts =
      step p.claims (removed path in_table unneeded puts) (none-fresh path puts) (gone-at path None puts (λ again there. named))
      (none-spared path None puts (λ name e. snapshot-table name (subst IsTablePath e in_table)))
      (untouched (λ name. puts.others (consumer_path name) (λ e. consumer-table name (subst IsTablePath (sym e) in_table))))
