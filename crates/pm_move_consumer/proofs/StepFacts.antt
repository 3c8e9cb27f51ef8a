-- What laws of crates below say, for movers and droppers.
use Rattle.std.proofs.Common.{◌≡◌, ◌≢◌, ℕ, ◌<◌, ◌≤◌, ◌^◌, List, [], codes, Contains, Bool, true, false, true≢false, if◌then◌else◌, Option, Ok, refl, sym, ◌∙◌}
use Rattle.std.specs.Str.{bytes_eq}
use Rattle.std.proofs.lemmas.Slice.Eq.{bytes_eq-Decides}
use Rattle.std.proofs.lemmas.List.{append_cancel_left}
use Rattle.pm_store.specs.Files.{Files, Puts}
use Rattle.pm_model_consumers.specs.Claims.{Claim, settled, with_claim}
use Rattle.pm_model_history.specs.History.{Entry, GoesOn, History, IsTableOf, no_table, table}
use Rattle.pm_schema.specs.declared.schema.TableSchema.{TableSchema}
use Rattle.pm_snapshot.specs.Consumer.{consumer_in, consumer_text}
use Rattle.pm_snapshot.specs.declared.consumer.Consumer.{Consumer}
use Rattle.pm_model_folder.specs.Changes.{Actor, HavePlainNames, IsConsumerFile, IsPlain}
use Rattle.pm_model_folder.specs.Folder.{Folder, HaveSettled}
use Rattle.pm_model_folder.specs.Ledger.{Advances, MovesConsumers, OthersStay, Past, Stands}
use Rattle.pm_model_folder.specs.Paths.{consumer_path}
use Rattle.pm_read_schema.proofs.Facts.{still_table}
use Rattle.pm_move_consumer.specs.MoverMeaning.{HasPlainTable}

-- a consumer's file that is written, or goes, is a step of the past
abbrev pub ConsumerSteps : Type 0
ConsumerSteps = (me : Actor) (f after : Files) (p : Past) (s : TableSchema) (entries : List Entry) (name : List ℕ) (content : Option (List ℕ))
    (claims : List ℕ → Claim) → p.history ≡ table s entries → HavePlainNames s → IsPlain name → IsConsumerFile content
    → Puts f (consumer_path name) content after → MovesConsumers me f after p.history p.claims claims → Advances me f p after (record p { claims = claims })

-- each kind of change keeps what is known
abbrev pub PastKept : Type 0
PastKept = (me : Actor) (f after : Files) (p q : Past) → Stands f p → Advances me f p after q → Stands after q

-- a consumer's own text is read as it
abbrev pub ReadsAgain : Type 0
ReadsAgain = (c : Consumer) → 1 ≤ c.next → c.next < 2 ^ 64 → consumer_in (consumer_text c) ≡ Ok c

-- a consumer that is read reads a snapshot after the origin next
abbrev pub ReadsNext : Type 0
ReadsNext = (text : List ℕ) (c : Consumer) → consumer_in text ≡ Ok c → 1 ≤ c.next

-- what the laws of settled consumers say
abbrev pub SettledFound : Type 0
SettledFound = (f : Files) (h : History) (names : List (List ℕ)) → Folder f h → HaveSettled f h names
    → (p : Past) × (p.history ≡ h) × Stands f p × ((name : List ℕ) → Contains names name → (from : ℕ) × (p.claims name ≡ settled from []))

abbrev pub SettledKnown : Type 0
SettledKnown = (f : Files) (p : Past) (names : List (List ℕ)) → Stands f p → ((name : List ℕ) → Contains names name
    → (from : ℕ) × (moved : List (List ℕ)) × (p.claims name ≡ settled from moved)) → HaveSettled f p.history names

-- an actor that makes the call where nobody else acts
pub nobody : Actor
nobody = record { session = []; number = 0 }

-- the files of other consumers stay
pub others-stay : (f after : Files) (name : List ℕ) (content : Option (List ℕ)) → Puts f (consumer_path name) content after → OthersStay f name after
others-stay f after name content puts other apart =
    puts.others (consumer_path other) (λ same. apart (append_cancel_left (codes "consumer/consumer-") other name same))

-- the entries of a table
pub of-table : (s : TableSchema) (h : History) → IsTableOf s h → (entries : List Entry) × (h ≡ table s entries)
of-table s no_table is = absurd is
of-table s (table t entries) is = (entries, λ i. table (is i) entries)

pub plain-table : (h later : History) → GoesOn h later → HasPlainTable h → HasPlainTable later
plain-table h later goes has = (has.0, still_table has.0 h later goes has.1, has.2)

-- a past with other claims
pub claimed-step : ConsumerSteps → (me : Actor) (f after : Files) (p : Past) (name : List ℕ) (content : Option (List ℕ)) (claims : List ℕ → Claim)
    → HasPlainTable p.history → IsPlain name → IsConsumerFile content → Puts f (consumer_path name) content after
    → MovesConsumers me f after p.history p.claims claims → Advances me f p after (record p { claims = claims })
claimed-step steps me f after p name content claims has plain reads puts move =
    let (entries, is) = of-table has.0 p.history has.1 in
    steps me f after p has.0 entries name content claims is has.2 plain reads puts move

-- what is known of one name, and of every other
pub with-claim : (P : Claim → Type 0) (name : List ℕ) (claim : Claim) (claims : List ℕ → Claim) (other : List ℕ) → (other ≡ name → P claim)
    → (other ≢ name → P (claims other)) → P (with_claim name claim claims other)
with-claim P name claim claims other here there = by (bytes_eq other name) refl
  where
    by : (t : Bool) → bytes_eq other name ≡ t → P (if t then claim else claims other)
    by true is = here ((bytes_eq-Decides other name).0 is)
    by false is = there (λ same. true≢false (sym ((bytes_eq-Decides other name).1 same) ∙ is))
