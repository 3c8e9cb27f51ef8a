-- Who reads next what an expiry keeps.
use Rattle.std.proofs.Common.{◌≡◌, inl, inr, ℕ, ◌≤◌, List, Some, Ok, sym, ap, ◌∙◌, arith}
use Rattle.std.proofs.lemmas.Bool.{cases_lt}
use Rattle.pm_store.specs.Files.{Files}
use Rattle.pm_schema.specs.declared.schema.TableSchema.{TableSchema}
use Rattle.pm_snapshot.specs.Consumer.{consumer_in}
use Rattle.pm_snapshot.specs.Names.{greatest}
use Rattle.pm_snapshot.specs.declared.consumer.Consumer.{Consumer}
use Rattle.pm_model_history.specs.History.{Entry, table}
use Rattle.pm_model_consumers.specs.Claims.{Counts}
use Rattle.pm_model_folder.specs.Ledger.{Past, Stands}
use Rattle.pm_model_folder.specs.Meaning.{ConsumerAt, IsLeast}
use Rattle.pm_model_folder.proofs.LedgerFacts.{at-table, count-is}
use Rattle.pm_expire.specs.Meaning.{KnowsDone}

-- what the law of consumers says of one that counts
abbrev pub Counted : Type 0
Counted = (f : Files) (p : Past) (s : TableSchema) (entries : List Entry) (name : List ℕ) → Stands f p → p.history ≡ table s entries → Counts (p.claims name)
    → (least : ℕ) × IsLeast f s least × ((c : Consumer) × ConsumerAt f name c × (least ≤ c.next))

-- what the law of a consumer's text says of its number
abbrev pub ReadsNext : Type 0
ReadsNext = (text : List ℕ) (c : Consumer) → consumer_in text ≡ Ok c → 1 ≤ c.next

-- where the least snapshot is at most a number, the first that was kept is
pub kept_for : (first last least next : ℕ) (f : Files) (p : Past) → Stands f p → (done : KnowsDone first last f p) → IsLeast f done.schema least → least ≤ next
    → 1 ≤ next → first ≤ next
kept_for first last least next f p stands done is low some = elim (cases_lt next first) as (λ _. first ≤ next) [
  | inr within ↦ within
  | inl above ↦ (
      let own = at-table f p done.schema stands done.table in
      let many = count-is p done.schema own.0 own.1 in
      let has = own.2.snapshots in
      let to = done.gone.within in
      let high = has.within in
      let top : next ≤ greatest = omega (arith, above, to, many, high) in
      let from = ((has.exact least (omega (arith, top, low))).0 is.there).0 in
      absurd (done.gone.gone next some above ((has.exact next top).1 (omega (arith, from, low), omega (arith, above, to, many))))
      )
]

one_consumer : (f : Files) (name : List ℕ) (c d : Consumer) → ConsumerAt f name c → ConsumerAt f name d → c ≡ d
one_consumer f name c d (bytes, is, reads) (others, was, read) =
    let same : Some bytes ≡ Some others = sym is ∙ was in
    let bytes_same : bytes ≡ others = cc in
    let reads_same : Ok c ≡ Ok d = sym reads ∙ (ap consumer_in bytes_same ∙ read) in
    cc

pub counts_for : Counted → ReadsNext → (first last : ℕ) (f : Files) (p : Past) (name : List ℕ) (c : Consumer) → Stands f p → KnowsDone first last f p
    → Counts (p.claims name) → ConsumerAt f name c → first ≤ c.next
counts_for counted reads first last f p name c stands done counts there =
    let own = at-table f p done.schema stands done.table in
    at (counted f p done.schema own.0 name stands own.1 counts)
  where
    at : (least : ℕ) × IsLeast f done.schema least × ((d : Consumer) × ConsumerAt f name d × (least ≤ d.next)) → first ≤ c.next
    at (least, is, (d, also, low)) =
        let same : d.next ≡ c.next = ap (λ (c : Consumer). c.next) (one_consumer f name d c also there) in
        kept_for first last least c.next f p stands done is (omega (arith, low, same)) (reads there.0 c there.2)
