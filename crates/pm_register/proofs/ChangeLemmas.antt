-- What each call of a registrar does to the files and to a past.
use Rattle.std.proofs.Common.{◌≡◌, ◌≢◌, inl, inr, ℕ, suc, ◌<◌, ◌≤◌, ◌^◌, List, [], codes, Bool, true, false, true≢false, cond, if◌then◌else◌, Option, None, Some, IsSome, Result, Ok, refl, sym, ap, ◌∙◌, subst, arith, bytes_eq}
use Rattle.std.specs.FinMap as map
use Rattle.std.proofs.lemmas.List.{append_cancel_left}
use Rattle.std.proofs.lemmas.Slice.Eq.{bytes_eq-Decides}
use Rattle.pm_store.specs.declared.call.Call.TheVariants as calls
use Rattle.pm_store.specs.declared.call.Effect.{Effect}
use Rattle.pm_store.specs.declared.call.Effect.TheVariants as effects
use Rattle.pm_store.specs.Files.{Files, IsListing, Puts, after_effect, is_same}
use Rattle.pm_store.proofs.FileLaws.{is_same-equal, is_same-itself}
use Rattle.pm_model_consumers.specs.Changes.{HasLost, IsUnsettled}
use Rattle.pm_model_consumers.specs.Claims.{Claim, Said, free, known_at, new_at, settled, waits, with_claim}
use Rattle.pm_model_history.specs.History.{Entry, History, IsTableOf, table}
use Rattle.pm_schema.specs.declared.schema.TableSchema.{TableSchema}
use Rattle.pm_snapshot.specs.Consumer.{consumer_in, consumer_text}
use Rattle.pm_snapshot.specs.Names.{greatest}
use Rattle.pm_snapshot.specs.declared.consumer.Consumer.{Consumer}
use Rattle.pm_snapshot.specs.declared.fault.SnapFault.{SnapFault}
use Rattle.pm_model_folder.specs.Changes.{Actor, HavePlainNames, IsConsumerFile, IsPlain, nothing}
use Rattle.pm_model_folder.specs.Consumers.{follower_of, said_at, said_in, said_of}
use Rattle.pm_model_folder.specs.Ledger.{Advances, MovesConsumers, OthersStay, Past, Stands, count_of, lists, registers, settles, usurps}
use Rattle.pm_model_folder.specs.Paths.{consumer_path, floor_folder, floor_path}
use Rattle.pm_consumer_files.proofs.FloorPaths.{floor-listed}
use Rattle.pm_model_folder.proofs.Facts.{some-none, still_there}
use Rattle.pm_model_folder.proofs.LedgerFacts.{at-table, beside, beside-moving, count-is, none-spared}
use Rattle.pm_consumer_files.specs.Floors.{Exceeds}
use Rattle.pm_register.specs.Meaning.{HasPut, IsWithin, Registers, WaitsIn}
use Rattle.pm_register.specs.Registrar.{IsRegistering, IsUnregistered, Registering, consumer_at, known_text, new_text}

-- ---- laws of crates below

-- what is written of a consumer is read as it
abbrev pub ConsumersRead : Type 0
ConsumersRead = (c : Consumer) → 1 ≤ c.next → c.next < 2 ^ 64 → consumer_in (consumer_text c) ≡ Ok c

-- each kind of change keeps a past
abbrev pub PastStays : Type 0
PastStays = (me : Actor) (f after : Files) (p q : Past) → Stands f p → Advances me f p after q → Stands after q

-- a consumer's file that is written is a step of the past
abbrev pub ConsumerSteps : Type 0
ConsumerSteps = (me : Actor) (f after : Files) (p : Past) (s : TableSchema) (entries : List Entry) (name : List ℕ)
    (content : Option (List ℕ)) (claims : List ℕ → Claim) → p.history ≡ table s entries → HavePlainNames s → IsPlain name
    → IsConsumerFile content → Puts f (consumer_path name) content after → MovesConsumers me f after p.history p.claims claims
    → Advances me f p after (record p { claims = claims })

pub record Laws : Type 0 where
  pub reads : ConsumersRead
  pub stays : PastStays
  pub steps : ConsumerSteps

-- ---- the texts of its file

-- they are read as its consumer
pub record AreTexts (r : Registering) : Type 0 where
  pub fresh : consumer_in (new_text r.next) ≡ Ok (consumer_at r.next true)
  pub known : consumer_in (known_text r.next) ≡ Ok (consumer_at r.next false)

pub texts-of : ConsumersRead → (r : Registering) (f : Files) (p : Past) → IsRegistering r → Stands f p → IsWithin r p → AreTexts r
texts-of reads r f p is stands within = record {
  fresh = reads (consumer_at r.next true) is.next bits;
  known = reads (consumer_at r.next false) is.next bits;
}
  where
    bits : r.next < 2 ^ 64
    bits =
        let (entries, was, folder, known) = at-table f p within.schema stands within.is in
        let low = within.next in
        let same = count-is p within.schema entries was in
        let high = folder.snapshots.within in
        omega (arith, low, same, high)

-- what the file says then
pub new-said : (r : Registering) (after : Files) → AreTexts r → map.get after (consumer_path r.name) ≡ Some (new_text r.next)
    → said_at after r.name ≡ Some (new_at r.next)
new-said r after texts here = ap said_in here ∙ ap said_of texts.fresh

pub known-said : (r : Registering) (after : Files) → AreTexts r → map.get after (consumer_path r.name) ≡ Some (known_text r.next)
    → said_at after r.name ≡ Some (known_at r.next)
known-said r after texts here = ap said_in here ∙ ap said_of texts.known

-- what was found isn't settled
found-unsettled : (found : Option (List ℕ)) → IsUnregistered found → IsUnsettled (said_in found)
found-unsettled None is = tt
found-unsettled (Some bytes) (next, is) = subst (λ (c : Result Consumer SnapFault). IsUnsettled (said_of c)) (sym is) refl

-- ---- names and claims

pub claim-here : (name : List ℕ) (claim : Claim) (claims : List ℕ → Claim) → with_claim name claim claims name ≡ claim
claim-here name claim claims = ap (λ t. cond t claim (claims name)) ((bytes_eq-Decides name name).1 refl)

pub claim-other : (name other : List ℕ) (claim : Claim) (claims : List ℕ → Claim) → other ≢ name → with_claim name claim claims other ≡ claims other
claim-other name other claim claims apart = at (bytes_eq other name) refl
  where
    at : (t : Bool) → bytes_eq other name ≡ t → with_claim name claim claims other ≡ claims other
    at true same = absurd (apart ((bytes_eq-Decides other name).0 same))
    at false is = ap (λ t. cond t claim (claims other)) is

path-other : (name other : List ℕ) → other ≢ name → consumer_path other ≢ consumer_path name
path-other name other apart same = apart (append_cancel_left (codes "consumer/consumer-") other name same)

others-stay : (f after : Files) (name : List ℕ) (content : Option (List ℕ)) → Puts f (consumer_path name) content after → OthersStay f name after
others-stay f after name content puts other apart = puts.others (consumer_path other) (path-other name other apart)

-- ---- it is within the table still

pub within-same : (r : Registering) (p q : Past) → q.history ≡ p.history → IsWithin r p → IsWithin r q
within-same r p q same within = record {
  schema = within.schema;
  is = subst (λ (h : History). IsTableOf within.schema h) (sym same) within.is;
  plain = within.plain;
  next = subst (λ (h : History). r.next ≤ suc (count_of h)) (sym same) within.next;
}

-- ---- nothing changes

pub rests : (me : Actor) (r : Registering) (f after : Files) (p : Past) → ((path : List ℕ) → map.get after path ≡ map.get f path) → Registers me r f p after p
rests me r f after p same = record {
  advances = beside me f after p p.history (nothing same) refl
      (λ s path is none here. absurd (some-none (map.get after path) here (same path ∙ none)))
      (λ path there. still_there f after path (same path) there) (λ name. same (consumer_path name));
  history = refl;
  files = λ path apart. same path;
  claims = λ other apart. refl;
  keeps = λ next says. same;
}

-- ---- its file is written

fresh-of : Option Said → Bool
fresh-of None = true
fresh-of (Some said) = said.fresh

-- a file that isn't settled, or that is new, isn't one that is known
no-known : (said : Option Said) (next : ℕ) → IsUnsettled said → said ≡ Some (known_at next) → ⊥
unfolding fresh-of
no-known None next is same = absurd (let clash = same in cc)
no-known (Some said) next is same = true≢false (sym is ∙ ap fresh-of same)

module _ (laws : Laws) (me : Actor) (r : Registering) (f after : Files) (p : Past) (is : IsRegistering r) (stands : Stands f p) (within : IsWithin r p) where
  texts : AreTexts r
  texts = texts-of laws.reads r f p is stands within

  puts-with : (bytes : List ℕ) (claim : Claim) → IsUnsettled (said_at f r.name) → IsConsumerFile (Some bytes) → Puts f (consumer_path r.name) (Some bytes) after
      → MovesConsumers me f after p.history p.claims (with_claim r.name claim p.claims)
      → Registers me r f p after (record p { claims = with_claim r.name claim p.claims })
  puts-with bytes claim unsettled file puts step =
      let (entries, was, folder, known) = at-table f p within.schema stands within.is in
      record {
        advances = laws.steps me f after p within.schema entries r.name (Some bytes) (with_claim r.name claim p.claims) was within.plain is.plain file puts step;
        history = refl;
        files = λ path apart. puts.others path apart;
        claims = λ other apart. claim-other r.name other claim p.claims apart;
        keeps = λ next says path. absurd (no-known (said_at f r.name) next unsettled says);
      }

  new-unsettled : said_at f r.name ≡ Some (new_at r.next) → IsUnsettled (said_at f r.name)
  new-unsettled says = subst IsUnsettled (sym says) refl

  -- as new: its actor waits
  pub puts-new : map.get f (consumer_path r.name) ≡ r.found → Puts f (consumer_path r.name) (Some (new_text r.next)) after
      → (later : Past) × Registers me r f p after later × WaitsIn me r false after later
  puts-new found puts =
      let said = new-said r after texts puts.here in
      let unsettled : IsUnsettled (said_at f r.name) =
      subst (λ (content : Option (List ℕ)). IsUnsettled (said_in content)) (sym found) (found-unsettled r.found is.found) in (
        record p { claims = with_claim r.name (waits (follower_of me) false) p.claims },
        puts-with (new_text r.next) (waits (follower_of me) false) unsettled (consumer_at r.next true, texts.fresh) puts
            (registers r.name r.next is.next within.next unsettled said
            (others-stay f after r.name (Some (new_text r.next)) puts)),
        record { claim = claim-here r.name (waits (follower_of me) false) p.claims; file = said },
      )

  -- as settled: its name is, where it waits with the floors listed
  pub settles-name : WaitsIn me r true f p → Puts f (consumer_path r.name) (Some (known_text r.next)) after
      → (later : Past) × Registers me r f p after later × (said_at after r.name ≡ Some (known_at r.next)) × (later.claims r.name ≡ settled r.next [])
  settles-name wait puts =
      let said = known-said r after texts puts.here in (
        record p { claims = with_claim r.name (settled r.next []) p.claims },
        puts-with (known_text r.next) (settled r.next []) (new-unsettled wait.file) (consumer_at r.next false, texts.known) puts
            (settles r.name r.next wait.claim wait.file said (others-stay f after r.name (Some (known_text r.next)) puts)),
        said,
        claim-here r.name (settled r.next []) p.claims,
      )

  -- and nothing is known of it, where another touched the file before
  pub settles-other : HasLost (follower_of me) (p.claims r.name) → map.get f (consumer_path r.name) ≡ Some (new_text r.next)
      → Puts f (consumer_path r.name) (Some (known_text r.next)) after
      → (later : Past) × Registers me r f p after later × (said_at after r.name ≡ Some (known_at r.next)) × (later.claims r.name ≡ free)
  settles-other lost found puts =
      let said = known-said r after texts puts.here in (
        record p { claims = with_claim r.name free p.claims },
        puts-with (known_text r.next) free (new-unsettled (new-said r f texts found)) (consumer_at r.next false, texts.known) puts
            (usurps r.name r.next lost (new-said r f texts found) said (others-stay f after r.name (Some (known_text r.next)) puts)),
        said,
        claim-here r.name free p.claims,
      )

-- ---- the floors are listed

-- no floor exceeds the number
abbrev pub NoneAbove : Files → ℕ → Type 0
NoneAbove f next = (n : ℕ) → n ≤ greatest → IsSome (map.get f (floor_path n)) → n ≤ next

pub none-above : (f : Files) (names : List (List ℕ)) (next : ℕ) → IsListing floor_folder names f → Exceeds names next None → NoneAbove f next
none-above f names next listing exceeds n within there = exceeds n (within, floor-listed f names n listing within there)

-- who waits has listed them then
pub lists-floors : (me : Actor) (r : Registering) (f : Files) (p : Past) → NoneAbove f r.next → WaitsIn me r false f p
    → (later : Past) × Registers me r f p f later × WaitsIn me r true f later
lists-floors me r f p none wait =
    let claims : List ℕ → Claim = with_claim r.name (waits (follower_of me) true) p.claims in (
      record p { claims = claims },
      record {
        advances = beside-moving me f f p p.history claims (nothing (λ path. refl)) refl
            (λ s path is absent here. absurd (some-none (map.get f path) here absent))
            (λ s path is in_table there absent. absurd (some-none (map.get f path) there absent))
            (λ s least is first gone. none-spared f f p.claims s least (λ path there. there) first gone)
            (lists r.name r.next (λ path. refl) wait.claim wait.file none);
        history = refl;
        files = λ path apart. refl;
        claims = λ other apart. claim-other r.name other (waits (follower_of me) true) p.claims apart;
        keeps = λ next says path. refl;
      },
      record { claim = claim-here r.name (waits (follower_of me) true) p.claims; file = wait.file },
    )

-- and who doesn't knows of it that it was touched
pub put-listed : (me : Actor) (r : Registering) (f : Files) (p : Past) → NoneAbove f r.next → HasPut me r false f p
    → (later : Past) × Registers me r f p f later × HasPut me r true f later
put-listed me r f p none (inl wait) =
    let (later, change, waiting) = lists-floors me r f p none wait in (later, change, inl waiting)
put-listed me r f p none (inr lost) = (p, rests me r f f p (λ path. refl), inr lost)

-- ---- how much of a swap is carried out

pub swap-effects : (path bytes : List ℕ) (expected : Option (List ℕ)) (f : Files) (P : Files → Type 0) → P f
    → (map.get f path ≡ expected → P (map.insert f path bytes)) → (effect : Effect) → P (after_effect (calls.Swap path expected bytes) effect f)
swap-effects path bytes expected f P same made effects.None = same
swap-effects path bytes expected f P same made (effects.Part found) = same
swap-effects path bytes expected f P same made effects.Whole = at (is_same (map.get f path) expected) refl
  where
    at : (t : Bool) → is_same (map.get f path) expected ≡ t → P (if t then map.insert f path bytes else f)
    at true is = made (is_same-equal (map.get f path) expected is)
    at false is = same

-- whether two contents are the same
pub same-content : (a b : Option (List ℕ)) (P : Type 0) → (a ≡ b → P) → (a ≢ b → P) → P
same-content a b P same other = at (is_same a b) refl
  where
    at : (t : Bool) → is_same a b ≡ t → P
    at true is = same (is_same-equal a b is)
    at false is = other (λ e. true≢false (sym (subst (λ (c : Option (List ℕ)). is_same a c ≡ true) e (is_same-itself a)) ∙ is))
