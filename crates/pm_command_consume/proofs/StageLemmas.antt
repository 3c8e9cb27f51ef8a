-- The files while a consumer is followed where nobody else acts: which stage they are at, and how calls lead from one to the next.
use Rattle.std.proofs.Common.{◌≡◌, ◌≢◌, ◌⊎◌, inl, inr, ℕ, zero, suc, ◌^◌, ◌<◌, ◌≤◌, Bool, true, false, List, [], ◌∷◌, length, Contains, Option, None, Some, IsSome, Result, Ok, Err, refl, sym, ap, subst, ◌∙◌, arith}
use Rattle.std.proofs.lemmas.Bool.{cases_lt}
use Rattle.std.specs.FinMap as map
use Rattle.pm_store.specs.Files.{Files}
use Rattle.pm_store.specs.Images.{Extends}
use Rattle.pm_store.specs.Store.{StoreView}
use Rattle.pm_store.proofs.ImageLaws.{Extends-trans, Extends-weaker}
use Rattle.pm_store.proofs.StepLaws.{alone_parts}
use Rattle.pm_machine.specs.Trace.{Event, Traces}
use Rattle.pm_machine.proofs.AloneLaws.{Traces-later}
use Rattle.pm_snapshot.specs.Consumer.{consumer_in, consumer_text}
use Rattle.pm_snapshot.specs.Names.{greatest}
use Rattle.pm_snapshot.specs.declared.consumer.Consumer.{Consumer}
use Rattle.pm_snapshot.specs.declared.fault.SnapFault.{SnapFault}
use Rattle.pm_schema.specs.declared.schema.TableSchema.{TableSchema}
use Rattle.pm_model_consumers.specs.Claims.{Said, known_at}
use Rattle.pm_model_history.specs.History.{Entry, table}
use Rattle.pm_model_folder.specs.Consumers.{said_at, said_in, said_of}
use Rattle.pm_model_folder.specs.Folder.{HasTable, HaveSettled, IsSettled}
use Rattle.pm_model_folder.specs.Meaning.{ConsumerAt, HasSnapshotAt}
use Rattle.pm_model_folder.specs.Paths.{consumer_path, snapshot_path}
use Rattle.pm_model_folder.proofs.Facts.{some-none}
use Rattle.pm_model_folder.proofs.PathLemmas.{consumer-snapshot}
use Rattle.pm_scan.specs.AllCalls.{path_of}
use Rattle.pm_read_schema.specs.AllCalls.{HasFiles, Stay}
use Rattle.pm_read_schema.proofs.StillLemmas.{stayed}
use Rattle.pm_register.specs.Registrar.{IsUnregistered, consumer_at}
use Rattle.pm_command_follow.specs.Follow.{Then}
use Rattle.pm_command_follow.proofs.JoinLemmas.{IsRun, Traces-split}
use Rattle.pm_command_consume.specs.Alone.{Beginning, IsImage, IsThere, IsWithin, Stage, StandsAt, names_at, names_with, passed, settled_in, untouched}
use Rattle.pm_command_consume.specs.declared.consuming.Consuming.{Consuming}

-- ---- calls one after another, where files change

-- these files are there at the end, each image between is so, and this is so of them
pub record Came (I A : Files → Type 0) (first after : StoreView) : Type 0 where
  pub files : Files
  pub has : HasFiles files after
  pub images : Extends I first.ops after.ops
  pub so : A files

pub in_turns : {First Next : List Event → Type 0} (I A B : Files → Type 0) (f : Files) (own : List Event) (first after : StoreView) → Then First Next own
    → IsRun f own first after
    → ((earlier : List Event) (middle : StoreView) → First earlier → IsRun f earlier first middle → Came I A first middle)
    → ((g : Files) → A g → (later : List Event) (middle : StoreView) → Next later → first.faults ≤ middle.faults → IsRun g later middle after → Came I B middle after)
    → Came I B first after
in_turns I A B f own first after (earlier, later, did, does, is) run before then_so =
    let parts = Traces-split earlier later first after (subst (λ (own : List Event). Traces own first after) is run.trace) in
    let early = Traces-later earlier first parts.0 parts.1 in
    let late = Traces-later later parts.0 after parts.2 in
    let alone = alone_parts first parts.0 after early late run.alone in
    let one = before earlier parts.0 did (record { trace = parts.1; alone = alone.0; has = run.has }) in
    let other = then_so one.files one.so later parts.0 does early.faults (record { trace = parts.2; alone = alone.1; has = one.has }) in
    record {
      files = other.files;
      has = other.has;
      images = Extends-trans I first.ops parts.0.ops after.ops one.images other.images;
      so = other.so;
    }

-- files that stay
pub stays : (I A : Files → Type 0) (f : Files) (first after : StoreView) → I f → A f → Stay f first after → Came I A first after
stays I A f first after image so stay = record {
  files = f;
  has = stay.here;
  images = Extends-weaker (λ g. g ≡ f) I first.ops after.ops (λ g is. subst I (sym is) image) stay.images;
  so = so;
}

-- no call came
pub nothing_came : (I A : Files → Type 0) (f : Files) (own : List Event) (first after : StoreView) → own ≡ [] → I f → A f → IsRun f own first after → Came I A first after
nothing_came I A f own first after none image so run =
    let stay = stayed f [] first after tt (subst (λ (own : List Event). Traces own first after) none run.trace) run.alone run.has in
    stays I A f first after image so stay.0

-- and less is so
pub came_so : (I A B : Files → Type 0) (first after : StoreView) → ((f : Files) → A f → B f) → Came I A first after → Came I B first after
came_so I A B first after leads came = record { files = came.files; has = came.has; images = came.images; so = leads came.files came.so }

-- ---- what the consumer's file says

pub record Reads : Type 0 where
  pub next : (text : List ℕ) (c : Consumer) → consumer_in text ≡ Ok c → 1 ≤ c.next
  pub again : (c : Consumer) → 1 ≤ c.next → c.next < 2 ^ 64 → consumer_in (consumer_text c) ≡ Ok c

pub reads_again : Reads → (n : ℕ) (is_new : Bool) → 1 ≤ n → n ≤ suc greatest → consumer_in (consumer_text (consumer_at n is_new)) ≡ Ok (consumer_at n is_new)
reads_again reads n is_new low high = reads.again (consumer_at n is_new) low (omega (arith, high))

-- what a file says whose content reads so
pub said_is : (f : Files) (name bytes : List ℕ) (n : ℕ) (is_new : Bool) → map.get f (consumer_path name) ≡ Some bytes
    → consumer_in bytes ≡ Ok (consumer_at n is_new) → said_at f name ≡ Some (record { next = n; fresh = is_new })
said_is f name bytes n is_new there reads = ap said_in there ∙ ap said_of reads

-- of a consumer that wasn't registered, no file gives a start
pub unregistered_none : (found : Option (List ℕ)) → IsUnregistered found → settled_in (said_in found) ≡ None
unregistered_none None is = refl
unregistered_none (Some bytes) (next, reads) = ap (λ (read : Result Consumer SnapFault). settled_in (said_of read)) reads

-- what a file says, in parts
abbrev pub said_next : Option Said → ℕ
said_next None = 0
said_next (Some said) = said.next

abbrev said_fresh : Option Said → Bool
said_fresh None = true
said_fresh (Some said) = said.fresh

-- and so is a consumer there whose file says so
pub consumer_of : (f : Files) (name : List ℕ) (n : ℕ) → said_at f name ≡ Some (known_at n) → ConsumerAt f name (consumer_at n false)
consumer_of f name n said = by (map.get f (consumer_path name)) refl said
  where
    of_read : (read : Result Consumer SnapFault) → said_of read ≡ Some (known_at n) → read ≡ Ok (consumer_at n false)
    of_read (Ok c) is =
        let next : c.next ≡ n = ap said_next is in
        let known : c.fresh ≡ false = ap said_fresh is in
        ap (λ (next : ℕ). Ok (record { next = next; fresh = c.fresh })) next ∙ ap (λ (is_new : Bool). Ok (record { next = n; fresh = is_new })) known
    of_read (Err e) is = absurd cc

    by : (content : Option (List ℕ)) → map.get f (consumer_path name) ≡ content → said_in content ≡ Some (known_at n) → ConsumerAt f name (consumer_at n false)
    by None there is = absurd cc
    by (Some bytes) there is = (bytes, there, of_read (consumer_in bytes) is)

-- ---- the stages

module _ (c : Consuming) (b : Beginning) where
  abbrev s : TableSchema
  s = b.schema

  abbrev es : List Entry
  es = b.entries

  -- no snapshot's file is the consumer's
  pub path_apart : (id : ℕ) → path_of s id ≢ consumer_path c.name
  path_apart zero is = consumer-snapshot c.name _ (sym is)
  path_apart (suc id) is = consumer-snapshot c.name _ (sym is)

  pub begins : HasTable b.files s es → HaveSettled b.files (table s es) b.names → StandsAt c b untouched b.files
  begins folder settled_so = record { folder = folder; declared = tt; only = λ path not. refl; at = refl; settled = settled_so }

  -- a snapshot's file is as it was
  pub still_there : (stage : Stage) (f : Files) (id : ℕ) → StandsAt c b stage f → map.get f (path_of s id) ≡ map.get b.files (path_of s id)
  still_there stage f id stands = stands.only (path_of s id) (path_apart id)

  pub there_first : (stage : Stage) (f : Files) (id : ℕ) → StandsAt c b stage f → IsSome (map.get f (path_of s id)) → IsThere b id
  there_first stage f id stands there = subst IsSome (still_there stage f id stands) there

  -- who is settled once the consumer is doesn't change as it is moved
  pub names_same : (one other : ℕ) → names_at c b (passed one) ≡ names_at c b (passed other)
  names_same one other = by b.known
    where
      by : (known : Option ℕ) → names_with (passed one) known c.name b.names ≡ names_with (passed other) known c.name b.names
      by None = refl
      by (Some next) = refl

  pub image_at : (most : ℕ) (stage : Stage) (f : Files) → IsWithin most stage → StandsAt c b stage f → IsImage c b most f
  image_at most stage f within stands = record { stage = stage; within = within; stands = stands }

-- ---- who is settled

pub contains_first : (name : List ℕ) (names : List (List ℕ)) → Contains (name ∷ names) name
contains_first name names = (0, omega arith, refl)

contains_either : (name other : List ℕ) (names : List (List ℕ)) → Contains (other ∷ names) name → (name ≡ other) ⊎ Contains names name
contains_either name other names (zero, within, is) = inl (sym is)
contains_either name other names (suc k, within, is) = inr (k, omega (arith, within), is)

-- a consumer whose number is above the newest snapshot is settled with the others
pub settled_with : (f : Files) (s : TableSchema) (es : List Entry) (name : List ℕ) (names : List (List ℕ)) (n : ℕ) → HasTable f s es → HaveSettled f (table s es) names
    → said_at f name ≡ Some (known_at n) → length es ≤ n → HaveSettled f (table s es) (name ∷ names)
settled_with f s es name names n folder settled_so said high other there = by (contains_either other name names there)
  where
    by : (other ≡ name) ⊎ Contains names other
        → (least : ℕ) × HasSnapshotAt f s least × ((id : ℕ) → id < least → HasSnapshotAt f s id → ⊥) × IsSettled f least other
    by (inr more) = settled_so other more
    by (inl same) =
        let shots = folder.snapshots in
        let some = shots.some in
        let within = shots.within in (
          shots.least,
          (shots.exact shots.least (omega (arith, some, within))).1 (omega arith, some),
          (λ id below has. let from = ((shots.exact id (omega (arith, below, some, within))).0 has).0 in absurd (omega (arith, from, below))),
          record {
            consumer = consumer_at n false;
            at = subst (λ (name : List ℕ). ConsumerAt f name (consumer_at n false)) (sym same) (consumer_of f name n said);
            known = refl;
            next = omega (arith, some, high);
          },
        )

-- of a consumer that is settled, the snapshot that it reads next is there
pub serves : (f : Files) (s : TableSchema) (es : List Entry) (name : List ℕ) (names : List (List ℕ)) (id : ℕ) → HasTable f s es → HaveSettled f (table s es) names
    → Contains names name → said_at f name ≡ Some (known_at id) → 1 ≤ id → id ≤ length es → map.get f (snapshot_path id) ≡ None → ⊥
serves f s es name names id folder settled_so there said low high gone =
    let so = settled_so name there in
    let one = so.3 in
    let said_so : said_at f name ≡ Some (record { next = one.consumer.next; fresh = one.consumer.fresh }) =
    ap said_in one.at.1 ∙ ap said_of one.at.2 in
    let number : one.consumer.next ≡ id = next_same (record { next = one.consumer.next; fresh = one.consumer.fresh }) (known_at id) (sym said_so ∙ said) in
    let shots = folder.snapshots in
    let within = shots.within in
    let some = shots.some in
    let from : shots.least ≤ so.0 = ((shots.exact so.0 (least_within so.0 so.1 so.2)).0 so.1).0 in
    let next = one.next in
    has_none id low ((shots.exact id (omega (arith, high, within))).1 (omega (arith, from, next, number), high)) gone
  where
    next_same : (one other : Said) → Some one ≡ Some other → one.next ≡ other.next
    next_same one other is = cc

    has_none : (id : ℕ) → 1 ≤ id → HasSnapshotAt f s id → map.get f (snapshot_path id) ≡ None → ⊥
    has_none zero low has none = omega (arith, low)
    has_none (suc id) low has none = some-none (map.get f (snapshot_path (suc id))) has none

    least_within : (least : ℕ) → HasSnapshotAt f s least → ((id : ℕ) → id < least → HasSnapshotAt f s id → ⊥) → least ≤ greatest
    least_within least has none_below = below (cases_lt greatest least)
      where
        below : (greatest < least) ⊎ (least ≤ greatest) → least ≤ greatest
        below (inr is) = is
        below (inl above) =
            let shots = folder.snapshots in
            let some = shots.some in
            let within = shots.within in
            absurd (none_below shots.least (omega (arith, some, within, above)) ((shots.exact shots.least (omega (arith, some, within))).1 (omega arith, some)))
