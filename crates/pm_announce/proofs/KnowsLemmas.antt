-- What an announcer knows of the table.
use Rattle.std.proofs.Common.{◌≡◌, ◌≢◌, ◌↔◌, inl, inr, ℕ, zero, suc, ◌+◌, ◌<◌, ◌≤◌, max, min, List, [], ◌∷◌, ◌++◌, Contains, length, drop, get_or, Option, None, Some, option_map, IsSome, IfSome, Result, refl, sym, ap, ◌∙◌, subst, arith}
use Rattle.std.specs.FinMap as map
use Rattle.std.proofs.lemmas.List.{drop_all, drop_more}
use Rattle.std.proofs.lemmas.List.Elements.{Contains-append_left, Contains-append_right, Contains-push}
use Rattle.std.proofs.lemmas.Option.{IfSome_then, get_or_from_slice_get, slice_get_cases, slice_get_within}
use Rattle.pm_store.specs.Answers.{Answers}
use Rattle.pm_store.specs.Files.{Files, IsListing, Puts}
use Rattle.pm_store.specs.declared.answer.Answer.{Answer}
use Rattle.pm_store.specs.declared.answer.Answer.TheVariants as answers
use Rattle.pm_model_history.specs.History.{History, IsTableOf}
use Rattle.pm_schema.specs.declared.schema.TableSchema.{TableSchema}
use Rattle.pm_snapshot.specs.declared.consumer.Consumer.{Consumer}
use Rattle.pm_snapshot.specs.declared.fault.SnapFault.{SnapFault}
use Rattle.pm_model_folder.specs.Changes.{Actor, HavePlainNames, nothing}
use Rattle.pm_model_folder.specs.Consumers.{said_at, said_in, said_of}
use Rattle.pm_model_folder.specs.Folder.{Folder}
use Rattle.pm_model_folder.specs.Ledger.{Advances, Past, Stands, count_of}
use Rattle.pm_model_folder.specs.Paths.{consumer_folder, consumer_path, floor_path}
use Rattle.pm_model_folder.proofs.Facts.{some-none, still_there}
use Rattle.pm_model_folder.proofs.LedgerFacts.{beside}
use Rattle.pm_model_expiry.specs.Expiry.{HasAnnounced, HasLeft, lowered}
use Rattle.pm_consumer_files.specs.declared.lines.NamedConsumer.{NamedConsumer}
use Rattle.pm_read_consumer.specs.Reader.{Says, consumer_call}
use Rattle.pm_consumers.specs.Lister as consumers
use Rattle.pm_consumers.specs.Names.{AreNames}
use Rattle.pm_consumers.specs.Reading.{ReadingView, next_name, with_said}
use Rattle.pm_consumers.specs.declared.phase.Phase as consuming
use Rattle.pm_consumers.specs.declared.phase.Phase.TheVariants as consumer_listers
use Rattle.pm_read_expiry.specs.Meaning.{KnowsFound}
use Rattle.pm_read_expiry.specs.Times.{IsLeastNext}
use Rattle.pm_read_expiry.specs.declared.asking.Found.{Found}
use Rattle.pm_announce.specs.Announcer.{end_after}
use Rattle.pm_announce.specs.Meaning.{Announces, KnowsEnd, KnowsFloor, KnowsOf, KnowsReading, lowered_by}

-- ---- laws of crates below

-- each kind of change keeps a past
abbrev pub PastStays : Type 0
PastStays = (me : Actor) (f after : Files) (p q : Past) → Stands f p → Advances me f p after q → Stands after q

-- and what was found
abbrev pub FoundStays : Type 0
FoundStays = (x : Found) (other : Actor) (f after : Files) (p q : Past) → Stands f p → Advances other f p after q → KnowsFound x f p
    → KnowsFound x after q

-- a floor that appears is a change of some kind
abbrev pub FloorAppears : Type 0
FloorAppears = (me : Actor) (f after : Files) (p : Past) (s : TableSchema) (end : ℕ) (found : List ℕ)
    → Stands f p → IsTableOf s p.history → HavePlainNames s → end ≤ count_of p.history
    → map.get f (floor_path end) ≡ None → Puts f (floor_path end) (Some found) after → Advances me f p after p

-- and announces the end once it is there
abbrev pub FloorAnnounces : Type 0
FloorAnnounces = (f : Files) (p : Past) (s : TableSchema) (end : ℕ) → Stands f p → IsTableOf s p.history
    → end ≤ count_of p.history → IsSome (map.get f (floor_path end)) → HasAnnounced f p end

-- consumers are listed, and one after another is read
abbrev pub AllListed : Type 0
AllListed = (f : Files) (p : Past) (end : ℕ) (names : List (List ℕ)) → HasAnnounced f p end
    → ((name : List ℕ) → said_at f name ≢ None → Contains names name) → HasLeft f p end names

abbrev pub OneRead : Type 0
OneRead = (f : Files) (p : Past) (end : ℕ) (name : List ℕ) (names : List (List ℕ))
    → HasLeft f p end (name ∷ names) → HasLeft f p (lowered end (said_at f name)) names

abbrev pub NamesListed : Type 0
NamesListed = (f : Files) (h : History) (files names : List (List ℕ)) (name : List ℕ) → Folder f h
    → IsListing consumer_folder files f → AreNames files names
    → Contains names name ↔ IsSome (map.get f (consumer_path name))

pub record Laws : Type 0 where
  pub stays : PastStays
  pub found : FoundStays
  pub appears : FloorAppears
  pub announces : FloorAnnounces
  pub lists : AllListed
  pub reads : OneRead
  pub names : NamesListed

-- ---- the floor

pub end_within : (x : Found) (f : Files) (p : Past) → KnowsOf x f p → x.end ≤ count_of p.history
end_within x f p known =
    let some = known.to_announce.some in
    let first = known.to_announce.first in
    let last = known.to_announce.last in
    let high = (known.found.last (omega (arith, some, first, last))).to in
    omega (arith, last, high)

pub rests : (me : Actor) (x : Found) (f after : Files) (p : Past) → ((path : List ℕ) → map.get after path ≡ map.get f path) → Announces me x f p after p
rests me x f after p same = record {
  advances = beside me f after p p.history (nothing same) refl
      (λ s path is none here. absurd (some-none (map.get after path) here (same path ∙ none)))
      (λ path there. still_there f after path (same path) there) (λ name. same (consumer_path name));
  same = refl;
  files = λ path apart. same path;
}

pub appears : Laws → (me : Actor) (x : Found) (f after : Files) (p : Past) (found : List ℕ) → Stands f p → KnowsOf x f p
    → map.get f (floor_path x.end) ≡ None → Puts f (floor_path x.end) (Some found) after → Announces me x f p after p
appears laws me x f after p found stands known absent puts = record {
  advances = laws.appears me f after p x.schema x.end found stands known.found.table known.plain (end_within x f p known) absent puts;
  same = refl;
  files = puts.others;
}

-- what was found stays
pub of_still : FoundStays → (x : Found) (other : Actor) (f after : Files) (p q : Past) → Stands f p → Advances other f p after q → KnowsOf x f p → KnowsOf x after q
of_still law x other f after p q stands advances known = record {
  to_announce = known.to_announce;
  plain = known.plain;
  found = law x other f after p q stands advances known.found;
}

pub floor_known : Laws → (x : Found) (f : Files) (p : Past) → Stands f p → KnowsOf x f p → IsSome (map.get f (floor_path x.end))
    → KnowsFloor x consumer_listers.List f p
floor_known laws x f p stands known there = record {
  of = known;
  announced = laws.announces f p x.schema x.end stands known.found.table (end_within x f p known) there;
  reading = tt;
}

-- ---- the end is lowered

pub lowered_push : (end : ℕ) (cs : List NamedConsumer) (c : NamedConsumer) → lowered_by end (cs ++ c ∷ []) ≡ min (lowered_by end cs) c.consumer.next
lowered_push end [] c = refl
lowered_push end (d ∷ cs) c = lowered_push (min end d.consumer.next) cs c

lowered_low : (end : ℕ) (cs : List NamedConsumer) → lowered_by end cs ≤ end
lowered_low end [] = omega arith
lowered_low end (c ∷ cs) = let low = lowered_low (min end c.consumer.next) cs in omega (arith, low)

lowered_above : (end : ℕ) (cs : List NamedConsumer) (n : ℕ) → n ≤ end → ((c : NamedConsumer) → Contains cs c → n ≤ c.consumer.next) → n ≤ lowered_by end cs
lowered_above end [] n low each = low
lowered_above end (c ∷ cs) n low each =
    let first = each c (Contains-append_left (c ∷ []) cs c (Contains-push [] c)) in
    lowered_above (min end c.consumer.next) cs n (omega (arith, low, first)) (λ d has. each d (Contains-append_right (c ∷ []) cs d has))

lowered_each : (end : ℕ) (cs : List NamedConsumer) (index : ℕ) (c : NamedConsumer) → index < length cs → get_or cs index c ≡ c → lowered_by end cs ≤ c.consumer.next
lowered_each end [] index c within at = absurd (omega (arith, within))
lowered_each end (d ∷ cs) zero c within at =
    let low = lowered_low (min end d.consumer.next) cs in
    let same = ap (λ (e : NamedConsumer). e.consumer.next) at in
    omega (arith, low, same)
lowered_each end (d ∷ cs) (suc index) c within at = lowered_each (min end d.consumer.next) cs index c (omega (arith, within)) at

-- to the least that consumers read next
lowered_least : (end : ℕ) (cs : List NamedConsumer) (n : ℕ) → IsLeastNext cs (Some n) → lowered_by end cs ≡ min end n
lowered_least end cs n (one, all) =
    let low = lowered_low end cs in
    let least = lowered_each end cs one.1.0 one.0 one.1.1 one.1.2 in
    let at = one.2 in
    let high = lowered_above end cs (min end n) (omega arith) (λ c has. let above = all c has in omega (arith, above)) in
    omega (arith, low, least, at, high)

-- where the end isn't the first snapshot it is that
pub end_lowered : (x : Found) (cs : List NamedConsumer) (next : Option ℕ) → IsLeastNext cs next → end_after x next ≢ x.first
    → lowered_by x.end cs ≡ end_after x next
end_lowered x cs None none apart = ap (lowered_by x.end) none
end_lowered x cs (Some n) least apart = lowered_least x.end cs n least ∙ sym (above x.first (min x.end n) apart)
  where
    above : (a b : ℕ) → max a b ≢ a → max a b ≡ b
    above a b other = omega (arith, other)

-- ---- consumers are listed and read

there_said : (found : Option (List ℕ)) → said_in found ≢ None → IsSome found
there_said None said = absurd (said refl)
there_said (Some bytes) said = refl

-- what a file says that was read
pub said_lowers : (end : ℕ) (cs : List NamedConsumer) (name : List ℕ) (found : Option (List ℕ)) (said : Option Consumer) → Says found said
    → lowered (lowered_by end cs) (said_in found) ≡ lowered_by end (with_said cs name said)
said_lowers end cs name None None says = refl
said_lowers end cs name (Some bytes) (Some c) says =
    ap (λ (r : Result Consumer SnapFault). lowered (lowered_by end cs) (said_of r)) says ∙ sym (lowered_push end cs (record { name = name; consumer = c }))
said_lowers end cs name found said says = absurd says

-- the next name is the first of those that are left
names_next : (r : ReadingView) (name : List ℕ) → next_name r ≡ Some name → drop r.read r.names ≡ name ∷ drop (r.read + 1) r.names
names_next r name next =
    drop_more r.names r.read name (slice_get_within r.names r.read name next)
    ∙ ap (λ (n : List ℕ). n ∷ drop (r.read + 1) r.names) (get_or_from_slice_get r.names r.read name name next)

read_more : OneRead → (x : Found) (r : ReadingView) (next : Option (List ℕ)) (name : List ℕ) (found : Option (List ℕ)) (said : Option Consumer) (f : Files) (p : Past)
    → next_name r ≡ next → next ≡ Some name → Says found said → HasLeft f p (lowered_by x.end r.consumers) (drop r.read r.names)
    → IfSome (option_map consumer_call next) (λ call. Answers call (answers.Found found) f
    → HasLeft f p (lowered_by x.end (with_said r.consumers name said)) (drop (r.read + 1) r.names))
read_more law x r None name found said f p at is says left = tt
read_more law x r (Some other) name found said f p at is says left = λ told.
    let same : other ≡ name = cc in
    let first : HasLeft f p (lowered_by x.end r.consumers) (name ∷ drop (r.read + 1) r.names) =
    subst (HasLeft f p (lowered_by x.end r.consumers)) (names_next r name (at ∙ is)) left in
    let read = law f p (lowered_by x.end r.consumers) name (drop (r.read + 1) r.names) first in
    let here : found ≡ map.get f (consumer_path name) = told ∙ ap (λ (n : List ℕ). map.get f (consumer_path n)) same in
    let lower : lowered (lowered_by x.end r.consumers) (said_at f name) ≡ lowered_by x.end (with_said r.consumers name said) =
    ap (λ (o : Option (List ℕ)). lowered (lowered_by x.end r.consumers) (said_in o)) (sym here) ∙ said_lowers x.end r.consumers name found said says in
    subst (λ (end : ℕ). HasLeft f p end (drop (r.read + 1) r.names)) lower read

pub reading_next : Laws → (x : Found) (c to : consuming.Phase) (answer : Answer) (f : Files) (p : Past) → consumers.Goes c answer to → Stands f p
    → KnowsFloor x c f p → IfSome (consumers.next_call c) (λ call. Answers call answer f → KnowsReading x to f p)
reading_next laws x consumer_listers.List to (answers.Listed files) f p (names, are, within, is) stands known = λ told.
    let left : HasLeft f p x.end names = laws.lists f p x.end names known.announced
    (λ name said. (laws.names f p.history files.items names name stands.folder told are).1 (there_said (map.get f (consumer_path name)) said)) in
    subst (λ (c : consuming.Phase). KnowsReading x c f p) (sym is) left
reading_next laws x (consumer_listers.Read r) to (answers.Found found) f p (name, said, next, says, is) stands known =
    IfSome_then (consumers.next_call (consumer_listers.Read r)) (read_more laws.reads x r (next_name r) name found said f p refl next says known.reading)
    (λ call left told. subst (λ (c : consuming.Phase). KnowsReading x c f p) (sym is) (left told))
reading_next laws x c to answer f p goes stands known = absurd goes

within_none : (r : ReadingView) → next_name r ≡ None → length r.names ≤ r.read
within_none r none = elim ((slice_get_cases r.names r.read).1) as (λ _. length r.names ≤ r.read) [
  | inl within ↦ absurd (let clash : None ≡ Some within.0 = sym none ∙ within.2 in cc)
  | inr beyond ↦ beyond.0
]

-- once all were read
pub all_known : (x : Found) (c : consuming.Phase) (next : Option ℕ) (f : Files) (p : Past) → consumers.IsDone c → IsLeastNext (consumers.consumers_in c) next
    → KnowsFloor x c f p → KnowsEnd x (end_after x next) f p
all_known x (consumer_listers.Read r) next f p done least known = record {
  of = known.of;
  announced = known.announced;
  left = λ apart. subst (λ (end : ℕ). HasLeft f p end []) (end_lowered x r.consumers next least apart)
      (subst (HasLeft f p (lowered_by x.end r.consumers)) (drop_all r.read r.names (within_none r done)) known.reading);
}
all_known x c next f p done least known = absurd done

-- ---- what stays

abbrev pub AnnouncedStays : Type 0
AnnouncedStays = (me : Actor) (f after : Files) (p q : Past) (s : TableSchema) (end : ℕ) → Stands f p → Advances me f p after q → IsTableOf s p.history
    → HasAnnounced f p end → HasAnnounced after q end

abbrev pub LeftStays : Type 0
LeftStays = (me : Actor) (f after : Files) (p q : Past) (s : TableSchema) (end : ℕ) (names : List (List ℕ)) → Stands f p → Advances me f p after q
    → IsTableOf s p.history → HasLeft f p end names → HasLeft after q end names

pub record Stay : Type 0 where
  pub found : FoundStays
  pub announced : AnnouncedStays
  pub left : LeftStays

module _ (laws : Stay) (other : Actor) (f after : Files) (p q : Past) (stands : Stands f p) (advances : Advances other f p after q) where
  reading_still : (x : Found) (c : consuming.Phase) → IsTableOf x.schema p.history → KnowsReading x c f p → KnowsReading x c after q
  reading_still x consumer_listers.List table known = known
  reading_still x (consumer_listers.Read r) table known =
      laws.left other f after p q x.schema (lowered_by x.end r.consumers) (drop r.read r.names) stands advances table known
  reading_still x consumer_listers.Over table known = known

  pub floor_still : (x : Found) (c : consuming.Phase) → KnowsFloor x c f p → KnowsFloor x c after q
  floor_still x c known = record {
    of = of_still laws.found x other f after p q stands advances known.of;
    announced = laws.announced other f after p q x.schema x.end stands advances known.of.found.table known.announced;
    reading = reading_still x c known.of.found.table known.reading;
  }

  pub end_still : (x : Found) (end : ℕ) → KnowsEnd x end f p → KnowsEnd x end after q
  end_still x end known = record {
    of = of_still laws.found x other f after p q stands advances known.of;
    announced = laws.announced other f after p q x.schema x.end stands advances known.of.found.table known.announced;
    left = λ apart. laws.left other f after p q x.schema end [] stands advances known.of.found.table (known.left apart);
  }
