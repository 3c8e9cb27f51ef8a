-- What an expirer knows stays, whoever acts.
use Rattle.std.proofs.Common.{◌≡◌, ◌≢◌, ◌⊎◌, inl, inr, ℕ, zero, suc, ◌<◌, ◌≤◌, nat_le, List, [], ◌∷◌, Contains, length, Bool, true, false, true≢false, ◌&&◌, is_some, Option, Some, None, IsSome, refl, sym, ap, subst, ◌∙◌, arith}
use Rattle.std.specs.FinMap as map
use Rattle.std.proofs.lemmas.Bool.Decides.{nat_tests}
use Rattle.std.proofs.lemmas.List.{length-append}
use Rattle.std.proofs.lemmas.List.Elements.{Contains-append_cases}
use Rattle.pm_store.specs.Files.{Files, Puts}
use Rattle.pm_schema.specs.declared.schema.TableSchema.{TableSchema}
use Rattle.pm_snapshot.specs.Names.{greatest}
use Rattle.pm_snapshot.specs.declared.consumer.Consumer.{Consumer}
use Rattle.pm_model_consumers.specs.Changes as kinds
use Rattle.pm_model_consumers.specs.Changes.{announces, commits, expires, forgets, goes, lists, moves, nothing, registers, settles, usurps}
use Rattle.pm_model_consumers.specs.Claims.{Counts, Follower, Holds, Moment, Said}
use Rattle.pm_model_consumers.specs.Expiry as consumers
use Rattle.pm_model_history.specs.History.{Entry, GoesOn, History, IsTableOf, no_table, table}
use Rattle.pm_model_folder.specs.Changes.{Actor, HavePlainNames}
use Rattle.pm_model_folder.specs.Commits.{Names}
use Rattle.pm_model_folder.specs.Consumers.{IsMoved, floor_at, follower_of, moment_of, said_at, said_in, said_of}
use Rattle.pm_model_folder.specs.Folder.{HasTable}
use Rattle.pm_model_folder.specs.Ledger.{Advances, KnowsTable, Past, Stands, count_of}
use Rattle.pm_model_folder.specs.Meaning.{ConsumerAt, HasSnapshotAt, IsLeast}
use Rattle.pm_model_folder.specs.Paths.{floor_path}
use Rattle.pm_model_folder.proofs.Facts.{goes_on, some-none}
use Rattle.pm_model_folder.proofs.LedgerFacts.{at-table, count-is, known-still}
use Rattle.pm_model_expiry.specs.Expiry.{HasAnnounced, HasLeft, HaveGone, HaveGoneBetween, IsDropped, lowered}

-- ---- floors, as numbers and as files

within-is : (k : ℕ) → k ≤ greatest → nat_le k greatest ≡ true
within-is k low = grind (arith, nat_tests)

is-within : (k : ℕ) → nat_le k greatest ≡ true → k ≤ greatest
is-within k is = grind (arith, nat_tests)

some-is : (o : Option (List ℕ)) → IsSome o → is_some o ≡ true
some-is None is = absurd (some-none None is refl)
some-is (Some x) is = refl

is-some : (o : Option (List ℕ)) → is_some o ≡ true → IsSome o
is-some None is = absurd (true≢false (sym is))
is-some (Some x) is = refl

floor-is : (f : Files) (k : ℕ) → k ≤ greatest → IsSome (map.get f (floor_path k)) → floor_at f k ≡ true
floor-is f k within there =
    ap (λ (t : Bool). t && is_some (map.get f (floor_path k))) (within-is k within) ∙ some-is (map.get f (floor_path k)) there

floor-shows : (f : Files) (k : ℕ) → floor_at f k ≡ true → (k ≤ greatest) × IsSome (map.get f (floor_path k))
floor-shows f k is = at (nat_le k greatest) refl
  where
    at : (t : Bool) → nat_le k greatest ≡ t → (k ≤ greatest) × IsSome (map.get f (floor_path k))
    at true within = (
      is-within k within,
      is-some (map.get f (floor_path k)) (sym (ap (λ (t : Bool). t && is_some (map.get f (floor_path k))) within) ∙ is),
    )
    at false beyond = absurd (true≢false (sym is ∙ ap (λ (t : Bool). t && is_some (map.get f (floor_path k))) beyond))

-- ---- what is known, at a moment

module _ (f : Files) (p : Past) (s : TableSchema) (entries : List Entry) (least : ℕ) (is : p.history ≡ table s entries) where
  abbrev now : Moment
  now = moment_of f s entries least p.claims

  announced-to : (end : ℕ) → HasAnnounced f p end → consumers.HasAnnounced now end
  announced-to end known = record {
    within = (let low = known.within in let many = count-is p s entries is in omega (arith, low, many));
    floor = (known.floor.0, floor-is f known.floor.0 known.floor.1 known.floor.3, known.floor.2);
  }

  announced-from : (end : ℕ) → consumers.HasAnnounced now end → HasAnnounced f p end
  announced-from end known = record {
    within = (let low : end ≤ length entries = known.within in let many = count-is p s entries is in omega (arith, low, many));
    floor = (let shows = floor-shows f known.floor.0 known.floor.1 in (known.floor.0, shows.0, known.floor.2, shows.1));
  }

  left-to : (end : ℕ) (names : List (List ℕ)) → HasLeft f p end names → consumers.HasLeft now end names
  left-to end names left = record { announced = announced-to end left.announced; counted = left.counted }

  left-from : (end : ℕ) (names : List (List ℕ)) → consumers.HasLeft now end names → HasLeft f p end names
  left-from end names left = record { announced = announced-from end left.announced; counted = left.counted }

-- ---- the least snapshot never falls

grows : (me : Follower) (m n : Moment) → kinds.Change me m n → m.least ≤ n.least
grows me m n (nothing same others) = let is = same.snapshots.least in omega (arith, is)
grows me m n (commits others floors frames least newest) = omega (arith, least)
grows me m n (goes name same puts claims) = let is = same.snapshots.least in omega (arith, is)
grows me m n (registers name next low high same unsettled puts claims) = let is = same.snapshots.least in omega (arith, is)
grows me m n (lists name next same files waits said floors claims) = let is = same.snapshots.least in omega (arith, is)
grows me m n (settles name next same waits said puts claims) = let is = same.snapshots.least in omega (arith, is)
grows me m n (usurps name next same lost said puts claims) = let is = same.snapshots.least in omega (arith, is)
grows me m n (moves name next text same said within is_text puts claims) = let is = same.snapshots.least in omega (arith, is)
grows me m n (announces k within others same there floors) = let is = same.least in omega (arith, is)
grows me m n (forgets k above others same there less floors back) = let is = same.least in omega (arith, is)
grows me m n (expires others floors frames least newest below announced counted) = omega (arith, least)

-- ---- a step

-- what the laws say: a step is two changes, which keep what holds and what an expirer knows
abbrev pub StepsMove : Type 0
StepsMove = (me : Actor) (f after : Files) (p q : Past) (s : TableSchema) (entries grown : List Entry) → Stands f p → Advances me f p after q
    → p.history ≡ table s entries → q.history ≡ table s grown
    → (least later : ℕ) × IsLeast f s least × IsLeast after s later × Holds (moment_of f s entries least p.claims)
    × IsMoved (follower_of me) (moment_of f s entries least p.claims) (moment_of after s grown later q.claims)

abbrev pub MomentKept : Type 0
MomentKept = (me : Follower) (m n : Moment) → Holds m → kinds.Change me m n → Holds n

abbrev pub AnnouncedKept : Type 0
AnnouncedKept = (me : Follower) (m n : Moment) (end : ℕ) → kinds.Change me m n → consumers.HasAnnounced m end → consumers.HasAnnounced n end

abbrev pub LeftKept : Type 0
LeftKept = (me : Follower) (m n : Moment) (end : ℕ) (names : List (List ℕ)) → Holds m → kinds.Change me m n → consumers.HasLeft m end names
    → consumers.HasLeft n end names

pub record Laws : Type 0 where
  pub moves : StepsMove
  pub holds : MomentKept
  pub announced : AnnouncedKept
  pub left : LeftKept

-- a table stays one with its schema
grown-table : (s : TableSchema) (entries : List Entry) (h : History) → GoesOn (table s entries) h → (grown : List Entry) × (h ≡ table s grown)
grown-table s entries no_table on = absurd on
grown-table s entries (table t later) on = (later, ap (λ (t : TableSchema). table t later) on.0)

module _ (laws : Laws) (me : Actor) (f after : Files) (p q : Past) (s : TableSchema) (stands : Stands f p) (advances : Advances me f p after q)
    (is : IsTableOf s p.history) where
  own : (entries : List Entry) × (p.history ≡ table s entries) × HasTable f s entries × KnowsTable f s entries p
  own = at-table f p s stands is

  grown : (grown : List Entry) × (q.history ≡ table s grown)
  grown = grown-table s own.0 q.history
      (subst (λ (h : History). GoesOn h q.history) own.1 (goes_on me f after p.history q.history advances.change))

  pub table-on : IsTableOf s q.history
  table-on = subst (λ (h : History). IsTableOf s h) (sym grown.1) refl

  abbrev Both : Type 0
  Both = (least later : ℕ) × IsLeast f s least × IsLeast after s later × Holds (moment_of f s own.0 least p.claims)
      × IsMoved (follower_of me) (moment_of f s own.0 least p.claims) (moment_of after s grown.0 later q.claims)

  both : Both
  both = laws.moves me f after p q s own.0 grown.0 stands advances own.1 grown.1

  abbrev first : Moment
  first = moment_of f s own.0 both.0 p.claims

  abbrev last : Moment
  last = moment_of after s grown.0 both.1 q.claims

  moved : IsMoved (follower_of me) first last
  moved = both.5

  held : Holds moved.0
  held = laws.holds (follower_of me) first moved.0 both.4 moved.1

  pub announced-on : (end : ℕ) → HasAnnounced f p end → HasAnnounced after q end
  announced-on end known = announced-from after q s grown.0 both.1 grown.1 end
      (laws.announced (follower_of me) moved.0 last end moved.2
      (laws.announced (follower_of me) first moved.0 end moved.1 (announced-to f p s own.0 both.0 own.1 end known)))

  pub left-on : (end : ℕ) (names : List (List ℕ)) → HasLeft f p end names → HasLeft after q end names
  left-on end names known = left-from after q s grown.0 both.1 grown.1 end names
      (laws.left (follower_of me) moved.0 last end names held moved.2
      (laws.left (follower_of me) first moved.0 end names both.4 moved.1 (left-to f p s own.0 both.0 own.1 end names known)))

  least-grows : both.0 ≤ both.1
  least-grows =
      let low : both.0 ≤ moved.0.least = grows (follower_of me) first moved.0 moved.1 in
      let high : moved.0.least ≤ both.1 = grows (follower_of me) moved.0 last moved.2 in
      omega (arith, low, high)

  -- where none below an id is there, none comes
  pub gone-on : (id : ℕ) → HaveGone f s id → HaveGone after s id
  gone-on id gone = λ below less there. elim (nat_le id both.1) as (λ t. nat_le id both.1 ≡ t → ⊥) [
    | true ↦ λ e. both.3.none below (let high : id ≤ both.1 = grind (arith, nat_tests) in omega (arith, less, high)) there
    | false ↦ λ e. gone both.0 (let low : both.1 < id = grind (arith, nat_tests) in let more = least-grows in omega (arith, low, more)) both.2.there
  ] refl

  count-grows : count_of p.history ≤ count_of q.history
  count-grows =
      let on = subst (λ (h : History). GoesOn h q.history) own.1 (goes_on me f after p.history q.history advances.change) in
      let many = count-is p s own.0 own.1 in
      let more = at q.history on in
      omega (arith, many, more)
    where
      at : (h : History) → GoesOn (table s own.0) h → length own.0 ≤ count_of h
      at no_table on = absurd on
      at (table t later) on = let size = ap length on.2 ∙ length-append own.0 on.1 in omega (arith, size)

  -- nor does one between
  here-from : (id : ℕ) → id ≤ count_of p.history → (below : ℕ) → below < id → both.0 ≤ below → HasSnapshotAt f s below
  here-from id within below less from =
      let many = count-is p s own.0 own.1 in
      let high = own.2.snapshots.within in
      let low = ((own.2.snapshots.exact both.0 (omega (arith, within, less, from, many, high))).0 both.2.there).0 in
      (own.2.snapshots.exact below (omega (arith, within, less, many, high))).1 (omega (arith, low, from), omega (arith, within, less, many))

  pub between-on : (id : ℕ) → HaveGoneBetween f p s id → HaveGoneBetween after q s id
  between-on id known = record {
    within = (let low = known.within in let more = count-grows in omega (arith, low, more));
    gone = λ below some less there. elim (nat_le both.0 below) as (λ t. nat_le both.0 below ≡ t → ⊥) [
      | true ↦ λ e. known.gone below some less (here-from id known.within below less (let from : both.0 ≤ below = grind (arith, nat_tests) in from))
      | false ↦ λ e. gone-on both.0 both.2.none below (grind (arith, nat_tests)) there
    ] refl;
  }

-- ---- what none needs

pub dropped-on : (me : Actor) (f after : Files) (p q : Past) (s : TableSchema) (end : ℕ) (path : List ℕ) → Advances me f p after q → IsDropped p s end path
    → IsDropped q s end path
dropped-on me f after p q s end path advances known = record {
  kept = known-still me f after p q end advances known.kept;
  spared = λ named. known.spared (subst (λ (g : Files). Names g s end path) (advances.same end known.kept) named);
  gone = known.gone;
  below = known.below;
  known = known-still me f after p q known.gone advances known.known;
  named = subst (λ (g : Files). Names g s known.gone path) (sym (advances.same known.gone known.known)) known.named;
}

-- ---- its own steps

-- a floor is there
pub announced-there : (f : Files) (p : Past) (s : TableSchema) (end : ℕ) → Stands f p → IsTableOf s p.history → end ≤ count_of p.history
    → IsSome (map.get f (floor_path end)) → HasAnnounced f p end
announced-there f p s end stands is within there =
    let own = at-table f p s stands is in
    let many = count-is p s own.0 own.1 in
    let high = own.2.snapshots.within in
    record { within = within; floor = (end, omega (arith, within, many, high), omega arith, there) }

-- or appears
abbrev pub AnnounceSteps : Type 0
AnnounceSteps = (me : Actor) (f after : Files) (p : Past) (s : TableSchema) (entries : List Entry) (n : ℕ) (found : List ℕ) → p.history ≡ table s entries
    → HavePlainNames s → n ≤ length entries → map.get f (floor_path n) ≡ None → Puts f (floor_path n) (Some found) after → Advances me f p after p

pub announces-on : AnnounceSteps → (me : Actor) (f after : Files) (p : Past) (s : TableSchema) (end : ℕ) (found : List ℕ) → Stands f p → IsTableOf s p.history
    → HavePlainNames s → end ≤ count_of p.history → map.get f (floor_path end) ≡ None → Puts f (floor_path end) (Some found) after → Advances me f p after p
announces-on steps me f after p s end found stands is plain within absent puts =
    let own = at-table f p s stands is in
    let many = count-is p s own.0 own.1 in
    steps me f after p s own.0 end found own.1 plain (omega (arith, within, many)) absent puts

-- all consumers are listed
pub left-all : (f : Files) (p : Past) (end : ℕ) (names : List (List ℕ)) → HasAnnounced f p end
    → ((name : List ℕ) → said_at f name ≢ None → Contains names name) → HasLeft f p end names
left-all f p end names announced all = record {
  announced = announced;
  counted = λ name said counts says. inr (all name (λ none. (let clash : Some said ≡ None = sym says ∙ none in cc)));
}

-- the end is lowered
less-announced : (f : Files) (p : Past) (end lower : ℕ) → lower ≤ end → HasAnnounced f p end → HasAnnounced f p lower
less-announced f p end lower low known = record {
  within = (let high = known.within in omega (arith, low, high));
  floor = (known.floor.0, known.floor.1, (let over = known.floor.2 in omega (arith, low, over)), known.floor.3);
}

lowered-low : (end : ℕ) (said : Option Said) → lowered end said ≤ end
lowered-low end None = omega arith
lowered-low end (Some said) = omega arith

lowered-at : (end : ℕ) (found : Option Said) (said : Said) → found ≡ Some said → lowered end found ≤ said.next
lowered-at end None said is = absurd (let clash : None ≡ Some said = is in cc)
lowered-at end (Some one) said is =
    let same : one ≡ said = cc in
    let next : one.next ≡ said.next = ap (λ (said : Said). said.next) same in
    omega (arith, next)

-- of the names that were left one was read
first-or : (name other : List ℕ) (names : List (List ℕ)) → Contains (name ∷ names) other → (name ≡ other) ⊎ Contains names other
first-or name other names there = elim (Contains-append_cases (name ∷ []) names other there) as (λ _. (name ≡ other) ⊎ Contains names other) [
  | inl one ↦ inl (only name other one)
  | inr later ↦ inr later
]
  where
    only : (name other : List ℕ) → Contains (name ∷ []) other → name ≡ other
    only name other (zero, below, is) = is
    only name other (suc k, below, is) = absurd (omega (arith, below))

pub left-read : (f : Files) (p : Past) (end : ℕ) (name : List ℕ) (names : List (List ℕ)) → HasLeft f p end (name ∷ names)
    → HasLeft f p (lowered end (said_at f name)) names
left-read f p end name names left = record {
  announced = less-announced f p end (lowered end (said_at f name)) low left.announced;
  counted = λ other said counts says. elim (left.counted other said counts says) as (λ _. (lowered end (said_at f name) ≤ said.next) ⊎ Contains names other) [
    | inl below ↦ inl (omega (arith, low, below))
    | inr there ↦ elim (first-or name other names there) as (λ _. (lowered end (said_at f name) ≤ said.next) ⊎ Contains names other) [
      | inl same ↦ inl (lowered-at end (said_at f name) said (ap (said_at f) same ∙ says))
      | inr later ↦ inr later
    ]
  ];
}
  where
    low : lowered end (said_at f name) ≤ end
    low = lowered-low end (said_at f name)

-- ---- what is spared

none-within : {X : Type 0} (x : X) → Contains [] x → ⊥
none-within x (k, below, is) = absurd (omega (arith, below))

-- none that counts needs a snapshot below the end
pub above-end : (f : Files) (p : Past) (end : ℕ) (name : List ℕ) (said : Said) → HasLeft f p end [] → Counts (p.claims name) → said_at f name ≡ Some said
    → end ≤ said.next
above-end f p end name said left counts says = elim (left.counted name said counts says) as (λ _. end ≤ said.next) [
  | inl below ↦ below
  | inr there ↦ absurd (none-within name there)
]

pub spared : (f : Files) (p : Past) (end : ℕ) (name : List ℕ) (c : Consumer) → HasLeft f p end [] → Counts (p.claims name) → ConsumerAt f name c → end ≤ c.next
spared f p end name c left counts at =
    above-end f p end name (record { next = c.next; fresh = c.fresh }) left counts (ap said_in at.1 ∙ ap said_of at.2)
