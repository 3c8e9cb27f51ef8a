-- What is known of consumers: that a folder which is found has some, that each change keeps it, and what it says of files.
use Rattle.std.proofs.Common.{◌≡◌, ◌≢◌, ◌↔◌, ◌⊎◌, inl, inr, ℕ, zero, suc, ◌+◌, ◌<◌, ◌≤◌, ◌&&◌, nat_le, List, [], ◌∷◌, ◌++◌, map as each_of, length, length-append, codes, Contains, Bool, true, false, cond, if◌then◌else◌, Option, Some, None, IsSome, is_some, Result, Ok, Err, refl, sym, ap, subst, ◌∙◌, arith, true≢false}
use Rattle.std.specs.FinMap as map
use Rattle.std.specs.Str.{bytes_eq}
use Rattle.std.proofs.lemmas.Bool.Decides.{nat_tests}
use Rattle.std.proofs.lemmas.Fmt.{decimal_injective}
use Rattle.std.proofs.lemmas.List.{append_cancel_left}
use Rattle.std.proofs.lemmas.Slice.Eq.{bytes_eq-Decides}
use Rattle.std.specs.Fmt.{decimal}
use Rattle.std.specs.List.{flat_map, range_with_len}
use Rattle.pm_base.specs.Newline.{line}
use Rattle.pm_rows.specs.RowText.{row_text}
use Rattle.pm_store.specs.Files.{Files, Puts}
use Rattle.pm_model_consumers.specs.Changes as kinds
use Rattle.pm_model_consumers.specs.Claims.{AreMoved, Claim, Counts, Follower, HasFloorFrom, Holds, IsClaimed, Moment, Said, free, known_at, new_at, settled, waits}
use Rattle.pm_model_history.specs.History.{Entry, History, no_table, table}
use Rattle.pm_model_history.specs.Merge.{HistoryRow}
use Rattle.pm_model_following.specs.Following.{HaveBases, change as change_of, frame, frame_head}
use Rattle.pm_schema.specs.declared.schema.TableSchema.{TableSchema}
use Rattle.pm_snapshot.specs.Consumer.{consumer_in}
use Rattle.pm_snapshot.specs.Names.{floor_name, greatest, snapshot_name}
use Rattle.pm_snapshot.specs.declared.consumer.Consumer.{Consumer}
use Rattle.pm_snapshot.specs.declared.fault.SnapFault.{SnapFault}
use Rattle.pm_model_folder.specs.Changes.{Actor, Beside, Change, HavePlainNames, IsOwn, IsTablePath, beside as changes_beside, committed, consumer, expired, floor, forgotten, its_file, its_origin, nothing, own_file, removed, schema}
use Rattle.pm_model_folder.specs.Consumers.{IsMoved, KnowsConsumers, floor_at, follower_of, moment_of, said_at, said_in, said_of}
use Rattle.pm_model_folder.specs.Folder.{Folder, HasFloor, HasTable, HaveSettled, IsAnnounced, IsSettled}
use Rattle.pm_model_folder.specs.Ledger.{AreAbove, MovesConsumers, OthersStay, goes, lists, moves, registers, settles, untouched, usurps}
use Rattle.pm_model_folder.specs.Meaning.{ConsumerAt, HasSnapshotAt, IsLeast}
use Rattle.pm_model_folder.specs.Paths.{consumer_path, floor_path, snapshot_file, snapshot_path}
use Rattle.pm_model_folder.proofs.BesideLemmas.{floor-consumer, floor-snapshot, floor-table, snapshot-same, snapshot-table}
use Rattle.pm_model_folder.proofs.ExpiryLemmas.{least-at-most, next-least, not-there, one-least, path-file, table-least}
use Rattle.pm_model_folder.proofs.Facts.{some-none as found-none}
use Rattle.pm_model_folder.proofs.HoldLemmas.{OneContents, SameContents}
use Rattle.pm_model_folder.proofs.PathLemmas.{consumer-snapshot, named-apart, origin-other, other-floors, other-snapshot, snapshot-own}

-- what the law of claims says
abbrev pub ClaimsKept : Type 0
ClaimsKept = (me : Follower) (m n : Moment) → Holds m → kinds.Change me m n → Holds n

-- ---- floors

within-is : (k : ℕ) → k ≤ greatest → nat_le k greatest ≡ true
within-is k within = at (nat_le k greatest) refl
  where
    at : (t : Bool) → nat_le k greatest ≡ t → nat_le k greatest ≡ true
    at true is = is
    at false is = absurd (let high : greatest < k = grind (arith, nat_tests) in omega (arith, high, within))

is-within : (k : ℕ) → nat_le k greatest ≡ true → k ≤ greatest
is-within k is = grind (arith, nat_tests)

some-is : (o : Option (List ℕ)) → IsSome o → is_some o ≡ true
some-is None is = absurd (found-none None is refl)
some-is (Some x) is = refl

is-some : (o : Option (List ℕ)) → is_some o ≡ true → IsSome o
is-some None is = absurd (true≢false (sym is))
is-some (Some x) is = refl

floor-is : (f : Files) (k : ℕ) → k ≤ greatest → IsSome (map.get f (floor_path k)) → floor_at f k ≡ true
floor-is f k within there = ap (λ t. t && is_some (map.get f (floor_path k))) (within-is k within) ∙ some-is (map.get f (floor_path k)) there

floor-shows : (f : Files) (k : ℕ) → floor_at f k ≡ true → (k ≤ greatest) × IsSome (map.get f (floor_path k))
floor-shows f k is = at (nat_le k greatest) refl
  where
    at : (t : Bool) → nat_le k greatest ≡ t → (k ≤ greatest) × IsSome (map.get f (floor_path k))
    at true within = (is-within k within, is-some (map.get f (floor_path k)) (sym (ap (λ t. t && is_some (map.get f (floor_path k))) within) ∙ is))
    at false beyond = absurd (true≢false (sym is ∙ ap (λ t. t && is_some (map.get f (floor_path k))) beyond))

-- a floor that appears is no other
floor-other : (f after : Files) (k n : ℕ) → n ≤ greatest → ((path : List ℕ) → path ≢ floor_path n → map.get after path ≡ map.get f path) → k ≢ n
    → floor_at after k ≡ floor_at f k
floor-other f after k n within others other = at (nat_le k greatest) refl
  where
    at : (t : Bool) → nat_le k greatest ≡ t → floor_at after k ≡ floor_at f k
    at true below = ap (λ (o : Option (List ℕ)). nat_le k greatest && is_some o) (others (floor_path k)
        (λ e. other (decimal_injective k n (let low = is-within k below in omega (arith, low)) (omega (arith, within)) (append_cancel_left (codes "floor/floor-") (decimal k) (decimal n) e))))
    at false beyond = ap (λ t. t && is_some (map.get after (floor_path k))) beyond ∙ sym (ap (λ t. t && is_some (map.get f (floor_path k))) beyond)

-- ---- frames

-- what the law of changes says
abbrev pub ChangesStay : Type 0
ChangesStay = (s : TableSchema) (entries more : List Entry) (n : ℕ) → HaveBases 1 entries → n ≤ length entries
    → change_of s (entries ++ more) n ≡ change_of s entries n

-- so a frame stays where more entries come
frame-stays : ChangesStay → (s : TableSchema) (entries more : List Entry) (n : ℕ) → HaveBases 1 entries → n ≤ length entries
    → frame s (entries ++ more) n ≡ frame s entries n
frame-stays law s entries more n bases within =
    ap (λ (rows : List HistoryRow). frame_head n ++ flat_map (λ (r : HistoryRow). line (row_text r.0 r.1)) rows) (law s entries more n bases within)

-- ---- a step, by its two halves: snapshots and floors, and then consumers

-- snapshots and floors as they are afterwards, and consumers as they were
abbrev between : Files → Files → TableSchema → List Entry → ℕ → (List ℕ → Claim) → Moment
between f after s entries least claims = record {
  least = least;
  newest = length entries;
  frame = λ id. frame s entries id;
  floor = λ k. floor_at after k;
  file = λ name. said_at f name;
  claim = claims;
}

module _ (me : Actor) (f after : Files) (s : TableSchema) (entries : List Entry) (least : ℕ) (claims : List ℕ → Claim) where
  abbrev m : Moment
  m = between f after s entries least claims

  abbrev now : (List ℕ → Claim) → Moment
  now later = moment_of after s entries least later

  table-refl : (later : List ℕ → Claim) → kinds.SameTable m (now later)
  table-refl later = record {
    snapshots = record { least = refl; newest = refl; frames = λ id within. refl };
    floors = λ k. refl;
  }

  others-stay : (name : List ℕ) (content : Option Said) (later : List ℕ → Claim) → said_at after name ≡ content → OthersStay f name after
      → kinds.Puts m name content (now later)
  others-stay name content later here others = record { here = here; others = λ other apart. ap said_in (others other apart) }

  consumers-moved : (later : List ℕ → Claim) → MovesConsumers me f after (table s entries) claims later → kinds.Change (follower_of me) m (now later)
  consumers-moved later (untouched same) = kinds.nothing (table-refl claims) (record { file = λ name. ap said_in (same name); claim = λ name. refl })
  consumers-moved later (goes name absent others) =
      kinds.goes name (table-refl later) (others-stay name None later (ap said_in absent) others) (λ other. refl)
  consumers-moved later (registers name next some bound unsettled here others) =
      kinds.registers name next some bound (table-refl later) unsettled (others-stay name (Some (new_at next)) later here others) (λ other. refl)
  consumers-moved later (lists name next same waiting was above) =
      kinds.lists name next (table-refl later) (λ other. ap said_in (same (consumer_path other))) waiting was
      (λ k is. (let there = floor-shows after k is in above k there.0 (subst (λ (o : Option (List ℕ)). IsSome o) (same (floor_path k)) there.1))) (λ other. refl)
  consumers-moved later (settles name next waiting was here others) =
      kinds.settles name next (table-refl later) waiting was (others-stay name (Some (known_at next)) later here others) (λ other. refl)
  consumers-moved later (usurps name next lost was here others) =
      kinds.usurps name next (table-refl later) lost was (others-stay name (Some (known_at next)) later here others) (λ other. refl)
  consumers-moved later (moves name next text was within is here others) =
      kinds.moves name next text (table-refl later) was within is (others-stay name (Some (known_at (suc next))) later here others) (λ other. refl)

-- the least snapshot stays where those up to the newest do
least-stays : (f after : Files) (s : TableSchema) (least newest : ℕ) → least ≤ newest → ((id : ℕ) → id ≤ newest → HasSnapshotAt f s id ↔ HasSnapshotAt after s id)
    → IsLeast f s least → IsLeast after s least
least-stays f after s least newest within same is = record {
  there = (same least within).0 is.there;
  none = λ other below there. is.none other below ((same other (omega (arith, below, within))).1 there);
}

-- a step from a table's entries to those that it has then
pub record MovesOn (me : Actor) (f after : Files) (s : TableSchema) (entries grown : List Entry) (least : ℕ) (claims later : List ℕ → Claim) : Type 0 where
  pub now : ℕ
  pub is : IsLeast after s now
  pub moved : IsMoved (follower_of me) (moment_of f s entries least claims) (moment_of after s grown now later)

-- what holds of consumers holds then
pub moved-on : ClaimsKept → (me : Actor) (f after : Files) (s : TableSchema) (entries grown : List Entry) (claims later : List ℕ → Claim)
    → (known : KnowsConsumers f s entries claims) → MovesOn me f after s entries grown known.least claims later → KnowsConsumers after s grown later
moved-on law me f after s entries grown claims later known step = record {
  least = step.now;
  is = step.is;
  holds = law (follower_of me) step.moved.0 (moment_of after s grown step.now later)
      (law (follower_of me) (moment_of f s entries known.least claims) step.moved.0 known.holds step.moved.1) step.moved.2;
}

module _ (me : Actor) (f after : Files) (s : TableSchema) (entries : List Entry) (claims later : List ℕ → Claim) (known : KnowsConsumers f s entries claims) where
  abbrev SnapshotsStay : Type 0
  SnapshotsStay = (id : ℕ) → id ≤ length entries → HasSnapshotAt f s id ↔ HasSnapshotAt after s id

  abbrev FloorsStay : Type 0
  FloorsStay = (k : ℕ) → map.get after (floor_path k) ≡ map.get f (floor_path k)

  floors-stay : FloorsStay → (k : ℕ) → floor_at after k ≡ floor_at f k
  floors-stay stay k = ap (λ (o : Option (List ℕ)). nat_le k greatest && is_some o) (stay k)

  consumers-same : (grown : List Entry) (least : ℕ) → kinds.SameConsumers (moment_of f s entries known.least claims) (between f after s grown least claims)
  consumers-same grown least = record { file = λ name. refl; claim = λ name. refl }

  snapshots-same : kinds.SameSnapshots (moment_of f s entries known.least claims) (between f after s entries known.least claims)
  snapshots-same = record { least = refl; newest = refl; frames = λ id within. refl }

  least-now : SnapshotsStay → IsLeast after s known.least
  least-now same = least-stays f after s known.least (length entries) known.holds.within same known.is

  -- by what is made of snapshots and floors
  step-by : (grown : List Entry) (least : ℕ) → IsLeast after s least
      → kinds.Change (follower_of me) (moment_of f s entries known.least claims) (between f after s grown least claims)
      → MovesConsumers me f after (table s grown) claims later → MovesOn me f after s entries grown known.least claims later
  step-by grown least is first move = record {
    now = least;
    is = is;
    moved = (between f after s grown least claims, first, consumers-moved me f after s grown least claims later move);
  }

  -- neither changes
  pub step-same : SnapshotsStay → FloorsStay → MovesConsumers me f after (table s entries) claims later → MovesOn me f after s entries entries known.least claims later
  step-same same stay = step-by entries known.least (least-now same)
      (kinds.nothing (record { snapshots = snapshots-same; floors = floors-stay stay }) (consumers-same entries known.least))

  -- a snapshot comes
  pub step-commits : SnapshotsStay → ChangesStay → HaveBases 1 entries → (e : Entry) → FloorsStay
      → MovesConsumers me f after (table s (entries ++ e ∷ [])) claims later → MovesOn me f after s entries (entries ++ e ∷ []) known.least claims later
  step-commits same law bases e stay = step-by (entries ++ e ∷ []) known.least (least-now same)
      (kinds.commits (consumers-same (entries ++ e ∷ []) known.least) (floors-stay stay) (λ id within. frame-stays law s entries (e ∷ []) id bases within) refl longer)
    where
      longer : length (entries ++ e ∷ []) ≡ suc (length entries)
      longer = length-append entries (e ∷ []) ∙ (let more : length entries + 1 ≡ suc (length entries) = omega arith in more)

  -- a floor appears
  pub step-announces : SnapshotsStay → (n : ℕ) (found : List ℕ) → length entries ≤ greatest → n ≤ length entries → Puts f (floor_path n) (Some found) after
      → MovesConsumers me f after (table s entries) claims later → MovesOn me f after s entries entries known.least claims later
  step-announces same n found most below puts = step-by entries known.least (least-now same)
      (kinds.announces n below (consumers-same entries known.least) snapshots-same
      (floor-is after n within (subst (λ (o : Option (List ℕ)). IsSome o) (sym puts.here) refl)) (λ k other. floor-other f after k n within puts.others other))
    where
      within : n ≤ greatest
      within = omega (arith, below, most)

  -- or goes
  pub step-forgets : SnapshotsStay → (n above : ℕ) → n < above → above ≤ greatest → IsSome (map.get f (floor_path above)) → Puts f (floor_path n) None after
      → MovesConsumers me f after (table s entries) claims later → MovesOn me f after s entries entries known.least claims later
  step-forgets same n above less high there puts = step-by entries known.least (least-now same)
      (kinds.forgets n above (consumers-same entries known.least) snapshots-same (floor-is f above high there) less
      (λ k other. floor-other f after k n within puts.others other) (λ is. absurd (found-none (map.get after (floor_path n)) (floor-shows after n is).1 puts.here)))
    where
      within : n ≤ greatest
      within = omega (arith, less, high)

  -- the least snapshot goes
  pub step-expires : (gone : ℕ) → IsLeast f s gone → IsLeast after s (suc gone) → gone < length entries → IsAnnounced f (suc gone) → FloorsStay → AreAbove f claims known.least
      → MovesConsumers me f after (table s entries) claims later → MovesOn me f after s entries entries known.least claims later
  step-expires gone is_least next below announced stay above = step-by entries (suc known.least) (subst (λ (n : ℕ). IsLeast after s (suc n)) one next)
      (kinds.expires (consumers-same entries (suc known.least)) (floors-stay stay) (λ id within. refl) refl refl
      (omega (arith, below, one)) (announced.0, floor-is f announced.0 announced.1 announced.3, (let over = announced.2 in omega (arith, over, one))) above)
    where
      one : gone ≡ known.least
      one = one-least f s gone known.least is_least known.is

-- the snapshots that stay where a floor or a consumer's file changes, or a file goes that is no snapshot's
pub beside-snapshots : (f after : Files) (s : TableSchema) (path : List ℕ) (content : Option (List ℕ)) → Puts f path content after → ((name : List ℕ) → path ≢ snapshot_file name)
    → (id : ℕ) → HasSnapshotAt f s id ↔ HasSnapshotAt after s id
beside-snapshots f after s path content puts other id =
    snapshot-same f after s id (λ zero_is origin is. puts.others (snapshot_file origin) (λ e. other origin (sym e)))
    (λ k is. puts.others (snapshot_path (suc k)) (λ e. other (snapshot_name (suc k)) (sym e)))

step-beside : OneContents → SameContents → (me : Actor) (f after : Files) (s : TableSchema) (entries : List Entry) (claims later : List ℕ → Claim)
    → (known : KnowsConsumers f s entries claims) → HavePlainNames s → HasTable f s entries → Beside f s entries after
    → ((HasSnapshotAt after s known.least → ⊥) → AreAbove f claims known.least)
    → MovesConsumers me f after (table s entries) claims later → MovesOn me f after s entries entries known.least claims later
step-beside one law me f after s entries claims later known plain folder (consumer name content is_plain reads puts) spared =
    step-same me f after s entries claims later known
    (λ id within. beside-snapshots f after s (consumer_path name) content puts (consumer-snapshot name) id) (λ k. puts.others (floor_path k) (floor-consumer k name))
step-beside one law me f after s entries claims later known plain folder (floor n found below absent puts) spared =
    step-announces me f after s entries claims later known
    (λ id within. beside-snapshots f after s (floor_path n) (Some found) puts (floor-snapshot n) id) n found folder.snapshots.within below puts
step-beside one law me f after s entries claims later known plain folder (forgotten n above less high there puts) spared =
    step-forgets me f after s entries claims later known
    (λ id within. beside-snapshots f after s (floor_path n) None puts (floor-snapshot n) id) n above less high there puts
step-beside one law me f after s entries claims later known plain folder (expired least path is_least is below announced puts) spared =
    step-expires me f after s entries claims later known least is_least
    (next-least one law f after s entries plain folder least path is_least is below announced puts) below announced
    (λ k. puts.others (floor_path k) (λ e. floor-snapshot k file.0 (e ∙ file.1))) (spared gone)
  where
    file : (name : List ℕ) × (path ≡ snapshot_file name)
    file = path-file s least path is

    gone : HasSnapshotAt after s known.least → ⊥
    gone there = not-there after s least path is puts.here (subst (HasSnapshotAt after s) (sym (one-least f s least known.least is_least known.is)) there)
step-beside one law me f after s entries claims later known plain folder (removed path is_table unneeded puts) spared =
    step-same me f after s entries claims later known
    (λ id within. beside-snapshots f after s path None puts (λ name e. snapshot-table name (subst IsTablePath e is_table)) id)
    (λ k. puts.others (floor_path k) (λ e. floor-table k (subst IsTablePath (sym e) is_table)))

-- an actor's own file is no floor
floor-own : (me : Actor) (path : List ℕ) (n : ℕ) → IsOwn me path → floor_path n ≢ path
floor-own me path n (its_origin own) e = floor-snapshot n _ (e ∙ own)
floor-own me path n (its_file by in_table) e = named-apart me path (codes "floor") (floor_name n) by in_table other-floors (sym e)

-- ---- each kind of change

-- what a change of a table's history makes of its consumers
abbrev pub Moving : Actor → Files → Files → (List ℕ → Claim) → (List ℕ → Claim) → History → History → Type 0
Moving me f after claims later no_table g = Unit {0}
Moving me f after claims later (table s entries) no_table = Unit {0}
Moving me f after claims later (table s entries) (table t grown) = (known : KnowsConsumers f s entries claims)
    → ((HasSnapshotAt after s known.least → ⊥) → AreAbove f claims known.least)
    → MovesConsumers me f after (table s grown) claims later → MovesOn me f after s entries grown known.least claims later

pub moving : OneContents → SameContents → ChangesStay → (me : Actor) (f after : Files) (claims later : List ℕ → Claim) (h g : History) → Folder f h → Change me f h after g
    → Moving me f after claims later h g
moving one same law me f after claims later no_table g folder (nothing all) = tt
moving one same law me f after claims later (table s entries) g folder (nothing all) = λ known spared.
    step-same me f after s entries claims later known
    (λ id within. snapshot-same f after s id (λ zero_is name is. all (snapshot_file name)) (λ k is. all (snapshot_path (suc k))))
    (λ k. all (floor_path k))
moving one same law me f after claims later no_table g folder (own_file path content own other none puts) = tt
moving one same law me f after claims later (table s entries) g folder (own_file path content own other none puts) = λ known spared.
    step-same me f after s entries claims later known
    (λ id within. snapshot-same f after s id (λ zero_is name is. puts.others (snapshot_file name) (other name is))
    (λ k is. puts.others (snapshot_path (suc k)) (snapshot-own me path (suc k) own)))
    (λ k. puts.others (floor_path k) (floor-own me path k own))
moving one same law me f after claims later h g folder (schema s bytes origin named puts reads) = tt
moving one same law me f after claims later h g folder (committed s entries e bytes newest bound none puts fit commit own) = λ known spared.
    step-commits me f after s entries claims later known
    (λ id within. snapshot-same f after s id
    (λ zero_is name is. puts.others (snapshot_file name)
    (origin-other name (suc (length entries)) (λ same. folder.schema.origin (suc (length entries)) bound (is ∙ ap (λ (n : List ℕ). Some n) same))))
    (λ k is. puts.others (snapshot_path (suc k)) (other-snapshot (suc k) (suc (length entries)) (omega (arith, within, bound, is)) bound (λ e. omega (arith, within, is, e)))))
    law folder.history.bases e (λ k. puts.others (floor_path k) (floor-snapshot k (snapshot_name (suc (length entries)))))
moving one same law me f after claims later h g folder (changes_beside s entries plain change) = λ known spared.
    step-beside one same me f after s entries claims later known plain folder change spared

-- ---- without a table

some-said : (said : Said) → Some said ≡ None → ⊥
some-said said e = cc

said-none : (said : Said) (o : Option Said) → o ≡ Some said → o ≡ None → ⊥
said-none said o is none = some-said said (sym is ∙ none)

waits-free : (who : Follower) (listed : Bool) → waits who listed ≡ free → ⊥
waits-free who listed e = cc

-- where there is no consumer's file, and nothing was known of any, nothing is
pub none-claims : (me : Actor) (f after : Files) (h : History) (claims later : List ℕ → Claim) → ((name : List ℕ) → claims name ≡ free)
    → ((name : List ℕ) → map.get after (consumer_path name) ≡ None) → MovesConsumers me f after h claims later → (name : List ℕ) → later name ≡ free
none-claims me f after h claims later all none (untouched same) name = all name
none-claims me f after h claims later all none (goes other absent others) name =
    elim (bytes_eq name other) as (λ t. cond t free (claims name) ≡ free) [ true ↦ refl | false ↦ all name ]
none-claims me f after h claims later all none (registers other next some bound unsettled here others) name =
    absurd (said-none (new_at next) (said_at after other) here (ap said_in (none other)))
none-claims me f after h claims later all none (lists other next same waiting was above) name =
    absurd (waits-free (follower_of me) false (sym waiting ∙ all other))
none-claims me f after h claims later all none (settles other next waiting was here others) name =
    absurd (waits-free (follower_of me) true (sym waiting ∙ all other))
none-claims me f after h claims later all none (usurps other next lost was here others) name =
    absurd (said-none (known_at next) (said_at after other) here (ap said_in (none other)))
none-claims me f after h claims later all none (moves other next text was within is here others) name =
    absurd (said-none (known_at (suc next)) (said_at after other) here (ap said_in (none other)))

-- ---- a folder that is found

floor-found : (f : Files) (s : TableSchema) (entries : List Entry) (id : ℕ) (claims : List ℕ → Claim) → HasFloor f id
    → (id ≤ 1) ⊎ HasFloorFrom (moment_of f s entries id claims) id
floor-found f s entries id claims (inl low) = inl low
floor-found f s entries id claims (inr (n, within, above, there)) = inr (n, floor-is f n within there, above)

pub found-consumers : (f : Files) (s : TableSchema) (entries : List Entry) (claims : List ℕ → Claim) → (folder : HasTable f s entries)
    → ((name : List ℕ) → IsClaimed (moment_of f s entries folder.snapshots.least claims) name (claims name)) → KnowsConsumers f s entries claims
found-consumers f s entries claims folder are = record {
  least = folder.snapshots.least;
  is = table-least f s entries folder;
  holds = record {
    within = folder.snapshots.some;
    floor = floor-found f s entries folder.snapshots.least claims folder.floor;
    claims = are;
  };
}

-- where nothing is known of any consumer
pub free-consumers : (f : Files) (s : TableSchema) (entries : List Entry) (claims : List ℕ → Claim) → HasTable f s entries
    → ((name : List ℕ) → claims name ≡ free) → KnowsConsumers f s entries claims
free-consumers f s entries claims folder all =
    found-consumers f s entries claims folder (λ name. subst (IsClaimed (moment_of f s entries folder.snapshots.least claims) name) (sym (all name)) tt)

-- ---- what is known says of the files

said-next : (a b : Said) → Some a ≡ Some b → a.next ≡ b.next
said-next a b e = cc

said-fresh : (a b : Said) → Some a ≡ Some b → a.fresh ≡ b.fresh
said-fresh a b e = cc

none-said : (said : Said) → None ≡ Some said → ⊥
none-said said e = cc

abbrev as_said : Consumer → Said
as_said c = record { next = c.next; fresh = c.fresh }

said-result : (bytes : List ℕ) (said : Said) (r : Result Consumer SnapFault) → consumer_in bytes ≡ r → said_of r ≡ Some said
    → (c : Consumer) × (consumer_in bytes ≡ Ok c) × (c.next ≡ said.next) × (c.fresh ≡ said.fresh)
said-result bytes said (Ok c) is e = (c, is, said-next (as_said c) said e, said-fresh (as_said c) said e)
said-result bytes said (Err fault) is e = absurd (none-said said e)

pub said-consumer : (f : Files) (name : List ℕ) (said : Said) → said_at f name ≡ Some said
    → (c : Consumer) × ConsumerAt f name c × (c.next ≡ said.next) × (c.fresh ≡ said.fresh)
said-consumer f name said = at (map.get f (consumer_path name)) refl
  where
    at : (o : Option (List ℕ)) → map.get f (consumer_path name) ≡ o → said_in o ≡ Some said
        → (c : Consumer) × ConsumerAt f name c × (c.next ≡ said.next) × (c.fresh ≡ said.fresh)
    at None is e = absurd (none-said said e)
    at (Some bytes) is e =
        let (c, reads, next, fresh) = said-result bytes said (consumer_in bytes) refl e in (c, (bytes, is, reads), next, fresh)

-- and what a consumer's file is, is what it says
pub consumer-said : (f : Files) (name : List ℕ) (c : Consumer) → ConsumerAt f name c → said_at f name ≡ Some (record { next = c.next; fresh = c.fresh })
consumer-said f name c (bytes, is, reads) = ap said_in is ∙ ap said_of reads

-- what the law of the least snapshot says
abbrev pub LeastKept : Type 0
LeastKept = (m : Moment) (name : List ℕ) → Holds m → Counts (m.claim name) → (said : Said) × (m.file name ≡ Some said) × (m.least ≤ said.next)

pub counted-file : LeastKept → (f : Files) (s : TableSchema) (entries : List Entry) (claims : List ℕ → Claim) (name : List ℕ) → KnowsConsumers f s entries claims
    → Counts (claims name) → (least : ℕ) × IsLeast f s least × ((c : Consumer) × ConsumerAt f name c × (least ≤ c.next))
counted-file law f s entries claims name known counts =
    let (said, file, low) = law (moment_of f s entries known.least claims) name known.holds counts in
    let (c, at, next, fresh) = said-consumer f name said file in
    let under : known.least ≤ said.next = low in
    (known.least, known.is, (c, at, omega (arith, under, next)))

pub settled-file : (f : Files) (s : TableSchema) (entries : List Entry) (claims : List ℕ → Claim) (name : List ℕ) (from : ℕ) (moved : List (List ℕ))
    → KnowsConsumers f s entries claims → claims name ≡ settled from moved
    → (least : ℕ) × HasSnapshotAt f s least × ((id : ℕ) → id < least → ¬ HasSnapshotAt f s id) × IsSettled f least name
settled-file f s entries claims name from moved known is =
    let (n, file, low, are) = subst (IsClaimed (moment_of f s entries known.least claims) name) is (known.holds.claims name) in
    let (c, at, next, fresh) = said-consumer f name (known_at n) file in
    let under : known.least ≤ n = low in
    let number : c.next ≡ n = next in
    (known.least, known.is.there, known.is.none, record { consumer = c; at = at; known = fresh; next = omega (arith, under, number) })

pub settled-free : (from : ℕ) (moved : List (List ℕ)) → settled from moved ≡ free → ⊥
settled-free from moved e = cc

-- the frames that a settled consumer was moved past are those from where it came to be
frames-are : (m : Moment) (from : ℕ) (moved : List (List ℕ)) (next : ℕ) → AreMoved m from moved next
    → (moved ≡ each_of (λ (id : ℕ). m.frame id) (range_with_len from (length moved))) × (from + length moved ≡ next)
frames-are m from [] next is = (refl, omega (arith, is))
frames-are m from (text ∷ moved) next (within, frame, rest) =
    let one : from + 1 ≡ suc from = omega arith in
    let (are, end) = frames-are m (suc from) moved next rest in (
      (λ i. frame i ∷ are i) ∙ ap (λ (k : ℕ). m.frame from ∷ each_of (λ (id : ℕ). m.frame id) (range_with_len k (length moved))) (sym one),
      omega (arith, end),
    )

pub settled-frames : (f : Files) (s : TableSchema) (entries : List Entry) (claims : List ℕ → Claim) (name : List ℕ) (from : ℕ) (moved : List (List ℕ))
    → KnowsConsumers f s entries claims → claims name ≡ settled from moved
    → (c : Consumer) × ConsumerAt f name c × (c.fresh ≡ false) × (c.next ≡ from + length moved)
    × (moved ≡ each_of (λ (id : ℕ). frame s entries id) (range_with_len from (length moved)))
settled-frames f s entries claims name from moved known is =
    let (n, file, low, are) = subst (IsClaimed (moment_of f s entries known.least claims) name) is (known.holds.claims name) in
    let (c, at, next, fresh) = said-consumer f name (known_at n) file in
    let (own, end) = frames-are (moment_of f s entries known.least claims) from moved n are in
    (c, at, fresh, next ∙ sym end, own)

-- ---- a folder that is found with settled consumers

abbrev number_in : Option Said → ℕ
number_in None = 0
number_in (Some said) = said.next

-- settled from the number of its file on
abbrev from_file : Files → List ℕ → Claim
from_file f name = settled (number_in (said_at f name)) []

-- these names are so
abbrev pub found_claims : Files → List (List ℕ) → List ℕ → Claim
found_claims f [] name = free
found_claims f (other ∷ names) name = if bytes_eq other name then from_file f name else found_claims f names name

in-cons : (name other : List ℕ) (names : List (List ℕ)) → Contains (other ∷ names) name → (name ≡ other) ⊎ Contains names name
in-cons name other names (zero, within, is) = inl (sym is)
in-cons name other names (suc k, within, is) = inr (k, omega (arith, within), is)

found-settled : (f : Files) (names : List (List ℕ)) (name : List ℕ) → Contains names name → found_claims f names name ≡ from_file f name
found-settled f [] name (k, within, is) = absurd (omega (arith, within))
found-settled f (other ∷ names) name there = at (bytes_eq other name) refl (found-settled f names name)
  where
    at : (t : Bool) → bytes_eq other name ≡ t → (Contains names name → found_claims f names name ≡ from_file f name)
        → (if bytes_eq other name then from_file f name else found_claims f names name) ≡ from_file f name
    at true is later = ap (λ t. cond t (from_file f name) (found_claims f names name)) is
    at false is later = ap (λ t. cond t (from_file f name) (found_claims f names name)) is
        ∙ elim (in-cons name other names there) as (λ _. found_claims f names name ≡ from_file f name) [
          | inl same ↦ absurd (true≢false (sym ((bytes_eq-Decides other name).1 (sym same)) ∙ is))
          | inr more ↦ later more
        ]

pub found-from : (f : Files) (names : List (List ℕ)) (name : List ℕ) → Contains names name → (from : ℕ) × (found_claims f names name ≡ settled from [])
found-from f names name there = (number_in (said_at f name), found-settled f names name there)

-- a name that isn't one of them has no claim
found-among : (f : Files) (names : List (List ℕ)) (name : List ℕ) → (found_claims f names name ≡ free) ⊎ Contains names name
found-among f [] name = inl refl
found-among f (other ∷ names) name = at (bytes_eq other name) refl (found-among f names name)
  where
    at : (t : Bool) → bytes_eq other name ≡ t → (found_claims f names name ≡ free) ⊎ Contains names name
        → ((if bytes_eq other name then from_file f name else found_claims f names name) ≡ free) ⊎ Contains (other ∷ names) name
    at true is later = inr (0, omega arith, (bytes_eq-Decides other name).0 is)
    at false is (inl none) = inl (ap (λ t. cond t (from_file f name) (found_claims f names name)) is ∙ none)
    at false is (inr (k, within, here)) = inr (suc k, omega (arith, within), here)

module _ (f : Files) (s : TableSchema) (entries : List Entry) (names : List (List ℕ)) (folder : HasTable f s entries) (have : HaveSettled f (table s entries) names) where
  abbrev IsFound : List ℕ → Claim → Type 0
  IsFound name claim = IsClaimed (moment_of f s entries folder.snapshots.least (found_claims f names)) name claim

  claimed : (name : List ℕ) → Contains names name → IsFound name (found_claims f names name)
  claimed name there =
      let (least, here, none, is) = have name there in
      let said = consumer-said f name is.consumer is.at in
      let low = least-at-most f s folder.snapshots.least least (table-least f s entries folder) here in
      let under = is.next in
      let bound : folder.snapshots.least ≤ is.consumer.next = omega (arith, low, under) in
      let number : number_in (said_at f name) ≡ is.consumer.next = ap number_in said in
      subst (IsFound name) (sym (found-settled f names name there))
      (is.consumer.next, said ∙ (λ i. Some (record { next = is.consumer.next; fresh = is.known i })), bound, number)

  each : (name : List ℕ) → IsFound name (found_claims f names name)
  each name = elim (found-among f names name) as (λ _. IsFound name (found_claims f names name)) [
    | inl none ↦ subst (IsFound name) (sym none) tt
    | inr there ↦ claimed name there
  ]

  pub names-found : KnowsConsumers f s entries (found_claims f names)
  names-found = found-consumers f s entries (found_claims f names) folder each
