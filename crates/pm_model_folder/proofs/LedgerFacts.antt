-- What is known of snapshots: that a folder which is found has a past, that each change keeps it, and what reading shows.
use Rattle.std.proofs.Common.{◌≡◌, ◌≢◌, ◌⊎◌, inl, inr, ℕ, zero, suc, ◌+◌, ◌-◌, ◌<◌, ◌≤◌, List, [], ◌∷◌, ◌++◌, map as each_of, take, length, length-append, slice_get, Contains, codes, Option, Some, None, IsSome, false, Ok, refl, sym, ap, subst, ◌∙◌, arith}
use Rattle.std.specs.FinMap as map
use Rattle.std.specs.List.{range_with_len}
use Rattle.std.proofs.lemmas.List.{append-nil, take_all, take-append-le}
use Rattle.pm_store.specs.Files.{Files, Puts}
use Rattle.pm_values.specs.declared.group.Group.{Group}
use Rattle.pm_model_consumers.specs.Claims.{Claim, Counts, Holds as HoldsAt, free, settled}
use Rattle.pm_model_history.specs.History.{Entry, History, IsTableOf, GoesOn, no_table, table}
use Rattle.pm_model_following.specs.Following.{HaveBases, frame}
use Rattle.pm_schema.specs.Reading.{schema_of}
use Rattle.pm_schema.specs.declared.schema.TableSchema.{TableSchema}
use Rattle.pm_snapshot.specs.Names.{greatest}
use Rattle.pm_snapshot.specs.Snapshot.{snapshot_in}
use Rattle.pm_snapshot.specs.declared.consumer.Consumer.{Consumer}
use Rattle.pm_snapshot.specs.declared.snapshot.Snapshot.{Snapshot}
use Rattle.pm_model_contents.specs.Named.{Contents, HasContents}
use Rattle.pm_model_folder.specs.Changes.{Actor, Change, IsOwnFile, IsTablePath, beside as changes_beside, nothing, own_file, schema, committed}
use Rattle.pm_model_folder.specs.Commits.{CountsAppends, HasCommit, IsCommit, IsCommitted, Names, Needs, live_in}
use Rattle.pm_model_folder.specs.Entries.{IsFenced, appends_in}
use Rattle.pm_model_folder.specs.Consumers.{IsMoved, KnowsConsumers, follower_of, moment_of}
use Rattle.pm_model_folder.specs.Folder.{Folder, HasTable, HaveSettled, IsEntryAfter, IsFrom, KeepsConsumers}
use Rattle.pm_model_folder.specs.Ledger.{Past, Advances, HasConsumersOf, HasNamedNone, IsKnown, IsOldOrUnnamed, IsUnnamed, KeepsFiles, KnowsAppends, KnowsNone, KnowsPast, KnowsRuns, KnowsTable, MovesConsumers, Stands, WasNamed, AreAbove, count_of, untouched}
use Rattle.pm_model_folder.specs.Meaning.{ConsumerAt, HasSnapshotAt, IsLeast, SnapshotAt}
use Rattle.pm_model_folder.specs.Paths.{consumer_path, schema_path, snapshot_path}
use Rattle.pm_model_folder.specs.Runs.{AreInFiles, HaveLiveFiles}
use Rattle.pm_model_folder.proofs.ConsumerLemmas.{ChangesStay, ClaimsKept, LeastKept, Moving, MovesOn, counted-file, found_claims, found-from, free-consumers, moved-on, moving, names-found, none-claims, settled-file, settled-frames, settled-free}
use Rattle.pm_model_folder.proofs.Facts.{goes_on, kept-schema, rows-append, same-or-other, same-path, snapshot_stays, some-none, split-last, still_there, there-absent}
use Rattle.pm_model_folder.proofs.HoldLemmas.{ContentsStay, Holds, OneContents, SameContents, one-snapshot}
use Rattle.pm_model_folder.proofs.GoneLemmas.{gone-beside, keeps-beside, rests-or-goes}
use Rattle.pm_model_folder.proofs.KindFacts.{kept, stays-or-beside}
use Rattle.pm_model_folder.proofs.PathLemmas.{consumer-own, consumer-schema, named-apart, other-consumers, other-snapshot, own-in_table, snapshot-own}
use Rattle.pm_model_folder.proofs.RunFacts.{found-runs, live-shows, none-known, origin-none, origin-runs}
use Rattle.pm_model_folder.proofs.SettledLemmas.{all_claims, all-known, all-settled, on-earlier}
use Rattle.pm_runs.specs.Stand.{top_of}
use Rattle.pm_runs.specs.Succession.{AreKnownAt, Follows, HaveFilesIn, IsSuccession, IsTaken, KnownRun, StillStands, Taking}

-- ---- what the laws of runs say

abbrev pub RunsFound : Type 0
RunsFound = (s : TableSchema) (g : Group) (entries : List Entry) (runs : List KnownRun) → HaveBases 1 entries → AreKnownAt s g entries (length entries) runs
    → IsSuccession s g entries (length entries) (λ n. runs)

pub record RunLaws : Type 0 where
  pub found : RunsFound
  pub same : (s : TableSchema) (g : Group) (entries : List Entry) (since : ℕ) (runs later : ℕ → List KnownRun) → IsSuccession s g entries since runs
      → ((n : ℕ) → n ≤ length entries → later n ≡ runs n) → IsSuccession s g entries since later
  pub goes_on : (s : TableSchema) (g : Group) (entries : List Entry) (since : ℕ) (runs later : ℕ → List KnownRun) (e : Entry)
      → IsSuccession s g entries since runs → since ≤ length entries → 1 ≤ top_of s → HaveBases 1 (entries ++ e ∷ [])
      → ((n : ℕ) → n ≤ length entries → later n ≡ runs n) → Follows s g since runs (length entries) e (later (suc (length entries)))
      → IsSuccession s g (entries ++ e ∷ []) since later
  -- a schema that is read has a level above 0
  pub high : (path text : List ℕ) (s : TableSchema) → schema_of path text ≡ Ok s → 1 ≤ top_of s

-- ---- a folder that is found

-- from its least snapshot on, each stands as it is; at the newest it has these runs
abbrev found_past : Files → History → ℕ → (Group → List KnownRun) → (List ℕ → Claim) → Past
found_past f h first runs claims = record { history = h; first = first; stood = λ id. f; since = count_of h; runs = λ id g. runs g; claims = claims }

was-from : (least n id : ℕ) → 1 ≤ id → least ≤ id → id ≤ n → IsFrom least n id
was-from least n id after low high = record { after_origin = after; from = low; to = high }

found-kept : (f : Files) (s : TableSchema) (id : ℕ) → KeepsFiles f s f id
found-kept f s id = record { same = λ path needs. inr refl; there = λ here path needs. refl }

one-number : (n k : ℕ) → n ≤ k → k ≤ n → n ≡ k
one-number n k low high = omega (arith, low, high)

module _ (law : RunsFound) (f : Files) (s : TableSchema) (entries : List Entry) (folder : HasTable f s entries) (claims : List ℕ → Claim)
    (known : KnowsConsumers f s entries claims) where
  abbrev newest_past : Past
  newest_past = found_past f (table s entries) folder.snapshots.least (λ g. (found-runs f s entries folder g).runs) claims

  known-runs : KnowsRuns s entries newest_past
  known-runs = record {
    since = omega arith;
    from = λ id after low. (let some = folder.snapshots.some in omega (arith, some, low));
    stood = λ id g low high. subst (λ (k : ℕ). AreInFiles f s k g (found-runs f s entries folder g).runs) (one-number (length entries) id low high)
        (found-runs f s entries folder g).in_files;
    succession = λ g. law s g entries (found-runs f s entries folder g).runs folder.history.bases (found-runs f s entries folder g).known;
  }

  -- the newest is the only one of which it is known
  known-appends : KnowsAppends entries newest_past
  known-appends early late x y low least le high at there =
      let same : early ≡ late = one-number early late le (omega (arith, low, high)) in
      let one : x ≡ y = one-snapshot f late x y (subst (λ (n : ℕ). SnapshotAt f n x) same at) there in
      let equal : x.appends ≡ y.appends = ap (λ (z : Snapshot). z.appends) one in omega (arith, equal)

  found-table : KnowsTable f s entries newest_past
  found-table =
      let least : ℕ = folder.snapshots.least in
      let some = folder.snapshots.some in
      let within = folder.snapshots.within in record {
        start = omega (arith, some);
        reaches = λ id after high here. ((folder.snapshots.exact id (omega (arith, high, within))).0 here).0;
        committed = λ id known. folder.commits.committed id (was-from least (length entries) id known.after_origin known.from known.to);
        kept = λ id known. found-kept f s id;
        gone = λ early middle late path first low high last here there.
            folder.commits.gone early (was-from least (length entries) early first.after_origin first.from first.to) early middle late path (omega arith) low high
            last.to here there;
        runs = known-runs;
        appends = known-appends;
        consumers = known;
      }

-- with what is known of consumers
found-with : RunsFound → (f : Files) (s : TableSchema) (entries : List Entry) → HasTable f s entries → (claims : List ℕ → Claim) → KnowsConsumers f s entries claims
    → (p : Past) × (p.history ≡ table s entries) × Stands f p × ((id : ℕ) → p.stood id ≡ f) × (p.since ≡ length entries) × ((name : List ℕ) → p.claims name ≡ claims name)
found-with law f s entries folder claims known = (
  newest_past law f s entries folder claims known,
  refl,
  record { folder = folder; past = found-table law f s entries folder claims known },
  λ id. refl,
  refl,
  λ name. refl,
)

pub found : RunsFound → (f : Files) (h : History) → Folder f h
    → (p : Past) × (p.history ≡ h) × Stands f p × ((id : ℕ) → p.stood id ≡ f) × (p.since ≡ count_of h)
found law f no_table folder = (
  found_past f no_table 1 (λ g. []) (λ name. free),
  refl,
  record { folder = folder; past = record { first = omega arith; since = refl; runs = λ g. refl; claims = λ name. refl } },
  λ id. refl,
  refl,
)
found law f (table s entries) folder =
    let (p, is, stands, stood, since, claims) = found-with law f s entries folder (λ name. free) (free-consumers f s entries (λ name. free) folder (λ name. refl)) in
    (p, is, stands, stood, since)

-- with settled consumers of these names
abbrev pub AreFoundSettled : Past → List (List ℕ) → Type 0
AreFoundSettled p names = (name : List ℕ) → Contains names name → (from : ℕ) × (p.claims name ≡ settled from [])

pub found-names : RunsFound → (f : Files) (h : History) (names : List (List ℕ)) → Folder f h → HaveSettled f h names
    → (p : Past) × (p.history ≡ h) × Stands f p × AreFoundSettled p names
found-names law f no_table names folder have =
    let (p, is, stands, stood, since) = found law f no_table folder in (p, is, stands, λ name there. absurd (have name there))
found-names law f (table s entries) names folder have =
    let (p, is, stands, stood, since, claims) = found-with law f s entries folder (found_claims f names) (names-found f s entries names folder have) in
    (p, is, stands, λ name there. (let (from, own) = found-from f names name there in (from, claims name ∙ own)))

-- with all that are
pub found-all : RunsFound → (f : Files) (h : History) → Folder f h
    → (p : Past) × (p.history ≡ h) × Stands f p × ((id : ℕ) → p.stood id ≡ f) × (p.since ≡ count_of h) × HasConsumersOf h f f p
found-all law f no_table folder =
    let (p, is, stands, stood, since) = found law f no_table folder in
    (p, is, stands, stood, since, record { files = λ name. refl; known = λ names name have there. absurd (have name there) })
found-all law f (table s entries) folder =
    let (p, is, stands, stood, since, claims) = found-with law f s entries folder (all_claims f folder.snapshots.least) (all-known f s entries folder) in (
      p,
      is,
      stands,
      stood,
      since,
      record {
        files = λ name. refl;
        known = λ names name have there. (let (from, own) = all-settled f s entries folder names name have there in (from, claims name ∙ own));
      },
    )

-- ---- the table of a past

pub at-table : (f : Files) (p : Past) (s : TableSchema) → Stands f p → IsTableOf s p.history
    → (entries : List Entry) × (p.history ≡ table s entries) × HasTable f s entries × KnowsTable f s entries p
at-table f p s stands is = at p.history refl is stands.folder stands.past
  where
    at : (h : History) → p.history ≡ h → IsTableOf s h → Folder f h → KnowsPast f h p
        → (entries : List Entry) × (p.history ≡ table s entries) × HasTable f s entries × KnowsTable f s entries p
    at no_table same is folder past = absurd is
    at (table t entries) same is folder past = (
      entries,
      same ∙ ap (λ (t : TableSchema). table t entries) is,
      subst (λ (t : TableSchema). HasTable f t entries) is folder,
      subst (λ (t : TableSchema). KnowsTable f t entries p) is past,
    )

pub count-is : (p : Past) (s : TableSchema) (entries : List Entry) → p.history ≡ table s entries → count_of p.history ≡ length entries
count-is p s entries is = ap count_of is

-- ---- what reading shows

bytes-same : (a b : List ℕ) → Some a ≡ Some b → a ≡ b
bytes-same a b e = cc

-- a snapshot that was read is known, and so it stood
pub stood-read : (f : Files) (p : Past) (s : TableSchema) (id : ℕ) (bytes : List ℕ) (x : Snapshot) → Stands f p → IsTableOf s p.history → 1 ≤ id → id ≤ greatest
    → map.get f (snapshot_path id) ≡ Some bytes → snapshot_in id bytes ≡ Ok x
    → IsKnown p id × SnapshotAt (p.stood id) id x × ((c : Contents) × HasContents (p.stood id) s x c)
stood-read f p s zero bytes x stands is least within here reads = absurd (omega (arith, least))
stood-read f p s (suc k) bytes x stands is least within here reads =
    let id : ℕ = suc k in
    let own = at-table f p s stands is in
    let there : HasSnapshotAt f s id = subst (λ (o : Option (List ℕ)). IsSome o) (sym here) refl in
    let bounds = (own.2.snapshots.exact id within).0 there in
    let known : IsKnown p id = record {
      after_origin = least;
      from = own.3.reaches id least bounds.1 there;
      to = (let high = bounds.1 in let many = count-is p s own.0 own.1 in omega (arith, high, many));
    } in
    let commit : IsCommitted (p.stood id) s (take id own.0) id = own.3.committed id known in
    let stood : map.get (p.stood id) (snapshot_path id) ≡ Some bytes =
    sym ((own.3.kept id known).there there (snapshot_path id) (inl refl)) ∙ here in
    let at : SnapshotAt (p.stood id) id x = (bytes, stood, reads) in
    let same : commit.snapshot ≡ x = one-snapshot (p.stood id) id commit.snapshot x commit.there at in
    (known, at, (commit.contents, subst (λ (x : Snapshot). HasContents (p.stood id) s x commit.contents) same commit.has))

-- what is found at a path that a known snapshot needs is what stood there
pub stood-same : (f : Files) (p : Past) (s : TableSchema) (id : ℕ) (path bytes : List ℕ) → Stands f p → IsTableOf s p.history → IsKnown p id
    → Needs (p.stood id) s id path → map.get f path ≡ Some bytes → map.get (p.stood id) path ≡ Some bytes
stood-same f p s id path bytes stands is known needs here =
    let own = at-table f p s stands is in
    elim ((own.3.kept id known).same path needs) as (λ _. map.get (p.stood id) path ≡ Some bytes) [
      | inl none ↦ absurd (some-none (map.get f path) (subst (λ (o : Option (List ℕ)). IsSome o) (sym here) refl) none)
      | inr same ↦ sym same ∙ here
    ]

absent-or : (o : Option (List ℕ)) → (o ≡ None) ⊎ IsSome o
absent-or None = inl refl
absent-or (Some x) = inr refl

-- where such a path is absent the snapshot has gone
pub stood-gone : (f : Files) (p : Past) (s : TableSchema) (id : ℕ) (path : List ℕ) → Stands f p → IsTableOf s p.history → IsKnown p id
    → Needs (p.stood id) s id path → IsSome (map.get (p.stood id) path) → map.get f path ≡ None → map.get f (snapshot_path id) ≡ None
stood-gone f p s zero path stands is known needs stood absent = absurd (let low = known.after_origin in omega (arith, low))
stood-gone f p s (suc k) path stands is known needs stood absent =
    let own = at-table f p s stands is in
    elim (absent-or (map.get f (snapshot_path (suc k)))) as (λ _. map.get f (snapshot_path (suc k)) ≡ None) [
      | inl none ↦ none
      | inr here ↦ absurd (some-none (map.get (p.stood (suc k)) path) stood (sym ((own.3.kept (suc k) known).there here path needs) ∙ absent))
    ]

-- ---- what a change keeps

-- a snapshot that has gone doesn't come again
gone-change : (me : Actor) (f after : Files) (h later : History) (s : TableSchema) (id : ℕ) → Folder f h → Change me f h after later → IsTableOf s h
    → 1 ≤ id → id ≤ count_of h → map.get f (snapshot_path id) ≡ None → map.get after (snapshot_path id) ≡ None
gone-change me f after h later s id folder (nothing same) is least within absent = same (snapshot_path id) ∙ absent
gone-change me f after h later s id folder (own_file path content own other none puts) is least within absent =
    puts.others (snapshot_path id) (snapshot-own me path id own) ∙ absent
gone-change me f after h later s id folder (schema t bytes origin named puts reads) is least within absent = absurd is
gone-change me f after h later s id folder (committed t entries e bytes newest bound none puts fit commit own) is least within absent =
    puts.others (snapshot_path id) (other-snapshot id (suc (length entries)) (omega (arith, within, bound)) bound (λ e. omega (arith, within, e))) ∙ absent
gone-change me f after h later s id folder (changes_beside t entries plain change) is least within absent = gone-beside f t entries after id change absent

count-grows : (h later : History) → GoesOn h later → count_of h ≤ count_of later
count-grows no_table later goes = omega arith
count-grows (table s entries) no_table goes = absurd goes
count-grows (table s entries) (table t later) (same, more, is) =
    let size = ap length is ∙ length-append entries more in omega (arith, size)

pub known-still : (me : Actor) (f after : Files) (p q : Past) (id : ℕ) → Advances me f p after q → IsKnown p id → IsKnown q id
known-still me f after p q id advances known = record {
  after_origin = known.after_origin;
  from = (let low = known.from in let same = advances.first in omega (arith, low, same));
  to = (let high = known.to in let more = count-grows p.history q.history (goes_on me f after p.history q.history advances.change) in omega (arith, high, more));
}

pub gone-still : (me : Actor) (f after : Files) (p q : Past) (s : TableSchema) (id : ℕ) → Stands f p → Advances me f p after q → IsTableOf s p.history
    → IsKnown p id → map.get f (snapshot_path id) ≡ None → map.get after (snapshot_path id) ≡ None
gone-still me f after p q s id stands advances is known absent =
    gone-change me f after p.history q.history s id stands.folder advances.change is known.after_origin known.to absent

-- a path that a known snapshot needs has what it had
needed-same : (me : Actor) (f after : Files) (p q : Past) (s : TableSchema) (id : ℕ) (path : List ℕ) → Stands f p → Advances me f p after q
    → IsTableOf s p.history → IsKnown p id → Holds f after → Needs (p.stood id) s id path → map.get after path ≡ map.get f path
needed-same me f after p q s id path stands advances is known holds needs = elim (absent-or (map.get f path)) as (λ _. map.get after path ≡ map.get f path) [
  | inl none ↦ elim (absent-or (map.get after path)) as (λ _. map.get after path ≡ map.get f path) [
    | inl absent ↦ absent ∙ sym none
    | inr here ↦ absurd (advances.fresh s path is none here id known needs)
  ]
  | inr there ↦ holds path there
]

back-there : (me : Actor) (f after : Files) (p q : Past) (s : TableSchema) (id : ℕ) → Stands f p → Advances me f p after q → IsTableOf s p.history
    → IsKnown p id → HasSnapshotAt after s id → HasSnapshotAt f s id
back-there me f after p q s zero stands advances is known there = absurd (let low = known.after_origin in omega (arith, low))
back-there me f after p q s (suc k) stands advances is known there = elim (absent-or (map.get f (snapshot_path (suc k)))) as (λ _. HasSnapshotAt f s (suc k)) [
  | inl none ↦ absurd (some-none (map.get after (snapshot_path (suc k))) there (gone-still me f after p q s (suc k) stands advances is known none))
  | inr here ↦ here
]

kept-files : (me : Actor) (f after : Files) (p q : Past) (s : TableSchema) (id : ℕ) → Stands f p → Advances me f p after q → IsTableOf s p.history
    → IsKnown p id → Holds f after → KeepsFiles f s (p.stood id) id → KeepsFiles after s (p.stood id) id
kept-files me f after p q s id stands advances is known holds keeps = record {
  same = λ path needs.
      let same = needed-same me f after p q s id path stands advances is known holds needs in
      elim (keeps.same path needs) as (λ _. (map.get after path ≡ None) ⊎ (map.get after path ≡ map.get (p.stood id) path)) [
        | inl none ↦ inl (same ∙ none)
        | inr was ↦ inr (same ∙ was)
      ];
  there = λ here path needs.
      needed-same me f after p q s id path stands advances is known holds needs ∙ keeps.there (back-there me f after p q s id stands advances is known here) path needs;
}

-- the known snapshots of a table stay as they were
module _ (me : Actor) (f after : Files) (p q : Past) (s : TableSchema) (entries later : List Entry) (stands : Stands f p) (advances : Advances me f p after q)
    (is : IsTableOf s p.history) (past : KnowsTable f s entries p) (more : List Entry) (grows : later ≡ entries ++ more) where
  old-committed : (id : ℕ) → IsKnown p id → id ≤ length entries → IsCommitted (q.stood id) s (take id later) id
  old-committed id known within =
      let first : take id entries ≡ take id later = sym (take-append-le id entries more within) ∙ ap (take id) (sym grows) in
      subst (λ (g : Files). IsCommitted g s (take id later) id) (sym (advances.same id known))
      (subst (λ (es : List Entry). IsCommitted (p.stood id) s es id) first (past.committed id known))

  old-kept : Holds f after → (id : ℕ) → IsKnown p id → KeepsFiles after s (q.stood id) id
  old-kept holds id known = subst (λ (g : Files). KeepsFiles after s g id) (sym (advances.same id known))
      (kept-files me f after p q s id stands advances is known holds (past.kept id known))

  old-gone : (early middle late : ℕ) (path : List ℕ) → IsKnown p early → early < middle → middle < late → IsKnown p late
      → Names (q.stood early) s early path → Names (q.stood late) s late path → Names (q.stood middle) s middle path
  old-gone early middle late path first low high last here there =
      let between : IsKnown p middle = record {
        after_origin = omega (arith, low);
        from = (let from = first.from in omega (arith, from, low));
        to = (let to = last.to in omega (arith, to, high));
      } in
      subst (λ (g : Files). Names g s middle path) (sym (advances.same middle between))
      (past.gone early middle late path first low high last (subst (λ (g : Files). Names g s early path) (advances.same early first) here)
      (subst (λ (g : Files). Names g s late path) (advances.same late last) there))

pub is-table : (p : Past) (s : TableSchema) (entries : List Entry) → p.history ≡ table s entries → IsTableOf s p.history
is-table p s entries same = subst (λ (h : History). IsTableOf s h) (sym same) refl

-- what an actor made stays, whoever acts, while no known snapshot names a file of the actor, or its base is fenced: of
-- such files only those go that a known one named
pub own-stays : (me other : Actor) (base : ℕ) (f after : Files) (p q : Past) (path : List ℕ) → Stands f p → Advances other f p after q
    → IsOwnFile me base path → HasNamedNone me p → IsSome (map.get f path) → IsFenced base q.history ⊎ (map.get after path ≡ map.get f path)
own-stays me other base f after p q path stands advances own none there =
    elim (stays-or-beside other f after p.history q.history stands.folder advances.change) as (λ _. IsFenced base q.history ⊎ (map.get after path ≡ map.get f path)) [
      | inl holds ↦ inr (holds path there)
      | inr (s, entries, is, plain, change) ↦
          elim (rests-or-goes f s entries after path change no_consumer there) as (λ _. IsFenced base q.history ⊎ (map.get after path ≡ map.get f path)) [
            | inl absent ↦ absurd (unnamed s (is-table p s entries is) absent)
            | inr rests ↦ inr rests
          ]
    ]
  where
    no_consumer : (name : List ℕ) → path ≢ consumer_path name
    no_consumer name = named-apart me path (codes "consumer") (codes "consumer-" ++ name) own.by own.in_table other-consumers

    unnamed : (s : TableSchema) → IsTableOf s p.history → map.get after path ≡ None → ⊥
    unnamed s is absent =
        let was = advances.gone s path is (own-in_table me base path own) there absent in
        none s was.0 path is was.1 was.2 own.by

-- ---- what is known of runs stays

module _ (laws : RunLaws) (me : Actor) (f after : Files) (p q : Past) (advances : Advances me f p after q) (s : TableSchema) (entries : List Entry)
    (was : p.history ≡ table s entries) (known : KnowsRuns s entries p) where
  runs-were : (n : ℕ) (g : Group) → n ≤ length entries → q.runs n g ≡ p.runs n g
  runs-were n g within = advances.runs n g (let many = count-is p s entries was in omega (arith, within, many))

  -- those of the snapshots that were known
  in-files-were : (id : ℕ) (g : Group) → p.since ≤ id → id ≤ length entries → AreInFiles (q.stood id) s id g (q.runs id g)
  in-files-were zero g low high =
      origin-runs (q.stood 0) s g (q.runs 0 g) (runs-were 0 g high ∙ origin-none (p.runs 0 g) (known.stood 0 g low high).are)
  in-files-were (suc k) g low high =
      let one : IsKnown p (suc k) = record {
        after_origin = omega arith;
        from = known.from (suc k) (omega arith) low;
        to = (let many = count-is p s entries was in omega (arith, high, many));
      } in
      subst (λ (files : Files). AreInFiles files s (suc k) g (q.runs (suc k) g)) (sym (advances.same (suc k) one))
      (subst (AreInFiles (p.stood (suc k)) s (suc k) g) (sym (runs-were (suc k) g high)) (known.stood (suc k) g low high))

  from-first : (id : ℕ) → 1 ≤ id → q.since ≤ id → q.first ≤ id
  from-first id least low =
      let since = advances.since in
      let from = known.from id least (omega (arith, low, since)) in
      let first = advances.first in
      omega (arith, from, first)

  -- where no entry comes
  runs-same : KnowsRuns s entries q
  runs-same = record {
    since = (let low = known.since in let since = advances.since in omega (arith, low, since));
    from = from-first;
    stood = λ id g low high. in-files-were id g (let since = advances.since in omega (arith, low, since)) high;
    succession = λ g. subst (λ (n : ℕ). IsSuccession s g entries n (λ n. q.runs n g)) (sym advances.since)
        (laws.same s g entries p.since (λ n. p.runs n g) (λ n. q.runs n g) (known.succession g) (λ n within. runs-were n g within));
  }

  -- where one comes
  module _ (e : Entry) (now : q.history ≡ table s (entries ++ e ∷ [])) (high : 1 ≤ top_of s) (bases : HaveBases 1 (entries ++ e ∷ []))
      (stood : q.stood (suc (length entries)) ≡ after) where
    one-more : length (entries ++ e ∷ []) ≡ suc (length entries)
    one-more = length-append entries (e ∷ []) ∙ (let more : length entries + 1 ≡ suc (length entries) = omega arith in more)

    in-files-now : (id : ℕ) (g : Group) → q.since ≤ id → id ≤ length (entries ++ e ∷ []) → AreInFiles (q.stood id) s id g (q.runs id g)
    in-files-now id g low within = elim (split-last (length entries) id (omega (arith, within, one-more))) as (λ _. AreInFiles (q.stood id) s id g (q.runs id g)) [
      | inl before ↦ in-files-were id g (let since = advances.since in omega (arith, low, since)) before
      | inr last ↦ subst (λ (n : ℕ). AreInFiles (q.stood n) s n g (q.runs n g)) (sym last)
          (subst (λ (files : Files). AreInFiles files s (suc (length entries)) g (q.runs (suc (length entries)) g)) (sym stood)
          (advances.follows s entries e g was now).are)
    ]

    runs-more : KnowsRuns s (entries ++ e ∷ []) q
    runs-more = record {
      since = (let low = known.since in let since = advances.since in omega (arith, low, since, one-more));
      from = from-first;
      stood = in-files-now;
      succession = λ g. subst (λ (n : ℕ). IsSuccession s g (entries ++ e ∷ []) n (λ n. q.runs n g)) (sym advances.since)
          (laws.goes_on s g entries p.since (λ n. p.runs n g) (λ n. q.runs n g) e (known.succession g) known.since high bases
          (λ n within. runs-were n g within) (advances.follows s entries e g was now).follow);
    }

-- ---- and that counts of appends never fell

-- up to the snapshots that were known
old-appends : (me : Actor) (f after : Files) (p q : Past) → Advances me f p after q → (s : TableSchema) (entries : List Entry) → KnowsRuns s entries p → KnowsAppends entries p
    → ((n : ℕ) → n ≤ length entries → n ≤ count_of p.history) → KnowsAppends entries q
old-appends me f after p q advances s entries runs appends counted early late x y low least le high at there =
    let since = advances.since in
    let was_low : p.since ≤ early = omega (arith, low, since) in
    appends early late x y was_low least le high
    (subst (λ (g : Files). SnapshotAt g early x) (advances.same early (known early least was_low (omega (arith, le, high)))) at)
    (subst (λ (g : Files). SnapshotAt g late y) (advances.same late (known late (omega (arith, least, le)) (omega (arith, was_low, le)) high)) there)
  where
    known : (id : ℕ) → 1 ≤ id → p.since ≤ id → id ≤ length entries → IsKnown p id
    known id least low high = record { after_origin = least; from = runs.from id least low; to = counted id high }

-- where a table begins
runs-begin : RunLaws → (p q : Past) (s : TableSchema) → KnowsNone p → q.since ≡ p.since → q.first ≡ p.first → ((g : Group) → q.runs 0 g ≡ p.runs 0 g) → KnowsRuns s [] q
runs-begin laws p q s none since first same = record {
  since = (let zero_since = none.since in omega (arith, since, zero_since));
  from = λ id least low. (let bound = none.first in omega (arith, least, first, bound));
  stood = at;
  succession = λ g. subst (λ (n : ℕ). IsSuccession s g [] n (λ n. q.runs n g)) (sym (since ∙ none.since))
      (laws.same s g [] 0 (λ n. []) (λ n. q.runs n g) (laws.found s g [] [] tt (none-known s g)) (at-zero g));
}
  where
    empty : (g : Group) → q.runs 0 g ≡ []
    empty g = same g ∙ none.runs g

    at : (id : ℕ) (g : Group) → q.since ≤ id → id ≤ 0 → AreInFiles (q.stood id) s id g (q.runs id g)
    at zero g low high = origin-runs (q.stood 0) s g (q.runs 0 g) (empty g)
    at (suc k) g low high = absurd (omega (arith, high))

    at-zero : (g : Group) (n : ℕ) → n ≤ 0 → q.runs n g ≡ []
    at-zero g zero within = empty g
    at-zero g (suc n) within = absurd (omega (arith, within))

-- ---- what is known of consumers moves on

pub steps-on : OneContents → SameContents → ChangesStay → (me : Actor) (f after : Files) (p q : Past) (s : TableSchema) (entries grown : List Entry) → Stands f p → Advances me f p after q
    → p.history ≡ table s entries → q.history ≡ table s grown → (known : KnowsConsumers f s entries p.claims)
    → MovesOn me f after s entries grown known.least p.claims q.claims
steps-on one same changes me f after p q s entries grown stands advances was now known =
    subst (λ (g : History). Moving me f after p.claims q.claims (table s entries) g) now
    (subst (λ (h : History). Moving me f after p.claims q.claims h q.history) was
    (moving one same changes me f after p.claims q.claims p.history q.history stands.folder advances.change))
    known (λ gone. advances.spared s known.least (is-table p s entries was) known.is gone)
    (subst (λ (g : History). MovesConsumers me f after g p.claims q.claims) now advances.consumers)

consumers-on : OneContents → SameContents → ClaimsKept → ChangesStay → (me : Actor) (f after : Files) (p q : Past) (s : TableSchema) (entries grown : List Entry) → Stands f p
    → Advances me f p after q → p.history ≡ table s entries → q.history ≡ table s grown → KnowsConsumers f s entries p.claims → KnowsConsumers after s grown q.claims
consumers-on one same law changes me f after p q s entries grown stands advances was now known =
    moved-on law me f after s entries grown p.claims q.claims known (steps-on one same changes me f after p q s entries grown stands advances was now known)

-- the history stays
module _ (laws : RunLaws) (me : Actor) (f after : Files) (p q : Past) (stands : Stands f p) (advances : Advances me f p after q) where
  same-past : (s : TableSchema) (entries : List Entry) → p.history ≡ table s entries → q.history ≡ table s entries → KnowsTable f s entries p
      → ((id : ℕ) → IsKnown p id → KeepsFiles after s (p.stood id) id) → KnowsConsumers after s entries q.claims → KnowsTable after s entries q
  same-past s entries was stays past kept consumers =
      let is : IsTableOf s p.history = is-table p s entries was in
      let before : (id : ℕ) → IsKnown q id → IsKnown p id = λ id known. record {
        after_origin = known.after_origin;
        from = (let from = known.from in let same = advances.first in omega (arith, from, same));
        to = (let to = known.to in let one = count-is p s entries was in let two = count-is q s entries stays in omega (arith, to, one, two));
      } in
      let within : (id : ℕ) → IsKnown q id → id ≤ length entries = λ id known. (let to = known.to in let two = count-is q s entries stays in omega (arith, to, two)) in
      let whole : entries ≡ entries ++ [] = sym (append-nil entries) in record {
        start = (let start = past.start in let same = advances.first in omega (arith, start, same));
        reaches = λ id least high there.
            let first = past.reaches id least high (there-before s entries was id least high there) in
            let same = advances.first in omega (arith, first, same);
        committed = λ id known. old-committed me f after p q s entries entries stands advances is past [] whole id (before id known) (within id known);
        kept = λ id known. subst (λ (g : Files). KeepsFiles after s g id) (sym (advances.same id (before id known))) (kept id (before id known));
        gone = λ early middle late path first low high last here there.
            old-gone me f after p q s entries entries stands advances is past [] whole early middle late path (before early first) low high (before late last) here there;
        runs = runs-same laws me f after p q advances s entries was past.runs;
        appends = old-appends me f after p q advances s entries past.runs past.appends (λ n within. (let many = count-is p s entries was in omega (arith, within, many)));
        consumers = consumers;
      }
    where
      there-before : (s : TableSchema) (entries : List Entry) → p.history ≡ table s entries → (id : ℕ) → 1 ≤ id → id ≤ length entries
          → HasSnapshotAt after s id → HasSnapshotAt f s id
      there-before s entries was zero least high there = absurd (omega (arith, least))
      there-before s entries was (suc k) least high there = elim (absent-or (map.get f (snapshot_path (suc k)))) as (λ _. HasSnapshotAt f s (suc k)) [
        | inl none ↦ absurd (some-none (map.get after (snapshot_path (suc k))) there
            (gone-change me f after p.history q.history s (suc k) stands.folder advances.change (is-table p s entries was) least
            (let many = count-is p s entries was in omega (arith, high, many)) none))
        | inr here ↦ here
      ]

  -- where nothing is known of any consumer, and there is no table, nothing is
  still-free : KnowsNone p → ((name : List ℕ) → map.get after (consumer_path name) ≡ None) → (name : List ℕ) → q.claims name ≡ free
  still-free past none = none-claims me f after q.history p.claims q.claims past.claims none advances.consumers

  -- a new table has no snapshot after its origin
  new-past : (s : TableSchema) → q.history ≡ table s [] → KnowsNone p → HasTable after s []
      → ((name : List ℕ) → map.get after (consumer_path name) ≡ None) → KnowsTable after s [] q
  new-past s is past folder absent =
      let none : (P : Type 0) (id : ℕ) → IsKnown q id → P = λ P id known.
      absurd (let low = known.after_origin in let high = known.to in let many = count-is q s [] is in omega (arith, low, high, many)) in record {
        start = (let first = past.first in let same = advances.first in omega (arith, first, same));
        reaches = λ id least high there. absurd (omega (arith, least, high));
        committed = λ id known. none (IsCommitted (q.stood id) s (take id []) id) id known;
        kept = λ id known. none (KeepsFiles after s (q.stood id) id) id known;
        gone = λ early middle late path first low high last here there. none (Names (q.stood middle) s middle path) early first;
        runs = runs-begin laws p q s past advances.since advances.first (λ g. advances.runs 0 g (omega arith));
        appends = λ early late x y low least le high at there. absurd (omega (arith, least, le, high));
        consumers = free-consumers after s [] q.claims folder (still-free past absent);
      }

  -- an entry comes
  module _ (s : TableSchema) (entries : List Entry) (e : Entry) (was : p.history ≡ table s entries) (now : q.history ≡ table s (entries ++ e ∷ []))
      (past : KnowsTable f s entries p) (commit : IsCommit f after s entries e) (folder : HasTable f s entries) (newest : HasSnapshotAt f s (length entries))
      (fit : IsEntryAfter s entries e) (holds : Holds f after) (consumers : KnowsConsumers after s (entries ++ e ∷ []) q.claims) where
    longer : length (entries ++ e ∷ []) ≡ suc (length entries)
    longer = length-append entries (e ∷ []) ∙ (let more : length entries + 1 ≡ suc (length entries) = omega arith in more)

    was-table : IsTableOf s p.history
    was-table = is-table p s entries was

    within : (id : ℕ) → IsKnown q id → id ≤ suc (length entries)
    within id known = let to = known.to in let many = count-is q s (entries ++ e ∷ []) now in omega (arith, to, many, longer)

    known-before : (id : ℕ) → IsKnown q id → id ≤ length entries → IsKnown p id
    known-before id known low = record {
      after_origin = known.after_origin;
      from = (let from = known.from in let same = advances.first in omega (arith, from, same));
      to = (let many = count-is p s entries was in omega (arith, low, many));
    }

    unknown : (id : ℕ) → id ≡ suc (length entries) → IsKnown p id → ⊥
    unknown id is known = let to = known.to in let many = count-is p s entries was in omega (arith, to, many, is)

    stood-now : (id : ℕ) → IsKnown q id → id ≡ suc (length entries) → q.stood id ≡ after
    stood-now id known is = advances.stood id known (unknown id is)

    committed-now : (id : ℕ) → IsKnown q id → IsCommitted (q.stood id) s (take id (entries ++ e ∷ [])) id
    committed-now id known = elim (split-last (length entries) id (within id known)) as (λ _. IsCommitted (q.stood id) s (take id (entries ++ e ∷ [])) id) [
      | inl low ↦ old-committed me f after p q s entries (entries ++ e ∷ []) stands advances was-table past (e ∷ []) refl id (known-before id known low) low
      | inr is ↦ subst (λ (g : Files). IsCommitted g s (take id (entries ++ e ∷ [])) id) (sym (stood-now id known is))
          (subst (λ (es : List Entry). IsCommitted after s es id) (sym (whole id is)) (subst (λ (n : ℕ). IsCommitted after s (entries ++ e ∷ []) n) (sym is) commit.committed))
    ]
      where
        whole : (id : ℕ) → id ≡ suc (length entries) → take id (entries ++ e ∷ []) ≡ entries ++ e ∷ []
        whole id is = take_all id (entries ++ e ∷ []) (omega (arith, is, longer))

    kept-now : (id : ℕ) → IsKnown q id → KeepsFiles after s (q.stood id) id
    kept-now id known = elim (split-last (length entries) id (within id known)) as (λ _. KeepsFiles after s (q.stood id) id) [
      | inl low ↦ old-kept me f after p q s entries (entries ++ e ∷ []) stands advances was-table past (e ∷ []) refl holds id (known-before id known low)
      | inr is ↦ subst (λ (g : Files). KeepsFiles after s g id) (sym (stood-now id known is)) (found-kept after s id)
    ]

    -- what the newest snapshot names was named by those before it from where it was first named on
    gone-now : (early middle late : ℕ) (path : List ℕ) → IsKnown q early → early < middle → middle < late → IsKnown q late
        → Names (q.stood early) s early path → Names (q.stood late) s late path → Names (q.stood middle) s middle path
    gone-now early middle late path first low high last here there =
        let first_before : IsKnown p early = known-before early first (let top = within late last in omega (arith, low, high, top)) in
        elim (split-last (length entries) late (within late last)) as (λ _. Names (q.stood middle) s middle path) [
          | inl below ↦ old-gone me f after p q s entries (entries ++ e ∷ []) stands advances was-table past (e ∷ []) refl early middle late path first_before low high
              (known-before late last below) here there
          | inr is ↦ by_new early middle late path first_before low high last is here
              (advances.new s late path (is-table q s (entries ++ e ∷ []) now) last (unknown late is) (subst (λ (g : Files). Names g s late path) (stood-now late last is) there))
        ]
      where
        by_new : (early middle late : ℕ) (path : List ℕ) → IsKnown p early → early < middle → middle < late → IsKnown q late → late ≡ suc (length entries)
            → Names (q.stood early) s early path → IsOldOrUnnamed p s late path → Names (q.stood middle) s middle path
        by_new early middle late path first low high last is here (inr unnamed) =
            absurd (unnamed early first (inr (inr (subst (λ (g : Files). Names g s early path) (advances.same early first) here))))
        by_new early middle late path first low high last is here (inl (before, named)) =
            let between : IsKnown p middle = record {
              after_origin = omega (arith, low);
              from = (let from = first.from in omega (arith, from, low));
              to = (let to = before.to in omega (arith, to, high));
            } in
            let previous : ℕ = late - 1 in
            elim (same-or-other middle previous) as (λ _. Names (q.stood middle) s middle path) [
              | inl same ↦ subst (λ (g : Files). Names g s middle path) (sym (advances.same middle between))
                  (subst (λ (id : ℕ). Names (p.stood id) s id path) (sym same) named)
              | inr other ↦ subst (λ (g : Files). Names g s middle path) (sym (advances.same middle between))
                  (past.gone early middle previous path first low (let apart = other in grind (arith)) before
                  (subst (λ (g : Files). Names g s early path) (advances.same early first) here) named)
            ]

    reaches-now : (id : ℕ) → 1 ≤ id → id ≤ length (entries ++ e ∷ []) → HasSnapshotAt after s id → q.first ≤ id
    reaches-now zero least high there = absurd (omega (arith, least))
    reaches-now (suc k) least high there = elim (split-last (length entries) (suc k) (omega (arith, high, longer))) as (λ _. q.first ≤ suc k) [
      | inl low ↦ elim (absent-or (map.get f (snapshot_path (suc k)))) as (λ _. q.first ≤ suc k) [
        | inl none ↦ absurd (some-none (map.get after (snapshot_path (suc k))) there
            (gone-change me f after p.history q.history s (suc k) stands.folder advances.change was-table least
            (let many = count-is p s entries was in omega (arith, low, many)) none))
        | inr here ↦ (let first = past.reaches (suc k) least low here in let same = advances.first in omega (arith, first, same))
      ]
      | inr is ↦ (let start = past.start in let same = advances.first in omega (arith, start, same, is))
    ]

    -- the new snapshot bears at least as many appends as the newest before it, and this one as those known before
    appends-now : KnowsAppends (entries ++ e ∷ []) q
    appends-now early late x y low least le high at there =
        elim (split-last (length entries) late (omega (arith, high, longer))) as (λ _. x.appends ≤ y.appends) [
          | inl before ↦ were early late x y low least le before at there
          | inr last ↦ elim (split-last (length entries) early (omega (arith, le, last))) as (λ _. x.appends ≤ y.appends) [
            | inl before ↦ by_new (length entries) refl before (subst (λ (n : ℕ). SnapshotAt (q.stood n) n y) last there)
            | inr same ↦ same-one (subst (λ (n : ℕ). SnapshotAt (q.stood n) n y) (last ∙ sym same) there)
          ]
        ]
      where
        were : KnowsAppends entries q
        were = old-appends me f after p q advances s entries past.runs past.appends (λ n within. (let many = count-is p s entries was in omega (arith, within, many)))

        same-one : SnapshotAt (q.stood early) early y → x.appends ≤ y.appends
        same-one here = let equal : x.appends ≡ y.appends = ap (λ (z : Snapshot). z.appends) (one-snapshot (q.stood early) early x y at here) in omega (arith, equal)

        by_new : (n : ℕ) → n ≡ length entries → early ≤ length entries → SnapshotAt (q.stood (suc (length entries))) (suc (length entries)) y → x.appends ≤ y.appends
        by_new zero is before new = absurd (omega (arith, least, before, is))
        by_new (suc k) is before new =
            let id : ℕ = suc k in
            let known : IsKnown p id = record {
              after_origin = omega arith;
              from = past.runs.from id (omega arith) (let since = advances.since in omega (arith, low, since, before, is));
              to = (let many = count-is p s entries was in omega (arith, many, is));
            } in
            let then : IsCommitted (p.stood id) s (take id entries) id = past.committed id known in
            let there : HasSnapshotAt f s id = subst (HasSnapshotAt f s) (sym is) newest in
            let stays : map.get f (snapshot_path id) ≡ map.get (p.stood id) (snapshot_path id) = (past.kept id known).there there (snapshot_path id) (inl refl) in
            let here : SnapshotAt f id then.snapshot = (then.there.0, stays ∙ then.there.1, then.there.2) in
            let rose = were-to id known before is then.snapshot then.there in
            let counts : CountsAppends f after id e = subst (λ (n : ℕ). CountsAppends f after n e) (sym is) commit.appends in
            let one : y.appends ≡ then.snapshot.appends + appends_in e = counts then.snapshot y here
            (subst (λ (g : Files). SnapshotAt g (suc id) y) (stood-now (suc id) new_known (ap suc is)) (subst (λ (n : ℕ). SnapshotAt (q.stood n) n y) (ap suc (sym is)) new)) in
            omega (arith, rose, one)
          where
            new_known : IsKnown q (suc (suc k))
            new_known = record {
              after_origin = omega arith;
              from = (let start = past.start in let first = advances.first in omega (arith, start, first, is));
              to = (let many = count-is q s (entries ++ e ∷ []) now in omega (arith, many, longer, is));
            }

            were-to : (id : ℕ) → IsKnown p id → early ≤ length entries → id ≡ length entries → (z : Snapshot) → SnapshotAt (p.stood id) id z → x.appends ≤ z.appends
            were-to id known before is z there =
                let since = advances.since in
                past.appends early id x z (omega (arith, low, since)) least (omega (arith, before, is)) (omega (arith, is))
                (subst (λ (g : Files). SnapshotAt g early x) (advances.same early (record {
                  after_origin = least;
                  from = past.runs.from early least (omega (arith, low, since));
                  to = (let many = count-is p s entries was in omega (arith, before, many));
                })) at) there

    newest-known : IsKnown q (suc (length entries))
    newest-known = record {
      after_origin = omega arith;
      from = (let start = past.start in let first = advances.first in omega (arith, start, first));
      to = (let many = count-is q s (entries ++ e ∷ []) now in omega (arith, many, longer));
    }

    longer-past : KnowsTable after s (entries ++ e ∷ []) q
    longer-past = record {
      start = (let start = past.start in let same = advances.first in omega (arith, start, same, longer));
      reaches = reaches-now;
      committed = committed-now;
      kept = kept-now;
      gone = gone-now;
      appends = appends-now;
      consumers = consumers;
      runs = runs-more laws me f after p q advances s entries was past.runs e now (laws.high (schema_path 0) folder.schema.first.0 s folder.schema.first.2)
          (rows-append s entries e folder.history fit).bases (stood-now (suc (length entries)) newest-known refl);
    }

  none-past : p.history ≡ no_table → KnowsNone p → ((name : List ℕ) → map.get after (consumer_path name) ≡ None) → KnowsNone q
  none-past was past absent = record {
    first = (let first = advances.first in let low = past.first in omega (arith, first, low));
    since = advances.since ∙ past.since;
    runs = λ g. advances.runs 0 g (omega arith) ∙ past.runs g;
    claims = still-free past absent;
  }

  -- where what is there stays
  held-past : Holds f after → OneContents → SameContents → ClaimsKept → ChangesStay → (s : TableSchema) (entries : List Entry) → p.history ≡ table s entries → q.history ≡ table s entries
      → KnowsTable f s entries p → KnowsTable after s entries q
  held-past holds one same law changes s entries was now past = same-past s entries was now past
      (λ id known. kept-files me f after p q s id stands advances (is-table p s entries was) known holds (past.kept id known))
      (consumers-on one same law changes me f after p q s entries entries stands advances was now past.consumers)

  past-kept : OneContents → SameContents → ClaimsKept → ChangesStay → (h later : History) → p.history ≡ h → q.history ≡ later → Folder f h → Change me f h after later
      → KnowsPast f h p → KnowsPast after later q
  past-kept one same law changes no_table later was now folder (nothing all) past = none-past was past (λ name. all (consumer_path name) ∙ folder.consumers name)
  past-kept one same law changes (table s entries) later was now folder (nothing all) past = held-past (λ path there. all path) one same law changes s entries was now past
  past-kept one same law changes no_table later was now folder (own_file path content own other none puts) past =
      none-past was past (λ name. puts.others (consumer_path name) (consumer-own me path name own) ∙ folder.consumers name)
  past-kept one same law changes (table s entries) later was now folder (own_file path content own other none puts) past =
      held-past (λ q there. puts.others q (there-absent f q path there none)) one same law changes s entries was now past
  past-kept one same law changes h later was now folder (schema s bytes origin named puts reads) past =
      new-past s now past (kept-schema f after s bytes folder origin puts reads)
      (λ name. puts.others (consumer_path name) (consumer-schema name 0) ∙ folder.consumers name)
  past-kept one same law changes h later was now folder (committed s entries e bytes newest bound none puts fit commit own) past =
      longer-past s entries _ was now past commit folder newest fit
      (λ q there. puts.others q (there-absent f q (snapshot_path (suc (length entries))) there none))
      (consumers-on one same law changes me f after p q s entries (entries ++ e ∷ []) stands advances was now past.consumers)
  past-kept one same law changes h later was now folder (changes_beside s entries plain change) past = same-past s entries was now past
      (λ id known. keeps-beside same (p.stood id) f s entries after id plain change known.after_origin
      (let high = known.to in let many = count-is p s entries was in let most = folder.snapshots.within in omega (arith, high, many, most)) (past.kept id known))
      (consumers-on one same law changes me f after p q s entries entries stands advances was now past.consumers)

pub stands-kept : OneContents → ContentsStay → SameContents → RunLaws → ClaimsKept → ChangesStay → (me : Actor) (f after : Files) (p q : Past) → Stands f p
    → Advances me f p after q → Stands after q
stands-kept one stay same laws claims changes me f after p q stands advances = record {
  folder = kept one stay same me f after p.history q.history stands.folder advances.change;
  past = past-kept laws me f after p q stands advances one same claims changes p.history q.history refl refl stands.folder advances.change stands.past;
}

-- ---- a change that adds no entry

table-count : (h : History) (s : TableSchema) (entries : List Entry) → h ≡ table s entries → count_of h ≡ length entries
table-count h s entries is = ap count_of is

-- no history is two whose entries differ in number
no-entry-came : (h later : History) (s : TableSchema) (entries : List Entry) (e : Entry) → count_of later ≡ count_of h → h ≡ table s entries
    → later ≡ table s (entries ++ e ∷ []) → ⊥
no-entry-came h later s entries e same was now =
    let before = table-count h s entries was in
    let after = table-count later s (entries ++ e ∷ []) now in
    let more = length-append entries (e ∷ []) in
    omega (arith, same, before, after, more)

-- it is a step of the past, with what it makes of what is known of consumers
pub beside-moving : (me : Actor) (f after : Files) (p : Past) (later : History) (claims : List ℕ → Claim) → Change me f p.history after later
    → count_of later ≡ count_of p.history
    → ((s : TableSchema) (path : List ℕ) → IsTableOf s p.history → map.get f path ≡ None → IsSome (map.get after path) → IsUnnamed p s path)
    → ((s : TableSchema) (path : List ℕ) → IsTableOf s p.history → IsTablePath path → IsSome (map.get f path) → map.get after path ≡ None → WasNamed p s path)
    → ((s : TableSchema) (least : ℕ) → IsTableOf s p.history → IsLeast f s least → (HasSnapshotAt after s least → ⊥) → AreAbove f p.claims least)
    → MovesConsumers me f after later p.claims claims → Advances me f p after (record p { history = later; claims = claims })
beside-moving me f after p later claims change same fresh gone spared consumers = record {
  change = change;
  fresh = fresh;
  first = refl;
  same = λ id known. refl;
  stood = λ id known unknown. absurd (unknown (was-known id known));
  new = λ s id path is known unknown named. absurd (unknown (was-known id known));
  since = refl;
  runs = λ id g within. refl;
  follows = λ s entries e g was now. absurd (no-entry-came p.history later s entries e same was now);
  consumers = consumers;
  gone = gone;
  spared = spared;
}
  where
    was-known : (id : ℕ) → IsKnown (record p { history = later; claims = claims }) id → IsKnown p id
    was-known id known = record {
      after_origin = known.after_origin;
      from = known.from;
      to = (let to = known.to in omega (arith, to, same));
    }

-- nothing goes
abbrev pub NoneGoes : Files → Files → Type 0
NoneGoes f after = (path : List ℕ) → IsSome (map.get f path) → IsSome (map.get after path)

pub none-puts : (f after : Files) (path content : List ℕ) → Puts f path (Some content) after → NoneGoes f after
none-puts f after path content puts q there = elim (same-path q path) as (λ _. IsSome (map.get after q)) [
  | inl same ↦ subst (λ (o : Option (List ℕ)). IsSome o) (sym (ap (map.get after) same ∙ puts.here)) refl
  | inr other ↦ still_there f after q (puts.others q other) there
]

pub none-gone : (f after : Files) (p : Past) (s : TableSchema) (path : List ℕ) → NoneGoes f after → IsSome (map.get f path) → map.get after path ≡ None → WasNamed p s path
none-gone f after p s path none there absent = absurd (some-none (map.get after path) (none path there) absent)

pub none-spared : (f after : Files) (claims : List ℕ → Claim) (s : TableSchema) (least : ℕ) → NoneGoes f after → IsLeast f s least → (HasSnapshotAt after s least → ⊥)
    → AreAbove f claims least
none-spared f after claims s least none is gone name said counts at = absurd (gone (snapshot_stays f after s least none is.there))

-- where nothing goes, and consumers' files stay, it leaves what is known
pub beside : (me : Actor) (f after : Files) (p : Past) (later : History) → Change me f p.history after later → count_of later ≡ count_of p.history
    → ((s : TableSchema) (path : List ℕ) → IsTableOf s p.history → map.get f path ≡ None → IsSome (map.get after path) → IsUnnamed p s path)
    → NoneGoes f after → ((name : List ℕ) → map.get after (consumer_path name) ≡ map.get f (consumer_path name)) → Advances me f p after (record p { history = later })
beside me f after p later change same fresh none consumers =
    beside-moving me f after p later p.claims change same fresh (λ s path is in_table there absent. none-gone f after p s path none there absent)
    (λ s least is first gone. none-spared f after p.claims s least none first gone) (untouched consumers)

-- ---- an entry that comes is one

abbrev entries_of : History → List Entry
entries_of no_table = []
entries_of (table s entries) = entries

get-last : (entries : List Entry) (e : Entry) → slice_get (entries ++ e ∷ []) (length entries) ≡ Some e
get-last [] e = refl
get-last (x ∷ entries) e = get-last entries e

some-entry : (a b : Entry) → Some a ≡ Some b → a ≡ b
some-entry a b e = cc

-- what holds of the entry that came to a history holds of it however it is given
pub one-entry : (P : TableSchema → List Entry → Entry → Type 0) (s t : TableSchema) (entries es : List Entry) (e d : Entry) → table s entries ≡ table t es
    → table s (entries ++ e ∷ []) ≡ table t (es ++ d ∷ []) → P s entries e → P t es d
one-entry P s t entries es e d same later holds =
    let schema_is : t ≡ s = subst (λ (h : History). IsTableOf s h) same refl in
    let own : entries ≡ es = ap entries_of same in
    let last : e ≡ d = some-entry e d
    (sym (get-last entries e) ∙ ap (λ (xs : List Entry). slice_get xs (length entries)) (ap entries_of later)
    ∙ ap (λ (xs : List Entry). slice_get (es ++ d ∷ []) (length xs)) own ∙ get-last es d) in
    subst (λ (t : TableSchema). P t es d) (sym schema_is) (subst (λ (es : List Entry). P s es d) own (subst (P s entries) last holds))

-- ---- what a compaction took

pub record StillLaws : Type 0 where
  pub there : (s : TableSchema) (g : Group) (entries : List Entry) (since : ℕ) (runs : ℕ → List KnownRun) (t : Taking) → IsSuccession s g entries since runs
      → IsTaken s since runs (length entries) t → HaveFilesIn t.taken (runs (length entries)) → (run : KnownRun) → Contains t.taken run
      → Contains (runs (length entries)) run
  pub still : (s : TableSchema) (g : Group) (entries : List Entry) (since : ℕ) (runs : ℕ → List KnownRun) (t : Taking) → IsSuccession s g entries since runs
      → IsTaken s since runs (length entries) t → ((run : KnownRun) → Contains t.taken run → Contains (runs (length entries)) run)
      → StillStands s g entries runs t

pub still-past : OneContents → StillLaws → (f : Files) (p : Past) (s : TableSchema) (entries : List Entry) (g : Group) (t : Taking) (x : Snapshot) (c : Contents)
    → Stands f p → p.history ≡ table s entries → IsTaken s p.since (λ n. p.runs n g) (length entries) t
    → HasCommit (p.stood (length entries)) s (length entries) x c → HaveLiveFiles (live_in c) g t.taken → StillStands s g entries (λ n. p.runs n g) t
still-past one laws f p s entries g t x c stands was took commit have =
    let known : KnowsRuns s entries p = (subst (λ (h : History). KnowsPast f h p) was stands.past).runs in
    let n : ℕ = length entries in
    let some = took.after_origin in
    let within = took.to in
    let here = live-shows one (p.stood n) s n x c g t.taken (p.runs n g) (omega (arith, some, within)) (known.stood n g known.since (omega arith)) commit have in
    laws.still s g entries p.since (λ n. p.runs n g) t (known.succession g) took
    (laws.there s g entries p.since (λ n. p.runs n g) t (known.succession g) took here)

-- ---- counts of appends

pub never-falls : (f : Files) (p : Past) (s : TableSchema) (entries : List Entry) (early late : ℕ) (x y : Snapshot) → Stands f p → p.history ≡ table s entries
    → p.since ≤ early → 1 ≤ early → early ≤ late → late ≤ length entries → SnapshotAt (p.stood early) early x → SnapshotAt (p.stood late) late y
    → x.appends ≤ y.appends
never-falls f p s entries early late x y stands was =
    (subst (λ (h : History). KnowsPast f h p) was stands.past).appends early late x y

-- ---- consumers

pub known-consumers : (f : Files) (p : Past) (s : TableSchema) (entries : List Entry) → Stands f p → p.history ≡ table s entries → KnowsConsumers f s entries p.claims
known-consumers f p s entries stands was = (subst (λ (h : History). KnowsPast f h p) was stands.past).consumers

-- no snapshot has gone that a consumer which counts needs
pub counts-needs : LeastKept → (f : Files) (p : Past) (s : TableSchema) (entries : List Entry) (name : List ℕ) → Stands f p → p.history ≡ table s entries → Counts (p.claims name)
    → (least : ℕ) × IsLeast f s least × ((c : Consumer) × ConsumerAt f name c × (least ≤ c.next))
counts-needs law f p s entries name stands was counts =
    counted-file law f s entries p.claims name (known-consumers f p s entries stands was) counts

-- the frames that a settled one was moved past
pub moved-frames : (f : Files) (p : Past) (s : TableSchema) (entries : List Entry) (name : List ℕ) (from : ℕ) (moved : List (List ℕ)) → Stands f p
    → p.history ≡ table s entries → p.claims name ≡ settled from moved
    → (c : Consumer) × ConsumerAt f name c × (c.fresh ≡ false) × (c.next ≡ from + length moved)
    × (moved ≡ each_of (λ (id : ℕ). frame s entries id) (range_with_len from (length moved)))
moved-frames f p s entries name from moved stands was is =
    settled-frames f s entries p.claims name from moved (known-consumers f p s entries stands was) is

-- a step is two changes
pub step-moves : OneContents → SameContents → ChangesStay → (me : Actor) (f after : Files) (p q : Past) (s : TableSchema) (entries grown : List Entry) → Stands f p → Advances me f p after q
    → p.history ≡ table s entries → q.history ≡ table s grown
    → (least later : ℕ) × IsLeast f s least × IsLeast after s later × HoldsAt (moment_of f s entries least p.claims)
    × IsMoved (follower_of me) (moment_of f s entries least p.claims) (moment_of after s grown later q.claims)
step-moves one same changes me f after p q s entries grown stands advances was now =
    let known = known-consumers f p s entries stands was in
    let step = steps-on one same changes me f after p q s entries grown stands advances was now known in
    (known.least, step.now, known.is, step.is, known.holds, step.moved)

-- the consumers of these names are settled, where their claims are
abbrev pub AreClaimed : Past → List (List ℕ) → Type 0
AreClaimed p names = (name : List ℕ) → Contains names name → (from : ℕ) × (moved : List (List ℕ)) × (p.claims name ≡ settled from moved)

pub have-settled : (f : Files) (p : Past) (names : List (List ℕ)) → Stands f p → AreClaimed p names → HaveSettled f p.history names
have-settled f p names stands are = at p.history stands.past
  where
    at : (h : History) → KnowsPast f h p → HaveSettled f h names
    at no_table past = λ name there. (let (from, moved, is) = are name there in settled-free from moved (sym is ∙ past.claims name))
    at (table s entries) past = λ name there. (let (from, moved, is) = are name there in settled-file f s entries p.claims name from moved past.consumers is)

-- where each consumer's file stays and what is known of it does, those are settled that were
pub known-keep : (h : History) (was f : Files) (p : Past) → Stands f p → GoesOn h p.history → HasConsumersOf h was f p → KeepsConsumers h was f
known-keep h was f p stands on has = record { files = has.files; settled = λ names have. at h on names have (have-settled f p names stands (λ name there. claimed names have name there)) }
  where
    claimed : (names : List (List ℕ)) → HaveSettled was h names → (name : List ℕ) → Contains names name
        → (from : ℕ) × (moved : List (List ℕ)) × (p.claims name ≡ settled from moved)
    claimed names have name there = let (from, is) = has.known names name have there in (from, [], is)

    at : (h : History) → GoesOn h p.history → (names : List (List ℕ)) → HaveSettled was h names → HaveSettled f p.history names → HaveSettled f h names
    at no_table on names have now = have
    at (table s entries) on names have now = on-earlier f names s entries p.history on now
