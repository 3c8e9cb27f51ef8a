-- Each remove of an expirer is a change of some kind, and leaves what is to be removed after it.
use Rattle.std.proofs.Common.{◌≡◌, inl, inr, ℕ, zero, suc, ◌+◌, ◌-◌, ◌<◌, ◌≤◌, nat_le, List, [], ◌∷◌, ◌++◌, length, true, false, Option, Some, None, IsSome, IsSomeAnd, codes, refl, sym, ap, subst, ◌∙◌, arith}
use Rattle.std.specs.FinMap as map
use Rattle.std.specs.Fmt.{decimal}
use Rattle.std.specs.List.{AllByRecursion}
use Rattle.std.proofs.lemmas.Bool.Decides.{nat_tests}
use Rattle.pm_store.specs.Files.{Files, Puts}
use Rattle.pm_schema.specs.Folder.{folder_text}
use Rattle.pm_schema.specs.declared.schema.TableSchema.{TableSchema}
use Rattle.pm_snapshot.specs.Names.{greatest, snapshot_name}
use Rattle.pm_snapshot.specs.declared.snapshot.Snapshot.{Snapshot}
use Rattle.pm_model_contents.specs.Named.{Contents, HasContents, IsNamed, base_list, changelog_list, changes_file, data_file, delta_list, manifest}
use Rattle.pm_model_history.specs.History.{Entry, IsTableOf, table}
use Rattle.pm_model_folder.specs.Changes.{Actor, HavePlainNames, IsSnapshotPath, IsTablePath, IsUnneeded, bucket, manifests}
use Rattle.pm_model_folder.specs.Commits.{Names}
use Rattle.pm_model_folder.specs.Consumers.{said_in}
use Rattle.pm_model_folder.specs.Folder.{HasTable, IsAnnounced}
use Rattle.pm_model_folder.specs.Ledger.{Advances, AreAbove, IsKnown, KnowsTable, Past, Stands, WasNamed, count_of}
use Rattle.pm_model_folder.specs.Meaning.{HasSnapshotAt, IsLeast, SnapshotAt}
use Rattle.pm_model_folder.specs.Paths.{consumer_path, floor_path, snapshot_file, snapshot_path}
use Rattle.pm_model_folder.proofs.Facts.{same-path, some-none}
use Rattle.pm_model_folder.proofs.HoldLemmas.{OneContents, SameContents, one-commit}
use Rattle.pm_model_folder.proofs.LedgerFacts.{at-table, count-is}
use Rattle.pm_model_folder.proofs.PathLemmas.{folder-apart, other-schemas, other-snapshots}
use Rattle.pm_model_expiry.specs.Expiry.{HasAnnounced, HasLeft, HaveGone, HaveGoneBetween, IsDropped}
use Rattle.pm_model_expiry.specs.Removals.{AreLeft, Expiry, KnowsRemovals, SnapshotsLeft, floor_paths, from_id, origin_paths, removals, snapshot_paths, with_origin}
use Rattle.pm_model_expiry.proofs.KnownLemmas.{Laws, above-end, announced-on, between-on, dropped-on, gone-on, left-on, table-on}

-- ---- what is left stays left

same-head : {X : Type 0} (x y : X) (xs ys : List X) → x ∷ xs ≡ y ∷ ys → x ≡ y
same-head x y xs ys e = cc

same-tail : {X : Type 0} (x y : X) (xs ys : List X) → x ∷ xs ≡ y ∷ ys → xs ≡ ys
same-tail x y xs ys e = cc

all-on : {X : Type 0} (P Q : X → Type 0) (xs : List X) → ((x : X) → P x → Q x) → AllByRecursion P xs → AllByRecursion Q xs
all-on P Q [] each all = tt
all-on P Q (x ∷ xs) each (one, all) = (each x one, all-on P Q xs each all)

module _ (laws : Laws) (x : Expiry) (me : Actor) (f after : Files) (p q : Past) (stands : Stands f p) (advances : Advances me f p after q)
    (is : IsTableOf x.schema p.history) where
  snapshots-on : (left : List (List ℕ)) → SnapshotsLeft f p x left → SnapshotsLeft after q x left
  snapshots-on left (with_origin name count named some sum between is_left) =
      with_origin name count named some sum (between-on laws me f after p q x.schema stands advances is x.first between) is_left
  snapshots-on left (from_id id count some sum gone is_left) =
      from_id id count some sum (gone-on laws me f after p q x.schema stands advances is id gone) is_left

  left-still : (left : List (List ℕ)) → AreLeft f p x left → AreLeft after q x left
  left-still left known = record {
    snapshots = known.snapshots;
    dropped = known.dropped;
    floors = known.floors;
    is = known.is;
    first = snapshots-on known.snapshots known.first;
    then_dropped = all-on (IsDropped p x.schema x.end) (IsDropped q x.schema x.end) known.dropped
        (λ path drops. dropped-on me f after p q x.schema x.end path advances drops) known.then_dropped;
    then_floors = known.then_floors;
  }

pub removals-on : Laws → (x : Expiry) (left : List (List ℕ)) (me : Actor) (f after : Files) (p q : Past) → Stands f p → Advances me f p after q
    → KnowsRemovals x left f p → KnowsRemovals x left after q
removals-on laws x left me f after p q stands advances known = record {
  table = table-on laws me f after p q x.schema stands advances known.table;
  plain = known.plain;
  announced = announced-on laws me f after p q x.schema stands advances known.table x.own known.announced;
  read = left-on laws me f after p q x.schema stands advances known.table x.end [] known.read;
  within = known.within;
  left = left-still laws x me f after p q stands advances known.table left known.left;
}

-- ---- it begins

pub begun : (x : Expiry) (dropped : List (List ℕ)) (floors : List ℕ) (f : Files) (p : Past) → IsTableOf x.schema p.history → HavePlainNames x.schema
    → HasAnnounced f p x.own → HasLeft f p x.end [] → 1 ≤ x.first → x.first < x.end → HaveGoneBetween f p x.schema x.first
    → AllByRecursion (IsDropped p x.schema x.end) dropped → AllByRecursion (λ n. n < x.own) floors
    → KnowsRemovals x (removals x dropped floors) f p
begun x dropped floors f p is plain announced read some less between drops below = record {
  table = is;
  plain = plain;
  announced = announced;
  read = read;
  within = less;
  left = at x.schema.origin refl;
}
  where
    count : ℕ
    count = x.end - x.first

    sum : x.first + count ≡ x.end
    sum = omega (arith, less)

    none-there : x.schema.origin ≡ None → HasSnapshotAt f x.schema 0 → ⊥
    none-there none there =
        subst (λ (o : Option (List ℕ)). IsSomeAnd o (λ origin. IsSome (map.get f (snapshot_file origin)))) none there

    gone : x.schema.origin ≡ None → HaveGone f x.schema x.first
    gone none zero low there = none-there none there
    gone none (suc id) low there = between.gone (suc id) (omega arith) low there

    at : (o : Option (List ℕ)) → x.schema.origin ≡ o → AreLeft f p x (removals x dropped floors)
    at None none = record {
      snapshots = snapshot_paths x.first count;
      dropped = dropped;
      floors = floors;
      is = ap (λ (o : Option (List ℕ)). origin_paths o ++ (snapshot_paths x.first count ++ (dropped ++ floor_paths floors))) none;
      first = from_id x.first count some sum (gone none) refl;
      then_dropped = drops;
      then_floors = below;
    }
    at (Some name) named = record {
      snapshots = snapshot_file name ∷ snapshot_paths x.first count;
      dropped = dropped;
      floors = floors;
      is = ap (λ (o : Option (List ℕ)). origin_paths o ++ (snapshot_paths x.first count ++ (dropped ++ floor_paths floors))) named;
      first = with_origin name count named some sum between refl;
      then_dropped = drops;
      then_floors = below;
    }

-- ---- the next of the snapshots

-- an id of a snapshot whose path is this one, below which none is there
record IsNextSnapshot (f : Files) (p : Past) (x : Expiry) (path : List ℕ) (rest : List (List ℕ)) : Type 0 where
  id : ℕ
  below : id < x.end
  gone : HaveGone f x.schema id
  is_path : IsSnapshotPath x.schema id path
  then_left : (HasSnapshotAt f x.schema id → ⊥) → SnapshotsLeft f p x rest

one-gone : (f : Files) (s : TableSchema) (id : ℕ) → HaveGone f s id → (HasSnapshotAt f s id → ⊥) → HaveGone f s (id + 1)
one-gone f s id gone none below less there = elim (nat_le id below) as (λ t. nat_le id below ≡ t → ⊥) [
  | true ↦ λ e.
      let high : id ≤ below = grind (arith, nat_tests) in
      let same : below ≡ id = omega (arith, less, high) in
      none (subst (HasSnapshotAt f s) same there)
  | false ↦ λ e. gone below (grind (arith, nat_tests)) there
] refl

module _ (f : Files) (p : Past) (x : Expiry) (less : x.first < x.end) where
  between-gone : HaveGoneBetween f p x.schema x.first → (HasSnapshotAt f x.schema 0 → ⊥) → HaveGone f x.schema x.first
  between-gone between none zero low there = none there
  between-gone between none (suc id) low there = between.gone (suc id) (omega arith) low there

  next-from : (path : List ℕ) (rest : List (List ℕ)) (id count : ℕ) → 1 ≤ id → id + count ≡ x.end → HaveGone f x.schema id
      → path ∷ rest ≡ snapshot_paths id count → IsNextSnapshot f p x path rest
  next-from path rest id zero some sum gone is = absurd (let clash = is in cc)
  next-from path rest zero (suc count) some sum gone is = absurd (omega (arith, some))
  next-from path rest (suc k) (suc count) some sum gone is = record {
    id = suc k;
    below = omega (arith, sum);
    gone = gone;
    is_path = same-head path (snapshot_path (suc k)) rest (snapshot_paths (suc k + 1) count) is;
    then_left = λ none.
        from_id (suc k + 1) count (omega arith) (omega (arith, sum)) (one-gone f x.schema (suc k) gone none)
        (same-tail path (snapshot_path (suc k)) rest (snapshot_paths (suc k + 1) count) is);
  }

  next-snapshot : (path : List ℕ) (rest : List (List ℕ)) → SnapshotsLeft f p x (path ∷ rest) → IsNextSnapshot f p x path rest
  next-snapshot path rest (from_id id count some sum gone is) = next-from path rest id count some sum gone is
  next-snapshot path rest (with_origin name count named some sum between is) = record {
    id = 0;
    below = omega (arith, less);
    gone = λ below low there. absurd (omega (arith, low));
    is_path = (name, named, same-head path (snapshot_file name) rest (snapshot_paths x.first count) is);
    then_left = λ none.
        from_id x.first count some sum (between-gone between none)
        (same-tail path (snapshot_file name) rest (snapshot_paths x.first count) is);
  }

  -- none is left
  none-left : SnapshotsLeft f p x [] → HaveGone f x.schema x.end
  none-left (with_origin name count named some sum between is) = absurd (let clash = is in cc)
  none-left (from_id id zero some sum gone is) = subst (HaveGone f x.schema) (omega (arith, sum)) gone
  none-left (from_id id (suc count) some sum gone is) = absurd (let clash = is in cc)

-- ---- the change that removes a snapshot

-- what the laws of steps say
abbrev pub ExpireSteps : Type 0
ExpireSteps = (me : Actor) (f after : Files) (p : Past) (s : TableSchema) (entries : List Entry) (least : ℕ) (path : List ℕ) → p.history ≡ table s entries
    → HavePlainNames s → IsLeast f s least → IsSnapshotPath s least path → least < length entries → IsAnnounced f (suc least) → Puts f path None after
    → AreAbove f p.claims least → Advances me f p after p

abbrev pub RemoveSteps : Type 0
RemoveSteps = (me : Actor) (f after : Files) (p : Past) (s : TableSchema) (entries : List Entry) (path : List ℕ) → p.history ≡ table s entries → HavePlainNames s
    → IsTablePath path → IsUnneeded f s path → WasNamed p s path → Puts f path None after → Advances me f p after p

abbrev pub ForgetSteps : Type 0
ForgetSteps = (me : Actor) (f after : Files) (p : Past) (s : TableSchema) (entries : List Entry) (n above : ℕ) → p.history ≡ table s entries → HavePlainNames s
    → n < above → above ≤ greatest → IsSome (map.get f (floor_path above)) → Puts f (floor_path n) None after → Advances me f p after p

pub record StepLaws : Type 0 where
  pub expires : ExpireSteps
  pub removes : RemoveSteps
  pub forgets : ForgetSteps

-- the file of a snapshot is there where the snapshot is
path-there : (f : Files) (s : TableSchema) (id : ℕ) (path : List ℕ) → IsSnapshotPath s id path → IsSome (map.get f path) → HasSnapshotAt f s id
path-there f s zero path (name, named, is) there =
    subst (λ (o : Option (List ℕ)). IsSomeAnd o (λ origin. IsSome (map.get f (snapshot_file origin)))) (sym named)
    (subst (λ (q : List ℕ). IsSome (map.get f q)) is there)
path-there f s (suc id) path is there = subst (λ (q : List ℕ). IsSome (map.get f q)) is there

path-none : (f : Files) (s : TableSchema) (id : ℕ) (path : List ℕ) → IsSnapshotPath s id path → map.get f path ≡ None → HasSnapshotAt f s id → ⊥
path-none f s zero path (name, named, is) none there =
    some-none (map.get f (snapshot_file name))
    (subst (λ (o : Option (List ℕ)). IsSomeAnd o (λ origin. IsSome (map.get f (snapshot_file origin)))) named there)
    (ap (map.get f) (sym is) ∙ none)
path-none f s (suc id) path is none there = some-none (map.get f (snapshot_path (suc id))) there (ap (map.get f) (sym is) ∙ none)

module _ (steps : StepLaws) (x : Expiry) (me : Actor) (f after : Files) (p : Past) (stands : Stands f p) (is : IsTableOf x.schema p.history)
    (plain : HavePlainNames x.schema) (read : HasLeft f p x.end []) (own_floor : HasAnnounced f p x.own) where
  own : (entries : List Entry) × (p.history ≡ table x.schema entries) × HasTable f x.schema entries × KnowsTable f x.schema entries p
  own = at-table f p x.schema stands is

  many : count_of p.history ≡ length own.0
  many = count-is p x.schema own.0 own.1

  snapshot-goes : (path : List ℕ) (rest : List (List ℕ)) → IsNextSnapshot f p x path rest → IsSome (map.get f path) → Puts f path None after
      → Advances me f p after p
  snapshot-goes path rest next there puts =
      steps.expires me f after p x.schema own.0 next.id path own.1 plain
      (record { there = path-there f x.schema next.id path next.is_path there; none = next.gone }) next.is_path
      (let low = next.below in let high = read.announced.within in omega (arith, low, high, many)) (
        read.announced.floor.0,
        read.announced.floor.1,
        (let low = next.below in let high = read.announced.floor.2 in omega (arith, low, high)),
        read.announced.floor.3,
      )
      puts
      (λ name said counts says. (let low = next.below in let high = above-end f p x.end name said read counts says in omega (arith, low, high)))

  -- ---- the change that removes a floor

  floor-goes : (n : ℕ) → n < x.own → Puts f (floor_path n) None after → Advances me f p after p
  floor-goes n low puts =
      steps.forgets me f after p x.schema own.0 n own_floor.floor.0 own.1 plain
      (let high = own_floor.floor.2 in omega (arith, low, high)) own_floor.floor.1 own_floor.floor.3 puts

  -- ---- the change that removes a file which snapshots named

  named-table : (y : Snapshot) (c : Contents) (path : List ℕ) → IsNamed x.schema y c path → IsTablePath path
  named-table y c path base_list = record { folder = codes "manifest"; name = y.base_list; own = manifests; is = refl }
  named-table y c path delta_list = record { folder = codes "manifest"; name = y.delta_list; own = manifests; is = refl }
  named-table y c path (changelog_list name is_name) = record { folder = codes "manifest"; name = name; own = manifests; is = refl }
  named-table y c path (manifest meta listed) = record { folder = codes "manifest"; name = meta.name; own = manifests; is = refl }
  named-table y c path (data_file e live) =
      record { folder = folder_text x.schema e.group; name = e.file.name; own = bucket x.schema e.group plain; is = refl }
  named-table y c path (changes_file e listed) =
      record { folder = folder_text x.schema e.group; name = e.file.name; own = bucket x.schema e.group plain; is = refl }

  -- what a known snapshot that is there names, it named when it was committed
  named-stood : OneContents → SameContents → (id : ℕ) (path : List ℕ) → IsKnown p id → HasSnapshotAt f x.schema id → Names f x.schema id path
      → Names (p.stood id) x.schema id path
  named-stood one same id path known there (y, c, has, named) =
      let commit = own.3.committed id known in
      let kept = (own.3.kept id known).there there in
      let z = commit.snapshot in
      let d = commit.contents in
      let at : SnapshotAt f id z = (commit.there.0, kept (snapshot_path id) (inl refl) ∙ commit.there.1, commit.there.2) in
      let held : HasContents f x.schema z d =
      same (p.stood id) f x.schema z d (λ q is_named. kept q (inr (inr (z, d, (commit.there, commit.has), is_named)))) commit.has in
      let both = one-commit one f x.schema id y z c d has (at, held) in (
        z,
        d,
        (commit.there, commit.has),
        subst (λ (d : Contents). IsNamed x.schema z d path) both.1 (subst (λ (z : Snapshot). IsNamed x.schema z c path) both.0 named),
      )

  -- none that is there names it
  none-names : OneContents → SameContents → (path : List ℕ) → HaveGone f x.schema x.end → IsDropped p x.schema x.end path → (id : ℕ) → 1 ≤ id → id ≤ greatest
      → HasSnapshotAt f x.schema id → Names f x.schema id path → ⊥
  none-names one same path gone drops id some bound there named =
      let bounds = (own.2.snapshots.exact id bound).0 there in
      let known : IsKnown p id = record {
        after_origin = some;
        from = own.3.reaches id some bounds.1 there;
        to = (let high = bounds.1 in omega (arith, high, many));
      } in
      let stood = named-stood one same id path known there named in
      elim (nat_le id x.end) as (λ t. nat_le id x.end ≡ t → ⊥) [
        | false ↦ λ e. drops.spared (own.3.gone drops.gone x.end id path drops.known drops.below (grind (arith, nat_tests)) known drops.named stood)
        | true ↦ λ e. elim (nat_le x.end id) as (λ t. nat_le x.end id ≡ t → ⊥) [
          | true ↦ λ h.
              let low : id ≤ x.end = grind (arith, nat_tests) in
              let high : x.end ≤ id = grind (arith, nat_tests) in
              let at_end : id ≡ x.end = omega (arith, low, high) in
              drops.spared (subst (λ (id : ℕ). Names (p.stood id) x.schema id path) at_end stood)
          | false ↦ λ h. gone id (grind (arith, nat_tests)) there
        ] refl
      ] refl

  -- nor needs it
  unneeded : OneContents → SameContents → (path : List ℕ) → HaveGone f x.schema x.end → IsTablePath path → IsDropped p x.schema x.end path
      → IsUnneeded f x.schema path
  unneeded one same path gone in_table drops id some bound there needs = elim needs as (λ _. ⊥) [
    | inl own_path ↦ folder-apart in_table.folder in_table.name (codes "snapshot") (snapshot_name id) in_table.own other-snapshots
        (sym in_table.is ∙ own_path)
    | inr more ↦ elim more as (λ _. ⊥) [
      | inl of_schema ↦ folder-apart in_table.folder in_table.name (codes "schema") (codes "schema-" ++ decimal of_schema.0.schema_id) in_table.own
          other-schemas (sym in_table.is ∙ of_schema.2)
      | inr named ↦ none-names one same path gone drops id some bound there named
    ]
  ]

  dropped-goes : OneContents → SameContents → (path : List ℕ) → HaveGone f x.schema x.end → IsDropped p x.schema x.end path → Puts f path None after
      → Advances me f p after p
  dropped-goes one same path gone drops puts =
      let in_table = named-table drops.named.0 drops.named.1 path drops.named.3 in
      steps.removes me f after p x.schema own.0 path own.1 plain in_table (unneeded one same path gone in_table drops)
      (drops.gone, drops.known, drops.named) puts

-- ---- the next of all

-- where the next path has gone, the others are left
pub rest-left : (f : Files) (p : Past) (x : Expiry) (path : List ℕ) (rest : List (List ℕ)) → x.first < x.end → AreLeft f p x (path ∷ rest)
    → map.get f path ≡ None → AreLeft f p x rest
rest-left f p x path rest less left none = at left.snapshots left.dropped left.floors left.is left.first left.then_dropped left.then_floors
  where
    at : (snapshots dropped : List (List ℕ)) (floors : List ℕ) → path ∷ rest ≡ snapshots ++ (dropped ++ floor_paths floors) → SnapshotsLeft f p x snapshots
        → AllByRecursion (IsDropped p x.schema x.end) dropped → AllByRecursion (λ n. n < x.own) floors → AreLeft f p x rest
    at (one ∷ snapshots) dropped floors is first drops below =
        let next = next-snapshot f p x less one snapshots first in
        let same : path ≡ one = same-head path one rest (snapshots ++ (dropped ++ floor_paths floors)) is in record {
          snapshots = snapshots;
          dropped = dropped;
          floors = floors;
          is = same-tail path one rest (snapshots ++ (dropped ++ floor_paths floors)) is;
          first = next.then_left (path-none f x.schema next.id one next.is_path (ap (map.get f) (sym same) ∙ none));
          then_dropped = drops;
          then_floors = below;
        }
    at [] (one ∷ dropped) floors is first drops below = record {
      snapshots = [];
      dropped = dropped;
      floors = floors;
      is = same-tail path one rest (dropped ++ floor_paths floors) is;
      first = first;
      then_dropped = drops.1;
      then_floors = below;
    }
    at [] [] (n ∷ floors) is first drops below = record {
      snapshots = [];
      dropped = [];
      floors = floors;
      is = same-tail path (floor_path n) rest (floor_paths floors) is;
      first = first;
      then_dropped = tt;
      then_floors = below.1;
    }
    at [] [] [] is first drops below = absurd (let clash = is in cc)

pub next-goes : StepLaws → OneContents → SameContents → (x : Expiry) (path : List ℕ) (rest : List (List ℕ)) (me : Actor) (f after : Files) (p : Past)
    → Stands f p → KnowsRemovals x (path ∷ rest) f p → IsSome (map.get f path) → Puts f path None after → Advances me f p after p
next-goes steps one same x path rest me f after p stands known there puts =
    at left.snapshots left.dropped left.floors left.is left.first left.then_dropped left.then_floors
  where
    left : AreLeft f p x (path ∷ rest)
    left = known.left

    at : (snapshots dropped : List (List ℕ)) (floors : List ℕ) → path ∷ rest ≡ snapshots ++ (dropped ++ floor_paths floors) → SnapshotsLeft f p x snapshots
        → AllByRecursion (IsDropped p x.schema x.end) dropped → AllByRecursion (λ n. n < x.own) floors → Advances me f p after p
    at (first ∷ snapshots) dropped floors is so drops below =
        let same_path : path ≡ first = same-head path first rest (snapshots ++ (dropped ++ floor_paths floors)) is in
        snapshot-goes steps x me f after p stands known.table known.plain known.read known.announced path snapshots
        (next-snapshot f p x known.within path snapshots (subst (λ (q : List ℕ). SnapshotsLeft f p x (q ∷ snapshots)) (sym same_path) so)) there puts
    at [] (first ∷ dropped) floors is so drops below =
        let same_path : path ≡ first = same-head path first rest (dropped ++ floor_paths floors) is in
        dropped-goes steps x me f after p stands known.table known.plain known.read known.announced one same path (none-left f p x known.within so)
        (subst (IsDropped p x.schema x.end) (sym same_path) drops.0) puts
    at [] [] (n ∷ floors) is so drops below =
        let same_path : path ≡ floor_path n = same-head path (floor_path n) rest (floor_paths floors) is in
        floor-goes steps x me f after p stands known.table known.plain known.read known.announced n below.0
        (subst (λ (q : List ℕ). Puts f q None after) same_path puts)
    at [] [] [] is so drops below = absurd (let clash = is in cc)

-- ---- where no path has another content

abbrev AreSame : Files → Files → Type 0
AreSame f after = (path : List ℕ) → map.get after path ≡ map.get f path

there-same : (f after : Files) → AreSame f after → (path : List ℕ) → IsSome (map.get f path) → IsSome (map.get after path)
there-same f after same path there = subst (λ (o : Option (List ℕ)). IsSome o) (sym (same path)) there

back-same : (f after : Files) (s : TableSchema) (id : ℕ) → AreSame f after → HasSnapshotAt after s id → HasSnapshotAt f s id
back-same f after s zero same there = at s.origin there
  where
    at : (o : Option (List ℕ)) → IsSomeAnd o (λ origin. IsSome (map.get after (snapshot_file origin))) → IsSomeAnd o (λ origin. IsSome (map.get f (snapshot_file origin)))
    at None there = there
    at (Some name) there = subst (λ (o : Option (List ℕ)). IsSome o) (same (snapshot_file name)) there
back-same f after s (suc id) same there = subst (λ (o : Option (List ℕ)). IsSome o) (same (snapshot_path (suc id))) there

announced-same : (f after : Files) (p : Past) (end : ℕ) → AreSame f after → HasAnnounced f p end → HasAnnounced after p end
announced-same f after p end same known = record {
  within = known.within;
  floor = (known.floor.0, known.floor.1, known.floor.2, there-same f after same (floor_path known.floor.0) known.floor.3);
}

snapshots-same : (f after : Files) (p : Past) (x : Expiry) (left : List (List ℕ)) → AreSame f after → SnapshotsLeft f p x left → SnapshotsLeft after p x left
snapshots-same f after p x left same (with_origin name count named some sum between is) =
    with_origin name count named some sum (record {
      within = between.within;
      gone = λ below low less there. between.gone below low less (back-same f after x.schema below same there);
    }) is
snapshots-same f after p x left same (from_id id count some sum gone is) =
    from_id id count some sum (λ below less there. gone below less (back-same f after x.schema below same there)) is

removals-same : (x : Expiry) (left : List (List ℕ)) (f after : Files) (p : Past) → AreSame f after → KnowsRemovals x left f p → KnowsRemovals x left after p
removals-same x left f after p same known = record {
  table = known.table;
  plain = known.plain;
  announced = announced-same f after p x.own same known.announced;
  read = record {
    announced = announced-same f after p x.end same known.read.announced;
    counted = λ name said counts says. known.read.counted name said counts (sym (ap said_in (same (consumer_path name))) ∙ says);
  };
  within = known.within;
  left = record {
    snapshots = known.left.snapshots;
    dropped = known.left.dropped;
    floors = known.left.floors;
    is = known.left.is;
    first = snapshots-same f after p x known.left.snapshots same known.left.first;
    then_dropped = known.left.then_dropped;
    then_floors = known.left.then_floors;
  };
}

-- ---- what is left after a remove

pub rest-known : Laws → StepLaws → OneContents → SameContents → (x : Expiry) (path : List ℕ) (rest : List (List ℕ)) (f after : Files) (p : Past) → Stands f p
    → KnowsRemovals x (path ∷ rest) f p → Puts f path None after → KnowsRemovals x rest after p
rest-known laws steps one same x path rest f after p stands known puts = with_rest (at (map.get f path) refl)
  where
    anybody : Actor
    anybody = record { session = []; number = 0 }

    unchanged : map.get f path ≡ None → AreSame f after
    unchanged none q = elim (same-path q path) as (λ _. map.get after q ≡ map.get f q) [
      | inl is ↦ ap (map.get after) is ∙ (puts.here ∙ (sym none ∙ ap (map.get f) (sym is)))
      | inr other ↦ puts.others q other
    ]

    at : (o : Option (List ℕ)) → map.get f path ≡ o → KnowsRemovals x (path ∷ rest) after p
    at None none = removals-same x (path ∷ rest) f after p (unchanged none) known
    at (Some found) is = removals-on laws x (path ∷ rest) anybody f after p p stands
        (next-goes steps one same x path rest anybody f after p stands known (subst (λ (o : Option (List ℕ)). IsSome o) (sym is) refl) puts) known

    with_rest : KnowsRemovals x (path ∷ rest) after p → KnowsRemovals x rest after p
    with_rest still = record {
      table = still.table;
      plain = still.plain;
      announced = still.announced;
      read = still.read;
      within = still.within;
      left = rest-left after p x path rest still.within still.left puts.here;
    }
