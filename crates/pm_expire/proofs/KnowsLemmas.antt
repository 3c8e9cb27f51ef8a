-- What an expirer knows of views, and of what is to be removed.
use Rattle.std.proofs.Common.{◌≡◌, ◌↔◌, inl, inr, ℕ, zero, suc, ◌+◌, ◌<◌, ◌≤◌, nat_lt, List, [], ◌∷◌, ◌++◌, Contains, true, false, None, Some, refl, sym, ap, ◌∙◌, subst, arith}
use Rattle.std.specs.FinMap as map
use Rattle.std.specs.List.{AllByRecursion}
use Rattle.std.proofs.lemmas.Bool.Decides.{nat_tests}
use Rattle.pm_store.specs.Files.{Files}
use Rattle.pm_schema.specs.declared.schema.TableSchema.{TableSchema}
use Rattle.pm_snapshot.specs.declared.snapshot.Snapshot.{Snapshot}
use Rattle.pm_model_history.specs.History.{IsTableOf}
use Rattle.pm_model_folder.specs.Changes.{Actor, HavePlainNames, nothing}
use Rattle.pm_model_folder.specs.Commits.{Names}
use Rattle.pm_model_folder.specs.Ledger.{Advances, IsKnown, Past, Stands, count_of}
use Rattle.pm_model_folder.specs.Paths.{consumer_path, snapshot_file, snapshot_path}
use Rattle.pm_model_folder.proofs.Facts.{some-none, still_there}
use Rattle.pm_model_folder.proofs.LedgerFacts.{at-table, beside, count-is, known-still}
use Rattle.pm_model_expiry.specs.Expiry.{HasAnnounced, HasLeft, HaveGone, HaveGoneBetween, IsDropped}
use Rattle.pm_model_expiry.specs.Removals.{Expiry, KnowsRemovals, SnapshotsLeft, floor_paths, from_id, removals, snapshot_paths, with_origin}
use Rattle.pm_paths.proofs.ListLemmas.{here, more, nowhere}
use Rattle.pm_remove.specs.Remover.{remove_next}
use Rattle.pm_expire_paths.specs.Dropping.{Adds, AreDropped, DroppingView, IsSeen}
use Rattle.pm_expire_paths.specs.Floors.{AreFloorsBelow}
use Rattle.pm_read_table.specs.Meaning.{IsViewIn, view_origin, view_snapshot}
use Rattle.pm_read_table.specs.declared.view.View.{View}
use Rattle.pm_read_table.proofs.Facts.{table_still}
use Rattle.pm_read_whole.specs.Meaning as whole_meaning
use Rattle.pm_read_whole.specs.Meaning.{AreNamed}
use Rattle.pm_read_whole.specs.Whole as whole
use Rattle.pm_read_whole.specs.declared.phase.Phase as whole_phase
use Rattle.pm_read_whole.specs.declared.phase.Phase.TheVariants as wholes
use Rattle.pm_read_expiry.specs.Meaning.{KnowsFound}
use Rattle.pm_read_expiry.specs.declared.asking.Found.{Found}
use Rattle.pm_announce.specs.Meaning.{KnowsEnd}
use Rattle.pm_announce.specs.declared.phase.Announced.{Announced}
use Rattle.pm_expire.specs.Expirer.{AreNone, AreRemovals, IsRead, expiry_of, view_at, views_of}
use Rattle.pm_expire.specs.Meaning.{KnowsDone, KnowsRemover, KnowsViews}
use Rattle.pm_expire.specs.declared.phase.Views.{Views}

-- ---- what the law of whole views says

abbrev pub PathsNamed : Type 0
PathsNamed = (m : whole_phase.Phase) (f : Files) (p : Past) → whole.IsReady m → whole.IsWhole m → whole_meaning.Knows m f p
    → AreNamed p m (whole.paths_of m)

-- the paths are those that the snapshot named, which the table has or had
pub record NamesAt (p : Past) (s : TableSchema) (id : ℕ) (paths : List (List ℕ)) : Type 0 where
  pub known : IsKnown p id
  pub named : (path : List ℕ) → Contains paths path ↔ Names (p.stood id) s id path

known_of : (p : Past) (v : View) (x : Snapshot) → IsViewIn p v → v.snapshot ≡ Some x → IsKnown p x.id
known_of p v x (view_origin is) at = absurd (let clash : None ≡ Some x = sym is.snapshot ∙ at in cc)
known_of p v x (view_snapshot y base delta entries live stood has leaves is) at =
    let same : y ≡ x = (let e : Some y ≡ Some x = sym is.snapshot ∙ at in cc) in
    subst (λ (z : Snapshot). IsKnown p z.id) same stood.known

pub read_names : PathsNamed → (v : Views) (m : whole_phase.Phase) (f : Files) (p : Past) → whole.IsReady m → IsRead v m → whole_meaning.Knows m f p
    → NamesAt p v.announced.found.schema v.id (whole.paths_of m)
read_names law v (wholes.Ready w l) f p ready read known =
    let is = read.whole in
    let viewed = is.2 in
    let of = read.of in
    let snapshot : w.snapshot ≡ Some l.snapshot = is.1 in
    let one : viewed.snapshot ≡ l.snapshot = (let e : Some viewed.snapshot ≡ Some l.snapshot = sym viewed.is_snapshot ∙ snapshot in cc) in
    let id : l.snapshot.id ≡ v.id = sym (ap (λ (x : Snapshot). x.id) one) ∙ sym viewed.is_id ∙ of.1 in
    let schema : l.schema ≡ v.announced.found.schema = sym is.0 ∙ of.0 in
    let named = law (wholes.Ready w l) f p ready read.whole known in
    let paths = whole.paths_of (wholes.Ready w l) in
    record {
      known = subst (IsKnown p) id (known_of p w l.snapshot known.0.1 snapshot);
      named = λ path. subst (λ (s : TableSchema). Contains paths path ↔ Names (p.stood v.id) s v.id path) schema
          (subst (λ (n : ℕ). Contains paths path ↔ Names (p.stood n) l.schema n path) id (named path));
    }
read_names law v m f p ready read known = absurd ready

-- ---- the next view

-- the reader of the view of a snapshot that was committed
pub begins_known : (f : Files) (p : Past) (s : TableSchema) (id : ℕ) → Stands f p → IsTableOf s p.history → 1 ≤ id → id ≤ count_of p.history
    → whole_meaning.Knows (view_at s id) f p
begins_known f p s id stands is some within =
    let own = at-table f p s stands is in
    let many = count-is p s own.0 own.1 in
    let high = own.2.snapshots.within in (
      is,
      some,
      omega (arith, within, many, high),
      record {
        listed = record { within = λ other has. absurd (nowhere other has); all = λ other later known low has. absurd (nowhere later has) };
        asked = refl;
        within = within;
        reaches = λ never. absurd never;
      },
    )

-- no view was read yet
pub none_views : (a : Announced) (d : DroppingView) (p : Past) → AreNone d → KnowsViews (views_of a d a.found.first) p
none_views a d p none = record {
  known = λ id low high. absurd (omega (arith, low, high));
  seen = λ path. (
    λ seen. elim seen as (λ _. (id : ℕ) × (a.found.first ≤ id) × (id < a.found.first) × Names (p.stood id) a.found.schema id path) [
      | inl gone ↦ absurd (none.gone path gone)
      | inr kept ↦ absurd (none.kept path kept)
    ],
    λ named. absurd (let low = named.1 in let high = named.2 in omega (arith, low, high)),
  );
  kept = λ id path low at. absurd (omega (arith, low, at));
}

-- one more was
pub more_views : (v : Views) (d : DroppingView) (paths : List (List ℕ)) (p : Past) → v.announced.found.first ≤ v.id → KnowsViews v p
    → NamesAt p v.announced.found.schema v.id paths → Adds v.dropping paths d → KnowsViews (views_of v.announced d (v.id + 1)) p
more_views v d paths p from known names adds = record {
  known = λ id low high. elim (nat_lt id v.id) as (λ t. nat_lt id v.id ≡ t → IsKnown p id) [
    | true ↦ λ e. known.known id low (let less : id < v.id = grind (arith, nat_tests) in less)
    | false ↦ λ e.
        let same : v.id ≡ id = (let above : v.id ≤ id = grind (arith, nat_tests) in omega (arith, above, high)) in
        subst (IsKnown p) same names.known
  ] refl;
  seen = λ path. (
    λ seen. elim ((adds.seen path).0 seen) as (λ _. (id : ℕ) × (v.announced.found.first ≤ id) × (id < v.id + 1)
        × Names (p.stood id) v.announced.found.schema id path) [
          | inl old ↦ (let (id, low, high, named) = (known.seen path).0 old in (id, low, omega (arith, high), named))
          | inr new ↦ (v.id, from, omega arith, (names.named path).0 new)
        ],
    λ named. at path named.0 named.1 named.2 named.3,
  );
  kept = λ id path low at.
      let same : v.id ≡ id = omega (arith, at) in
      subst (λ (n : ℕ). Contains d.kept path ↔ Names (p.stood n) v.announced.found.schema n path) same (
        λ kept. (names.named path).0 ((adds.kept path).0 kept),
        λ named. (adds.kept path).1 ((names.named path).1 named),
      );
}
  where
    at : (path : List ℕ) (id : ℕ) → v.announced.found.first ≤ id → id < v.id + 1 → Names (p.stood id) v.announced.found.schema id path → IsSeen d path
    at path id low high named = elim (nat_lt id v.id) as (λ t. nat_lt id v.id ≡ t → IsSeen d path) [
      | true ↦ λ e. (adds.seen path).1 (inl ((known.seen path).1 (id, low, (let less : id < v.id = grind (arith, nat_tests) in less), named)))
      | false ↦ λ e.
          let same : id ≡ v.id = (let above : v.id ≤ id = grind (arith, nat_tests) in omega (arith, above, high)) in
          (adds.seen path).1 (inr ((names.named path).1 (subst (λ (n : ℕ). Names (p.stood n) v.announced.found.schema n path) same named)))
    ] refl

-- ---- what is to be removed

all_from : {X : Type 0} (P : X → Type 0) (xs : List X) → ((x : X) → Contains xs x → P x) → AllByRecursion P xs
all_from P [] each = tt
all_from P (x ∷ xs) each = (each x (here x xs), all_from P xs (λ y has. each y (more x xs y has)))

-- once the view of the end was added
module _ (a : Announced) (d : DroppingView) (p : Past) (views : KnowsViews (views_of a d (a.end + 1)) p) (less : a.found.first < a.end) where
  end_known : IsKnown p a.end
  end_known = views.known a.end (omega (arith, less)) (omega arith)

  dropped_at : (dropped : List (List ℕ)) → AreDropped d dropped → (path : List ℕ) → Contains dropped path → IsDropped p a.found.schema a.end path
  dropped_at dropped are path has =
      let gone = (are.exact path).0 has in
      let (id, low, high, named) = (views.seen path).0 (inl gone.0) in
      let kept = views.kept a.end path (omega (arith, less)) refl in
      let spared : Names (p.stood a.end) a.found.schema a.end path → ⊥ = λ named. gone.1 (kept.1 named) in
      record {
        kept = end_known;
        spared = spared;
        gone = id;
        below = below id high named spared;
        known = views.known id low high;
        named = named;
      }
    where
      below : (id : ℕ) → id < a.end + 1 → Names (p.stood id) a.found.schema id path → (Names (p.stood a.end) a.found.schema a.end path → ⊥) → id < a.end
      below id high named spared = elim (nat_lt id a.end) as (λ t. nat_lt id a.end ≡ t → id < a.end) [
        | true ↦ λ e. grind (arith, nat_tests)
        | false ↦ λ e.
            let same : id ≡ a.end = (let above : a.end ≤ id = grind (arith, nat_tests) in omega (arith, above, high)) in
            absurd (spared (subst (λ (n : ℕ). Names (p.stood n) a.found.schema n path) same named))
      ] refl

  pub all_dropped : (dropped : List (List ℕ)) → AreDropped d dropped → AllByRecursion (IsDropped p a.found.schema a.end) dropped
  all_dropped dropped are = all_from (IsDropped p a.found.schema a.end) dropped (dropped_at dropped are)

all_floors : (names : List (List ℕ)) (own : ℕ) (floors : List ℕ) → AreFloorsBelow names own floors → AllByRecursion (λ n. n < own) floors
all_floors names own floors are = all_from (λ n. n < own) floors (λ n has. ((are.exact n).0 has).1)

abbrev pub RemovalsBegin : Type 0
RemovalsBegin = (x : Expiry) (dropped : List (List ℕ)) (floors : List ℕ) (f : Files) (p : Past)
    → IsTableOf x.schema p.history → HavePlainNames x.schema → HasAnnounced f p x.own → HasLeft f p x.end []
    → 1 ≤ x.first → x.first < x.end → HaveGoneBetween f p x.schema x.first
    → AllByRecursion (IsDropped p x.schema x.end) dropped → AllByRecursion (λ n. n < x.own) floors
    → KnowsRemovals x (removals x dropped floors) f p

-- once no path is left none is below the end
no_paths : (snapshots others : List (List ℕ)) → [] ≡ snapshots ++ others → snapshots ≡ []
no_paths [] others none = refl
no_paths (path ∷ snapshots) others none = cc

none_from : (id count : ℕ) → [] ≡ snapshot_paths id count → count ≡ 0
none_from id zero none = refl
none_from id (suc count) none = absurd (let clash : [] ≡ snapshot_path id ∷ snapshot_paths (id + 1) count = none in cc)

all_gone : (f : Files) (p : Past) (x : Expiry) (snapshots : List (List ℕ)) → snapshots ≡ [] → SnapshotsLeft f p x snapshots → HaveGone f x.schema x.end
all_gone f p x snapshots none (with_origin name count named some sum between is) = absurd (let clash : [] ≡ snapshot_file name ∷ snapshot_paths x.first count = sym none ∙ is in cc)
all_gone f p x snapshots none (from_id id count low sum gone is) =
    let zeros : count ≡ 0 = none_from id count (sym none ∙ is) in
    let end : id ≡ x.end = omega (arith, sum, zeros) in
    subst (HaveGone f x.schema) end gone

pub all_removed : (x : Expiry) (first last : ℕ) (f : Files) (p : Past) → x.end ≡ first → first ≤ last → IsKnown p first → IsKnown p last
    → KnowsRemovals x [] f p → KnowsDone first last f p
all_removed x first last f p end order oldest newest known =
    let left = known.left in
    let gone = all_gone f p x left.snapshots (no_paths left.snapshots (left.dropped ++ floor_paths left.floors) left.is) left.first in
    record {
      schema = x.schema;
      table = known.table;
      gone = subst (HaveGoneBetween f p x.schema) end
          (record { within = known.read.announced.within; gone = λ below low high. gone below high });
      kept = λ some. oldest;
      newest = λ some. newest;
      order = order;
    }

pub remover_known : (x : Expiry) (first last : ℕ) (paths : List (List ℕ)) (f : Files) (p : Past) → x.end ≡ first → first ≤ last → IsKnown p first
    → IsKnown p last → KnowsRemovals x paths f p → KnowsRemover first last (remove_next paths) f p
remover_known x first last [] f p end order oldest newest known = all_removed x first last f p end order oldest newest known
remover_known x first last (path ∷ paths) f p end order oldest newest known = (x, end, order, oldest, newest, known)

pub removals_known : RemovalsBegin → (a : Announced) (d : DroppingView) (paths : List (List ℕ)) (f : Files) (p : Past) → a.found.first < a.end
    → a.end ≤ a.found.last → KnowsEnd a.found a.end f p → KnowsViews (views_of a d (a.end + 1)) p → AreRemovals a d paths
    → KnowsRemover a.end a.found.last (remove_next paths) f p
removals_known law a d paths f p less order end views are =
    let some = end.of.to_announce.some in
    let begun : KnowsRemovals (expiry_of a) (removals (expiry_of a) are.dropped are.floors) f p =
    law (expiry_of a) are.dropped are.floors f p end.of.found.table end.of.plain end.announced (end.left (λ e. omega (arith, e, less))) some less
    (end.of.found.gone some) (all_dropped a d p views less are.dropped are.are_dropped)
    (all_floors a.found.floors.items a.found.end are.floors are.are_floors) in
    remover_known (expiry_of a) a.end a.found.last paths f p refl order (end_known a d p views less) (end.of.found.last (omega (arith, less, order)))
    (subst (λ (xs : List (List ℕ)). KnowsRemovals (expiry_of a) xs f p) (sym are.is) begun)

-- ---- where no snapshot is to go

pub none_between : (f : Files) (p : Past) (s : TableSchema) (first : ℕ) → (1 ≤ first → HaveGoneBetween f p s first) → HaveGoneBetween f p s first
none_between f p s zero gone = record { within = omega arith; gone = λ below low high. absurd (omega (arith, low, high)) }
none_between f p s (suc n) gone = gone (omega arith)

pub found_done : (x : Found) (end : ℕ) (f : Files) (p : Past) → end ≡ x.first → end ≤ x.last → KnowsFound x f p → KnowsDone end x.last f p
found_done x end f p at order known = record {
  schema = x.schema;
  table = known.table;
  gone = subst (HaveGoneBetween f p x.schema) (sym at) (none_between f p x.schema x.first known.gone);
  kept = λ some. subst (IsKnown p) (sym at) (known.kept some);
  newest = known.last;
  order = order;
}

-- ---- where nothing changes

pub same_advances : (me : Actor) (f after : Files) (p : Past) → ((path : List ℕ) → map.get after path ≡ map.get f path) → Advances me f p after p
same_advances me f after p same = beside me f after p p.history (nothing same) refl
    (λ s path is none there. absurd (some-none (map.get after path) there (same path ∙ none)))
    (λ path there. still_there f after path (same path) there) (λ name. same (consumer_path name))

-- what was read of views stays
pub views_still : (v : Views) (other : Actor) (f after : Files) (p q : Past) → Advances other f p after q → KnowsViews v p → KnowsViews v q
views_still v other f after p q advances known = record {
  known = λ id low high. known-still other f after p q id advances (known.known id low high);
  seen = λ path. (
    λ seen. (let (id, low, high, named) = (known.seen path).0 seen in
        (id, low, high, subst (λ (g : Files). Names g v.announced.found.schema id path) (sym (advances.same id (known.known id low high))) named)),
    λ named. (known.seen path).1 (
      named.0,
      named.1,
      named.2,
      subst (λ (g : Files). Names g v.announced.found.schema named.0 path) (advances.same named.0 (known.known named.0 named.1 named.2)) named.3,
    ),
  );
  kept = λ id path low at.
      let same = advances.same id (known.known id low (omega (arith, at))) in
      subst (λ (g : Files). Contains v.dropping.kept path ↔ Names g v.announced.found.schema id path) (sym same) (known.kept id path low at);
}

-- and what is known once it is done
abbrev pub BetweenStays : Type 0
BetweenStays = (me : Actor) (f after : Files) (p q : Past) (s : TableSchema) (id : ℕ) → Stands f p → Advances me f p after q → IsTableOf s p.history
    → HaveGoneBetween f p s id → HaveGoneBetween after q s id

pub done_still : BetweenStays → (first last : ℕ) (other : Actor) (f after : Files) (p q : Past) → Stands f p → Advances other f p after q
    → KnowsDone first last f p → KnowsDone first last after q
done_still law first last other f after p q stands advances known = record {
  schema = known.schema;
  table = table_still other f after p q known.schema advances known.table;
  gone = law other f after p q known.schema first stands advances known.table known.gone;
  kept = λ some. known-still other f after p q first advances (known.kept some);
  newest = λ some. known-still other f after p q last advances (known.newest some);
  order = known.order;
}
