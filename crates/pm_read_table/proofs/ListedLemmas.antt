-- What a reader knows of the snapshots that were listed.
use Rattle.std.proofs.Common.{◌≡◌, ◌⊎◌, inl, inr, ℕ, zero, suc, ◌≤◌, List, Contains, length, Option, None, Some, IsSome, arith, ap, refl, sym, subst, length-append}
use Rattle.std.specs.FinMap as map
use Rattle.pm_store.specs.Files.{Files, IsListing}
use Rattle.pm_model_history.specs.History.{GoesOn, History, IsTableOf, no_table, table}
use Rattle.pm_schema.specs.declared.schema.TableSchema.{TableSchema}
use Rattle.pm_model_folder.specs.Changes.{Actor}
use Rattle.pm_model_folder.specs.Ledger.{Advances, IsKnown, Past, Stands, count_of}
use Rattle.pm_model_folder.specs.Meaning.{HasSnapshotAt}
use Rattle.pm_model_folder.specs.Paths.{snapshot_folder, snapshot_path}
use Rattle.pm_model_folder.proofs.Facts.{goes_on, some-none}
use Rattle.pm_model_folder.proofs.LedgerFacts.{at-table, gone-still}
use Rattle.pm_paths.specs.Ids.{AreIds, IsGreatestOf, IsLatest}
use Rattle.pm_paths.proofs.ListedLemmas.{ids_there, latest_is, latest_of_ids}
use Rattle.pm_read_table.specs.Meaning.{AsksLatest, IsFor, KnowsListed, KnowsSought}
use Rattle.pm_read_table.specs.Reader.{IsAsked}
use Rattle.pm_read_table.specs.View.{IsSoughtBy}
use Rattle.pm_read_table.specs.Asked.{SoughtView}
use Rattle.pm_read_table.specs.declared.asked.Wanted.{Wanted}
use Rattle.pm_read_table.specs.declared.asked.Wanted.TheVariants as wants
use Rattle.pm_read_table.specs.declared.view.View.{View}

-- a history that goes on has no fewer entries
pub count_grows : (h later : History) → GoesOn h later → count_of h ≤ count_of later
count_grows no_table later goes = omega arith
count_grows (table s entries) no_table goes = absurd goes
count_grows (table s entries) (table t later) (same, more, is) =
    let size = ap length is in let both = length-append entries more in omega (arith, size, both)

-- ---- what was listed

asked_for : (w : Wanted) (names : List (List ℕ)) (ids : List ℕ) (latest id : ℕ) → AreIds names ids → IsLatest names latest → IsAsked w latest id → IsFor w ids id
asked_for wants.Newest names ids latest id are newest is = subst (IsGreatestOf ids) (sym is) (latest_of_ids names ids latest are newest)
asked_for wants.Entries names ids latest id are newest is = subst (IsGreatestOf ids) (sym is) (latest_of_ids names ids latest are newest)
asked_for (wants.At asked) names ids latest id are newest (is, below) = is
asked_for (wants.Whole asked) names ids latest id are newest is = absurd is

there_at : (f : Files) (s : TableSchema) (id : ℕ) → 1 ≤ id → IsSome (map.get f (snapshot_path id)) → HasSnapshotAt f s id
there_at f s zero least there = absurd (omega (arith, least))
there_at f s (suc id) least there = there

-- where the files are listed
listed_new : (f : Files) (p : Past) (s : TableSchema) (names : List (List ℕ)) (ids : List ℕ) → Stands f p → IsTableOf s p.history → AreIds names ids
    → IsListing snapshot_folder names f → KnowsListed f p ids
listed_new f p s names ids stands table_is are listing =
    let own = at-table f p s stands table_is in
    let count : count_of p.history ≡ length own.0 = ap count_of own.1 in
    let within = own.2.snapshots.within in record {
      within = λ id c. (let there = (ids_there f (table s own.0) names ids id own.2 are listing).0 c in
          let bounds = (own.2.snapshots.exact id there.1).0 (there_at f s id there.0 there.2) in
          let high = bounds.1 in
          (there.0, omega (arith, high, count)));
      all = λ id later known below c there. (let high = known.to in
          (ids_there f (table s own.0) names ids id own.2 are listing).1 (known.after_origin, omega (arith, high, count, within), there));
    }

asks_latest : (w : Wanted) (latest id : ℕ) → AsksLatest w → IsAsked w latest id → id ≡ latest
asks_latest wants.Newest latest id asks is = is
asks_latest wants.Entries latest id asks is = is
asks_latest (wants.At asked) latest id asks is = absurd asks
asks_latest (wants.Whole asked) latest id asks is = absurd asks

pub sought_new : (f : Files) (p : Past) (s : TableSchema) (w : Wanted) (names : List (List ℕ)) (ids : List ℕ) (latest id : ℕ) → Stands f p → IsTableOf s p.history
    → AreIds names ids → IsLatest names latest → IsListing snapshot_folder names f → IsAsked w latest id → id ≤ count_of p.history → KnowsSought f p w ids id
sought_new f p s w names ids latest id stands table_is are newest listing asked within = record {
  listed = listed_new f p s names ids stands table_is are listing;
  asked = asked_for w names ids latest id are newest asked;
  within = within;
  reaches = λ asks.
      let own = at-table f p s stands table_is in
      let last : latest ≡ length own.0 = latest_is f s own.0 own.2 latest names newest listing in
      let low = own.3.runs.since in
      let same = asks_latest w latest id asks asked in
      omega (arith, last, low, same);
}

pub sought_at : (f : Files) (p : Past) (w : Wanted) (ids : List ℕ) (one other : ℕ) → one ≡ other → KnowsSought f p w ids one → KnowsSought f p w ids other
sought_at f p w ids one other same sought = subst (KnowsSought f p w ids) same sought

-- of a view of what was sought
pub sought_by : (f : Files) (p : Past) (q : SoughtView) (v : View) (id : ℕ) → IsSoughtBy q v → v.id ≡ id → KnowsSought f p q.asked.wanted q.listed id
    → KnowsSought f p v.wanted v.listed.items v.id
sought_by f p q v id by same sought =
    subst (λ (n : ℕ). KnowsSought f p v.wanted v.listed.items n) (sym same)
    (subst (λ (ids : List ℕ). KnowsSought f p v.wanted ids id) (sym by.listed)
    (subst (λ (w : Wanted). KnowsSought f p w q.listed id) (sym by.wanted) sought))

there_or : (o : Option (List ℕ)) → (o ≡ None) ⊎ IsSome o
there_or None = inl refl
there_or (Some x) = inr refl

known_before : (other : Actor) (f after : Files) (p q : Past) (id : ℕ) → Advances other f p after q → IsKnown q id → id ≤ count_of p.history → IsKnown p id
known_before other f after p q id advances known high = record {
  after_origin = known.after_origin;
  from = (let low = known.from in let same = advances.first in omega (arith, low, same));
  to = high;
}

listed_still : (other : Actor) (f after : Files) (p q : Past) (s : TableSchema) (ids : List ℕ) → Stands f p → Advances other f p after q → IsTableOf s p.history
    → KnowsListed f p ids → KnowsListed after q ids
listed_still other f after p q s ids stands advances table_is listed =
    let grown = count_grows p.history q.history (goes_on other f after p.history q.history advances.change) in record {
      within = λ id c. (let bounds = listed.within id c in let high = bounds.1 in (bounds.0, omega (arith, high, grown)));
      all = λ id later known below c there. (let high = (listed.within later c).1 in
          let before = known_before other f after p q id advances known (omega (arith, below, high)) in
          elim (there_or (map.get f (snapshot_path id))) as (λ _. Contains ids id) [
            | inl none ↦ absurd (some-none (map.get after (snapshot_path id)) there (gone-still other f after p q s id stands advances table_is before none))
            | inr here ↦ listed.all id later before below c here
          ]);
    }

pub sought_still : (other : Actor) (f after : Files) (p q : Past) (s : TableSchema) (w : Wanted) (ids : List ℕ) (id : ℕ) → Stands f p → Advances other f p after q
    → IsTableOf s p.history → KnowsSought f p w ids id → KnowsSought after q w ids id
sought_still other f after p q s w ids id stands advances table_is sought =
    let grown = count_grows p.history q.history (goes_on other f after p.history q.history advances.change) in
    let high = sought.within in record {
      listed = listed_still other f after p q s ids stands advances table_is sought.listed;
      asked = sought.asked;
      within = omega (arith, high, grown);
      reaches = λ asks. (let low = sought.reaches asks in let same = advances.since in omega (arith, low, same));
    }

-- what is there is known, so it was listed
pub were_listed : (f : Files) (p : Past) (s : TableSchema) (ids : List ℕ) (id later : ℕ) → Stands f p → IsTableOf s p.history → KnowsListed f p ids → 1 ≤ id → id ≤ later
    → Contains ids later → IsSome (map.get f (snapshot_path id)) → Contains ids id
were_listed f p s ids id later stands table_is listed least below c there =
    let own = at-table f p s stands table_is in
    let count : count_of p.history ≡ length own.0 = ap count_of own.1 in
    let high = (listed.within later c).1 in
    let up : id ≤ length own.0 = omega (arith, below, high, count) in
    let known : IsKnown p id = record {
      after_origin = least;
      from = own.3.reaches id least up (there_at f s id least there);
      to = omega (arith, below, high);
    } in
    listed.all id later known below c there
