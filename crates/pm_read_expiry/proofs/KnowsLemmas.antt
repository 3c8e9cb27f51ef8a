-- What a reader knows of the table.
use Rattle.std.proofs.Common.{◌≡◌, ◌⊎◌, inl, inr, ℕ, zero, suc, ◌+◌, ◌-◌, ◌≤◌, List, [], Contains, Option, None, Some, IsSome, IfSome, refl, sym, subst, arith}
use Rattle.std.specs.FinMap as map
use Rattle.std.proofs.lemmas.Option.{IfSome_then}
use Rattle.pm_store.specs.Answers.{Answers}
use Rattle.pm_store.specs.Files.{Files, IsListing, carried}
use Rattle.pm_store.specs.declared.answer.Answer.{Answer}
use Rattle.pm_store.specs.declared.answer.Answer.TheVariants as answers
use Rattle.pm_store.specs.declared.call.Effect.TheVariants as effects
use Rattle.pm_machine.specs.Moves.{IsKept, Leads}
use Rattle.pm_machine.proofs.PhaseFacts.{both_if}
use Rattle.pm_schema.specs.declared.schema.TableSchema.{TableSchema}
use Rattle.pm_model_history.specs.History.{IsTableOf}
use Rattle.pm_snapshot.specs.Names.{greatest}
use Rattle.pm_expire_end.specs.Expiry.{first_id, last_id}
use Rattle.pm_model_folder.specs.Changes.{Actor}
use Rattle.pm_model_folder.specs.Ledger.{Advances, IsKnown, Past, Stands}
use Rattle.pm_model_folder.specs.Meaning.{HasSnapshotAt}
use Rattle.pm_model_folder.specs.Paths.{snapshot_folder, snapshot_path}
use Rattle.pm_model_folder.proofs.LedgerFacts.{at-table, count-is, known-still}
use Rattle.pm_model_expiry.specs.Expiry.{HaveGoneBetween}
use Rattle.pm_paths.specs.Ids.{AreIds}
use Rattle.pm_paths.proofs.ListedLemmas.{ids_there}
use Rattle.pm_snapshots.specs.Lister as lister
use Rattle.pm_snapshots.specs.Meaning as listing_meaning
use Rattle.pm_snapshots.specs.Meaning.{IsReadingIn}
use Rattle.pm_snapshots.specs.Reading.{ReadingView, add_line, next_id, reading_of}
use Rattle.pm_snapshots.specs.declared.phase.Phase as listing
use Rattle.pm_snapshots.specs.declared.phase.Phase.TheVariants as listers
use Rattle.pm_snapshots.proofs.Facts as listing_facts
use Rattle.pm_read_expiry.specs.Found.{IsFoundIn, IsNoneFound}
use Rattle.pm_read_expiry.specs.Meaning.{KnowsFound, KnowsLister, KnowsReading}
use Rattle.pm_read_expiry.specs.Times.{times_of}
use Rattle.pm_read_expiry.specs.declared.asking.Asking.{Asking}
use Rattle.pm_read_expiry.specs.declared.asking.Found.{Found}
use Rattle.pm_read_expiry.proofs.ListLemmas.{all_read, line_more, listed_ids, read_to}
use Rattle.pm_read_expiry.proofs.TimesLemmas.{chain_ids}

-- ---- the lister of snapshots

-- what an answer to it leads to is known of the same files
lister_knows : (m new : listing.Phase) (answer : Answer) (f : Files) (p : Past) → lister.Goes m answer new → Stands f p → listing_meaning.Knows m f p
    → IfSome (lister.next_call m) (λ call. Answers call answer f → listing_meaning.Knows new f p)
lister_knows m new answer f p goes stands known = both_if (lister.next_call m) _ _ _
    (λ call same led told. still (carried call f) (same effects.Whole) (led told))
    (listing_facts.spares m f) (listing_facts.sound.went m new answer f p goes stands known)
  where
    still : (after : Files) → after ≡ f → Leads IsKept (listing_meaning.Knows new) f p after → listing_meaning.Knows new f p
    still after same led = subst (λ (q : Past). listing_meaning.Knows new f q) led.1.past
        (subst (λ (g : Files). listing_meaning.Knows new g led.0) same led.2)

-- ---- what was listed

there_at : (f : Files) (s : TableSchema) (id : ℕ) → 1 ≤ id → IsSome (map.get f (snapshot_path id)) → HasSnapshotAt f s id
there_at f s zero some there = absurd (omega (arith, some))
there_at f s (suc k) some there = there

-- where the snapshot before one isn't there, none before that is but the origin
gone_before : (f : Files) (p : Past) (s : TableSchema) (id : ℕ) → Stands f p → IsTableOf s p.history → id ≤ greatest → HasSnapshotAt f s id
    → (2 ≤ id → HasSnapshotAt f s (id - 1) → ⊥) → HaveGoneBetween f p s id
gone_before f p s id stands is within here absent =
    let own = at-table f p s stands is in
    let many = count-is p s own.0 own.1 in
    let high = ((own.2.snapshots.exact id within).0 here).1 in
    record {
      within = omega (arith, many, high);
      gone = λ below least less there.
          let low = ((own.2.snapshots.exact below (omega (arith, less, within))).0 there).0 in
          absent (omega (arith, least, less))
          ((own.2.snapshots.exact (id - 1) (omega (arith, within))).1 (omega (arith, low, less), omega (arith, high)));
    }

module _ (f : Files) (p : Past) (s : TableSchema) (names : List (List ℕ)) (ids : List ℕ) (stands : Stands f p) (is : IsTableOf s p.history)
    (are : AreIds names ids) (listed : IsListing snapshot_folder names f) where
  there : (id : ℕ) → Contains ids id → (1 ≤ id) × (id ≤ greatest) × IsSome (map.get f (snapshot_path id))
  there id has = (ids_there f p.history names ids id stands.folder are listed).0 has

  here : (id : ℕ) → Contains ids id → HasSnapshotAt f s id
  here id has = there_at f s id (there id has).0 (there id has).2

  before_at : (k : ℕ) (found : Option (List ℕ)) → map.get f (snapshot_path k) ≡ found → Contains ids (k + 1)
      → Contains ids k ⊎ HaveGoneBetween f p s (k + 1)
  before_at zero found at has = inr (gone_before f p s (zero + 1) stands is (there (zero + 1) has).1 (here (zero + 1) has)
      (λ two other. omega (arith, two)))
  before_at (suc j) (Some bytes) at has =
      let high = (there (suc j + 1) has).1 in
      inl ((ids_there f p.history names ids (suc j) stands.folder are listed).1
      (omega arith, omega (arith, high), subst (λ (o : Option (List ℕ)). IsSome o) (sym at) refl))
  before_at (suc j) None at has = inr (gone_before f p s (suc j + 1) stands is (there (suc j + 1) has).1 (here (suc j + 1) has)
      (λ two other.
      let less : suc j + 1 - 1 ≡ suc j = omega arith in
      let was : IsSome (map.get f (snapshot_path (suc j))) = subst (HasSnapshotAt f s) less other in
      let clash : IsSome {T = List ℕ} None = subst (λ (o : Option (List ℕ)). IsSome o) at was in
      cc))

  pub before_listed : (id : ℕ) → Contains ids id → Contains ids (id - 1) ⊎ HaveGoneBetween f p s id
  before_listed id has =
      let some = (there id has).0 in
      let sum : id - 1 + 1 ≡ id = omega (arith, some) in
      subst (λ (n : ℕ). Contains ids (id - 1) ⊎ HaveGoneBetween f p s n) sum
      (before_at (id - 1) (map.get f (snapshot_path (id - 1))) refl (subst (Contains ids) (sym sum) has))

-- ---- what its answers lead to

module _ (a : Asking) (f : Files) (p : Past) (stands : Stands f p) where
  more_known : (r : ReadingView) (answer : Answer) (new : listing.Phase) → lister.Goes (listers.Read r) answer new → KnowsReading a f p r
      → listing_meaning.Knows new f p → KnowsLister a new f p
  more_known r answer new goes known own =
      let to = read_to r answer new goes in
      let reading : IsReadingIn p (add_line r to.0) = subst (λ (m : listing.Phase). listing_meaning.Knows m f p) to.2 own in
      let knows : KnowsReading a f p (add_line r to.0) = record {
        schema = known.schema;
        reading = line_more r to.0 known.reading to.1;
        known = reading;
        ids = known.ids;
        each = known.each;
      } in
      subst (λ (m : listing.Phase). KnowsLister a m f p) (sym to.2) knows

  listed_known : (s : TableSchema) (names : List (List ℕ)) (ids : List ℕ) (new : listing.Phase) → s ≡ a.schema → IsTableOf a.schema p.history
      → AreIds names ids → new ≡ listers.Read (reading_of s ids []) → IsListing snapshot_folder names f → listing_meaning.Knows new f p
      → KnowsLister a new f p
  listed_known s names ids new same table are is told own =
      let reading : IsReadingIn p (reading_of s ids []) = subst (λ (m : listing.Phase). listing_meaning.Knows m f p) is own in
      let knows : KnowsReading a f p (reading_of s ids []) = record {
        schema = same;
        reading = refl;
        known = reading;
        ids = listed_ids names ids are;
        each = before_listed f p a.schema names ids stands table are told;
      } in
      subst (λ (m : listing.Phase). KnowsLister a m f p) (sym is) knows

  pub lister_next : (m new : listing.Phase) (answer : Answer) → lister.Goes m answer new → KnowsLister a m f p
      → IfSome (lister.next_call m) (λ call. Answers call answer f → KnowsLister a new f p)
  lister_next (listers.List s) new (answers.Listed names) (ids, are, is) (same, table) = λ told.
      listed_known s names.items ids new same table are is told
      (lister_knows (listers.List s) new (answers.Listed names) f p (ids, are, is) stands
      (subst (λ (t : TableSchema). IsTableOf t p.history) (sym same) table) told)
  lister_next (listers.List s) new answer goes known = absurd goes
  lister_next (listers.Read r) new answer goes known = IfSome_then (lister.next_call (listers.Read r))
      (lister_knows (listers.Read r) new answer f p goes stands known.known) (λ call next told. more_known r answer new goes known (next told))
  lister_next m new answer goes known = absurd known

-- ---- what was found

pub table_known : (a : Asking) (m : listing.Phase) (f : Files) (p : Past) → KnowsLister a m f p → IsTableOf a.schema p.history
table_known a (listers.List s) f p known = known.1
table_known a (listers.Read r) f p known = subst (λ (s : TableSchema). IsTableOf s p.history) known.schema known.known.table
table_known a m f p known = absurd known

pub none_known : (a : Asking) (m : listing.Phase) (x : Found) (f : Files) (p : Past) → KnowsLister a m f p → IsNoneFound a x → KnowsFound x f p
none_known a m x f p known none = record {
  table = subst (λ (s : TableSchema). IsTableOf s p.history) (sym none.schema) (table_known a m f p known);
  last = λ some. absurd (let zero = none.last in omega (arith, zero, some));
  kept = λ some. absurd (let zero = none.last in omega (arith, zero, some));
  gone = λ some. absurd (let zero = none.first in omega (arith, zero, some));
}

found_of : (a : Asking) (r : ReadingView) (next : Option ℕ) (names : List (List ℕ)) (x : Found) (f : Files) (p : Past) → KnowsReading a f p r
    → next_id r ≡ None → IsFoundIn a (times_of r.lines) next names x → KnowsFound x f p
found_of a r next names x f p known none found =
    let ids = chain_ids r.lines r.ids found.chain (all_read r known.reading none) known.ids.rising found.is_chain in
    record {
      table = subst (λ (s : TableSchema). IsTableOf s p.history) (sym found.schema) (table_known a (listers.Read r) f p known);
      last = λ some. subst (IsKnown p) (sym found.last) (known.known.ids (last_id found.chain) ids.last);
      kept = λ some. subst (IsKnown p) (sym found.first) (known.known.ids (first_id found.chain) ids.first);
      gone = λ some. elim (known.each (first_id found.chain) ids.first) as (λ _. HaveGoneBetween f p x.schema x.first) [
        | inl has ↦ absurd (ids.begins (subst (λ (n : ℕ). 1 ≤ n) found.first some) has)
        | inr gone ↦ subst (λ (s : TableSchema). HaveGoneBetween f p s x.first) (sym found.schema)
            (subst (HaveGoneBetween f p a.schema) (sym found.first) gone)
      ];
    }

pub found_known : (a : Asking) (m : listing.Phase) (next : Option ℕ) (names : List (List ℕ)) (x : Found) (f : Files) (p : Past) → KnowsLister a m f p
    → lister.IsDone m → IsFoundIn a (times_of (lister.lines_of m)) next names x → KnowsFound x f p
found_known a (listers.Read r) next names x f p known done found = found_of a r next names x f p known done found
found_known a m next names x f p known done found = absurd done

-- ---- what stays

abbrev pub GoneStays : Type 0
GoneStays = (me : Actor) (f after : Files) (p q : Past) (s : TableSchema) (id : ℕ) → Stands f p → Advances me f p after q → IsTableOf s p.history
    → HaveGoneBetween f p s id → HaveGoneBetween after q s id

module _ (law : GoneStays) (other : Actor) (f after : Files) (p q : Past) (stands : Stands f p) (advances : Advances other f p after q) where
  table_still : (s : TableSchema) → IsTableOf s p.history → IsTableOf s q.history
  table_still s is = listing_facts.knows_still (listers.List s) other f after p q stands advances is

  pub lister_still : (a : Asking) (m : listing.Phase) → KnowsLister a m f p → KnowsLister a m after q
  lister_still a (listers.List s) (same, table) = (same, table_still a.schema table)
  lister_still a (listers.Read r) known = record {
    schema = known.schema;
    reading = known.reading;
    known = listing_facts.knows_still (listers.Read r) other f after p q stands advances known.known;
    ids = known.ids;
    each = λ id has. elim (known.each id has) as (λ _. Contains r.ids (id - 1) ⊎ HaveGoneBetween after q a.schema id) [
      | inl before ↦ inl before
      | inr gone ↦ inr (law other f after p q a.schema id stands advances (table_known a (listers.Read r) f p known) gone)
    ];
  }
  lister_still a m known = absurd known

  pub found_still : (x : Found) → KnowsFound x f p → KnowsFound x after q
  found_still x known = record {
    table = table_still x.schema known.table;
    last = λ some. known-still other f after p q x.last advances (known.last some);
    kept = λ some. known-still other f after p q x.first advances (known.kept some);
    gone = λ some. law other f after p q x.schema x.first stands advances known.table (known.gone some);
  }
