-- What a reader of what an expiry needs finds where nobody else acts: the end of the files, their first and their last.
use Rattle.std.proofs.Common.{◌≡◌, inl, inr, ℕ, zero, suc, ◌+◌, ◌-◌, ◌<◌, ◌≤◌, ℤ, pos, List, [], ◌∷◌, ◌++◌, Contains, length, map, slice_index_or, Option, None, Some, IsSome, refl, sym, ap, ◌∙◌, subst, arith}
use Rattle.std.specs.FinMap as finite
use Rattle.std.specs.List.{AllByRecursion}
use Rattle.pm_store.specs.Files.{Files, IsListing}
use Rattle.pm_store.specs.Store.{StoreView, IsAlone}
use Rattle.pm_machine.specs.Trace.{Event, Traces}
use Rattle.pm_model_history.specs.History.{Entry, History, IsTableOf, no_table, table}
use Rattle.pm_schema.specs.declared.schema.TableSchema.{TableSchema}
use Rattle.pm_snapshot.specs.Names.{greatest}
use Rattle.pm_model_folder.specs.Folder.{Folder, HasTable}
use Rattle.pm_model_folder.specs.Ledger.{count_of}
use Rattle.pm_model_folder.specs.Meaning.{HasSnapshotAt}
use Rattle.pm_model_folder.specs.Paths.{floor_folder}
use Rattle.pm_consumer_files.specs.declared.lines.NamedConsumer.{NamedConsumer}
use Rattle.pm_expire_end.specs.Expiry.{AreConsecutive, expire_end_of, first_id, id_at, last_id}
use Rattle.pm_read_schema.specs.AllCalls.{HasFiles, Stay}
use Rattle.pm_read_schema.proofs.AllCallsLemmas.{list_still}
use Rattle.pm_read_schema.proofs.StillLemmas.{AreStill, AreTold, IsStill, IsTold, stayed}
use Rattle.pm_snapshots.specs.AllCalls.{AreLinesOf}
use Rattle.pm_snapshots.specs.Reading.{ReadingView, next_id, reading_of}
use Rattle.pm_snapshots.specs.Trace as snapshots
use Rattle.pm_snapshots.specs.declared.line.SnapshotLine.{SnapshotLine}
use Rattle.pm_snapshots.specs.declared.phase.Phase.TheVariants as listers
use Rattle.pm_snapshots.proofs.AllCallsLemmas as snapshots_calls
use Rattle.pm_snapshots.proofs.Facts as snapshots_facts
use Rattle.pm_consumers.specs.AllCalls.{AreConsumersOf}
use Rattle.pm_consumers.proofs.AllCallsLemmas as consumers_calls
use Rattle.pm_read_expiry.specs.Found.{IsFoundIn, IsNoneFound}
use Rattle.pm_read_expiry.specs.Times.{times_of, IsChain, IsLeastNext}
use Rattle.pm_read_expiry.specs.Trace.{listed_floors, HasConsumers, HasFloors, HasFound, HasIds, HasLines, HasTimes}
use Rattle.pm_read_expiry.specs.Trace.{all_read, none_listed}
use Rattle.pm_read_expiry.specs.declared.asking.Asking.{Asking}
use Rattle.pm_read_expiry.specs.declared.asking.Found.{Found}
use Rattle.pm_expire.specs.AllCalls.{FindsAlone, FindsIn, IsEndIn, IsFirst, all_found, none_found}
use Rattle.pm_expire.proofs.ChainLemmas.{at_snapshot, chain_all, ids_in, ids_of, in_range, listed, same_ids, snapshot_at}
use Rattle.pm_expire.proofs.OneEndLemmas.{in_map, map_in}

-- ---- the first and the last

pub at_index : (times : List (ℕ × ℤ)) (t : ℕ × ℤ) (k : ℕ) → k < length times → id_at times k ≡ (slice_index_or times k t).0
at_index [] t k within = absurd (omega (arith, within))
at_index (u ∷ times) t zero within = refl
at_index (u ∷ times) t (suc k) within = at_index times t k (omega (arith, within))

pub item_at : (times : List (ℕ × ℤ)) (k : ℕ) → k < length times → Contains (ids_in times) (id_at times k)
item_at [] k within = absurd (omega (arith, within))
item_at (u ∷ times) k within =
    subst (λ (id : ℕ). Contains (ids_in (u ∷ times)) id) (sym (at_index (u ∷ times) u k within))
    (map_in (λ (t : ℕ × ℤ). t.0) (u ∷ times) (slice_index_or (u ∷ times) k u) (k, within, again (u ∷ times) u k within))
  where
    again : (times : List (ℕ × ℤ)) (d : ℕ × ℤ) (k : ℕ) → k < length times → slice_index_or times k (slice_index_or times k d) ≡ slice_index_or times k d
    again [] d k within = absurd (omega (arith, within))
    again (v ∷ times) d zero within = refl
    again (v ∷ times) d (suc k) within = again times d k (omega (arith, within))

within_chain : (times : List (ℕ × ℤ)) (id : ℕ) → AreConsecutive times → Contains (ids_in times) id → (first_id times ≤ id) × (id ≤ last_id times)
within_chain times id each c =
    let found = in_map (λ (t : ℕ × ℤ). t.0) times id c in
    let k : ℕ = found.1.0 in
    let below : k < length times = found.1.1 in
    let at : id_at times k ≡ id = at_index times found.0 k below ∙ ap (λ (t : ℕ × ℤ). t.0) found.1.2 ∙ found.2 in
    let here = each.each k below in
    let end = each.each (length times - 1) (omega (arith, below)) in
    (omega (arith, at, here), omega (arith, at, here, end, below))

module _ (f : Files) (s : TableSchema) (entries : List Entry) (folder : HasTable f s entries) (lines : List SnapshotLine) (are : AreLinesOf f lines)
    (each : AreConsecutive (times_of lines)) where
  abbrev times : List (ℕ × ℤ)
  times = times_of lines

  pub among : (id : ℕ) → Contains (ids_in times) id → Contains (ids_of lines) id
  among id c = subst (λ (ids : List ℕ). Contains ids id) (sym (same_ids lines)) c

  pub has_first : Contains (ids_of lines) (first_id times)
  has_first = among (first_id times) (item_at times 0 each.some)

  has_last : Contains (ids_of lines) (last_id times)
  has_last = let some = each.some in among (last_id times) (item_at times (length times - 1) (omega (arith, some)))

  pub span : (id : ℕ) → Contains (ids_of lines) id → (first_id times ≤ id) × (id ≤ last_id times)
  span id c = within_chain times id each (subst (λ (ids : List ℕ). Contains ids id) (same_ids lines) c)

  pub is_first : IsFirst f s (first_id times)
  is_first =
      let at = (are.ids.exact (first_id times)).0 has_first in
      record {
        after_origin = at.0;
        within = at.1;
        there = snapshot_at f s (first_id times) at.0 at.2;
        none = λ id after below there.
            let top = at.1 in
            let c = (are.ids.exact id).1 (after, omega (arith, below, top), at_snapshot f s id after there) in
            let low = (span id c).0 in
            absurd (omega (arith, below, low));
      }

  pub is_last : last_id times ≡ length entries
  is_last =
      let most = in_range f s (length entries) (ids_of lines) folder.snapshots are.ids (last_id times) has_last in
      let up = most.3 in
      let after = most.0 in
      let newest = listed f s (length entries) (ids_of lines) folder.snapshots are.ids (length entries) (omega (arith, up, after)) folder.snapshots.some (omega arith) in
      let down = (span (length entries) newest).1 in
      omega (arith, up, down)

-- where no snapshot was listed there is none but the origin
pub none_entries : (f : Files) (s : TableSchema) (entries : List Entry) → HasTable f s entries → AreLinesOf f [] → length entries ≡ 0
none_entries f s [] folder are = refl
none_entries f s (e ∷ entries) folder are =
    let newest = listed f s (length (e ∷ entries)) [] folder.snapshots are.ids (length (e ∷ entries)) (omega arith) folder.snapshots.some (omega arith) in
    let below = newest.1 in
    absurd (omega (arith, below))

-- ---- its calls

abbrev EachIs : (Event → Type 0) → List Event → Type 0
EachIs P own = AllByRecursion P own

join : (P : Event → Type 0) (own more : List Event) → EachIs P own → EachIs P more → EachIs P (own ++ more)
join P [] more all then = then
join P (event ∷ own) more (one, all) then = (one, join P own more all then)

pub split : (P : Event → Type 0) (own more : List Event) → EachIs P (own ++ more) → EachIs P own × EachIs P more
split P [] more all = (tt, all)
split P (event ∷ own) more (one, all) =
    let rest = split P own more all in
    ((one, rest.0), rest.1)

pub found_still : (a : Asking) (x : Found) (own : List Event) → HasFound a x own → AreStill own
found_still a x own (none_listed none ids) = snapshots_calls.read_calls (reading_of a.schema [] []) own ids
found_still a x own (all_read floors next r lines done is) =
    let t = lines.read in
    let l = t.listed in
    let parts = split (λ event. IsStill event.call) l.first t.reads (snapshots_calls.read_calls r (l.first ++ t.reads) t.then_reads) in
    let rest = consumers_calls.listed_calls l.then_consumers.0 l.rest l.then_consumers.1 in
    let before = join (λ event. IsStill event.call) l.first (listed_floors l.names ∷ l.rest) parts.0 (list_still floor_folder, rest) in
    subst AreStill (sym t.is)
    (join (λ event. IsStill event.call) t.before t.reads (subst AreStill (sym l.is) before) parts.1)

-- the lines that were read are those of all snapshots
read_at : (f : Files) (h : History) (s : TableSchema) (r : ReadingView) (own : List Event) → Folder f h → r.schema ≡ s → next_id r ≡ None
    → snapshots.HasRead r own → AreTold f own → IsTableOf s h × AreLinesOf f r.lines
read_at f h s r own folder same done (names, earlier, reads, are, reading, lists, all, is) told =
    snapshots_calls.listed_at f h folder s r.lines own
    (snapshots_facts.printed (listers.Read r) s own reading done (ap Some same) (names, earlier, reads, are, reading, lists, all, is)) told

none_at : (a : Asking) (f : Files) (h : History) (x : Found) → Folder f h → IsTableOf a.schema h → AreLinesOf f [] → IsNoneFound a x → FindsIn a f h x
none_at a f no_table x folder of are none = absurd of
none_at a f (table s entries) x folder of are none = none_found (none_entries f s entries folder are) none

all_at : (a : Asking) (f : Files) (h : History) (x : Found) (lines : List SnapshotLine) (cs : List NamedConsumer) (next : Option ℕ) (floors : List (List ℕ))
    → Folder f h → IsTableOf a.schema h → AreLinesOf f lines → AreConsumersOf f cs → IsLeastNext cs next → IsListing floor_folder floors f
    → IsFoundIn a (times_of lines) next floors x → FindsIn a f h x
all_at a f no_table x lines cs next floors folder of are consumers least listing is = absurd of
all_at a f (table s entries) x lines cs next floors folder of are consumers least listing is =
    let same = chain_all f s entries lines is.chain folder are is.is_chain in
    let each = subst AreConsecutive same is.is_chain.each in
    all_found
    (record {
      lines = lines;
      are_lines = are;
      consumers = cs;
      are_consumers = consumers;
      next = next;
      is_next = least;
      is = is.end ∙ ap (λ (times : List (ℕ × ℤ)). expire_end_of times a.keep a.now next) same;
    })
    (subst (λ (first : ℕ). IsFirst f a.schema first) (sym (is.first ∙ ap first_id same))
    (subst (λ (s : TableSchema). IsFirst f s (first_id (times_of lines))) of (is_first f s entries folder lines are each)))
    (is.last ∙ ap last_id same ∙ is_last f s entries folder lines are each)
    is.schema
    (subst (λ (names : List (List ℕ)). IsListing floor_folder names f) (sym is.floors) listing)

found_at : (a : Asking) (f : Files) (h : History) (x : Found) (own : List Event) → Folder f h → HasFound a x own → AreTold f own
    → IsTableOf a.schema h × FindsIn a f h x
found_at a f h x own folder (none_listed none ids) told =
    let at = read_at f h a.schema (reading_of a.schema [] []) own folder refl refl ids told in
    (at.0, none_at a f h x folder at.0 at.1 none)
found_at a f h x own folder (all_read floors next r lines done is) told =
    let t = lines.read in
    let l = t.listed in
    let whole = split (IsTold f) t.before t.reads (subst (AreTold f) t.is told) in
    let before = split (IsTold f) l.first (listed_floors l.names ∷ l.rest) (subst (AreTold f) l.is whole.0) in
    let at = read_at f h a.schema r (l.first ++ t.reads) folder lines.schema done t.then_reads (join (IsTold f) l.first t.reads before.0 whole.1) in
    let consumers = consumers_calls.listed_at f h folder l.then_consumers.0 l.rest l.then_consumers.1 before.1.1 in (
      at.0,
      all_at a f h x r.lines l.then_consumers.0 next floors folder at.0 at.1 consumers l.then_consumers.2
          (subst (λ (names : List (List ℕ)). IsListing floor_folder names f) l.are before.1.0) is,
    )

pub found : (a : Asking) (x : Found) (own : List Event) (first after : StoreView) (f : Files) (h : History) → HasFound a x own → Traces own first after
    → IsAlone first after → HasFiles f first → Folder f h → FindsAlone a f h x first after
found a x own first after f h has trace alone files folder =
    let stay = stayed f own first after (found_still a x own has) trace alone files in
    let at = found_at a f h x own folder has stay.1 in
    record { files = stay.0; table = at.0; finds = at.1 }
