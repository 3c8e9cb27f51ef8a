-- What a stopped expiry left of snapshots goes with the next one: it is asked to keep no more, so its end isn't lower.
use Rattle.std.proofs.Common.{◌≡◌, ◌↔◌, inl, inr, ℕ, zero, suc, ◌+◌, ◌-◌, ◌<◌, ◌≤◌, ℤ, pos, int_le, List, [], ◌∷◌, Contains, length, map, slice_index_or, Option, None, Some, IsSome, refl, sym, ap, ◌∙◌, subst, arith}
use Rattle.std.specs.FinMap as finite
use Rattle.std.specs.Prelude.{◌≤ℤ◌}
use Rattle.std.specs.List.{AllByRecursion}
use Rattle.std.specs.List.Sorted.{IsStrictlyIncreasing}
use Rattle.std.proofs.lemmas.Bool.{cases_lt}
use Rattle.std.proofs.lemmas.List.{get_or_default}
use Rattle.pm_store.specs.Files.{Files}
use Rattle.pm_remove.specs.Meaning.{HasLost}
use Rattle.pm_schema.specs.declared.schema.TableSchema.{TableSchema}
use Rattle.pm_snapshot.specs.Names.{snapshot_name}
use Rattle.pm_model_history.specs.History.{Entry}
use Rattle.pm_model_folder.specs.Changes.{HavePlainNames}
use Rattle.pm_model_folder.specs.Folder.{HasTable}
use Rattle.pm_model_folder.specs.Meaning.{ConsumerAt}
use Rattle.pm_model_folder.specs.Paths.{consumer_path, snapshot_path}
use Rattle.pm_model_folder.proofs.BesideLemmas.{floor-snapshot}
use Rattle.pm_model_folder.proofs.Facts.{some-none}
use Rattle.pm_paths.proofs.ListLemmas.{nowhere}
use Rattle.pm_consumer_files.specs.declared.lines.NamedConsumer.{NamedConsumer}
use Rattle.pm_expire_end.specs.declared.keep.Keep.{Keep}
use Rattle.pm_expire_end.specs.Expiry.{AreConsecutive, IsExpireEnd, IsExpireEnd.{chosen, forced}, KeepsMore, ReadsMore, expire_end_of, first_id, highest, id_at, is_recent, last_id, lowest, since, time_of_id}
use Rattle.pm_snapshots.specs.AllCalls.{AreIdsOf, AreLinesOf}
use Rattle.pm_snapshots.specs.Meaning.{IsLineAt}
use Rattle.pm_snapshots.specs.declared.line.SnapshotLine.{SnapshotLine}
use Rattle.pm_consumers.specs.AllCalls.{AreConsumersOf}
use Rattle.pm_read_expiry.specs.Times.{times_of, IsLeastNext}
use Rattle.pm_read_expiry.specs.declared.asking.Asking.{Asking}
use Rattle.pm_expire.specs.AllCalls.{announced, AreRemovalsOf, HasToGo, IsEndIn, IsFirst}
use Rattle.pm_expire.proofs.AnnouncedLemmas.{others}
use Rattle.pm_expire.proofs.ChainLemmas.{IsDense, at_snapshot, dense_tail, follows, ids_in, ids_of, none_lacks, rising_tail, same_ids, snapshot_at}
use Rattle.pm_expire.proofs.FoundLemmas.{among, at_index, has_first, is_last, item_at, span}
use Rattle.pm_expire.proofs.KeptLemmas.{EndLaw}
use Rattle.pm_expire.proofs.OneEndLemmas.{each_of, has_next, in_map, map_in, one_line, one_next}
use Rattle.pm_expire.proofs.SparesLemmas.{image_spares}

-- ---- the same end of fewer snapshots

-- the last of some snapshots, from one at or below an end on, with the times that these had
record AreLast (times later : List (ℕ × ℤ)) (end : ℕ) : Type 0 where
  last : last_id later ≡ last_id times
  from : first_id times ≤ first_id later
  to : first_id later ≤ end
  same : (id : ℕ) → first_id later ≤ id → id ≤ end → time_of_id later id ≡ time_of_id times id

same_recent : (times later : List (ℕ × ℤ)) (end : ℕ) (from : ℤ) → AreLast times later end → (id : ℕ) → first_id later ≤ id → id ≤ end
    → is_recent later from id ≡ is_recent times from id
same_recent times later end from are id low high = ap (int_le from) (are.same id low high)

still_end : (times later : List (ℕ × ℤ)) (keep : Keep) (now : ℤ) (next : Option ℕ) (end : ℕ) → AreLast times later end
    → IsExpireEnd times keep now next end → IsExpireEnd later keep now next end
still_end times later keep now next end are (chosen less is) =
    let last = are.last in
    let from = are.from in
    let to = are.to in
    let low = is.from_low in
    let top = is.to_high in
    let high : highest (last_id later) keep next ≡ highest (last_id times) keep next = ap (λ (n : ℕ). highest n keep next) last in
    elim (cases_lt (lowest (first_id later) (last_id later) keep) (highest (last_id later) keep next)) as (λ _. IsExpireEnd later keep now next end) [
      | inl still ↦ chosen still (record {
        from_low = omega (arith, last, to, from, low);
        to_high = omega (arith, high, top);
        older = λ id above below.
            same_recent times later end (since keep now) are id (omega (arith, above)) (omega (arith, below))
            ∙ is.older id (omega (arith, above, last, from)) below;
        recent = λ below. same_recent times later end (since keep now) are end to (omega arith) ∙ is.recent (omega (arith, below, high));
      })
      | inr none ↦ forced none (omega (arith, none, high, last, from, to, low, top))
    ]
still_end times later keep now next end are (forced order is) =
    let last = are.last in
    let from = are.from in
    let to = are.to in
    let high : highest (last_id later) keep next ≡ highest (last_id times) keep next = ap (λ (n : ℕ). highest n keep next) last in
    forced (omega (arith, high, order, last, from)) (omega (arith, high, is, from, to))

-- ---- the ids and the times of lines

-- ids that rise and lack none between two follow one another
each_follows : (times : List (ℕ × ℤ)) → IsStrictlyIncreasing (ids_in times) → IsDense (ids_in times) → (k : ℕ) → k < length times
    → id_at times k ≡ first_id times + k
each_follows [] rises dense k within = absurd (omega (arith, within))
each_follows (t ∷ times) rises dense zero within = omega arith
each_follows (t ∷ []) rises dense (suc k) within = absurd (omega (arith, within))
each_follows (t ∷ v ∷ times) rises dense (suc k) within =
    let ids : List ℕ = ids_in (v ∷ times) in
    let rest : id_at (v ∷ times) k ≡ v.0 + k = each_follows (v ∷ times) (rising_tail t.0 ids rises) (dense_tail t.0 ids rises dense) k (omega (arith, within)) in
    let step : t.0 + 1 ≡ v.0 = follows (t ∷ []) v times rises dense (omega arith) in
    let sum : v.0 + k ≡ t.0 + suc k = omega (arith, step) in
    rest ∙ sum

some_times : (lines : List SnapshotLine) (id : ℕ) → Contains (ids_of lines) id → 0 < length (times_of lines)
some_times [] id c = absurd (nowhere id c)
some_times (l ∷ lines) id c = omega arith

consecutive : (f : Files) (s : TableSchema) (entries : List Entry) (lines : List SnapshotLine) (id : ℕ) → HasTable f s entries → AreLinesOf f lines
    → Contains (ids_of lines) id → AreConsecutive (times_of lines)
consecutive f s entries lines id table are c =
    let ids = same_ids lines in
    record {
      some = some_times lines id c;
      each = each_follows (times_of lines) (subst IsStrictlyIncreasing ids are.ids.rising)
          (subst IsDense ids (none_lacks f s (length entries) (ids_of lines) table.snapshots are.ids));
    }

-- the time of one of them
time_is : (times : List (ℕ × ℤ)) (t : ℕ × ℤ) → AreConsecutive times → Contains times t → time_of_id times t.0 ≡ t.1
time_is times t each c =
    let k : ℕ = c.0 in
    let below : k < length times = c.1 in
    let at : id_at times k ≡ t.0 = at_index times t k below ∙ ap (λ (t : ℕ × ℤ). t.0) c.2 in
    let here = each.each k below in
    let index : t.0 - first_id times ≡ k = omega (arith, at, here) in
    ap (λ (k : ℕ). (slice_index_or times k (0, pos 0)).1) index
    ∙ ap (λ (t : ℕ × ℤ). t.1) (get_or_default times k (0, pos 0) t below ∙ c.2)

abbrev timed : SnapshotLine → ℕ × ℤ
timed l = (l.id, l.time)

line_time : (lines : List SnapshotLine) (l : SnapshotLine) → AreConsecutive (times_of lines) → Contains lines l → time_of_id (times_of lines) l.id ≡ l.time
line_time lines l each c = time_is (times_of lines) (timed l) each (map_in timed lines l c)

-- each id from the first to the last is among them
has_each : (f : Files) (s : TableSchema) (entries : List Entry) (table : HasTable f s entries) (lines : List SnapshotLine) (are : AreLinesOf f lines)
    (each : AreConsecutive (times_of lines)) (id : ℕ) → first_id (times_of lines) ≤ id → id ≤ last_id (times_of lines) → Contains (ids_of lines) id
has_each f s entries table lines are each id low high =
    let times : List (ℕ × ℤ) = times_of lines in
    let k : ℕ = id - first_id times in
    let some = each.some in
    let last = each.each (length times - 1) (omega (arith, some)) in
    let within : k < length times = omega (arith, some, last, low, high) in
    let here = each.each k within in
    let at : id_at times k ≡ id = omega (arith, here, low) in
    subst (λ (n : ℕ). Contains (ids_of lines) n) at (among f s entries table lines are each (id_at times k) (item_at times k within))

-- ---- files that lost snapshots

module _ (f g : Files) (was : (id : ℕ) → IsSome (finite.get g (snapshot_path id)) → finite.get g (snapshot_path id) ≡ finite.get f (snapshot_path id)) where
  id_before : (ids others : List ℕ) (id : ℕ) → AreIdsOf f ids → AreIdsOf g others → Contains others id → Contains ids id
  id_before ids others id are left c =
      let at = (left.exact id).0 c in
      (are.exact id).1 (at.0, at.1, subst (λ (o : Option (List ℕ)). IsSome o) (was id at.2) at.2)

  line_before : (l : SnapshotLine) → IsLineAt g l → IsLineAt f l
  line_before l (s, (bytes, at, reads), is) =
      (s, (bytes, sym (was l.id (subst (λ (o : Option (List ℕ)). IsSome o) (sym at) refl)) ∙ at, reads), is)

  module _ (s : TableSchema) (entries : List Entry) (table : HasTable f s entries) (after : HasTable g s entries)
      (lines left : List SnapshotLine) (are : AreLinesOf f lines) (remain : AreLinesOf g left) where
    -- each line that is left was a line
    was_line : (l : SnapshotLine) → Contains left l → Contains lines l
    was_line l c =
        let id_of : SnapshotLine → ℕ = λ l. l.id in
        let found = in_map id_of lines l.id (id_before (ids_of lines) (ids_of left) l.id are.ids remain.ids (map_in id_of left l c)) in
        subst (Contains lines) (one_line f found.0 l found.2 (each_of (IsLineAt f) lines are.each found.0 found.1)
        (line_before l (each_of (IsLineAt g) left remain.each l c))) found.1

    module _ (all : AreConsecutive (times_of lines)) (some : AreConsecutive (times_of left)) where
      same_time : (id : ℕ) → Contains (ids_of left) id → time_of_id (times_of left) id ≡ time_of_id (times_of lines) id
      same_time id c =
          let id_of : SnapshotLine → ℕ = λ l. l.id in
          let found = in_map id_of left id c in
          subst (λ (n : ℕ). time_of_id (times_of left) n ≡ time_of_id (times_of lines) n) found.2
          (line_time left found.0 some found.1 ∙ sym (line_time lines found.0 all (was_line found.0 found.1)))

      are_last : (end : ℕ) → last_id (times_of left) ≡ last_id (times_of lines) → end ≤ last_id (times_of lines) → Contains (ids_of left) end
          → AreLast (times_of lines) (times_of left) end
      are_last end last high c = record {
        last = last;
        from = (span f s entries table lines are all (first_id (times_of left))
            (id_before (ids_of lines) (ids_of left) (first_id (times_of left)) are.ids remain.ids (has_first g s entries after left remain some))).0;
        to = (span g s entries after left remain some end c).0;
        same = λ id low below. same_time id (has_each g s entries after left remain some id low (omega (arith, below, high, last)));
      }

-- ---- the least number of its consumers

module _ (f g : Files) (same : (name : List ℕ) → finite.get g (consumer_path name) ≡ finite.get f (consumer_path name)) where
  consumer_before : (c : NamedConsumer) → ConsumerAt g c.name c.consumer → ConsumerAt f c.name c.consumer
  consumer_before c (bytes, at, reads) = (bytes, sym (same c.name) ∙ at, reads)

  each_before : (consumers : List NamedConsumer) → AllByRecursion (λ (c : NamedConsumer). ConsumerAt g c.name c.consumer) consumers
      → AllByRecursion (λ (c : NamedConsumer). ConsumerAt f c.name c.consumer) consumers
  each_before [] all = tt
  each_before (c ∷ consumers) (one, all) = (consumer_before c one, each_before consumers all)

  consumers_before : (consumers : List NamedConsumer) → AreConsumersOf g consumers → AreConsumersOf f consumers
  consumers_before consumers are = record {
    rising = are.rising;
    exact = λ name. subst (λ (o : Option (List ℕ)). Contains (map (λ (c : NamedConsumer). c.name) consumers) name ↔ IsSome o) (same name) (are.exact name);
    each = each_before consumers are.each;
  }

  same_next : (cs ds : List NamedConsumer) (one other : Option ℕ) → AreConsumersOf f cs → AreConsumersOf g ds → IsLeastNext cs one → IsLeastNext ds other
      → one ≡ other
  same_next cs ds one other are left least next =
      let were = consumers_before ds left in
      one_next cs ds one other (has_next f cs ds are were) (has_next f ds cs were are) least next

reads_same : (next earlier : Option ℕ) → earlier ≡ next → ReadsMore next earlier
reads_same None earlier same = tt
reads_same (Some n) earlier same = (n, same, omega arith)

-- ---- what a stopped expiry left

left_was : (f g : Files) (end : ℕ) (paths : List (List ℕ)) → HasLost (announced f end) paths g → (id : ℕ) → IsSome (finite.get g (snapshot_path id))
    → finite.get g (snapshot_path id) ≡ finite.get f (snapshot_path id)
left_was f g end paths lost id there =
    lost.lost.others (snapshot_path id) (λ c. some-none (finite.get g (snapshot_path id)) there (lost.lost.gone (snapshot_path id) c))
    ∙ others f end (snapshot_path id) (λ same. floor-snapshot end (snapshot_name id) (sym same))

-- what the laws of the end say
abbrev pub OnlyEndLaw : Type 0
OnlyEndLaw = (times : List (ℕ × ℤ)) (keep : Keep) (now : ℤ) (next : Option ℕ) (end : ℕ) → IsExpireEnd times keep now next end
    → end ≡ expire_end_of times keep now next

abbrev pub IsEndLaw : Type 0
IsEndLaw = (times : List (ℕ × ℤ)) (keep : Keep) (now : ℤ) (next : Option ℕ) → IsExpireEnd times keep now next (expire_end_of times keep now next)

abbrev pub MoreLaw : Type 0
MoreLaw = (times : List (ℕ × ℤ)) (less more : Keep) (now before : ℤ) (next earlier : Option ℕ) → KeepsMore less more → before ≤ℤ now
    → ReadsMore next earlier → expire_end_of times more before earlier ≤ expire_end_of times less now next

pub record EndLaws : Type 0 where
  pub is : IsEndLaw
  pub only : OnlyEndLaw
  pub end : EndLaw
  pub more : MoreLaw

module _ (laws : EndLaws) (a : Asking) (f g : Files) (s : TableSchema) (entries : List Entry) (first end : ℕ) (paths : List (List ℕ))
    (some : 1 ≤ a.keep.min) (plain : HavePlainNames s) (table : HasTable f s entries) (after : HasTable g s entries) (is_first : IsFirst f s first)
    (less : first < end) (start : IsEndIn a f end) (are : AreRemovalsOf s f first end paths) (lost : HasLost (announced f end) paths g) where
  abbrev lines : List SnapshotLine
  lines = start.lines

  all : AreConsecutive (times_of lines)
  all = consecutive f s entries lines first table start.are_lines
      ((start.are_lines.ids.exact first).1 (is_first.after_origin, is_first.within, at_snapshot f s first is_first.after_origin is_first.there))

  needed : (first_id (times_of lines) ≤ end) × (end ≤ last_id (times_of lines))
  needed =
      let keeps = laws.end (times_of lines) a.keep a.now start.next all some in
      let low = keeps.first in
      let high = keeps.last in
      let is = start.is in
      (omega (arith, low, is), omega (arith, high, is))

  -- the snapshot at the end is there
  end_before : Contains (ids_of lines) end
  end_before = has_each f s entries table lines start.are_lines all end needed.0 needed.1

  module _ (left : List SnapshotLine) (remain : AreLinesOf g left) where
    end_left : Contains (ids_of left) end
    end_left =
        let at = (start.are_lines.ids.exact end).0 end_before in
        let spares = image_spares f s entries first end paths g table plain is_first less are lost in
        let same = spares.needs end (snapshot_path end) at.0 at.1 (omega arith) (snapshot_at f s end at.0 at.2) (inl refl) in
        (remain.ids.exact end).1 (at.0, at.1, subst (λ (o : Option (List ℕ)). IsSome o) (sym same) at.2)

    rest : AreConsecutive (times_of left)
    rest = consecutive g s entries left end after remain end_left

    same_last : last_id (times_of left) ≡ last_id (times_of lines)
    same_last = is_last g s entries after left remain rest ∙ sym (is_last f s entries table lines start.are_lines all)

    -- what was the end of all is that of what is left
    end_of_left : end ≡ expire_end_of (times_of left) a.keep a.now start.next
    end_of_left = laws.only (times_of left) a.keep a.now start.next end
        (still_end (times_of lines) (times_of left) a.keep a.now start.next end
        (are_last f g (left_was f g end paths lost) s entries table after lines left start.are_lines remain all rest end same_last needed.1 end_left)
        (subst (IsExpireEnd (times_of lines) a.keep a.now start.next) (sym start.is) (laws.is (times_of lines) a.keep a.now start.next)))

  no_lower : (later : Asking) (other : ℕ) → KeepsMore later.keep a.keep → a.now ≤ℤ later.now → IsEndIn later g other → end ≤ other
  no_lower later other keeps clock ends =
      let spares = image_spares f s entries first end paths g table plain is_first less are lost in
      let next = same_next f g spares.consumers start.consumers ends.consumers start.next ends.next start.are_consumers ends.are_consumers start.is_next ends.is_next in
      let was = end_of_left ends.lines ends.are_lines in
      let more = laws.more (times_of ends.lines) later.keep a.keep later.now a.now ends.next start.next keeps clock (reads_same ends.next start.next next) in
      let is = ends.is in
      omega (arith, was, more, is)

pub resumes : EndLaws → (a later : Asking) (f g : Files) (s : TableSchema) (entries : List Entry) (first end other : ℕ) (paths : List (List ℕ))
    → 1 ≤ a.keep.min → KeepsMore later.keep a.keep → a.now ≤ℤ later.now → a.schema ≡ s → HavePlainNames s → HasTable f s entries → HasTable g s entries
    → HasToGo a f first end → AreRemovalsOf s f first end paths → HasLost (announced f end) paths g → IsEndIn later g other → end ≤ other
resumes laws a later f g s entries first end other paths some keeps clock same plain table after has are lost ends =
    no_lower laws a f g s entries first end paths some plain table after (subst (λ (s : TableSchema). IsFirst f s first) same has.is_first)
    has.some has.is_end are lost later other keeps clock ends
