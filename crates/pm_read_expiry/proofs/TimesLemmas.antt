-- The least number of consumers, and the last snapshots that follow each other by one.
use Rattle.std.proofs.Common.{◌≡◌, inl, inr, ℕ, ◌+◌, ◌-◌, ◌<◌, ◌≤◌, nat_le, zero, suc, ℤ, pos, List, [], ◌∷◌, ◌++◌, Contains, length, get_or, take, map, min, true, false, Option, None, Some, refl, sym, ap, ◌∙◌, subst, arith}
use Rattle.std.specs.List.Sorted.{IsStrictlyIncreasing}
use Rattle.std.proofs.lemmas.Bool.Decides.{nat_tests}
use Rattle.std.proofs.lemmas.Grind.{get_or_default_zero}
use Rattle.std.proofs.lemmas.List.{get_or-append-add, get_or_append_left, length-append, take_more}
use Rattle.std.proofs.lemmas.List.Elements.{Contains-append_left, Contains-get_or, Contains-push, Contains-push_cases}
use Rattle.pm_consumer_files.specs.declared.lines.NamedConsumer.{NamedConsumer}
use Rattle.pm_expire_end.specs.Expiry.{first_id, id_at, last_id}
use Rattle.pm_snapshots.specs.declared.line.SnapshotLine.{SnapshotLine}
use Rattle.pm_read_expiry.specs.Times.{times_of, lesser, IsChain, IsLeastNext}

-- ---- the least number of consumers

no_item : {X : Type 0} (x : X) → Contains [] x → ⊥
no_item x has = let below = has.1 in omega (arith, below)

-- a consumer more
pub least_more : (cs : List NamedConsumer) (c : NamedConsumer) (o : Option ℕ) → IsLeastNext cs o
    → IsLeastNext (cs ++ c ∷ []) (Some (lesser o c.consumer.next))
least_more cs c None none = (
  (c, Contains-push cs c, refl),
  λ d has. elim (Contains-push_cases cs c d has) as (λ _. c.consumer.next ≤ d.consumer.next) [
    | inl old ↦ absurd (no_item d (subst (λ (xs : List NamedConsumer). Contains xs d) none old))
    | inr same ↦ subst (λ (e : NamedConsumer). c.consumer.next ≤ e.consumer.next) same (omega arith)
  ],
)
least_more cs c (Some n) (one, all) = (
  elim (nat_le n c.consumer.next) as (λ t. nat_le n c.consumer.next ≡ t
      → (d : NamedConsumer) × Contains (cs ++ c ∷ []) d × (d.consumer.next ≡ min n c.consumer.next)) [
        | true ↦ λ e.
            let low : n ≤ c.consumer.next = grind (arith, nat_tests) in
            let is = one.2 in
            (one.0, Contains-append_left cs (c ∷ []) one.0 one.1, omega (arith, low, is))
        | false ↦ λ e.
            let high : c.consumer.next < n = grind (arith, nat_tests) in
            (c, Contains-push cs c, omega (arith, high))
      ] refl,
  λ d has. elim (Contains-push_cases cs c d has) as (λ _. min n c.consumer.next ≤ d.consumer.next) [
    | inl old ↦ (let low = all d old in omega (arith, low))
    | inr same ↦ subst (λ (e : NamedConsumer). min n c.consumer.next ≤ e.consumer.next) same (omega arith)
  ],
)

-- the next of a list is more
pub next_more : (cs : List NamedConsumer) (index : ℕ) (c : NamedConsumer) (o : Option ℕ) (least : ℕ) → index < length cs → c ≡ get_or cs index c
    → least ≡ lesser o c.consumer.next → IsLeastNext (take index cs) o → IsLeastNext (take (index + 1) cs) (Some least)
next_more cs index c o least within is at so =
    let more : take (index + 1) cs ≡ take index cs ++ c ∷ [] =
    take_more cs index c within ∙ ap (λ (d : NamedConsumer). take index cs ++ d ∷ []) (sym is) in
    subst (λ (n : ℕ). IsLeastNext (take (index + 1) cs) (Some n)) (sym at)
    (subst (λ (xs : List NamedConsumer). IsLeastNext xs (Some (lesser o c.consumer.next))) (sym more) (least_more (take index cs) c o so))

-- ---- what it says of the ids

-- the id of a time is that of its snapshot
id_of_time : (lines : List SnapshotLine) (index : ℕ) → id_at (times_of lines) index ≡ get_or (map (λ (l : SnapshotLine). l.id) lines) index 0
id_of_time [] zero = refl
id_of_time [] (suc index) = refl
id_of_time (l ∷ lines) zero = refl
id_of_time (l ∷ lines) (suc index) = id_of_time lines index

times_size : (lines : List SnapshotLine) → length (times_of lines) ≡ length (map (λ (l : SnapshotLine). l.id) lines)
times_size [] = refl
times_size (l ∷ lines) = ap suc (times_size lines)

-- where ids rise, each is below those after it
rises : (ids : List ℕ) → IsStrictlyIncreasing ids → (index more : ℕ) → index + more < length ids → get_or ids index 0 + more ≤ get_or ids (index + more) 0
rises ids rising index zero within =
    let same : index + 0 ≡ index = omega arith in
    let is = ap (λ (k : ℕ). get_or ids k 0) same in
    omega (arith, is)
rises ids rising index (suc more) within =
    let low = rises ids rising index more (omega (arith, within)) in
    let next = rising (index + more) (omega (arith, within)) in
    let same : index + suc more ≡ index + more + 1 = omega arith in
    let is = ap (λ (k : ℕ). get_or ids k 0) same in
    omega (arith, low, next, is)

-- What a chain of ids that rise begins and ends with. The id before its first isn't among them.
pub record ChainIds (ids : List ℕ) (chain : List (ℕ × ℤ)) : Type 0 where
  pub first : Contains ids (first_id chain)
  pub last : Contains ids (last_id chain)
  pub begins : 1 ≤ first_id chain → Contains ids (first_id chain - 1) → ⊥

module _ (lines : List SnapshotLine) (ids : List ℕ) (chain : List (ℕ × ℤ)) (same : map (λ (l : SnapshotLine). l.id) lines ≡ ids)
    (rising : IsStrictlyIncreasing ids) (is : IsChain (times_of lines) chain) where
  abbrev start : ℕ
  start = length is.before

  size : length ids ≡ start + length chain
  size = sym (times_size lines ∙ ap length same) ∙ ap length is.is ∙ length-append is.before chain

  id_in : (index : ℕ) → id_at (is.before ++ chain) index ≡ get_or ids index 0
  id_in index = sym (ap (λ (times : List (ℕ × ℤ)). id_at times index) is.is) ∙ id_of_time lines index ∙ ap (λ (own : List ℕ). get_or own index 0) same

  id_of_chain : (index : ℕ) → id_at chain index ≡ get_or ids (start + index) 0
  id_of_chain index = sym (ap (λ (t : ℕ × ℤ). t.0) (get_or-append-add is.before chain index (0, pos 0))) ∙ id_in (start + index)

  id_before : (index : ℕ) → index < start → id_at is.before index ≡ get_or ids index 0
  id_before index below = sym (ap (λ (t : ℕ × ℤ). t.0) (get_or_append_left is.before chain (0, pos 0) index below)) ∙ id_in index

  among : (index : ℕ) → index < length chain → Contains ids (id_at chain index)
  among index below =
      let all = size in
      subst (Contains ids) (sym (id_of_chain index)) (Contains-get_or ids (start + index) 0 (omega (arith, below, all)))

  not_among : 1 ≤ first_id chain → Contains ids (first_id chain - 1) → ⊥
  not_among some (index, within, at) = elim (nat_le start index) as (λ t. nat_le start index ≡ t → ⊥) [
    | true ↦ λ e.
        let from : start ≤ index = grind (arith, nat_tests) in
        let sum : start + (index - start) ≡ index = omega (arith, from) in
        let grows = rises ids rising start (index - start) (omega (arith, sum, within)) in
        let there = ap (λ (k : ℕ). get_or ids k 0) sum in
        absurd (omega (arith, here, first, grows, there, some))
    | false ↦ λ e.
        let below : index < start = grind (arith, nat_tests) in
        let sum : index + (start - 1 - index) ≡ start - 1 = omega (arith, below) in
        let grows = rises ids rising index (start - 1 - index) (omega (arith, sum, below, start_within)) in
        let there = ap (λ (k : ℕ). get_or ids k 0) sum in
        let last = id_before (start - 1) (omega (arith, below)) in
        let next = rises ids rising (start - 1) 1 (omega (arith, below, start_within)) in
        let one : start - 1 + 1 ≡ start = omega (arith, below) in
        let after = ap (λ (k : ℕ). get_or ids k 0) one in
        is.gap (omega (arith, below)) (omega (arith, here, first, grows, there, last, next, after, some))
  ] refl
    where
      start_within : start < length ids
      start_within = let all = size in let more = is.each.some in omega (arith, all, more)

      zero_more : start + 0 ≡ start
      zero_more = omega arith

      first : first_id chain ≡ get_or ids start 0
      first = id_of_chain 0 ∙ ap (λ (k : ℕ). get_or ids k 0) zero_more

      here : get_or ids index 0 ≡ first_id chain - 1
      here = sym (get_or_default_zero ids index (first_id chain - 1) within) ∙ at

  pub chain_ids : ChainIds ids chain
  chain_ids = record {
    first = (let some = is.each.some in among 0 some);
    last = (let some = is.each.some in among (length chain - 1) (omega (arith, some)));
    begins = not_among;
  }
