-- The files have one end: their snapshots and consumers are those of one listing.
use Rattle.std.proofs.Common.{◌≡◌, ◌↔◌, inl, inr, ℕ, suc, ◌<◌, ◌≤◌, List, [], ◌∷◌, Contains, map, Option, None, Some, IsSome, Ok, refl, sym, ap, ◌∙◌, subst, arith}
use Rattle.std.specs.FinMap as finite
use Rattle.std.specs.List.{AllByRecursion}
use Rattle.std.specs.List.Sorted.{IsStrictlyIncreasing}
use Rattle.pm_store.specs.Files.{Files}
use Rattle.pm_snapshot.specs.Snapshot.{snapshot_in}
use Rattle.pm_snapshot.specs.Consumer.{consumer_in}
use Rattle.pm_snapshot.specs.declared.consumer.Consumer.{Consumer}
use Rattle.pm_snapshot.specs.declared.snapshot.Snapshot.{Snapshot}
use Rattle.pm_model_folder.specs.Meaning.{ConsumerAt, SnapshotAt}
use Rattle.pm_model_folder.specs.Paths.{consumer_path}
use Rattle.pm_paths.proofs.ListLemmas.{cases, here, more, nowhere}
use Rattle.pm_consumer_files.specs.declared.lines.NamedConsumer.{NamedConsumer}
use Rattle.pm_expire_end.specs.Expiry.{expire_end_of}
use Rattle.pm_snapshots.specs.AllCalls.{AreIdsOf, AreLinesOf}
use Rattle.pm_snapshots.specs.Lines.{line_of}
use Rattle.pm_snapshots.specs.Meaning.{IsLineAt}
use Rattle.pm_snapshots.specs.declared.line.SnapshotLine.{SnapshotLine}
use Rattle.pm_consumers.specs.AllCalls.{AreConsumersOf}
use Rattle.pm_read_expiry.specs.Times.{times_of, IsLeastNext}
use Rattle.pm_read_expiry.specs.declared.asking.Asking.{Asking}
use Rattle.pm_expire.specs.AllCalls.{IsEndIn}
use Rattle.pm_expire.proofs.ChainLemmas.{above_head, ids_of, rising_tail}

-- ---- lists

pub each_of : {X : Type 0} (P : X → Type 0) (xs : List X) → AllByRecursion P xs → (x : X) → Contains xs x → P x
each_of P [] all x c = absurd (nowhere x c)
each_of P (y ∷ xs) (one, all) x c = elim (cases y xs x c) as (λ _. P x) [
  | inl same ↦ subst P same one
  | inr later ↦ each_of P xs all x later
]

pub in_map : {X Y : Type 0} (f : X → Y) (xs : List X) (y : Y) → Contains (map f xs) y → (x : X) × Contains xs x × (f x ≡ y)
in_map {X} f [] y c = absurd (nowhere y c)
in_map {X} f (x ∷ xs) y c = elim (cases (f x) (map f xs) y c) as (λ _. (z : X) × Contains (x ∷ xs) z × (f z ≡ y)) [
  | inl same ↦ (x, here x xs, same)
  | inr later ↦ (let rest = in_map f xs y later in (rest.0, more x xs rest.0 rest.1, rest.2))
]

pub map_in : {X Y : Type 0} (f : X → Y) (xs : List X) (x : X) → Contains xs x → Contains (map f xs) (f x)
map_in f [] x c = absurd (nowhere x c)
map_in f (y ∷ xs) x c = elim (cases y xs x c) as (λ _. Contains (f y ∷ map f xs) (f x)) [
  | inl same ↦ subst (λ (z : _). Contains (f y ∷ map f xs) (f z)) same (here (f y) (map f xs))
  | inr later ↦ more (f y) (map f xs) (f x) (map_in f xs x later)
]

abbrev HasAll : List ℕ → List ℕ → Type 0
HasAll xs ys = (x : ℕ) → Contains xs x → Contains ys x

-- rising numbers with the same members are the same
one_head : (x y : ℕ) (xs ys : List ℕ) → IsStrictlyIncreasing (x ∷ xs) → IsStrictlyIncreasing (y ∷ ys) → HasAll (x ∷ xs) (y ∷ ys)
    → HasAll (y ∷ ys) (x ∷ xs) → x ≡ y
one_head x y xs ys rises climbs there back = elim (cases y ys x (there x (here x xs))) as (λ _. x ≡ y) [
  | inl same ↦ sym same
  | inr later ↦ elim (cases x xs y (back y (here y ys))) as (λ _. x ≡ y) [
    | inl same ↦ same
    | inr above ↦ (let low = above_head y ys climbs x later in
        let high = above_head x xs rises y above in
        omega (arith, low, high))
  ]
]

rest_has : (x y : ℕ) (xs ys : List ℕ) → x ≡ y → IsStrictlyIncreasing (x ∷ xs) → HasAll (x ∷ xs) (y ∷ ys) → HasAll xs ys
rest_has x y xs ys same rises there z c = elim (cases y ys z (there z (more x xs z c))) as (λ _. Contains ys z) [
  | inl first ↦ (let above = above_head x xs rises z c in absurd (omega (arith, above, first, same)))
  | inr later ↦ later
]

same_rising : (xs ys : List ℕ) → IsStrictlyIncreasing xs → IsStrictlyIncreasing ys → HasAll xs ys → HasAll ys xs → xs ≡ ys
same_rising [] [] rises climbs there back = refl
same_rising [] (y ∷ ys) rises climbs there back = absurd (nowhere y (back y (here y ys)))
same_rising (x ∷ xs) [] rises climbs there back = absurd (nowhere x (there x (here x xs)))
same_rising (x ∷ xs) (y ∷ ys) rises climbs there back =
    let same = one_head x y xs ys rises climbs there back in
    let rest = same_rising xs ys (rising_tail x xs rises) (rising_tail y ys climbs) (rest_has x y xs ys same rises there)
    (rest_has y x ys xs (sym same) climbs back) in
    ap (λ (x : ℕ). x ∷ xs) same ∙ ap (λ (xs : List ℕ). y ∷ xs) rest

-- ---- snapshots

one_snapshot : (f : Files) (id other : ℕ) (s t : Snapshot) → id ≡ other → SnapshotAt f id s → SnapshotAt f other t → s ≡ t
one_snapshot f id other s t same (bytes, at, reads) (bytes2, at2, reads2) =
    let here2 = subst (λ (id : ℕ). SnapshotAt f id t) (sym same) (bytes2, at2, reads2) in
    let bytes_are : Some bytes ≡ Some here2.0 = sym at ∙ here2.1 in
    let are : bytes ≡ here2.0 = cc in
    let snapshots : Ok s ≡ Ok t = sym reads ∙ ap (snapshot_in id) are ∙ here2.2 in
    cc

pub one_line : (f : Files) (l k : SnapshotLine) → l.id ≡ k.id → IsLineAt f l → IsLineAt f k → l ≡ k
one_line f l k same (s, at, is) (t, at2, is2) = is ∙ ap line_of (one_snapshot f l.id k.id s t same at at2) ∙ sym is2

same_lines : (f : Files) (ls ks : List SnapshotLine) → ids_of ls ≡ ids_of ks → AllByRecursion (IsLineAt f) ls → AllByRecursion (IsLineAt f) ks → ls ≡ ks
same_lines f [] [] same all each = refl
same_lines f [] (k ∷ ks) same all each = cc
same_lines f (l ∷ ls) [] same all each = cc
same_lines f (l ∷ ls) (k ∷ ks) same (one, all) (other, each) =
    let heads : l.id ≡ k.id = cc in
    let tails : ids_of ls ≡ ids_of ks = cc in
    ap (λ (l : SnapshotLine). l ∷ ls) (one_line f l k heads one other) ∙ ap (λ (ls : List SnapshotLine). k ∷ ls) (same_lines f ls ks tails all each)

same_members : (f : Files) (ids others : List ℕ) → AreIdsOf f ids → AreIdsOf f others → HasAll ids others
same_members f ids others are were id c = (were.exact id).1 ((are.exact id).0 c)

pub one_lines : (f : Files) (ls ks : List SnapshotLine) → AreLinesOf f ls → AreLinesOf f ks → ls ≡ ks
one_lines f ls ks are were =
    same_lines f ls ks (same_rising (ids_of ls) (ids_of ks) are.ids.rising were.ids.rising (same_members f (ids_of ls) (ids_of ks) are.ids were.ids)
    (same_members f (ids_of ks) (ids_of ls) were.ids are.ids)) are.each were.each

-- ---- consumers

one_consumer : (f : Files) (name other : List ℕ) (c d : Consumer) → name ≡ other → ConsumerAt f name c → ConsumerAt f other d → c ≡ d
one_consumer f name other c d same (bytes, at, reads) (bytes2, at2, reads2) =
    let here2 = subst (λ (name : List ℕ). ConsumerAt f name d) (sym same) (bytes2, at2, reads2) in
    let bytes_are : Some bytes ≡ Some here2.0 = sym at ∙ here2.1 in
    let are : bytes ≡ here2.0 = cc in
    let consumers : Ok c ≡ Ok d = sym reads ∙ ap consumer_in are ∙ here2.2 in
    cc

-- each consumer of one listing is in another with its number
abbrev HasNext : List NamedConsumer → ℕ → Type 0
HasNext cs next = (c : NamedConsumer) × Contains cs c × (c.consumer.next ≡ next)

pub has_next : (f : Files) (cs ds : List NamedConsumer) → AreConsumersOf f cs → AreConsumersOf f ds → (c : NamedConsumer) → Contains cs c
    → HasNext ds c.consumer.next
has_next f cs ds are were c has =
    let name_of : NamedConsumer → List ℕ = λ c. c.name in
    let there = (were.exact c.name).1 ((are.exact c.name).0 (map_in name_of cs c has)) in
    let found = in_map name_of ds c.name there in
    let at = each_of (λ (c : NamedConsumer). ConsumerAt f c.name c.consumer) cs are.each c has in
    let other = each_of (λ (c : NamedConsumer). ConsumerAt f c.name c.consumer) ds were.each found.0 found.1 in
    (found.0, found.1, ap (λ (c : Consumer). c.next) (one_consumer f found.0.name c.name found.0.consumer c.consumer found.2 other at))

abbrev GoesOver : List NamedConsumer → List NamedConsumer → Type 0
GoesOver cs ds = (c : NamedConsumer) → Contains cs c → HasNext ds c.consumer.next

none_in : (cs ds : List NamedConsumer) (X : Type 0) → GoesOver cs ds → (c : NamedConsumer) → Contains cs c → ds ≡ [] → X
none_in cs ds X over c has none =
    let found = over c has in
    absurd (nowhere found.0 (subst (λ (ds : List NamedConsumer). Contains ds found.0) none found.1))

least_to : (cs ds : List NamedConsumer) (n m : ℕ) → GoesOver cs ds → IsLeastNext cs (Some n) → IsLeastNext ds (Some m) → m ≤ n
least_to cs ds n m over ((c, has, is), all) (one, most) =
    let found = over c has in
    let low = most found.0 found.1 in
    let same = found.2 in
    omega (arith, low, same, is)

pub one_next : (cs ds : List NamedConsumer) (o p : Option ℕ) → GoesOver cs ds → GoesOver ds cs → IsLeastNext cs o → IsLeastNext ds p → o ≡ p
one_next cs ds None None over back least other = refl
one_next cs ds None (Some m) over back none ((d, has, is), all) = none_in ds cs (None ≡ Some m) back d has none
one_next cs ds (Some n) None over back ((c, has, is), all) none = none_in cs ds (Some n ≡ None) over c has none
one_next cs ds (Some n) (Some m) over back least other =
    let low = least_to cs ds n m over least other in
    let high = least_to ds cs m n back other least in
    let same : n ≡ m = omega (arith, low, high) in
    ap Some same

pub one_end : (a : Asking) (f : Files) (end other : ℕ) → IsEndIn a f end → IsEndIn a f other → end ≡ other
one_end a f end other one two =
    let lines = one_lines f one.lines two.lines one.are_lines two.are_lines in
    let next = one_next one.consumers two.consumers one.next two.next (has_next f one.consumers two.consumers one.are_consumers two.are_consumers)
    (has_next f two.consumers one.consumers two.are_consumers one.are_consumers) one.is_next two.is_next in
    one.is ∙ ap (λ (lines : List SnapshotLine). expire_end_of (times_of lines) a.keep a.now one.next) lines
    ∙ ap (λ (next : Option ℕ). expire_end_of (times_of two.lines) a.keep a.now next) next ∙ sym two.is
