-- What an expiry gives back: all that goes with the snapshots below its end, and nothing else.
use Rattle.std.proofs.Common.{◌≡◌, inl, inr, ℕ, zero, suc, ◌+◌, ◌-◌, ◌<◌, ◌≤◌, max, ℤ, List, [], ◌∷◌, ◌++◌, Contains, length, Option, None, Some, IsSome, refl, sym, ◌∙◌, subst, arith}
use Rattle.std.specs.FinMap as map
use Rattle.std.specs.List.{range_with_len}
use Rattle.std.proofs.lemmas.Bool.{cases_lt}
use Rattle.std.proofs.lemmas.List.Elements.{Contains-append_cases, Contains-append_left, Contains-append_right}
use Rattle.pm_store.specs.Files.{Files}
use Rattle.pm_remove.specs.Meaning.{IsWithout}
use Rattle.pm_schema.specs.declared.schema.TableSchema.{TableSchema}
use Rattle.pm_snapshot.specs.Names.{greatest, snapshot_name}
use Rattle.pm_model_folder.specs.Commits.{Names}
use Rattle.pm_model_folder.specs.Meaning.{HasSnapshotAt}
use Rattle.pm_model_folder.specs.Paths.{floor_path, snapshot_file, snapshot_path}
use Rattle.pm_model_folder.proofs.BesideLemmas.{floor-snapshot, other-floor}
use Rattle.pm_model_folder.proofs.Facts.{some-none}
use Rattle.pm_model_expiry.specs.Removals.{floor_paths, origin_paths, snapshot_paths}
use Rattle.pm_paths.proofs.ListLemmas.{cases, here, more, nowhere}
use Rattle.pm_expire_end.specs.declared.keep.Keep.{Keep}
use Rattle.pm_expire_end.specs.Expiry.{IsExpireEnd, chosen, expire_end_of, first_id, forced, highest, last_id}
use Rattle.pm_snapshots.specs.AllCalls.{AreLinesOf}
use Rattle.pm_snapshots.specs.declared.line.SnapshotLine.{SnapshotLine}
use Rattle.pm_read_expiry.specs.Times.{times_of}
use Rattle.pm_read_expiry.specs.declared.asking.Asking.{Asking}
use Rattle.pm_expire.specs.AllCalls.{announced, AreRemovalsOf, HasGivenBack, IsEndIn, IsFirst, IsGivenBack, its_file, its_floor, its_snapshot}
use Rattle.pm_expire.proofs.AnnouncedLemmas as floors
use Rattle.pm_expire.proofs.ChainLemmas.{ids_in, same_ids, snapshot_at}
use Rattle.pm_expire.proofs.FoundLemmas.{item_at}
use Rattle.pm_expire.proofs.OneEndLemmas.{in_map, map_in}

-- ---- numbers one after another

range_has : (a n id : ℕ) → a ≤ id → id < a + n → Contains (range_with_len a n) id
range_has a zero id low high = absurd (omega (arith, low, high))
range_has a (suc n) id low high = elim (cases_lt a id) as (λ _. Contains (a ∷ range_with_len (a + 1) n) id) [
  | inl above ↦ more a (range_with_len (a + 1) n) id (range_has (a + 1) n id (omega (arith, above)) (omega (arith, high)))
  | inr at ↦
      let same : a ≡ id = omega (arith, low, at) in
      subst (λ (k : ℕ). Contains (a ∷ range_with_len (a + 1) n) k) same (here a (range_with_len (a + 1) n))
]

range_bounds : (a n id : ℕ) → Contains (range_with_len a n) id → (a ≤ id) × (id < a + n)
range_bounds a zero id c = absurd (nowhere id c)
range_bounds a (suc n) id c = elim (cases a (range_with_len (a + 1) n) id c) as (λ _. (a ≤ id) × (id < a + suc n)) [
  | inl same ↦ (omega (arith, same), omega (arith, same))
  | inr later ↦
      let bounds = range_bounds (a + 1) n id later in
      let low = bounds.0 in
      let high = bounds.1 in
      (omega (arith, low), omega (arith, high))
]

-- ---- what is named is there

pub named_there : (f : Files) (s : TableSchema) (id : ℕ) (path : List ℕ) → 1 ≤ id → Names f s id path → HasSnapshotAt f s id
named_there f s id path after (x, c, ((bytes, at, reads), has), named) =
    snapshot_at f s id after (subst (λ (o : Option (List ℕ)). IsSome o) (sym at) refl)

absent-or-there : (f : Files) (q : List ℕ) (o : Option (List ℕ)) → map.get f q ≡ o → (IsSome (map.get f q) → ⊥) → map.get f q ≡ None
absent-or-there f q None is none = is
absent-or-there f q (Some bytes) is none = absurd (none (subst (λ (o : Option (List ℕ)). IsSome o) (sym is) refl))

-- ---- the paths that are removed

module _ (f : Files) (s : TableSchema) (first end : ℕ) (is_first : IsFirst f s first) (some : first < end) (paths : List (List ℕ))
    (are : AreRemovalsOf s f first end paths) where
  abbrev later : List (List ℕ)
  later = are.dropped ++ floor_paths are.floors

  abbrev all : List (List ℕ)
  all = origin_paths s.origin ++ (snapshot_paths first (end - first) ++ later)

  origin_goes : (path : List ℕ) (o : Option (List ℕ)) → s.origin ≡ o → Contains (origin_paths o) path → IsGivenBack s f end path
  origin_goes path None is c = absurd (nowhere path c)
  origin_goes path (Some name) is c = elim (cases (snapshot_file name) [] path c) as (λ _. IsGivenBack s f end path) [
    | inl same ↦ its_snapshot zero (omega (arith, some)) (name, is, sym same)
    | inr none ↦ absurd (nowhere path none)
  ]

  snapshot_goes : (path : List ℕ) (id : ℕ) → 1 ≤ id → id < end → path ≡ snapshot_path id → IsGivenBack s f end path
  snapshot_goes path zero after below is = absurd (omega (arith, after))
  snapshot_goes path (suc id) after below is = its_snapshot (suc id) below is

  snapshots_go : (path : List ℕ) → Contains (snapshot_paths first (end - first)) path → IsGivenBack s f end path
  snapshots_go path c =
      let found = in_map snapshot_path (range_with_len first (end - first)) path c in
      let bounds = range_bounds first (end - first) found.0 found.1 in
      let low = bounds.0 in
      let high = bounds.1 in
      let after = is_first.after_origin in
      snapshot_goes path found.0 (omega (arith, after, low)) (omega (arith, some, high)) (sym found.2)

  file_goes : (path : List ℕ) → (id : ℕ) × (first ≤ id) × (id < end) × Names f s id path × (Names f s end path → ⊥) → IsGivenBack s f end path
  file_goes path (id, low, below, names, none) =
      let after = is_first.after_origin in
      its_file id (omega (arith, after, low)) below names none

  floor_goes : (path : List ℕ) → Contains (floor_paths are.floors) path → IsGivenBack s f end path
  floor_goes path c =
      let found = in_map floor_path are.floors path c in
      its_floor found.0 ((are.listed found.0).0 found.1).0 (sym found.2)

  -- each of them goes with the snapshots below the end
  pub goes : (path : List ℕ) → Contains paths path → IsGivenBack s f end path
  goes path c =
      elim (Contains-append_cases (origin_paths s.origin) (snapshot_paths first (end - first) ++ later) path (subst (λ (ps : List (List ℕ)). Contains ps path) are.is c)) as (λ _. IsGivenBack s f end path) [
        | inl origin ↦ origin_goes path s.origin refl origin
        | inr after ↦ elim (Contains-append_cases (snapshot_paths first (end - first)) later path after) as (λ _. IsGivenBack s f end path) [
          | inl snapshot ↦ snapshots_go path snapshot
          | inr rest ↦ elim (Contains-append_cases are.dropped (floor_paths are.floors) path rest) as (λ _. IsGivenBack s f end path) [
            | inl file ↦ file_goes path ((are.named path).0 file)
            | inr floor ↦ floor_goes path floor
          ]
        ]
      ]

  -- ---- and what goes is one of them, or was absent

  module _ (g : Files) (without : IsWithout (announced f end) paths g) where
    removed : (path : List ℕ) → Contains all path → map.get g path ≡ None
    removed path c = without.gone path (subst (λ (ps : List (List ℕ)). Contains ps path) (sym are.is) c)

    still-absent : (path : List ℕ) (o : Option (List ℕ)) → map.get g path ≡ o → map.get (announced f end) path ≡ None → map.get g path ≡ None
    still-absent path None is absent = is
    still-absent path (Some bytes) is absent =
        without.others path (λ c. some-none (map.get g path) (subst (λ (o : Option (List ℕ)). IsSome o) (sym is) refl) (without.gone path c)) ∙ absent

    origin_gone : (name path : List ℕ) → s.origin ≡ Some name → path ≡ snapshot_file name → map.get g path ≡ None
    origin_gone name path named is = removed path
        (Contains-append_left (origin_paths s.origin) (snapshot_paths first (end - first) ++ later) path
        (subst (λ (o : Option (List ℕ)). Contains (origin_paths o) path) (sym named)
        (subst (λ (p : List ℕ). Contains (snapshot_file name ∷ []) p) (sym is) (here (snapshot_file name) []))))

    snapshot_gone : (k : ℕ) → suc k < end → map.get g (snapshot_path (suc k)) ≡ None
    snapshot_gone k below = elim (cases_lt (suc k) first) as (λ _. map.get g (snapshot_path (suc k)) ≡ None) [
      | inl before ↦ still-absent (snapshot_path (suc k)) (map.get g (snapshot_path (suc k))) refl
          (floors.others f end (snapshot_path (suc k)) (λ same. floor-snapshot end (snapshot_name (suc k)) (sym same))
          ∙ absent-or-there f (snapshot_path (suc k)) (map.get f (snapshot_path (suc k))) refl (is_first.none (suc k) (omega arith) before))
      | inr from ↦ removed (snapshot_path (suc k))
          (Contains-append_right (origin_paths s.origin) (snapshot_paths first (end - first) ++ later) (snapshot_path (suc k))
          (Contains-append_left (snapshot_paths first (end - first)) later (snapshot_path (suc k))
          (map_in snapshot_path (range_with_len first (end - first)) (suc k) (range_has first (end - first) (suc k) from (omega (arith, from, below))))))
    ]

    among-later : (path : List ℕ) → Contains later path → map.get g path ≡ None
    among-later path c = removed path
        (Contains-append_right (origin_paths s.origin) (snapshot_paths first (end - first) ++ later) path
        (Contains-append_right (snapshot_paths first (end - first)) later path c))

    file_gone : (id : ℕ) (path : List ℕ) → 1 ≤ id → id < end → Names f s id path → (Names f s end path → ⊥) → map.get g path ≡ None
    file_gone id path after below names none = elim (cases_lt id first) as (λ _. map.get g path ≡ None) [
      | inl before ↦ absurd (is_first.none id after before (named_there f s id path after names))
      | inr from ↦ among-later path (Contains-append_left are.dropped (floor_paths are.floors) path ((are.named path).1 (id, from, below, names, none)))
    ]

    module _ (high : end ≤ greatest) where
      floor_gone : (n : ℕ) (o : Option (List ℕ)) → n < end → map.get f (floor_path n) ≡ o → map.get g (floor_path n) ≡ None
      floor_gone n None below is = still-absent (floor_path n) (map.get g (floor_path n)) refl
          (floors.others f end (floor_path n) (other-floor n end (omega (arith, below, high)) high (λ (same : n ≡ end). omega (arith, below, same))) ∙ is)
      floor_gone n (Some bytes) below is = among-later (floor_path n)
          (Contains-append_right are.dropped (floor_paths are.floors) (floor_path n)
          (map_in floor_path are.floors n ((are.listed n).1 (below, subst (λ (o : Option (List ℕ)). IsSome o) (sym is) refl))))

      gone : (path : List ℕ) → IsGivenBack s f end path → map.get g path ≡ None
      gone path (its_snapshot zero below (name, named, is)) = origin_gone name path named is
      gone path (its_snapshot (suc k) below is) = subst (λ (p : List ℕ). map.get g p ≡ None) (sym is) (snapshot_gone k below)
      gone path (its_file id after below names none) = file_gone id path after below names none
      gone path (its_floor n below is) = subst (λ (p : List ℕ). map.get g p ≡ None) (sym is) (floor_gone n (map.get f (floor_path n)) below refl)

      pub given_back : HasGivenBack s f end g
      given_back = record { gone = gone; others = λ path none. without.others path (λ c. none (goes path c)) }

-- ---- an end that was chosen may stand in a name

-- what the law of ends says
abbrev pub EndIs : Type 0
EndIs = (times : List (ℕ × ℤ)) (keep : Keep) (now : ℤ) (next : Option ℕ) → IsExpireEnd times keep now next (expire_end_of times keep now next)

to_last : (last : ℕ) (keep : Keep) (next : Option ℕ) → 1 ≤ keep.min → highest last keep next ≤ last
to_last last keep None some = omega (arith, some)
to_last last keep (Some n) some = omega (arith, some)

end_to : (times : List (ℕ × ℤ)) (keep : Keep) (now : ℤ) (next : Option ℕ) (end : ℕ) → 1 ≤ keep.min → IsExpireEnd times keep now next end
    → end ≤ max (first_id times) (last_id times)
end_to times keep now next end some (chosen less is) =
    let top = is.to_high in
    let high = to_last (last_id times) keep next some in
    omega (arith, top, high)
end_to times keep now next end some (forced most is) =
    let high = to_last (last_id times) keep next some in
    omega (arith, is, high)

edges : (f : Files) (lines : List SnapshotLine) → AreLinesOf f lines → (first_id (times_of lines) ≤ greatest) × (last_id (times_of lines) ≤ greatest)
edges f [] are = (omega arith, omega arith)
edges f (l ∷ lines) are = (low (first_id times) (item_at times 0 (omega arith)), low (last_id times) (item_at times (length times - 1) (omega arith)))
  where
    times : List (ℕ × ℤ)
    times = times_of (l ∷ lines)

    low : (id : ℕ) → Contains (ids_in times) id → id ≤ greatest
    low id c = ((are.ids.exact id).0 (subst (λ (ids : List ℕ). Contains ids id) (sym (same_ids (l ∷ lines))) c)).1

pub end_within : EndIs → (a : Asking) (f : Files) (end : ℕ) → 1 ≤ a.keep.min → IsEndIn a f end → end ≤ greatest
end_within law a f end some is =
    let bounds = edges f is.lines is.are_lines in
    let low = bounds.0 in
    let high = bounds.1 in
    let most = end_to (times_of is.lines) a.keep a.now is.next end some
    (subst (λ (n : ℕ). IsExpireEnd (times_of is.lines) a.keep a.now is.next n) (sym is.is) (law (times_of is.lines) a.keep a.now is.next)) in
    omega (arith, low, high, most)
