-- Data that are taken out of a list, one index after another.
use Rattle.std.proofs.Common.{◌≡◌, ◌≢◌, ℕ, ◌+◌, ◌<◌, List, [], ◌∷◌, ◌++◌, length, get_or, drop, map, refl, sym, ap, ◌∙◌, append_assoc, add-one}
use Rattle.std.proofs.Math.ListN.{set}
use Rattle.std.proofs.Math.Seq.{drop-cons}
use Rattle.std.proofs.lemmas.List.{get_or-map, get_or-set_other, length-set, map-set, map_push}
use Rattle.std.specs.List.{AllByRecursion}
use Rattle.pm_avro_data.specs.Datum.{Data, null, view}
use Rattle.pm_avro_data.specs.declared.datum.Datum.{Datum}
use Rattle.pm_record.specs.Record.{AreApart, AreBelow, at_indexes}

-- what stands at other indexes stays
at_other : (i : ℕ) (is : List ℕ) (ds : List Data) (e : Data) → AllByRecursion (λ j. i ≢ j) is → at_indexes is (set ds i e) ≡ at_indexes is ds
at_other i [] ds e apart = refl
at_other i (j ∷ is) ds e apart =
    let here : get_or (set ds i e) j null ≡ get_or ds j null = get_or-set_other ds i j e null (λ q. apart.0 (sym q)) in
    let later = at_other i is ds e apart.1 in
    cc

-- The datum at the first index that is left comes after those that were taken, and another stands in its place.
pub taken_next : (is : List ℕ) (k : ℕ) (left : List Datum) (value other : Datum) (taken : List Datum) (total : List Data)
    → k < length is → value ≡ get_or left (get_or is k 0) value → AreApart (drop k is) → AreBelow (drop k is) (length left)
    → map view taken ++ at_indexes (drop k is) (map view left) ≡ total
    → AreApart (drop (k + 1) is) × AreBelow (drop (k + 1) is) (length (set left (get_or is k 0) other))
    × (map view (taken ++ value ∷ []) ++ at_indexes (drop (k + 1) is) (map view (set left (get_or is k 0) other)) ≡ total)
taken_next is k left value other taken total lt here apart below so_far =
    let i = get_or is k 0 in
    let rest = drop (k + 1) is in
    let cut : drop k is ≡ i ∷ rest = rw (add-one, drop-cons is k 0 lt) refl in
    let apart : AreApart (i ∷ rest) = rw cut at apart in
    let below : AreBelow (i ∷ rest) (length left) = rw cut at below in
    let before : map view taken ++ (get_or (map view left) i null ∷ at_indexes rest (map view left)) ≡ total = rw cut at so_far in
    let value_at : get_or (map view left) i null ≡ view value = get_or-map view left i value null below.0 ∙ ap view (sym here) in
    let same : at_indexes rest (map view (set left i other)) ≡ at_indexes rest (map view left) =
    ap (at_indexes rest) (map-set view left i other) ∙ at_other i rest (map view left) (view other) apart.0 in
    let pushed : map view (taken ++ value ∷ []) ≡ map view taken ++ view value ∷ [] = map_push view taken value in
    let joined = append_assoc (map view taken) (view value ∷ []) (at_indexes rest (map view left)) in
    (apart.1, rw (length-set left i other) below.1, cc)
