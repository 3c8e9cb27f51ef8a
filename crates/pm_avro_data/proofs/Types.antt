-- What is a datum of a type has the type.
use Rattle.std.proofs.Common.{◌≡◌, ℕ, zero, suc, ◌+◌, ◌*◌, ◌^◌, ◌<◌, ◌≤◌, ℤ, pos, negsuc}
use Rattle.std.proofs.Common.{List, [], ◌∷◌, ◌++◌, length, sym, ap, subst, inl, inr, arith}
use Rattle.std.specs.List.{AllByRecursion, flat_map}
use Rattle.std.proofs.lemmas.Nat.{pow-add, pow_pos, mul-le}
use Rattle.pm_avro_schema.specs.Avro as types
use Rattle.pm_avro_schema.specs.Avro.{Avro, Fields, no_fields, field, Branches, no_branches, branch}
use Rattle.pm_avro_data.specs.Datum.{Data, null, boolean, int, long, bytes, text, record_of, array_of}
use Rattle.pm_avro_data.specs.Datum.{map_of, union_of, Items, no_items, item, items, entries}
use Rattle.pm_avro_data.specs.Number.{IsNumber, IsInt}
use Rattle.pm_avro_data.specs.IsDatum.{IsEntry, AreItems, IsBody, AreBlocks, IsBlocked, IsDatum, AreFields, IsBranch}
use Rattle.pm_avro_data.specs.HasType.{HasType, HaveTypes, HasBranch}
use Rattle.pm_avro_data.proofs.Follows.{groups_shorter}
use Rattle.pm_avro_data.proofs.Readings.{above_group}

-- a number that its groups hold
number_below : (p top : ℕ) (source : List ℕ) (n : ℕ) (rest : List ℕ) → IsNumber (suc p) top n source rest → n < (top + 1) * 2 ^ (7 * p)
number_below p top [] n rest h = absurd h.groups
number_below zero top (b ∷ source) n rest h =
    elim h.groups [
      | inl g ↦
          let len : length (b ∷ source) ≡ length rest + 1 = omega (arith, ap length g.2) in
          let small : b ≤ top = h.last len in
          omega (arith, g.1)
      | inr g ↦ absurd (omega (arith, groups_shorter source g.2.0 rest g.2.2, h.short))
    ]
number_below (suc p) top (b ∷ source) n rest h =
    let bits : 7 * suc p ≡ 7 * p + 7 = omega arith in
    let some = mul-le 1 1 (top + 1) (2 ^ (7 * p)) (omega arith) (omega (arith, pow_pos (7 * p))) in
    elim h.groups [
      | inl g ↦ rw (bits, pow-add 2 (7 * p) 7) (omega (arith, g.0, g.1))
      | inr g ↦
          let high = number_below p top source g.2.0 rest (above_group p top b source n rest h g) in
          rw (bits, pow-add 2 (7 * p) 7) (omega (arith, g.1, g.2.1))
    ]

place_below : (k : ℕ) (source rest : List ℕ) → IsInt (pos k) source rest → k < 2 ^ 31
place_below k source rest h = omega (arith, number_below 4 15 source (2 * k) rest h)

All-append : {X : Type 0} (Q : X → Type 0) (xs ys : List X) → AllByRecursion Q xs → AllByRecursion Q ys → AllByRecursion Q (xs ++ ys)
All-append Q [] ys p q = q
All-append Q (x ∷ xs) ys p q = (p.0, All-append Q xs ys p.1 q)

module _ {X : Type 0} (P : X → List ℕ → List ℕ → Type 0) (Q : X → Type 0) (each : (x : X) (source rest : List ℕ) → P x source rest → Q x) where
  items_have : (xs : List X) (source rest : List ℕ) → AreItems P xs source rest → AllByRecursion Q xs
  items_have [] source rest h = tt
  items_have (x ∷ xs) source rest h = (each x source h.0 h.1, items_have xs h.0 rest h.2)

  body_has : (count : ℤ) (xs : List X) (source rest : List ℕ) → IsBody P count xs source rest → AllByRecursion Q xs
  body_has (pos n) xs source rest h = items_have xs source rest h.1
  body_has (negsuc n) xs source rest h = items_have xs h.1.start rest h.1.each

  blocks_have : (blocks : List (List X)) (source rest : List ℕ) → AreBlocks P blocks source rest → AllByRecursion Q (flat_map (λ block. block) blocks)
  blocks_have [] source rest h = tt
  blocks_have (xs ∷ blocks) source rest h = All-append Q xs (flat_map (λ block. block) blocks) (body_has h.1.count xs h.1.left h.0 h.1.body) (blocks_have blocks h.0 rest h.2)

  blocked_have : (xs : List X) (source rest : List ℕ) → IsBlocked P xs source rest → AllByRecursion Q xs
  blocked_have xs source rest h = subst (AllByRecursion Q) (sym h.1) (blocks_have h.0 source rest h.2)

mutual
  pub datum_typed : (t : Avro) (d : Data) (source rest : List ℕ) → IsDatum t d source rest → HasType t d
  datum_typed types.null null source rest h = tt
  datum_typed types.boolean (boolean b) source rest h = tt
  datum_typed types.int (int z) source rest h = tt
  datum_typed types.long (long z) source rest h = tt
  datum_typed types.bytes (bytes bs) source rest h = tt
  datum_typed types.text (text bs) source rest h = tt
  datum_typed (types.record_of fs) (record_of ds) source rest h = fields_typed fs ds source rest h
  datum_typed (types.array_of t) (array_of ds) source rest h = blocked_have (IsDatum t) (HasType t) (datum_typed t) (items ds) source rest h
  datum_typed (types.map_of t) (map_of es) source rest h =
      blocked_have (IsEntry (IsDatum t)) (λ e. HasType t e.1) (λ e source rest h. datum_typed t e.1 h.0 rest h.2) (entries es) source rest h
  datum_typed (types.union_of ts) (union_of k d) source rest h = (place_below k source h.0 h.1, branch_typed ts k d h.0 rest h.2)
  datum_typed t d source rest h = absurd h

  fields_typed : (fs : Fields) (ds : Items) (source rest : List ℕ) → AreFields fs ds source rest → HaveTypes fs ds
  fields_typed no_fields no_items source rest h = tt
  fields_typed (field name t fs) (item d ds) source rest h = (datum_typed t d source h.0 h.1, fields_typed fs ds h.0 rest h.2)
  fields_typed fs ds source rest h = absurd h

  branch_typed : (ts : Branches) (k : ℕ) (d : Data) (source rest : List ℕ) → IsBranch ts k d source rest → HasBranch ts k d
  branch_typed no_branches k d source rest h = absurd h
  branch_typed (branch t ts) zero d source rest h = datum_typed t d source rest h
  branch_typed (branch t ts) (suc k) d source rest h = branch_typed ts k d source rest h
