-- No spelling of a datum is shorter than what is written for it.
use Rattle.std.proofs.Common.{◌≡◌, ℕ, zero, suc, ◌+◌, ◌-◌, ◌*◌, ◌/◌, ◌^◌, ◌<◌, ◌≤◌, ℤ, pos, negsuc, List}
use Rattle.std.proofs.Common.{[], ◌∷◌, ◌++◌, length, refl, sym, ap, ◌∙◌, append_assoc, inl, inr, arith}
use Rattle.std.specs.List.{flat_map}
use Rattle.std.proofs.lemmas.Bool.{cases_lt}
use Rattle.std.proofs.lemmas.List.{length-append}
use Rattle.std.proofs.lemmas.List.Concat.{flat_map-append}
use Rattle.std.proofs.lemmas.Nat.{pow-add}
use Rattle.std.proofs.Math.Pow.{pow_mono}
use Rattle.pm_avro_schema.specs.Avro as types
use Rattle.pm_avro_schema.specs.Avro.{Avro, Fields, no_fields, field, Branches, no_branches, branch}
use Rattle.pm_avro_data.specs.Datum.{Data, null, boolean, int, long, bytes, text, record_of, array_of, map_of}
use Rattle.pm_avro_data.specs.Datum.{union_of, Items, no_items, item, items, Entries, no_entries, entry, entries}
use Rattle.pm_avro_data.specs.Number.{zigzag, AreGroups, IsNumber}
use Rattle.pm_avro_data.specs.IsDatum.{IsBytes, IsEntry, AreItems, IsBody, IsBlock}
use Rattle.pm_avro_data.specs.IsDatum.{AreBlocks, IsBlocked, IsDatum, AreFields, IsBranch}
use Rattle.pm_avro_data.specs.Writing.{groups, integer, sized, blocked, encoding, items_encoding, entries_encoding}
use Rattle.pm_avro_data.proofs.Follows.{groups_shorter}
use Rattle.pm_avro_data.proofs.Encodings.{groups_zero, groups_low, groups_high, groups_some, groups_few}

-- ---- numbers

groups_least : (source : List ℕ) (n : ℕ) (rest : List ℕ) (more : ℕ) → AreGroups n source rest → length (groups more n) + length rest ≤ length source
groups_least [] n rest more h = absurd h
groups_least (b ∷ source) n rest more (inl h) =
    let low : n < 128 = omega (arith, h.0, h.1) in
    rw (groups_low more n low) (omega (arith, ap length h.2))
groups_least (b ∷ source) n rest zero (inr h) = rw (groups_zero n) (omega (arith, groups_shorter source h.2.0 rest h.2.2))
groups_least (b ∷ source) n rest (suc more) (inr h) =
    elim (cases_lt n 128) [
      | inl low ↦ rw (groups_low (suc more) n low) (omega (arith, groups_shorter source h.2.0 rest h.2.2))
      | inr high ↦
          let above : n / 128 ≡ h.2.0 = omega (arith, h.0, h.1, h.2.1) in
          rw (groups_high more n high, above) (omega (arith, groups_least source h.2.0 rest more h.2.2))
    ]

integer_least : (most top : ℕ) (z : ℤ) (source rest : List ℕ) → IsNumber most top (zigzag z) source rest → length (integer z) + length rest ≤ length source
unfolding integer
integer_least most top z source rest h = groups_least source (zigzag z) rest 9 h.groups

sized_least : (bs source rest : List ℕ) → IsBytes bs source rest → length (sized bs) + length rest ≤ length source
sized_least bs source rest h =
    omega (arith, integer_least 10 1 (pos (length bs)) source (bs ++ rest) h, length-append (integer (pos (length bs))) bs, length-append bs rest)

-- ---- how long a number is

groups_most : (more n : ℕ) → length (groups more n) ≤ more + 1
groups_most zero n = rw (groups_zero n) (omega arith)
groups_most (suc more) n =
    elim (cases_lt n 128) [
      | inl low ↦ rw (groups_low (suc more) n low) (omega arith)
      | inr high ↦ rw (groups_high more n high) (omega (arith, groups_most more (n / 128)))
    ]

-- a number that needs fewer groups than it may have is bounded by them
groups_bound : (more n : ℕ) → length (groups more n) ≤ more → n < 2 ^ (7 * length (groups more n))
groups_bound zero n short = absurd (omega (arith, ap length (groups_zero n)))
groups_bound (suc more) n short =
    elim (cases_lt n 128) [
      | inl low ↦ rw (groups_low (suc more) n low) (omega arith)
      | inr high ↦
          let len = ap length (groups_high more n high) in
          let fewer = groups_bound more (n / 128) (omega arith) in
          let bits : 7 * suc (length (groups more (n / 128))) ≡ 7 * length (groups more (n / 128)) + 7 = omega arith in
          rw (groups_high more n high) (rw (bits, pow-add 2 (7 * length (groups more (n / 128))) 7) (omega arith))
    ]

-- two numbers take together as many groups as their sum
sum_least : (a b : ℕ) → length (groups 9 (a + b)) ≤ length (groups 9 a) + length (groups 9 b)
sum_least a b =
    let p = length (groups 9 a) in
    let q = length (groups 9 b) in
    let some_a = groups_some 9 a in
    let some_b = groups_some 9 b in
    elim (cases_lt (p + q) 10) [
      | inl few ↦
          let k = p + q - 1 in
          let bound_a = groups_bound 9 a (omega arith) in
          let bound_b = groups_bound 9 b (omega arith) in
          let le_a : 7 * p ≤ 7 * k = omega arith in
          let le_b : 7 * q ≤ 7 * k = omega arith in
          let wide_a : 2 ^ (7 * p) ≤ 2 ^ (7 * k) = pow_mono le_a in
          let wide_b : 2 ^ (7 * q) ≤ 2 ^ (7 * k) = pow_mono le_b in
          let room : a + b < 2 ^ (7 * k + 7) = omega (arith, pow-add 2 (7 * k) 7) in
          omega (arith, groups_few k 9 (a + b) room)
      | inr many ↦ omega (arith, groups_most 9 (a + b))
    ]

next_least : (n : ℕ) → length (groups 9 (n + 1)) ≤ length (groups 9 n) + 1
next_least n = omega (arith, sum_least n 1, ap length (groups_low 9 1 (omega arith)))

-- ---- items and blocks

module _ {X : Type 0} (P : X → List ℕ → List ℕ → Type 0) (write : X → List ℕ)
    (each : (x : X) (source rest : List ℕ) → P x source rest → length (write x) + length rest ≤ length source) where
  items_least : (xs : List X) (source rest : List ℕ) → AreItems P xs source rest → length (flat_map write xs) + length rest ≤ length source
  items_least [] source rest h = omega (arith, ap length h)
  items_least (x ∷ xs) source rest h =
      omega (arith, length-append (write x) (flat_map write xs), each x source h.0 h.1, items_least xs h.0 rest h.2)

  body_least : (count : ℤ) (xs : List X) (source left rest : List ℕ) → length (groups 9 (zigzag count)) + length left ≤ length source → IsBody P count xs left rest
      → length (groups 9 (2 * length xs)) + length (flat_map write xs) + length rest ≤ length source
  body_least (pos n) xs source left rest number h =
      let len : 2 * length xs ≡ 2 * n = omega (arith, h.0) in
      rw len (omega (arith, items_least xs left rest h.1))
  body_least (negsuc n) xs source left rest number h =
      let len : 2 * length xs ≡ 2 * n + 1 + 1 = omega (arith, h.0) in
      rw len (omega (arith, next_least (2 * n + 1), groups_shorter left _ h.1.start h.1.number.groups, items_least xs h.1.start rest h.1.each))

  block_least : (xs : List X) (source rest : List ℕ) → IsBlock P xs source rest → length (groups 9 (2 * length xs)) + length (flat_map write xs) + length rest ≤ length source
  block_least xs source rest h = body_least h.count xs source h.left rest (groups_least source (zigzag h.count) h.left 9 h.number.groups) h.body

  -- what the count of n items takes
  cost : ℕ → ℕ
  cost zero = 0
  cost (suc n) = length (groups 9 (2 * suc n))

  cost_least : (n : ℕ) → cost n ≤ length (groups 9 (2 * n))
  unfolding cost
  cost_least zero = omega arith
  cost_least (suc n) = omega arith

  cost_sum : (a b : ℕ) → cost (a + b) ≤ length (groups 9 (2 * a)) + cost b
  unfolding cost
  cost_sum a zero =
      let e : a + 0 ≡ a = omega arith in
      rw e (omega (arith, cost_least a))
  cost_sum a (suc b) =
      let e : 2 * (a + suc b) ≡ 2 * a + 2 * suc b = omega arith in
      let c : length (groups 9 (2 * (a + suc b))) ≤ length (groups 9 (2 * a)) + length (groups 9 (2 * suc b)) = rw e (sum_least (2 * a) (2 * suc b)) in
      omega (arith, cost_least (a + suc b))

  blocks_least : (blocks : List (List X)) (source rest : List ℕ) → AreBlocks P blocks source rest
      → cost (length (flat_map (λ block. block) blocks)) + length (flat_map write (flat_map (λ block. block) blocks)) + 1 + length rest ≤ length source
  unfolding cost
  blocks_least [] source rest h = omega (arith, groups_shorter source _ rest h.groups)
  blocks_least (xs ∷ blocks) source rest h =
      let later = flat_map (λ (block : List X). block) blocks in
      let c : cost (length xs + length later) ≤ length (groups 9 (2 * length xs)) + cost (length later) = cost_sum (length xs) (length later) in
      rw (length-append xs later, flat_map-append write xs later)
      (omega (arith, c, length-append (flat_map write xs) (flat_map write later), block_least xs source h.0 h.1, blocks_least blocks h.0 rest h.2))

  blocked_cost : (n : ℕ) (content : List ℕ) → length (blocked n content) ≤ cost n + length content + 1
  unfolding cost blocked integer
  blocked_cost zero content = omega arith
  blocked_cost (suc n) content =
      omega (arith, length-append (groups 9 (2 * suc n)) (content ++ 0 ∷ []), length-append content (0 ∷ []))

  blocked_least : (xs : List X) (source rest : List ℕ) → IsBlocked P xs source rest → length (blocked (length xs) (flat_map write xs)) + length rest ≤ length source
  blocked_least xs source rest h =
      let b = blocks_least h.0 source rest h.2 in
      let c = blocked_cost (length (flat_map (λ (block : List X). block) h.0)) (flat_map write (flat_map (λ (block : List X). block) h.0)) in
      rw h.1 (omega arith)

-- ---- data

items_written : (ds : Items) → items_encoding ds ≡ flat_map encoding (items ds)
items_written no_items = refl
items_written (item d ds) = ap (λ (x : List ℕ). encoding d ++ x) (items_written ds)

abbrev entry_encoding : List ℕ × Data → List ℕ
entry_encoding e = sized e.0 ++ encoding e.1

entries_written : (es : Entries) → entries_encoding es ≡ flat_map entry_encoding (entries es)
entries_written no_entries = refl
entries_written (entry key d es) =
    ap (λ (x : List ℕ). sized key ++ (encoding d ++ x)) (entries_written es) ∙ sym (append_assoc (sized key) (encoding d) (flat_map entry_encoding (entries es)))

entry_least : (t : Avro) → ((d : Data) (source rest : List ℕ) → IsDatum t d source rest → length (encoding d) + length rest ≤ length source) → (e : List ℕ × Data) (source rest : List ℕ)
    → IsEntry (IsDatum t) e source rest → length (entry_encoding e) + length rest ≤ length source
entry_least t each e source rest h =
    omega (arith, length-append (sized e.0) (encoding e.1), sized_least e.0 source h.0 h.1.1, each e.1 h.0 rest h.2)

mutual
  pub datum_least : (t : Avro) (d : Data) (source rest : List ℕ) → IsDatum t d source rest → length (encoding d) + length rest ≤ length source
  datum_least types.null null source rest h = omega (arith, ap length h)
  datum_least types.boolean (boolean b) source rest h = omega (arith, ap length h)
  datum_least types.int (int z) source rest h = integer_least 5 15 z source rest h
  datum_least types.long (long z) source rest h = integer_least 10 1 z source rest h
  datum_least types.bytes (bytes bs) source rest h = sized_least bs source rest h
  datum_least types.text (text bs) source rest h = sized_least bs source rest h.1
  datum_least (types.record_of fs) (record_of ds) source rest h = fields_least fs ds source rest h
  datum_least (types.array_of t) (array_of ds) source rest h =
      rw (items_written ds) (blocked_least (IsDatum t) encoding (datum_least t) (items ds) source rest h)
  datum_least (types.map_of t) (map_of es) source rest h =
      rw (entries_written es) (blocked_least (IsEntry (IsDatum t)) entry_encoding (entry_least t (datum_least t)) (entries es) source rest h)
  datum_least (types.union_of ts) (union_of k d) source rest h =
      omega (arith, length-append (integer (pos k)) (encoding d), integer_least 5 15 (pos k) source h.0 h.1, branch_least ts k d h.0 rest h.2)
  datum_least t d source rest h = absurd h

  fields_least : (fs : Fields) (ds : Items) (source rest : List ℕ) → AreFields fs ds source rest → length (items_encoding ds) + length rest ≤ length source
  fields_least no_fields no_items source rest h = omega (arith, ap length h)
  fields_least (field name t fs) (item d ds) source rest h =
      omega (arith, length-append (encoding d) (items_encoding ds), datum_least t d source h.0 h.1, fields_least fs ds h.0 rest h.2)
  fields_least fs ds source rest h = absurd h

  branch_least : (ts : Branches) (k : ℕ) (d : Data) (source rest : List ℕ) → IsBranch ts k d source rest → length (encoding d) + length rest ≤ length source
  branch_least no_branches k d source rest h = absurd h
  branch_least (branch t ts) zero d source rest h = datum_least t d source rest h
  branch_least (branch t ts) (suc k) d source rest h = branch_least ts k d source rest h

pub shortest_is : (t : Avro) (d : Data) (bytes rest : List ℕ) → IsDatum t d (bytes ++ rest) rest → length (encoding d) ≤ length bytes
shortest_is t d spelling rest h = omega (arith, datum_least t d (spelling ++ rest) rest h, length-append spelling rest)
