-- What the bytes of a file bound: the numbers, the texts and the bytes of its data.
use Rattle.std.proofs.Common.{◌≡◌, ℕ, zero, suc, ◌+◌, ◌-◌, ◌*◌, ◌^◌, ◌<◌, ◌≤◌, ℤ, pos, negsuc, List, [], ◌∷◌, ◌++◌, length, get_or, FitsSigned, IsUtf8, w32, w64, ap, subst, inl, inr, arith}
use Rattle.std.specs.Prelude.{slice_index, drop}
use Rattle.std.specs.List.{AllByRecursion}
use Rattle.std.proofs.lemmas.Int.{ints}
use Rattle.std.proofs.lemmas.Nat.{pow-add, pow_pos, mul-le}
use Rattle.pm_base.proofs.Laws.{AllByRecursion-parts}
use Rattle.pm_avro_schema.specs.Avro as types
use Rattle.pm_avro_schema.specs.Avro.{Avro, Fields, no_fields, field, Branches, no_branches, branch}
use Rattle.pm_avro_data.specs.Datum.{Data, null, boolean, int, long, bytes, text, record_of, array_of, map_of, union_of, Items, no_items, item}
use Rattle.pm_avro_data.specs.IsDatum.{AreItems, IsDatum, AreFields, IsBranch}
use Rattle.pm_avro_data.specs.Number.{AreGroups, IsNumber, IsInt, IsLong, zigzag}
use Rattle.pm_avro_data.proofs.Facts.{datum_follows, groups_shorter}
use Rattle.pm_avro_file.specs.Container.{IsBlock}
use Rattle.pm_run.specs.Rows.{AreBytes}

-- ---- numbers

last_group : (p top b : ℕ) (source : List ℕ) → slice_index (b ∷ source) (suc (suc p) - 1) ≤ top → slice_index source (suc p - 1) ≤ top
last_group p top b source h =
    let e : suc p - 1 ≡ p = omega arith in
    let f : suc (suc p) - 1 ≡ suc p = omega arith in
    rw e (rw f at h)

-- the groups above the first
above_first : (p top b n : ℕ) (source rest : List ℕ) → IsNumber (suc (suc p)) top n (b ∷ source) rest → (high : ℕ) → AreGroups high source rest → IsNumber (suc p) top high source rest
above_first p top b n source rest h high groups = record {
  groups = groups;
  short = omega (arith, h.short);
  last = λ whole. last_group p top b source (h.last (omega arith));
}

-- a number is below what its groups hold
number_below : (p top n : ℕ) (source rest : List ℕ) → IsNumber (suc p) top n source rest → n < (top + 1) * 2 ^ (7 * p)
number_below p top n [] rest h = absurd h.groups
number_below zero top n (b ∷ source) rest h =
    elim h.groups [
      | inl g ↦
          let len : length (b ∷ source) ≡ length rest + 1 = omega (arith, ap length g.2) in
          let small : b ≤ top = h.last len in
          omega (arith, g.1)
      | inr g ↦ absurd (omega (arith, groups_shorter source g.2.0 rest g.2.2, h.short))
    ]
number_below (suc p) top n (b ∷ source) rest h =
    let bits : 7 * suc p ≡ 7 * p + 7 = omega arith in
    let some = mul-le 1 1 (top + 1) (2 ^ (7 * p)) (omega arith) (omega (arith, pow_pos (7 * p))) in
    elim h.groups [
      | inl g ↦ rw (bits, pow-add 2 (7 * p) 7) (omega (arith, g.0, g.1))
      | inr g ↦
          let high = number_below p top g.2.0 source rest (above_first p top b n source rest h g.2.0 g.2.2) in
          rw (bits, pow-add 2 (7 * p) 7) (omega (arith, g.1, g.2.1))
    ]

-- an int has 32 bits, a long 64
int_fits : (z : ℤ) (source rest : List ℕ) → IsInt z source rest → FitsSigned w32 z
int_fits (pos n) source rest h = let b = number_below 4 15 (2 * n) source rest h in omega (arith, ints)
int_fits (negsuc n) source rest h = let b = number_below 4 15 (2 * n + 1) source rest h in omega (arith, ints)

long_fits : (z : ℤ) (source rest : List ℕ) → IsLong z source rest → FitsSigned w64 z
long_fits (pos n) source rest h = let b = number_below 9 1 (2 * n) source rest h in omega (arith, ints)
long_fits (negsuc n) source rest h = let b = number_below 9 1 (2 * n + 1) source rest h in omega (arith, ints)

-- ---- parts of bytes

groups_end : (source : List ℕ) (n : ℕ) (rest : List ℕ) → AreGroups n source rest → AreBytes source → AreBytes rest
groups_end [] n rest h all = absurd h
groups_end (b ∷ source) n rest (inl h) all = subst AreBytes h.2 all.1
groups_end (b ∷ source) n rest (inr h) all = groups_end source h.2.0 rest h.2.2 all.1

datum_end : (t : Avro) (d : Data) (source rest : List ℕ) → IsDatum t d source rest → AreBytes source → AreBytes rest
datum_end t d source rest h all =
    let f = datum_follows t d source rest h in
    (AllByRecursion-parts (λ (b : ℕ). b < 256) f.prefix rest (subst AreBytes f.parts all)).1

-- numbers of which each is a byte
pub all_bytes : (bs : List ℕ) → ((i : ℕ) → get_or bs i 0 < 256) → AreBytes bs
all_bytes [] each = tt
all_bytes (b ∷ bs) each = (each 0, all_bytes bs (λ i. each (suc i)))

pub drop_bytes : (n : ℕ) (bs : List ℕ) → AreBytes bs → AreBytes (drop n bs)
drop_bytes zero bs all = all
drop_bytes (suc n) [] all = tt
drop_bytes (suc n) (b ∷ bs) all = drop_bytes n bs all.1

-- ---- data

abbrev mutual
  -- a datum's numbers have their type's bits, its texts are UTF-8, and its bytes are bytes; so are those of a union's
  -- datum and of a record's values
  pub IsWithin : Data → Type 0
  IsWithin (int z) = FitsSigned w32 z
  IsWithin (long z) = FitsSigned w64 z
  IsWithin (bytes bs) = AreBytes bs
  IsWithin (text bs) = IsUtf8 bs
  IsWithin (record_of ds) = AreWithin ds
  IsWithin (union_of k d) = IsWithin d
  IsWithin d = Unit {0}

  pub AreWithin : Items → Type 0
  AreWithin no_items = Unit {0}
  AreWithin (item d ds) = IsWithin d × AreWithin ds

mutual
  -- a datum in bytes is within its type
  datum_within : (t : Avro) (d : Data) (source rest : List ℕ) → AreBytes source → IsDatum t d source rest → IsWithin d
  datum_within types.null null source rest all h = tt
  datum_within types.boolean (boolean b) source rest all h = tt
  datum_within types.int (int z) source rest all h = int_fits z source rest h
  datum_within types.long (long z) source rest all h = long_fits z source rest h
  datum_within types.bytes (bytes bs) source rest all h =
      (AllByRecursion-parts (λ (b : ℕ). b < 256) bs rest (groups_end source (zigzag (pos (length bs))) (bs ++ rest) h.groups all)).0
  datum_within types.text (text bs) source rest all h = h.0
  datum_within (types.record_of fs) (record_of ds) source rest all h = fields_within fs ds source rest all h
  datum_within (types.array_of t) (array_of ds) source rest all h = tt
  datum_within (types.map_of t) (map_of es) source rest all h = tt
  datum_within (types.union_of ts) (union_of k d) source rest all h =
      branch_within ts k d h.0 rest (groups_end source (zigzag (pos k)) h.0 h.1.groups all) h.2
  datum_within t d source rest all h = absurd h

  fields_within : (fs : Fields) (ds : Items) (source rest : List ℕ) → AreBytes source → AreFields fs ds source rest → AreWithin ds
  fields_within no_fields no_items source rest all h = tt
  fields_within (field name t fs) (item d ds) source rest all h =
      (datum_within t d source h.0 all h.1, fields_within fs ds h.0 rest (datum_end t d source h.0 h.1 all) h.2)
  fields_within fs ds source rest all h = absurd h

  branch_within : (ts : Branches) (k : ℕ) (d : Data) (source rest : List ℕ) → AreBytes source → IsBranch ts k d source rest → IsWithin d
  branch_within no_branches k d source rest all h = absurd h
  branch_within (branch t ts) zero d source rest all h = datum_within t d source rest all h
  branch_within (branch t ts) (suc k) d source rest all h = branch_within ts k d source rest all h

data_within : (t : Avro) (ds : List Data) (source rest : List ℕ) → AreBytes source → AreItems (IsDatum t) ds source rest → AllByRecursion IsWithin ds
data_within t [] source rest all h = tt
data_within t (d ∷ ds) source rest all h = (datum_within t d source h.0 all h.1, data_within t ds h.0 rest (datum_end t d source h.0 h.1 all) h.2)

-- the data of a block are within their type
pub block_within : (t : Avro) (marker : List ℕ) (ds : List Data) (source rest : List ℕ) → AreBytes source → IsBlock t marker ds source rest → AllByRecursion IsWithin ds
block_within t marker ds source rest all b =
    let middle = groups_end source (zigzag (pos (length ds))) b.middle b.count.groups all in
    let left = groups_end b.middle (zigzag (pos (length b.content))) b.left b.size.groups middle in
    let content = (AllByRecursion-parts (λ (n : ℕ). n < 256) b.content (marker ++ rest) (subst AreBytes b.marked left)).0 in
    data_within t ds b.content [] content b.each
