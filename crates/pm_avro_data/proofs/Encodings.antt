-- What is written for a datum of a type is that datum of the type.
use Rattle.std.proofs.Common.{◌≡◌, ℕ, zero, suc, ◌+◌, ◌-◌, ◌*◌, ◌/◌, ◌%◌, ◌^◌, ◌<◌, ◌≤◌, ℤ, pos}
use Rattle.std.proofs.Common.{negsuc, false, List, [], ◌∷◌, ◌++◌, length, refl, sym, ap, subst}
use Rattle.std.proofs.Common.{◌∙◌, append_assoc, inl, inr, arith, FitsSigned, w32, w64}
use Rattle.std.specs.Prelude.{slice_index}
use Rattle.std.specs.List.{AllByRecursion}
use Rattle.std.proofs.lemmas.Bool.{cases_lt, lt-ltb, le-ltb, and_cases}
use Rattle.std.proofs.lemmas.List.{length-append, append-nil}
use Rattle.std.proofs.lemmas.Nat.{pow-add, mul-le, div_below}
use Rattle.pm_avro_schema.specs.Avro as types
use Rattle.pm_avro_schema.specs.Avro.{Avro, Fields, no_fields, field, Branches}
use Rattle.pm_avro_schema.specs.Avro.{no_branches, branch, takes_no_byte, take_no_byte}
use Rattle.pm_avro_schema.specs.Readable.{KeepsBounds, FieldsKeepBounds, BranchesKeepBounds}
use Rattle.pm_avro_data.specs.Datum.{Data, null, boolean, int, long, bytes, text, record_of, array_of, map_of}
use Rattle.pm_avro_data.specs.Datum.{union_of, Items, no_items, item, items, Entries, no_entries, entry, entries}
use Rattle.pm_avro_data.specs.Number.{zigzag, AreGroups, IsNumber, IsInt, IsLong}
use Rattle.pm_avro_data.specs.IsDatum.{IsBytes, IsEntry, AreItems, IsBlock, IsBlocked, IsDatum, AreFields, IsBranch}
use Rattle.pm_avro_data.specs.HasType.{HasType, HaveTypes, HasBranch}
use Rattle.pm_avro_data.specs.Writing.{groups, integer, sized, blocked, encoding, items_encoding}
use Rattle.pm_avro_data.specs.Writing.{entries_encoding, Fits, ItemsFit, EntriesFit}

-- ---- numbers

pub groups_zero : (n : ℕ) → groups zero n ≡ n ∷ []
unfolding groups
groups_zero n = refl

pub groups_low : (more n : ℕ) → n < 128 → groups more n ≡ n ∷ []
unfolding groups
groups_low zero n low = refl
groups_low (suc more) n low = rw (lt-ltb n 128 low) refl

pub groups_high : (more n : ℕ) → 128 ≤ n → groups (suc more) n ≡ (n % 128 + 128) ∷ groups more (n / 128)
unfolding groups
groups_high more n high = rw (le-ltb n 128 high) refl

pub groups_some : (more n : ℕ) → 0 < length (groups more n)
unfolding groups
groups_some zero n = omega arith
groups_some (suc more) n =
    elim (cases_lt n 128) [
      | inl low ↦ rw (groups_low (suc more) n low) (omega arith)
      | inr high ↦ rw (groups_high more n high) (omega arith)
    ]

-- what is above the low seven bits has a group less
above_below : (m n : ℕ) → n < 2 ^ (7 * suc m + 7) → n / 128 < 2 ^ (7 * m + 7)
above_below m n lt =
    let bits : 7 * suc m + 7 ≡ 7 * m + 7 + 7 = omega arith in
    let below : n < 2 ^ (7 * m + 7 + 7) = rw bits at lt in
    omega (arith, pow-add 2 (7 * m + 7) 7)

groups_are : (more n : ℕ) (rest : List ℕ) → n < 2 ^ (7 * more + 7) → AreGroups n (groups more n ++ rest) rest
groups_are zero n rest lt =
    let low : n < 128 = omega arith in
    rw (groups_low zero n low) (inl (low, refl, refl))
groups_are (suc more) n rest lt =
    elim (cases_lt n 128) [
      | inl low ↦ rw (groups_low (suc more) n low) (inl (low, refl, refl))
      | inr high ↦ rw (groups_high more n high) (inr (omega arith, omega arith, (n / 128, omega arith, groups_are more (n / 128) rest (above_below more n lt))))
    ]

pub groups_few : (k more n : ℕ) → n < 2 ^ (7 * k + 7) → length (groups more n) ≤ k + 1
groups_few k zero n lt = rw (groups_zero n) (omega arith)
groups_few zero (suc more) n lt = rw (groups_low (suc more) n (omega arith)) (omega arith)
groups_few (suc k) (suc more) n lt =
    elim (cases_lt n 128) [
      | inl low ↦ rw (groups_low (suc more) n low) (omega arith)
      | inr high ↦ rw (groups_high more n high) (omega (arith, groups_few k more (n / 128) (above_below k n lt)))
    ]

-- the last group, of index k
groups_last : (k more n top : ℕ) (rest : List ℕ) → n < (top + 1) * 2 ^ (7 * k) → length (groups more n) ≡ k + 1 → slice_index (groups more n ++ rest) k ≤ top
groups_last zero zero n top rest lt len = rw (groups_zero n) (omega arith)
groups_last (suc k) zero n top rest lt len = absurd (omega (arith, ap length (groups_zero n)))
groups_last zero (suc more) n top rest lt len =
    elim (cases_lt n 128) [
      | inl low ↦ rw (groups_low (suc more) n low) (omega arith)
      | inr high ↦ absurd (omega (arith, ap length (groups_high more n high), groups_some more (n / 128)))
    ]
groups_last (suc k) (suc more) n top rest lt len =
    elim (cases_lt n 128) [
      | inl low ↦ absurd (omega (arith, ap length (groups_low (suc more) n low)))
      | inr high ↦
          let bits : 7 * suc k ≡ 7 * k + 7 = omega arith in
          let below : n < (top + 1) * 2 ^ (7 * k + 7) = rw bits at lt in
          let wide : n < (top + 1) * (2 ^ (7 * k) * 128) = rw (pow-add 2 (7 * k) 7) at below in
          let room : n < (top + 1) * 2 ^ (7 * k) * 128 = omega arith in
          let tail : length (groups more (n / 128)) ≡ k + 1 = omega (arith, ap length (groups_high more n high)) in
          rw (groups_high more n high) (groups_last k more (n / 128) top rest (div_below n 128 ((top + 1) * 2 ^ (7 * k)) (omega arith) room) tail)
    ]

number_is : (p top n : ℕ) (rest : List ℕ) → top < 128 → n < 2 ^ 64 → n < (top + 1) * 2 ^ (7 * p) → IsNumber (p + 1) top n (groups 9 n ++ rest) rest
number_is p top n rest small lt room =
    let fits : n < 2 ^ (7 * p + 7) = omega (arith, mul-le (top + 1) (2 ^ (7 * p)) 128 (2 ^ (7 * p)) (omega arith) (omega arith), pow-add 2 (7 * p) 7) in
    let few = groups_few p 9 n fits in
    let bits : p + 1 - 1 ≡ p = omega arith in
    record {
      groups = groups_are 9 n rest (omega arith);
      short = omega (arith, few, length-append (groups 9 n) rest);
      last = λ whole. rw bits (groups_last p 9 n top rest room (omega (arith, length-append (groups 9 n) rest)));
    }

zigzag_long : (z : ℤ) → FitsSigned w64 z → zigzag z < 2 ^ 64
zigzag_long (pos n) f = omega (arith, f.sfits)
zigzag_long (negsuc n) f = omega (arith, f.sfits)

zigzag_int : (z : ℤ) → FitsSigned w32 z → zigzag z < 2 ^ 32
zigzag_int (pos n) f = omega (arith, f.sfits)
zigzag_int (negsuc n) f = omega (arith, f.sfits)

pub long_is : (z : ℤ) (rest : List ℕ) → FitsSigned w64 z → IsLong z (integer z ++ rest) rest
unfolding integer
long_is z rest f = let lt = zigzag_long z f in number_is 9 1 (zigzag z) rest (omega arith) lt (omega arith)

int_is : (z : ℤ) (rest : List ℕ) → FitsSigned w32 z → IsInt z (integer z ++ rest) rest
unfolding integer
int_is z rest f = let lt = zigzag_int z f in number_is 4 15 (zigzag z) rest (omega arith) (omega arith) (omega arith)

integer_some : (z : ℤ) → 0 < length (integer z)
unfolding integer
integer_some z = groups_some 9 (zigzag z)

-- ---- bytes and blocks

sized_is : (bs rest : List ℕ) → length bs < 2 ^ 63 → IsBytes bs (sized bs ++ rest) rest
sized_is bs rest lt =
    let h = long_is (pos (length bs)) (bs ++ rest) (record { sfits = lt }) in
    subst (λ (x : List ℕ). IsLong (pos (length bs)) x (bs ++ rest)) (sym (append_assoc (integer (pos (length bs))) bs rest)) h

sized_some : (bs : List ℕ) → 0 < length (sized bs)
sized_some bs = omega (arith, length-append (integer (pos (length bs))) bs, integer_some (pos (length bs)))

zero_is : (rest : List ℕ) → IsLong (pos 0) (0 ∷ rest) rest
zero_is rest = record { groups = inl (omega arith, refl, refl); short = omega arith; last = λ whole. absurd (omega arith) }

blocked_is : {X : Type 0} (P : X → List ℕ → List ℕ → Type 0) (xs : List X) (content rest : List ℕ) → length xs < 2 ^ 63 → length xs ≤ length content
    → AreItems P xs (content ++ 0 ∷ rest) (0 ∷ rest) → IsBlocked P xs (blocked (length xs) content ++ rest) rest
unfolding blocked
blocked_is P [] content rest small within h = ([], refl, zero_is rest)
blocked_is P (x ∷ xs) content rest small within h =
    let n = length (x ∷ xs) in
    let left = content ++ 0 ∷ rest in
    let source : integer (pos n) ++ left ≡ (integer (pos n) ++ (content ++ 0 ∷ [])) ++ rest =
    ap (λ (t : List ℕ). integer (pos n) ++ t) (sym (append_assoc content (0 ∷ []) rest)) ∙ sym (append_assoc (integer (pos n)) (content ++ 0 ∷ []) rest) in
    let number : IsLong (pos n) (integer (pos n) ++ left) left = long_is (pos n) left (record { sfits = small }) in
    let block : IsBlock P (x ∷ xs) (integer (pos n) ++ left) (0 ∷ rest) = record {
      count = pos n;
      left = left;
      some = λ none. absurd cc;
      number = number;
      within = omega (arith, length-append content (0 ∷ rest));
      body = (refl, h);
    } in
    ((x ∷ xs) ∷ [], sym (append-nil (x ∷ xs)), subst (λ (t : List ℕ). (middle : List ℕ) × IsBlock P (x ∷ xs) t middle × IsLong (pos 0) middle rest) source (0 ∷ rest, block, zero_is rest))

blocked_some : (n : ℕ) (content : List ℕ) → 0 < length (blocked n content)
unfolding blocked
blocked_some zero content = omega arith
blocked_some (suc n) content = omega (arith, length-append (integer (pos (suc n))) (content ++ 0 ∷ []), integer_some (pos (suc n)))

-- ---- data that take a byte

mutual
  pub datum_some : (t : Avro) (d : Data) → takes_no_byte t ≡ false → HasType t d → 0 < length (encoding d)
  datum_some types.null null free h = absurd cc
  datum_some types.boolean (boolean b) free h = omega arith
  datum_some types.int (int z) free h = integer_some z
  datum_some types.long (long z) free h = integer_some z
  datum_some types.bytes (bytes bs) free h = sized_some bs
  datum_some types.text (text bs) free h = sized_some bs
  datum_some (types.record_of fs) (record_of ds) free h = fields_some fs ds free h
  datum_some (types.array_of t) (array_of ds) free h = blocked_some (length (items ds)) (items_encoding ds)
  datum_some (types.map_of t) (map_of es) free h = blocked_some (length (entries es)) (entries_encoding es)
  datum_some (types.union_of ts) (union_of k d) free h = omega (arith, length-append (integer (pos k)) (encoding d), integer_some (pos k))
  datum_some t d free h = absurd h

  fields_some : (fs : Fields) (ds : Items) → take_no_byte fs ≡ false → HaveTypes fs ds → 0 < length (items_encoding ds)
  fields_some no_fields no_items free h = absurd cc
  fields_some (field name t fs) (item d ds) free h =
      elim (and_cases (takes_no_byte t) (take_no_byte fs) free) [
        | inl first ↦ omega (arith, length-append (encoding d) (items_encoding ds), datum_some t d first h.0)
        | inr later ↦ omega (arith, length-append (encoding d) (items_encoding ds), fields_some fs ds later h.1)
      ]
  fields_some fs ds free h = absurd h

items_within : (t : Avro) (ds : Items) → takes_no_byte t ≡ false → AllByRecursion (HasType t) (items ds) → length (items ds) ≤ length (items_encoding ds)
items_within t no_items free h = omega arith
items_within t (item d ds) free h = omega (arith, length-append (encoding d) (items_encoding ds), datum_some t d free h.0, items_within t ds free h.1)

entries_within : (es : Entries) → length (entries es) ≤ length (entries_encoding es)
entries_within no_entries = omega arith
entries_within (entry key d es) =
    omega (arith, length-append (sized key) (encoding d ++ entries_encoding es), sized_some key, length-append (encoding d) (entries_encoding es), entries_within es)

-- ---- data

module _ (t : Avro) (each : (d : Data) (rest : List ℕ) → HasType t d → Fits d → IsDatum t d (encoding d ++ rest) rest) where
  items_are : (ds : Items) (rest : List ℕ) → AllByRecursion (HasType t) (items ds) → ItemsFit ds → AreItems (IsDatum t) (items ds) (items_encoding ds ++ rest) rest
  items_are no_items rest h f = refl
  items_are (item d ds) rest h f =
      let later = items_encoding ds ++ rest in
      subst (λ (x : List ℕ). AreItems (IsDatum t) (items (item d ds)) x rest) (sym (append_assoc (encoding d) (items_encoding ds) rest))
      (later, each d later h.0 f.0, items_are ds rest h.1 f.1)

  entries_are : (es : Entries) (rest : List ℕ) → AllByRecursion (λ e. HasType t e.1) (entries es) → EntriesFit es → AreItems (IsEntry (IsDatum t)) (entries es) (entries_encoding es ++ rest) rest
  entries_are no_entries rest h f = refl
  entries_are (entry key d es) rest h f =
      let later = entries_encoding es ++ rest in
      let value = encoding d ++ later in
      let source : sized key ++ value ≡ entries_encoding (entry key d es) ++ rest =
      ap (λ (x : List ℕ). sized key ++ x) (sym (append_assoc (encoding d) (entries_encoding es) rest)) ∙ sym (append_assoc (sized key) (encoding d ++ entries_encoding es) rest) in
      subst (λ (x : List ℕ). AreItems (IsEntry (IsDatum t)) (entries (entry key d es)) x rest) source
      (later, (value, (f.0, sized_is key value f.1), each d later h.0 f.2), entries_are es rest h.1 f.3)

mutual
  pub datum_is : (t : Avro) (n : ℕ) (d : Data) (rest : List ℕ) → KeepsBounds t n → HasType t d → Fits d → IsDatum t d (encoding d ++ rest) rest
  datum_is types.null n null rest k h f = refl
  datum_is types.boolean n (boolean b) rest k h f = refl
  datum_is types.int n (int z) rest k h f = int_is z rest f
  datum_is types.long n (long z) rest k h f = long_is z rest f
  datum_is types.bytes n (bytes bs) rest k h f = sized_is bs rest f
  datum_is types.text n (text bs) rest k h f = (f.0, sized_is bs rest f.1)
  datum_is (types.record_of fs) n (record_of ds) rest k h f = fields_are fs (n + 1) ds rest k h f
  datum_is (types.array_of t) n (array_of ds) rest k h f =
      blocked_is (IsDatum t) (items ds) (items_encoding ds) rest f.0 (items_within t ds k.1 h) (items_are t (λ d rest. datum_is t (n + 1) d rest k.2) ds (0 ∷ rest) h f.1)
  datum_is (types.map_of t) n (map_of es) rest k h f =
      blocked_is (IsEntry (IsDatum t)) (entries es) (entries_encoding es) rest f.0 (entries_within es) (entries_are t (λ d rest. datum_is t (n + 1) d rest k.1) es (0 ∷ rest) h f.1)
  datum_is (types.union_of ts) n (union_of index d) rest k h f =
      let middle = encoding d ++ rest in
      subst (λ (x : List ℕ). IsDatum (types.union_of ts) (union_of index d) x rest) (sym (append_assoc (integer (pos index)) (encoding d) rest))
      (middle, int_is (pos index) middle (record { sfits = h.0 }), branch_is ts (n + 1) index d rest k h.1 f)
  datum_is t n d rest k h f = absurd h

  fields_are : (fs : Fields) (n : ℕ) (ds : Items) (rest : List ℕ) → FieldsKeepBounds fs n → HaveTypes fs ds → ItemsFit ds → AreFields fs ds (items_encoding ds ++ rest) rest
  fields_are no_fields n no_items rest k h f = refl
  fields_are (field name t fs) n (item d ds) rest k h f =
      let later = items_encoding ds ++ rest in
      subst (λ (x : List ℕ). AreFields (field name t fs) (item d ds) x rest) (sym (append_assoc (encoding d) (items_encoding ds) rest))
      (later, datum_is t n d later k.1 h.0 f.0, fields_are fs n ds rest k.2 h.1 f.1)
  fields_are fs n ds rest k h f = absurd h

  branch_is : (ts : Branches) (n : ℕ) (index : ℕ) (d : Data) (rest : List ℕ) → BranchesKeepBounds ts n → HasBranch ts index d → Fits d → IsBranch ts index d (encoding d ++ rest) rest
  branch_is no_branches n index d rest k h f = absurd h
  branch_is (branch t ts) n zero d rest k h f = datum_is t n d rest k.0 h f
  branch_is (branch t ts) n (suc index) d rest k h f = branch_is ts n index d rest k.1 h f
