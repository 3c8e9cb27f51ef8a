-- What is read is in the relation, and what is in the relation is read.
use Rattle.std.proofs.Common.{◌≡◌, ℕ, zero, suc, ◌+◌, ◌-◌, ◌*◌, ◌/◌, ◌%◌, ◌<◌, ◌≤◌, ℤ, pos, negsuc}
use Rattle.std.proofs.Common.{Bool, true, false, cond, ltb, leb, List, [], ◌∷◌, ◌++◌, length, take}
use Rattle.std.proofs.Common.{drop, Option, Some, None, refl, sym, ap, subst, ◌∙◌, inl, inr, arith}
use Rattle.std.specs.Prelude.{option_map, slice_index, unsigned_abs, ◌==◌}
use Rattle.std.specs.List.{flat_map}
use Rattle.std.specs.Str.{is_utf8}
use Rattle.std.proofs.lemmas.Bool.{cases_lt, ltb-false, leb-true, le-ltb, eqb-true, eqb-false, eq-eqb, ne_eqb}
use Rattle.std.proofs.lemmas.List.{nil_from_length, length-append, length-take, take_at, drop_at, take-append-drop}
use Rattle.std.proofs.lemmas.Option.{some_pair_parts, same_Some}
use Rattle.std.proofs.lemmas.Str.{IsUtf8-from_is_utf8, is_utf8-from_IsUtf8}
use Rattle.pm_base.specs.Steps.{◌>>=◌}
use Rattle.pm_avro_data.specs.declared.block.Head.{Head}
use Rattle.pm_avro_schema.specs.Avro as types
use Rattle.pm_avro_schema.specs.Avro.{Avro, Fields, no_fields, field, Branches, no_branches, branch}
use Rattle.pm_avro_data.specs.Datum.{Data, null, boolean, int, long, bytes, text, record_of}
use Rattle.pm_avro_data.specs.Datum.{array_of, map_of, union_of, Items, no_items, item, items}
use Rattle.pm_avro_data.specs.Datum.{items_of, Entries, no_entries, entry, entries, entries_of}
use Rattle.pm_avro_data.specs.Number.{zigzag, AreGroups, IsNumber, IsInt, IsLong}
use Rattle.pm_avro_data.specs.IsDatum.{IsBoolean, IsBytes, IsText, IsEntry, AreItems, IsBody}
use Rattle.pm_avro_data.specs.IsDatum.{IsBlock, AreBlocks, IsBlocked, IsDatum, AreFields, IsBranch}
use Rattle.pm_avro_data.specs.Reading.{number_at, unzigzag, signed, int_at, long_at, not_negative}
use Rattle.pm_avro_data.specs.Reading.{size_at, index_at, boolean_at, bytes_at, text_at, head_from}
use Rattle.pm_avro_data.specs.Reading.{head_at, items_at, has_size, body_at, blocks_after, blocks_at}
use Rattle.pm_avro_data.specs.Reading.{all_blocks_at, entry_at, seen_as, datum_at, fields_at, branch_at}
use Rattle.pm_avro_data.proofs.Numbers.{number_at-last, number_at-more, number_at-wide}
use Rattle.pm_avro_data.proofs.Follows.{Follows, Follows-shorter, groups_shorter, block_shorter}
use Rattle.pm_avro_data.proofs.Moves.{datum_follows, entry_follows}

-- ---- steps

bind_some : {A B : Type 0} (o : Option A) (f : A → Option B) (y : B) → (o >>= f) ≡ Some y → (x : A) × (o ≡ Some x) × (f x ≡ Some y)
bind_some None f y e = absurd cc
bind_some (Some x) f y e = (x, refl, e)

map_some : {A B : Type 0} (o : Option A) (f : A → B) (y : B) → option_map f o ≡ Some y → (x : A) × (o ≡ Some x) × (f x ≡ y)
map_some None f y e = absurd cc
map_some (Some x) f y e = (x, refl, cc)

some_if : {A : Type 0} (b : Bool) (x y : A) → cond b (Some x) None ≡ Some y → (b ≡ true) × (x ≡ y)
some_if true x y e = (refl, cc)
some_if false x y e = absurd cc

none_if : {A : Type 0} (b : Bool) (o : Option A) (y : A) → cond b None o ≡ Some y → (b ≡ false) × (o ≡ Some y)
none_if true o y e = absurd cc
none_if false o y e = (refl, e)

parts_of : {A B : Type 0} (a x : A) (b y : B) → ◌≡◌ {A = A × B} (a, b) (x, y) → (a ≡ x) × (b ≡ y)
parts_of {A} {B} a x b y e = (ap (λ (p : A × B). p.0) e, ap (λ (p : A × B). p.1) e)

pair_is : {A B : Type 0} (p : A × B) (x : A) (y : B) → p.0 ≡ x → p.1 ≡ y → p ≡ (x, y)
pair_is p x y e f = rw (← e, ← f) refl

-- ---- numbers

even_or_odd : (n : ℕ) (b : Bool) → n % 2 == 0 ≡ b → zigzag (cond b (pos (n / 2)) (negsuc (n / 2))) ≡ n
even_or_odd n true e = omega (arith, eqb-true (n % 2) 0 e)
even_or_odd n false e = omega (arith, eqb-false (n % 2) 0 e)

last_group : (p top b : ℕ) (source : List ℕ) → slice_index source (suc p - 1) ≤ top → slice_index (b ∷ source) (suc (suc p) - 1) ≤ top
last_group p top b source h =
    let e : suc p - 1 ≡ p = omega arith in
    let f : suc (suc p) - 1 ≡ suc p = omega arith in
    rw f (rw e at h)

last_group_back : (p top b : ℕ) (source : List ℕ) → slice_index (b ∷ source) (suc (suc p) - 1) ≤ top → slice_index source (suc p - 1) ≤ top
last_group_back p top b source h =
    let e : suc p - 1 ≡ p = omega arith in
    let f : suc (suc p) - 1 ≡ suc p = omega arith in
    rw e (rw f at h)

-- a number's groups, of which at most p + 1 and the last of as many at most top
pub number_takes : (p top : ℕ) (source : List ℕ) (n : ℕ) (rest : List ℕ) → top < 128 → number_at (suc p) top source ≡ Some (n, rest) → IsNumber (suc p) top n source rest
unfolding number_at
number_takes p top [] n rest t e = absurd cc
number_takes zero top (b ∷ source) n rest t e =
    let g = some_if (leb b top) (b, source) (n, rest) e in
    let small = leb-true b top g.0 in
    let q = parts_of b n source rest g.1 in
    record {
      groups = inl (omega arith, sym q.0, q.1);
      short = omega (arith, ap length q.1);
      last = λ _. small;
    }
number_takes (suc p) top (b ∷ source) n rest t e =
    elim (cases_lt b 128) [
      | inl low ↦
          let q = some_pair_parts b n source rest (sym (number_at-last (suc (suc p)) top b source (omega arith) low (λ one. absurd (omega arith))) ∙ e) in
          record {
            groups = inl (low, sym q.0, q.1);
            short = omega (arith, ap length q.1);
            last = λ whole. absurd (omega (arith, ap length q.1));
          }
      | inr high ↦
          elim (cases_lt b 256) [
            | inl byte ↦
                let m = map_some (number_at (suc p) top source) (λ x. (b - 128 + 128 * x.0, x.1)) (n, rest) (sym (number_at-more p top b source high byte) ∙ e) in
                let q = parts_of (b - 128 + 128 * m.0.0) n m.0.1 rest m.2 in
                let r = subst (λ (x : List ℕ). IsNumber (suc p) top m.0.0 source x) q.1 (number_takes p top source m.0.0 m.0.1 t m.1) in
                record {
                  groups = inr (high, byte, (m.0.0, omega (arith, q.0), r.groups));
                  short = omega (arith, r.short);
                  last = λ whole. last_group p top b source (r.last (omega arith));
                }
            | inr wide ↦
                let none = sym (number_at-wide p top b source wide) ∙ e in
                absurd cc
          ]
    ]

-- a number's groups above the first
pub above_group : (p top b : ℕ) (source : List ℕ) (n : ℕ) (rest : List ℕ) → IsNumber (suc (suc p)) top n (b ∷ source) rest
    → (g : (128 ≤ b) × (b < 256) × ((high : ℕ) × (n + 128 ≡ b + 128 * high) × AreGroups high source rest)) → IsNumber (suc p) top g.2.0 source rest
above_group p top b source n rest h g = record {
  groups = g.2.2;
  short = omega (arith, h.short);
  last = λ whole. last_group_back p top b source (h.last (omega arith));
}

pub number_again : (p top : ℕ) (source : List ℕ) (n : ℕ) (rest : List ℕ) → IsNumber (suc p) top n source rest → number_at (suc p) top source ≡ Some (n, rest)
number_again p top [] n rest h = absurd h.groups
number_again zero top (b ∷ source) n rest h =
    elim h.groups [
      | inl g ↦
          let len : length (b ∷ source) ≡ length rest + 1 = omega (arith, ap length g.2) in
          let small : b ≤ top = h.last len in
          number_at-last 1 top b source (omega arith) g.0 (λ _. small) ∙ rw (g.1, g.2) refl
      | inr g ↦ absurd (omega (arith, groups_shorter source g.2.0 rest g.2.2, h.short))
    ]
number_again (suc p) top (b ∷ source) n rest h =
    elim h.groups [
      | inl g ↦ number_at-last (suc (suc p)) top b source (omega arith) g.0 (λ one. absurd (omega arith)) ∙ rw (g.1, g.2) refl
      | inr g ↦
          let above = above_group p top b source n rest h g in
          let n-is : b - 128 + 128 * g.2.0 ≡ n = omega (arith, g.0, g.2.1) in
          number_at-more p top b source g.0 g.1 ∙ rw (number_again p top source g.2.0 rest above) (ap (λ k. Some (k, rest)) n-is)
    ]

-- ---- integers

zigzag-unzigzag : (n : ℕ) → zigzag (unzigzag n) ≡ n
zigzag-unzigzag n = even_or_odd n (n % 2 == 0) refl

unzigzag-zigzag : (z : ℤ) → unzigzag (zigzag z) ≡ z
unzigzag-zigzag (pos n) =
    let r : 2 * n % 2 ≡ 0 = omega arith in
    let q : 2 * n / 2 ≡ n = omega arith in
    rw (r, q) refl
unzigzag-zigzag (negsuc n) =
    let r : (2 * n + 1) % 2 ≡ 1 = omega arith in
    let q : (2 * n + 1) / 2 ≡ n = omega arith in
    rw (r, q) refl

module _ (p top : ℕ) (source : List ℕ) (z : ℤ) (rest : List ℕ) where
  signed_takes : top < 128 → signed (number_at (suc p) top source) ≡ Some (z, rest) → IsNumber (suc p) top (zigzag z) source rest
  signed_takes t e =
      let m = map_some (number_at (suc p) top source) (λ x. (unzigzag x.0, x.1)) (z, rest) e in
      let q = parts_of (unzigzag m.0.0) z m.0.1 rest m.2 in
      let n-is : m.0.0 ≡ zigzag z = sym (zigzag-unzigzag m.0.0) ∙ ap zigzag q.0 in
      subst (λ (x : List ℕ). IsNumber (suc p) top (zigzag z) source x) q.1
      (subst (λ (x : ℕ). IsNumber (suc p) top x source m.0.1) n-is (number_takes p top source m.0.0 m.0.1 t m.1))

  signed_again : IsNumber (suc p) top (zigzag z) source rest → signed (number_at (suc p) top source) ≡ Some (z, rest)
  signed_again h = rw (number_again p top source (zigzag z) rest h) (ap (λ y. Some (y, rest)) (unzigzag-zigzag z))

pub int_takes : (source : List ℕ) (z : ℤ) (rest : List ℕ) → int_at source ≡ Some (z, rest) → IsInt z source rest
unfolding int_at
int_takes source z rest e = signed_takes 4 15 source z rest (omega arith) e

pub int_again : (source : List ℕ) (z : ℤ) (rest : List ℕ) → IsInt z source rest → int_at source ≡ Some (z, rest)
unfolding int_at
int_again source z rest h = signed_again 4 15 source z rest h

pub long_takes : (source : List ℕ) (z : ℤ) (rest : List ℕ) → long_at source ≡ Some (z, rest) → IsLong z source rest
unfolding long_at
long_takes source z rest e = signed_takes 9 1 source z rest (omega arith) e

pub long_again : (source : List ℕ) (z : ℤ) (rest : List ℕ) → IsLong z source rest → long_at source ≡ Some (z, rest)
unfolding long_at
long_again source z rest h = signed_again 9 1 source z rest h

not_negative_is : (z : ℤ) (r : List ℕ) (n : ℕ) (rest : List ℕ) → not_negative (z, r) ≡ Some (n, rest) → (z ≡ pos n) × (r ≡ rest)
not_negative_is (pos m) r n rest e = let q = some_pair_parts m n r rest e in (ap pos q.0, q.1)
not_negative_is (negsuc m) r n rest e = absurd cc

pub size_takes : (source : List ℕ) (n : ℕ) (rest : List ℕ) → size_at source ≡ Some (n, rest) → IsLong (pos n) source rest
unfolding size_at
size_takes source n rest e =
    let b = bind_some (long_at source) not_negative (n, rest) e in
    let q = not_negative_is b.0.0 b.0.1 n rest b.2 in
    long_takes source (pos n) rest (b.1 ∙ ap Some (pair_is b.0 (pos n) rest q.0 q.1))

pub size_again : (source : List ℕ) (n : ℕ) (rest : List ℕ) → IsLong (pos n) source rest → size_at source ≡ Some (n, rest)
unfolding size_at
size_again source n rest h = rw (long_again source (pos n) rest h) refl

pub index_takes : (source : List ℕ) (n : ℕ) (rest : List ℕ) → index_at source ≡ Some (n, rest) → IsInt (pos n) source rest
unfolding index_at
index_takes source n rest e =
    let b = bind_some (int_at source) not_negative (n, rest) e in
    let q = not_negative_is b.0.0 b.0.1 n rest b.2 in
    int_takes source (pos n) rest (b.1 ∙ ap Some (pair_is b.0 (pos n) rest q.0 q.1))

pub index_again : (source : List ℕ) (n : ℕ) (rest : List ℕ) → IsInt (pos n) source rest → index_at source ≡ Some (n, rest)
unfolding index_at
index_again source n rest h = rw (int_again source (pos n) rest h) refl

-- ---- booleans, bytes, texts

pub boolean_takes : (source : List ℕ) (b : Bool) (rest : List ℕ) → boolean_at source ≡ Some (b, rest) → IsBoolean b source rest
unfolding boolean_at
boolean_takes [] b rest e = absurd cc
boolean_takes (zero ∷ source) b rest e = let q = some_pair_parts false b source rest e in rw (← q.0, q.1) refl
boolean_takes (suc zero ∷ source) b rest e = let q = some_pair_parts true b source rest e in rw (← q.0, q.1) refl
boolean_takes (suc (suc n) ∷ source) b rest e = absurd cc

pub boolean_again : (source : List ℕ) (b : Bool) (rest : List ℕ) → IsBoolean b source rest → boolean_at source ≡ Some (b, rest)
unfolding boolean_at
boolean_again source true rest h = rw h refl
boolean_again source false rest h = rw h refl

pub bytes_takes : (source bs rest : List ℕ) → bytes_at source ≡ Some (bs, rest) → IsBytes bs source rest
unfolding bytes_at
bytes_takes source bs rest e =
    let b = bind_some (size_at source) (λ n. cond (ltb (length n.1) n.0) None (Some (take n.0 n.1, drop n.0 n.1))) (bs, rest) e in
    let n = b.0 in
    let g = none_if (ltb (length n.1) n.0) (Some (take n.0 n.1, drop n.0 n.1)) (bs, rest) b.2 in
    let q = some_pair_parts (take n.0 n.1) bs (drop n.0 n.1) rest g.1 in
    let long : n.0 ≤ length n.1 = ltb-false _ _ g.0 in
    let len : n.0 ≡ length bs = omega (arith, ap length q.0, length-take n.0 n.1) in
    let whole : n.1 ≡ bs ++ rest = sym (take-append-drop n.0 n.1) ∙ rw (q.0, q.1) refl in
    subst (λ (x : List ℕ). IsLong (pos (length bs)) source x) whole (subst (λ (k : ℕ). IsLong (pos k) source n.1) len (size_takes source n.0 n.1 b.1))

pub bytes_again : (source bs rest : List ℕ) → IsBytes bs source rest → bytes_at source ≡ Some (bs, rest)
unfolding bytes_at
bytes_again source bs rest h =
    let long : ltb (length (bs ++ rest)) (length bs) ≡ false = le-ltb _ _ (omega (arith, length-append bs rest)) in
    rw (size_again source (length bs) (bs ++ rest) h, long, take_at bs rest (length bs) refl, drop_at bs rest (length bs) refl) refl

pub text_takes : (source bs rest : List ℕ) → text_at source ≡ Some (bs, rest) → IsText bs source rest
unfolding text_at
text_takes source bs rest e =
    let b = bind_some (bytes_at source) (λ bs. cond (is_utf8 bs.0) (Some bs) None) (bs, rest) e in
    let g = some_if (is_utf8 b.0.0) b.0 (bs, rest) b.2 in
    let q = parts_of b.0.0 bs b.0.1 rest g.1 in
    (rw (← q.0) (IsUtf8-from_is_utf8 b.0.0 g.0), bytes_takes source bs rest (b.1 ∙ ap Some g.1))

pub text_again : (source bs rest : List ℕ) → IsText bs source rest → text_at source ≡ Some (bs, rest)
unfolding text_at
text_again source bs rest h = rw (bytes_again source bs rest h.1, is_utf8-from_IsUtf8 bs h.0) refl

-- ---- blocks

head_takes : (source : List ℕ) (head : Head) (after : List ℕ) → head_at source ≡ Some (head, after)
    → (c : ℤ × List ℕ) × IsLong c.0 source c.1 × (unsigned_abs c.0 ≤ length c.1) × (head_from c ≡ Some (head, after))
unfolding head_at
head_takes source head after e =
    let b = bind_some (long_at source) (λ c. cond (ltb (length c.1) (unsigned_abs c.0)) None (head_from c)) (head, after) e in
    let g = none_if (ltb (length b.0.1) (unsigned_abs b.0.0)) (head_from b.0) (head, after) b.2 in
    (b.0, long_takes source b.0.0 b.0.1 b.1, ltb-false _ _ g.0, g.1)

head_again : (source : List ℕ) (count : ℤ) (left : List ℕ) → IsLong count source left → unsigned_abs count ≤ length left → head_at source ≡ head_from (count, left)
unfolding head_at
head_again source count left h within =
    let long : ltb (length left) (unsigned_abs count) ≡ false = le-ltb _ _ within in
    rw (long_again source count left h, long) refl

-- where a block ends, its count is 0
ends_at_zero : (c : ℤ) (left : List ℕ) (head : Head) (after : List ℕ) → head_from (c, left) ≡ Some (head, after) → head.count ≡ 0 → (c ≡ pos 0) × (left ≡ after)
ends_at_zero (pos n) left head after e none =
    let q = some_pair_parts (record { count = n; size = None }) head left after e in
    (ap pos (ap (λ (h : Head). h.count) q.0 ∙ none), q.1)
ends_at_zero (negsuc n) left head after e none =
    let m = map_some (size_at left) (λ x. (record { count = suc n; size = Some x.0 }, x.1)) (head, after) e in
    let q = parts_of (record { count = suc n; size = Some m.0.0 }) head m.0.1 after m.2 in
    let c : suc n ≡ head.count = ap (λ (h : Head). h.count) q.0 in
    absurd (omega arith)

module _ {X : Type 0} (P : X → List ℕ → List ℕ → Type 0) (R : List ℕ → Option (X × List ℕ)) where
  pub items_take : (each : (source : List ℕ) (x : X) (rest : List ℕ) → R source ≡ Some (x, rest) → P x source rest) (n : ℕ) (source : List ℕ) (xs : List X) (rest : List ℕ)
      → items_at R n source ≡ Some (xs, rest) → (length xs ≡ n) × AreItems P xs source rest
  unfolding items_at
  items_take each zero source xs rest e =
      subst (λ (p : List X × List ℕ). (length p.0 ≡ 0) × AreItems P p.0 source p.1) (same_Some ([], source) (xs, rest) e) (refl, refl)
  items_take each (suc n) source xs rest e =
      let b = bind_some (R source) (λ x. items_at R n x.1 >>= λ xs. Some (x.0 ∷ xs.0, xs.1)) (xs, rest) e in
      let d = bind_some (items_at R n b.0.1) (λ xs. Some (b.0.0 ∷ xs.0, xs.1)) (xs, rest) b.2 in
      let t = items_take each n b.0.1 d.0.0 d.0.1 d.1 in
      subst (λ (p : List X × List ℕ). (length p.0 ≡ suc n) × AreItems P p.0 source p.1) (same_Some (b.0.0 ∷ d.0.0, d.0.1) (xs, rest) d.2) (ap suc t.0, (b.0.1, each source b.0.0 b.0.1 b.1, t.1))

  pub items_again : (each : (source : List ℕ) (x : X) (rest : List ℕ) → P x source rest → R source ≡ Some (x, rest)) (xs : List X) (source rest : List ℕ)
      → AreItems P xs source rest → items_at R (length xs) source ≡ Some (xs, rest)
  unfolding items_at
  items_again each [] source rest h = rw h refl
  items_again each (x ∷ xs) source rest h = rw (each source x h.0 h.1, items_again each xs h.0 rest h.2) refl

  body_takes : (each : (source : List ℕ) (x : X) (rest : List ℕ) → R source ≡ Some (x, rest) → P x source rest) (head : Head) (source : List ℕ) (xs : List X) (rest : List ℕ)
      → body_at R head source ≡ Some (xs, rest) → (has_size head.size source rest ≡ true) × (length xs ≡ head.count) × AreItems P xs source rest
  unfolding body_at
  body_takes each head source xs rest e =
      let b = bind_some (items_at R head.count source) (λ xs. cond (has_size head.size source xs.1) (Some xs) None) (xs, rest) e in
      let g = some_if (has_size head.size source b.0.1) b.0 (xs, rest) b.2 in
      let t = items_take each head.count source b.0.0 b.0.1 b.1 in
      subst (λ (p : List X × List ℕ). (has_size head.size source p.1 ≡ true) × (length p.0 ≡ head.count) × AreItems P p.0 source p.1) g.1 (g.0, t.0, t.1)

  body_again : (each : (source : List ℕ) (x : X) (rest : List ℕ) → P x source rest → R source ≡ Some (x, rest)) (head : Head) (source : List ℕ) (xs : List X) (rest : List ℕ)
      → length xs ≡ head.count → has_size head.size source rest ≡ true → AreItems P xs source rest → body_at R head source ≡ Some (xs, rest)
  unfolding body_at
  body_again each head source xs rest len whole h = rw (← len, items_again each xs source rest h, whole) refl

  -- what stands after a head is a block's body
  after_head : (each : (source : List ℕ) (x : X) (rest : List ℕ) → R source ≡ Some (x, rest) → P x source rest) (count : ℤ) (left : List ℕ) (head : Head) (after : List ℕ) (xs : List X) (rest : List ℕ)
      → head_from (count, left) ≡ Some (head, after) → body_at R head after ≡ Some (xs, rest) → (length xs ≡ unsigned_abs count) × IsBody P count xs left rest
  after_head each (pos n) left head after xs rest h e =
      let q = some_pair_parts (record { count = n; size = None }) head left after h in
      let t = body_takes each head after xs rest e in
      let len : length xs ≡ n = t.1 ∙ sym (ap (λ (k : Head). k.count) q.0) in
      (len, (len, rw q.1 t.2))
  after_head each (negsuc n) left head after xs rest h e =
      let m = map_some (size_at left) (λ x. (record { count = suc n; size = Some x.0 }, x.1)) (head, after) h in
      let q = parts_of (record { count = suc n; size = Some m.0.0 }) head m.0.1 after m.2 in
      let t = body_takes each head after xs rest e in
      let len : length xs ≡ suc n = t.1 ∙ sym (ap (λ (k : Head). k.count) q.0) in
      let size-is : head.size ≡ Some m.0.0 = sym (ap (λ (k : Head). k.size) q.0) in
      let whole : has_size (Some m.0.0) after rest ≡ true = subst (λ (o : Option ℕ). has_size o after rest ≡ true) size-is t.0 in
      let number : IsLong (pos m.0.0) left after = subst (λ (x : List ℕ). IsLong (pos m.0.0) left x) q.1 (size_takes left m.0.0 m.0.1 m.1) in
      (len, (len, record { size = m.0.0; start = after; number = number; whole = eqb-true _ _ whole; each = t.2 }))

  block_again : (each : (source : List ℕ) (x : X) (rest : List ℕ) → P x source rest → R source ≡ Some (x, rest)) (count : ℤ) (left : List ℕ) (xs : List X) (rest : List ℕ)
      → IsBody P count xs left rest → (head : Head) × ((after : List ℕ) × (head_from (count, left) ≡ Some (head, after)) × (length xs ≡ head.count) × (body_at R head after ≡ Some (xs, rest)))
  block_again each (pos n) left xs rest h =
      let head : Head = record { count = n; size = None } in
      (head, (left, refl, h.0, body_again each head left xs rest h.0 refl h.1))
  block_again each (negsuc n) left xs rest h =
      let s = h.1 in
      let head : Head = record { count = suc n; size = Some s.size } in
      (head, (s.start, rw (size_again left s.size s.start s.number) refl, h.0, body_again each head s.start xs rest h.0 (eq-eqb _ _ s.whole) s.each))

  counted : (count : ℤ) (xs : List X) (left rest : List ℕ) → IsBody P count xs left rest → unsigned_abs count ≡ length xs
  counted (pos n) xs left rest h = sym h.0
  counted (negsuc n) xs left rest h = sym h.0

  -- a head that ends the blocks
  no_block : (source : List ℕ) (c : ℤ) (left : List ℕ) (head : Head) (after : List ℕ) → IsLong c source left → head_from (c, left) ≡ Some (head, after) → head.count ≡ 0 → IsBlocked P [] source after
  no_block source c left head after number h none =
      let z = ends_at_zero c left head after h none in
      let l : IsLong (pos 0) source left = subst (λ (k : ℤ). IsLong k source left) z.0 number in
      let m : IsLong (pos 0) source after = subst (λ (x : List ℕ). IsLong (pos 0) source x) z.1 l in
      ([], refl, m)

  -- a head, a body and later blocks
  one_block : (each : (source : List ℕ) (x : X) (rest : List ℕ) → R source ≡ Some (x, rest) → P x source rest) (source : List ℕ) (c : ℤ) (left : List ℕ) (head : Head) (after : List ℕ) (ys : List X) (middle : List ℕ) (zs : List X) (rest : List ℕ)
      → IsLong c source left → unsigned_abs c ≤ length left → head_from (c, left) ≡ Some (head, after) → (head.count ≡ 0 → ⊥) → body_at R head after ≡ Some (ys, middle) → IsBlocked P zs middle rest → IsBlocked P (ys ++ zs) source rest
  one_block each source c left head after ys middle zs rest number within h some body later =
      let t = after_head each c left head after ys middle h body in
      let len = (body_takes each head after ys middle body).1 in
      let block : IsBlock P ys source middle = record {
        count = c;
        left = left;
        some = λ none. some (sym len ∙ ap length none);
        number = number;
        within = omega (arith, t.0);
        body = t.1;
      } in
      (ys ∷ later.0, ap (λ (w : List X). ys ++ w) later.1, (middle, block, later.2))

  after_takes : (each : (source : List ℕ) (x : X) (rest : List ℕ) → R source ≡ Some (x, rest) → P x source rest) (source : List ℕ) (c : ℤ) (left : List ℕ) (head : Head) (after : List ℕ) (most : ℕ) (xs : List X) (rest : List ℕ)
      → ((source : List ℕ) (xs : List X) (rest : List ℕ) → blocks_at R most source ≡ Some (xs, rest) → IsBlocked P xs source rest)
      → IsLong c source left → unsigned_abs c ≤ length left → head_from (c, left) ≡ Some (head, after) → (b : Bool) → head.count == 0 ≡ b
      → cond {A = Option (List X × List ℕ)} b (Some ([], after)) (body_at R head after >>= λ ys. blocks_at R most ys.1 >>= λ zs. Some (ys.0 ++ zs.0, zs.1)) ≡ Some (xs, rest) → IsBlocked P xs source rest
  after_takes each source c left head after most xs rest later number within h true none e =
      subst (λ (p : List X × List ℕ). IsBlocked P p.0 source p.1) (same_Some ([], after) (xs, rest) e) (no_block source c left head after number h (eqb-true head.count 0 none))
  after_takes each source c left head after most xs rest later number within h false some e =
      let b = bind_some (body_at R head after) (λ ys. blocks_at R most ys.1 >>= λ zs. Some (ys.0 ++ zs.0, zs.1)) (xs, rest) e in
      let d = bind_some (blocks_at R most b.0.1) (λ zs. Some (b.0.0 ++ zs.0, zs.1)) (xs, rest) b.2 in
      subst (λ (p : List X × List ℕ). IsBlocked P p.0 source p.1) (same_Some (b.0.0 ++ d.0.0, d.0.1) (xs, rest) d.2)
      (one_block each source c left head after b.0.0 b.0.1 d.0.0 d.0.1 number within h (eqb-false head.count 0 some) b.1 (later b.0.1 d.0.0 d.0.1 d.1))

  pub blocks_take : (each : (source : List ℕ) (x : X) (rest : List ℕ) → R source ≡ Some (x, rest) → P x source rest) (most : ℕ) (source : List ℕ) (xs : List X) (rest : List ℕ)
      → blocks_at R most source ≡ Some (xs, rest) → IsBlocked P xs source rest
  unfolding blocks_at
  blocks_take each zero source xs rest e = absurd cc
  blocks_take each (suc most) source xs rest e =
      let b = bind_some (head_at source) (blocks_after R (blocks_at R most)) (xs, rest) e in
      let t = head_takes source b.0.0 b.0.1 b.1 in
      after_takes each source t.0.0 t.0.1 b.0.0 b.0.1 most xs rest (blocks_take each most) t.1 t.2 t.3 (b.0.0.count == 0) refl b.2

  pub blocks_again : (each : (source : List ℕ) (x : X) (rest : List ℕ) → P x source rest → R source ≡ Some (x, rest)) (follows : (x : X) (source rest : List ℕ) → P x source rest → Follows source rest) (blocks : List (List X)) (most : ℕ) (source rest : List ℕ)
      → length source < most → AreBlocks P blocks source rest → blocks_at R most source ≡ Some (flat_map (λ block. block) blocks, rest)
  unfolding blocks_at
  blocks_again each follows blocks zero source rest lt h = absurd (omega arith)
  blocks_again each follows [] (suc most) source rest lt h =
      rw (head_again source (pos 0) rest h (omega arith)) refl
  blocks_again each follows (ys ∷ blocks) (suc most) source rest lt h =
      let block = h.1 in
      let middle = h.0 in
      let abs = counted block.count ys block.left middle block.body in
      let b = block_again each block.count block.left ys middle block.body in
      let head : head_at source ≡ Some (b.0, b.1.0) = head_again source block.count block.left block.number (omega (arith, abs, block.within)) ∙ b.1.1 in
      let some : b.0.count == 0 ≡ false = ne_eqb b.0.count 0 (λ none. block.some (nil_from_length ys (b.1.2 ∙ none))) in
      let shorter = block_shorter P follows ys source middle block in
      rw (head, some, b.1.3, blocks_again each follows blocks most middle rest (omega arith) h.2) refl

-- all blocks of an array or a map
module _ {X : Type 0} (P : X → List ℕ → List ℕ → Type 0) (R : List ℕ → Option (X × List ℕ)) where
  pub all_blocks_take : (each : (source : List ℕ) (x : X) (rest : List ℕ) → R source ≡ Some (x, rest) → P x source rest) (source : List ℕ) (xs : List X) (rest : List ℕ)
      → all_blocks_at R source ≡ Some (xs, rest) → IsBlocked P xs source rest
  unfolding all_blocks_at
  all_blocks_take each source xs rest e = blocks_take P R each (suc (length source)) source xs rest e

  pub all_blocks_again : (each : (source : List ℕ) (x : X) (rest : List ℕ) → P x source rest → R source ≡ Some (x, rest)) (follows : (x : X) (source rest : List ℕ) → P x source rest → Follows source rest) (source : List ℕ) (xs : List X) (rest : List ℕ)
      → IsBlocked P xs source rest → all_blocks_at R source ≡ Some (xs, rest)
  unfolding all_blocks_at
  all_blocks_again each follows source xs rest h =
      blocks_again P R each follows h.0 (suc (length source)) source rest (omega arith) h.2 ∙ ap (λ ys. Some (ys, rest)) (sym h.1)

-- ---- data

module _ (P : Data → List ℕ → List ℕ → Type 0) (R : List ℕ → Option (Data × List ℕ)) where
  entry_takes : ((source : List ℕ) (d : Data) (rest : List ℕ) → R source ≡ Some (d, rest) → P d source rest) → (source : List ℕ) (e : List ℕ × Data) (rest : List ℕ)
      → entry_at R source ≡ Some (e, rest) → IsEntry P e source rest
  unfolding entry_at
  entry_takes each source e rest h =
      let b = bind_some (text_at source) (λ key. R key.1 >>= λ value. Some ((key.0, value.0), value.1)) (e, rest) h in
      let d = bind_some (R b.0.1) (λ value. Some ((b.0.0, value.0), value.1)) (e, rest) b.2 in
      subst (λ (p : (List ℕ × Data) × List ℕ). IsEntry P p.0 source p.1) (same_Some ((b.0.0, d.0.0), d.0.1) (e, rest) d.2)
      (b.0.1, text_takes source b.0.0 b.0.1 b.1, each b.0.1 d.0.0 d.0.1 d.1)

  entry_again : ((source : List ℕ) (d : Data) (rest : List ℕ) → P d source rest → R source ≡ Some (d, rest)) → (source : List ℕ) (e : List ℕ × Data) (rest : List ℕ)
      → IsEntry P e source rest → entry_at R source ≡ Some (e, rest)
  unfolding entry_at
  entry_again each source e rest h = rw (text_again source e.0 h.0 h.1, each h.0 e.1 rest h.2) refl

pub items-items_of : (ds : List Data) → items (items_of ds) ≡ ds
items-items_of [] = refl
items-items_of (d ∷ ds) = ap (λ (xs : List Data). d ∷ xs) (items-items_of ds)

pub items_of-items : (ds : Items) → items_of (items ds) ≡ ds
items_of-items no_items = refl
items_of-items (item d ds) = ap (item d) (items_of-items ds)

pub entries-entries_of : (es : List (List ℕ × Data)) → entries (entries_of es) ≡ es
entries-entries_of [] = refl
entries-entries_of (e ∷ es) = ap (λ (xs : List (List ℕ × Data)). e ∷ xs) (entries-entries_of es)

pub entries_of-entries : (es : Entries) → entries_of (entries es) ≡ es
entries_of-entries no_entries = refl
entries_of-entries (entry key d es) = ap (entry key d) (entries_of-entries es)

-- what was seen as a datum
seen : {Y : Type 0} (make : Y → Data) (read : Option (Y × List ℕ)) (d : Data) (rest : List ℕ) → seen_as make read ≡ Some (d, rest) → (y : Y) × (read ≡ Some (y, rest)) × (make y ≡ d)
seen make None d rest e = absurd cc
seen make (Some y) d rest e =
    let q = some_pair_parts (make y.0) d y.1 rest e in
    (y.0, ap Some (pair_is y y.0 rest refl q.1), q.0)

mutual
  unfolding datum_at fields_at branch_at

  -- what is read is a datum
  pub datum_takes : (t : Avro) (source : List ℕ) (d : Data) (rest : List ℕ) → datum_at t source ≡ Some (d, rest) → IsDatum t d source rest
  datum_takes types.null source d rest e =
      let q = some_pair_parts null d source rest e in subst (λ (x : Data). IsDatum types.null x source rest) q.0 q.1
  datum_takes types.boolean source d rest e =
      let s = seen boolean (boolean_at source) d rest e in subst (λ (x : Data). IsDatum types.boolean x source rest) s.2 (boolean_takes source s.0 rest s.1)
  datum_takes types.int source d rest e =
      let s = seen int (int_at source) d rest e in subst (λ (x : Data). IsDatum types.int x source rest) s.2 (int_takes source s.0 rest s.1)
  datum_takes types.long source d rest e =
      let s = seen long (long_at source) d rest e in subst (λ (x : Data). IsDatum types.long x source rest) s.2 (long_takes source s.0 rest s.1)
  datum_takes types.bytes source d rest e =
      let s = seen bytes (bytes_at source) d rest e in subst (λ (x : Data). IsDatum types.bytes x source rest) s.2 (bytes_takes source s.0 rest s.1)
  datum_takes types.text source d rest e =
      let s = seen text (text_at source) d rest e in subst (λ (x : Data). IsDatum types.text x source rest) s.2 (text_takes source s.0 rest s.1)
  datum_takes (types.record_of fs) source d rest e =
      let s = seen (λ ds. record_of (items_of ds)) (fields_at fs source) d rest e in
      subst (λ (x : Data). IsDatum (types.record_of fs) x source rest) s.2 (fields_take fs source s.0 rest s.1)
  datum_takes (types.array_of t) source d rest e =
      let s = seen (λ ds. array_of (items_of ds)) (all_blocks_at (datum_at t) source) d rest e in
      let h = all_blocks_take (IsDatum t) (datum_at t) (datum_takes t) source s.0 rest s.1 in
      subst (λ (x : Data). IsDatum (types.array_of t) x source rest) s.2 (subst (λ (ds : List Data). IsBlocked (IsDatum t) ds source rest) (sym (items-items_of s.0)) h)
  datum_takes (types.map_of t) source d rest e =
      let s = seen (λ es. map_of (entries_of es)) (all_blocks_at (entry_at (datum_at t)) source) d rest e in
      let h = all_blocks_take (IsEntry (IsDatum t)) (entry_at (datum_at t)) (entry_takes (IsDatum t) (datum_at t) (datum_takes t)) source s.0 rest s.1 in
      subst (λ (x : Data). IsDatum (types.map_of t) x source rest) s.2 (subst (λ (es : List (List ℕ × Data)). IsBlocked (IsEntry (IsDatum t)) es source rest) (sym (entries-entries_of s.0)) h)
  datum_takes (types.union_of ts) source d rest e =
      let b = bind_some (index_at source) (λ k. branch_at ts k.0 k.1 >>= λ d. Some (union_of k.0 d.0, d.1)) (d, rest) e in
      let c = bind_some (branch_at ts b.0.0 b.0.1) (λ d. Some (union_of b.0.0 d.0, d.1)) (d, rest) b.2 in
      subst (λ (p : Data × List ℕ). IsDatum (types.union_of ts) p.0 source p.1) (same_Some (union_of b.0.0 c.0.0, c.0.1) (d, rest) c.2)
      (b.0.1, index_takes source b.0.0 b.0.1 b.1, branch_takes ts b.0.0 b.0.1 c.0.0 c.0.1 c.1)

  fields_take : (fs : Fields) (source : List ℕ) (ds : List Data) (rest : List ℕ) → fields_at fs source ≡ Some (ds, rest) → AreFields fs (items_of ds) source rest
  fields_take no_fields source ds rest e = subst (λ (p : List Data × List ℕ). AreFields no_fields (items_of p.0) source p.1) (same_Some ([], source) (ds, rest) e) refl
  fields_take (field name t fs) source ds rest e =
      let b = bind_some (datum_at t source) (λ d. fields_at fs d.1 >>= λ ds. Some (d.0 ∷ ds.0, ds.1)) (ds, rest) e in
      let c = bind_some (fields_at fs b.0.1) (λ ds. Some (b.0.0 ∷ ds.0, ds.1)) (ds, rest) b.2 in
      subst (λ (p : List Data × List ℕ). AreFields (field name t fs) (items_of p.0) source p.1) (same_Some (b.0.0 ∷ c.0.0, c.0.1) (ds, rest) c.2)
      (b.0.1, datum_takes t source b.0.0 b.0.1 b.1, fields_take fs b.0.1 c.0.0 c.0.1 c.1)

  branch_takes : (ts : Branches) (k : ℕ) (source : List ℕ) (d : Data) (rest : List ℕ) → branch_at ts k source ≡ Some (d, rest) → IsBranch ts k d source rest
  branch_takes no_branches k source d rest e = absurd cc
  branch_takes (branch t ts) zero source d rest e = datum_takes t source d rest e
  branch_takes (branch t ts) (suc k) source d rest e = branch_takes ts k source d rest e

mutual
  unfolding datum_at fields_at branch_at

  -- a datum is read
  pub datum_again : (t : Avro) (d : Data) (source rest : List ℕ) → IsDatum t d source rest → datum_at t source ≡ Some (d, rest)
  datum_again types.null null source rest h = ap (λ (x : List ℕ). Some (null, x)) h
  datum_again types.boolean (boolean b) source rest h = rw (boolean_again source b rest h) refl
  datum_again types.int (int z) source rest h = rw (int_again source z rest h) refl
  datum_again types.long (long z) source rest h = rw (long_again source z rest h) refl
  datum_again types.bytes (bytes bs) source rest h = rw (bytes_again source bs rest h) refl
  datum_again types.text (text bs) source rest h = rw (text_again source bs rest h) refl
  datum_again (types.record_of fs) (record_of ds) source rest h = rw (fields_again fs ds source rest h) (ap (λ xs. Some (record_of xs, rest)) (items_of-items ds))
  datum_again (types.array_of t) (array_of ds) source rest h =
      rw (all_blocks_again (IsDatum t) (datum_at t) (λ source d rest. datum_again t d source rest) (datum_follows t) source (items ds) rest h) (ap (λ xs. Some (array_of xs, rest)) (items_of-items ds))
  datum_again (types.map_of t) (map_of es) source rest h =
      rw (all_blocks_again (IsEntry (IsDatum t)) (entry_at (datum_at t)) (entry_again (IsDatum t) (datum_at t) (λ source d rest. datum_again t d source rest)) (entry_follows t) source (entries es) rest h) (ap (λ xs. Some (map_of xs, rest)) (entries_of-entries es))
  datum_again (types.union_of ts) (union_of k d) source rest h = rw (index_again source k h.0 h.1, branch_again ts k d h.0 rest h.2) refl
  datum_again t d source rest h = absurd h

  fields_again : (fs : Fields) (ds : Items) (source rest : List ℕ) → AreFields fs ds source rest → fields_at fs source ≡ Some (items ds, rest)
  fields_again no_fields no_items source rest h = ap (λ (x : List ℕ). Some ([], x)) h
  fields_again (field name t fs) (item d ds) source rest h = rw (datum_again t d source h.0 h.1, fields_again fs ds h.0 rest h.2) refl
  fields_again fs ds source rest h = absurd h

  branch_again : (ts : Branches) (k : ℕ) (d : Data) (source rest : List ℕ) → IsBranch ts k d source rest → branch_at ts k source ≡ Some (d, rest)
  branch_again no_branches k d source rest h = absurd h
  branch_again (branch t ts) zero d source rest h = datum_again t d source rest h
  branch_again (branch t ts) (suc k) d source rest h = branch_again ts k d source rest h

-- ---- what is read is shorter

pub datum_shrinks : (t : Avro) (source : List ℕ) (d : Data) (rest : List ℕ) → datum_at t source ≡ Some (d, rest) → length rest ≤ length source
datum_shrinks t source d rest e = Follows-shorter source rest (datum_follows t d source rest (datum_takes t source d rest e))

pub entry_shrinks : (t : Avro) (source : List ℕ) (e : List ℕ × Data) (rest : List ℕ) → entry_at (datum_at t) source ≡ Some (e, rest) → length rest ≤ length source
entry_shrinks t source e rest h =
    Follows-shorter source rest (entry_follows t e source rest (entry_takes (IsDatum t) (datum_at t) (datum_takes t) source e rest h))

after_shrinks : (c : ℤ) (left : List ℕ) (head : Head) (after : List ℕ) → head_from (c, left) ≡ Some (head, after) → length after ≤ length left
after_shrinks (pos n) left head after e = let q = some_pair_parts (record { count = n; size = None }) head left after e in omega (arith, ap length q.1)
after_shrinks (negsuc n) left head after e =
    let m = map_some (size_at left) (λ x. (record { count = suc n; size = Some x.0 }, x.1)) (head, after) e in
    let q = parts_of (record { count = suc n; size = Some m.0.0 }) head m.0.1 after m.2 in
    let shorter = groups_shorter left _ m.0.1 (size_takes left m.0.0 m.0.1 m.1).groups in
    omega (arith, ap length q.1)

pub head_shrinks : (source : List ℕ) (head : Head) (after : List ℕ) → head_at source ≡ Some (head, after) → length after < length source
head_shrinks source head after e =
    let t = head_takes source head after e in
    omega (arith, groups_shorter source _ t.0.1 t.1.groups, after_shrinks t.0.0 t.0.1 head after t.3)

module _ {X : Type 0} (R : List ℕ → Option (X × List ℕ)) (each : (source : List ℕ) (x : X) (rest : List ℕ) → R source ≡ Some (x, rest) → length rest ≤ length source) where
  items_shrink : (n : ℕ) (source : List ℕ) (xs : List X) (rest : List ℕ) → items_at R n source ≡ Some (xs, rest) → length rest ≤ length source
  unfolding items_at
  items_shrink zero source xs rest e = let q = some_pair_parts [] xs source rest e in omega (arith, ap length q.1)
  items_shrink (suc n) source xs rest e =
      let b = bind_some (R source) (λ x. items_at R n x.1 >>= λ xs. Some (x.0 ∷ xs.0, xs.1)) (xs, rest) e in
      let d = bind_some (items_at R n b.0.1) (λ xs. Some (b.0.0 ∷ xs.0, xs.1)) (xs, rest) b.2 in
      let q = some_pair_parts (b.0.0 ∷ d.0.0) xs d.0.1 rest d.2 in
      omega (arith, each source b.0.0 b.0.1 b.1, items_shrink n b.0.1 d.0.0 d.0.1 d.1, ap length q.1)

  pub body_shrinks : (head : Head) (source : List ℕ) (xs : List X) (rest : List ℕ) → body_at R head source ≡ Some (xs, rest) → length rest ≤ length source
  unfolding body_at
  body_shrinks head source xs rest e =
      let b = bind_some (items_at R head.count source) (λ xs. cond (has_size head.size source xs.1) (Some xs) None) (xs, rest) e in
      let g = some_if (has_size head.size source b.0.1) b.0 (xs, rest) b.2 in
      let q = parts_of b.0.0 xs b.0.1 rest g.1 in
      omega (arith, items_shrink head.count source b.0.0 b.0.1 b.1, ap length q.1)
