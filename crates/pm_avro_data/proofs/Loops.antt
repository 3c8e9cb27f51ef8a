-- Reading one thing after another, as a loop does.
use Rattle.std.proofs.Common.{◌≡◌, ℕ, zero, suc, ◌+◌, ◌-◌, ◌<◌, ◌≤◌, Bool, true, false}
use Rattle.std.proofs.Common.{cond, List, [], ◌∷◌, ◌++◌, length, get_or, drop, Option, Some}
use Rattle.std.proofs.Common.{None, refl, sym, ap, ◌∙◌, append_assoc, add-one, arith}
use Rattle.std.proofs.Math.Seq.{drop-cons}
use Rattle.std.proofs.Math.ListN.{drop_of_length-le}
use Rattle.std.proofs.lemmas.Bool.{eq-eqb, ne_eqb}
use Rattle.std.proofs.lemmas.List.{append-nil}
use Rattle.std.proofs.lemmas.Option.{some_pair_parts}
use Rattle.pm_avro_schema.specs.Avro.{Avro, Fields, no_fields, field}
use Rattle.pm_avro_schema.specs.View as types
use Rattle.pm_avro_schema.specs.declared.kind.AvroType.{AvroType}
use Rattle.pm_avro_schema.specs.declared.fault.AvroFault.{AvroFault}
use Rattle.pm_avro_schema.specs.declared.fault.AvroFault.TheVariants as faults
use Rattle.pm_avro_data.specs.declared.block.Head.{Head}
use Rattle.pm_avro_data.specs.Datum.{Data}
use Rattle.pm_avro_data.proofs.Readings.{head_shrinks, body_shrinks}
use Rattle.pm_base.specs.Steps.{◌>>=◌}
use Rattle.pm_avro_data.specs.Reading.{YieldsNone, with_earlier, has_size, items_at, body_at, blocks_at}
use Rattle.pm_avro_data.specs.Reading.{all_blocks_at, head_at, datum_at, fields_at, branch_at}

pub drop_next : {X : Type 0} (xs : List X) (i : ℕ) (x : X) → i < length xs → x ≡ get_or xs i x → drop i xs ≡ x ∷ drop (i + 1) xs
drop_next xs i x lt is = drop-cons xs i x lt ∙ ap (λ y. y ∷ drop (suc i) xs) (sym is) ∙ rw (← add-one) refl

pub drop_none : {X : Type 0} (xs : List X) (i : ℕ) → length xs ≤ i → drop i xs ≡ []
drop_none xs i le = drop_of_length-le xs le

with_earlier-cons : {X : Type 0} (earlier : List X) (x : X) (read : Option (List X × List ℕ)) → with_earlier earlier (read >>= λ xs. Some (x ∷ xs.0, xs.1)) ≡ with_earlier (earlier ++ x ∷ []) read
with_earlier-cons earlier x None = refl
with_earlier-cons earlier x (Some xs) = ap (λ ys. Some (ys, xs.1)) (simp append_assoc)

-- a fault at one is a fault of all
pub fails_all : {X : Type 0} (e : AvroFault) (one : Option X) → YieldsNone e one → {Y : Type 0} (all : Option Y) → (one ≡ None → all ≡ None) → YieldsNone e all
fails_all faults.Memory one fails all h = tt
fails_all (faults.Unsupported what said) one fails all h = fails
fails_all (faults.Bad offset) one fails all h = (fails.0, h fails.1)

-- ---- a record's fields

pub fields_more : (earlier : List Data) (name : List ℕ) (t : Avro) (fs : Fields) (source : List ℕ) (d : Data) (after : List ℕ) (total : Option (List Data × List ℕ))
    → datum_at t source ≡ Some (d, after) → with_earlier earlier (fields_at (field name t fs) source) ≡ total → with_earlier (earlier ++ d ∷ []) (fields_at fs after) ≡ total
unfolding datum_at fields_at
fields_more earlier name t fs source d after total one so_far =
    let step : with_earlier earlier (fields_at (field name t fs) source) ≡ with_earlier earlier (fields_at fs after >>= λ ds. Some (d ∷ ds.0, ds.1)) = rw one refl in
    sym (with_earlier-cons earlier d (fields_at fs after)) ∙ sym step ∙ so_far

pub fields_fail : (earlier : List Data) (name : List ℕ) (t : Avro) (fs : Fields) (source : List ℕ) (total : Option (List Data × List ℕ))
    → with_earlier earlier (fields_at (field name t fs) source) ≡ total → datum_at t source ≡ None → total ≡ None
unfolding datum_at fields_at
fields_fail earlier name t fs source total so_far none =
    let step : with_earlier earlier (fields_at (field name t fs) source) ≡ None = rw none refl in
    sym so_far ∙ step

pub fields_end : (earlier : List Data) (source : List ℕ) (total : Option (List Data × List ℕ)) → with_earlier earlier (fields_at no_fields source) ≡ total → total ≡ Some (earlier, source)
unfolding datum_at fields_at
fields_end earlier source total so_far = sym so_far ∙ ap (λ ds. Some (ds, source)) (append-nil earlier)

-- ---- a union's branch

pub branch_found : (ts : List AvroType) (k : ℕ) (t : AvroType) (source : List ℕ) → k < length ts → t ≡ get_or ts k t → branch_at (types.branches_view ts) k source ≡ datum_at (types.view t) source
unfolding datum_at branch_at
branch_found [] k t source lt is = absurd (omega arith)
branch_found (u ∷ ts) zero t source lt is = ap (λ v. datum_at (types.view v) source) (sym is)
branch_found (u ∷ ts) (suc k) t source lt is = branch_found ts k t source (omega arith) is

pub branch_missing : (ts : List AvroType) (k : ℕ) (source : List ℕ) → length ts ≤ k → branch_at (types.branches_view ts) k source ≡ None
unfolding datum_at branch_at
branch_missing [] k source le = refl
branch_missing (u ∷ ts) zero source le = absurd (omega arith)
branch_missing (u ∷ ts) (suc k) source le = branch_missing ts k source (omega arith)

-- ---- a block's items

module _ {X : Type 0} (P : List ℕ → Option (X × List ℕ)) (earlier : List X) where
  pub items_more : (n i : ℕ) (source : List ℕ) (x : X) (after : List ℕ) (total : Option (List X × List ℕ)) → i < n → P source ≡ Some (x, after)
      → with_earlier earlier (items_at P (n - i) source) ≡ total → with_earlier (earlier ++ x ∷ []) (items_at P (n - (i + 1)) after) ≡ total
  unfolding items_at
  items_more n i source x after total lt one so_far =
      let k : n - i ≡ suc (n - (i + 1)) = omega arith in
      let step : with_earlier earlier (items_at P (n - i) source) ≡ with_earlier earlier (items_at P (n - (i + 1)) after >>= λ xs. Some (x ∷ xs.0, xs.1)) = rw (k, one) refl in
      sym (with_earlier-cons earlier x (items_at P (n - (i + 1)) after)) ∙ sym step ∙ so_far

  pub items_fail : (n i : ℕ) (source : List ℕ) (total : Option (List X × List ℕ)) → i < n → with_earlier earlier (items_at P (n - i) source) ≡ total → P source ≡ None → total ≡ None
  unfolding items_at
  items_fail n i source total lt so_far none =
      let k : n - i ≡ suc (n - (i + 1)) = omega arith in
      let step : with_earlier earlier (items_at P (n - i) source) ≡ None = rw (k, none) refl in
      sym so_far ∙ step

  pub items_end : (n i : ℕ) (source : List ℕ) (total : Option (List X × List ℕ)) → n ≤ i → with_earlier earlier (items_at P (n - i) source) ≡ total → total ≡ Some (earlier, source)
  unfolding items_at
  items_end n i source total le so_far =
      let k : n - i ≡ 0 = omega arith in
      let step : with_earlier earlier (items_at P (n - i) source) ≡ Some (earlier, source) = rw k (ap (λ xs. Some (xs, source)) (append-nil earlier)) in
      sym so_far ∙ step

none_later : {X : Type 0} (earlier : List X) (read : Option (List X × List ℕ)) → with_earlier earlier read ≡ None → read ≡ None
none_later earlier None e = refl
none_later earlier (Some x) e = absurd cc

failed : {X : Type 0} (earlier : List X) (read : Option (List X × List ℕ)) (f : List X × List ℕ → Option (List X × List ℕ)) → with_earlier earlier read ≡ None → with_earlier earlier (read >>= f) ≡ None
failed earlier None f e = refl
failed earlier (Some x) f e = absurd cc

with_earlier-cond : {X : Type 0} (earlier : List X) (b : Bool) (xs : List X) (rest : List ℕ) → with_earlier earlier (cond b (Some (xs, rest)) None) ≡ cond b (Some (earlier ++ xs, rest)) None
with_earlier-cond earlier true xs rest = refl
with_earlier-cond earlier false xs rest = refl

-- a test of the rest sees the same rest after earlier items
tested : {X : Type 0} (earlier : List X) (test : List ℕ → Bool) (read : Option (List X × List ℕ)) (xs : List X) (rest : List ℕ) → with_earlier earlier read ≡ Some (xs, rest)
    → with_earlier earlier (read >>= λ x. cond (test x.1) (Some x) None) ≡ cond (test rest) (Some (xs, rest)) None
tested earlier test None xs rest e = absurd cc
tested earlier test (Some x) xs rest e =
    let p = some_pair_parts (earlier ++ x.0) xs x.1 rest e in
    rw (← p.0, ← p.1) (with_earlier-cond earlier (test x.1) x.0 x.1)

pub body_whole : {X : Type 0} (P : List ℕ → Option (X × List ℕ)) (earlier : List X) (head : Head) (source : List ℕ) (xs : List X) (rest : List ℕ)
    → has_size head.size source rest ≡ true → with_earlier earlier (items_at P head.count source) ≡ Some (xs, rest) → with_earlier earlier (body_at P head source) ≡ Some (xs, rest)
unfolding body_at
body_whole P earlier head source xs rest whole e = tested earlier (has_size head.size source) (items_at P head.count source) xs rest e ∙ rw whole refl

pub body_partial : {X : Type 0} (P : List ℕ → Option (X × List ℕ)) (earlier : List X) (head : Head) (source : List ℕ) (xs : List X) (rest : List ℕ)
    → has_size head.size source rest ≡ false → with_earlier earlier (items_at P head.count source) ≡ Some (xs, rest) → with_earlier earlier (body_at P head source) ≡ None
unfolding body_at
body_partial P earlier head source xs rest part e = tested earlier (has_size head.size source) (items_at P head.count source) xs rest e ∙ rw part refl

pub body_fail : {X : Type 0} (P : List ℕ → Option (X × List ℕ)) (earlier : List X) (head : Head) (source : List ℕ)
    → with_earlier earlier (items_at P head.count source) ≡ None → with_earlier earlier (body_at P head source) ≡ None
unfolding body_at
body_fail P earlier head source e = failed earlier (items_at P head.count source) (λ x. cond (has_size head.size source x.1) (Some x) None) e

-- ---- blocks

-- the parts of what was read after earlier items
split_earlier : {X : Type 0} (earlier : List X) (read : Option (List X × List ℕ)) (xs : List X) (rest : List ℕ) → with_earlier earlier read ≡ Some (xs, rest) → (ys : List X) × (read ≡ Some (ys, rest)) × (xs ≡ earlier ++ ys)
split_earlier earlier None xs rest e = absurd cc
split_earlier earlier (Some x) xs rest e =
    let p = some_pair_parts (earlier ++ x.0) xs x.1 rest e in
    (x.0, ap (λ r. Some (x.0, r)) p.1, sym p.0)

with_earlier-append : {X : Type 0} (earlier xs : List X) (read : Option (List X × List ℕ)) → with_earlier earlier (read >>= λ ys. Some (xs ++ ys.0, ys.1)) ≡ with_earlier (earlier ++ xs) read
with_earlier-append earlier xs None = refl
with_earlier-append earlier xs (Some ys) = ap (λ zs. Some (zs, ys.1)) (sym (append_assoc earlier xs ys.0))

module _ {X : Type 0} (P : List ℕ → Option (X × List ℕ)) (earlier : List X) where
  blocks_step : (most : ℕ) (source : List ℕ) (head : Head) (after : List ℕ) (ys : List X) (rest : List ℕ)
      → head_at source ≡ Some (head, after) → (head.count ≡ 0 → ⊥) → body_at P head after ≡ Some (ys, rest)
      → with_earlier earlier (blocks_at P (suc most) source) ≡ with_earlier (earlier ++ ys) (blocks_at P most rest)
  unfolding blocks_at
  blocks_step most source head after ys rest h some body = rw (h, ne_eqb head.count 0 some, body) (with_earlier-append earlier ys (blocks_at P most rest))

  pub blocks_more : (most : ℕ) (source : List ℕ) (head : Head) (after : List ℕ) (xs : List X) (rest : List ℕ) (total : Option (List X × List ℕ))
      → head_at source ≡ Some (head, after) → (head.count ≡ 0 → ⊥) → with_earlier earlier (body_at P head after) ≡ Some (xs, rest)
      → with_earlier earlier (blocks_at P (suc most) source) ≡ total → with_earlier xs (blocks_at P most rest) ≡ total
  blocks_more most source head after xs rest total h some body so_far =
      let b = split_earlier earlier (body_at P head after) xs rest body in
      rw b.2 (sym (blocks_step most source head after b.0 rest h some b.1) ∙ so_far)

  pub blocks_end : (most : ℕ) (source : List ℕ) (head : Head) (after : List ℕ) (total : Option (List X × List ℕ))
      → head_at source ≡ Some (head, after) → head.count ≡ 0 → with_earlier earlier (blocks_at P (suc most) source) ≡ total → total ≡ Some (earlier, after)
  unfolding blocks_at
  blocks_end most source head after total h none so_far =
      let step : with_earlier earlier (blocks_at P (suc most) source) ≡ Some (earlier, after) = rw (h, eq-eqb head.count 0 none) (ap (λ ys. Some (ys, after)) (append-nil earlier)) in
      sym so_far ∙ step

  pub blocks_headless : (most : ℕ) (source : List ℕ) (total : Option (List X × List ℕ))
      → with_earlier earlier (blocks_at P (suc most) source) ≡ total → head_at source ≡ None → total ≡ None
  unfolding blocks_at
  blocks_headless most source total so_far none =
      let step : with_earlier earlier (blocks_at P (suc most) source) ≡ None = rw none refl in
      sym so_far ∙ step

  pub blocks_fail : (most : ℕ) (source : List ℕ) (head : Head) (after : List ℕ) (total : Option (List X × List ℕ))
      → head_at source ≡ Some (head, after) → (head.count ≡ 0 → ⊥) → with_earlier earlier (blocks_at P (suc most) source) ≡ total
      → with_earlier earlier (body_at P head after) ≡ None → total ≡ None
  unfolding blocks_at
  blocks_fail most source head after total h some so_far none =
      let b = none_later earlier (body_at P head after) none in
      let step : with_earlier earlier (blocks_at P (suc most) source) ≡ None = rw (h, ne_eqb head.count 0 some, b) refl in
      sym so_far ∙ step

-- what was read of the source in blocks, and its rest, which has fewer blocks than are still looked for
abbrev pub OnTheWay : {X : Type 0} → (List ℕ → Option (X × List ℕ)) → List X → List ℕ → List ℕ → Type 0
OnTheWay P earlier rest source = (most : ℕ) × (length rest < most) × (with_earlier earlier (blocks_at P most rest) ≡ all_blocks_at P source)

with_earlier-nil : {X : Type 0} (read : Option (List X × List ℕ)) → with_earlier [] read ≡ read
with_earlier-nil None = refl
with_earlier-nil (Some x) = refl

module _ {X : Type 0} (P : List ℕ → Option (X × List ℕ)) where
  pub way_start : (source : List ℕ) → OnTheWay P [] source source
  unfolding all_blocks_at
  way_start source = (suc (length source), omega arith, with_earlier-nil (blocks_at P (suc (length source)) source))

module _ {X : Type 0} (P : List ℕ → Option (X × List ℕ)) (each : (source : List ℕ) (x : X) (rest : List ℕ) → P source ≡ Some (x, rest) → length rest ≤ length source)
    (earlier : List X) (source : List ℕ) (all : List ℕ) where
  pub way_more : (head : Head) (after : List ℕ) (xs : List X) (rest : List ℕ) → OnTheWay P earlier source all → head_at source ≡ Some (head, after) → (head.count ≡ 0 → ⊥)
      → with_earlier earlier (body_at P head after) ≡ Some (xs, rest) → OnTheWay P xs rest all
  way_more head after xs rest (zero, lt, reads) h some body = absurd (omega arith)
  way_more head after xs rest (suc most, lt, reads) h some body =
      let b = split_earlier earlier (body_at P head after) xs rest body in
      (most, omega (arith, head_shrinks source head after h, body_shrinks P each head after b.0 rest b.1), blocks_more P earlier most source head after xs rest (all_blocks_at P all) h some body reads)

  pub way_shorter : (head : Head) (after : List ℕ) (xs : List X) (rest : List ℕ) → head_at source ≡ Some (head, after) → with_earlier earlier (body_at P head after) ≡ Some (xs, rest) → length rest < length source
  way_shorter head after xs rest h body =
      let b = split_earlier earlier (body_at P head after) xs rest body in
      omega (arith, head_shrinks source head after h, body_shrinks P each head after b.0 rest b.1)

  pub way_end : (head : Head) (after : List ℕ) → OnTheWay P earlier source all → head_at source ≡ Some (head, after) → head.count ≡ 0 → all_blocks_at P all ≡ Some (earlier, after)
  way_end head after (zero, lt, reads) h none = absurd (omega arith)
  way_end head after (suc most, lt, reads) h none = blocks_end P earlier most source head after (all_blocks_at P all) h none reads

  pub way_headless : OnTheWay P earlier source all → head_at source ≡ None → all_blocks_at P all ≡ None
  way_headless (zero, lt, reads) none = absurd (omega arith)
  way_headless (suc most, lt, reads) none = blocks_headless P earlier most source (all_blocks_at P all) reads none

  pub way_fails : (head : Head) (after : List ℕ) → OnTheWay P earlier source all → head_at source ≡ Some (head, after) → (head.count ≡ 0 → ⊥) → with_earlier earlier (body_at P head after) ≡ None → all_blocks_at P all ≡ None
  way_fails head after (zero, lt, reads) h some none = absurd (omega arith)
  way_fails head after (suc most, lt, reads) h some none = blocks_fail P earlier most source head after (all_blocks_at P all) h some reads none
