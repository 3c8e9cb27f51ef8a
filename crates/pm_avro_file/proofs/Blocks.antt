-- Blocks: what was read makes one, and each that stands there is of what was read.
use Rattle.std.proofs.Common.{◌≡◌, ℕ, ◌+◌, ◌-◌, ◌<◌, ◌≤◌, List, [], ◌∷◌, ◌++◌, length, take, drop}
use Rattle.std.proofs.Common.{refl, sym, ap, subst, ◌∙◌, append_assoc, ◌⊎◌, inl, inr, arith}
use Rattle.std.proofs.lemmas.List.{length-append, length-drop, length-take-le}
use Rattle.std.proofs.lemmas.List.{take-append-drop, append_cancel_left, drop_at}
use Rattle.std.proofs.Math.Seq.{take-append_seam}
use Rattle.pm_avro_schema.specs.Avro.{Avro}
use Rattle.pm_avro_data.specs.Datum.{Data}
use Rattle.pm_avro_data.specs.IsDatum.{IsDatum, AreItems}
use Rattle.pm_avro_data.proofs.Facts.{Follows}
use Rattle.pm_avro_file.specs.Container.{IsBlock}
use Rattle.pm_avro_file.specs.Part.{IsSize, AreData}
use Rattle.pm_avro_file.specs.Reader.{HasBlock}
use Rattle.pm_avro_file.proofs.Items.{items_split, items_one}
use Rattle.pm_avro_file.proofs.Parts.{datum_one, size_one, size_follows, size_shorter, at_end}

-- ---- the data of a block

-- no datum stands after those that were read, and more are asked
pub data_missing : (t : Avro) (count : ℕ) (xs : List Data) (source middle : List ℕ) → AreItems (IsDatum t) xs source middle → length xs < count
    → ((d : Data) (rest : List ℕ) → IsDatum t d middle rest → ⊥) → (ds : List Data) (rest : List ℕ) → AreData t count ds source rest → ⊥
data_missing t count xs source middle h few none ds rest a =
    let m = items_split (IsDatum t) (datum_one t) xs ds source middle [] h a.1 (omega (arith, a.0)) in
    let more : length ds ≡ length xs + length m.0 = ap length m.1 ∙ length-append xs m.0 in
    missing m.0 m.2 (omega (arith, a.0))
  where
    missing : (more : List Data) → AreItems (IsDatum t) more middle [] → 0 < length more → ⊥
    missing [] k some = absurd (omega arith)
    missing (d ∷ more) k some = none d k.0 k.1

-- all were read, and bytes are left
pub data_left : (t : Avro) (count : ℕ) (xs : List Data) (source middle : List ℕ) → AreItems (IsDatum t) xs source middle → length xs ≡ count
    → 0 < length middle → (ds : List Data) (rest : List ℕ) → AreData t count ds source rest → ⊥
data_left t count xs source middle h all some ds rest a =
    let end : middle ≡ [] = (items_one (IsDatum t) (datum_one t) xs ds source middle [] h a.1 (all ∙ sym a.0)).1 in
    omega (arith, ap length end)

-- ---- the block

-- what a block says of the count and the size that were read, and of what follows them
pub record Agrees (t : Avro) (marker : List ℕ) (ds : List Data) (count size : ℕ) (left rest : List ℕ) : Type 0 where
  pub counted : length ds ≡ count
  pub within : count ≤ size
  pub room : size ≤ length left
  pub each : AreItems (IsDatum t) ds (take size left) []
  pub marked : drop size left ≡ marker ++ rest

pub block_agrees : (t : Avro) (marker : List ℕ) (ds : List Data) (count size : ℕ) (source middle left rest : List ℕ)
    → IsSize count source middle → IsSize size middle left → IsBlock t marker ds source rest → Agrees t marker ds count size left rest
block_agrees t marker ds count size source middle left rest c s b =
    let p = size_one count (length ds) source middle b.middle c b.count in
    let q = size_one size (length b.content) middle left b.left s (subst (λ (x : List ℕ). IsSize (length b.content) x b.left) (sym p.1) b.size) in
    let parts : left ≡ b.content ++ (marker ++ rest) = q.1 ∙ b.marked in
    let same : size ≡ length b.content = q.0 in
    record {
      counted = sym p.0;
      within = omega (arith, p.0, q.0, b.within);
      room = omega (arith, ap length parts, length-append b.content (marker ++ rest));
      each = subst (λ (x : List ℕ). AreItems (IsDatum t) ds x []) (sym (ap (λ (n : ℕ). take n left) same ∙ ap (take (length b.content)) parts ∙ take-append_seam b.content (marker ++ rest))) b.each;
      marked = ap (λ (n : ℕ). drop n left) same ∙ ap (drop (length b.content)) parts ∙ drop_at b.content (marker ++ rest) (length b.content) refl;
    }

pub block_is : (t : Avro) (marker : List ℕ) (ds : List Data) (count size : ℕ) (source middle left rest : List ℕ)
    → IsSize count source middle → IsSize size middle left → Agrees t marker ds count size left rest → IsBlock t marker ds source rest
block_is t marker ds count size source middle left rest c s a =
    let long : length (take size left) ≡ size = length-take-le size left a.room in
    record {
      middle = middle;
      left = left;
      content = take size left;
      count = subst (λ (n : ℕ). IsSize n source middle) (sym a.counted) c;
      size = subst (λ (n : ℕ). IsSize n middle left) (sym long) s;
      within = omega (arith, a.counted, a.within);
      each = a.each;
      marked = sym (take-append-drop size left) ∙ ap (λ (x : List ℕ). take size left ++ x) a.marked;
    }

-- one block, and one rest
pub block_one : (t : Avro) (marker : List ℕ) (ds es : List Data) (source rest other : List ℕ) → IsBlock t marker ds source rest → IsBlock t marker es source other → (ds ≡ es) × (rest ≡ other)
block_one t marker ds es source rest other b k =
    let p = block_agrees t marker ds (length es) (length k.content) source k.middle k.left rest k.count k.size b in
    let q = block_agrees t marker es (length es) (length k.content) source k.middle k.left other k.count k.size k in
    let d = items_one (IsDatum t) (datum_one t) ds es (take (length k.content) k.left) [] [] p.each q.each p.counted in
    (d.0, append_cancel_left marker rest other (sym p.marked ∙ q.marked))

pub block_follows : (t : Avro) (marker : List ℕ) (ds : List Data) (source rest : List ℕ) → IsBlock t marker ds source rest → Follows source rest
block_follows t marker ds source rest b =
    let p = size_follows (length ds) source b.middle b.count in
    let q = size_follows (length b.content) b.middle b.left b.size in
    let parts : source ≡ p.prefix ++ (q.prefix ++ (b.content ++ (marker ++ rest))) = p.parts ∙ ap (λ (x : List ℕ). p.prefix ++ x) (q.parts ∙ ap (λ (x : List ℕ). q.prefix ++ x) b.marked) in
    record { prefix = p.prefix ++ (q.prefix ++ (b.content ++ marker)); parts = parts ∙ sym (simp append_assoc) }

pub block_shorter : (t : Avro) (marker : List ℕ) (ds : List Data) (source rest : List ℕ) → IsBlock t marker ds source rest → length rest < length source
block_shorter t marker ds source rest b =
    omega (arith, size_shorter (length ds) source b.middle b.count, size_shorter (length b.content) b.middle b.left b.size, ap length b.marked, length-append b.content (marker ++ rest), length-append marker rest)

-- ---- where no block begins

module _ (t : Avro) (marker : List ℕ) (count : ℕ) (source middle : List ℕ) (c : IsSize count source middle) where
  pub block_sizeless : ((n : ℕ) (rest : List ℕ) → IsSize n middle rest → ⊥) → (ds : List Data) (rest : List ℕ) → IsBlock t marker ds source rest → ⊥
  block_sizeless none ds rest b =
      let p = size_one count (length ds) source middle b.middle c b.count in
      none (length b.content) b.left (subst (λ (x : List ℕ). IsSize (length b.content) x b.left) (sym p.1) b.size)

  module _ (size : ℕ) (left : List ℕ) (s : IsSize size middle left) where
    pub block_short : (size < count) ⊎ ((count ≤ size) × (length left < size)) → (ds : List Data) (rest : List ℕ) → IsBlock t marker ds source rest → ⊥
    block_short (inl less) ds rest b = omega (arith, (block_agrees t marker ds count size source middle left rest c s b).within)
    block_short (inr less) ds rest b = omega (arith, (block_agrees t marker ds count size source middle left rest c s b).room)

    pub block_unmarked : ((rest : List ℕ) → drop size left ≡ marker ++ rest → ⊥) → (ds : List Data) (rest : List ℕ) → IsBlock t marker ds source rest → ⊥
    block_unmarked none ds rest b = none rest (block_agrees t marker ds count size source middle left rest c s b).marked

    pub block_dataless : ((ds : List Data) (rest : List ℕ) → AreData t count ds (take size left) rest → ⊥) → (ds : List Data) (rest : List ℕ) → IsBlock t marker ds source rest → ⊥
    block_dataless none ds rest b =
        let a = block_agrees t marker ds count size source middle left rest c s b in
        none ds [] (a.counted, a.each, refl)

-- the offset after a block
pub block_offset : (t : Avro) (marker : List ℕ) (ds : List Data) (bytes : List ℕ) (offset : ℕ) (rest : List ℕ) → offset ≤ length bytes → IsBlock t marker ds (drop offset bytes) rest → HasBlock t marker bytes offset ds (length bytes - length rest)
block_offset t marker ds bytes offset rest le b =
    let f = block_follows t marker ds (drop offset bytes) rest b in
    let whole : Follows bytes rest = record { prefix = take offset bytes ++ f.prefix; parts = sym (take-append-drop offset bytes) ∙ ap (λ (x : List ℕ). take offset bytes ++ x) f.parts ∙ sym (append_assoc (take offset bytes) f.prefix rest) } in
    record {
      within = omega arith;
      block = subst (λ (x : List ℕ). IsBlock t marker ds (drop offset bytes) x) (sym (at_end bytes rest whole)) b;
    }

pub block_not_longer : (t : Avro) (marker : List ℕ) (ds : List Data) (bytes : List ℕ) (offset : ℕ) (rest : List ℕ) → IsBlock t marker ds (drop offset bytes) rest → length rest ≤ length bytes
block_not_longer t marker ds bytes offset rest b = omega (arith, block_shorter t marker ds (drop offset bytes) rest b, length-drop offset bytes)
