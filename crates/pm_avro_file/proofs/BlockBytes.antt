-- A block of data's bytes.
use Rattle.std.proofs.Common.{◌≡◌, ℕ, ◌<◌, ◌≤◌, ◌^◌, pos, false, List, [], ◌∷◌, ◌++◌, length, refl, sym, ap, subst, ◌∙◌, append_assoc, arith}
use Rattle.std.specs.List.{AllByRecursion}
use Rattle.std.proofs.lemmas.List.{append-nil, length-append}
use Rattle.pm_avro_schema.specs.Avro as types
use Rattle.pm_avro_schema.specs.Avro.{Avro, takes_no_byte}
use Rattle.pm_avro_schema.specs.Readable.{KeepsBounds}
use Rattle.pm_avro_data.specs.Adding.{Adds}
use Rattle.pm_avro_data.specs.Datum.{Data, bytes as bytes_data, items_of, long}
use Rattle.pm_avro_data.specs.HasType.{HasType}
use Rattle.pm_avro_data.specs.IsDatum.{AreItems, IsDatum}
use Rattle.pm_avro_data.specs.Number.{IsLong}
use Rattle.pm_avro_data.specs.Writing.{ItemsFit, encoding, integer, items_encoding}
use Rattle.pm_avro_data.proofs.Facts.{datum_is, datum_some}
use Rattle.pm_avro_file.specs.Begun.{AreEncoded, IsBegun}
use Rattle.pm_avro_file.specs.Container.{IsBlock}
use Rattle.pm_avro_file.specs.Writing.{block_bytes}
use Rattle.pm_avro_file.proofs.Writes.{goes_on, written_block}

-- what is written of data is read
each_read : (t : Avro) (ds : List Data) (rest : List ℕ) → KeepsBounds t 0 → AllByRecursion (HasType t) ds → ItemsFit (items_of ds)
    → AreItems (IsDatum t) ds (items_encoding (items_of ds) ++ rest) rest
each_read t [] rest bounds typed fit = refl
each_read t (d ∷ ds) rest bounds typed fit =
    let later = items_encoding (items_of ds) ++ rest in
    subst (λ (x : List ℕ). AreItems (IsDatum t) (d ∷ ds) x rest) (sym (append_assoc (encoding d) (items_encoding (items_of ds)) rest))
    (later, datum_is t 0 d later bounds typed.0 fit.0, each_read t ds rest bounds typed.1 fit.1)

-- each takes a byte
each_some : (t : Avro) (ds : List Data) → takes_no_byte t ≡ false → AllByRecursion (HasType t) ds → length ds ≤ length (items_encoding (items_of ds))
each_some t [] some typed = omega arith
each_some t (d ∷ ds) some typed =
    omega (arith, length-append (encoding d) (items_encoding (items_of ds)), datum_some t d some typed.0, each_some t ds some typed.1)

-- a size is read
size_is : (n : ℕ) → n < 2 ^ 63 → (rest : List ℕ) → IsLong (pos n) (integer (pos n) ++ rest) rest
size_is n lt rest = datum_is types.long 0 (long (pos n)) rest tt tt (record { sfits = lt })

module _ (t : Avro) (marker : List ℕ) (blocks : List (List Data)) (ds : List Data) (content : List ℕ) (encoded : AreEncoded t ds content) (size : length content < 2 ^ 63) where
  block_is : (rest : List ℕ) → IsBlock t marker ds (block_bytes marker ds ++ rest) rest
  block_is =
      let spelled : content ≡ items_encoding (items_of ds) = encoded.added.added in
      let each : AreItems (IsDatum t) ds content [] =
      subst (λ (x : List ℕ). AreItems (IsDatum t) ds x []) (append-nil (items_encoding (items_of ds)) ∙ sym spelled) (each_read t ds [] encoded.readable.bounds encoded.typed encoded.added.fits) in
      let within : length ds ≤ length content = omega (arith, each_some t ds encoded.some encoded.typed, ap length spelled) in
      written_block t marker content ds spelled each within (size_is (length ds) (omega arith)) (size_is (length content) size)

  -- one more block
  pub block_added : (n : ℕ) (old counted sized out : List ℕ) → IsBegun t marker blocks old → n ≡ length ds → Adds old counted (long (pos n)) → Adds counted sized (bytes_data content)
      → out ≡ sized ++ marker → IsBegun t marker (blocks ++ ds ∷ []) out
  block_added n old counted sized out begun count first second last =
      let spelled : content ≡ items_encoding (items_of ds) = encoded.added.added in
      let numbered : counted ≡ old ++ integer (pos (length ds)) = first.added ∙ ap (λ (k : ℕ). old ++ integer (pos k)) count in
      let written : out ≡ ((old ++ integer (pos (length ds))) ++ (integer (pos (length content)) ++ content)) ++ marker =
      last ∙ ap (λ (x : List ℕ). x ++ marker) (second.added ∙ ap (λ (x : List ℕ). x ++ (integer (pos (length content)) ++ content)) numbered) in
      let whole : out ≡ old ++ (integer (pos (length ds)) ++ ((integer (pos (length content)) ++ content) ++ marker)) =
      written ∙ append_assoc (old ++ integer (pos (length ds))) (integer (pos (length content)) ++ content) marker
      ∙ append_assoc old (integer (pos (length ds))) ((integer (pos (length content)) ++ content) ++ marker) in
      let block : out ≡ old ++ block_bytes marker ds =
      whole ∙ ap (λ (x : List ℕ). old ++ (integer (pos (length ds)) ++ ((integer (pos (length x)) ++ x) ++ marker))) spelled in
      subst (λ (x : List ℕ). IsBegun t marker (blocks ++ ds ∷ []) x) (sym block) (goes_on t marker blocks ds old block_is begun)
