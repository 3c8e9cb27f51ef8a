-- Preambles: what was read makes one, and each that stands there is of what was read.
use Rattle.std.proofs.Common.{◌≡◌, ◌≢◌, ℕ, ◌-◌, ◌<◌, List, ◌++◌, length, take, drop}
use Rattle.std.proofs.Common.{Some, None, sym, ap, subst, ◌∙◌, append_assoc, arith}
use Rattle.std.proofs.lemmas.List.{length-append, append_cancel_left, take-append-drop}
use Rattle.pm_avro_schema.specs.Avro as types
use Rattle.pm_avro_schema.specs.Avro.{Avro}
use Rattle.pm_avro_data.specs.Datum.{Data}
use Rattle.pm_avro_data.specs.IsDatum.{IsDatum}
use Rattle.pm_avro_data.proofs.Facts.{Follows, datum_follows, datum_typed}
use Rattle.pm_avro_file.specs.Container.{magic, Pairs, metadata, IsPreamble}
use Rattle.pm_avro_file.specs.Reader.{HasNoPreamble}
use Rattle.pm_avro_file.specs.Views.{entries_in, pairs_of}
use Rattle.pm_avro_file.proofs.Pairs.{metadata_of, metadata_none, metadata_one}
use Rattle.pm_avro_file.proofs.Parts.{datum_one, prefixes_same, at_end}

-- the type of metadata
abbrev pub texts_to_bytes : Avro
texts_to_bytes = types.map_of types.bytes

-- ---- where no preamble stands

pub preamble_magicless : (bytes : List ℕ) → ((rest : List ℕ) → bytes ≢ magic ++ rest) → HasNoPreamble bytes
preamble_magicless bytes none pairs marker rest f = none f.start f.begins

module _ (bytes start : List ℕ) (begins : bytes ≡ magic ++ start) where
  same_start : (pairs : Pairs) (marker rest : List ℕ) (f : IsPreamble pairs marker bytes rest) → f.start ≡ start
  same_start pairs marker rest f = append_cancel_left magic f.start start (sym f.begins ∙ begins)

  pub preamble_mapless : ((d : Data) (rest : List ℕ) → IsDatum texts_to_bytes d start rest → ⊥) → HasNoPreamble bytes
  preamble_mapless none pairs marker rest f =
      none (metadata pairs) f.left (subst (λ (x : List ℕ). IsDatum texts_to_bytes (metadata pairs) x f.left) (same_start pairs marker rest f) f.pairs_read)

  module _ (d : Data) (left : List ℕ) (h : IsDatum texts_to_bytes d start left) where
    -- the metadata and what follows them
    pub preamble_parts : (pairs : Pairs) (marker rest : List ℕ) (f : IsPreamble pairs marker bytes rest) → (d ≡ metadata pairs) × (left ≡ f.left)
    preamble_parts pairs marker rest f =
        datum_one texts_to_bytes d (metadata pairs) start left f.left h (subst (λ (x : List ℕ). IsDatum texts_to_bytes (metadata pairs) x f.left) (same_start pairs marker rest f) f.pairs_read)

    pub preamble_pairless : entries_in d ≡ None → HasNoPreamble bytes
    preamble_pairless none pairs marker rest f = metadata_none d pairs none (preamble_parts pairs marker rest f).0

    pub preamble_markerless : length left < 16 → HasNoPreamble bytes
    preamble_markerless few pairs marker rest f =
        omega (arith, ap length (preamble_parts pairs marker rest f).1, ap length f.marked, length-append marker rest, f.sixteen)

    pub preamble_follows : (rest : List ℕ) → rest ≡ drop 16 left → Follows bytes rest
    preamble_follows rest e =
        let f = datum_follows texts_to_bytes d start left h in
        let parts : bytes ≡ magic ++ (f.prefix ++ (take 16 left ++ rest)) =
        begins ∙ ap (λ (x : List ℕ). magic ++ x) (f.parts ∙ ap (λ (x : List ℕ). f.prefix ++ x) (sym (take-append-drop 16 left) ∙ ap (λ (x : List ℕ). take 16 left ++ x) (sym e))) in
        record { prefix = magic ++ (f.prefix ++ take 16 left); parts = parts ∙ sym (simp append_assoc) }

    pub preamble_is : (es : List (List ℕ × Data)) (marker rest : List ℕ) → entries_in d ≡ Some es → marker ≡ take 16 left → rest ≡ drop 16 left → length marker ≡ 16
        → IsPreamble (pairs_of es) marker bytes (drop (length bytes - length rest) bytes)
    preamble_is es marker rest some first later sixteen =
        let same : metadata (pairs_of es) ≡ d = metadata_of d es (datum_typed texts_to_bytes d start left h) some in
        record {
          start = start;
          left = left;
          begins = begins;
          pairs_read = subst (λ (x : Data). IsDatum texts_to_bytes x start left) (sym same) h;
          sixteen = sixteen;
          marked = sym (take-append-drop 16 left) ∙ ap (λ (x : List ℕ). x ++ drop 16 left) (sym first) ∙ ap (λ (x : List ℕ). marker ++ x) (sym later ∙ sym (at_end bytes rest (preamble_follows rest later)));
        }

-- one preamble
pub record SamePreamble (pairs others : Pairs) (marker mark rest other : List ℕ) : Type 0 where
  pub pairs_same : pairs ≡ others
  pub marker_same : marker ≡ mark
  pub rest_same : rest ≡ other

pub preamble_one : (pairs others : Pairs) (marker mark source rest other : List ℕ) → IsPreamble pairs marker source rest → IsPreamble others mark source other → SamePreamble pairs others marker mark rest other
preamble_one pairs others marker mark source rest other f g =
    let p = preamble_parts source f.start f.begins (metadata pairs) f.left f.pairs_read others mark other g in
    let m = prefixes_same marker mark rest other (f.sixteen ∙ sym g.sixteen) (sym f.marked ∙ p.1 ∙ g.marked) in
    record { pairs_same = metadata_one pairs others p.0; marker_same = m.0; rest_same = m.1 }
