-- What is written is what the relations have.
use Rattle.std.proofs.Common.{◌≡◌, ℕ, zero, suc, ◌+◌, ◌<◌, ◌≤◌, pos, false, List, [], ◌∷◌, ◌++◌, length}
use Rattle.std.proofs.Common.{map, take, get_or, refl, sym, ap, subst, ◌∙◌, append_assoc, arith}
use Rattle.std.specs.Prelude.{Ok, Result}
use Rattle.std.specs.List.{AllByRecursion, flat_map}
use Rattle.std.proofs.lemmas.List.{length-append, append-nil, map_push, take_more}
use Rattle.pm_avro_schema.specs.Avro as types
use Rattle.pm_avro_schema.specs.Avro.{Avro, Fields, no_fields, field, takes_no_byte, take_no_byte}
use Rattle.pm_avro_schema.specs.Reading.{parsed_type}
use Rattle.pm_avro_schema.specs.Writing.{avro_text}
use Rattle.pm_avro_schema.specs.declared.fault.AvroFault.{AvroFault}
use Rattle.pm_avro_data.specs.Datum.{Data, items_of, view}
use Rattle.pm_avro_data.specs.declared.datum.Datum.{Datum}
use Rattle.pm_avro_data.specs.Writing.{integer, sized, encoding, items_encoding}
use Rattle.pm_avro_data.specs.HasType.{HasType}
use Rattle.pm_avro_data.specs.IsDatum.{IsDatum, AreItems}
use Rattle.pm_avro_data.specs.Number.{IsLong}
use Rattle.pm_avro_data.proofs.Facts.{datum_some}
use Rattle.pm_avro_file.specs.Container.{magic, metadata, IsPreamble, IsHeader, IsBlock, IsContainer}
use Rattle.pm_avro_file.specs.Header.{at_header, kind_in}
use Rattle.pm_avro_file.specs.Writing.{written_pairs, header_bytes, block_bytes}
use Rattle.pm_avro_file.specs.Begun.{IsBegun}
use Rattle.pm_avro_file.proofs.Items.{items_written}
use Rattle.pm_avro_file.proofs.Meanings.{kind_header}

-- ---- headers

pub written_header : (t : Avro) (marker pairs out : List ℕ) → length marker ≡ 16
    → ((rest : List ℕ) → IsDatum (types.map_of types.bytes) (metadata (written_pairs (avro_text t))) (pairs ++ rest) rest)
    → ◌≡◌ {A = Result Avro AvroFault} (parsed_type (avro_text t)) (Ok t) → out ≡ (magic ++ pairs) ++ marker → (rest : List ℕ) → IsHeader t marker (out ++ rest) rest
written_header t marker pairs out sixteen read schema parts rest =
    let preamble : IsPreamble (written_pairs (avro_text t)) marker (out ++ rest) rest = record {
      start = pairs ++ (marker ++ rest);
      left = marker ++ rest;
      begins = ap (λ (x : List ℕ). x ++ rest) parts ∙ simp append_assoc;
      pairs_read = read (marker ++ rest);
      sixteen = sixteen;
      marked = refl;
    } in
    let kind : kind_in (written_pairs (avro_text t)) ≡ Ok t = ap at_header schema in
    kind_header t (written_pairs (avro_text t)) marker (out ++ rest) rest preamble kind

-- ---- the data of a block

-- what holds of all holds of each
pub all_at : {X Y : Type 0} (P : Y → Type 0) (f : X → Y) (xs : List X) (i : ℕ) (x : X) → AllByRecursion P (map f xs) → i < length xs → x ≡ get_or xs i x → P (f x)
all_at P f [] i x h lt e = absurd (omega arith)
all_at P f (y ∷ ys) zero x h lt e = subst (λ z. P (f z)) (sym e) h.0
all_at P f (y ∷ ys) (suc i) x h lt e = all_at P f ys i x h.1 (omega arith) e

items_encoding-push : (ds : List Data) (d : Data) → items_encoding (items_of (ds ++ d ∷ [])) ≡ items_encoding (items_of ds) ++ encoding d
items_encoding-push [] d = append-nil (encoding d)
items_encoding-push (e ∷ ds) d = ap (λ (x : List ℕ). encoding e ++ x) (items_encoding-push ds d) ∙ sym (append_assoc (encoding e) (items_encoding (items_of ds)) (encoding d))

-- the first data are written
pub record AreWritten (t : Avro) (ds : List Data) (content : List ℕ) : Type 0 where
  pub encoded : content ≡ items_encoding (items_of ds)
  pub read : (rest : List ℕ) → AreItems (IsDatum t) ds (content ++ rest) rest
  pub within : length ds ≤ length content

pub none_written : (t : Avro) → AreWritten t [] []
none_written t = record { encoded = refl; read = λ rest. refl; within = omega arith }

pub more_written : (t : Avro) (ds : List Datum) (i : ℕ) (d : Datum) (content more : List ℕ) → takes_no_byte t ≡ false → HasType t (view d) → i < length ds → d ≡ get_or ds i d
    → more ≡ encoding (view d) → ((rest : List ℕ) → IsDatum t (view d) (more ++ rest) rest) → AreWritten t (map view (take i ds)) content → AreWritten t (map view (take (i + 1) ds)) (content ++ more)
more_written t ds i d content more free typed lt is spelled datum w =
    let taken : map view (take (i + 1) ds) ≡ map view (take i ds) ++ view d ∷ [] =
    ap (map view) (take_more ds i d lt ∙ ap (λ (x : Datum). take i ds ++ x ∷ []) (sym is)) ∙ map_push view (take i ds) d in
    let some = datum_some t (view d) free typed in
    subst (λ (x : List Data). AreWritten t x (content ++ more)) (sym taken) (record {
      encoded = ap (λ (x : List ℕ). x ++ more) w.encoded ∙ ap (λ (x : List ℕ). items_encoding (items_of (map view (take i ds))) ++ x) spelled ∙ sym (items_encoding-push (map view (take i ds)) (view d));
      read = items_written (IsDatum t) (map view (take i ds)) (view d) content more w.read datum;
      within = omega (arith, length-append (map view (take i ds)) (view d ∷ []), length-append content more, w.within, ap length spelled, some);
    })

-- with nothing after them
pub all_read : (t : Avro) (ds : List Data) (content : List ℕ) → AreWritten t ds content → AreItems (IsDatum t) ds content []
all_read t ds content w = subst (λ (x : List ℕ). AreItems (IsDatum t) ds x []) (append-nil content) (w.read [])

-- ---- blocks and files

pub written_block : (t : Avro) (marker content : List ℕ) (ds : List Data) → content ≡ items_encoding (items_of ds) → AreItems (IsDatum t) ds content [] → length ds ≤ length content
    → ((rest : List ℕ) → IsLong (pos (length ds)) (integer (pos (length ds)) ++ rest) rest) → ((rest : List ℕ) → IsLong (pos (length content)) (integer (pos (length content)) ++ rest) rest)
    → (rest : List ℕ) → IsBlock t marker ds (block_bytes marker ds ++ rest) rest
written_block t marker content ds spelled each within count size rest =
    let left = content ++ (marker ++ rest) in
    let middle = integer (pos (length content)) ++ left in
    let source : integer (pos (length ds)) ++ middle ≡ block_bytes marker ds ++ rest =
    sym (simp append_assoc) ∙ ap (λ (x : List ℕ). (integer (pos (length ds)) ++ (sized x ++ marker)) ++ rest) spelled in
    subst (λ (x : List ℕ). IsBlock t marker ds x rest) source (record {
      middle = middle;
      left = left;
      content = content;
      count = count middle;
      size = size left;
      within = within;
      each = each;
      marked = refl;
    })

pub begun : (t : Avro) (marker out : List ℕ) → out ≡ header_bytes t marker → ((rest : List ℕ) → IsHeader t marker (out ++ rest) rest) → IsBegun t marker [] out
begun t marker out spelled header = record {
  written = spelled ∙ sym (append-nil (header_bytes t marker));
  header = subst (λ (x : List ℕ). (rest : List ℕ) → IsHeader t marker (x ++ rest) rest) spelled header;
  each = λ rest. refl;
}

flat_map-last : (f : List Data → List ℕ) (blocks : List (List Data)) (ds : List Data) → flat_map f (blocks ++ ds ∷ []) ≡ flat_map f blocks ++ f ds
flat_map-last f [] ds = append-nil (f ds)
flat_map-last f (b ∷ blocks) ds = ap (λ (x : List ℕ). f b ++ x) (flat_map-last f blocks ds) ∙ sym (append_assoc (f b) (flat_map f blocks) (f ds))

pub goes_on : (t : Avro) (marker : List ℕ) (blocks : List (List Data)) (ds : List Data) (out : List ℕ) → ((rest : List ℕ) → IsBlock t marker ds (block_bytes marker ds ++ rest) rest)
    → IsBegun t marker blocks out → IsBegun t marker (blocks ++ ds ∷ []) (out ++ block_bytes marker ds)
goes_on t marker blocks ds out block w =
    let last = flat_map-last (block_bytes marker) blocks ds in
    record {
      written = ap (λ (x : List ℕ). x ++ block_bytes marker ds) w.written ∙ append_assoc (header_bytes t marker) (flat_map (block_bytes marker) blocks) (block_bytes marker ds)
          ∙ ap (λ (x : List ℕ). header_bytes t marker ++ x) (sym last);
      header = w.header;
      each = subst (λ (x : List ℕ). (rest : List ℕ) → AreItems (IsBlock t marker) (blocks ++ ds ∷ []) (x ++ rest) rest) (sym last)
          (items_written (IsBlock t marker) blocks ds (flat_map (block_bytes marker) blocks) (block_bytes marker ds) w.each block);
    }

pub whole : (t : Avro) (marker : List ℕ) (blocks : List (List Data)) (out : List ℕ) → IsBegun t marker blocks out → IsContainer t blocks marker out
whole t marker blocks out w =
    subst (λ (x : List ℕ). IsContainer t blocks marker x) (sym w.written) (record {
      start = flat_map (block_bytes marker) blocks;
      header = w.header (flat_map (block_bytes marker) blocks);
      each = subst (λ (x : List ℕ). AreItems (IsBlock t marker) blocks x []) (append-nil (flat_map (block_bytes marker) blocks)) (w.each []);
    })

-- one block more of those that are held
pub view_more : {X : Type 0} (f : X → List Data) (xs : List X) (i : ℕ) (x : X) → i < length xs → x ≡ get_or xs i x → map f (take (i + 1) xs) ≡ map f (take i xs) ++ f x ∷ []
view_more f xs i x lt is = ap (map f) (take_more xs i x lt ∙ ap (λ y. take i xs ++ y ∷ []) (sym is)) ∙ map_push f (take i xs) x
