-- A file that is written row by row.
use Rattle.std.proofs.Common.{◌≡◌, ℕ, ◌+◌, ◌≤◌, false, List, [], ◌∷◌, ◌++◌, length, map, sym, ap, subst, ◌∙◌, append_assoc, arith}
use Rattle.std.specs.List.{AllByRecursion}
use Rattle.std.proofs.lemmas.List.{append-nil, length-append, map_push, nil_from_length}
use Rattle.pm_base.proofs.Laws.{AllByRecursion-push}
use Rattle.pm_avro_schema.specs.Avro.{Avro, takes_no_byte}
use Rattle.pm_avro_schema.specs.Readable.{IsReadable}
use Rattle.pm_avro_data.specs.Adding.{Adds}
use Rattle.pm_avro_data.specs.Datum.{Data, items_of, record_of}
use Rattle.pm_avro_data.specs.HasType.{HasType}
use Rattle.pm_avro_data.proofs.Facts.{added_more, added_none}
use Rattle.pm_avro_file.specs.Begun.{AreEncoded, IsBegun}
use Rattle.pm_avro_file.specs.Container.{IsContainer}
use Rattle.pm_record.specs.File.{AreBlocks, IsFileOf, joined}
use Rattle.pm_record.proofs.Facts.{last_block}
use Rattle.pm_values.specs.declared.record.Stamped.{Stamped}
use Rattle.pm_run.specs.Form.{Form}
use Rattle.pm_run.specs.Kinds.{run_type}
use Rattle.pm_run.specs.Row.{row_data}
use Rattle.pm_run.specs.Typed.{IsWritable}
use Rattle.pm_run_writer.specs.Begun.{HasBegun}
use Rattle.pm_run_writer.specs.declared.begun_file.BegunFile.{BegunFile}
use Rattle.pm_run_writer.proofs.TypeLemmas.{row_typed}

-- no data
pub none_encoded : (t : Avro) (content : List ℕ) → IsReadable t → takes_no_byte t ≡ false → content ≡ [] → AreEncoded t [] content
none_encoded t content readable some none = record {
  readable = readable;
  some = some;
  typed = tt;
  added = subst (λ (x : List ℕ). Adds [] x (record_of (items_of []))) (sym none) (added_none []);
}

-- one more row
pub begun_more : (f : Form) (marker : List ℕ) (rows : List Stamped) (row : Stamped) (before after : BegunFile) → HasBegun f marker rows before
    → Adds before.block.items after.block.items (row_data f row) → IsWritable f row → after.out ≡ before.out → after.count ≡ before.count + 1 → after.marker ≡ before.marker
    → HasBegun f marker (rows ++ row ∷ []) after
begun_more f marker rows row before after h adds writable out count marked =
    let d : Data = row_data f row in
    record {
      blocks = h.blocks;
      last = h.last ++ d ∷ [];
      same = sym (append_assoc (joined h.blocks) h.last (d ∷ [])) ∙ ap (λ (x : List Data). x ++ d ∷ []) h.same ∙ sym (map_push (row_data f) rows row);
      full = h.full;
      begun = rw out h.begun;
      encoded = record {
        readable = h.encoded.readable;
        some = h.encoded.some;
        typed = AllByRecursion-push (HasType (run_type f)) h.last d h.encoded.typed (row_typed f row writable);
        added = added_more [] before.block.items after.block.items h.last d h.encoded.added adds;
      };
      count = let so_far = h.count in let longer = length-append h.last (d ∷ []) in omega arith;
      marked = marked ∙ h.marked;
      writable = AllByRecursion-push (IsWritable f) rows row h.writable writable;
    }

-- ---- blocks

joined-push : (blocks : List (List Data)) (last : List Data) → joined (blocks ++ last ∷ []) ≡ joined blocks ++ last
joined-push [] last = append-nil last
joined-push (b ∷ blocks) last = ap (λ (x : List Data). b ++ x) (joined-push blocks last) ∙ sym (append_assoc b (joined blocks) last)

full_blocks : (blocks : List (List Data)) → AllByRecursion (λ (ds : List Data). length ds ≡ 1024) blocks → AreBlocks 1024 blocks
full_blocks [] full = tt
full_blocks (b ∷ []) full = let many = full.0 in (omega arith, omega arith)
full_blocks (b ∷ c ∷ blocks) full = (full.0, full_blocks (c ∷ blocks) full.1)

-- the full block has ended
pub begun_ended : (f : Form) (marker : List ℕ) (rows : List Stamped) (before after : BegunFile) (h : HasBegun f marker rows before) → before.count ≡ 1024
    → IsBegun (run_type f) before.marker (h.blocks ++ h.last ∷ []) after.out.items → after.block.items ≡ [] → after.count ≡ 0 → after.marker ≡ before.marker → HasBegun f marker rows after
begun_ended f marker rows before after h full begun none count marked = record {
  blocks = h.blocks ++ h.last ∷ [];
  last = [];
  same = append-nil (joined (h.blocks ++ h.last ∷ [])) ∙ joined-push h.blocks h.last ∙ h.same;
  full = AllByRecursion-push (λ (ds : List Data). length ds ≡ 1024) h.blocks h.last h.full (sym h.count ∙ full);
  begun = subst (λ (m : List ℕ). IsBegun (run_type f) m (h.blocks ++ h.last ∷ []) after.out.items) h.marked begun;
  encoded = none_encoded (run_type f) after.block.items h.encoded.readable h.encoded.some none;
  count = count;
  marked = marked ∙ h.marked;
  writable = h.writable;
}

-- `begun_file_law`
abbrev pub WholeBegun : Type 0
WholeBegun = (t : Avro) (blocks : List (List Data)) (marker bytes : List ℕ) → IsBegun t marker blocks bytes → IsContainer t blocks marker bytes

module _ (whole : WholeBegun) (f : Form) (marker : List ℕ) (rows : List Stamped) (file : BegunFile) (h : HasBegun f marker rows file) where
  -- no row stands in the block that comes next
  pub whole_full : file.count ≡ 0 → IsFileOf (run_type f) 1024 (map (row_data f) rows) marker file.out.items
  whole_full none =
      let last : h.last ≡ [] = nil_from_length h.last (sym h.count ∙ none) in
      record {
        blocks = h.blocks;
        same = sym (append-nil (joined h.blocks)) ∙ ap (λ (x : List Data). joined h.blocks ++ x) (sym last) ∙ h.same;
        full = full_blocks h.blocks h.full;
        container = whole (run_type f) h.blocks marker file.out.items h.begun;
        written = h.begun.written;
      }

  -- some rows stood there, and that block has ended
  pub whole_last : 1 ≤ file.count → file.count ≤ 1024 → (out : List ℕ) → IsBegun (run_type f) file.marker (h.blocks ++ h.last ∷ []) out
      → IsFileOf (run_type f) 1024 (map (row_data f) rows) marker out
  whole_last some within out begun =
      let blocks = h.blocks ++ h.last ∷ [] in
      let begun_so : IsBegun (run_type f) marker blocks out = subst (λ (m : List ℕ). IsBegun (run_type f) m blocks out) h.marked begun in
      let count = h.count in
      record {
        blocks = blocks;
        same = joined-push h.blocks h.last ∙ h.same;
        full = last_block 1024 h.blocks h.last h.full (omega arith) (omega arith);
        container = whole (run_type f) blocks marker out begun_so;
        written = begun_so.written;
      }

-- bytes that are added of a datum are added after others, too
pub adds_after : (d : Data) (before after content : List ℕ) → after ≡ before ++ content → Adds [] content d → Adds before after d
adds_after d before after content copied alone = record {
  added = copied ∙ ap (λ (bs : List ℕ). before ++ bs) alone.added;
  fits = alone.fits;
}
