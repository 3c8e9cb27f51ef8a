-- What is written of a record is read as the same.
use Rattle.std.proofs.Common.{◌≡◌, ℕ, ◌≤◌, ◌<◌, ◌^◌, Bool, true, false, List, [], ◌∷◌, length, map, Option, None, Some, refl, sym, ap, ◌∙◌, arith, ℤ, pos}
use Rattle.std.specs.Prelude.{Ok, nat_eq, filter, is_none}
use Rattle.std.specs.List.{AllByRecursion, ends_with}
use Rattle.std.specs.Ordering.{int_eq}
use Rattle.std.proofs.lemmas.Bool.{le-leb, lt-ltb}
use Rattle.std.proofs.lemmas.Bool.Decides.{Decides-int_eq}
use Rattle.pm_avro_schema.specs.Avro as types
use Rattle.pm_avro_data.specs.Datum.{int, long, bytes}
use Rattle.pm_values.specs.declared.column.ColType.{ColType}
use Rattle.pm_values.specs.declared.file_meta.FileMeta.{FileMeta}
use Rattle.pm_values.specs.Order.{Values}
use Rattle.pm_binrow.specs.Row.{row_bytes}
use Rattle.pm_binrow.proofs.Facts.{length-row, row_again}
use Rattle.pm_record.specs.File.{all_read}
use Rattle.pm_manifest.specs.declared.entry.Entry.{Entry}
use Rattle.pm_manifest.specs.declared.entry.ManifestMeta.{ManifestMeta}
use Rattle.pm_manifest.specs.Entries.{IsEntry, IsFile, IsKey, IsWithin, add_in, bucket_in, entry_data, entry_in, file_data, file_in, key_data, key_in, kind_data, name_of, row_of, suffix, time_data, time_in, total_of}
use Rattle.pm_manifest.specs.Listed.{IsListed, meta_data, meta_in}
use Rattle.pm_manifest.specs.Number.{count_in, most_counted, most_id, most_sequence, natural_in}
use Rattle.pm_manifest.specs.Rows.{IsFull}
use Rattle.pm_manifest.specs.Shape.{HasRest, Shape, rest_of}
use Rattle.pm_manifest.specs.«Type».{entry_type, file_type, meta_type, or_null}
use Rattle.pm_manifest.proofs.ShapeLemmas.{rest_of-key_of}

-- ---- one value

count_again : (most n : ℕ) → n ≤ most → count_in most (long (pos n)) ≡ Some n
count_again most n le = rw (le-leb n most le) refl

natural_again : (n : ℕ) → n < 2 ^ 31 → natural_in (int (pos n)) ≡ Some n
natural_again n lt = rw (lt-ltb n (2 ^ 31) lt) refl

add_again : (add : Bool) → add_in (kind_data add) ≡ Some add
add_again true = refl
add_again false = refl

bucket_again : (buckets n : ℕ) → n < buckets → buckets < 2 ^ 31 → bucket_in buckets (int (pos n)) ≡ Some n
bucket_again buckets n lt few = rw (lt-ltb n (2 ^ 31) (omega arith), lt-ltb n buckets lt) refl

total_again : (buckets : ℕ) → total_of buckets (pos buckets) ≡ Ok buckets
total_again buckets =
    let same : int_eq (pos buckets) (pos buckets) ≡ true = (Decides-int_eq (pos buckets) (pos buckets)).1 refl in
    rw same refl

name_again : (name : List ℕ) → ends_with nat_eq name suffix ≡ true → name_of name ≡ Ok name
name_again name e = rw e refl

full_again : (kinds : List ColType) (row : Values) → IsFull kinds row → row_of kinds (bytes (row_bytes kinds row)) ≡ Some row
full_again kinds row h = rw (row_again kinds row h.typed h.short, h.full) refl

key_again : (s : Shape) (partition key : Values) → HasRest s → IsKey s partition key → key_in s partition (key_data s key) ≡ Some key
key_again s partition key has h =
    let many : length (filter is_none s.places) ≡ length h.0 = has ∙ sym (length-row s.rest h.0 h.1.typed) in
    let rest : rest_of s.places key ≡ h.0 = ap (rest_of s.places) h.2 ∙ rest_of-key_of s.places partition h.0 many in
    rw (rest, full_again s.rest h.0 h.1) (ap Some (sym h.2))

time_again : (time : Option ℤ) → time_in (or_null types.long) (time_data time) ≡ Ok time
time_again None = refl
time_again (Some z) = refl

-- ---- records

pub meta_again : (kinds : List ColType) (m : ManifestMeta) → IsListed m → meta_in meta_type (meta_data kinds m) ≡ Ok m
meta_again kinds m h = rw (
  count_again most_counted m.size h.size,
  count_again most_counted m.added h.added,
  count_again most_counted m.deleted h.deleted,
  count_again most_id m.schema_id h.schema,
) refl

file_again : (s : Shape) (partition : Values) (f : FileMeta) → HasRest s → IsFile s partition f → file_in s partition file_type (file_data s f) ≡ Ok f
file_again s partition f has h = rw (
  name_again f.name h.named,
  count_again most_id f.schema_id h.schema,
  count_again most_counted f.size h.size,
  count_again most_counted f.rows h.rows,
  key_again s partition f.min_key has h.least,
  key_again s partition f.max_key has h.greatest,
  count_again most_sequence f.min_seq h.first,
  count_again most_sequence f.max_seq h.last,
  natural_again f.level h.level,
  time_again f.created,
) refl

pub entry_again : (s : Shape) (e : Entry) → HasRest s → s.buckets < 2 ^ 31 → IsEntry s e → entry_in s entry_type (entry_data s e) ≡ Ok e
entry_again s e has few h = rw (
  add_again e.add,
  full_again s.partition e.group.partition h.partition,
  h.total,
  total_again s.buckets,
  bucket_again s.buckets e.group.bucket h.bucket few,
  file_again s e.group.partition e.file has h.file,
) refl

-- ---- all of them

pub metas_again : (kinds : List ColType) (ms : List ManifestMeta) → AllByRecursion IsListed ms → all_read (meta_in meta_type) (map (meta_data kinds) ms) ≡ Ok ms
metas_again kinds [] all = refl
metas_again kinds (m ∷ ms) all = rw (meta_again kinds m all.0, metas_again kinds ms all.1) refl

pub entries_again : (s : Shape) (es : List Entry) → HasRest s → AllByRecursion (IsWithin s) es → AllByRecursion (IsEntry s) es
    → all_read (entry_in s entry_type) (map (entry_data s) es) ≡ Ok es
entries_again s [] has few all = refl
entries_again s (e ∷ es) has few all =
    let total = all.0.total in
    let less : s.buckets < 2 ^ 31 = omega (arith, few.0.total) in
    rw (entry_again s e has less all.0, entries_again s es has few.1 all.1) refl
