-- What is read of a record is within its bounds.
use Rattle.std.proofs.Common.{◌≡◌, ℕ, ◌≤◌, ◌<◌, ◌^◌, Bool, true, false, cond, leb, ltb, List, [], ◌∷◌, Option, None, Some, refl, sym, subst, pos}
use Rattle.std.specs.Prelude.{Result, Ok, Err, codes, nat_eq}
use Rattle.std.specs.Fmt.{signed_decimal}
use Rattle.std.specs.List.{AllByRecursion, ends_with, list_any}
use Rattle.std.specs.Ordering.{int_eq}
use Rattle.std.proofs.lemmas.Bool.{leb-true, ltb-true}
use Rattle.pm_base.specs.Outcome.{◌>>=◌}
use Rattle.pm_base.specs.Steps as options
use Rattle.pm_base.proofs.Laws.{step_ok}
use Rattle.pm_avro_schema.specs.Avro.{Avro}
use Rattle.pm_avro_data.specs.Datum.{Data}
use Rattle.pm_values.specs.declared.column.ColType.{ColType}
use Rattle.pm_values.specs.declared.file_meta.FileMeta.{FileMeta}
use Rattle.pm_values.specs.Order.{Values}
use Rattle.pm_binrow.specs.Row.{is_null}
use Rattle.pm_binrow.specs.Reading.{row_in}
use Rattle.pm_binrow.proofs.Facts.{row_read}
use Rattle.pm_record.specs.Record.{selected}
use Rattle.pm_record.specs.Scalar.{long_in, int_in, text_in, bytes_in}
use Rattle.pm_record.specs.File.{all_read}
use Rattle.pm_record.specs.declared.misfit.Misfit.{Misfit}
use Rattle.pm_record.specs.declared.misfit.Misfit.TheVariants.{Bad, Unsupported}
use Rattle.pm_manifest.specs.declared.entry.Entry.{Entry}
use Rattle.pm_manifest.specs.declared.entry.ManifestMeta.{ManifestMeta}
use Rattle.pm_manifest.specs.Entries.{IsEntry, IsFile, IsKey, add_in, bucket_in, entry_fields, entry_in, entry_of, field_type, file_fields, file_in, file_of, key_in, name_of, row_of, suffix, time_in, total_of}
use Rattle.pm_manifest.specs.Listed.{IsListed, found, meta_fields, meta_in, meta_of}
use Rattle.pm_manifest.specs.Number.{at_most, below, count_in, most_counted, most_id, most_sequence, natural, natural_in}
use Rattle.pm_manifest.specs.Rows.{IsFull, full_row, unless_null}
use Rattle.pm_manifest.specs.Shape.{Shape, key_of}

-- ---- one step after another

bind_some : {A B : Type 0} (o : Option A) (f : A → Option B) (y : B) → options.◌>>=◌ o f ≡ Some y → (x : A) × (o ≡ Some x) × (f x ≡ Some y)
bind_some None f y e = absurd cc
bind_some (Some x) f y e = (x, refl, e)

found_some : {X : Type 0} (o : Option X) (x : X) → found o ≡ Ok x → o ≡ Some x
found_some {X = X} None x e = let no : ◌≡◌ {A = Result X Misfit} (Err Bad) (Ok x) = e in absurd cc
found_some {X = X} (Some y) x e = let same : ◌≡◌ {A = Result X Misfit} (Ok y) (Ok x) = e in cc

ok_is : {X : Type 0} {x y : X} → ◌≡◌ {A = Result X Misfit} (Ok x) (Ok y) → x ≡ y
ok_is e = cc

some_if : {A : Type 0} (b : Bool) (x y : A) → cond b (Some x) None ≡ Some y → (b ≡ true) × (x ≡ y)
some_if true x y e = (refl, cc)
some_if false x y e = absurd cc

ok_if : {A : Type 0} (b : Bool) (x y : A) (misfit : Misfit) → cond {A = Result A Misfit} b (Ok x) (Err misfit) ≡ Ok y → (b ≡ true) × (x ≡ y)
ok_if true x y misfit e = (refl, cc)
ok_if false x y misfit e = absurd cc

-- ---- one value

count_read : (most : ℕ) (d : Data) (n : ℕ) → found (count_in most d) ≡ Ok n → n ≤ most
count_read most d n e =
    let a = bind_some (options.◌>>=◌ (long_in d) natural) (at_most most) n (found_some (count_in most d) n e) in
    let b = some_if (leb a.0 most) a.0 n a.2 in
    subst (λ (m : ℕ). m ≤ most) b.1 (leb-true a.0 most b.0)

below_read : (bound m n : ℕ) → below bound m ≡ Some n → n < bound
below_read bound m n e =
    let b = some_if (ltb m bound) m n e in
    subst (λ (k : ℕ). k < bound) b.1 (ltb-true m bound b.0)

natural_read : (d : Data) (n : ℕ) → found (natural_in d) ≡ Ok n → n < 2 ^ 31
natural_read d n e =
    let a = bind_some (options.◌>>=◌ (int_in d) natural) (below (2 ^ 31)) n (found_some (natural_in d) n e) in
    below_read (2 ^ 31) a.0 n a.2

bucket_read : (buckets : ℕ) (d : Data) (n : ℕ) → found (bucket_in buckets d) ≡ Ok n → n < buckets
bucket_read buckets d n e =
    let a = bind_some (natural_in d) (below buckets) n (found_some (bucket_in buckets d) n e) in
    below_read buckets a.0 n a.2

total_read : (buckets : ℕ) (d : Data) (n : ℕ) → (found (int_in d) >>= total_of buckets) ≡ Ok n → n ≡ buckets
total_read buckets d n e =
    let a = step_ok (found (int_in d)) (total_of buckets) n e in
    sym (ok_if (int_eq a.0 (pos buckets)) buckets n (Unsupported (codes "_TOTAL_BUCKETS") (signed_decimal a.0)) a.2).1

name_read : (d : Data) (name : List ℕ) → (found (text_in d) >>= name_of) ≡ Ok name → ends_with nat_eq name suffix ≡ true
name_read d name e =
    let a = step_ok (found (text_in d)) name_of name e in
    let b = ok_if (ends_with nat_eq a.0 suffix) a.0 name (Unsupported (codes "file") a.0) a.2 in
    subst (λ (n : List ℕ). ends_with nat_eq n suffix ≡ true) b.1 b.0

-- a row that is read is full
full_by : (b : Bool) (row other : Values) → list_any is_null row ≡ b → cond b None (Some row) ≡ Some other → (b ≡ false) × (row ≡ other)
full_by true row other is e = absurd cc
full_by false row other is e = (refl, cc)

full_read : (types : List ColType) (d : Data) (row : Values) → row_of types d ≡ Some row → IsFull types row
full_read types d row e =
    let a = bind_some (bytes_in d) (full_row types) row e in
    let b = bind_some (row_in types a.0) unless_null row a.2 in
    let f = full_by (list_any is_null b.0) b.0 row refl b.2 in
    let r = row_read types a.0 b.0 b.1 in
    subst (IsFull types) f.1 (record { typed = r.0; short = r.1; full = f.0 })

key_read : (s : Shape) (partition : Values) (d : Data) (key : Values) → found (key_in s partition d) ≡ Ok key → IsKey s partition key
key_read s partition d key e =
    let a = bind_some (row_of s.rest d) (λ (rest : Values). Some (key_of s.places partition rest)) key (found_some (key_in s partition d) key e) in
    let same : key_of s.places partition a.0 ≡ key = cc in
    (a.0, full_read s.rest d a.0 a.1, sym same)

-- ---- records

meta_of_read : (values : List Data) (m : ManifestMeta) → meta_of values ≡ Ok m → IsListed m
meta_of_read (name ∷ size ∷ added ∷ deleted ∷ schema ∷ []) m e =
    let n = step_ok (found (text_in name)) _ m e in
    let s = step_ok (found (count_in most_counted size)) _ m n.2 in
    let a = step_ok (found (count_in most_counted added)) _ m s.2 in
    let d = step_ok (found (count_in most_counted deleted)) _ m a.2 in
    let i = step_ok (found (count_in most_id schema)) _ m d.2 in
    let same : record { name = n.0; size = s.0; added = a.0; deleted = d.0; schema_id = i.0 } ≡ m = ok_is i.2 in
    subst IsListed same (record {
      size = count_read most_counted size s.0 s.1;
      added = count_read most_counted added a.0 a.1;
      deleted = count_read most_counted deleted d.0 d.1;
      schema = count_read most_id schema i.0 i.1;
    })
meta_of_read values m e = absurd cc

-- a manifest that is read of a list is within its bounds
pub meta_read : (t : Avro) (d : Data) (m : ManifestMeta) → meta_in t d ≡ Ok m → IsListed m
meta_read t d m e =
    let a = step_ok (found (selected meta_fields t d)) meta_of m e in
    meta_of_read a.0 m a.2

file_of_read : (s : Shape) (partition : Values) (t : Avro) (values : List Data) (f : FileMeta) → file_of s partition t values ≡ Ok f → IsFile s partition f
file_of_read s partition t (name ∷ schema ∷ size ∷ rows ∷ least ∷ greatest ∷ first ∷ last ∷ level ∷ created ∷ []) f e =
    let n = step_ok (found (text_in name) >>= name_of) _ f e in
    let i = step_ok (found (count_in most_id schema)) _ f n.2 in
    let z = step_ok (found (count_in most_counted size)) _ f i.2 in
    let r = step_ok (found (count_in most_counted rows)) _ f z.2 in
    let k = step_ok (found (key_in s partition least)) _ f r.2 in
    let g = step_ok (found (key_in s partition greatest)) _ f k.2 in
    let a = step_ok (found (count_in most_sequence first)) _ f g.2 in
    let b = step_ok (found (count_in most_sequence last)) _ f a.2 in
    let v = step_ok (found (natural_in level)) _ f b.2 in
    let c = step_ok (time_in (field_type (codes "_CREATION_TIME") t) created) _ f v.2 in
    let same : record {
      name = n.0;
      size = z.0;
      rows = r.0;
      min_key = k.0;
      max_key = g.0;
      min_seq = a.0;
      max_seq = b.0;
      schema_id = i.0;
      level = v.0;
      created = c.0;
    } ≡ f = ok_is c.2 in
    subst (IsFile s partition) same (record {
      named = name_read name n.0 n.1;
      schema = count_read most_id schema i.0 i.1;
      size = count_read most_counted size z.0 z.1;
      rows = count_read most_counted rows r.0 r.1;
      least = key_read s partition least k.0 k.1;
      greatest = key_read s partition greatest g.0 g.1;
      first = count_read most_sequence first a.0 a.1;
      last = count_read most_sequence last b.0 b.1;
      level = natural_read level v.0 v.1;
    })
file_of_read s partition t values f e = absurd cc

file_read : (s : Shape) (partition : Values) (t : Avro) (d : Data) (f : FileMeta) → file_in s partition t d ≡ Ok f → IsFile s partition f
file_read s partition t d f e =
    let a = step_ok (found (selected file_fields t d)) (file_of s partition t) f e in
    file_of_read s partition t a.0 f a.2

entry_of_read : (s : Shape) (t : Avro) (values : List Data) (e : Entry) → entry_of s t values ≡ Ok e → IsEntry s e
entry_of_read s t (kind ∷ partition ∷ total ∷ bucket ∷ file ∷ []) e h =
    let k = step_ok (found (add_in kind)) _ e h in
    let p = step_ok (found (row_of s.partition partition)) _ e k.2 in
    let n = step_ok (found (int_in total) >>= total_of s.buckets) _ e p.2 in
    let b = step_ok (found (bucket_in s.buckets bucket)) _ e n.2 in
    let f = step_ok (file_in s p.0 (field_type (codes "_FILE") t) file) _ e b.2 in
    let same : record { add = k.0; group = record { partition = p.0; bucket = b.0 }; buckets = n.0; file = f.0 } ≡ e = ok_is f.2 in
    subst (IsEntry s) same (record {
      partition = full_read s.partition partition p.0 (found_some (row_of s.partition partition) p.0 p.1);
      total = total_read s.buckets total n.0 n.1;
      bucket = bucket_read s.buckets bucket b.0 b.1;
      file = file_read s p.0 (field_type (codes "_FILE") t) file f.0 f.1;
    })
entry_of_read s t values e h = absurd cc

-- an entry that is read is one that a manifest can have
pub entry_read : (s : Shape) (t : Avro) (d : Data) (e : Entry) → entry_in s t d ≡ Ok e → IsEntry s e
entry_read s t d e h =
    let a = step_ok (found (selected entry_fields t d)) (entry_of s t) e h in
    entry_of_read s t a.0 e a.2

-- what holds of each record that is read holds of all
pub all_read_all : {X : Type 0} (P : X → Type 0) (reads : Data → Result X Misfit) → ((d : Data) (x : X) → reads d ≡ Ok x → P x)
    → (ds : List Data) (xs : List X) → all_read reads ds ≡ Ok xs → AllByRecursion P xs
all_read_all P reads each [] xs e = let none : [] ≡ xs = cc in subst (AllByRecursion P) none tt
all_read_all P reads each (d ∷ ds) xs e =
    let a = step_ok (reads d) _ xs e in
    let b = step_ok (all_read reads ds) _ xs a.2 in
    let same : a.0 ∷ b.0 ≡ xs = cc in
    subst (AllByRecursion P) same (each d a.0 a.1, all_read_all P reads each ds b.0 b.1)
