-- The buckets of rows, one row after another.
use Rattle.std.proofs.Common.{◌≡◌, ℕ, suc, ◌+◌, ◌%◌, ◌<◌, ℤ, pos, negsuc, neg_ℤ, List, [], ◌∷◌, ◌++◌, map, length, take, get_or, replicate, refl, sym, ap, ◌∙◌, arith}
use Rattle.std.specs.Prelude.{unsigned_abs}
use Rattle.std.proofs.lemmas.List.{map-append, map_more}
use Rattle.pm_values.specs.Order.{Values}
use Rattle.pm_values.specs.declared.column.ColType.{ColType}
use Rattle.pm_values.specs.declared.column.ColType.TheVariants.{BigInt}
use Rattle.pm_values.specs.declared.kind.Kind.TheVariants as kinds
use Rattle.pm_values.specs.declared.record.Stamped.{Stamped}
use Rattle.pm_values.specs.declared.value.Value.{Value}
use Rattle.pm_values.specs.declared.value.Value.TheVariants.{Int as Whole}
use Rattle.pm_binrow.specs.Hashing.{bucket_of, hash_of}
use Rattle.pm_binrow.specs.Row.{body}
use Rattle.pm_lanes.specs.Longs.{long_bucket, long_hash}
use Rattle.pm_schema.specs.declared.schema.TableSchema.{TableSchema}
use Rattle.pm_model_history.specs.Merge.{key_of, value_at}
use Rattle.pm_model_following.specs.Groups.{bucket_in, bucket_key_of, kind_at}

-- some row, where a list has one at an index anyway
pub blank : Stamped
blank = record { key = []; seq = 0; kind = kinds.Insert; row = [] }

-- what is made of each of the rows so far, and of one more
pub made_more : {Y : Type 0} (f : Stamped → Y) (rows : List Stamped) (i : ℕ) (ys : List Y) (y : Y) → i < length rows → ys ≡ map f (take i rows) → y ≡ f (get_or rows i blank)
    → ys ++ y ∷ [] ≡ map f (take (i + 1) rows)
made_more f rows i ys y inside so_far is =
    ap (λ (zs : List _). zs ++ y ∷ []) so_far ∙ ap (λ z. map f (take i rows) ++ z ∷ []) is ∙ sym (map_more f rows i blank inside)

-- the same of numbers that are values
pub numbers_more : (f : Stamped → Value) (rows : List Stamped) (i : ℕ) (numbers : List ℤ) (number : ℤ) (new : List ℤ) → i < length rows → map f (take i rows) ≡ map Whole numbers
    → f (get_or rows i blank) ≡ Whole number → new ≡ numbers ++ number ∷ [] → map f (take (i + 1) rows) ≡ map Whole new
numbers_more f rows i numbers number new inside so_far is pushed =
    sym (made_more f rows i (map Whole numbers) (Whole number) inside (sym so_far) (sym is)) ∙ sym (map-append Whole numbers (number ∷ [])) ∙ ap (map Whole) (sym pushed)

-- ---- one bucket

pub bucket_of-one : (hash : ℤ) → bucket_of hash 1 ≡ 0
unfolding bucket_of
bucket_of-one (pos n) = omega arith
bucket_of-one (negsuc n) = let none : suc n % 1 ≡ 0 = omega arith in ap (λ (k : ℕ). unsigned_abs (neg_ℤ (pos k))) none

pub in_first : (s : TableSchema) (row : Values) → s.options.bucket ≡ 1 → bucket_in s row ≡ 0
in_first s row one =
    let hash = hash_of (body (map (kind_at s) (bucket_key_of s)) (key_of (bucket_key_of s) row)) in
    ap (bucket_of hash) one ∙ bucket_of-one hash

pub all_first : (s : TableSchema) (rows : List Stamped) → s.options.bucket ≡ 1 → replicate (length rows) 0 ≡ map (λ (x : Stamped). bucket_in s x.row) rows
all_first s [] one = refl
all_first s (x ∷ rows) one = ap (λ (b : ℕ). b ∷ replicate (length rows) 0) (sym (in_first s x.row one)) ∙ ap (λ (bs : List ℕ). bucket_in s x.row ∷ bs) (all_first s rows one)

-- ---- keys of one BIGINT

-- the only column of a key of one type
pub only_column : (s : TableSchema) (columns : List ℕ) (kind : ColType) (index : ℕ) → map (kind_at s) columns ≡ kind ∷ [] → index ≡ get_or columns 0 index → (columns ≡ index ∷ []) × (kind_at s index ≡ kind)
only_column s [] kind index one is = cc
only_column s (c ∷ []) kind index one is = (ap (λ (i : ℕ). i ∷ []) (sym is), ap (kind_at s) is ∙ (let same : kind_at s c ≡ kind = cc in same))
only_column s (c ∷ d ∷ more) kind index one is = cc

-- its hash is that of the number
long_bucket-is : (s : TableSchema) (index : ℕ) (row : Values) (number : ℤ) → bucket_key_of s ≡ index ∷ [] → kind_at s index ≡ BigInt → value_at row index ≡ Whole number
    → long_bucket s.options.bucket number ≡ bucket_in s row
unfolding long_hash
long_bucket-is s index row number columns kind value =
    let by_column : bucket_in s row ≡ bucket_of (hash_of (body (kind_at s index ∷ []) (value_at row index ∷ []))) s.options.bucket =
    ap (λ (cs : List ℕ). bucket_of (hash_of (body (map (kind_at s) cs) (key_of cs row))) s.options.bucket) columns in
    let by_kind = ap (λ (k : ColType). bucket_of (hash_of (body (k ∷ []) (value_at row index ∷ []))) s.options.bucket) kind in
    let by_value = ap (λ (v : Value). bucket_of (hash_of (body (BigInt ∷ []) (v ∷ []))) s.options.bucket) value in
    sym (by_column ∙ by_kind ∙ by_value)

pub long_buckets-are : (s : TableSchema) (index : ℕ) (rows : List Stamped) (numbers : List ℤ) → bucket_key_of s ≡ index ∷ [] → kind_at s index ≡ BigInt
    → map (λ (x : Stamped). value_at x.row index) rows ≡ map Whole numbers → map (long_bucket s.options.bucket) numbers ≡ map (λ (x : Stamped). bucket_in s x.row) rows
long_buckets-are s index [] [] columns kind values = refl
long_buckets-are s index [] (n ∷ ns) columns kind values = cc
long_buckets-are s index (x ∷ rows) [] columns kind values = cc
long_buckets-are s index (x ∷ rows) (n ∷ ns) columns kind values =
    let own : value_at x.row index ≡ Whole n = cc in
    let others : map (λ (x : Stamped). value_at x.row index) rows ≡ map Whole ns = cc in
    ap (λ (b : ℕ). b ∷ map (long_bucket s.options.bucket) ns) (long_bucket-is s index x.row n columns kind own)
    ∙ ap (λ (bs : List ℕ). bucket_in s x.row ∷ bs) (long_buckets-are s index rows ns columns kind others)
