-- What is written has its text, and is read again.
use Rattle.std.proofs.Common.{◌≡◌, ℕ, ◌≤◌, ◌^◌, ◌==◌, ◌&&◌, true, false, nat_le, ℤ, pos, negsuc, int_le, int_lt, ◌≤ℤ◌, ◌<ℤ◌, List, Vec, Global, Option, Some, None, Result, Ok, Err, IfOk, IfSome, IsUtf8, refl, sym, ap, subst, ◌∙◌, arith}
use Rattle.std.specs.declared.alloc.AllocError.{AllocError}
use Rattle.std.proofs.lemmas.Bool.Decides.{Decides-eqb, Decides-ltb, nat_tests}
use Rattle.std.proofs.lemmas.Int.{ints}
use Rattle.std.specs.Fmt.{decimal, signed_decimal}
use Rattle.std.specs.Int.{w64}
use Rattle.std.specs.Int.RustNames.{FitsSigned}
use Rattle.pm_base.specs.Outcome.{◌>>=◌}
use Rattle.serde_json.specs.Data.{Data, depth}
use Rattle.serde_json.specs.Find.{as_i64, as_str, of_integer, is_float}
use Rattle.serde_json.specs.Read.{read, max_depth}
use Rattle.serde_json.specs.Written.{has_float, compact_text}
use Rattle.pm_snapshot.proofs.Decimals.{naturals, integers}
use Rattle.pm_snapshot.proofs.ReadLemmas.{json_in-ok}
use Rattle.pm_snapshot.specs.Consumer.{consumer_from, consumer_data, consumer_text, next_from}
use Rattle.pm_snapshot.specs.Field.{json_in, as_integer, unless_null}
use Rattle.pm_snapshot.specs.Ranges.{HasCommitRanges, HasCountRanges, HasPropertyRanges}
use Rattle.pm_snapshot.specs.Snapshot.{IsConsistent, is_consistent, kind_text, kind_in, snapshot_from, snapshot_data, snapshot_text, text_or_null, integer_or_null}
use Rattle.pm_snapshot.specs.declared.commit_kind.CommitKind.{CommitKind}
use Rattle.pm_snapshot.specs.declared.commit_kind.CommitKind.TheVariants.{Append, Compact, Overwrite, Analyze}
use Rattle.pm_snapshot.specs.declared.consumer.Consumer.{Consumer}
use Rattle.pm_snapshot.specs.declared.fault.SnapFault.{SnapFault}
use Rattle.pm_snapshot.specs.declared.snapshot.Snapshot.{Snapshot}

-- written bytes are read as the JSON that was written
pub IfOk-again : {A : Type 0} (r : Result (Vec ℕ Global) AllocError) (d e : Data) (reader : Data
    → Result A SnapFault) (x : A) (P : Type 0)
    → d ≡ e → depth e ≤ max_depth → (P → reader e ≡ Ok x)
    → IfOk r (λ b. IsUtf8 b.items) → IfOk r (λ b. depth d ≤ max_depth → read b.items ≡ Some d)
    → IfOk r (λ v. P → (json_in v.items >>= reader) ≡ Ok x)
IfOk-again (Ok v) d e reader x P is shallow reads utf8 back =
    λ p.
    let found = back (subst (λ y. depth y ≤ max_depth) (sym is) shallow) in
    ap (λ q. q >>= reader) (json_in-ok v.items d utf8 found) ∙ ap reader is ∙ reads p
IfOk-again (Err err) d e reader x P is shallow reads utf8 back = tt

-- ---- parts of what is written

as_i64-of_integer : (z : ℤ) → FitsSigned w64 z → as_i64 (of_integer z) ≡ Some z
as_i64-of_integer (pos n) fits = rw ((Decides-ltb n (2 ^ 63)).1 fits.sfits) refl
as_i64-of_integer (negsuc n) fits = refl

unless_null-integer : (o : Option ℤ) → IfSome o (FitsSigned w64) → unless_null as_integer (integer_or_null o) ≡ Ok o
unless_null-integer None fits = refl
unless_null-integer (Some z) fits = rw (as_i64-of_integer z fits) refl

unless_null-text : (o : Option (List ℕ)) → unless_null as_str (text_or_null o) ≡ Ok o
unless_null-text None = refl
unless_null-text (Some text) = refl

kind_in-kind_text : (kind : CommitKind) → kind_in (kind_text kind) ≡ Some kind
kind_in-kind_text Append = refl
kind_in-kind_text Compact = refl
kind_in-kind_text Overwrite = refl
kind_in-kind_text Analyze = refl

is_float-of_integer : (z : ℤ) → is_float (of_integer z) ≡ false
is_float-of_integer (pos n) = refl
is_float-of_integer (negsuc n) = refl

has_float-integer : (o : Option ℤ) → has_float (integer_or_null o) ≡ false
has_float-integer None = refl
has_float-integer (Some z) = is_float-of_integer z

has_float-text : (o : Option (List ℕ)) → has_float (text_or_null o) ≡ false
has_float-text None = refl
has_float-text (Some text) = refl

depth-integer : (o : Option ℤ) → depth (integer_or_null o) ≡ 0
depth-integer None = refl
depth-integer (Some z) = refl

depth-text : (o : Option (List ℕ)) → depth (text_or_null o) ≡ 0
depth-text None = refl
depth-text (Some text) = refl

-- ---- the test of consistency holds

int_le-holds : (x y : ℤ) → x ≤ℤ y → int_le x y ≡ true
int_le-holds x y is = grind (arith, ints)

int_lt-holds : (x y : ℤ) → x <ℤ y → int_lt x y ≡ true
int_lt-holds x y is = grind (arith, ints)

nat_le-holds : (m n : ℕ) → m ≤ n → nat_le m n ≡ true
nat_le-holds m n is = grind (arith, nat_tests)

holds : (s : Snapshot) → IsConsistent s → ((s.id == s.id) && is_consistent s) ≡ true
holds s is =
    rw (
      (Decides-eqb s.id s.id).1 refl,
      (Decides-ltb s.base s.id).1 is.base_below,
      int_le-holds (negsuc 0) s.fence is.fence_least,
      int_lt-holds s.fence (pos s.id) is.fence_below,
      nat_le-holds s.appends s.id is.appends_within,
      nat_le-holds s.full s.appends is.full_within,
    ) refl

-- ---- a snapshot

pub record Ranges (s : Snapshot) : Type 0 where
  pub commit : HasCommitRanges s
  pub counts : HasCountRanges s
  pub own : HasPropertyRanges s

pub has_float-snapshot_data : (s : Snapshot) → has_float (snapshot_data s) ≡ false
has_float-snapshot_data s =
    rw (
      has_float-text s.changelog_list,
      has_float-integer s.changelog,
      is_float-of_integer s.ident,
      is_float-of_integer s.delta,
      is_float-of_integer s.time,
      is_float-of_integer s.total,
      has_float-integer s.watermark,
    ) refl

pub depth-snapshot_data : (s : Snapshot) → depth (snapshot_data s) ≤ max_depth
depth-snapshot_data s =
    let list = depth-text s.changelog_list in
    let count = depth-integer s.changelog in
    let mark = depth-integer s.watermark in
    omega arith

pub snapshot_from-snapshot_data : (s : Snapshot) → Ranges s → IsConsistent s → snapshot_from s.id (snapshot_data s) ≡ Ok s
unfolding snapshot_from
snapshot_from-snapshot_data s ranges is =
    rw (
      unless_null-text s.changelog_list,
      as_i64-of_integer s.ident ranges.commit.ident,
      kind_in-kind_text s.kind,
      as_i64-of_integer s.time ranges.commit.time,
      as_i64-of_integer s.total ranges.counts.total,
      as_i64-of_integer s.delta ranges.counts.delta,
      unless_null-integer s.changelog ranges.counts.changelog,
      unless_null-integer s.watermark ranges.counts.watermark,
      naturals.found (decimal s.base) s.base ranges.own.base refl,
      integers.found (signed_decimal s.fence) s.fence ranges.own.fence refl,
      naturals.found (decimal s.appends) s.appends ranges.own.appends refl,
      naturals.found (decimal s.full) s.full ranges.own.full refl,
      holds s is,
    ) refl

pub snapshot_text-printed : (s : Snapshot) (d : Data) (bytes : List ℕ) → d ≡ snapshot_data s
    → (has_float d ≡ false → bytes ≡ compact_text d) → bytes ≡ snapshot_text s
unfolding snapshot_text
snapshot_text-printed s d bytes is prints = prints (ap has_float is ∙ has_float-snapshot_data s) ∙ ap compact_text is

-- ---- a consumer

pub has_float-consumer_data : (c : Consumer) → has_float (consumer_data c) ≡ false
has_float-consumer_data c = elim c.fresh as (λ b. has_float (consumer_data
    (record c { fresh = b })) ≡ false) [ true ↦ refl | false ↦ refl ]

pub depth-consumer_data : (c : Consumer) → depth (consumer_data c) ≤ max_depth
depth-consumer_data c = elim c.fresh as (λ b. depth (consumer_data
    (record c { fresh = b })) ≤ max_depth) [ true ↦ omega arith | false ↦ omega arith ]

next_from-some : (n : ℕ) → 1 ≤ n → next_from n ≡ Ok n
next_from-some n some = rw ((Decides-ltb 0 n).1 some) refl

pub consumer_from-consumer_data : (c : Consumer) → 1 ≤ c.next → consumer_from (consumer_data c) ≡ Ok c
consumer_from-consumer_data c some =
    elim c.fresh as (λ b. consumer_from (consumer_data (record c { fresh = b })) ≡ Ok (record c { fresh = b }))
    [ true ↦ rw (next_from-some c.next some) refl | false ↦ rw (next_from-some c.next some) refl ]

pub consumer_text-printed : (c : Consumer) (d : Data) (bytes : List ℕ) → d ≡ consumer_data c
    → (has_float d ≡ false → bytes ≡ compact_text d) → bytes ≡ consumer_text c
unfolding consumer_text
consumer_text-printed c d bytes is prints = prints (ap has_float is ∙ has_float-consumer_data c) ∙ ap compact_text is
