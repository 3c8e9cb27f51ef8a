-- The text of a snapshot, or of a consumer, reads as the JSON that it was made of.
use Rattle.std.proofs.Common.{◌≡◌, ℕ, suc, ◌<◌, ◌≤◌, ◌^◌, Bool, true, false, ℤ, pos, negsuc, List, [], ◌∷◌, codes, Option, Some, None, option_map, option_and_then, Ok, IfSome, IsUtf8, refl, sym, ap, ◌∙◌, arith, append-nil}
use Rattle.std.specs.Fmt.{decimal, signed_decimal}
use Rattle.std.specs.Int.{w64}
use Rattle.std.specs.Int.RustNames.{FitsSigned}
use Rattle.std.specs.List.{AllByRecursion}
use Rattle.std.proofs.lemmas.Fmt.{IsAscii-decimal, IsAscii-signed}
use Rattle.std.proofs.lemmas.Str.{IsUtf8-append, IsUtf8-from_ascii}
use Rattle.json.specs.Lex.{tokens}
use Rattle.json.specs.Json as json
use Rattle.json.specs.Tree as tree
use Rattle.json.proofs.Printed.Decimals.{IsNumber-decimal, IsNumber-signed_decimal}
use Rattle.json.proofs.Printed.Tokens.{tokens-print}
use Rattle.json.proofs.Printed.Trees.{value-json_tokens, ArePrintable-json_tokens}
use Rattle.json.proofs.Printed.Utf8.{IsUtf8-are_ascii, IsUtf8-quoted}
use Rattle.serde_json.specs.Data.{Data, null, number, unsigned, string, object, no_members}
use Rattle.serde_json.specs.Find.{of_integer}
use Rattle.serde_json.specs.Read.{of_json, of_members, max_depth, read}
use Rattle.serde_json.specs.Written.{outline, members_outline, comma_if, compact_text, members_text}
use Rattle.serde_json.proofs.Numbers.{number_of-decimal, number_of-negative}
use Rattle.serde_json.proofs.Texts.{print-outline}
use Rattle.pm_snapshot.proofs.Decimals.{naturals, integers}
use Rattle.pm_snapshot.proofs.ReadLemmas.{json_in-ok}
use Rattle.pm_snapshot.specs.Field.{json_in}
use Rattle.pm_base.specs.Outcome.{◌>>=◌}
use Rattle.pm_snapshot.proofs.SnapshotLemmas.{snapshot_in-one}
use Rattle.pm_snapshot.proofs.WriteLemmas.{Ranges, snapshot_from-snapshot_data, consumer_from-consumer_data}
use Rattle.pm_snapshot.specs.Snapshot.{IsSnapshot, kind_text, members, text_or_null, integer_or_null, properties_members, properties_data, snapshot_members, snapshot_data, snapshot_text, snapshot_from, snapshot_in}
use Rattle.pm_snapshot.specs.Consumer.{consumer_members, consumer_data, consumer_text, consumer_from, consumer_in}
use Rattle.pm_snapshot.specs.declared.commit_kind.CommitKind.{CommitKind}
use Rattle.pm_snapshot.specs.declared.commit_kind.CommitKind.TheVariants.{Append, Compact, Overwrite, Analyze}
use Rattle.pm_snapshot.specs.declared.consumer.Consumer.{Consumer}
use Rattle.pm_snapshot.specs.declared.snapshot.Snapshot.{Snapshot}

-- the compact text of the data, which nests at most n deep, reads as it
pub record IsWritten (n : ℕ) (d : Data) : Type 0 where
  pub numbers : tree.HasNumbers (outline d)
  pub reads : of_json (outline d) ≡ Some d
  pub utf8 : IsUtf8 (compact_text d)
  pub shallow : tree.depth (outline d) ≤ n

IsWritten-null : (n : ℕ) → IsWritten n null
IsWritten-null n = record { numbers = tt; reads = refl; utf8 = IsUtf8-are_ascii _ refl; shallow = omega arith }

IsWritten-string : (n : ℕ) (text : List ℕ) → IsUtf8 text → IsWritten n (string text)
IsWritten-string n text utf8 = record {
  numbers = tt;
  reads = refl;
  utf8 = IsUtf8-quoted text utf8;
  shallow = omega
      arith;
}

IsWritten-natural : (n m : ℕ) → m < 2 ^ 64 → IsWritten n (number (unsigned m))
IsWritten-natural n m fits = record {
  numbers = IsNumber-decimal m fits;
  reads = ap (option_map number) (number_of-decimal m fits);
  utf8 = IsUtf8-from_ascii _ (IsAscii-decimal m fits);
  shallow = omega arith;
}

IsWritten-integer : (n : ℕ) (z : ℤ) → FitsSigned w64 z → IsWritten n (number (of_integer z))
IsWritten-integer n (pos m) fits = IsWritten-natural n m (let small = fits.sfits in omega arith)
IsWritten-integer n (negsuc m) fits = record {
  numbers = IsNumber-signed_decimal (negsuc m) fits.sfits;
  reads = ap (option_map number) (number_of-negative m fits.sfits);
  utf8 = IsUtf8-from_ascii _ (IsAscii-signed (negsuc m) fits.sfits);
  shallow = omega arith;
}

IsWritten-text_or_null : (n : ℕ) (o : Option (List ℕ)) → IfSome o IsUtf8 → IsWritten n (text_or_null o)
IsWritten-text_or_null n None h = IsWritten-null n
IsWritten-text_or_null n (Some text) h = IsWritten-string n text h

IsWritten-integer_or_null : (n : ℕ) (o : Option ℤ) → IfSome o (FitsSigned w64) → IsWritten n (integer_or_null o)
IsWritten-integer_or_null n None h = IsWritten-null n
IsWritten-integer_or_null n (Some z) h = IsWritten-integer n z h

-- ---- objects

-- a member that is written
abbrev Member : ℕ → List ℕ × Data → Type 0
Member n m = IsUtf8 m.0 × IsWritten n m.1

abbrev AreMembers : ℕ → List (List ℕ × Data) → Type 0
AreMembers n = AllByRecursion (Member n)

members-numbers : (n : ℕ) (ms : List (List ℕ × Data)) → AreMembers n ms
    → tree.MembersHaveNumbers (members_outline (members ms))
members-numbers n [] h = tt
members-numbers n (m ∷ ms) h = (h.0.1.numbers, members-numbers n ms h.1)

members-shallow : (n : ℕ) (ms : List (List ℕ × Data)) → AreMembers n ms
    → tree.members_depth (members_outline (members ms)) ≤ n
members-shallow n [] h = omega arith
members-shallow n (m ∷ ms) h = omega (arith, h.0.1.shallow, members-shallow n ms h.1)

IsUtf8-comma_if : (later : Bool) → IsUtf8 (comma_if later)
IsUtf8-comma_if true = IsUtf8-are_ascii _ refl
IsUtf8-comma_if false = IsUtf8-are_ascii _ refl

members-utf8 : (n : ℕ) (later : Bool) (ms : List (List ℕ × Data)) → AreMembers n ms
    → IsUtf8 (members_text later (members ms))
members-utf8 n later [] h = IsUtf8-are_ascii _ refl
members-utf8 n later (m ∷ ms) h =
    let rest = IsUtf8-append _ _ h.0.1.utf8 (members-utf8 n true ms h.1) in
    let colon = IsUtf8-append (58 ∷ []) _ (IsUtf8-are_ascii _ refl) rest in
    IsUtf8-append _ _ (IsUtf8-comma_if later) (IsUtf8-append _ _ (IsUtf8-quoted m.0 h.0.0) colon)

-- an object whose members stay in their order
IsWritten-object : (n : ℕ) (ms : List (List ℕ × Data)) → AreMembers n ms
    → of_members (members_outline (members ms)) no_members ≡ Some (members ms) → IsWritten (suc n) (object (members ms))
IsWritten-object n ms all kept = record {
  numbers = members-numbers n ms all;
  reads = ap (option_map object) kept;
  utf8 = IsUtf8-append (123 ∷ []) _ (IsUtf8-are_ascii _ refl) (members-utf8 n false ms all);
  shallow = omega (arith, members-shallow n ms all);
}

json_in-written : (d : Data) → IsWritten 2 d → json_in (compact_text d) ≡ Ok d
json_in-written d is =
    let j = outline d in
    let shallow : tree.depth j ≤ max_depth = omega (arith, is.shallow) in
    let lexed = ap tokens (sym (print-outline d)) ∙ tokens-print (tree.json_tokens j)
    (ArePrintable-json_tokens j is.numbers) ∙ sym (append-nil (tree.json_tokens j)) in
    let parsed = ap (json.value max_depth) lexed ∙ value-json_tokens j max_depth [] shallow in
    let found : read (compact_text d) ≡ Some d = ap (λ p. option_and_then of_json (option_and_then
    (λ p. json.if_last p.0 p.1) p)) parsed ∙ is.reads in
    json_in-ok (compact_text d) d is.utf8 found

-- ---- a snapshot

IsUtf8-kind_text : (kind : CommitKind) → IsUtf8 (kind_text kind)
IsUtf8-kind_text Append = IsUtf8-are_ascii _ refl
IsUtf8-kind_text Compact = IsUtf8-are_ascii _ refl
IsUtf8-kind_text Overwrite = IsUtf8-are_ascii _ refl
IsUtf8-kind_text Analyze = IsUtf8-are_ascii _ refl

IsWritten-properties : (s : Snapshot) → IsSnapshot s → IsWritten 1 (properties_data s)
IsWritten-properties s is =
    IsWritten-object 0 (properties_members s) (
      (
        IsUtf8-are_ascii (codes "appends") refl,
        IsWritten-string 0 (decimal s.appends)
            (naturals.utf8 s.appends is.appends_bits),
      ),
      (
        (IsUtf8-are_ascii (codes "base") refl, IsWritten-string 0 (decimal s.base) (naturals.utf8 s.base is.base_bits)),
        (
          (
            IsUtf8-are_ascii (codes "fence") refl,
            IsWritten-string 0 (signed_decimal s.fence)
                (integers.utf8 s.fence is.fence_fits),
          ),
          (
            (
              IsUtf8-are_ascii (codes "full") refl,
              IsWritten-string 0 (decimal s.full)
                  (naturals.utf8 s.full is.full_bits),
            ),
            tt,
          ),
        ),
      ),
    )
    refl

snapshot_kept : (s : Snapshot) → IsSnapshot s → of_members (members_outline (members
    (snapshot_members s))) no_members ≡ Some (members (snapshot_members s))
snapshot_kept s is =
    rw (
      (IsWritten-text_or_null 1 s.changelog_list is.changelog_list).reads,
      (IsWritten-integer_or_null 1 s.changelog is.changelog_fits).reads,
      (IsWritten-integer 1 s.ident is.ident_fits).reads,
      (IsWritten-integer 1 s.delta is.delta_fits).reads,
      number_of-decimal s.id is.id_bits,
      number_of-decimal s.schema_id is.schema_id_bits,
      (IsWritten-integer 1 s.time is.time_fits).reads,
      (IsWritten-integer 1 s.total is.total_fits).reads,
      number_of-decimal 3 (omega arith),
      (IsWritten-integer_or_null 1 s.watermark is.watermark_fits).reads,
    ) refl

IsWritten-snapshot : (s : Snapshot) → IsSnapshot s → IsWritten 2 (snapshot_data s)
IsWritten-snapshot s is =
    IsWritten-object 1 (snapshot_members s) (
      (IsUtf8-are_ascii (codes "baseManifestList") refl, IsWritten-string 1 s.base_list is.base_list),
      (
        (
          IsUtf8-are_ascii (codes "changelogManifestList") refl,
          IsWritten-text_or_null 1 s.changelog_list
              is.changelog_list,
        ),
        (
          (
            IsUtf8-are_ascii (codes "changelogRecordCount") refl,
            IsWritten-integer_or_null 1 s.changelog
                is.changelog_fits,
          ),
          (
            (IsUtf8-are_ascii (codes "commitIdentifier") refl, IsWritten-integer 1 s.ident is.ident_fits),
            (
              (
                IsUtf8-are_ascii (codes "commitKind") refl,
                IsWritten-string 1 (kind_text s.kind)
                    (IsUtf8-kind_text s.kind),
              ),
              (
                (IsUtf8-are_ascii (codes "commitUser") refl, IsWritten-string 1 s.user is.user),
                (
                  (IsUtf8-are_ascii (codes "deltaManifestList") refl, IsWritten-string 1 s.delta_list is.delta_list),
                  (
                    (IsUtf8-are_ascii (codes "deltaRecordCount") refl, IsWritten-integer 1 s.delta is.delta_fits),
                    (
                      (IsUtf8-are_ascii (codes "id") refl, IsWritten-natural 1 s.id is.id_bits),
                      (
                        (IsUtf8-are_ascii (codes "properties") refl, IsWritten-properties s is),
                        (
                          (IsUtf8-are_ascii (codes "schemaId") refl, IsWritten-natural 1 s.schema_id is.schema_id_bits),
                          (
                            (IsUtf8-are_ascii (codes "timeMillis") refl, IsWritten-integer 1 s.time is.time_fits),
                            (
                              (
                                IsUtf8-are_ascii
                                    (codes "totalRecordCount") refl,
                                IsWritten-integer 1 s.total is.total_fits,
                              ),
                              (
                                (IsUtf8-are_ascii (codes "version") refl, IsWritten-natural 1 3 (omega arith)),
                                (
                                  (
                                    IsUtf8-are_ascii
                                        (codes "watermark") refl,
                                    IsWritten-integer_or_null 1 s.watermark
                                        is.watermark_fits,
                                  ),
                                  tt,
                                ),
                              ),
                            ),
                          ),
                        ),
                      ),
                    ),
                  ),
                ),
              ),
            ),
          ),
        ),
      ),
    )
    (snapshot_kept s is)

ranges_of : (s : Snapshot) → IsSnapshot s → Ranges s
ranges_of s is = record {
  commit = record { ident = is.ident_fits; time = is.time_fits };
  counts = record {
    total = is.total_fits;
    delta = is.delta_fits;
    changelog = is.changelog_fits;
    watermark =
        is.watermark_fits;
  };
  own = record { base = is.base_bits; fence = is.fence_fits; appends = is.appends_bits; full = is.full_bits };
}

pub snapshot_in-snapshot_text : (s : Snapshot) → IsSnapshot s → snapshot_in s.id (snapshot_text s) ≡ Ok s
unfolding snapshot_text snapshot_in
snapshot_in-snapshot_text s is =
    ap (λ q. q >>= snapshot_from s.id) (json_in-written (snapshot_data s) (IsWritten-snapshot s is))
    ∙ snapshot_from-snapshot_data s (ranges_of s is) is.consistent

-- two snapshots have different texts
pub snapshot_text-injective : (s t : Snapshot) → IsSnapshot s → IsSnapshot t → snapshot_text s ≡ snapshot_text t → s ≡ t
snapshot_text-injective s t p q is =
    snapshot_in-one s.id t.id (snapshot_text s) s t (snapshot_in-snapshot_text s p) (ap (snapshot_in t.id) is
    ∙ snapshot_in-snapshot_text t q)

-- ---- a consumer

consumer_written : (n : ℕ) (b : Bool) → n < 2 ^ 64 → IsWritten 2 (consumer_data (record { next = n; fresh = b }))
consumer_written n true fits =
    let next = IsWritten-natural 1 n fits in
    IsWritten-object 1 (consumer_members (record { next = n; fresh = true })) (
      (IsUtf8-are_ascii (codes "nextSnapshot") refl, next),
      (
        (
          IsUtf8-are_ascii (codes "state") refl,
          IsWritten-string 1 (codes "new") (IsUtf8-are_ascii
              (codes "new") refl),
        ),
        tt,
      ),
    )
    (rw (number_of-decimal n fits) refl)
consumer_written n false fits =
    IsWritten-object 1 (consumer_members (record { next = n; fresh = false }))
    ((IsUtf8-are_ascii (codes "nextSnapshot") refl, IsWritten-natural 1 n fits), tt)
    (rw (number_of-decimal n fits) refl)

pub consumer_in-consumer_text : (c : Consumer) → 1 ≤ c.next → c.next < 2 ^ 64 → consumer_in (consumer_text c) ≡ Ok c
unfolding consumer_text consumer_in
consumer_in-consumer_text c some fits =
    ap (λ q. q >>= consumer_from) (json_in-written (consumer_data c) (consumer_written c.next c.fresh fits))
    ∙ consumer_from-consumer_data c some
