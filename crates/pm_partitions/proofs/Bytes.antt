-- Texts are bytes.
use Rattle.std.proofs.Common.{◌≡◌, ℕ, ◌<◌, true, List, [], ◌∷◌, IsUtf8, subst, arith, inl, inr}
use Rattle.std.proofs.Math.Utf8.{encode, encodes, scalar, scalars, scalar_cases}
use Rattle.std.proofs.lemmas.Bool.{cases_lt, le-ltb, lt-ltb}
use Rattle.std.specs.List.{AllByRecursion}
use Rattle.pm_base.proofs.Laws.{AllByRecursion-append}
use Rattle.pm_partitions.proofs.Tests.{both}

abbrev pub AreBytes : List ℕ → Type 0
AreBytes bytes = AllByRecursion (λ b. b < 256) bytes

scalar_below : (c : ℕ) → scalar c ≡ true → c < 1114112
scalar_below c e = elim (scalar_cases c e) [ inl low ↦ omega arith | inr high ↦ high.1 ]

encode-bytes : (c : ℕ) → c < 1114112 → AreBytes (encode c)
unfolding encode
encode-bytes c lt = elim (cases_lt c 128) [
  | inl one ↦ rw (lt-ltb c 128 one) (omega arith, tt)
  | inr a ↦ elim (cases_lt c 2048) [
    | inl two ↦ rw (le-ltb c 128 a, lt-ltb c 2048 two) (omega arith, (omega arith, tt))
    | inr b ↦ elim (cases_lt c 65536) [
      | inl three ↦
          rw (le-ltb c 128 a, le-ltb c 2048 b, lt-ltb c 65536 three) (omega arith, (omega arith, (omega arith, tt)))
      | inr d ↦
          rw (le-ltb c 128 a, le-ltb c 2048 b, le-ltb c 65536 d)
          (omega arith, (omega arith, (omega arith, (omega arith, tt))))
    ]
  ]
]

encodes-bytes : (cs : List ℕ) → scalars cs ≡ true → AreBytes (encodes cs)
encodes-bytes [] all = tt
encodes-bytes (c ∷ cs) all =
    let p = both (scalar c) (scalars cs) all in
    AllByRecursion-append (λ b. b < 256) (encode c) (encodes cs)
    (encode-bytes c (scalar_below c p.0)) (encodes-bytes cs p.1)

pub utf8-bytes : (text : List ℕ) → IsUtf8 text → AreBytes text
utf8-bytes text h = subst AreBytes h.1.1 (encodes-bytes h.0 h.1.0)
