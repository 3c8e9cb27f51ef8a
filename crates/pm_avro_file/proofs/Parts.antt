-- What stands at the prefix is one thing, and the rest of it stands at the end.
use Rattle.std.proofs.Common.{◌≡◌, ℕ, ◌+◌, ◌-◌, ◌<◌, ◌≤◌, pos, List, [], ◌∷◌, ◌++◌, length}
use Rattle.std.proofs.Common.{drop, Option, Some, None, refl, sym, ap, subst, ◌∙◌, arith}
use Rattle.std.proofs.lemmas.List.{length-append, drop_at}
use Rattle.std.proofs.lemmas.Option.{some_pair_parts}
use Rattle.pm_avro_schema.specs.Avro as types
use Rattle.pm_avro_schema.specs.Avro.{Avro}
use Rattle.pm_avro_data.specs.Datum.{Data, long}
use Rattle.pm_avro_data.specs.IsDatum.{IsDatum}
use Rattle.pm_avro_data.specs.Begins.{Begins}
use Rattle.pm_avro_data.proofs.Facts.{Follows, groups_shorter, datum_follows, datum_again}
use Rattle.pm_avro_file.specs.Part.{IsSize}
use Rattle.pm_avro_file.specs.Views.{size_in}

-- one datum, and one rest
pub datum_one : (t : Avro) (d e : Data) (source rest other : List ℕ) → IsDatum t d source rest → IsDatum t e source other → (d ≡ e) × (rest ≡ other)
datum_one t d e source rest other p q = some_pair_parts d e rest other (sym (datum_again t d source rest p) ∙ datum_again t e source other q)

-- a rest that stands at the end is what is left after the bytes before it
pub at_end : (source rest : List ℕ) → Follows source rest → drop (length source - length rest) source ≡ rest
at_end source rest f =
    let len : length source ≡ length f.prefix + length rest = ap length f.parts ∙ length-append f.prefix rest in
    let n : length source - length rest ≡ length f.prefix = omega arith in
    ap (λ (k : ℕ). drop k source) n ∙ ap (drop (length f.prefix)) f.parts ∙ drop_at f.prefix rest (length f.prefix) refl

pub not_longer : (source rest : List ℕ) → Follows source rest → length rest ≤ length source
not_longer source rest f = omega (arith, ap length f.parts, length-append f.prefix rest)

-- a datum at the prefix is one that the source begins with
pub datum_begins : (t : Avro) (d : Data) (source rest : List ℕ) → IsDatum t d source rest → Begins t source d (length source - length rest)
datum_begins t d source rest h =
    let f = datum_follows t d source rest h in
    record { within = omega (arith, not_longer source rest f); datum = subst (λ (x : List ℕ). IsDatum t d source x) (sym (at_end source rest f)) h }

-- of an equal type, an equal datum
pub datum_as : (t u : Avro) (d e : Data) (source rest : List ℕ) → t ≡ u → d ≡ e → IsDatum t d source rest → IsDatum u e source rest
datum_as t u d e source rest kind same h = subst (λ (x : Data). IsDatum u x source rest) same (subst (λ (x : Avro). IsDatum x d source rest) kind h)

-- ---- sizes

pub size_one : (m n : ℕ) (source rest other : List ℕ) → IsSize m source rest → IsSize n source other → (m ≡ n) × (rest ≡ other)
size_one m n source rest other p q =
    let h = datum_one types.long (long (pos m)) (long (pos n)) source rest other p q in
    let e : long (pos m) ≡ long (pos n) = h.0 in
    (cc, h.1)

pub size_follows : (n : ℕ) (source rest : List ℕ) → IsSize n source rest → Follows source rest
size_follows n source rest h = datum_follows types.long (long (pos n)) source rest h

pub size_shorter : (n : ℕ) (source rest : List ℕ) → IsSize n source rest → length rest < length source
size_shorter n source rest h = groups_shorter source _ rest h.groups

-- a long that is a size
pub size_is : (d : Data) (source rest : List ℕ) (n : ℕ) → IsDatum types.long d source rest → size_in d ≡ Some n → IsSize n source rest
size_is (long (pos m)) source rest n h e =
    let k : m ≡ n = cc in
    subst (λ (x : ℕ). IsSize x source rest) k h
size_is d source rest n h e = absurd cc

-- a long that isn't one
pub size_not : (d : Data) (source rest : List ℕ) → IsDatum types.long d source rest → size_in d ≡ None → (n : ℕ) (other : List ℕ) → IsSize n source other → ⊥
size_not d source rest h e n other s =
    let o = datum_one types.long d (long (pos n)) source rest other h s in
    let f : ◌≡◌ {A = Option ℕ} None (Some n) = sym e ∙ ap size_in o.0 in
    absurd cc

-- ---- equal texts

-- prefixes that are as long are the same
pub prefixes_same : (a b x y : List ℕ) → length a ≡ length b → a ++ x ≡ b ++ y → (a ≡ b) × (x ≡ y)
prefixes_same [] [] x y len e = (refl, e)
prefixes_same [] (c ∷ b) x y len e = absurd (omega arith)
prefixes_same (c ∷ a) [] x y len e = absurd (omega arith)
prefixes_same (c ∷ a) (d ∷ b) x y len e =
    let h : c ≡ d = cc in
    let t : a ++ x ≡ b ++ y = cc in
    let r = prefixes_same a b x y (omega arith) t in
    let first = r.0 in
    (cc, r.1)
