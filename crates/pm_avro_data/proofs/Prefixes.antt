-- A prefix that is a datum, by its length.
use Rattle.std.proofs.Common.{◌≡◌, ℕ, ◌+◌, ◌-◌, ◌≤◌, List, ◌++◌, length, drop, Some}
use Rattle.std.proofs.Common.{None, Option, refl, sym, ap, subst, ◌∙◌, inl, inr, arith}
use Rattle.std.proofs.lemmas.List.{length-append, length-drop, drop_at, append_cancel_right}
use Rattle.std.proofs.lemmas.Bool.{cases_lt}
use Rattle.std.proofs.lemmas.Option.{some_pair_parts}
use Rattle.pm_avro_schema.specs.Avro.{Avro}
use Rattle.pm_avro_schema.specs.declared.fault.AvroFault.{AvroFault}
use Rattle.pm_avro_schema.specs.declared.fault.AvroFault.TheVariants as faults
use Rattle.pm_avro_data.specs.Datum.{Data}
use Rattle.pm_avro_data.specs.IsDatum.{IsDatum}
use Rattle.pm_avro_data.specs.Begins.{Begins, HasCause}
use Rattle.pm_avro_data.specs.Reading.{YieldsNone, datum_at}
use Rattle.pm_avro_data.proofs.Moves.{datum_moves, datum_follows}
use Rattle.pm_avro_data.proofs.Readings.{datum_takes, datum_again}

pub prefix_found : (t : Avro) (source : List ℕ) (d : Data) (rest : List ℕ) → datum_at t source ≡ Some (d, rest) → Begins t source d (length source - length rest)
prefix_found t source d rest e =
    let h = datum_takes t source d rest e in
    let f = datum_follows t d source rest h in
    let len : length source ≡ length f.prefix + length rest = ap length f.parts ∙ length-append f.prefix rest in
    let n : length source - length rest ≡ length f.prefix = omega arith in
    let left : drop (length source - length rest) source ≡ rest = ap (λ (k : ℕ). drop k source) n ∙ ap (drop (length f.prefix)) f.parts ∙ drop_at f.prefix rest (length f.prefix) refl in
    record { within = omega arith; datum = subst (λ (x : List ℕ). IsDatum t d source x) (sym left) h }

pub prefix_only : (t : Avro) (source : List ℕ) (d : Data) (rest : List ℕ) (e : Data) (n : ℕ) → datum_at t source ≡ Some (d, rest) → Begins t source e n → (d ≡ e) × (length source - length rest ≡ n)
prefix_only t source d rest e n read b =
    let q = some_pair_parts d e rest (drop n source) (sym read ∙ datum_again t e source (drop n source) b.datum) in
    (q.0, omega (arith, ap length q.1, length-drop n source, b.within))

pub prefix_none : (t : Avro) (source : List ℕ) (d : Data) (n : ℕ) → datum_at t source ≡ None → Begins t source d n → ⊥
prefix_none t source d n read b =
    let e : ◌≡◌ {A = Option (Data × List ℕ)} None (Some (d, drop n source)) = sym read ∙ datum_again t d source (drop n source) b.datum in
    absurd cc

pub fault_cause : (t : Avro) (source : List ℕ) (e : AvroFault) → YieldsNone e (datum_at t source) → HasCause t source e
fault_cause t source faults.Memory f = tt
fault_cause t source (faults.Unsupported what said) f = f
fault_cause t source (faults.Bad offset) f = (f.0, λ d n b. prefix_none t source d n f.1 b)

pub fault_only : (t : Avro) (source : List ℕ) (e : AvroFault) (d : Data) (n : ℕ) → YieldsNone e (datum_at t source) → Begins t source d n → e ≡ faults.Memory
fault_only t source faults.Memory d n f b = refl
fault_only t source (faults.Unsupported what said) d n f b = absurd f
fault_only t source (faults.Bad offset) d n f b = absurd (prefix_none t source d n f.1 b)

-- ---- the laws

pub one_at : (t : Avro) (d e : Data) (source rest : List ℕ) → IsDatum t d source rest → IsDatum t e source rest → d ≡ e
one_at t d e source rest p q = (some_pair_parts d e rest rest (sym (datum_again t d source rest p) ∙ datum_again t e source rest q)).0

-- the same bytes before a longer rest
lifted : (t : Avro) (d : Data) (bytes x y : List ℕ) → length x ≤ length y → IsDatum t d (bytes ++ x) x → IsDatum t d (bytes ++ y) y
lifted t d bytes x y le h =
    let m = datum_moves t d (bytes ++ x) x h in
    let same : bytes ≡ m.prefix = append_cancel_right bytes m.prefix x m.parts in
    subst (λ (f : List ℕ). IsDatum t d (f ++ y) y) (sym same) (m.moved y le)

pub one_of_bytes : (t : Avro) (d e : Data) (bytes x y : List ℕ) → IsDatum t d (bytes ++ x) x → IsDatum t e (bytes ++ y) y → d ≡ e
one_of_bytes t d e bytes x y p q =
    elim (cases_lt (length x) (length y)) [
      | inl lt ↦ one_at t d e (bytes ++ y) y (lifted t d bytes x y (omega arith) p) q
      | inr le ↦ one_at t d e (bytes ++ x) x p (lifted t e bytes y x le q)
    ]

pub one_prefix : (t : Avro) (d e : Data) (a b x y : List ℕ) → a ++ x ≡ b ++ y → IsDatum t d (a ++ x) x → IsDatum t e (b ++ y) y → a ≡ b
one_prefix t d e a b x y same p q =
    let r = some_pair_parts d e x y (sym (datum_again t d (a ++ x) x p) ∙ ap (datum_at t) same ∙ datum_again t e (b ++ y) y q) in
    append_cancel_right a b x (same ∙ ap (λ (z : List ℕ). b ++ z) (sym r.1))
