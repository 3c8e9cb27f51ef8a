-- A number in no more groups than it takes is spelled as it is written.
use Rattle.std.proofs.Common.{◌≡◌, ℕ, zero, suc, ◌+◌, ◌-◌, ◌*◌, ◌/◌, ◌%◌, ◌<◌, ◌≤◌, ◌⊎◌, ℤ, pos, negsuc, Bool, true, false, cond, List, [], ◌∷◌, ◌++◌, drop, length, refl, sym, ap, subst, ◌∙◌, inl, inr, arith, FitsSigned, w32, w64}
use Rattle.std.specs.Prelude.{slice_index, ◌==◌}
use Rattle.std.proofs.lemmas.Bool.{lt-ltb, le-ltb, eqb-true, eqb-false}
use Rattle.std.proofs.lemmas.List.{length-drop}
use Rattle.pm_avro_schema.specs.Avro as types
use Rattle.pm_avro_data.specs.Begins.{Begins}
use Rattle.pm_avro_data.specs.Datum.{Data, int, long, null, union_of}
use Rattle.pm_avro_data.specs.Number.{AreGroups, IsInt, IsLong, zigzag}
use Rattle.pm_avro_data.specs.Reading.{unzigzag}
use Rattle.pm_avro_data.specs.Writing.{encoding, groups, integer}
use Rattle.pm_avro_data.proofs.Facts.{groups_shorter}
use Rattle.pm_run_scalars.specs.Spelled.{AreLeastGroups, IsSpelled}

groups_low : (more n : ℕ) → n < 128 → groups more n ≡ n ∷ []
unfolding groups
groups_low zero n low = refl
groups_low (suc more) n low = rw (lt-ltb n 128 low) refl

groups_high : (more n : ℕ) → 128 ≤ n → groups (suc more) n ≡ (n % 128 + 128) ∷ groups more (n / 128)
unfolding groups
groups_high more n high = rw (le-ltb n 128 high) refl

even_or_odd : (n : ℕ) (b : Bool) → n % 2 == 0 ≡ b → zigzag (cond b (pos (n / 2)) (negsuc (n / 2))) ≡ n
even_or_odd n true e = omega (arith, eqb-true (n % 2) 0 e)
even_or_odd n false e = omega (arith, eqb-false (n % 2) 0 e)

zigzag_back : (n : ℕ) → zigzag (unzigzag n) ≡ n
zigzag_back n = even_or_odd n (n % 2 == 0) refl

-- such groups are groups
least_groups : (source : List ℕ) (n : ℕ) (rest : List ℕ) → AreLeastGroups n source rest → AreGroups n source rest
least_groups [] n rest h = absurd h
least_groups (b ∷ source) n rest (inl h) = inl h
least_groups (b ∷ source) n rest (inr h) = inr (h.0, h.1, (h.2.0, h.2.2, least_groups source h.2.0 rest h.2.3))

-- and the bytes that are written
least_is : (more n : ℕ) (source rest : List ℕ) → AreLeastGroups n source rest → length source ≤ length rest + (more + 1) → source ≡ groups more n ++ rest
least_is more n [] rest h short = absurd h
least_is more n (b ∷ source) rest (inl h) short =
    let low : n < 128 = omega (arith, h.0, h.1) in
    rw (groups_low more n low) (ap (λ (t : List ℕ). b ∷ t) h.2 ∙ ap (λ (m : ℕ). m ∷ rest) (sym h.1))
least_is zero n (b ∷ source) rest (inr h) short = absurd (omega (arith, groups_shorter source h.2.0 rest (least_groups source h.2.0 rest h.2.3)))
least_is (suc more) n (b ∷ source) rest (inr h) short =
    let wide : 128 ≤ n = omega (arith, h.0, h.1, h.2.1, h.2.2) in
    let low : n % 128 + 128 ≡ b = omega (arith, h.0, h.1, h.2.2) in
    let high : n / 128 ≡ h.2.0 = omega (arith, h.0, h.1, h.2.2) in
    rw (groups_high more n wide, low, high) (ap (λ (t : List ℕ). b ∷ t) (least_is more h.2.0 source rest h.2.3 (omega (arith, short))))

-- one group more stands before those of what is above it
pub least_more : (n b high : ℕ) (source rest last : List ℕ) → source ≡ b ∷ rest → 128 ≤ b → b < 256 → 0 < high → n + 128 ≡ b + 128 * high → AreLeastGroups high rest last → AreLeastGroups n source last
least_more n b high source rest last is high_bit byte some sum groups = subst (λ (bs : List ℕ). AreLeastGroups n bs last) (sym is) (inr (high_bit, byte, (high, some, sum, groups)))

pub least_one : (b : ℕ) (source rest : List ℕ) → source ≡ b ∷ rest → b < 128 → AreLeastGroups b source rest
least_one b source rest is low = subst (λ (bs : List ℕ). AreLeastGroups b bs rest) (sym is) (inl (low, refl, refl))

-- groups of which the last isn't 0, or which are one alone
least_some : (source : List ℕ) (n : ℕ) (rest : List ℕ) → AreLeastGroups n source rest → 0 < slice_index source (length source - length rest - 1) → 0 < n
least_some [] n rest h last = absurd h
least_some (b ∷ source) n rest (inl h) last =
    let at : length (b ∷ source) - length rest - 1 ≡ 0 = omega (arith, ap length h.2) in
    let some : 0 < b = rw at at last in
    omega (arith, h.1, some)
least_some (b ∷ source) n rest (inr h) last = omega (arith, h.0, h.2.1, h.2.2)

least_by_last : (source : List ℕ) (n : ℕ) (rest : List ℕ) → AreGroups n source rest → (length source ≡ length rest + 1) ⊎ (0 < slice_index source (length source - length rest - 1)) → AreLeastGroups n source rest
least_by_last [] n rest h ends = absurd h
least_by_last (b ∷ source) n rest (inl h) ends = inl h
least_by_last (b ∷ source) n rest (inr h) (inl one) = absurd (omega (arith, one, groups_shorter source h.2.0 rest h.2.2))
least_by_last (b ∷ source) n rest (inr h) (inr last) =
    let shorter : length rest < length source = groups_shorter source h.2.0 rest h.2.2 in
    let at : length (b ∷ source) - length rest - 1 ≡ suc (length source - length rest - 1) = omega (arith, shorter) in
    let below : 0 < slice_index source (length source - length rest - 1) = rw at at last in
    let later : AreLeastGroups h.2.0 source rest = least_by_last source h.2.0 rest h.2.2 (inr below) in
    inr (h.0, h.1, (h.2.0, least_some source h.2.0 rest later below, h.2.1, later))

-- ---- numbers as data

-- a number in least groups, as a long and as an int
module _ (n : ℕ) (z : ℤ) (source rest : List ℕ) (is : n ≡ zigzag z) (least : AreLeastGroups n source rest) (short : length source ≤ length rest + 10) where
  written_groups : source ≡ integer z ++ rest
  unfolding integer
  written_groups = least_is 9 n source rest least short ∙ ap (λ (m : ℕ). groups 9 m ++ rest) is

  pub spelled_long : FitsSigned w64 z → IsSpelled source rest (long z)
  spelled_long fit = record { spelled = written_groups; fits = fit }

  pub spelled_int : FitsSigned w32 z → IsSpelled source rest (int z)
  spelled_int fit = record { spelled = written_groups; fits = fit }

-- the number that was read is that of the integer
pub number_is : (n : ℕ) (z : ℤ) → z ≡ unzigzag n → n ≡ zigzag z
number_is n z is = sym (zigzag_back n) ∙ sym (ap zigzag is)

-- groups of so many bytes, of which the last isn't 0, or which are one alone
pub least_after : (size n : ℕ) (source rest : List ℕ) → 0 < size → size ≤ length source → (size ≡ 1) ⊎ (0 < slice_index source (size - 1)) → rest ≡ drop size source → AreGroups n source rest → AreLeastGroups n source rest
least_after size n source rest some within ends is groups =
    let many : length source ≡ length rest + size = omega (arith, ap length is, length-drop size source, within) in
    elim ends [
      | inl one ↦ least_by_last source n rest groups (inl (omega (arith, many, one)))
      | inr last ↦
          let at : length source - length rest - 1 ≡ size - 1 = omega (arith, many) in
          least_by_last source n rest groups (inr (rw at last))
    ]

-- numbers that were read in any number of groups, and were found to be in least ones
module _ (z : ℤ) (source rest : List ℕ) (size : ℕ) (is : rest ≡ drop size source) (least : (n : ℕ) → AreGroups n source rest → AreLeastGroups n source rest) where
  pub wide_long : Begins types.long source (long z) size → FitsSigned w64 z → IsSpelled source rest (long z)
  wide_long begins fit =
      let number : IsLong z source rest = subst (λ (bs : List ℕ). IsLong z source bs) (sym is) begins.datum in
      spelled_long (zigzag z) z source rest refl (least (zigzag z) number.groups) number.short fit

  pub wide_int : Begins types.int source (int z) size → FitsSigned w32 z → IsSpelled source rest (int z)
  wide_int begins fit =
      let number : IsInt z source rest = subst (λ (bs : List ℕ). IsInt z source bs) (sym is) begins.datum in
      spelled_int (zigzag z) z source rest refl (least (zigzag z) number.groups) (omega (arith, number.short)) fit

-- ---- branches

integer_low : (n : ℕ) → n < 64 → integer (pos n) ≡ 2 * n ∷ []
unfolding integer
integer_low n low = groups_low 9 (2 * n) (omega (arith, low))

-- a null, and a datum of the second branch
pub spelled_null : (source rest : List ℕ) → source ≡ 0 ∷ rest → IsSpelled source rest (union_of 0 null)
spelled_null source rest is = record { spelled = is ∙ ap (λ (bs : List ℕ). (bs ++ []) ++ rest) (sym (integer_low 0 (omega arith))); fits = tt }

pub spelled_second : (d : Data) (source middle rest : List ℕ) → source ≡ 2 ∷ middle → IsSpelled middle rest d → IsSpelled source rest (union_of 1 d)
spelled_second d source middle rest is later = record {
  spelled = is ∙ ap (λ (bs : List ℕ). 2 ∷ bs) later.spelled ∙ ap (λ (bs : List ℕ). (bs ++ encoding d) ++ rest) (sym (integer_low 1 (omega arith)));
  fits = later.fits;
}
