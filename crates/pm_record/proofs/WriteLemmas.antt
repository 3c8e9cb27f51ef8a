-- Data in blocks.
use Rattle.std.proofs.Common.{◌≡◌, ℕ, ◌≤◌, List, [], ◌∷◌, ◌++◌, length, sym, subst}
use Rattle.std.specs.List.{AllByRecursion}
use Rattle.std.proofs.lemmas.List.{nil_from_length}
use Rattle.pm_base.proofs.Laws.{AllByRecursion-parts}
use Rattle.pm_avro_data.specs.Datum.{Data}
use Rattle.pm_record.specs.File.{joined, AreBlocks, IsSplit}

-- full blocks, and a last one with some data
pub last_block : (most : ℕ) (blocks : List (List Data)) (last : List Data) → AllByRecursion (λ block. length block ≡ most) blocks → 1 ≤ length last → length last ≤ most
    → AreBlocks most (blocks ++ last ∷ [])
last_block most [] last full some within = (some, within)
last_block most (b ∷ []) last full some within = (full.0, (some, within))
last_block most (b ∷ c ∷ blocks) last full some within = (full.0, last_block most (c ∷ blocks) last full.1 some within)

module _ (most : ℕ) (blocks : List (List Data)) (last ds : List Data) (split : IsSplit most blocks last ds) where
  -- the last block has some data
  pub last_closed : 1 ≤ length last → AreBlocks most (blocks ++ last ∷ [])
  last_closed some = last_block most blocks last split.full some split.within

  -- it has none
  pub none_closed : length last ≡ 0 → AreBlocks most blocks
  none_closed none = subst (AreBlocks most) (sym (split.some (nil_from_length last none))) tt

-- what holds of all data holds of those of each block
pub each_block : (P : Data → Type 0) (blocks : List (List Data)) (ds : List Data) → joined blocks ≡ ds → AllByRecursion P ds → AllByRecursion (AllByRecursion P) blocks
each_block P blocks ds same each = of_joined blocks (rw same each)
  where
    of_joined : (blocks : List (List Data)) → AllByRecursion P (joined blocks) → AllByRecursion (AllByRecursion P) blocks
    of_joined [] each = tt
    of_joined (b ∷ blocks) each =
        let parts = AllByRecursion-parts P b (joined blocks) each in
        (parts.0, of_joined blocks parts.1)
