-- Numbers in three groups and in four.
use Rattle.std.proofs.Common.{◌≡◌, ℕ, ◌+◌, ◌*◌, ◌<◌, ◌≤◌, List, ◌∷◌, inl, inr, refl, sym, subst}
use Rattle.pm_avro_data.specs.Number.{AreGroups}

-- a group before those of what is above it
pub one_more : (n b high : ℕ) (source rest last : List ℕ) → source ≡ b ∷ rest → 128 ≤ b → b < 256 → n + 128 ≡ b + 128 * high → AreGroups high rest last → AreGroups n source last
one_more n b high source rest last is high_bit byte sum groups = subst (λ (bs : List ℕ). AreGroups n bs last) (sym is) (inr (high_bit, byte, (high, sum, groups)))

-- the last group
pub last_one : (b : ℕ) (source rest : List ℕ) → source ≡ b ∷ rest → b < 128 → AreGroups b source rest
last_one b source rest is low = subst (λ (bs : List ℕ). AreGroups b bs rest) (sym is) (inl (low, refl, refl))
