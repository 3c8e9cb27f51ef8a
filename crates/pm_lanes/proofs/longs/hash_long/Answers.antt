use Rattle.std.proofs.Common.{◌≡◌, ℕ, List, [], ◌∷◌, ◌++◌, ap, sym, ◌∙◌, rules}
use mir.Val.{SFits}
use Rattle.std.proofs.lemmas.Int.{to_z-of_z}
use Rattle.std.specs.Int.{w32, w64, cast_unsigned, to_le_bytes}
use Rattle.pm_binrow.specs.Hashing.{hash_of}
use Rattle.pm_lanes.proofs.Hashes.{by_bytes}
use Rattle.pm_lanes.proofs.longs.hash_long.Goals as goal

pub returns : goal.returns
returns c =
    let fits : SFits w32 c.hash.result = search rules in
    let bits : c.cast_unsigned.result ≡ cast_unsigned w64 c.args.value =
    c.cast_unsigned.ensures ∙ ap (cast_unsigned w64) (to_z-of_z w64 c.args.value c.ranges.value) in
    let bytes : c.write_u64.new.buf ≡ to_le_bytes w64 (cast_unsigned w64 c.args.value) =
    c.write_u64.ensures ∙ ap (to_le_bytes w64) bits in
    to_z-of_z w32 c.hash.result fits ∙ c.hash.ensures
    ∙ ap (λ (buf : List ℕ). hash_of (0 ∷ 0 ∷ 0 ∷ 0 ∷ 0 ∷ 0 ∷ 0 ∷ 0 ∷ (buf ++ []))) bytes ∙ sym (by_bytes c.args.value)
