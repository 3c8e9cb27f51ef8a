use Rattle.std.proofs.Common.{◌≡◌, length, ap, ◌∙◌}
use Rattle.std.proofs.lemmas.List.{length-map}
use Rattle.std.specs.Int.{w64, cast_unsigned}
use Rattle.pm_lanes.proofs.Hashes.{hashed}
use Rattle.pm_lanes.proofs.lanes.hash_block.Goals as goal

pub returns : goal.returns
returns c =
    let many : length c.bits_of-bits.result ≡ 8 =
    ap length c.bits_of-bits.ensures ∙ length-map c.args.values.now (cast_unsigned w64) ∙ c.requires.eight in
    c.put_signed.ensures
    ∙ hashed c.args.values.now c.bits_of-bits.result c.low_words.result c.low_words-2.result c.hash_words.result many
    c.bits_of-bits.ensures c.low_words.ensures c.low_words-2.ensures c.hash_words.ensures
