use Rattle.std.proofs.Common.{◌≡◌, pos, subst, ℤ, to_z, w64}
use Rattle.std.proofs.lemmas.Int.{to_z_pos}
use Rattle.pm_avro_data.specs.Adding.{Adds}
use Rattle.pm_avro_data.specs.Datum.{long}
use Rattle.pm_avro_file.proofs.BlockBytes.{block_added}
use Rattle.pm_avro_file.proofs.begun.add_block.Goals as goal

pub returns : goal.returns
returns c = λ t blocks ds begun encoded count.
    let z : to_z w64 c.args.count ≡ pos c.args.count = to_z_pos w64 c.args.count c.requires.count in
    let first : Adds c.args.out.now.items c.add_long.new.out.items (long (pos c.args.count)) =
    subst (λ (k : ℤ). Adds c.args.out.now.items c.add_long.new.out.items (long k)) z c.in_ok-add_long.ensures in
    block_added t c.args.marker.now blocks ds c.args.content.now encoded c.in_ok-add_bytes.ensures.fits c.args.count c.args.out.now.items c.add_long.new.out.items c.add_bytes.new.out.items
    c.extend_from_slice.new.self.items begun count first c.in_ok-add_bytes.ensures c.in_ok-extend_from_slice.ensures.items
