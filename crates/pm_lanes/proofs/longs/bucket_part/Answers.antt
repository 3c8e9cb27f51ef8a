use Rattle.std.proofs.Common.{ℤ, ap, map, ◌∙◌}
use Rattle.std.proofs.lemmas.Simd.{map-map}
use Rattle.pm_binrow.specs.Hashing.{bucket_of}
use Rattle.pm_lanes.specs.Longs.{long_hash}
use Rattle.pm_lanes.proofs.longs.bucket_part.Goals as goal

pub returns : goal.returns
returns c =
    c.put_buckets.ensures ∙ ap (map (λ (hash : ℤ). bucket_of hash c.args.buckets)) c.murmur_longs.ensures
    ∙ map-map (λ (hash : ℤ). bucket_of hash c.args.buckets) long_hash c.args.keys.now
