use Rattle.std.proofs.Common.{◌≡◌, map, take}
use Rattle.pm_values.specs.declared.record.Stamped.{Stamped}
use Rattle.pm_binrow.specs.Hashing.{bucket_of, hash_of}
use Rattle.pm_binrow.specs.Row.{body}
use Rattle.pm_model_history.specs.Merge.{key_of}
use Rattle.pm_group_rows.proofs.buckets.hashed_buckets.Given as goal

-- the buckets of the rows so far
abbrev pub invariant-loop-at : goal.invariant-loop-at
invariant-loop-at l = l.places.items ≡ map (λ (x : Stamped). bucket_of (hash_of (body l.kinds (key_of l.columns x.row))) l.buckets) (take l.at l.rows)
