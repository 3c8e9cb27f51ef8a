use Rattle.std.proofs.Common.{◌<◌, length, ap, ◌∙◌, arith}
use Rattle.pm_values.specs.declared.record.Stamped.{Stamped}
use Rattle.pm_binrow.specs.Hashing.{bucket_of, hash_of}
use Rattle.pm_binrow.specs.Row.{body}
use Rattle.pm_model_history.specs.Merge.{key_of}
use Rattle.pm_group_rows.proofs.BucketLemmas.{blank, made_more}
use Rattle.pm_group_rows.proofs.buckets.hashed_buckets.Goals as goal

pub loop-at-preserved : goal.loop-at-preserved
loop-at-preserved c =
    let f = λ (x : Stamped). bucket_of (hash_of (body c.args.kinds.now (key_of c.args.columns.now x.row))) c.args.buckets in
    let inside : c.loop-at.at < length c.args.rows.now = omega (arith, c.loop-at-test.true, c.loop-at.auto, c.len-at-end.ensures) in
    c.in_ok-push.ensures.items
    ∙ made_more f c.args.rows.now c.loop-at.at c.loop-at.places.items c.in_ok-hashed_bucket.field-0 inside c.loop-at.invariant (c.in_ok-hashed_bucket.ensures ∙ ap f (c.in_ok-own.ensures blank))
