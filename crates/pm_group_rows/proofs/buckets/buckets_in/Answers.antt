use Rattle.std.proofs.Common.{◌≡◌, ℤ, map, Option, IfSome, Vec, Global, replicate, sym, ap, subst, ◌∙◌}
use Rattle.std.proofs.lemmas.Result.{IfOk-weaker}
use Rattle.pm_values.specs.declared.column.ColType.TheVariants.{BigInt}
use Rattle.pm_values.specs.declared.record.Stamped.{Stamped}
use Rattle.pm_values.specs.declared.value.Value.TheVariants.{Int as Whole}
use Rattle.pm_lanes.specs.Longs.{long_bucket}
use Rattle.pm_model_history.specs.Merge.{value_at}
use Rattle.pm_model_following.specs.Groups.{kind_at}
use Rattle.pm_group_rows.proofs.BucketLemmas.{all_first, long_buckets-are, only_column}
use Rattle.pm_group_rows.proofs.buckets.buckets_in.Goals as goal

-- one bucket
pub returns-then-schema-eq1 : goal.returns-then-schema-eq1
returns-then-schema-eq1 c =
    let s = c.args.schema.now in
    let rows = c.args.rows.now in
    IfOk-weaker c.first_buckets.result _ _ (λ places are. are ∙ ap (λ n. replicate n 0) c.len.ensures ∙ all_first s rows c.if-schema-eq1.true) c.first_buckets.ensures

-- keys of one BIGINT
pub returns-in-Some : goal.returns-in-Some
returns-in-Some c =
    let s = c.args.schema.now in
    let rows = c.args.rows.now in
    let kinds : map (kind_at s) c.in_ok-columns.columns.items ≡ _ = ap (map (kind_at s)) (sym c.deref.ensures.value) ∙ sym c.in_ok-kinds.ensures ∙ sym c.deref-2.ensures.value ∙ c.is_one_long.ensures.0 c.if-is_one_long.true in
    let one = only_column s c.in_ok-columns.columns.items BigInt c.index.result.now kinds c.index.ensures in
    let found : map (λ (x : Stamped). value_at x.row c.index.result.now) rows ≡ map Whole c.in-Some.keys.items =
    subst (λ (o : Option (Vec ℤ Global)). IfSome o (λ (longs : Vec ℤ Global). map (λ (x : Stamped). value_at x.row c.index.result.now) rows ≡ map Whole longs.items)) c.in-Some.is c.in_ok-keys.ensures in
    IfOk-weaker c.long_buckets.result _ _
    (λ places are. are ∙ ap (map (long_bucket s.options.bucket)) c.deref-in-Some.ensures.value ∙ long_buckets-are s c.index.result.now rows c.in-Some.keys.items (sym c.in_ok-columns.ensures ∙ one.0) one.1 found) c.long_buckets.ensures
