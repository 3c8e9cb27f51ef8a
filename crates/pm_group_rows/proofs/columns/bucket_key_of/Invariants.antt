use Rattle.std.proofs.Common.{◌≡◌, ◌++◌, map, filter, drop}
use Rattle.std.specs.Prelude.{not}
use Rattle.pm_schema.specs.Rules.{is_among}
use Rattle.pm_model_history.specs.ColumnValue.{index_of}
use Rattle.pm_model_following.specs.Groups.{bucket_key_of}
use Rattle.pm_group_rows.proofs.columns.bucket_key_of.Given as goal

-- with the columns of the names that are left these are all
abbrev pub invariant-loop-name : goal.invariant-loop-name
invariant-loop-name l = l.columns.items ++ map (index_of l.schema) (filter (λ name. not (is_among l.schema.partition name)) (drop l.name-index l.schema.primary))
    ≡ bucket_key_of l.schema
