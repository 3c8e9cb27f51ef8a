use Rattle.std.proofs.Common.{length, sym, ◌∙◌}
use Rattle.std.proofs.lemmas.Bool.{eqb-true}
use Rattle.std.proofs.lemmas.List.{nil_from_length}
use Rattle.std.proofs.lemmas.Result.{IfOk-weaker}
use Rattle.pm_group_rows.proofs.CutLemmas.{cut-only}
use Rattle.pm_group_rows.proofs.cut.cut_by_group.Goals as goal

pub returns-then-is_empty : goal.returns-then-is_empty
returns-then-is_empty c =
    IfOk-weaker c.in_one_group.result _ _ (λ groups are g. are g ∙ cut-only c.args.schema.now g c.args.rows c.if-schema-eq1.true (sym c.as_slice.ensures ∙ nil_from_length c.as_slice.result.now (eqb-true (length c.as_slice.result.now) 0 (sym c.is_empty.ensures ∙ c.if-is_empty.true))) c.requires.counted) c.in_one_group.ensures
