use Rattle.std.proofs.Common.{◌≡◌, [], drop, refl, subst, append-nil}
use Rattle.std.proofs.lemmas.List.{drop_all}
use Rattle.json.specs.Reads.{token_of}
use Rattle.pm_row_lines.specs.Tokens.{AreItems}
use Rattle.pm_row_lines.proofs.TokenLemmas.{continues_more}
use Rattle.pm_row_lines.proofs.tokens.take_values.Goals as goal

pub loop-column-preserved : goal.loop-column-preserved
loop-column-preserved c =
    let columns = c.args.columns.now in
    let index = c.loop-column.column-index in
    rw c.in-Ok.ensures.items
    (continues_more columns c.args.reader.now c.loop-column.values.items index c.column-item.result (token_of c.in_ok-token.token) c.loop-column.reader c.next.new.self _
    c.loop-column-test.true c.column-item.is c.in_ok-token.ensures.value c.in_ok-value.ensures c.loop-column.invariant)

pub returns : goal.returns
returns c =
    let columns = c.args.columns.now in
    let index = c.loop-column.column-index in
    let values = c.loop-column.values.items in
    let done : drop index columns ≡ [] = drop_all index columns c.loop-column-test.false in
    subst (λ vs. AreItems columns c.args.reader.now vs c.loop-column.reader) (append-nil values)
    (c.loop-column.invariant [] c.loop-column.reader (rw done refl))
