use Rattle.std.proofs.Common.{ℕ, List, ◌++◌, map, ap}
use Rattle.std.proofs.lemmas.Result.{err_from_is_err_and}
use Rattle.pm_input.specs.Kept.{line_view}
use Rattle.pm_engine.specs.Covers.{row_of}
use Rattle.pm_write.proofs.TakenLemmas.{refused_here, taken_more}
use Rattle.pm_write.proofs.taken.take_lines.Goals as goal

-- the first line that is refused
pub returns-in_err-take_line-clause-refused : goal.returns-in_err-take_line-clause-refused
returns-in_err-take_line-clause-refused c =
    let p = err_from_is_err_and c.from_residual-in_err-take_line.result c.from_residual-in_err-take_line.ensures.1 in
    rw (p.1, p.2)
    (λ later. refused_here c.args.schema.now c.loop-line.room (line_view c.in-Some.line) (c.loop-line.left ++ later) (c.next.new.self ++ later) (map row_of c.loop-line.rows) _ c.in_err-take_line.field-0.0
    (ap (λ (lines : List (ℕ × List ℕ)). lines ++ later) c.in-Some.ensures.line) c.if-room-eq0.false c.in_err-take_line.ensures.exact (c.loop-line.invariant.exact later))

pub loop-line-preserved : goal.loop-line-preserved
loop-line-preserved c = record {
  exact = λ later. taken_more c.args.schema.now c.loop-line.room (line_view c.in-Some.line) (c.loop-line.left ++ later) (c.next.new.self ++ later) (map row_of c.loop-line.rows) (map row_of c.take_line.new.rows) _
      (ap (λ (lines : List (ℕ × List ℕ)). lines ++ later) c.in-Some.ensures.line) c.if-room-eq0.false c.in_ok-take_line.ensures.exact (c.loop-line.invariant.exact later);
  taken = λ all. c.in_ok-take_line.ensures.taken (c.loop-line.invariant.taken all);
  numbers = λ counts. c.in_ok-take_line.ensures.numbers (c.loop-line.invariant.numbers counts);
}
