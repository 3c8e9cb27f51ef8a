use Rattle.std.proofs.Common.{subst, w64}
use Rattle.std.proofs.lemmas.Int.{to_z-of_z}
use Rattle.pm_options.specs.Faults.{Answers}
use Rattle.pm_draft.specs.Draft.{draft_in}
use Rattle.pm_draft.specs.Input.{Making}
use Rattle.pm_draft.proofs.InputLemmas.{first_answered, input_answered, some_answered}
use Rattle.pm_draft.proofs.input.read_draft_input.Goals as goal

pub returns-clause-answers : goal.returns-clause-answers
returns-clause-answers g c =
    let now = c.args.now_millis in
    let making : Making = record { origin = c.args.origin; now = now } in
    let exact = subst (λ (z : _). Answers (λ s. s) c.read_draft_lines.result (draft_in c.in-Ok.lines c.args.origin z))
    (to_z-of_z w64 now c.ranges.now_millis) c.read_draft_lines.ensures.exact in
    input_answered making (g.S.Source.seen c.args.input.now) (g.S.Source.seen c.read_lines.new.source) (g.S.Source.seen c.args.input.now).left
    c.in-Ok.lines c.read_draft_lines.result c.in-Ok.ensures.read exact

pub returns-clause-cause : goal.returns-clause-cause
returns-clause-cause g c =
    let now = c.args.now_millis in
    let making : Making = record { origin = c.args.origin; now = now } in
    let exact = subst (λ (z : _). Answers (λ s. s) c.read_draft_lines.result (draft_in c.in-Ok.lines c.args.origin z))
    (to_z-of_z w64 now c.ranges.now_millis) c.read_draft_lines.ensures.exact in
    some_answered making (g.S.Source.seen c.args.input.now) (g.S.Source.seen c.read_lines.new.source)
    c.in-Ok.lines c.read_draft_lines.result exact

pub returns-clause-first : goal.returns-clause-first
returns-clause-first g c =
    let now = c.args.now_millis in
    let lines = c.in-Ok.lines in
    let exact = subst (λ (z : _). Answers (λ s. s) c.read_draft_lines.result (draft_in lines c.args.origin z))
    (to_z-of_z w64 now c.ranges.now_millis) c.read_draft_lines.ensures.exact in
    first_answered lines c.args.origin now c.read_draft_lines.result
    (λ s is. c.first_schema_law.ensures lines c.args.origin now s c.ranges.now_millis is) exact
