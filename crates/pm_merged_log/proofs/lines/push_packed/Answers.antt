use Rattle.std.proofs.Common.{◌≤◌, ◌<◌, ◌++◌, List, ℕ, ◌∷◌, [], get_or, length, ap, sym, ◌∙◌, append-nil, arith}
use Rattle.std.proofs.lemmas.List.{take_all}
use Rattle.pm_values.specs.declared.record.Stamped.{Stamped}
use Rattle.pm_merged_log.specs.Merged.{lines_of}
use Rattle.pm_merged_log.proofs.LineLemmas.{blank, line_next}
use Rattle.pm_merged_log.proofs.lines.push_packed.Goals as goal

pub loop-index-init : goal.loop-index-init
loop-index-init c = sym (append-nil c.args.text.now.items)

pub loop-index-preserved : goal.loop-index-preserved
loop-index-preserved c =
    let rows = c.args.rows.now in
    let i = c.loop-index.index in
    let old = c.args.text.now.items in
    let inside : i < length rows = omega (arith, c.loop-index-test.true, c.loop-index.auto, c.len-index-end.ensures) in
    c.in_ok-push_seen.ensures
    ∙ ap (λ (x : Stamped). c.loop-index.text.items ++ lines_of (x ∷ [])) (c.in_ok-lend.ensures blank)
    ∙ ap (λ (text : List ℕ). text ++ lines_of (get_or rows i blank ∷ [])) c.loop-index.invariant
    ∙ line_next rows i blank old inside

pub returns : goal.returns
returns c =
    let rows = c.args.rows.now in
    let i = c.loop-index.index in
    let past : length rows ≤ i = omega (arith, c.loop-index.auto, c.len-index-end.ensures) in
    c.loop-index.invariant ∙ ap (λ (rs : List Stamped). c.args.text.now.items ++ lines_of rs) (take_all i rows past)
