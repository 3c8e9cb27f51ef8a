use Rattle.std.proofs.Common.{◌≡◌, ◌++◌, ℕ, List, length, map, ap, ◌∙◌, arith}
use Rattle.pm_engine.specs.Covers.{row_of}
use Rattle.pm_model_following.specs.Following.{by_key}
use Rattle.pm_merged_log.specs.Merged.{change_lines}
use Rattle.pm_merged_log.proofs.MergeLemmas.{alone_frame}
use Rattle.pm_merged_log.proofs.merge.frame_text.Goals as goal

pub returns-then-len-eq0 : goal.returns-then-len-eq0
returns-then-len-eq0 c =
    let none : length c.args.rows ≡ 0 = omega (arith, c.if-len-eq0.true, c.len.ensures) in
    alone_frame c.by_key_law.ensures.only c.args.id c.args.rows c.args.last.now c.in_ok-text.text.items c.push_rows.new.text.items none c.requires c.in_ok-text.ensures
    c.in_ok-push_rows.ensures

pub returns : goal.returns
returns c = λ s own.
    c.in_ok-push_merged.ensures s own
    ∙ ap (λ (head : List ℕ). head ++ change_lines (by_key s (map row_of (c.args.rows ++ c.args.last.now)))) c.in_ok-text.ensures
