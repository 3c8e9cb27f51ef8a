use Rattle.std.proofs.Common.{◌≡◌, true, ◌∙◌, lit<}
use Rattle.std.proofs.lemmas.Iterator.Consumers.{YieldsList-end}
use Rattle.std.proofs.lemmas.Iterator.Splits.{YieldsList-from_str_split}
use Rattle.std.specs.Str.Iter.{split_text, split_has_more, split_pattern}
use Rattle.pm_settings.proofs.fields.names_in.Goals as goal

pub returns : goal.returns
returns c =
    let s = c.into_iter-name-iterator.result in
    let text : split_text s ≡ c.args.text.now = cc in
    let more : split_has_more s ≡ true = cc in
    let comma : split_pattern s ≡ 44 = cc in
    let all = YieldsList-end (YieldsList-from_str_split {s = s} 44 c.args.text.now (lit< tt) text more comma) c.loop-name.yielded _ c.loop-name.yielded_by _ _ c.in-None.is c.next.ensures.steps in
    c.new.ensures ∙ c.loop-name.invariant ∙ all.0
