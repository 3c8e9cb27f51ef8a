use Rattle.std.proofs.Common.{option_map, ap, ◌∙◌}
use Rattle.pm_settings.proofs.ReadLemmas.{entry_at-views}
use Rattle.pm_settings.proofs.settings.text_at.Goals as goal

pub returns : goal.returns
returns c = ap (option_map (λ text. text.now)) c.entry_of.ensures ∙ entry_at-views c.args.key.now c.args.settings.now
