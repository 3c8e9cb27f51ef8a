use Rattle.std.proofs.Common.{◌≡◌, is_some, false, sym, ap, ◌∙◌}
use Rattle.pm_options.specs.Entries.{entry_at}
use Rattle.pm_options.specs.Settings.{views}
use Rattle.pm_settings.proofs.ReadLemmas.{filled-new, is_some-map, placed-views}
use Rattle.pm_settings.proofs.settings.fill.Goals as goal

pub returns : goal.returns
returns c =
    let settings = c.args.settings.now.items in
    let found = ap (λ ss. entry_at c.args.key.now (views ss)) (sym c.as_slice.ensures.value) in
    let none : is_some (entry_at c.args.key.now (views settings)) ≡ false =
    ap is_some (found ∙ sym c.text_at.ensures) ∙ is_some-map (λ text. text.now) c.text_at.result ∙ sym c.is_some.ensures ∙ c.if-is_some.false in
    ap views c.in_ok-insert.ensures.items
    ∙ placed-views settings c.index_of-index.result (c.args.key, c.args.text) (rw c.as_slice-2.ensures.value at c.index_of-index.ensures.value)
    ∙ sym (filled-new (c.args.key.now, c.args.text.now) (views settings) none)
