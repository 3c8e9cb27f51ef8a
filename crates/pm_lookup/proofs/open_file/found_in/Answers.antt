use Rattle.std.proofs.Common.{◌≡◌, Bor, Some, ap, rules, sym, tests, ◌∙◌}
use Rattle.std.specs.Option.{option_map}
use Rattle.std.specs.Ordering.{eq_by_cmp}
use Rattle.std.proofs.lemmas.Iterator.{YieldsList-from_slice}
use Rattle.std.proofs.lemmas.Iterator.Search.{find_from_yields_List}
use Rattle.pm_values.specs.Order.{key_cmp}
use Rattle.pm_values.specs.declared.record.Stamped.{Stamped}
use Rattle.pm_lookup.specs.Looking.{row_of_key}
use Rattle.pm_lookup.proofs.open_file.found_in.Goals as goal

pub returns-in_ok-copied_row-in-Some : goal.returns-in_ok-copied_row-in-Some
returns-in_ok-copied_row-in-Some c =
    let found : option_map (λ (x : Bor Stamped). x.now) c.find.result ≡ row_of_key c.args.key.now c.args.rows.now =
    find_from_yields_List (λ (x : Stamped). eq_by_cmp key_cmp c.args.key.now x.key) _ _ c.find.result c.find.ensures.ran (YieldsList-from_slice c.args.rows.now cc) (λ x b q k. search (rules, tests)) in
    let one : option_map (λ (x : Bor Stamped). x.now) c.find.result ≡ Some c.in-Some.row.now = ap (option_map (λ (x : Bor Stamped). x.now)) c.in-Some.is in
    ap Some c.in_ok-copied_row-in-Some.ensures ∙ sym one ∙ found

pub returns-in-None : goal.returns-in-None
returns-in-None c =
    let found : option_map (λ (x : Bor Stamped). x.now) c.find.result ≡ row_of_key c.args.key.now c.args.rows.now =
    find_from_yields_List (λ (x : Stamped). eq_by_cmp key_cmp c.args.key.now x.key) _ _ c.find.result c.find.ensures.ran (YieldsList-from_slice c.args.rows.now cc) (λ x b q k. search (rules, tests)) in
    sym (ap (option_map (λ (x : Bor Stamped). x.now)) c.in-None.is) ∙ found
