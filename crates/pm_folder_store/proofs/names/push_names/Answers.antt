use Rattle.std.proofs.Common.{◌++◌, ◌∙◌, ap, refl, rules, tests}
use Rattle.std.specs.Prelude.{◌==◌}
use Rattle.std.specs.List.{flat_map}
use Rattle.std.proofs.lemmas.Iterator.Consumers.{YieldsList-end}
use Rattle.std.proofs.lemmas.Iterator.Splits.{YieldsList-from_slice_split}
use Rattle.pm_folder_store.specs.Names.{name_of}
use Rattle.pm_folder_store.proofs.NameLemmas.{one_more}
use Rattle.pm_folder_store.proofs.names.push_names.Goals as goal

pub loop-name-preserved : goal.loop-name-preserved
loop-name-preserved c =
    one_more c.loop-name.yielded c.in-Some.name c.args.names.now.items c.loop-name.names.items _ c.loop-name.invariant c.in_ok-push_name.ensures

pub returns : goal.returns
returns c =
    let all = YieldsList-end
    (YieldsList-from_slice_split {s = c.into_iter-name-iterator.result} _ (λ b. b == 0) c.args.bytes.now (search rules) (search rules) refl (λ x b q k. search (rules, tests)))
    c.loop-name.yielded _ c.loop-name.yielded_by _ _ c.in-None.is c.next.ensures.steps in
    c.loop-name.invariant ∙ ap (λ names. c.args.names.now.items ++ flat_map name_of names) all.0
