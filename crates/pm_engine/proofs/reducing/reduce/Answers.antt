use Rattle.std.proofs.Common.{◌≡◌}
use Rattle.std.proofs.lemmas.List.Sorted.{All-permutation}
use Rattle.std.proofs.lemmas.Result.{IfOk-weaker}
use Rattle.pm_model_history.specs.declared.verdict.Verdict.TheVariants.{Take}
use Rattle.pm_engine.specs.Covers.{IsKeyed}
use Rattle.pm_engine.proofs.ReduceLemmas.{covers_all, gathers-all, keys_all, kinds_all, numbers_all}
use Rattle.pm_engine.proofs.reducing.reduce.Goals as goal

-- the kind of each row is taken, in whichever order
pub gathered-requires : goal.gathered-requires
gathered-requires g c =
    All-permutation (λ s. (g.E.MergeEngine.meaning c.args.engine.now).verdict s.kind ≡ Take) c.args.rows c.sort.new.self c.in_ok-sort.ensures.same c.requires

pub returns-clause-rising : goal.returns-clause-rising
returns-clause-rising g c =
    let m = g.E.MergeEngine.meaning c.args.engine.now in
    IfOk-weaker c.gathered.result _ _ (λ run folds. (gathers-all m c.sort.new.self run c.in_ok-sort.ensures.sorted folds).rising) c.gathered.ensures

pub returns-clause-keys : goal.returns-clause-keys
returns-clause-keys g c =
    let m = g.E.MergeEngine.meaning c.args.engine.now in
    let sorted = c.sort.new.self in
    IfOk-weaker c.gathered.result _ _ (λ run folds. keys_all m c.args.rows sorted run (gathers-all m sorted run c.in_ok-sort.ensures.sorted folds) c.in_ok-sort.ensures.stable) c.gathered.ensures

pub returns-clause-numbers : goal.returns-clause-numbers
returns-clause-numbers g c =
    let m = g.E.MergeEngine.meaning c.args.engine.now in
    let sorted = c.sort.new.self in
    IfOk-weaker c.gathered.result _ _ (λ run folds. numbers_all m c.args.rows sorted run (gathers-all m sorted run c.in_ok-sort.ensures.sorted folds) c.in_ok-sort.ensures.stable) c.gathered.ensures

pub returns-clause-kinds : goal.returns-clause-kinds
returns-clause-kinds g c =
    let m = g.E.MergeEngine.meaning c.args.engine.now in
    let sorted = c.sort.new.self in
    IfOk-weaker c.gathered.result _ _ (λ run folds. kinds_all m c.args.rows sorted run (gathers-all m sorted run c.in_ok-sort.ensures.sorted folds) c.in_ok-sort.ensures.stable) c.gathered.ensures

pub returns-clause-covers : goal.returns-clause-covers
returns-clause-covers g c =
    let m = g.E.MergeEngine.meaning c.args.engine.now in
    let rows = c.args.rows in
    let sorted = c.sort.new.self in
    IfOk-weaker c.gathered.result _ _ (λ run folds keyed. covers_all m rows sorted run (gathers-all m sorted run c.in_ok-sort.ensures.sorted folds) c.in_ok-sort.ensures.stable
    (All-permutation (IsKeyed m) rows sorted c.in_ok-sort.ensures.same keyed) keyed) c.gathered.ensures
