use Rattle.std.proofs.Common.{ℕ, List, [], Bor}
use Rattle.std.proofs.lemmas.Result.{err_from_is_err_and}
use Rattle.pm_options.specs.Faults.{fault_of, first_of}
use Rattle.pm_options.specs.Reading.{setting_fault}
use Rattle.pm_options.specs.Settings.{views}
use Rattle.pm_options.specs.Table.{Setting}
use Rattle.pm_options.proofs.Judging.{first_of-map, judge-failed, judge-next}
use Rattle.pm_settings.proofs.read.judge_settings.Goals as goal

abbrev nowhere : Bor (List ℕ)
nowhere = record { ref_ptr = (0, 0); now = [] }

abbrev view : Bor (List ℕ) × Bor (List ℕ) → Setting
view s = (s.0.now, s.1.now)

pub loop-key-init : goal.loop-key-init
loop-key-init c = first_of-map setting_fault view c.args.settings.now

pub returns-in_err-judge_setting : goal.returns-in_err-judge_setting
returns-in_err-judge_setting c =
    let p = err_from_is_err_and c.from_residual.result c.from_residual.ensures.1 in
    rw (p.1, p.2)
    (judge-failed (λ s. setting_fault (view s)) c.args.settings.now c.loop-key.key-index (nowhere, nowhere) (fault_of c.in_err-judge_setting.field-0.0)
    (first_of setting_fault (views c.args.settings.now)) c.loop-key-test.true c.in_err-judge_setting.ensures c.loop-key.invariant)

pub loop-key-preserved : goal.loop-key-preserved
loop-key-preserved c =
    judge-next (λ s. setting_fault (view s)) c.args.settings.now c.loop-key.key-index (nowhere, nowhere) c.in_ok-judge_setting.field-0
    (first_of setting_fault (views c.args.settings.now)) c.loop-key-test.true c.in_ok-judge_setting.ensures c.loop-key.invariant
