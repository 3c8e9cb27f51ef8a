use Rattle.std.proofs.Common.{◌≡◌, ◌∷◌, rules, refl, arith}
use Rattle.std.proofs.lemmas.Result.{err_from_is_err_and}
use Rattle.pm_scan_rows.specs.Group.{read_of}
use Rattle.pm_plan.proofs.RewrittenLemmas.{can-next, logged-engine, logged-room, refused-first, rewritten-first}
use Rattle.pm_plan.proofs.planned.Planned.rewrite_first.Goals as goal

-- what is made of the group is made of the plan with its log
pub make-requires-clause-engine : goal.make-requires-clause-engine
make-requires-clause-engine c =
    logged-engine (record c.args.self.now { left = c.pop_front.new.self }) c.log_group.new.self c.in-Some.chosen _ c.in_ok-log_group.ensures.logs c.requires.ready.engine

pub make-requires-clause-room : goal.make-requires-clause-room
make-requires-clause-room c =
    logged-room (record c.args.self.now { left = c.pop_front.new.self }) c.log_group.new.self c.in-Some.chosen _ c.in_ok-log_group.ensures.logs
    (record { named = c.requires.ready.room.named; few = c.requires.ready.room.few })

-- its files were made and put to the others
pub returns-clause-rewritten : goal.returns-clause-rewritten
returns-clause-rewritten c =
    let first : c.args.self.now.left.items ≡ c.in-Some.chosen ∷ c.pop_front.new.self.items = search rules in
    rewritten-first c.args.self.now (record c.args.self.now { left = c.pop_front.new.self }) c.log_group.new.self c.make.new.self c.put_files.new.self c.in-Some.chosen
    (read_of c.args.read) c.in_ok-made.made.items first refl (rw c.as_slice-rows.ensures.value at c.in_ok-log_group.ensures.logs)
    (rw c.as_slice-rows.ensures.value at c.in_ok-made.ensures.files) c.in_ok-made.ensures.named c.in_ok-put_files.ensures

pub returns-clause-ready : goal.returns-clause-ready
returns-clause-ready c =
    let first : c.args.self.now.left.items ≡ c.in-Some.chosen ∷ c.pop_front.new.self.items = search rules in
    can-next c.args.self.now (record c.args.self.now { left = c.pop_front.new.self }) c.log_group.new.self c.make.new.self c.put_files.new.self c.in-Some.chosen
    (read_of c.args.read) c.in_ok-made.made.items c.requires.ready first refl (rw c.as_slice-rows.ensures.value at c.in_ok-log_group.ensures.logs) c.in_ok-made.ensures.named
    c.in_ok-put_files.ensures (omega arith)

-- nothing can be told of it
pub returns-in_err-log_group-clause-refuses : goal.returns-in_err-log_group-clause-refuses
returns-in_err-log_group-clause-refuses c =
    let first : c.args.self.now.left.items ≡ c.in-Some.chosen ∷ c.pop_front.new.self.items = search rules in
    let p = err_from_is_err_and c.from_residual.result c.from_residual.ensures.1 in
    rw (p.1, p.2) (λ other.
    refused-first c.args.self.now (record c.args.self.now { left = c.pop_front.new.self }) c.in-Some.chosen (read_of c.args.read) c.in_err-log_group.field-0.0 first refl
    (rw c.as_slice-rows.ensures.value at (c.in_err-log_group.ensures.refuses other)))
