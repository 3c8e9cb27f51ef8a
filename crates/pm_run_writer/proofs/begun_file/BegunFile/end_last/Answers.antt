use Rattle.std.proofs.Common.{◌≡◌, ◌≤◌, arith}
use Rattle.std.proofs.lemmas.Bool.Decides.{nat_tests}
use Rattle.pm_run.specs.Kinds.{run_type}
use Rattle.pm_run_writer.proofs.BegunLemmas.{whole_full, whole_last}
use Rattle.pm_run_writer.proofs.begun_file.BegunFile.end_last.Goals as goal

pub returns-then-self-eq0 : goal.returns-then-self-eq0
returns-then-self-eq0 c = λ f marker rows begun.
    let none : c.args.self.now.count ≡ 0 = grind (arith, nat_tests) in
    whole_full c.begun_file_law.ensures f marker rows c.args.self.now begun none

pub returns : goal.returns
returns c = λ f marker rows begun.
    let some : 1 ≤ c.args.self.now.count = grind (arith, nat_tests) in
    whole_last c.begun_file_law.ensures f marker rows c.args.self.now begun some c.requires.within c.end_block.new.self.out.items
    (c.in_ok-end_block.ensures.begun (run_type f) begun.blocks begun.last (rw begun.marked begun.begun) begun.encoded begun.count)
