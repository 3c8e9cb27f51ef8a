use Rattle.std.proofs.Common.{◌≡◌, arith}
use Rattle.std.proofs.lemmas.Bool.Decides.{nat_tests}
use Rattle.pm_run.specs.Kinds.{run_type}
use Rattle.pm_run_writer.proofs.BegunLemmas.{begun_ended}
use Rattle.pm_run_writer.proofs.begun_file.BegunFile.make_room.Goals as goal

pub returns-clause-begun : goal.returns-clause-begun
returns-clause-begun c = λ f marker rows begun.
    let within = c.requires.within in
    let full : c.args.self.now.count ≡ 1024 = grind (arith, nat_tests) in
    let ended = c.in_ok-end_block.ensures in
    begun_ended f marker rows c.args.self.now c.end_block.new.self begun full
    (ended.begun (run_type f) begun.blocks begun.last (rw begun.marked begun.begun) begun.encoded begun.count) ended.block ended.count ended.marker
