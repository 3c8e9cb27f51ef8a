use Rattle.std.proofs.Common.{◌≡◌, false}
use Rattle.pm_lookup.specs.File.{is_below}
use Rattle.pm_lookup.proofs.LookLemmas.{came_for}
use Rattle.pm_lookup.proofs.open_file.OpenFile.go_back.Goals as goal

pub returns-else-is_below-clause-comes : goal.returns-else-is_below-clause-comes
returns-else-is_below-clause-comes c =
    let up : is_below c.args.key.now c.args.self.now.passed ≡ false = (let a = c.is_below.ensures in let b = c.if-is_below.false in cc) in
    came_for c.args.self.now.reader.opened c.args.key.now c.args.self.now.passed c.args.self.now.begins up c.requires.came
