use Rattle.std.proofs.Common.{◌≡◌, length, refl, arith}
use Rattle.std.specs.Coded.{codes}
use Rattle.pm_run_bytes.proofs.LyingLemmas.{known_over}
use Rattle.pm_run_bytes.proofs.lying.FileRows.fill_written.Goals as goal

-- the end
pub returns-then-self-clause-first : goal.returns-then-self-clause-first
returns-then-self-clause-first c =
    let v = c.args.self.now in
    let none : v.left ≡ 0 = omega (arith, c.if-self-eq0.true) in
    let over : v.next ≡ length v.bytes.now = omega (arith, c.if-self.true) in
    rw c.requires (known_over v.direct.now v.bytes.now v.form.now v.changes v.rest.now v.left v.next (hlevel codes) v.known none over, refl)
