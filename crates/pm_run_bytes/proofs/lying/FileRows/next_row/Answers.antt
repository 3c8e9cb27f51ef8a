use Rattle.std.proofs.Common.{◌≡◌, suc, ◌-◌, arith}
use Rattle.std.specs.Coded.{codes}
use Rattle.pm_row_slots.specs.Seen.{seen_row}
use Rattle.pm_run_bytes.proofs.LyingLemmas.{known_row, rest_shorter, row_content, row_given}
use Rattle.pm_run_bytes.proofs.lying.FileRows.next_row.Goals as goal

pub invariant_of-self : goal.invariant_of-self
invariant_of-self c =
    let v = c.args.self.now in
    let more : v.left ≡ suc (v.left - 1) = omega (arith, c.requires.left) in
    record {
      known = known_row v.direct.now v.bytes.now v.form.now v.changes v.rest.now v.left v.next (seen_row c.see_row.new.into) c.in-Some.rest.now (v.left - 1) more c.in-Some.ensures.row v.known;
    }

pub returns-clause-first : goal.returns-clause-first
returns-clause-first c =
    let v = c.args.self.now in
    let more : v.left ≡ suc (v.left - 1) = omega (arith, c.requires.left) in
    rw c.put_lying.ensures
    (row_given v.direct.now v.bytes.now v.form.now v.changes v.rest.now v.left v.next (seen_row c.see_row.new.into) c.in-Some.rest.now (v.left - 1) more c.in-Some.ensures.row (hlevel codes) v.known c.self-1.given.0)

pub before_rest-own-requires : goal.before_rest-own-requires
before_rest-own-requires c = rest_shorter c.args.self.now.form.now (seen_row c.see_row.new.into) c.args.self.now.rest.now c.in-Some.rest.now c.in-Some.ensures.written

pub returns-clause-written : goal.returns-clause-written
returns-clause-written c =
    rw c.put_lying.ensures
    (row_content c.args.self.now.form.now (seen_row c.see_row.new.into) c.args.self.now.rest.now c.in-Some.rest.now c.in-Some.ensures.written c.before_rest-own.result.now c.before_rest-own.ensures)
