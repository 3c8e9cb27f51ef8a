use Rattle.std.proofs.Common.{◌≡◌, ◌+◌, ◌-◌, ◌*◌, ◌%◌, ◌<◌, sym, arith, rules}
use Rattle.pm_avro_data.proofs.Numbers.{ends_short, ends_over, ends_here, goes_on, ends_none, room, grows, sum_below}
use Rattle.pm_avro_data.proofs.number.read_number.Goals as goal

pub returns-in_err-byte-clause-reads : goal.returns-in_err-byte-clause-reads
returns-in_err-byte-clause-reads c =
    rw c.from_residual.ensures (sym (ends_short c.loop-i.number (7 * c.loop-i.i) (c.args.most - c.loop-i.i) c.args.top c.loop-i.rest.now _ (sym c.in_err-byte.ensures) c.loop-i.invariant.reads))

pub returns-then-byte-top-clause-reads : goal.returns-then-byte-top-clause-reads
returns-then-byte-top-clause-reads c =
    sym (ends_over c.loop-i.number (7 * c.loop-i.i) (c.args.most - c.loop-i.i) c.args.top c.in_ok-byte.byte c.loop-i.rest.now c.in_ok-byte.after.now _ (omega arith) c.if-byte-top.true (sym c.in_ok-byte.ensures) c.loop-i.invariant.reads)

pub group-number-requires-clause-fits : goal.group-number-requires-clause-fits
group-number-requires-clause-fits c =
    let r = room c.in_ok-byte.byte c.loop-i.i c.args.most c.args.top c.loop-i-test.true c.else-i-most.either in
    omega (arith, r.whole)

pub overflow_add-number : goal.overflow_add-number
overflow_add-number c =
    let r = room c.in_ok-byte.byte c.loop-i.i c.args.most c.args.top c.loop-i-test.true c.else-i-most.either in
    let s = sum_below c.loop-i.number (c.in_ok-byte.byte % 128) c.loop-i.i c.args.most c.args.top c.loop-i.invariant.small r in
    omega arith

pub returns-then-byte-lt128-clause-reads : goal.returns-then-byte-lt128-clause-reads
returns-then-byte-lt128-clause-reads c =
    rw c.group-number.ensures (sym (ends_here c.loop-i.number (7 * c.loop-i.i) (c.args.most - c.loop-i.i) c.args.top c.in_ok-byte.byte c.loop-i.rest.now c.in_ok-byte.after.now _ (omega arith) c.if-byte-lt128.true (λ one. omega (arith, c.else-i-most.either)) (sym c.in_ok-byte.ensures) c.loop-i.invariant.reads))

pub returns-then-byte-lt128-clause-below : goal.returns-then-byte-lt128-clause-below
returns-then-byte-lt128-clause-below c =
    let r = room c.in_ok-byte.byte c.loop-i.i c.args.most c.args.top c.loop-i-test.true c.else-i-most.either in
    let s = sum_below c.loop-i.number (c.in_ok-byte.byte % 128) c.loop-i.i c.args.most c.args.top c.loop-i.invariant.small r in
    omega arith

pub loop-i-preserved : goal.loop-i-preserved
loop-i-preserved c =
    let fits : c.in_ok-byte.byte < 256 = search rules in
    let next : 7 * (c.loop-i.i + 1) ≡ 7 * c.loop-i.i + 7 = omega arith in
    let left : c.args.most - (c.loop-i.i + 1) ≡ c.args.most - c.loop-i.i - 1 = omega arith in
    record {
      small = rw (c.group-number.ensures, next) (grows c.loop-i.number (c.in_ok-byte.byte % 128) (7 * c.loop-i.i) c.loop-i.invariant.small (omega arith));
      reads = rw (c.group-number.ensures, next, left) (goes_on c.loop-i.number (7 * c.loop-i.i) (c.args.most - c.loop-i.i) c.args.top c.in_ok-byte.byte c.loop-i.rest.now c.in_ok-byte.after.now _ (omega (arith, c.else-i-most.either)) c.if-byte-lt128.false fits (sym c.in_ok-byte.ensures) c.loop-i.invariant.reads);
    }

pub returns-clause-reads : goal.returns-clause-reads
returns-clause-reads c =
    let none_left : c.args.most - c.loop-i.i ≡ 0 = omega arith in
    ends_none c.loop-i.number (7 * c.loop-i.i) (c.args.most - c.loop-i.i) c.args.top c.loop-i.rest.now _ none_left c.loop-i.invariant.reads
