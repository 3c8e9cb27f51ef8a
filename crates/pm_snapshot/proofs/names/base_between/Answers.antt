use Rattle.pm_snapshot.proofs.PartLemmas.{prefix_ok, suffix_ok, prefix_other, suffix_other, named_found, named_other}
use Rattle.pm_snapshot.proofs.names.base_between.Goals as goal

pub returns-in_err-rest-clause-other : goal.returns-in_err-rest-clause-other
returns-in_err-rest-clause-other c =
    rw c.from_residual.ensures (prefix_other c.args.prefix.now c.args.suffix.now c.args.name.now
    c.in_err-rest.ensures.cases)

pub returns-in_err-middle-clause-other : goal.returns-in_err-middle-clause-other
returns-in_err-middle-clause-other c =
    let rest = c.in_ok-rest.rest.now in
    rw c.from_residual-in_err-middle.ensures
    (suffix_other c.args.prefix.now c.args.suffix.now c.args.name.now rest
    (prefix_ok c.args.prefix.now c.args.name.now rest c.in_ok-rest.ensures.cases.0
    c.in_ok-rest.ensures.cases.1) c.in_err-middle.ensures.cases)

pub returns-clause-found : goal.returns-clause-found
returns-clause-found c =
    let rest = c.in_ok-rest.rest.now in
    let middle = c.in_ok-middle.middle.now in
    named_found c.base_in_middle.result c.args.prefix.now c.args.suffix.now c.args.name.now rest middle
    (record {
      rest_is = prefix_ok c.args.prefix.now c.args.name.now rest c.in_ok-rest.ensures.cases.0
          c.in_ok-rest.ensures.cases.1;
      middle_is = suffix_ok c.args.suffix.now rest middle c.in_ok-middle.ensures.cases.0 c.in_ok-middle.ensures.cases.1;
    })
    c.base_in_middle.ensures.found

pub returns-clause-other : goal.returns-clause-other
returns-clause-other c =
    let rest = c.in_ok-rest.rest.now in
    let middle = c.in_ok-middle.middle.now in
    named_other c.base_in_middle.result c.args.prefix.now c.args.suffix.now c.args.name.now rest middle
    (record {
      rest_is = prefix_ok c.args.prefix.now c.args.name.now rest c.in_ok-rest.ensures.cases.0
          c.in_ok-rest.ensures.cases.1;
      middle_is = suffix_ok c.args.suffix.now rest middle c.in_ok-middle.ensures.cases.0 c.in_ok-middle.ensures.cases.1;
    })
    c.base_in_middle.ensures.other
