use Rattle.std.proofs.Common.{◌≡◌, ◌+◌, ◌<◌, ◌≤◌, cond, max, sym, subst, arith}
use Rattle.std.specs.Ordering.{eq_by_cmp}
use Rattle.std.proofs.lemmas.Bool.Decides.{nat_tests}
use Rattle.pm_values.specs.GroupOrder.{group_cmp}
use Rattle.pm_values.specs.declared.group.Group.{Group}
use Rattle.pm_write.specs.Files.{next_of}
use Rattle.pm_made.proofs.NumberLemmas.{inserted, unchanged}
use Rattle.pm_made.proofs.numbers.count_file.Goals as goal

pub returns-in_ok-insert : goal.returns-in_ok-insert
returns-in_ok-insert c =
    let old = c.args.next.now in
    let new = c.insert.new.self in
    let number = c.args.entry.now.file.max_seq + 1 in
    let test = c.if-next_of-number.true in
    let own = c.next_of.ensures in
    let below : next_of old c.args.entry.now.group < number = grind (arith, nat_tests) in
    let copied = c.in_ok-copy.ensures in
    subst (λ (h : Group). (g : Group) → next_of new g ≡ cond (eq_by_cmp group_cmp h g) (max number (next_of old g)) (next_of old g)) copied
    (inserted old new c.in_ok-copy.field-0 number c.in_ok-insert.ensures.updates.0 (subst (λ (h : Group). next_of old h < number) (sym copied) below))

pub returns-else-next_of-number : goal.returns-else-next_of-number
returns-else-next_of-number c =
    let old = c.args.next.now in
    let group = c.args.entry.now.group in
    let number = c.args.entry.now.file.max_seq + 1 in
    let test = c.if-next_of-number.false in
    let own = c.next_of.ensures in
    let most : number ≤ next_of old group = grind (arith, nat_tests) in
    unchanged old group number most
