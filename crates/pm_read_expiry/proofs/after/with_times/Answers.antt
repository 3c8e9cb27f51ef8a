use Rattle.std.proofs.Common.{ℕ, ℤ, List, refl, subst, sym, ap, ◌∙◌, true≢false}
use Rattle.pm_read_expiry.specs.Found.{IsFoundIn}
use Rattle.pm_read_expiry.specs.Reader.{all_times}
use Rattle.pm_read_expiry.specs.Times.{times_of}
use Rattle.pm_read_expiry.proofs.ListLemmas.{in_order, left_over}
use Rattle.pm_read_expiry.proofs.after.with_times.Goals as goal

pub returns-in-Ok-clause-goes : goal.returns-in-Ok-clause-goes
returns-in-Ok-clause-goes c =
    all_times c.found_in.result (c.is_list_done.ensures.0 c.if-is_list_done.true)
    (subst (λ (all : List (ℕ × ℤ)). IsFoundIn c.args.listed.asking all c.args.next c.args.listed.floors.items c.found_in.result)
    (c.in-Ok.ensures ∙ ap times_of c.lines_of.ensures) c.found_in.ensures)
    refl

pub returns-in-Ok-clause-is_reader : goal.returns-in-Ok-clause-is_reader
returns-in-Ok-clause-is_reader c =
    in_order c.end_law.ensures c.args.listed.asking c.args.listed.lister c.args.next c.args.listed.floors.items c.found_in.result c.requires.asking
    c.requires.lister (c.is_list_done.ensures.0 c.if-is_list_done.true)
    (subst (λ (all : List (ℕ × ℤ)). IsFoundIn c.args.listed.asking all c.args.next c.args.listed.floors.items c.found_in.result)
    (c.in-Ok.ensures ∙ ap times_of c.lines_of.ensures) c.found_in.ensures)

pub returns-else-is_list_done-clause-is_reader : goal.returns-else-is_list_done-clause-is_reader
returns-else-is_list_done-clause-is_reader c = (
  c.requires.asking,
  record {
    of = c.requires.lister;
    left = left_over c.args.listed.asking c.args.listed.lister c.requires.lister
        (λ done. true≢false (sym (c.is_list_done.ensures.1 done) ∙ c.if-is_list_done.false));
  },
)
