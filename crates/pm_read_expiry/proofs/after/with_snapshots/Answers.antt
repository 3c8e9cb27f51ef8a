use Rattle.std.proofs.Common.{refl, sym, ◌∙◌, true≢false}
use Rattle.pm_read_expiry.specs.Reader.{none_listed}
use Rattle.pm_read_expiry.proofs.ListLemmas.{left_over}
use Rattle.pm_read_expiry.proofs.after.with_snapshots.Goals as goal

pub returns-then-is_list_done-clause-goes : goal.returns-then-is_list_done-clause-goes
returns-then-is_list_done-clause-goes c =
    none_listed _ (c.is_list_done.ensures.0 c.if-is_list_done.true)
    (record { schema = refl; first = refl; last = refl; end = refl; floors = c.new.ensures.items }) refl

pub returns-else-is_list_done-clause-is_reader : goal.returns-else-is_list_done-clause-is_reader
returns-else-is_list_done-clause-is_reader c = (
  c.requires.asking,
  record {
    of = c.requires.lister;
    left = left_over c.args.asking c.args.lister c.requires.lister
        (λ done. true≢false (sym (c.is_list_done.ensures.1 done) ∙ c.if-is_list_done.false));
  },
)
