use Rattle.std.proofs.Common.{map, rules}
use Rattle.pm_row_slots.specs.Seen.{seen_value}
use Rattle.pm_run_form.proofs.RowLemmas.{whole_key}
use Rattle.pm_run_bytes.proofs.judge.own_key.Goals as goal

-- the key has no other columns
pub returns-then-form : goal.returns-then-form
returns-then-form c =
    whole_key c.args.form.now.places c.args.form.now.primary (map seen_value c.args.row.now) (map seen_value c.args.key.now.items) (search rules) c.requires
