use Rattle.std.proofs.Common.{ℕ, ◌-◌, List, [], option_map, Bor, sym, ap, ◌∙◌, arith}
use Rattle.pm_settings.proofs.ReadLemmas.{texts_of-column}
use Rattle.pm_settings.proofs.fields.texts_of.Goals as goal

abbrev nowhere : Bor (List ℕ)
nowhere = record { ref_ptr = (0, 0); now = [] }

pub loop-left-preserved-in_ok-insert : goal.loop-left-preserved-in_ok-insert
loop-left-preserved-in_ok-insert c =
    let settings = c.args.settings.now in
    let i = c.loop-left.left - 1 in
    let found = sym c.column_in.ensures ∙ ap (option_map (λ column. column.now)) c.in-Some.is in
    record {
      within = omega arith;
      texts =
          texts_of-column c.args.suffix.now settings c.loop-left.left i (nowhere, nowhere) c.in-Some.column.now c.in_ok-from_str.field-0 c.loop-left.texts.entries c.insert.new.self.entries
          (omega arith) c.loop-left.invariant.within found c.in_ok-from_str.ensures c.loop-left.invariant.texts c.in_ok-insert.ensures.entries;
    }
