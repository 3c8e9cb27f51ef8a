use Rattle.std.proofs.Common.{option_map, sym, ap, ◌∙◌}
use Rattle.pm_value_text.proofs.Lemmas.{bytes_in-some}
use Rattle.pm_rows.proofs.read.read_bytes.Goals as goal

pub returns-in-Some-2-clause-fits : goal.returns-in-Some-2-clause-fits
returns-in-Some-2-clause-fits c =
    let is = sym c.in_ok-bytes.ensures ∙ ap (option_map (λ b. b.items)) c.in-Some-2.is in
    rw c.new.ensures (bytes_in-some c.in-Some.text.now c.in-Some-2.bytes.items is).1
