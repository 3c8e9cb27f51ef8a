use Rattle.std.proofs.Common.{◌≡◌, ℕ, Some, refl, sym, ap, ◌∙◌}
use Rattle.pm_values.specs.Order.{Values}
use Rattle.pm_run.specs.Writing.{first_sequence, greatest_of, least_of}
use Rattle.pm_run_writer.proofs.LoopLemmas.{first_is, last_is}
use Rattle.pm_run_writer.proofs.writer.FileWriter.meta_of.Goals as goal

pub returns : goal.returns
returns c = λ s bytes id size.
    let rows = c.args.rows.now in
    let first = c.index-rows-0.result in
    let begins = first_is rows first c.requires.some c.index-rows-0.is in
    let ends = last_is _ rows c.index-rows-rows.result c.requires.some c.index-rows-rows.is in
    let from : first_sequence rows ≡ first.seq = begins.1 in
    record {
      named = refl;
      size = size;
      count = refl;
      least = begins.0 ∙ ap (λ (k : Values). Some k) (sym c.in_ok-copy.ensures);
      greatest = ends ∙ ap (λ (k : Values). Some k) (sym c.in_ok-copy-2.ensures);
      lowest = c.least_of.ensures ∙ ap (λ (n : ℕ). least_of n rows) (sym from);
      highest = c.greatest_of.ensures ∙ ap (λ (n : ℕ). greatest_of n rows) (sym from);
      schema = id;
      levelled = refl;
      unknown = refl;
    }
