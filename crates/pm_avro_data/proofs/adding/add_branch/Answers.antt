use Rattle.std.proofs.Common.{List, ℕ, ◌++◌, pos, ap, ◌∙◌, append_assoc}
use Rattle.pm_avro_data.specs.Writing.{encoding, integer}
use Rattle.pm_avro_data.proofs.adding.add_branch.Goals as goal

pub returns : goal.returns
returns c = λ after d more. record {
  added = more.added ∙ ap (λ (x : List ℕ). x ++ encoding d) c.in_ok-push_index.ensures ∙ append_assoc c.args.out.now.items (integer (pos c.args.index)) (encoding d);
  fits = more.fits;
}
