use Rattle.std.proofs.Common.{◌≡◌, Some, None, false, cond, ap, sym, ◌∙◌}
use Rattle.std.specs.Str.{bytes_eq}
use Rattle.pm_values.specs.declared.refusal.Refusal.TheVariants as refusals
use Rattle.pm_schema_file.specs.Parts.{stated_by}
use Rattle.pm_schema.specs.Stated.{at_path, schema_path}
use Rattle.pm_schema_file.specs.declared.shape.Flaw.TheVariants.{Shape}
use Rattle.pm_schema_file.proofs.ShapeLemmas.{refused-misses}
use Rattle.pm_schema_file.proofs.read.at_path.Goals as goal

pub returns : goal.returns
returns c =
    let path = c.args.path.now in
    let stated = stated_by c.args.parts in
    let apart : bytes_eq (schema_path c.args.parts.id) path ≡ false =
    ap (λ own. bytes_eq own path) (sym c.in_ok-own.ensures.ok ∙ sym c.as_str.ensures.value) ∙ sym c.if-eq.ensures in
    let none : at_path path stated ≡ None = ap (λ b. cond b (Some stated) None) apart in
    refused-misses stated_by Shape (refusals.Damaged path 0) (at_path path stated) c.damaged.result none c.damaged.ensures
