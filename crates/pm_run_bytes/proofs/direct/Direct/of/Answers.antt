use Rattle.std.proofs.Common.{◌≡◌, ◌≤◌, ◌-◌, ap, drop, rules, subst, take, ◌∙◌}
use Rattle.std.specs.Prelude.{IsTrue}
use Rattle.pm_run_bytes.specs.Direct.{IsWritten}
use Rattle.pm_run_bytes.proofs.DirectLemmas.{marker_is}
use Rattle.pm_run_bytes.proofs.direct.Direct.of.Goals as goal

pub returns : goal.returns
returns c =
    let yes : IsTrue c.in_ok-is_written.field-0 = search rules in
    let first : c.first.result ≡ c.args.file.now.first = c.first.ensures.first in
    let some : 16 ≤ c.args.file.now.first = subst (λ n. 16 ≤ n) first c.in-Some.ensures.within in
    let here : c.in-Some.marker.now ≡ take 16 (drop (c.args.file.now.first - 16) c.args.file.now.bytes) =
    c.in-Some.ensures.marker ∙ ap (λ n. take 16 (drop (n - 16) c.bytes.result.now)) first ∙ ap (λ bs. take 16 (drop (c.args.file.now.first - 16) bs)) c.bytes.ensures in
    record {
      marker = c.in_ok-marker.ensures.items ∙ here ∙ marker_is c.args.file.now.bytes c.args.file.now c.requires some;
      written = subst (IsWritten c.args.form.now) c.kind.ensures.kind (c.in_ok-is_written.ensures yes);
    }
