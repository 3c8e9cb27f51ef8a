use Rattle.std.proofs.Common.{ℕ, List, Bor, ◌≡◌, ◌-◌, length, codes, Some, ap, ◌∙◌, arith, w64}
use Rattle.std.proofs.lemmas.Int.{to_z-of_z}
use Rattle.std.proofs.lemmas.List.{length-map}
use Rattle.pm_options.specs.Settings.{filled, views}
use Rattle.pm_options.specs.Table.{Setting}
use Rattle.pm_schema.specs.Stated.{numbered}
use Rattle.pm_schema_file.proofs.read.parts_of.Goals as goal

abbrev setting : Bor (List ℕ) × Bor (List ℕ) → Setting
setting s = (s.0.now, s.1.now)

pub returns : goal.returns
returns c =
    let draft = c.args.draft in
    let fields = c.in_ok-fields.ensures.fields ∙ ap (λ fs. numbered 0 (views fs)) c.as_slice.ensures.value in
    let count : length c.in_ok-fields.fields.items ≡ length draft.fields.items = c.in_ok-fields.ensures.count ∙ ap length c.as_slice.ensures.value in
    let highest : c.saturating_sub-highest.result ≡ length (views draft.fields.items) - 1 =
    omega (arith, c.saturating_sub-highest.ensures, c.len.ensures, c.in_ok-fields.fields.ok.0, count, length-map draft.fields.items setting) in
    let settings = c.in_ok-fill-2.ensures ∙ ap (filled (codes "file.format", codes "avro")) c.in_ok-fill.ensures in
    let time = to_z-of_z w64 c.args.now_millis c.ranges.now_millis in
    λ i. record {
      id = 0;
      fields = fields i;
      highest = highest i;
      partition = draft.partition;
      primary = draft.primary;
      settings = settings i;
      comment = draft.comment;
      time = time i;
      origin = Some c.args.origin;
    }
