use Rattle.std.proofs.Common.{◌≡◌, List, ℕ, pos, ◌++◌, map, length, sym, subst, ◌∙◌, arith}
use Rattle.std.proofs.lemmas.List.{length-map}
use Rattle.std.proofs.lemmas.Grind.{common_steps}
use Rattle.pm_avro_schema.specs.View as types
use Rattle.pm_avro_data.specs.Datum.{view}
use Rattle.pm_avro_data.specs.Writing.{integer}
use Rattle.pm_avro_data.specs.Number.{IsLong}
use Rattle.pm_avro_file.proofs.Writes.{written_block}
use Rattle.pm_avro_file.proofs.writing.push_block.Goals as goal

pub returns-clause-block : goal.returns-clause-block
returns-clause-block c =
    let many : length (map view c.args.block.now.items) ≡ length c.args.block.now.items = length-map c.args.block.now.items view in
    let counted : c.len.result ≡ length c.args.block.now.items = grind (arith, common_steps) in
    let sized : c.len-2.result ≡ length c.in_ok-content.content.items = grind (arith, common_steps) in
    written_block (types.view c.args.kind.now) c.args.marker.now c.in_ok-content.content.items (map view c.args.block.now.items) c.in_ok-content.ensures.bytes c.in_ok-content.ensures.data (omega (arith, many, c.in_ok-content.ensures.within))
    (subst (λ (k : ℕ). (rest : List ℕ) → IsLong (pos k) (integer (pos k) ++ rest) rest) (counted ∙ sym many) c.in_ok-push_size.ensures.long)
    (subst (λ (k : ℕ). (rest : List ℕ) → IsLong (pos k) (integer (pos k) ++ rest) rest) sized c.in_ok-push_size-2.ensures.long)
